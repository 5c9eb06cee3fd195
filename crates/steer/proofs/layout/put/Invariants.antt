use Rattle.std.proofs.Common.{◌≡◌, ◌≤◌, ◌-◌, ◌++◌, length, drop, ◌+◌, ◌*◌}
use Rattle.steer.specs.Layout.{laid_out}
use Rattle.steer.specs.ShippedProgram.{block_start}
use Rattle.steer.proofs.layout.put.Given as goal

-- the code so far and the lines to come are all lines of the block, and each takes at most two slots
abbrev pub invariant-lines : goal.invariant-lines
invariant-lines l =
    (l.code.items ++ laid_out block_start l.slot (drop l.line-index l.lines) ≡ l.fn.code.items ++ laid_out block_start (block_start l.fn.block) l.lines)
    × (l.slot + 2 * (length l.lines - l.line-index) ≤ 345)
