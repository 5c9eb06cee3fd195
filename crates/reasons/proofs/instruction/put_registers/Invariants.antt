use Rattle.std.proofs.Common.{◌≡◌, ◌++◌, take, string_bytes}
use Rattle.std.specs.List.{flat_map}
use Rattle.reasons.specs.Instructions.{used_line}
use Rattle.reasons.proofs.instruction.put_registers.Given as goal

abbrev pub invariant-loop-one : goal.invariant-loop-one
invariant-loop-one l = string_bytes l.out ≡ string_bytes l.fn.out ++ flat_map (used_line l.state) (take l.one-index l.used)
