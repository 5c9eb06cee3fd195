use Rattle.std.proofs.Common.{◌≡◌, ◌++◌, length, take, string_bytes}
use Rattle.traffic.specs.Tallies.{counted_lines}
use Rattle.traffic.proofs.not_sent.put_services.Given as goal

abbrev pub invariant-commands : goal.invariant-commands
invariant-commands l =
    (l.place ≡ l.command-index)
    × (length l.counts ≡ length l.script →
    string_bytes l.text ≡ string_bytes l.fn.text ++ counted_lines (take l.command-index l.script) (take l.command-index l.counts))
