use Rattle.std.proofs.Common.{◌≡◌, ◌++◌, take, string_bytes}
use Rattle.xlb_commands.specs.Replays.{refusals_text}
use Rattle.xlb_commands.proofs.report.put_refusals.Given as goal

abbrev pub invariant-refused : goal.invariant-refused
invariant-refused l = string_bytes l.text ≡ string_bytes l.fn.text ++ refusals_text (take l.one-index l.refused)
