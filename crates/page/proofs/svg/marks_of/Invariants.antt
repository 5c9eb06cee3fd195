use Rattle.std.proofs.Common.{◌≡◌, string_bytes}
use Rattle.page.specs.Svg.{marks_until}
use Rattle.page.proofs.svg.marks_of.Given as goal

abbrev pub invariant-commands : goal.invariant-commands
invariant-commands l = string_bytes l.text ≡ marks_until l.slots l.place
