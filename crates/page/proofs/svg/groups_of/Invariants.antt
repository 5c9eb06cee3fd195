use Rattle.std.proofs.Common.{◌≡◌, string_bytes}
use Rattle.page.specs.Svg.{groups_until}
use Rattle.page.proofs.svg.groups_of.Given as goal

abbrev pub invariant-classes : goal.invariant-classes
invariant-classes l = string_bytes l.text ≡ groups_until l.counts l.classes l.highest l.class
