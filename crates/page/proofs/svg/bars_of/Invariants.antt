use Rattle.std.proofs.Common.{◌≡◌, string_bytes}
use Rattle.page.specs.Svg.{bars_until}
use Rattle.page.proofs.svg.bars_of.Given as goal

abbrev pub invariant-slots : goal.invariant-slots
invariant-slots l = string_bytes l.text ≡ bars_until l.counts l.classes l.highest l.class l.slot
