use Rattle.std.proofs.Common.{◌≡◌, take}
use Rattle.std.specs.Prelude.{fold}
use Rattle.page.specs.Reading.{with_digit}
use Rattle.page.proofs.reading.number_of.Given as goal

abbrev pub invariant-bytes : goal.invariant-bytes
invariant-bytes l = l.value ≡ fold with_digit 0 (take l.byte-index l.text)
