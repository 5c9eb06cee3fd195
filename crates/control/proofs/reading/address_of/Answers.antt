use Rattle.std.proofs.Common.{◌≡◌, ◌<◌, ◌++◌, ◌∷◌, ◌^◌, ℕ, List, get_or, arith}
use Rattle.std.specs.Fmt.{decimal}
use Rattle.control.specs.ScriptText.{AreBytesOfLength, address_text}
use Rattle.control.proofs.Words.{decimal_lacks, four_same}
use Rattle.control.proofs.reading.address_of.Goals as goal

pub returns : goal.returns
unfolding address_text
returns c = λ bytes fits is.
    let small : (place : ℕ) → place < 4 → get_or bytes place 0 < 256 = λ place lt. fits.each place lt in
    let s0 = small 0 (omega arith) in
    let s1 = small 1 (omega arith) in
    let s2 = small 2 (omega arith) in
    let s3 = small 3 (omega arith) in
    let first = c.cut.ensures.both (decimal (get_or bytes 0 0)) (decimal (get_or bytes 1 0) ++ 46 ∷ (decimal (get_or bytes 2 0) ++ 46 ∷ decimal (get_or bytes 3 0))) is (decimal_lacks 46 (get_or bytes 0 0) (omega arith) (omega (arith, s0))) in
    let second = c.cut-2.ensures.both (decimal (get_or bytes 1 0)) (decimal (get_or bytes 2 0) ++ 46 ∷ decimal (get_or bytes 3 0)) first.1 (decimal_lacks 46 (get_or bytes 1 0) (omega arith) (omega (arith, s1))) in
    let third = c.cut-3.ensures.both (decimal (get_or bytes 2 0)) (decimal (get_or bytes 3 0)) second.1 (decimal_lacks 46 (get_or bytes 2 0) (omega arith) (omega (arith, s2))) in
    four_same bytes c.part_of.result c.part_of-2.result c.part_of-3.result c.part_of-4.result fits.long
    (c.part_of.ensures (get_or bytes 0 0) s0 first.0) (c.part_of-2.ensures (get_or bytes 1 0) s1 second.0) (c.part_of-3.ensures (get_or bytes 2 0) s2 third.0) (c.part_of-4.ensures (get_or bytes 3 0) s3 third.1)
