use Rattle.std.proofs.Common.{◌≡◌, ◌<◌, ◌∙◌, ℕ, List, get_or, ap, arith}
use Rattle.control.specs.ScriptText.{AreBytesOfLength, hex_pair, mac_text}
use Rattle.control.proofs.Words.{six_same}
use Rattle.control.proofs.reading.mac_of.Goals as goal

pub returns : goal.returns
unfolding mac_text hex_pair
returns c = λ bytes fits is.
    let letters : c.as_bytes-letters.result.now ≡ mac_text bytes = c.as_bytes-letters.ensures.value ∙ is in
    let letter = λ (place : ℕ). ap (λ (text : List ℕ). get_or text place 0) letters in
    six_same bytes c.pair_at.result c.pair_at-2.result c.pair_at-3.result c.pair_at-4.result c.pair_at-5.result c.pair_at-6.result fits.long
    (c.pair_at.ensures (get_or bytes 0 0) (fits.each 0 (omega arith)) (letter 0) (letter 1))
    (c.pair_at-2.ensures (get_or bytes 1 0) (fits.each 1 (omega arith)) (letter 3) (letter 4))
    (c.pair_at-3.ensures (get_or bytes 2 0) (fits.each 2 (omega arith)) (letter 6) (letter 7))
    (c.pair_at-4.ensures (get_or bytes 3 0) (fits.each 3 (omega arith)) (letter 9) (letter 10))
    (c.pair_at-5.ensures (get_or bytes 4 0) (fits.each 4 (omega arith)) (letter 12) (letter 13))
    (c.pair_at-6.ensures (get_or bytes 5 0) (fits.each 5 (omega arith)) (letter 15) (letter 16))
