-- What a write inside a buffer leaves of the part that begins at the frame's start.
use Rattle.std.proofs.Common.{◌≡◌, ℕ, ◌+◌, ◌-◌, ◌≤◌, List, ◌++◌, length, take, drop, arith, refl, add_assoc, append_assoc, ◌∙◌, ap, sym}
use Rattle.std.proofs.lemmas.List.{drop-append-le, drop-take, drop-drop, with_items_is}
use Rattle.std.proofs.lemmas.Grind.{common_steps}
use Rattle.std.specs.declared.vec.Vec.{Vec}
use Rattle.std.specs.Vec.{with_items}
use Rattle.wire.specs.FrameView.{overwritten_at}
use borrow.Rule.Slice.PartMut.{put_mid}

-- writing at an index of the frame writes that far past its start in the buffer
pub drop-put_mid_inside : (start at : ℕ) (items buffer : List ℕ) → start + at + length items ≤ length buffer → drop start (put_mid (start + at) (start + at + length items - (start + at)) buffer items) ≡ overwritten_at at items (drop start buffer)
drop-put_mid_inside start at items buffer fits =
    let within : start ≤ length (take (start + at) buffer) = grind (arith, common_steps) in
    let gap : start + at + length items - (start + at) ≡ length items = omega arith in
    let past : drop (length items) (drop (start + at) buffer) ≡ drop (at + length items) (drop start buffer) =
    rw (drop-drop (length items) (start + at) buffer, drop-drop (at + length items) start buffer, add_assoc start at (length items)) refl in
    rw (gap, drop-append-le start (take (start + at) buffer) (items ++ drop (length items) (drop (start + at) buffer)) within, drop-take start at buffer, past, append_assoc (take at (drop start buffer)) items (drop (at + length items) (drop start buffer))) refl

-- such a write keeps the buffer's length
length-put_mid_inside : (from : ℕ) (items buffer : List ℕ) → from + length items ≤ length buffer → length (put_mid from (from + length items - from) buffer items) ≡ length buffer
length-put_mid_inside from items buffer fits = grind (arith, common_steps)

-- the same on the buffer that the code writes to
pub drop-written_buffer : {Z : Type 0} (buffer : Vec ℕ Z) (start at : ℕ) (items : List ℕ) → start + at + length items ≤ length buffer.items → drop start (with_items buffer (put_mid (start + at) (start + at + length items - (start + at)) buffer.items items)).items ≡ overwritten_at at items (drop start buffer.items)
drop-written_buffer buffer start at items fits =
    ap (drop start) (with_items_is buffer _ (length-put_mid_inside (start + at) items buffer.items fits ∙ sym buffer.ok.0))
    ∙ drop-put_mid_inside start at items buffer.items fits

-- what is appended to the first bytes of a buffer comes behind them
pub behind_front : (start : ℕ) (items buffer : List ℕ) → start ≤ length buffer → drop start (take start buffer ++ items) ≡ items
behind_front start items buffer fits = grind (arith, common_steps)
