-- Bytes at the front of an array grow, and zeros stay behind them.
use Rattle.std.proofs.Common.{◌≡◌, ℕ, ◌+◌, ◌-◌, ◌≤◌, List, ◌++◌, length, take, drop, replicate, arith, sym, ◌∙◌, ap}
use Rattle.std.proofs.lemmas.List.{length-append, length-take-le, length-drop, take_at, drop_at, drop-drop, drop-replicate}
use Rattle.wire.specs.FrameView.{overwritten_at}
use Rattle.semantics.specs.Padding.{IsPadded}

front_length : (n count : ℕ) (bytes items : List ℕ) → IsPadded n count bytes → count + length items ≤ n → length (take count bytes ++ items) ≡ count + length items
front_length n count bytes items kept room =
    length-append (take count bytes) items ∙ ap (λ k. k + length items) (length-take-le count bytes (rw kept.whole kept.fits))

pub take-overwritten : (n count : ℕ) (bytes items : List ℕ) → IsPadded n count bytes → count + length items ≤ n → take (count + length items) (overwritten_at count items bytes) ≡ take count bytes ++ items
take-overwritten n count bytes items kept room =
    take_at (take count bytes ++ items) (drop (count + length items) bytes) (count + length items) (front_length n count bytes items kept room)

sub_sub : (a b c : ℕ) → (a - b) - c ≡ a - (b + c)
sub_sub a b c = omega arith

zeros_behind : (n count : ℕ) (bytes items : List ℕ) → IsPadded n count bytes → count + length items ≤ n → drop (count + length items) (overwritten_at count items bytes) ≡ replicate (n - (count + length items)) 0
zeros_behind n count bytes items kept room =
    drop_at (take count bytes ++ items) (drop (count + length items) bytes) (count + length items) (front_length n count bytes items kept room)
    ∙ sym (drop-drop (length items) count bytes)
    ∙ ap (λ xs. drop (length items) xs) kept.zeros
    ∙ drop-replicate (length items) (n - count) 0
    ∙ ap (λ k. replicate k 0) (sub_sub n count (length items))

pub IsPadded-overwritten : (n count : ℕ) (bytes items : List ℕ) → IsPadded n count bytes → count + length items ≤ n → IsPadded n (count + length items) (overwritten_at count items bytes)
IsPadded-overwritten n count bytes items kept room = record {
  whole =
      let parts : length (overwritten_at count items bytes) ≡ (count + length items) + length (drop (count + length items) bytes) =
      length-append (take count bytes ++ items) (drop (count + length items) bytes) ∙ ap (λ k. k + length (drop (count + length items) bytes)) (front_length n count bytes items kept room) in
      omega (arith, parts, length-drop (count + length items) bytes, kept.whole);
  fits = room;
  zeros = zeros_behind n count bytes items kept room;
}
