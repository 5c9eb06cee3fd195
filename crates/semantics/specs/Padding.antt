-- Bytes at the front of an array, and zeros behind them.
use Rattle.std.specs.Prelude.{◌≡◌, ℕ, ◌-◌, ◌≤◌, List, ◌++◌, length, take, drop, replicate}
use Rattle.std.proofs.Common.{sym, ◌∙◌, ap}
use Rattle.std.proofs.lemmas.List.{length-take-le, take-append-drop}

-- the first `count` of an array of n bytes count, the rest are zeros
pub record IsPadded (n count : ℕ) (bytes : List ℕ) : Type 0 where
  pub whole : length bytes ≡ n
  pub fits : count ≤ n
  pub zeros : drop count bytes ≡ replicate (n - count) 0

abbrev pub byte_count : List ℕ → ℕ
byte_count xs = length xs

-- the bytes, and zeros up to n
abbrev pub padded : ℕ → List ℕ → List ℕ
padded n xs = xs ++ replicate (n - length xs) 0

pub padded-take : {A : Type 0} (n count : ℕ) (bytes : List ℕ) → IsPadded n count bytes → (make : List ℕ → ℕ → A) →
    make (padded n (take count bytes)) (byte_count (take count bytes)) ≡ make bytes count
padded-take n count bytes kept make =
    let fits : count ≤ length bytes = rw kept.whole kept.fits in
    let counted : length (take count bytes) ≡ count = length-take-le count bytes fits in
    let whole : take count bytes ++ replicate (n - length (take count bytes)) 0 ≡ bytes =
    ap (λ k. take count bytes ++ replicate (n - k) 0) counted ∙ ap (λ zs. take count bytes ++ zs) (sym kept.zeros) ∙
    take-append-drop count bytes in
    ap (λ xs. make xs (length (take count bytes))) whole ∙ ap (λ k. make bytes k) counted
