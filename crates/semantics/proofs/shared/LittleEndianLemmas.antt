-- A number grows by a byte below it.
use Rattle.std.proofs.Common.{◌≡◌, ℕ, suc, ◌+◌, ◌*◌, ◌^◌, ◌<◌, ◌≤◌, List, [], ◌∷◌, length, drop, get_or, arith, lit<, ◌∙◌, ap}
use Rattle.std.proofs.Math.Nat.{pow-suc, pow-le-pow_right}
use Rattle.std.proofs.lemmas.List.{drop_more}
use Rattle.semantics.specs.LittleEndian.{number_of_bytes}

pub below-more : (number byte k : ℕ) → number < 256 ^ k → byte < 256 → number * 256 + byte < 256 ^ suc k
below-more number byte k small byte_range = rw (pow-suc 256 k) (omega arith)

-- a number of at most seven bytes has room for one more in 64 bits
pub fits-more : (number byte k : ℕ) → number < 256 ^ k → byte < 256 → k < 8 → number * 256 + byte < 2 ^ 64
fits-more number byte k small byte_range few =
    let below : number * 256 + byte < 256 ^ suc k = below-more number byte k small byte_range in
    let at_most : 256 ^ suc k ≤ 256 ^ 8 = pow-le-pow_right {n = 256} (lit< tt) {i = suc k} {j = 8} (omega arith) in
    omega arith

pub number_of_bytes-cons : (byte : ℕ) (higher : List ℕ) → number_of_bytes (byte ∷ higher) ≡ number_of_bytes higher * 256 + byte
number_of_bytes-cons byte [] = omega arith
number_of_bytes-cons byte (next ∷ higher) = omega arith

pub number_of_bytes-drop : (bytes : List ℕ) (from : ℕ) → from < length bytes → number_of_bytes (drop from bytes) ≡ number_of_bytes (drop (from + 1) bytes) * 256 + get_or bytes from 0
number_of_bytes-drop bytes from within =
    ap number_of_bytes (drop_more bytes from 0 within) ∙ number_of_bytes-cons (get_or bytes from 0) (drop (from + 1) bytes)

-- one turn of a loop from the highest byte down
pub number_of_bytes-step : (bytes : List ℕ) (from below number byte : ℕ) → below + 1 ≡ from → from ≤ length bytes → number ≡ number_of_bytes (drop from bytes) → byte ≡ get_or bytes below 0 → number * 256 + byte ≡ number_of_bytes (drop below bytes)
number_of_bytes-step bytes from below number byte next within so_far read =
    let peeled : number_of_bytes (drop below bytes) ≡ number_of_bytes (drop (below + 1) bytes) * 256 + get_or bytes below 0 = number_of_bytes-drop bytes below (omega arith) in
    cc
