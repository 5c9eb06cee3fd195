-- The parts of a test of several, and the test of bytes.
use Rattle.std.proofs.Common.{◌≡◌, ℕ, ◌<◌, Bool, true, false, ◌&&◌, nat_lt, List, [], ◌∷◌, All, IsTrue, refl, arith}
use Rattle.std.proofs.lemmas.List.Elements.{All-nil, All-cons, All-head, All-tail}
use Rattle.std.proofs.lemmas.Bool.Decides.{nat_tests}
use Rattle.semantics.specs.History.{are_bytes}
use Rattle.std.proofs.lemmas.Bool.{and_parts}

pub first_true : (a b : Bool) → IsTrue (a && b) → IsTrue a
first_true a b held = (and_parts a b held).0

pub second_true : (a b : Bool) → IsTrue (a && b) → IsTrue b
second_true a b held = (and_parts a b held).1

both_hold : (a b : Bool) → a ≡ true → b ≡ true → (a && b) ≡ true
both_hold true b held also = also
both_hold false b held also = absurd cc

below_test : (byte : ℕ) → byte < 256 → nat_lt byte 256 ≡ true
below_test byte below = grind (arith, nat_tests)

tested_below : (byte : ℕ) → nat_lt byte 256 ≡ true → byte < 256
tested_below byte test = grind (arith, nat_tests)

-- bytes pass the test, and what passes it is bytes
pub bytes_test : (bytes : List ℕ) → All (λ byte. byte < 256) bytes → are_bytes bytes ≡ true
bytes_test [] all = refl
bytes_test (byte ∷ bytes) all =
    both_hold (nat_lt byte 256) (are_bytes bytes) (below_test byte (All-head (λ one. one < 256) byte bytes all)) (bytes_test bytes (All-tail (λ one. one < 256) byte bytes all))

pub tested_bytes : (bytes : List ℕ) → are_bytes bytes ≡ true → All (λ byte. byte < 256) bytes
tested_bytes [] test = All-nil (λ byte. byte < 256)
tested_bytes (byte ∷ bytes) test =
    All-cons (λ one. one < 256) byte bytes (tested_below byte (first_true (nat_lt byte 256) (are_bytes bytes) test)) (tested_bytes bytes (second_true (nat_lt byte 256) (are_bytes bytes) test))
