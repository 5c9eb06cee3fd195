-- The lists that a ring is made of: their preferences fit, and no number is in them twice.
use Rattle.std.proofs.Common.{◌≡◌, ◌≢◌, ℕ, ◌+◌, ◌-◌, ◌%◌, ◌<◌, List, Some, [], ◌∷◌, get_or, map, refl, sym, ap, ◌∙◌, subst, arith}
use Rattle.std.specs.Prelude.{All, AllPairs, Contains}
use Rattle.std.proofs.Math.Nat.{mod-lt}
use Rattle.std.proofs.lemmas.List.Elements.{All-map, All-weaker}
use Rattle.std.proofs.lemmas.Option.{slice_get-get_or}
use Rattle.wire.specs.Fnv.{fnv1a64_of}
use Rattle.maglev.specs.declared.backend.Backend.{Backend}
use Rattle.maglev.specs.declared.preference.Preference.{Preference}
use Rattle.maglev.specs.RingSize.{IsRingSize}
use Rattle.maglev.specs.Population.{IsPreference, IsPermutationOfSlots, IsBalanced, preference_numbers}
use Rattle.maglev.specs.Hashing.{hashed_preference, hashed_preferences}
use Rattle.maglev.specs.Given.{given_preference, given_preferences}
use Rattle.maglev.specs.Refusals.{HasRepeat}
use Rattle.maglev.proofs.Preferences.{IsPermutationOfSlots-from_prime}
use Rattle.maglev.proofs.Sizes.{size_bounds}

remainders_fit : (size number offset skip : ℕ) → 1 < size → IsPreference size (record { number = number; offset = offset % size; skip = skip % (size - 1) + 1 })
remainders_fit size number offset skip large =
    let low : skip % (size - 1) < size - 1 = mod-lt skip (omega arith) in
    record { offset_below = mod-lt offset (omega arith); skip_positive = omega arith; skip_below = omega (arith, low) }

-- what the hashes give is a preference list
pub hashed_fit : (size : ℕ) (backends : List Backend) → IsRingSize size → All (IsPreference size) (hashed_preferences size backends)
hashed_fit size backends served =
    let bounds = size_bounds size served in
    All-map (IsPreference size) (hashed_preference size) backends
    (λ k d below. remainders_fit size (get_or backends k d).number (fnv1a64_of (1 ∷ (get_or backends k d).address.0)) (fnv1a64_of (2 ∷ (get_or backends k d).address.0)) (omega (arith, bounds)))

pub numbers_of-hashed : (size : ℕ) (backends : List Backend) → preference_numbers (hashed_preferences size backends) ≡ map (λ backend. backend.number) backends
numbers_of-hashed size [] = refl
numbers_of-hashed size (backend ∷ backends) = ap (λ rest. backend.number ∷ rest) (numbers_of-hashed size backends)

pub numbers_of-given : (given : List (ℕ × ℕ × ℕ)) → preference_numbers (given_preferences given) ≡ map (λ (preference : ℕ × ℕ × ℕ). preference.0) given
numbers_of-given [] = refl
numbers_of-given (preference ∷ given) = ap (λ rest. preference.0 ∷ rest) (numbers_of-given given)

-- where no element is there again, all differ
pub AllPairs-from_no_repeat : (xs : List ℕ) → ¬ HasRepeat xs → AllPairs (λ number other. number ≢ other) xs
AllPairs-from_no_repeat xs none i j d before within same =
    none (record {
      first = i;
      later = j;
      before = before;
      within = within;
      same = slice_get-get_or xs i d (omega arith) ∙ ap Some same ∙ sym (slice_get-get_or xs j d within);
    })

pub all_permutations : (size : ℕ) (preferences : List Preference) → IsRingSize size → All (IsPreference size) preferences → All (IsPermutationOfSlots size) preferences
all_permutations size preferences served fits =
    All-weaker (IsPreference size) (IsPermutationOfSlots size) (λ preference fit. IsPermutationOfSlots-from_prime size preference served fit) preferences fits

-- what is said of the numbers of preferences, said of the numbers of the list that they are made of
pub owned_by : (numbers known owners : List ℕ) → numbers ≡ known → All (Contains numbers) owners → All (Contains known) owners
owned_by numbers known owners same owned = subst (λ ns. All (Contains ns) owners) same owned

pub balanced_by : (numbers known owners : List ℕ) → numbers ≡ known → ¬ HasRepeat known → (AllPairs (λ number other. number ≢ other) numbers → IsBalanced numbers owners)
    → IsBalanced known owners
balanced_by numbers known owners same none fair =
    subst (λ ns. (AllPairs (λ number other. number ≢ other) ns → IsBalanced ns owners)) same fair (AllPairs-from_no_repeat known none)

-- what is given is a preference list, where the caller's condition holds
pub given_fit : (size : ℕ) (given : List (ℕ × ℕ × ℕ)) → All (λ (preference : ℕ × ℕ × ℕ). preference.1 < size) given
    → All (λ (preference : ℕ × ℕ × ℕ). (0 < preference.2) × (preference.2 < size)) given → All (IsPreference size) (given_preferences given)
given_fit size given offsets skips =
    All-map (IsPreference size) given_preference given
    (λ k d below. record { offset_below = offsets k d below; skip_positive = (skips k d below).0; skip_below = (skips k d below).1 })
