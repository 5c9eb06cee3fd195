-- The key of an entry number, and the number of a key.
use Rattle.std.proofs.Common.{◌≡◌, ℕ, zero, suc, ◌+◌, ◌<◌, Bool, true, false, List, [], ◌∷◌, get_or, Some, None, refl, sym, ap, ◌∙◌, inl, inr, arith, ne_eqb, eq-eqb}
use Rattle.std.proofs.lemmas.Bool.{cases_Bool, false≢true}
use Rattle.plain_maps.specs.Keyed.{key_of, key_with, entries_of, numbers_there, AreInverse}
use Rattle.plain_maps.specs.Buckets.{There}
use Rattle.std.specs.Map.{lookup}
use Rattle.std.specs.Prelude.{bytes_eq}
use Rattle.plain_maps.proofs.Found.{there_lookup, lookup_there}

-- no number below the first one is there
key_before : (size : ℕ) (keys : List ℕ) (from : ℕ) (flags : List Bool) (n : ℕ) → n < from → key_with n (entries_of size keys (numbers_there from flags)) ≡ None
key_before size keys from [] n lt = refl
key_before size keys from (true ∷ flags) n lt = rw (ne_eqb n from (omega arith)) (key_before size keys (suc from) flags n (omega arith))
key_before size keys from (false ∷ flags) n lt = key_before size keys (suc from) flags n (omega arith)

key_there : (size : ℕ) (keys : List ℕ) (from : ℕ) (flags : List Bool) (k n : ℕ) → n ≡ from + k → There flags k → key_with n (entries_of size keys (numbers_there from flags)) ≡ Some (key_of size keys n)
key_there size keys from [] k n is there = absurd (false≢true there)
key_there size keys from (true ∷ flags) zero n is there = let same : n ≡ from = omega arith in rw (eq-eqb n from same, same) refl
key_there size keys from (false ∷ flags) zero n is there = absurd (false≢true there)
key_there size keys from (true ∷ flags) (suc k) n is there = rw (ne_eqb n from (omega arith)) (key_there size keys (suc from) flags k n (omega arith) there)
key_there size keys from (false ∷ flags) (suc k) n is there = key_there size keys (suc from) flags k n (omega arith) there

key_unset : (size : ℕ) (keys : List ℕ) (from : ℕ) (flags : List Bool) (k n : ℕ) → n ≡ from + k → get_or flags k false ≡ false → key_with n (entries_of size keys (numbers_there from flags)) ≡ None
key_unset size keys from [] k n is unset = refl
key_unset size keys from (true ∷ flags) zero n is unset = absurd (false≢true (sym unset))
key_unset size keys from (false ∷ flags) zero n is unset = key_before size keys (suc from) flags n (omega arith)
key_unset size keys from (true ∷ flags) (suc k) n is unset = rw (ne_eqb n from (omega arith)) (key_unset size keys (suc from) flags k n (omega arith) unset)
key_unset size keys from (false ∷ flags) (suc k) n is unset = key_unset size keys (suc from) flags k n (omega arith) unset

module _ (size : ℕ) (keys : List ℕ) (flags : List Bool) (apart : (n m : ℕ) → There flags n → There flags m → key_of size keys n ≡ key_of size keys m → n ≡ m) where
  number_then_key : (q : List ℕ) (n : ℕ) → lookup (bytes_eq q) (entries_of size keys (numbers_there 0 flags)) ≡ Some n → key_with n (entries_of size keys (numbers_there 0 flags)) ≡ Some q
  number_then_key q n found =
      let member = there_lookup size keys flags q n found in
      key_there size keys 0 flags n n (omega arith) member.0 ∙ ap Some member.1

  key_then_number : (q : List ℕ) (n : ℕ) → key_with n (entries_of size keys (numbers_there 0 flags)) ≡ Some q → lookup (bytes_eq q) (entries_of size keys (numbers_there 0 flags)) ≡ Some n
  key_then_number q n has = elim (cases_Bool (get_or flags n false)) [
    | inl there ↦ (let same : Some (key_of size keys n) ≡ Some q = sym (key_there size keys 0 flags n n (omega arith) there) ∙ has in
        let is : key_of size keys n ≡ q = cc same in
        lookup_there size keys flags q apart n there is)
    | inr unset ↦ (let clash : None ≡ Some q = sym (key_unset size keys 0 flags n n (omega arith) unset) ∙ has in absurd (cc clash))
  ]

  pub inverse : AreInverse (λ q. lookup (bytes_eq q) (entries_of size keys (numbers_there 0 flags))) (λ n. key_with n (entries_of size keys (numbers_there 0 flags)))
  inverse = λ q n. (number_then_key q n, key_then_number q n)
