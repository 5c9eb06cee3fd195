-- The population of a list of backends is one table: nothing else than the list decides it.
use Rattle.std.proofs.Common.{◌≡◌, ℕ, zero, suc, ◌+◌, ◌<◌, ◌≤◌, List, [], ◌∷◌, ◌++◌, length, get_or, take, ⊎_elim, refl, sym, ap, ◌∙◌, subst, arith}
use Rattle.std.specs.Prelude.{Contains, slice_get}
use Rattle.std.proofs.lemmas.Bool.{cases_order}
use Rattle.std.proofs.lemmas.List.{get_or_default, take_more, same_lists}
use Rattle.std.proofs.lemmas.Option.{get_or_from_slice_get}
use Rattle.maglev.specs.declared.preference.Preference.{Preference}
use Rattle.maglev.specs.Population.{preferred_slot, IsFirstFree, backend_of_turn, IsPopulation}

-- one slot alone is the first that is free
same_first : (size : ℕ) (preference : Preference) (taken : List ℕ) (s t : ℕ) → IsFirstFree size preference taken s → IsFirstFree size preference taken t → s ≡ t
same_first size preference taken s t p q =
    ⊎_elim
    (λ same. p.preferred ∙ ap (preferred_slot size preference) same ∙ sym q.preferred)
    (λ apart.
    ⊎_elim
    (λ sooner. absurd (p.free (subst (Contains taken) (sym p.preferred) (q.earlier_taken p.choice sooner))))
    (λ later. absurd (q.free (subst (Contains taken) (sym q.preferred) (p.earlier_taken q.choice later))))
    apart)
    (cases_order p.choice q.choice)

module _ (size : ℕ) (backends : List Preference) (owners others : List ℕ) (p : IsPopulation size backends owners) (q : IsPopulation size backends others) where
  -- two populations take the same slots, turn by turn
  same_taken : (turns : ℕ) → turns ≤ size → take turns p.taken ≡ take turns q.taken
  same_taken zero within = refl
  same_taken (suc turns) within =
      let before : turns < size = omega arith in
      let p_long : length p.taken ≡ size = p.turns in
      let q_long : length q.taken ≡ size = q.turns in
      let same = same_taken turns (omega arith) in
      let first = subst (λ z. IsFirstFree size (backend_of_turn backends turns) z (get_or p.taken turns 0)) same (p.first_free turns before) in
      let same_slot : get_or p.taken turns 0 ≡ get_or q.taken turns 0 =
      same_first size (backend_of_turn backends turns) (take turns q.taken) (get_or p.taken turns 0) (get_or q.taken turns 0) first (q.first_free turns before) in
      let more : take (turns + 1) p.taken ≡ take (turns + 1) q.taken =
      take_more p.taken turns 0 (omega (arith, p_long)) ∙ ap (λ z. z ++ get_or p.taken turns 0 ∷ []) same
      ∙ ap (λ z. take turns q.taken ++ z ∷ []) same_slot ∙ sym (take_more q.taken turns 0 (omega (arith, q_long))) in
      let next : suc turns ≡ turns + 1 = omega arith in
      ap (λ n. take n p.taken) next ∙ more ∙ ap (λ n. take n q.taken) (sym next)

  same_turn : (turn : ℕ) → turn < size → get_or p.taken turn 0 ≡ get_or q.taken turn 0
  same_turn turn before =
      let first = subst (λ z. IsFirstFree size (backend_of_turn backends turn) z (get_or p.taken turn 0)) (same_taken turn (omega arith)) (p.first_free turn before) in
      same_first size (backend_of_turn backends turn) (take turn q.taken) (get_or p.taken turn 0) (get_or q.taken turn 0) first (q.first_free turn before)

  pub same_owners : ((slot : ℕ) → slot < size → Contains p.taken slot) → others ≡ owners
  same_owners each_taken =
      let p_long : length owners ≡ size = p.slots in
      let q_long : length others ≡ size = q.slots in
      let taken_long : length p.taken ≡ size = p.turns in
      same_lists others owners (q_long ∙ sym p_long)
      (λ slot d below.
      let found = each_taken slot (omega (arith, q_long)) in
      let turn_below : found.0 < size = omega (arith, taken_long, found.1) in
      let at_p : get_or p.taken found.0 0 ≡ slot = get_or_default p.taken found.0 0 slot found.1 ∙ found.2 in
      let at_q : get_or q.taken found.0 0 ≡ slot = sym (same_turn found.0 turn_below) ∙ at_p in
      let p_owner : get_or owners slot d ≡ (backend_of_turn backends found.0).number =
      get_or_from_slice_get owners slot (backend_of_turn backends found.0).number d (ap (slice_get owners) (sym at_p) ∙ p.owned found.0 turn_below) in
      let q_owner : get_or others slot d ≡ (backend_of_turn backends found.0).number =
      get_or_from_slice_get others slot (backend_of_turn backends found.0).number d (ap (slice_get others) (sym at_q) ∙ q.owned found.0 turn_below) in
      q_owner ∙ sym p_owner)
