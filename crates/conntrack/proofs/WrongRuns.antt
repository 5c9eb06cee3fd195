-- Runs that count wrongly are no results of the rule.
use Rattle.std.proofs.Common.{◌≡◌, inl, inr, ℕ, ◌++◌, List, [], ◌∷◌, refl, sym, ap, subst, ◌∙◌}
use Rattle.std.specs.Prelude.{◌⊎◌, Option, Some, None}
use Rattle.semantics.specs.declared.call.Call.{Call}
use Rattle.semantics.specs.declared.call.Call.TheVariants.{Store}
use Rattle.semantics.specs.declared.verdict.Verdict.{Verdict}
use Rattle.map_port.specs.Exchanges.{Exchange}
use Rattle.conntrack.specs.Steering.{SteeringSizes}
use Rattle.conntrack.specs.Results.{change_of, changes_in, note_call, IsRaised, IsNotFound}
use Rattle.conntrack.specs.SteeringLaws.{UncountedRunsAreNoResults, StoringRunsAreNoResults}

pub uncounted_runs : UncountedRunsAreNoResults
uncounted_runs sizes frame exchanges verdict left none result = by result.counted
  where
    by : (IsRaised sizes verdict result.last ⊎ IsNotFound sizes verdict result.last) → ⊥
    by (inl raised) = none (record {
      front = result.before;
      reply = _;
      back = _;
      place = result.all ∙ ap (λ (last : List Exchange). result.before ++ last) raised.calls;
    })
    by (inr absent) = none (record {
      front = result.before;
      reply = _;
      back = _;
      place = result.all ∙ ap (λ (last : List Exchange). result.before ++ last) absent.calls;
    })

-- ---- stores

abbrev IsNoStore : Call → Type 0
IsNoStore (Store cell offset size value) = ⊥
IsNoStore call = Unit {0}

abbrev NoneStores : List Call → Type 0
NoneStores [] = Unit {0}
NoneStores (call ∷ later) = IsNoStore call × NoneStores later

both_store_not : (front back : List Call) → NoneStores front → NoneStores back → NoneStores (front ++ back)
both_store_not [] back none_front none_back = none_back
both_store_not (call ∷ front) back none_front none_back = (none_front.0, both_store_not front back none_front.1 none_back)

later_stores_not : (front back : List Call) → NoneStores (front ++ back) → NoneStores back
later_stores_not [] back none = none
later_stores_not (call ∷ front) back none = later_stores_not front back none.1

changes_of_both : (front back : List Exchange) → changes_in (front ++ back) ≡ changes_in front ++ changes_in back
changes_of_both [] back = refl
changes_of_both (exchange ∷ front) back =
    ap (λ (later : List Call). change_of exchange.call ++ later) (changes_of_both front back)
    ∙ regrouped (change_of exchange.call) (changes_in front) (changes_in back)
  where
    regrouped : (a b c : List Call) → a ++ (b ++ c) ≡ (a ++ b) ++ c
    regrouped [] b c = refl
    regrouped (call ∷ a) b c = ap (λ (later : List Call). call ∷ later) (regrouped a b c)

note_stores_not : (sizes : SteeringSizes) (note : Option (List ℕ × List ℕ)) → NoneStores (note_call sizes note)
note_stores_not sizes None = tt
note_stores_not sizes (Some note) = (tt, tt)

count_stores_not : (sizes : SteeringSizes) (verdict : Verdict) (last : List Exchange) → (IsRaised sizes verdict last ⊎ IsNotFound sizes verdict last) → NoneStores (changes_in last)
count_stores_not sizes verdict last (inl raised) = subst (λ (exchanges : List Exchange). NoneStores (changes_in exchanges)) (sym raised.calls) (tt, tt)
count_stores_not sizes verdict last (inr absent) = subst (λ (exchanges : List Exchange). NoneStores (changes_in exchanges)) (sym absent.calls) tt

pub storing_runs : StoringRunsAreNoResults
storing_runs sizes frame exchanges verdict left cell offset size value asked result =
    let stored : Exchange = record { call = Store cell offset size value; reply = asked.reply } in
    let none : NoneStores (changes_in exchanges) =
    subst NoneStores (sym (ap changes_in result.all ∙ changes_of_both result.before result.last))
    (both_store_not (changes_in result.before) (changes_in result.last)
    (subst NoneStores (sym result.noted) (note_stores_not sizes _)) (count_stores_not sizes verdict result.last result.counted)) in
    let there : NoneStores (changes_in asked.front ++ changes_in (stored ∷ asked.back)) =
    subst NoneStores (ap changes_in asked.place ∙ changes_of_both asked.front (stored ∷ asked.back)) none in
    (later_stores_not (changes_in asked.front) (changes_in (stored ∷ asked.back)) there).0
