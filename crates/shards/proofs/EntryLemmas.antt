-- Each entry of a legal history is of one caller that the plan knows.
use Rattle.std.proofs.Common.{◌≡◌, ◌≢◌, ◌<◌, ◌≤◌, ℕ, zero, suc, List, [], ◌∷◌, length, refl, sym, ap, ◌∙◌, subst, ⊎_elim, arith}
use Rattle.std.specs.Prelude.{IsTrue, ◌==◌, reverse}
use Rattle.std.proofs.lemmas.List.{length-reverse}
use Rattle.semantics.specs.declared.call.Caller.{Caller}
use Rattle.semantics.specs.declared.call.Caller.TheVariants.{Worker, Controller, Reclaimer}
use Rattle.semantics.specs.declared.call.Call.{Call}
use Rattle.semantics.specs.declared.call.Entry.{Entry}
use Rattle.semantics.specs.declared.plan.ShardPlan.{ShardPlan}
use Rattle.semantics.specs.CallerLaws.{own_entries}
use Rattle.semantics.specs.History.{IsLegalHistory, meets_part, shard_of_call}
use Rattle.semantics.proofs.shared.ConditionLemmas.{second_true}
use Rattle.semantics.proofs.shared.CallNumbers.{part_below}
use Rattle.shards.specs.LockRule.{caller_at, caller_place}
use Rattle.shards.specs.EntryCounts.{own_total, AllEntriesAreSomebodys}
use Rattle.shards.proofs.Callers.{place_at, own_of_maker, own_of_other}
use Rattle.shards.proofs.Settling.{same_or_other}

-- ---- callers that the plan knows

place_within : (plan : ShardPlan) (history : List Entry) (who : Caller) (call : Call) → IsTrue (meets_part plan history who call) → caller_place who < suc (suc plan.workers)
place_within plan history Controller call met = omega arith
place_within plan history Reclaimer call met = omega arith
place_within plan history (Worker number) call met = (let below = part_below plan history number call met in omega (arith, below))

-- ---- own entries, counted

at_place : (who : Caller) → caller_at (caller_place who) ≡ who
at_place Controller = refl
at_place Reclaimer = refl
at_place (Worker number) = refl

total_none : (callers : ℕ) → own_total callers [] ≡ 0
total_none zero = refl
total_none (suc callers) = (let rest = total_none callers in omega (arith, rest))

-- an entry of none of them
total_same : (callers : ℕ) (entry : Entry) (log : List Entry) → callers ≤ caller_place entry.who → own_total callers (entry ∷ log) ≡ own_total callers log
total_same zero entry log past = refl
total_same (suc callers) entry log past =
    let at = place_at callers in
    let apart : caller_place entry.who ≢ caller_place (caller_at callers) = (λ same. omega (arith, same, at, past)) in
    let one = ap (λ (own : List Entry). length own) (own_of_other (caller_at callers) entry log apart) in
    let rest = total_same callers entry log (omega (arith, past)) in
    omega (arith, one, rest)

-- an entry of one of them
total_more : (callers : ℕ) (entry : Entry) (log : List Entry) → caller_place entry.who < callers → own_total callers (entry ∷ log) ≡ suc (own_total callers log)
total_more zero entry log within = absurd (omega (arith, within))
total_more (suc callers) entry log within = ⊎_elim mine (other (total_more callers entry log)) (same_or_other (caller_place entry.who) callers)
  where
    mine : caller_place entry.who ≡ callers → own_total (suc callers) (entry ∷ log) ≡ suc (own_total (suc callers) log)
    mine same =
        let is : entry.who ≡ caller_at callers = sym (at_place entry.who) ∙ ap caller_at same in
        let one : length (own_entries (caller_at callers) (entry ∷ log)) ≡ suc (length (own_entries (caller_at callers) log)) =
        subst (λ (who : Caller). length (own_entries who (entry ∷ log)) ≡ suc (length (own_entries who log))) is (ap (λ (own : List Entry). length own) (own_of_maker entry log)) in
        let rest = total_same callers entry log (omega (arith, same)) in
        omega (arith, one, rest)

    other : (caller_place entry.who < callers → own_total callers (entry ∷ log) ≡ suc (own_total callers log)) → caller_place entry.who ≢ callers → own_total (suc callers) (entry ∷ log) ≡ suc (own_total (suc callers) log)
    other earlier apart =
        let at = place_at callers in
        let others : caller_place entry.who ≢ caller_place (caller_at callers) = (λ same. apart (same ∙ at)) in
        let one = ap (λ (own : List Entry). length own) (own_of_other (caller_at callers) entry log others) in
        let rest = earlier (omega (arith, within, apart)) in
        omega (arith, one, rest)

counted : (plan : ShardPlan) (history : List Entry) → IsLegalHistory plan history → own_total (suc (suc plan.workers)) history ≡ length history
counted plan [] legal = total_none (suc (suc plan.workers))
counted plan (entry ∷ older) legal =
    let met = second_true (shard_of_call entry.call == plan.number) (meets_part plan older entry.who entry.call) legal.0.step.met in
    total_more (suc (suc plan.workers)) entry older (place_within plan older entry.who entry.call met) ∙ ap suc (counted plan older legal.1)

pub all_somebodys : AllEntriesAreSomebodys
all_somebodys plan journal legal = counted plan (reverse journal) legal ∙ length-reverse journal
