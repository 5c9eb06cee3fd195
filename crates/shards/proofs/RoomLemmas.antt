-- A legal history is no longer than its journal's reserve.
use Rattle.std.proofs.Common.{ℕ, ◌+◌, ◌<◌, ◌≤◌, ◌^◌, true≢false, nat_lt, List, [], ◌∷◌, length, reverse, arith, sym, subst}
use Rattle.std.specs.Prelude.{◌==◌, IsTrue, IsFalse}
use Rattle.std.proofs.lemmas.List.{length-reverse, reverse-reverse}
use Rattle.std.proofs.lemmas.Bool.Decides.{nat_tests}
use Rattle.semantics.specs.declared.call.Caller.{Caller}
use Rattle.semantics.specs.declared.call.Caller.TheVariants.{Worker, Controller, Reclaimer}
use Rattle.semantics.specs.declared.call.Call.{Call}
use Rattle.semantics.specs.declared.call.Call.TheVariants.{Enter, Leave, Lookup, Load, Store, Atomic, Update, Delete, Reclaim}
use Rattle.semantics.specs.declared.call.Entry.{Entry}
use Rattle.semantics.specs.declared.plan.ShardPlan.{ShardPlan}
use Rattle.semantics.specs.Reclamation.{is_inside, inside_count}
use Rattle.semantics.specs.History.{shard_of_call, is_inside_worker, meets_part, journal_is_full, IsLegalHistory}
use Rattle.semantics.specs.PlanLimits.{IsPlan}
use Rattle.semantics.proofs.shared.ConditionLemmas.{first_true, second_true}
use Rattle.shard_core.specs.Laws.{LeaveHasRoom}

not_over : (reserve needed : ℕ) → IsFalse (nat_lt reserve needed) → needed ≤ reserve
not_over reserve needed room = grind (arith, nat_tests)

module _ (law : LeaveHasRoom) (plan : ShardPlan) (few : plan.workers ≤ 8) (older : List Entry) (legal : IsLegalHistory plan older) where
  leave_fits : (who : Caller) → IsTrue (is_inside_worker plan older who) → length older + 1 ≤ plan.reserve
  leave_fits Controller met = absurd (true≢false (sym met))
  leave_fits Reclaimer met = absurd (true≢false (sym met))
  leave_fits (Worker number) met =
      let known : IsTrue (nat_lt number plan.workers) = first_true (nat_lt number plan.workers) (is_inside number older) met in
      let below : number < 8 = grind (arith, nat_tests) in
      let inside : IsTrue (is_inside number older) = second_true (nat_lt number plan.workers) (is_inside number older) met in
      let again = reverse-reverse older in
      let room = law plan (reverse older) number few below (subst (IsLegalHistory plan) (sym again) legal) (subst (λ (h : List Entry). IsTrue (is_inside number h)) (sym again) inside) in
      let long = length-reverse older in
      omega (arith, room, long)

  other_fits : (more : ℕ) → IsFalse (nat_lt plan.reserve (length older + inside_count older + more + 1)) → length older + 1 ≤ plan.reserve
  other_fits more room = (let most = not_over plan.reserve (length older + inside_count older + more + 1) room in omega (arith, most))

  step_fits : (who : Caller) (call : Call) → IsTrue (meets_part plan older who call) → IsFalse (journal_is_full plan older call) → length older + 1 ≤ plan.reserve
  step_fits who (Enter shard) met room = other_fits 1 room
  step_fits who (Leave shard) met room = leave_fits who met
  step_fits who (Lookup shard key) met room = other_fits 0 room
  step_fits who (Load cell offset size) met room = other_fits 0 room
  step_fits who (Store cell offset size value) met room = other_fits 0 room
  step_fits who (Atomic cell offset size op value expected) met room = other_fits 0 room
  step_fits who (Update shard key value flags) met room = other_fits 0 room
  step_fits who (Delete shard key) met room = other_fits 0 room
  step_fits who (Reclaim shard) met room = other_fits 0 room

fits : LeaveHasRoom → (plan : ShardPlan) → plan.workers ≤ 8 → (history : List Entry) → IsLegalHistory plan history → length history ≤ plan.reserve
fits law plan few [] legal = omega arith
fits law plan few (entry ∷ older) legal =
    let most = step_fits law plan few older legal.1 entry.who entry.call (second_true (shard_of_call entry.call == plan.number) (meets_part plan older entry.who entry.call) legal.0.step.met) legal.0.room in
    omega (arith, most)

pub few_entries : LeaveHasRoom → (plan : ShardPlan) → IsPlan plan → (journal : List Entry) → IsLegalHistory plan (reverse journal) → length journal < 2 ^ 32
few_entries law plan is journal legal =
    let most = fits law plan is.at_most_eight (reverse journal) legal in
    let reserve = is.greatest_reserve in
    let long = length-reverse journal in
    omega (arith, most, reserve, long)
