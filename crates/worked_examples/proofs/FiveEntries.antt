-- Two workers made five entries together, and nobody else made any: so the journal has five.
use Rattle.std.proofs.Common.{◌≡◌, ◌<◌, ◌+◌, ℕ, suc, List, [], ◌∷◌, length, sym, ap, ◌∙◌, subst, arith}
use Rattle.std.specs.Prelude.{reverse}
use Rattle.semantics.specs.declared.call.Caller.{Caller}
use Rattle.semantics.specs.declared.call.Caller.TheVariants.{Worker, Controller, Reclaimer}
use Rattle.semantics.specs.declared.call.Entry.{Entry}
use Rattle.semantics.specs.declared.plan.ShardPlan.{ShardPlan}
use Rattle.semantics.specs.CallerLaws.{own_entries}
use Rattle.semantics.specs.History.{IsLegalJournal}
use Rattle.journals.specs.JournalsView.{JournalsView, entries_at}
use Rattle.shards.specs.Passes.{PassView, pass_at, own_at, AreSettled}
use Rattle.shards.specs.EntryCounts.{own_total, AllEntriesAreSomebodys}
use Rattle.worked_examples.specs.TwoWorkers.{AreTheFour}

own_count : (count : ℕ) (journals : JournalsView) (pass : PassView) (who : Caller) → 0 < count → AreSettled count journals pass → pass.who ≡ who →
    length (own_entries who (reverse (entries_at journals 0))) ≡ length (own_at pass 0)
own_count count journals pass who some settled is =
    sym (ap (λ (own : List Entry). length own) (settled 0 some).own ∙ ap (λ (w : Caller). length (own_entries w (reverse (entries_at journals 0)))) is)

pub five_entries : (plan : ShardPlan) (count : ℕ) (journals : JournalsView) (passes : List PassView) → plan.workers ≡ 2 → 0 < count →
    AllEntriesAreSomebodys → IsLegalJournal plan (entries_at journals 0) → AreTheFour passes →
    ((place : ℕ) → place < length passes → AreSettled count journals (pass_at passes place)) → length (entries_at journals 0) ≡ 5
five_entries plan count journals passes two some law legal are settled =
    let each : (place : ℕ) → place < 4 → AreSettled count journals (pass_at (are.controller ∷ are.reclaimer ∷ are.first ∷ are.second ∷ []) place) =
    subst (λ (ps : List PassView). (place : ℕ) → place < length ps → AreSettled count journals (pass_at ps place)) are.all settled in
    let history = reverse (entries_at journals 0) in
    let all : 0 + length (own_entries Controller history) + length (own_entries Reclaimer history) + length (own_entries (Worker 0) history) + length (own_entries (Worker 1) history) ≡ length (entries_at journals 0) =
    subst (λ (workers : ℕ). own_total (suc (suc workers)) history ≡ length (entries_at journals 0)) two (law plan (entries_at journals 0) legal) in
    let controller = own_count count journals are.controller Controller some (each 0 (omega arith)) are.who.0 ∙ ap (λ (own : List Entry). length own) are.none.0 in
    let reclaimer = own_count count journals are.reclaimer Reclaimer some (each 1 (omega arith)) are.who.1 ∙ ap (λ (own : List Entry). length own) are.none.1 in
    let first = own_count count journals are.first (Worker 0) some (each 2 (omega arith)) are.who.2 ∙ are.four in
    let second = own_count count journals are.second (Worker 1) some (each 3 (omega arith)) are.who.3 ∙ are.one in
    omega (arith, all, controller, reclaimer, first, second)
