-- Entries of a legal journal, at their own places.
use Rattle.std.proofs.Common.{◌≡◌, List, [], ◌∷◌, ◌++◌, reverse, subst, ◌∙◌, ap}
use Rattle.std.proofs.lemmas.List.{reverse-append, append_assoc}
use Rattle.semantics.specs.declared.call.Entry.{Entry}
use Rattle.semantics.specs.declared.plan.ShardPlan.{ShardPlan}
use Rattle.semantics.specs.History.{IsLegalHistory, IsLegalJournal, IsLegalStep, IsSequentialStep}

-- a history without its newest entries
older_is_legal : (plan : ShardPlan) (newer older : List Entry) → IsLegalHistory plan (newer ++ older) → IsLegalHistory plan older
older_is_legal plan [] older legal = legal
older_is_legal plan (entry ∷ newer) older legal = older_is_legal plan newer older legal.1

pub entry_is_legal : (plan : ShardPlan) (earlier later : List Entry) (entry : Entry) → IsLegalJournal plan (earlier ++ entry ∷ later) →
    IsLegalStep plan (reverse earlier) entry
entry_is_legal plan earlier later entry legal =
    let split : reverse (earlier ++ entry ∷ later) ≡ reverse later ++ (entry ∷ reverse earlier) =
    reverse-append earlier (entry ∷ later) ∙ ap (λ newer. newer ++ reverse earlier) (reverse-append (entry ∷ []) later) ∙
    append_assoc (reverse later) (entry ∷ []) (reverse earlier) in
    let onward = older_is_legal plan (reverse later) (entry ∷ reverse earlier) (subst (IsLegalHistory plan) split legal) in
    onward.0

pub entry_is_step : (plan : ShardPlan) (earlier later : List Entry) (entry : Entry) → IsLegalJournal plan (earlier ++ entry ∷ later) →
    IsSequentialStep plan (reverse earlier) entry
entry_is_step plan earlier later entry legal = (entry_is_legal plan earlier later entry legal).step
