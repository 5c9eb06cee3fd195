-- A caller's condition, from its own entries to the whole history.
use Rattle.std.proofs.Common.{◌≡◌, List, sym, ap, ◌∙◌, subst}
use Rattle.std.specs.Prelude.{IsTrue}
use Rattle.semantics.specs.declared.call.Caller.{Caller}
use Rattle.semantics.specs.declared.call.Call.{Call}
use Rattle.semantics.specs.declared.call.Entry.{Entry}
use Rattle.semantics.specs.declared.plan.ShardPlan.{ShardPlan}
use Rattle.semantics.specs.CallerLaws.{own_entries, ConditionIsOwn}
use Rattle.semantics.specs.History.{Meets, meets}

pub meets_by_own : (plan plan' : ShardPlan) (own all history : List Entry) (who : Caller) (call : Call) → ConditionIsOwn → plan ≡ plan' →
    own ≡ own_entries who all → all ≡ history → Meets plan' own who call → Meets plan history who call
meets_by_own plan plan' own all history who call law planned own_is all_is met =
    let mine : meets plan history who call ≡ meets plan' own who call =
    law plan history who call ∙ ap (λ p. meets p (own_entries who history) who call) planned
    ∙ ap (λ h. meets plan' (own_entries who h) who call) (sym all_is) ∙ ap (λ h. meets plan' h who call) (sym own_is)
    in subst IsTrue (sym mine) met
