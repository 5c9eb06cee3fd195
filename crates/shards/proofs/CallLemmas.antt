-- A caller's part that took the shard, made a call on it and gave it back.
use Rattle.std.proofs.Common.{◌≡◌, ◌∷◌, ◌++◌, ℕ, List, sym, ap, ◌∙◌, subst, append_assoc}
use Rattle.std.specs.Prelude.{Result, IfOk, OnErr}
use Rattle.std.proofs.lemmas.Result.{IfOk-weaker, on_err_weaker}
use Rattle.semantics.specs.declared.call.Call.{Call}
use Rattle.semantics.specs.declared.call.Caller.{Caller}
use Rattle.semantics.specs.declared.call.Entry.{Entry}
use Rattle.semantics.specs.declared.call.Reply.{Reply}
use Rattle.semantics.specs.declared.full.JournalFull.{JournalFull}
use Rattle.semantics.specs.declared.plan.ShardPlan.{ShardPlan}
use Rattle.semantics.specs.History.{IsLegalHistory, entry_of}
use Rattle.shards.specs.CallerView.{CallerView, BeginsWith, ViewHasLooked, ViewIsServed, ViewIsRefused}
use Rattle.shards.specs.ShardPasses.{ShardPassView, IsSameShard}

begins_over : (last middle first : List Entry) → BeginsWith last middle → BeginsWith middle first → BeginsWith last first
begins_over last middle first (later, is) (earlier, was) =
    (later ++ earlier, is ∙ ap (λ rest. later ++ rest) was ∙ sym (append_assoc later earlier first))

module _ {A : Type 0} (who : Caller) (asks : ℕ → Call) (replies : ℕ → A → Reply) (before taken asked given : ShardPassView)
    (result : Result A JournalFull) (took : IsSameShard before taken) (looked : ViewHasLooked before.key.plan before.view taken.view)
    (view : given.view ≡ asked.view) where
  pub call_served : IfOk result (λ answer. ViewIsServed taken.key.plan taken.view asked.view
      (entry_of who (asks taken.key.plan.number) (replies taken.key.plan.number answer))) →
      IfOk result (λ answer. ViewIsServed before.key.plan before.view given.view
      (entry_of who (asks before.key.plan.number) (replies before.key.plan.number answer)))
  call_served served =
      subst (λ (plan : ShardPlan). IfOk result (λ answer. ViewIsServed plan before.view given.view (entry_of who (asks plan.number) (replies plan.number answer))))
      took.plan (IfOk-weaker result _ _ (λ answer was. record {
        earlier = was.earlier;
        seen = ap (λ (v : CallerView). v.seen) view ∙ was.seen;
        begins = begins_over was.earlier taken.view.seen before.view.seen was.begins looked.begins;
        legal = subst (λ (v : CallerView). IsLegalHistory taken.key.plan v.seen) (sym view) was.legal;
        own = ap (λ (v : CallerView). v.own) view ∙ was.own
            ∙ ap (λ (own : List Entry). entry_of who (asks taken.key.plan.number) (replies taken.key.plan.number answer) ∷ own) looked.own;
      }) served)

  pub call_refused : OnErr result (ViewIsRefused taken.key.plan taken.view asked.view (asks taken.key.plan.number)) →
      OnErr result (ViewIsRefused before.key.plan before.view given.view (asks before.key.plan.number))
  call_refused refused =
      subst (λ (plan : ShardPlan). OnErr result (ViewIsRefused plan before.view given.view (asks plan.number))) took.plan
      (on_err_weaker result (λ (was : ViewIsRefused taken.key.plan taken.view asked.view (asks taken.key.plan.number)). subst
      (λ (v : CallerView). ViewIsRefused taken.key.plan before.view v (asks taken.key.plan.number)) (sym view) (record {
        begins = begins_over asked.view.seen taken.view.seen before.view.seen was.begins looked.begins;
        legal = was.legal;
        full = was.full;
        own = was.own ∙ looked.own;
      })) refused)
