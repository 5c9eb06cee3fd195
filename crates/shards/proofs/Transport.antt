-- What is said of a seat's view is said of the pass that has the seat.
use Rattle.std.proofs.Common.{◌≡◌, ℕ, List, ◌∷◌, sym, ap, ◌∙◌, subst}
use Rattle.std.specs.Prelude.{Result, Ok, Err, IfOk, OnErr}
use Rattle.semantics.specs.declared.call.Call.{Call}
use Rattle.semantics.specs.declared.call.Reply.{Reply}
use Rattle.semantics.specs.declared.full.JournalFull.{JournalFull}
use Rattle.semantics.specs.declared.call.Entry.{Entry}
use Rattle.semantics.specs.declared.plan.ShardPlan.{ShardPlan}
use Rattle.shards.specs.CallerView.{CallerView, ViewIsServed, ViewIsRefused, ViewHasLooked}
use Rattle.shards.specs.Passes.{PassView, view_at, seen_at}
use Rattle.shards.specs.Asked.{PassIsServed, PassIsRefused}

module _ {A : Type 0} (plan : ℕ → ShardPlan) (asks : ℕ → Call) (replies : ℕ → A → Reply) (n number : ℕ) (v w : CallerView) (inside now after : PassView)
    (here : n ≡ number) (was : v ≡ view_at inside number) (is : w ≡ view_at after number) (same : inside ≡ now) where
  served_one : (a : A) → ViewIsServed (plan n) v w (record { who = inside.who; call = asks n; reply = replies n a }) →
      PassIsServed (plan number) number now after (asks number) (replies number a)
  served_one a served =
      subst (λ (p : PassView). PassIsServed (plan number) number p after (asks number) (replies number a)) same
      (subst (λ (k : ℕ). ViewIsServed (plan k) (view_at inside number) (view_at after number) (record { who = inside.who; call = asks k; reply = replies k a })) here
      (subst (λ (b : CallerView). ViewIsServed (plan n) b (view_at after number) (record { who = inside.who; call = asks n; reply = replies n a })) was
      (subst (λ (b : CallerView). ViewIsServed (plan n) v b (record { who = inside.who; call = asks n; reply = replies n a })) is served)))

  pub answered_moves : (answer : Result A JournalFull) →
      IfOk answer (λ a. ViewIsServed (plan n) v w (record { who = inside.who; call = asks n; reply = replies n a })) →
      IfOk answer (λ a. PassIsServed (plan number) number now after (asks number) (replies number a))
  answered_moves (Ok a) served = served_one a served
  answered_moves (Err full) served = served

  refused_one : ViewIsRefused (plan n) v w (asks n) → PassIsRefused (plan number) number now after (asks number)
  refused_one refused =
      subst (λ (p : PassView). PassIsRefused (plan number) number p after (asks number)) same
      (subst (λ (k : ℕ). ViewIsRefused (plan k) (view_at inside number) (view_at after number) (asks k)) here
      (subst (λ (b : CallerView). ViewIsRefused (plan n) b (view_at after number) (asks n)) was
      (subst (λ (b : CallerView). ViewIsRefused (plan n) v b (asks n)) is refused)))

  pub turned_away_moves : (answer : Result A JournalFull) → OnErr answer (ViewIsRefused (plan n) v w (asks n)) →
      OnErr answer (PassIsRefused (plan number) number now after (asks number))
  turned_away_moves (Ok a) refused = refused
  turned_away_moves (Err full) refused = refused_one refused

  pub next_moves : (answer : Result A JournalFull) (older : List Entry) →
      IfOk answer (λ a. w.seen ≡ (record { who = inside.who; call = asks n; reply = replies n a }) ∷ older) →
      IfOk answer (λ a. seen_at after number ≡ (record { who = now.who; call = asks number; reply = replies number a }) ∷ older)
  next_moves (Ok a) older next =
      ap (λ (b : CallerView). b.seen) (sym is) ∙ next
      ∙ ap (λ (k : ℕ). (record { who = inside.who; call = asks k; reply = replies k a }) ∷ older) here
      ∙ ap (λ (p : PassView). (record { who = p.who; call = asks number; reply = replies number a }) ∷ older) same
  next_moves (Err full) older next = next

pub looked_at : (plan plan' : ShardPlan) (before before' after after' : CallerView) → plan ≡ plan' → before ≡ before' → after ≡ after' →
    ViewHasLooked plan before after → ViewHasLooked plan' before' after'
looked_at plan plan' before before' after after' same same_before same_after is =
    subst (λ (p : ShardPlan). ViewHasLooked p before' after') same
    (subst (λ (b : CallerView). ViewHasLooked plan b after') same_before (subst (λ (a : CallerView). ViewHasLooked plan before a) same_after is))
