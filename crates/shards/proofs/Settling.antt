-- Passes that are held against the journals, one shard after another.
use Rattle.std.proofs.Common.{◌≡◌, ◌≢◌, ◌⊎◌, ◌<◌, ◌≤◌, ◌+◌, ℕ, zero, suc, List, [], ◌∷◌, ◌++◌, length, refl, sym, ap, ◌∙◌, subst, ⊎_elim, inl, inr, arith}
use Rattle.std.specs.Prelude.{slice_set, slice_index_or, reverse}
use Rattle.semantics.specs.declared.call.Caller.{Caller}
use Rattle.semantics.specs.declared.call.Entry.{Entry}
use Rattle.semantics.specs.declared.plan.ShardPlan.{ShardPlan}
use Rattle.semantics.specs.History.{IsLegalJournal}
use Rattle.semantics.specs.CallerLaws.{own_entries}
use Rattle.shards.specs.CallerView.{CallerView, BeginsWith, IsSettled}
use Rattle.shards.specs.Passes.{PassView, no_pass, pass_at, view_at, IsElsewhereSame}
use Rattle.semantics.proofs.shared.EachLemmas.{or_set_here, or_set_else, or_push_here, or_push_else}

pub same_or_other : (a b : ℕ) → (a ≡ b) ⊎ (a ≢ b)
same_or_other zero zero = inl refl
same_or_other zero (suc b) = inr (λ same. omega (arith, same))
same_or_other (suc a) zero = inr (λ same. omega (arith, same))
same_or_other (suc a) (suc b) = ⊎_elim (λ (same : a ≡ b). inl (ap suc same)) (λ (apart : a ≢ b). inr (λ same. apart (omega (arith, same)))) (same_or_other a b)

-- what a caller saw is a beginning of this history, and its own entries are all of its entries in it
pub record IsShown (who : Caller) (view : CallerView) (history : List Entry) : Type 0 where
  pub own : view.own ≡ own_entries who history
  pub begins : BeginsWith history view.seen

pub settled_by : (who : Caller) (view : CallerView) (journal history : List Entry) → reverse journal ≡ history → IsShown who view history → IsSettled who view journal
settled_by who view journal history written shown = record {
  begins = subst (λ (h : List Entry). BeginsWith h view.seen) (sym written) shown.begins;
  own = subst (λ (h : List Entry). view.own ≡ own_entries who h) (sym written) shown.own;
}

-- one more pass was shown the history of a shard
module _ (old passes : List PassView) (number place : ℕ) where
  shown_as : (before before' : PassView) (history : List Entry) → before ≡ before' → IsShown before.who (view_at before number) history → IsShown before'.who (view_at before' number) history
  shown_as before before' history same is = subst (λ (p : PassView). IsShown p.who (view_at p number) history) same is

  pub shown_more : (history : List Entry) (before after : PassView) → place < length passes → before ≡ pass_at passes place → pass_at passes place ≡ pass_at old place → IsElsewhereSame number before after →
      IsShown before.who (view_at before number) history → ((k : ℕ) → k < place → IsShown (pass_at old k).who (view_at (pass_at old k) number) history) →
      (k : ℕ) → k < place + 1 → IsShown (pass_at old k).who (view_at (pass_at old k) number) history
  shown_more history before after below is untouched elsewhere shown were k within = ⊎_elim
      (λ (here : k ≡ place). shown_as before (pass_at old k) history (is ∙ untouched ∙ ap (pass_at old) (sym here)) shown)
      (λ (apart : k ≢ place). were k (omega (arith, within, apart))) (same_or_other k place)

  module _ (before after : PassView) (below : place < length passes) (is : before ≡ pass_at passes place) (untouched : pass_at passes place ≡ pass_at old place) (elsewhere : IsElsewhereSame number before after) where
    pub left_less : ((k : ℕ) → place ≤ k → pass_at passes k ≡ pass_at old k) → (k : ℕ) → place + 1 ≤ k → pass_at (slice_set passes place after) k ≡ pass_at old k
    left_less were k past = or_set_else passes place k after no_pass (λ same. omega (arith, past, same)) ∙ were k (omega (arith, past))

    pub callers_stay : ((k : ℕ) → (pass_at passes k).who ≡ (pass_at old k).who) → (k : ℕ) → (pass_at (slice_set passes place after) k).who ≡ (pass_at old k).who
    callers_stay were k = ⊎_elim
        (λ (here : k ≡ place). ap (λ (n : ℕ). (pass_at (slice_set passes place after) n).who) here ∙ ap (λ (p : PassView). p.who) (or_set_here passes place after no_pass below)
        ∙ elsewhere.who ∙ ap (λ (p : PassView). p.who) (is ∙ untouched) ∙ ap (λ (n : ℕ). (pass_at old n).who) (sym here))
        (λ (apart : k ≢ place). ap (λ (p : PassView). p.who) (or_set_else passes place k after no_pass apart) ∙ were k) (same_or_other k place)

    pub deeds_stay : after.deeds ≡ before.deeds → ((k : ℕ) → (pass_at passes k).deeds ≡ (pass_at old k).deeds) → (k : ℕ) → (pass_at (slice_set passes place after) k).deeds ≡ (pass_at old k).deeds
    deeds_stay same were k = ⊎_elim
        (λ (here : k ≡ place). ap (λ (n : ℕ). (pass_at (slice_set passes place after) n).deeds) here ∙ ap (λ (p : PassView). p.deeds) (or_set_here passes place after no_pass below)
        ∙ same ∙ ap (λ (p : PassView). p.deeds) (is ∙ untouched) ∙ ap (λ (n : ℕ). (pass_at old n).deeds) (sym here))
        (λ (apart : k ≢ place). ap (λ (p : PassView). p.deeds) (or_set_else passes place k after no_pass apart) ∙ were k) (same_or_other k place)

    pub others_stay : ((k other : ℕ) → other ≢ number → view_at (pass_at passes k) other ≡ view_at (pass_at old k) other) →
        (k other : ℕ) → other ≢ number → view_at (pass_at (slice_set passes place after) k) other ≡ view_at (pass_at old k) other
    others_stay were k other apart_from = ⊎_elim
        (λ (here : k ≡ place). ap (λ (n : ℕ). view_at (pass_at (slice_set passes place after) n) other) here ∙ ap (λ (p : PassView). view_at p other) (or_set_here passes place after no_pass below)
        ∙ elsewhere.others other apart_from ∙ ap (λ (p : PassView). view_at p other) (is ∙ untouched) ∙ ap (λ (n : ℕ). view_at (pass_at old n) other) (sym here))
        (λ (apart : k ≢ place). ap (λ (p : PassView). view_at p other) (or_set_else passes place k after no_pass apart) ∙ were k other apart_from) (same_or_other k place)

abbrev journal_at : List (List Entry) → ℕ → List Entry
journal_at journals number = slice_index_or journals number []

-- one more journal is handed out
module _ (old passes after : List PassView) (journals : List (List Entry)) (number : ℕ) (journal : List Entry) (made : length journals ≡ number) where
  abbrev pub grown : List (List Entry)
  grown = journals ++ journal ∷ []

  here : (k : ℕ) → k ≡ number → journal_at grown k ≡ journal
  here k same = or_push_here journals journal [] k (made ∙ sym same)

  before : (k : ℕ) → k < number → journal_at grown k ≡ journal_at journals k
  before k below = or_push_else journals journal [] k (omega (arith, made, below))

  pub legal_more : (plan : ℕ → ShardPlan) → IsLegalJournal (plan number) journal → ((k : ℕ) → k < number → IsLegalJournal (plan k) (journal_at journals k)) →
      (k : ℕ) → k < number + 1 → IsLegalJournal (plan k) (journal_at grown k)
  legal_more plan legal were k within = ⊎_elim
      (λ (same : k ≡ number). subst (λ (j : List Entry). IsLegalJournal (plan k) j) (sym (here k same)) (subst (λ (n : ℕ). IsLegalJournal (plan n) journal) (sym same) legal))
      (λ (apart : k ≢ number). let less : k < number = omega (arith, within, apart) in subst (λ (j : List Entry). IsLegalJournal (plan k) j) (sym (before k less)) (were k less))
      (same_or_other k number)

  module _ (callers : (k : ℕ) → (pass_at passes k).who ≡ (pass_at old k).who) (untouched : (k m : ℕ) → number ≤ m → view_at (pass_at passes k) m ≡ view_at (pass_at old k) m)
      (counted : length passes ≡ length old) where
    pub settled_more : ((k : ℕ) → k < length passes → IsSettled (pass_at passes k).who (view_at (pass_at passes k) number) journal) →
        ((k m : ℕ) → k < length old → m < number → IsSettled (pass_at old k).who (view_at (pass_at old k) m) (journal_at journals m)) →
        (k m : ℕ) → k < length old → m < number + 1 → IsSettled (pass_at old k).who (view_at (pass_at old k) m) (journal_at grown m)
    settled_more now were k m some within = ⊎_elim
        (λ (same : m ≡ number). last k m some same) (λ (apart : m ≢ number). let less : m < number = omega (arith, within, apart) in
        subst (λ (j : List Entry). IsSettled (pass_at old k).who (view_at (pass_at old k) m) j) (sym (before m less)) (were k m some less)) (same_or_other m number)
      where
        last : (k m : ℕ) → k < length old → m ≡ number → IsSettled (pass_at old k).who (view_at (pass_at old k) m) (journal_at grown m)
        last k m some same =
            subst (λ (j : List Entry). IsSettled (pass_at old k).who (view_at (pass_at old k) m) j) (sym (here m same))
            (subst (λ (n : ℕ). IsSettled (pass_at old k).who (view_at (pass_at old k) n) journal) (sym same)
            (subst (λ (v : CallerView). IsSettled (pass_at old k).who v journal) (untouched k number (omega arith))
            (subst (λ (w : Caller). IsSettled w (view_at (pass_at passes k) number) journal) (callers k) (now k (omega (arith, some, counted))))))

    pub untouched_less : ((k m : ℕ) → m ≢ number → view_at (pass_at after k) m ≡ view_at (pass_at passes k) m) →
        (k m : ℕ) → number + 1 ≤ m → view_at (pass_at after k) m ≡ view_at (pass_at old k) m
    untouched_less others k m past = others k m (λ same. omega (arith, past, same)) ∙ untouched k m (omega (arith, past))
