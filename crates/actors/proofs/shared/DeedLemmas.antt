-- Deeds of several lists, and deeds in the other order.
use Rattle.std.proofs.Common.{◌≡◌, ℕ, Bool, true, false, cond, List, [], ◌∷◌, ◌++◌, reverse, refl, sym, ◌∙◌, ap, subst, append_assoc, append-nil}
use Rattle.std.specs.Prelude.{filter}
use mathlib.Core.List.{reverse-cons}
use Rattle.std.proofs.lemmas.List.{reverse-append, reverse-reverse}
use Rattle.std.proofs.lemmas.List.Elements.{filter-append}
use Rattle.semantics.specs.declared.call.Caller.{Caller}
use Rattle.semantics.specs.declared.call.Caller.TheVariants.{Worker}
use Rattle.semantics.specs.declared.call.Call.{Call}
use Rattle.semantics.specs.declared.call.Entry.{Entry}
use Rattle.semantics.specs.declared.plan.ShardPlan.{ShardPlan}
use Rattle.semantics.specs.History.{shard_of_call, IsJournalFull}
use Rattle.shards.specs.declared.deeds.Deed.{Deed}
use Rattle.shards.specs.declared.deeds.Deed.TheVariants.{Wrote, MetFull}
use Rattle.shards.specs.declared.deeds.OrderPart.TheVariants.{ByCaller}
use Rattle.shards.specs.Deeds.{shard_of_deed, is_deed_of, is_of_shard, entries_made, made_on, IsMetBehind, AreMet}

abbrev pub is_deed_by : ℕ → Deed → Bool
is_deed_by worker deed = is_deed_of (ByCaller (Worker worker)) deed

-- ---- what is chosen of a list in the other order

by_test : {A : Type 0} (x : A) (chosen : List A) (test : Bool) → reverse chosen ++ cond test (x ∷ []) [] ≡ reverse (cond test (x ∷ chosen) chosen)
by_test x chosen true = sym (reverse-cons x chosen)
by_test x chosen false = append-nil (reverse chosen)

pub chosen_reversed : {A : Type 0} (test : A → Bool) (xs : List A) → filter test (reverse xs) ≡ reverse (filter test xs)
chosen_reversed test [] = refl
chosen_reversed {A = A} test (x ∷ xs) =
    ap (filter test) (reverse-cons x xs) ∙ filter-append test (reverse xs) (x ∷ [])
    ∙ ap (λ (list : List A). list ++ filter test (x ∷ [])) (chosen_reversed test xs)
    ∙ by_test x (filter test xs) (test x)

-- ---- the entries of deeds

pub entries_append : (first second : List Deed) → entries_made (first ++ second) ≡ entries_made first ++ entries_made second
entries_append [] second = refl
entries_append (Wrote entry ∷ first) second = ap (λ (list : List Entry). entry ∷ list) (entries_append first second)
entries_append (MetFull who call ∷ first) second = entries_append first second

pub made_append : (number : ℕ) (first second : List Deed) → made_on number (first ++ second) ≡ made_on number first ++ made_on number second
made_append number first second =
    ap (filter (is_of_shard number)) (entries_append first second) ∙ filter-append (is_of_shard number) (entries_made first) (entries_made second)

entries_reversed : (deeds : List Deed) → entries_made (reverse deeds) ≡ reverse (entries_made deeds)
entries_reversed [] = refl
entries_reversed (Wrote entry ∷ later) =
    ap entries_made (reverse-cons (Wrote entry) later) ∙ entries_append (reverse later) (Wrote entry ∷ [])
    ∙ ap (λ (list : List Entry). list ++ entry ∷ []) (entries_reversed later) ∙ sym (reverse-cons entry (entries_made later))
entries_reversed (MetFull who call ∷ later) =
    ap entries_made (reverse-cons (MetFull who call) later) ∙ entries_append (reverse later) (MetFull who call ∷ [])
    ∙ append-nil (entries_made (reverse later)) ∙ entries_reversed later

pub made_reversed : (number : ℕ) (deeds : List Deed) → made_on number (reverse deeds) ≡ reverse (made_on number deeds)
made_reversed number deeds =
    ap (filter (is_of_shard number)) (entries_reversed deeds) ∙ chosen_reversed (is_of_shard number) (entries_made deeds)

same_rest : {A : Type 0} (first one other : List A) → first ++ one ≡ first ++ other → one ≡ other
same_rest [] one other same = same
same_rest (x ∷ first) one other same = same_rest first one other (cc same)

-- what was done more is one list
pub same_more : (one other before : List Deed) → reverse one ++ before ≡ reverse other ++ before → one ≡ other
same_more one other before same =
    same_rest (reverse before) one other
    (ap (λ (list : List Deed). reverse before ++ list) (sym (reverse-reverse one)) ∙ sym (reverse-append (reverse one) before) ∙ ap reverse same
    ∙ reverse-append (reverse other) before ∙ ap (λ (list : List Deed). reverse before ++ list) (reverse-reverse other))

-- ---- a look at a full journal, at its own place

met_behind : (plan : ℕ → ShardPlan) (newer older : List Deed) (deed : Deed) → AreMet plan (newer ++ deed ∷ older) →
    IsMetBehind plan deed (made_on (shard_of_deed deed) older)
met_behind plan [] older deed met = met.0
met_behind plan (first ∷ newer) older deed met = met_behind plan newer older deed met.1

pub turned : (earlier later : List Deed) (deed : Deed) → reverse (earlier ++ deed ∷ later) ≡ reverse later ++ deed ∷ reverse earlier
turned earlier later deed =
    reverse-append earlier (deed ∷ later) ∙ ap (λ (list : List Deed). list ++ reverse earlier) (reverse-cons deed later)
    ∙ append_assoc (reverse later) (deed ∷ []) (reverse earlier)

pub met_at : (plan : ℕ → ShardPlan) (deeds earlier later : List Deed) (who : Caller) (call : Call) → deeds ≡ earlier ++ MetFull who call ∷ later →
    AreMet plan (reverse deeds) → IsJournalFull (plan (shard_of_call call)) (reverse (made_on (shard_of_call call) earlier)) call
met_at plan deeds earlier later who call split met =
    subst (λ (list : List Entry). IsJournalFull (plan (shard_of_call call)) list call) (made_reversed (shard_of_call call) earlier)
    (met_behind plan (reverse later) (reverse earlier) (MetFull who call)
    (subst (AreMet plan) (ap reverse split ∙ turned earlier later (MetFull who call)) met))
