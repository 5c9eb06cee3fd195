-- A journal is legal up to the first entry that is no step.
use Rattle.std.proofs.Common.{inl, inr}
use Rattle.std.proofs.Common.{◌≡◌, ◌⊎◌, ℕ, zero, suc, ◌+◌, ◌<◌, List, [], ◌∷◌, ◌++◌, length, take, reverse, Option, Some, refl, sym, ap, subst, ◌∙◌, arith}
use Rattle.std.specs.Prelude.{slice_get}
use Rattle.std.proofs.lemmas.List.{reverse-append, length-reverse, length-take-le}
use Rattle.semantics.specs.declared.call.Entry.{Entry}
use Rattle.semantics.specs.declared.plan.ShardPlan.{ShardPlan}
use Rattle.semantics.specs.ShardPlan.{plan_at}
use Rattle.semantics.specs.History.{IsLegalStep, IsLegalHistory, IsLegalJournal}
use Rattle.journals.specs.JournalsView.{JournalsView, entries_at}
use Rattle.shard_core.specs.JournaledShard.{JournaledShard, shard_with_entry}
use Rattle.audit.specs.declared.held_cells.HeldCells.{HeldCells}
use Rattle.audit.specs.HeldCells.{AreHeld}
use Rattle.journals.specs.LegalJournals.{IsLegalShard, AreLegal}
use Rattle.audit.specs.Audited.{IsFirstIllegal, IsFirstIllegalShard}

take_step : (xs : List Entry) (i : ℕ) (entry : Entry) → slice_get xs i ≡ Some entry → take (suc i) xs ≡ take i xs ++ entry ∷ []
take_step [] i entry is = absurd cc
take_step (x ∷ xs) zero entry is = let same : x ≡ entry = cc in ap (λ (e : Entry). e ∷ []) same
take_step (x ∷ xs) (suc i) entry is = ap (λ (ys : List Entry). x ∷ ys) (take_step xs i entry is)

pub take_one : (xs : List Entry) (i : ℕ) (entry : Entry) → slice_get xs i ≡ Some entry → take (i + 1) xs ≡ take i xs ++ entry ∷ []
take_one xs i entry is = let e : i + 1 ≡ suc i = omega arith in ap (λ (n : ℕ). take n xs) e ∙ take_step xs i entry is

-- a shard that is the beginning of a journal, made one entry longer
pub made_one : (plan : ShardPlan) (xs : List Entry) (i : ℕ) (entry : Entry) (old new : JournaledShard) → slice_get xs i ≡ Some entry → old ≡ record { plan = plan; journal = take i xs }
    → new ≡ shard_with_entry old entry → new ≡ record { plan = plan; journal = take (i + 1) xs }
made_one plan xs i entry old new is old_is new_is =
    new_is ∙ ap (λ (s : JournaledShard). shard_with_entry s entry) old_is ∙ ap (λ (j : List Entry). record { plan = plan; journal = j }) (sym (take_one xs i entry is))

-- no step, no legal journal
pub not_with : (plan : ShardPlan) (xs : List Entry) (i : ℕ) (entry : Entry) → slice_get xs i ≡ Some entry → (IsLegalStep plan (reverse (take i xs)) entry → ⊥) → IsLegalJournal plan (take (i + 1) xs) → ⊥
not_with plan xs i entry is fails legal =
    let same : reverse (take (i + 1) xs) ≡ entry ∷ reverse (take i xs) = ap reverse (take_one xs i entry is) ∙ reverse-append (take i xs) (entry ∷ []) in
    let whole : IsLegalHistory plan (entry ∷ reverse (take i xs)) = rw same at legal in
    fails whole.0

-- the first entry that is no step of the shard that the entries before it made
pub illegal_at : (plan : ShardPlan) (xs : List Entry) (i : ℕ) (entry : Entry) (shard : JournaledShard) → i < length xs → slice_get xs i ≡ Some entry → shard ≡ record { plan = plan; journal = take i xs }
    → IsLegalJournal shard.plan shard.journal → (IsLegalStep shard.plan (reverse shard.journal) entry → ⊥) → IsFirstIllegal plan xs i
illegal_at plan xs i entry shard within is same legal fails =
    let P : JournaledShard → Type 0 = λ s. IsLegalJournal s.plan s.journal in
    let Q : JournaledShard → Type 0 = λ s. IsLegalStep s.plan (reverse s.journal) entry → ⊥ in
    record { within = within; before = subst P same legal; not_with = not_with plan xs i entry is (subst Q same fails) }

-- the beginning of a legal journal is legal
prefix_by : (plan : ShardPlan) (newer older : List Entry) → IsLegalHistory plan (newer ++ older) → IsLegalHistory plan older
prefix_by plan [] older legal = legal
prefix_by plan (entry ∷ newer) older legal = prefix_by plan newer older legal.1

front_back : (xs : List Entry) (i : ℕ) → (back : List Entry) × (xs ≡ take i xs ++ back)
front_back [] zero = ([], refl)
front_back [] (suc i) = ([], refl)
front_back (x ∷ xs) zero = (x ∷ xs, refl)
front_back (x ∷ xs) (suc i) = let rest = front_back xs i in (rest.0, ap (λ (ys : List Entry). x ∷ ys) rest.1)

pub prefix_legal : (plan : ShardPlan) (xs : List Entry) (i : ℕ) → IsLegalJournal plan xs → IsLegalJournal plan (take i xs)
prefix_legal plan xs i legal =
    let parts = front_back xs i in
    let same : reverse xs ≡ reverse parts.0 ++ reverse (take i xs) = ap reverse parts.1 ∙ reverse-append (take i xs) parts.0 in
    let whole : IsLegalHistory plan (reverse parts.0 ++ reverse (take i xs)) = rw same at legal in
    prefix_by plan (reverse parts.0) (reverse (take i xs)) whole

pub some_same : {A : Type 0} (o : Option A) (x y : A) → o ≡ Some x → o ≡ Some y → x ≡ y
some_same o x y a b = let e : Some x ≡ Some y = sym a ∙ b in cc

-- one more shard is legal
pub legal_shard : (journals : JournalsView) (number : ℕ) (plan : ShardPlan) (entries : List Entry) → plan_at journals.maps journals.options number ≡ Some plan → entries ≡ entries_at journals number
    → IsLegalJournal plan entries → IsLegalShard journals number
legal_shard journals number plan entries is same legal = λ other other_is.
    let plans : plan ≡ other = some_same _ plan other is other_is in
    let P : ShardPlan → Type 0 = λ p. IsLegalJournal p (entries_at journals number) in
    subst P plans (rw (← same) legal)

decided : (journals : JournalsView) (k number : ℕ) → ((j : ℕ) → j < number → IsLegalShard journals j) → IsLegalShard journals number → (k ≡ number) ⊎ (k < number) → IsLegalShard journals k
decided journals k number before here (inl same) = let P : ℕ → Type 0 = λ n. IsLegalShard journals n in subst P (sym same) here
decided journals k number before here (inr lt) = before k lt

below_or_same : (k number : ℕ) → k < number + 1 → (k ≡ number) ⊎ (k < number)
below_or_same zero zero lt = inl refl
below_or_same zero (suc number) lt = inr (omega arith)
below_or_same (suc k) zero lt = absurd (omega (arith, lt))
below_or_same (suc k) (suc number) lt = lifted (below_or_same k number (omega (arith, lt))) where
  lifted : (k ≡ number) ⊎ (k < number) → (suc k ≡ suc number) ⊎ (suc k < suc number)
  lifted (inl same) = inl (ap suc same)
  lifted (inr less) = inr (omega (arith, less))

pub legal_more : (journals : JournalsView) (number : ℕ) → ((k : ℕ) → k < number → IsLegalShard journals k) → IsLegalShard journals number → (k : ℕ) → k < number + 1 → IsLegalShard journals k
legal_more journals number before here k lt = decided journals k number before here (below_or_same k number lt)

-- the first entry that is not legal is the journals' first fault
pub first_fault : (journals : JournalsView) (number place : ℕ) (plan : ShardPlan) (entries : List Entry) → number < length journals.shards → ((k : ℕ) → k < number → IsLegalShard journals k)
    → plan_at journals.maps journals.options number ≡ Some plan → entries ≡ entries_at journals number → IsFirstIllegal plan entries place → IsFirstIllegalShard journals number place × (AreLegal journals → ⊥)
first_fault journals number place plan entries exists before is same illegal = (
  record { exists = exists; legal_before = before; plan = plan; plan_is = is; illegal = rw (← same) illegal },
  λ legal. let here : IsLegalJournal plan entries = rw same (legal number exists plan is) in illegal.not_with (prefix_legal plan entries (place + 1) here),
)

-- ---- held cells

-- the shard's history is that of the journal's beginning
pub held_of : (plan : ShardPlan) (xs : List Entry) (i : ℕ) (shard : JournaledShard) (held : HeldCells) → shard ≡ record { plan = plan; journal = take i xs } → AreHeld held (reverse (take i xs)) → AreHeld held (reverse shard.journal)
held_of plan xs i shard held is are = subst (λ (s : JournaledShard). AreHeld held (reverse s.journal)) (sym is) are

-- one entry more was noted
pub held_more : (xs : List Entry) (i : ℕ) (entry : Entry) (held : HeldCells) → i < length xs → slice_get xs i ≡ Some entry → (i + 1 ≡ length (reverse (take i xs)) + 1 → AreHeld held (entry ∷ reverse (take i xs))) → AreHeld held (reverse (take (i + 1) xs))
held_more xs i entry held within is noted =
    let same : reverse (take (i + 1) xs) ≡ entry ∷ reverse (take i xs) = ap reverse (take_one xs i entry is) ∙ reverse-append (take i xs) (entry ∷ []) in
    let counted : length (reverse (take i xs)) ≡ i = length-reverse (take i xs) ∙ length-take-le i xs (omega (arith, within)) in
    subst (AreHeld held) (sym same) (noted (omega (arith, counted)))
