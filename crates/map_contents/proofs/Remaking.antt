-- The calls of legal journals, made again one after the other.
use Rattle.std.proofs.Common.{◌≡◌, ◌≢◌, ◌⊎◌, ℕ, zero, suc, ◌+◌, ◌*◌, ◌<◌, ◌≤◌, List, [], ◌∷◌, ◌++◌, length, take, reverse, Option, Some, None, refl, sym, ap, subst, ◌∙◌, ⊎_elim, arith}
use Rattle.std.specs.Prelude.{slice_get, slice_index_or, option_map}
use Rattle.std.proofs.lemmas.List.{length-map, reverse-append}
use Rattle.semantics.specs.declared.call.Entry.{Entry}
use Rattle.semantics.specs.declared.plan.ShardPlan.{ShardPlan}
use Rattle.semantics.specs.ShardPlan.{plan_at}
use Rattle.semantics.specs.History.{IsLegalStep, IsLegalHistory, IsLegalJournal}
use Rattle.map_contents.proofs.Places.{count_set, found_set, found_within}
use Rattle.journals.specs.JournalsView.{JournalsView, entries_at}
use Rattle.journals.specs.KeptEntries.{ArePlanned, written_entries}
use Rattle.journals.specs.LegalJournals.{AreLegal}
use Rattle.shard_core.specs.JournaledShard.{JournaledShard, opened_shard, shard_with_entry}
use Rattle.shards.specs.MapContents.{HavePlans}
use Rattle.shards.specs.Opening.{AreOpened}
use Rattle.map_contents.specs.Remade.{AreShardsOf, IsMadeAgain}

-- ---- beginnings of a journal

take_step : (xs : List Entry) (i : ℕ) (entry : Entry) → slice_get xs i ≡ Some entry → take (suc i) xs ≡ take i xs ++ entry ∷ []
take_step [] i entry is = absurd cc
take_step (x ∷ xs) zero entry is = let same : x ≡ entry = cc in ap (λ (e : Entry). e ∷ []) same
take_step (x ∷ xs) (suc i) entry is = ap (λ (ys : List Entry). x ∷ ys) (take_step xs i entry is)

take_one : (xs : List Entry) (i : ℕ) (entry : Entry) → slice_get xs i ≡ Some entry → take (i + 1) xs ≡ take i xs ++ entry ∷ []
take_one xs i entry is = let e : i + 1 ≡ suc i = omega arith in ap (λ (n : ℕ). take n xs) e ∙ take_step xs i entry is

-- the beginning of a legal journal is legal
prefix_by : (plan : ShardPlan) (newer older : List Entry) → IsLegalHistory plan (newer ++ older) → IsLegalHistory plan older
prefix_by plan [] older legal = legal
prefix_by plan (entry ∷ newer) older legal = prefix_by plan newer older legal.1

front_back : (xs : List Entry) (i : ℕ) → (back : List Entry) × (xs ≡ take i xs ++ back)
front_back [] zero = ([], refl)
front_back [] (suc i) = ([], refl)
front_back (x ∷ xs) zero = (x ∷ xs, refl)
front_back (x ∷ xs) (suc i) = let rest = front_back xs i in (rest.0, ap (λ (ys : List Entry). x ∷ ys) rest.1)

prefix_legal : (plan : ShardPlan) (xs : List Entry) (i : ℕ) → IsLegalJournal plan xs → IsLegalJournal plan (take i xs)
prefix_legal plan xs i legal =
    let parts = front_back xs i in
    let same : reverse xs ≡ reverse parts.0 ++ reverse (take i xs) = ap reverse parts.1 ∙ reverse-append (take i xs) parts.0 in
    let whole : IsLegalHistory plan (reverse parts.0 ++ reverse (take i xs)) = rw same at legal in
    prefix_by plan (reverse parts.0) (reverse (take i xs)) whole

-- ---- one call

module _ (plan : ShardPlan) (xs : List Entry) (i : ℕ) (entry : Entry) (shard : JournaledShard) (known : slice_get xs i ≡ Some entry)
    (legal : IsLegalJournal plan xs) (so_far : shard ≡ record { plan = plan; journal = take i xs }) where
  is_step : IsLegalStep plan (reverse (take i xs)) entry
  is_step =
      let same : reverse (take (i + 1) xs) ≡ entry ∷ reverse (take i xs) =
      ap reverse (take_one xs i entry known) ∙ reverse-append (take i xs) (entry ∷ []) in
      let whole : IsLegalHistory plan (entry ∷ reverse (take i xs)) = rw same at (prefix_legal plan xs (i + 1) legal) in
      whole.0

  pub is_step_of : IsLegalStep shard.plan (reverse shard.journal) entry
  is_step_of = subst (λ (s : JournaledShard). IsLegalStep s.plan (reverse s.journal) entry) (sym so_far) is_step

  pub made_more : (new : JournaledShard) → new ≡ shard_with_entry shard entry → new ≡ record { plan = plan; journal = take (i + 1) xs }
  made_more new made =
      made ∙ ap (λ (s : JournaledShard). shard_with_entry s entry) so_far
      ∙ ap (λ (j : List Entry). record { plan = plan; journal = j }) (sym (take_one xs i entry known))

-- ---- one shard

-- the first so many shards have made the calls of their journals, and the others none
pub record AreMadeTo (journals : JournalsView) (number : ℕ) (shards : List JournaledShard) : Type 0 where
  pub plans : HavePlans journals.maps journals.options shards
  pub made : (k : ℕ) (shard : JournaledShard) → slice_get shards k ≡ Some shard → k < number → shard.journal ≡ entries_at journals k
  pub unused : (k : ℕ) (shard : JournaledShard) → slice_get shards k ≡ Some shard → number ≤ k → shard.journal ≡ []

opened_as : (found : Option ShardPlan) (shard : JournaledShard) → option_map opened_shard found ≡ Some shard → (found ≡ Some shard.plan) × (shard.journal ≡ [])
opened_as None shard is = absurd cc
opened_as (Some plan) shard is =
    let same : opened_shard plan ≡ shard = cc in
    (ap (λ (s : JournaledShard). Some s.plan) same, ap (λ (s : JournaledShard). s.journal) (sym same))

pub none_made : (journals : JournalsView) (shards : List JournaledShard) → AreOpened journals.maps journals.options shards → AreMadeTo journals 0 shards
none_made journals shards opened = record {
  plans = record {
    count = opened.count;
    planned = λ number shard there. (of number shard there).0;
  };
  made = λ k shard there below. absurd (omega (arith, below));
  unused = λ k shard there at_least. (of k shard there).1;
} where
  of : (k : ℕ) (shard : JournaledShard) → slice_get shards k ≡ Some shard → (plan_at journals.maps journals.options k ≡ Some shard.plan) × (shard.journal ≡ [])
  of k shard there = opened_as (plan_at journals.maps journals.options k) shard (sym (opened.each k (found_within shards k shard there)) ∙ there)

module _ (journals : JournalsView) (number : ℕ) (before : List JournaledShard) (so_far : AreMadeTo journals number before) where
  pub may_be_made : AreLegal journals → length before ≡ length journals.shards → (shard : JournaledShard) → slice_get before number ≡ Some shard →
      (shard.journal ≡ []) × IsLegalJournal shard.plan (entries_at journals number)
  may_be_made legal count shard there =
      let lt = found_within before number shard there in (
        so_far.unused number shard there (omega arith),
        legal number (omega (arith, lt, count)) shard.plan (so_far.plans.planned number shard there),
      )

  module _ (after : List JournaledShard) (is : IsMadeAgain before number (entries_at journals number) after) where
    abbrev new : JournaledShard
    new = record { plan = is.one.plan; journal = entries_at journals number }

    at : (k : ℕ) (shard : JournaledShard) → slice_get after k ≡ Some shard → ((k ≡ number) × (new ≡ shard)) ⊎ ((k ≢ number) × (slice_get before k ≡ Some shard))
    at k shard there = found_set before number k new shard (subst (λ (xs : List JournaledShard). slice_get xs k ≡ Some shard) is.made there)

    planned_here : (k : ℕ) (shard : JournaledShard) → k ≡ number → new ≡ shard → plan_at journals.maps journals.options k ≡ Some shard.plan
    planned_here k shard here same =
        ap (λ (n : ℕ). plan_at journals.maps journals.options n) here ∙ so_far.plans.planned number is.one is.known ∙ ap (λ (s : JournaledShard). Some s.plan) same

    pub one_more_made : AreMadeTo journals (number + 1) after
    one_more_made = record {
      plans = record {
        count = ap (λ (xs : List JournaledShard). length xs) is.made ∙ count_set before number new ∙ so_far.plans.count;
        planned = λ k shard there. ⊎_elim (λ t. planned_here k shard t.0 t.1) (λ t. so_far.plans.planned k shard t.1) (at k shard there);
      };
      made = λ k shard there below. ⊎_elim
          (λ t. ap (λ (s : JournaledShard). s.journal) (sym t.1) ∙ ap (entries_at journals) (sym t.0))
          (λ t. so_far.made k shard t.1 (let apart = t.0 in omega (arith, below, apart))) (at k shard there);
      unused = λ k shard there at_least. ⊎_elim (λ t. absurd (let here = t.0 in omega (arith, at_least, here)))
          (λ t. so_far.unused k shard t.1 (omega (arith, at_least))) (at k shard there);
    }

pub made_count : (before : List JournaledShard) (number : ℕ) (entries : List Entry) (after : List JournaledShard) → IsMadeAgain before number entries after →
    length after ≡ length before
made_count before number entries after is = ap (λ (xs : List JournaledShard). length xs) is.made ∙ count_set before number _

pub all_made : (journals : JournalsView) (number : ℕ) (shards : List JournaledShard) → AreMadeTo journals number shards → length shards ≤ number → AreShardsOf journals shards
all_made journals number shards so_far all = record {
  plans = so_far.plans;
  written = λ k shard there. so_far.made k shard there (let lt = found_within shards k shard there in omega (arith, lt, all));
}

-- ---- shards that the journals keep

entries_there : (shards : List JournaledShard) (k : ℕ) (shard : JournaledShard) → slice_get shards k ≡ Some shard →
    shard.journal ≡ slice_index_or (written_entries shards) k []
entries_there [] k shard there = absurd cc
entries_there (one ∷ rest) zero shard there = let same : one ≡ shard = cc in ap (λ (s : JournaledShard). s.journal) (sym same)
entries_there (one ∷ rest) (suc k) shard there = entries_there rest k shard there

pub kept_shards : (journals : JournalsView) (shards : List JournaledShard) → length journals.shards ≡ length journals.maps * journals.options.shards →
    ArePlanned journals.maps journals.options shards → written_entries shards ≡ journals.shards → AreShardsOf journals shards
kept_shards journals shards count planned written = record {
  plans = record {
    count = sym (length-map shards (λ (s : JournaledShard). s.journal)) ∙ ap (λ (lists : List (List Entry)). length lists) written ∙ count;
    planned = planned;
  };
  written = λ k shard there. entries_there shards k shard there ∙ ap (λ (lists : List (List Entry)). slice_index_or lists k []) written;
}
