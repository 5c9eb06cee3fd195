-- Shards as they were opened, and after updates: what is there, and who is inside.
use Rattle.std.proofs.Common.{◌≡◌, ℕ, ◌<◌, List, [], ◌∷◌, ◌++◌, length, map, reverse, Option, Some, None, refl, sym, ap, ◌∙◌, subst}
use Rattle.std.specs.Prelude.{is_some, option_map}
use Rattle.std.specs.List.{AllByRecursion}
use Rattle.std.proofs.lemmas.List.{reverse-append}
use Rattle.std.proofs.lemmas.Option.{slice_get-get_or}
use Rattle.ebpf_decode.specs.declared.map.MapDef.{MapDef}
use Rattle.map_updates.specs.declared.update.MapUpdate.{MapUpdate}
use Rattle.semantics.specs.declared.call.Caller.TheVariants.{Controller}
use Rattle.semantics.specs.declared.call.Entry.{Entry}
use Rattle.semantics.specs.declared.options.Options.{Options}
use Rattle.semantics.specs.declared.plan.ShardPlan.{ShardPlan}
use Rattle.semantics.specs.Reclamation.{entered_at}
use Rattle.semantics.specs.ShardPlan.{plan_at}
use Rattle.shard_core.specs.JournaledShard.{JournaledShard, opened_shard}
use Rattle.shards.specs.Opening.{AreOpened}
use Rattle.map_port.specs.Served.{Maps}
use Rattle.shard_port.proofs.shared.ReadyLemmas.{plan_number}
use Rattle.shards.specs.Seats.{no_plan}
use Rattle.shards.specs.NewShards.{shard_at}
use Rattle.runs.specs.ShardRuns.{IsOutsideNumbered}
use Rattle.runs.specs.Updates.{served_by, entry_of_update, updates_at, AreUpdated}

-- ---- opened

as_opened : (found : Option ShardPlan) (one : JournaledShard) → Some one ≡ option_map opened_shard found → (found ≡ Some one.plan) × (one.journal ≡ [])
as_opened None one is = absurd cc
as_opened (Some plan) one is =
    let same : one ≡ opened_shard plan = cc in
    (ap (λ (s : JournaledShard). Some s.plan) (sym same), ap (λ (s : JournaledShard). s.journal) same)

pub updated_none : (maps : List MapDef) (options : Options) (shards : List JournaledShard) → AreOpened maps options shards → AreUpdated maps options [] shards
updated_none maps options shards opened = record {
  count = opened.count;
  planned = λ number within. (at number within).0;
  written = λ number within. (at number within).1;
  taken = λ number plan planned. tt;
}
  where
    at : (number : ℕ) → number < length shards → (plan_at maps options number ≡ Some (shard_at shards number).plan) × ((shard_at shards number).journal ≡ [])
    at number within =
        as_opened (plan_at maps options number) (shard_at shards number)
        (sym (slice_get-get_or shards number (opened_shard no_plan) within) ∙ opened.each number within)

-- ---- nobody is inside

abbrev IsControllers : Entry → Type 0
IsControllers entry = entry.who ≡ Controller

none_entered : (worker : ℕ) (history : List Entry) → AllByRecursion IsControllers history → entered_at worker history ≡ None
none_entered worker [] all = refl
none_entered worker (entry ∷ older) all = rw all.0 (none_entered worker older all.1)

all_append : (xs ys : List Entry) → AllByRecursion IsControllers xs → AllByRecursion IsControllers ys → AllByRecursion IsControllers (xs ++ ys)
all_append [] ys first second = second
all_append (x ∷ xs) ys first second = (first.0, all_append xs ys first.1 second)

all_reversed : (xs : List Entry) → AllByRecursion IsControllers xs → AllByRecursion IsControllers (reverse xs)
all_reversed [] all = tt
all_reversed (x ∷ xs) all =
    subst (AllByRecursion IsControllers) (sym (reverse-append (x ∷ []) xs)) (all_append (reverse xs) (x ∷ []) (all_reversed xs all.1) (all.0, tt))

of_controller : (served : Maps) (updates : List MapUpdate) → AllByRecursion IsControllers (map (entry_of_update served) updates)
of_controller served [] = tt
of_controller served (update ∷ later) = (refl, of_controller served later)

pub outside_updated : (maps : List MapDef) (options : Options) (updates : List MapUpdate) (shards : List JournaledShard) (worker : ℕ) →
    AreUpdated maps options updates shards → IsOutsideNumbered worker shards
outside_updated maps options updates shards worker are = record {
  outside = λ number within.
      ap is_some (ap (λ (journal : List Entry). entered_at worker (reverse journal)) (are.written number within)
      ∙ none_entered worker (reverse (updates_at (served_by maps options) number updates))
      (all_reversed (updates_at (served_by maps options) number updates) (of_controller (served_by maps options) _)));
  numbered = λ number within. (plan_number options number _ (shard_at shards number).plan (are.planned number within)).0;
}
