-- A shard in which nothing has happened.
use Rattle.std.proofs.Common.{◌≡◌, ℕ, zero, suc, ◌+◌, ◌<◌, ◌≤◌, nat_lt, List, [], length, replicate, get_or, Some, None, arith, refl, sym, ◌∙◌}
use Rattle.std.specs.Prelude.{IsTrue}
use Rattle.std.proofs.lemmas.List.{length-replicate}
use Rattle.std.proofs.lemmas.Bool.Decides.{nat_tests}
use Rattle.ebpf_decode.specs.declared.map.MapKind.{MapKind}
use Rattle.ebpf_decode.specs.declared.map.MapKind.TheVariants.{Array, Hash, LruHash}
use Rattle.semantics.specs.declared.plan.ShardPlan.{ShardPlan}
use Rattle.semantics.specs.ShardPlan.{capacity}
use Rattle.semantics.specs.PlanLimits.{IsPlan}
use Rattle.semantics.specs.SequentialShard.{SequentialShard, opening_cells, is_kept_of_kind}
use Rattle.journal.specs.Journaled.{Journaled, opened_journal}
use Rattle.map_cells.specs.CellTable.{CellTable}
use Rattle.shard_core.specs.declared.keys.KeyTable.{KeyTable}
use Rattle.shard_core.specs.KeyTables.{FitsPlan, HasKeys}
use Rattle.shard_core.specs.Sections.{no_readers}
use Rattle.shard_core.specs.Contents.{opened_table}
use Rattle.shard_core.specs.ShardFields.{Mirrors, HasAllPlaces, IsShard}

abbrev opened_state : MapKind → ShardPlan → SequentialShard
opened_state kind plan = record { present = []; cells = opening_cells kind plan; retired = [] }

sized_opened : (kind : MapKind) (plan : ShardPlan) → (opened_table kind plan).value_size ≡ plan.definition.value_size
sized_opened Array plan = length-replicate plan.definition.value_size 0
sized_opened Hash plan = refl
sized_opened LruHash plan = refl

counted_opened : (kind : MapKind) (plan : ShardPlan) → length (opened_table kind plan).cells ≡ length (opening_cells kind plan)
counted_opened Array plan = length-replicate (capacity plan) (Some (replicate plan.definition.value_size 0)) ∙ sym (length-replicate (capacity plan) (replicate plan.definition.value_size 0))
counted_opened Hash plan = refl
counted_opened LruHash plan = refl

filled : (count id : ℕ) (value : List ℕ) → id < count → get_or (replicate count (Some value)) id None ≡ Some (get_or (replicate count value) id [])
filled zero id value below = absurd (omega (arith, below))
filled (suc count) zero value below = refl
filled (suc count) (suc id) value below = filled count id value (omega (arith, below))

array_opened : (count id : ℕ) (value : List ℕ) → IsTrue (nat_lt id (length (replicate count value))) → get_or (replicate count (Some value)) id None ≡ Some (get_or (replicate count value) id [])
array_opened count id value kept =
    let long : length (replicate count value) ≡ count = length-replicate count value in
    let within : id < length (replicate count value) = grind (arith, nat_tests) in
    filled count id value (omega (arith, within, long))

mirrored_opened : (kind : MapKind) (plan : ShardPlan) → Mirrors (is_kept_of_kind kind (opened_state kind plan)) (opened_table kind plan).cells (opening_cells kind plan)
mirrored_opened Array plan id kept = array_opened (capacity plan) id (replicate plan.definition.value_size 0) kept
mirrored_opened Hash plan id kept = cc
mirrored_opened LruHash plan id kept = cc

retired_opened : (kind : MapKind) (plan : ShardPlan) → (opened_table kind plan).retired ≡ []
retired_opened Array plan = refl
retired_opened Hash plan = refl
retired_opened LruHash plan = refl

room_opened : (kind : MapKind) (plan : ShardPlan) → length (opening_cells kind plan) + plan.reserve ≤ (opened_table kind plan).ids
room_opened Array plan =
    let zeros : List ℕ = replicate plan.definition.value_size 0 in
    let long : length (replicate (capacity plan) zeros) ≡ capacity plan = length-replicate (capacity plan) zeros in
    omega (arith, long)
room_opened Hash plan = omega arith
room_opened LruHash plan = omega arith

balance_opened : (kind : MapKind) (plan : ShardPlan) → HasAllPlaces kind plan (opened_state kind plan) (opened_table kind plan)
balance_opened Array plan = tt
balance_opened Hash plan = (refl, omega arith)
balance_opened LruHash plan = (refl, omega arith)

pub shard_opened : (plan : ShardPlan) (journal : Journaled) (cells : CellTable) (keys : KeyTable) → IsPlan plan
    → journal ≡ opened_journal plan.number plan.reserve plan.definition.key_size plan.definition.value_size → cells ≡ opened_table plan.definition.kind plan → FitsPlan keys plan → HasKeys keys [] []
    → IsShard plan journal cells keys no_readers
shard_opened plan journal cells keys is same_journal same_cells fits none =
    rw (same_journal, same_cells) (record {
      plan_is = is;
      journal_is = record { number = refl; reserve = refl; key_size = refl; value_size = refl };
      legal = tt;
      readers_are = refl;
      contents = record {
        sized = sized_opened plan.definition.kind plan;
        counted = counted_opened plan.definition.kind plan;
        mirrored = mirrored_opened plan.definition.kind plan;
        retired = retired_opened plan.definition.kind plan;
        id_room = room_opened plan.definition.kind plan;
        balance = balance_opened plan.definition.kind plan;
        fits = fits;
        has = none;
      };
    })
