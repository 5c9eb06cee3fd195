-- The plans of shards that serve maps, though it is not said by which proof they do.
use Rattle.std.proofs.Common.{◌≡◌, ℕ, zero, suc, List, refl}
use Rattle.std.specs.Prelude.{Some}
use Rattle.std.specs.Coded.{Coded, code_by, coded×, coded_ℕ, coded_option}
use Rattle.std.proofs.Math.Logic.{∥∥₁_elim}
use denote.Struct.Props.{≡_prop}
use Rattle.ebpf_decode.specs.declared.map.MapDef.{MapDef}
use Rattle.ebpf_decode.specs.declared.map.MapKind.{MapKind}
use Rattle.ebpf_decode.specs.declared.map.MapKind.TheVariants.{Hash, Array, LruHash}
use Rattle.semantics.specs.declared.options.Options.{Options}
use Rattle.semantics.specs.declared.plan.ShardPlan.{ShardPlan}
use Rattle.semantics.specs.ShardPlan.{plan_at}
use Rattle.journals.specs.KeptEntries.{ArePlanned}
use Rattle.shard_core.specs.JournaledShard.{JournaledShard}
use Rattle.shard_port.specs.PortView.{AreShardsOf, ServesMaps}

kind_number : MapKind → ℕ
kind_number Hash = 0
kind_number Array = 1
kind_number LruHash = 2

kind_at : ℕ → MapKind
kind_at zero = Hash
kind_at (suc zero) = Array
kind_at (suc (suc n)) = LruHash

kind_at-kind_number : (kind : MapKind) → kind_at (kind_number kind) ≡ kind
unfolding kind_at kind_number
kind_at-kind_number Hash = refl
kind_at-kind_number Array = refl
kind_at-kind_number LruHash = refl

kind_code : Coded MapKind
kind_code = code_by ℕ coded_ℕ kind_number kind_at kind_at-kind_number

abbrev MapParts : Type 0
MapParts = MapKind × (ℕ × (ℕ × ℕ))

map_parts : MapDef → MapParts
map_parts definition = (definition.kind, (definition.key_size, (definition.value_size, definition.max_entries)))

map_of_parts : MapParts → MapDef
map_of_parts parts = record { kind = parts.0; key_size = parts.1.0; value_size = parts.1.1.0; max_entries = parts.1.1.1 }

map_code : Coded MapDef
unfolding map_parts map_of_parts
map_code = code_by MapParts (coded× kind_code (coded× coded_ℕ (coded× coded_ℕ coded_ℕ))) map_parts map_of_parts (λ _. refl)

abbrev PlanParts : Type 0
PlanParts = ℕ × (ℕ × (ℕ × (MapDef × (ℕ × ℕ))))

plan_parts : ShardPlan → PlanParts
plan_parts plan = (plan.number, (plan.part, (plan.parts, (plan.definition, (plan.workers, plan.reserve)))))

plan_of_parts : PlanParts → ShardPlan
plan_of_parts parts = record {
  number = parts.0;
  part = parts.1.0;
  parts = parts.1.1.0;
  definition = parts.1.1.1.0;
  workers = parts.1.1.1.1.0;
  reserve = parts.1.1.1.1.1;
}

plan_code : Coded ShardPlan
unfolding plan_parts plan_of_parts
plan_code = code_by PlanParts (coded× coded_ℕ (coded× coded_ℕ (coded× coded_ℕ (coded× map_code (coded× coded_ℕ coded_ℕ))))) plan_parts plan_of_parts (λ _. refl)

pub plans_served : (maps : List MapDef) (options : Options) (shards : List JournaledShard) → ServesMaps maps options shards → ArePlanned maps options shards
plans_served maps options shards serve number shard there =
    ∥∥₁_elim serve (≡_prop (coded_option plan_code) (plan_at maps options number) (Some shard.plan))
    (λ (are : AreShardsOf maps options shards). (are.each number shard there).planned)
