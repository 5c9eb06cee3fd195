-- The shards of an image's maps, as many callers share them.
use Rattle.std.specs.Prelude.{◌≡◌, ℕ, ◌*◌, ◌<◌, List, length, Some}
use Rattle.atomic_table.specs.Seated.{TableId}
use Rattle.atomic_table.specs.declared.owned.Table.{Table}
use Rattle.ebpf_decode.specs.declared.map.MapDef.{MapDef}
use Rattle.semantics.specs.declared.options.Options.{Options}
use Rattle.semantics.specs.declared.plan.ShardPlan.{ShardPlan}
use Rattle.semantics.specs.ShardPlan.{plan_at, AreOptions}
use Rattle.journals.specs.JournalsView.{AreImageMaps}
use Rattle.semantics.specs.Each.{Each}
use Rattle.shards.specs.GuardedView.{KeyedPlan, keys}
use Rattle.shards.specs.Seats.{IsLockOf}

-- what they were opened for
pub record SharedMaps : Type 0 where
  pub maps : List MapDef
  pub options : Options

-- each word is that of its number
abbrev pub AreLocks : {S V P A : Type 0} → (ℕ → TableId) → (ℕ → KeyedPlan) → List (Table S V KeyedPlan P A) → Type 0
AreLocks {S} {V} {P} {A} table key locks =
    Each (λ (number : ℕ) (lock : Table S V KeyedPlan P A). IsLockOf (table number) (key number) lock) 0 locks

-- N shards, each as its plan has it
pub record ArePlans (maps : List MapDef) (options : Options) (count : ℕ) (plan : ℕ → ShardPlan) : Type 0 where
  pub count_is : count ≡ length maps * options.shards
  pub each : (number : ℕ) → number < count → plan_at maps options number ≡ Some (plan number)

pub record AreShared {S V P A : Type 0} (table : ℕ → TableId) (plan : ℕ → ShardPlan) (order : TableId) (count : ℕ)
    (locks : List (Table S V KeyedPlan P A))
    (maps : List MapDef) (options : Options) : Type 0 where
  pub locks_are : AreLocks table (keys plan order) locks
  pub sized : length locks ≡ count
  pub plans : ArePlans maps options count plan
  pub options_fit : AreOptions maps options
  pub maps_are : AreImageMaps maps
