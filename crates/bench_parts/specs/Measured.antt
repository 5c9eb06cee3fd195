-- The shards that are measured, and who is at work there.
use Rattle.std.specs.Prelude.{◌≡◌, ◌<◌, ℕ, true, List, []}
use Rattle.ebpf_decode.specs.declared.map.MapKind.TheVariants.{Array}
use Rattle.semantics.specs.declared.call.Caller.{Caller}
use Rattle.semantics.specs.declared.call.Caller.TheVariants.{Worker}
use Rattle.semantics.specs.declared.plan.ShardPlan.{ShardPlan}
use Rattle.semantics.specs.Reclamation.{is_inside, holds}
use Rattle.shards.specs.Passes.{PassView, own_at}

-- the only shard of an array of 64 keys, for four workers
abbrev pub measured_plan : ℕ → ShardPlan
measured_plan number = record {
  number = number;
  part = 0;
  parts = 1;
  definition = record { kind = Array; key_size = 4; value_size = 8; max_entries = 64 };
  workers = 4;
  reserve = 1048576;
}

abbrev pub number_of : Caller → ℕ
number_of (Worker number) = number
number_of who = 0

-- one of the four workers, and a shard that is measured
pub record IsOfWorker (count : ℕ) (plan : ℕ → ShardPlan) (pass : PassView) (shard : ℕ) : Type 0 where
  pub below : shard < count
  pub planned : plan shard ≡ measured_plan shard
  pub worker : pass.who ≡ Worker (number_of pass.who)
  pub few : number_of pass.who < 4

-- it has done nothing there
pub record IsPassReady (count : ℕ) (plan : ℕ → ShardPlan) (pass : PassView) (shard : ℕ) : Type 0 where
  pub of_worker : IsOfWorker count plan pass shard
  pub fresh : own_at pass shard ≡ []

-- it is inside
pub record IsPassAtWork (count : ℕ) (plan : ℕ → ShardPlan) (pass : PassView) (shard : ℕ) : Type 0 where
  pub of_worker : IsOfWorker count plan pass shard
  pub inside : is_inside (number_of pass.who) (own_at pass shard) ≡ true

-- and holds the cell
abbrev pub PassHoldsThere : PassView → ℕ → ℕ → Type 0
PassHoldsThere pass shard cell = holds (number_of pass.who) cell (own_at pass shard) ≡ true
