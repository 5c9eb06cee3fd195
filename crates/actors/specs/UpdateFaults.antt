-- What a fault of an update says of the controller's pass to shards that it shares.
use Rattle.std.specs.Prelude.{◌≡◌, ◌⊎◌, ℕ, List}
use Rattle.ebpf_decode.specs.declared.map.MapDef.{MapDef}
use Rattle.map_updates.specs.declared.update.MapUpdate.{MapUpdate}
use Rattle.semantics.specs.declared.options.Options.{Options}
use Rattle.semantics.specs.declared.plan.ShardPlan.{ShardPlan}
use Rattle.shards.specs.Passes.{PassView}
use Rattle.actors.specs.declared.fault.ReplayFault.{ReplayFault}
use Rattle.actors.specs.declared.fault.ReplayFault.TheVariants.{BadOptions, Memory, NoThread}
use Rattle.actors.specs.FirstUpdates.{IsWhyLeft}
use Rattle.actors.specs.SharedUpdates.{IsUpdated, IsTurnedAway}

-- from this pass of the controller to that one: those before it were answered 0, one after the other
abbrev pub IsWhyByPass : (plan : ℕ → ShardPlan) (maps : List MapDef) (options : Options) (before after : PassView) → List MapUpdate →
    ReplayFault → Type 0
IsWhyByPass plan maps options before after updates fault =
    IsWhyLeft (IsUpdated plan) (IsTurnedAway plan) (record { maps = maps; options = options; pass = before }) updates
    (record { maps = maps; options = options; pass = after }) fault

-- the fault is that of no update
abbrev pub IsOfNoUpdate : ReplayFault → Type 0
IsOfNoUpdate fault = (fault ≡ Memory) ⊎ ((fault ≡ BadOptions) ⊎ (fault ≡ NoThread))

-- and otherwise this holds of it
abbrev pub OfUpdate : (ReplayFault → Type 0) → ReplayFault → Type 0
OfUpdate why fault = IsOfNoUpdate fault ⊎ why fault
