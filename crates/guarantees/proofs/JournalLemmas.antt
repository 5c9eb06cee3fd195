-- Legal journals, entry by entry.
use Rattle.std.proofs.Common.{List, sym, subst}
use Rattle.std.proofs.Math.Logic.{∥∥₁_map}
use Rattle.ebpf_decode.specs.declared.map.MapDef.{MapDef}
use Rattle.semantics.specs.declared.call.Entry.{Entry}
use Rattle.semantics.specs.declared.options.Options.{Options}
use Rattle.semantics.specs.History.{IsLegalStep}
use Rattle.semantics.specs.System.{history_of}
use Rattle.shard_core.specs.JournaledShard.{JournaledShard}
use Rattle.shard_port.specs.PortView.{AreShardsOf, ServesMaps}
use Rattle.guarantees.specs.Guarantees.{EntriesAreAnswered}
use Rattle.guarantees.specs.Runs.{AreLegalShards}
use Rattle.guarantees.proofs.LegalEntries.{entry_is_legal}

pub entries_answered : EntriesAreAnswered
entries_answered setting system plan earlier later entry known legal history =
    let step : IsLegalStep plan (history_of system plan.number) entry =
    subst (λ (one : List Entry). IsLegalStep plan one entry) (sym history) (entry_is_legal plan earlier later entry legal) in
    record { plan = plan; known = known; room = step.room; replied = step.step.replied }

-- shards that serve their maps have legal journals
pub are_legal : (maps : List MapDef) (options : Options) (shards : List JournaledShard) → ServesMaps maps options shards →
    ∥ AreLegalShards shards ∥₁
are_legal maps options shards serve = ∥∥₁_map serve (λ (are : AreShardsOf maps options shards). λ number shard known.
    (are.each number shard known).legal)
