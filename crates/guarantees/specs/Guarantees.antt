-- What xlb promises, one statement for each guarantee. Each is the contract of a function of src/lib.rt.
use Rattle.std.specs.Prelude.{◌≡◌, ℕ, ◌==◌, List, ◌∷◌, ◌++◌, reverse, Some, slice_get, IsFalse}
use Rattle.ebpf_decode.specs.declared.map.MapDef.{MapDef}
use Rattle.wire.specs.FrameView.{FrameView}
use Rattle.semantics.specs.declared.call.Entry.{Entry}
use Rattle.semantics.specs.declared.options.Options.{Options}
use Rattle.semantics.specs.declared.plan.ShardPlan.{ShardPlan}
use Rattle.semantics.specs.ShardPlan.{plan_at}
use Rattle.semantics.specs.System.{Setting, SystemState, history_of}
use Rattle.semantics.specs.declared.verdict.Verdict.{Verdict}
use Rattle.semantics.specs.History.{shard_of_call, IsLegalJournal, IsSequentialStep}
use Rattle.verifier.specs.Verified.{Verified}
use Rattle.shard_core.specs.JournaledShard.{JournaledShard}
use Rattle.shards.specs.Opening.{AreOpened}
use Rattle.shard_port.specs.Asking.{is_in}
use Rattle.shard_port.specs.PortView.{ServesMaps}
use Rattle.machine.specs.Running.{program_of}
use Rattle.guarantees.specs.Moves.{Answers}
use Rattle.guarantees.specs.Runs.{IsOutside, AreLegalShards, Start, RanOver, WasStopped, IsTheMeaning, IsTheBeginning}

-- a run over shards in which its worker was not inside is the meaning of its program on the replies that are in the journals
abbrev pub RunsAreTheirMeaning : Type 0
RunsAreTheirMeaning =
    (verified : Verified) (options : Options) (start : Start) (before after : List JournaledShard) (verdict : Verdict) (steps : ℕ)
    (frame : FrameView) →
    IsOutside start.worker before → RanOver verified options start before after verdict steps frame →
    IsTheMeaning (program_of verified options.shards) start before after verdict steps frame

-- a run that a full journal stopped is a beginning of that
abbrev pub StoppedRunsAreBeginnings : Type 0
StoppedRunsAreBeginnings =
    (verified : Verified) (options : Options) (start : Start) (before after : List JournaledShard) (shard : ℕ) (frame : FrameView) →
    IsOutside start.worker before → WasStopped verified options start before after shard frame →
    IsTheBeginning (program_of verified options.shards) start before after shard frame

-- each entry of a legal journal is one step of the one-thread map, from what the entries before it lead to
abbrev pub EntriesAreSteps : Type 0
EntriesAreSteps =
    (plan : ShardPlan) (earlier later : List Entry) (entry : Entry) → IsLegalJournal plan (earlier ++ entry ∷ later) →
    IsSequentialStep plan (reverse earlier) entry

-- shards that were opened serve their maps, their journals are legal, and no worker is inside one: a first run can begin
abbrev pub OpenedShardsAreReady : Type 0
OpenedShardsAreReady =
    (maps : List MapDef) (options : Options) (shards : List JournaledShard) → AreOpened maps options shards →
    ServesMaps maps options shards × ∥ AreLegalShards shards ∥₁ × ((worker : ℕ) → IsOutside worker shards)

-- a run leaves every other worker inside or outside each shard, as it was: so runs of several workers can follow one another
abbrev pub RunsLeaveOthersAlone : Type 0
RunsLeaveOthersAlone =
    (verified : Verified) (options : Options) (start : Start) (before after : List JournaledShard) (verdict : Verdict) (steps : ℕ)
    (frame : FrameView) →
    IsOutside start.worker before → RanOver verified options start before after verdict steps frame →
    (other number : ℕ) (old new : JournaledShard) → IsFalse (start.worker == other) →
    slice_get before number ≡ Some old → slice_get after number ≡ Some new → is_in other new ≡ is_in other old

-- in a legal journal each entry is answered at its own place: where the history of its shard is what comes before it, its event can happen
abbrev pub EntriesAreAnswered : Type 0
EntriesAreAnswered =
    (setting : Setting) (system : SystemState) (plan : ShardPlan) (earlier later : List Entry) (entry : Entry) →
    plan_at setting.maps setting.options (shard_of_call entry.call) ≡ Some plan → IsLegalJournal plan (earlier ++ entry ∷ later) →
    history_of system plan.number ≡ reverse earlier → Answers setting system entry
