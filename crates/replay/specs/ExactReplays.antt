-- What an exact replay is: the turns of its capture and its script, in their order, on one thread.
use Rattle.std.specs.Prelude.{◌≡◌, ◌<◌, ℕ, List, [], length, map}
use Rattle.wire.specs.declared.records.Sent.{Sent}
use Rattle.semantics.specs.declared.options.Options.{Options}
use Rattle.ebpf_decode.specs.declared.map.MapDef.{MapDef}
use Rattle.map_updates.specs.declared.update.MapUpdate.{MapUpdate}
use Rattle.semantics.specs.History.{IsLegalJournal}
use Rattle.semantics.specs.Program.{Program}
use Rattle.journals.specs.JournalsView.{entries_at}
use Rattle.maglev.specs.RingSize.{IsRingSize}
use Rattle.shard_core.specs.JournaledShard.{JournaledShard}
use Rattle.shards.specs.NewShards.{shard_at}
use Rattle.shards.specs.Opening.{AreOpened}
use Rattle.control.specs.declared.command.Command.{Command}
use Rattle.actors.specs.declared.outcome.Outcome.{Outcome}
use Rattle.actors.specs.Accounts.{no_counts, frames_in}
use Rattle.control.specs.Controlling.{opened_controller}
use Rattle.actors.specs.Commands.{ServesScript}
use Rattle.actors.specs.FirstUpdates.{AreSet}
use Rattle.actors.specs.Parts.{refused_of}
use Rattle.replay.specs.Turns.{all_turns}
use Rattle.replay.specs.InTurn.{TurnMaps, TurnState, IsUpdatedInTurn, AreTurns}

-- the frame number of each command
abbrev pub starts_in : List Command → List ℕ
starts_in script = map (λ (line : Command). line.frame) script

-- shards of these maps
abbrev pub first_maps : List MapDef → Options → List JournaledShard → TurnMaps
first_maps maps options shards = record { maps = maps; options = options; shards = shards }

-- shards of these maps in which nothing has happened but these updates, one after the other
pub record HasBegun (maps : List MapDef) (options : Options) (updates : List MapUpdate) (begun : TurnMaps) : Type 0 where
  pub opened : List JournaledShard
  pub opened_are : AreOpened maps options opened
  pub updated : AreSet IsUpdatedInTurn (first_maps maps options opened) updates begun

-- before the first turn: these shards, and a controller with no backend up
abbrev pub first_state : TurnMaps → ℕ → TurnState
first_state all size = record {
  all = all;
  controller = opened_controller size;
  noted = [];
  counts = no_counts;
  sent = [];
  ends = [];
}

-- The first updates were made, one after the other, over shards in which nothing had happened. Then the turns were taken in their order,
-- each from the state that the one before it left: before each record the commands that are due then, and a round after every 64 records.
-- What is returned is that of the last state.
pub record IsInTurn (program : Program) (script : List Command) (options : Options) (records : List Sent) (outcome : Outcome) : Type 0 where
  pub maps : outcome.journals.maps ≡ program.maps
  pub options_are : outcome.journals.options ≡ options
  pub size : ℕ
  pub size_is_served : IsRingSize size
  pub serves : ServesScript program.maps size script
  pub begun : TurnMaps
  pub first : HasBegun program.maps options outcome.updates.items begun
  pub last : TurnState
  pub in_order :
      AreTurns program script records options.workers (all_turns (starts_in script) (length records)) (first_state begun size) last
  pub counts : outcome.counts ≡ last.counts
  pub each_once : frames_in outcome.counts ≡ length records
  pub sent : outcome.sent.items ≡ last.sent
  pub ends : outcome.ends.items ≡ last.ends
  pub refused : outcome.refused.items ≡ refused_of last.noted
  pub count_is : length outcome.journals.shards ≡ length last.all.shards
  pub journals : (number : ℕ) → number < length last.all.shards →
      entries_at outcome.journals number ≡ (shard_at last.all.shards number).journal
  pub legal : (number : ℕ) → number < length last.all.shards →
      IsLegalJournal (shard_at last.all.shards number).plan (entries_at outcome.journals number)
