-- An exact replay of a capture that comes in pieces: how far it is, and what it makes of the whole capture.
use Rattle.std.specs.Prelude.{◌≡◌, ◌+◌, ◌<◌, ◌≤◌, ◌^◌, ℕ, List, [], length, slice_get}
use Rattle.map_updates.specs.declared.update.MapUpdate.{MapUpdate}
use Rattle.wire.specs.declared.records.Sent.{Sent}
use Rattle.semantics.specs.declared.options.Options.{Options}
use Rattle.semantics.specs.Program.{Program}
use Rattle.semantics.specs.ShardPlan.{AreOptions}
use Rattle.maglev.specs.RingSize.{IsRingSize}
use Rattle.control.specs.declared.command.Command.{Command}
use Rattle.replay.specs.declared.in_pieces.PieceReplay.{PieceReplay}
use Rattle.actors.specs.declared.outcome.Outcome.{Outcome}
use Rattle.actors.specs.declared.outcome.ToldEnd.{ToldEnd}
use Rattle.actors.specs.Accounts.{frames_in}
use Rattle.actors.specs.Commands.{ServesScript}
use Rattle.replay.specs.ExactReplays.{HasBegun, starts_in, first_state}
use Rattle.replay.specs.InTurn.{TurnMaps, AreTurns}
use Rattle.replay.specs.TurnOrder.{IsExact}
use Rattle.replay.specs.TurnStates.{state_in, with_earlier}
use Rattle.replay.specs.Turns.{due_before, turns_to}

-- from this number on the records are those of the piece
abbrev pub HasPiece : List Sent → ℕ → List Sent → Type 0
HasPiece records first piece = (place : ℕ) → place < length piece → slice_get records (first + place) ≡ slice_get piece place

-- The replay can go on with this script, which fits its maps: it counted each record once, knows which command is next, and keeps nothing
-- that was handed out.
pub record ReplayGoesOn (script : List Command) (replay : PieceReplay) : Type 0 where
  pub serves : ServesScript replay.turns.all.maps replay.turns.controller.size script
  pub starts : replay.starts.items ≡ starts_in script
  pub next : replay.next ≡ due_before replay.starts.items replay.taken
  pub within : replay.next ≤ length replay.starts.items
  pub counted : frames_in replay.turns.counts ≡ replay.taken
  pub few : replay.taken < 2 ^ 63
  pub none_sent : replay.turns.sent.items ≡ []
  pub no_ends : replay.turns.ends.items ≡ []

-- The first updates were made, and then all turns up to the last of these records, and a round if it was its time. What was sent of them,
-- and what became of each, was handed out.
pub record IsUnderway (program : Program) (script : List Command) (options : Options) (updates : List MapUpdate) (records sent : List Sent)
    (ends : List ToldEnd) (replay : PieceReplay) : Type 0 where
  pub size : ℕ
  pub size_is_served : IsRingSize size
  pub serves : ServesScript program.maps size script
  pub options_fit : AreOptions program.maps options
  pub begun : TurnMaps
  pub first : HasBegun program.maps options updates begun
  pub in_order :
      AreTurns program script records options.workers (turns_to (starts_in script) (length records)) (first_state begun size)
      (with_earlier sent ends (state_in replay.turns))
  pub taken : replay.taken ≡ length records
  pub maps : replay.turns.all.maps ≡ program.maps
  pub options_are : replay.turns.all.options ≡ options

-- the whole outcome is this one with these sent frames and these ends
pub record IsWholeOutcome (rest : Outcome) (sent : List Sent) (ends : List ToldEnd) (whole : Outcome) : Type 0 where
  pub counts : whole.counts ≡ rest.counts
  pub updates : whole.updates.items ≡ rest.updates.items
  pub refused : whole.refused.items ≡ rest.refused.items
  pub journals : whole.journals ≡ rest.journals
  pub sent_are : whole.sent.items ≡ sent
  pub ends_are : whole.ends.items ≡ ends

-- with the frames and the ends that were handed out, it is the outcome of an exact replay of all records
pub record IsReplayedInPieces (program : Program) (script : List Command) (options : Options) (records sent : List Sent) (ends : List ToldEnd)
    (rest : Outcome) : Type 0 where
  pub whole : Outcome
  pub is_whole : IsWholeOutcome rest sent ends whole
  pub exact : IsExact program script options records whole
