-- What turns of an exact replay need, and what they leave: as many records were counted as came before, and it is known which command is next.
use Rattle.std.specs.Prelude.{◌≡◌, ◌≤◌, ℕ, List, length}
use Rattle.ebpf_decode.specs.declared.map.MapDef.{MapDef}
use Rattle.wire.specs.declared.records.Sent.{Sent}
use Rattle.semantics.specs.Program.{Program}
use Rattle.control.specs.declared.command.Command.{Command}
use Rattle.actors.specs.declared.outcome.ToldEnd.{ToldEnd}
use Rattle.actors.specs.Accounts.{frames_in}
use Rattle.actors.specs.Commands.{ServesScript}
use Rattle.replay.specs.ExactReplays.{starts_in}
use Rattle.replay.specs.InTurn.{TurnState, IsSameSetting, AreTurns}
use Rattle.replay.specs.TurnStates.{with_earlier}
use Rattle.replay.specs.Turns.{due_before, turns_to}

-- the record of this number can be next, over these maps
pub record CanTakeTurns (maps : List MapDef) (script : List Command) (starts : List ℕ) (next number : ℕ) (state : TurnState) : Type 0 where
  pub starts_are : starts ≡ starts_in script
  pub next_is : next ≡ due_before starts number
  pub within : next ≤ length starts
  pub maps_are : state.all.maps ≡ maps
  pub serves : ServesScript state.all.maps state.controller.size script
  pub counted : frames_in state.counts ≡ number

-- the turns of the records from one number up to another were taken, in each capture in which these are the records
pub record AreTaken (program : Program) (script : List Command) (starts : List ℕ) (IsCapture : List Sent → Type 0) (from to : ℕ)
    (before after : TurnState) (next : ℕ) : Type 0 where
  pub next_is : next ≡ due_before starts to
  pub within : next ≤ length starts
  pub turns : (records sent : List Sent) (ends : List ToldEnd) (first : TurnState) → IsCapture records
      → AreTurns program script records before.all.options.workers (turns_to starts from) first (with_earlier sent ends before)
      → AreTurns program script records before.all.options.workers (turns_to starts to) first (with_earlier sent ends after)
  pub same : IsSameSetting before after
  pub counted : frames_in after.counts ≡ to
