-- Runs alone, computed: one behind an update, and one behind as many updates as leave room for its Enter and its Leave. They are what the
-- laws on runs alone ask for, and so lists of events.
use Rattle.std.specs.Prelude.{ℕ, pos, List, [], ◌∷◌, ◌++◌, replicate}
use Rattle.wire.specs.FrameView.{FrameView}
use Rattle.map_updates.specs.declared.update.MapUpdate.{MapUpdate}
use Rattle.semantics.specs.declared.call.Call.TheVariants.{Enter, Leave, Lookup, Load, Update}
use Rattle.semantics.specs.declared.call.Reply.TheVariants.{Entered, Left, Cell, Word, Answer}
use Rattle.semantics.specs.declared.call.Entry.{Entry}
use Rattle.semantics.specs.declared.verdict.Verdict.TheVariants.{Tx}
use Rattle.semantics.specs.Events.{Exited, Stopped}
use Rattle.semantics.specs.MachineState.{MachineState, initial_state}
use Rattle.semantics.specs.System.{program_of_setting, input_frame}
use Rattle.semantics.specs.SystemRows.{frame_of, by_controller, by_worker, key_of_byte, value_of, cell_at}
use Rattle.journals.specs.JournalsView.{JournalsView}
use Rattle.machine.specs.declared.exit.Stop.TheVariants.{JournalFull}
use Rattle.map_port.specs.Exchanges.{Exchange}
use Rattle.runs.specs.SingleRuns.{HasRunAlone, HasStoppedAlone}
use Rattle.guarantees.specs.RunRows.{row_setting}
use Rattle.guarantees.specs.RunsAlone.{IsAskedAlone, IsAloneInSystem}

-- the map's number is set
abbrev pub set_to : ℕ → MapUpdate
set_to number = record { map = 0; key = key_of_byte 0; value = value_of number }

abbrev pub set_by : ℕ → Entry
set_by number = by_controller (Update 0 (key_of_byte 0) (value_of number) 0) (Answer (pos 0))

-- then worker 0 runs the program on a frame whose last byte is 1
abbrev pub row_start : MachineState
row_start = initial_state (input_frame (frame_of 1)) 0 0

-- the journal of the map's one shard
abbrev pub row_journals : List Entry → JournalsView
row_journals entries = record { maps = row_setting.maps; options = row_setting.options; shards = entries ∷ [] }

-- the run reads the number 2
abbrev pub read_two : List Exchange
read_two = (record { call = Lookup 0 (key_of_byte 0); reply = Cell (cell_at 0) }) ∷ (record { call = Load (cell_at 0) 0 8; reply = Word 2 }) ∷ []

abbrev pub ended_journal : List Entry
ended_journal =
    set_by 2 ∷ by_worker (Enter 0) Entered ∷ by_worker (Lookup 0 (key_of_byte 0)) (Cell (cell_at 0)) ∷ by_worker (Load (cell_at 0) 0 8) (Word 2) ∷
    by_worker (Leave 0) Left ∷ []

-- the journal has room for 16 entries: behind 14 updates the run enters, and its first call meets a full journal
abbrev pub stopped_journal : List Entry
stopped_journal = replicate 14 (set_by 5) ++ by_worker (Enter 0) Entered ∷ by_worker (Leave 0) Left ∷ []

pub record AloneRow : Type 0 where
  -- the sum of byte and number is the verdict
  pub asked : IsAskedAlone row_setting 0 0 (frame_of 1) (set_to 2 ∷ [])
  pub last : MachineState
  pub ran :
      HasRunAlone (program_of_setting row_setting) row_start row_setting.options 0 (set_to 2 ∷ []) Tx last.steps last.frame (row_journals ended_journal)
  pub ended : IsAloneInSystem row_setting 0 0 (frame_of 1) (set_to 2 ∷ []) (Exited Tx last.frame.bytes last.steps) (row_journals ended_journal)
  -- and one is stopped
  pub asked_more : IsAskedAlone row_setting 0 0 (frame_of 1) (replicate 14 (set_to 5))
  pub left : FrameView
  pub stops :
      HasStoppedAlone (program_of_setting row_setting) row_start row_setting.options 0 (replicate 14 (set_to 5)) left (JournalFull 0)
      (row_journals stopped_journal)
  pub stopped : IsAloneInSystem row_setting 0 0 (frame_of 1) (replicate 14 (set_to 5)) (Stopped 0) (row_journals stopped_journal)
