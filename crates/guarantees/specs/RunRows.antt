-- One run of the system, by computation, and what is none: with another verdict, on another frame, without one of its entries; and one
-- run that a full journal stopped.
use Rattle.std.specs.Prelude.{◌≡◌, ℕ, pos, List, [], ◌∷◌, map, replicate}
use Rattle.ebpf_decode.specs.declared.map.MapKind.TheVariants.{Array}
use Rattle.semantics.specs.declared.call.Caller.TheVariants.{Worker}
use Rattle.semantics.specs.declared.call.Call.TheVariants.{Enter, Leave, Lookup, Load, Update}
use Rattle.semantics.specs.declared.call.Reply.TheVariants.{Entered, Left, Cell, Word, Answer}
use Rattle.semantics.specs.declared.call.Entry.{Entry}
use Rattle.semantics.specs.declared.plan.ShardPlan.{ShardPlan}
use Rattle.semantics.specs.declared.verdict.Verdict.{Verdict}
use Rattle.semantics.specs.declared.verdict.Verdict.TheVariants.{Tx}
use Rattle.semantics.specs.MachineState.{MachineState}
use Rattle.semantics.specs.System.{Setting}
use Rattle.semantics.specs.SystemRows.{setting_over, first_path, frame_of, by_worker, by_controller, key_of_byte, value_of, cell_at}
use Rattle.shards.specs.declared.deeds.Deed.TheVariants.{Wrote, MetFull}
use Rattle.shards.specs.Passes.{PassView}
use Rattle.guarantees.specs.SystemRuns.{IsRunOfSystem, IsStoppedInSystem}

-- a program that adds the frame's last byte and a map's number, and has the sum as its verdict
abbrev pub row_setting : Setting
row_setting = setting_over Array first_path

-- a pass of worker 0 which has these entries on shard 0, the newest first, and did nothing else
abbrev pub pass_with : List Entry → PassView
pass_with entries = record {
  who = Worker 0;
  views = (record { seen = entries; own = entries }) ∷ [];
  deeds = map (λ (entry : Entry). Wrote entry) entries;
}

abbrev pub lookup_of_row : Entry
lookup_of_row = by_worker (Lookup 0 (key_of_byte 0)) (Cell (cell_at 0))

abbrev pub load_of_row : Entry
load_of_row = by_worker (Load (cell_at 0) 0 8) (Word 0)

-- worker 0 runs the program on a frame whose last byte is this, and has these entries then
abbrev pub IsRow : ℕ → List Entry → Verdict → MachineState → Type 0
IsRow byte entries verdict last = IsRunOfSystem row_setting 0 0 0 (frame_of byte) 1 (pass_with []) (pass_with entries) verdict last

abbrev pub row_entries : List Entry
row_entries = by_worker (Leave 0) Left ∷ load_of_row ∷ lookup_of_row ∷ by_worker (Enter 0) Entered ∷ []

-- the shard of its map, and a journal of it with 15 entries: a run that is not inside has no room there
abbrev pub row_plan : ShardPlan
row_plan = record {
  number = 0;
  part = 0;
  parts = 1;
  definition = record { kind = Array; key_size = 4; value_size = 8; max_entries = 1 };
  workers = 1;
  reserve = 16;
}

abbrev pub full_history : List Entry
full_history = replicate 15 (by_controller (Update 0 (key_of_byte 0) (value_of 5) 0) (Answer (pos 0)))

-- a pass of worker 0 which has seen these entries on shard 0, and whose only deed is an Enter that met a full journal
abbrev pub pass_that_saw : List Entry → PassView
pass_that_saw entries = record {
  who = Worker 0;
  views = (record { seen = entries; own = [] }) ∷ [];
  deeds = MetFull (Worker 0) (Enter 0) ∷ [];
}

pub record RunRows : Type 0 where
  -- on a frame that ends with byte 3 the run sends it
  pub last : MachineState
  pub runs : IsRow 3 row_entries Tx last
  -- with any other verdict or last state it is no run
  pub one_verdict : (verdict : Verdict) (other : MachineState) → IsRow 3 row_entries verdict other → (verdict ≡ Tx) × (other ≡ last)
  -- on a frame that ends with byte 2 it is none
  pub other_frame : (other : MachineState) → ¬ IsRow 2 row_entries Tx other
  -- without its Load it is none, with whatever verdict, and without all of its entries
  pub other_entries :
      (verdict : Verdict) (other : MachineState) →
      ¬ IsRow 3 (by_worker (Leave 0) Left ∷ lookup_of_row ∷ by_worker (Enter 0) Entered ∷ []) verdict other
  pub no_entries : (verdict : Verdict) (other : MachineState) → ¬ IsRow 3 [] verdict other
  -- where the journal has 15 of its 16 entries, the run stops at its Lookup, and has written nothing
  pub waiting : MachineState
  pub stops :
      IsStoppedInSystem row_setting 0 0 0 (frame_of 3) (λ number. row_plan) 1 (pass_with []) (pass_that_saw full_history)
      (Lookup 0 (key_of_byte 0)) waiting
