-- How the fields of a shard follow from its journal. The definitions keep the bytes of every cell that ever was; the code keeps those of
-- cells that are present or wait for their readers.
use Rattle.std.specs.Prelude.{◌≡◌, ℕ, ◌+◌, ◌*◌, ◌≤◌, Bool, IsTrue, List, [], length, reverse, map, Option, Some, None}
use Rattle.std.specs.Prelude.{slice_index_or}
use Rattle.ebpf_decode.specs.declared.map.MapKind.{MapKind}
use Rattle.ebpf_decode.specs.declared.map.MapKind.TheVariants.{Array}
use Rattle.semantics.specs.declared.call.Entry.{Entry}
use Rattle.semantics.specs.declared.plan.RetiredCell.{RetiredCell}
use Rattle.semantics.specs.declared.plan.ShardPlan.{ShardPlan}
use Rattle.semantics.specs.ShardPlan.{capacity}
use Rattle.semantics.specs.PlanLimits.{IsPlan}
use Rattle.semantics.specs.SequentialShard.{SequentialShard, opening_cells, is_kept, shard_after}
use Rattle.semantics.specs.History.{IsLegalJournal}
use Rattle.journal.specs.Journaled.{Journaled}
use Rattle.map_cells.specs.declared.retired.Retired.{Retired}
use Rattle.map_cells.specs.CellTable.{CellTable}
use Rattle.shard_core.specs.declared.keys.KeyTable.{KeyTable}
use Rattle.shard_core.specs.KeyTables.{FitsPlan, HasKeys}
use Rattle.shard_core.specs.Sections.{ReaderEpochs, epoch_at, readers_of}

-- each of these ids has in the table the bytes that the definitions give it
abbrev pub Mirrors : (ℕ → Bool) → List (Option (List ℕ)) → List (List ℕ) → Type 0
Mirrors kept table cells = (id : ℕ) → IsTrue (kept id) → slice_index_or table id None ≡ Some (slice_index_or cells id [])

-- a retired cell as the table has it: stamped with the epoch of the place that retired it
abbrev pub waiting : (ℕ → ℕ) → RetiredCell → Retired
waiting epochs gone = record { id = gone.cell; stamp = epochs gone.since }

-- the places that are no present or retired cell's are free; an array's cells are there from the opening on
abbrev pub HasAllPlaces : MapKind → ShardPlan → SequentialShard → CellTable → Type 0
HasAllPlaces Array plan state cells = Unit {0}
HasAllPlaces kind plan state cells =
    (cells.places ≡ 2 * capacity plan) × (cells.free + (length state.present + length state.retired) ≡ 2 * capacity plan)

-- cells and keys are those of a state, which this history led to; `epochs` is the epoch of each place
pub record IsContents (plan : ShardPlan) (epochs : ℕ → ℕ) (history : List Entry) (state : SequentialShard) (cells : CellTable)
    (keys : KeyTable) : Type 0 where
  pub sized : cells.value_size ≡ plan.definition.value_size
  pub counted : length cells.cells ≡ length state.cells
  pub mirrored : Mirrors (is_kept plan state) cells.cells state.cells
  pub retired : cells.retired ≡ reverse (map (waiting epochs) state.retired)
  pub id_room : length (opening_cells plan.definition.kind plan) + plan.reserve ≤ cells.ids
  pub balance : HasAllPlaces plan.definition.kind plan state cells
  pub fits : FitsPlan keys plan
  pub has : HasKeys keys history state.present

-- the journal is one for the shard's plan
pub record IsJournalOf (plan : ShardPlan) (journal : Journaled) : Type 0 where
  pub number : journal.shard ≡ plan.number
  pub reserve : journal.reserve ≡ plan.reserve
  pub key_size : journal.key_size ≡ plan.definition.key_size
  pub value_size : journal.value_size ≡ plan.definition.value_size

-- the journal is legal, and the other fields are what it leads to
pub record IsShard (plan : ShardPlan) (journal : Journaled) (cells : CellTable) (keys : KeyTable) (readers : ReaderEpochs) : Type 0 where
  pub plan_is : IsPlan plan
  pub journal_is : IsJournalOf plan journal
  pub legal : IsLegalJournal plan journal.entries
  pub readers_are : readers ≡ readers_of plan (reverse journal.entries)
  pub contents : IsContents plan (epoch_at plan (reverse journal.entries)) (reverse journal.entries)
      (shard_after plan (reverse journal.entries)) cells keys
