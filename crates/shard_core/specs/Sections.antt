-- Who is inside a shard, and in which epoch each entered: kept beside the journal so that no call has to read it. Each retirement ends an
-- epoch, so the epoch of a place in the journal is the number of retirements before it.
use Rattle.std.specs.Prelude.{◌≡◌, ℕ, ◌+◌, ◌==◌, Bool, false, ◌&&◌, nat_lt, List, [], ◌∷◌, length, map, count_by, is_some}
use Rattle.std.specs.Prelude.{Option, Some, None, option_map, if◌then◌else◌, slice_index_or}
use Rattle.semantics.specs.declared.call.Call.{Call}
use Rattle.semantics.specs.declared.call.Entry.{Entry}
use Rattle.semantics.specs.declared.plan.ShardPlan.{ShardPlan}
use Rattle.semantics.specs.Reclamation.{entered_at, worker_numbers}
use Rattle.semantics.specs.SequentialShard.{shard_after_call, shard_after}
use Rattle.epochs.specs.EpochCounts.{EpochCounts, runs_in, run_count}

pub record ReaderEpochs : Type 0 where
  -- the epoch in which a worker that enters now is
  pub present : ℕ
  -- of each worker inside, by its number, the epoch of its Enter
  pub epochs : List (Option ℕ)

-- nobody is inside, and nothing was retired
abbrev pub no_readers : ReaderEpochs
no_readers = record { present = 0; epochs = None ∷ None ∷ None ∷ None ∷ None ∷ None ∷ None ∷ None ∷ [] }

abbrev pub epoch_of : ReaderEpochs → ℕ → Option ℕ
epoch_of readers worker = slice_index_or readers.epochs worker None

-- a retirement ends the present epoch
abbrev pub with_next_epoch : ReaderEpochs → ReaderEpochs
with_next_epoch readers = record readers { present = readers.present + 1 }

-- if there is a cell to retire
abbrev pub with_epoch_after : Option ℕ → ReaderEpochs → ReaderEpochs
with_epoch_after (Some cell) readers = with_next_epoch readers
with_epoch_after None readers = readers

-- ---- how the book follows

-- a worker is inside that entered in this epoch
abbrev pub is_of_epoch : ℕ → Option ℕ → Bool
is_of_epoch epoch (Some entered) = entered == epoch
is_of_epoch epoch None = false

-- the book counts the workers inside, each in its epoch
pub record IsCounted (book : EpochCounts) (epochs : List (Option ℕ)) (count : ℕ) : Type 0 where
  pub runs : (epoch : ℕ) → runs_in book epoch ≡ count_by (is_of_epoch epoch) epochs
  pub all : run_count book ≡ count_by is_some epochs
  pub inside : count ≡ count_by is_some epochs

-- ---- what the journal says

-- the call takes out a key, whose cell then waits for its readers
abbrev pub retires : ShardPlan → List Entry → Call → Bool
retires plan history call =
    nat_lt (length (shard_after plan history).retired) (length (shard_after_call plan history (shard_after plan history) call).retired)

abbrev pub one_where : Bool → ℕ
one_where test = if test then 1 else 0

-- how many retirements are before this place
abbrev pub epoch_at : ShardPlan → List Entry → ℕ → ℕ
epoch_at plan [] place = 0
epoch_at plan (entry ∷ older) place = epoch_at plan older place + one_where (nat_lt (length older) place && retires plan older entry.call)

-- of each worker, by its number, the epoch of its Enter that no Leave follows; `epochs` is the epoch of each place
abbrev pub entered_epochs : (ℕ → ℕ) → List Entry → List (Option ℕ)
entered_epochs epochs history = map (λ worker. option_map epochs (entered_at worker history)) worker_numbers

-- the workers inside after this history
abbrev pub readers_of : ShardPlan → List Entry → ReaderEpochs
readers_of plan history = record {
  present = epoch_at plan history (length history);
  epochs = entered_epochs (epoch_at plan history) history;
}
