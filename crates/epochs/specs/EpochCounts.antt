-- What a contract sees of a book of epochs: the present epoch, and how many runs are inside by the epoch in which each entered
-- (epoch-based reclamation). Each retirement that is stamped ends an epoch.
use Rattle.std.specs.Prelude.{◌≡◌, ℕ, ◌+◌, ◌==◌, ◌<◌, ◌≤◌, ◌⊎◌, List, [], ◌∷◌, if◌then◌else◌, slice_index_or}
use Rattle.epochs.specs.declared.counts.EpochRuns.{EpochRuns}

pub record EpochCounts : Type 0 where
  -- the epoch in which a run that enters now is; all stamps so far are below it
  pub present : ℕ
  -- runs by epoch; an epoch may be in several parts, and counts their sum
  pub parts : List EpochRuns

-- what one part counts for an epoch
abbrev pub runs_of : ℕ → EpochRuns → ℕ
runs_of epoch part = if part.epoch == epoch then part.runs else 0

abbrev pub runs_among : ℕ → List EpochRuns → ℕ
runs_among epoch [] = 0
runs_among epoch (part ∷ parts) = runs_of epoch part + runs_among epoch parts

abbrev pub all_runs : List EpochRuns → ℕ
all_runs [] = 0
all_runs (part ∷ parts) = part.runs + all_runs parts

-- how many runs are inside that entered in this epoch
abbrev pub runs_in : EpochCounts → ℕ → ℕ
runs_in counts epoch = runs_among epoch counts.parts

-- how many runs are inside
abbrev pub run_count : EpochCounts → ℕ
run_count counts = all_runs counts.parts

-- every run inside entered after the retirement with this stamp
abbrev pub AllEnteredAfter : EpochCounts → ℕ → Type 0
AllEnteredAfter counts stamp = (epoch : ℕ) → 0 < runs_in counts epoch → stamp < epoch

-- one where the epochs are the same
abbrev pub one_at : ℕ → ℕ → ℕ
one_at epoch other = if epoch == other then 1 else 0

-- no run inside is in an epoch that is yet to come
abbrev pub NoneAhead : ℕ → List EpochRuns → Type 0
NoneAhead present parts = (epoch : ℕ) → 0 < runs_among epoch parts → epoch ≤ present

abbrev pub unused_part : EpochRuns
unused_part = record { epoch = 0; runs = 0 }

abbrev pub part_at : List EpochRuns → ℕ → EpochRuns
part_at parts at = slice_index_or parts at unused_part

-- the lowest epoch that has runs among the first `count` parts, and at most the present one
pub record IsFloor (present : ℕ) (parts : List EpochRuns) (count floor : ℕ) : Type 0 where
  pub at_most : floor ≤ present
  pub below : (at : ℕ) → at < count → 0 < (part_at parts at).runs → floor ≤ (part_at parts at).epoch
  pub reached : (floor ≡ present) ⊎ ((at : ℕ) × (at < count) × (0 < (part_at parts at).runs) × (floor ≡ (part_at parts at).epoch))
