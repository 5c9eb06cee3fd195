-- What became of each record, by the runs of the workers, and what is counted and sent of it.
use Rattle.std.specs.Prelude.{◌≡◌, ℕ, zero, suc, ◌+◌, List, [], ◌∷◌, ◌++◌, length, map, Option, Some, None, Vec, slice_index}
use Rattle.std.specs.Prelude.{slice_index_or, ◌<◌, ◌≤◌, if◌then◌else◌}
use Rattle.semantics.specs.declared.verdict.Verdict.{Verdict}
use Rattle.semantics.specs.declared.verdict.Verdict.TheVariants as verdicts
use Rattle.semantics.specs.Replay.{Captured}
use Rattle.actors.specs.declared.account.Counts.{Counts}
use Rattle.actors.specs.declared.outcome.ToldEnd.{ToldEnd}
use Rattle.actors.specs.declared.outcome.ToldEnd.TheVariants as ends
use Rattle.actors.specs.declared.runner.FrameFate.{FrameFate}
use Rattle.actors.specs.declared.runner.RunEnd.{RunEnd}
use Rattle.actors.specs.declared.runner.RunEnd.TheVariants.{Stopped, Exited}
use Rattle.actors.specs.declared.runner.FrameFate.TheVariants.{Aborted, Dropped, Passed, Sent as IsSent}
use Rattle.actors.specs.declared.runner.Ran.{Ran}
use Rattle.actors.specs.Shares.{captured_of, frame_at, is_short, worker_of_frame, share}
use Rattle.actors.specs.RunJobs.{records_of}

-- ---- what became of a record

-- the runs of each worker
abbrev pub lists_of : {A : Type 0} → List (Vec Ran A) → List (List Ran)
lists_of {A} runs = map (λ (list : Vec Ran A). list.items) runs

abbrev pub runs_at : List (List Ran) → ℕ → List Ran
runs_at runs worker = slice_index_or runs worker []

abbrev pub end_at : List Ran → ℕ → Option RunEnd
end_at [] place = None
end_at (ran ∷ later) zero = Some ran.end
end_at (ran ∷ later) (suc place) = end_at later place

-- a worker's runs are of its records in order, so the run of a record comes after those of its earlier records; a short record has none
abbrev pub fate_of : List (List ℕ) → ℕ → List (List Ran) → ℕ → Option RunEnd
fate_of frames workers runs number =
    if is_short (frame_at frames number) then None
    else end_at (runs_at runs (worker_of_frame (frame_at frames number) workers))
    (length (share frames workers (worker_of_frame (frame_at frames number) workers) number))

-- ---- what is counted

abbrev pub no_counts : Counts
no_counts = record { short = 0; stopped = 0; aborted = 0; drop = 0; pass = 0; tx = 0 }

abbrev pub frames_in : Counts → ℕ
frames_in c = c.short + c.stopped + c.aborted + c.drop + c.pass + c.tx

-- one record more
abbrev pub counted : Counts → Option RunEnd → Counts
counted c None = record c { short = c.short + 1 }
counted c (Some Stopped) = record c { stopped = c.stopped + 1 }
counted c (Some (Exited steps Aborted)) = record c { aborted = c.aborted + 1 }
counted c (Some (Exited steps Dropped)) = record c { drop = c.drop + 1 }
counted c (Some (Exited steps Passed)) = record c { pass = c.pass + 1 }
counted c (Some (Exited steps (IsSent sent))) = record c { tx = c.tx + 1 }

-- the first N records, each counted once
abbrev pub counts_of : List (List ℕ) → ℕ → List (List Ran) → ℕ → Counts
counts_of frames workers runs zero = no_counts
counts_of frames workers runs (suc number) = counted (counts_of frames workers runs number) (fate_of frames workers runs number)

-- ---- what is sent

abbrev pub sent_by : Option RunEnd → List Captured
sent_by (Some (Exited steps (IsSent sent))) = captured_of sent ∷ []
sent_by fate = []

-- what is sent of the first N records, in the capture's order
abbrev pub sent_of : List (List ℕ) → ℕ → List (List Ran) → ℕ → List Captured
sent_of frames workers runs zero = []
sent_of frames workers runs (suc number) = sent_of frames workers runs number ++ sent_by (fate_of frames workers runs number)

-- ---- what became of each

-- what the frame's fate says of the verdict
abbrev pub verdict_for : FrameFate → Verdict
verdict_for Aborted = verdicts.Aborted
verdict_for Dropped = verdicts.Drop
verdict_for Passed = verdicts.Pass
verdict_for (IsSent sent) = verdicts.Tx

-- a record of this worker: it is short, or how its run ended
abbrev pub record_end : ℕ → Option RunEnd → ToldEnd
record_end worker None = ends.Short
record_end worker (Some Stopped) = ends.Stopped worker
record_end worker (Some (Exited steps fate)) = ends.Exited worker (verdict_for fate) steps

-- of the first N records, in the capture's order
abbrev pub ends_of : List (List ℕ) → ℕ → List (List Ran) → ℕ → List ToldEnd
ends_of frames workers runs zero = []
ends_of frames workers runs (suc number) =
    ends_of frames workers runs number ++
    record_end (worker_of_frame (frame_at frames number) workers) (fate_of frames workers runs number) ∷ []

-- ---- how they are gathered

-- each worker ran its records, in order
abbrev pub AreRunsOfShares : List (List ℕ) → ℕ → ℕ → List (List Ran) → Type 0
AreRunsOfShares frames workers count runs =
    (worker : ℕ) → worker < workers → records_of (runs_at runs worker) ≡ share frames workers worker count

-- what became of the records from one on is said by other runs as by these
abbrev pub AreFatesFrom : ℕ → List (List ℕ) → ℕ → List (List Ran) → List (List Ran) → Type 0
AreFatesFrom first frames workers runs others =
    (number : ℕ) → first ≤ number → fate_of frames workers others number ≡ fate_of frames workers runs number

-- of each worker, how many of its records come before this one
pub record AreNext (frames : List (List ℕ)) (workers number : ℕ) (next : List ℕ) : Type 0 where
  pub count : length next ≡ workers
  pub each : (worker : ℕ) → worker < workers → slice_index next worker ≡ length (share frames workers worker number)
