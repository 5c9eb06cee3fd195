-- What a report counts is the sum of what its workers' runs came to.
use Rattle.std.proofs.Common.{◌≡◌, ℕ, zero, suc, ◌+◌, ◌<◌, ◌==◌, ◌%◌, Bool, true, false, List, [], ◌∷◌, ◌++◌, length, refl, sym, ◌∙◌, ap, arith}
use Rattle.std.specs.Prelude.{Option, Some, None, if◌then◌else◌}
use Rattle.std.proofs.Math.Nat.{mod-lt}
use Rattle.std.proofs.lemmas.Bool.Decides.{nat_tests}
use Rattle.wire.specs.Fnv.{fnv1a64_of}
use Rattle.wire.specs.FlowForm.{flow_bytes_of}
use Rattle.semantics.specs.declared.verdict.Verdict.{Verdict}
use Rattle.semantics.specs.declared.verdict.Verdict.TheVariants as verdicts
use Rattle.semantics.specs.Semantics.{verdict_number}
use Rattle.wire.specs.FrameView.{FrameView}
use Rattle.wire.specs.declared.records.Sent.{Sent}
use Rattle.actors.specs.declared.account.Counts.{Counts}
use Rattle.actors.specs.declared.runner.Ran.{Ran}
use Rattle.actors.specs.declared.runner.RunEnd.{RunEnd}
use Rattle.actors.specs.declared.runner.RunEnd.TheVariants.{Stopped, Exited}
use Rattle.actors.specs.declared.runner.FrameFate.TheVariants.{Aborted, Dropped, Passed, Sent as IsSent}
use Rattle.actors.specs.Accounts.{no_counts, counted, counts_of, fate_of, runs_at, end_at}
use Rattle.actors.specs.RunJobs.{records_of}
use Rattle.actors.specs.RunsOverShards.{IsTold}
use Rattle.actors.specs.Shares.{frame_at, is_short, is_spread_by_flow, is_handed, worker_of_frame, share}
use Rattle.steered_replays.proofs.CallerSums.{sum_below, same_sums, more_for, one_more}

-- ---- ends, by number: the verdict's, and 4 for a run that was stopped

abbrev pub end_number : RunEnd → ℕ
end_number Stopped = 4
end_number (Exited steps Aborted) = 0
end_number (Exited steps Dropped) = 1
end_number (Exited steps Passed) = 2
end_number (Exited steps (IsSent sent)) = 3

abbrev pub is_end : ℕ → RunEnd → ℕ
is_end kind end = if end_number end == kind then 1 else 0

abbrev pub is_fate : ℕ → Option RunEnd → ℕ
is_fate kind None = 0
is_fate kind (Some end) = is_end kind end

-- this many of the runs ended so
abbrev pub ends_in : ℕ → List Ran → ℕ
ends_in kind [] = 0
ends_in kind (ran ∷ later) = is_end kind ran.end + ends_in kind later

pub told_number : (captured : Sent) (verdict : Verdict) (frame : FrameView) (end : RunEnd) → IsTold captured verdict frame end →
    verdict_number verdict ≡ end_number end
told_number captured verdict frame Stopped told = absurd told
told_number captured verdict frame (Exited steps Aborted) told = ap verdict_number told
told_number captured verdict frame (Exited steps Dropped) told = ap verdict_number told
told_number captured verdict frame (Exited steps Passed) told = ap verdict_number told
told_number captured verdict frame (Exited steps (IsSent sent)) told = ap verdict_number told.0

-- ---- the first of a worker's runs

abbrev first_ends : ℕ → List Ran → ℕ → ℕ
first_ends kind runs zero = 0
first_ends kind runs (suc count) = first_ends kind runs count + is_fate kind (end_at runs count)

one_first : (kind : ℕ) (ran : Ran) (later : List Ran) (count : ℕ) → first_ends kind (ran ∷ later) (suc count) ≡ is_end kind ran.end + first_ends kind later count
one_first kind ran later zero = omega arith
one_first kind ran later (suc count) =
    let before : first_ends kind (ran ∷ later) (suc count) ≡ is_end kind ran.end + first_ends kind later count = one_first kind ran later count in
    omega (arith, before)

all_first : (kind : ℕ) (runs : List Ran) → first_ends kind runs (length runs) ≡ ends_in kind runs
all_first kind [] = refl
all_first kind (ran ∷ later) =
    let rest : first_ends kind later (length later) ≡ ends_in kind later = all_first kind later in
    one_first kind ran later (length later) ∙ ap (λ n. is_end kind ran.end + n) rest

-- ---- one record more

one_longer : (list : List ℕ) (last : ℕ) → length (list ++ last ∷ []) ≡ suc (length list)
one_longer [] last = refl
one_longer (first ∷ list) last = ap suc (one_longer list last)

module _ (kind : ℕ) (tell : Counts → ℕ) (tells : (counts : Counts) (fate : Option RunEnd) → tell (counted counts fate) ≡ tell counts + is_fate kind fate)
    (none : tell no_counts ≡ 0) (frames : List (List ℕ)) (workers : ℕ) (some : 0 < workers) (runs : List (List Ran)) where
  -- among this many first records
  abbrev of_worker : ℕ → ℕ → ℕ
  of_worker number worker = first_ends kind (runs_at runs worker) (length (share frames workers worker number))

  handed_to : (number worker : ℕ) → is_short (frame_at frames number) ≡ false → (test : Bool) →
      (worker_of_frame (frame_at frames number) workers == worker) ≡ test → is_handed frames workers worker number ≡ test
  handed_to number worker long test is = rw (long, is) refl

  kept_back : (number worker : ℕ) → is_short (frame_at frames number) ≡ true → is_handed frames workers worker number ≡ false
  kept_back number worker short = rw short refl

  same_place : (number worker : ℕ) → is_handed frames workers worker number ≡ false → of_worker (suc number) worker ≡ of_worker number worker
  same_place number worker not_handed =
      ap (λ (test : Bool). first_ends kind (runs_at runs worker)
      (length (if test then share frames workers worker number ++ number ∷ [] else share frames workers worker number))) not_handed

  next_place : (number worker : ℕ) → is_handed frames workers worker number ≡ true →
      of_worker (suc number) worker ≡ of_worker number worker + is_fate kind (end_at (runs_at runs worker) (length (share frames workers worker number)))
  next_place number worker handed =
      ap (λ (test : Bool). first_ends kind (runs_at runs worker)
      (length (if test then share frames workers worker number ++ number ∷ [] else share frames workers worker number))) handed
      ∙ ap (first_ends kind (runs_at runs worker)) (one_longer (share frames workers worker number) number)

  by_owner : (number worker : ℕ) → is_short (frame_at frames number) ≡ false → (owner : ℕ) → worker_of_frame (frame_at frames number) workers ≡ owner →
      (test : Bool) → (owner == worker) ≡ test →
      of_worker (suc number) worker
      ≡ (if test then is_fate kind (end_at (runs_at runs owner) (length (share frames workers owner number))) else 0) + of_worker number worker
  by_owner number worker long owner own true is =
      let same : owner ≡ worker = grind (arith, nat_tests) in
      let handed = next_place number worker (handed_to number worker long true (ap (λ w. (w == worker)) own ∙ is)) in
      let fate : is_fate kind (end_at (runs_at runs owner) (length (share frames workers owner number)))
      ≡ is_fate kind (end_at (runs_at runs worker) (length (share frames workers worker number))) =
      ap (λ w. is_fate kind (end_at (runs_at runs w) (length (share frames workers w number)))) same in
      handed ∙ omega (arith, fate)
  by_owner number worker long owner own false is =
      same_place number worker (handed_to number worker long false (ap (λ w. (w == worker)) own ∙ is)) ∙ omega arith

  flow_below : (flow : Bool) (hash : ℕ) → (if flow then hash % workers else 0) < workers
  flow_below true hash = mod-lt hash some
  flow_below false hash = some

  by_length : (number : ℕ) → (short : Bool) → is_short (frame_at frames number) ≡ short →
      sum_below workers (of_worker (suc number)) ≡ is_fate kind (fate_of frames workers runs number) + sum_below workers (of_worker number)
  by_length number true short =
      let fate : is_fate kind (fate_of frames workers runs number) ≡ 0 = rw short refl in
      let same : sum_below workers (of_worker (suc number)) ≡ sum_below workers (of_worker number) =
      same_sums workers (of_worker (suc number)) (of_worker number) (λ worker below. same_place number worker (kept_back number worker short)) in
      omega (arith, fate, same)
  by_length number false long =
      let owner : ℕ = worker_of_frame (frame_at frames number) workers in
      let x : ℕ = is_fate kind (end_at (runs_at runs owner) (length (share frames workers owner number))) in
      let fate : is_fate kind (fate_of frames workers runs number) ≡ x = rw long refl in
      same_sums workers (of_worker (suc number)) (λ worker. more_for owner x worker + of_worker number worker)
      (λ worker below. by_owner number worker long owner refl (owner == worker) refl)
      ∙ one_more workers owner x (of_worker number)
      (flow_below (is_spread_by_flow (frame_at frames number)) (fnv1a64_of (flow_bytes_of (frame_at frames number))))
      ∙ ap (λ n. n + sum_below workers (of_worker number)) (sym fate)

  none_first : (n : ℕ) → sum_below n (of_worker 0) ≡ 0
  none_first zero = refl
  none_first (suc n) = (let before : sum_below n (of_worker 0) ≡ 0 = none_first n in omega (arith, before))

  first_records : (number : ℕ) → tell (counts_of frames workers runs number) ≡ sum_below workers (of_worker number)
  first_records zero = none ∙ sym (none_first workers)
  first_records (suc number) =
      let before : tell (counts_of frames workers runs number) ≡ sum_below workers (of_worker number) = first_records number in
      let more : tell (counts_of frames workers runs (suc number)) ≡ tell (counts_of frames workers runs number) + is_fate kind (fate_of frames workers runs number) =
      tells (counts_of frames workers runs number) (fate_of frames workers runs number) in
      let last = by_length number (is_short (frame_at frames number)) refl in
      omega (arith, before, more, last)

  as_long : (list : List Ran) (records : List ℕ) → records_of list ≡ records → length records ≡ length list
  as_long list records are = ap length (sym are) ∙ mapped list
    where
      mapped : (list : List Ran) → length (records_of list) ≡ length list
      mapped [] = refl
      mapped (ran ∷ later) = ap suc (mapped later)

  -- all records, where the runs are those of the shares
  pub all_ends : (count : ℕ) → ((worker : ℕ) → worker < workers → records_of (runs_at runs worker) ≡ share frames workers worker count) →
      tell (counts_of frames workers runs count) ≡ sum_below workers (λ worker. ends_in kind (runs_at runs worker))
  all_ends count are =
      first_records count ∙ same_sums workers (of_worker count) (λ worker. ends_in kind (runs_at runs worker))
      (λ worker below. ap (first_ends kind (runs_at runs worker)) (as_long (runs_at runs worker) (share frames workers worker count) (are worker below))
      ∙ all_first kind (runs_at runs worker))

-- ---- the five ends

stopped_tells : (counts : Counts) (fate : Option RunEnd) → (counted counts fate).stopped ≡ counts.stopped + is_fate 4 fate
stopped_tells counts None = omega arith
stopped_tells counts (Some Stopped) = refl
stopped_tells counts (Some (Exited steps Aborted)) = omega arith
stopped_tells counts (Some (Exited steps Dropped)) = omega arith
stopped_tells counts (Some (Exited steps Passed)) = omega arith
stopped_tells counts (Some (Exited steps (IsSent sent))) = omega arith

abbrev pub count_of : Verdict → Counts → ℕ
count_of verdicts.Aborted counts = counts.aborted
count_of verdicts.Drop counts = counts.drop
count_of verdicts.Pass counts = counts.pass
count_of verdicts.Tx counts = counts.tx

verdict_tells : (verdict : Verdict) (counts : Counts) (fate : Option RunEnd) →
    count_of verdict (counted counts fate) ≡ count_of verdict counts + is_fate (verdict_number verdict) fate
verdict_tells verdicts.Aborted counts None = omega arith
verdict_tells verdicts.Aborted counts (Some Stopped) = omega arith
verdict_tells verdicts.Aborted counts (Some (Exited steps Aborted)) = refl
verdict_tells verdicts.Aborted counts (Some (Exited steps Dropped)) = omega arith
verdict_tells verdicts.Aborted counts (Some (Exited steps Passed)) = omega arith
verdict_tells verdicts.Aborted counts (Some (Exited steps (IsSent sent))) = omega arith
verdict_tells verdicts.Drop counts None = omega arith
verdict_tells verdicts.Drop counts (Some Stopped) = omega arith
verdict_tells verdicts.Drop counts (Some (Exited steps Aborted)) = omega arith
verdict_tells verdicts.Drop counts (Some (Exited steps Dropped)) = refl
verdict_tells verdicts.Drop counts (Some (Exited steps Passed)) = omega arith
verdict_tells verdicts.Drop counts (Some (Exited steps (IsSent sent))) = omega arith
verdict_tells verdicts.Pass counts None = omega arith
verdict_tells verdicts.Pass counts (Some Stopped) = omega arith
verdict_tells verdicts.Pass counts (Some (Exited steps Aborted)) = omega arith
verdict_tells verdicts.Pass counts (Some (Exited steps Dropped)) = omega arith
verdict_tells verdicts.Pass counts (Some (Exited steps Passed)) = refl
verdict_tells verdicts.Pass counts (Some (Exited steps (IsSent sent))) = omega arith
verdict_tells verdicts.Tx counts None = omega arith
verdict_tells verdicts.Tx counts (Some Stopped) = omega arith
verdict_tells verdicts.Tx counts (Some (Exited steps Aborted)) = omega arith
verdict_tells verdicts.Tx counts (Some (Exited steps Dropped)) = omega arith
verdict_tells verdicts.Tx counts (Some (Exited steps Passed)) = omega arith
verdict_tells verdicts.Tx counts (Some (Exited steps (IsSent sent))) = refl

no_verdicts : (verdict : Verdict) → count_of verdict no_counts ≡ 0
no_verdicts verdicts.Aborted = refl
no_verdicts verdicts.Drop = refl
no_verdicts verdicts.Pass = refl
no_verdicts verdicts.Tx = refl

module _ (frames : List (List ℕ)) (workers : ℕ) (some : 0 < workers) (runs : List (List Ran)) (count : ℕ)
    (are : (worker : ℕ) → worker < workers → records_of (runs_at runs worker) ≡ share frames workers worker count) where
  pub stopped_sum : (counts_of frames workers runs count).stopped ≡ sum_below workers (λ worker. ends_in 4 (runs_at runs worker))
  stopped_sum = all_ends 4 (λ counts. counts.stopped) stopped_tells refl frames workers some runs count are

  pub verdict_sum : (verdict : Verdict) →
      count_of verdict (counts_of frames workers runs count) ≡ sum_below workers (λ worker. ends_in (verdict_number verdict) (runs_at runs worker))
  verdict_sum verdict = all_ends (verdict_number verdict) (count_of verdict) (verdict_tells verdict) (no_verdicts verdict) frames workers some runs count are
