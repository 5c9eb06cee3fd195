-- The places of records in their worker's share, and of runs among a worker's runs.
use Rattle.std.proofs.Common.{◌≡◌, ◌⊎◌, ℕ, zero, suc, ◌<◌, ◌≤◌, ◌==◌, Bool, true, false, not, ◌&&◌, List, [], ◌∷◌, ◌++◌, length, refl, sym, ◌∙◌, ap, subst, arith, inl, inr}
use Rattle.std.specs.Prelude.{Some, slice_get, nat_lt, if◌then◌else◌}
use Rattle.std.proofs.lemmas.Bool.{true≢false, false≢true}
use Rattle.std.proofs.lemmas.Bool.Decides.{nat_tests}
use Rattle.std.specs.List.{AllByRecursion}
use Rattle.wire.specs.declared.records.Sent.{Sent}
use Rattle.semantics.proofs.shared.ConditionLemmas.{second_true}
use Rattle.actors.specs.declared.runner.Ran.{Ran}
use Rattle.actors.specs.Accounts.{runs_at, end_at, fate_of}
use Rattle.actors.specs.Captured.{IsCaptured}
use Rattle.actors.specs.RunJobs.{records_of}
use Rattle.actors.specs.Shares.{frames_of, frame_at, is_short, worker_of_frame, is_handed, share}
use Rattle.actors.proofs.shared.EveryEntry.{all_both}
use Rattle.actors.proofs.shared.TakingOut.{long_fate}

-- ---- lists with one more at their end

module _ {A : Type 0} where
  pub still_there : (xs : List A) (y x : A) (k : ℕ) → slice_get xs k ≡ Some x → slice_get (xs ++ y ∷ []) k ≡ Some x
  still_there [] y x k there = absurd cc
  still_there (first ∷ xs) y x zero there = there
  still_there (first ∷ xs) y x (suc k) there = still_there xs y x k there

  pub last_there : (xs : List A) (y : A) → slice_get (xs ++ y ∷ []) (length xs) ≡ Some y
  last_there [] y = refl
  last_there (first ∷ xs) y = last_there xs y

  pub there_or_last : (xs : List A) (y x : A) (k : ℕ) → slice_get (xs ++ y ∷ []) k ≡ Some x →
      (slice_get xs k ≡ Some x) ⊎ ((k ≡ length xs) × (x ≡ y))
  there_or_last [] y x zero there = inr (refl, cc)
  there_or_last [] y x (suc k) there = absurd cc
  there_or_last (first ∷ xs) y x zero there = inl there
  there_or_last (first ∷ xs) y x (suc k) there = by_case (there_or_last xs y x k there)
    where
      by_case : ((slice_get xs k ≡ Some x) ⊎ ((k ≡ length xs) × (x ≡ y))) →
          (slice_get (first ∷ xs) (suc k) ≡ Some x) ⊎ ((suc k ≡ length (first ∷ xs)) × (x ≡ y))
      by_case (inl there) = inl there
      by_case (inr last) = inr (ap suc last.0, last.1)

-- ---- shares

less_or_same : (number count : ℕ) → number < suc count → (test : Bool) → nat_lt number count ≡ test → (number < count) ⊎ (number ≡ count)
less_or_same number count below true is = inl (grind (arith, nat_tests))
less_or_same number count below false is = inr (let past : count ≤ number = grind (arith, nat_tests) in omega (arith, past, below))

abbrev At : List (List ℕ) → ℕ → ℕ → ℕ → List ℕ → Type 0
At frames workers worker number records = slice_get records (length (share frames workers worker number)) ≡ Some number

at_end : (frames : List (List ℕ)) (workers worker number count : ℕ) → number ≡ count →
    At frames workers worker number (share frames workers worker count ++ count ∷ [])
at_end frames workers worker number count same =
    subst (λ (n : ℕ). At frames workers worker n (share frames workers worker count ++ count ∷ [])) (sym same)
    (last_there (share frames workers worker count) count)

with_one : (frames : List (List ℕ)) (workers worker number count : ℕ) → (number < count → At frames workers worker number (share frames workers worker count)) →
    ((number < count) ⊎ (number ≡ count)) → At frames workers worker number (share frames workers worker count ++ count ∷ [])
with_one frames workers worker number count before (inl less) =
    still_there (share frames workers worker count) count number (length (share frames workers worker number)) (before less)
with_one frames workers worker number count before (inr same) = at_end frames workers worker number count same

with_none : (frames : List (List ℕ)) (workers worker number count : ℕ) → (number < count → At frames workers worker number (share frames workers worker count)) →
    is_handed frames workers worker number ≡ true → is_handed frames workers worker count ≡ false → ((number < count) ⊎ (number ≡ count)) →
    At frames workers worker number (share frames workers worker count)
with_none frames workers worker number count before handed is (inl less) = before less
with_none frames workers worker number count before handed is (inr same) =
    absurd (true≢false (sym handed ∙ ap (is_handed frames workers worker) same ∙ is))

by_test : (frames : List (List ℕ)) (workers worker number count : ℕ) → (number < count → At frames workers worker number (share frames workers worker count)) →
    is_handed frames workers worker number ≡ true → ((number < count) ⊎ (number ≡ count)) → (test : Bool) → is_handed frames workers worker count ≡ test →
    At frames workers worker number (if test then share frames workers worker count ++ count ∷ [] else share frames workers worker count)
by_test frames workers worker number count before handed place true is = with_one frames workers worker number count before place
by_test frames workers worker number count before handed place false is = with_none frames workers worker number count before handed is place

-- a record that was handed to the worker is behind its earlier ones
pub share_at : (frames : List (List ℕ)) (workers worker number count : ℕ) → is_handed frames workers worker number ≡ true → number < count →
    slice_get (share frames workers worker count) (length (share frames workers worker number)) ≡ Some number
share_at frames workers worker number zero handed below = absurd (omega (arith, below))
share_at frames workers worker number (suc count) handed below =
    by_test frames workers worker number count (λ less. share_at frames workers worker number count handed less) handed
    (less_or_same number count below (nat_lt number count) refl) (is_handed frames workers worker count) refl

-- what is in the share was handed to the worker, at its place there
pub record IsHandedAt (frames : List (List ℕ)) (workers worker count place number : ℕ) : Type 0 where
  pub handed : is_handed frames workers worker number ≡ true
  pub below : number < count
  pub place_is : length (share frames workers worker number) ≡ place

later_too : (frames : List (List ℕ)) (workers worker count place number : ℕ) → IsHandedAt frames workers worker count place number →
    IsHandedAt frames workers worker (suc count) place number
later_too frames workers worker count place number at =
    record { handed = at.handed; below = (let b = at.below in omega (arith, b)); place_is = at.place_is }

handed_last : (frames : List (List ℕ)) (workers worker count place number : ℕ) → is_handed frames workers worker count ≡ true →
    ((slice_get (share frames workers worker count) place ≡ Some number) ⊎ ((place ≡ length (share frames workers worker count)) × (number ≡ count))) →
    (slice_get (share frames workers worker count) place ≡ Some number → IsHandedAt frames workers worker count place number) →
    IsHandedAt frames workers worker (suc count) place number
handed_last frames workers worker count place number is (inl there) before = later_too frames workers worker count place number (before there)
handed_last frames workers worker count place number is (inr last) before = record {
  handed = ap (is_handed frames workers worker) last.1 ∙ is;
  below = (let same = last.1 in omega (arith, same));
  place_is = ap (λ (n : ℕ). length (share frames workers worker n)) last.1 ∙ sym last.0;
}

handed_by : (frames : List (List ℕ)) (workers worker count place number : ℕ) →
    (slice_get (share frames workers worker count) place ≡ Some number → IsHandedAt frames workers worker count place number) →
    (test : Bool) → is_handed frames workers worker count ≡ test →
    slice_get (if test then share frames workers worker count ++ count ∷ [] else share frames workers worker count) place ≡ Some number →
    IsHandedAt frames workers worker (suc count) place number
handed_by frames workers worker count place number before true is there =
    handed_last frames workers worker count place number is (there_or_last (share frames workers worker count) count number place there) before
handed_by frames workers worker count place number before false is there = later_too frames workers worker count place number (before there)

pub handed_at : (frames : List (List ℕ)) (workers worker count place number : ℕ) → slice_get (share frames workers worker count) place ≡ Some number →
    IsHandedAt frames workers worker count place number
handed_at frames workers worker zero place number there = absurd cc
handed_at frames workers worker (suc count) place number there =
    handed_by frames workers worker count place number (handed_at frames workers worker count place number) (is_handed frames workers worker count) refl there

-- ---- what became of a record that a worker was handed

long_of : (short own : Bool) → (not short && own) ≡ true → short ≡ false
long_of true own held = absurd (false≢true held)
long_of false own held = refl

own_of : (frames : List (List ℕ)) (workers worker number : ℕ) → is_handed frames workers worker number ≡ true →
    worker_of_frame (frame_at frames number) workers ≡ worker
own_of frames workers worker number handed =
    let test : (worker_of_frame (frame_at frames number) workers == worker) ≡ true =
    second_true (not (is_short (frame_at frames number))) (worker_of_frame (frame_at frames number) workers == worker) handed in
    grind (arith, nat_tests)

pub is_long : (frames : List (List ℕ)) (workers worker number : ℕ) → is_handed frames workers worker number ≡ true →
    is_short (frame_at frames number) ≡ false
is_long frames workers worker number handed =
    long_of (is_short (frame_at frames number)) (worker_of_frame (frame_at frames number) workers == worker) handed

pub fate_is : (frames : List (List ℕ)) (workers : ℕ) (runs : List (List Ran)) (worker number : ℕ) → is_handed frames workers worker number ≡ true →
    fate_of frames workers runs number ≡ end_at (runs_at runs worker) (length (share frames workers worker number))
fate_is frames workers runs worker number handed =
    long_fate frames workers runs number (is_long frames workers worker number handed)
    ∙ ap (λ (w : ℕ). end_at (runs_at runs w) (length (share frames workers w number))) (own_of frames workers worker number handed)

-- ---- what holds of all records of a share

record_if : (P : ℕ → Type 0) (shared : List ℕ) (number : ℕ) → AllByRecursion P shared → (test : Bool) → (test ≡ true → P number) →
    AllByRecursion P (if test then shared ++ number ∷ [] else shared)
record_if P shared number before true last = all_both P shared (number ∷ []) before (last refl, tt)
record_if P shared number before false last = before

pub all_handed : (P : ℕ → Type 0) (frames : List (List ℕ)) (workers worker count : ℕ) →
    ((number : ℕ) → is_handed frames workers worker number ≡ true → P number) → AllByRecursion P (share frames workers worker count)
all_handed P frames workers worker zero each = tt
all_handed P frames workers worker (suc count) each =
    record_if P (share frames workers worker count) count (all_handed P frames workers worker count each) (is_handed frames workers worker count) (each count)

-- a record is one of the capture's, with its bytes
pub record_of : (records : List Sent) (number : ℕ) (captured : Sent) → slice_get records number ≡ Some captured → AllByRecursion IsCaptured records →
    IsCaptured captured × (frame_at (frames_of records) number ≡ captured.bytes.items)
record_of [] number captured known all = absurd cc
record_of (first ∷ later) zero captured known all =
    let same : first ≡ captured = cc known in (subst IsCaptured same all.0, ap (λ (one : Sent). one.bytes.items) same)
record_of (first ∷ later) (suc number) captured known all = record_of later number captured known all.1

-- ---- runs

-- the run at a place
pub record IsRunThere (P : Ran → Type 0) (runs : List Ran) (place number : ℕ) : Type 0 where
  pub ran : Ran
  pub ends : end_at runs place ≡ Some ran.end
  pub number_is : ran.number ≡ number
  pub is : P ran

pub run_there : (P : Ran → Type 0) (runs : List Ran) (place number : ℕ) → AllByRecursion P runs → slice_get (records_of runs) place ≡ Some number →
    IsRunThere P runs place number
run_there P [] place number all there = absurd cc
run_there P (ran ∷ later) zero number all there = record { ran = ran; ends = refl; number_is = cc there; is = all.0 }
run_there P (ran ∷ later) (suc place) number all there =
    let at = run_there P later place number all.1 there in
    record { ran = at.ran; ends = at.ends; number_is = at.number_is; is = at.is }

-- what holds of a run at each place, with the record of the run, holds of each run
pub each_run : (P : Ran → Type 0) (runs : List Ran) →
    ((place : ℕ) (ran : Ran) → slice_get (records_of runs) place ≡ Some ran.number → end_at runs place ≡ Some ran.end → P ran) → AllByRecursion P runs
each_run P [] all = tt
each_run P (ran ∷ later) all = (all zero ran refl refl, each_run P later (λ place one there ends. all (suc place) one there ends))
