-- Where no run is counted as stopped, none was.
use Rattle.std.proofs.Common.{◌≡◌, ◌⊎◌, ℕ, zero, suc, ◌<◌, ◌==◌, Bool, true, false, List, refl, sym, ◌∙◌, ap, subst, arith, inl, inr}
use Rattle.std.specs.Prelude.{Option, Some, None, slice_get}
use Rattle.std.specs.List.{AllByRecursion}
use Rattle.std.proofs.lemmas.Bool.Decides.{nat_tests}
use Rattle.actors.specs.declared.account.Counts.{Counts}
use Rattle.actors.specs.declared.runner.Ran.{Ran}
use Rattle.actors.specs.declared.runner.RunEnd.{RunEnd}
use Rattle.actors.specs.declared.runner.RunEnd.TheVariants.{Stopped, Exited}
use Rattle.actors.specs.declared.runner.FrameFate.TheVariants.{Aborted, Dropped, Passed, Sent as IsSent}
use Rattle.actors.specs.Accounts.{counted, counts_of, fate_of, runs_at, end_at}
use Rattle.actors.specs.RunJobs.{records_of}
use Rattle.actors.specs.Shares.{frame_at, is_short, share}
use Rattle.guarantees.specs.ReplayMoves.{IsNotStopped}
use Rattle.actors.proofs.shared.ShareOrder.{IsHandedAt, handed_at, is_long, fate_is, each_run}

abbrev pub WasNotStopped : Option RunEnd → Type 0
WasNotStopped (Some end) = IsNotStopped end
WasNotStopped None = Unit {0}

-- one record more
one_more : (counts : Counts) (fate : Option RunEnd) → (counted counts fate).stopped ≡ 0 → (counts.stopped ≡ 0) × WasNotStopped fate
one_more counts None none = (none, tt)
one_more counts (Some Stopped) none = absurd (omega (arith, none))
one_more counts (Some (Exited steps Aborted)) none = (none, tt)
one_more counts (Some (Exited steps Dropped)) none = (none, tt)
one_more counts (Some (Exited steps Passed)) none = (none, tt)
one_more counts (Some (Exited steps (IsSent sent))) none = (none, tt)

less_or_same : (number count : ℕ) → number < suc count → (test : Bool) → (number == count) ≡ test → (number < count) ⊎ (number ≡ count)
less_or_same number count below true is = inr (grind (arith, nat_tests))
less_or_same number count below false is = inl (let other : number ≡ count → ⊥ = (λ same. grind (arith, nat_tests)) in omega (arith, below, other))

by_place : (frames : List (List ℕ)) (workers : ℕ) (runs : List (List Ran)) (number count : ℕ) →
    (number < count → WasNotStopped (fate_of frames workers runs number)) → WasNotStopped (fate_of frames workers runs count) →
    ((number < count) ⊎ (number ≡ count)) → WasNotStopped (fate_of frames workers runs number)
by_place frames workers runs number count before last (inl less) = before less
by_place frames workers runs number count before last (inr same) =
    subst (λ (n : ℕ). WasNotStopped (fate_of frames workers runs n)) (sym same) last

pub none_of : (frames : List (List ℕ)) (workers : ℕ) (runs : List (List Ran)) (count : ℕ) → (counts_of frames workers runs count).stopped ≡ 0 →
    (number : ℕ) → number < count → WasNotStopped (fate_of frames workers runs number)
none_of frames workers runs zero none number below = absurd (omega (arith, below))
none_of frames workers runs (suc count) none number below =
    let more = one_more (counts_of frames workers runs count) (fate_of frames workers runs count) none in
    by_place frames workers runs number count (none_of frames workers runs count more.0 number) more.1
    (less_or_same number count below (number == count) refl)

-- ---- so each run of a worker ended, and is that of a frame

pub record IsWhole (frames : List (List ℕ)) (ran : Ran) : Type 0 where
  pub ended : IsNotStopped ran.end
  pub long : is_short (frame_at frames ran.number) ≡ false

whole_there : (frames : List (List ℕ)) (workers worker count : ℕ) (runs : List (List Ran)) →
    ((number : ℕ) → number < count → WasNotStopped (fate_of frames workers runs number)) → records_of (runs_at runs worker) ≡ share frames workers worker count →
    (place : ℕ) (ran : Ran) → slice_get (records_of (runs_at runs worker)) place ≡ Some ran.number → end_at (runs_at runs worker) place ≡ Some ran.end →
    IsWhole frames ran
whole_there frames workers worker count runs none are place ran there ends =
    let at : IsHandedAt frames workers worker count place ran.number =
    handed_at frames workers worker count place ran.number (ap (λ (l : List ℕ). slice_get l place) (sym are) ∙ there) in
    let fate : fate_of frames workers runs ran.number ≡ Some ran.end =
    fate_is frames workers runs worker ran.number at.handed ∙ ap (end_at (runs_at runs worker)) at.place_is ∙ ends in
    record {
      ended = subst (λ (f : Option RunEnd). WasNotStopped f) fate (none ran.number at.below);
      long = is_long frames workers worker ran.number at.handed;
    }

pub all_whole : (frames : List (List ℕ)) (workers worker count : ℕ) (runs : List (List Ran)) → (counts_of frames workers runs count).stopped ≡ 0 →
    records_of (runs_at runs worker) ≡ share frames workers worker count → AllByRecursion (IsWhole frames) (runs_at runs worker)
all_whole frames workers worker count runs none are =
    each_run (IsWhole frames) (runs_at runs worker) (whole_there frames workers worker count runs (none_of frames workers runs count none) are)
