-- Runs of workers, and one run more: what became of the records before it stays.
use Rattle.std.proofs.Common.{◌≡◌, ◌≢◌, ⊎_elim, ℕ, zero, suc, ◌<◌, Bool, true, false, List, [], ◌∷◌, ◌++◌, length, set, refl, sym, ap, ◌∙◌, subst, arith}
use Rattle.std.specs.Prelude.{Option, Some, None, if◌then◌else◌}
use Rattle.std.proofs.lemmas.Bool.{cases_eq}
use Rattle.semantics.proofs.shared.EachLemmas.{or_set_here, or_set_else}
use Rattle.semantics.specs.Replay.{Captured}
use Rattle.actors.specs.declared.outcome.ToldEnd.{ToldEnd}
use Rattle.actors.specs.declared.runner.Ran.{Ran}
use Rattle.actors.specs.declared.runner.RunEnd.{RunEnd}
use Rattle.actors.specs.Shares.{frame_at, is_short, worker_of_frame, share}
use Rattle.actors.specs.RunJobs.{records_of}
use Rattle.actors.specs.RunsInOrder.{IsChainOfRuns}
use Rattle.actors.specs.Accounts.{runs_at, end_at, fate_of, counted, counts_of, sent_by, sent_of, record_end, ends_of, AreRunsOfShares}
use Rattle.actors.proofs.shared.ShareLemmas.{handed_within}
use Rattle.actors.proofs.shared.AccountLemmas.{handed_own, as_many}

pub records_push : (runs : List Ran) (ran : Ran) → records_of (runs ++ ran ∷ []) ≡ records_of runs ++ ran.number ∷ []
records_push [] ran = refl
records_push (first ∷ later) ran = ap (λ (list : List ℕ). first.number ∷ list) (records_push later ran)

unfoldable pub chain_push : {S : Type 0} (IsRun : S → Ran → S → Type 0) (before middle after : S) (runs : List Ran) (ran : Ran)
    → IsChainOfRuns IsRun before runs middle → IsRun middle ran after → IsChainOfRuns IsRun before (runs ++ ran ∷ []) after
chain_push {S} IsRun before middle after [] ran chain run = (after, subst (λ (s : S). IsRun s ran after) (sym chain) run, refl)
chain_push IsRun before middle after (first ∷ later) ran chain run =
    (chain.0, chain.1, chain_push IsRun chain.0 middle after later ran chain.2 run)

end_before : (runs : List Ran) (ran : Ran) (place : ℕ) → place < length runs → end_at (runs ++ ran ∷ []) place ≡ end_at runs place
end_before [] ran place below = absurd (omega (arith, below))
end_before (first ∷ later) ran zero below = refl
end_before (first ∷ later) ran (suc place) below = end_before later ran place (omega (arith, below))

end_last : (runs : List Ran) (ran : Ran) (place : ℕ) → length runs ≡ place → end_at (runs ++ ran ∷ []) place ≡ Some ran.end
end_last [] ran zero is = refl
end_last [] ran (suc place) is = absurd (omega (arith, is))
end_last (first ∷ later) ran zero is = absurd (omega (arith, is))
end_last (first ∷ later) ran (suc place) is = end_last later ran place (omega (arith, is))

-- a worker's runs with one more
abbrev pub with_run : ℕ → Ran → List (List Ran) → List (List Ran)
with_run worker ran runs = set runs worker (runs_at runs worker ++ ran ∷ [])

pub run_here : (worker : ℕ) (ran : Ran) (runs : List (List Ran)) → worker < length runs → runs_at (with_run worker ran runs) worker ≡ runs_at runs worker ++ ran ∷ []
run_here worker ran runs below = or_set_here runs worker (runs_at runs worker ++ ran ∷ []) [] below

pub run_else : (worker other : ℕ) (ran : Ran) (runs : List (List Ran)) → other ≢ worker → runs_at (with_run worker ran runs) other ≡ runs_at runs other
run_else worker other ran runs apart = or_set_else runs worker other (runs_at runs worker ++ ran ∷ []) [] apart

-- where each worker ran its records among the first N, the next record's run changes nothing that is said of them
module _ (frames : List (List ℕ)) (workers : ℕ) where
  abbrev pub SameBelow : ℕ → List (List Ran) → List (List Ran) → Type 0
  SameBelow most runs runs' = (number : ℕ) → number < most → fate_of frames workers runs' number ≡ fate_of frames workers runs number

  abbrev fate_there : ℕ → List (List Ran) → ℕ → Option RunEnd
  fate_there worker runs number = end_at (runs_at runs worker) (length (share frames workers worker number))

  by_short : (number : ℕ) (runs runs' : List (List Ran)) →
      (is_short (frame_at frames number) ≡ false → fate_there (worker_of_frame (frame_at frames number) workers) runs' number
      ≡ fate_there (worker_of_frame (frame_at frames number) workers) runs number) →
      fate_of frames workers runs' number ≡ fate_of frames workers runs number
  by_short number runs runs' same = by_test (is_short (frame_at frames number)) refl
    where
      by_test : (short : Bool) → is_short (frame_at frames number) ≡ short →
          (if short then None else fate_there (worker_of_frame (frame_at frames number) workers) runs' number)
          ≡ (if short then None else fate_there (worker_of_frame (frame_at frames number) workers) runs number)
      by_test true is = refl
      by_test false is = same is

  pub fates_stay : (worker most : ℕ) (ran : Ran) (runs : List (List Ran)) → worker < workers → length runs ≡ workers → AreRunsOfShares frames workers most runs →
      SameBelow most runs (with_run worker ran runs)
  fates_stay worker most ran runs below all are number under = by_short number runs (with_run worker ran runs) (λ long. by_worker long)
    where
      own : ℕ
      own = worker_of_frame (frame_at frames number) workers

      by_worker : is_short (frame_at frames number) ≡ false → fate_there own (with_run worker ran runs) number ≡ fate_there own runs number
      by_worker long = ⊎_elim (λ (same : own ≡ worker). here long same)
          (λ (apart : own ≡ worker → ⊥).
          ap (λ (list : List Ran). end_at list (length (share frames workers own number))) (run_else worker own ran runs apart))
          (cases_eq own worker)
        where
          here : is_short (frame_at frames number) ≡ false → own ≡ worker → fate_there own (with_run worker ran runs) number ≡ fate_there own runs number
          here is same =
              let held = handed_own frames workers worker number is same in
              let room = handed_within frames workers worker number most held under in
              let many = sym (as_many (runs_at runs worker)) ∙ ap (λ (list : List ℕ). length list) (are worker below) in
              subst (λ (w : ℕ). fate_there w (with_run worker ran runs) number ≡ fate_there w runs number) (sym same)
              (ap (λ (list : List Ran). end_at list (length (share frames workers worker number)))
              (run_here worker ran runs (omega (arith, below, all)))
              ∙ end_before (runs_at runs worker) ran (length (share frames workers worker number)) (omega (arith, room, many)))

  pub fate_now : (worker number : ℕ) (ran : Ran) (runs : List (List Ran)) → worker < workers → length runs ≡ workers →
      AreRunsOfShares frames workers number runs → is_short (frame_at frames number) ≡ false → worker_of_frame (frame_at frames number) workers ≡ worker →
      fate_of frames workers (with_run worker ran runs) number ≡ Some ran.end
  fate_now worker number ran runs below all are long who =
      ap (λ (short : Bool). if short then None else fate_there (worker_of_frame (frame_at frames number) workers) (with_run worker ran runs) number) long
      ∙ ap (λ (w : ℕ). fate_there w (with_run worker ran runs) number) who
      ∙ ap (λ (list : List Ran). end_at list (length (share frames workers worker number))) (run_here worker ran runs (omega (arith, below, all)))
      ∙ end_last (runs_at runs worker) ran (length (share frames workers worker number))
      (sym (as_many (runs_at runs worker)) ∙ ap (λ (list : List ℕ). length list) (are worker below))

  pub counts_stay : (runs runs' : List (List Ran)) (most : ℕ) → SameBelow most runs runs' → counts_of frames workers runs' most ≡ counts_of frames workers runs most
  counts_stay runs runs' zero same = refl
  counts_stay runs runs' (suc most) same =
      ap (λ (fate : Option RunEnd). counted (counts_of frames workers runs' most) fate) (same most (omega arith))
      ∙ ap (λ counts. counted counts (fate_of frames workers runs most)) (counts_stay runs runs' most (λ number below. same number (omega (arith, below))))

  pub sent_stays : (runs runs' : List (List Ran)) (most : ℕ) → SameBelow most runs runs' → sent_of frames workers runs' most ≡ sent_of frames workers runs most
  sent_stays runs runs' zero same = refl
  sent_stays runs runs' (suc most) same =
      ap (λ (fate : Option RunEnd). sent_of frames workers runs' most ++ sent_by fate) (same most (omega arith))
      ∙ ap (λ (list : List Captured). list ++ sent_by (fate_of frames workers runs most))
      (sent_stays runs runs' most (λ number below. same number (omega (arith, below))))

  pub ends_stay : (runs runs' : List (List Ran)) (most : ℕ) → SameBelow most runs runs' → ends_of frames workers runs' most ≡ ends_of frames workers runs most
  ends_stay runs runs' zero same = refl
  ends_stay runs runs' (suc most) same =
      ap (λ (fate : Option RunEnd). ends_of frames workers runs' most ++ record_end (worker_of_frame (frame_at frames most) workers) fate ∷ [])
      (same most (omega arith))
      ∙ ap (λ (list : List ToldEnd). list ++ record_end (worker_of_frame (frame_at frames most) workers) (fate_of frames workers runs most) ∷ [])
      (ends_stay runs runs' most (λ number below. same number (omega (arith, below))))
