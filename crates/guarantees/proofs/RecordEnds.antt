-- What became of each record, by the runs of the workers: in the words of the statement and in those of a replay's account.
use Rattle.std.proofs.Common.{◌≡◌, ℕ, zero, suc, ◌+◌, ◌<◌, ◌≤◌, ◌==◌, Bool, true, false, not, ◌&&◌, nat_lt, List, [], ◌∷◌, ◌++◌, length, refl, sym, ◌∙◌, ap, subst, arith, append_assoc, append-nil}
use Rattle.std.specs.Prelude.{map, filter, Option, Some, None, slice_get, if◌then◌else◌}
use Rattle.std.proofs.lemmas.Bool.Decides.{nat_tests}
use Rattle.std.proofs.lemmas.List.{map-append, length-append, length-map}
use Rattle.std.proofs.lemmas.List.Elements.{filter-append}
use Rattle.wire.specs.declared.records.Sent.{Sent}
use Rattle.semantics.specs.declared.verdict.Verdict.TheVariants as verdicts
use Rattle.actors.specs.declared.account.Counts.{Counts}
use Rattle.actors.specs.declared.outcome.ToldEnd.{ToldEnd}
use Rattle.actors.specs.declared.runner.FrameFate.{FrameFate}
use Rattle.actors.specs.declared.runner.FrameFate.TheVariants.{Aborted, Dropped, Passed, Sent as IsSent}
use Rattle.actors.specs.declared.runner.Ran.{Ran as OneRun}
use Rattle.actors.specs.declared.runner.RunEnd.{RunEnd}
use Rattle.actors.specs.declared.runner.RunEnd.TheVariants.{Stopped as WasStopped, Exited as HasExited}
use Rattle.actors.specs.Accounts.{runs_at, end_at, fate_of, counted, counts_of, sent_by, sent_of, verdict_for, record_end, ends_of}
use Rattle.actors.specs.RunJobs.{records_of}
use Rattle.actors.specs.Shares.{frames_of, frame_at, is_short, worker_of_frame, is_handed, share, captured_of}
use Rattle.actors.proofs.shared.AccountLemmas.{handed_own}
use Rattle.semantics.specs.Events.{Ending, Exited, Stopped}
use Rattle.semantics.specs.Replay.{Captured, RecordEnd, Short, Ran, Totals, runner_of, is_run_by, ran_by, ends_by, with_end, with_ends, totals_of, sent_for, frames_sent}
use Rattle.guarantees.specs.ReplayOf.{totals_in, told_of}
use Rattle.guarantees.proofs.AnswerLemmas.{one_behind}
use Rattle.actors.proofs.shared.ShareOrder.{fate_is, share_at}
use Rattle.actors.proofs.shared.PutLemmas.{worker_below}

-- ---- lists by places

module _ {A : Type 0} where
  abbrev pub place_in : List A → ℕ → List A
  place_in [] place = []
  place_in (x ∷ xs) zero = x ∷ []
  place_in (x ∷ xs) (suc place) = place_in xs place

  abbrev pub first : ℕ → List A → List A
  first zero xs = []
  first (suc count) [] = []
  first (suc count) (x ∷ xs) = x ∷ first count xs

  pub first_more : (count : ℕ) (xs : List A) → first (suc count) xs ≡ first count xs ++ place_in xs count
  first_more zero [] = refl
  first_more zero (x ∷ xs) = refl
  first_more (suc count) [] = refl
  first_more (suc count) (x ∷ xs) = ap (λ (list : List A). x ∷ list) (first_more count xs)

  pub first_all : (xs : List A) → first (length xs) xs ≡ xs
  first_all [] = refl
  first_all (x ∷ xs) = ap (λ (list : List A). x ∷ list) (first_all xs)

  pub placed : (xs : List A) (place : ℕ) (x : A) → slice_get xs place ≡ Some x → place_in xs place ≡ x ∷ []
  placed [] place x there = absurd cc
  placed (first ∷ xs) zero x there = ap (λ (one : A). one ∷ []) (cc there)
  placed (first ∷ xs) (suc place) x there = placed xs place x there

  -- what is at a place
  pub there_is : (xs : List A) (place : ℕ) → place < length xs → (x : A) × (slice_get xs place ≡ Some x)
  there_is [] place below = absurd (omega (arith, below))
  there_is (x ∷ xs) zero below = (x, refl)
  there_is (x ∷ xs) (suc place) below = there_is xs place (omega (arith, below))

pub frame_there : (records : List Sent) (number : ℕ) (sent : Sent) → slice_get records number ≡ Some sent →
    frame_at (frames_of records) number ≡ sent.bytes.items
frame_there [] number sent there = absurd cc
frame_there (first ∷ later) zero sent there = let same : first ≡ sent = cc there in ap (λ (one : Sent). one.bytes.items) same
frame_there (first ∷ later) (suc number) sent there = frame_there later number sent there

-- the records of these numbers
abbrev pub picked : List Sent → List ℕ → List Captured
picked records [] = []
picked records (number ∷ later) = map captured_of (place_in records number) ++ picked records later

-- ---- how a run ended, in both words

abbrev pub IsFrameOf : Sent → List ℕ → FrameFate → Type 0
IsFrameOf sent frame (IsSent out) = (out.seconds ≡ sent.seconds) × (out.micros ≡ sent.micros) × (out.bytes.items ≡ frame)
IsFrameOf sent frame fate = Unit {0}

abbrev pub IsEndingOf : Sent → RunEnd → Ending → Type 0
IsEndingOf sent WasStopped ending = (shard : ℕ) × (ending ≡ Stopped shard)
IsEndingOf sent (HasExited steps fate) ending = (frame : List ℕ) × (ending ≡ Exited (verdict_for fate) frame steps) × IsFrameOf sent frame fate

-- the end of a record, by the run that it had
abbrev pub IsEndOf : Sent → ℕ → Option RunEnd → RecordEnd → Type 0
IsEndOf sent worker None end = end ≡ Short
IsEndOf sent worker (Some fate) end = (ending : Ending) × (end ≡ Ran worker ending) × IsEndingOf sent fate ending

-- ---- one record more

counted_more : (totals : Totals) (ends : List RecordEnd) (end : RecordEnd) → with_ends totals (ends ++ end ∷ []) ≡ with_end (with_ends totals ends) end
counted_more totals [] end = refl
counted_more totals (one ∷ later) end = counted_more (with_end totals one) later end

all_more : (ends : List RecordEnd) (end : RecordEnd) (counts : Counts) → totals_in counts ≡ totals_of ends →
    with_end (totals_in counts) end ≡ totals_of (ends ++ end ∷ [])
all_more ends end counts so = ap (λ (totals : Totals). with_end totals end) so ∙ sym (counted_more (totals_of []) ends end)

totals_more : (ends : List RecordEnd) (counts : Counts) (sent : Sent) (worker : ℕ) (fate : Option RunEnd) (end : RecordEnd) →
    totals_in counts ≡ totals_of ends → IsEndOf sent worker fate end → totals_in (counted counts fate) ≡ totals_of (ends ++ end ∷ [])
totals_more ends counts sent worker None end so is = ap (with_end (totals_in counts)) (sym is) ∙ all_more ends end counts so
totals_more ends counts sent worker (Some WasStopped) end so is =
    ap (with_end (totals_in counts)) (sym (is.1 ∙ ap (Ran worker) is.2.1)) ∙ all_more ends end counts so
totals_more ends counts sent worker (Some (HasExited steps Aborted)) end so is =
    ap (with_end (totals_in counts)) (sym (is.1 ∙ ap (Ran worker) is.2.1)) ∙ all_more ends end counts so
totals_more ends counts sent worker (Some (HasExited steps Dropped)) end so is =
    ap (with_end (totals_in counts)) (sym (is.1 ∙ ap (Ran worker) is.2.1)) ∙ all_more ends end counts so
totals_more ends counts sent worker (Some (HasExited steps Passed)) end so is =
    ap (with_end (totals_in counts)) (sym (is.1 ∙ ap (Ran worker) is.2.1)) ∙ all_more ends end counts so
totals_more ends counts sent worker (Some (HasExited steps (IsSent out))) end so is =
    ap (with_end (totals_in counts)) (sym (is.1 ∙ ap (Ran worker) is.2.1)) ∙ all_more ends end counts so

sent_more : (sent : Sent) (worker : ℕ) (fate : Option RunEnd) (end : RecordEnd) → IsEndOf sent worker fate end →
    sent_for (captured_of sent) end ≡ sent_by fate
sent_more sent worker None end is = ap (sent_for (captured_of sent)) is
sent_more sent worker (Some WasStopped) end is = ap (sent_for (captured_of sent)) (is.1 ∙ ap (Ran worker) is.2.1)
sent_more sent worker (Some (HasExited steps Aborted)) end is = ap (sent_for (captured_of sent)) (is.1 ∙ ap (Ran worker) is.2.1)
sent_more sent worker (Some (HasExited steps Dropped)) end is = ap (sent_for (captured_of sent)) (is.1 ∙ ap (Ran worker) is.2.1)
sent_more sent worker (Some (HasExited steps Passed)) end is = ap (sent_for (captured_of sent)) (is.1 ∙ ap (Ran worker) is.2.1)
sent_more sent worker (Some (HasExited steps (IsSent out))) end is =
    ap (sent_for (captured_of sent)) (is.1 ∙ ap (Ran worker) is.2.1)
    ∙ (λ i. record { seconds = sym is.2.2.0 i; micros = sym is.2.2.1 i; bytes = sym is.2.2.2 i } ∷ [])

told_more : (sent : Sent) (worker : ℕ) (fate : Option RunEnd) (end : RecordEnd) → IsEndOf sent worker fate end → told_of end ≡ record_end worker fate
told_more sent worker None end is = ap told_of is
told_more sent worker (Some WasStopped) end is = ap told_of (is.1 ∙ ap (Ran worker) is.2.1)
told_more sent worker (Some (HasExited steps fate)) end is = ap told_of (is.1 ∙ ap (Ran worker) is.2.1)

-- ---- all records

-- the end at a number, by the ends of each worker's runs
abbrev pub end_for : List (List ℕ) → ℕ → (ℕ → List Ending) → ℕ → List RecordEnd
end_for frames workers ends number =
    if is_short (frame_at frames number) then Short ∷ []
    else map (Ran (worker_of_frame (frame_at frames number) workers))
    (place_in (ends (worker_of_frame (frame_at frames number) workers)) (length (share frames workers (worker_of_frame (frame_at frames number) workers) number)))

abbrev pub all_ends : List (List ℕ) → ℕ → (ℕ → List Ending) → ℕ → List RecordEnd
all_ends frames workers ends zero = []
all_ends frames workers ends (suc number) = all_ends frames workers ends number ++ end_for frames workers ends number

-- the run at a place among those of a worker, of the record of a number
pub record IsRunOfRecord (records : List Sent) (runs : List OneRun) (ends : List Ending) (place number : ℕ) : Type 0 where
  pub end : RunEnd
  pub ends_so : end_at runs place ≡ Some end
  pub sent : Sent
  pub known : slice_get records number ≡ Some sent
  pub ending : Ending
  pub there : place_in ends place ≡ ending ∷ []
  pub told : IsEndingOf sent end ending

-- each worker's runs are of its share, and each ended so
pub record AreRunsEnded (records : List Sent) (workers : ℕ) (runs : List (List OneRun)) (ends : ℕ → List Ending) : Type 0 where
  pub some : 0 < workers
  pub shares : (worker : ℕ) → worker < workers → records_of (runs_at runs worker) ≡ share (frames_of records) workers worker (length records)
  pub each : (worker : ℕ) → worker < workers → (place number : ℕ) → slice_get (records_of (runs_at runs worker)) place ≡ Some number →
      IsRunOfRecord records (runs_at runs worker) (ends worker) place number
  pub as_many : (worker : ℕ) → length (ends worker) ≡ length (share (frames_of records) workers worker (length records))

module _ (records : List Sent) (workers : ℕ) (runs : List (List OneRun)) (ends : ℕ → List Ending) (are : AreRunsEnded records workers runs ends) where
  abbrev frames : List (List ℕ)
  frames = frames_of records

  -- the record of a number, and its end
  record IsAt (number : ℕ) : Type 0 where
    sent : Sent
    known : slice_get records number ≡ Some sent
    frame : frame_at frames number ≡ sent.bytes.items
    end : RecordEnd
    made : end_for frames workers ends number ≡ end ∷ []
    is : IsEndOf sent (worker_of_frame (frame_at frames number) workers) (fate_of frames workers runs number) end
    runner : ran_by end ≡ runner_of (λ one. worker_of_frame one workers) (captured_of sent)
    own : (worker : ℕ) → ends_by worker (end ∷ []) ≡ (if is_handed frames workers worker number then place_in (ends worker) (length (share frames workers worker number)) else [])

  short_at : (number : ℕ) (sent : Sent) → slice_get records number ≡ Some sent → is_short (frame_at frames number) ≡ true → IsAt number
  short_at number sent known short =
      let frame = frame_there records number sent known in
      record {
        sent = sent;
        known = known;
        frame = frame;
        end = Short;
        made = ap (λ (test : Bool). if test then Short ∷ []
            else map (Ran (worker_of_frame (frame_at frames number) workers))
            (place_in (ends (worker_of_frame (frame_at frames number) workers)) (length (share frames workers (worker_of_frame (frame_at frames number) workers) number))))
            short;
        is = subst (λ (fate : Option RunEnd). IsEndOf sent (worker_of_frame (frame_at frames number) workers) fate Short)
            (sym (ap (λ (test : Bool). if test then None else end_at (runs_at runs (worker_of_frame (frame_at frames number) workers))
            (length (share frames workers (worker_of_frame (frame_at frames number) workers) number))) short)) refl;
        runner = sym (ap (λ (test : Bool). if test then None else Some (worker_of_frame sent.bytes.items workers)) (ap is_short (sym frame) ∙ short));
        own = λ worker. sym (ap (λ (test : Bool). if not test && (worker_of_frame (frame_at frames number) workers == worker)
            then place_in (ends worker) (length (share frames workers worker number)) else []) short);
      }

  long_at : (number : ℕ) (sent : Sent) → number < length records → slice_get records number ≡ Some sent → is_short (frame_at frames number) ≡ false → IsAt number
  long_at number sent below known long =
      let own : ℕ = worker_of_frame (frame_at frames number) workers in
      let few : own < workers = worker_below (frame_at frames number) workers are.some in
      let handed = handed_own frames workers own number long refl in
      let place : ℕ = length (share frames workers own number) in
      let run : IsRunOfRecord records (runs_at runs own) (ends own) place number =
      are.each own few place number
      (ap (λ (list : List ℕ). slice_get list place) (are.shares own few) ∙ share_at frames workers own number (length records) handed below) in
      let same : run.sent ≡ sent = cc (run.known, known) in
      let frame = frame_there records number sent known in
      record {
        sent = sent;
        known = known;
        frame = frame;
        end = Ran own run.ending;
        made = ap (λ (test : Bool). if test then Short ∷ [] else map (Ran own) (place_in (ends own) place)) long ∙ ap (map (Ran own)) run.there;
        is = subst (λ (fate : Option RunEnd). IsEndOf sent own fate (Ran own run.ending))
            (sym (fate_is frames workers runs own number handed ∙ run.ends_so))
            (run.ending, refl, subst (λ (one : Sent). IsEndingOf one run.end run.ending) same run.told);
        runner = ap (λ (one : List ℕ). Some (worker_of_frame one workers)) frame
            ∙ sym (ap (λ (test : Bool). if test then None else Some (worker_of_frame sent.bytes.items workers)) (ap is_short (sym frame) ∙ long));
        own = λ worker.
            by_worker worker run.ending run.there (own == worker) refl
            ∙ sym (ap (λ (test : Bool). if not test && (own == worker) then place_in (ends worker) (length (share frames workers worker number)) else []) long);
      }
    where
      by_worker : (worker : ℕ) (ending : Ending) →
          place_in (ends (worker_of_frame (frame_at frames number) workers))
          (length (share frames workers (worker_of_frame (frame_at frames number) workers) number)) ≡ ending ∷ [] →
          (test : Bool) → (worker_of_frame (frame_at frames number) workers == worker) ≡ test →
          (if worker_of_frame (frame_at frames number) workers == worker then ending ∷ [] else [])
          ≡ (if worker_of_frame (frame_at frames number) workers == worker then place_in (ends worker) (length (share frames workers worker number)) else [])
      by_worker worker ending there true same =
          let one : worker_of_frame (frame_at frames number) workers ≡ worker = grind (arith, nat_tests) in
          ap (λ (list : List Ending). if worker_of_frame (frame_at frames number) workers == worker then list else [])
          (sym there ∙ ap (λ (n : ℕ). place_in (ends n) (length (share frames workers n number))) one)
      by_worker worker ending there false same =
          ap (λ (test : Bool). if test then ending ∷ [] else []) same
          ∙ sym (ap (λ (test : Bool). if test then place_in (ends worker) (length (share frames workers worker number)) else []) same)

  at : (number : ℕ) → number < length records → IsAt number
  at number below =
      let found = there_is records number below in
      by_length found.0 found.1 (is_short (frame_at frames number)) refl
    where
      by_length : (sent : Sent) → slice_get records number ≡ Some sent → (test : Bool) → is_short (frame_at frames number) ≡ test → IsAt number
      by_length sent known true short = short_at number sent known short
      by_length sent known false long = long_at number sent below known long

  abbrev ends_to : ℕ → List RecordEnd
  ends_to count = all_ends frames workers ends count

  abbrev records_to : ℕ → List Captured
  records_to count = map captured_of (first count records)

  ends_more : (number : ℕ) → (here : IsAt number) → ends_to (suc number) ≡ ends_to number ++ here.end ∷ []
  ends_more number here = ap (λ (list : List RecordEnd). ends_to number ++ list) here.made

  records_more : (number : ℕ) → (here : IsAt number) → records_to (suc number) ≡ records_to number ++ captured_of here.sent ∷ []
  records_more number here =
      ap (map captured_of) (first_more number records ∙ ap (λ (list : List Sent). first number records ++ list) (placed records number here.sent here.known))
      ∙ map-append captured_of (first number records) (here.sent ∷ [])

  pub runners_are : (count : ℕ) → count ≤ length records →
      map ran_by (ends_to count) ≡ map (runner_of (λ one. worker_of_frame one workers)) (records_to count)
  runners_are zero within = refl
  runners_are (suc number) within =
      let here = at number (omega (arith, within)) in
      ap (map ran_by) (ends_more number here) ∙ map-append ran_by (ends_to number) (here.end ∷ [])
      ∙ ap (λ (list : List (Option ℕ)). list ++ ran_by here.end ∷ []) (runners_are number (omega (arith, within)))
      ∙ ap (λ (one : Option ℕ). map (runner_of (λ one. worker_of_frame one workers)) (records_to number) ++ one ∷ []) here.runner
      ∙ sym (map-append (runner_of (λ one. worker_of_frame one workers)) (records_to number) (captured_of here.sent ∷ []))
      ∙ ap (map (runner_of (λ one. worker_of_frame one workers))) (sym (records_more number here))

  pub totals_are : (count : ℕ) → count ≤ length records → totals_in (counts_of frames workers runs count) ≡ totals_of (ends_to count)
  totals_are zero within = refl
  totals_are (suc number) within =
      let here = at number (omega (arith, within)) in
      totals_more (ends_to number) (counts_of frames workers runs number) here.sent (worker_of_frame (frame_at frames number) workers)
      (fate_of frames workers runs number) here.end (totals_are number (omega (arith, within))) here.is
      ∙ ap totals_of (sym (ends_more number here))

  pub told_are : (count : ℕ) → count ≤ length records → map told_of (ends_to count) ≡ ends_of frames workers runs count
  told_are zero within = refl
  told_are (suc number) within =
      let here = at number (omega (arith, within)) in
      ap (map told_of) (ends_more number here) ∙ map-append told_of (ends_to number) (here.end ∷ [])
      ∙ ap (λ (list : List ToldEnd). list ++ told_of here.end ∷ []) (told_are number (omega (arith, within)))
      ∙ ap (λ (one : ToldEnd). ends_of frames workers runs number ++ one ∷ [])
      (told_more here.sent (worker_of_frame (frame_at frames number) workers) (fate_of frames workers runs number) here.end here.is)

  both_long : (one : List Captured) (other : List RecordEnd) (record' : Captured) (end : RecordEnd) → length one ≡ length other →
      frames_sent (one ++ record' ∷ []) (other ++ end ∷ []) ≡ frames_sent one other ++ sent_for record' end
  both_long [] [] record' end same = append-nil (sent_for record' end)
  both_long [] (first ∷ other) record' end same = absurd (omega (arith, same))
  both_long (first ∷ one) [] record' end same = absurd (omega (arith, same))
  both_long (first ∷ one) (begun ∷ other) record' end same =
      ap (λ (list : List Captured). sent_for first begun ++ list) (both_long one other record' end (omega (arith, same)))
      ∙ sym (append_assoc (sent_for first begun) (frames_sent one other) (sent_for record' end))

  as_long : (count : ℕ) → count ≤ length records → length (records_to count) ≡ length (ends_to count)
  as_long count within =
      sym (length-map (records_to count) (runner_of (λ one. worker_of_frame one workers)))
      ∙ ap length (sym (runners_are count within)) ∙ length-map (ends_to count) ran_by

  pub sent_are : (count : ℕ) → count ≤ length records →
      sent_of frames workers runs count ≡ frames_sent (records_to count) (ends_to count)
  sent_are zero within = refl
  sent_are (suc number) within =
      let here = at number (omega (arith, within)) in
      ap (λ (list : List Captured). list ++ sent_by (fate_of frames workers runs number)) (sent_are number (omega (arith, within)))
      ∙ ap (λ (list : List Captured). frames_sent (records_to number) (ends_to number) ++ list)
      (sym (sent_more here.sent (worker_of_frame (frame_at frames number) workers) (fate_of frames workers runs number) here.end here.is))
      ∙ sym (both_long (records_to number) (ends_to number) (captured_of here.sent) here.end (as_long number (omega (arith, within))))
      ∙ (λ i. frames_sent (sym (records_more number here) i) (sym (ends_more number here) i))

  ends_both : (worker : ℕ) (one other : List RecordEnd) → ends_by worker (one ++ other) ≡ ends_by worker one ++ ends_by worker other
  ends_both worker [] other = refl
  ends_both worker (Short ∷ one) other = ends_both worker one other
  ends_both worker (Ran own ending ∷ one) other =
      one_behind ending (ends_by worker (one ++ other)) (ends_by worker one) (ends_by worker other) (own == worker) (ends_both worker one other)

  shared_more : (worker number : ℕ) (test : Bool) →
      first (length (share frames workers worker number)) (ends worker)
      ++ (if test then place_in (ends worker) (length (share frames workers worker number)) else [])
      ≡ first (length (if test then share frames workers worker number ++ number ∷ [] else share frames workers worker number)) (ends worker)
  shared_more worker number true =
      sym (first_more (length (share frames workers worker number)) (ends worker))
      ∙ ap (λ (n : ℕ). first n (ends worker)) (sym (length_more (share frames workers worker number)))
    where
      length_more : (list : List ℕ) → length (list ++ number ∷ []) ≡ suc (length list)
      length_more [] = refl
      length_more (one ∷ list) = ap suc (length_more list)
  shared_more worker number false = append-nil (first (length (share frames workers worker number)) (ends worker))

  ends_are_first : (worker count : ℕ) → count ≤ length records →
      ends_by worker (ends_to count) ≡ first (length (share frames workers worker count)) (ends worker)
  ends_are_first worker zero within = refl
  ends_are_first worker (suc number) within =
      let here = at number (omega (arith, within)) in
      ap (ends_by worker) (ends_more number here) ∙ ends_both worker (ends_to number) (here.end ∷ [])
      ∙ ap (λ (list : List Ending). list ++ ends_by worker (here.end ∷ [])) (ends_are_first worker number (omega (arith, within)))
      ∙ ap (λ (list : List Ending). first (length (share frames workers worker number)) (ends worker) ++ list) (here.own worker)
      ∙ shared_more worker number (is_handed frames workers worker number)

  pub ends_are : (worker : ℕ) → ends_by worker (ends_to (length records)) ≡ ends worker
  ends_are worker =
      ends_are_first worker (length records) (omega arith)
      ∙ ap (λ (n : ℕ). first n (ends worker)) (sym (are.as_many worker)) ∙ first_all (ends worker)

  -- ---- the records of a worker

  picked_both : (one other : List ℕ) → picked records (one ++ other) ≡ picked records one ++ picked records other
  picked_both [] other = refl
  picked_both (number ∷ one) other =
      ap (λ (list : List Captured). map captured_of (place_in records number) ++ list) (picked_both one other)
      ∙ sym (append_assoc (map captured_of (place_in records number)) (picked records one) (picked records other))

  abbrev is_own : ℕ → Captured → Bool
  is_own worker one = is_run_by (λ frame. worker_of_frame frame workers) worker one

  picked_more : (worker number : ℕ) → (here : IsAt number) → (test : Bool) → is_own worker (captured_of here.sent) ≡ test →
      picked records (if test then share frames workers worker number ++ number ∷ [] else share frames workers worker number)
      ≡ picked records (share frames workers worker number) ++ filter (is_own worker) (captured_of here.sent ∷ [])
  picked_more worker number here true is =
      picked_both (share frames workers worker number) (number ∷ [])
      ∙ ap (λ (list : List Sent). picked records (share frames workers worker number) ++ (map captured_of list ++ [])) (placed records number here.sent here.known)
      ∙ ap (λ (test : Bool). picked records (share frames workers worker number) ++ (if test then captured_of here.sent ∷ [] else [])) (sym is)
  picked_more worker number here false is =
      sym (append-nil (picked records (share frames workers worker number)))
      ∙ ap (λ (test : Bool). picked records (share frames workers worker number) ++ (if test then captured_of here.sent ∷ [] else [])) (sym is)

  pub share_is : (worker count : ℕ) → count ≤ length records →
      picked records (share frames workers worker count) ≡ filter (is_own worker) (records_to count)
  share_is worker zero within = refl
  share_is worker (suc number) within =
      let here = at number (omega (arith, within)) in
      picked_more worker number here (is_handed frames workers worker number)
      (ap (λ (frame : List ℕ). not (nat_lt (length frame) 14) && (worker_of_frame frame workers == worker)) (sym here.frame))
      ∙ ap (λ (list : List Captured). list ++ filter (is_own worker) (captured_of here.sent ∷ [])) (share_is worker number (omega (arith, within)))
      ∙ sym (ap (filter (is_own worker)) (records_more number here)
      ∙ filter-append (is_own worker) (records_to number) (captured_of here.sent ∷ []))
