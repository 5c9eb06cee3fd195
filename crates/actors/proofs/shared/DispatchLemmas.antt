-- What was handed over, record by record.
use Rattle.std.proofs.Common.{replicate, ◌⊎◌, inl, inr, nat_lt, ◌≡◌, ℕ, ◌+◌, ◌<◌, ◌≤◌, ◌%◌, ◌==◌, Bool, true, false, if◌then◌else◌, List, [], ◌∷◌, ◌++◌, length, refl, sym, ap, ◌∙◌, subst, arith}
use Rattle.rx_queues.specs.declared.job.Job.{Job}
use Rattle.rx_queues.specs.declared.job.Job.TheVariants.{Frame, Note}
use Rattle.std.specs.Prelude.{slice_index}
use Rattle.std.proofs.lemmas.Bool.Decides.{nat_tests}
use Rattle.actors.specs.Actors.{commands_from, ArePutAt, AreHandedOver, AreDue, AreInTime, AreDispatched}
use Rattle.actors.specs.Puts.{put_at, with_record, ArePut}
use Rattle.actors.specs.Shares.{frame_at, is_short, worker_of_frame}
use Rattle.actors.proofs.shared.HandLemmas.{commands_join, rounds_more}
use Rattle.actors.proofs.shared.PutLemmas.{length_with_job, job_elsewhere, with_short, with_long, record_put, none_put, nothing_put, length_replicate}

-- the workers' queues stay as they are
still_put : (frames : List (List ℕ)) (workers count place : ℕ) (jobs : List Job) (before after : List (List Job)) → workers ≤ place
    → ArePutAt place jobs before after → ArePut frames workers count before → ArePut frames workers count after
still_put frames workers count place jobs before after past put were = record {
  enough = (let same = put.count in let enough = were.enough in omega (arith, same, enough));
  each = λ worker below. put.elsewhere worker (λ same. absurd (omega (arith, same, past, below))) ∙ were.each worker below;
}

-- a record goes to none but its worker's queue
record_elsewhere : (frame : List ℕ) (workers number place : ℕ) (puts : List (List Job)) → worker_of_frame frame workers < workers → workers ≤ place
    → put_at (with_record frame workers number puts) place ≡ put_at puts place
record_elsewhere frame workers number place puts below past = by_test (is_short frame) refl where
  by_test : (test : Bool) → is_short frame ≡ test → put_at (with_record frame workers number puts) place ≡ put_at puts place
  by_test true short = ap (λ p. put_at p place) (with_short frame workers number puts short)
  by_test false long = ap (λ p. put_at p place) (with_long frame workers number puts long)
      ∙ job_elsewhere (worker_of_frame frame workers) place (Frame number) puts (λ same. absurd (omega (arith, same, below, past)))

record_count : (frame : List ℕ) (workers number : ℕ) (puts : List (List Job)) → length (with_record frame workers number puts) ≡ length puts
record_count frame workers number puts = by_test (is_short frame) refl where
  by_test : (test : Bool) → is_short frame ≡ test → length (with_record frame workers number puts) ≡ length puts
  by_test true short = ap (λ (p : List (List Job)). length p) (with_short frame workers number puts short)
  by_test false long = ap (λ (p : List (List Job)). length p) (with_long frame workers number puts long)
      ∙ length_with_job (worker_of_frame frame workers) (Frame number) puts

pub none_dispatched : (frames : List (List ℕ)) (starts : List ℕ) (workers first : ℕ) (puts : List (List Job)) → puts ≡ replicate (workers + 2) []
    → AreDispatched frames starts workers 0 first first puts
none_dispatched frames starts workers first puts is = record {
  are_put = nothing_put frames workers puts is;
  enough = (let n = ap (λ (p : List (List Job)). length p) is ∙ length_replicate (workers + 2) [] in omega (arith, n));
  count = 0;
  together = omega arith;
  commands = ap (λ p. put_at p workers) is ∙ none_put (workers + 2) workers;
  notes = ap (λ p. put_at p (workers + 1)) is ∙ none_put (workers + 2) (workers + 1);
  in_time = record { not_early = λ place from below. absurd (omega (arith, from, below)); not_late = λ more. omega arith };
}

-- more commands, in time
handed_then : (frames : List (List ℕ)) (starts : List ℕ) (workers number first next end : ℕ) (before after : List (List Job))
    → AreDispatched frames starts workers number first next before → AreHandedOver workers next end before after
    → AreInTime starts (length frames) number first end
    → AreDispatched frames starts workers number first end after
handed_then frames starts workers number first next end before after were handed in_time =
    let same = handed.put.count in
    let enough = were.enough in
    let here = were.together in
    let more = handed.together in record {
      are_put = still_put frames workers number workers _ before after (omega arith) handed.put were.are_put;
      enough = omega (arith, same, enough);
      count = were.count + handed.count;
      together = omega (arith, here, more);
      commands = handed.put.here (omega (arith, enough)) ∙ ap (λ jobs. jobs ++ commands_from next handed.count) were.commands
          ∙ commands_join first were.count next handed.count here;
      notes = handed.put.elsewhere (workers + 1) (λ e. absurd (omega (arith, e))) ∙ were.notes;
      in_time = in_time;
    }

-- those that are due
due_in_time : (starts : List ℕ) (records number first next end : ℕ) → AreInTime starts records number first next → AreDue starts next number end
    → AreInTime starts records number first end
due_in_time starts records number first next end were due = record {
  not_early = λ place from below. by_test place from below (nat_lt place next) refl;
  not_late = λ more. (let early = due.early more in omega (arith, early));
} where
  by_test : (place : ℕ) → first ≤ place → place < end → (test : Bool) → nat_lt place next ≡ test → (slice_index starts place ≤ number) ⊎ (number ≡ records)
  by_test place from below true is = were.not_early place from (grind (arith, nat_tests, is))
  by_test place from below false is = inl (due.due place (grind (arith, nat_tests, is)) below)

pub commands_handed : (frames : List (List ℕ)) (starts : List ℕ) (workers number first next end : ℕ) (before after : List (List Job))
    → AreDispatched frames starts workers number first next before → AreHandedOver workers next end before after → AreDue starts next number end
    → AreDispatched frames starts workers number first end after
commands_handed frames starts workers number first next end before after were handed due =
    handed_then frames starts workers number first next end before after were handed
    (due_in_time starts (length frames) number first next end were.in_time due)

-- all that are left, behind the last record
pub commands_left : (frames : List (List ℕ)) (starts : List ℕ) (workers number first next : ℕ) (before after : List (List Job)) → number ≡ length frames
    → AreDispatched frames starts workers number first next before → AreHandedOver workers next (length starts) before after
    → AreDispatched frames starts workers number first (length starts) after
commands_left frames starts workers number first next before after all were handed =
    handed_then frames starts workers number first next (length starts) before after were handed
    (record { not_early = λ place from below. inr all; not_late = λ more. absurd (omega (arith, more)) })

pub record_dispatched : (frames : List (List ℕ)) (starts : List ℕ) (workers number first next : ℕ) (before middle after : List (List Job))
    → worker_of_frame (frame_at frames number) workers < workers → number < length frames
    → (next < length starts → number < slice_index starts next) → AreDispatched frames starts workers number first next before
    → middle ≡ with_record (frame_at frames number) workers number before
    → ArePutAt (workers + 1) (if (number + 1) % 64 == 0 then Note ∷ [] else []) middle after
    → AreDispatched frames starts workers (number + 1) first next after
record_dispatched frames starts workers number first next before middle after below inside none_due were is round =
    let frame = frame_at frames number in
    let count : length middle ≡ length before = ap (λ (p : List (List Job)). length p) is ∙ record_count frame workers number before in
    let same = round.count in
    let enough = were.enough in
    let put : ArePut frames workers (number + 1) middle =
    subst (λ p. ArePut frames workers (number + 1) p) (sym is) (record_put frames workers number before below were.are_put) in record {
      are_put = still_put frames workers (number + 1) (workers + 1) _ middle after (omega arith) round put;
      enough = omega (arith, same, count, enough);
      count = were.count;
      together = were.together;
      commands = round.elsewhere workers (λ e. absurd (omega (arith, e))) ∙ ap (λ p. put_at p workers) is
          ∙ record_elsewhere frame workers number workers before below (omega arith) ∙ were.commands;
      notes = round.here (omega (arith, count, enough)) ∙ ap (λ jobs. jobs ++ (if (number + 1) % 64 == 0 then Note ∷ [] else []))
          (ap (λ p. put_at p (workers + 1)) is ∙ record_elsewhere frame workers number (workers + 1) before below (omega arith) ∙ were.notes)
          ∙ rounds_more number;
      in_time = record {
        not_early = λ place from earlier. still place (were.in_time.not_early place from earlier);
        not_late = λ more. (let later = none_due more in omega (arith, later));
      };
    }
  where
    still : (place : ℕ) → (slice_index starts place ≤ number) ⊎ (number ≡ length frames)
        → (slice_index starts place ≤ number + 1) ⊎ (number + 1 ≡ length frames)
    still place (inl gone) = inl (omega (arith, gone))
    still place (inr all) = absurd (omega (arith, all, inside))

-- all commands were handed over
pub all_commands : (frames : List (List ℕ)) (starts : List ℕ) (workers number first last : ℕ) (puts : List (List Job))
    → AreDispatched frames starts workers number first last puts
    → (count : ℕ) → first + count ≡ last → put_at puts workers ≡ commands_from first count
all_commands frames starts workers number first last puts were count is =
    were.commands ∙ ap (λ n. commands_from first n) (let here = were.together in omega (arith, here, is))
