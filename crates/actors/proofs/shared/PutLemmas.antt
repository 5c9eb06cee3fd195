-- Lists of what was put into each queue.
use Rattle.std.proofs.Common.{replicate, ◌≡◌, ◌≢◌, ℕ, zero, suc, ◌+◌, ◌<◌, ◌==◌, Bool, true, false, List, [], ◌∷◌, ◌++◌, map, length, ◌≤◌, refl, sym, ap, ◌∙◌, subst, arith, add-one}
use Rattle.std.specs.Prelude.{nat_lt}
use Rattle.std.proofs.Math.Nat.{mod-lt}
use Rattle.crossbeam_queue.specs.Passes.{Pass, view}
use Rattle.rx_queues.specs.declared.passes.Queues.{Queues}
use Rattle.rx_queues.specs.declared.passes.PutPass.{PutPass}
use Rattle.rx_queues.specs.declared.rule.JobsKnown.{JobsKnown}
use Rattle.std.proofs.lemmas.Bool.Decides.{nat_tests}
use Rattle.rx_queues.specs.declared.job.Job.{Job}
use Rattle.rx_queues.specs.declared.job.Job.TheVariants.{Frame, End}
use Rattle.rx_queues.specs.Passes.{with_job_at, IsPutPassOf, jobs_put, workers_of}
use Rattle.actors.specs.Shares.{frame_at, is_short, is_spread_by_flow, worker_of_frame, share}
use Rattle.actors.specs.Puts.{put_at, frame_jobs, with_record, ArePut, ArePutWithEnd, AreAllPut}

pub length_with_job : (at : ℕ) (job : Job) (puts : List (List Job)) → length (with_job_at at job puts) ≡ length puts
length_with_job at job [] = refl
length_with_job zero job (first ∷ others) = refl
length_with_job (suc at) job (first ∷ others) = ap suc (length_with_job at job others)

pub job_here : (at : ℕ) (job : Job) (puts : List (List Job)) → at < length puts → put_at (with_job_at at job puts) at ≡ put_at puts at ++ job ∷ []
job_here at job [] within = absurd (omega arith)
job_here zero job (first ∷ others) within = refl
job_here (suc at) job (first ∷ others) within = job_here at job others (omega arith)

pub job_elsewhere : (at other : ℕ) (job : Job) (puts : List (List Job)) → at ≢ other → put_at (with_job_at at job puts) other ≡ put_at puts other
job_elsewhere at other job [] apart = refl
job_elsewhere zero zero job (first ∷ others) apart = absurd (apart refl)
job_elsewhere zero (suc other) job (first ∷ others) apart = refl
job_elsewhere (suc at) zero job (first ∷ others) apart = refl
job_elsewhere (suc at) (suc other) job (first ∷ others) apart = job_elsewhere at other job others (λ same. apart (ap suc same))

pub frame_jobs_push : (records : List ℕ) (number : ℕ) → frame_jobs (records ++ number ∷ []) ≡ frame_jobs records ++ Frame number ∷ []
frame_jobs_push [] number = refl
frame_jobs_push (first ∷ others) number = ap (λ jobs. Frame first ∷ jobs) (frame_jobs_push others number)

-- the next record is one more of its worker's share, and of no other's
pub share_of_short : (frames : List (List ℕ)) (workers worker count : ℕ) → is_short (frame_at frames count) ≡ true
    → share frames workers worker (suc count) ≡ share frames workers worker count
share_of_short frames workers worker count short = rw short refl

pub share_of_other : (frames : List (List ℕ)) (workers worker count : ℕ) → is_short (frame_at frames count) ≡ false
    → (worker_of_frame (frame_at frames count) workers == worker) ≡ false → share frames workers worker (suc count) ≡ share frames workers worker count
share_of_other frames workers worker count long other = rw (long, other) refl

pub share_of_own : (frames : List (List ℕ)) (workers worker count : ℕ) → is_short (frame_at frames count) ≡ false
    → (worker_of_frame (frame_at frames count) workers == worker) ≡ true
    → share frames workers worker (suc count) ≡ share frames workers worker count ++ count ∷ []
share_of_own frames workers worker count long own = rw (long, own) refl

pub with_short : (frame : List ℕ) (workers number : ℕ) (puts : List (List Job)) → is_short frame ≡ true → with_record frame workers number puts ≡ puts
with_short frame workers number puts short = rw short refl

pub with_long : (frame : List ℕ) (workers number : ℕ) (puts : List (List Job)) → is_short frame ≡ false
    → with_record frame workers number puts ≡ with_job_at (worker_of_frame frame workers) (Frame number) puts
with_long frame workers number puts long = rw long refl

same_number : (m n : ℕ) → (m == n) ≡ true → m ≡ n
same_number m n is = grind (arith, nat_tests)

other_number : (m n : ℕ) → (m == n) ≡ false → m ≢ n
other_number m n is = grind (arith, nat_tests)

long_put : (frames : List (List ℕ)) (workers worker count : ℕ) (puts : List (List Job)) (own : Bool)
    → (worker_of_frame (frame_at frames count) workers == worker) ≡ own → is_short (frame_at frames count) ≡ false
    → worker_of_frame (frame_at frames count) workers < length puts
    → put_at puts worker ≡ frame_jobs (share frames workers worker count)
    → put_at (with_job_at (worker_of_frame (frame_at frames count) workers) (Frame count) puts) worker ≡ frame_jobs (share frames workers worker (suc count))
long_put frames workers worker count puts true own long within were =
    let here : worker_of_frame (frame_at frames count) workers ≡ worker = same_number _ _ own in
    let there : worker < length puts = subst (λ n. n < length puts) here within in
    ap (λ n. put_at (with_job_at n (Frame count) puts) worker) here ∙ job_here worker (Frame count) puts there
    ∙ ap (λ jobs. jobs ++ Frame count ∷ []) were ∙ sym (frame_jobs_push (share frames workers worker count) count)
    ∙ ap frame_jobs (sym (share_of_own frames workers worker count long own))
long_put frames workers worker count puts false own long within were =
    job_elsewhere _ worker (Frame count) puts (other_number _ _ own) ∙ were ∙ ap frame_jobs (sym (share_of_other frames workers worker count long own))

pub record_put : (frames : List (List ℕ)) (workers count : ℕ) (puts : List (List Job)) → worker_of_frame (frame_at frames count) workers < workers
    → ArePut frames workers count puts → ArePut frames workers (count + 1) (with_record (frame_at frames count) workers count puts)
record_put frames workers count puts below were = subst (λ n. ArePut frames workers n (with_record (frame_at frames count) workers count puts)) (sym (add-one count)) (by_test (is_short (frame_at frames count)) refl) where
  by_test : (short : Bool) → is_short (frame_at frames count) ≡ short → ArePut frames workers (suc count) (with_record (frame_at frames count) workers count puts)
  by_test true short = record {
    enough = subst (λ (p : List (List Job)). workers < length p) (sym (with_short _ workers count puts short)) were.enough;
    each = λ worker within. ap (λ p. put_at p worker) (with_short _ workers count puts short) ∙ were.each worker within
        ∙ ap frame_jobs (sym (share_of_short frames workers worker count short));
  }
  by_test false long = record {
    enough = subst (λ n. workers < n) (sym (ap (λ p. length p) (with_long _ workers count puts long) ∙ length_with_job _ (Frame count) puts)) were.enough;
    each = λ worker within. ap (λ p. put_at p worker) (with_long _ workers count puts long)
        ∙ long_put frames workers worker count puts _ refl long (let some = were.enough in omega arith) (were.each worker within);
  }

pub worker_below : (frame : List ℕ) (workers : ℕ) → 0 < workers → worker_of_frame frame workers < workers
worker_below frame workers some = by_test (is_spread_by_flow frame) refl where
  by_test : (test : Bool) → is_spread_by_flow frame ≡ test → worker_of_frame frame workers < workers
  by_test true has = rw has (mod-lt _ {m = workers} some)
  by_test false none = rw none some

map_length : {A B : Type 0} (f : A → B) (xs : List A) → length (map f xs) ≡ length xs
map_length f [] = refl
map_length f (x ∷ xs) = ap suc (map_length f xs)

-- there is a queue for each worker
pub enough_queues : (queues : Queues) (pass : PutPass) → IsPutPassOf queues pass → workers_of queues < length (jobs_put pass)
enough_queues queues pass right =
    let lists = map_length (λ (one : Pass Job JobsKnown). (view one).put) pass.passes.items in
    let as_many = right.0 in
    let sized = queues.sized in
    omega (arith, lists, as_many, sized)

-- and two more
pub all_queues : (queues : Queues) (pass : PutPass) → IsPutPassOf queues pass → length (jobs_put pass) ≡ workers_of queues + 2
all_queues queues pass right =
    let lists = map_length (λ (one : Pass Job JobsKnown). (view one).put) pass.passes.items in
    let as_many = right.0 in
    let sized = queues.sized in
    omega (arith, lists, as_many, sized)

-- the first N workers were handed the end
pub record AreEndedUpTo (done : ℕ) (before after : List (List Job)) : Type 0 where
  pub count : length after ≡ length before
  pub ended : (worker : ℕ) → worker < done → put_at after worker ≡ put_at before worker ++ End ∷ []
  pub left : (worker : ℕ) → done ≤ worker → put_at after worker ≡ put_at before worker

pub one_ended : (done : ℕ) (before after : List (List Job)) → done < length before → AreEndedUpTo done before after
    → AreEndedUpTo (done + 1) before (with_job_at done End after)
one_ended done before after within were = record {
  count = length_with_job done End after ∙ were.count;
  ended = λ worker below. by_test worker below (nat_lt worker done) refl;
  left = λ worker past. job_elsewhere done worker End after (λ same. absurd (omega (arith, same, past))) ∙ were.left worker (omega (arith, past));
} where
  by_test : (worker : ℕ) → worker < done + 1 → (test : Bool) → nat_lt worker done ≡ test
      → put_at (with_job_at done End after) worker ≡ put_at before worker ++ End ∷ []
  by_test worker below true is =
      let earlier : worker < done = grind (arith, nat_tests) in
      job_elsewhere done worker End after (λ same. absurd (omega (arith, same, earlier))) ∙ were.ended worker earlier
  by_test worker below false is =
      let past : done ≤ worker = grind (arith, nat_tests) in
      let here : done ≡ worker = omega (arith, past, below) in
      subst (λ n. put_at (with_job_at done End after) n ≡ put_at before n ++ End ∷ []) here
      (job_here done End after (let n = were.count in omega (arith, n, within)) ∙ ap (λ jobs. jobs ++ End ∷ []) (were.left done (omega arith)))

-- nothing was put yet
pub none_put : (queues place : ℕ) → put_at (replicate queues []) place ≡ []
none_put zero place = refl
none_put (suc queues) zero = refl
none_put (suc queues) (suc place) = none_put queues place

pub length_replicate : (queues : ℕ) (jobs : List Job) → length (replicate queues jobs) ≡ queues
length_replicate zero jobs = refl
length_replicate (suc queues) jobs = ap suc (length_replicate queues jobs)

pub nothing_put : (frames : List (List ℕ)) (workers : ℕ) (puts : List (List Job)) → puts ≡ replicate (workers + 2) [] → ArePut frames workers 0 puts
nothing_put frames workers puts is = record {
  enough = (let n = ap (λ (p : List (List Job)). length p) is ∙ length_replicate (workers + 2) [] in omega (arith, n));
  each = λ worker below. ap (λ p. put_at p worker) is ∙ none_put (workers + 2) worker;
}

-- and all was, once the workers were handed the end
pub all_put : (frames : List (List ℕ)) (workers count : ℕ) (before after : List (List Job)) → ArePut frames workers count before
    → ArePutWithEnd workers before after → AreAllPut frames workers count after
all_put frames workers count before after were ended worker below = ended.each worker below ∙ ap (λ jobs. jobs ++ End ∷ []) (were.each worker below)
