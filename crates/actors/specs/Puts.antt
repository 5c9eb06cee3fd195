-- What was put into the workers' queues.
use Rattle.std.specs.Prelude.{◌≡◌, ◌<◌, ◌≤◌, ℕ, List, [], ◌∷◌, ◌++◌, map, length, slice_index_or, if◌then◌else◌}
use Rattle.rx_queues.specs.declared.job.Job.{Job}
use Rattle.rx_queues.specs.declared.job.Job.TheVariants.{Frame, End}
use Rattle.rx_queues.specs.Passes.{with_job_at}
use Rattle.actors.specs.Shares.{is_short, worker_of_frame, share}

-- what was put into the queue at a place
abbrev pub put_at : List (List Job) → ℕ → List Job
put_at puts place = slice_index_or puts place []

-- the records as jobs
abbrev pub frame_jobs : List ℕ → List Job
frame_jobs records = map (λ (number : ℕ). Frame number) records

-- with the record, if it is long enough, at the end of what its worker was handed
abbrev pub with_record : List ℕ → ℕ → ℕ → List (List Job) → List (List Job)
with_record frame workers number puts = if is_short frame then puts else with_job_at (worker_of_frame frame workers) (Frame number) puts

-- each worker was handed its records among the first N
pub record ArePut (frames : List (List ℕ)) (workers count : ℕ) (puts : List (List Job)) : Type 0 where
  pub enough : workers < length puts
  pub each : (worker : ℕ) → worker < workers → put_at puts worker ≡ frame_jobs (share frames workers worker count)

-- each worker was then handed the end
pub record ArePutWithEnd (workers : ℕ) (before after : List (List Job)) : Type 0 where
  pub count : length after ≡ length before
  pub each : (worker : ℕ) → worker < workers → put_at after worker ≡ put_at before worker ++ End ∷ []
  pub others : (place : ℕ) → workers ≤ place → put_at after place ≡ put_at before place

-- each worker was handed the end, and no record
abbrev pub AreNonePut : ℕ → List (List Job) → Type 0
AreNonePut workers puts = (worker : ℕ) → worker < workers → put_at puts worker ≡ End ∷ []

-- each worker was handed its records, and then the end
abbrev pub AreAllPut : List (List ℕ) → ℕ → ℕ → List (List Job) → Type 0
AreAllPut frames workers count puts =
    (worker : ℕ) → worker < workers → put_at puts worker ≡ frame_jobs (share frames workers worker count) ++ End ∷ []
