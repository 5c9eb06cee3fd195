-- What the controller and the reclaimer are handed beside the workers.
use Rattle.std.specs.Prelude.{◌≡◌, ◌⊎◌, ◌<◌, ◌≤◌, ◌/◌, ℕ, zero, suc, ◌+◌, List, [], ◌∷◌, ◌++◌, map, length, replicate, slice_index}
use Rattle.std.specs.Prelude.{nat_lt, if◌then◌else◌}
use Rattle.rx_queues.specs.declared.job.Job.{Job}
use Rattle.rx_queues.specs.declared.job.Job.TheVariants.{Command, Note, End}
use Rattle.shards.specs.CallerView.{nothing_seen}
use Rattle.shards.specs.Passes.{PassView, view_at}
use Rattle.actors.specs.Puts.{ArePut, put_at}

-- the pass that each begins with has seen nothing, and nothing was done by it
abbrev pub IsUnused : PassView → Type 0
IsUnused pass = ((number : ℕ) → view_at pass number ≡ nothing_seen) × (pass.deeds ≡ [])

-- N numbers, from this one on
abbrev pub numbers_from : ℕ → ℕ → List ℕ
numbers_from first zero = []
numbers_from first (suc count) = first ∷ numbers_from (first + 1) count

-- N commands of the script, from this one on
abbrev pub commands_from : ℕ → ℕ → List Job
commands_from first count = map (λ (number : ℕ). Command number) (numbers_from first count)

-- what is so of all commands of the script from this one on
abbrev pub OfCommandsFrom : ℕ → List ℕ → (List Job → Type 0) → Type 0
OfCommandsFrom first starts is = (count : ℕ) → first + count ≡ length starts → is (commands_from first count)

-- a round is asked for after every 64 records, and then the end comes
abbrev pub round_jobs : ℕ → List Job
round_jobs records = replicate (records / 64) Note ++ End ∷ []

-- the last job is the end
pub record HasEndLast (jobs : List Job) : Type 0 where
  pub before : List Job
  pub jobs_are : jobs ≡ before ++ End ∷ []

-- none of the jobs is the end
abbrev pub HasNoEnd : List Job → Type 0
HasNoEnd [] = Unit
HasNoEnd (job ∷ later) = (¬ (job ≡ End)) × HasNoEnd later

-- the last job is the end, and no other one
pub record EndsOnce (jobs : List Job) : Type 0 where
  pub before : List Job
  pub no_end : HasNoEnd before
  pub jobs_are : jobs ≡ before ++ End ∷ []

-- these jobs were put into the queue at the place, and nothing into another
pub record ArePutAt (place : ℕ) (jobs : List Job) (before after : List (List Job)) : Type 0 where
  pub count : length after ≡ length before
  pub here : place < length before → put_at after place ≡ put_at before place ++ jobs
  pub elsewhere : (other : ℕ) → ¬ (other ≡ place) → put_at after other ≡ put_at before other

-- commands from one number up to another were handed over
pub record AreHandedOver (place from end : ℕ) (before after : List (List Job)) : Type 0 where
  pub count : ℕ
  pub together : from + count ≡ end
  pub put : ArePutAt place (commands_from from count) before after

-- how many commands are due once N records were dispatched: those at the script's beginning that come after no more
abbrev pub due_to : List ℕ → ℕ → ℕ
due_to [] number = 0
due_to (start ∷ later) number = if nat_lt number start then 0 else suc (due_to later number)

-- how many commands are due: all from this one on that come after no more records than were dispatched, up to the first for which it is
-- too early
pub record AreDue (starts : List ℕ) (from number end : ℕ) : Type 0 where
  pub up : from ≤ end
  pub within : end ≤ length starts
  pub due : (place : ℕ) → from ≤ place → place < end → slice_index starts place ≤ number
  pub early : end < length starts → number < slice_index starts end

-- In time: no command was handed over before as many records as its number were dispatched, unless all were; and none is left whose number
-- has gone by.
pub record AreInTime (starts : List ℕ) (records number first next : ℕ) : Type 0 where
  pub not_early : (place : ℕ) → first ≤ place → place < next → (slice_index starts place ≤ number) ⊎ (number ≡ records)
  pub not_late : next < length starts → number ≤ slice_index starts next

-- N records were dispatched, the commands up to one were handed over in time, and a round was asked for after every 64 records
pub record AreDispatched (frames : List (List ℕ)) (starts : List ℕ) (workers number first next : ℕ) (puts : List (List Job)) : Type 0 where
  pub are_put : ArePut frames workers number puts
  pub enough : workers + 1 < length puts
  pub count : ℕ
  pub together : first + count ≡ next
  pub commands : put_at puts workers ≡ commands_from first count
  pub notes : put_at puts (workers + 1) ≡ replicate (number / 64) Note
  pub in_time : AreInTime starts (length frames) number first next

-- every thread was handed the end, and nothing after that, whether or not it was started
abbrev pub AreAllEnded : ℕ → List (List Job) → Type 0
AreAllEnded queues puts = (place : ℕ) → place < queues → EndsOnce (put_at puts place)

-- both were handed the end, and nobody else was handed anything
pub record AreBothEnded (workers : ℕ) (before after : List (List Job)) : Type 0 where
  pub others : (place : ℕ) → place < workers → put_at after place ≡ put_at before place
  pub controller : workers < length before → put_at after workers ≡ put_at before workers ++ End ∷ []
  pub reclaimer : workers + 1 < length before → put_at after (workers + 1) ≡ put_at before (workers + 1) ++ End ∷ []
