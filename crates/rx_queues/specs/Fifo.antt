-- One queue: what was put is what was taken and then what the queue holds, in order. At most one pass has the right to put, and it
-- knows all that was put; the same for taking. Both know what the queue is for, and each job that it holds fits that.
use Rattle.std.specs.Prelude.{◌≡◌, ℕ, ◌+◌, ◌<◌, Bool, true, false, List, [], ◌∷◌, ◌++◌}
use Rattle.std.specs.List.{AllByRecursion}
use mathlib.Core.Option.{some}
use lib.ListN.{get_elem?}
use Rattle.rx_queues.specs.declared.job.Job.{Job}
use Rattle.rx_queues.specs.declared.job.Job.TheVariants.{Frame, Command, Note, End}
use Rattle.rx_queues.specs.declared.rule.JobsKnown.{JobsKnown}
use Rattle.rx_queues.specs.declared.rule.Purpose.{Purpose}

-- The job is one for the queue: a frame for a worker, a command for the controller, each of a number below how many there are, and a note
-- for the reclaimer; the end is for all.
abbrev pub Fits : Purpose → Job → Type 0
Fits purpose (Frame number) = (purpose.place < purpose.workers) × (number < purpose.records)
Fits purpose (Command number) = (purpose.place ≡ purpose.workers) × (number < purpose.commands)
Fits purpose Note = purpose.place ≡ purpose.workers + 1
Fits purpose End = Unit

-- what a queue is for until its opener says it
abbrev pub no_purpose : Purpose
no_purpose = record { place = 0; workers = 0; records = 0; commands = 0 }

abbrev pub known : Purpose → Bool → Bool → List Job → List Job → JobsKnown
known purpose puts takes put taken = record { purpose = purpose; puts = puts; takes = takes; put = put; taken = taken }

-- the right to put, of a queue into which this was put
abbrev pub putter : Purpose → List Job → JobsKnown
putter purpose put = known purpose true false put []

-- the right to take, from a queue from which this was taken
abbrev pub taker : Purpose → List Job → JobsKnown
taker purpose taken = known purpose false true [] taken

-- after the job was put
abbrev pub with_put : JobsKnown → Job → JobsKnown
with_put before job = known before.purpose before.puts before.takes (before.put ++ job ∷ []) before.taken

-- after the job was taken
abbrev pub with_taken : JobsKnown → Job → JobsKnown
with_taken before job = known before.purpose before.puts before.takes before.put (before.taken ++ job ∷ [])

-- what was taken is a beginning of what was put
pub record IsTakenInOrder (taken put : List Job) : Type 0 where
  pub left : List Job
  pub rest : put ≡ taken ++ left

-- a pass with the right to put is this one, and knows all that was put and what the queue is for; the same for taking
abbrev pub Knows : Purpose → ℕ → ℕ → List Job → List Job → ℕ → JobsKnown → Type 0
Knows purpose writer reader put taken pass it =
    (it.puts ≡ true → (pass ≡ writer) × (it.put ≡ put) × (it.purpose ≡ purpose))
    × (it.takes ≡ true → (pass ≡ reader) × (it.taken ≡ taken) × (it.purpose ≡ purpose))

-- the rule of the queue: the jobs that it holds, and what each of its passes knows
pub record IsInOrder (held : List Job) (passes : List JobsKnown) : Type 0 where
  pub purpose : Purpose
  pub writer : ℕ
  pub reader : ℕ
  pub put : List Job
  pub taken : List Job
  pub rest : put ≡ taken ++ held
  pub fit : AllByRecursion (Fits purpose) held
  pub each : (pass : ℕ) (it : JobsKnown) → get_elem? passes pass ≡ some it → Knows purpose writer reader put taken pass it

-- jobs that a queue may hold, as far as a pass knows: those that were put and not yet taken
pub record MayHold (it : JobsKnown) (held : List Job) : Type 0 where
  pub put : List Job
  pub taken : List Job
  pub rest : put ≡ taken ++ held
  pub all_put : it.puts ≡ true → it.put ≡ put
  pub all_taken : it.takes ≡ true → it.taken ≡ taken
