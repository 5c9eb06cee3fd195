-- Which queue is whose, which passes belong to which queues, and what a queue's passes have put and taken.
use Rattle.std.specs.Prelude.{◌≡◌, ℕ, zero, suc, ◌+◌, ◌<◌, true, List, [], ◌∷◌, ◌++◌, map, length, slice_index_or, Option}
use mathlib.Core.Option.{some}
use lib.ListN.{get_elem?}
use Rattle.crossbeam_queue.specs.declared.array_queue.Doing.{Doing}
use Rattle.crossbeam_queue.specs.declared.array_queue.Slotted.{Slotted}
use Rattle.crossbeam_queue.specs.Passes.{Pass, view, IsPassOf, ruled_capacity}
use Rattle.semantics.specs.declared.call.Caller.{Caller}
use Rattle.semantics.specs.declared.call.Caller.TheVariants.{Worker, Controller, Reclaimer}
use Rattle.rx_queues.specs.declared.job.Job.{Job}
use Rattle.rx_queues.specs.declared.passes.PutPass.{PutPass}
use Rattle.rx_queues.specs.declared.passes.TakePass.{TakePass}
use Rattle.rx_queues.specs.declared.passes.Queues.{Queues}
use Rattle.rx_queues.specs.declared.rule.JobsKnown.{JobsKnown}
use Rattle.rx_queues.specs.declared.rule.Purpose.{Purpose}
use Rattle.rx_queues.specs.Fifo.{Fits}

-- the queues are in this order: the workers' by their numbers, the controller's, the reclaimer's
abbrev pub queue_of : ℕ → Caller → ℕ
queue_of workers (Worker number) = number
queue_of workers Controller = workers
queue_of workers Reclaimer = workers + 1

-- the caller has a queue
abbrev pub HasQueue : ℕ → Caller → Type 0
HasQueue workers (Worker number) = number < workers
HasQueue workers who = Unit

-- how many workers have a queue
abbrev pub workers_of : Queues → ℕ
workers_of queues = queues.workers

-- how many records there are, whose frames may go to workers
abbrev pub record_count_of : Queues → ℕ
record_count_of queues = queues.records

-- how many commands there are, which may go to the controller
abbrev pub command_count_of : Queues → ℕ
command_count_of queues = queues.commands

-- what the queue at a place is for, among queues for N workers, records and commands
abbrev pub purpose_at : ℕ → ℕ → ℕ → ℕ → Purpose
purpose_at workers records commands place = record { place = place; workers = workers; records = records; commands = commands }

-- what the queue at a place of these is for
abbrev pub purpose_of : Queues → ℕ → Purpose
purpose_of queues place = purpose_at queues.workers queues.records queues.commands place

-- the job is one for the queue at the place: a frame for a worker, a command for the controller, a note for the reclaimer, or the end
abbrev pub FitsAt : Queues → ℕ → Job → Type 0
FitsAt queues place job = Fits (purpose_of queues place) job

-- what was put through the pass, queue by queue
abbrev pub jobs_put : PutPass → List (List Job)
jobs_put pass = map (λ (one : Pass Job JobsKnown). (view one).put) pass.passes.items

-- what was taken through the pass
abbrev pub jobs_taken : TakePass → List Job
jobs_taken pass = (view pass.pass).taken

-- the right to put into this queue, which has room for 64 jobs, and is for this
abbrev pub IsPutPassFor : {Q A : Type 0} → Purpose → Slotted (Option Job) (Doing Job JobsKnown) Q A → Pass Job JobsKnown → Type 0
IsPutPassFor purpose queue pass =
    IsPassOf queue pass × ((view pass).puts ≡ true) × ((view pass).purpose ≡ purpose) × (ruled_capacity queue ≡ 64)

-- the right to take from this queue, which is for this
abbrev pub IsTakePassFor : {Q A : Type 0} → Purpose → Slotted (Option Job) (Doing Job JobsKnown) Q A → Pass Job JobsKnown → Type 0
IsTakePassFor purpose queue pass = IsPassOf queue pass × ((view pass).takes ≡ true) × ((view pass).purpose ≡ purpose)

-- the right to put into each of these queues, which are for these
abbrev pub ArePutPasses : {Q A : Type 0} → (ℕ → Purpose) → List (Slotted (Option Job) (Doing Job JobsKnown) Q A) →
    List (Pass Job JobsKnown) → Type 0
ArePutPasses {Q} {A} purposes queues passes = (at : ℕ) (queue : Slotted (Option Job) (Doing Job JobsKnown) Q A) (pass : Pass Job JobsKnown)
    → get_elem? queues at ≡ some queue → get_elem? passes at ≡ some pass → IsPutPassFor (purposes at) queue pass

-- the right to take from the queue at this place, of queues that are for these
abbrev pub IsTakePassAt : {Q A : Type 0} → (ℕ → Purpose) → List (Slotted (Option Job) (Doing Job JobsKnown) Q A) →
    ℕ → Pass Job JobsKnown → Type 0
IsTakePassAt {Q} {A} purposes queues at pass = (queue : Slotted (Option Job) (Doing Job JobsKnown) Q A)
    → get_elem? queues at ≡ some queue → IsTakePassFor (purposes at) queue pass

-- the pass has the right to put into these queues
abbrev pub IsPutPassOf : Queues → PutPass → Type 0
IsPutPassOf queues pass =
    (length pass.passes.items ≡ length queues.queues.items) × ArePutPasses (purpose_of queues) queues.queues.items pass.passes.items

-- the place of the queue from which the pass may take
abbrev pub place_taken_from : TakePass → ℕ
place_taken_from pass = pass.queue

-- the pass has the right to take from one of these queues
abbrev pub IsTakePassOf : Queues → TakePass → Type 0
IsTakePassOf queues pass =
    (pass.queue < length queues.queues.items) × IsTakePassAt (purpose_of queues) queues.queues.items pass.queue pass.pass

-- the lists with the job at the end of the one at this place
abbrev pub with_job_at : ℕ → Job → List (List Job) → List (List Job)
with_job_at at job [] = []
with_job_at zero job (first ∷ others) = (first ++ job ∷ []) ∷ others
with_job_at (suc at) job (first ∷ others) = first ∷ with_job_at at job others

-- what was put into the caller's queue
abbrev pub jobs_put_for : Queues → Caller → PutPass → List Job
jobs_put_for queues who pass = slice_index_or (jobs_put pass) (queue_of queues.workers who) []

-- each right to take is of the queue at its place, and nothing was taken through it
abbrev pub TakeAtTheirPlaces : Queues → List TakePass → Type 0
TakeAtTheirPlaces queues passes = (at : ℕ) (pass : TakePass) → get_elem? passes at ≡ some pass
    → IsTakePassOf queues pass × (place_taken_from pass ≡ at) × (jobs_taken pass ≡ [])

-- the rights to take from newly opened queues: the workers' by their numbers, the controller's, the reclaimer's
abbrev pub AreTakePasses : Queues → List TakePass → Type 0
AreTakePasses queues passes = (length passes ≡ queues.workers + 2) × TakeAtTheirPlaces queues passes

-- at one moment of the call the queue was full: 64 of the jobs that were put were not taken
abbrev pub WasFull : List Job → Type 0
WasFull put = (taken : List Job) × (held : List Job) × (length held ≡ 64) × (put ≡ taken ++ held)
