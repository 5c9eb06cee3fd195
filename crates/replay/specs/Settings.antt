-- What the threads of a replay begin with, and what they have done when all have ended.
use Rattle.std.specs.Prelude.{◌≡◌, ◌⊎◌, ◌<◌, ◌≤◌, ◌+◌, ◌/◌, ◌∷◌, ◌++◌, ℕ, List, [], length, replicate}
use Rattle.semantics.specs.Each.{Each}
use Rattle.wire.specs.declared.records.Sent.{Sent}
use Rattle.rx_queues.specs.declared.job.Job.{Job}
use Rattle.rx_queues.specs.declared.job.Job.TheVariants.{Note, End}
use Rattle.rx_queues.specs.declared.passes.PutPass.{PutPass}
use Rattle.rx_queues.specs.declared.passes.TakePass.{TakePass}
use Rattle.rx_queues.specs.declared.passes.Queues.{Queues}
use Rattle.rx_queues.specs.Passes.{IsPutPassOf, AreTakePasses, TakeAtTheirPlaces, workers_of, record_count_of, command_count_of, jobs_put}
use Rattle.actors.specs.declared.runner.RunEnd.{RunEnd}
use Rattle.replay.specs.declared.crew.Handled.{Handled}
use Rattle.replay.specs.declared.threads.Abandoned.{Abandoned}
use Rattle.replay.specs.declared.threads.AllEnded.{AllEnded}
use Rattle.replay.specs.declared.threads.Setting.{Setting}
use Rattle.actors.specs.declared.fault.ReplayFault.{ReplayFault}
use Rattle.actors.specs.declared.fault.ReplayFault.TheVariants.{Memory, NoThread}
use Rattle.actors.specs.Actors.{OfCommandsFrom, AreAllEnded, round_jobs}
use Rattle.replay.specs.Crews.{IsReadyAt, AreHandled}
use Rattle.actors.specs.Puts.{AreNonePut, AreAllPut, put_at}
use Rattle.actors.specs.Shares.{frames_of}

-- the passes of queues for N workers, a controller and a reclaimer, through which nothing was put yet
pub record AreFreshPasses (queues : Queues) (workers : ℕ) (put : PutPass) (takes : List TakePass) : Type 0 where
  pub workers_are : workers_of queues ≡ workers
  pub some : 0 < workers
  pub few : workers ≤ 8
  pub may_put : IsPutPassOf queues put
  pub nothing_put : jobs_put put ≡ replicate (workers + 2) []
  pub may_take : AreTakePasses queues takes

-- the queues are for as many records and commands as there are
abbrev pub AreForAll : {W R : Type 0} → Setting W R → Type 0
AreForAll setting =
    (record_count_of setting.queues.now ≡ length setting.capture.now.records.items) ×
    (command_count_of setting.queues.now ≡ length setting.starts.now)

-- there is a worker for each state, which may go to the worker's thread; nothing was put through the passes yet, and the queues are for all
-- records and commands; and no more commands came first than there are
pub record IsReadyToRun {S W R : Type 0} (IsNew IsIdle : W → ℕ → S → Type 0) (setting : Setting W R) (put : PutPass) (takes : List TakePass)
    (states : List S) : Type 0 where
  pub passes : AreFreshPasses setting.queues.now (length states) put takes
  pub for_all : AreForAll setting
  pub within : setting.first ≤ length setting.starts.now
  pub states_are : Each (IsReadyAt (IsNew setting.runner.now) (IsIdle setting.runner.now)) 0 states

-- the same of the workers alone, when the other two have their rights to take
pub record AreReadyToWork {S W R : Type 0} (IsNew IsIdle : W → ℕ → S → Type 0) (setting : Setting W R) (put : PutPass)
    (takes : List TakePass) (states : List S) : Type 0 where
  pub workers_are : workers_of setting.queues.now ≡ length states
  pub some : 0 < length states
  pub few : length states ≤ 8
  pub for_all : AreForAll setting
  pub within : setting.first ≤ length setting.starts.now
  pub may_put : IsPutPassOf setting.queues.now put
  pub nothing_put : jobs_put put ≡ replicate (length states + 2) []
  pub enough : length states ≤ length takes
  pub may_take : TakeAtTheirPlaces setting.queues.now takes
  pub states_are : Each (IsReadyAt (IsNew setting.runner.now) (IsIdle setting.runner.now)) 0 states

-- each of N workers was handed its records and ran them, in order; the controller was handed each command that did not come first, and the
-- reclaimer was asked for a round after every 64 records
pub record HaveWorked {S W R : Type 0} (IsNew : W → ℕ → S → Type 0) (IsRun : W → ℕ → Sent → S → RunEnd → S → Type 0)
    (setting : Setting W R) (workers : ℕ) (puts : List (List Job)) (all : List (Handled S)) : Type 0 where
  pub count : length all ≡ workers
  pub handled : AreHandled (IsNew setting.runner.now) (IsRun setting.runner.now) setting.capture.now.records.items workers all
  pub commands : OfCommandsFrom setting.first setting.starts.now (λ jobs. put_at puts (workers_of setting.queues.now) ≡ jobs)
  pub notes : put_at puts (workers_of setting.queues.now + 1) ≡ replicate (length setting.capture.now.records.items / 64) Note
  pub records : AreAllPut (frames_of setting.capture.now.records.items) workers (length setting.capture.now.records.items) puts

-- why the workers were given up: one could not be started, and no record was put; or one was refused memory, behind all of its records
abbrev pub WereGivenUp : {W R : Type 0} → Setting W R → ℕ → List (List Job) → ReplayFault → Type 0
WereGivenUp setting workers puts fault =
    (fault ≡ NoThread) × AreNonePut workers puts
    ⊎ (fault ≡ Memory) × AreAllPut (frames_of setting.capture.now.records.items) workers (length setting.capture.now.records.items) puts

-- each of N workers ran its records, in order; the controller handed back what it has for the commands that did not come first, and the
-- reclaimer what it has for its rounds
pub record AreAllDone {S E F W R : Type 0} (IsNew : W → ℕ → S → Type 0) (IsRun : W → ℕ → Sent → S → RunEnd → S → Type 0)
    (Commands : List Job → E → Type 0) (Rounds : List Job → F → Type 0) (setting : Setting W R) (workers : ℕ)
    (ended : AllEnded S E F) : Type 0 where
  pub count : length ended.workers.items ≡ workers
  pub handled :
      AreHandled (IsNew setting.runner.now) (IsRun setting.runner.now) setting.capture.now.records.items workers ended.workers.items
  pub commands : OfCommandsFrom setting.first setting.starts.now (λ jobs. Commands (jobs ++ End ∷ []) ended.controller)
  pub rounds : Rounds (round_jobs (length setting.capture.now.records.items)) ended.reclaimer

-- there was no memory to begin with, and nothing was put into any queue
pub record IsUnbegun (workers : ℕ) (fault : ReplayFault) (puts : List (List Job)) : Type 0 where
  pub no_memory : fault ≡ Memory
  pub nothing : puts ≡ replicate (workers + 2) []

-- a thread could not be started: the end was put into each queue, and no record
pub record IsUnstarted (workers : ℕ) (fault : ReplayFault) (puts : List (List Job)) : Type 0 where
  pub no_thread : fault ≡ NoThread
  pub no_record : AreNonePut workers puts
  pub ended : AreAllEnded (workers + 2) puts

-- a thread was refused memory: each worker was handed all of its records, and every thread the end
pub record IsShortOfMemory (frames : List (List ℕ)) (workers count : ℕ) (fault : ReplayFault) (puts : List (List Job)) : Type 0 where
  pub no_memory : fault ≡ Memory
  pub records : AreAllPut frames workers count puts
  pub ended : AreAllEnded (workers + 2) puts

-- why the threads of a replay were given up, by what was put into the queues
abbrev pub IsAbandoned : List (List ℕ) → ℕ → ℕ → ReplayFault → List (List Job) → Type 0
IsAbandoned frames workers count fault puts =
    IsUnbegun workers fault puts ⊎ (IsUnstarted workers fault puts ⊎ IsShortOfMemory frames workers count fault puts)

-- the same of the threads with this setting
abbrev pub WereAbandoned : {W R : Type 0} → Setting W R → ℕ → Abandoned → Type 0
WereAbandoned setting workers it =
    IsAbandoned (frames_of setting.capture.now.records.items) workers (length setting.capture.now.records.items) it.fault (jobs_put it.put)
