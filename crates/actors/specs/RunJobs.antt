-- The jobs and the records of runs.
use Rattle.std.specs.Prelude.{ℕ, List, map}
use Rattle.rx_queues.specs.declared.job.Job.{Job}
use Rattle.rx_queues.specs.declared.job.Job.TheVariants.{Frame}
use Rattle.actors.specs.declared.runner.Ran.{Ran}

-- the jobs of the runs
abbrev pub jobs_of : List Ran → List Job
jobs_of runs = map (λ (ran : Ran). Frame ran.number) runs

-- the records of the runs
abbrev pub records_of : List Ran → List ℕ
records_of runs = map (λ (ran : Ran). ran.number) runs
