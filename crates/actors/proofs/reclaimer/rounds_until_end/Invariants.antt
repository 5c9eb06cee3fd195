use Rattle.std.proofs.Common.{◌≡◌}
use Rattle.rx_queues.specs.Passes.{IsTakePassOf, jobs_taken, place_taken_from}
use Rattle.actors.proofs.shared.JobLemmas.{AreNotesTaken}
use Rattle.actors.proofs.reclaimer.rounds_until_end.Given as goal

pub record Taken (g : goal.Over) (l : goal.Live-jobs g) : Type 0 where
  pub take : IsTakePassOf l.queues l.take
  pub place : place_taken_from l.take ≡ place_taken_from l.fn.take
  pub taken : AreNotesTaken g.B.Naming.plan g.B.Naming.count (jobs_taken l.take) l.reclaiming

abbrev pub invariant-jobs : goal.invariant-jobs
invariant-jobs g l = Taken g l
