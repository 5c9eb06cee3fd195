use Rattle.std.proofs.Common.{◌≡◌, false}
use Rattle.rx_queues.specs.Passes.{IsTakePassOf, jobs_taken, place_taken_from}
use Rattle.actors.specs.Commands.{HasAccountBehind, OfEachAccount}
use Rattle.actors.proofs.shared.JobLemmas.{AreNotedSince}
use Rattle.actors.proofs.controller.commands_until_end.Given as goal

pub record Taken (g : goal.Over) (l : goal.Live-jobs g) : Type 0 where
  pub take : IsTakePassOf l.queues l.take
  pub place : place_taken_from l.take ≡ place_taken_from l.fn.take
  pub script : l.commander.script ≡ l.fn.commander.script
  pub maps : l.commander.port.maps ≡ l.fn.commander.port.maps
  pub options : l.commander.port.options ≡ l.fn.commander.port.options
  pub size : l.commander.controller.size ≡ l.fn.commander.controller.size
  pub updates : l.commander.updates ≡ l.fn.commander.updates
  pub accounts : OfEachAccount g.B.Naming.plan l.fn.commander (HasAccountBehind g.B.Naming.plan l.commander)
  pub noted : l.is_refused ≡ false → AreNotedSince l.fn.commander.noted l.commander.noted (jobs_taken l.take)

abbrev pub invariant-jobs : goal.invariant-jobs
invariant-jobs g l = Taken g l
