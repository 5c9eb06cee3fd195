use Rattle.std.proofs.Common.{[], sym, ap, subst, refl}
use Rattle.shards.specs.Passes.{PassView}
use Rattle.semantics.specs.Each.{Each}
use Rattle.replay.specs.LastRound.{IsDoneIn, IsWorkerDoneIn}
use Rattle.replay.proofs.LastRound.{first_of_first, done_later}
use Rattle.replay.proofs.closing.last_round.Goals as goal

pub returns-clause-later : goal.returns-clause-later
returns-clause-later g c =
    first_of_first c.args.first c.workers_so_far-worked.result c.last_round-before_last.result.0 c.workers_so_far-worked.ensures.later
    (first_of_first c.workers_so_far-worked.result c.so_far-all.result c.last_round-before_last.result.0 c.so_far-all.ensures.later c.last_round-before_last.ensures.later)

pub returns-clause-controller : goal.returns-clause-controller
returns-clause-controller g c = ap (λ (pass : PassView). record c.args.ended.controller { pass = pass }) c.so_far-all.ensures.pass

pub returns-clause-closed : goal.returns-clause-closed
returns-clause-closed g c =
    let all = c.so_far-all.result in
    let last = c.last_round-before_last.result.0 in
    let longer = first_of_first c.workers_so_far-worked.result all last c.so_far-all.ensures.later c.last_round-before_last.ensures.later in
    record {
      by_workers = subst (λ items. Each (IsWorkerDoneIn last) 0 items) (sym c.workers_so_far-worked.ensures.same)
          (λ place one there. done_later c.workers_so_far-worked.result last _ longer (c.workers_so_far-worked.ensures.done place one there));
      by_controller = subst (λ (pass : PassView). IsDoneIn last pass) (sym c.so_far-all.ensures.pass)
          (done_later all last c.args.ended.controller.pass c.last_round-before_last.ensures.later
          (record { begun = all; first = ([], refl); own = c.so_far-all.ensures.own }));
      last = c.last_round-before_last.ensures.last;
    }
