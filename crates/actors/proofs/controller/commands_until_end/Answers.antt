use Rattle.std.proofs.Common.{refl, ◌∙◌}
use Rattle.rx_queues.specs.Passes.{jobs_taken}
use Rattle.actors.proofs.shared.CommandAccounts.{behind_nothing, behind_more, actor_accounted}
use Rattle.actors.proofs.shared.JobLemmas.{none_since, one_since}
use Rattle.actors.proofs.controller.commands_until_end.Goals as goal

pub jobs-init : goal.jobs-init
jobs-init g c = record {
  take = c.requires.take.0;
  place = refl;
  script = refl;
  maps = refl;
  options = refl;
  size = refl;
  updates = refl;
  accounts = behind_nothing g.B.Naming.plan c.args.commander;
  noted = λ fresh. none_since c.args.commander.noted (jobs_taken c.args.take) c.requires.take.1;
}

pub jobs-preserved-in-Ok : goal.jobs-preserved-in-Ok
jobs-preserved-in-Ok g c =
    let i = c.jobs.invariant in
    let same = c.apply.ensures.same in
    let noted = c.in-Ok.ensures.noted in
    record {
      take = c.next_command.ensures.take.0;
      place = c.next_command.ensures.take.1 ∙ i.place;
      script = same.0 ∙ i.script;
      maps = same.1 ∙ i.maps;
      options = same.2 ∙ i.options;
      size = same.3 ∙ i.size;
      updates = same.4 ∙ i.updates;
      accounts = behind_more g.B.Naming.plan c.args.commander c.jobs.commander c.apply.new.self i.accounts c.in-Ok.ensures.more;
      noted = λ fresh. one_since c.args.commander.noted c.jobs.commander.noted c.apply.new.self.noted (jobs_taken c.jobs.take) (jobs_taken c.next_command.new.take)
          (record { command = c.in-Some-next_command.number; fault = noted.0 }) (i.noted c.if-not-is_refused.true) noted.1 c.in-Some-next_command.ensures.taken.1;
    }

pub returns-clause-account : goal.returns-clause-account
returns-clause-account g c =
    let i = c.jobs.invariant in
    actor_accounted g.B.Naming.plan _ c.jobs.commander c.finish-pass.result.1.items c.finish-pass.result.0 i.maps i.options i.updates i.script i.size c.finish-pass.ensures.noted
    c.finish-pass.ensures.pass i.accounts
