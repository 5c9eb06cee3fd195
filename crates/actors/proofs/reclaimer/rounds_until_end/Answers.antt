use Rattle.std.proofs.Common.{[], ◌∷◌, ◌++◌, refl, ap, ◌∙◌}
use Rattle.rx_queues.specs.Passes.{jobs_taken}
use Rattle.actors.specs.ActorJobs.{round_job}
use Rattle.actors.proofs.shared.JobLemmas.{no_notes, one_note}
use Rattle.actors.proofs.reclaimer.rounds_until_end.Goals as goal

pub jobs-init : goal.jobs-init
jobs-init g c = record {
  take = c.requires.take.0;
  place = refl;
  taken = no_notes g.B.Naming.plan g.B.Naming.count (jobs_taken c.args.take) c.args.reclaiming c.requires.take.1 c.requires.unused;
}

pub jobs-preserved : goal.jobs-preserved
jobs-preserved g c = record {
  take = c.next_note.ensures.take.0;
  place = c.next_note.ensures.take.1 ∙ c.jobs.invariant.place;
  taken = one_note g.B.Naming.plan g.B.Naming.count (jobs_taken c.jobs.take) (jobs_taken c.next_note.new.take) c.jobs.reclaiming c.round.new.self
      c.jobs.invariant.taken
      (c.next_note.ensures.taken ∙ ap (λ is. jobs_taken c.jobs.take ++ round_job is ∷ []) c.if-not-next_note.false) c.round.ensures.rounds;
}
