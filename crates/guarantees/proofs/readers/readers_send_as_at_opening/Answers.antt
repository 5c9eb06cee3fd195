use Rattle.guarantees.proofs.OpenedReplays.{sends_as_at_opening}
use Rattle.guarantees.proofs.readers.readers_send_as_at_opening.Goals as goal

pub returns : goal.returns
returns c = λ options records outcome fit captured accounted none_set none.
    let verified = c.args.verified.now in
    sends_as_at_opening verified.maps verified.code options fit.some_worker records captured outcome accounted
    (record {
      reads = c.readers_only_read.ensures;
      same = c.readers_run_the_same.ensures;
      few = fit.at_most_eight;
      plans = accounted.plans.each;
    })
    none_set none
