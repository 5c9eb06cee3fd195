use Rattle.std.proofs.Common.{List, subst, sym}
use Rattle.ebpf_decode.specs.declared.map.MapDef.{MapDef}
use Rattle.semantics.specs.ShardPlan.{AreOptions}
use Rattle.semantics.specs.Program.{Program}
use Rattle.actors.specs.Accounted.{IsAccounted}
use Rattle.steered_replays.specs.SteeredRuns.{IsSteeredReplay}
use Rattle.steered_replays.proofs.ReplayLemmas.{shipped_of, of_shipped, program_is}
use Rattle.steered_replays.proofs.laws.shipped_replays_are_steered.Goals as goal

pub returns-clause-steered : goal.returns-clause-steered
returns-clause-steered c = λ script options records outcome fit captured.
    let shipped = shipped_of c.args.verified.now c.args.notes c.args.size c.requires.image in
    subst (λ (program : Program). (accounted : IsAccounted program script options records outcome) →
    IsSteeredReplay c.args.size program script options records outcome accounted)
    (sym (program_is c.args.verified.now c.args.notes c.args.size options.shards shipped))
    (c.replays_are_steered.ensures c.args.notes c.args.size c.requires.size script options records outcome
    (subst (λ (maps : List MapDef). AreOptions maps options) shipped.maps fit) captured)

pub returns-clause-totals : goal.returns-clause-totals
returns-clause-totals c = λ script options records outcome fit captured accounted none unstopped.
    let shipped = shipped_of c.args.verified.now c.args.notes c.args.size c.requires.image in
    c.totals_are_exact.ensures c.args.notes c.args.size c.requires.size script options records outcome
    (subst (λ (maps : List MapDef). AreOptions maps options) shipped.maps fit) captured
    (of_shipped c.args.verified.now c.args.notes c.args.size script options records outcome shipped accounted) none unstopped

pub returns-clause-tables : goal.returns-clause-tables
returns-clause-tables c = λ script options records outcome fit captured accounted none met.
    let shipped = shipped_of c.args.verified.now c.args.notes c.args.size c.requires.image in
    c.tables_follow.ensures.end c.args.notes c.args.size c.requires.size script options records outcome
    (record {
      fit = subst (λ (maps : List MapDef). AreOptions maps options) shipped.maps fit;
      captured = captured;
      accounted = of_shipped c.args.verified.now c.args.notes c.args.size script options records outcome shipped accounted;
      none_set = none;
      none_full = met;
    })

pub returns-clause-services : goal.returns-clause-services
returns-clause-services c = λ script options records outcome fit captured accounted none met.
    let shipped = shipped_of c.args.verified.now c.args.notes c.args.size c.requires.image in
    c.services_follow.ensures.end c.args.notes c.args.size c.requires.size script options records outcome
    (record {
      fit = subst (λ (maps : List MapDef). AreOptions maps options) shipped.maps fit;
      captured = captured;
      accounted = of_shipped c.args.verified.now c.args.notes c.args.size script options records outcome shipped accounted;
      none_set = none;
      none_full = met;
    })
