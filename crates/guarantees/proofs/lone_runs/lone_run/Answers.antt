use Rattle.std.proofs.Common.{◌≡◌, ◌∙◌, ◌↔◌, true, List, ap, subst}
use Rattle.ebpf_decode.specs.declared.map.MapDef.{MapDef}
use Rattle.semantics.specs.ShardPlan.{AreServedOptions, are_served_options}
use Rattle.guarantees.proofs.AskedAlone.{ended_in_system, stopped_in_system}
use Rattle.guarantees.proofs.lone_runs.lone_run.Goals as goal

pub returns-clause-of_system : goal.returns-clause-of_system
returns-clause-of_system c =
    let maps_are = c.maps.ensures.maps ∙ c.image.ensures.same.0 in
    ended_in_system c.args.verified.now c.args.options c.args.moment.now.worker c.args.moment.now.now_ns c.args.frame.now c.args.updates.now c.fit.result
    (c.fit.ensures.served ∙ ap (λ (maps : List MapDef). are_served_options maps c.args.options) maps_are)
    (subst (λ (maps : List MapDef). (c.fit.result ≡ true) ↔ AreServedOptions maps c.args.options) maps_are c.fit.ensures.allowed)
    c.requires.headroom c.frame_may_come_in.ensures c.time_has_64_bits.ensures c.requires.fit
    c.runs_alone_are_of_the_system.ensures c.run_alone.new.frame c.run_alone.result c.run_alone.ensures.bad_options c.run_alone.ensures.exit

pub returns-clause-stopped_in_system : goal.returns-clause-stopped_in_system
returns-clause-stopped_in_system c =
    let maps_are = c.maps.ensures.maps ∙ c.image.ensures.same.0 in
    stopped_in_system c.args.verified.now c.args.options c.args.moment.now.worker c.args.moment.now.now_ns c.args.frame.now c.args.updates.now c.fit.result
    (c.fit.ensures.served ∙ ap (λ (maps : List MapDef). are_served_options maps c.args.options) maps_are)
    (subst (λ (maps : List MapDef). (c.fit.result ≡ true) ↔ AreServedOptions maps c.args.options) maps_are c.fit.ensures.allowed)
    c.requires.headroom c.frame_may_come_in.ensures c.time_has_64_bits.ensures c.requires.fit
    c.stopped_runs_alone_are_of_the_system.ensures c.run_alone.new.frame c.run_alone.result c.run_alone.ensures.bad_options c.run_alone.ensures.stop
