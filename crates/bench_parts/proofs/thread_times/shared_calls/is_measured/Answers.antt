use Rattle.std.proofs.Common.{rules, ◌≡◌, true, sym, ◌∙◌}
use denote.Enum.Bare.{same_true, sameb}
use Rattle.ebpf_decode.specs.contracts.map.MapKind.{the_type}
use Rattle.ebpf_decode.specs.declared.map.MapKind.TheVariants.{Array}
use Rattle.bench_parts.proofs.PlanLemmas.{measured, map_is, options_are}
use Rattle.bench_parts.proofs.thread_times.shared_calls.is_measured.Goals as goal

pub returns-then-eq-clause-planned : goal.returns-then-eq-clause-planned
returns-then-eq-clause-planned g c =
    let m = c.in-Some.map.now in
    λ (held : c.eq-then-eq.result ≡ true). measured c.args.shards.now.maps c.maps.result.now c.args.shards.now.options g.B.Naming.count g.B.Naming.plan c.args.shard m c.planned.ensures.plans
    c.maps.ensures c.in-Some.ensures.lookup.3.0 c.in-Some.ensures.lookup.1
    (map_is m (sameb the_type m.kind Array) c.eq.result (λ same. same_true the_type (search rules) m.kind Array same) c.eq.ensures c.if-eq.true)
    (sym c.options.ensures ∙ options_are c.options.result c.eq-then-eq.result c.eq-then-eq.ensures held)
