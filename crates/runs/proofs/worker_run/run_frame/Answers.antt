use Rattle.std.proofs.Common.{◌∙◌, ◌<◌, ◌^◌, List, ap, rules}
use Rattle.ebpf_decode.specs.declared.map.MapDef.{MapDef}
use Rattle.std.proofs.lemmas.Result.{IfOk-weaker, IfErr-weaker}
use Rattle.shard_port.specs.PassPorts.{worker_number, port_of}
use Rattle.shard_port.proofs.shared.PassAskLemmas.{is_worker}
use Rattle.runs.specs.FrameRuns.{told_port}
use Rattle.runs.proofs.WorkerRunLemmas.{maps_over, ran_told, stopped_told, leaves_told}
use Rattle.runs.proofs.worker_run.run_frame.Goals as goal

pub returns-clause-exit : goal.returns-clause-exit
returns-clause-exit g c =
    let below : c.args.replies.now < 2 ^ 64 = search rules in
    rw c.leave.ensures.told (IfOk-weaker c.run_at-ended.result _ _
    (λ exit ends. ran_told c.own_entries_are_sessions.ensures g.B.Naming.plan g.B.Naming.count (worker_number c.args.pass.now.who) _ _ c.args.pass.now _
    (told_port (port_of c.args.shards.now c.over-port.result.pass.now) c.args.replies.now)
    (told_port (port_of c.run_at-ended.new.port.shards.now c.run_at-ended.new.port.pass.now) c.run_at-ended.new.port.tally.count)
    exit.verdict exit.steps _ c.over-port.ensures.pass
    (ap (λ (maps : List MapDef). maps_over maps c.args.shards.now.options.shards) c.requires.served)
    (is_worker c.args.shards.now.options.workers c.args.pass.now.who c.requires.worker) c.requires.outside below
    (rw (c.over-port.ensures.shards, c.over-port.ensures.told ∙ c.tally_of-tally.ensures.count) at ends) (search rules))
    c.run_at-ended.ensures.exit)

pub returns-clause-stop : goal.returns-clause-stop
returns-clause-stop g c =
    let below : c.args.replies.now < 2 ^ 64 = search rules in
    rw c.leave.ensures.told (IfErr-weaker c.run_at-ended.result _ _
    (λ stop stops. stopped_told c.own_entries_after_a_refusal.ensures g.B.Naming.plan g.B.Naming.count (worker_number c.args.pass.now.who) _ _
    c.args.pass.now _ (told_port (port_of c.args.shards.now c.over-port.result.pass.now) c.args.replies.now)
    (told_port (port_of c.run_at-ended.new.port.shards.now c.run_at-ended.new.port.pass.now) c.run_at-ended.new.port.tally.count)
    _ stop c.over-port.ensures.pass
    (ap (λ (maps : List MapDef). maps_over maps c.args.shards.now.options.shards) c.requires.served)
    (is_worker c.args.shards.now.options.workers c.args.pass.now.who c.requires.worker) c.requires.outside below
    (rw (c.over-port.ensures.shards, c.over-port.ensures.told ∙ c.tally_of-tally.ensures.count) at stops) (search rules))
    c.run_at-ended.ensures.stop)

pub returns-clause-same_caller : goal.returns-clause-same_caller
returns-clause-same_caller g c =
    (leaves_told _ _ g.B.Naming.plan g.B.Naming.count (worker_number c.args.pass.now.who) c.args.pass.now _ _ _ _ c.run_at-ended.result
    (returns-clause-exit g c) (returns-clause-stop g c)).0

pub returns-clause-outside : goal.returns-clause-outside
returns-clause-outside g c =
    (leaves_told _ _ g.B.Naming.plan g.B.Naming.count (worker_number c.args.pass.now.who) c.args.pass.now _ _ _ _ c.run_at-ended.result
    (returns-clause-exit g c) (returns-clause-stop g c)).1
