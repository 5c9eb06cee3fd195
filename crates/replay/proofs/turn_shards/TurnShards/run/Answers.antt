use Rattle.std.proofs.Common.{◌≡◌, ◌∙◌, ap₂, subst, rules}
use Rattle.std.proofs.lemmas.Result.{IfOk-weaker, IfErr-weaker}
use Rattle.semantics.specs.declared.options.Options.{Options}
use Rattle.semantics.specs.MachineState.{initial_state}
use Rattle.machine.specs.Running.{program_of, Ends, StopsSo}
use Rattle.shard_port.specs.PlainPorts.{PortGives, PortRefuses, maps_of}
use Rattle.replay.proofs.TurnLemmas.{ends_in_turn, stops_in_turn, run_stays}
use Rattle.replay.proofs.turn_shards.TurnShards.run.Goals as goal

pub returns-clause-exit : goal.returns-clause-exit
returns-clause-exit c =
    let verified = c.args.verified.now in
    let port = c.over-port.result in
    let later = c.run-ended.new.port in
    let program = program_of verified c.self.inside.options.shards in
    let start = initial_state c.args.frame.now c.args.moment.now.worker c.args.moment.now.now_ns in
    let served : maps_of port ≡ record { maps = program.maps; shards = program.shards } =
    ap₂ (λ maps (o : Options). record { maps = maps; shards = o.shards }) (c.over-port.ensures.maps ∙ c.image.ensures.same.0) c.over-port.ensures.options in
    let stays = run_stays c.stays_one_port.ensures _ _ port later _ c.run-ended.result c.run-ended.ensures.exit c.run-ended.ensures.stop in
    let same = stays.same_shards in
    rw (← c.self.view_is) (IfOk-weaker c.run-ended.result _ _
    (λ exit ends. ends_in_turn program start c.args.moment.now.worker c.self.inside.shards _ port later c.over-port.ensures.shards c.over-port.ensures.worker served
    (search (rules, same)) exit.verdict exit.steps c.run-ended.new.frame
    (subst (λ (o : Options). Ends PortGives (program_of verified o.shards) start port later exit.verdict exit.steps c.run-ended.new.frame)
    c.over-port.ensures.options ends))
    c.run-ended.ensures.exit)

pub returns-clause-stop : goal.returns-clause-stop
returns-clause-stop c =
    let verified = c.args.verified.now in
    let port = c.over-port.result in
    let later = c.run-ended.new.port in
    let program = program_of verified c.self.inside.options.shards in
    let start = initial_state c.args.frame.now c.args.moment.now.worker c.args.moment.now.now_ns in
    let served : maps_of port ≡ record { maps = program.maps; shards = program.shards } =
    ap₂ (λ maps (o : Options). record { maps = maps; shards = o.shards }) (c.over-port.ensures.maps ∙ c.image.ensures.same.0) c.over-port.ensures.options in
    let stays = run_stays c.stays_one_port.ensures _ _ port later _ c.run-ended.result c.run-ended.ensures.exit c.run-ended.ensures.stop in
    let same = stays.same_shards in
    rw (← c.self.view_is) (IfErr-weaker c.run-ended.result _ _
    (λ stop stops. stops_in_turn program start c.args.moment.now.worker c.self.inside.shards _ port later c.over-port.ensures.shards c.over-port.ensures.worker served
    (search (rules, same)) c.run-ended.new.frame stop
    (subst (λ (o : Options). StopsSo PortGives PortRefuses (program_of verified o.shards) start port later c.run-ended.new.frame stop)
    c.over-port.ensures.options stops))
    c.run-ended.ensures.stop)
