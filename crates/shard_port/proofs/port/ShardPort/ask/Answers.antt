use Rattle.std.proofs.Common.{◌∙◌, sym}
use Rattle.shard_port.proofs.shared.PassAskLemmas.{turned_away_inside}
use Rattle.shard_port.proofs.port.ShardPort.ask.Goals as goal

pub returns-else-is_ok-clause-turned_away : goal.returns-else-is_ok-clause-turned_away
returns-else-is_ok-clause-turned_away g c =
    turned_away_inside c.args.self.now.shards.now.options.workers (g.B.Naming.plan c.args.shard) c.args.shard c.args.self.now.pass.now c.ask-asked.new.pass
    (g.C.Ask.asks c.args.ask c.args.shard) (g.C.Ask.replies c.args.shard) c.args.self.now.ready c.ask-asked.result
    (sym c.is_inside.ensures ∙ c.if-is_inside.true) c.ask-asked.ensures.refused c.ask-asked.ensures.did
