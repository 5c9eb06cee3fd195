use Rattle.std.proofs.Common.{refl, ap}
use Rattle.shard_port.proofs.PassMethods.{cell_within, met_store, store_given, cell_refused}
use Rattle.shard_port.proofs.port.ShardPortMapPort.store.Goals as goal
use Rattle.semantics.specs.declared.call.Call.TheVariants.{Store}

pub ask-requires-clause-shard : goal.ask-requires-clause-shard
ask-requires-clause-shard g c =
    cell_within g.B.Naming.count g.B.Naming.plan c.args.self.now.shards.now c.args.self.now.pass.now c.args.handle c.cell_of_handle-cell.result c.args.offset c.args.size
    (record { plans = c.planned.ensures.plans; options = c.planned.ensures.options; maps = c.planned.ensures.maps; below = c.args.self.now.ready })
    c.cell_of_handle-cell.ensures c.requires.at

pub ask-requires-clause-met : goal.ask-requires-clause-met
ask-requires-clause-met g c =
    met_store g.B.Naming.count g.B.Naming.plan c.args.self.now.shards.now c.args.self.now.pass.now c.args.handle c.cell_of_handle-cell.result c.args.offset c.args.size c.args.value
    (record { plans = c.planned.ensures.plans; options = c.planned.ensures.options; maps = c.planned.ensures.maps; below = c.args.self.now.ready })
    c.cell_of_handle-cell.ensures c.requires

pub returns-in-Ok-clause-gives : goal.returns-in-Ok-clause-gives
returns-in-Ok-clause-gives g c = record {
  given_within = (
    c.ask.ensures.same_pass,
    store_given g.B.Naming.count g.B.Naming.plan c.args.self.now.shards.now c.ask.new.self.shards.now c.args.self.now.pass.now c.ask.new.self.pass.now c.args.handle c.cell_of_handle-cell.result c.args.offset c.args.size c.args.value
        (record { plans = c.planned.ensures.plans; options = c.planned.ensures.options; maps = c.planned.ensures.maps; below = c.args.self.now.ready }) (ap (λ shards. shards.now) c.ask.ensures.same_shards) c.cell_of_handle-cell.ensures
        c.ask.ensures.elsewhere c.requires.at c.in-Ok.ensures.answered,
  );
  same_actor = c.ask.ensures.same_actor;
  one_more = c.in-Ok.ensures.told;
}

pub returns-in-Err-clause-refuses : goal.returns-in-Err-clause-refuses
returns-in-Err-clause-refuses g c = record {
  refused_within = (
    c.ask.ensures.same_pass,
    cell_refused g.B.Naming.count g.B.Naming.plan c.args.self.now.shards.now c.ask.new.self.shards.now c.args.self.now.pass.now c.ask.new.self.pass.now c.args.handle c.cell_of_handle-cell.result c.args.offset c.args.size
        (λ one. Store one c.args.offset c.args.size c.args.value) (λ one. refl)
        (record { plans = c.planned.ensures.plans; options = c.planned.ensures.options; maps = c.planned.ensures.maps; below = c.args.self.now.ready }) (ap (λ shards. shards.now) c.ask.ensures.same_shards) c.cell_of_handle-cell.ensures
        c.ask.ensures.elsewhere c.requires.at c.in-Err.ensures.turned_away,
  );
  same_actor = c.ask.ensures.same_actor;
  same_count = c.in-Err.ensures.untold;
}
