use Rattle.std.proofs.Common.{ap}
use Rattle.shard_port.proofs.PassMethods.{met_lookup, small_found, lookup_given, lookup_refused}
use Rattle.shard_port.proofs.port.ShardPortMapPort.lookup.Goals as goal

pub ask-requires-clause-met : goal.ask-requires-clause-met
ask-requires-clause-met g c =
    met_lookup g.B.Naming.count g.B.Naming.plan c.args.self.now.shards.now c.args.self.now.pass.now c.args.map c.args.key.now c.shard_of-shard.result c.as_slice.result.now
    (record { plans = c.planned.ensures.plans; options = c.planned.ensures.options; maps = c.planned.ensures.maps; below = c.args.self.now.ready })
    c.requires c.shard_of-shard.ensures c.as_slice.ensures.bytes

pub handle_of_found-requires : goal.handle_of_found-requires
handle_of_found-requires g c =
    small_found g.B.Naming.count g.B.Naming.plan c.args.self.now.shards.now c.args.self.now.pass.now c.ask.new.self.pass.now c.args.map c.args.key.now c.shard_of-shard.result
    c.as_slice.result.now c.in-Ok.found
    (record { plans = c.planned.ensures.plans; options = c.planned.ensures.options; maps = c.planned.ensures.maps; below = c.args.self.now.ready })
    c.requires c.shard_of-shard.ensures c.in-Ok.ensures.answered

pub returns-in-Ok-clause-gives : goal.returns-in-Ok-clause-gives
returns-in-Ok-clause-gives g c = record {
  given_within = (
    c.ask.ensures.same_pass,
    lookup_given g.B.Naming.count g.B.Naming.plan c.args.self.now.shards.now c.ask.new.self.shards.now c.args.self.now.pass.now c.ask.new.self.pass.now c.args.map c.args.key.now c.shard_of-shard.result c.as_slice.result.now c.in-Ok.found c.handle_of_found.result
        (record { plans = c.planned.ensures.plans; options = c.planned.ensures.options; maps = c.planned.ensures.maps; below = c.args.self.now.ready }) (ap (λ shards. shards.now) c.ask.ensures.same_shards)
        c.ask.ensures.elsewhere c.requires c.shard_of-shard.ensures c.as_slice.ensures.bytes c.handle_of_found.ensures.handle c.in-Ok.ensures.answered,
  );
  same_actor = c.ask.ensures.same_actor;
  one_more = c.in-Ok.ensures.told;
}

pub returns-in-Err-clause-refuses : goal.returns-in-Err-clause-refuses
returns-in-Err-clause-refuses g c = record {
  refused_within = (
    c.ask.ensures.same_pass,
    lookup_refused g.B.Naming.count g.B.Naming.plan c.args.self.now.shards.now c.ask.new.self.shards.now c.args.self.now.pass.now c.ask.new.self.pass.now c.args.map c.args.key.now c.shard_of-shard.result c.as_slice.result.now
        (record { plans = c.planned.ensures.plans; options = c.planned.ensures.options; maps = c.planned.ensures.maps; below = c.args.self.now.ready }) (ap (λ shards. shards.now) c.ask.ensures.same_shards)
        c.ask.ensures.elsewhere c.requires c.shard_of-shard.ensures c.as_slice.ensures.bytes c.in-Err.ensures.turned_away,
  );
  same_actor = c.ask.ensures.same_actor;
  same_count = c.in-Err.ensures.untold;
}
