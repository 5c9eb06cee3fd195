use Rattle.std.proofs.Common.{ap, rules}
use Rattle.shard_port.proofs.PassMethods.{met_delete, delete_given, delete_refused}
use Rattle.shard_port.proofs.port.ShardPortMapPort.delete.Goals as goal
use Rattle.std.specs.Prelude.{FitsSigned}
use Rattle.std.proofs.Common.{w32, to_z, of_z}
use Rattle.std.proofs.lemmas.Int.{to_z-of_z}

pub ask-requires-clause-met : goal.ask-requires-clause-met
ask-requires-clause-met g c =
    met_delete g.B.Naming.count g.B.Naming.plan c.args.self.now.shards.now c.args.self.now.pass.now c.args.map c.args.key.now c.shard_of-shard.result c.as_slice.result.now
    (record { plans = c.planned.ensures.plans; options = c.planned.ensures.options; maps = c.planned.ensures.maps; below = c.args.self.now.ready })
    c.requires c.shard_of-shard.ensures c.as_slice.ensures.bytes

pub returns-in-Ok-clause-gives : goal.returns-in-Ok-clause-gives
returns-in-Ok-clause-gives g c =
    let fits : FitsSigned w32 c.in-Ok.code = search rules in record {
      given_within = (
        c.ask.ensures.same_pass,
        delete_given g.B.Naming.count g.B.Naming.plan c.args.self.now.shards.now c.ask.new.self.shards.now c.args.self.now.pass.now c.ask.new.self.pass.now c.args.map c.args.key.now c.shard_of-shard.result c.as_slice.result.now c.in-Ok.code (to_z w32 (of_z w32 c.in-Ok.code))
            (record { plans = c.planned.ensures.plans; options = c.planned.ensures.options; maps = c.planned.ensures.maps; below = c.args.self.now.ready }) (ap (λ shards. shards.now) c.ask.ensures.same_shards)
            c.ask.ensures.elsewhere c.requires c.shard_of-shard.ensures c.as_slice.ensures.bytes fits (to_z-of_z w32 c.in-Ok.code fits) c.in-Ok.ensures.answered,
      );
      same_actor = c.ask.ensures.same_actor;
      one_more = c.in-Ok.ensures.told;
    }

pub returns-in-Err-clause-refuses : goal.returns-in-Err-clause-refuses
returns-in-Err-clause-refuses g c = record {
  refused_within = (
    c.ask.ensures.same_pass,
    delete_refused g.B.Naming.count g.B.Naming.plan c.args.self.now.shards.now c.ask.new.self.shards.now c.args.self.now.pass.now c.ask.new.self.pass.now c.args.map c.args.key.now c.shard_of-shard.result c.as_slice.result.now
        (record { plans = c.planned.ensures.plans; options = c.planned.ensures.options; maps = c.planned.ensures.maps; below = c.args.self.now.ready }) (ap (λ shards. shards.now) c.ask.ensures.same_shards)
        c.ask.ensures.elsewhere c.requires c.shard_of-shard.ensures c.as_slice.ensures.bytes c.in-Err.ensures.turned_away,
  );
  same_actor = c.ask.ensures.same_actor;
  same_count = c.in-Err.ensures.untold;
}
