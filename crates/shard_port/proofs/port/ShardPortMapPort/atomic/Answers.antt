use Rattle.std.proofs.Common.{refl, ap}
use Rattle.shard_port.proofs.shared.MayAskLemmas.{load_of_atomic}
use Rattle.shard_port.proofs.PassMethods.{cell_within, met_change, change_given, cell_refused}
use Rattle.shard_port.proofs.port.ShardPortMapPort.atomic.Goals as goal
use Rattle.semantics.specs.declared.call.Call.TheVariants.{Atomic}
use Rattle.isa.specs.InstructionCodes.{atomic_code}
use Rattle.semantics.specs.declared.call.Reply.TheVariants.{Word}
use Rattle.shard_port.specs.PassPorts.{IsAskedBy, IsTurnedAwayBy}

pub ask-requires-clause-shard : goal.ask-requires-clause-shard
ask-requires-clause-shard g c =
    cell_within g.B.Naming.count g.B.Naming.plan c.args.self.now.shards.now c.args.self.now.pass.now c.args.handle c.cell_of_handle-cell.result c.args.offset c.args.size
    (record { plans = c.planned.ensures.plans; options = c.planned.ensures.options; maps = c.planned.ensures.maps; below = c.args.self.now.ready })
    c.cell_of_handle-cell.ensures (load_of_atomic c.requires)

pub ask-requires-clause-met : goal.ask-requires-clause-met
ask-requires-clause-met g c = rw (c.from.ensures, c.code.ensures)
    (met_change g.B.Naming.count g.B.Naming.plan c.args.self.now.shards.now c.args.self.now.pass.now c.args.handle c.cell_of_handle-cell.result c.args.offset c.args.size c.args.op c.args.value c.args.expected
    (record { plans = c.planned.ensures.plans; options = c.planned.ensures.options; maps = c.planned.ensures.maps; below = c.args.self.now.ready })
    c.cell_of_handle-cell.ensures c.requires)

pub returns-in-Ok-clause-gives : goal.returns-in-Ok-clause-gives
returns-in-Ok-clause-gives g c =
    let asked : IsAskedBy (g.B.Naming.plan c.cell_of_handle-cell.result.shard) c.cell_of_handle-cell.result.shard c.args.self.now.pass.now c.ask.new.self.pass.now
    (Atomic c.cell_of_handle-cell.result c.args.offset c.args.size (atomic_code c.args.op) c.args.value c.args.expected) (Word c.in-Ok.number) =
    rw (c.from.ensures, c.code.ensures) at c.in-Ok.ensures.answered in record {
      given_within = (
        c.ask.ensures.same_pass,
        change_given g.B.Naming.count g.B.Naming.plan c.args.self.now.shards.now c.ask.new.self.shards.now c.args.self.now.pass.now c.ask.new.self.pass.now c.args.handle c.cell_of_handle-cell.result c.args.offset c.args.size (atomic_code c.args.op) c.args.value c.args.expected c.in-Ok.number
            (record { plans = c.planned.ensures.plans; options = c.planned.ensures.options; maps = c.planned.ensures.maps; below = c.args.self.now.ready }) (ap (λ shards. shards.now) c.ask.ensures.same_shards) c.cell_of_handle-cell.ensures
            c.ask.ensures.elsewhere (load_of_atomic c.requires) asked,
      );
      same_actor = c.ask.ensures.same_actor;
      one_more = c.in-Ok.ensures.told;
    }

pub returns-in-Err-clause-refuses : goal.returns-in-Err-clause-refuses
returns-in-Err-clause-refuses g c =
    let away : IsTurnedAwayBy (g.B.Naming.plan c.cell_of_handle-cell.result.shard) c.cell_of_handle-cell.result.shard c.args.self.now.pass.now c.ask.new.self.pass.now
    (Atomic c.cell_of_handle-cell.result c.args.offset c.args.size (atomic_code c.args.op) c.args.value c.args.expected) =
    rw (c.from.ensures, c.code.ensures) at c.in-Err.ensures.turned_away in record {
      refused_within = (
        c.ask.ensures.same_pass,
        cell_refused g.B.Naming.count g.B.Naming.plan c.args.self.now.shards.now c.ask.new.self.shards.now c.args.self.now.pass.now c.ask.new.self.pass.now c.args.handle c.cell_of_handle-cell.result c.args.offset c.args.size
            (λ one. Atomic one c.args.offset c.args.size (atomic_code c.args.op) c.args.value c.args.expected) (λ one. refl)
            (record { plans = c.planned.ensures.plans; options = c.planned.ensures.options; maps = c.planned.ensures.maps; below = c.args.self.now.ready }) (ap (λ shards. shards.now) c.ask.ensures.same_shards) c.cell_of_handle-cell.ensures
            c.ask.ensures.elsewhere (load_of_atomic c.requires) away,
      );
      same_actor = c.ask.ensures.same_actor;
      same_count = c.in-Err.ensures.untold;
    }
