use Rattle.std.proofs.Common.{sym, ap, ◌∙◌}
use Rattle.atomic_table.specs.Table.{Me}
use Rattle.shards.specs.GuardedView.{GuardedView, KeyedPlan}
use Rattle.shards.specs.declared.rule.Known.{Known}
use Rattle.shards.specs.ShardPasses.{ShardPassView, IsShardPass}
use Rattle.shards.proofs.ShardPassLemmas.{part_given}
use Rattle.shards.proofs.Holding.{given_key, given_who}
use Rattle.shards.proofs.shard_pass.ShardPass.give.Goals as goal

pub give-requires-clause-seat : goal.give-requires-clause-seat
give-requires-clause-seat c =
    record { table_is = ap (λ (v : ShardPassView). v.table) c.self.view_is ∙ sym c.requires.lock.0; seated = c.self.invariant.seated; holding = c.self.invariant.holding }

part : (c : goal.After-give) → IsShardPass c.give.new.seat c.self.inside.inside c.self.inside.held
part c = part_given c.self.inside.seat c.give.new.seat c.self.inside.inside c.self.inside.held c.self.invariant (ap (λ (v : ShardPassView). v.has_it) c.self.view_is ∙ c.requires.taken) c.give.ensures.given c.give.ensures.same c.give.ensures.legal

pub invariant_of-self : goal.invariant_of-self
invariant_of-self c = part c

pub returns-clause-same : goal.returns-clause-same
returns-clause-same c =
    let is = c.self.view_is in
    let given_is = c.give.ensures.given in
    record {
      table = c.give.ensures.seat.table_is ∙ c.requires.lock.0;
      key = ap (λ (m : Me GuardedView Known). m.0.key) given_is ∙ given_key c.self.inside.seat.me ∙ ap (λ (v : ShardPassView). v.key) is;
      plan = ap (λ (k : KeyedPlan). k.plan) (ap (λ (m : Me GuardedView Known). m.0.key) given_is ∙ given_key c.self.inside.seat.me ∙ ap (λ (v : ShardPassView). v.key) is);
      who = ap (λ (m : Me GuardedView Known). m.0.who) given_is ∙ given_who c.self.inside.seat.me ∙ ap (λ (v : ShardPassView). v.who) is;
    }

pub returns-clause-own : goal.returns-clause-own
returns-clause-own c = (part c).knows
