use Rattle.std.proofs.Common.{◌≡◌, false, sym, ap, ◌∙◌, subst}
use Rattle.shards.specs.CallerView.{ViewHasLooked}
use Rattle.shards.specs.Seats.{has_shard, view_of}
use Rattle.shards.specs.GuardedView.{KeyedPlan}
use Rattle.shards.specs.ShardPasses.{ShardPassView}
use Rattle.shards.proofs.ShardPassLemmas.{part_taken, looked_taken, taken_key, taken_who}
use Rattle.shards.proofs.Holding.{taken_has}
use Rattle.shards.proofs.shard_pass.ShardPass.take.Goals as goal

pub take-requires-clause-seat : goal.take-requires-clause-seat
take-requires-clause-seat g c =
    record { table_is = ap (λ (v : ShardPassView). v.table) c.self.view_is ∙ sym c.requires.lock.0; seated = c.self.invariant.seated; holding = c.self.invariant.holding }

pub invariant_of-self : goal.invariant_of-self
invariant_of-self g c =
    part_taken c.self.inside.seat c.take.new.seat c.self.inside.inside c.self.inside.held c.self.invariant (ap (λ (v : ShardPassView). v.has_it) c.self.view_is ∙ c.requires.alone) c.take.ensures.taken c.take.ensures.legal

pub returns-clause-taken : goal.returns-clause-taken
returns-clause-taken g c = taken_has c.self.inside.seat.me c.take.new.seat.me c.take.ensures.taken

pub returns-clause-same : goal.returns-clause-same
returns-clause-same g c =
    let is = c.self.view_is in
    let alone : has_shard c.self.inside.seat.me ≡ false = ap (λ (v : ShardPassView). v.has_it) is ∙ c.requires.alone in
    record {
      table = c.take.ensures.seat.table_is ∙ c.requires.lock.0;
      key = taken_key c.self.inside.seat c.take.new.seat c.self.inside.inside c.self.inside.held c.self.invariant alone c.take.ensures.taken c.take.ensures.legal ∙ ap (λ (v : ShardPassView). v.key) is;
      plan = ap (λ (k : KeyedPlan). k.plan) (taken_key c.self.inside.seat c.take.new.seat c.self.inside.inside c.self.inside.held c.self.invariant alone c.take.ensures.taken c.take.ensures.legal ∙ ap (λ (v : ShardPassView). v.key) is);
      who = taken_who c.self.inside.seat c.take.new.seat c.self.inside.inside c.self.inside.held c.self.invariant alone c.take.ensures.taken c.take.ensures.legal ∙ ap (λ (v : ShardPassView). v.who) is;
    }

pub returns-clause-looked : goal.returns-clause-looked
returns-clause-looked g c =
    let is = c.self.view_is in
    let alone : has_shard c.self.inside.seat.me ≡ false = ap (λ (v : ShardPassView). v.has_it) is ∙ c.requires.alone in
    subst (λ (v : ShardPassView). ViewHasLooked v.key.plan v.view (view_of c.take.new.seat.me)) is
    (looked_taken c.self.inside.seat c.take.new.seat c.self.inside.inside c.self.inside.held c.self.invariant alone c.take.ensures.taken c.take.ensures.legal)
