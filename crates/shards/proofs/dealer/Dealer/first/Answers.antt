use Rattle.std.proofs.Common.{◌≡◌, ◌<◌, ◌≤◌, ◌+◌, Bool, true, false, List, length, sym, ap, ◌∙◌, subst, arith}
use Rattle.std.specs.Prelude.{slice_set, replicate}
use Rattle.shards.specs.OrderRule.{AreWaiting}
use Rattle.shards.specs.SharedMaps.{SharedMaps}
use Rattle.shards.proofs.OrderBeginning.{alone_count, alone_waiting, alone_at_order}
use Rattle.shards.proofs.dealer.Dealer.first.Goals as goal

pub first_of-requires-clause-callers : goal.first_of-requires-clause-callers
first_of-requires-clause-callers g c =
    let callers = c.shards.inside.options.workers + 2 in
    let alone = c.self.view_is ∙ c.requires.alone ∙ ap (λ (s : SharedMaps). slice_set (replicate (s.options.workers + 2) false) 0 true) (sym c.shards.view_is) in
    let many = alone_count callers c.self.inside.dealt.items alone in
    let n = c.len.ensures in
    let ok = c.self.inside.dealt.ok.0 in
    let key = c.shards.invariant.1.callers_are in
    omega (arith, many, n, ok, key)

pub first_of-requires-clause-some : goal.first_of-requires-clause-some
first_of-requires-clause-some g c =
    let workers = c.shards.inside.options.workers in
    let alone = c.self.view_is ∙ c.requires.alone ∙ ap (λ (s : SharedMaps). slice_set (replicate (s.options.workers + 2) false) 0 true) (sym c.shards.view_is) in
    let many = alone_count (workers + 2) c.self.inside.dealt.items alone in
    let n = c.len.ensures in
    let ok = c.self.inside.dealt.ok.0 in
    let last = (alone_waiting (workers + 2) c.self.inside.dealt.items alone g.B.Naming.order c.self.inside.places.items c.self.invariant.1 (workers + 1)
    (omega arith) (omega arith)).0 in
    (omega (arith, many, n, ok), omega (arith, many, n, ok, last))

pub first_of-requires-clause-waiting : goal.first_of-requires-clause-waiting
first_of-requires-clause-waiting g c =
    let callers = c.shards.inside.options.workers + 2 in
    let alone = c.self.view_is ∙ c.requires.alone ∙ ap (λ (s : SharedMaps). slice_set (replicate (s.options.workers + 2) false) 0 true) (sym c.shards.view_is) in
    let many = alone_count callers c.self.inside.dealt.items alone in
    let table = c.shards.invariant.1.table_is in
    subst (λ n. AreWaiting c.shards.inside.order.shared.table_id n c.self.inside.places.items) (let n = c.len.ensures in let ok = c.self.inside.dealt.ok.0 in omega (arith, many, n, ok))
    (subst (λ t. AreWaiting t callers c.self.inside.places.items) (sym table)
    (alone_waiting callers c.self.inside.dealt.items alone g.B.Naming.order c.self.inside.places.items c.self.invariant.1))

pub invariant_of-self : goal.invariant_of-self
invariant_of-self g c =
    let callers = c.shards.inside.options.workers + 2 in
    let alone = c.self.view_is ∙ c.requires.alone ∙ ap (λ (s : SharedMaps). slice_set (replicate (s.options.workers + 2) false) 0 true) (sym c.shards.view_is) in
    let many = alone_count callers c.self.inside.dealt.items alone in
    let table = c.shards.invariant.1.table_is in (
      c.self.invariant.0,
      alone_at_order callers c.self.inside.dealt.items alone g.B.Naming.order c.first_of.new.places.items
          (subst (λ n. AreWaiting g.B.Naming.order n c.first_of.new.places.items) (let n = c.len.ensures in let ok = c.self.inside.dealt.ok.0 in omega (arith, many, n, ok))
          (subst (λ t. AreWaiting t c.len.result c.first_of.new.places.items) table c.first_of.ensures.waiting)),
    )
