use Rattle.std.proofs.Common.{ℕ, List, arith, get_or, subst, take_all}
use Rattle.traffic.specs.Shares.{AreShares}
use Rattle.traffic.proofs.ShareLemmas.{few_counted, none_counted, one_counted}
use Rattle.traffic.proofs.shares.shares_of.Goals as goal

pub slots-init : goal.slots-init
slots-init c = none_counted c.args.words c.in_ok-shares.shares.items (c.in_ok-shares.ensures.items_if_clones_equal (λ y same. same))

pub count_slot-requires : goal.count_slot-requires
count_slot-requires c =
    let few = few_counted c.args.table.now c.slots.shares.items c.args.words c.slots.word-index (get_or c.args.table.now c.slots.word-index 0) (omega (arith, c.slots-test.true)) c.slots.invariant in
    omega (arith, few, c.slots-test.true)

pub slots-preserved : goal.slots-preserved
slots-preserved c =
    one_counted c.args.table.now c.slots.shares.items c.count_slot.new.shares.items c.args.words c.slots.word-index c.slots-test.true c.slots.invariant
    c.count_slot.ensures

pub returns : goal.returns
returns c =
    subst (λ (table : List ℕ). AreShares table c.args.words c.slots.shares.items)
    (take_all c.slots.word-index c.args.table.now (omega (arith, c.slots-test.false))) c.slots.invariant
