use Rattle.std.proofs.Common.{◌≡◌, ◌<◌, ◌+◌, ℕ, suc, List, [], ◌∷◌, refl, sym, ap, ◌∙◌, subst, arith}
use Rattle.atomic_table.specs.Table.{Me}
use Rattle.shards.specs.declared.deeds.Account.{Account}
use Rattle.shards.specs.declared.deeds.Deed.{Deed}
use Rattle.shards.specs.declared.deeds.OrderPart.TheVariants.{AtFirst}
use Rattle.shards.specs.OrderRule.{account, account_deeds, last_deeds, all_others, first_alone, callers_down}
use Rattle.shards.proofs.OrderMoves.{deals_one, sits_so}
use Rattle.shards.proofs.OrderBeginning.{sees_first, after_look, gap, last_down, beginning_apart}
use Rattle.shards.proofs.order.first_of.Goals as goal

pub load-requires : goal.load-requires
load-requires c =
    let more = gap c.args.callers 0 c.requires.some.0 in
    let many : c.args.callers ≡ suc more.0 = (let is = more.1 in omega (arith, is)) in
    (c.take_in.ensures.table, c.requires.order, sees_first _ _ _ _ _ _ more.0 (account_deeds c.args.mine.now.me.0) (c.take_in.ensures.all more.0 many) (sym c.requires.callers ∙ many))

pub split_seat-first-requires : goal.split_seat-first-requires
split_seat-first-requires c =
    let deeds = account_deeds c.args.mine.now.me.0 in
    let more = gap c.args.callers 0 c.requires.some.0 in
    let many : c.args.callers ≡ suc more.0 = (let is = more.1 in omega (arith, is)) in
    let knows = after_look c.take_in.new.seat.me c.load.new.seat.me more.0 deeds (c.take_in.ensures.all more.0 many) c.load.ensures.2 in (
      c.load.ensures.0 ∙ c.take_in.ensures.table,
      c.requires.order,
      deals_one _ _ _ _ (account AtFirst deeds) (callers_down more.0 deeds) (ap (λ (m : Me ℕ (List Account)). m.0) knows) (beginning_apart more.0 deeds),
    )

pub deal_again-requires-clause-callers : goal.deal_again-requires-clause-callers
deal_again-requires-clause-callers c = (c.requires.some.0, (let enough = c.requires.some.1 in let counted = c.take_in.ensures.count in omega (arith, enough, counted)))

pub deal_again-requires-clause-all : goal.deal_again-requires-clause-all
deal_again-requires-clause-all c =
    let deeds = account_deeds c.args.mine.now.me.0 in
    λ others many.
    let knows = after_look c.take_in.new.seat.me c.load.new.seat.me others deeds (c.take_in.ensures.all others many) c.load.ensures.2 in
    let left : c.split_seat-first.new.seat.me ≡ (callers_down others deeds, []) =
    c.split_seat-first.ensures.2 ∙ ap (λ (m : Me ℕ (List Account)). (all_others m.0, m.1)) knows in
    left ∙ ap (λ (l : List Deed). (callers_down others l, [])) (sym (ap (λ (m : Me ℕ (List Account)). last_deeds m.0) left ∙ last_down others deeds))

pub returns-clause-same : goal.returns-clause-same
returns-clause-same c =
    let deeds = account_deeds c.args.mine.now.me.0 in
    let more = gap c.args.callers 0 c.requires.some.0 in
    let many : c.args.callers ≡ suc more.0 = (let is = more.1 in omega (arith, is)) in
    let knows = after_look c.take_in.new.seat.me c.load.new.seat.me more.0 deeds (c.take_in.ensures.all more.0 many) c.load.ensures.2 in
    c.deal_again.ensures.deeds
    ∙ ap (λ (m : Me ℕ (List Account)). last_deeds m.0) (c.split_seat-first.ensures.2 ∙ ap (λ (m : Me ℕ (List Account)). (all_others m.0, m.1)) knows)
    ∙ last_down more.0 deeds

pub returns-clause-first : goal.returns-clause-first
returns-clause-first c =
    let deeds = account_deeds c.args.mine.now.me.0 in
    let more = gap c.args.callers 0 c.requires.some.0 in
    let many : c.args.callers ≡ suc more.0 = (let is = more.1 in omega (arith, is)) in
    let knows = after_look c.take_in.new.seat.me c.load.new.seat.me more.0 deeds (c.take_in.ensures.all more.0 many) c.load.ensures.2 in (
      c.split_seat-first.ensures.3 ∙ c.load.ensures.0 ∙ c.take_in.ensures.table,
      (sits_so _ AtFirst deeds (c.split_seat-first.ensures.4 ∙ ap (λ (m : Me ℕ (List Account)). (first_alone m.0, [])) knows)).0,
    )

pub returns-clause-deeds : goal.returns-clause-deeds
returns-clause-deeds c =
    let deeds = account_deeds c.args.mine.now.me.0 in
    let more = gap c.args.callers 0 c.requires.some.0 in
    let many : c.args.callers ≡ suc more.0 = (let is = more.1 in omega (arith, is)) in
    let knows = after_look c.take_in.new.seat.me c.load.new.seat.me more.0 deeds (c.take_in.ensures.all more.0 many) c.load.ensures.2 in
    (sits_so _ AtFirst deeds (c.split_seat-first.ensures.4 ∙ ap (λ (m : Me ℕ (List Account)). (first_alone m.0, [])) knows)).1
