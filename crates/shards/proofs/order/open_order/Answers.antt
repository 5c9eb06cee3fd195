use Rattle.std.proofs.Common.{◌≡◌, ℕ, List, [], drop, length, sym, ap, ◌∙◌, subst, arith}
use Rattle.atomic_table.specs.Table.{Me}
use Rattle.shards.specs.declared.deeds.Account.{Account}
use Rattle.shards.specs.OrderRule.{first_accounts, caller_accounts, HaveDistinctParts, ArePlaces}
use Rattle.shards.proofs.OrderMoves.{order_begins}
use Rattle.shards.proofs.OrderOpening.{first_apart, first_count, callers_apart, callers_count, behind_shards, shard_places, caller_places}
use Rattle.shards.proofs.order.open_order.Goals as goal

pub of_words-requires : goal.of_words-requires
of_words-requires c = order_begins c.args.plans.items _ [] c.args.callers

pub dealt-requires-clause-count : goal.dealt-requires-clause-count
dealt-requires-clause-count c =
    let n = c.len-count.ensures in
    let ok = c.args.plans.ok.0 in
    let long = first_count 0 (length c.args.plans.items) c.args.callers in
    let is = ap (λ (m : Me ℕ (List Account)). length m.0) c.in_ok-order.ensures.4 in
    omega (arith, n, ok, long, is)

pub dealt-requires-clause-apart : goal.dealt-requires-clause-apart
dealt-requires-clause-apart c =
    subst HaveDistinctParts (sym (ap (λ (m : Me ℕ (List Account)). m.0) c.in_ok-order.ensures.4)) (first_apart 0 (length c.args.plans.items) c.args.callers)

pub dealt-requires-2-clause-count : goal.dealt-requires-2-clause-count
dealt-requires-2-clause-count c =
    let e : c.len-count.result ≡ length c.args.plans.items = (let n = c.len-count.ensures in let ok = c.args.plans.ok.0 in omega (arith, n, ok)) in
    let left : c.dealt.new.seat.me.0 ≡ caller_accounts 0 c.args.callers =
    ap (λ (m : Me ℕ (List Account)). m.0) c.in_ok-shards.ensures.left ∙ ap (λ (m : Me ℕ (List Account)). drop c.len-count.result m.0) c.in_ok-order.ensures.4
    ∙ ap (λ (k : ℕ). drop k (first_accounts 0 (length c.args.plans.items) c.args.callers)) e ∙ behind_shards 0 (length c.args.plans.items) c.args.callers in
    let many = ap (λ (l : List Account). length l) left in
    let counted = callers_count 0 c.args.callers in
    omega (arith, many, counted)

pub dealt-requires-2-clause-apart : goal.dealt-requires-2-clause-apart
dealt-requires-2-clause-apart c =
    let e : c.len-count.result ≡ length c.args.plans.items = (let n = c.len-count.ensures in let ok = c.args.plans.ok.0 in omega (arith, n, ok)) in
    let left : c.dealt.new.seat.me.0 ≡ caller_accounts 0 c.args.callers =
    ap (λ (m : Me ℕ (List Account)). m.0) c.in_ok-shards.ensures.left ∙ ap (λ (m : Me ℕ (List Account)). drop c.len-count.result m.0) c.in_ok-order.ensures.4
    ∙ ap (λ (k : ℕ). drop k (first_accounts 0 (length c.args.plans.items) c.args.callers)) e ∙ behind_shards 0 (length c.args.plans.items) c.args.callers in
    subst HaveDistinctParts (sym left) (callers_apart 0 c.args.callers)

pub returns-clause-shards : goal.returns-clause-shards
returns-clause-shards c =
    let e : c.len-count.result ≡ length c.args.plans.items = (let n = c.len-count.ensures in let ok = c.args.plans.ok.0 in omega (arith, n, ok)) in
    let counted = c.in_ok-shards.ensures.count ∙ e in (
      counted,
      shard_places c.in_ok-order.order.shared.table_id (length c.args.plans.items) c.args.callers c.in_ok-shards.shards.items counted
          (subst (λ (l : List Account). ArePlaces c.in_ok-order.order.shared.table_id l c.in_ok-shards.shards.items) (ap (λ (m : Me ℕ (List Account)). m.0) c.in_ok-order.ensures.4) c.in_ok-shards.ensures.places),
    )

pub returns-clause-callers : goal.returns-clause-callers
returns-clause-callers c =
    let e : c.len-count.result ≡ length c.args.plans.items = (let n = c.len-count.ensures in let ok = c.args.plans.ok.0 in omega (arith, n, ok)) in
    let left : c.dealt.new.seat.me.0 ≡ caller_accounts 0 c.args.callers =
    ap (λ (m : Me ℕ (List Account)). m.0) c.in_ok-shards.ensures.left ∙ ap (λ (m : Me ℕ (List Account)). drop c.len-count.result m.0) c.in_ok-order.ensures.4
    ∙ ap (λ (k : ℕ). drop k (first_accounts 0 (length c.args.plans.items) c.args.callers)) e ∙ behind_shards 0 (length c.args.plans.items) c.args.callers in (
      c.in_ok-places.ensures.count,
      caller_places c.in_ok-order.order.shared.table_id c.args.callers c.in_ok-places.places.items c.in_ok-places.ensures.count
          (subst (λ (l : List Account). ArePlaces c.in_ok-order.order.shared.table_id l c.in_ok-places.places.items) left c.in_ok-places.ensures.places),
    )
