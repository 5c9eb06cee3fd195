use Rattle.std.proofs.Common.{◌≡◌, ◌<◌, ◌+◌, ℕ, List, ◌∷◌, length, sym, ap, ◌∙◌, subst, inr, arith}
use Rattle.atomic_table.specs.Table.{Me}
use Rattle.semantics.specs.Each.{Each}
use Rattle.semantics.proofs.shared.EachLemmas.{each_first, each_rest, each_start, at_or}
use Rattle.shards.specs.declared.deeds.Account.{Account}
use Rattle.shards.specs.declared.deeds.OrderPart.TheVariants.{ByCaller}
use Rattle.shards.specs.ClosedOrders.{account_of}
use Rattle.shards.specs.OrderRule.{IsOneOfAccounts}
use Rattle.shards.specs.Passes.{PassView, pass_at, no_pass}
use Rattle.shards.proofs.OrderClosing.{gathered, callers_more}
use Rattle.shards.proofs.closing.gather_all.Goals as goal

abbrev IsLeft : List PassView → ℕ → PassView → Type 0
IsLeft passes number pass = pass ≡ pass_at passes number

pub passes-init : goal.passes-init
passes-init g c = record {
  count_is = (let n = c.len-count.ensures in let ok = c.args.passes.ok.0 in omega (arith, n, ok));
  table_is = c.requires.seat;
  left = each_start (IsLeft c.args.passes.items) c.args.passes.items (λ place pass there. at_or c.args.passes.items place pass no_pass there);
  together = omega arith;
  kept = λ one has. has;
  all = λ place below. absurd (omega (arith, below));
}

pub gather-requires-clause-other : goal.gather-requires-clause-other
gather-requires-clause-other g c =
    let is = c.into_seat.ensures.seat in
    (ByCaller c.remove.result.who, (is.0 ∙ sym c.requires.order.0, is.1))

pub passes-preserved : goal.passes-preserved
passes-preserved g c =
    let i = c.passes.invariant in
    let passes = c.args.passes.items in
    let number = c.passes._place in
    let some_left : 0 < length c.passes.passes.items = (let t = i.together in let n = i.count_is in let below = c.passes-test.true in omega (arith, t, n, below)) in
    let first = each_first (IsLeft passes) number c.passes.passes.items c.remove.result i.left some_left c.remove.ensures.value in
    let pass = c.remove.result in
    let more : c.gather.new.seat.me ≡ (account_of pass ∷ c.passes.seat.me.0, c.passes.seat.me.1) =
    gathered c.passes.seat.me c.gather.new.seat.me c.into_seat.result.me (ByCaller pass.who) pass.deeds c.gather.ensures.both c.into_seat.ensures.seat.1 c.into_seat.ensures.deeds in
    let is = ap (λ (m : Me ℕ (List Account)). m.0) more in record {
      count_is = i.count_is;
      table_is = c.gather.ensures.table ∙ c.requires.order.0;
      left = subst (λ xs. Each (IsLeft passes) (number + 1) xs) (sym c.remove.ensures.items) (each_rest (IsLeft passes) number c.passes.passes.items i.left);
      together = (let t = i.together in let shorter = c.remove.ensures.len in let a = c.passes.passes.ok.0 in let b = c.remove.new.self.ok.0 in omega (arith, t, shorter, a, b, some_left));
      kept = λ one has. subst (λ (l : List Account). IsOneOfAccounts one l) (sym is) (inr (i.kept one has));
      all = callers_more passes number pass c.passes.seat.me.0 c.gather.new.seat.me.0 first is i.all;
    }

pub returns-clause-all : goal.returns-clause-all
returns-clause-all g c = λ place below. c.passes.invariant.all place (let e = c.passes.invariant.count_is in let t = c.passes-test.false in omega (arith, e, t, below))
