use Rattle.std.proofs.Common.{◌≡◌, ◌<◌, ◌+◌, ℕ, length}
use Rattle.semantics.specs.Each.{Each}
use Rattle.shards.specs.declared.deeds.Account.{Account}
use Rattle.shards.specs.ClosedOrders.{account_of}
use Rattle.shards.specs.OrderRule.{IsOneOfAccounts}
use Rattle.shards.specs.Passes.{PassView, pass_at}
use Rattle.shards.proofs.closing.gather_all.Given as goal

pub record Gathered (g : goal.Over) (l : goal.Live-passes g) : Type 0 where
  pub count_is : l.count ≡ length l.fn.passes.items
  pub table_is : l.seat.table_id ≡ g.B.Naming.order
  pub left : Each (λ (number : ℕ) (pass : PassView). pass ≡ pass_at l.fn.passes.items number) l._place l.passes.items
  pub together : l._place + length l.passes.items ≡ length l.fn.passes.items
  pub kept : (one : Account) → IsOneOfAccounts one l.fn.seat.me.0 → IsOneOfAccounts one l.seat.me.0
  pub all : (place : ℕ) → place < l._place → IsOneOfAccounts (account_of (pass_at l.fn.passes.items place)) l.seat.me.0

abbrev pub invariant-passes : goal.invariant-passes
invariant-passes g l = Gathered g l
