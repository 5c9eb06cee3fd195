use Rattle.std.proofs.Common.{◌≡◌, ◌≤◌, ◌<◌, ◌+◌, ℕ, length}
use Rattle.shards.specs.declared.deeds.OrderPart.TheVariants.{ByCaller}
use Rattle.shards.specs.LockRule.{caller_at}
use Rattle.shards.specs.OrderRule.{last_deeds, order_place_at, IsFresh}
use Rattle.shards.proofs.OrderBeginning.{IsLeftOf}
use Rattle.shards.proofs.order.deal_again.Given as goal

pub record DealtAgain (l : goal.Live-places) : Type 0 where
  pub some : 0 < l.done
  pub few : l.done ≤ l.fn.callers
  pub table_is : l.seat.table_id ≡ l.order.shared.table_id
  pub counted : length l.places.items ≡ length l.fn.places.items
  pub has : IsLeftOf l.fn.callers l.done (last_deeds l.fn.seat.me.0) l.seat.me
  pub waiting : (k : ℕ) → l.fn.callers < k + l.done → k < l.fn.callers → IsFresh l.order.shared.table_id (ByCaller (caller_at k)) (order_place_at l.places.items k)

abbrev pub invariant-places : goal.invariant-places
invariant-places l = DealtAgain l
