use Rattle.std.proofs.Common.{◌≡◌, ◌≤◌, ◌<◌, ℕ, length}
use Rattle.shards.specs.OrderRule.{account_deeds, order_place_at, HasAllOf}
use Rattle.shards.proofs.order.take_in.Given as goal

pub record TakenIn (l : goal.Live-places) : Type 0 where
  pub some : 0 < l.place
  pub few : l.place ≤ l.fn.callers
  pub table_is : l.seat.table_id ≡ l.order.shared.table_id
  pub counted : length l.places.items ≡ length l.fn.places.items
  pub has : HasAllOf l.place (account_deeds l.fn.seat.me.0) l.seat.me
  pub left : (k : ℕ) → l.place ≤ k → order_place_at l.places.items k ≡ order_place_at l.fn.places.items k

abbrev pub invariant-places : goal.invariant-places
invariant-places l = TakenIn l
