use Rattle.std.proofs.Common.{◌≡◌, ◌≤◌, [], length, drop}
use Rattle.std.specs.Prelude.{vec_capacity}
use Rattle.shards.specs.OrderRule.{ArePlaces}
use Rattle.shards.proofs.order.dealt.Given as goal

pub record Dealt (l : goal.Live-places) : Type 0 where
  pub table_is : l.seat.table_id ≡ l.order.shared.table_id
  pub counted : length l.places.items ≡ l.counter
  pub room : l.count ≤ vec_capacity l.places
  pub me_is : l.seat.me ≡ (drop l.counter l.fn.seat.me.0, [])
  pub places_are : ArePlaces l.order.shared.table_id l.fn.seat.me.0 l.places.items

abbrev pub invariant-places : goal.invariant-places
invariant-places l = Dealt l
