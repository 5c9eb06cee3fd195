use Rattle.std.proofs.Common.{◌≡◌, ◌≤◌, [], length}
use Rattle.std.specs.Prelude.{vec_capacity}
use Rattle.shards.specs.LockRule.{dealer_of}
use Rattle.shards.specs.NewShards.{AreNewSeats}
use Rattle.shards.proofs.new_shard.new_seats.Given as goal

pub record Dealt (l : goal.Live-callers) : Type 0 where
  pub table_is : l.dealer.table_id ≡ l.lock.shared.table_id
  pub counted : length l.seats.items ≡ l.counter
  pub room : l.callers ≤ vec_capacity l.seats
  pub me_is : l.dealer.me ≡ (dealer_of l.lock.shared.key (length l.seats.items), [])
  pub seats_are : AreNewSeats l.lock.shared.table_id l.lock.shared.key l.seats.items

abbrev pub invariant-callers : goal.invariant-callers
invariant-callers l = Dealt l
