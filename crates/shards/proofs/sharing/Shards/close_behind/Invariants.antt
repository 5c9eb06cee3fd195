use Rattle.std.proofs.Common.{◌≡◌, ◌≤◌, ◌<◌, ◌+◌, ◌*◌, ℕ, [], length}
use Rattle.std.specs.Prelude.{vec_capacity, slice_index_or}
use Rattle.semantics.specs.Each.{Each}
use Rattle.semantics.specs.ShardPlan.{AreOptions}
use Rattle.semantics.specs.History.{IsLegalJournal}
use Rattle.journals.specs.KeptEntries.{written_entries, ArePlanned}
use Rattle.journals.specs.JournalsView.{AreImageMaps}
use Rattle.shards.specs.CallerView.{IsSettled}
use Rattle.shards.specs.OrderRule.{IsOrderOf}
use Rattle.shards.specs.SharedMaps.{ArePlans}
use Rattle.shards.proofs.OrderClosing.{HasShard}
use Rattle.shards.specs.Passes.{pass_at, view_at}
use Rattle.shards.specs.GuardedView.{keyed}
use Rattle.shards.specs.Seats.{IsLockOf}
use Rattle.shards.proofs.sharing.Shards.close_behind.Given as goal

pub record Closed (g : goal.Over) (l : goal.Live-shards g) : Type 0 where
  pub count_is : l.count ≡ g.B.Naming.count
  pub together : l.number + length l.locks.items ≡ l.count
  pub small : l.count ≤ 128
  pub left : Each (λ number lock. IsLockOf (g.B.Naming.table number) (keyed (g.B.Naming.plan number) g.B.Naming.order) lock) l.number l.locks.items
  pub maps : l.maps.items ≡ l.fn.self.maps
  pub options : l.options ≡ l.fn.self.options
  pub maps_are : AreImageMaps l.maps.items
  pub options_fit : AreOptions l.maps.items l.options
  pub one_each : l.count ≡ length l.maps.items * l.options.shards
  pub made : length l.closed.items ≡ l.number
  pub room : l.count ≤ vec_capacity l.closed
  pub planned : ArePlanned l.maps.items l.options l.closed.items
  pub passes : length l.passes.items ≡ length l.fn.passes.items
  pub legal : (k : ℕ) → k < l.number → IsLegalJournal (g.B.Naming.plan k) (slice_index_or (written_entries l.closed.items) k [])
  pub callers : (k : ℕ) → (pass_at l.passes.items k).who ≡ (pass_at l.fn.passes.items k).who
  pub deeds : (k : ℕ) → (pass_at l.passes.items k).deeds ≡ (pass_at l.fn.passes.items k).deeds
  pub order_is : IsOrderOf g.B.Naming.order g.B.Naming.plan g.B.Naming.count (l.options.workers + 2) l.order
  pub plans : ArePlans l.maps.items l.options g.B.Naming.count g.B.Naming.plan
  pub seat_is : l.seat.table_id ≡ g.B.Naming.order
  pub gathered : (k : ℕ) → k < l.number → HasShard k (slice_index_or (written_entries l.closed.items) k []) l.seat.me.0
  pub untouched : (k m : ℕ) → l.number ≤ m → view_at (pass_at l.passes.items k) m ≡ view_at (pass_at l.fn.passes.items k) m
  pub settled : (k m : ℕ) → k < length l.fn.passes.items → m < l.number → IsSettled (pass_at l.fn.passes.items k).who (view_at (pass_at l.fn.passes.items k) m) (slice_index_or (written_entries l.closed.items) m [])

abbrev pub invariant-shards : goal.invariant-shards
invariant-shards g l = Closed g l
