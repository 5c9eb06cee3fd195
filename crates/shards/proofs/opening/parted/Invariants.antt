use Rattle.std.proofs.Common.{◌≡◌, ◌+◌, ◌≤◌, ℕ, List, length}
use Rattle.std.specs.Prelude.{vec_capacity}
use Rattle.atomic_table.specs.declared.badge.Badge.{Badge}
use Rattle.shards.specs.declared.rule.Known.{Known}
use Rattle.semantics.specs.Each.{Each}
use Rattle.shards.specs.GuardedView.{keys}
use Rattle.shards.specs.SharedMaps.{AreLocks}
use Rattle.shards.specs.HeldCells.{IsRoomOf}
use Rattle.shards.specs.NewShards.{NewShardView, new_at, IsNamedAt, HasAllSeats}
use Rattle.shards.proofs.opening.parted.Given as goal

pub record Parted (g : goal.Over) (l : goal.Live-shards g) : Type 0 where
  pub locks_made : length l.locks.items ≡ l._number
  pub locks_are : AreLocks g.B.Naming.table (keys g.B.Naming.plan g.B.Naming.order) l.locks.items
  pub rows_made : length l.rows.items ≡ l._number
  pub rows_are : Each (λ (number : ℕ) (row : List (Badge Known)). HasAllSeats g.B.Naming.table (keys g.B.Naming.plan g.B.Naming.order) l.fn.shards.items number row) 0 l.rows.items
  pub rooms_made : length l.rooms.items ≡ l._number
  pub rooms_are : Each (IsRoomOf g.B.Naming.plan) 0 l.rooms.items
  pub left : Each (λ (number : ℕ) (new : NewShardView). (new ≡ new_at l.fn.shards.items number) × IsNamedAt g.B.Naming.table g.B.Naming.plan g.B.Naming.order number new) l._number l.shards.items
  pub together : l._number + length l.shards.items ≡ length l.fn.shards.items
  pub count_is : l.count ≡ length l.fn.shards.items
  pub locks_room : l.count ≤ vec_capacity l.locks
  pub rows_room : l.count ≤ vec_capacity l.rows
  pub rooms_room : l.count ≤ vec_capacity l.rooms

abbrev pub invariant-shards : goal.invariant-shards
invariant-shards g l = Parted g l
