use Rattle.std.proofs.Common.{◌≡◌, ◌≤◌, ◌<◌, ℕ, [], length}
use Rattle.std.specs.Prelude.{vec_capacity}
use Rattle.shards.specs.HeldCells.{held_at, room_at, room_of}
use Rattle.shards.proofs.held.none_held.Given as goal

pub record Made (l : goal.Live-lists) : Type 0 where
  pub end_is : l.number-end ≡ length l.rooms
  pub counted : length l.held.items ≡ l.number
  pub enough : length l.rooms ≤ vec_capacity l.held
  pub none : (k : ℕ) → k < l.number → (held_at l.held.items k).ids ≡ []
  pub room : (k : ℕ) → k < l.number → room_of l.who (room_at l.rooms k) ≤ (held_at l.held.items k).room

abbrev pub invariant-lists : goal.invariant-lists
invariant-lists l = Made l
