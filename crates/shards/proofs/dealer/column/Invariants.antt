use Rattle.std.proofs.Common.{◌≡◌, ◌≢◌, ◌≤◌, ◌<◌, ◌+◌, ℕ, length}
use Rattle.std.specs.Prelude.{vec_capacity}
use Rattle.semantics.specs.Each.{Each}
use Rattle.shards.specs.HeldCells.{HeldIds, held_at}
use Rattle.shards.specs.NewShards.{badges_at, IsPartOfSeat}
use Rattle.shards.specs.Passes.{badge_at, shard_pass_at}
use Rattle.shards.proofs.dealer.column.Given as goal

pub record Taken (l : goal.Live-rows) : Type 0 where
  pub counted : length l.parts.items ≡ l.number
  pub end_is : l.number-end ≡ length l.fn.rows.items
  pub same_count : length l.rows.items ≡ length l.fn.rows.items
  pub room : length l.fn.rows.items ≤ vec_capacity l.parts
  pub together : l.number + length l.held.items ≡ length l.fn.rows.items
  pub waiting : Each (λ (k : ℕ) (held : HeldIds). held ≡ held_at l.fn.held.items k) l.number l.held.items
  pub left : (k : ℕ) → l.number ≤ k → badges_at l.rows.items k ≡ badges_at l.fn.rows.items k
  pub made : (k : ℕ) → k < l.number → IsPartOfSeat (badge_at (badges_at l.fn.rows.items k) l.place) (shard_pass_at l.parts.items k)
  pub others : (k other : ℕ) → other ≢ l.place → badge_at (badges_at l.rows.items k) other ≡ badge_at (badges_at l.fn.rows.items k) other
  pub lengths : (k : ℕ) → length (badges_at l.rows.items k) ≡ length (badges_at l.fn.rows.items k)

abbrev pub invariant-rows : goal.invariant-rows
invariant-rows l = Taken l
