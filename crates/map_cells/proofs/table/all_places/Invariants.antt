use Rattle.std.proofs.Common.{◌≡◌, ℕ, ◌<◌, ◌≤◌, length, get_or, vec_capacity}
use Rattle.map_cells.proofs.table.all_places.Given as goal

abbrev pub invariant-loop-place : goal.invariant-loop-place
invariant-loop-place l = record { count : length l.free.items ≡ l.place; each : (k : ℕ) → k < l.place → get_or l.free.items k 0 ≡ k; room : l.places ≤ vec_capacity l.free }
