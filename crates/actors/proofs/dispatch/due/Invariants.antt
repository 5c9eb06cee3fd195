use Rattle.std.proofs.Common.{◌<◌, ◌≤◌, ℕ}
use Rattle.std.specs.Prelude.{slice_index}
use Rattle.actors.proofs.dispatch.due.Given as goal

abbrev pub invariant-commands : goal.invariant-commands
invariant-commands l = (l.next ≤ l.place) × ((place : ℕ) → l.next ≤ place → place < l.place → slice_index l.starts place ≤ l.number)
