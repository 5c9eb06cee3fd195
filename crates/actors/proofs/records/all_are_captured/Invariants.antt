use Rattle.std.proofs.Common.{◌≡◌, ◌<◌, ℕ}
use Rattle.std.specs.Prelude.{Some, slice_get}
use Rattle.wire.specs.declared.records.Sent.{Sent}
use Rattle.actors.specs.Captured.{IsCaptured}
use Rattle.actors.proofs.records.all_are_captured.Given as goal

abbrev pub invariant-records : goal.invariant-records
invariant-records l = (place : ℕ) (one : Sent) → place < l.number → slice_get l.capture.records.items place ≡ Some one → IsCaptured one
