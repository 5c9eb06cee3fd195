use Rattle.std.proofs.Common.{◌≡◌, length, false}
use Rattle.source_form.specs.SourceBeginning.{begins_behind}
use Rattle.source_form.proofs.beginning.begins_as_source.Given as goal

abbrev pub invariant-bytes : goal.invariant-bytes
invariant-bytes l = begins_behind l.rest l.in_comment ≡ begins_behind l.fn.text false

abbrev pub decreases-bytes : goal.decreases-bytes
decreases-bytes l = length l.rest
