use Rattle.std.proofs.Common.{length}
use denote.Text.{Utf8}
use denote.Shadow.{shadow}
use Rattle.journals.proofs.Lines.{AreReadSoFar}
use Rattle.journals.proofs.parsing.lines_of.Given as goal

abbrev pub invariant-lines : goal.invariant-lines
invariant-lines l = shadow (Utf8 l.rest) × AreReadSoFar l.maps l.options l.text l.done.items l.present l.count l.rest

abbrev pub decreases-lines : goal.decreases-lines
decreases-lines l = length l.rest
