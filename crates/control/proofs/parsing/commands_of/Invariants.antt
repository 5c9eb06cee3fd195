use Rattle.std.proofs.Common.{length}
use denote.Text.{Utf8}
use denote.Shadow.{shadow}
use Rattle.control.proofs.Scripts.{AreReadSoFar}
use Rattle.control.proofs.parsing.commands_of.Given as goal

abbrev pub invariant-lines : goal.invariant-lines
invariant-lines l = shadow (Utf8 l.rest) × AreReadSoFar l.text l.commands.items l.rest l.least

abbrev pub decreases-lines : goal.decreases-lines
decreases-lines l = length l.rest
