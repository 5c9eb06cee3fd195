use Rattle.std.proofs.Common.{◌≡◌, length}
use denote.Text.{Utf8}
use denote.Shadow.{shadow}
use Rattle.timed_scripts.specs.Cutting.{without_end_blanks}
use Rattle.timed_scripts.proofs.cutting.without_end_blanks.Given as goal

abbrev pub invariant-blanks : goal.invariant-blanks
invariant-blanks l = shadow (Utf8 l.kept) × (without_end_blanks l.kept ≡ without_end_blanks l.fn.text)

abbrev pub decreases-blanks : goal.decreases-blanks
decreases-blanks l = length l.kept
