use Rattle.std.proofs.Common.{◌≤◌, ◌+◌, length, string_bytes}
use denote.Text.{Utf8}
use denote.Shadow.{shadow}
use Rattle.timed_scripts.proofs.TextLemmas.{IsMadeSoFar}
use Rattle.timed_scripts.proofs.timed_text.script_of.Given as goal

abbrev pub invariant-lines : goal.invariant-lines
invariant-lines l = shadow (Utf8 l.rest) × IsMadeSoFar l.records l.text l.rest l.number l.least (string_bytes l.made.text) l.made.late.items
    × (l.number + length l.rest ≤ 1 + length l.text)

abbrev pub decreases-lines : goal.decreases-lines
decreases-lines l = length l.rest
