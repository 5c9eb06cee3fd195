use Rattle.std.proofs.Common.{◌≡◌, ◌++◌, length}
use Rattle.std.specs.List.{AllByRecursion}
use denote.Text.{Utf8}
use denote.Shadow.{shadow}
use Rattle.disasm.specs.AssemblyText.{code_text}
use Rattle.disasm.specs.TextReading.{IsKnownInstruction}
use Rattle.disasm.proofs.assembling.code_of.Given as goal

abbrev pub invariant-loop-code : goal.invariant-loop-code
invariant-loop-code l = shadow (Utf8 l.rest) × (l.text ≡ code_text l.code.items ++ l.rest) × AllByRecursion IsKnownInstruction l.code.items

abbrev pub decreases-loop-code : goal.decreases-loop-code
decreases-loop-code l = length l.rest
