-- The image of a source, and why a source has none.
use Rattle.std.specs.Prelude.{◌≡◌, ◌⊎◌, ℕ, List, Ok, Err}
use Rattle.ebpf_decode.specs.ImageContents.{Contents}
use Rattle.disasm.specs.AssemblyText.{IsAssemblyText}
use Rattle.disasm.specs.TextReading.{IsFirstBadLine, IsFaultyText}
use Rattle.source_form.specs.declared.fault.Problem.TheVariants.{NoSpelling}
use Rattle.source_form.specs.declared.fault.SourceFault.{SourceFault}
use Rattle.source_form.specs.declared.fault.SourceFault.TheVariants.{BadLine, Image, Memory}
use Rattle.source_form.specs.SourceText.{statements_of, line_of_text, source_meaning}

-- the source means the image's text
pub record IsSource (source : List ℕ) (image : Contents) : Type 0 where
  pub text : List ℕ
  pub means : source_meaning source ≡ Ok text
  pub spells : IsAssemblyText text image

-- the text that lines mean has misspelled lines, and the first of them is that line's meaning; or it is of parts that no image has
abbrev pub IsTextFault : List (List ℕ) → List ℕ → SourceFault → Type 0
IsTextFault statements text (BadLine line problem) = (number : ℕ) × IsFirstBadLine text number ×
    (line ≡ line_of_text 0 number statements) × (problem ≡ NoSpelling)
IsTextFault statements text (Image fault) = IsFaultyText text fault
IsTextFault statements text Memory = Unit {0}

-- all lines have a meaning
pub record IsOfText (source : List ℕ) (fault : SourceFault) : Type 0 where
  pub text : List ℕ
  pub means : source_meaning source ≡ Ok text
  pub fault_is : IsTextFault (statements_of source) text fault

-- why no image comes of the source: the fault of a line, or one of the text that all lines mean
abbrev pub ExplainsSource : List ℕ → SourceFault → Type 0
ExplainsSource source (BadLine line problem) = (source_meaning source ≡ Err (BadLine line problem)) ⊎ IsOfText source (BadLine line problem)
ExplainsSource source (Image fault) = IsOfText source (Image fault)
ExplainsSource source Memory = Unit {0}
