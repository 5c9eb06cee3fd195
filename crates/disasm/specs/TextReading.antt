-- What is read of a whole text: its maps, its instructions, or the first line that is misspelled.
use Rattle.std.specs.Prelude.{◌≡◌, ◌≢◌, ℕ, ◌+◌, ◌<◌, ◌⊎◌, List, [], ◌∷◌, ◌++◌, length, Option, Some, None}
use Rattle.std.specs.List.{AllByRecursion}
use Rattle.ebpf_decode.specs.declared.insn.Insn.{Insn}
use Rattle.ebpf_decode.specs.declared.map.MapDef.{MapDef}
use Rattle.ebpf_decode.specs.declared.fault.DecodeFault.{DecodeFault}
use Rattle.ebpf_decode.specs.declared.version.Version.{Version}
use Rattle.ebpf_decode.specs.InstructionEncoding.{FieldsFit}
use Rattle.ebpf_decode.specs.ImageFormat.{first_part_fault}
use Rattle.disasm.specs.declared.fault.AsmFault.{AsmFault}
use Rattle.disasm.specs.declared.fault.AsmFault.TheVariants.{BadLine, Image, Memory}
use Rattle.text_lines.specs.Lines.{ended}
use Rattle.disasm.specs.AssemblyText.{line_of, map_line_of, IsAssemblyLine, MapFits, IsMapLine, version_text, maps_text, code_text}
use Rattle.disasm.specs.AssemblyText.{parts_text}

-- ---- one line

-- the one instruction whose line this is, if it is one's
abbrev pub TellsInstruction : List ℕ → Option Insn → Type 0
TellsInstruction line None = (insn : Insn) → ¬ (IsAssemblyLine insn line)
TellsInstruction line (Some insn) = IsAssemblyLine insn line × ((other : Insn) → IsAssemblyLine other line → other ≡ insn)

abbrev pub TellsMap : List ℕ → Option MapDef → Type 0
TellsMap line None = (m : MapDef) → ¬ (IsMapLine m line)
TellsMap line (Some m) = IsMapLine m line × ((other : MapDef) → IsMapLine other line → other ≡ m)

-- ---- the beginning of a text

-- the first line is no instruction's, or there is no whole line
abbrev pub BeginsWithNoInstruction : List ℕ → Type 0
BeginsWithNoInstruction text = (insn : Insn) (line more : List ℕ) → IsAssemblyLine insn line → text ≢ line ++ 10 ∷ more

abbrev pub BeginsWithNoMap : List ℕ → Type 0
BeginsWithNoMap text = (m : MapDef) (line more : List ℕ) → IsMapLine m line → text ≢ line ++ 10 ∷ more

-- an instruction that no other one's line spells
abbrev pub IsKnownInstruction : Insn → Type 0
IsKnownInstruction insn = TellsInstruction (line_of insn) (Some insn)

abbrev pub IsMapOfText : MapDef → Type 0
IsMapOfText m = TellsMap (map_line_of m) (Some m)

-- the first line is this instruction's
pub record IsFirstInstruction (text : List ℕ) (insn : Insn) (rest : List ℕ) : Type 0 where
  pub known : IsKnownInstruction insn
  pub text_is : text ≡ ended (line_of insn) ++ rest

pub record IsFirstMap (text : List ℕ) (m : MapDef) (rest : List ℕ) : Type 0 where
  pub known : IsMapOfText m
  pub text_is : text ≡ ended (map_line_of m) ++ rest

-- as many instructions' lines as there are, and the rest
pub record IsCodeRead (text : List ℕ) (code : List Insn) (rest : List ℕ) : Type 0 where
  pub known : AllByRecursion IsKnownInstruction code
  pub text_is : text ≡ code_text code ++ rest
  pub stops : BeginsWithNoInstruction rest

pub record AreMapsRead (text : List ℕ) (maps : List MapDef) (rest : List ℕ) : Type 0 where
  pub known : AllByRecursion IsMapOfText maps
  pub text_is : text ≡ maps_text maps ++ rest
  pub stops : BeginsWithNoMap rest

-- ---- a whole text

-- after these lines of maps and these of instructions comes a line that is misspelled there
pub record IsBadAfterParts (text : List ℕ) (line : ℕ) : Type 0 where
  pub version : Version
  pub maps : List MapDef
  pub code : List Insn
  pub rest : List ℕ
  pub maps_fit : AllByRecursion MapFits maps
  pub code_fits : AllByRecursion FieldsFit code
  pub line_is : line ≡ 2 + length maps + length code
  pub text_is : text ≡ parts_text version maps code ++ rest
  pub not_ended : 0 < length rest
  pub no_instruction : BeginsWithNoInstruction rest
  pub no_map : code ≡ [] → BeginsWithNoMap rest

-- the line, counted from 1, is the first that is misspelled
abbrev pub IsFirstBadLine : List ℕ → ℕ → Type 0
IsFirstBadLine text line = ((line ≡ 1) × ((version : Version) (rest : List ℕ) → text ≢ version_text version ++ rest)) ⊎ IsBadAfterParts text line

-- all lines are spelled right, and spell parts that no image of the version has
pub record IsFaultyText (text : List ℕ) (fault : DecodeFault) : Type 0 where
  pub version : Version
  pub maps : List MapDef
  pub code : List Insn
  pub maps_fit : AllByRecursion MapFits maps
  pub code_fits : AllByRecursion FieldsFit code
  pub text_is : text ≡ parts_text version maps code
  pub fault_is : first_part_fault version maps code ≡ Some fault

-- why the text spells no image
abbrev pub ExplainsText : List ℕ → AsmFault → Type 0
ExplainsText text (BadLine line) = IsFirstBadLine text line
ExplainsText text (Image fault) = IsFaultyText text fault
ExplainsText text Memory = Unit {0}
