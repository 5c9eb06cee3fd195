-- What an image is: its version, its maps and its instructions, such that the image format encodes them.
use Rattle.std.specs.Prelude.{◌≤◌, List, length, IsTrue}
use Rattle.std.specs.List.{AllByRecursion}
use Rattle.ebpf_decode.specs.declared.insn.Insn.{Insn}
use Rattle.ebpf_decode.specs.declared.map.MapDef.{MapDef}
use Rattle.ebpf_decode.specs.declared.version.Version.{Version}
use Rattle.ebpf_decode.specs.Versions.{IsInVersion}
use Rattle.ebpf_decode.specs.InstructionEncoding.{FieldsFit, total_slots}
use Rattle.ebpf_decode.specs.MapForm.{is_allowed_map}

pub record Contents : Type 0 where
  pub version : Version
  pub maps : List MapDef
  pub code : List Insn

-- an image of this version may have the map
abbrev pub IsAllowedMap : Version → MapDef → Type 0
IsAllowedMap version m = IsTrue (is_allowed_map version m)

-- the image format of this version encodes these maps and instructions
pub record IsEncodable (version : Version) (maps : List MapDef) (code : List Insn) : Type 0 where
  pub few_maps : length maps ≤ 16
  pub maps_allowed : AllByRecursion (IsAllowedMap version) maps
  pub some_code : 1 ≤ length code
  pub few_slots : total_slots code ≤ 4096
  pub fields_fit : AllByRecursion FieldsFit code
  pub in_version : AllByRecursion (IsInVersion version) code
