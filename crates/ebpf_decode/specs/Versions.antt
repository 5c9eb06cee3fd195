-- The versions of the image format, and what only some of them have.
use Rattle.std.specs.Prelude.{ℕ, ◌==◌, Bool, true, false, Option, Some, None, IsTrue, if◌then◌else◌}
use Rattle.ebpf_decode.specs.declared.version.Version.{Version}
use Rattle.ebpf_decode.specs.declared.version.Version.TheVariants.{V1, V2}
use Rattle.ebpf_decode.specs.declared.insn.Insn.{Insn}
use Rattle.ebpf_decode.specs.declared.insn.Insn.TheVariants.{Ldval}

abbrev pub version_number : Version → ℕ
version_number V1 = 1
version_number V2 = 2

abbrev pub version_of : ℕ → Option Version
version_of number = if number == 1 then Some V1 else (if number == 2 then Some V2 else None)

-- an instruction may load an address in a map's value
abbrev pub has_value_addresses : Version → Bool
has_value_addresses V1 = false
has_value_addresses V2 = true

-- how many bytes a map's value may have at most
abbrev pub most_value_bytes : Version → ℕ
most_value_bytes V1 = 64
most_value_bytes V2 = 256

-- images of this version may have the instruction
unfoldable pub is_in_version : Version → Insn → Bool
is_in_version version (Ldval dst map offset) = has_value_addresses version
is_in_version version insn = true

abbrev pub IsInVersion : Version → Insn → Type 0
IsInVersion version insn = IsTrue (is_in_version version insn)
