-- The image format: the bytes 58 4c 42 50, the version (1 or 2), the number of maps, two zero bytes; sixteen bytes for each
-- map; then the slots to the end. Reading returns the image or the first fault: in the order of the
-- numbers, but of 15 to 19 the first slot's.
use Rattle.std.specs.Prelude.{◌≡◌, ◌≢◌, ℕ, zero, suc, ◌+◌, ◌*◌, ◌/◌, ◌%◌, Bool, nat_le, nat_lt, ◌==◌, ◌&&◌, ◌||◌, not, List, [], ◌∷◌, ◌++◌}
use Rattle.faults.specs.declared.fields.Fields.{Fields}
use Rattle.faults.specs.declared.fields.Fields.TheVariants as fields
use Rattle.std.specs.Prelude.{length, drop, slice_index, Option, Some, None, is_some, unwrap_or, Result, Ok, Err, if◌then◌else◌}
use Rattle.std.specs.List.{flat_map}
use Rattle.std.specs.Option.{ok_or, option_or}
use Rattle.ebpf_decode.specs.declared.insn.Insn.{Insn}
use Rattle.ebpf_decode.specs.declared.map.MapDef.{MapDef}
use Rattle.ebpf_decode.specs.declared.fault.DecodeFault.{DecodeFault}
use Rattle.ebpf_decode.specs.declared.fault.DecodeFault.TheVariants.{BadHead, BadMap, Empty, NotWhole, TooLong, UnknownOpcode, NotInProfile}
use Rattle.ebpf_decode.specs.declared.fault.DecodeFault.TheVariants.{BadRegister, FieldNotZero, WideCut, Memory}
use Rattle.ebpf_decode.specs.declared.version.Version.{Version}
use Rattle.ebpf_decode.specs.declared.version.Version.TheVariants.{V1}
use Rattle.ebpf_decode.specs.Versions.{version_number, version_of, is_in_version}
use Rattle.ebpf_decode.specs.SlotForm.{slots_at}
use Rattle.ebpf_decode.specs.InstructionEncoding.{instruction_bytes, slot_count, total_slots}
use Rattle.ebpf_decode.specs.InstructionReading.{◌>>=◌, code_from}
use Rattle.ebpf_decode.specs.MapForm.{map_bytes, map_in_bytes, is_allowed_map}
use Rattle.ebpf_decode.specs.ImageContents.{Contents, IsEncodable}

-- the first eight bytes
abbrev pub head_bytes : Version → ℕ → List ℕ
head_bytes version map_count = 0x58 ∷ 0x4c ∷ 0x42 ∷ 0x50 ∷ version_number version ∷ map_count ∷ 0 ∷ 0 ∷ []

abbrev pub image_bytes : Contents → List ℕ
image_bytes image = head_bytes image.version (length image.maps) ++ flat_map map_bytes image.maps ++ flat_map instruction_bytes image.code

-- the bytes are the encoding of the image
pub record IsImageEncoding (bytes : List ℕ) (image : Contents) : Type 0 where
  pub encodable : IsEncodable image.version image.maps image.code
  pub encoded : bytes ≡ image_bytes image

-- ---- reading

abbrev pub map_count : List ℕ → ℕ
map_count bytes = slice_index bytes 5

-- a version 1 where there is none
abbrev pub version_at : List ℕ → Version
version_at bytes = unwrap_or (version_of (slice_index bytes 4)) V1

-- a whole head and list of maps: magic, version, at most 16 maps, two zeros, and sixteen bytes for each map
abbrev pub has_head : List ℕ → Bool
has_head bytes =
    nat_le 8 (length bytes) && (slice_index bytes 0 == 0x58) && (slice_index bytes 1 == 0x4c) && (slice_index bytes 2 == 0x42) &&
    (slice_index bytes 3 == 0x50) && is_some (version_of (slice_index bytes 4)) && nat_le (map_count bytes) 16 &&
    (slice_index bytes 6 == 0) && (slice_index bytes 7 == 0) && nat_le (8 + 16 * map_count bytes) (length bytes)

-- this many maps, the first of this number, and the bytes after them
unfoldable pub maps_at : Version → ℕ → ℕ → List ℕ → Result (List MapDef × List ℕ) DecodeFault
maps_at version place zero bytes = Ok ([], bytes)
maps_at version place (suc n) bytes = do
  first ← ok_or (map_in_bytes version bytes) (BadMap place)
  others ← maps_at version (place + 1) n (drop 16 bytes)
  Ok (first ∷ others.0, others.1)

-- the program, of all the bytes after the maps
unfoldable pub code_at : Version → List ℕ → Result (List Insn) DecodeFault
code_at version bytes =
    if length bytes == 0 then Err Empty else
    if not (length bytes % 8 == 0) then Err NotWhole else
    if nat_lt 4096 (length bytes / 8) then Err TooLong else code_from version 0 None (slots_at (length bytes / 8) bytes)

unfoldable pub image_at : List ℕ → Result Contents DecodeFault
image_at bytes =
    if has_head bytes then (do
      found ← maps_at (version_at bytes) 0 (map_count bytes) (drop 8 bytes)
      code ← code_at (version_at bytes) found.1
      Ok (record { version = version_at bytes; maps = found.0; code = code })) else Err BadHead

-- a program's size: whole slots, 1 to 4096 of them
abbrev pub has_code_size : List ℕ → Bool
has_code_size bytes = not (length bytes == 0) && (length bytes % 8 == 0) && nat_le (length bytes / 8) 4096

-- reading may ask for memory: after a whole head, for maps, or for a program of a right size
abbrev pub may_ask_memory : List ℕ → Bool
may_ask_memory bytes = has_head bytes && (nat_lt 0 (map_count bytes) || has_code_size (drop 8 bytes))

-- What a function returned, seen by view, is what reading returns, unless memory was refused.
abbrev pub Gives : {X Y : Type 0} → (X → Y) → Result X DecodeFault → Result Y DecodeFault → Type 0
Gives view (Ok x) read = read ≡ Ok (view x)
Gives view (Err fault) read = fault ≢ Memory → read ≡ Err fault

abbrev pub fault_of : {A : Type 0} → Result A DecodeFault → Option DecodeFault
fault_of (Ok image) = None
fault_of (Err fault) = Some fault

-- the first fault of bytes that encode no image
abbrev pub first_decode_fault : List ℕ → Option DecodeFault
first_decode_fault bytes = fault_of (image_at bytes)

-- ---- the first fault of an image that is made of its parts

abbrev pub first_bad_map : Version → ℕ → List MapDef → Option DecodeFault
first_bad_map version place [] = None
first_bad_map version place (m ∷ maps) = if is_allowed_map version m then first_bad_map version (place + 1) maps else Some (BadMap place)

abbrev pub code_fault : List Insn → Option DecodeFault
code_fault code = if length code == 0 then Some Empty else (if nat_lt 4096 (total_slots code) then Some TooLong else None)

-- the first instruction that images of this version may not have
abbrev pub version_fault : Version → ℕ → List Insn → Option DecodeFault
version_fault version slot [] = None
version_fault version slot (insn ∷ code) =
    if is_in_version version insn then version_fault version (slot + slot_count insn) code else Some (NotInProfile slot)

-- the fault that the encoding of these maps and instructions has
unfoldable pub first_part_fault : Version → List MapDef → List Insn → Option DecodeFault
first_part_fault version maps code =
    if nat_lt 16 (length maps) then Some BadHead
    else option_or (first_bad_map version 0 maps) (option_or (code_fault code) (version_fault version 0 code))

-- the number that a fault is printed with
abbrev pub fault_number : DecodeFault → ℕ
fault_number BadHead = 10
fault_number (BadMap map) = 11
fault_number Empty = 12
fault_number NotWhole = 13
fault_number TooLong = 14
fault_number (UnknownOpcode slot) = 15
fault_number (NotInProfile slot) = 16
fault_number (BadRegister slot) = 17
fault_number (FieldNotZero slot) = 18
fault_number (WideCut slot) = 19
fault_number Memory = 20

-- the numbers of the fields that a fault is printed with
abbrev pub fault_fields : DecodeFault → Fields
fault_fields (BadMap map) = fields.One map
fault_fields (UnknownOpcode slot) = fields.One slot
fault_fields (NotInProfile slot) = fields.One slot
fault_fields (BadRegister slot) = fields.One slot
fault_fields (FieldNotZero slot) = fields.One slot
fault_fields (WideCut slot) = fields.One slot
fault_fields other = fields.Empty
