-- What has no fault of its parts is encodable.
use Rattle.std.proofs.Common.{◌≡◌, ℕ, ◌+◌, ◌≤◌, ◌<◌, Bool, true, false, cond, ltb, eqb, List, [], ◌∷◌, length, Option, Some, None, refl, arith}
use Rattle.std.specs.Option.{option_or}
use Rattle.std.specs.List.{AllByRecursion}
use Rattle.std.proofs.lemmas.Bool.{ltb-false, lt-ltb, eqb-false, ne_eqb}
use Rattle.std.proofs.lemmas.List.Sums.{sum_by-cons}
use Rattle.ebpf_decode.specs.declared.fault.DecodeFault.{DecodeFault}
use Rattle.ebpf_decode.specs.declared.fault.DecodeFault.TheVariants.{BadHead, BadMap, Empty, TooLong, NotInProfile}
use Rattle.ebpf_decode.specs.declared.insn.Insn.{Insn}
use Rattle.ebpf_decode.specs.declared.insn.Insn.TheVariants.{Lddw, Ldmap, Ldval}
use Rattle.ebpf_decode.specs.declared.map.MapDef.{MapDef}
use Rattle.ebpf_decode.specs.declared.version.Version.{Version}
use Rattle.ebpf_decode.specs.Versions.{is_in_version, IsInVersion}
use Rattle.ebpf_decode.specs.InstructionEncoding.{FieldsFit, slot_count, total_slots}
use Rattle.ebpf_decode.specs.MapForm.{is_allowed_map}
use Rattle.ebpf_decode.specs.ImageContents.{IsEncodable, IsAllowedMap}
use Rattle.ebpf_decode.specs.ImageFormat.{first_bad_map, code_fault, version_fault, first_part_fault}

-- a test that showed no fault
no_fault : (b : Bool) (fault : DecodeFault) (x : Option DecodeFault) → cond b (Some fault) x ≡ None → (b ≡ false) × (x ≡ None)
no_fault true fault x e = absurd cc
no_fault false fault x e = (refl, e)

neither : (a b : Option DecodeFault) → option_or a b ≡ None → (a ≡ None) × (b ≡ None)
neither None b e = (refl, e)
neither (Some fault) b e = absurd cc

allowed_test : (b : Bool) (x : Option DecodeFault) (fault : DecodeFault) → cond b x (Some fault) ≡ None → (b ≡ true) × (x ≡ None)
allowed_test true x fault e = (refl, e)
allowed_test false x fault e = absurd cc

all_allowed : (version : Version) (place : ℕ) (maps : List MapDef) → first_bad_map version place maps ≡ None → AllByRecursion (IsAllowedMap version) maps
all_allowed version place [] e = tt
all_allowed version place (m ∷ maps) e =
    let test = allowed_test (is_allowed_map version m) (first_bad_map version (place + 1) maps) (BadMap place) e in
    (test.0, all_allowed version (place + 1) maps test.1)

not_empty : (code : List Insn) → (length code ≡ 0 → ⊥) → 1 ≤ length code
not_empty [] h = absurd (h refl)
not_empty (insn ∷ code) h = omega arith

known_code : (version : Version) (slot : ℕ) (code : List Insn) → version_fault version slot code ≡ None → AllByRecursion (IsInVersion version) code
known_code version slot [] e = tt
known_code version slot (insn ∷ code) e =
    let test = allowed_test (is_in_version version insn) (version_fault version (slot + slot_count insn) code) (NotInProfile slot) e in
    (test.0, known_code version (slot + slot_count insn) code test.1)

pub encodable_parts : (version : Version) (maps : List MapDef) (code : List Insn) → first_part_fault version maps code ≡ None → AllByRecursion FieldsFit code → IsEncodable version maps code
unfolding first_part_fault
encodable_parts version maps code e fits =
    let few = no_fault (ltb 16 (length maps)) BadHead (option_or (first_bad_map version 0 maps) (option_or (code_fault code) (version_fault version 0 code))) e in
    let parts = neither (first_bad_map version 0 maps) (option_or (code_fault code) (version_fault version 0 code)) few.1 in
    let program = neither (code_fault code) (version_fault version 0 code) parts.1 in
    let some = no_fault (eqb (length code) 0) Empty (cond (ltb 4096 (total_slots code)) (Some TooLong) None) program.0 in
    let short = no_fault (ltb 4096 (total_slots code)) TooLong None some.1 in
    record {
      few_maps = ltb-false 16 (length maps) few.0;
      maps_allowed = all_allowed version 0 maps parts.0;
      some_code = not_empty code (eqb-false (length code) 0 some.0);
      few_slots = ltb-false 4096 (total_slots code) short.0;
      fields_fit = fits;
      in_version = known_code version 0 code program.1;
    }

one_at_least : (insn : Insn) → 1 ≤ slot_count insn
unfolding slot_count
one_at_least (Lddw dst value) = omega arith
one_at_least (Ldmap dst map) = omega arith
one_at_least (Ldval dst map offset) = omega arith
one_at_least insn = omega arith

pub length_at_most : (code : List Insn) → length code ≤ total_slots code
length_at_most [] = omega arith
length_at_most (insn ∷ code) = omega (arith, one_at_least insn, length_at_most code, sum_by-cons slot_count insn code)

pub too_long : (code : List Insn) → 4096 < length code → code_fault code ≡ Some TooLong
too_long code long =
    let some : eqb (length code) 0 ≡ false = ne_eqb (length code) 0 (λ e. omega arith) in
    let total : ltb 4096 (total_slots code) ≡ true = lt-ltb 4096 (total_slots code) (omega (arith, length_at_most code)) in
    rw (some, total) refl
