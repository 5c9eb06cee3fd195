-- The image format encodes the shipped program, for each number of notes and each size of the lookup table.
use Rattle.std.proofs.Common.{◌≡◌, ℕ, zero, suc, List, length, Option, None, false, refl, subst, arith}
use Rattle.std.specs.Prelude.{nat_lt}
use Rattle.std.specs.Option.{option_or}
use Rattle.maglev.specs.RingSize.{IsRingSize}
use Rattle.ebpf_decode.specs.declared.fault.DecodeFault.{DecodeFault}
use Rattle.ebpf_decode.specs.declared.insn.Insn.{Insn}
use Rattle.ebpf_decode.specs.declared.map.MapDef.{MapDef}
use Rattle.ebpf_decode.specs.declared.version.Version.TheVariants.{V1}
use Rattle.ebpf_decode.specs.ImageFormat.{first_part_fault, first_bad_map, code_fault, version_fault}
use Rattle.ebpf_decode.specs.InstructionEncoding.{slot_count}
use Rattle.ebpf_decode.specs.Versions.{is_in_version}
use Rattle.conntrack.specs.SteeringMaps.{sized_maps, IsNoteCount}
use Rattle.steer.specs.ShippedProgram.{code_of, shipped_blocks}

abbrev part_fault : ℕ → ℕ → Option DecodeFault
part_fault notes size = first_part_fault V1 (sized_maps notes size) (code_of (shipped_blocks size))

abbrev code_part : List Insn → Option DecodeFault
code_part code = option_or (code_fault code) (version_fault V1 0 code)

joined : (maps : List MapDef) (code : List Insn) → nat_lt 16 (length maps) ≡ false → first_bad_map V1 0 maps ≡ None → code_part code ≡ None →
    first_part_fault V1 maps code ≡ None
unfolding first_part_fault
joined maps code few good fine = rw (few, good, fine) refl

good_code : (size : ℕ) → IsRingSize size → code_part (code_of (shipped_blocks size)) ≡ None
unfolding slot_count is_in_version
good_code size (zero, below, is) = subst (λ s. code_part (code_of (shipped_blocks s)) ≡ None) is refl
good_code size (suc zero, below, is) = subst (λ s. code_part (code_of (shipped_blocks s)) ≡ None) is refl
good_code size (suc (suc zero), below, is) = subst (λ s. code_part (code_of (shipped_blocks s)) ≡ None) is refl
good_code size (suc (suc (suc zero)), below, is) = subst (λ s. code_part (code_of (shipped_blocks s)) ≡ None) is refl
good_code size (suc (suc (suc (suc n))), below, is) = absurd (omega arith)

-- for each size of the lookup table
abbrev AreGood : ℕ → ℕ → Type 0
AreGood notes size = first_bad_map V1 0 (sized_maps notes size) ≡ None

by_size : (notes size : ℕ) → IsRingSize size → AreGood notes 7 → AreGood notes 251 → AreGood notes 4093 → AreGood notes 65537 → AreGood notes size
by_size notes size (zero, below, is) one two three four = subst (AreGood notes) is one
by_size notes size (suc zero, below, is) one two three four = subst (AreGood notes) is two
by_size notes size (suc (suc zero), below, is) one two three four = subst (AreGood notes) is three
by_size notes size (suc (suc (suc zero)), below, is) one two three four = subst (AreGood notes) is four
by_size notes size (suc (suc (suc (suc n))), below, is) one two three four = absurd (omega arith)

-- and for each number of notes
good_maps : (notes size : ℕ) → IsNoteCount notes → IsRingSize size → AreGood notes size
good_maps notes size (zero, below, is) ring = subst (λ n. AreGood n size) is (by_size 4096 size ring refl refl refl refl)
good_maps notes size (suc zero, below, is) ring = subst (λ n. AreGood n size) is (by_size 8192 size ring refl refl refl refl)
good_maps notes size (suc (suc zero), below, is) ring = subst (λ n. AreGood n size) is (by_size 16384 size ring refl refl refl refl)
good_maps notes size (suc (suc (suc zero)), below, is) ring = subst (λ n. AreGood n size) is (by_size 32768 size ring refl refl refl refl)
good_maps notes size (suc (suc (suc (suc zero))), below, is) ring = subst (λ n. AreGood n size) is (by_size 65536 size ring refl refl refl refl)
good_maps notes size (suc (suc (suc (suc (suc zero)))), below, is) ring = subst (λ n. AreGood n size) is (by_size 131072 size ring refl refl refl refl)
good_maps notes size (suc (suc (suc (suc (suc (suc n))))), below, is) ring = absurd (omega arith)

pub no_fault : (notes size : ℕ) → IsNoteCount notes → IsRingSize size → part_fault notes size ≡ None
no_fault notes size may is = joined (sized_maps notes size) (code_of (shipped_blocks size)) refl (good_maps notes size may is) (good_code size is)
