-- The two slots of a wide instruction.
use Rattle.std.proofs.Common.{◌≡◌, ℕ, ◌+◌, ◌*◌, ◌/◌, ◌%◌, ◌^◌, ◌<◌, Bool, true, false, cond, [], ◌∷◌, Result, Ok, Err, None, Some, refl, sym, ap, ◌∙◌, ℤ, pos, arith, lit<, w32}
use Rattle.std.specs.Prelude.{FitsSigned, IsTrue}
use Rattle.std.specs.Int.{cast_signed, cast_unsigned}
use Rattle.std.proofs.Math.Facts.{Fits-of_z}
use Rattle.std.proofs.lemmas.Int.{of_z-to_z, to_z-of_z}
use Rattle.std.proofs.lemmas.Nat.{shr_split, shr_below, mod_below, shr_high, mod_low}
use Rattle.isa.specs.declared.operation.Register.{Register}
use Rattle.ebpf_decode.specs.declared.slot.CodeSlot.{CodeSlot}
use Rattle.ebpf_decode.specs.declared.fault.SlotFault.{SlotFault}
use Rattle.ebpf_decode.specs.declared.fault.SlotFault.TheVariants.{FieldNotZero, NotInProfile}
use Rattle.ebpf_decode.specs.declared.wide.WideHead.{WideHead}
use Rattle.ebpf_decode.specs.declared.wide.WideHead.TheVariants.{Number, Map, Value}
use Rattle.ebpf_decode.specs.declared.wide.SlotReading.TheVariants.{Whole, Head}
use Rattle.ebpf_decode.specs.declared.insn.Insn.{Insn}
use Rattle.ebpf_decode.specs.declared.insn.Insn.TheVariants.{Lddw, Ldmap, Ldval}
use Rattle.ebpf_decode.specs.declared.version.Version.{Version}
use Rattle.ebpf_decode.specs.declared.version.Version.TheVariants.{V1, V2}
use Rattle.ebpf_decode.specs.Versions.{has_value_addresses, is_in_version}
use Rattle.ebpf_decode.specs.SlotForm.{same_slot}
use Rattle.isa.specs.InstructionCodes.{register_number}
use Rattle.ebpf_decode.specs.InstructionEncoding.{slot, wide_opcode, slot_of, more_slots_of, slots_of_instruction, FieldsFit}
use Rattle.ebpf_decode.specs.InstructionReading.{◌>>=◌, register_at, head_slot, exact_head, number_head_at, map_head_at, value_head_at, head_at, wide_insn, second_slot, second_at, reading_in, step_at}
use Rattle.ebpf_decode.proofs.Slots.{SlotFits}
use Rattle.ebpf_decode.proofs.shared.SlotLaws.{equal_from_same, same_itself}
use Rattle.ebpf_decode.proofs.InstructionLaws.{register_again}

-- ---- heads

-- images of this version may have an instruction that begins so
abbrev pub IsHeadOf : Version → WideHead → Type 0
IsHeadOf version (Number dst low) = Unit {0}
IsHeadOf version (Map dst map) = Unit {0}
IsHeadOf version (Value dst map) = IsTrue (has_value_addresses version)

pub record HeadReads (version : Version) (s : CodeSlot) (outcome : Result WideHead SlotFault) : Type 0 where
  pub encoded : (head : WideHead) → outcome ≡ Ok head → (s ≡ head_slot head) × IsHeadOf version head

head_bind : {A : Type 0} (version : Version) (s : CodeSlot) (r : Result A SlotFault) (f : A → Result WideHead SlotFault) → ((x : A) → HeadReads version s (f x)) → HeadReads version s (r >>= f)
head_bind version s (Ok x) f h = h x
head_bind version s (Err e) f h = record { encoded = λ head eq. absurd cc }

head_if : (version : Version) (s : CodeSlot) (b : Bool) (x y : Result WideHead SlotFault) → HeadReads version s x → HeadReads version s y → HeadReads version s (cond b x y)
head_if version s true x y p q = p
head_if version s false x y p q = q

head_err : (version : Version) (s : CodeSlot) (e : SlotFault) → HeadReads version s (Err e)
head_err version s e = record { encoded = λ head eq. absurd cc }

abbrev found : WideHead → Result WideHead SlotFault
found head = Ok head

only_exact_head : (version : Version) (s : CodeSlot) (head other : WideHead) (b : Bool) → IsHeadOf version head → same_slot s (head_slot head) ≡ b → cond b (found head) (Err FieldNotZero) ≡ Ok other → (s ≡ head_slot other) × IsHeadOf version other
only_exact_head version s head other true its same e = let it : head ≡ other = cc in rw (← it) (equal_from_same s (head_slot head) same, its)
only_exact_head version s head other false its same e = absurd cc

exact_head_reads : (version : Version) (s : CodeSlot) (head : WideHead) → IsHeadOf version head → HeadReads version s (exact_head s head)
unfolding exact_head
exact_head_reads version s head its = record { encoded = λ other e. only_exact_head version s head other (same_slot s (head_slot head)) its refl e }

number_head_reads : (version : Version) (s : CodeSlot) → HeadReads version s (number_head_at s)
unfolding number_head_at
number_head_reads version s = head_bind version s (register_at s.dst) _ (λ dst. exact_head_reads version s (Number dst s.immediate) tt)

map_head_reads : (version : Version) (s : CodeSlot) → HeadReads version s (map_head_at s)
unfolding map_head_at
map_head_reads version s = head_bind version s (register_at s.dst) _ (λ dst. exact_head_reads version s (Map dst s.immediate) tt)

value_head_reads : (version : Version) (s : CodeSlot) → HeadReads version s (value_head_at version s)
unfolding value_head_at
value_head_reads V1 s = head_err V1 s NotInProfile
value_head_reads V2 s = head_bind V2 s (register_at s.dst) _ (λ dst. exact_head_reads V2 s (Value dst s.immediate) refl)

pub head_reads : (version : Version) (s : CodeSlot) → HeadReads version s (head_at version s)
unfolding head_at
head_reads version s = head_if version s _ _ _ (head_if version s _ _ _ (number_head_reads version s) (head_if version s _ _ _ (map_head_reads version s) (head_if version s _ _ _ (value_head_reads version s) (head_if version s _ _ _ (head_err version s _) (head_err version s _))))) (head_if version s _ _ _ (head_err version s _) (head_err version s _))

-- what a head holds fits its slot
unfoldable pub HeadFits : WideHead → Type 0
HeadFits (Number dst low) = FitsSigned w32 low
HeadFits (Map dst map) = FitsSigned w32 map
HeadFits (Value dst map) = FitsSigned w32 map

pub head_fits : (head : WideHead) → SlotFits (head_slot head) → HeadFits head
unfolding head_slot HeadFits
head_fits (Number dst low) fits = fits.immediate
head_fits (Map dst map) fits = fits.immediate
head_fits (Value dst map) fits = fits.immediate

exact_head_again : (head : WideHead) → exact_head (head_slot head) head ≡ Ok head
unfolding exact_head
exact_head_again head = rw (same_itself (head_slot head)) refl

pub number_head_again : (version : Version) (place : ℕ) (dst : Register) (value : ℕ) → step_at version place None (slot_of (Lddw dst value)) ≡ Ok (Head (Number dst (cast_signed w32 (value % 2 ^ 32))))
unfolding step_at reading_in head_at number_head_at slot_of head_slot
number_head_again version place dst value = rw (register_again dst, exact_head_again (Number dst (cast_signed w32 (value % 2 ^ 32)))) refl

pub map_head_again : (version : Version) (place : ℕ) (dst : Register) (map : ℤ) → step_at version place None (slot_of (Ldmap dst map)) ≡ Ok (Head (Map dst map))
unfolding step_at reading_in head_at map_head_at slot_of head_slot
map_head_again version place dst map = rw (register_again dst, exact_head_again (Map dst map)) refl

pub value_head_again : (version : Version) (place : ℕ) (dst : Register) (map : ℤ) (offset : ℕ) → IsTrue (has_value_addresses version) → step_at version place None (slot_of (Ldval dst map offset)) ≡ Ok (Head (Value dst map))
unfolding step_at reading_in head_at value_head_at slot_of head_slot
value_head_again V1 place dst map offset has = absurd cc
value_head_again V2 place dst map offset has = rw (register_again dst, exact_head_again (Value dst map)) refl

-- ---- second slots

second_exact : (head : WideHead) (s : CodeSlot) → s ≡ second_slot head s → second_at head s ≡ Ok (wide_insn head s)
unfolding second_at
second_exact head s e =
    let same : same_slot s (second_slot head s) ≡ true = rw (← e) (same_itself s) in
    rw same refl

second_step : (version : Version) (place : ℕ) (head : WideHead) (s : CodeSlot) → s ≡ second_slot head s → step_at version place (Some head) s ≡ Ok (Whole (wide_insn head s))
unfolding step_at
second_step version place head s e = rw (second_exact head s e) refl

joined : (value : ℕ) → value < 2 ^ 64 → cast_unsigned w32 (cast_signed w32 (value / 2 ^ 32)) * 2 ^ 32 + cast_unsigned w32 (cast_signed w32 (value % 2 ^ 32)) ≡ value
joined value lt = rw (of_z-to_z w32 (value / 2 ^ 32) (shr_below value 32 32 lt), of_z-to_z w32 (value % 2 ^ 32) (mod_below value (2 ^ 32) (lit< tt))) (shr_split value 32)

pub number_again : (version : Version) (place : ℕ) (dst : Register) (value : ℕ) → value < 2 ^ 64 → step_at version place (Some (Number dst (cast_signed w32 (value % 2 ^ 32)))) (slot 0 0 0 (pos 0) (cast_signed w32 (value / 2 ^ 32))) ≡ Ok (Whole (Lddw dst value))
unfolding second_slot wide_insn
number_again version place dst value lt = second_step version place (Number dst (cast_signed w32 (value % 2 ^ 32))) (slot 0 0 0 (pos 0) (cast_signed w32 (value / 2 ^ 32))) refl ∙ ap (λ (v : ℕ). Ok (Whole (Lddw dst v))) (joined value lt)

pub map_again : (version : Version) (place : ℕ) (dst : Register) (map : ℤ) → step_at version place (Some (Map dst map)) (slot 0 0 0 (pos 0) (pos 0)) ≡ Ok (Whole (Ldmap dst map))
unfolding second_slot wide_insn
map_again version place dst map = second_step version place (Map dst map) (slot 0 0 0 (pos 0) (pos 0)) refl

pub value_again : (version : Version) (place : ℕ) (dst : Register) (map : ℤ) (offset : ℕ) → offset < 2 ^ 32 → step_at version place (Some (Value dst map)) (slot 0 0 0 (pos 0) (cast_signed w32 offset)) ≡ Ok (Whole (Ldval dst map offset))
unfolding second_slot wide_insn
value_again version place dst map offset lt = second_step version place (Value dst map) (slot 0 0 0 (pos 0) (cast_signed w32 offset)) refl ∙ ap (λ (n : ℕ). Ok (Whole (Ldval dst map n))) (of_z-to_z w32 offset lt)

abbrev made : Insn → Result Insn SlotFault
made insn = Ok insn

only_second : (head : WideHead) (s : CodeSlot) (insn : Insn) (b : Bool) → same_slot s (second_slot head s) ≡ b → cond b (made (wide_insn head s)) (Err FieldNotZero) ≡ Ok insn → (s ≡ second_slot head s) × (wide_insn head s ≡ insn)
only_second head s insn true same e = (equal_from_same s (second_slot head s) same, cc)
only_second head s insn false same e = absurd cc

pub second_found : (head : WideHead) (s : CodeSlot) (insn : Insn) → second_at head s ≡ Ok insn → (s ≡ second_slot head s) × (wide_insn head s ≡ insn)
unfolding second_at
second_found head s insn e = only_second head s insn (same_slot s (second_slot head s)) refl e

two_slots : (a a' b b' : CodeSlot) → a ≡ a' → b ≡ b' → a ∷ b ∷ [] ≡ a' ∷ b' ∷ []
two_slots a a' b b' ea eb = rw (ea, eb) refl

bits_fit : (z : ℤ) → FitsSigned w32 z → cast_unsigned w32 z < 2 ^ 32
bits_fit z fits = (Fits-of_z {w = w32} fits).fits

low_back : (high low : ℤ) → FitsSigned w32 low → cast_signed w32 ((cast_unsigned w32 high * 2 ^ 32 + cast_unsigned w32 low) % 2 ^ 32) ≡ low
low_back high low fits = ap (cast_signed w32) (mod_low (cast_unsigned w32 high) 32 (cast_unsigned w32 low) (bits_fit low fits)) ∙ to_z-of_z w32 low fits

high_back : (high low : ℤ) → FitsSigned w32 high → FitsSigned w32 low → cast_signed w32 ((cast_unsigned w32 high * 2 ^ 32 + cast_unsigned w32 low) / 2 ^ 32) ≡ high
high_back high low fits low_fits = ap (cast_signed w32) (shr_high (cast_unsigned w32 high) 32 (cast_unsigned w32 low) (bits_fit low low_fits)) ∙ to_z-of_z w32 high fits

pub wide_slots : (head : WideHead) (s : CodeSlot) → HeadFits head → SlotFits s → s ≡ second_slot head s → head_slot head ∷ s ∷ [] ≡ slots_of_instruction (wide_insn head s)
unfolding head_slot HeadFits second_slot wide_insn slot_of more_slots_of
wide_slots (Number dst low) s head fits e = two_slots _ _ _ _ (ap (slot wide_opcode (register_number dst) 0 (pos 0)) (sym (low_back s.immediate low head))) (e ∙ ap (slot 0 0 0 (pos 0)) (sym (high_back s.immediate low fits.immediate head)))
wide_slots (Map dst map) s head fits e = two_slots _ _ _ _ refl e
wide_slots (Value dst map) s head fits e = two_slots _ _ _ _ refl (e ∙ ap (slot 0 0 0 (pos 0)) (sym (to_z-of_z w32 s.immediate fits.immediate)))

pub wide_fits : (head : WideHead) (s : CodeSlot) → HeadFits head → SlotFits s → FieldsFit (wide_insn head s)
unfolding HeadFits wide_insn FieldsFit
wide_fits (Number dst low) s head fits = omega (arith, bits_fit low head, bits_fit s.immediate fits.immediate)
wide_fits (Map dst map) s head fits = head
wide_fits (Value dst map) s head fits = (head, bits_fit s.immediate fits.immediate)

pub wide_in_version : (version : Version) (head : WideHead) (s : CodeSlot) → IsHeadOf version head → IsTrue (is_in_version version (wide_insn head s))
unfolding wide_insn is_in_version
wide_in_version version (Number dst low) s its = refl
wide_in_version version (Map dst map) s its = refl
wide_in_version version (Value dst map) s its = its
