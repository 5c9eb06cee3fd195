-- A program's slots and its instructions determine each other.
use Rattle.std.proofs.Common.{◌≡◌, ℕ, ◌+◌, ◌-◌, ◌/◌, ◌%◌, ◌^◌, List, [], ◌∷◌, ◌++◌, length, Option, Some, None, Result, Ok, Err, refl, sym, ap, subst, ◌∙◌, append_assoc, pos, arith, w32}
use Rattle.std.specs.Int.{cast_signed}
use Rattle.std.specs.List.{flat_map, AllByRecursion}
use Rattle.std.proofs.lemmas.Grind.{flat_map-append}
use Rattle.std.proofs.lemmas.List.{length-append, append-nil}
use Rattle.std.proofs.lemmas.List.Sums.{sum_by-cons}
use Rattle.isa.specs.declared.operation.SourceOperand.TheVariants.{Imm, Reg}
use Rattle.ebpf_decode.specs.declared.slot.CodeSlot.{CodeSlot}
use Rattle.ebpf_decode.specs.declared.fault.SlotFault.{SlotFault}
use Rattle.ebpf_decode.specs.declared.fault.DecodeFault.{DecodeFault}
use Rattle.ebpf_decode.specs.declared.wide.WideHead.{WideHead}
use Rattle.ebpf_decode.specs.declared.wide.WideHead.TheVariants.{Number, Map, Value}
use Rattle.ebpf_decode.specs.declared.wide.SlotReading.{SlotReading}
use Rattle.ebpf_decode.specs.declared.wide.SlotReading.TheVariants.{Whole, Head}
use Rattle.ebpf_decode.specs.declared.insn.Insn.{Insn}
use Rattle.ebpf_decode.specs.declared.insn.Insn.TheVariants.{Alu, Neg, Movsx, Movsx32, End, Ja, Ja32, JumpIf, Ldx, Ldxs, St, Stx, AtomicUpdate, Lddw, Ldmap, Ldval, CallHelper, Exit}
use Rattle.ebpf_decode.specs.declared.version.Version.{Version}
use Rattle.ebpf_decode.specs.Versions.{is_in_version, IsInVersion}
use Rattle.ebpf_decode.specs.SlotForm.{slot_bytes}
use Rattle.ebpf_decode.specs.InstructionEncoding.{slot, slot_of, more_slots_of, slot_count, slots_of_instruction, total_slots, instruction_bytes, FieldsFit}
use Rattle.ebpf_decode.specs.InstructionReading.{◌>>=◌, class_of, reading_in, head_slot, head_at, wide_insn, second_at, at_slot, whole, step_at, pending_of, finished_by, code_from}
use Rattle.ebpf_decode.proofs.Slots.{SlotFits, slots_of}
use Rattle.ebpf_decode.proofs.InstructionLaws.{instruction_reads, head_is_read, whole_is, whole_is_no_head, whole_again, IsReadWhole}
use Rattle.ebpf_decode.proofs.WideLaws.{head_reads, IsHeadOf, HeadFits, head_fits, second_found, wide_slots, wide_fits, wide_in_version, number_head_again, map_head_again, value_head_again, number_again, map_again, value_again}

-- ---- what is encoded is read

code_whole : (version : Version) (insn : Insn) (code : List Insn) → more_slots_of insn ≡ [] → IsReadWhole insn → ((place : ℕ) → code_from version place None (slots_of code) ≡ Ok code) → (place : ℕ) → code_from version place None (slots_of (insn ∷ code)) ≡ Ok (insn ∷ code)
unfolding code_from
code_whole version insn code none whole rest place = rw (none, whole version place, rest (place + 1)) refl

code_wide : (version : Version) (first second : CodeSlot) (head : WideHead) (insn : Insn) (code : List Insn) → ((place : ℕ) → step_at version place None first ≡ Ok (Head head)) → ((place : ℕ) → step_at version place (Some head) second ≡ Ok (Whole insn)) → ((place : ℕ) → code_from version place None (slots_of code) ≡ Ok code) → (place : ℕ) → code_from version place None (first ∷ second ∷ slots_of code) ≡ Ok (insn ∷ code)
unfolding code_from
code_wide version first second head insn code one two rest place = rw (one place, two (place + 1), rest (place + 1 + 1)) refl

-- images of this version may have the instruction, and its fields hold its numbers
abbrev pub IsAllowed : Version → Insn → Type 0
IsAllowed version insn = FieldsFit insn × IsInVersion version insn

pub each_allowed : (version : Version) (code : List Insn) → AllByRecursion FieldsFit code → AllByRecursion (IsInVersion version) code → AllByRecursion (IsAllowed version) code
each_allowed version [] fits known = tt
each_allowed version (insn ∷ code) fits known = ((fits.0, known.0), each_allowed version code fits.1 known.1)

pub allowed_fit : (version : Version) (code : List Insn) → AllByRecursion (IsAllowed version) code → AllByRecursion FieldsFit code
allowed_fit version [] allowed = tt
allowed_fit version (insn ∷ code) allowed = (allowed.0.0, allowed_fit version code allowed.1)

pub allowed_in_version : (version : Version) (code : List Insn) → AllByRecursion (IsAllowed version) code → AllByRecursion (IsInVersion version) code
allowed_in_version version [] allowed = tt
allowed_in_version version (insn ∷ code) allowed = (allowed.0.1, allowed_in_version version code allowed.1)

pub code_again : (version : Version) (code : List Insn) → AllByRecursion (IsAllowed version) code → (place : ℕ) → code_from version place None (slots_of code) ≡ Ok code
unfolding code_from more_slots_of FieldsFit is_in_version
code_again version [] fits place = refl
code_again version (Lddw dst value ∷ code) fits place = code_wide version (slot_of (Lddw dst value)) (slot 0 0 0 (pos 0) (cast_signed w32 (value / 2 ^ 32))) (Number dst (cast_signed w32 (value % 2 ^ 32))) (Lddw dst value) code (λ p. number_head_again version p dst value) (λ p. number_again version p dst value fits.0.0) (code_again version code fits.1) place
code_again version (Ldmap dst map ∷ code) fits place = code_wide version (slot_of (Ldmap dst map)) (slot 0 0 0 (pos 0) (pos 0)) (Map dst map) (Ldmap dst map) code (λ p. map_head_again version p dst map) (λ p. map_again version p dst map) (code_again version code fits.1) place
code_again version (Ldval dst map offset ∷ code) fits place = code_wide version (slot_of (Ldval dst map offset)) (slot 0 0 0 (pos 0) (cast_signed w32 offset)) (Value dst map) (Ldval dst map offset) code (λ p. value_head_again version p dst map offset fits.0.1) (λ p. value_again version p dst map offset fits.0.0.1) (code_again version code fits.1) place
code_again version (insn ∷ code) fits place = code_whole version insn code refl (whole_again insn refl) (code_again version code fits.1) place

-- ---- what is read is encoded so

pub bind_ok : {A B E : Type 0} (r : Result A E) (f : A → Result B E) (y : B) → (r >>= f) ≡ Ok y → (x : A) × (r ≡ Ok x) × (f x ≡ Ok y)
bind_ok (Ok x) f y e = (x, refl, e)
bind_ok (Err d) f y e = absurd cc

abbrev read : SlotReading → Result SlotReading DecodeFault
read reading = Ok reading

at_ok : (place : ℕ) (r : Result SlotReading SlotFault) (reading : SlotReading) → at_slot place r ≡ read reading → r ≡ Ok reading
at_ok place (Ok x) reading e = let same : x ≡ reading = cc in rw same refl
at_ok place (Err d) reading e = absurd cc

-- a first slot that waits for its second
abbrev heads : Option WideHead → List CodeSlot
heads None = []
heads (Some head) = head_slot head ∷ []

abbrev pub PendingFits : Version → Option WideHead → Type 0
PendingFits version None = Unit {0}
PendingFits version (Some head) = HeadFits head × IsHeadOf version head

fits_of : (insn : Insn) → more_slots_of insn ≡ [] → SlotFits (slot_of insn) → FieldsFit insn
unfolding slot_of more_slots_of FieldsFit
fits_of (Alu width op dst (Imm value)) none fits = fits.immediate
fits_of (Alu width op dst (Reg src)) none fits = tt
fits_of (Neg width dst) none fits = tt
fits_of (Movsx extension dst src) none fits = tt
fits_of (Movsx32 extension dst src) none fits = tt
fits_of (End order width dst) none fits = tt
fits_of (Ja distance) none fits = fits.offset
fits_of (Ja32 distance) none fits = fits.immediate
fits_of (JumpIf width test dst (Imm value) distance) none fits = (fits.offset, fits.immediate)
fits_of (JumpIf width test dst (Reg src) distance) none fits = (fits.offset, tt)
fits_of (Ldx size dst src offset) none fits = fits.offset
fits_of (Ldxs extension dst src offset) none fits = fits.offset
fits_of (St size dst offset immediate) none fits = (fits.offset, fits.immediate)
fits_of (Stx size dst src offset) none fits = fits.offset
fits_of (AtomicUpdate width op dst src offset) none fits = fits.offset
fits_of (Lddw dst value) none fits = absurd cc
fits_of (Ldmap dst map) none fits = absurd cc
fits_of (Ldval dst map offset) none fits = absurd cc
fits_of (CallHelper helper) none fits = fits.immediate
fits_of Exit none fits = tt

-- what one slot, after those that wait, is the encoding of
record IsStep (version : Version) (pending : Option WideHead) (s : CodeSlot) (reading : SlotReading) : Type 0 where
  slots : heads pending ++ s ∷ [] ≡ slots_of (finished_by reading) ++ heads (pending_of reading)
  fits : AllByRecursion (IsAllowed version) (finished_by reading)
  pending_fits : PendingFits version (pending_of reading)

head_step : (version : Version) (s : CodeSlot) (head : WideHead) → SlotFits s → head_at version s ≡ Ok head → IsStep version None s (Head head)
head_step version s head fits e =
    let is = (head_reads version s).encoded head e in
    record { slots = ap (λ (t : CodeSlot). t ∷ []) is.0; fits = tt; pending_fits = (head_fits head (subst SlotFits is.0 fits), is.1) }

-- an instruction of one slot is in both versions
one_slot_in_version : (version : Version) (insn : Insn) → more_slots_of insn ≡ [] → IsInVersion version insn
unfolding more_slots_of is_in_version
one_slot_in_version version (Ldval dst map offset) none = absurd cc
one_slot_in_version version insn none = refl

whole_step : (version : Version) (s : CodeSlot) (insn : Insn) → SlotFits s → reading_in version (class_of s) s ≡ Ok (Whole insn) → IsStep version None s (Whole insn)
whole_step version s insn fits e =
    let is = instruction_reads version (class_of s) s insn e in
    let none : more_slots_of insn ≡ [] = is.1 in
    record { slots = rw none (ap (λ (t : CodeSlot). t ∷ []) is.0); fits = ((fits_of insn none (subst SlotFits is.0 fits), one_slot_in_version version insn none), tt); pending_fits = tt }

second_is_step : (version : Version) (head : WideHead) (s : CodeSlot) (insn : Insn) → HeadFits head × IsHeadOf version head → SlotFits s → second_at head s ≡ Ok insn → IsStep version (Some head) s (Whole insn)
second_is_step version head s insn head_ok fits e =
    let is = second_found head s insn e in
    let slots : head_slot head ∷ s ∷ [] ≡ slots_of_instruction (wide_insn head s) = wide_slots head s head_ok.0 fits is.0 in
    let made : head_slot head ∷ s ∷ [] ≡ slots_of_instruction insn = slots ∙ ap slots_of_instruction is.1 in
    record { slots = made ∙ sym (append-nil (slots_of_instruction insn)) ∙ sym (append-nil (slots_of_instruction insn ++ [])); fits = ((subst FieldsFit is.1 (wide_fits head s head_ok.0 fits), subst (IsInVersion version) is.1 (wide_in_version version head s head_ok.1)), tt); pending_fits = tt }

step_found : (version : Version) (place : ℕ) (pending : Option WideHead) (s : CodeSlot) (reading : SlotReading) → SlotFits s → PendingFits version pending → step_at version place pending s ≡ Ok reading → IsStep version pending s reading
unfolding step_at
step_found version place None s (Whole insn) fits waiting e = whole_step version s insn fits (at_ok place (reading_in version (class_of s) s) (Whole insn) e)
step_found version place None s (Head head) fits waiting e = head_step version s head fits (head_is_read version (class_of s) s head (at_ok place (reading_in version (class_of s) s) (Head head) e))
step_found version place (Some head) s (Whole insn) fits waiting e = second_is_step version head s insn waiting fits (whole_is (second_at head s) insn (at_ok (place - 1) (whole (second_at head s)) (Whole insn) e))
step_found version place (Some head) s (Head other) fits waiting e = absurd (whole_is_no_head (second_at head s) other (at_ok (place - 1) (whole (second_at head s)) (Head other) e))

code_one : (version : Version) (place : ℕ) (pending : Option WideHead) (s : CodeSlot) (rest : List CodeSlot) → code_from version place pending (s ∷ rest) ≡ (step_at version place pending s >>= λ reading. code_from version (place + 1) (pending_of reading) rest >>= λ others. Ok (finished_by reading ++ others))
unfolding code_from
code_one version place None s rest = refl
code_one version place (Some head) s rest = refl

all_append : (version : Version) (xs ys : List Insn) → AllByRecursion (IsAllowed version) xs → AllByRecursion (IsAllowed version) ys → AllByRecursion (IsAllowed version) (xs ++ ys)
all_append version [] ys fx fy = fy
all_append version (x ∷ xs) ys fx fy = (fx.0, all_append version xs ys fx.1 fy)

abbrev IsCode : Version → List CodeSlot → List Insn → Type 0
IsCode version slots code = (slots ≡ slots_of code) × AllByRecursion (IsAllowed version) code

abbrev program : List Insn → Result (List Insn) DecodeFault
program code = Ok code

same_program : (a b : List Insn) → program a ≡ program b → a ≡ b
same_program a b e = cc

pub code_found : (version : Version) (place : ℕ) (pending : Option WideHead) (slots : List CodeSlot) (code : List Insn) → AllByRecursion SlotFits slots → PendingFits version pending → code_from version place pending slots ≡ Ok code → IsCode version (heads pending ++ slots) code
code_found version place None [] code fits waiting e = let P : List Insn → Type 0 = λ c. IsCode version [] c in subst P (same_program [] code (unfold code_from in e)) (refl, tt)
code_found version place (Some head) [] code fits waiting e = absurd (unfold code_from in cc)
code_found version place pending (s ∷ rest) code fits waiting e =
    let b = bind_ok (step_at version place pending s) (λ reading. code_from version (place + 1) (pending_of reading) rest >>= λ others. Ok (finished_by reading ++ others)) code (sym (code_one version place pending s rest) ∙ e) in
    let c = bind_ok (code_from version (place + 1) (pending_of b.0) rest) (λ others. Ok (finished_by b.0 ++ others)) code b.2 in
    let step = step_found version place pending s b.0 fits.0 waiting b.1 in
    let others = code_found version (place + 1) (pending_of b.0) rest c.0 fits.1 step.pending_fits c.1 in
    let whole = finished_by b.0 in
    let slots : heads pending ++ s ∷ rest ≡ slots_of (whole ++ c.0) =
    sym (append_assoc (heads pending) (s ∷ []) rest) ∙ ap (λ (x : List CodeSlot). x ++ rest) step.slots ∙ append_assoc (slots_of whole) (heads (pending_of b.0)) rest ∙ ap (λ (x : List CodeSlot). slots_of whole ++ x) others.0 ∙ sym (flat_map-append slots_of_instruction whole c.0) in
    let P : List Insn → Type 0 = λ x. IsCode version (heads pending ++ s ∷ rest) x in
    subst P (same_program (whole ++ c.0) code c.2) (slots, all_append version whole c.0 step.fits others.1)

-- ---- how many slots, and which bytes

count_is : (insn : Insn) → length (slots_of_instruction insn) ≡ slot_count insn
unfolding more_slots_of slot_count
count_is (Lddw dst value) = refl
count_is (Ldmap dst map) = refl
count_is (Ldval dst map offset) = refl
count_is insn = refl

pub length_slots : (code : List Insn) → length (slots_of code) ≡ total_slots code
length_slots [] = refl
length_slots (insn ∷ code) = omega (arith, length-append (slots_of_instruction insn) (slots_of code), count_is insn, length_slots code, sum_by-cons slot_count insn code)

pub bytes_of_slots : (code : List Insn) → flat_map slot_bytes (slots_of code) ≡ flat_map instruction_bytes code
bytes_of_slots [] = refl
bytes_of_slots (insn ∷ code) = flat_map-append slot_bytes (slots_of_instruction insn) (slots_of code) ∙ ap (λ (x : List ℕ). instruction_bytes insn ++ x) (bytes_of_slots code)
