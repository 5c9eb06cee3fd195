-- What one slot is read as is encoded so, and what is encoded so is read.
use Rattle.std.proofs.Common.{◌≡◌, ℕ, Bool, true, false, cond, [], Result, Ok, Err, Option, None, Some, refl, ℤ}
use Rattle.isa.specs.declared.operation.Width.{Width}
use Rattle.isa.specs.declared.operation.Width.TheVariants.{Bits32, Bits64}
use Rattle.isa.specs.declared.operation.Class.{Class}
use Rattle.isa.specs.declared.operation.Class.TheVariants as classes
use Rattle.isa.specs.declared.operation.Mode.{Mode}
use Rattle.isa.specs.declared.operation.Mode.TheVariants as modes
use Rattle.isa.specs.declared.operation.AluOp.{AluOp}
use Rattle.isa.specs.declared.operation.AluOp.TheVariants.{Add}
use Rattle.isa.specs.declared.operation.Extension.{Extension}
use Rattle.isa.specs.declared.operation.Extension.TheVariants.{I8}
use Rattle.isa.specs.declared.operation.ShortExtension.{ShortExtension}
use Rattle.isa.specs.declared.operation.ShortExtension.TheVariants.{Short8}
use Rattle.isa.specs.declared.operation.ByteOrder.{ByteOrder}
use Rattle.isa.specs.declared.operation.ByteOrder.TheVariants.{ToLittle, ToBig, Swapped}
use Rattle.isa.specs.declared.operation.SwapWidth.{SwapWidth}
use Rattle.isa.specs.declared.operation.SwapWidth.TheVariants.{Swap16}
use Rattle.isa.specs.declared.operation.Test.{Test}
use Rattle.isa.specs.declared.operation.Test.TheVariants.{Eq}
use Rattle.isa.specs.declared.operation.AtomicOp.{AtomicOp}
use Rattle.isa.specs.declared.operation.AtomicOp.TheVariants.{AtomicAdd}
use Rattle.isa.specs.declared.operation.Size.{Size}
use Rattle.isa.specs.declared.operation.Size.TheVariants.{U8}
use Rattle.isa.specs.declared.operation.SourceOperand.TheVariants.{Imm, Reg}
use Rattle.isa.specs.declared.operation.Register.{Register}
use Rattle.isa.specs.declared.operation.Register.TheVariants.{R0}
use Rattle.ebpf_decode.specs.declared.slot.CodeSlot.{CodeSlot}
use Rattle.ebpf_decode.specs.declared.fault.SlotFault.{SlotFault}
use Rattle.ebpf_decode.specs.declared.fault.SlotFault.TheVariants.{FieldNotZero}
use Rattle.ebpf_decode.specs.declared.wide.WideHead.{WideHead}
use Rattle.ebpf_decode.specs.declared.wide.SlotReading.{SlotReading}
use Rattle.ebpf_decode.specs.declared.wide.SlotReading.TheVariants.{Whole, Head}
use Rattle.ebpf_decode.specs.declared.insn.Insn.{Insn}
use Rattle.ebpf_decode.specs.declared.insn.Insn.TheVariants.{Alu, Neg, Movsx, Movsx32, End, Ja, Ja32, JumpIf, Ldx, Ldxs, St, Stx, AtomicUpdate, Lddw, Ldmap, Ldval, CallHelper, Exit}
use Rattle.ebpf_decode.specs.declared.version.Version.{Version}
use Rattle.ebpf_decode.specs.SlotForm.{same_slot}
use Rattle.isa.specs.InstructionCodes.{register_number}
use Rattle.ebpf_decode.specs.InstructionEncoding.{slot_of, more_slots_of}
use Rattle.ebpf_decode.specs.InstructionReading.{◌>>=◌, register_at, alu_op_at, extension_at, short_extension_at, order_at, swap_width_at, test_at, size_at, extension_size_at, width_at, atomic_op_at, source_at, exactly, binary_at, neg_at, movsx_at, byte_swap_at, arithmetic_at, conditional_at, call_at, jump_at, ldx_at, ldxs_at, st_at, stx_at, atomic_at, load_at, store_immediate_at, store_at, head_at, mode_of, whole, begun, reading_in, step_at}
use Rattle.ebpf_decode.proofs.shared.SlotLaws.{equal_from_same, same_itself}

-- ---- what is read is encoded so

-- an outcome that is no instruction but the one that this slot encodes
pub record Reads (s : CodeSlot) (outcome : Result Insn SlotFault) : Type 0 where
  pub encoded : (insn : Insn) → outcome ≡ Ok insn → (s ≡ slot_of insn) × (more_slots_of insn ≡ [])

reads_bind : {A : Type 0} (s : CodeSlot) (r : Result A SlotFault) (f : A → Result Insn SlotFault) → ((x : A) → Reads s (f x)) → Reads s (r >>= f)
reads_bind s (Ok x) f h = h x
reads_bind s (Err e) f h = record { encoded = λ insn eq. absurd cc }

reads_if : (s : CodeSlot) (b : Bool) (x y : Result Insn SlotFault) → Reads s x → Reads s y → Reads s (cond b x y)
reads_if s true x y p q = p
reads_if s false x y p q = q

reads_err : (s : CodeSlot) (e : SlotFault) → Reads s (Err e)
reads_err s e = record { encoded = λ insn eq. absurd cc }

abbrev done : Insn → Result Insn SlotFault
done insn = Ok insn

only_exact : (s : CodeSlot) (insn other : Insn) (b : Bool) → same_slot s (slot_of insn) ≡ b → more_slots_of insn ≡ [] → cond b (done insn) (Err FieldNotZero) ≡ Ok other → (s ≡ slot_of other) × (more_slots_of other ≡ [])
only_exact s insn other true same none e = let it : insn ≡ other = cc in rw (← it) (equal_from_same s (slot_of insn) same, none)
only_exact s insn other false same none e = absurd cc

reads_exactly : (s : CodeSlot) (insn : Insn) → more_slots_of insn ≡ [] → Reads s (exactly s insn)
unfolding exactly
reads_exactly s insn none = record { encoded = λ other e. only_exact s insn other (same_slot s (slot_of insn)) refl none e }

binary_reads : (width : Width) (s : CodeSlot) → Reads s (binary_at width s)
unfolding binary_at more_slots_of
binary_reads width s = reads_bind s (alu_op_at _ s.offset) _ (λ op. reads_bind s (register_at s.dst) _ (λ dst. reads_bind s (source_at s) _ (λ source. reads_exactly s (Alu width op dst source) refl)))

neg_reads : (width : Width) (s : CodeSlot) → Reads s (neg_at width s)
unfolding neg_at more_slots_of
neg_reads width s = reads_bind s (register_at s.dst) _ (λ dst. reads_exactly s (Neg width dst) refl)

movsx_reads : (width : Width) (s : CodeSlot) → Reads s (movsx_at width s)
unfolding movsx_at more_slots_of
movsx_reads Bits64 s = reads_bind s (extension_at s.offset) _ (λ e. reads_bind s (register_at s.dst) _ (λ dst. reads_bind s (register_at s.src) _ (λ src. reads_exactly s (Movsx e dst src) refl)))
movsx_reads Bits32 s = reads_bind s (short_extension_at s.offset) _ (λ e. reads_bind s (register_at s.dst) _ (λ dst. reads_bind s (register_at s.src) _ (λ src. reads_exactly s (Movsx32 e dst src) refl)))

end_reads : (s : CodeSlot) → Reads s (byte_swap_at s)
unfolding byte_swap_at more_slots_of
end_reads s = reads_bind s (order_at s.opcode) _ (λ order. reads_bind s (swap_width_at s.immediate) _ (λ width. reads_bind s (register_at s.dst) _ (λ dst. reads_exactly s (End order width dst) refl)))

arithmetic_reads : (width : Width) (s : CodeSlot) → Reads s (arithmetic_at width s)
unfolding arithmetic_at
arithmetic_reads width s = reads_if s _ _ _ (neg_reads width s) (reads_if s _ _ _ (end_reads s) (reads_if s _ _ _ (movsx_reads width s) (binary_reads width s)))

conditional_reads : (width : Width) (s : CodeSlot) → Reads s (conditional_at width s)
unfolding conditional_at more_slots_of
conditional_reads width s = reads_bind s (test_at _) _ (λ test. reads_bind s (register_at s.dst) _ (λ dst. reads_bind s (source_at s) _ (λ source. reads_exactly s (JumpIf width test dst source s.offset) refl)))

call_reads : (s : CodeSlot) → Reads s (call_at s)
unfolding call_at more_slots_of
call_reads s = reads_if s _ _ _ (reads_exactly s (CallHelper s.immediate) refl) (reads_if s _ _ _ (reads_err s _) (reads_err s _))

jump_reads : (width : Width) (s : CodeSlot) → Reads s (jump_at width s)
unfolding jump_at more_slots_of
jump_reads width s = reads_if s _ _ _ (reads_exactly s (Ja s.offset) refl) (reads_if s _ _ _ (reads_exactly s (Ja32 s.immediate) refl) (reads_if s _ _ _ (call_reads s) (reads_if s _ _ _ (reads_exactly s Exit refl) (conditional_reads width s))))

ldx_reads : (s : CodeSlot) → Reads s (ldx_at s)
unfolding ldx_at more_slots_of
ldx_reads s = reads_bind s (size_at _) _ (λ size. reads_bind s (register_at s.dst) _ (λ dst. reads_bind s (register_at s.src) _ (λ src. reads_exactly s (Ldx size dst src s.offset) refl)))

ldxs_reads : (s : CodeSlot) → Reads s (ldxs_at s)
unfolding ldxs_at more_slots_of
ldxs_reads s = reads_bind s (extension_size_at _) _ (λ e. reads_bind s (register_at s.dst) _ (λ dst. reads_bind s (register_at s.src) _ (λ src. reads_exactly s (Ldxs e dst src s.offset) refl)))

st_reads : (s : CodeSlot) → Reads s (st_at s)
unfolding st_at more_slots_of
st_reads s = reads_bind s (size_at _) _ (λ size. reads_bind s (register_at s.dst) _ (λ dst. reads_exactly s (St size dst s.offset s.immediate) refl))

stx_reads : (s : CodeSlot) → Reads s (stx_at s)
unfolding stx_at more_slots_of
stx_reads s = reads_bind s (size_at _) _ (λ size. reads_bind s (register_at s.dst) _ (λ dst. reads_bind s (register_at s.src) _ (λ src. reads_exactly s (Stx size dst src s.offset) refl)))

atomic_reads : (s : CodeSlot) → Reads s (atomic_at s)
unfolding atomic_at more_slots_of
atomic_reads s = reads_bind s (width_at _) _ (λ width. reads_bind s (atomic_op_at s.immediate) _ (λ op. reads_bind s (register_at s.dst) _ (λ dst. reads_bind s (register_at s.src) _ (λ src. reads_exactly s (AtomicUpdate width op dst src s.offset) refl))))

load_reads : (mode : Option Mode) (s : CodeSlot) → Reads s (load_at mode s)
unfolding load_at
load_reads (Some modes.Mem) s = ldx_reads s
load_reads (Some modes.MemSx) s = ldxs_reads s
load_reads mode s = reads_err s _

store_immediate_reads : (mode : Option Mode) (s : CodeSlot) → Reads s (store_immediate_at mode s)
unfolding store_immediate_at
store_immediate_reads (Some modes.Mem) s = st_reads s
store_immediate_reads mode s = reads_err s _

store_reads : (mode : Option Mode) (s : CodeSlot) → Reads s (store_at mode s)
unfolding store_at
store_reads (Some modes.Mem) s = stx_reads s
store_reads (Some modes.Atomic) s = atomic_reads s
store_reads mode s = reads_err s _

abbrev one_slot : SlotReading → Result SlotReading SlotFault
one_slot reading = Ok reading

pub whole_is : (read : Result Insn SlotFault) (insn : Insn) → whole read ≡ one_slot (Whole insn) → read ≡ Ok insn
whole_is (Ok read) insn e = let same : read ≡ insn = cc in rw same refl
whole_is (Err fault) insn e = absurd cc

pub whole_is_no_head : (read : Result Insn SlotFault) (head : WideHead) → whole read ≡ one_slot (Head head) → ⊥
whole_is_no_head (Ok read) head e = cc
whole_is_no_head (Err fault) head e = cc

begun_is : (read : Result WideHead SlotFault) (head : WideHead) → begun read ≡ one_slot (Head head) → read ≡ Ok head
begun_is (Ok read) head e = let same : read ≡ head = cc in rw same refl
begun_is (Err fault) head e = absurd cc

begun_is_not_whole : (read : Result WideHead SlotFault) (insn : Insn) → begun read ≡ one_slot (Whole insn) → ⊥
begun_is_not_whole (Ok read) insn e = cc
begun_is_not_whole (Err fault) insn e = cc

-- an instruction that ends with this slot is the one that the slot encodes
pub instruction_reads : (version : Version) (c : Class) (s : CodeSlot) (insn : Insn) → reading_in version c s ≡ Ok (Whole insn) → (s ≡ slot_of insn) × (more_slots_of insn ≡ [])
unfolding reading_in
instruction_reads version classes.Ld s insn e = absurd (begun_is_not_whole (head_at version s) insn e)
instruction_reads version classes.Ldx s insn e = (load_reads (mode_of s) s).encoded insn (whole_is _ insn e)
instruction_reads version classes.St s insn e = (store_immediate_reads (mode_of s) s).encoded insn (whole_is _ insn e)
instruction_reads version classes.Stx s insn e = (store_reads (mode_of s) s).encoded insn (whole_is _ insn e)
instruction_reads version classes.Alu s insn e = (arithmetic_reads Bits32 s).encoded insn (whole_is _ insn e)
instruction_reads version classes.Alu64 s insn e = (arithmetic_reads Bits64 s).encoded insn (whole_is _ insn e)
instruction_reads version classes.Jmp s insn e = (jump_reads Bits64 s).encoded insn (whole_is _ insn e)
instruction_reads version classes.Jmp32 s insn e = (jump_reads Bits32 s).encoded insn (whole_is _ insn e)

-- only a slot of class LD begins an instruction of two
pub head_is_read : (version : Version) (c : Class) (s : CodeSlot) (head : WideHead) → reading_in version c s ≡ Ok (Head head) → head_at version s ≡ Ok head
unfolding reading_in
head_is_read version classes.Ld s head e = begun_is (head_at version s) head e
head_is_read version classes.Ldx s head e = absurd (whole_is_no_head _ head e)
head_is_read version classes.St s head e = absurd (whole_is_no_head _ head e)
head_is_read version classes.Stx s head e = absurd (whole_is_no_head _ head e)
head_is_read version classes.Alu s head e = absurd (whole_is_no_head _ head e)
head_is_read version classes.Alu64 s head e = absurd (whole_is_no_head _ head e)
head_is_read version classes.Jmp s head e = absurd (whole_is_no_head _ head e)
head_is_read version classes.Jmp32 s head e = absurd (whole_is_no_head _ head e)

-- ---- what is encoded so is read

pub register_again : (r : Register) → register_at (register_number r) ≡ Ok r
unfolding register_at
register_again R0 = refl
register_again r = refl

exactly_again : (insn : Insn) → exactly (slot_of insn) insn ≡ Ok insn
unfolding exactly
exactly_again insn = rw (same_itself (slot_of insn)) refl

-- the first slot is read at once as the whole instruction
abbrev pub IsReadWhole : Insn → Type 0
IsReadWhole insn = (version : Version) (place : ℕ) → step_at version place None (slot_of insn) ≡ Ok (Whole insn)

alu_imm_again : (width : Width) (op : AluOp) (dst : Register) (value : ℤ) → IsReadWhole (Alu width op dst (Imm value))
unfolding step_at reading_in arithmetic_at binary_at alu_op_at source_at slot_of
alu_imm_again Bits32 Add dst value = λ version place. rw (register_again dst, exactly_again (Alu Bits32 Add dst (Imm value))) refl
alu_imm_again Bits64 Add dst value = λ version place. rw (register_again dst, exactly_again (Alu Bits64 Add dst (Imm value))) refl
alu_imm_again width op dst value = λ version place. rw (register_again dst, exactly_again (Alu width op dst (Imm value))) refl

alu_reg_again : (width : Width) (op : AluOp) (dst src : Register) → IsReadWhole (Alu width op dst (Reg src))
unfolding step_at reading_in arithmetic_at binary_at alu_op_at source_at slot_of
alu_reg_again Bits32 Add dst src = λ version place. rw (register_again dst, register_again src, exactly_again (Alu Bits32 Add dst (Reg src))) refl
alu_reg_again Bits64 Add dst src = λ version place. rw (register_again dst, register_again src, exactly_again (Alu Bits64 Add dst (Reg src))) refl
alu_reg_again width op dst src = λ version place. rw (register_again dst, register_again src, exactly_again (Alu width op dst (Reg src))) refl

neg_again : (width : Width) (dst : Register) → IsReadWhole (Neg width dst)
unfolding step_at reading_in arithmetic_at neg_at slot_of
neg_again Bits32 dst = λ version place. rw (register_again dst, exactly_again (Neg Bits32 dst)) refl
neg_again Bits64 dst = λ version place. rw (register_again dst, exactly_again (Neg Bits64 dst)) refl

movsx_again : (extension : Extension) (dst src : Register) → IsReadWhole (Movsx extension dst src)
unfolding step_at reading_in arithmetic_at movsx_at extension_at slot_of
movsx_again I8 dst src = λ version place. rw (register_again dst, register_again src, exactly_again (Movsx I8 dst src)) refl
movsx_again extension dst src = λ version place. rw (register_again dst, register_again src, exactly_again (Movsx extension dst src)) refl

movsx32_again : (extension : ShortExtension) (dst src : Register) → IsReadWhole (Movsx32 extension dst src)
unfolding step_at reading_in arithmetic_at movsx_at short_extension_at slot_of
movsx32_again Short8 dst src = λ version place. rw (register_again dst, register_again src, exactly_again (Movsx32 Short8 dst src)) refl
movsx32_again extension dst src = λ version place. rw (register_again dst, register_again src, exactly_again (Movsx32 extension dst src)) refl

end_again : (order : ByteOrder) (width : SwapWidth) (dst : Register) → IsReadWhole (End order width dst)
unfolding step_at reading_in arithmetic_at byte_swap_at order_at swap_width_at slot_of
end_again ToLittle Swap16 dst = λ version place. rw (register_again dst, exactly_again (End ToLittle Swap16 dst)) refl
end_again ToBig Swap16 dst = λ version place. rw (register_again dst, exactly_again (End ToBig Swap16 dst)) refl
end_again Swapped Swap16 dst = λ version place. rw (register_again dst, exactly_again (End Swapped Swap16 dst)) refl
end_again order width dst = λ version place. rw (register_again dst, exactly_again (End order width dst)) refl

ja_again : (distance : ℤ) → IsReadWhole (Ja distance)
unfolding step_at reading_in jump_at slot_of
ja_again distance = λ version place. rw (exactly_again (Ja distance)) refl

ja32_again : (distance : ℤ) → IsReadWhole (Ja32 distance)
unfolding step_at reading_in jump_at slot_of
ja32_again distance = λ version place. rw (exactly_again (Ja32 distance)) refl

jump_imm_again : (width : Width) (test : Test) (dst : Register) (value distance : ℤ) → IsReadWhole (JumpIf width test dst (Imm value) distance)
unfolding step_at reading_in jump_at conditional_at test_at source_at slot_of
jump_imm_again Bits32 Eq dst value distance = λ version place. rw (register_again dst, exactly_again (JumpIf Bits32 Eq dst (Imm value) distance)) refl
jump_imm_again Bits64 Eq dst value distance = λ version place. rw (register_again dst, exactly_again (JumpIf Bits64 Eq dst (Imm value) distance)) refl
jump_imm_again width test dst value distance = λ version place. rw (register_again dst, exactly_again (JumpIf width test dst (Imm value) distance)) refl

jump_reg_again : (width : Width) (test : Test) (dst src : Register) (distance : ℤ) → IsReadWhole (JumpIf width test dst (Reg src) distance)
unfolding step_at reading_in jump_at conditional_at test_at source_at slot_of
jump_reg_again Bits32 Eq dst src distance = λ version place. rw (register_again dst, register_again src, exactly_again (JumpIf Bits32 Eq dst (Reg src) distance)) refl
jump_reg_again Bits64 Eq dst src distance = λ version place. rw (register_again dst, register_again src, exactly_again (JumpIf Bits64 Eq dst (Reg src) distance)) refl
jump_reg_again width test dst src distance = λ version place. rw (register_again dst, register_again src, exactly_again (JumpIf width test dst (Reg src) distance)) refl

ldx_again : (size : Size) (dst src : Register) (offset : ℤ) → IsReadWhole (Ldx size dst src offset)
unfolding step_at reading_in load_at ldx_at size_at slot_of
ldx_again U8 dst src offset = λ version place. rw (register_again dst, register_again src, exactly_again (Ldx U8 dst src offset)) refl
ldx_again size dst src offset = λ version place. rw (register_again dst, register_again src, exactly_again (Ldx size dst src offset)) refl

ldxs_again : (extension : Extension) (dst src : Register) (offset : ℤ) → IsReadWhole (Ldxs extension dst src offset)
unfolding step_at reading_in load_at ldxs_at extension_size_at slot_of
ldxs_again I8 dst src offset = λ version place. rw (register_again dst, register_again src, exactly_again (Ldxs I8 dst src offset)) refl
ldxs_again extension dst src offset = λ version place. rw (register_again dst, register_again src, exactly_again (Ldxs extension dst src offset)) refl

st_again : (size : Size) (dst : Register) (offset immediate : ℤ) → IsReadWhole (St size dst offset immediate)
unfolding step_at reading_in store_immediate_at st_at size_at slot_of
st_again U8 dst offset immediate = λ version place. rw (register_again dst, exactly_again (St U8 dst offset immediate)) refl
st_again size dst offset immediate = λ version place. rw (register_again dst, exactly_again (St size dst offset immediate)) refl

stx_again : (size : Size) (dst src : Register) (offset : ℤ) → IsReadWhole (Stx size dst src offset)
unfolding step_at reading_in store_at stx_at size_at slot_of
stx_again U8 dst src offset = λ version place. rw (register_again dst, register_again src, exactly_again (Stx U8 dst src offset)) refl
stx_again size dst src offset = λ version place. rw (register_again dst, register_again src, exactly_again (Stx size dst src offset)) refl

atomic_again : (width : Width) (op : AtomicOp) (dst src : Register) (offset : ℤ) → IsReadWhole (AtomicUpdate width op dst src offset)
unfolding step_at reading_in store_at atomic_at width_at atomic_op_at slot_of
atomic_again Bits32 AtomicAdd dst src offset = λ version place. rw (register_again dst, register_again src, exactly_again (AtomicUpdate Bits32 AtomicAdd dst src offset)) refl
atomic_again Bits64 AtomicAdd dst src offset = λ version place. rw (register_again dst, register_again src, exactly_again (AtomicUpdate Bits64 AtomicAdd dst src offset)) refl
atomic_again width op dst src offset = λ version place. rw (register_again dst, register_again src, exactly_again (AtomicUpdate width op dst src offset)) refl

call_again : (helper : ℤ) → IsReadWhole (CallHelper helper)
unfolding step_at reading_in jump_at call_at slot_of
call_again helper = λ version place. rw (exactly_again (CallHelper helper)) refl

exit_again : IsReadWhole Exit
unfolding step_at reading_in jump_at slot_of
exit_again = λ version place. rw (exactly_again Exit) refl

pub whole_again : (insn : Insn) → more_slots_of insn ≡ [] → IsReadWhole insn
unfolding more_slots_of
whole_again (Alu width op dst (Imm value)) none = alu_imm_again width op dst value
whole_again (Alu width op dst (Reg src)) none = alu_reg_again width op dst src
whole_again (Neg width dst) none = neg_again width dst
whole_again (Movsx extension dst src) none = movsx_again extension dst src
whole_again (Movsx32 extension dst src) none = movsx32_again extension dst src
whole_again (End order width dst) none = end_again order width dst
whole_again (Ja distance) none = ja_again distance
whole_again (Ja32 distance) none = ja32_again distance
whole_again (JumpIf width test dst (Imm value) distance) none = jump_imm_again width test dst value distance
whole_again (JumpIf width test dst (Reg src) distance) none = jump_reg_again width test dst src distance
whole_again (Ldx size dst src offset) none = ldx_again size dst src offset
whole_again (Ldxs extension dst src offset) none = ldxs_again extension dst src offset
whole_again (St size dst offset immediate) none = st_again size dst offset immediate
whole_again (Stx size dst src offset) none = stx_again size dst src offset
whole_again (AtomicUpdate width op dst src offset) none = atomic_again width op dst src offset
whole_again (CallHelper helper) none = call_again helper
whole_again Exit none = exit_again
whole_again (Lddw dst value) none = absurd cc
whole_again (Ldmap dst map) none = absurd cc
whole_again (Ldval dst map offset) none = absurd cc
