-- What one slot is read as, or its first fault. Within a slot the lower fault comes first: the opcode and the fields that select
-- are tested before the registers, and these before the unused fields.
use Rattle.std.specs.Prelude.{ℕ, ◌+◌, ◌-◌, ◌*◌, ◌^◌, ◌/◌, ◌%◌, Option, Some, None, Result, Ok, Err, Bool, true, false, ℤ, pos, negsuc, List}
use Rattle.std.specs.Prelude.{[]}
use Rattle.std.specs.Prelude.{◌∷◌, ◌++◌, ◌==◌, nat_le, ◌&&◌, not, if◌then◌else◌}
use Rattle.std.specs.List.{find}
use Rattle.std.specs.Int.{w32, cast_unsigned}
use Rattle.std.specs.Option.{ok_or}
use Rattle.std.specs.Ordering.{int_eq}
use Rattle.isa.specs.declared.operation.Width.{Width}
use Rattle.isa.specs.declared.operation.Width.TheVariants.{Bits32, Bits64}
use Rattle.isa.specs.declared.operation.AluOp.{AluOp}
use Rattle.isa.specs.declared.operation.Extension.{Extension}
use Rattle.isa.specs.declared.operation.ShortExtension.{ShortExtension}
use Rattle.isa.specs.declared.operation.ByteOrder.{ByteOrder}
use Rattle.isa.specs.declared.operation.SwapWidth.{SwapWidth}
use Rattle.isa.specs.declared.operation.Test.{Test}
use Rattle.isa.specs.declared.operation.AtomicOp.{AtomicOp}
use Rattle.isa.specs.declared.operation.Size.{Size}
use Rattle.isa.specs.declared.operation.SourceOperand.{SourceOperand}
use Rattle.isa.specs.declared.operation.SourceOperand.TheVariants.{Imm, Reg}
use Rattle.isa.specs.declared.operation.Register.{Register}
use Rattle.ebpf_decode.specs.declared.slot.CodeSlot.{CodeSlot}
use Rattle.ebpf_decode.specs.declared.fault.SlotFault.{SlotFault}
use Rattle.ebpf_decode.specs.declared.fault.SlotFault.TheVariants.{UnknownOpcode, NotInProfile, BadRegister, FieldNotZero, WideCut}
use Rattle.ebpf_decode.specs.declared.fault.DecodeFault.{DecodeFault}
use Rattle.ebpf_decode.specs.declared.fault.DecodeFault.TheVariants as faults
use Rattle.ebpf_decode.specs.declared.wide.WideHead.{WideHead}
use Rattle.ebpf_decode.specs.declared.wide.WideHead.TheVariants.{Number, Map, Value}
use Rattle.ebpf_decode.specs.declared.wide.SlotReading.{SlotReading}
use Rattle.ebpf_decode.specs.declared.wide.SlotReading.TheVariants.{Whole, Head}
use Rattle.ebpf_decode.specs.declared.insn.Insn.{Insn}
use Rattle.ebpf_decode.specs.declared.insn.Insn.TheVariants.{Alu, Neg, Movsx, Movsx32, End, Ja, Ja32, JumpIf, Ldx, Ldxs, St, Stx}
use Rattle.ebpf_decode.specs.declared.insn.Insn.TheVariants.{AtomicUpdate, Lddw, Ldmap, Ldval, CallHelper, Exit}
use Rattle.ebpf_decode.specs.declared.version.Version.{Version}
use Rattle.ebpf_decode.specs.declared.version.Version.TheVariants.{V1, V2}
use Rattle.ebpf_decode.specs.SlotForm.{same_slot}
use Rattle.isa.specs.declared.operation.Class.{Class}
use Rattle.isa.specs.declared.operation.Class.TheVariants as classes
use Rattle.isa.specs.declared.operation.Mode.{Mode}
use Rattle.isa.specs.declared.operation.Mode.TheVariants as modes
use Rattle.isa.specs.Alu.{extension_bits, short_extension_bits}
use Rattle.isa.specs.Swap.{swap_bits}
use Rattle.isa.specs.InstructionCodes.{register_number, register_of, class_of_opcode, alu_op_of, end_code, extensions, short_extensions}
use Rattle.isa.specs.InstructionCodes.{orders, swap_widths, test_of, mode_of_opcode, size_code, size_of_code, extension_size}
use Rattle.isa.specs.InstructionCodes.{width_of_size_code, atomic_op_of}
use Rattle.ebpf_decode.specs.InstructionEncoding.{slot, slot_of, wide_opcode, neg_opcode, movsx_opcode, order_opcode, ja_opcode}
use Rattle.ebpf_decode.specs.InstructionEncoding.{ja32_opcode, call_opcode, exit_opcode}

infixl 10 ◌>>=◌
abbrev pub ◌>>=◌ : {A B E : Type 0} → Result A E → (A → Result B E) → Result B E
(Ok x) >>= f = f x
(Err e) >>= f = Err e

-- ---- the parts of an opcode

abbrev pub class_of : CodeSlot → Class
class_of s = class_of_opcode s.opcode

abbrev pub source_bit_of : CodeSlot → ℕ
source_bit_of s = s.opcode / 8 % 2

abbrev pub operation_of_slot : CodeSlot → ℕ
operation_of_slot s = s.opcode / 16

abbrev pub size_of : CodeSlot → ℕ
size_of s = s.opcode / 8 % 4

abbrev pub mode_of : CodeSlot → Option Mode
mode_of s = mode_of_opcode s.opcode

-- ---- what a number names

unfoldable pub register_at : ℕ → Result Register SlotFault
register_at number = ok_or (register_of number) BadRegister

unfoldable pub alu_op_at : ℕ → ℤ → Result AluOp SlotFault
alu_op_at code offset = ok_or (alu_op_of code offset) UnknownOpcode

unfoldable pub extension_at : ℤ → Result Extension SlotFault
extension_at offset = ok_or (find (λ e. int_eq (pos (extension_bits e)) offset) extensions) UnknownOpcode

unfoldable pub short_extension_at : ℤ → Result ShortExtension SlotFault
short_extension_at offset = ok_or (find (λ e. int_eq (pos (short_extension_bits e)) offset) short_extensions) UnknownOpcode

unfoldable pub order_at : ℕ → Result ByteOrder SlotFault
order_at opcode = ok_or (find (λ o. order_opcode o == opcode) orders) UnknownOpcode

unfoldable pub swap_width_at : ℤ → Result SwapWidth SlotFault
swap_width_at immediate = ok_or (find (λ w. int_eq (pos (swap_bits w)) immediate) swap_widths) UnknownOpcode

unfoldable pub test_at : ℕ → Result Test SlotFault
test_at code = ok_or (test_of code) UnknownOpcode

unfoldable pub size_at : ℕ → Result Size SlotFault
size_at code = ok_or (size_of_code code) UnknownOpcode

unfoldable pub extension_size_at : ℕ → Result Extension SlotFault
extension_size_at code = ok_or (find (λ e. size_code (extension_size e) == code) extensions) UnknownOpcode

unfoldable pub width_at : ℕ → Result Width SlotFault
width_at code = ok_or (width_of_size_code code) UnknownOpcode

unfoldable pub atomic_op_at : ℤ → Result AtomicOp SlotFault
atomic_op_at (pos code) = ok_or (atomic_op_of code) UnknownOpcode
atomic_op_at (negsuc n) = Err UnknownOpcode

unfoldable pub source_at : CodeSlot → Result SourceOperand SlotFault
source_at s =
    if source_bit_of s == 0 then Ok (Imm s.immediate) else do
      src ← register_at s.src
      Ok (Reg src)

-- The instruction, where the slot is its encoding. It differs at most in fields that the instruction does not use.
unfoldable pub exactly : CodeSlot → Insn → Result Insn SlotFault
exactly s insn = if same_slot s (slot_of insn) then Ok insn else Err FieldNotZero

-- ---- arithmetic

unfoldable pub binary_at : Width → CodeSlot → Result Insn SlotFault
binary_at width s = do
  op ← alu_op_at (operation_of_slot s) s.offset
  dst ← register_at s.dst
  source ← source_at s
  exactly s (Alu width op dst source)

unfoldable pub neg_at : Width → CodeSlot → Result Insn SlotFault
neg_at width s = do
  dst ← register_at s.dst
  exactly s (Neg width dst)

unfoldable pub movsx_at : Width → CodeSlot → Result Insn SlotFault
movsx_at Bits64 s = do
  extension ← extension_at s.offset
  dst ← register_at s.dst
  src ← register_at s.src
  exactly s (Movsx extension dst src)
movsx_at Bits32 s = do
  extension ← short_extension_at s.offset
  dst ← register_at s.dst
  src ← register_at s.src
  exactly s (Movsx32 extension dst src)

unfoldable pub byte_swap_at : CodeSlot → Result Insn SlotFault
byte_swap_at s = do
  order ← order_at s.opcode
  width ← swap_width_at s.immediate
  dst ← register_at s.dst
  exactly s (End order width dst)

-- classes ALU and ALU64: a move between registers with an offset is a sign-extending one
unfoldable pub arithmetic_at : Width → CodeSlot → Result Insn SlotFault
arithmetic_at width s =
    if s.opcode == neg_opcode width then neg_at width s else
    if operation_of_slot s == end_code then byte_swap_at s else
    if (s.opcode == movsx_opcode width) && not (int_eq s.offset (pos 0)) then movsx_at width s else binary_at width s

-- ---- jumps

unfoldable pub conditional_at : Width → CodeSlot → Result Insn SlotFault
conditional_at width s = do
  test ← test_at (operation_of_slot s)
  dst ← register_at s.dst
  source ← source_at s
  exactly s (JumpIf width test dst source s.offset)

-- source 0 is a helper; 1 and 2 are program-local and kernel functions, which images may not call
unfoldable pub call_at : CodeSlot → Result Insn SlotFault
call_at s =
    if s.src == 0 then exactly s (CallHelper s.immediate) else
    if nat_le s.src 2 then Err NotInProfile else Err UnknownOpcode

-- classes JMP and JMP32
unfoldable pub jump_at : Width → CodeSlot → Result Insn SlotFault
jump_at width s =
    if s.opcode == ja_opcode then exactly s (Ja s.offset) else
    if s.opcode == ja32_opcode then exactly s (Ja32 s.immediate) else
    if s.opcode == call_opcode then call_at s else
    if s.opcode == exit_opcode then exactly s Exit else conditional_at width s

-- ---- memory

unfoldable pub ldx_at : CodeSlot → Result Insn SlotFault
ldx_at s = do
  size ← size_at (size_of s)
  dst ← register_at s.dst
  src ← register_at s.src
  exactly s (Ldx size dst src s.offset)

unfoldable pub ldxs_at : CodeSlot → Result Insn SlotFault
ldxs_at s = do
  extension ← extension_size_at (size_of s)
  dst ← register_at s.dst
  src ← register_at s.src
  exactly s (Ldxs extension dst src s.offset)

unfoldable pub st_at : CodeSlot → Result Insn SlotFault
st_at s = do
  size ← size_at (size_of s)
  dst ← register_at s.dst
  exactly s (St size dst s.offset s.immediate)

unfoldable pub stx_at : CodeSlot → Result Insn SlotFault
stx_at s = do
  size ← size_at (size_of s)
  dst ← register_at s.dst
  src ← register_at s.src
  exactly s (Stx size dst src s.offset)

unfoldable pub atomic_at : CodeSlot → Result Insn SlotFault
atomic_at s = do
  width ← width_at (size_of s)
  op ← atomic_op_at s.immediate
  dst ← register_at s.dst
  src ← register_at s.src
  exactly s (AtomicUpdate width op dst src s.offset)

-- classes LDX, ST and STX, by the mode
unfoldable pub load_at : Option Mode → CodeSlot → Result Insn SlotFault
load_at (Some modes.Mem) s = ldx_at s
load_at (Some modes.MemSx) s = ldxs_at s
load_at mode s = Err UnknownOpcode

unfoldable pub store_immediate_at : Option Mode → CodeSlot → Result Insn SlotFault
store_immediate_at (Some modes.Mem) s = st_at s
store_immediate_at mode s = Err UnknownOpcode

unfoldable pub store_at : Option Mode → CodeSlot → Result Insn SlotFault
store_at (Some modes.Mem) s = stx_at s
store_at (Some modes.Atomic) s = atomic_at s
store_at mode s = Err UnknownOpcode

-- ---- wide instructions, of two slots

-- the first slot of a wide instruction: what is known before the second
unfoldable pub head_slot : WideHead → CodeSlot
head_slot (Number dst low) = slot wide_opcode (register_number dst) 0 (pos 0) low
head_slot (Map dst map) = slot wide_opcode (register_number dst) 1 (pos 0) map
head_slot (Value dst map) = slot wide_opcode (register_number dst) 2 (pos 0) map

unfoldable pub exact_head : CodeSlot → WideHead → Result WideHead SlotFault
exact_head s head = if same_slot s (head_slot head) then Ok head else Err FieldNotZero

-- legacy loads from packets (RFC 9669, section 5.5), in words, half words and bytes
abbrev pub is_legacy_mode : Option Mode → Bool
is_legacy_mode (Some modes.Abs) = true
is_legacy_mode (Some modes.Ind) = true
is_legacy_mode mode = false

abbrev pub is_legacy : CodeSlot → Bool
is_legacy s = is_legacy_mode (mode_of s) && not (size_of s == 3)

unfoldable pub number_head_at : CodeSlot → Result WideHead SlotFault
number_head_at s = do
  dst ← register_at s.dst
  exact_head s (Number dst s.immediate)

unfoldable pub map_head_at : CodeSlot → Result WideHead SlotFault
map_head_at s = do
  dst ← register_at s.dst
  exact_head s (Map dst s.immediate)

-- in version 2 alone
unfoldable pub value_head_at : Version → CodeSlot → Result WideHead SlotFault
value_head_at V1 s = Err NotInProfile
value_head_at V2 s = do
  dst ← register_at s.dst
  exact_head s (Value dst s.immediate)

-- class LD: source 0 is a number, 1 a map of the image, 2 an address in a map's value; 3 to 6 are forms that images may not have
unfoldable pub head_at : Version → CodeSlot → Result WideHead SlotFault
head_at version s =
    if s.opcode == wide_opcode then
    (if s.src == 0 then number_head_at s else
    if s.src == 1 then map_head_at s else
    if s.src == 2 then value_head_at version s else
    if nat_le s.src 6 then Err NotInProfile else Err UnknownOpcode) else
    if is_legacy s then Err NotInProfile else Err UnknownOpcode

-- the instruction of a first and a second slot
unfoldable pub wide_insn : WideHead → CodeSlot → Insn
wide_insn (Number dst low) s = Lddw dst (cast_unsigned w32 s.immediate * 2 ^ 32 + cast_unsigned w32 low)
wide_insn (Map dst map) s = Ldmap dst map
wide_insn (Value dst map) s = Ldval dst map (cast_unsigned w32 s.immediate)

-- the second slot has zeros, except the upper half of a number, or an offset in a value
unfoldable pub second_slot : WideHead → CodeSlot → CodeSlot
second_slot (Number dst low) s = slot 0 0 0 (pos 0) s.immediate
second_slot (Map dst map) s = slot 0 0 0 (pos 0) (pos 0)
second_slot (Value dst map) s = slot 0 0 0 (pos 0) s.immediate

unfoldable pub second_at : WideHead → CodeSlot → Result Insn SlotFault
second_at head s = if same_slot s (second_slot head s) then Ok (wide_insn head s) else Err FieldNotZero

-- ---- one slot

-- an instruction that ends with its first slot
abbrev pub whole : Result Insn SlotFault → Result SlotReading SlotFault
whole (Ok insn) = Ok (Whole insn)
whole (Err fault) = Err fault

-- an instruction that waits for its second slot
abbrev pub begun : Result WideHead SlotFault → Result SlotReading SlotFault
begun (Ok head) = Ok (Head head)
begun (Err fault) = Err fault

-- a slot of this class
unfoldable pub reading_in : Version → Class → CodeSlot → Result SlotReading SlotFault
reading_in version classes.Ld s = begun (head_at version s)
reading_in version classes.Ldx s = whole (load_at (mode_of s) s)
reading_in version classes.St s = whole (store_immediate_at (mode_of s) s)
reading_in version classes.Stx s = whole (store_at (mode_of s) s)
reading_in version classes.Alu s = whole (arithmetic_at Bits32 s)
reading_in version classes.Alu64 s = whole (arithmetic_at Bits64 s)
reading_in version classes.Jmp s = whole (jump_at Bits64 s)
reading_in version classes.Jmp32 s = whole (jump_at Bits32 s)

-- ---- all slots

abbrev pub decode_fault_at : ℕ → SlotFault → DecodeFault
decode_fault_at place UnknownOpcode = faults.UnknownOpcode place
decode_fault_at place NotInProfile = faults.NotInProfile place
decode_fault_at place BadRegister = faults.BadRegister place
decode_fault_at place FieldNotZero = faults.FieldNotZero place
decode_fault_at place WideCut = faults.WideCut place

-- a slot's outcome, with its place in the fault
abbrev pub at_slot : {A : Type 0} → ℕ → Result A SlotFault → Result A DecodeFault
at_slot place (Ok x) = Ok x
at_slot place (Err fault) = Err (decode_fault_at place fault)

-- what one slot returns, after the head of a wide instruction or nothing; a fault of a wide instruction names its first slot
unfoldable pub step_at : Version → ℕ → Option WideHead → CodeSlot → Result SlotReading DecodeFault
step_at version place None s = at_slot place (reading_in version (class_of s) s)
step_at version place (Some head) s = at_slot (place - 1) (whole (second_at head s))

abbrev pub pending_of : SlotReading → Option WideHead
pending_of (Whole insn) = None
pending_of (Head head) = Some head

abbrev pub finished_by : SlotReading → List Insn
finished_by (Whole insn) = insn ∷ []
finished_by (Head head) = []

-- the instructions of the slots from a place on
unfoldable pub code_from : Version → ℕ → Option WideHead → List CodeSlot → Result (List Insn) DecodeFault
code_from version place None [] = Ok []
code_from version place (Some head) [] = Err (faults.WideCut (place - 1))
code_from version place pending (s ∷ rest) = do
  reading ← step_at version place pending s
  others ← code_from version (place + 1) (pending_of reading) rest
  Ok (finished_by reading ++ others)
