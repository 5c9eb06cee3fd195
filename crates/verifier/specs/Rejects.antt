-- Which reject is that of a fault below, and the numbers with which rejects are printed.
use Rattle.std.specs.Prelude.{ℕ, Option, Some, None}
use Rattle.faults.specs.declared.fields.Fields.{Fields}
use Rattle.faults.specs.declared.fields.Fields.TheVariants as fields
use Rattle.isa.specs.InstructionCodes.{register_number}
use Rattle.image_shape.specs.declared.fault.ShapeFault.{ShapeFault}
use Rattle.image_shape.specs.declared.fault.ShapeFault.TheVariants as shape
use Rattle.abstract_state.specs.declared.broken_rule.BrokenRule.{BrokenRule}
use Rattle.abstract_state.specs.declared.broken_rule.BrokenRule.TheVariants as rule
use Rattle.verifier.specs.declared.reject.Reject.{Reject}
use Rattle.verifier.specs.declared.reject.Reject.TheVariants.{JumpBackward, JumpOutside, JumpIntoWide, FallsOff, Unreachable, UnsetRegister}
use Rattle.verifier.specs.declared.reject.Reject.TheVariants.{WrongKind, PacketBounds, StackBounds, StackUnset, ValueBounds, Misaligned}
use Rattle.verifier.specs.declared.reject.Reject.TheVariants.{ContextAccess, ReadOnlyFp, UnknownHelper, BadArgument, PointerLeak}
use Rattle.verifier.specs.declared.reject.Reject.TheVariants.{UnknownMap, NotArrayMap, Memory}

abbrev pub reject_of_shape : ShapeFault → Reject
reject_of_shape (shape.JumpBackward slot) = JumpBackward slot
reject_of_shape (shape.JumpOutside slot) = JumpOutside slot
reject_of_shape (shape.JumpIntoWide slot) = JumpIntoWide slot
reject_of_shape (shape.FallsOff slot) = FallsOff slot
reject_of_shape (shape.Unreachable slot) = Unreachable slot

abbrev pub reject_of_rule : ℕ → BrokenRule → Reject
reject_of_rule slot (rule.UnsetRegister register) = UnsetRegister slot (register_number register)
reject_of_rule slot (rule.WrongKind register) = WrongKind slot (register_number register)
reject_of_rule slot rule.PacketBounds = PacketBounds slot
reject_of_rule slot rule.StackBounds = StackBounds slot
reject_of_rule slot rule.StackUnset = StackUnset slot
reject_of_rule slot rule.ValueBounds = ValueBounds slot
reject_of_rule slot rule.Misaligned = Misaligned slot
reject_of_rule slot rule.ContextAccess = ContextAccess slot
reject_of_rule slot rule.ReadOnlyFp = ReadOnlyFp slot
reject_of_rule slot rule.UnknownHelper = UnknownHelper slot
reject_of_rule slot (rule.BadArgument register) = BadArgument slot (register_number register)
reject_of_rule slot rule.PointerLeak = PointerLeak slot
reject_of_rule slot rule.UnknownMap = UnknownMap slot
reject_of_rule slot rule.NotArrayMap = NotArrayMap slot

abbrev pub reject_number : Reject → ℕ
reject_number (JumpBackward slot) = 30
reject_number (JumpOutside slot) = 31
reject_number (JumpIntoWide slot) = 32
reject_number (FallsOff slot) = 33
reject_number (Unreachable slot) = 34
reject_number (UnsetRegister slot register) = 35
reject_number (WrongKind slot register) = 36
reject_number (PacketBounds slot) = 37
reject_number (StackBounds slot) = 38
reject_number (StackUnset slot) = 39
reject_number (ValueBounds slot) = 40
reject_number (Misaligned slot) = 41
reject_number (ContextAccess slot) = 42
reject_number (ReadOnlyFp slot) = 43
reject_number (UnknownHelper slot) = 44
reject_number (BadArgument slot register) = 45
reject_number (PointerLeak slot) = 46
reject_number (UnknownMap slot) = 47
reject_number (NotArrayMap slot) = 49
reject_number Memory = 48

-- the numbers of the fields that a fault is printed with: the slot, and where the rule is about one, the register
abbrev pub reject_fields : Reject → Fields
reject_fields (JumpBackward slot) = fields.One slot
reject_fields (JumpOutside slot) = fields.One slot
reject_fields (JumpIntoWide slot) = fields.One slot
reject_fields (FallsOff slot) = fields.One slot
reject_fields (Unreachable slot) = fields.One slot
reject_fields (UnsetRegister slot register) = fields.Two slot register
reject_fields (WrongKind slot register) = fields.Two slot register
reject_fields (PacketBounds slot) = fields.One slot
reject_fields (StackBounds slot) = fields.One slot
reject_fields (StackUnset slot) = fields.One slot
reject_fields (ValueBounds slot) = fields.One slot
reject_fields (Misaligned slot) = fields.One slot
reject_fields (ContextAccess slot) = fields.One slot
reject_fields (ReadOnlyFp slot) = fields.One slot
reject_fields (UnknownHelper slot) = fields.One slot
reject_fields (BadArgument slot register) = fields.Two slot register
reject_fields (PointerLeak slot) = fields.One slot
reject_fields (UnknownMap slot) = fields.One slot
reject_fields (NotArrayMap slot) = fields.One slot
reject_fields Memory = fields.Empty

-- the slot is the first of the fields, where there are any
abbrev pub slot_of_fields : Fields → Option ℕ
slot_of_fields (fields.One slot) = Some slot
slot_of_fields (fields.Two slot register) = Some slot
slot_of_fields other = None

abbrev pub reject_slot : Reject → Option ℕ
reject_slot reject = slot_of_fields (reject_fields reject)
