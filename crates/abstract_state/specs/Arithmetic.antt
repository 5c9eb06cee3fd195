-- What arithmetic makes of kinds: intervals by their table; a pointer moves by a number (RFC 9669, section 4.1).
use Rattle.std.specs.Prelude.{ℕ, Bool, true, false, ℤ, pos, neg_ℤ, ◌+ℤ◌, nat_le, List, Ok, Err, ◌+◌, if◌then◌else◌}
use Rattle.isa.specs.Words.{signed_value, twos_complement}
use Rattle.isa.specs.declared.operation.Width.{Width}
use Rattle.isa.specs.declared.operation.Width.TheVariants.{Bits32, Bits64}
use Rattle.isa.specs.declared.operation.AluOp.{AluOp}
use Rattle.isa.specs.declared.operation.AluOp.TheVariants.{Add, Sub, Mov}
use Rattle.isa.specs.declared.operation.Register.{Register}
use Rattle.isa.specs.declared.operation.SourceOperand.{SourceOperand}
use Rattle.isa.specs.declared.operation.SourceOperand.TheVariants.{Imm, Reg}
use Rattle.ebpf_decode.specs.declared.map.MapDef.{MapDef}
use Rattle.ebpf_decode.specs.declared.version.Version.{Version}
use Rattle.ebpf_decode.specs.declared.version.Version.TheVariants.{V1, V2}
use Rattle.abstract_scalar.specs.declared.interval.Interval.{Interval}
use Rattle.abstract_scalar.specs.Intervals.{constant_of, is_single}
use Rattle.abstract_scalar.specs.Transfer.{transfer_of}
use Rattle.abstract_state.specs.declared.kind.Kind.{Kind}
use Rattle.abstract_state.specs.declared.kind.Kind.TheVariants.{Scalar, Stack, Packet, Value}
use Rattle.abstract_state.specs.declared.kind.Offsets.{Offsets}
use Rattle.abstract_state.specs.declared.broken_rule.BrokenRule.TheVariants.{WrongKind, PacketBounds, StackBounds}
use Rattle.abstract_state.specs.declared.state.State.{State}
use Rattle.abstract_state.specs.States.{Checked, ◌>>=◌, kind_of, with_kind, stack_size}
use Rattle.abstract_state.specs.Places.{place_within, offsets_within}

-- an immediate is a single number, sign-extended to 64 bits
abbrev pub source_kind : State → SourceOperand → Kind
source_kind state (Imm immediate) = Scalar (constant_of (twos_complement 64 immediate))
source_kind state (Reg register) = kind_of state register

-- the register that a source of a wrong kind is blamed on; with an immediate that is the destination
abbrev pub blamed : Register → SourceOperand → Register
blamed dst (Imm immediate) = dst
blamed dst (Reg register) = register

-- the interval of a number, which a pointer hasn't
abbrev pub number_kind : Kind → Register → (Interval → Interval) → Checked Kind
number_kind (Scalar i) register change = Ok (Scalar (change i))
number_kind other register change = Err (WrongKind register)

-- a move of 64 bits copies any kind, one of 32 bits a number
abbrev pub moved_kind : Width → Kind → Register → Checked Kind
moved_kind width (Scalar i) source = Ok (Scalar (transfer_of width Mov i i))
moved_kind Bits64 kind source = Ok kind
moved_kind Bits32 kind source = Err (WrongKind source)

-- ---- pointers

-- how far a number moves a pointer: read as signed
abbrev pub delta_of : AluOp → ℕ → ℤ
delta_of Sub n = neg_ℤ (signed_value 64 n)
delta_of op n = signed_value 64 n

-- the operations that move a pointer
abbrev pub moves_pointers : Width → AluOp → Bool
moves_pointers Bits64 Add = true
moves_pointers Bits64 Sub = true
moves_pointers width op = false

-- by a single number
abbrev pub moved_pointer : List MapDef → Kind → ℤ → Register → Checked Kind
moved_pointer maps (Stack place) delta dst =
    place_within (pos place +ℤ delta) stack_size StackBounds >>= (λ to. Ok (Stack to))
moved_pointer maps (Packet id off range) delta dst =
    place_within (pos off +ℤ delta) 65535 PacketBounds >>= (λ to. Ok (Packet id to range))
moved_pointer maps (Value map id off) delta dst =
    offsets_within maps map (pos off.low +ℤ delta) (pos off.high +ℤ delta) >>= (λ to. Ok (Value map id to))
moved_pointer maps other delta dst = Err (WrongKind dst)

-- by a number that is known only as an interval, an address in a value moves in version 2 alone: by each end of it
abbrev pub moved_address : List MapDef → Version → ℕ → ℕ → Offsets → Interval → Register → Checked Kind
moved_address maps V1 map id off i source = Err (WrongKind source)
moved_address maps V2 map id off i source =
    offsets_within maps map (pos (off.low + i.low)) (pos (off.high + i.high)) >>= (λ to. Ok (Value map id to))

-- a packet pointer gets a base of its own, with no known range
abbrev pub moved_far : List MapDef → Version → ℕ → AluOp → Kind → Interval → Register → Checked Kind
moved_far maps version slot Add (Packet id off range) i source =
    if nat_le i.high 65535 then Ok (Packet slot 0 0) else Err PacketBounds
moved_far maps version slot Add (Value map id off) i source = moved_address maps version map id off i source
moved_far maps version slot op other i source = Err (WrongKind source)

abbrev pub pointer_sum : List MapDef → Version → ℕ → AluOp → Kind → Kind → Register → Register → Checked Kind
pointer_sum maps version slot op pointer (Scalar i) dst source =
    if is_single i then moved_pointer maps pointer (delta_of op i.low) dst else moved_far maps version slot op pointer i source
pointer_sum maps version slot op pointer other dst source = Err (WrongKind source)

-- the pointers that can be moved
abbrev pub is_movable : Kind → Bool
is_movable (Stack place) = true
is_movable (Packet id off range) = true
is_movable (Value map id off) = true
is_movable other = false

-- a pointer as the first operand
abbrev pub combined_pointer : List MapDef → Version → ℕ → Width → AluOp → Kind → Kind → Register → Register → Checked Kind
combined_pointer maps version slot width op pointer other dst source =
    if moves_pointers width op
    then (if is_movable pointer then pointer_sum maps version slot op pointer other dst source else Err (WrongKind dst))
    else Err (WrongKind dst)

-- an operation that reads its destination
abbrev pub combined_kind : List MapDef → Version → ℕ → Width → AluOp → Kind → Kind → Register → Register → Checked Kind
combined_kind maps version slot width op (Scalar i) other dst source = number_kind other source (transfer_of width op i)
combined_kind maps version slot width op pointer other dst source = combined_pointer maps version slot width op pointer other dst source

abbrev pub alu_kind : List MapDef → Version → ℕ → Width → AluOp → Kind → Kind → Register → Register → Checked Kind
alu_kind maps version slot width Mov first second dst source = moved_kind width second source
alu_kind maps version slot width op first second dst source = combined_kind maps version slot width op first second dst source

abbrev pub after_alu_of : List MapDef → State → ℕ → Width → AluOp → Register → SourceOperand → Checked State
after_alu_of maps state slot width op dst source =
    alu_kind maps state.version slot width op (kind_of state dst) (source_kind state source) dst (blamed dst source) >>=
    (λ kind. Ok (with_kind state dst kind))
