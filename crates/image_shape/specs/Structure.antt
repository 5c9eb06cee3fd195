-- The structure of a program, and its first fault: all edges go up to an instruction, and every instruction is reachable.
use Rattle.std.specs.Prelude.{◌≡◌, ℕ, ◌+◌, ◌<◌, Bool, ℤ, pos, negsuc, nat_le, ◌&&◌, List, Option, Some, None, IsTrue, if◌then◌else◌}
use Rattle.faults.specs.declared.fields.Fields.{Fields}
use Rattle.faults.specs.declared.fields.Fields.TheVariants as fields
use Rattle.std.specs.Option.{option_and_then, option_or}
use Rattle.ebpf_decode.specs.declared.insn.Insn.{Insn}
use Rattle.ebpf_decode.specs.InstructionEncoding.{slot_count, total_slots}
use Rattle.semantics.specs.Program.{instruction_at}
use Rattle.image_shape.specs.declared.fault.ShapeFault.{ShapeFault}
use Rattle.image_shape.specs.declared.fault.ShapeFault.TheVariants.{JumpBackward, JumpOutside, JumpIntoWide, FallsOff, Unreachable}
use Rattle.ebpf_decode.specs.Jumps.{jump_target}
use Rattle.image_shape.specs.Edges.{falls_through, is_begin, IsReachableSlot}

-- ---- one instruction, by where instructions begin in its program and how many slots the program has

-- the fault of a jump to this target: backward, past the last slot, or into a wide instruction
abbrev pub jump_fault : (ℕ → Bool) → ℕ → ℕ → Option ℤ → Option ShapeFault
jump_fault begins total slot None = None
jump_fault begins total slot (Some (negsuc below)) = Some (JumpBackward slot)
jump_fault begins total slot (Some (pos target)) =
    if nat_le target slot then Some (JumpBackward slot) else
    (if nat_le total target then Some (JumpOutside slot) else
    (if begins target then None else Some (JumpIntoWide slot)))

-- the fault of an instruction that may go on at the next slot, where that is past the end
abbrev pub fall_fault : ℕ → ℕ → Insn → Option ShapeFault
fall_fault total slot insn = if falls_through insn && nat_le total (slot + slot_count insn) then Some (FallsOff slot) else None

-- the lowest fault of the instruction at this slot
abbrev pub instruction_fault : (ℕ → Bool) → ℕ → ℕ → Insn → Option ShapeFault
instruction_fault begins total slot insn = option_or (jump_fault begins total slot (jump_target slot insn)) (fall_fault total slot insn)

-- ---- programs

-- the fault of the edges of the instruction that begins at the slot
abbrev pub fault_at : List Insn → ℕ → Option ShapeFault
fault_at code slot = option_and_then (instruction_fault (is_begin code) (total_slots code) slot) (instruction_at code slot)

-- no instruction has a fault of its edges
abbrev pub HasSoundEdges : List Insn → Type 0
HasSoundEdges code = (slot : ℕ) → fault_at code slot ≡ None

-- each edge goes up to an instruction, and paths of edges from slot 0 lead to all instructions
pub record HasShape (code : List Insn) : Type 0 where
  pub edges : HasSoundEdges code
  pub reachable : (slot : ℕ) → IsTrue (is_begin code slot) → IsReachableSlot code slot

-- the slot of the lowest instruction whose edges have a fault
pub record IsFirstBadEdge (code : List Insn) (slot : ℕ) (fault : ShapeFault) : Type 0 where
  pub bad : fault_at code slot ≡ Some fault
  pub earlier_good : (earlier : ℕ) → earlier < slot → fault_at code earlier ≡ None

-- the slot of the lowest instruction to which no path leads, where no edge has a fault
pub record IsFirstUnreachable (code : List Insn) (slot : ℕ) : Type 0 where
  pub edges : HasSoundEdges code
  pub begins : IsTrue (is_begin code slot)
  pub unreachable : ¬ IsReachableSlot code slot
  pub earlier_reachable : (earlier : ℕ) → earlier < slot → IsTrue (is_begin code earlier) → IsReachableSlot code earlier

-- the first fault of a program: faults of edges by rising slot, and then the first instruction to which no path leads
abbrev pub IsFirstFault : List Insn → ShapeFault → Type 0
IsFirstFault code (JumpBackward slot) = IsFirstBadEdge code slot (JumpBackward slot)
IsFirstFault code (JumpOutside slot) = IsFirstBadEdge code slot (JumpOutside slot)
IsFirstFault code (JumpIntoWide slot) = IsFirstBadEdge code slot (JumpIntoWide slot)
IsFirstFault code (FallsOff slot) = IsFirstBadEdge code slot (FallsOff slot)
IsFirstFault code (Unreachable slot) = IsFirstUnreachable code slot

-- the number that a fault is printed with
abbrev pub shape_fault_number : ShapeFault → ℕ
shape_fault_number (JumpBackward slot) = 30
shape_fault_number (JumpOutside slot) = 31
shape_fault_number (JumpIntoWide slot) = 32
shape_fault_number (FallsOff slot) = 33
shape_fault_number (Unreachable slot) = 34

-- the numbers of the fields that a fault is printed with
abbrev pub shape_fault_fields : ShapeFault → Fields
shape_fault_fields (JumpBackward slot) = fields.One slot
shape_fault_fields (JumpOutside slot) = fields.One slot
shape_fault_fields (JumpIntoWide slot) = fields.One slot
shape_fault_fields (FallsOff slot) = fields.One slot
shape_fault_fields (Unreachable slot) = fields.One slot
