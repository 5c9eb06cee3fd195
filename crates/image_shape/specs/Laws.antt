-- What follows from the structure of a program for those who follow its edges, and that the answer is the only one.
use Rattle.std.specs.Prelude.{◌≡◌, ℕ, ◌<◌, List, Some, IsTrue}
use Rattle.ebpf_decode.specs.declared.insn.Insn.{Insn}
use Rattle.semantics.specs.Program.{instruction_at}
use Rattle.image_shape.specs.declared.fault.ShapeFault.{ShapeFault}
use Rattle.image_shape.specs.Edges.{IsEdge, is_begin}
use Rattle.image_shape.specs.Structure.{HasShape, IsFirstFault}

-- an edge goes to an instruction at a larger slot
abbrev pub EdgesGoUp : Type 0
EdgesGoUp =
    (code : List Insn) (slot : ℕ) (insn : Insn) (target : ℕ) → HasShape code → instruction_at code slot ≡ Some insn →
    IsEdge slot insn target →
    (slot < target) × IsTrue (is_begin code target)

-- a program with structure has no first fault
abbrev pub HasNoFault : Type 0
HasNoFault = (code : List Insn) (fault : ShapeFault) → HasShape code → ¬ IsFirstFault code fault

-- a program has one first fault
abbrev pub HasOneFault : Type 0
HasOneFault = (code : List Insn) (one other : ShapeFault) → IsFirstFault code one → IsFirstFault code other → one ≡ other
