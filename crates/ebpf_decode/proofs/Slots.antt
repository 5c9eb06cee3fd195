-- The slots of a program, and which slots have bytes.
use Rattle.std.specs.Prelude.{◌<◌, List, FitsSigned}
use Rattle.std.specs.Int.{w16, w32}
use Rattle.std.specs.List.{flat_map}
use Rattle.ebpf_decode.specs.declared.slot.CodeSlot.{CodeSlot}
use Rattle.ebpf_decode.specs.declared.insn.Insn.{Insn}
use Rattle.ebpf_decode.specs.InstructionEncoding.{slots_of_instruction}

-- the slots of a program
abbrev pub slots_of : List Insn → List CodeSlot
slots_of code = flat_map slots_of_instruction code

-- a slot that has bytes
pub record SlotFits (s : CodeSlot) : Type 0 where
  pub opcode : s.opcode < 256
  pub dst : s.dst < 16
  pub src : s.src < 16
  pub offset : FitsSigned w16 s.offset
  pub immediate : FitsSigned w32 s.immediate
