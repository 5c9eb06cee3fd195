-- How blocks are laid out: a line is an instruction, or a jump to the start of a block, which becomes a jump by the distance from the
-- slot after it.
use Rattle.std.specs.Prelude.{ℕ, ◌+◌, ◌-◌, List, [], ◌∷◌, pos}
use Rattle.ebpf_decode.specs.declared.insn.Insn.{Insn}
use Rattle.ebpf_decode.specs.declared.insn.Insn.TheVariants.{Ja, JumpIf}
use Rattle.ebpf_decode.specs.InstructionEncoding.{slot_count}
use Rattle.steer.specs.declared.layout.Block.{Block}
use Rattle.steer.specs.declared.layout.Line.{Line}
use Rattle.steer.specs.declared.layout.Line.TheVariants as L

abbrev pub line_slots : Line → ℕ
line_slots (L.Do insn) = slot_count insn
line_slots (L.Jump to) = 1
line_slots (L.JumpIf width test dst source to) = 1

abbrev pub slots_in : List Line → ℕ
slots_in [] = 0
slots_in (line ∷ lines) = line_slots line + slots_in lines

-- the instruction of a line, by the starts of the blocks and the slot after it
abbrev pub insn_of : (Block → ℕ) → ℕ → Line → Insn
insn_of starts next (L.Do insn) = insn
insn_of starts next (L.Jump to) = Ja (pos (starts to - next))
insn_of starts next (L.JumpIf width test dst source to) = JumpIf width test dst source (pos (starts to - next))

-- the instructions of these lines, where the first instruction is at this slot
abbrev pub laid_out : (Block → ℕ) → ℕ → List Line → List Insn
laid_out starts slot [] = []
laid_out starts slot (line ∷ lines) = insn_of starts (slot + line_slots line) line ∷ laid_out starts (slot + line_slots line) lines
