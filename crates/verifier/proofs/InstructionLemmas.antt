-- The instruction that begins at a slot of a program.
use Rattle.std.proofs.Common.{◌≡◌, ℕ, zero, suc, ◌-◌, ◌<◌, List, [], ◌∷◌, Option, Some, None, Ok, Err, IsTrue, refl, subst, ⊎_elim}
use Rattle.std.specs.Prelude.{IsOk, is_some}
use Rattle.std.specs.List.{AllByRecursion}
use Rattle.std.proofs.lemmas.Bool.{cases_lt}
use Rattle.ebpf_decode.specs.declared.insn.Insn.{Insn}
use Rattle.ebpf_decode.specs.InstructionEncoding.{slot_count, total_slots, FieldsFit}
use Rattle.semantics.specs.Program.{past_instruction, instruction_at}
use Rattle.abstract_state.specs.declared.flow.Flow.{Flow}
use Rattle.abstract_state.specs.States.{Checked}
use Rattle.image_shape.specs.Edges.{is_begin}
use Rattle.image_shape.proofs.shared.SlotLemmas.{past_end}

-- what begins past an instruction begins in the rest
past_some : (slots k : ℕ) (rest : ℕ → Option Insn) (insn : Insn) → past_instruction slots k rest ≡ Some insn → (n : ℕ) × (rest n ≡ Some insn)
past_some zero k rest insn e = (k, e)
past_some (suc slots) zero rest insn e = absurd cc
past_some (suc slots) (suc k) rest insn e = past_some slots k rest insn e

-- each instruction of a program has fields that hold its numbers
pub fields_here : (code : List Insn) (slot : ℕ) (insn : Insn) → AllByRecursion FieldsFit code → instruction_at code slot ≡ Some insn → FieldsFit insn
fields_here [] slot insn fits found = absurd cc
fields_here (first ∷ code) zero insn fits found = let same : first ≡ insn = cc in subst FieldsFit same fits.0
fields_here (first ∷ code) (suc slot) insn fits found =
    let past = past_some (slot_count first - 1) slot (instruction_at code) insn found in fields_here code past.0 insn fits.1 past.1

pub begins_within : (code : List Insn) (slot : ℕ) → IsTrue (is_begin code slot) → slot < total_slots code
begins_within code slot begins = ⊎_elim (λ within. within) (λ past. absurd (let none : instruction_at code slot ≡ None = past_end code slot past in cc)) (cases_lt slot (total_slots code))

pub begun : (found : Option Insn) → IsTrue (is_some found) → (insn : Insn) × (found ≡ Some insn)
begun (Some insn) begins = (insn, refl)
begun None begins = absurd cc

pub let_through : (after : Checked Flow) → IsOk after → (flow : Flow) × (after ≡ Ok flow)
let_through (Ok flow) passes = (flow, refl)
let_through (Err why) passes = absurd cc
