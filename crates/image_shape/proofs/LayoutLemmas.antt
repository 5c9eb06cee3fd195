-- The pass that marks where instructions begin, and the one that looks for faults of edges.
use Rattle.std.proofs.Common.{◌≡◌, ◌≢◌, ℕ, ◌+◌, ◌<◌, ◌≤◌, Bool, true, false, List, length, get_or, set, take, replicate, Some, None, refl, ◌∙◌, ⊎_elim, arith}
use Rattle.std.proofs.lemmas.Bool.{cases_lt, cases_eq}
use Rattle.std.proofs.lemmas.List.{get_or-set_same, get_or-set_other, get_or-replicate, get_or_past, length-replicate, length-set}
use Rattle.ebpf_decode.specs.declared.insn.Insn.{Insn}
use Rattle.ebpf_decode.specs.InstructionEncoding.{slot_count, total_slots}
use Rattle.semantics.specs.Program.{instruction_at}
use Rattle.image_shape.specs.Edges.{is_begin}
use Rattle.image_shape.specs.Layouts.{IsLayout}
use Rattle.image_shape.proofs.shared.SlotLemmas.{past_end, some_slots, instruction_here, none_inside}

-- the marks once all instructions below a slot are marked
pub record IsLayoutSoFar (code : List Insn) (slot : ℕ) (begins : List Bool) : Type 0 where
  pub size : length begins ≡ 4096
  pub below : (k : ℕ) → k < slot → get_or begins k false ≡ is_begin code k
  pub above : (k : ℕ) → slot ≤ k → get_or begins k false ≡ false

-- no slot of a fresh list is marked
pub unmarked : (size k : ℕ) → get_or (replicate size false) k false ≡ false
unmarked size k = ⊎_elim
    (λ (below : k < size). get_or-replicate size k false false below)
    (λ (past : size ≤ k). get_or_past (replicate size false) k false (rw (length-replicate size false) past))
    (cases_lt k size)

pub layout_at_start : (code : List Insn) → IsLayoutSoFar code 0 (replicate 4096 false)
layout_at_start code = record {
  size = length-replicate 4096 false;
  below = λ k before. absurd (omega arith);
  above = λ k past. unmarked 4096 k;
}

pub layout_next : (code : List Insn) (slot next : ℕ) (insn : Insn) (begins : List Bool) → instruction_at code slot ≡ Some insn → slot < next → slot < 4096
    → ((k : ℕ) → slot < k → k < next → instruction_at code k ≡ None) → IsLayoutSoFar code slot begins → IsLayoutSoFar code next (set begins slot true)
layout_next code slot next insn begins found up room inside so_far = record {
  size = length-set begins slot true ∙ so_far.size;
  below = λ k before. ⊎_elim
      (λ (same : k ≡ slot). rw (same, found) (get_or-set_same begins slot true false (rw so_far.size room)))
      (λ (other : k ≢ slot). get_or-set_other begins slot k true false other ∙ ⊎_elim
      (λ (below : k < slot). so_far.below k below)
      (λ (above : slot ≤ k). so_far.above k above ∙ (let none : instruction_at code k ≡ None = inside k (omega arith) before in rw none refl))
      (cases_lt k slot))
      (cases_eq k slot);
  above = λ k past. get_or-set_other begins slot k true false (λ same. omega arith) ∙ so_far.above k (omega arith);
}

pub layout_step : (code : List Insn) (i : ℕ) (d : Insn) (slot : ℕ) (begins : List Bool) → i < length code → slot ≡ total_slots (take i code) → slot < 4096 → IsLayoutSoFar code slot begins
    → IsLayoutSoFar code (slot + slot_count (get_or code i d)) (set begins slot true)
layout_step code i d slot begins lt at room so_far =
    layout_next code slot (slot + slot_count (get_or code i d)) (get_or code i d) begins (instruction_here code i d slot lt at) (omega (arith, some_slots (get_or code i d))) room
    (λ k after before. none_inside code i d slot k lt at after before) so_far

pub layout_done : (code : List Insn) (slot : ℕ) (begins : List Bool) → slot ≡ total_slots code → IsLayoutSoFar code slot begins → IsLayout code begins slot
layout_done code slot begins whole so_far = record {
  marked = λ k. ⊎_elim
      (λ (below : k < slot). so_far.below k below)
      (λ (above : slot ≤ k). so_far.above k above ∙ (let none : instruction_at code k ≡ None = past_end code k (omega arith) in rw none refl))
      (cases_lt k slot);
  slots = whole;
}
