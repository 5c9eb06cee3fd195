-- Where instructions begin: the slots of the first instructions are before those of the others.
use Rattle.std.proofs.Common.{◌≡◌, ℕ, zero, suc, ◌+◌, ◌-◌, ◌<◌, ◌≤◌, List, [], ◌∷◌, ◌++◌, length, get_or, take, drop, Option, Some, None, refl, sym, ap, ◌∙◌, arith, drop-cons}
use Rattle.std.specs.Prelude.{IsTrue}
use Rattle.std.proofs.lemmas.List.{take-append-drop, append-nil, take_all}
use Rattle.std.proofs.lemmas.List.Sums.{sum_by-cons, sum_by_more, sum_by_more_le}
use Rattle.ebpf_decode.specs.declared.insn.Insn.{Insn}
use Rattle.ebpf_decode.specs.declared.insn.Insn.TheVariants.{Lddw, Ldmap, Ldval, Exit}
use Rattle.ebpf_decode.specs.InstructionEncoding.{slot_count, total_slots}
use Rattle.semantics.specs.Program.{past_instruction, instruction_at}
use Rattle.image_shape.specs.Edges.{is_begin}

pub some_slots : (insn : Insn) → 1 ≤ slot_count insn
unfolding slot_count
some_slots (Lddw dst value) = omega arith
some_slots (Ldmap dst map) = omega arith
some_slots (Ldval dst map offset) = omega arith
some_slots insn = omega arith

-- ---- one instruction

past_it : (slots k : ℕ) (rest : ℕ → Option Insn) → past_instruction slots (slots + k) rest ≡ rest k
past_it zero k rest = let e : 0 + k ≡ k = omega arith in rw e refl
past_it (suc slots) k rest = let e : suc slots + k ≡ suc (slots + k) = omega arith in rw e (past_it slots k rest)

inside_it : (slots k : ℕ) (rest : ℕ → Option Insn) → k < slots → past_instruction slots k rest ≡ None
inside_it zero k rest lt = absurd (omega arith)
inside_it (suc slots) zero rest lt = refl
inside_it (suc slots) (suc k) rest lt = inside_it slots k rest (omega arith)

-- what begins past an instruction begins in the rest
past_some : (slots k : ℕ) (rest : ℕ → Option Insn) (insn : Insn) → past_instruction slots k rest ≡ Some insn → (n : ℕ) × (k ≡ slots + n) × (rest n ≡ Some insn)
past_some zero k rest insn e = (k, omega arith, e)
past_some (suc slots) zero rest insn e = absurd cc
past_some (suc slots) (suc k) rest insn e = let found = past_some slots k rest insn e in (found.0, (let same : k ≡ slots + found.0 = found.1 in omega arith), found.2)

after_instruction : (insn : Insn) (rest : List Insn) (k : ℕ) → instruction_at (insn ∷ rest) (slot_count insn + k) ≡ instruction_at rest k
after_instruction insn rest k =
    let e : slot_count insn + k ≡ suc ((slot_count insn - 1) + k) = omega (arith, some_slots insn) in
    rw e (past_it (slot_count insn - 1) k (instruction_at rest))

within_instruction : (insn : Insn) (rest : List Insn) (k : ℕ) → 0 < k → k < slot_count insn → instruction_at (insn ∷ rest) k ≡ None
within_instruction insn rest zero more lt = absurd (omega arith)
within_instruction insn rest (suc k) more lt = inside_it (slot_count insn - 1) k (instruction_at rest) (omega arith)

-- ---- the first instructions

past_front : (front rest : List Insn) (k : ℕ) → instruction_at (front ++ rest) (total_slots front + k) ≡ instruction_at rest k
past_front [] rest k = let e : total_slots [] + k ≡ k = omega arith in rw e refl
past_front (insn ∷ front) rest k =
    let e : total_slots (insn ∷ front) + k ≡ slot_count insn + (total_slots front + k) = omega (arith, sum_by-cons slot_count insn front) in
    rw e (after_instruction insn (front ++ rest) (total_slots front + k) ∙ past_front front rest k)

pub past_end : (code : List Insn) (k : ℕ) → total_slots code ≤ k → instruction_at code k ≡ None
past_end code k le =
    let e : k ≡ total_slots code + (k - total_slots code) = omega arith in
    rw e (ap (λ all. instruction_at all (total_slots code + (k - total_slots code))) (sym (append-nil code)) ∙ past_front code [] (k - total_slots code))

parted : (code : List Insn) (i : ℕ) (d : Insn) → i < length code → code ≡ take i code ++ get_or code i d ∷ drop (suc i) code
parted code i d lt = sym (take-append-drop i code) ∙ ap (λ rest. take i code ++ rest) (drop-cons code i d lt)

part_at : (code : List Insn) (i : ℕ) (d : Insn) (k : ℕ) → i < length code → instruction_at code (total_slots (take i code) + k) ≡ instruction_at (get_or code i d ∷ drop (suc i) code) k
part_at code i d k lt =
    ap (λ all. instruction_at all (total_slots (take i code) + k)) (parted code i d lt) ∙ past_front (take i code) (get_or code i d ∷ drop (suc i) code) k

-- an instruction begins at the slot that those before it fill
pub instruction_here : (code : List Insn) (i : ℕ) (d : Insn) (slot : ℕ) → i < length code → slot ≡ total_slots (take i code) → instruction_at code slot ≡ Some (get_or code i d)
instruction_here code i d slot lt e =
    let same : slot ≡ total_slots (take i code) + 0 = omega arith in
    rw same (part_at code i d 0 lt)

-- and none in its further slots
pub none_inside : (code : List Insn) (i : ℕ) (d : Insn) (slot k : ℕ) → i < length code → slot ≡ total_slots (take i code) → slot < k → k < slot + slot_count (get_or code i d) → instruction_at code k ≡ None
none_inside code i d slot k lt e after before =
    let same : k ≡ total_slots (take i code) + (k - slot) = omega arith in
    rw same (part_at code i d (k - slot) lt ∙ within_instruction (get_or code i d) (drop (suc i) code) (k - slot) (omega arith) (omega arith))

-- ---- the next slot

begins_first : (code : List Insn) → 0 < total_slots code → IsTrue (is_begin code 0)
begins_first [] lt = absurd (omega arith)
begins_first (insn ∷ code) lt = refl

-- the slot after an instruction is one at which an instruction begins, or past the end
pub next_begins : (code : List Insn) (slot : ℕ) (insn : Insn) → instruction_at code slot ≡ Some insn → slot + slot_count insn < total_slots code → IsTrue (is_begin code (slot + slot_count insn))
next_begins [] slot insn found lt = absurd cc
next_begins (first ∷ code) zero insn found lt =
    let same : first ≡ insn = cc in
    let total : total_slots (first ∷ code) ≡ slot_count first + total_slots code = sum_by-cons slot_count first code in
    let more : 0 < total_slots code = omega (arith, ap slot_count same) in
    let e : 0 + slot_count insn ≡ slot_count first + 0 = omega (arith, ap slot_count same) in
    rw (e, after_instruction first code 0) (begins_first code more)
next_begins (first ∷ code) (suc slot) insn found lt =
    let past = past_some (slot_count first - 1) slot (instruction_at code) insn found in
    let total : total_slots (first ∷ code) ≡ slot_count first + total_slots code = sum_by-cons slot_count first code in
    let where_it_is : slot ≡ (slot_count first - 1) + past.0 = past.1 in
    let e : suc slot + slot_count insn ≡ slot_count first + (past.0 + slot_count insn) = omega (arith, some_slots first) in
    rw (e, after_instruction first code (past.0 + slot_count insn)) (next_begins code past.0 insn past.2 (omega arith))

-- ---- a pass over the instructions

pub slot_within : (code : List Insn) (i slot : ℕ) → i < length code → slot ≡ total_slots (take i code) → slot < total_slots code
slot_within code i slot lt at =
    let more : total_slots (take i code) + slot_count (get_or code i Exit) ≤ total_slots code = sum_by_more_le slot_count code i Exit lt in
    omega (arith, some_slots (get_or code i Exit))

pub next_at : (code : List Insn) (i : ℕ) (d : Insn) (slot : ℕ) → i < length code → slot ≡ total_slots (take i code) → slot + slot_count (get_or code i d) ≡ total_slots (take (i + 1) code)
next_at code i d slot lt at = rw at (sym (sum_by_more slot_count code i d lt))

pub whole_at : (code : List Insn) (i slot : ℕ) → length code ≤ i → slot ≡ total_slots (take i code) → slot ≡ total_slots code
whole_at code i slot le at = at ∙ ap total_slots (take_all i code le)

pub begins_here : (code : List Insn) (i slot : ℕ) → i < length code → slot ≡ total_slots (take i code) → IsTrue (is_begin code slot)
begins_here code i slot lt at = rw (instruction_here code i Exit slot lt at) refl
