-- Faults of edges: what they depend on, and what it means that there is none.
use Rattle.std.proofs.Common.{◌≡◌, ◌≢◌, ℕ, ◌+◌, ◌<◌, ◌≤◌, Bool, true, false, cond, ◌&&◌, leb, ℤ, pos, negsuc, ◌≤ℤ◌, List, length, get_or, take, Option, Some, None, refl, sym, ap, subst, ◌∙◌, ⊎_elim, arith}
use Rattle.std.specs.Option.{option_or}
use Rattle.std.specs.Prelude.{IsTrue}
use Rattle.std.proofs.Math.Facts.{yes_leb}
use Rattle.std.proofs.lemmas.Bool.{cases_lt, cases_eq, leb-false}
use Rattle.ebpf_decode.specs.declared.insn.Insn.{Insn}
use Rattle.ebpf_decode.specs.InstructionEncoding.{slot_count, total_slots}
use Rattle.semantics.specs.Program.{instruction_at}
use Rattle.image_shape.specs.declared.fault.ShapeFault.{ShapeFault}
use Rattle.image_shape.specs.declared.fault.ShapeFault.TheVariants.{JumpBackward, JumpOutside, JumpIntoWide, FallsOff, Unreachable}
use Rattle.ebpf_decode.specs.Jumps.{jump_target}
use Rattle.image_shape.specs.Edges.{falls_through, IsEdge, is_begin}
use Rattle.image_shape.specs.Layouts.{IsLayout, HasNoNegativeTarget}
use Rattle.image_shape.specs.Structure.{jump_fault, fall_fault, instruction_fault, fault_at, HasSoundEdges, IsFirstFault, IsFirstBadEdge}
use Rattle.image_shape.proofs.shared.SlotLemmas.{some_slots, instruction_here, none_inside, past_end, next_begins}

-- ---- the same marks give the same fault

jump_same : (f g : ℕ → Bool) (total slot : ℕ) (target : Option ℤ) → ((k : ℕ) → f k ≡ g k) → jump_fault f total slot target ≡ jump_fault g total slot target
jump_same f g total slot None same = refl
jump_same f g total slot (Some (negsuc below)) same = refl
jump_same f g total slot (Some (pos target)) same = rw (same target) refl

pub fault_same : (f g : ℕ → Bool) (total slot : ℕ) (insn : Insn) → ((k : ℕ) → f k ≡ g k) → instruction_fault f total slot insn ≡ instruction_fault g total slot insn
fault_same f g total slot insn same = rw (jump_same f g total slot (jump_target slot insn) same) refl

pub fault_here : (code : List Insn) (slot : ℕ) (insn : Insn) → instruction_at code slot ≡ Some insn → fault_at code slot ≡ instruction_fault (is_begin code) (total_slots code) slot insn
fault_here code slot insn found = rw found refl

pub fault_nowhere : (code : List Insn) (slot : ℕ) → instruction_at code slot ≡ None → fault_at code slot ≡ None
fault_nowhere code slot none = rw none refl

-- ---- the fault of an instruction names its slot, and is never 34

abbrev IsEdgeFault : ℕ → ShapeFault → Type 0
IsEdgeFault slot (JumpBackward named) = named ≡ slot
IsEdgeFault slot (JumpOutside named) = named ≡ slot
IsEdgeFault slot (JumpIntoWide named) = named ≡ slot
IsEdgeFault slot (FallsOff named) = named ≡ slot
IsEdgeFault slot (Unreachable named) = ⊥

tests_named : (back outside begins : Bool) (slot : ℕ) (fault : ShapeFault) →
    cond back (Some (JumpBackward slot)) (cond outside (Some (JumpOutside slot)) (cond begins None (Some (JumpIntoWide slot)))) ≡ Some fault → IsEdgeFault slot fault
tests_named true outside begins slot fault e = let is : JumpBackward slot ≡ fault = cc in subst (IsEdgeFault slot) is refl
tests_named false true begins slot fault e = let is : JumpOutside slot ≡ fault = cc in subst (IsEdgeFault slot) is refl
tests_named false false true slot fault e = absurd cc
tests_named false false false slot fault e = let is : JumpIntoWide slot ≡ fault = cc in subst (IsEdgeFault slot) is refl

jump_named : (begins : ℕ → Bool) (total slot : ℕ) (target : Option ℤ) (fault : ShapeFault) → jump_fault begins total slot target ≡ Some fault → IsEdgeFault slot fault
jump_named begins total slot None fault e = absurd cc
jump_named begins total slot (Some (negsuc below)) fault e = let is : JumpBackward slot ≡ fault = cc in subst (IsEdgeFault slot) is refl
jump_named begins total slot (Some (pos target)) fault e = tests_named (leb target slot) (leb total target) (begins target) slot fault e

fall_named : (falls outside : Bool) (slot : ℕ) (fault : ShapeFault) → cond (falls && outside) (Some (FallsOff slot)) None ≡ Some fault → IsEdgeFault slot fault
fall_named true true slot fault e = let is : FallsOff slot ≡ fault = cc in subst (IsEdgeFault slot) is refl
fall_named true false slot fault e = absurd cc
fall_named false outside slot fault e = absurd cc

either_named : (one two : Option ShapeFault) (slot : ℕ) (fault : ShapeFault) → (one ≡ Some fault → IsEdgeFault slot fault) → (two ≡ Some fault → IsEdgeFault slot fault) → option_or one two ≡ Some fault → IsEdgeFault slot fault
either_named None two slot fault first second e = second e
either_named (Some one) two slot fault first second e = first e

fault_named : (begins : ℕ → Bool) (total slot : ℕ) (insn : Insn) (fault : ShapeFault) → instruction_fault begins total slot insn ≡ Some fault → IsEdgeFault slot fault
fault_named begins total slot insn fault e =
    either_named (jump_fault begins total slot (jump_target slot insn)) (fall_fault total slot insn) slot fault
    (jump_named begins total slot (jump_target slot insn) fault) (fall_named (falls_through insn) (leb total (slot + slot_count insn)) slot fault) e

bad_named : (code : List Insn) (slot : ℕ) (fault : ShapeFault) → IsEdgeFault slot fault → IsFirstBadEdge code slot fault → IsFirstFault code fault
bad_named code slot (JumpBackward named) same bad = subst (λ at. IsFirstBadEdge code at (JumpBackward named)) (sym same) bad
bad_named code slot (JumpOutside named) same bad = subst (λ at. IsFirstBadEdge code at (JumpOutside named)) (sym same) bad
bad_named code slot (JumpIntoWide named) same bad = subst (λ at. IsFirstBadEdge code at (JumpIntoWide named)) (sym same) bad
bad_named code slot (FallsOff named) same bad = subst (λ at. IsFirstBadEdge code at (FallsOff named)) (sym same) bad
bad_named code slot (Unreachable named) same bad = absurd same

pub first_bad : (code : List Insn) (slot : ℕ) (insn : Insn) (fault : ShapeFault) → instruction_at code slot ≡ Some insn → instruction_fault (is_begin code) (total_slots code) slot insn ≡ Some fault
    → ((earlier : ℕ) → earlier < slot → fault_at code earlier ≡ None) → IsFirstFault code fault
first_bad code slot insn fault found is earlier =
    bad_named code slot fault (fault_named (is_begin code) (total_slots code) slot insn fault is)
    (record { bad = fault_here code slot insn found ∙ is; earlier_good = earlier })

-- ---- no fault

no_fault_parts : (one two : Option ShapeFault) → option_or one two ≡ None → (one ≡ None) × (two ≡ None)
no_fault_parts None two e = (refl, e)
no_fault_parts (Some fault) two e = absurd cc

no_fall_fault : (falls outside : Bool) (fault : ShapeFault) → cond (falls && outside) (Some fault) None ≡ None → IsTrue falls → outside ≡ false
no_fall_fault true true fault e is = absurd cc
no_fall_fault true false fault e is = refl
no_fall_fault false outside fault e is = absurd cc

-- the fault that a jump has by three tests
no_jump_fault : (back outside begins : Bool) (one two three : ShapeFault) → cond back (Some one) (cond outside (Some two) (cond begins None (Some three))) ≡ None →
    (back ≡ false) × (outside ≡ false) × IsTrue begins
no_jump_fault true outside begins one two three e = absurd cc
no_jump_fault false true begins one two three e = absurd cc
no_jump_fault false false true one two three e = (refl, refl, refl)
no_jump_fault false false false one two three e = absurd cc

pub record IsTarget (code : List Insn) (slot target : ℕ) : Type 0 where
  pub up : slot < target
  pub within : target < total_slots code
  pub begins : IsTrue (is_begin code target)

jump_is_up : (code : List Insn) (slot target : ℕ) → jump_fault (is_begin code) (total_slots code) slot (Some (pos target)) ≡ None → IsTarget code slot target
jump_is_up code slot target none =
    let tests = no_jump_fault (leb target slot) (leb (total_slots code) target) (is_begin code target) (JumpBackward slot) (JumpOutside slot) (JumpIntoWide slot) none in
    record { up = leb-false target slot tests.0; within = leb-false (total_slots code) target tests.1; begins = tests.2 }

-- an edge of an instruction without a fault goes up to an instruction
pub edge_is_up : (code : List Insn) (slot : ℕ) (insn : Insn) (target : ℕ) → fault_at code slot ≡ None → instruction_at code slot ≡ Some insn → IsEdge slot insn target → IsTarget code slot target
edge_is_up code slot insn target none found edge =
    let parts = no_fault_parts (jump_fault (is_begin code) (total_slots code) slot (jump_target slot insn)) (fall_fault (total_slots code) slot insn) (sym (fault_here code slot insn found) ∙ none) in
    ⊎_elim
    (λ fall.
    let tested : leb (total_slots code) (slot + slot_count insn) ≡ false = no_fall_fault (falls_through insn) (leb (total_slots code) (slot + slot_count insn)) (FallsOff slot) parts.1 fall.0 in
    let below : slot + slot_count insn < total_slots code = leb-false (total_slots code) (slot + slot_count insn) tested in
    let same : target ≡ slot + slot_count insn = fall.1 in
    record { up = omega (arith, some_slots insn); within = omega arith; begins = rw same (next_begins code slot insn found below) })
    (λ jump. jump_is_up code slot target (ap (jump_fault (is_begin code) (total_slots code) slot) (sym jump) ∙ parts.0))
    edge

-- the target of a jump without a fault is not below 0
not_negative : (begins : ℕ → Bool) (total slot : ℕ) (target : ℤ) → jump_fault begins total slot (Some target) ≡ None → pos 0 ≤ℤ target
not_negative begins total slot (negsuc below) none = absurd cc
not_negative begins total slot (pos target) none = record { le = yes_leb (omega arith) }

pub no_negative_target : (code : List Insn) (slot : ℕ) (insn : Insn) → fault_at code slot ≡ None → instruction_at code slot ≡ Some insn → HasNoNegativeTarget slot insn
no_negative_target code slot insn none found target is =
    let parts = no_fault_parts (jump_fault (is_begin code) (total_slots code) slot (jump_target slot insn)) (fall_fault (total_slots code) slot insn) (sym (fault_here code slot insn found) ∙ none) in
    not_negative (is_begin code) (total_slots code) slot target (ap (jump_fault (is_begin code) (total_slots code) slot) (sym is) ∙ parts.0)

-- ---- the pass over all edges

pub found_bad : (code : List Insn) (i : ℕ) (d : Insn) (slot total : ℕ) (begins : List Bool) (fault : ShapeFault) → IsLayout code begins total → i < length code → slot ≡ total_slots (take i code)
    → instruction_fault (λ k. get_or begins k false) total slot (get_or code i d) ≡ Some fault → ((earlier : ℕ) → earlier < slot → fault_at code earlier ≡ None) → IsFirstFault code fault
found_bad code i d slot total begins fault layout lt at is earlier =
    let same = fault_same (λ k. get_or begins k false) (is_begin code) (total_slots code) slot (get_or code i d) layout.marked in
    let known : instruction_fault (λ k. get_or begins k false) (total_slots code) slot (get_or code i d) ≡ Some fault = rw (← layout.slots) is in
    first_bad code slot (get_or code i d) fault (instruction_here code i d slot lt at) (sym same ∙ known) earlier

pub good_next : (code : List Insn) (i : ℕ) (d : Insn) (slot total : ℕ) (begins : List Bool) → IsLayout code begins total → i < length code → slot ≡ total_slots (take i code)
    → instruction_fault (λ k. get_or begins k false) total slot (get_or code i d) ≡ None → ((earlier : ℕ) → earlier < slot → fault_at code earlier ≡ None)
    → (earlier : ℕ) → earlier < slot + slot_count (get_or code i d) → fault_at code earlier ≡ None
good_next code i d slot total begins layout lt at none good earlier before =
    let same = fault_same (λ k. get_or begins k false) (is_begin code) (total_slots code) slot (get_or code i d) layout.marked in
    let known : instruction_fault (λ k. get_or begins k false) (total_slots code) slot (get_or code i d) ≡ None = rw (← layout.slots) none in
    let here : fault_at code slot ≡ None = fault_here code slot (get_or code i d) (instruction_here code i d slot lt at) ∙ sym same ∙ known in
    ⊎_elim
    (λ (below : earlier < slot). good earlier below)
    (λ (above : slot ≤ earlier). ⊎_elim
    (λ (is_slot : earlier ≡ slot). rw is_slot here)
    (λ (other : earlier ≢ slot). fault_nowhere code earlier (none_inside code i d slot earlier lt at (omega arith) before))
    (cases_eq earlier slot))
    (cases_lt earlier slot)

pub all_good : (code : List Insn) (slot : ℕ) → slot ≡ total_slots code → ((earlier : ℕ) → earlier < slot → fault_at code earlier ≡ None) → HasSoundEdges code
all_good code slot whole good k = ⊎_elim
    (λ (below : k < slot). good k below)
    (λ (above : slot ≤ k). fault_nowhere code k (past_end code k (omega arith)))
    (cases_lt k slot)
