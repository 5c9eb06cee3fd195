-- The pass that marks what is reached: edges go up, so all marks of a slot are made before it is looked at.
use Rattle.std.proofs.Common.{◌≡◌, ◌≢◌, ℕ, ◌<◌, ◌≤◌, Bool, true, false, ℤ, pos, negsuc, List, length, get_or, set, replicate, Some, None, refl, sym, ap, subst, ◌∙◌, inl, inr, ⊎_elim, arith, lit<}
use Rattle.std.specs.Prelude.{IsTrue}
use Rattle.std.proofs.lemmas.Bool.{cases_lt, cases_eq}
use Rattle.std.proofs.lemmas.List.{get_or-set_same, get_or-set_other, length-replicate, length-set}
use Rattle.ebpf_decode.specs.declared.insn.Insn.{Insn}
use Rattle.ebpf_decode.specs.InstructionEncoding.{total_slots}
use Rattle.semantics.specs.Program.{instruction_at}
use Rattle.ebpf_decode.specs.Jumps.{jump_target}
use Rattle.image_shape.specs.Edges.{IsJump, IsEdge, is_begin, IsReachableSlot, reached_start, reached_along}
use Rattle.image_shape.specs.Structure.{HasSoundEdges, HasShape, IsFirstUnreachable}
use Rattle.image_shape.specs.Layouts.{HasNoNegativeTarget, IsMarked}
use Rattle.image_shape.proofs.shared.SlotLemmas.{past_end}
use Rattle.image_shape.proofs.shared.FaultLemmas.{IsTarget, edge_is_up}
use Rattle.image_shape.proofs.LayoutLemmas.{unmarked}

-- the marks once all instructions below a slot have been looked at
pub record IsReachedSoFar (code : List Insn) (slot : ℕ) (reached : List Bool) : Type 0 where
  pub size : length reached ≡ 4096
  pub start : get_or reached 0 false ≡ true
  pub sound : (k : ℕ) → get_or reached k false ≡ true → IsReachableSlot code k
  pub complete : (from : ℕ) (insn : Insn) (k : ℕ) → from < slot → instruction_at code from ≡ Some insn → IsEdge from insn k → get_or reached k false ≡ true
  pub earlier : (k : ℕ) → k < slot → IsTrue (is_begin code k) → IsReachableSlot code k

only_start : (code : List Insn) (k : ℕ) → get_or (set (replicate 4096 false) 0 true) k false ≡ true → IsReachableSlot code k
only_start code k is =
    ⊎_elim
    (λ (same : k ≡ 0). subst (IsReachableSlot code) (sym same) reached_start)
    (λ (other : k ≢ 0).
    let no : get_or (set (replicate 4096 false) 0 true) k false ≡ false = get_or-set_other (replicate 4096 false) 0 k true false other ∙ unmarked 4096 k in
    absurd cc)
    (cases_eq k 0)

pub reached_at_start : (code : List Insn) → IsReachedSoFar code 0 (set (replicate 4096 false) 0 true)
reached_at_start code = record {
  size = length-set (replicate 4096 false) 0 true ∙ length-replicate 4096 false;
  start = get_or-set_same (replicate 4096 false) 0 true false (rw (length-replicate 4096 false) (lit< tt));
  sound = only_start code;
  complete = λ from insn k before found edge. absurd (omega arith);
  earlier = λ k before begins. absurd (omega arith);
}

nothing_begins : (code : List Insn) (k : ℕ) → instruction_at code k ≡ None → ¬ IsTrue (is_begin code k)
nothing_begins code k none begins = let no : false ≡ true = rw none at begins in absurd cc

-- past an instruction that is marked: what an edge of an earlier one or of this one goes to
edge_marked : (code : List Insn) (slot next from k : ℕ) (insn other : Insn) (reached after : List Bool) → instruction_at code slot ≡ Some insn → IsMarked (IsEdge slot insn) reached after
    → ((k : ℕ) → slot < k → k < next → instruction_at code k ≡ None) → IsReachedSoFar code slot reached → from < next → instruction_at code from ≡ Some other → IsEdge from other k → get_or after k false ≡ true
edge_marked code slot next from k insn other reached after found marked inside so_far before other_found edge =
    ⊎_elim
    (λ (below : from < slot). marked.kept k (so_far.complete from other k below other_found edge))
    (λ (above : slot ≤ from). ⊎_elim
    (λ (same : from ≡ slot).
    let is : other ≡ insn = (let at : instruction_at code slot ≡ Some other = ap (instruction_at code) (sym same) ∙ other_found in cc) in
    marked.added k (subst (λ at. IsEdge at insn k) same (subst (λ it. IsEdge from it k) is edge)))
    (λ (other_slot : from ≢ slot). let none : instruction_at code from ≡ None = inside from (omega arith) before in absurd cc)
    (cases_eq from slot))
    (cases_lt from slot)

begin_reachable : (code : List Insn) (slot next k : ℕ) (reached : List Bool) → IsReachableSlot code slot → ((k : ℕ) → slot < k → k < next → instruction_at code k ≡ None) → IsReachedSoFar code slot reached
    → k < next → IsTrue (is_begin code k) → IsReachableSlot code k
begin_reachable code slot next k reached here inside so_far before begins =
    ⊎_elim
    (λ (below : k < slot). so_far.earlier k below begins)
    (λ (above : slot ≤ k). ⊎_elim
    (λ (same : k ≡ slot). subst (IsReachableSlot code) (sym same) here)
    (λ (other_slot : k ≢ slot). absurd (nothing_begins code k (inside k (omega arith) before) begins))
    (cases_eq k slot))
    (cases_lt k slot)

pub reached_next : (code : List Insn) (slot next : ℕ) (insn : Insn) (reached after : List Bool) → instruction_at code slot ≡ Some insn → get_or reached slot false ≡ true
    → IsMarked (IsEdge slot insn) reached after → length after ≡ 4096 → ((k : ℕ) → slot < k → k < next → instruction_at code k ≡ None) → IsReachedSoFar code slot reached → IsReachedSoFar code next after
reached_next code slot next insn reached after found is marked size inside so_far =
    let here : IsReachableSlot code slot = so_far.sound slot is in
    record {
      size = size;
      start = marked.kept 0 so_far.start;
      sound = λ k now. ⊎_elim (λ (before : get_or reached k false ≡ true). so_far.sound k before) (λ (edge : IsEdge slot insn k). reached_along slot insn k here found edge) (marked.no_others k now);
      complete = λ from other k before other_found edge. edge_marked code slot next from k insn other reached after found marked inside so_far before other_found edge;
      earlier = λ k before begins. begin_reachable code slot next k reached here inside so_far before begins;
    }

-- a slot to which a path leads is marked when it is looked at
marked_if_reachable : (code : List Insn) (slot k : ℕ) (reached : List Bool) → HasSoundEdges code → IsReachedSoFar code slot reached → k ≤ slot → IsReachableSlot code k → get_or reached k false ≡ true
marked_if_reachable code slot k reached edges so_far le reached_start = so_far.start
marked_if_reachable code slot k reached edges so_far le (reached_along from insn target before found edge) =
    let up : IsTarget code from target = edge_is_up code from insn target (edges from) found edge in
    so_far.complete from insn target (let more : from < target = up.up in omega arith) found edge

pub unreachable_here : (code : List Insn) (slot : ℕ) (reached : List Bool) → HasSoundEdges code → IsTrue (is_begin code slot) → get_or reached slot false ≡ false → IsReachedSoFar code slot reached → IsFirstUnreachable code slot
unreachable_here code slot reached edges begins unmarked so_far = record {
  edges = edges;
  begins = begins;
  unreachable = λ path. let marked : get_or reached slot false ≡ true = marked_if_reachable code slot slot reached edges so_far (omega arith) path in absurd cc;
  earlier_reachable = so_far.earlier;
}

pub all_reachable : (code : List Insn) (slot : ℕ) (reached : List Bool) → HasSoundEdges code → slot ≡ total_slots code → IsReachedSoFar code slot reached → HasShape code
all_reachable code slot reached edges whole so_far = record {
  edges = edges;
  reachable = λ k begins. ⊎_elim
      (λ below. so_far.earlier k below begins)
      (λ past. absurd (nothing_begins code k (past_end code k (omega arith)) begins))
      (cases_lt k slot);
}

-- one slot is marked
pub one_marked : (slots : ℕ → Type 0) (before : List Bool) (target : ℕ) → target < length before → slots target → ((k : ℕ) → slots k → k ≡ target) → IsMarked slots before (set before target true)
one_marked slots before target room is only = record {
  kept = λ k now. ⊎_elim
      (λ (same : k ≡ target). rw same (get_or-set_same before target true false room))
      (λ (other : k ≢ target). get_or-set_other before target k true false other ∙ now)
      (cases_eq k target);
  added = λ k one. rw (only k one) (get_or-set_same before target true false room);
  no_others = λ k now. ⊎_elim
      (λ (same : k ≡ target). inr (subst slots (sym same) is))
      (λ (other : k ≢ target). inl (sym (get_or-set_other before target k true false other) ∙ now))
      (cases_eq k target);
}

-- a jump has one target
pub one_target : (slot : ℕ) (insn : Insn) (target : ℕ) → jump_target slot insn ≡ Some (pos target) → (k : ℕ) → IsJump slot insn k → k ≡ target
one_target slot insn target is k jump = let found : jump_target slot insn ≡ Some (pos k) = jump in cc

-- the target of a jump that is not below 0, as a slot
pub target_slot : (slot : ℕ) (insn : Insn) (target : ℤ) → HasNoNegativeTarget slot insn → ((k : ℕ) → IsJump slot insn k → k < 4096) → jump_target slot insn ≡ Some target →
    (at : ℕ) × (target ≡ pos at) × (at < 4096)
target_slot slot insn (pos at) up targets is = (at, refl, targets at is)
target_slot slot insn (negsuc below) up targets is = absurd (up (negsuc below) is).le
