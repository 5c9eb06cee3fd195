-- The laws of the structure.
use Rattle.std.proofs.Common.{◌≡◌, ℕ, ◌<◌, List, Some, None, refl, sym, ap, ◌∙◌, arith}
use Rattle.ebpf_decode.specs.declared.insn.Insn.{Insn}
use Rattle.image_shape.specs.declared.fault.ShapeFault.{ShapeFault}
use Rattle.image_shape.specs.declared.fault.ShapeFault.TheVariants.{JumpBackward, JumpOutside, JumpIntoWide, FallsOff, Unreachable}
use Rattle.image_shape.specs.Laws.{EdgesGoUp, HasNoFault, HasOneFault}
use Rattle.image_shape.specs.Structure.{fault_at, HasSoundEdges, HasShape, IsFirstFault, IsFirstBadEdge, IsFirstUnreachable}
use Rattle.image_shape.proofs.shared.FaultLemmas.{IsTarget, edge_is_up}

pub edges_go_up : EdgesGoUp
edges_go_up code slot insn target shape found edge =
    let up : IsTarget code slot target = edge_is_up code slot insn target (shape.edges slot) found edge in (up.up, up.begins)

-- ---- a first fault is one of an edge, or of reaching

data FaultView (code : List Insn) (fault : ShapeFault) : Type 0 where
  bad_edge : (slot : ℕ) → IsFirstBadEdge code slot fault → FaultView code fault
  unreached : (slot : ℕ) → fault ≡ Unreachable slot → IsFirstUnreachable code slot → FaultView code fault

view : (code : List Insn) (fault : ShapeFault) → IsFirstFault code fault → FaultView code fault
view code (JumpBackward slot) first = bad_edge slot first
view code (JumpOutside slot) first = bad_edge slot first
view code (JumpIntoWide slot) first = bad_edge slot first
view code (FallsOff slot) first = bad_edge slot first
view code (Unreachable slot) first = unreached slot refl first

sound_or_bad : (code : List Insn) (slot : ℕ) (fault : ShapeFault) → HasSoundEdges code → IsFirstBadEdge code slot fault → ⊥
sound_or_bad code slot fault edges bad = let none : fault_at code slot ≡ None = edges slot in let some : fault_at code slot ≡ Some fault = bad.bad in cc

no_fault_view : (code : List Insn) (fault : ShapeFault) → HasShape code → FaultView code fault → ⊥
no_fault_view code fault shape (bad_edge slot bad) = sound_or_bad code slot fault shape.edges bad
no_fault_view code fault shape (unreached slot is first) = first.unreachable (shape.reachable slot first.begins)

pub no_fault : HasNoFault
no_fault code fault shape first = no_fault_view code fault shape (view code fault first)

-- ---- one first fault

not_before : (code : List Insn) (slot later : ℕ) (one other : ShapeFault) → IsFirstBadEdge code slot one → IsFirstBadEdge code later other → ¬ (slot < later)
not_before code slot later one other first second lt =
    let none : fault_at code slot ≡ None = second.earlier_good slot lt in let some : fault_at code slot ≡ Some one = first.bad in cc

one_bad : (code : List Insn) (slot same : ℕ) (one other : ShapeFault) → IsFirstBadEdge code slot one → IsFirstBadEdge code same other → one ≡ other
one_bad code slot same one other first second =
    let low : ¬ (slot < same) = not_before code slot same one other first second in
    let high : ¬ (same < slot) = not_before code same slot other one second first in
    let at : slot ≡ same = omega (arith, low, high) in
    let some : fault_at code slot ≡ Some one = first.bad in
    let again : fault_at code slot ≡ Some other = ap (fault_at code) at ∙ second.bad in
    cc

not_reached_before : (code : List Insn) (slot later : ℕ) → IsFirstUnreachable code slot → IsFirstUnreachable code later → ¬ (slot < later)
not_reached_before code slot later first second lt = first.unreachable (second.earlier_reachable slot lt first.begins)

one_unreached : (code : List Insn) (slot same : ℕ) → IsFirstUnreachable code slot → IsFirstUnreachable code same → slot ≡ same
one_unreached code slot same first second =
    let low : ¬ (slot < same) = not_reached_before code slot same first second in
    let high : ¬ (same < slot) = not_reached_before code same slot second first in
    omega (arith, low, high)

one_view : (code : List Insn) (one other : ShapeFault) → FaultView code one → FaultView code other → one ≡ other
one_view code one other (bad_edge slot bad) (bad_edge same again) = one_bad code slot same one other bad again
one_view code one other (bad_edge slot bad) (unreached same is first) = absurd (sound_or_bad code slot one first.edges bad)
one_view code one other (unreached slot is first) (bad_edge same again) = absurd (sound_or_bad code same other first.edges again)
one_view code one other (unreached slot is first) (unreached same is_other second) = is ∙ ap Unreachable (one_unreached code slot same first second) ∙ sym is_other

pub one_fault : HasOneFault
one_fault code one other first second = one_view code one other (view code one first) (view code other second)
