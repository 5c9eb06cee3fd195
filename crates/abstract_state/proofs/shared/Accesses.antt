-- An access that breaks no rule lies inside what it goes to.
use Rattle.std.proofs.Common.{◌≡◌, ℕ, ◌+◌, ◌-◌, ◌%◌, ◌^◌, ◌<◌, ◌≤◌, Bool, true, false, if◌then◌else◌, ◌==◌, nat_le, ℤ, pos, negsuc, List, length, take, drop, refl, sym, ◌∙◌, ap, arith, subst}
use Rattle.std.specs.Prelude.{Ok, Err, All, Option, Some, None, ◌+ℤ◌, slice_get}
use Rattle.std.specs.List.{AllByRecursion}
use Rattle.std.proofs.Math.IntN.{+ℤ_assoc}
use Rattle.std.proofs.lemmas.Bool.{leb-true, eqb-true}
use Rattle.std.proofs.lemmas.Bool.Decides.{nat_tests}
use Rattle.std.proofs.lemmas.List.{length-take-le, length-drop}
use Rattle.std.proofs.lemmas.List.Elements.{All-take, All-drop, recursion_from_All}
use Rattle.ebpf_decode.specs.declared.map.MapDef.{MapDef}
use Rattle.semantics.specs.LittleEndian.{number_of_bytes}
use Rattle.semantics.specs.MachineState.{MachineState, StackByte}
use Rattle.semantics.specs.Memory.{stack_range, stack_place, packet_range, cell_range, aligned_range, aligned_cell_range, value_size_of_map}
use Rattle.semantics.specs.Program.{Program}
use Rattle.abstract_state.specs.declared.broken_rule.BrokenRule.{BrokenRule}
use Rattle.abstract_state.specs.declared.broken_rule.BrokenRule.TheVariants.{ValueBounds, Misaligned}
use Rattle.abstract_state.specs.declared.kind.Offsets.{Offsets}
use Rattle.abstract_state.specs.States.{Checked, ◌>>=◌, value_size_of}
use Rattle.abstract_state.specs.Places.{range_within, aligned, stack_access, value_range, value_access, atomic_access}
use Rattle.abstract_state.proofs.shared.Between.{IsBetween, between}
use Rattle.abstract_state.proofs.shared.Checking.{ok_then, ok_same, ok_if}
use Rattle.abstract_state.proofs.shared.ByteNumbers.{reaches_within, bytes_below}

pub range_found : (place : ℤ) (count limit : ℕ) (why : BrokenRule) (from : ℕ) → range_within place count limit why ≡ Ok from →
    (place ≡ pos from) × (from + count ≤ limit)
range_found (pos place) count limit why from e =
    let test = ok_if (nat_le (place + count) limit) place from why e
    in let same : place ≡ from = test.1
    in let inside : place + count ≤ limit = leb-true (place + count) limit test.0
    in (ap pos same, omega arith)
range_found (negsuc below) count limit why from e = cc

pub aligned_found : (place count from : ℕ) → aligned place count ≡ Ok from → (place ≡ from) × (place % count ≡ 0)
aligned_found place count from e =
    let test = ok_if (place % count == 0) place from _ e
    in (test.1, eqb-true (place % count) 0 test.0)

pub record IsAligned (place : ℤ) (count limit from : ℕ) : Type 0 where
  pub at : place ≡ pos from
  pub inside : from + count ≤ limit
  pub multiple : from % count ≡ 0

both_found : (place : ℤ) (count limit : ℕ) (why : BrokenRule) (from : ℕ) → (range_within place count limit why >>= (λ at. aligned at count)) ≡ Ok from →
    IsAligned place count limit from
both_found place count limit why from e =
    let parts = ok_then (range_within place count limit why) (λ at. aligned at count) from e
    in let range = range_found place count limit why parts.0 parts.1.0
    in let multiple = aligned_found parts.0 count from parts.1.1
    in let same : parts.0 ≡ from = multiple.0
    in record {
      at = range.0 ∙ ap pos same;
      inside = subst (λ at. at + count ≤ limit) same range.1;
      multiple = subst (λ at. at % count ≡ 0) same multiple.1;
    }

pub stack_found : (place : ℕ) (offset : ℤ) (count from : ℕ) → stack_access place offset count ≡ Ok from → IsAligned (pos place +ℤ offset) count 512 from
stack_found place offset count from e = both_found (pos place +ℤ offset) count 512 _ from e

-- ---- values of maps, at any offset of an interval

pub record IsWithin (place : ℤ) (count limit from : ℕ) : Type 0 where
  pub at : place ≡ pos from
  pub inside : from + count ≤ limit

pub record ReachesValue (place : ℤ) (count limit : ℕ) : Type 0 where
  pub from : ℕ
  pub found : IsWithin place count limit from

pub aligned_within : (place : ℤ) (count limit from : ℕ) → IsAligned place count limit from → IsWithin place count limit from
aligned_within place count limit from found = record { at = found.at; inside = found.inside }

-- both ends of the interval lie in the value
record AreEnds (maps : List MapDef) (map : ℕ) (off : Offsets) (offset : ℤ) (count from : ℕ) : Type 0 where
  last : ℕ
  first_is : pos off.low +ℤ offset ≡ pos from
  last_is : pos off.high +ℤ offset ≡ pos last
  first_inside : from + count ≤ value_size_of (slice_get maps map)
  last_inside : last + count ≤ value_size_of (slice_get maps map)

ends_found : (maps : List MapDef) (map : ℕ) (off : Offsets) (offset : ℤ) (count from : ℕ) → value_range maps map off offset count ≡ Ok from →
    AreEnds maps map off offset count from
ends_found maps map off offset count from e =
    let first = ok_then (range_within (pos off.low +ℤ offset) count (value_size_of (slice_get maps map)) ValueBounds) (λ from.
    range_within (pos off.high +ℤ offset) count (value_size_of (slice_get maps map)) ValueBounds >>= (λ last. Ok from)) from e
    in let second = ok_then (range_within (pos off.high +ℤ offset) count (value_size_of (slice_get maps map)) ValueBounds) (λ last. Ok first.0) from first.1.1
    in let same : first.0 ≡ from = ok_same (Ok first.0) first.0 from refl second.1.1
    in let low = range_found (pos off.low +ℤ offset) count (value_size_of (slice_get maps map)) ValueBounds first.0 first.1.0
    in let high = range_found (pos off.high +ℤ offset) count (value_size_of (slice_get maps map)) ValueBounds second.0 second.1.0
    in record {
      last = second.0;
      first_is = low.0 ∙ ap pos same;
      last_is = high.0;
      first_inside = subst (λ at. at + count ≤ value_size_of (slice_get maps map)) same low.1;
      last_inside = high.1;
    }

pub value_found : (maps : List MapDef) (map : ℕ) (off : Offsets) (offset : ℤ) (count from at : ℕ) → off.low ≤ at → at ≤ off.high →
    value_access maps map off offset count ≡ Ok from → ReachesValue (pos at +ℤ offset) count (value_size_of (slice_get maps map))
value_found maps map off offset count from at least most e =
    let parts = ok_then (value_range maps map off offset count) (λ from. if off.low == off.high then aligned from count else Ok from) from e
    in let ends : AreEnds maps map off offset count parts.0 = ends_found maps map off offset count parts.0 parts.1.0
    in let there : IsBetween at offset parts.0 ends.last = between off.low off.high at parts.0 ends.last offset least most ends.first_is ends.last_is
    in let low : there.place ≤ ends.last = there.most
    in let inside : ends.last + count ≤ value_size_of (slice_get maps map) = ends.last_inside
    in record { from = there.place; found = record { at = there.is; inside = omega arith } }

only : (t : Bool) (one : Checked ℕ) (why : BrokenRule) (from : ℕ) → (if t then one else Err why) ≡ Ok from → (t ≡ true) × (one ≡ Ok from)
only true one why from e = (refl, e)
only false one why from e = cc

-- of an atomic operation the offset is a single one
pub atomic_found : (maps : List MapDef) (map : ℕ) (off : Offsets) (offset : ℤ) (count from at : ℕ) → off.low ≤ at → at ≤ off.high →
    atomic_access maps map off offset count ≡ Ok from → IsAligned (pos at +ℤ offset) count (value_size_of (slice_get maps map)) from
atomic_found maps map off offset count from at least most e =
    let parts = ok_then (value_range maps map off offset count) (λ from. if off.low == off.high then aligned from count else Err Misaligned) from e
    in let ends : AreEnds maps map off offset count parts.0 = ends_found maps map off offset count parts.0 parts.1.0
    in let one = only (off.low == off.high) (aligned parts.0 count) Misaligned from parts.1.1
    in let single : off.low ≡ off.high = eqb-true off.low off.high one.0
    in let multiple = aligned_found parts.0 count from one.1
    in let same : parts.0 ≡ from = multiple.0
    in let here : at ≡ off.low = omega arith
    in record {
      at = ap (λ n. pos n +ℤ offset) here ∙ (ends.first_is ∙ ap pos same);
      inside = subst (λ at. at + count ≤ value_size_of (slice_get maps map)) same ends.first_inside;
      multiple = subst (λ at. at % count ≡ 0) same multiple.1;
    }

-- ---- the same places, as a run counts them

pub stack_reached : (stack : List StackByte) (place : ℤ) (from count : ℕ) → length stack ≡ 512 → place ≡ pos from → from + count ≤ 512 →
    stack_range stack place count ≡ Ok from
stack_reached stack place from count long at inside = rw (at, reaches_within (from + count) stack (omega arith)) refl

-- an offset from a pointer
pub stack_moved : (at offset : ℤ) (place : ℕ) → stack_place at ≡ pos place → stack_place (at +ℤ offset) ≡ pos place +ℤ offset
stack_moved at offset place counted = sym (+ℤ_assoc (pos 512) at offset) ∙ ap (λ z. z +ℤ offset) counted

pub packet_moved : (base off from : ℕ) (offset : ℤ) → pos off +ℤ offset ≡ pos from → pos (base + off) +ℤ offset ≡ pos (base + from)
packet_moved base off from offset at = +ℤ_assoc (pos base) (pos off) offset ∙ ap (λ z. pos base +ℤ z) at

itself : (n : ℕ) → (n == n) ≡ true
itself n = grind (arith, nat_tests)

pub packet_reached : (machine : MachineState) (place : ℤ) (from count : ℕ) → place ≡ pos from → from + count ≤ length machine.frame.bytes →
    packet_range machine machine.generation place count ≡ Ok from
packet_reached machine place from count at inside =
    rw (at, itself machine.generation, reaches_within (from + count) machine.frame.bytes inside) refl

pub frame_number : (bytes : List ℕ) (from count : ℕ) → All (λ byte. byte < 256) bytes → from + count ≤ length bytes →
    number_of_bytes (take count (drop from bytes)) < 256 ^ count
frame_number bytes from count small inside =
    let long : length (drop from bytes) ≡ length bytes - from = length-drop from bytes
    in let taken : length (take count (drop from bytes)) ≡ count = length-take-le count (drop from bytes) (omega arith)
    in let each : AllByRecursion (λ byte. byte < 256) (take count (drop from bytes)) =
    recursion_from_All (λ byte. byte < 256) (take count (drop from bytes)) (All-take (λ byte. byte < 256) count (drop from bytes) (All-drop (λ byte. byte < 256) from bytes small))
    in subst (λ n. number_of_bytes (take count (drop from bytes)) < 256 ^ n) taken (bytes_below (take count (drop from bytes)) each)

-- ---- values of maps

same_size : (program : Program) (map : ℕ) (found : Option MapDef) → slice_get program.maps map ≡ found → value_size_of_map program map ≡ value_size_of found
same_size program map (Some definition) e = rw e refl
same_size program map None e = rw e refl

pub map_value_size : (program : Program) (map : ℕ) → value_size_of_map program map ≡ value_size_of (slice_get program.maps map)
map_value_size program map = same_size program map (slice_get program.maps map) refl

within_true : (a b : ℕ) → a ≤ b → nat_le a b ≡ true
within_true a b h = grind (arith, nat_tests)

zero_true : (a : ℕ) → a ≡ 0 → (a == 0) ≡ true
zero_true a h = grind (arith, nat_tests)

pub cell_reached : (program : Program) (map : ℕ) (place : ℤ) (from count : ℕ) → IsWithin place count (value_size_of (slice_get program.maps map)) from →
    cell_range program map place count ≡ Ok from
cell_reached program map place from count found =
    let inside : from + count ≤ value_size_of_map program map = rw (map_value_size program map) found.inside
    in rw (found.at, within_true (from + count) (value_size_of_map program map) inside) refl

-- an atomic operation's place is also at a multiple of its size
pub aligned_cell_reached : (program : Program) (map : ℕ) (place : ℤ) (from count : ℕ) → IsAligned place count (value_size_of (slice_get program.maps map)) from →
    aligned_cell_range program map place count ≡ Ok from
aligned_cell_reached program map place from count found =
    ap (λ range. aligned_range range count) (cell_reached program map place from count (aligned_within place count (value_size_of (slice_get program.maps map)) from found)) ∙ rw (zero_true (from % count) found.multiple) refl
