-- An allowed test has an outcome, and what its edge says is true.
use Rattle.std.proofs.Common.{◌≡◌, inl, inr, ℕ, suc, ◌+◌, ◌≤◌, Bool, true, false, not, if◌then◌else◌, ℤ, pos, List, length, Option, Some, None, Ok, refl, sym, ◌∙◌, ap, subst, arith}
use Rattle.std.specs.Ordering.{int_eq}
use Rattle.std.proofs.lemmas.Bool.{false≢true, eq-eqb}
use Rattle.std.proofs.lemmas.Bool.Decides.{Decides-int_eq}
use Rattle.isa.specs.Test.{test_taken}
use Rattle.isa.specs.declared.operation.Width.{Width}
use Rattle.isa.specs.declared.operation.Width.TheVariants.{Bits64}
use Rattle.isa.specs.declared.operation.Test.{Test}
use Rattle.isa.specs.declared.operation.Test.TheVariants.{Eq, Gt, Ge, Ne, Lt, Le}
use Rattle.isa.specs.declared.operation.SourceOperand.{SourceOperand}
use Rattle.isa.specs.declared.operation.SourceOperand.TheVariants.{Imm}
use Rattle.isa.specs.declared.operation.Register.{Register}
use Rattle.ebpf_decode.specs.declared.map.MapDef.{MapDef}
use Rattle.semantics.specs.LittleEndian.{reaches}
use Rattle.semantics.specs.RegisterValue.{RegisterValue, Number, PacketPointer}
use Rattle.semantics.specs.RegisterValue as meaning
use Rattle.semantics.specs.MachineState.{MachineState}
use Rattle.semantics.specs.Step.{Outcome}
use Rattle.semantics.specs.Arithmetic.{source_value}
use Rattle.semantics.specs.Comparison.{place_test, test_from_end, current_place_test, jump_outcome}
use Rattle.abstract_scalar.specs.declared.interval.Interval.{Interval}
use Rattle.abstract_scalar.specs.Intervals.{is_single}
use Rattle.abstract_scalar.specs.Cuts.{refine_of}
use Rattle.abstract_scalar.proofs.shared.Soundness.{single_is, refine_covers}
use Rattle.abstract_state.specs.declared.kind.Kind.{Kind}
use Rattle.abstract_state.specs.declared.kind.Kind.TheVariants.{Unset, Scalar, Ctx, Stack, Packet, PacketEnd, Map, ValueOrNull, Value}
use Rattle.abstract_state.specs.declared.fact.Fact.{Fact}
use Rattle.abstract_state.specs.declared.broken_rule.BrokenRule.TheVariants.{WrongKind}
use Rattle.abstract_state.specs.Arithmetic.{blamed}
use Rattle.abstract_state.specs.Refinement.{is_null_test, is_order, against_scalar, against_end, against_packet, allowed_test, fact_of, number_cut}
use Rattle.abstract_state.specs.Abstraction.{Ids, Held, KindScope, KindCovers, IsNumberIn, IsPacketPlace, IsLookedUp, kind_scope_of}
use Rattle.abstract_state.proofs.shared.Inverting.{err_not_ok, ok_if}
use Rattle.abstract_state.proofs.Telling.{FactHolds}
use Rattle.abstract_state.proofs.shared.Reaching.{has_reached}

-- what an edge says is true: the cut represents the number, or the fact holds
abbrev pub IsTold : KindScope → Option Kind → Fact → RegisterValue → Type 0
IsTold s (Some kind) fact u = KindCovers s kind u
IsTold s None fact u = FactHolds s fact

-- the outcome of a test
pub record Edge (s : KindScope) (width : Width) (test : Test) (first second : Kind) (u : RegisterValue) (outcome : Outcome Bool) : Type 0 where
  pub taken : Bool
  pub is : outcome ≡ Ok taken
  pub told : IsTold s (number_cut width test taken first second) (fact_of test taken first second) u

-- ---- numbers

where_single : (s : KindScope) (t : Bool) (i j : Interval) (u : RegisterValue) → (t ≡ true → IsNumberIn i u) → IsNumberIn j u → KindCovers s (if t then Scalar i else Scalar j) u
where_single s true i j u p q = p refl
where_single s false i j u p q = q

numbers_edge : (s : KindScope) (machine : MachineState) (width : Width) (test : Test) (i j : Interval) (u v : RegisterValue) → IsNumberIn i u → IsNumberIn j v →
    Edge s width test (Scalar i) (Scalar j) u (jump_outcome machine width test u v)
numbers_edge s machine width test i j u v c d = record {
  taken = test_taken width test c.number d.number;
  is = ap (λ x. jump_outcome machine width test x v) c.is ∙ ap (jump_outcome machine width test (Number c.number)) d.is;
  told = where_single s (is_single j) (refine_of width test i j.low (test_taken width test c.number d.number)) i u
      (λ t. let e : d.number ≡ j.low = single_is j d.number t d.within
      in record {
        number = c.number;
        is = c.is;
        within = refine_covers width test i j.low c.number (test_taken width test c.number d.number) c.word c.within (ap (test_taken width test c.number) (sym e));
        word = c.word;
      }) c;
}

number_edge : (s : KindScope) (machine : MachineState) (width : Width) (test : Test) (i : Interval) (second : Kind) (u v : RegisterValue) (source : Register) →
    IsNumberIn i u → KindCovers s second v → against_scalar second source ≡ Ok tt → Edge s width test (Scalar i) second u (jump_outcome machine width test u v)
number_edge s machine width test i (Scalar j) u v source c d e = numbers_edge s machine width test i j u v c d
number_edge s machine width test i Unset u v source c d e = absurd (err_not_ok (WrongKind source) tt e)
number_edge s machine width test i Ctx u v source c d e = absurd (err_not_ok (WrongKind source) tt e)
number_edge s machine width test i (Stack place) u v source c d e = absurd (err_not_ok (WrongKind source) tt e)
number_edge s machine width test i (Packet id off range) u v source c d e = absurd (err_not_ok (WrongKind source) tt e)
number_edge s machine width test i PacketEnd u v source c d e = absurd (err_not_ok (WrongKind source) tt e)
number_edge s machine width test i (Map map) u v source c d e = absurd (err_not_ok (WrongKind source) tt e)
number_edge s machine width test i (ValueOrNull map id) u v source c d e = absurd (err_not_ok (WrongKind source) tt e)
number_edge s machine width test i (Value map id off) u v source c d e = absurd (err_not_ok (WrongKind source) tt e)

-- ---- null tests

equal_edge : (s : KindScope) (machine : MachineState) (map id : ℕ) (second : Kind) (u : RegisterValue) → IsLookedUp s map id u →
    Edge s Bits64 Eq (ValueOrNull map id) second u (jump_outcome machine Bits64 Eq u (Number 0))
equal_edge s machine map id second u (inl c) =
    record { taken = true; is = ap (λ x. jump_outcome machine Bits64 Eq x (Number 0)) c.is; told = c.found }
equal_edge s machine map id second u (inr c) =
    record { taken = false; is = ap (λ x. jump_outcome machine Bits64 Eq x (Number 0)) c.is; told = (c.cell, c.found) }

differ_edge : (s : KindScope) (machine : MachineState) (map id : ℕ) (second : Kind) (u : RegisterValue) → IsLookedUp s map id u →
    Edge s Bits64 Ne (ValueOrNull map id) second u (jump_outcome machine Bits64 Ne u (Number 0))
differ_edge s machine map id second u (inl c) =
    record { taken = false; is = ap (λ x. jump_outcome machine Bits64 Ne x (Number 0)) c.is; told = c.found }
differ_edge s machine map id second u (inr c) =
    record { taken = true; is = ap (λ x. jump_outcome machine Bits64 Ne x (Number 0)) c.is; told = (c.cell, c.found) }

is_zero : (machine : MachineState) (immediate : ℤ) → int_eq immediate (pos 0) ≡ true → Number 0 ≡ source_value machine (Imm immediate)
is_zero machine immediate t = ap (λ z. source_value machine (Imm z)) (sym ((Decides-int_eq immediate (pos 0)).0 t))

null_edge : (s : KindScope) (machine : MachineState) (width : Width) (test : Test) (map id : ℕ) (second : Kind) (u : RegisterValue) (source : SourceOperand) →
    IsLookedUp s map id u → is_null_test width test source ≡ true →
    Edge s width test (ValueOrNull map id) second u (jump_outcome machine width test u (source_value machine source))
null_edge s machine Bits64 Eq map id second u (Imm immediate) c t =
    subst (λ v. Edge s Bits64 Eq (ValueOrNull map id) second u (jump_outcome machine Bits64 Eq u v)) (is_zero machine immediate t)
    (equal_edge s machine map id second u c)
null_edge s machine Bits64 Ne map id second u (Imm immediate) c t =
    subst (λ v. Edge s Bits64 Ne (ValueOrNull map id) second u (jump_outcome machine Bits64 Ne u v)) (is_zero machine immediate t)
    (differ_edge s machine map id second u c)
null_edge s machine width test map id second u source c t = absurd (false≢true t)

-- ---- bounds of the packet

-- both are of the packet as it now is
current : (machine : MachineState) (width : Width) (test : Test) (place : ℤ) →
    current_place_test machine machine.generation machine.generation width test place ≡ place_test width test place machine.frame.bytes
current machine width test place = rw (eq-eqb machine.generation machine.generation refl) refl

-- a place that is reached, and what was to be shown of it
before : (machine : MachineState) (base off : ℕ) → reaches (suc (base + off)) machine.frame.bytes ≡ true → base + (off + 1) ≤ length machine.frame.bytes
before machine base off h = let l : suc (base + off) ≤ length machine.frame.bytes = has_reached (suc (base + off)) machine.frame.bytes h in omega arith

at_most : (machine : MachineState) (base off : ℕ) → reaches (base + off) machine.frame.bytes ≡ true → base + off ≤ length machine.frame.bytes
at_most machine base off h = has_reached (base + off) machine.frame.bytes h

-- what is known where a test is taken, or where it isn't
where_taken : (s : KindScope) (test : Test) (t : Bool) (first second : Kind) → FactHolds s (fact_of test false first second) →
    (t ≡ true → FactHolds s (fact_of test true first second)) → FactHolds s (fact_of test t first second)
where_taken s test true first second p q = q refl
where_taken s test false first second p q = p

where_fallen : (s : KindScope) (test : Test) (t : Bool) (first second : Kind) → FactHolds s (fact_of test true first second) →
    (t ≡ true → FactHolds s (fact_of test false first second)) → FactHolds s (fact_of test (not t) first second)
where_fallen s test true first second p q = q refl
where_fallen s test false first second p q = p

packet_edge : (maps : List MapDef) (held : Held) (ids : Ids) (machine : MachineState) (width : Width) (test : Test) (id off range : ℕ) →
    is_order width test ≡ true →
    Edge (kind_scope_of maps held ids machine) width test (Packet id off range) PacketEnd (PacketPointer machine.generation (pos (ids.base id + off)))
    (place_test width test (pos (ids.base id + off)) machine.frame.bytes)
packet_edge maps held ids machine Bits64 Gt id off range t = record {
  taken = not (reaches (ids.base id + off) machine.frame.bytes);
  is = refl;
  told = where_fallen (kind_scope_of maps held ids machine) Gt (reaches (ids.base id + off) machine.frame.bytes) (Packet id off range) PacketEnd tt
      (λ h. at_most machine (ids.base id) off h);
}
packet_edge maps held ids machine Bits64 Ge id off range t = record {
  taken = not (reaches (suc (ids.base id + off)) machine.frame.bytes);
  is = refl;
  told = where_fallen (kind_scope_of maps held ids machine) Ge (reaches (suc (ids.base id + off)) machine.frame.bytes) (Packet id off range) PacketEnd tt
      (λ h. before machine (ids.base id) off h);
}
packet_edge maps held ids machine Bits64 Lt id off range t = record {
  taken = reaches (suc (ids.base id + off)) machine.frame.bytes;
  is = refl;
  told = where_taken (kind_scope_of maps held ids machine) Lt (reaches (suc (ids.base id + off)) machine.frame.bytes) (Packet id off range) PacketEnd tt
      (λ h. before machine (ids.base id) off h);
}
packet_edge maps held ids machine Bits64 Le id off range t = record {
  taken = reaches (ids.base id + off) machine.frame.bytes;
  is = refl;
  told = where_taken (kind_scope_of maps held ids machine) Le (reaches (ids.base id + off) machine.frame.bytes) (Packet id off range) PacketEnd tt
      (λ h. at_most machine (ids.base id) off h);
}
packet_edge maps held ids machine width test id off range t = absurd (false≢true t)

end_edge : (maps : List MapDef) (held : Held) (ids : Ids) (machine : MachineState) (width : Width) (test : Test) (id off range : ℕ) →
    is_order width test ≡ true →
    Edge (kind_scope_of maps held ids machine) width test PacketEnd (Packet id off range) (meaning.PacketEnd machine.generation)
    (place_test width (test_from_end test) (pos (ids.base id + off)) machine.frame.bytes)
end_edge maps held ids machine Bits64 Gt id off range t = record {
  taken = reaches (suc (ids.base id + off)) machine.frame.bytes;
  is = refl;
  told = where_taken (kind_scope_of maps held ids machine) Gt (reaches (suc (ids.base id + off)) machine.frame.bytes) PacketEnd (Packet id off range) tt
      (λ h. before machine (ids.base id) off h);
}
end_edge maps held ids machine Bits64 Ge id off range t = record {
  taken = reaches (ids.base id + off) machine.frame.bytes;
  is = refl;
  told = where_taken (kind_scope_of maps held ids machine) Ge (reaches (ids.base id + off) machine.frame.bytes) PacketEnd (Packet id off range) tt
      (λ h. at_most machine (ids.base id) off h);
}
end_edge maps held ids machine Bits64 Lt id off range t = record {
  taken = not (reaches (ids.base id + off) machine.frame.bytes);
  is = refl;
  told = where_fallen (kind_scope_of maps held ids machine) Lt (reaches (ids.base id + off) machine.frame.bytes) PacketEnd (Packet id off range) tt
      (λ h. at_most machine (ids.base id) off h);
}
end_edge maps held ids machine Bits64 Le id off range t = record {
  taken = not (reaches (suc (ids.base id + off)) machine.frame.bytes);
  is = refl;
  told = where_fallen (kind_scope_of maps held ids machine) Le (reaches (suc (ids.base id + off)) machine.frame.bytes) PacketEnd (Packet id off range) tt
      (λ h. before machine (ids.base id) off h);
}
end_edge maps held ids machine width test id off range t = absurd (false≢true t)

-- a place of the packet against its end
against_the_end : (maps : List MapDef) (held : Held) (ids : Ids) (machine : MachineState) (width : Width) (test : Test) (id off range : ℕ) (second : Kind)
    (u v : RegisterValue) (source : Register) → IsPacketPlace (kind_scope_of maps held ids machine) id off range u →
    KindCovers (kind_scope_of maps held ids machine) second v → is_order width test ≡ true → against_end second source ≡ Ok tt →
    Edge (kind_scope_of maps held ids machine) width test (Packet id off range) second u (jump_outcome machine width test u v)
against_the_end maps held ids machine width test id off range PacketEnd u v source c d t e =
    subst (λ y. Edge (kind_scope_of maps held ids machine) width test (Packet id off range) PacketEnd u (jump_outcome machine width test u y)) (sym d)
    (subst (λ x. Edge (kind_scope_of maps held ids machine) width test (Packet id off range) PacketEnd x
    (jump_outcome machine width test x (meaning.PacketEnd machine.generation))) (sym c.is)
    (rw (current machine width test (pos (ids.base id + off))) (packet_edge maps held ids machine width test id off range t)))
against_the_end maps held ids machine width test id off range Unset u v source c d t e = absurd (err_not_ok (WrongKind source) tt e)
against_the_end maps held ids machine width test id off range (Scalar j) u v source c d t e = absurd (err_not_ok (WrongKind source) tt e)
against_the_end maps held ids machine width test id off range Ctx u v source c d t e = absurd (err_not_ok (WrongKind source) tt e)
against_the_end maps held ids machine width test id off range (Stack place) u v source c d t e = absurd (err_not_ok (WrongKind source) tt e)
against_the_end maps held ids machine width test id off range (Packet other place known) u v source c d t e = absurd (err_not_ok (WrongKind source) tt e)
against_the_end maps held ids machine width test id off range (Map map) u v source c d t e = absurd (err_not_ok (WrongKind source) tt e)
against_the_end maps held ids machine width test id off range (ValueOrNull map other) u v source c d t e = absurd (err_not_ok (WrongKind source) tt e)
against_the_end maps held ids machine width test id off range (Value map other place) u v source c d t e = absurd (err_not_ok (WrongKind source) tt e)

-- the packet's end against a place of it
against_a_place : (maps : List MapDef) (held : Held) (ids : Ids) (machine : MachineState) (width : Width) (test : Test) (second : Kind)
    (u v : RegisterValue) (source : Register) → u ≡ meaning.PacketEnd machine.generation →
    KindCovers (kind_scope_of maps held ids machine) second v → is_order width test ≡ true → against_packet second source ≡ Ok tt →
    Edge (kind_scope_of maps held ids machine) width test PacketEnd second u (jump_outcome machine width test u v)
against_a_place maps held ids machine width test (Packet id off range) u v source c d t e =
    subst (λ y. Edge (kind_scope_of maps held ids machine) width test PacketEnd (Packet id off range) u (jump_outcome machine width test u y)) (sym d.is)
    (subst (λ x. Edge (kind_scope_of maps held ids machine) width test PacketEnd (Packet id off range) x
    (jump_outcome machine width test x (PacketPointer machine.generation (pos (ids.base id + off))))) (sym c)
    (rw (current machine width (test_from_end test) (pos (ids.base id + off))) (end_edge maps held ids machine width test id off range t)))
against_a_place maps held ids machine width test Unset u v source c d t e = absurd (err_not_ok (WrongKind source) tt e)
against_a_place maps held ids machine width test (Scalar j) u v source c d t e = absurd (err_not_ok (WrongKind source) tt e)
against_a_place maps held ids machine width test Ctx u v source c d t e = absurd (err_not_ok (WrongKind source) tt e)
against_a_place maps held ids machine width test (Stack place) u v source c d t e = absurd (err_not_ok (WrongKind source) tt e)
against_a_place maps held ids machine width test PacketEnd u v source c d t e = absurd (err_not_ok (WrongKind source) tt e)
against_a_place maps held ids machine width test (Map map) u v source c d t e = absurd (err_not_ok (WrongKind source) tt e)
against_a_place maps held ids machine width test (ValueOrNull map id) u v source c d t e = absurd (err_not_ok (WrongKind source) tt e)
against_a_place maps held ids machine width test (Value map id off) u v source c d t e = absurd (err_not_ok (WrongKind source) tt e)

-- ---- every allowed test

pub edge_of : (maps : List MapDef) (held : Held) (ids : Ids) (machine : MachineState) (width : Width) (test : Test) (first second : Kind) (u : RegisterValue)
    (dst : Register) (source : SourceOperand) → KindCovers (kind_scope_of maps held ids machine) first u →
    KindCovers (kind_scope_of maps held ids machine) second (source_value machine source) → allowed_test width test first second dst source ≡ Ok tt →
    Edge (kind_scope_of maps held ids machine) width test first second u (jump_outcome machine width test u (source_value machine source))
edge_of maps held ids machine width test (Scalar i) second u dst source c d e =
    number_edge (kind_scope_of maps held ids machine) machine width test i second u (source_value machine source) (blamed dst source) c d e
edge_of maps held ids machine width test (ValueOrNull map id) second u dst source c d e =
    let allowed = ok_if (is_null_test width test source) (Ok tt) (WrongKind dst) tt e
    in null_edge (kind_scope_of maps held ids machine) machine width test map id second u source c allowed.holds
edge_of maps held ids machine width test (Packet id off range) second u dst source c d e =
    let allowed = ok_if (is_order width test) (against_end second (blamed dst source)) (WrongKind dst) tt e
    in against_the_end maps held ids machine width test id off range second u (source_value machine source) (blamed dst source) c d allowed.holds allowed.next
edge_of maps held ids machine width test PacketEnd second u dst source c d e =
    let allowed = ok_if (is_order width test) (against_packet second (blamed dst source)) (WrongKind dst) tt e
    in against_a_place maps held ids machine width test second u (source_value machine source) (blamed dst source) c d allowed.holds allowed.next
edge_of maps held ids machine width test Unset second u dst source c d e = absurd (err_not_ok (WrongKind dst) tt e)
edge_of maps held ids machine width test Ctx second u dst source c d e = absurd (err_not_ok (WrongKind dst) tt e)
edge_of maps held ids machine width test (Stack place) second u dst source c d e = absurd (err_not_ok (WrongKind dst) tt e)
edge_of maps held ids machine width test (Map map) second u dst source c d e = absurd (err_not_ok (WrongKind dst) tt e)
edge_of maps held ids machine width test (Value map id off) second u dst source c d e = absurd (err_not_ok (WrongKind dst) tt e)
