-- The entry states of the program that adds a frame's last byte and a map's number, slot by slot, and that no instruction breaks a rule.
use Rattle.std.proofs.Common.{rules, inl, ◌≡◌, ℕ, zero, suc, List, [], ◌∷◌, Option, Some, None, refl, sym, ◌∙◌, subst, arith, pos, negsuc}
use Rattle.std.specs.Prelude.{IsOk, IsTrue, true, false}
use Rattle.isa.specs.declared.operation.Width.TheVariants.{Bits64}
use Rattle.isa.specs.declared.operation.Size.TheVariants.{U8, U32, U64}
use Rattle.isa.specs.declared.operation.SourceOperand.TheVariants.{Imm, Reg}
use Rattle.isa.specs.declared.operation.AluOp.TheVariants.{Add, Mov}
use Rattle.isa.specs.declared.operation.Test.TheVariants.{Eq, Gt}
use Rattle.isa.specs.declared.operation.Register.TheVariants.{R0, R1, R2, R3, R4, R6, R7, R10}
use Rattle.ebpf_decode.specs.declared.insn.Insn.{Insn}
use Rattle.ebpf_decode.specs.declared.insn.Insn.TheVariants.{Alu, JumpIf, Ldx, St, Ldmap, CallHelper, Exit}
use Rattle.ebpf_decode.specs.declared.map.MapDef.{MapDef}
use Rattle.ebpf_decode.specs.declared.map.MapKind.TheVariants.{Array}
use Rattle.ebpf_decode.specs.declared.version.Version.TheVariants.{V1}
use Rattle.ebpf_decode.specs.InstructionEncoding.{slot_count, FieldsFit}
use Rattle.ebpf_decode.specs.ImageContents.{IsEncodable}
use Rattle.ebpf_decode.specs.Versions.{is_in_version}
use Rattle.ebpf_decode.specs.Jumps.{jump_distance}
use Rattle.semantics.specs.Program.{instruction_at}
use Rattle.semantics.specs.SystemRows.{one_map, first_path}
use Rattle.abstract_scalar.specs.Intervals.{constant_of, full_of}
use Rattle.abstract_state.specs.declared.kind.Kind.TheVariants.{Scalar, Stack, Packet, PacketEnd, Map, ValueOrNull}
use Rattle.abstract_state.specs.declared.fact.Fact.TheVariants.{Nothing, Null, Range}
use Rattle.abstract_state.specs.declared.state.State.{State}
use Rattle.abstract_state.specs.States.{opening_state, with_kind}
use Rattle.abstract_state.specs.Words.{loaded_number}
use Rattle.abstract_state.specs.Access.{stack_stored}
use Rattle.abstract_state.specs.Calls.{after_return}
use Rattle.abstract_state.specs.Facts.{told}
use Rattle.abstract_state.specs.Join.{join_of}
use Rattle.abstract_state.specs.Flow.{flow_of}
use Rattle.image_shape.specs.Edges.{falls_through, is_begin, IsReachableSlot, reached_start, reached_along}
use Rattle.image_shape.specs.Structure.{HasSoundEdges}
use Rattle.verifier.specs.Readers.{only_reads}
use Rattle.verifier.specs.Dataflow.{known_at, PassesChecks, AreEntryStates, Accepts}
use Rattle.verifier.specs.Answers.{AcceptedIsSafe}
use Rattle.guarantees.specs.SafeRow.{SafeRow}

abbrev row_maps : List MapDef
row_maps = one_map Array

abbrev state_0 : State
state_0 = opening_state V1

abbrev state_1 : State
state_1 = with_kind state_0 R2 (Packet 0 0 0)

abbrev state_2 : State
state_2 = with_kind state_1 R3 PacketEnd

abbrev state_3 : State
state_3 = with_kind state_2 R4 (Packet 0 0 0)

abbrev state_4 : State
state_4 = with_kind state_3 R4 (Packet 0 14 0)

abbrev state_5 : State
state_5 = with_kind state_4 R0 (Scalar (constant_of 2))

abbrev state_6 : State
state_6 = told (Range 0 14) state_5

abbrev state_7 : State
state_7 = with_kind state_6 R6 (loaded_number U8)

abbrev state_8 : State
state_8 = stack_stored state_7 U32 508 (Scalar (constant_of 0))

abbrev state_9 : State
state_9 = with_kind state_8 R2 (Stack 512)

abbrev state_10 : State
state_10 = with_kind state_9 R2 (Stack 508)

abbrev state_12 : State
state_12 = with_kind state_10 R1 (Map 0)

abbrev state_13 : State
state_13 = after_return (ValueOrNull 0 12) state_12

abbrev state_14 : State
state_14 = told (Null 12 false) state_13

abbrev state_15 : State
state_15 = with_kind state_14 R7 (loaded_number U64)

abbrev state_16 : State
state_16 = with_kind state_15 R6 (Scalar (full_of 64))

abbrev state_17 : State
state_17 = join_of (join_of (told Nothing state_5) (told (Null 12 true) state_13)) (with_kind state_16 R0 (Scalar (full_of 64)))

abbrev row_states : List (Option State)
row_states =
    Some state_0 ∷ Some state_1 ∷ Some state_2 ∷ Some state_3 ∷ Some state_4 ∷ Some state_5 ∷ Some state_6 ∷ Some state_7 ∷ Some state_8 ∷ Some state_9 ∷ Some state_10 ∷ None ∷ Some state_12 ∷ Some state_13 ∷ Some state_14 ∷ Some state_15 ∷ Some state_16 ∷ Some state_17 ∷ []

some_same : {A : Type 0} (one other : A) → Some one ≡ Some other → one ≡ other
some_same one other e = cc

reads_by : (slot : ℕ) (insn : Insn) (state : State) (other_insn : Insn) (other_state : State) → instruction_at first_path slot ≡ Some insn
    → known_at row_states slot ≡ Some state → instruction_at first_path slot ≡ Some other_insn → known_at row_states slot ≡ Some other_state
    → IsTrue (only_reads state insn) → IsTrue (only_reads other_state other_insn)
reads_by slot insn state other_insn other_state at known other_at other_known ok =
    let same_insn = some_same insn other_insn (sym at ∙ other_at) in
    let same_state = some_same state other_state (sym known ∙ other_known) in
    subst (λ s. IsTrue (only_reads s other_insn)) same_state (subst (λ i. IsTrue (only_reads state i)) same_insn ok)

passes_by : (slot : ℕ) (insn : Insn) (state : State) → instruction_at first_path slot ≡ Some insn → known_at row_states slot ≡ Some state
    → IsOk (flow_of row_maps state slot insn) → PassesChecks row_maps first_path row_states slot
passes_by slot insn state at known ok = λ other_insn other_state other_at other_known.
    let same_insn = some_same insn other_insn (sym at ∙ other_at) in
    let same_state = some_same state other_state (sym known ∙ other_known) in
    subst (λ s. IsOk (flow_of row_maps s slot other_insn)) same_state (subst (λ i. IsOk (flow_of row_maps state slot i)) same_insn ok)

nothing_there : {A : Type 0} (x : A) → None ≡ Some x → ⊥
nothing_there x e = cc

passes : (slot : ℕ) → PassesChecks row_maps first_path row_states slot
unfolding slot_count
passes zero = passes_by 0 (Ldx U32 R2 R1 (pos 0)) state_0 refl refl refl
passes (suc zero) = passes_by 1 (Ldx U32 R3 R1 (pos 4)) state_1 refl refl refl
passes (suc (suc zero)) = passes_by 2 (Alu Bits64 Mov R4 (Reg R2)) state_2 refl refl refl
passes (suc (suc (suc zero))) = passes_by 3 (Alu Bits64 Add R4 (Imm (pos 14))) state_3 refl refl refl
passes (suc (suc (suc (suc zero)))) = passes_by 4 (Alu Bits64 Mov R0 (Imm (pos 2))) state_4 refl refl refl
passes (suc (suc (suc (suc (suc zero))))) = passes_by 5 (JumpIf Bits64 Gt R4 (Reg R3) (pos 11)) state_5 refl refl refl
passes (suc (suc (suc (suc (suc (suc zero)))))) = passes_by 6 (Ldx U8 R6 R2 (pos 13)) state_6 refl refl refl
passes (suc (suc (suc (suc (suc (suc (suc zero))))))) = passes_by 7 (St U32 R10 (negsuc 3) (pos 0)) state_7 refl refl refl
passes (suc (suc (suc (suc (suc (suc (suc (suc zero)))))))) = passes_by 8 (Alu Bits64 Mov R2 (Reg R10)) state_8 refl refl refl
passes (suc (suc (suc (suc (suc (suc (suc (suc (suc zero))))))))) = passes_by 9 (Alu Bits64 Add R2 (Imm (negsuc 3))) state_9 refl refl refl
passes (suc (suc (suc (suc (suc (suc (suc (suc (suc (suc zero)))))))))) = passes_by 10 (Ldmap R1 (pos 0)) state_10 refl refl refl
passes (suc (suc (suc (suc (suc (suc (suc (suc (suc (suc (suc zero))))))))))) = λ insn state at known. absurd (nothing_there insn at)
passes (suc (suc (suc (suc (suc (suc (suc (suc (suc (suc (suc (suc zero)))))))))))) = passes_by 12 (CallHelper (pos 1)) state_12 refl refl refl
passes (suc (suc (suc (suc (suc (suc (suc (suc (suc (suc (suc (suc (suc zero))))))))))))) = passes_by 13 (JumpIf Bits64 Eq R0 (Imm (pos 0)) (pos 3)) state_13 refl refl refl
passes (suc (suc (suc (suc (suc (suc (suc (suc (suc (suc (suc (suc (suc (suc zero)))))))))))))) = passes_by 14 (Ldx U64 R7 R0 (pos 0)) state_14 refl refl refl
passes (suc (suc (suc (suc (suc (suc (suc (suc (suc (suc (suc (suc (suc (suc (suc zero))))))))))))))) = passes_by 15 (Alu Bits64 Add R6 (Reg R7)) state_15 refl refl refl
passes (suc (suc (suc (suc (suc (suc (suc (suc (suc (suc (suc (suc (suc (suc (suc (suc zero)))))))))))))))) = passes_by 16 (Alu Bits64 Mov R0 (Reg R6)) state_16 refl refl refl
passes (suc (suc (suc (suc (suc (suc (suc (suc (suc (suc (suc (suc (suc (suc (suc (suc (suc zero))))))))))))))))) = passes_by 17 (Exit) state_17 refl refl refl
passes (suc (suc (suc (suc (suc (suc (suc (suc (suc (suc (suc (suc (suc (suc (suc (suc (suc (suc slot)))))))))))))))))) = λ insn state at known. absurd (nothing_there insn at)

edges : HasSoundEdges first_path
unfolding slot_count falls_through jump_distance
edges zero = refl
edges (suc zero) = refl
edges (suc (suc zero)) = refl
edges (suc (suc (suc zero))) = refl
edges (suc (suc (suc (suc zero)))) = refl
edges (suc (suc (suc (suc (suc zero))))) = refl
edges (suc (suc (suc (suc (suc (suc zero)))))) = refl
edges (suc (suc (suc (suc (suc (suc (suc zero))))))) = refl
edges (suc (suc (suc (suc (suc (suc (suc (suc zero)))))))) = refl
edges (suc (suc (suc (suc (suc (suc (suc (suc (suc zero))))))))) = refl
edges (suc (suc (suc (suc (suc (suc (suc (suc (suc (suc zero)))))))))) = refl
edges (suc (suc (suc (suc (suc (suc (suc (suc (suc (suc (suc zero))))))))))) = refl
edges (suc (suc (suc (suc (suc (suc (suc (suc (suc (suc (suc (suc zero)))))))))))) = refl
edges (suc (suc (suc (suc (suc (suc (suc (suc (suc (suc (suc (suc (suc zero))))))))))))) = refl
edges (suc (suc (suc (suc (suc (suc (suc (suc (suc (suc (suc (suc (suc (suc zero)))))))))))))) = refl
edges (suc (suc (suc (suc (suc (suc (suc (suc (suc (suc (suc (suc (suc (suc (suc zero))))))))))))))) = refl
edges (suc (suc (suc (suc (suc (suc (suc (suc (suc (suc (suc (suc (suc (suc (suc (suc zero)))))))))))))))) = refl
edges (suc (suc (suc (suc (suc (suc (suc (suc (suc (suc (suc (suc (suc (suc (suc (suc (suc zero))))))))))))))))) = refl
edges (suc (suc (suc (suc (suc (suc (suc (suc (suc (suc (suc (suc (suc (suc (suc (suc (suc (suc slot)))))))))))))))))) = refl

-- the path that falls through all instructions
reach_0 : IsReachableSlot first_path 0
reach_0 = reached_start

reach_1 : IsReachableSlot first_path 1
unfolding slot_count falls_through
reach_1 = reached_along 0 (Ldx U32 R2 R1 (pos 0)) 1 reach_0 refl (inl (refl, refl))

reach_2 : IsReachableSlot first_path 2
unfolding slot_count falls_through
reach_2 = reached_along 1 (Ldx U32 R3 R1 (pos 4)) 2 reach_1 refl (inl (refl, refl))

reach_3 : IsReachableSlot first_path 3
unfolding slot_count falls_through
reach_3 = reached_along 2 (Alu Bits64 Mov R4 (Reg R2)) 3 reach_2 refl (inl (refl, refl))

reach_4 : IsReachableSlot first_path 4
unfolding slot_count falls_through
reach_4 = reached_along 3 (Alu Bits64 Add R4 (Imm (pos 14))) 4 reach_3 refl (inl (refl, refl))

reach_5 : IsReachableSlot first_path 5
unfolding slot_count falls_through
reach_5 = reached_along 4 (Alu Bits64 Mov R0 (Imm (pos 2))) 5 reach_4 refl (inl (refl, refl))

reach_6 : IsReachableSlot first_path 6
unfolding slot_count falls_through
reach_6 = reached_along 5 (JumpIf Bits64 Gt R4 (Reg R3) (pos 11)) 6 reach_5 refl (inl (refl, refl))

reach_7 : IsReachableSlot first_path 7
unfolding slot_count falls_through
reach_7 = reached_along 6 (Ldx U8 R6 R2 (pos 13)) 7 reach_6 refl (inl (refl, refl))

reach_8 : IsReachableSlot first_path 8
unfolding slot_count falls_through
reach_8 = reached_along 7 (St U32 R10 (negsuc 3) (pos 0)) 8 reach_7 refl (inl (refl, refl))

reach_9 : IsReachableSlot first_path 9
unfolding slot_count falls_through
reach_9 = reached_along 8 (Alu Bits64 Mov R2 (Reg R10)) 9 reach_8 refl (inl (refl, refl))

reach_10 : IsReachableSlot first_path 10
unfolding slot_count falls_through
reach_10 = reached_along 9 (Alu Bits64 Add R2 (Imm (negsuc 3))) 10 reach_9 refl (inl (refl, refl))

reach_12 : IsReachableSlot first_path 12
unfolding slot_count falls_through
reach_12 = reached_along 10 (Ldmap R1 (pos 0)) 12 reach_10 refl (inl (refl, refl))

reach_13 : IsReachableSlot first_path 13
unfolding slot_count falls_through
reach_13 = reached_along 12 (CallHelper (pos 1)) 13 reach_12 refl (inl (refl, refl))

reach_14 : IsReachableSlot first_path 14
unfolding slot_count falls_through
reach_14 = reached_along 13 (JumpIf Bits64 Eq R0 (Imm (pos 0)) (pos 3)) 14 reach_13 refl (inl (refl, refl))

reach_15 : IsReachableSlot first_path 15
unfolding slot_count falls_through
reach_15 = reached_along 14 (Ldx U64 R7 R0 (pos 0)) 15 reach_14 refl (inl (refl, refl))

reach_16 : IsReachableSlot first_path 16
unfolding slot_count falls_through
reach_16 = reached_along 15 (Alu Bits64 Add R6 (Reg R7)) 16 reach_15 refl (inl (refl, refl))

reach_17 : IsReachableSlot first_path 17
unfolding slot_count falls_through
reach_17 = reached_along 16 (Alu Bits64 Mov R0 (Reg R6)) 17 reach_16 refl (inl (refl, refl))

no_begin : false ≡ true → ⊥
no_begin e = cc

reachable : (slot : ℕ) → IsTrue (is_begin first_path slot) → IsReachableSlot first_path slot
unfolding slot_count
reachable zero begins = reach_0
reachable (suc zero) begins = reach_1
reachable (suc (suc zero)) begins = reach_2
reachable (suc (suc (suc zero))) begins = reach_3
reachable (suc (suc (suc (suc zero)))) begins = reach_4
reachable (suc (suc (suc (suc (suc zero))))) begins = reach_5
reachable (suc (suc (suc (suc (suc (suc zero)))))) begins = reach_6
reachable (suc (suc (suc (suc (suc (suc (suc zero))))))) begins = reach_7
reachable (suc (suc (suc (suc (suc (suc (suc (suc zero)))))))) begins = reach_8
reachable (suc (suc (suc (suc (suc (suc (suc (suc (suc zero))))))))) begins = reach_9
reachable (suc (suc (suc (suc (suc (suc (suc (suc (suc (suc zero)))))))))) begins = reach_10
reachable (suc (suc (suc (suc (suc (suc (suc (suc (suc (suc (suc zero))))))))))) begins = absurd (no_begin begins)
reachable (suc (suc (suc (suc (suc (suc (suc (suc (suc (suc (suc (suc zero)))))))))))) begins = reach_12
reachable (suc (suc (suc (suc (suc (suc (suc (suc (suc (suc (suc (suc (suc zero))))))))))))) begins = reach_13
reachable (suc (suc (suc (suc (suc (suc (suc (suc (suc (suc (suc (suc (suc (suc zero)))))))))))))) begins = reach_14
reachable (suc (suc (suc (suc (suc (suc (suc (suc (suc (suc (suc (suc (suc (suc (suc zero))))))))))))))) begins = reach_15
reachable (suc (suc (suc (suc (suc (suc (suc (suc (suc (suc (suc (suc (suc (suc (suc (suc zero)))))))))))))))) begins = reach_16
reachable (suc (suc (suc (suc (suc (suc (suc (suc (suc (suc (suc (suc (suc (suc (suc (suc (suc zero))))))))))))))))) begins = reach_17
reachable (suc (suc (suc (suc (suc (suc (suc (suc (suc (suc (suc (suc (suc (suc (suc (suc (suc (suc slot)))))))))))))))))) begins = absurd (no_begin begins)

entry : AreEntryStates V1 row_maps first_path row_states 18
unfolding slot_count jump_distance
entry zero below = refl
entry (suc zero) below = refl
entry (suc (suc zero)) below = refl
entry (suc (suc (suc zero))) below = refl
entry (suc (suc (suc (suc zero)))) below = refl
entry (suc (suc (suc (suc (suc zero))))) below = refl
entry (suc (suc (suc (suc (suc (suc zero)))))) below = refl
entry (suc (suc (suc (suc (suc (suc (suc zero))))))) below = refl
entry (suc (suc (suc (suc (suc (suc (suc (suc zero)))))))) below = refl
entry (suc (suc (suc (suc (suc (suc (suc (suc (suc zero))))))))) below = refl
entry (suc (suc (suc (suc (suc (suc (suc (suc (suc (suc zero)))))))))) below = refl
entry (suc (suc (suc (suc (suc (suc (suc (suc (suc (suc (suc zero))))))))))) below = refl
entry (suc (suc (suc (suc (suc (suc (suc (suc (suc (suc (suc (suc zero)))))))))))) below = refl
entry (suc (suc (suc (suc (suc (suc (suc (suc (suc (suc (suc (suc (suc zero))))))))))))) below = refl
entry (suc (suc (suc (suc (suc (suc (suc (suc (suc (suc (suc (suc (suc (suc zero)))))))))))))) below = refl
entry (suc (suc (suc (suc (suc (suc (suc (suc (suc (suc (suc (suc (suc (suc (suc zero))))))))))))))) below = refl
entry (suc (suc (suc (suc (suc (suc (suc (suc (suc (suc (suc (suc (suc (suc (suc (suc zero)))))))))))))))) below = refl
entry (suc (suc (suc (suc (suc (suc (suc (suc (suc (suc (suc (suc (suc (suc (suc (suc (suc zero))))))))))))))))) below = refl
entry (suc (suc (suc (suc (suc (suc (suc (suc (suc (suc (suc (suc (suc (suc (suc (suc (suc (suc slot)))))))))))))))))) below = absurd (omega (arith, below))

reads : (slot : ℕ) (insn : Insn) (state : State) → instruction_at first_path slot ≡ Some insn → known_at row_states slot ≡ Some state → IsTrue (only_reads state insn)
unfolding slot_count
reads zero insn state at known = reads_by 0 (Ldx U32 R2 R1 (pos 0)) state_0 insn state refl refl at known refl
reads (suc zero) insn state at known = reads_by 1 (Ldx U32 R3 R1 (pos 4)) state_1 insn state refl refl at known refl
reads (suc (suc zero)) insn state at known = reads_by 2 (Alu Bits64 Mov R4 (Reg R2)) state_2 insn state refl refl at known refl
reads (suc (suc (suc zero))) insn state at known = reads_by 3 (Alu Bits64 Add R4 (Imm (pos 14))) state_3 insn state refl refl at known refl
reads (suc (suc (suc (suc zero)))) insn state at known = reads_by 4 (Alu Bits64 Mov R0 (Imm (pos 2))) state_4 insn state refl refl at known refl
reads (suc (suc (suc (suc (suc zero))))) insn state at known = reads_by 5 (JumpIf Bits64 Gt R4 (Reg R3) (pos 11)) state_5 insn state refl refl at known refl
reads (suc (suc (suc (suc (suc (suc zero)))))) insn state at known = reads_by 6 (Ldx U8 R6 R2 (pos 13)) state_6 insn state refl refl at known refl
reads (suc (suc (suc (suc (suc (suc (suc zero))))))) insn state at known = reads_by 7 (St U32 R10 (negsuc 3) (pos 0)) state_7 insn state refl refl at known refl
reads (suc (suc (suc (suc (suc (suc (suc (suc zero)))))))) insn state at known = reads_by 8 (Alu Bits64 Mov R2 (Reg R10)) state_8 insn state refl refl at known refl
reads (suc (suc (suc (suc (suc (suc (suc (suc (suc zero))))))))) insn state at known = reads_by 9 (Alu Bits64 Add R2 (Imm (negsuc 3))) state_9 insn state refl refl at known refl
reads (suc (suc (suc (suc (suc (suc (suc (suc (suc (suc zero)))))))))) insn state at known = reads_by 10 (Ldmap R1 (pos 0)) state_10 insn state refl refl at known refl
reads (suc (suc (suc (suc (suc (suc (suc (suc (suc (suc (suc zero))))))))))) insn state at known = absurd (nothing_there insn at)
reads (suc (suc (suc (suc (suc (suc (suc (suc (suc (suc (suc (suc zero)))))))))))) insn state at known = reads_by 12 (CallHelper (pos 1)) state_12 insn state refl refl at known refl
reads (suc (suc (suc (suc (suc (suc (suc (suc (suc (suc (suc (suc (suc zero))))))))))))) insn state at known = reads_by 13 (JumpIf Bits64 Eq R0 (Imm (pos 0)) (pos 3)) state_13 insn state refl refl at known refl
reads (suc (suc (suc (suc (suc (suc (suc (suc (suc (suc (suc (suc (suc (suc zero)))))))))))))) insn state at known = reads_by 14 (Ldx U64 R7 R0 (pos 0)) state_14 insn state refl refl at known refl
reads (suc (suc (suc (suc (suc (suc (suc (suc (suc (suc (suc (suc (suc (suc (suc zero))))))))))))))) insn state at known = reads_by 15 (Alu Bits64 Add R6 (Reg R7)) state_15 insn state refl refl at known refl
reads (suc (suc (suc (suc (suc (suc (suc (suc (suc (suc (suc (suc (suc (suc (suc (suc zero)))))))))))))))) insn state at known = reads_by 16 (Alu Bits64 Mov R0 (Reg R6)) state_16 insn state refl refl at known refl
reads (suc (suc (suc (suc (suc (suc (suc (suc (suc (suc (suc (suc (suc (suc (suc (suc (suc zero))))))))))))))))) insn state at known = reads_by 17 (Exit) state_17 insn state refl refl at known refl
reads (suc (suc (suc (suc (suc (suc (suc (suc (suc (suc (suc (suc (suc (suc (suc (suc (suc (suc slot)))))))))))))))))) insn state at known = absurd (nothing_there insn at)

encodable : IsEncodable V1 row_maps first_path
unfolding slot_count FieldsFit is_in_version
encodable = record {
  few_maps = omega arith;
  maps_allowed = (refl, tt);
  some_code = omega arith;
  few_slots = omega arith;
  fields_fit = search rules;
  in_version = search rules;
}

pub safe_row : AcceptedIsSafe → SafeRow
unfolding slot_count
safe_row accepted_is_safe =
    let accepted : Accepts V1 row_maps first_path row_states =
    record { shape = record { edges = edges; reachable = reachable }; entry = entry; passes = passes } in
    record {
      encodable = encodable;
      states = row_states;
      accepted = accepted;
      reads = record { reads = reads };
      safe = accepted_is_safe V1 row_maps first_path row_states encodable accepted;
    }
