-- A conditional jump: what is known on each of its edges is sound where the run takes it.
use Rattle.std.proofs.Common.{◌≡◌, inl, inr, ℕ, ◌+◌, Bool, true, false, ℤ, pos, List, Option, Some, None, Ok, refl, sym, ◌∙◌, subst, arith}
use Rattle.std.specs.Prelude.{slice_index_or, slice_set}
use Rattle.std.proofs.lemmas.List.{length-set, set-get_or}
use Rattle.isa.specs.declared.operation.Width.{Width}
use Rattle.isa.specs.declared.operation.Test.{Test}
use Rattle.isa.specs.declared.operation.SourceOperand.{SourceOperand}
use Rattle.isa.specs.declared.operation.Register.{Register}
use Rattle.ebpf_decode.specs.declared.insn.Insn.TheVariants.{JumpIf}
use Rattle.ebpf_decode.specs.declared.map.MapDef.{MapDef}
use Rattle.isa.specs.InstructionCodes.{register_number}
use Rattle.ebpf_decode.specs.InstructionEncoding.{slot_count}
use Rattle.semantics.specs.RegisterValue.{Uninitialized}
use Rattle.semantics.specs.MachineState.{MachineState, register_value}
use Rattle.semantics.specs.Program.{Program}
use Rattle.semantics.specs.Step.{Step, or_trap, Continues, CallsMap, Exits, Traps}
use Rattle.semantics.specs.Semantics.{jump_step, branch_step, instruction_step}
use Rattle.abstract_state.specs.declared.kind.Kind.{Kind}
use Rattle.abstract_state.specs.declared.kind.Kind.TheVariants.{Unset}
use Rattle.abstract_state.specs.declared.fact.Fact.{Fact}
use Rattle.abstract_state.specs.declared.flow.Flow.{Flow}
use Rattle.abstract_state.specs.declared.flow.Flow.TheVariants.{Splits}
use Rattle.abstract_state.specs.declared.state.State.{State}
use Rattle.abstract_state.specs.States.{◌>>=◌, kind_of, with_kind}
use Rattle.abstract_state.specs.Arithmetic.{source_kind}
use Rattle.abstract_state.specs.Refinement.{allowed_test, fact_of, number_cut, refined, refine_state}
use Rattle.abstract_state.specs.Flow.{reads_both, flow_of}
use Rattle.abstract_state.specs.Abstraction.{Held, KindCovers, kind_scope_of, Abstracts}
use Rattle.abstract_state.specs.Soundness.{JumpsOn, SplitsOn, JumpsForward, Follows}
use Rattle.abstract_state.proofs.shared.Writing.{register_written}
use Rattle.abstract_state.proofs.shared.Inverting.{ok_value, ok_then}
use Rattle.abstract_state.proofs.shared.Following.{moved_on, SourceFits, source_covers}
use Rattle.abstract_state.proofs.RegisterSteps.{jumps_to}
use Rattle.abstract_state.proofs.Telling.{told_sound}
use Rattle.abstract_state.proofs.Edges.{IsTold, edge_of}

-- another kind that represents what a register has
pub known_as : (maps : List MapDef) (held : Held) (state : State) (machine : MachineState) (a : Abstracts maps held state machine) (dst : Register) (kind : Kind) →
    KindCovers (kind_scope_of maps held a.ids machine) kind (register_value machine dst) → Abstracts maps held (with_kind state dst kind) machine
known_as maps held state machine a dst kind now = record {
  ids = a.ids;
  registers = λ register. subst
      (λ values. KindCovers (kind_scope_of maps held a.ids machine) (slice_index_or (slice_set state.registers (register_number dst) kind) (register_number register) Unset)
      (slice_index_or values (register_number register) Uninitialized))
      (set-get_or machine.registers (register_number dst) Uninitialized)
      (register_written (kind_scope_of maps held a.ids machine) state.registers machine.registers dst kind (register_value machine dst)
      a.is_machine.eleven_kinds a.is_machine.eleven a.registers now register);
  stack = a.stack;
  start = a.start;
  bases = a.bases;
  is_machine = record {
    eleven = a.is_machine.eleven;
    eleven_kinds = length-set state.registers (register_number dst) kind ∙ a.is_machine.eleven_kinds;
    stack_size = a.is_machine.stack_size;
    word_count = a.is_machine.word_count;
    worker = a.is_machine.worker;
    time = a.is_machine.time;
    frame = a.is_machine.frame;
  };
}

refined_sound : (maps : List MapDef) (held : Held) (state : State) (machine : MachineState) (a : Abstracts maps held state machine) (dst : Register)
    (cut : Option Kind) (fact : Fact) → IsTold (kind_scope_of maps held a.ids machine) cut fact (register_value machine dst) →
    Abstracts maps held (refined cut fact state dst) machine
refined_sound maps held state machine a dst (Some kind) fact told = known_as maps held state machine a dst kind told
refined_sound maps held state machine a dst None fact told = told_sound maps held fact state machine a told

as_taken : (program : Program) (held : Held) (taken fallen : State) (machine : MachineState) (distance : ℤ) (step : Step) →
    JumpsOn program held taken machine distance step → SplitsOn program held taken fallen machine distance step
as_taken program held taken fallen machine distance (Continues after) j = inl j
as_taken program held taken fallen machine distance (CallsMap call next) j = absurd j
as_taken program held taken fallen machine distance (Exits verdict last) j = absurd j
as_taken program held taken fallen machine distance (Traps cause) j = absurd j

-- on the edge that the run takes
branches : (program : Program) (held : Held) (machine : MachineState) (width : Width) (test : Test) (dst : Register) (source : SourceOperand) (distance : ℤ) (n : ℕ) →
    distance ≡ pos n → (taken : Bool) (edges : Bool → State) → Abstracts program.maps held (edges taken) machine →
    SplitsOn program held (edges true) (edges false) machine distance (branch_step (JumpIf width test dst source distance) machine distance taken)
unfolding slot_count
branches program held machine width test dst source distance n is true edges a =
    as_taken program held (edges true) (edges false) machine distance (jump_step machine distance)
    (jumps_to program held (edges true) machine distance n is a)
branches program held machine width test dst source distance n is false edges a =
    inr (record { at = refl; counted = refl; sound = moved_on program.maps held (edges false) machine (machine.slot + 1) (machine.steps + 1) a (omega arith) })

pub jump_if_follows : (program : Program) (held : Held) (state : State) (machine : MachineState) (width : Width) (test : Test) (dst : Register) (source : SourceOperand)
    (distance : ℤ) (flow : Flow) → Abstracts program.maps held state machine → SourceFits source → JumpsForward (JumpIf width test dst source distance) →
    flow_of program.maps state machine.slot (JumpIf width test dst source distance) ≡ Ok flow →
    Follows program held flow machine (JumpIf width test dst source distance) (instruction_step program (JumpIf width test dst source distance) machine)
jump_if_follows program held state machine width test dst source distance flow a fits forward e =
    let read = ok_then (reads_both state dst source) (λ _. allowed_test width test (kind_of state dst) (source_kind state source) dst source >>=
    (λ _. Ok (Splits (refine_state state width test dst source true) (refine_state state width test dst source false)))) flow e
    in let allowed = ok_then (allowed_test width test (kind_of state dst) (source_kind state source) dst source)
    (λ _. Ok (Splits (refine_state state width test dst source true) (refine_state state width test dst source false))) flow read.next
    in let edge = edge_of program.maps held a.ids machine width test (kind_of state dst) (source_kind state source) (register_value machine dst) dst source
    (a.registers dst) (source_covers program.maps held state machine a source fits) allowed.is
    in subst (λ f. Follows program held f machine (JumpIf width test dst source distance) (instruction_step program (JumpIf width test dst source distance) machine))
    (ok_value (Splits (refine_state state width test dst source true) (refine_state state width test dst source false)) flow allowed.next)
    (subst (λ o. SplitsOn program held (refine_state state width test dst source true) (refine_state state width test dst source false) machine distance
    (or_trap o (branch_step (JumpIf width test dst source distance) machine distance))) (sym edge.is)
    (branches program held machine width test dst source distance forward.0 forward.1 edge.taken (refine_state state width test dst source)
    (refined_sound program.maps held state machine a dst (number_cut width test edge.taken (kind_of state dst) (source_kind state source))
    (fact_of test edge.taken (kind_of state dst) (source_kind state source)) edge.told)))
