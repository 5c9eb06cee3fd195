-- Where an instruction leads that writes a register, or none.
use Rattle.std.proofs.Common.{◌≡◌, ℕ, ◌+◌, ◌*◌, ◌<◌, ◌≤◌, ◌^◌, List, Ok, Err, refl, sym, ◌∙◌, ap, subst, arith}
use Rattle.isa.specs.declared.operation.Register.{Register}
use Rattle.isa.specs.declared.operation.Register.TheVariants.{R0, R1, R2, R3, R4, R5, R6, R7, R8, R9, R10}
use Rattle.isa.specs.declared.operation.SourceOperand.{SourceOperand}
use Rattle.isa.specs.declared.operation.SourceOperand.TheVariants.{Imm, Reg}
use Rattle.isa.specs.Words.{twos_complement}
use Rattle.ebpf_decode.specs.declared.insn.Insn.{Insn}
use Rattle.ebpf_decode.specs.declared.map.MapDef.{MapDef}
use Rattle.ebpf_decode.specs.InstructionEncoding.{slot_count}
use Rattle.semantics.specs.RegisterValue.{RegisterValue}
use Rattle.semantics.specs.MachineState.{MachineState, register_value, with_register}
use Rattle.semantics.specs.Program.{Program}
use Rattle.semantics.specs.Step.{Outcome, Step, or_trap, Continues}
use Rattle.semantics.specs.Arithmetic.{source_value}
use Rattle.semantics.specs.Semantics.{at_next_slot, written_register, write_step}
use Rattle.abstract_scalar.proofs.shared.Soundness.{constant_covers}
use Rattle.abstract_state.specs.declared.kind.Kind.{Kind}
use Rattle.abstract_state.specs.declared.flow.Flow.{Flow}
use Rattle.abstract_state.specs.declared.flow.Flow.TheVariants.{Falls}
use Rattle.abstract_state.specs.declared.broken_rule.BrokenRule.TheVariants.{ReadOnlyFp}
use Rattle.abstract_state.specs.declared.state.State.{State}
use Rattle.abstract_state.specs.States.{Checked, kind_of, with_kind, word_of}
use Rattle.abstract_state.specs.Arithmetic.{source_kind}
use Rattle.abstract_state.specs.Flow.{writable, falls}
use Rattle.abstract_state.specs.Abstraction.{Ids, Held, KindScope, KindCovers, kind_scope_of, places_of, Abstracts}
use Rattle.abstract_state.specs.Soundness.{FallsOn, Follows}
use Rattle.abstract_state.proofs.shared.Writing.{Extends, covers_later, word_later, written}
use Rattle.abstract_state.proofs.shared.Inverting.{err_not_ok, ok_value}

-- ---- a value that an instruction makes, which its kind represents at the slot where the run goes on

pub record Gives (s : KindScope) (slot : ℕ) (kind : Kind) (outcome : Outcome RegisterValue) : Type 0 where
  pub ids : Ids
  pub base : (id : ℕ) → id < s.slot → ids.base id ≡ s.ids.base id
  pub found : (id : ℕ) → id < s.slot → ids.found id ≡ s.ids.found id
  pub bases : (id : ℕ) → ids.base id ≤ 131070 * id
  pub value : RegisterValue
  pub is : outcome ≡ Ok value
  pub covered : KindCovers (record s { ids = ids; slot = slot }) kind value

-- with the ids as they are
pub gives : (s : KindScope) (slot : ℕ) (kind : Kind) (outcome : Outcome RegisterValue) (value : RegisterValue) → s.slot ≤ slot →
    ((id : ℕ) → s.ids.base id ≤ 131070 * id) → outcome ≡ Ok value → KindCovers s kind value → Gives s slot kind outcome
gives s slot kind outcome value later bases is covered = record {
  ids = s.ids;
  base = λ id h. refl;
  found = λ id h. refl;
  bases = bases;
  value = value;
  is = is;
  covered = covers_later s (record s { slot = slot })
      (record { maps = refl; held = λ map shard cell h. h; base = λ id h. refl; found = λ id h. refl; slot = later; generation = refl; size = refl })
      kind value covered;
}

-- ---- steps

-- a register that may be written is
pub written_is : (machine : MachineState) (dst : Register) (value : RegisterValue) → writable dst ≡ Ok tt → written_register machine dst value ≡ Ok (with_register machine dst value)
written_is machine R0 value e = refl
written_is machine R1 value e = refl
written_is machine R2 value e = refl
written_is machine R3 value e = refl
written_is machine R4 value e = refl
written_is machine R5 value e = refl
written_is machine R6 value e = refl
written_is machine R7 value e = refl
written_is machine R8 value e = refl
written_is machine R9 value e = refl
written_is machine R10 value e = absurd (err_not_ok ReadOnlyFp tt e)

pub wrote : (program : Program) (held : Held) (state : State) (machine : MachineState) (insn : Insn) (dst : Register) (kind : Kind)
    (outcome : Outcome RegisterValue) (a : Abstracts program.maps held state machine) → writable dst ≡ Ok tt →
    Gives (kind_scope_of program.maps held a.ids machine) (machine.slot + slot_count insn) kind outcome →
    Follows program held (Falls (with_kind state dst kind)) machine insn (write_step insn machine dst outcome)
wrote program held state machine insn dst kind outcome a may g =
    let step_is : write_step insn machine dst outcome ≡ Continues (at_next_slot insn (with_register machine dst g.value)) =
    ap (write_step insn machine dst) g.is ∙
    ap (λ w. or_trap w (λ written. Continues (at_next_slot insn written))) (written_is machine dst g.value may)
    in subst (FallsOn program held (with_kind state dst kind) machine (machine.slot + slot_count insn)) (sym step_is) (record {
      at = refl;
      counted = refl;
      sound = written program.maps held held state machine g.ids dst kind g.value (machine.slot + slot_count insn) (machine.steps + 1) a
          (omega arith) (λ map shard cell h. h) g.base g.found g.bases g.covered;
    })

-- what flows on where the checks passed
pub falls_follow : (program : Program) (held : Held) (machine : MachineState) (insn : Insn) (step : Step) (after : Checked State) (flow : Flow) →
    falls after ≡ Ok flow → ((state : State) → after ≡ Ok state → Follows program held (Falls state) machine insn step) →
    Follows program held flow machine insn step
falls_follow program held machine insn step (Ok state) flow e go =
    subst (λ f. Follows program held f machine insn step) (ok_value (Falls state) flow e) (go state refl)
falls_follow program held machine insn step (Err why) flow e go = absurd (err_not_ok why flow e)

-- the same state at a later slot
pub moved_on : (maps : List MapDef) (held : Held) (state : State) (machine : MachineState) (slot steps : ℕ) → Abstracts maps held state machine →
    machine.slot ≤ slot → Abstracts maps held state (record machine { slot = slot; steps = steps })
moved_on maps held state machine slot steps a later =
    let extends : Extends (kind_scope_of maps held a.ids machine) (kind_scope_of maps held a.ids (record machine { slot = slot; steps = steps })) =
    record { maps = refl; held = λ map shard cell h. h; base = λ id h. refl; found = λ id h. refl; slot = later; generation = refl; size = refl }
    in record {
      ids = a.ids;
      registers = λ register. covers_later (kind_scope_of maps held a.ids machine) (kind_scope_of maps held a.ids (record machine { slot = slot; steps = steps }))
          extends (kind_of state register) (register_value machine register) (a.registers register);
      stack = λ word h. word_later (kind_scope_of maps held a.ids machine) (kind_scope_of maps held a.ids (record machine { slot = slot; steps = steps }))
          extends (word_of state word) (places_of word machine.stack) (a.stack word h);
      start = a.start;
      bases = a.bases;
      is_machine = record {
        eleven = a.is_machine.eleven;
        eleven_kinds = a.is_machine.eleven_kinds;
        stack_size = a.is_machine.stack_size;
        word_count = a.is_machine.word_count;
        worker = a.is_machine.worker;
        time = a.is_machine.time;
        frame = a.is_machine.frame;
      };
    }

-- ---- operands

-- an immediate that sign-extends to a number of 64 bits
abbrev pub SourceFits : SourceOperand → Type 0
SourceFits (Imm immediate) = twos_complement 64 immediate < 2 ^ 64
SourceFits (Reg register) = Unit {0}

pub source_covers : (maps : List MapDef) (held : Held) (state : State) (machine : MachineState) (a : Abstracts maps held state machine) (source : SourceOperand) →
    SourceFits source → KindCovers (kind_scope_of maps held a.ids machine) (source_kind state source) (source_value machine source)
source_covers maps held state machine a (Imm immediate) fits = record {
  number = twos_complement 64 immediate;
  is = refl;
  within = constant_covers (twos_complement 64 immediate) (twos_complement 64 immediate) refl;
  word = fits;
}
source_covers maps held state machine a (Reg register) fits = a.registers register
