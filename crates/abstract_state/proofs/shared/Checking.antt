-- An instruction that breaks no rule: what each part of the check made, and a register that is then written.
use Rattle.std.proofs.Common.{◌≡◌, ℕ, ◌+◌, Bool, true, false, refl, arith}
use Rattle.std.specs.Prelude.{List, Ok, Err, IsTrue, if◌then◌else◌}
use Rattle.isa.specs.declared.operation.Register.{Register}
use Rattle.isa.specs.declared.operation.Register.TheVariants.{R0, R1, R2, R3, R4, R5, R6, R7, R8, R9, R10}
use Rattle.ebpf_decode.specs.declared.insn.Insn.{Insn}
use Rattle.ebpf_decode.specs.declared.map.MapDef.{MapDef}
use Rattle.ebpf_decode.specs.InstructionEncoding.{slot_count}
use Rattle.semantics.specs.RegisterValue.{RegisterValue}
use Rattle.semantics.specs.MachineState.{MachineState, with_register}
use Rattle.semantics.specs.Program.{Program}
use Rattle.semantics.specs.Step.{Outcome}
use Rattle.semantics.specs.Semantics.{written_register, write_step}
use Rattle.abstract_state.specs.declared.kind.Kind.{Kind}
use Rattle.abstract_state.specs.declared.flow.Flow.{Flow}
use Rattle.abstract_state.specs.declared.flow.Flow.TheVariants.{Falls}
use Rattle.abstract_state.specs.declared.broken_rule.BrokenRule.{BrokenRule}
use Rattle.abstract_state.specs.declared.state.State.{State}
use Rattle.abstract_state.specs.States.{Checked, ◌>>=◌, with_kind}
use Rattle.abstract_state.specs.Flow.{writable, falls}
use Rattle.abstract_state.specs.Soundness.{FallsOn}
use Rattle.abstract_state.specs.Abstraction.{Held, Ids, KindScope, KindCovers, kind_scope_of, Abstracts}
use Rattle.abstract_state.proofs.shared.Writing.{covers_later, written}

-- ---- what was made on the way

pub ok_then : {A B : Type 0} → (a : Checked A) (f : A → Checked B) (x : B) → (a >>= f) ≡ Ok x → (y : A) × ((a ≡ Ok y) × (f y ≡ Ok x))
ok_then (Ok y) f x e = (y, (refl, e))
ok_then (Err why) f x e = cc

pub ok_same : {A : Type 0} → (a : Checked A) (x y : A) → a ≡ Ok x → a ≡ Ok y → x ≡ y
ok_same a x y e f = cc

pub ok_if : {A : Type 0} → (t : Bool) (x y : A) (why : BrokenRule) → (if t then Ok x else Err why) ≡ Ok y → (t ≡ true) × (x ≡ y)
ok_if true x y why e = (refl, cc)
ok_if false x y why e = cc

pub falls_made : (after : Checked State) (flow : Flow) → falls after ≡ Ok flow → (s : State) × ((after ≡ Ok s) × (flow ≡ Falls s))
falls_made (Ok s) flow e = (s, (refl, cc))
falls_made (Err why) flow e = cc

-- ---- a register that is written

pub written_ok : (dst : Register) (done : Unit {0}) → writable dst ≡ Ok done → (machine : MachineState) (v : RegisterValue) →
    written_register machine dst v ≡ Ok (with_register machine dst v)
written_ok R0 done e machine v = refl
written_ok R1 done e machine v = refl
written_ok R2 done e machine v = refl
written_ok R3 done e machine v = refl
written_ok R4 done e machine v = refl
written_ok R5 done e machine v = refl
written_ok R6 done e machine v = refl
written_ok R7 done e machine v = refl
written_ok R8 done e machine v = refl
written_ok R9 done e machine v = refl
written_ok R10 done e machine v = cc

-- what may be spoken of at the next instruction
abbrev pub next_setting : List MapDef → Held → Ids → MachineState → ℕ → KindScope
next_setting maps held ids machine count = kind_scope_of maps held ids (record machine { slot = machine.slot + count })

pub covers_next : (maps : List MapDef) (held held' : Held) (ids : Ids) (machine : MachineState) (count : ℕ) →
    ((map shard cell : ℕ) → IsTrue (held map shard cell) → IsTrue (held' map shard cell)) → (kind : Kind) (v : RegisterValue) →
    KindCovers (kind_scope_of maps held ids machine) kind v → KindCovers (next_setting maps held' ids machine count) kind v
covers_next maps held held' ids machine count more kind v now =
    covers_later (kind_scope_of maps held ids machine) (next_setting maps held' ids machine count)
    (record { maps = refl; held = more; base = λ id h. refl; found = λ id h. refl; slot = omega arith; generation = refl; size = refl }) kind v now

pub put : (maps : List MapDef) (held held' : Held) (state : State) (machine : MachineState) (a : Abstracts maps held state machine)
    (dst : Register) (kind : Kind) (v : RegisterValue) (count : ℕ) →
    ((map shard cell : ℕ) → IsTrue (held map shard cell) → IsTrue (held' map shard cell)) →
    KindCovers (next_setting maps held' a.ids machine count) kind v →
    Abstracts maps held' (with_kind state dst kind) (record (with_register machine dst v) { slot = machine.slot + count; steps = machine.steps + 1 })
put maps held held' state machine a dst kind v count more now =
    written maps held held' state machine a.ids dst kind v (machine.slot + count) (machine.steps + 1) a (omega arith) more
    (λ id h. refl) (λ id h. refl) a.bases now

-- an instruction that sets a register to a value that its new kind covers
pub write_follows : (program : Program) (held : Held) (state : State) (machine : MachineState) (a : Abstracts program.maps held state machine)
    (insn : Insn) (dst : Register) (done : Unit {0}) → writable dst ≡ Ok done → (outcome : Outcome RegisterValue) (kind : Kind) (v : RegisterValue) →
    outcome ≡ Ok v → KindCovers (next_setting program.maps held a.ids machine (slot_count insn)) kind v →
    FallsOn program held (with_kind state dst kind) machine (machine.slot + slot_count insn) (write_step insn machine dst outcome)
write_follows program held state machine a insn dst done w outcome kind v e now =
    rw (e, written_ok dst done w machine v)
    (record { at = refl; counted = refl; sound = put program.maps held held state machine a dst kind v (slot_count insn) (λ map shard cell h. h) now })
