-- The calls of a program that only reads.
use Rattle.std.proofs.Common.{◌≡◌, ℕ, zero, suc, Bool, true, false, not, ℤ, List, [], ◌∷◌, Option, Ok, IsTrue, refl, sym, ◌∙◌, ap, subst, arith}
use Rattle.std.proofs.lemmas.Bool.{false≢true}
use Rattle.isa.specs.Words.{twos_complement}
use Rattle.isa.specs.declared.operation.Register.{Register}
use Rattle.isa.specs.declared.operation.AtomicOp.{AtomicOp}
use Rattle.isa.specs.declared.operation.Size.{Size}
use Rattle.isa.specs.declared.operation.SourceOperand.TheVariants.{Reg}
use Rattle.isa.specs.declared.operation.Width.{Width}
use Rattle.isa.specs.Atomic.{fetched_register}
use Rattle.ebpf_decode.specs.declared.insn.Insn.{Insn}
use Rattle.ebpf_decode.specs.declared.insn.Insn.TheVariants.{St, Stx, AtomicUpdate, CallHelper}
use Rattle.ebpf_decode.specs.declared.map.MapDef.{MapDef}
use Rattle.ebpf_decode.specs.declared.version.Version.{Version}
use Rattle.ebpf_decode.specs.ImageContents.{IsEncodable}
use Rattle.semantics.specs.declared.call.Reply.{Reply}
use Rattle.semantics.specs.RegisterValue.{RegisterValue, Number, ContextPointer, StackPointer, PacketPointer, MapPointer}
use Rattle.semantics.specs.RegisterValue as meaning
use Rattle.semantics.specs.MachineState.{MachineState, register_value, initial_state}
use Rattle.semantics.specs.Program.{Program}
use Rattle.semantics.specs.RunTrace.{trace_from, trace_of, AreReplies}
use Rattle.semantics.specs.Semantics.{next_step}
use Rattle.semantics.specs.Step.{Step, Continues, CallsMap, Exits, Traps}
use Rattle.semantics.specs.System.{input_frame}
use Rattle.abstract_scalar.specs.Intervals.{constant_of}
use Rattle.abstract_state.specs.declared.flow.Flow.{Flow}
use Rattle.abstract_state.specs.declared.kind.Kind.{Kind}
use Rattle.abstract_state.specs.declared.kind.Kind.TheVariants.{Unset, Scalar, Ctx, Stack, Packet, PacketEnd, Map, ValueOrNull, Value}
use Rattle.abstract_state.specs.declared.state.State.{State}
use Rattle.abstract_state.specs.States.{◌>>=◌, kind_of, opening_state}
use Rattle.abstract_state.specs.Access.{stored, store_of, checked_atomic, atomic_of}
use Rattle.abstract_state.specs.Flow.{check_set, reads, reads_both, reads_atomic, reads_expected, fetch_writable, store_flow, store_register_flow, atomic_flow, flow_of}
use Rattle.abstract_state.specs.Abstraction.{KindScope, KindCovers, kind_scope_of, Abstracts}
use Rattle.abstract_state.proofs.shared.Checking.{ok_then, falls_made}
use Rattle.abstract_state.proofs.shared.Opening.{opening_sound}
use Rattle.verifier.specs.Readers.{is_value_kind, is_worker_helper, only_reads, IsReader}
use Rattle.verifier.specs.Dataflow.{Accepts}
use Rattle.verifier.proofs.shared.PlaceLemmas.{parts_fit, Here, here_of, continues_there, answered_there}
use Rattle.verifier.proofs.shared.LocalLemmas.{begins_at_start}
use Rattle.verifier.proofs.shared.SafetyLemmas.{some_slot}
use Rattle.guarantees.specs.ReaderRuns.{AreReads, OnlyReads}
use Rattle.guarantees.proofs.ReadSteps.{AsksToRead, ChangesNothing, is_cell, step_reads}
use Rattle.guarantees.proofs.ReaderTraces.{IsAccepted, Sound, all_held, holds}

-- ---- a register through which an accepted program that only reads stores has no cell

-- where a register may have a cell
abbrev may_be_cell : Kind → Bool
may_be_cell (Value map id off) = true
may_be_cell (ValueOrNull map id) = true
may_be_cell Unset = true
may_be_cell kind = false

no_cell : (value other : RegisterValue) → value ≡ other → is_cell other ≡ false → is_cell value ≡ true → ⊥
no_cell value other same none is = false≢true (sym none ∙ sym (ap is_cell same) ∙ is)

cell_kind : (s : KindScope) (kind : Kind) (value : RegisterValue) → KindCovers s kind value → is_cell value ≡ true → may_be_cell kind ≡ true
cell_kind s Unset value c is = refl
cell_kind s (Scalar i) value c is = absurd (no_cell value (Number c.number) c.is refl is)
cell_kind s Ctx value c is = absurd (no_cell value ContextPointer c refl is)
cell_kind s (Stack place) value c is = absurd (no_cell value (StackPointer c.at) c.is refl is)
cell_kind s (Packet id off range) value c is = absurd (no_cell value (PacketPointer s.generation _) c.is refl is)
cell_kind s PacketEnd value c is = absurd (no_cell value (meaning.PacketEnd s.generation) c refl is)
cell_kind s (Map map) value c is = absurd (no_cell value (MapPointer map) c.is refl is)
cell_kind s (ValueOrNull map id) value c is = refl
cell_kind s (Value map id off) value c is = refl

-- a store that is accepted, to a place that is no value of a map
stored_nowhere : (maps : List MapDef) (known : State) (size : Size) (at : Kind) (distance : ℤ) (dst : Register) (kind : Kind) (after : State) (done : Unit {0}) →
    check_set at dst ≡ Ok done → stored maps known size at distance dst kind ≡ Ok after → not (is_value_kind at) ≡ true → may_be_cell at ≡ true → ⊥
stored_nowhere maps known size Unset distance dst kind after done set made other may = cc
stored_nowhere maps known size (Scalar i) distance dst kind after done set made other may = false≢true may
stored_nowhere maps known size Ctx distance dst kind after done set made other may = false≢true may
stored_nowhere maps known size (Stack place) distance dst kind after done set made other may = false≢true may
stored_nowhere maps known size (Packet id off range) distance dst kind after done set made other may = false≢true may
stored_nowhere maps known size PacketEnd distance dst kind after done set made other may = false≢true may
stored_nowhere maps known size (Map map) distance dst kind after done set made other may = false≢true may
stored_nowhere maps known size (ValueOrNull map id) distance dst kind after done set made other may = cc
stored_nowhere maps known size (Value map id off) distance dst kind after done set made other may = false≢true other

-- an atomic operation that is accepted, likewise
changed_nowhere : (maps : List MapDef) (known : State) (width : Width) (op : AtomicOp) (at : Kind) (distance : ℤ) (dst src : Register) (after : State)
    (done : Unit {0}) → check_set at dst ≡ Ok done → checked_atomic maps known width op at distance dst src ≡ Ok after → not (is_value_kind at) ≡ true →
    may_be_cell at ≡ true → ⊥
changed_nowhere maps known width op Unset distance dst src after done set made other may = cc
changed_nowhere maps known width op (Scalar i) distance dst src after done set made other may = false≢true may
changed_nowhere maps known width op Ctx distance dst src after done set made other may = false≢true may
changed_nowhere maps known width op (Stack place) distance dst src after done set made other may = false≢true may
changed_nowhere maps known width op (Packet id off range) distance dst src after done set made other may = false≢true may
changed_nowhere maps known width op PacketEnd distance dst src after done set made other may = false≢true may
changed_nowhere maps known width op (Map map) distance dst src after done set made other may = false≢true may
changed_nowhere maps known width op (ValueOrNull map id) distance dst src after done set made other may = cc
changed_nowhere maps known width op (Value map id off) distance dst src after done set made other may = false≢true other

-- ---- nor does it call a helper that changes keys

changes_nothing : (maps : List MapDef) (state : MachineState) (known : State) (insn : Insn) (flow : Flow) → Abstracts maps all_held known state →
    IsTrue (only_reads known insn) → flow_of maps known state.slot insn ≡ Ok flow → ChangesNothing insn state
changes_nothing maps state known (St size dst offset immediate) flow a only e = λ is.
    let made = falls_made (store_flow maps known size dst offset immediate) flow e
    in let set = ok_then (reads known dst) (λ _. store_of maps known size dst offset (Scalar (constant_of (twos_complement 64 immediate)))) made.0 made.1.0
    in stored_nowhere maps known size (kind_of known dst) offset dst (Scalar (constant_of (twos_complement 64 immediate))) made.0 set.0 set.1.0 set.1.1 only
    (cell_kind (kind_scope_of maps all_held a.ids state) (kind_of known dst) (register_value state dst) (a.registers dst) is)
changes_nothing maps state known (Stx size dst src offset) flow a only e = λ is.
    let made = falls_made (store_register_flow maps known size dst src offset) flow e
    in let both = ok_then (reads_both known dst (Reg src)) (λ _. store_of maps known size dst offset (kind_of known src)) made.0 made.1.0
    in let set = ok_then (reads known dst) (λ _. reads known src) both.0 both.1.0
    in stored_nowhere maps known size (kind_of known dst) offset dst (kind_of known src) made.0 set.0 set.1.0 both.1.1 only
    (cell_kind (kind_scope_of maps all_held a.ids state) (kind_of known dst) (register_value state dst) (a.registers dst) is)
changes_nothing maps state known (AtomicUpdate width op dst src offset) flow a only e = λ is.
    let made = falls_made (atomic_flow maps known width op dst src offset) flow e
    in let first = ok_then (fetch_writable (fetched_register op src)) (λ _. reads_atomic known op dst src >>= (λ _. atomic_of maps known width op dst src offset)) made.0 made.1.0
    in let second = ok_then (reads_atomic known op dst src) (λ _. atomic_of maps known width op dst src offset) made.0 first.1.1
    in let set = ok_then (reads known dst) (λ _. reads known src >>= (λ _. reads_expected known op)) second.0 second.1.0
    in changed_nowhere maps known width op (kind_of known dst) offset dst src made.0 set.0 set.1.0 second.1.1 only
    (cell_kind (kind_scope_of maps all_held a.ids state) (kind_of known dst) (register_value state dst) (a.registers dst) is)
changes_nothing maps state known (CallHelper number) flow a only e = (
  λ is. false≢true (subst (λ found. not (is_worker_helper found) ≡ true) is only),
  λ is. false≢true (subst (λ found. not (is_worker_helper found) ≡ true) is only),
)
changes_nothing maps state known insn flow a only e = tt

-- ---- traces

-- after a step that asks for nothing else
by_step : (version : Version) (program : Program) (states : List (Option State)) → IsAccepted version program states → (count : ℕ) (state : MachineState) → Sound program states state →
    ((next : MachineState) (replies : List Reply) → Sound program states next → AreReplies program (trace_of count program next replies).calls replies →
    AreReads (trace_of count program next replies).calls) →
    (step : Step) → next_step program state ≡ step → AsksToRead step → (replies : List Reply) →
    AreReplies program (trace_from (trace_of count program) state step replies).calls replies →
    AreReads (trace_from (trace_of count program) state step replies).calls
by_step version program states good count state place later (Continues next) is asks replies fit =
    later next replies (continues_there version program states all_held state next good.accepted good.fits place is).place fit
by_step version program states good count state place later (CallsMap call go) is asks [] fit = (asks, tt)
by_step version program states good count state place later (CallsMap call go) is asks (reply ∷ replies) fit = (
  asks,
  later (go reply) replies (answered_there version program states all_held state call go good.accepted good.fits place is reply fit.0 all_held (holds program call reply)).place
      fit.1,
)
by_step version program states good count state place later (Exits verdict last) is asks replies fit = tt
by_step version program states good count state place later (Traps cause) is asks replies fit = tt

next_reads : (version : Version) (program : Program) (states : List (Option State)) → IsAccepted version program states → (state : MachineState) →
    Sound program states state → AsksToRead (next_step program state)
next_reads version program states good state place =
    let here : Here program all_held state place.known = here_of version program states all_held state good.accepted good.fits place
    in let none : ChangesNothing here.insn state =
    changes_nothing program.maps state place.known here.insn here.flow place.sound (good.reads.reads state.slot here.insn place.known here.found place.at) here.flows
    in rw here.found (step_reads program here.insn state here.jumps none)

reads_trace : (version : Version) (program : Program) (states : List (Option State)) → IsAccepted version program states → (count : ℕ) (state : MachineState) (replies : List Reply) →
    Sound program states state → AreReplies program (trace_of count program state replies).calls replies → AreReads (trace_of count program state replies).calls
reads_trace version program states good zero state replies place fit = tt
reads_trace version program states good (suc count) state replies place fit =
    by_step version program states good count state place (λ next more sound fits. reads_trace version program states good count next more sound fits)
    (next_step program state) refl (next_reads version program states good state place) replies fit

pub reads_only : (version : Version) (maps : List MapDef) (code : List Insn) (states : List (Option State)) → IsEncodable version maps code →
    Accepts version maps code states → IsReader code states → OnlyReads maps code
reads_only version maps code states encodable accepted reader shards count frame worker now replies input few early fit =
    reads_trace version (record { code = code; maps = maps; shards = shards }) states
    (record { accepted = accepted; fits = parts_fit version maps code encodable; reads = reader }) count
    (initial_state (input_frame frame) worker now) replies
    (record {
      known = opening_state version;
      at = accepted.entry 0 (some_slot code encodable.some_code);
      begins = begins_at_start code (some_slot code encodable.some_code);
      sound = opening_sound version maps all_held frame worker now input few early;
      few = omega arith;
    })
    fit
