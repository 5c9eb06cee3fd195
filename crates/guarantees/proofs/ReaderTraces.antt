-- Runs of a program that only reads are the same on whichever worker.
use Rattle.std.proofs.Common.{◌≡◌, ℕ, zero, suc, true, not, List, [], ◌∷◌, Option, Ok, IsTrue, refl, sym, ◌∙◌, ap, subst, inl, inr, arith}
use Rattle.std.proofs.lemmas.Bool.{false≢true}
use Rattle.isa.specs.declared.operation.Register.{Register}
use Rattle.ebpf_decode.specs.declared.insn.Insn.{Insn}
use Rattle.ebpf_decode.specs.declared.insn.Insn.TheVariants.{Ldx, CallHelper}
use Rattle.ebpf_decode.specs.declared.map.MapDef.{MapDef}
use Rattle.ebpf_decode.specs.declared.version.Version.{Version}
use Rattle.ebpf_decode.specs.ImageContents.{IsEncodable}
use Rattle.semantics.specs.declared.call.Call.{Call}
use Rattle.semantics.specs.declared.call.Call.TheVariants.{Lookup}
use Rattle.semantics.specs.declared.call.Reply.{Reply}
use Rattle.semantics.specs.declared.call.Reply.TheVariants.{Cell}
use Rattle.semantics.specs.Linux.{field_at}
use Rattle.semantics.specs.RegisterValue.{RegisterValue, Number, ContextPointer, StackPointer, PacketPointer, MapPointer, CellPointer}
use Rattle.semantics.specs.RegisterValue as meaning
use Rattle.semantics.specs.MachineState.{MachineState, register_value, initial_state}
use Rattle.semantics.specs.Program.{Program}
use Rattle.semantics.specs.RunTrace.{HasExited, Waits, with_call, without_calls, trace_from, trace_of, AreReplies}
use Rattle.semantics.specs.Semantics.{next_step}
use Rattle.semantics.specs.ServedCalls.{Held, IsHandedOut, HoldsAfter}
use Rattle.semantics.specs.Step.{Step, Continues, CallsMap, Exits, Traps}
use Rattle.semantics.specs.System.{input_frame}
use Rattle.abstract_state.specs.declared.flow.Flow.{Flow}
use Rattle.abstract_state.specs.declared.kind.Kind.{Kind}
use Rattle.abstract_state.specs.declared.kind.Kind.TheVariants.{Unset, Scalar, Ctx, Stack, Packet, PacketEnd, Map, ValueOrNull, Value}
use Rattle.abstract_state.specs.declared.state.State.{State}
use Rattle.abstract_state.specs.States.{◌>>=◌, kind_of, opening_state}
use Rattle.abstract_state.specs.Access.{load_of}
use Rattle.abstract_state.specs.Flow.{writable, check_set, reads, load_flow, flow_of}
use Rattle.abstract_state.specs.Abstraction.{KindScope, KindCovers, kind_scope_of, Abstracts}
use Rattle.abstract_state.proofs.shared.Checking.{ok_then, falls_made}
use Rattle.abstract_state.proofs.shared.Opening.{opening_sound}
use Rattle.verifier.specs.Dataflow.{Accepts}
use Rattle.verifier.specs.Readers.{is_worker_helper, is_worker_field, is_queue_field, only_reads, IsReader}
use Rattle.verifier.proofs.shared.PlaceLemmas.{PartsFit, parts_fit, IsSoundPlace, Here, here_of, continues_there, answered_there}
use Rattle.verifier.proofs.shared.LocalLemmas.{begins_at_start}
use Rattle.verifier.proofs.shared.SafetyLemmas.{some_slot}
use Rattle.guarantees.specs.SameRuns.{at_worker, trace_of_any, RunsTheSame}
use Rattle.guarantees.proofs.SameSteps.{SameStep, AsksNoWorker, same_step}

-- ---- what an accepted instruction that only reads asks for

-- a register that holds the context is known to
context_kind : (s : KindScope) (kind : Kind) (register : Register) (value : RegisterValue) (done : Unit {0}) → check_set kind register ≡ Ok done → KindCovers s kind value → value ≡ ContextPointer → kind ≡ Ctx
context_kind s Unset register value done set c is = cc
context_kind s (Scalar i) register value done set c is = absurd (let e : Number c.number ≡ ContextPointer = sym c.is ∙ is in cc)
context_kind s Ctx register value done set c is = refl
context_kind s (Stack place) register value done set c is = absurd (let e : StackPointer c.at ≡ ContextPointer = sym c.is ∙ is in cc)
context_kind s (Packet id off range) register value done set c is = absurd (let e : PacketPointer s.generation _ ≡ ContextPointer = sym c.is ∙ is in cc)
context_kind s PacketEnd register value done set c is = absurd (let e : meaning.PacketEnd s.generation ≡ ContextPointer = sym c ∙ is in cc)
context_kind s (Map map) register value done set c is = absurd (let e : MapPointer map ≡ ContextPointer = sym c.is ∙ is in cc)
context_kind s (ValueOrNull map id) register value done set (inl c) is = absurd (let e : Number 0 ≡ ContextPointer = sym c.is ∙ is in cc)
context_kind s (ValueOrNull map id) register value done set (inr c) is = absurd (let e : CellPointer map c.cell.shard c.cell.id _ ≡ ContextPointer = sym c.is ∙ is in cc)
context_kind s (Value map id off) register value done set c is = absurd (let e : CellPointer map c.cell.shard c.cell.id _ ≡ ContextPointer = sym c.is ∙ is in cc)

abbrev pub all_held : Held
all_held map shard cell = true

asks_none : (maps : List MapDef) (state : MachineState) (known : State) (insn : Insn) (flow : Flow) → Abstracts maps all_held known state → IsTrue (only_reads known insn) →
    flow_of maps known state.slot insn ≡ Ok flow → AsksNoWorker insn state
asks_none maps state known (Ldx size dst src offset) flow a only e = λ is field.
    let made = falls_made (load_flow known dst src (load_of maps known size dst src offset)) flow e
    in let first = ok_then (writable dst) (λ _. reads known src >>= (λ _. load_of maps known size dst src offset)) made.0 made.1.0
    in let second = ok_then (reads known src) (λ _. load_of maps known size dst src offset) made.0 first.1.1
    in let kind : kind_of known src ≡ Ctx = context_kind (kind_scope_of maps all_held a.ids state) (kind_of known src) src (register_value state src) second.0 second.1.0 (a.registers src) is
    in let no_queue : not (is_worker_field (field_at offset)) ≡ true = subst (λ kind. not (is_queue_field kind offset) ≡ true) kind only
    in false≢true (subst (λ found. not (is_worker_field found) ≡ true) field no_queue)
asks_none maps state known (CallHelper number) flow a only e = λ is. false≢true (subst (λ found. not (is_worker_helper found) ≡ true) is only)
asks_none maps state known insn flow a only e = tt

-- ---- traces

handed : (program : Program) (call : Call) (reply : Reply) → IsHandedOut program all_held call reply
handed program (Lookup shard key) (Cell cell) = λ map definition known own. refl
handed program call reply = tt

pub holds : (program : Program) (call : Call) (reply : Reply) → HoldsAfter program all_held all_held call reply
holds program call reply = record { kept = λ map shard cell h. refl; handed_out = handed program call reply }

pub record IsAccepted (version : Version) (program : Program) (states : List (Option State)) : Type 0 where
  pub accepted : Accepts version program.maps program.code states
  pub fits : PartsFit program.maps program.code
  pub reads : IsReader program.code states

abbrev pub Sound : Program → List (Option State) → MachineState → Type 0
Sound program states state = IsSoundPlace program.maps program.code states all_held state

-- after a step that is the same
by_step : (version : Version) (program : Program) (states : List (Option State)) → IsAccepted version program states → (worker count : ℕ) (state : MachineState) → Sound program states state →
    ((next : MachineState) (replies : List Reply) → Sound program states next → AreReplies program (trace_of count program next replies).calls replies →
    trace_of_any (trace_of count program next replies) ≡ trace_of_any (trace_of count program (at_worker worker next) replies)) →
    (step other : Step) → next_step program state ≡ step → SameStep worker step other → (replies : List Reply) →
    AreReplies program (trace_from (trace_of count program) state step replies).calls replies →
    trace_of_any (trace_from (trace_of count program) state step replies) ≡ trace_of_any (trace_from (trace_of count program) (at_worker worker state) other replies)
by_step version program states good worker count state place later (Continues next) (Continues b) is same replies fit =
    subst (λ b. trace_of_any (trace_of count program next replies) ≡ trace_of_any (trace_of count program b replies)) (sym same)
    (later next replies (continues_there version program states all_held state next good.accepted good.fits place is).place fit)
by_step version program states good worker count state place later (CallsMap call go) (CallsMap other on) is same [] fit =
    ap (λ c. trace_of_any (with_call c (without_calls (Waits state)))) (sym same.0)
by_step version program states good worker count state place later (CallsMap call go) (CallsMap other on) is same (reply ∷ replies) fit =
    ap (with_call call) (subst (λ b. trace_of_any (trace_of count program (go reply) replies) ≡ trace_of_any (trace_of count program b replies)) (sym (same.1 reply))
    (later (go reply) replies (answered_there version program states all_held state call go good.accepted good.fits place is reply fit.0 all_held (holds program call reply)).place fit.1))
    ∙ ap (λ c. with_call c (trace_of_any (trace_of count program (on reply) replies))) (sym same.0)
by_step version program states good worker count state place later (Exits verdict last) (Exits other b) is same replies fit =
    ap (λ v. without_calls (HasExited v (at_worker 0 last))) (sym same.0) ∙ ap (λ b. without_calls (HasExited other (at_worker 0 b))) (sym same.1)
by_step version program states good worker count state place later (Traps cause) (Traps other) is same replies fit = rw same refl
by_step version program states good worker count state place later (Continues next) (CallsMap other on) is same replies fit = absurd same
by_step version program states good worker count state place later (Continues next) (Exits other b) is same replies fit = absurd same
by_step version program states good worker count state place later (Continues next) (Traps other) is same replies fit = absurd same
by_step version program states good worker count state place later (CallsMap call go) (Continues b) is same replies fit = absurd same
by_step version program states good worker count state place later (CallsMap call go) (Exits other b) is same replies fit = absurd same
by_step version program states good worker count state place later (CallsMap call go) (Traps other) is same replies fit = absurd same
by_step version program states good worker count state place later (Exits verdict last) (Continues b) is same replies fit = absurd same
by_step version program states good worker count state place later (Exits verdict last) (CallsMap other on) is same replies fit = absurd same
by_step version program states good worker count state place later (Exits verdict last) (Traps other) is same replies fit = absurd same
by_step version program states good worker count state place later (Traps cause) (Continues b) is same replies fit = absurd same
by_step version program states good worker count state place later (Traps cause) (CallsMap other on) is same replies fit = absurd same
by_step version program states good worker count state place later (Traps cause) (Exits other b) is same replies fit = absurd same

next_same : (version : Version) (program : Program) (states : List (Option State)) → IsAccepted version program states → (worker : ℕ) (state : MachineState) → Sound program states state →
    SameStep worker (next_step program state) (next_step program (at_worker worker state))
next_same version program states good worker state place =
    let here : Here program all_held state place.known = here_of version program states all_held state good.accepted good.fits place
    in let asks : AsksNoWorker here.insn state =
    asks_none program.maps state place.known here.insn here.flow place.sound (good.reads.reads state.slot here.insn place.known here.found place.at) here.flows
    in rw here.found (same_step worker program here.insn state here.jumps asks)

same_trace : (version : Version) (program : Program) (states : List (Option State)) → IsAccepted version program states → (worker count : ℕ) (state : MachineState) (replies : List Reply) →
    Sound program states state → AreReplies program (trace_of count program state replies).calls replies →
    trace_of_any (trace_of count program state replies) ≡ trace_of_any (trace_of count program (at_worker worker state) replies)
same_trace version program states good worker zero state replies place fit = refl
same_trace version program states good worker (suc count) state replies place fit =
    by_step version program states good worker count state place (λ next more sound fits. same_trace version program states good worker count next more sound fits)
    (next_step program state) (next_step program (at_worker worker state)) refl (next_same version program states good worker state place) replies fit

pub runs_the_same : (version : Version) (maps : List MapDef) (code : List Insn) (states : List (Option State)) → IsEncodable version maps code → Accepts version maps code states →
    IsReader code states → RunsTheSame maps code
runs_the_same version maps code states encodable accepted reader shards count frame one other now replies input few early fit =
    same_trace version (record { code = code; maps = maps; shards = shards }) states
    (record { accepted = accepted; fits = parts_fit version maps code encodable; reads = reader }) other count
    (initial_state (input_frame frame) one now) replies
    (record {
      known = opening_state version;
      at = accepted.entry 0 (some_slot code encodable.some_code);
      begins = begins_at_start code (some_slot code encodable.some_code);
      sound = opening_sound version maps all_held frame one now input few early;
      few = omega arith;
    })
    fit
