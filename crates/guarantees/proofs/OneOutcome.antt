-- Two runs on one frame that wrote the same are one trace: each call's reply is the next of the own entries of its shard.
use Rattle.std.proofs.Common.{◌≡◌, ◌≢◌, ⊎_elim, ℕ, zero, suc, ◌<◌, ◌==◌, Bool, true, cond, List, [], ◌∷◌, ◌++◌, map, reverse, refl, sym, ◌∙◌, ap, subst, arith}
use Rattle.std.specs.Prelude.{filter}
use Rattle.std.proofs.lemmas.Bool.{cases_eq, ne_eqb}
use Rattle.std.proofs.lemmas.Bool.Decides.{nat_tests}
use Rattle.std.proofs.lemmas.List.{append_cancel_right, reverse-reverse}
use Rattle.semantics.specs.declared.call.Call.{Call}
use Rattle.semantics.specs.declared.call.Reply.{Reply}
use Rattle.semantics.specs.declared.call.Entry.{Entry}
use Rattle.semantics.specs.declared.verdict.Verdict.{Verdict}
use Rattle.semantics.specs.MachineState.{MachineState, initial_state}
use Rattle.semantics.specs.Program.{Program}
use Rattle.semantics.specs.History.{shard_of_call}
use Rattle.semantics.specs.RunTrace.{RunTrace, HasExited, HasTrapped, GoesOn, trace_of, trace_from, with_call}
use Rattle.semantics.specs.Step.{Step, Continues, CallsMap, Exits, Traps}
use Rattle.semantics.specs.Semantics.{next_step}
use Rattle.semantics.specs.System.{program_of_setting, input_frame}
use Rattle.map_port.specs.Exchanges.{Exchange, calls_in, replies_in}
use Rattle.shards.specs.Passes.{own_at}
use Rattle.shard_port.specs.Asking.{leave_by}
use Rattle.shard_port.specs.Sessions.{exchange_entry, is_asked_of, exchange_entries, session}
use Rattle.shard_port.specs.PassSessions.{session_at, AreCallsWithin}
use Rattle.guarantees.specs.StepLaws.{RunsHaveOneOutcome}
use Rattle.guarantees.proofs.BackToTraces.{runs_are_traces}

-- ---- sessions

same_session : (worker number : ℕ) (one other : List Entry) → session worker number one ≡ session worker number other → one ≡ other
same_session worker number [] [] same = refl
same_session worker number [] (second ∷ later) same = absurd cc
same_session worker number (first ∷ later) [] same = absurd cc
same_session worker number (first ∷ later) (second ∷ others) same =
    let rest : (first ∷ later) ++ leave_by worker number ∷ [] ≡ (second ∷ others) ++ leave_by worker number ∷ [] = cc in
    append_cancel_right (first ∷ later) (second ∷ others) (leave_by worker number ∷ []) rest

pub same_entries : (worker number : ℕ) (one other : List Exchange) (base whole : List Entry) → whole ≡ reverse (session_at worker number one) ++ base →
    whole ≡ reverse (session_at worker number other) ++ base → exchange_entries worker number one ≡ exchange_entries worker number other
same_entries worker number one other base whole first second =
    let turned : reverse (session_at worker number one) ≡ reverse (session_at worker number other) =
    append_cancel_right (reverse (session_at worker number one)) (reverse (session_at worker number other)) base (sym first ∙ second) in
    same_session worker number (exchange_entries worker number one) (exchange_entries worker number other)
    (sym (reverse-reverse (session_at worker number one)) ∙ ap reverse turned ∙ reverse-reverse (session_at worker number other))

pub entries_there : (worker number : ℕ) (exchange : Exchange) (later : List Exchange) → shard_of_call exchange.call ≡ number →
    exchange_entries worker number (exchange ∷ later) ≡ exchange_entry worker exchange ∷ exchange_entries worker number later
entries_there worker number exchange later same =
    let here : (shard_of_call exchange.call == number) ≡ true = grind (arith, nat_tests) in
    ap (λ (test : Bool). map (exchange_entry worker) (cond test (exchange ∷ filter (is_asked_of number) later) (filter (is_asked_of number) later))) here

entries_elsewhere : (worker number : ℕ) (exchange : Exchange) (later : List Exchange) → number ≢ shard_of_call exchange.call →
    exchange_entries worker number (exchange ∷ later) ≡ exchange_entries worker number later
entries_elsewhere worker number exchange later apart =
    ap (λ (test : Bool). map (exchange_entry worker) (cond test (exchange ∷ filter (is_asked_of number) later) (filter (is_asked_of number) later)))
    (ne_eqb (shard_of_call exchange.call) number (λ same. apart (sym same)))

-- ---- two traces

abbrev HaveSame : ℕ → ℕ → List Exchange → List Exchange → Type 0
HaveSame worker count one other = (number : ℕ) → number < count → exchange_entries worker number one ≡ exchange_entries worker number other

abbrev IsExit : RunTrace → List Exchange → Verdict → MachineState → Type 0
IsExit trace exchanges verdict last = trace ≡ record { calls = calls_in exchanges; stand = HasExited verdict last }

abbrev IsOne : Program → ℕ → ℕ → Verdict → Verdict → MachineState → MachineState → ℕ → ℕ → Type 0
IsOne program worker count verdict verdict' last last' steps steps' =
    (state : MachineState) (one other : List Exchange) → IsExit (trace_of steps program state (replies_in one)) one verdict last →
    IsExit (trace_of steps' program state (replies_in other)) other verdict' last' → AreCallsWithin count one → HaveSame worker count one other →
    (verdict ≡ verdict') × (last ≡ last')

-- one call, which both make
one_call : (program : Program) (worker count : ℕ) (verdict verdict' : Verdict) (last last' : MachineState) (steps steps' : ℕ) (call : Call)
    (next : Reply → MachineState) (one other : Exchange) (more others : List Exchange) → IsOne program worker count verdict verdict' last last' steps steps' →
    call ≡ one.call → call ≡ other.call → IsExit (trace_of steps program (next one.reply) (replies_in more)) more verdict last →
    IsExit (trace_of steps' program (next other.reply) (replies_in others)) others verdict' last' → AreCallsWithin count (one ∷ more) →
    HaveSame worker count (one ∷ more) (other ∷ others) → (verdict ≡ verdict') × (last ≡ last')
one_call program worker count verdict verdict' last last' steps steps' call next one other more others rest first second trace trace' within same =
    let number : ℕ = shard_of_call one.call in
    let at : shard_of_call other.call ≡ number = ap shard_of_call (sym second ∙ first) in
    let heads : exchange_entry worker one ∷ exchange_entries worker number more ≡ exchange_entry worker other ∷ exchange_entries worker number others =
    sym (entries_there worker number one more refl) ∙ same number within.0 ∙ entries_there worker number other others at in
    let entry : exchange_entry worker one ≡ exchange_entry worker other = cc in
    let tails : exchange_entries worker number more ≡ exchange_entries worker number others = cc in
    let reply : one.reply ≡ other.reply = ap (λ (entry : Entry). entry.reply) entry in
    rest (next one.reply) more others trace
    (subst (λ (reply : Reply). IsExit (trace_of steps' program (next reply) (replies_in others)) others verdict' last') (sym reply) trace') within.1
    (λ shard below. ⊎_elim
    (λ here. subst (λ (n : ℕ). exchange_entries worker n more ≡ exchange_entries worker n others) (sym here) tails)
    (λ apart. sym (entries_elsewhere worker shard one more apart) ∙ same shard below
    ∙ entries_elsewhere worker shard other others (λ here. apart (here ∙ at)))
    (cases_eq shard number))

made_first : (call : Call) (rest : RunTrace) (exchange : Exchange) (later : List Exchange) (verdict : Verdict) (last : MachineState) →
    with_call call rest ≡ record { calls = exchange.call ∷ calls_in later; stand = HasExited verdict last } →
    (call ≡ exchange.call) × (rest ≡ record { calls = calls_in later; stand = HasExited verdict last })
made_first call rest exchange later verdict last trace =
    let made : call ∷ rest.calls ≡ exchange.call ∷ calls_in later = ap (λ (one : RunTrace). one.calls) trace in
    let stands : rest.stand ≡ HasExited verdict last = ap (λ (one : RunTrace). one.stand) trace in
    let calls_are : rest.calls ≡ calls_in later = cc in
    let same : call ≡ exchange.call = cc in (same, rw (sym calls_are, sym stands) refl)

none_made : (call : Call) (rest : List Call) → call ∷ rest ≡ [] → ⊥
none_made call rest same = cc

by_step : (program : Program) (worker count : ℕ) (verdict verdict' : Verdict) (last last' : MachineState) (steps steps' : ℕ) →
    IsOne program worker count verdict verdict' last last' steps steps' → (state : MachineState) (one other : List Exchange) (step : Step) →
    IsExit (trace_from (trace_of steps program) state step (replies_in one)) one verdict last →
    IsExit (trace_from (trace_of steps' program) state step (replies_in other)) other verdict' last' → AreCallsWithin count one →
    HaveSame worker count one other → (verdict ≡ verdict') × (last ≡ last')
by_step program worker count verdict verdict' last last' steps steps' rest state one other (Continues next) trace trace' within same =
    rest next one other trace trace' within same
by_step program worker count verdict verdict' last last' steps steps' rest state one other (Exits ended final) trace trace' within same =
    let first : HasExited ended final ≡ HasExited verdict last = ap (λ (one : RunTrace). one.stand) trace in
    let second : HasExited ended final ≡ HasExited verdict' last' = ap (λ (one : RunTrace). one.stand) trace' in
    let verdicts : verdict ≡ verdict' = cc in let states : last ≡ last' = cc in (verdicts, states)
by_step program worker count verdict verdict' last last' steps steps' rest state one other (Traps cause) trace trace' within same =
    absurd (let first : HasTrapped cause ≡ HasExited verdict last = ap (λ (one : RunTrace). one.stand) trace in cc)
by_step program worker count verdict verdict' last last' steps steps' rest state [] other (CallsMap call next) trace trace' within same =
    absurd (none_made call [] (ap (λ (one : RunTrace). one.calls) trace))
by_step program worker count verdict verdict' last last' steps steps' rest state (one ∷ more) [] (CallsMap call next) trace trace' within same =
    absurd (none_made call [] (ap (λ (one : RunTrace). one.calls) trace'))
by_step program worker count verdict verdict' last last' steps steps' rest state (one ∷ more) (other ∷ others) (CallsMap call next) trace trace' within same =
    let first = made_first call (trace_of steps program (next one.reply) (replies_in more)) one more verdict last trace in
    let second = made_first call (trace_of steps' program (next other.reply) (replies_in others)) other others verdict' last' trace' in
    one_call program worker count verdict verdict' last last' steps steps' call next one other more others rest first.0 second.0 first.1 second.1
    within same

one_trace : (program : Program) (worker count : ℕ) (verdict verdict' : Verdict) (last last' : MachineState) (steps steps' : ℕ) →
    IsOne program worker count verdict verdict' last last' steps steps'
one_trace program worker count verdict verdict' last last' zero steps' state one other trace trace' within same =
    absurd (let first : GoesOn ≡ HasExited verdict last = ap (λ (one : RunTrace). one.stand) trace in cc)
one_trace program worker count verdict verdict' last last' (suc steps) zero state one other trace trace' within same =
    absurd (let first : GoesOn ≡ HasExited verdict' last' = ap (λ (one : RunTrace). one.stand) trace' in cc)
one_trace program worker count verdict verdict' last last' (suc steps) (suc steps') state one other trace trace' within same =
    by_step program worker count verdict verdict' last last' steps steps'
    (λ state one other trace trace' within same.
    one_trace program worker count verdict verdict' last last' steps steps' state one other trace trace' within same)
    state one other (next_step program state) trace trace' within same

pub runs_have_one_outcome : RunsHaveOneOutcome
runs_have_one_outcome setting worker told now frame count before after verdict verdict' last last' run run' =
    let first = runs_are_traces setting worker told now frame count before after verdict last run in
    let second = runs_are_traces setting worker told now frame count before after verdict' last' run' in
    one_trace (program_of_setting setting) worker count verdict verdict' last last' first.instructions second.instructions
    (initial_state (input_frame frame) told now) first.exchanges second.exchanges first.trace second.trace first.within
    (λ number below. same_entries worker number first.exchanges second.exchanges (own_at before number) (own_at after number)
    (first.written number below) (second.written number below))
