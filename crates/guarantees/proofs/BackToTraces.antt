-- A run of the system is its program's trace on the replies that its own entries have.
use Rattle.std.proofs.Common.{◌≡◌, ℕ, zero, suc, ◌==◌, ◌||◌, Bool, true, false, cond, List, [], ◌∷◌, ◌++◌, reverse, refl, sym, ◌∙◌, ap, subst}
use Rattle.std.specs.Prelude.{if◌then◌else◌}
use Rattle.std.proofs.lemmas.Bool.{eqb-true}
use Rattle.semantics.specs.declared.call.Call.{Call}
use Rattle.semantics.specs.declared.call.Reply.{Reply}
use Rattle.semantics.specs.declared.call.Entry.{Entry}
use Rattle.semantics.specs.declared.verdict.Verdict.{Verdict}
use Rattle.semantics.specs.MachineState.{MachineState, initial_state}
use Rattle.semantics.specs.Program.{Program}
use Rattle.semantics.specs.History.{shard_of_call}
use Rattle.semantics.specs.RunTrace.{RunTrace, HasExited, GoesOn, trace_of, trace_from, with_call}
use Rattle.semantics.specs.Step.{CallsMap, Exits}
use Rattle.semantics.specs.Semantics.{next_step}
use Rattle.semantics.specs.System.{Setting, program_of_setting, WorkerState, Idle, Runs, Leaves, is_entered, run_over, without_shard, input_frame}
use Rattle.semantics.proofs.shared.SystemSteps.{gone}
use Rattle.map_port.specs.Exchanges.{Exchange, calls_in, replies_in}
use Rattle.shards.specs.Passes.{own_at}
use Rattle.shard_port.specs.Asking.{enter_by, leave_by}
use Rattle.shard_port.specs.Sessions.{exchange_entries}
use Rattle.shard_port.specs.PassSessions.{AreCallsWithin}
use Rattle.runs.specs.FrameRuns.{AreFormed}
use Rattle.guarantees.specs.Steps.{Move, Writes, asks, leave, IsStep, RunBegins, RunGoesOn, RunEnds, CallIsServed, ShardIsEntered, CallIsRefused, EnterIsRefused, ShardIsLeft, AreSteps, InRun, AreStepsOfRun, beginning, leavings, entries_on}
use Rattle.guarantees.specs.StepLaws.{IsListedNext, RunsAreTraces}
use Rattle.guarantees.proofs.EventLemmas.{is_some_entry, since, call_on, enter_on, call_in, enter_in, or_false, nothing_since, append_on, closed}
use Rattle.guarantees.proofs.Leaving.{still_in}
use Rattle.guarantees.proofs.ListedSteps.{steps_are_listed}

-- ---- from its end back to its beginning

record Traced (setting : Setting) (count worker : ℕ) (state : MachineState) (entered : List ℕ) (moves : List Move) (verdict : Verdict)
    (last : MachineState) (after : List ℕ) : Type 0 where
  exchanges : List Exchange
  instructions : ℕ
  trace :
      trace_of instructions (program_of_setting setting) state (replies_in exchanges)
      ≡ record { calls = calls_in exchanges; stand = HasExited verdict last }
  within : AreCallsWithin count exchanges
  formed : AreFormed (program_of_setting setting) exchanges
  writes : (number : ℕ) → entries_on number moves ≡ since (is_entered number entered) worker number (exchange_entries worker number exchanges)
  stays : (number : ℕ) → is_entered number after ≡ (is_entered number entered || is_some_entry (exchange_entries worker number exchanges))

abbrev IsTraced : Setting → ℕ → ℕ → Verdict → MachineState → List ℕ → List Move → WorkerState → Type 0
IsTraced setting count worker verdict last after moves (Runs state entered) = Traced setting count worker state entered moves verdict last after
IsTraced setting count worker verdict last after moves Idle = ⊥
IsTraced setting count worker verdict last after moves (Leaves entered) = ⊥

over_is_no_run : (setting : Setting) (count worker : ℕ) (verdict : Verdict) (last : MachineState) (after : List ℕ) (moves : List Move)
    (entered : List ℕ) → IsTraced setting count worker verdict last after moves (run_over entered) → ⊥
over_is_no_run setting count worker verdict last after moves [] traced = traced
over_is_no_run setting count worker verdict last after moves (shard ∷ entered) traced = traced

-- a state whose next instruction makes this call has asked for it first
pub record AsksFirst (program : Program) (state : MachineState) (call : Call) (next : Reply → MachineState) (verdict : Verdict) (last : MachineState)
    (exchanges : List Exchange) : Type 0 where
  pub reply : Reply
  pub later : List Exchange
  pub parts : exchanges ≡ (record { call = call; reply = reply }) ∷ later
  pub fewer : ℕ
  pub trace : trace_of fewer program (next reply) (replies_in later) ≡ record { calls = calls_in later; stand = HasExited verdict last }

pub asks_first : (program : Program) (state : MachineState) (call : Call) (next : Reply → MachineState) (verdict : Verdict) (last : MachineState)
    (instructions : ℕ) (exchanges : List Exchange) → next_step program state ≡ CallsMap call next →
    trace_of instructions program state (replies_in exchanges) ≡ record { calls = calls_in exchanges; stand = HasExited verdict last } →
    AsksFirst program state call next verdict last exchanges
asks_first program state call next verdict last zero exchanges is trace =
    absurd (let stands : GoesOn ≡ HasExited verdict last = ap (λ (one : RunTrace). one.stand) trace in cc)
asks_first program state call next verdict last (suc instructions) [] is trace =
    let here : trace_from (trace_of instructions program) state (CallsMap call next) [] ≡ record { calls = []; stand = HasExited verdict last } =
    ap (λ step. trace_from (trace_of instructions program) state step []) (sym is) ∙ trace in
    absurd (let made : call ∷ [] ≡ [] = ap (λ (one : RunTrace). one.calls) here in cc)
asks_first program state call next verdict last (suc instructions) (exchange ∷ later) is trace =
    let rest : RunTrace = trace_of instructions program (next exchange.reply) (replies_in later) in
    let here : trace_from (trace_of instructions program) state (CallsMap call next) (replies_in (exchange ∷ later))
    ≡ record { calls = exchange.call ∷ calls_in later; stand = HasExited verdict last } =
    ap (λ step. trace_from (trace_of instructions program) state step (replies_in (exchange ∷ later))) (sym is) ∙ trace in
    let made : call ∷ rest.calls ≡ exchange.call ∷ calls_in later = ap (λ (one : RunTrace). one.calls) here in
    let stands : rest.stand ≡ HasExited verdict last = ap (λ (one : RunTrace). one.stand) here in
    let same : call ≡ exchange.call = cc in
    let calls_are : rest.calls ≡ calls_in later = cc in
    record {
      reply = exchange.reply;
      later = later;
      parts = ap (λ (one : Call). (record { call = one; reply = exchange.reply }) ∷ later) (sym same);
      fewer = instructions;
      trace = rw (sym calls_are, sym stands) refl;
    }

enters_before : (setting : Setting) (count worker : ℕ) (state : MachineState) (entered : List ℕ) (call : Call) (next : Reply → MachineState)
    (moves : List Move) (verdict : Verdict) (last : MachineState) (after : List ℕ) →
    next_step (program_of_setting setting) state ≡ CallsMap call next → is_entered (shard_of_call call) entered ≡ false →
    (rest : Traced setting count worker state (shard_of_call call ∷ entered) moves verdict last after) →
    AsksFirst (program_of_setting setting) state call next verdict last rest.exchanges →
    Traced setting count worker state entered ((asks worker (Writes (enter_by worker (shard_of_call call)))) ∷ moves) verdict
    last after
enters_before setting count worker state entered call next moves verdict last after is outside rest first =
    let exchange : Exchange = record { call = call; reply = first.reply } in
    record {
      exchanges = rest.exchanges;
      instructions = rest.instructions;
      trace = rest.trace;
      within = rest.within;
      formed = rest.formed;
      writes = λ number.
          subst (λ (list : List Exchange). entries_on number ((asks worker (Writes (enter_by worker (shard_of_call call)))) ∷ moves)
          ≡ since (is_entered number entered) worker number (exchange_entries worker number list)) (sym first.parts)
          (enter_on worker number exchange first.later entered moves outside
          (subst (λ (list : List Exchange). entries_on number moves
          ≡ since (is_entered number (shard_of_call call ∷ entered)) worker number (exchange_entries worker number list)) first.parts (rest.writes number)));
      stays = λ number.
          subst (λ (list : List Exchange). is_entered number after ≡ (is_entered number entered || is_some_entry (exchange_entries worker number list)))
          (sym first.parts)
          (enter_in worker number exchange first.later entered after
          (subst (λ (list : List Exchange). is_entered number after
          ≡ (is_entered number (shard_of_call call ∷ entered) || is_some_entry (exchange_entries worker number list))) first.parts (rest.stays number)));
    }

back : (setting : Setting) (count worker : ℕ) (verdict : Verdict) (last : MachineState) (after : List ℕ) (later : List Move) (one : WorkerState)
    (move : Move) (two : WorkerState) → IsStep setting count worker one move two → IsTraced setting count worker verdict last after later two →
    (state : MachineState) (entered : List ℕ) → one ≡ Runs state entered →
    IsTraced setting count worker verdict last after (move ∷ later) one
back setting count worker verdict last after later one move two (RunBegins frame now told few input early low) rest here there is_run = absurd cc
back setting count worker verdict last after later one move two (RunGoesOn state next entered is) rest here there is_run = record {
  exchanges = rest.exchanges;
  instructions = suc rest.instructions;
  trace = ap (λ step. trace_from (trace_of rest.instructions (program_of_setting setting)) state step (replies_in rest.exchanges)) is ∙ rest.trace;
  within = rest.within;
  formed = rest.formed;
  writes = rest.writes;
  stays = rest.stays;
}
back setting count worker verdict last after later one move two (RunEnds state final ended entered is) rest here there is_run =
    absurd (over_is_no_run setting count worker verdict last after later entered rest)
back setting count worker verdict last after later one move two (CallIsServed state entered call next reply is within inside formed) rest here there is_run =
    let exchange : Exchange = record { call = call; reply = reply } in
    record {
      exchanges = exchange ∷ rest.exchanges;
      instructions = suc rest.instructions;
      trace =
          ap (λ step. trace_from (trace_of rest.instructions (program_of_setting setting)) state step (reply ∷ replies_in rest.exchanges)) is
          ∙ ap (λ (trace : RunTrace). with_call call trace) rest.trace;
      within = (within, rest.within);
      formed = (formed, rest.formed);
      writes = λ number. call_on worker number exchange rest.exchanges entered later inside (rest.writes number);
      stays = λ number. call_in worker number exchange rest.exchanges entered after inside (rest.stays number);
    }
back setting count worker verdict last after later one move two (ShardIsEntered state entered call next is within outside) rest here there is_run =
    enters_before setting count worker state entered call next later verdict last after is outside rest
    (asks_first (program_of_setting setting) state call next verdict last rest.instructions rest.exchanges is rest.trace)
back setting count worker verdict last after later one move two (CallIsRefused state entered call next is within inside) rest here there is_run =
    absurd (over_is_no_run setting count worker verdict last after later entered rest)
back setting count worker verdict last after later one move two (EnterIsRefused state entered call next is within outside) rest here there is_run =
    absurd (over_is_no_run setting count worker verdict last after later entered rest)
back setting count worker verdict last after later one move two (ShardIsLeft shard entered within inside) rest here there is_run = absurd cc

traced : (setting : Setting) (count worker : ℕ) (verdict : Verdict) (last : MachineState) (ending : InRun) →
    next_step (program_of_setting setting) ending.state ≡ Exits verdict last → (moves : List Move) (here : InRun) →
    AreStepsOfRun setting count worker here moves ending → Traced setting count worker here.state here.entered moves verdict last ending.entered
traced setting count worker verdict last ending is [] here steps = record {
  exchanges = [];
  instructions = suc zero;
  trace = ap (λ step. trace_from (trace_of zero (program_of_setting setting)) here.state step [])
      (ap (λ (one : InRun). next_step (program_of_setting setting) one.state) steps ∙ is);
  within = tt;
  formed = tt;
  writes = λ number. nothing_since worker number (is_entered number here.entered);
  stays = λ number. ap (λ (one : InRun). is_entered number one.entered) (sym steps) ∙ sym (or_false (is_entered number here.entered));
}
traced setting count worker verdict last ending is (move ∷ moves) here steps =
    back setting count worker verdict last ending.entered moves (Runs here.state here.entered) move (Runs steps.0.state steps.0.entered) steps.1
    (traced setting count worker verdict last ending is moves steps.0 steps.2) here.state here.entered refl

-- ---- leaving

leaves_this : (setting : Setting) (count worker shard : ℕ) (entered : List ℕ) (two : WorkerState) →
    IsListedNext setting worker (run_over entered) (leave worker shard) two →
    (is_entered shard entered ≡ true) × (two ≡ run_over (without_shard shard entered))
leaves_this setting count worker shard [] two next = absurd (let event = ap (λ (move : Move). move.event) next.move_is in cc)
leaves_this setting count worker shard (one ∷ entered) two next =
    let event = ap (λ (move : Move). move.event) next.move_is in
    let same : next.shard ≡ shard = cc in (
      subst (λ (number : ℕ). is_entered number (one ∷ entered) ≡ true) same next.inside,
      next.after_is ∙ ap (λ (number : ℕ). run_over (without_shard number (one ∷ entered))) same,
    )

leaves_write : (setting : Setting) (count worker number : ℕ) (left entered : List ℕ) →
    AreSteps setting count worker (run_over entered) (leavings worker left) Idle →
    entries_on number (leavings worker left) ≡ (if is_entered number entered then leave_by worker number ∷ [] else [])
leaves_write setting count worker number [] [] steps = refl
leaves_write setting count worker number [] (one ∷ entered) steps = absurd cc
leaves_write setting count worker number (shard ∷ left) entered steps =
    let this = leaves_this setting count worker shard entered steps.0
    (steps_are_listed setting count worker (run_over entered) (leave worker shard) steps.0 steps.1) in
    let rest : entries_on number (leavings worker left)
    ≡ (if is_entered number (without_shard shard entered) then leave_by worker number ∷ [] else []) =
    leaves_write setting count worker number left (without_shard shard entered)
    (subst (λ (here : WorkerState). AreSteps setting count worker here (leavings worker left) Idle) this.1 steps.2) in
    by_test this.0 rest (shard == number) refl
  where
    by_test : is_entered shard entered ≡ true →
        entries_on number (leavings worker left) ≡ (if is_entered number (without_shard shard entered) then leave_by worker number ∷ [] else []) →
        (test : Bool) → (shard == number) ≡ test →
        cond test (leave_by worker shard ∷ entries_on number (leavings worker left)) (entries_on number (leavings worker left))
        ≡ (if is_entered number entered then leave_by worker number ∷ [] else [])
    by_test inside rest false is =
        rest ∙ ap (λ (test : Bool). if test then leave_by worker number ∷ [] else []) (still_in shard number entered is)
    by_test inside rest true is =
        let same : shard ≡ number = eqb-true shard number is in
        let out : is_entered number (without_shard shard entered) ≡ false =
        subst (λ (n : ℕ). is_entered n (without_shard shard entered) ≡ false) same (gone shard entered) in
        let there : is_entered number entered ≡ true = subst (λ (n : ℕ). is_entered n entered ≡ true) same inside in
        ap (λ (n : ℕ). leave_by worker n ∷ entries_on number (leavings worker left)) same
        ∙ ap (λ (list : List Entry). leave_by worker number ∷ list)
        (rest ∙ ap (λ (test : Bool). if test then leave_by worker number ∷ [] else []) out)
        ∙ ap (λ (test : Bool). if test then leave_by worker number ∷ [] else []) (sym there)

-- ---- the whole run

pub runs_are_traces : RunsAreTraces
runs_are_traces setting worker told now frame count before after verdict last run =
    let there : Traced setting count worker (initial_state (input_frame frame) told now) [] run.run verdict last run.ending.entered =
    traced setting count worker verdict last run.ending run.exits run.run (beginning frame told now) run.goes_on in
    record {
      exchanges = there.exchanges;
      instructions = there.instructions;
      trace = there.trace;
      within = there.within;
      formed = there.formed;
      written = λ number below. run.written number below
          ∙ ap (λ (list : List Entry). reverse list ++ own_at before number)
          (append_on number run.run (leavings worker run.left)
          ∙ ap (λ (list : List Entry). list ++ entries_on number (leavings worker run.left)) (there.writes number)
          ∙ ap (λ (list : List Entry). since false worker number (exchange_entries worker number there.exchanges) ++ list)
          (leaves_write setting count worker number run.left run.ending.entered run.leaves
          ∙ ap (λ (test : Bool). if test then leave_by worker number ∷ [] else []) (there.stays number))
          ∙ closed worker number (exchange_entries worker number there.exchanges));
    }
