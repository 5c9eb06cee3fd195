-- What a worker's events need and lead to, in every state of the system in which the worker is where the step begins.
use Rattle.std.proofs.Common.{◌≡◌, ℕ, ◌<◌, ◌^◌, ◌/◌, ◌%◌, ◌==◌, Bool, true, false, List, [], ◌∷◌, Option, Some, None, refl, sym, ◌∙◌, ap, subst, arith}
use Rattle.std.specs.Prelude.{IsTrue, slice_get, if◌then◌else◌}
use Rattle.std.proofs.lemmas.Bool.Decides.{nat_tests}
use Rattle.ebpf_decode.specs.declared.map.MapDef.{MapDef}
use Rattle.semantics.specs.declared.options.Options.{Options}
use Rattle.semantics.specs.declared.verdict.Verdict.{Verdict}
use Rattle.semantics.specs.declared.call.Caller.TheVariants.{Worker}
use Rattle.semantics.specs.declared.call.Call.{Call}
use Rattle.semantics.specs.declared.call.Call.TheVariants.{Enter, Leave}
use Rattle.semantics.specs.declared.call.Reply.{Reply}
use Rattle.semantics.specs.declared.call.Reply.TheVariants.{Entered, Left}
use Rattle.semantics.specs.MachineState.{MachineState, initial_state}
use Rattle.semantics.specs.Step.{Continues, CallsMap, Exits}
use Rattle.semantics.specs.Semantics.{next_step}
use Rattle.semantics.specs.declared.plan.ShardPlan.{ShardPlan}
use Rattle.semantics.specs.ShardPlan.{plan_for_map, plan_at}
use Rattle.semantics.specs.History.{shard_of_call}
use Rattle.semantics.specs.System.{Setting, program_of_setting, SystemState, WorkerState, Idle, Runs, Leaves, worker_state, with_worker, with_entry, is_entered, IsInputFrame, input_frame, is_local, calls_map, DoesNext, MayLeave, run_over, without_shard, after_local, after_instruction, entry_for, after_run_call, after_asking, after_shard_call, after_leaving}
use Rattle.shard_port.specs.Asking.{enter_by, asked_entry}
use Rattle.guarantees.specs.Steps.{Writes, TurnedAway, does, begins, asks, leave, RunBegins, RunGoesOn, RunEnds, CallIsServed, ShardIsEntered, CallIsRefused, EnterIsRefused, ShardIsLeft}
use Rattle.guarantees.specs.Moves.{Answers, TurnsAway, IsMove, StepsAreMoves}

-- ---- by a plan of the setting

numbered_by : (options : Options) (number : ℕ) (found : Option MapDef) (plan : ShardPlan) → plan_for_map options number found ≡ Some plan → plan.number ≡ number
numbered_by options number None plan is = absurd cc
numbered_by options number (Some definition) plan is =
    let same : (record { number = number; part = number % options.shards; parts = options.shards; definition = definition; workers = options.workers; reserve = options.journal }) ≡ plan = cc
    in sym (ap (λ (one : ShardPlan). one.number) same)

pub numbered : (setting : Setting) (number : ℕ) (plan : ShardPlan) → plan_at setting.maps setting.options number ≡ Some plan → plan.number ≡ number
numbered setting number plan is = numbered_by setting.options number (slice_get setting.maps (number / setting.options.shards)) plan is

answered : (setting : Setting) (system : SystemState) (worker : ℕ) (call : Call) (reply : Reply) (entered : List ℕ) (next : Reply → WorkerState) →
    Answers setting system (asked_entry worker call reply) →
    after_run_call (plan_at setting.maps setting.options (shard_of_call call)) system worker call entered next
    ≡ with_worker (with_entry system (shard_of_call call) (asked_entry worker call reply)) worker (next reply)
answered setting system worker call reply entered next answers =
    let plan : ShardPlan = answers.plan in
    let number : plan.number ≡ shard_of_call call = numbered setting (shard_of_call call) plan answers.known in
    ap (λ found. after_run_call found system worker call entered next) answers.known
    ∙ ap (λ full. if full then with_worker system worker (run_over entered)
    else with_worker (with_entry system plan.number (entry_for plan system (Worker worker) call)) worker
    (next (entry_for plan system (Worker worker) call).reply)) answers.room
    ∙ ap (λ (one : Reply). with_worker (with_entry system plan.number (asked_entry worker call one)) worker (next one)) (sym answers.replied)
    ∙ ap (λ (one : ℕ). with_worker (with_entry system one (asked_entry worker call reply)) worker (next reply)) number

turned_away : (setting : Setting) (system : SystemState) (worker : ℕ) (call : Call) (entered : List ℕ) (next : Reply → WorkerState) →
    TurnsAway setting system call →
    after_run_call (plan_at setting.maps setting.options (shard_of_call call)) system worker call entered next
    ≡ with_worker system worker (run_over entered)
turned_away setting system worker call entered next turns =
    let plan : ShardPlan = turns.plan in
    ap (λ found. after_run_call found system worker call entered next) turns.known
    ∙ ap (λ full. if full then with_worker system worker (run_over entered)
    else with_worker (with_entry system plan.number (entry_for plan system (Worker worker) call)) worker
    (next (entry_for plan system (Worker worker) call).reply)) turns.full

-- ---- moves

pub own_event : (worker : ℕ) → IsTrue (worker == worker)
own_event worker = grind (arith, nat_tests)

begins_so : (setting : Setting) (worker now told : ℕ) (frame : List ℕ) → worker < setting.options.workers → IsInputFrame frame →
    now < 2 ^ 64 → told < 8 →
    IsMove setting worker Idle (begins worker frame now told) (Runs (initial_state (input_frame frame) told now) [])
begins_so setting worker now told frame few input early low = record {
  own = own_event worker;
  can = λ system stands asked. (few, stands, input, early, low);
  leads = λ system stands asked. refl;
}

goes_on : (setting : Setting) (worker : ℕ) (state next : MachineState) (entered : List ℕ) →
    next_step (program_of_setting setting) state ≡ Continues next → IsMove setting worker (Runs state entered) (does worker) (Runs next entered)
goes_on setting worker state next entered is = record {
  own = own_event worker;
  can = λ system stands asked. subst (λ one. DoesNext setting one is_local) (sym stands) (ap is_local is);
  leads = λ system stands asked.
      ap (λ one. with_worker system worker (after_instruction setting one)) stands
      ∙ ap (λ step. with_worker system worker (after_local step entered (Runs state entered))) is;
}

ends : (setting : Setting) (worker : ℕ) (state last : MachineState) (verdict : Verdict) (entered : List ℕ) →
    next_step (program_of_setting setting) state ≡ Exits verdict last → IsMove setting worker (Runs state entered) (does worker) (run_over entered)
ends setting worker state last verdict entered is = record {
  own = own_event worker;
  can = λ system stands asked. subst (λ one. DoesNext setting one is_local) (sym stands) (ap is_local is);
  leads = λ system stands asked.
      ap (λ one. with_worker system worker (after_instruction setting one)) stands
      ∙ ap (λ step. with_worker system worker (after_local step entered (Runs state entered))) is;
}

-- the event in which a run calls a shard that it has entered, or enters it
asking : (setting : Setting) (system : SystemState) (worker : ℕ) (state : MachineState) (entered : List ℕ) (call : Call)
    (next : Reply → MachineState) (inside : Bool) → worker_state system worker ≡ Runs state entered →
    next_step (program_of_setting setting) state ≡ CallsMap call next → is_entered (shard_of_call call) entered ≡ inside →
    after_shard_call setting system worker (worker_state system worker)
    ≡ (if inside then after_run_call (plan_at setting.maps setting.options (shard_of_call call)) system worker call entered
    (λ reply. Runs (next reply) entered)
    else after_run_call (plan_at setting.maps setting.options (shard_of_call call)) system worker (Enter (shard_of_call call)) entered
    (λ reply. Runs state (shard_of_call call ∷ entered)))
asking setting system worker state entered call next inside stands is there =
    ap (after_shard_call setting system worker) stands ∙ ap (after_asking setting system worker state entered) is
    ∙ ap (λ test. if test then after_run_call (plan_at setting.maps setting.options (shard_of_call call)) system worker call entered
    (λ reply. Runs (next reply) entered)
    else after_run_call (plan_at setting.maps setting.options (shard_of_call call)) system worker (Enter (shard_of_call call)) entered
    (λ reply. Runs state (shard_of_call call ∷ entered))) there

can_ask : (setting : Setting) (system : SystemState) (worker : ℕ) (state : MachineState) (entered : List ℕ) (call : Call)
    (next : Reply → MachineState) → worker_state system worker ≡ Runs state entered →
    next_step (program_of_setting setting) state ≡ CallsMap call next → DoesNext setting (worker_state system worker) calls_map
can_ask setting system worker state entered call next stands is =
    subst (λ one. DoesNext setting one calls_map) (sym stands) (ap calls_map is)

calls : (setting : Setting) (worker : ℕ) (state : MachineState) (entered : List ℕ) (call : Call) (next : Reply → MachineState)
    (reply : Reply) → next_step (program_of_setting setting) state ≡ CallsMap call next → is_entered (shard_of_call call) entered ≡ true →
    IsMove setting worker (Runs state entered) (asks worker (Writes (asked_entry worker call reply))) (Runs (next reply) entered)
calls setting worker state entered call next reply is inside = record {
  own = own_event worker;
  can = λ system stands answers. can_ask setting system worker state entered call next stands is;
  leads = λ system stands answers.
      asking setting system worker state entered call next true stands is inside
      ∙ answered setting system worker call reply entered (λ one. Runs (next one) entered) answers;
}

enters : (setting : Setting) (worker : ℕ) (state : MachineState) (entered : List ℕ) (call : Call) (next : Reply → MachineState) →
    next_step (program_of_setting setting) state ≡ CallsMap call next → is_entered (shard_of_call call) entered ≡ false →
    IsMove setting worker (Runs state entered) (asks worker (Writes (enter_by worker (shard_of_call call))))
    (Runs state (shard_of_call call ∷ entered))
enters setting worker state entered call next is outside = record {
  own = own_event worker;
  can = λ system stands answers. can_ask setting system worker state entered call next stands is;
  leads = λ system stands answers.
      asking setting system worker state entered call next false stands is outside
      ∙ answered setting system worker (Enter (shard_of_call call)) Entered entered (λ one. Runs state (shard_of_call call ∷ entered)) answers;
}

is_refused : (setting : Setting) (worker : ℕ) (state : MachineState) (entered : List ℕ) (call : Call) (next : Reply → MachineState) →
    next_step (program_of_setting setting) state ≡ CallsMap call next → is_entered (shard_of_call call) entered ≡ true →
    IsMove setting worker (Runs state entered) (asks worker (TurnedAway call)) (run_over entered)
is_refused setting worker state entered call next is inside = record {
  own = own_event worker;
  can = λ system stands turns. can_ask setting system worker state entered call next stands is;
  leads = λ system stands turns.
      asking setting system worker state entered call next true stands is inside
      ∙ turned_away setting system worker call entered (λ one. Runs (next one) entered) turns;
}

cannot_enter : (setting : Setting) (worker : ℕ) (state : MachineState) (entered : List ℕ) (call : Call) (next : Reply → MachineState) →
    next_step (program_of_setting setting) state ≡ CallsMap call next → is_entered (shard_of_call call) entered ≡ false →
    IsMove setting worker (Runs state entered) (asks worker (TurnedAway (Enter (shard_of_call call)))) (run_over entered)
cannot_enter setting worker state entered call next is outside = record {
  own = own_event worker;
  can = λ system stands turns. can_ask setting system worker state entered call next stands is;
  leads = λ system stands turns.
      asking setting system worker state entered call next false stands is outside
      ∙ turned_away setting system worker (Enter (shard_of_call call)) entered (λ one. Runs state (shard_of_call call ∷ entered)) turns;
}

leaves_one : (setting : Setting) (worker shard : ℕ) (entered : List ℕ) → is_entered shard entered ≡ true →
    IsMove setting worker (Leaves entered) (leave worker shard) (run_over (without_shard shard entered))
leaves_one setting worker shard entered inside = record {
  own = own_event worker;
  can = λ system stands answers. subst (λ one. MayLeave one shard) (sym stands) inside;
  leads = λ system stands answers.
      ap (after_leaving setting system worker shard) stands
      ∙ answered setting system worker (Leave shard) Left entered (λ one. run_over (without_shard shard entered)) answers;
}

-- ---- each step is a move

pub steps_are_moves : StepsAreMoves
steps_are_moves setting count worker before move after (RunBegins frame now told few input early low) =
    begins_so setting worker now told frame few input early low
steps_are_moves setting count worker before move after (RunGoesOn state next entered is) = goes_on setting worker state next entered is
steps_are_moves setting count worker before move after (RunEnds state last verdict entered is) = ends setting worker state last verdict entered is
steps_are_moves setting count worker before move after (CallIsServed state entered call next reply is within inside formed) =
    calls setting worker state entered call next reply is inside
steps_are_moves setting count worker before move after (ShardIsEntered state entered call next is within outside) =
    enters setting worker state entered call next is outside
steps_are_moves setting count worker before move after (CallIsRefused state entered call next is within inside) =
    is_refused setting worker state entered call next is inside
steps_are_moves setting count worker before move after (EnterIsRefused state entered call next is within outside) =
    cannot_enter setting worker state entered call next is outside
steps_are_moves setting count worker before move after (ShardIsLeft shard entered within inside) = leaves_one setting worker shard entered inside
