-- What comes of events, piece by piece: the ends of a worker's runs by its steps, and what the events of one worker leave out.
use Rattle.std.proofs.Common.{◌≡◌, ℕ, Bool, true, false, List, [], ◌∷◌, ◌++◌, Option, Some, refl, ◌∙◌, ap}
use Rattle.std.specs.Prelude.{if◌then◌else◌}
use Rattle.semantics.specs.declared.call.Call.{Call}
use Rattle.semantics.specs.declared.call.Call.TheVariants.{Enter}
use Rattle.semantics.specs.declared.call.Reply.{Reply}
use Rattle.semantics.specs.declared.plan.ShardPlan.{ShardPlan}
use Rattle.semantics.specs.MachineState.{MachineState}
use Rattle.semantics.specs.ShardPlan.{plan_at}
use Rattle.semantics.specs.History.{shard_of_call, journal_is_full}
use Rattle.semantics.specs.Step.{CallsMap}
use Rattle.semantics.specs.Semantics.{next_step}
use Rattle.semantics.specs.System.{Setting, program_of_setting, SystemState, SystemEvent, BeginsRun, DoesInstruction, CallsShard, LeavesShard, Controls, Reclaims, WorkerState, Idle, Runs, worker_state, history_of, is_entered}
use Rattle.semantics.specs.Events.{Ending, Stopped, stop_for, stop_at, stop_of, exit_of, ending_in}
use Rattle.guarantees.specs.Steps.{AskedOfShard, Nothing, Writes, TurnedAway, Move, IsStep, RunBegins, RunGoesOn, RunEnds, CallIsServed, ShardIsEntered, CallIsRefused, EnterIsRefused, ShardIsLeft, AreSteps}
use Rattle.guarantees.specs.Moves.{IsAskedSo, is_event_of}
use Rattle.guarantees.proofs.MoveLemmas.{numbered, own_event}

-- ---- the end that a step makes

abbrev pub ends_of_event : Setting → WorkerState → SystemEvent → List Ending
ends_of_event setting before (DoesInstruction worker) = exit_of setting before
ends_of_event setting before event = []

abbrev pub ends_of_asked : Setting → WorkerState → SystemEvent → AskedOfShard → List Ending
ends_of_asked setting before event Nothing = ends_of_event setting before event
ends_of_asked setting before event (Writes entry) = []
ends_of_asked setting before event (TurnedAway call) = Stopped (shard_of_call call) ∷ []

-- and those that steps make
abbrev pub ends_in : (setting : Setting) (count worker : ℕ) (before : WorkerState) (moves : List Move) (after : WorkerState) →
    AreSteps setting count worker before moves after → List Ending
ends_in setting count worker before [] after steps = []
ends_in setting count worker before (move ∷ moves) after steps =
    ends_of_asked setting before move.event move.asked ++ ends_in setting count worker steps.0 moves after steps.2

-- steps to idle, with the ends that they make
pub record Walk (setting : Setting) (count worker : ℕ) (before : WorkerState) (moves : List Move) (ends : List Ending) : Type 0 where
  pub steps : AreSteps setting count worker before moves Idle
  pub ends_are : ends_in setting count worker before moves Idle steps ≡ ends

-- ---- it is what comes of the step's event

instruction : (setting : Setting) (system : SystemState) (worker : ℕ) (before : WorkerState) → worker_state system worker ≡ before →
    ending_in setting worker system (DoesInstruction worker) ≡ exit_of setting before
instruction setting system worker before stands =
    ap (λ (test : Bool). if test then exit_of setting (worker_state system worker) else []) (own_event worker) ∙ ap (exit_of setting) stands

asking : (setting : Setting) (system : SystemState) (worker : ℕ) (state : MachineState) (entered : List ℕ) (call : Call) (next : Reply → MachineState)
    (inside : Bool) → worker_state system worker ≡ Runs state entered → next_step (program_of_setting setting) state ≡ CallsMap call next →
    is_entered (shard_of_call call) entered ≡ inside →
    ending_in setting worker system (CallsShard worker)
    ≡ (if inside then stop_for (plan_at setting.maps setting.options (shard_of_call call)) system call
    else stop_for (plan_at setting.maps setting.options (shard_of_call call)) system (Enter (shard_of_call call)))
asking setting system worker state entered call next inside stands is within =
    ap (λ (test : Bool). if test then stop_of setting system (worker_state system worker) else []) (own_event worker)
    ∙ ap (stop_of setting system) stands ∙ ap (stop_at setting system entered) is
    ∙ ap (λ (test : Bool). if test then stop_for (plan_at setting.maps setting.options (shard_of_call call)) system call
    else stop_for (plan_at setting.maps setting.options (shard_of_call call)) system (Enter (shard_of_call call))) within

served : (setting : Setting) (system : SystemState) (number : ℕ) (call : Call) (plan : ShardPlan) →
    plan_at setting.maps setting.options number ≡ Some plan → journal_is_full plan (history_of system plan.number) call ≡ false →
    stop_for (plan_at setting.maps setting.options number) system call ≡ []
served setting system number call plan known room =
    ap (λ (found : Option ShardPlan). stop_for found system call) known
    ∙ ap (λ (full : Bool). if full then Stopped plan.number ∷ [] else []) room

turned_away : (setting : Setting) (system : SystemState) (number : ℕ) (call : Call) (plan : ShardPlan) →
    plan_at setting.maps setting.options number ≡ Some plan → journal_is_full plan (history_of system plan.number) call ≡ true →
    stop_for (plan_at setting.maps setting.options number) system call ≡ Stopped number ∷ []
turned_away setting system number call plan known full =
    ap (λ (found : Option ShardPlan). stop_for found system call) known
    ∙ ap (λ (test : Bool). if test then Stopped plan.number ∷ [] else []) full
    ∙ ap (λ (shard : ℕ). Stopped shard ∷ []) (numbered setting number plan known)

pub end_is : (setting : Setting) (count worker : ℕ) (before : WorkerState) (move : Move) (after : WorkerState) →
    IsStep setting count worker before move after → (system : SystemState) → worker_state system worker ≡ before →
    IsAskedSo setting system move.asked →
    ending_in setting worker system move.event ≡ ends_of_asked setting before move.event move.asked
end_is setting count worker before move after (RunBegins frame now told few input early low) system stands asked = refl
end_is setting count worker before move after (RunGoesOn state next entered is) system stands asked =
    instruction setting system worker (Runs state entered) stands
end_is setting count worker before move after (RunEnds state last verdict entered is) system stands asked =
    instruction setting system worker (Runs state entered) stands
end_is setting count worker before move after (CallIsServed state entered call next reply is within inside formed) system stands asked =
    asking setting system worker state entered call next true stands is inside
    ∙ served setting system (shard_of_call call) call asked.plan asked.known asked.room
end_is setting count worker before move after (ShardIsEntered state entered call next is within outside) system stands asked =
    asking setting system worker state entered call next false stands is outside
    ∙ served setting system (shard_of_call call) (Enter (shard_of_call call)) asked.plan asked.known asked.room
end_is setting count worker before move after (CallIsRefused state entered call next is within inside) system stands asked =
    asking setting system worker state entered call next true stands is inside
    ∙ turned_away setting system (shard_of_call call) call asked.plan asked.known asked.full
end_is setting count worker before move after (EnterIsRefused state entered call next is within outside) system stands asked =
    asking setting system worker state entered call next false stands is outside
    ∙ turned_away setting system (shard_of_call call) (Enter (shard_of_call call)) asked.plan asked.known asked.full
end_is setting count worker before move after (ShardIsLeft shard entered within inside) system stands asked = refl

-- ---- no other worker's run ends by it

pub no_end : (setting : Setting) (worker : ℕ) (system : SystemState) (event : SystemEvent) → is_event_of worker event ≡ false →
    ending_in setting worker system event ≡ []
no_end setting worker system (BeginsRun one frame now told) others = refl
no_end setting worker system (DoesInstruction one) others =
    ap (λ (test : Bool). if test then exit_of setting (worker_state system one) else []) others
no_end setting worker system (CallsShard one) others =
    ap (λ (test : Bool). if test then stop_of setting system (worker_state system one) else []) others
no_end setting worker system (LeavesShard one shard) others = refl
no_end setting worker system (Controls call) others = refl
no_end setting worker system (Reclaims shard) others = refl
