-- What comes of lists of events that are put together, and what the events of one worker leave out.
use Rattle.std.proofs.Common.{◌≡◌, ◌≢◌, ℕ, ◌==◌, Bool, true, false, cond, List, [], ◌∷◌, ◌++◌, Option, refl, sym, ◌∙◌, ap, append_assoc}
use Rattle.std.specs.Prelude.{filter, if◌then◌else◌}
use Rattle.std.proofs.lemmas.Bool.{false≢true}
use Rattle.semantics.specs.declared.call.Call.{Call}
use Rattle.semantics.specs.declared.call.Reply.{Reply}
use Rattle.semantics.specs.System.{Setting, SystemState, SystemEvent, BeginsRun, DoesInstruction, CallsShard, LeavesShard, Controls, Reclaims, after_event}
use Rattle.semantics.specs.Events.{Input, Ending, begun_by, controlled, reclaimed, answers_of_event, answered, ending_in, ended_by}
use Rattle.guarantees.specs.Moves.{is_event_of}
use Rattle.guarantees.proofs.EndLemmas.{no_end}
use Rattle.guarantees.proofs.MergeEvents.{HappenFrom, AreOwn, not_anothers}

-- ---- one list behind the other

pub then_ended : (setting : Setting) (worker : ℕ) (one two : SystemState) (first second : List SystemEvent) → HappenFrom setting one first two →
    ended_by setting worker one (first ++ second) ≡ ended_by setting worker one first ++ ended_by setting worker two second
then_ended setting worker one two [] second happen = ap (λ (here : SystemState). ended_by setting worker here second) happen
then_ended setting worker one two (event ∷ first) second happen =
    ap (λ (list : List Ending). ending_in setting worker one event ++ list)
    (then_ended setting worker (after_event setting one event) two first second happen.1)
    ∙ sym (append_assoc (ending_in setting worker one event) (ended_by setting worker (after_event setting one event) first)
    (ended_by setting worker two second))

pub then_answered : (setting : Setting) (one two : SystemState) (first second : List SystemEvent) → HappenFrom setting one first two →
    answered setting one (first ++ second) ≡ answered setting one first ++ answered setting two second
then_answered setting one two [] second happen = ap (λ (here : SystemState). answered setting here second) happen
then_answered setting one two (event ∷ first) second happen =
    ap (λ (list : List (Option Reply)). answers_of_event setting one event ++ list)
    (then_answered setting (after_event setting one event) two first second happen.1)
    ∙ sym (append_assoc (answers_of_event setting one event) (answered setting (after_event setting one event) first) (answered setting two second))

pub then_controlled : (first second : List SystemEvent) → controlled (first ++ second) ≡ controlled first ++ controlled second
then_controlled [] second = refl
then_controlled (BeginsRun one frame now told ∷ first) second = then_controlled first second
then_controlled (DoesInstruction one ∷ first) second = then_controlled first second
then_controlled (CallsShard one ∷ first) second = then_controlled first second
then_controlled (LeavesShard one shard ∷ first) second = then_controlled first second
then_controlled (Controls call ∷ first) second = ap (λ (list : List Call). call ∷ list) (then_controlled first second)
then_controlled (Reclaims shard ∷ first) second = then_controlled first second

pub then_reclaimed : (first second : List SystemEvent) → reclaimed (first ++ second) ≡ reclaimed first ++ reclaimed second
then_reclaimed [] second = refl
then_reclaimed (BeginsRun one frame now told ∷ first) second = then_reclaimed first second
then_reclaimed (DoesInstruction one ∷ first) second = then_reclaimed first second
then_reclaimed (CallsShard one ∷ first) second = then_reclaimed first second
then_reclaimed (LeavesShard one shard ∷ first) second = then_reclaimed first second
then_reclaimed (Controls call ∷ first) second = then_reclaimed first second
then_reclaimed (Reclaims shard ∷ first) second = ap (λ (list : List ℕ). shard ∷ list) (then_reclaimed first second)

-- ---- a worker's events are no other's

no_answer : (setting : Setting) (worker : ℕ) (system : SystemState) (event : SystemEvent) → is_event_of worker event ≡ true →
    answers_of_event setting system event ≡ []
no_answer setting worker system (BeginsRun one frame now told) own = refl
no_answer setting worker system (DoesInstruction one) own = refl
no_answer setting worker system (CallsShard one) own = refl
no_answer setting worker system (LeavesShard one shard) own = refl
no_answer setting worker system (Controls call) own = absurd cc
no_answer setting worker system (Reclaims shard) own = absurd cc

pub none_ended : (setting : Setting) (worker other : ℕ) (system : SystemState) (events : List SystemEvent) → other ≢ worker → AreOwn worker events →
    ended_by setting other system events ≡ []
none_ended setting worker other system [] apart own = refl
none_ended setting worker other system (event ∷ events) apart own =
    ap (λ (list : List Ending). list ++ ended_by setting other (after_event setting system event) events)
    (no_end setting other system event (not_anothers worker other event apart own.0))
    ∙ none_ended setting worker other (after_event setting system event) events apart own.1

pub none_answered : (setting : Setting) (worker : ℕ) (system : SystemState) (events : List SystemEvent) → AreOwn worker events →
    answered setting system events ≡ []
none_answered setting worker system [] own = refl
none_answered setting worker system (event ∷ events) own =
    ap (λ (list : List (Option Reply)). list ++ answered setting (after_event setting system event) events) (no_answer setting worker system event own.0)
    ∙ none_answered setting worker (after_event setting system event) events own.1

pub none_controlled : (worker : ℕ) (events : List SystemEvent) → AreOwn worker events → controlled events ≡ []
none_controlled worker [] own = refl
none_controlled worker (BeginsRun one frame now told ∷ events) own = none_controlled worker events own.1
none_controlled worker (DoesInstruction one ∷ events) own = none_controlled worker events own.1
none_controlled worker (CallsShard one ∷ events) own = none_controlled worker events own.1
none_controlled worker (LeavesShard one shard ∷ events) own = none_controlled worker events own.1
none_controlled worker (Controls call ∷ events) own = absurd (false≢true own.0)
none_controlled worker (Reclaims shard ∷ events) own = absurd (false≢true own.0)

pub none_reclaimed : (worker : ℕ) (events : List SystemEvent) → AreOwn worker events → reclaimed events ≡ []
none_reclaimed worker [] own = refl
none_reclaimed worker (BeginsRun one frame now told ∷ events) own = none_reclaimed worker events own.1
none_reclaimed worker (DoesInstruction one ∷ events) own = none_reclaimed worker events own.1
none_reclaimed worker (CallsShard one ∷ events) own = none_reclaimed worker events own.1
none_reclaimed worker (LeavesShard one shard ∷ events) own = none_reclaimed worker events own.1
none_reclaimed worker (Controls call ∷ events) own = absurd (false≢true own.0)
none_reclaimed worker (Reclaims shard ∷ events) own = absurd (false≢true own.0)

-- ---- what a worker begins is among its own events

skipped : (worker : ℕ) (event : SystemEvent) (chosen : List SystemEvent) (test : Bool) →
    ((later : List SystemEvent) → begun_by worker (event ∷ later) ≡ begun_by worker later) →
    begun_by worker (cond test (event ∷ chosen) chosen) ≡ begun_by worker chosen
skipped worker event chosen true passes = passes chosen
skipped worker event chosen false passes = refl

begins_more : (worker one : ℕ) (frame : List ℕ) (now told : ℕ) (later chosen : List SystemEvent) (test : Bool) → (one == worker) ≡ test →
    begun_by worker later ≡ begun_by worker chosen →
    begun_by worker (BeginsRun one frame now told ∷ later) ≡ begun_by worker (cond test (BeginsRun one frame now told ∷ chosen) chosen)
begins_more worker one frame now told later chosen true is rest =
    ap (λ (list : List Input). if one == worker then record { frame = frame; now = now; told = told } ∷ list else list) rest
begins_more worker one frame now told later chosen false is rest =
    ap (λ (test : Bool). if test then record { frame = frame; now = now; told = told } ∷ begun_by worker later else begun_by worker later) is ∙ rest

pub begun_among : (worker : ℕ) (events : List SystemEvent) → begun_by worker events ≡ begun_by worker (filter (is_event_of worker) events)
begun_among worker [] = refl
begun_among worker (BeginsRun one frame now told ∷ later) =
    begins_more worker one frame now told later (filter (is_event_of worker) later) (one == worker) refl (begun_among worker later)
begun_among worker (DoesInstruction one ∷ later) =
    begun_among worker later
    ∙ sym (skipped worker (DoesInstruction one) (filter (is_event_of worker) later) (one == worker) (λ rest. refl))
begun_among worker (CallsShard one ∷ later) =
    begun_among worker later ∙ sym (skipped worker (CallsShard one) (filter (is_event_of worker) later) (one == worker) (λ rest. refl))
begun_among worker (LeavesShard one shard ∷ later) =
    begun_among worker later ∙ sym (skipped worker (LeavesShard one shard) (filter (is_event_of worker) later) (one == worker) (λ rest. refl))
begun_among worker (Controls call ∷ later) = begun_among worker later
begun_among worker (Reclaims shard ∷ later) = begun_among worker later

pub one_behind : {A : Type 0} (x : A) (both one other : List A) (test : Bool) → both ≡ one ++ other →
    (if test then x ∷ both else both) ≡ (if test then x ∷ one else one) ++ other
one_behind {A = A} x both one other true parts = ap (λ (list : List A). x ∷ list) parts
one_behind x both one other false parts = parts

pub then_begun : (worker : ℕ) (first second : List SystemEvent) → begun_by worker (first ++ second) ≡ begun_by worker first ++ begun_by worker second
then_begun worker [] second = refl
then_begun worker (BeginsRun one frame now told ∷ first) second =
    one_behind (record { frame = frame; now = now; told = told }) (begun_by worker (first ++ second)) (begun_by worker first) (begun_by worker second)
    (one == worker) (then_begun worker first second)
then_begun worker (DoesInstruction one ∷ first) second = then_begun worker first second
then_begun worker (CallsShard one ∷ first) second = then_begun worker first second
then_begun worker (LeavesShard one shard ∷ first) second = then_begun worker first second
then_begun worker (Controls call ∷ first) second = then_begun worker first second
then_begun worker (Reclaims shard ∷ first) second = then_begun worker first second
