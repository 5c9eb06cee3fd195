-- What can come next of a worker, and that one move leads to one state.
use Rattle.std.proofs.Common.{◌≡◌, inl, inr, ℕ, Bool, true, false, List, refl, sym, ◌∙◌, ap, subst}
use Rattle.std.specs.Prelude.{MatchBool}
use Rattle.semantics.specs.declared.call.Call.{Call}
use Rattle.semantics.specs.declared.call.Call.TheVariants.{Enter}
use Rattle.semantics.specs.declared.call.Reply.{Reply}
use Rattle.semantics.specs.declared.call.Entry.{Entry}
use Rattle.semantics.specs.MachineState.{MachineState}
use Rattle.semantics.specs.History.{shard_of_call}
use Rattle.semantics.specs.Step.{Step, Continues, CallsMap, Exits, Traps}
use Rattle.semantics.specs.Semantics.{next_step}
use Rattle.semantics.specs.System.{Setting, program_of_setting, LeavesShard, BeginsRun, WorkerState, Idle, Runs, Leaves, is_entered, run_over, without_shard}
use Rattle.shard_port.specs.Asking.{enter_by, asked_entry}
use Rattle.guarantees.specs.Steps.{Writes, TurnedAway, Move, RunBegins, RunGoesOn, RunEnds, CallIsServed, ShardIsEntered, CallIsRefused, EnterIsRefused, ShardIsLeft}
use Rattle.guarantees.specs.StepLaws.{IsCallNext, IsEnterNext, IsNextOf, IsListedNext, StepsAreListed, MovesLeadToOne}

by_step : (setting : Setting) (worker : ℕ) (state : MachineState) (entered : List ℕ) (step : Step) (move : Move) (after : WorkerState) →
    next_step (program_of_setting setting) state ≡ step → IsNextOf worker state entered step move after →
    IsListedNext setting worker (Runs state entered) move after
by_step setting worker state entered step move after is next = subst (λ one. IsNextOf worker state entered one move after) (sym is) next

inside_next : (worker : ℕ) (state : MachineState) (entered : List ℕ) (call : Call) (next : Reply → MachineState) (move : Move) (after : WorkerState) →
    is_entered (shard_of_call call) entered ≡ true → IsCallNext worker entered call next move after →
    IsNextOf worker state entered (CallsMap call next) move after
inside_next worker state entered call next move after inside is =
    subst (λ test. MatchBool test (IsCallNext worker entered call next move after) (IsEnterNext worker state entered (shard_of_call call) move after))
    (sym inside) is

outside_next : (worker : ℕ) (state : MachineState) (entered : List ℕ) (call : Call) (next : Reply → MachineState) (move : Move) (after : WorkerState) →
    is_entered (shard_of_call call) entered ≡ false → IsEnterNext worker state entered (shard_of_call call) move after →
    IsNextOf worker state entered (CallsMap call next) move after
outside_next worker state entered call next move after outside is =
    subst (λ test. MatchBool test (IsCallNext worker entered call next move after) (IsEnterNext worker state entered (shard_of_call call) move after))
    (sym outside) is

pub steps_are_listed : StepsAreListed
steps_are_listed setting count worker before move after (RunBegins frame now told few input early low) = record {
  frame = frame;
  now = now;
  told = told;
  move_is = refl;
  after_is = refl;
  few = few;
  input = input;
  early = early;
  low = low;
}
steps_are_listed setting count worker before move after (RunGoesOn state next entered is) =
    by_step setting worker state entered (Continues next) move after is (refl, refl)
steps_are_listed setting count worker before move after (RunEnds state last verdict entered is) =
    by_step setting worker state entered (Exits verdict last) move after is (refl, refl)
steps_are_listed setting count worker before move after (CallIsServed state entered call next reply is within inside formed) =
    by_step setting worker state entered (CallsMap call next) move after is
    (inside_next worker state entered call next move after inside (inl (record { reply = reply; move_is = refl; after_is = refl })))
steps_are_listed setting count worker before move after (ShardIsEntered state entered call next is within outside) =
    by_step setting worker state entered (CallsMap call next) move after is
    (outside_next worker state entered call next move after outside (inl (refl, refl)))
steps_are_listed setting count worker before move after (CallIsRefused state entered call next is within inside) =
    by_step setting worker state entered (CallsMap call next) move after is
    (inside_next worker state entered call next move after inside (inr (refl, refl)))
steps_are_listed setting count worker before move after (EnterIsRefused state entered call next is within outside) =
    by_step setting worker state entered (CallsMap call next) move after is
    (outside_next worker state entered call next move after outside (inr (refl, refl)))
steps_are_listed setting count worker before move after (ShardIsLeft shard entered within inside) =
    record { shard = shard; inside = inside; move_is = refl; after_is = refl }

-- ---- one move leads to one state

asked_of : (one other : Move) → one ≡ other → one.asked ≡ other.asked
asked_of one other same = ap (λ (move : Move). move.asked) same

written_of : (one other : Entry) → Writes one ≡ Writes other → one ≡ other
written_of one other same = cc

not_both : (entry : Entry) (call : Call) → Writes entry ≡ TurnedAway call → ⊥
not_both entry call same = cc

one_call : (worker : ℕ) (entered : List ℕ) (call : Call) (next : Reply → MachineState) (move : Move) (one other : WorkerState) →
    IsCallNext worker entered call next move one → IsCallNext worker entered call next move other → one ≡ other
one_call worker entered call next move one other (inl first) (inl second) =
    let asked : Writes (asked_entry worker call first.reply) ≡ Writes (asked_entry worker call second.reply) =
    asked_of _ _ (sym first.move_is ∙ second.move_is) in
    let entry : asked_entry worker call first.reply ≡ asked_entry worker call second.reply = written_of _ _ asked in
    let reply : first.reply ≡ second.reply = ap (λ (entry : Entry). entry.reply) entry in
    first.after_is ∙ ap (λ (reply : Reply). Runs (next reply) entered) reply ∙ sym second.after_is
one_call worker entered call next move one other (inl first) (inr second) =
    absurd (not_both (asked_entry worker call first.reply) call (asked_of _ _ (sym first.move_is ∙ second.0)))
one_call worker entered call next move one other (inr first) (inl second) =
    absurd (not_both (asked_entry worker call second.reply) call (asked_of _ _ (sym second.move_is ∙ first.0)))
one_call worker entered call next move one other (inr first) (inr second) = first.1 ∙ sym second.1

one_enter : (worker : ℕ) (state : MachineState) (entered : List ℕ) (shard : ℕ) (move : Move) (one other : WorkerState) →
    IsEnterNext worker state entered shard move one → IsEnterNext worker state entered shard move other → one ≡ other
one_enter worker state entered shard move one other (inl first) (inl second) = first.1 ∙ sym second.1
one_enter worker state entered shard move one other (inl first) (inr second) =
    absurd (not_both (enter_by worker shard) (Enter shard) (asked_of _ _ (sym first.0 ∙ second.0)))
one_enter worker state entered shard move one other (inr first) (inl second) =
    absurd (not_both (enter_by worker shard) (Enter shard) (asked_of _ _ (sym second.0 ∙ first.0)))
one_enter worker state entered shard move one other (inr first) (inr second) = first.1 ∙ sym second.1

one_asked : (worker : ℕ) (state : MachineState) (entered : List ℕ) (call : Call) (next : Reply → MachineState) (move : Move) (one other : WorkerState)
    (inside : Bool) →
    MatchBool inside (IsCallNext worker entered call next move one) (IsEnterNext worker state entered (shard_of_call call) move one) →
    MatchBool inside (IsCallNext worker entered call next move other) (IsEnterNext worker state entered (shard_of_call call) move other) → one ≡ other
one_asked worker state entered call next move one other true first second = one_call worker entered call next move one other first second
one_asked worker state entered call next move one other false first second =
    one_enter worker state entered (shard_of_call call) move one other first second

one_next : (worker : ℕ) (state : MachineState) (entered : List ℕ) (step : Step) (move : Move) (one other : WorkerState) →
    IsNextOf worker state entered step move one → IsNextOf worker state entered step move other → one ≡ other
one_next worker state entered (Continues next) move one other first second = first.1 ∙ sym second.1
one_next worker state entered (Exits verdict last) move one other first second = first.1 ∙ sym second.1
one_next worker state entered (CallsMap call next) move one other first second =
    one_asked worker state entered call next move one other (is_entered (shard_of_call call) entered) first second
one_next worker state entered (Traps cause) move one other first second = absurd first

event_of : (one other : Move) → one ≡ other → one.event ≡ other.event
event_of one other same = ap (λ (move : Move). move.event) same

one_listed : (setting : Setting) (worker : ℕ) (before : WorkerState) (move : Move) (one other : WorkerState) →
    IsListedNext setting worker before move one → IsListedNext setting worker before move other → one ≡ other
one_listed setting worker Idle move one other first second =
    let event : BeginsRun worker first.frame first.now first.told ≡ BeginsRun worker second.frame second.now second.told =
    event_of _ _ (sym first.move_is ∙ second.move_is) in
    let frame : first.frame ≡ second.frame = cc in
    let now : first.now ≡ second.now = cc in
    let told : first.told ≡ second.told = cc in
    first.after_is ∙ rw (frame, now, told) refl ∙ sym second.after_is
one_listed setting worker (Runs state entered) move one other first second =
    one_next worker state entered (next_step (program_of_setting setting) state) move one other first second
one_listed setting worker (Leaves entered) move one other first second =
    let event : LeavesShard worker first.shard ≡ LeavesShard worker second.shard = event_of _ _ (sym first.move_is ∙ second.move_is) in
    let shard : first.shard ≡ second.shard = cc in
    first.after_is ∙ ap (λ (shard : ℕ). run_over (without_shard shard entered)) shard ∙ sym second.after_is

pub moves_lead_to_one : MovesLeadToOne
moves_lead_to_one setting count worker before move one other first second =
    one_listed setting worker before move one other (steps_are_listed setting count worker before move one first)
    (steps_are_listed setting count worker before move other second)
