-- A plan: what a run calls the maps for, one call after the other by the replies that it gets, and with which verdict and frame it ends.
-- A plan says nothing of instructions, registers or memory, so the meaning of a program can be stated by one. The outcome of a plan is
-- what it does on a list of replies; a program does a plan where its runs have the same outcomes.
use Rattle.std.specs.Prelude.{◌≡◌, ℕ, ◌≤◌, Bool, true, false, List, [], ◌∷◌}
use Rattle.wire.specs.FrameView.{FrameView}
use Rattle.semantics.specs.declared.call.Call.{Call}
use Rattle.semantics.specs.declared.call.Reply.{Reply}
use Rattle.semantics.specs.declared.verdict.Verdict.{Verdict}
use Rattle.semantics.specs.MachineState.{MachineState}
use Rattle.semantics.specs.Program.{Program}
use Rattle.semantics.specs.RunTrace.{RunStand, HasExited, Waits, HasTrapped, GoesOn, RunTrace, trace_of, IsReplyTo, AreReplies}

pub data Plan : Type 0 where
  -- this call is made; the reply decides how it goes on
  Asks : (call : Call) → (onward : Reply → Plan) → Plan
  Ends : (verdict : Verdict) → (frame : FrameView) → Plan

-- one of two plans, by a test
abbrev pub either : Bool → Plan → Plan → Plan
either true one other = one
either false one other = other

-- ---- outcomes

-- how a run ended, or that it did not
pub data PlanEnding : Type 0 where
  Ended : (verdict : Verdict) → (frame : FrameView) → PlanEnding
  -- it waits for the reply to the last of its calls
  Waiting : PlanEnding
  -- it trapped, or had no end within the instructions that were looked at
  Stuck : PlanEnding

-- the calls that were made, and the ending
pub record RunOutcome : Type 0 where
  pub calls : List Call
  pub ending : PlanEnding

abbrev pub asked : Call → RunOutcome → RunOutcome
asked call outcome = record { calls = call ∷ outcome.calls; ending = outcome.ending }

-- of a plan, with the k-th reply given to the k-th call
abbrev pub plan_outcome : Plan → List Reply → RunOutcome
plan_outcome (Ends verdict frame) replies = record { calls = []; ending = Ended verdict frame }
plan_outcome (Asks call onward) [] = record { calls = call ∷ []; ending = Waiting }
plan_outcome (Asks call onward) (reply ∷ replies) = asked call (plan_outcome (onward reply) replies)

-- what is left of a plan after these replies
abbrev pub plan_after : Plan → List Reply → Plan
plan_after plan [] = plan
plan_after (Ends verdict frame) (reply ∷ replies) = Ends verdict frame
plan_after (Asks call onward) (reply ∷ replies) = plan_after (onward reply) replies

-- of a run
abbrev pub ending_of : RunStand → PlanEnding
ending_of (HasExited verdict last) = Ended verdict last.frame
ending_of (Waits state) = Waiting
ending_of (HasTrapped cause) = Stuck
ending_of GoesOn = Stuck

abbrev pub outcome_of : RunTrace → RunOutcome
outcome_of trace = record { calls = trace.calls; ending = ending_of trace.stand }

-- from this state the program does what the plan says, in at most this many instructions
abbrev pub Does : ℕ → Program → MachineState → Plan → Type 0
Does most program state plan =
    (count : ℕ) → most ≤ count → (replies : List Reply) → AreReplies program (trace_of count program state replies).calls replies →
    outcome_of (trace_of count program state replies) ≡ plan_outcome plan replies
