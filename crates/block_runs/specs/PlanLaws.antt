-- Laws of plans: how one instruction more makes a program do a longer plan, and that more replies leave what was done on the first of
-- them.
use Rattle.std.specs.Prelude.{◌≡◌, ℕ, suc, List, ◌++◌, take, length}
use Rattle.wire.specs.FrameView.{FrameView}
use Rattle.semantics.specs.declared.call.Call.{Call}
use Rattle.semantics.specs.declared.call.Reply.{Reply}
use Rattle.semantics.specs.declared.verdict.Verdict.{Verdict}
use Rattle.semantics.specs.MachineState.{MachineState}
use Rattle.semantics.specs.Program.{Program}
use Rattle.semantics.specs.Step.{Continues, CallsMap, Exits}
use Rattle.semantics.specs.Semantics.{next_step}
use Rattle.semantics.specs.RunTrace.{IsReplyTo}
use Rattle.block_runs.specs.Plan.{Plan, Asks, Ends, Ended, Does, plan_outcome, plan_after}

-- ---- one instruction more

abbrev pub StepsGoOn : Type 0
StepsGoOn =
    (most : ℕ) (program : Program) (state next : MachineState) (plan : Plan) →
    next_step program state ≡ Continues next → Does most program next plan → Does (suc most) program state plan

abbrev pub CallsAreThePlans : Type 0
CallsAreThePlans =
    (most : ℕ) (program : Program) (state : MachineState) (call : Call) (next : Reply → MachineState) (onward : Reply → Plan) →
    next_step program state ≡ CallsMap call next →
    ((reply : Reply) → IsReplyTo program call reply → Does most program (next reply) (onward reply)) →
    Does (suc most) program state (Asks call onward)

abbrev pub ExitsEndThePlan : Type 0
ExitsEndThePlan =
    (most : ℕ) (program : Program) (state last : MachineState) (verdict : Verdict) →
    next_step program state ≡ Exits verdict last → Does (suc most) program state (Ends verdict last.frame)

-- ---- more replies

-- so a run that is stopped has made a beginning of the calls
abbrev pub OutcomesGrow : Type 0
OutcomesGrow =
    (plan : Plan) (replies more : List Reply) → (rest : List Call) ×
    ((plan_outcome plan (replies ++ more)).calls ≡ (plan_outcome plan replies).calls ++ rest)

abbrev pub EndedRunsNeedNoMore : Type 0
EndedRunsNeedNoMore =
    (plan : Plan) (replies more : List Reply) (verdict : Verdict) (frame : FrameView) →
    (plan_outcome plan replies).ending ≡ Ended verdict frame → plan_outcome plan (replies ++ more) ≡ plan_outcome plan replies

-- on replies in two parts: the calls that the first part answers, and then what is left of the plan does on the second
abbrev pub PlansGoOn : Type 0
PlansGoOn =
    (plan : Plan) (replies more : List Reply) →
    plan_outcome plan (replies ++ more) ≡
    record {
      calls = take (length replies) (plan_outcome plan replies).calls ++ (plan_outcome (plan_after plan replies) more).calls;
      ending = (plan_outcome (plan_after plan replies) more).ending;
    }
