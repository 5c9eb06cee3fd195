-- More replies: the calls that were made stay, and a run that is over stays.
use Rattle.std.proofs.Common.{◌≡◌, List, [], ◌∷◌, refl, ap}
use Rattle.wire.specs.FrameView.{FrameView}
use Rattle.semantics.specs.declared.call.Call.{Call}
use Rattle.semantics.specs.declared.call.Reply.{Reply}
use Rattle.semantics.specs.declared.verdict.Verdict.{Verdict}
use Rattle.block_runs.specs.Plan.{Asks, Ends, Ended, asked, plan_outcome}
use Rattle.block_runs.specs.PlanLaws.{OutcomesGrow, EndedRunsNeedNoMore, PlansGoOn}

pub outcomes_grow : OutcomesGrow
outcomes_grow (Ends verdict frame) replies more = ([], refl)
outcomes_grow (Asks call onward) [] [] = ([], refl)
outcomes_grow (Asks call onward) [] (reply ∷ more) = ((plan_outcome (onward reply) more).calls, refl)
outcomes_grow (Asks call onward) (reply ∷ replies) more =
    let later = outcomes_grow (onward reply) replies more in
    (later.0, ap (λ (calls : List Call). call ∷ calls) later.1)

pub ended_stay : EndedRunsNeedNoMore
ended_stay (Ends planned left) replies more verdict frame is = refl
ended_stay (Asks call onward) [] more verdict frame is = absurd cc
ended_stay (Asks call onward) (reply ∷ replies) more verdict frame is =
    ap (asked call) (ended_stay (onward reply) replies more verdict frame is)

pub plans_go_on : PlansGoOn
plans_go_on (Ends verdict frame) [] more = refl
plans_go_on (Ends verdict frame) (reply ∷ replies) more = ended verdict frame more
  where
    ended : (verdict : Verdict) (frame : FrameView) (more : List Reply) →
        plan_outcome (Ends verdict frame) more ≡ record { calls = []; ending = Ended verdict frame }
    ended verdict frame more = refl
plans_go_on (Asks call onward) [] more = refl
plans_go_on (Asks call onward) (reply ∷ replies) more = ap (asked call) (plans_go_on (onward reply) replies more)
