use Rattle.xlb_commands.proofs.Earlier.{all_but_kept, report_before, unreplayed_before}
use Rattle.std.proofs.Common.{◌∙◌}
use Rattle.std.proofs.lemmas.Result.{IfErr-weaker, IfOk-weaker, on_ok_weaker}
use Rattle.xlb_commands.proofs.Refusals.{failed_since}
use Rattle.xlb_commands.proofs.replays.replay_once.Goals as goal

pub returns-in-Ok-None-clause-done : goal.returns-in-Ok-None-clause-done
returns-in-Ok-None-clause-done g c =
    let none = rw c.in-Ok-None.field-0-is at c.in-Ok-None.ensures.none in
    IfOk-weaker c.replay_whole-in-Ok-None.result _ _
    (λ report is. report_before _ _ _ _ _ _ _ _ _ _ _ _ _ report none is)
    c.replay_whole-in-Ok-None.ensures.done

pub returns-in-Ok-None-clause-steady : goal.returns-in-Ok-None-clause-steady
returns-in-Ok-None-clause-steady g c =
    on_ok_weaker c.replay_whole-in-Ok-None.result (λ same. same ∙ c.in-Ok-None.ensures.steady) c.replay_whole-in-Ok-None.ensures.steady

pub returns-in-Ok-None-clause-kept : goal.returns-in-Ok-None-clause-kept
returns-in-Ok-None-clause-kept g c =
    let none = rw c.in-Ok-None.field-0-is at c.in-Ok-None.ensures.none in
    all_but_kept _ _ _ _ _ _ none c.replay_whole-in-Ok-None.ensures.kept

pub returns-in-Ok-None-clause-refused : goal.returns-in-Ok-None-clause-refused
returns-in-Ok-None-clause-refused g c =
    let none = rw c.in-Ok-None.field-0-is at c.in-Ok-None.ensures.none in
    IfErr-weaker c.replay_whole-in-Ok-None.result _ _
    (λ refusal is. unreplayed_before _ _ _ _ _ _ _ _ _ _ _ _ _ _ refusal.fault none
    (failed_since _ _ _ c.in-Ok-None.ensures.steady) is)
    c.replay_whole-in-Ok-None.ensures.refused
