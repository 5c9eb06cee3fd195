use Rattle.std.proofs.Common.{◌∙◌, sym, subst}
use Rattle.std.proofs.lemmas.Result.{IfOk-weaker}
use Rattle.control.specs.declared.fault.ControlFault.TheVariants.{Memory}
use Rattle.timed_scripts.specs.Actions.{SpellsAction}
use Rattle.timed_scripts.proofs.LineLemmas.{spelled_action, no_script}
use Rattle.timed_scripts.proofs.actions.is_action.Goals as goal

pub returns-in-Ok-clause-found : goal.returns-in-Ok-clause-found
returns-in-Ok-clause-found c =
    spelled_action c.as_bytes.result.now c.args.words.now _ c.commands.result.now c.is_only.result (c.as_bytes.ensures.value ∙ c.in_ok-line.ensures.ok) c.in-Ok.ensures.found
    c.in-Ok.ensures.only c.commands.ensures c.is_only.ensures

pub returns-clause-found : goal.returns-clause-found
returns-clause-found c =
    IfOk-weaker c.refused.result _ _ (λ is h. subst (SpellsAction c.args.words.now) (sym h.0)
    (no_script c.as_bytes.result.now c.args.words.now c.in-Err.fault Memory (c.as_bytes.ensures.value ∙ c.in_ok-line.ensures.ok) c.in-Err.ensures.accepts h.1)) c.refused.ensures.none
