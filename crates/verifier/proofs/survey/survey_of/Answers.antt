use Rattle.std.proofs.Common.{sym, ◌∙◌}
use Rattle.std.proofs.lemmas.Result.{IfErr-weaker}
use Rattle.verifier.proofs.SurveyLemmas.{kept_all}
use Rattle.verifier.proofs.survey.survey_of.Goals as goal

pub returns-clause-survey : goal.returns-clause-survey
returns-clause-survey c =
    let kept = kept_all _ _ _ c.judge-verdict.new.memories _ c.judge-verdict.result c.judge-verdict.new.keeper.is_refused c.if-is_refused.false
    (sym c.lacks_memory.ensures ∙ c.if-lacks_memory.false) c.judge-verdict.ensures.passed c.judge-verdict.ensures.refused
    in record { known = kept.known; ends = kept.ends }

pub returns-clause-rejected : goal.returns-clause-rejected
returns-clause-rejected c = IfErr-weaker c.judge-verdict.result _ _ (λ reject fails. fails.first) c.judge-verdict.ensures.refused
