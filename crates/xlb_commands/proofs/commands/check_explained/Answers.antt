use Rattle.std.proofs.Common.{◌∙◌, ◌++◌, ℕ, List, ap, subst, length, string_bytes}
use Rattle.std.specs.Prelude.{IfOk, IfErr}
use Rattle.semantics.specs.Safety.{IsSafeImage}
use Rattle.verifier.specs.Dataflow.{states_of, IsFirstReject}
use Rattle.verifier.specs.Surveys.{EndsSo}
use Rattle.std.proofs.lemmas.Result.{err_from_is_err_and}
use Rattle.xlb_commands.specs.Refused.{none_to_explain, no_explanation, explained}
use Rattle.xlb_commands.proofs.commands.check_explained.Goals as goal

pub returns-in-Ok-clause-done : goal.returns-in-Ok-clause-done
returns-in-Ok-clause-done g c =
    let image = c.in_ok-image.image in
    let survey = c.in_ok-survey.survey in
    let ends = subst (EndsSo image.version image.maps image.code (length survey.known.items)) c.in-Ok.is c.in_ok-survey.ensures.survey.ends in
    record {
      first = string_bytes c.in_ok-text-in-Ok.text;
      checked = record {
        image = image;
        file = c.in_ok-image.ensures.file;
        states = states_of image.version image.maps image.code;
        accepted = ends.0;
        safe = subst (λ verdict. IfOk verdict (λ _. IsSafeImage image.maps image.code)) c.in-Ok.is c.in_ok-survey.ensures.safe;
        reader = c.in-Ok.is_reader;
        reads = ends.1.1;
        line = c.in_ok-text-in-Ok.ensures;
      };
      second = string_bytes c.in_ok-reasons.reasons;
      explanation = c.in_ok-reasons.ensures;
      both = c.in_ok-push_str-in-Ok.ensures.bytes ∙ ap (λ (more : List ℕ). string_bytes c.in_ok-text-in-Ok.text ++ more) c.as_str.ensures.value;
    }

pub returns-in_err-image-clause-refused : goal.returns-in_err-image-clause-refused
returns-in_err-image-clause-refused g c =
    let p = err_from_is_err_and c.from_residual.result c.from_residual.ensures.1 in
    rw (p.1, p.2) (none_to_explain c.in_err-image.ensures.refused)

pub returns-in_err-reasons-clause-refused : goal.returns-in_err-reasons-clause-refused
returns-in_err-reasons-clause-refused g c =
    let p = err_from_is_err_and c.from_residual-in_err-reasons.result c.from_residual-in_err-reasons.ensures.1 in
    rw p.1 (no_explanation c.in_ok-image.image c.in_ok-image.ensures.file p.2)

pub returns-in_err-text-in-Ok-clause-refused : goal.returns-in_err-text-in-Ok-clause-refused
returns-in_err-text-in-Ok-clause-refused g c =
    let p = err_from_is_err_and c.from_residual-in_err-text-in-Ok.result c.from_residual-in_err-text-in-Ok.ensures.1 in
    rw p.1 (no_explanation c.in_ok-image.image c.in_ok-image.ensures.file p.2)

pub returns-in_err-push_str-in-Ok-clause-refused : goal.returns-in_err-push_str-in-Ok-clause-refused
returns-in_err-push_str-in-Ok-clause-refused g c =
    let p = err_from_is_err_and c.from_residual-in_err-push_str-in-Ok.result c.from_residual-in_err-push_str-in-Ok.ensures.1 in
    rw p.1 (no_explanation c.in_ok-image.image c.in_ok-image.ensures.file p.2)

pub returns-in_err-survey-clause-refused : goal.returns-in_err-survey-clause-refused
returns-in_err-survey-clause-refused g c =
    let p = err_from_is_err_and c.from_residual-in_err-survey.result c.from_residual-in_err-survey.ensures.1 in
    rw p.1 (no_explanation c.in_ok-image.image c.in_ok-image.ensures.file p.2)

pub returns-clause-refused : goal.returns-clause-refused
returns-clause-refused g c =
    let image = c.in_ok-image.image in
    explained image c.in-Err.reject c.in_ok-image.ensures.file
    (subst (λ verdict. IfErr verdict (IsFirstReject image.version image.maps image.code)) c.in-Err.is c.in_ok-survey.ensures.rejected)
    c.rejected_for.ensures
