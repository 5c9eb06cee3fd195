use Rattle.std.proofs.Common.{arith, rules}
use Rattle.std.proofs.lemmas.Str.Pattern.{split_once_first}
use Rattle.source_form.proofs.OperandSteps.{kept, stopped, finished, spoilt}
use Rattle.source_form.proofs.operands.operands_text.Goals as goal

pub returns-in-Err-clause-err : goal.returns-in-Err-clause-err
returns-in-Err-clause-err c =
    let cut = rw c.in-Some.is at (split_once_first 44 c.operands.rest.now c.split_once.result c.split_once.ensures.cases (omega arith)) in
    stopped _ _ _ _ c.operands.rest.now _ _ c.trim.result.now _ _ cut c.trim.ensures.trim c.in-Err.ensures.err c.operands.invariant.1

pub operands-preserved : goal.operands-preserved
operands-preserved c =
    let cut = rw c.in-Some.is at (split_once_first 44 c.operands.rest.now c.split_once.result c.split_once.ensures.cases (omega arith)) in
    (search rules, kept _ _ _ _ c.operands.rest.now _ _ c.trim.result.now _ _ _ cut c.trim.ensures.trim c.in-Ok.ensures.ok (search rules) c.operands.invariant.1)

pub returns-in-Err-last_text-clause-err : goal.returns-in-Err-last_text-clause-err
returns-in-Err-last_text-clause-err c =
    let all = rw c.in_default.is at (split_once_first 44 c.operands.rest.now c.split_once.result c.split_once.ensures.cases (omega arith)) in
    spoilt _ _ _ _ c.operands.rest.now c.trim-2.result.now _ _ all c.trim-2.ensures.trim c.in-Err-last_text.ensures.err c.operands.invariant.1

pub returns-clause-ok : goal.returns-clause-ok
returns-clause-ok c =
    let all = rw c.in_default.is at (split_once_first 44 c.operands.rest.now c.split_once.result c.split_once.ensures.cases (omega arith)) in
    finished _ _ _ _ c.operands.rest.now c.trim-2.result.now _ _ _ all c.trim-2.ensures.trim c.in-Ok-last_text.ensures.ok (search rules) c.operands.invariant.1
