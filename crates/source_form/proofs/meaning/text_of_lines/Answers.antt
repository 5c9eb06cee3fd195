use Rattle.std.proofs.Common.{◌∙◌, sym, arith, rules}
use Rattle.source_form.proofs.LineSteps.{kept, stopped, ends}
use Rattle.source_form.proofs.meaning.text_of_lines.Goals as goal

pub returns-in-Err-clause-err : goal.returns-in-Err-clause-err
returns-in-Err-clause-err c =
    rw c.fault_at.ensures (stopped (λ s. s.now) c.args.statements.now c.lines.place _ _ c.in-Err.fault _ c.lines-test.true c.in-Err.ensures.err c.lines.invariant.goes)

pub lines-preserved : goal.lines-preserved
lines-preserved c = record {
  inside = omega (arith, c.lines-test.true);
  goes = kept (λ s. s.now) c.args.statements.now c.lines.place _ _ _ _ _ c.lines-test.true c.in-Ok.ensures.ok (search rules) c.lines.invariant.goes;
}

pub returns-clause-ok : goal.returns-clause-ok
returns-clause-ok c = sym c.lines.invariant.goes ∙ ends (λ s. s.now) c.args.statements.now c.lines.place _ (omega (arith, c.lines-test.false, c.lines.invariant.inside))
