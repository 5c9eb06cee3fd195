use Rattle.std.proofs.Common.{rules, arith}
use Rattle.timed_scripts.proofs.CuttingLemmas.{cut_parts}
use Rattle.timed_scripts.proofs.TextLemmas.{one_more, bad_here, bad_end, finished, line_length}
use Rattle.text_lines.proofs.shared.ByteLemmas.{not_empty, is_empty}
use Rattle.timed_scripts.proofs.timed_text.script_of.Goals as goal

pub returns-in_default-2-clause-refused : goal.returns-in_default-2-clause-refused
returns-in_default-2-clause-refused c =
    let none = rw c.in_default-2.is at c.in_ok-next.ensures.put in
    bad_here c.args.records.now c.args.text.now c.lines.rest.now c.in-Some.line.now c.in-Some.after.now c.lines.number c.lines.least _ _ c.lines.invariant.1 c.in-Some.ensures none

pub lines-smaller : goal.lines-smaller
lines-smaller c = line_length c.lines.rest.now c.in-Some.line.now c.in-Some.after.now (cut_parts 10 c.lines.rest.now c.in-Some.line.now c.in-Some.after.now c.in-Some.ensures).0

pub lines-preserved : goal.lines-preserved
lines-preserved c =
    let put = rw c.in-Some-2.is at c.in_ok-next.ensures.put in
    let shorter = line_length c.lines.rest.now c.in-Some.line.now c.in-Some.after.now (cut_parts 10 c.lines.rest.now c.in-Some.line.now c.in-Some.after.now c.in-Some.ensures).0 in (
      search rules,
      one_more c.args.records.now c.args.text.now c.lines.rest.now c.in-Some.line.now c.in-Some.after.now c.lines.number c.lines.least c.in-Some-2.next _ _ _ _ c.lines.invariant.1 c.in-Some.ensures put,
      omega (arith, shorter, c.lines.invariant.2),
    )

pub returns-then-is_empty-clause-meant : goal.returns-then-is_empty-clause-meant
returns-then-is_empty-clause-meant c =
    finished c.args.records.now c.args.text.now c.lines.rest.now c.lines.number c.lines.least _ _ c.lines.invariant.1 (is_empty c.is_empty.result c.lines.rest.now c.is_empty.ensures c.if-is_empty.true)

pub returns-else-is_empty-clause-refused : goal.returns-else-is_empty-clause-refused
returns-else-is_empty-clause-refused c =
    bad_end c.args.records.now c.args.text.now c.lines.rest.now c.lines.number c.lines.least _ _ c.lines.invariant.1 c.in_default.ensures
    (not_empty c.is_empty.result c.lines.rest.now c.is_empty.ensures c.if-is_empty.false)
