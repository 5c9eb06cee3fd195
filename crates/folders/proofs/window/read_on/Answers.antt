use Rattle.std.proofs.Common.{◌≡◌, arith, rules}
use Rattle.folders.proofs.WindowLemmas.{filled_more, filled_end}
use Rattle.folders.proofs.window.read_on.Goals as goal

pub returns-in-Ok-eq0-clause-filled : goal.returns-in-Ok-eq0-clause-filled
returns-in-Ok-eq0-clause-filled g c =
    let none : c.in-Ok-eq0.field-0 ≡ 0 = omega arith in
    filled_end _ _ _ _ c.filling.bytes c.next.new.buffer c.filling.all _ c.in-Ok-eq0.field-0 c.filling.invariant.within none c.filling.invariant.filled c.in-Ok-eq0.ensures.piece

pub filling-preserved : goal.filling-preserved
filling-preserved g c = record {
  filled = filled_more _ _ _ _ c.filling.bytes c.next.new.buffer c.filling.all _ c.in-Ok.count c.filling.invariant.within c.in-Ok.ensures.within c.filling.invariant.filled c.in-Ok.ensures.piece;
  grown = search rules;
  within = search rules;
  fewer = search rules;
  kept = search rules;
  begun_kept = search rules;
  steady = search rules;
}
