use Rattle.std.proofs.Common.{◌≡◌, ◌∙◌, ◌+◌, length, ap, rules}
use Rattle.std.proofs.lemmas.List.{length_push}
use Rattle.journals.proofs.Lines.{divide_to}
use Rattle.journals.proofs.parsing.finish_before.Goals as goal

pub numbers-preserved : goal.numbers-preserved
numbers-preserved c =
    let longer : length c.finish.new.done.items ≡ length c.numbers.done.items + 1 =
    ap length c.in_ok-finish.ensures.done ∙ length_push c.numbers.done.items c.numbers.present in
    record {
      within = search (rules, longer);
      divided = λ entries before.
          divide_to entries _ _ c.numbers.present c.finish.new.present (c.numbers.invariant.divided entries before) c.in_ok-finish.ensures.done c.in_ok-finish.ensures.present;
    }
