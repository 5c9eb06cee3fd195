use Rattle.std.proofs.Common.{◌<◌, ◌+◌, ℕ, List, [], ◌∷◌, ◌++◌, length, get_or, sym, ap, ◌∙◌, arith}
use Rattle.plain_maps.proofs.Flagged.{listed_below, listed_more, listed_on}
use Rattle.plain_maps.proofs.index.listed.Goals.{then-is_there-number+in_ok-push, else-is_there-number}
use Rattle.plain_maps.proofs.index.listed.Goals as goal

pub numbers-preserved : goal.numbers-preserved
numbers-preserved c = elim c.if-is_there-number.branch [
  | then-is_there-number+in_ok-push w ↦ (let within : c.numbers.number < length c.args.is_there.now = omega (arith, c.numbers-test.true) in
      rw w.entries-is (w.in_ok-push.ensures.items
      ∙ ap (λ (list : List (List ℕ × ℕ)). list ++ (w.copied_key.result, get_or c.args.items.now c.numbers.number 0) ∷ []) c.numbers.invariant
      ∙ ap (λ (key : List ℕ). listed_below c.args.size c.args.keys.now c.args.is_there.now c.args.items.now c.numbers.number ++ (key, get_or c.args.items.now c.numbers.number 0) ∷ []) w.copied_key.ensures
      ∙ sym (listed_more c.args.size c.args.keys.now c.args.is_there.now c.args.items.now c.numbers.number within w.if-is_there-number.true)))
  | else-is_there-number w ↦ rw w.entries-is (c.numbers.invariant ∙ sym (listed_on c.args.size c.args.keys.now c.args.is_there.now c.args.items.now c.numbers.number w.if-is_there-number.false))
]
