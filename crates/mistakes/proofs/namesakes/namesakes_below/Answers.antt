use Rattle.std.proofs.Common.{suc, ◌≡◌, ◌∙◌, ◌++◌, ◌+◌, ℕ, List, ap, arith, refl, sym}
use Rattle.faults.specs.declared.explanation.Explanation.{Explanation}
use Rattle.mistakes.specs.Namesakes.{namesake_text, namesakes_below}
use Rattle.mistakes.proofs.namesakes.namesakes_below.Goals as goal

one_below : (about : Explanation) (number : ℕ) → namesakes_below about (suc number) ≡ namesakes_below about number ++ namesake_text about number
unfolding namesakes_below
one_below about number = refl

-- the numbers below the next one are those below this one, and it, if it is one
one_more : (about : Explanation) (number : ℕ) (before after : List ℕ) → before ≡ namesakes_below about number
    → after ≡ before ++ namesake_text about number → after ≡ namesakes_below about (number + 1)
one_more about number before after known more =
    let on : number + 1 ≡ suc number = omega arith in
    more
    ∙ (ap (λ (t : List ℕ). t ++ namesake_text about number) known ∙ (sym (one_below about number) ∙ ap (namesakes_below about) (sym on)))

pub numbers-preserved : goal.numbers-preserved
numbers-preserved c = one_more c.args.about.now c.numbers.number _ _ c.numbers.invariant c.in_ok-put_namesake.ensures
