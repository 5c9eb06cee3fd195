use Rattle.std.proofs.Common.{ℕ, refl, sym, ◌∙◌}
use Rattle.std.proofs.lemmas.Bool.{true≢false}
use Rattle.maglev.proofs.RepeatLemmas.{HasRepeat-found, NoneBelow-next}
use Rattle.maglev.proofs.repeats.is_given_twice.Goals as goal

pub returns-then-is_given : goal.returns-then-is_given
returns-then-is_given c = (
  λ _. HasRepeat-found (λ (given : ℕ × ℕ × ℕ). given.0) c.args.given.now c.given.later (0, 0, 0) c.given-test.true
      (c.is_given.ensures.0 c.if-is_given.true),
  λ _. refl,
)

pub given-preserved : goal.given-preserved
given-preserved c =
    NoneBelow-next (λ (given : ℕ × ℕ × ℕ). given.0) c.args.given.now c.given.later (0, 0, 0) c.given-test.true
    (λ found. true≢false (sym (c.is_given.ensures.1 found) ∙ c.if-is_given.false)) c.given.invariant
