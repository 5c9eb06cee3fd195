use Rattle.std.proofs.Common.{arith, ◌≡◌, ◌<◌, ◌≤◌, ◌+◌, ℕ, Bool, true, false, ltb, refl, subst}
use Rattle.std.proofs.lemmas.Bool.{ltb-true, ltb-false}
use Rattle.command_line.specs.Reading.{IsName}
use Rattle.command_line.proofs.FaultNumbers.{below_96}
use Rattle.command_line.proofs.words.fault_named.Goals as goal

-- what no number before the next one is, and it neither, is none up to it
one_more : (P : ℕ → Type 0) (next : ℕ) → ((lower : ℕ) → lower < next → ¬ P lower) → ¬ P next
    → (lower : ℕ) → lower < next + 1 → ¬ P lower
one_more P next earlier last lower under = by (ltb lower next) refl
  where
    by : (test : Bool) → ltb lower next ≡ test → ¬ P lower
    by true before = earlier lower (ltb-true lower next before)
    by false after =
        let least : next ≤ lower = ltb-false lower next after in
        let same : next ≡ lower = omega (arith, least, under) in
        subst (λ (n : ℕ). ¬ P n) same last

pub numbers-preserved : goal.numbers-preserved
numbers-preserved c = one_more (IsName c.args.word.now) c.numbers.number c.numbers.invariant c.in_default.ensures

pub returns : goal.returns
returns c = λ number named.
    let small : number < 96 = below_96 number named.0 in
    c.numbers.invariant number (omega (arith, small, c.numbers-test.false)) named
