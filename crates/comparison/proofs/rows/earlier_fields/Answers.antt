use Rattle.std.proofs.Common.{arith, ◌≡◌, ◌∙◌, ◌-◌, ℕ, List, [], None, Some, ap, length, sym, take}
use Rattle.std.specs.Prelude.{Option, option_map, slice_range, unwrap_or}
use Rattle.std.proofs.lemmas.Str.Pattern.{rfind_char}
use Rattle.comparison.proofs.RowLemmas.{last_below, none_below}
use Rattle.comparison.proofs.rows.earlier_fields.Goals as goal

-- what is before a comma, if there is one
abbrev before : List ℕ → Option ℕ → List ℕ
before line at = unwrap_or (option_map (λ end. take end line) at) []

pub returns-in-Some : goal.returns-in-Some
returns-in-Some c =
    let line : List ℕ = c.args.line.now in
    let found = rfind_char 44 line (Some c.in-Some.end) c.in-Some.ensures.cases (omega arith) in
    let front : slice_range line 0 c.in-Some.end ≡ take c.in-Some.end line =
    ap (λ (n : ℕ). take n line) {x = c.in-Some.end - 0} {y = c.in-Some.end} (omega arith) in
    c.range.ensures.value ∙ (front ∙ ap (before line) (sym (last_below 44 line c.in-Some.end (length line) found.0 found.1 found.2)))

pub returns-in-None : goal.returns-in-None
returns-in-None c =
    let line : List ℕ = c.args.line.now in
    ap (before line) (sym (none_below 44 line (length line) (rfind_char 44 line None c.in-None.ensures.cases (omega arith))))
