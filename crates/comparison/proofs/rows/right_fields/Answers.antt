use Rattle.std.proofs.Common.{rules, ◌∙◌, ℕ, List, add-one, ap, sym}
use Rattle.comparison.specs.Rows.{fields_from, first_field, later_fields, right_fields, with_field}
use Rattle.comparison.proofs.rows.right_fields.Goals as goal

pub columns-preserved : goal.columns-preserved
unfolding right_fields
columns-preserved c =
    let line : List ℕ = c.args.line.now in
    let place : ℕ = c.columns.place in
    record {
      rest = c.later_fields-rest.ensures
          ∙ (ap later_fields c.columns.invariant.rest ∙ sym (ap (λ (n : ℕ). fields_from n line) (add-one place)));
      text = search rules;
      count = c.with_field-count.ensures
          ∙ (ap (λ (n : ℕ). with_field n place c.first_field.result.now) c.columns.invariant.count
          ∙ (ap (λ (it : List ℕ). with_field (right_fields line place) place it) (c.first_field.ensures ∙ ap first_field c.columns.invariant.rest)
          ∙ sym (ap (λ (n : ℕ). right_fields line n) (add-one place))));
    }
