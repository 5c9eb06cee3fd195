use Rattle.std.proofs.Common.{◌≡◌, ◌∙◌, Option, Some, None, ap, refl, subst, sym}
use Rattle.clap.specs.Walk.{Text}
use Rattle.fleet.specs.declared.part.Part.{Part}
use Rattle.command_line.specs.Reading.{IsPartAsked, text_of}
use Rattle.command_line.proofs.words.part_found.Goals as goal

pub returns-in-Some-part_said-clause-asked : goal.returns-in-Some-part_said-clause-asked
returns-in-Some-part_said-clause-asked c =
    subst (λ (asked : Option Text). IsPartAsked asked (Some c.in-Some-part_said.part)) (sym (ap text_of c.in-Some.is) ∙ c.option.ensures)
    (record { said = c.in-Some-part_said.part; part_is = refl; spelled = c.in-Some-part_said.ensures.0 })

pub returns-in-None-part_said-clause-none : goal.returns-in-None-part_said-clause-none
returns-in-None-part_said-clause-none c = record {
  given = sym c.option.ensures ∙ ap text_of c.in-Some.is;
  none = c.in-None-part_said.ensures;
}

pub returns-in-None-clause-asked : goal.returns-in-None-clause-asked
returns-in-None-clause-asked c =
    subst (λ (asked : Option Text). IsPartAsked asked None) (sym (ap text_of c.in-None.is) ∙ c.option.ensures) refl
