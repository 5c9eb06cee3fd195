use Rattle.std.proofs.Common.{◌∙◌, ◌++◌, List, [], ◌∷◌, ℕ, ap, refl, string_bytes}
use Rattle.std.proofs.lemmas.Result.{on_ok_weaker}
use Rattle.control.specs.FaultNumber.{control_fault_number}
use Rattle.traffic.specs.TableText.{carried_out, done_lines, refused, refused_line}
use Rattle.traffic.proofs.TableLemmas.{none_noted, not_refused}
use Rattle.traffic.proofs.tables.show.Goals as goal

pub returns-in-Ok-clause-shown : goal.returns-in-Ok-clause-shown
returns-in-Ok-clause-shown c =
    let before = c.deref.ensures.value ∙ (c.in_ok-before.ensures.items_if_clones_equal (λ x y same. same) ∙ c.words.ensures) in
    on_ok_weaker c.put.result
    (λ longer. (
      string_bytes c.in_ok-lines-in-Ok.lines,
      [],
      carried_out (not_refused _ c.in-Ok.field-0 c.in-Ok.ensures.first) c.in-Ok.ensures.done
          (c.in_ok-lines-in-Ok.ensures ∙ ap (λ (words : List ℕ). done_lines c.args.place c.args.command.now.frame words c.apply.new.port) before) refl,
      longer ∙ ap (λ (t : List ℕ). string_bytes c.args.tables.now.text ++ t) c.as_str.ensures.value,
      none_noted c.put.ensures.refused,
    ))
    c.put.ensures.text

pub returns-clause-shown : goal.returns-clause-shown
returns-clause-shown c =
    on_ok_weaker c.refuse.result
    (λ said. (
      refused_line c.args.place (control_fault_number c.in-Err.fault),
      record { place = c.args.place; fault = c.in-Err.fault } ∷ [],
      refused c.in-Err.fault c.in-Err.ensures.left refl refl,
      said.0,
      said.1,
    ))
    c.refuse.ensures
