use Rattle.std.proofs.Common.{◌≡◌, ◌∙◌, ◌≤◌, ℕ, List, [], ap, arith, drop, length, refl, subst, sym}
use Rattle.faults.specs.Refusals.{IsRefusalText}
use Rattle.std.specs.Io.KnownBytes.{append_known}
use Rattle.xlb_commands.proofs.serving.print_notes.Goals as goal

-- the text of an empty line and notes has that line
some_line : (notes text : List ℕ) → IsRefusalText [] notes text → 1 ≤ length text
some_line notes text is = subst (λ (it : List ℕ). 1 ≤ length it) (sym is.is) (omega arith)

-- and the notes below it
below_is : (notes text : List ℕ) (is : IsRefusalText [] notes text) → drop 1 text ≡ is.below
below_is notes text is = ap (λ (it : List ℕ). drop 1 it) is.is

pub print_below-requires-clause-text : goal.print_below-requires-clause-text
print_below-requires-clause-text g c =
    subst (λ (it : List ℕ). 1 ≤ length it) (sym c.deref.ensures.value) (some_line _ _ c.in-Ok.ensures.form)

pub returns-in-Ok : goal.returns-in-Ok
returns-in-Ok g c =
    let form = c.in-Ok.ensures.form in
    record {
      notes = form.below;
      are_notes = form.are_notes;
      printed = λ same. c.print_below.ensures same
          ∙ ap (append_known _) (ap (λ (it : List ℕ). drop 1 it) c.deref.ensures.value ∙ below_is _ _ form);
    }

pub returns-in-Err : goal.returns-in-Err
returns-in-Err g c = record { notes = []; are_notes = refl; printed = c.print.ensures }
