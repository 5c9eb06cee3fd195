use Rattle.std.proofs.Common.{◌≡◌, ◌∙◌, List, ℕ, ap, length, subst, sym}
use Rattle.std.proofs.lemmas.Result.{err_from_is_err_and}
use Rattle.control.specs.Renumbering.{at_frames}
use Rattle.control.specs.ScriptText.{NeverFalls}
use Rattle.fleet.specs.Numbers.{AreNumbered}
use Rattle.xlb_commands.specs.Parts.{numbers_of_part}
use Rattle.xlb_commands.proofs.PartScripts.{as_many, numbers_fall}
use Rattle.xlb_commands.proofs.TakingLemmas.{numbers_are, numbers_found, on_the_way}
use Rattle.xlb_commands.proofs.taking.Taking.numbered.Goals as goal

pub finish-requires : goal.finish-requires
finish-requires c =
    let way = rw c.in-Of.is at c.requires.passed in
    record {
      past = c.requires.past;
      numbered = subst (λ (them : List ℕ). AreNumbered them c.requires.past c.in-Of.numbering) (sym c.deref.ensures.value) (on_the_way _ _ _ _ _ way);
    }

pub at_frames-requires-clause-as_many : goal.at_frames-requires-clause-as_many
at_frames-requires-clause-as_many c =
    let way = rw c.in-Of.is at c.requires.passed in
    let numbers : c.deref-in-Of.result.now ≡ numbers_of_part c.in-Of.numbering.part c.requires.past c.args.script.now
    = c.deref-in-Of.ensures.value
    ∙ numbers_found _ _ _ _ _ _ _ c.deref.ensures.value way (c.in_ok-numbers-in-Of.ensures c.requires.past) in
    ap length numbers ∙ as_many c.in-Of.numbering.part c.requires.past c.args.script.now

pub at_frames-requires-clause-in_order : goal.at_frames-requires-clause-in_order
at_frames-requires-clause-in_order c =
    let way = rw c.in-Of.is at c.requires.passed in
    let numbers : c.deref-in-Of.result.now ≡ numbers_of_part c.in-Of.numbering.part c.requires.past c.args.script.now
    = c.deref-in-Of.ensures.value
    ∙ numbers_found _ _ _ _ _ _ _ c.deref.ensures.value way (c.in_ok-numbers-in-Of.ensures c.requires.past) in
    subst (λ (them : List ℕ). NeverFalls 0 (at_frames them c.args.script.now)) (sym numbers)
    (numbers_fall c.in-Of.numbering.part c.requires.past 0 c.args.script.now c.commands_never_fall.ensures)

pub returns-in_err-numbers-in-Of-clause-refused : goal.returns-in_err-numbers-in-Of-clause-refused
returns-in_err-numbers-in-Of-clause-refused c =
    let p = err_from_is_err_and c.from_residual.result c.from_residual.ensures.1 in
    rw p.1 (λ part frames past passed. let it = rw c.in-Of.is at passed in (c.in-Of.numbering.part, it.part_is))

pub returns-in_err-script-in-Of-clause-refused : goal.returns-in_err-script-in-Of-clause-refused
returns-in_err-script-in-Of-clause-refused c =
    let p = err_from_is_err_and c.from_residual-in_err-script-in-Of.result c.from_residual-in_err-script-in-Of.ensures.1 in
    rw p.1 (λ part frames past passed. let it = rw c.in-Of.is at passed in (c.in-Of.numbering.part, it.part_is))

pub returns-in_ok-script-in-Of-clause-of_part : goal.returns-in_ok-script-in-Of-clause-of_part
returns-in_ok-script-in-Of-clause-of_part c = λ part frames past passed. let it = rw c.in-Of.is at passed in (c.in-Of.numbering.part, it.part_is)

pub returns-in_ok-script-in-Of-clause-script : goal.returns-in_ok-script-in-Of-clause-script
returns-in_ok-script-in-Of-clause-script c =
    c.in_ok-script-in-Of.ensures ∙ ap (λ (them : List ℕ). at_frames them c.args.script.now) c.deref-in-Of.ensures.value

pub returns-in_ok-script-in-Of-clause-numbers : goal.returns-in_ok-script-in-Of-clause-numbers
returns-in_ok-script-in-Of-clause-numbers c = λ part past passed.
    let way = rw c.in-Of.is at passed in
    numbers_are _ _ _ _ _ _ _ c.deref.ensures.value way (c.in_ok-numbers-in-Of.ensures past)
