use Rattle.std.proofs.Common.{◌≡◌, ◌∙◌, ℕ, List, ap, length, map, subst, sym}
use Rattle.std.proofs.lemmas.Result.{IfOk-weaker}
use Rattle.control.specs.Renumbering.{at_frames}
use Rattle.control.specs.ScriptText.{NeverFalls}
use Rattle.fleet.specs.Numbers.{NeverFall}
use Rattle.fleet.specs.Parts.{number_in_part}
use Rattle.xlb_commands.proofs.PartScripts.{as_many, frames_fall, numbers_fall}
use Rattle.xlb_commands.proofs.parts.script_of_part.Goals as goal

pub numbers_in_part-requires : goal.numbers_in_part-requires
numbers_in_part-requires c =
    subst (λ (frames : List ℕ). NeverFall 0 frames) (sym (c.deref.ensures.value ∙ c.in_ok-frames.ensures))
    (frames_fall 0 c.args.script.now c.commands_never_fall.ensures)

-- the numbers, once they are found
numbers_are : (made frames held items : List ℕ) (f : ℕ → ℕ) (own : List ℕ) → made ≡ items → items ≡ map f held → held ≡ frames → frames ≡ own → made ≡ map f own
numbers_are made frames held items f own a b c d = a ∙ (b ∙ ap (map f) (c ∙ d))

pub at_frames-requires-clause-as_many : goal.at_frames-requires-clause-as_many
at_frames-requires-clause-as_many c =
    let numbers = numbers_are c.deref-2.result.now _ c.deref.result.now _ (number_in_part c.args.part.of c.args.part.lost c.args.part.number c.args.records.now) _
    c.deref-2.ensures.value c.in_ok-numbers.ensures c.deref.ensures.value c.in_ok-frames.ensures in
    ap length numbers ∙ as_many c.args.part c.args.records.now c.args.script.now

pub at_frames-requires-clause-in_order : goal.at_frames-requires-clause-in_order
at_frames-requires-clause-in_order c =
    let numbers = numbers_are c.deref-2.result.now _ c.deref.result.now _ (number_in_part c.args.part.of c.args.part.lost c.args.part.number c.args.records.now) _
    c.deref-2.ensures.value c.in_ok-numbers.ensures c.deref.ensures.value c.in_ok-frames.ensures in
    subst (λ (them : List ℕ). NeverFalls 0 (at_frames them c.args.script.now)) (sym numbers)
    (numbers_fall c.args.part c.args.records.now 0 c.args.script.now c.commands_never_fall.ensures)

pub returns : goal.returns
returns c =
    let numbers = numbers_are c.deref-2.result.now _ c.deref.result.now _ (number_in_part c.args.part.of c.args.part.lost c.args.part.number c.args.records.now) _
    c.deref-2.ensures.value c.in_ok-numbers.ensures c.deref.ensures.value c.in_ok-frames.ensures in
    IfOk-weaker c.at_frames.result _ _ (λ made is. is ∙ ap (λ (them : List ℕ). at_frames them c.args.script.now) numbers) c.at_frames.ensures
