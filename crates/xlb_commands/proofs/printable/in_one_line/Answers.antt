use Rattle.std.proofs.Common.{◌∙◌, ◌++◌, ◌∷◌, [], List, ℕ, ap, append_assoc, append-nil, rules, sym}
use Rattle.std.specs.Prelude.{chars, flat_map}
use Rattle.std.proofs.lemmas.List.{flat_map_more, nil_from_length}
use Rattle.std.proofs.lemmas.Str.{chars-nil, chars_past_char, IsUtf8-past_char}
use Rattle.xlb_commands.specs.Printable.{shown}
use Rattle.xlb_commands.proofs.printable.in_one_line.Goals as goal

pub loop-letter-preserved : goal.loop-letter-preserved
loop-letter-preserved c =
    let at = c.loop-letter in
    let x = c.in-Some.letter in
    let steps = c.in-Some.ensures.steps.0 in (
      c.in_ok-put_shown.ensures ∙ ap (λ (l : List ℕ). l ++ shown x) at.invariant.0 ∙ flat_map_more shown [] at.yielded x,
      (
        append_assoc at.yielded (x ∷ []) _ ∙ ap (λ (l : List ℕ). at.yielded ++ l) (sym (chars_past_char _ _ x at.invariant.1.1 steps))
            ∙ at.invariant.1.0,
        IsUtf8-past_char _ _ x at.invariant.1.1 steps,
      ),
    )

pub returns : goal.returns
returns c =
    let at = c.loop-letter in
    let none = nil_from_length _ c.in-None.ensures.steps.0.0 in
    at.invariant.0 ∙ ap (flat_map shown)
    (sym (append-nil at.yielded) ∙ ap (λ (l : List ℕ). at.yielded ++ l) (sym (ap chars none ∙ chars-nil)) ∙ at.invariant.1.0)
