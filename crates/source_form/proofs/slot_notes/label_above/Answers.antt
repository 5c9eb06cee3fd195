use Rattle.std.proofs.Common.{◌≡◌, ◌∙◌, ◌≤◌, ◌<◌, ◌+◌, ◌-◌, ℕ, true, false, List, ◌∷◌, length, map, drop, get_or, sym, ap, refl, arith, rules}
use Rattle.std.specs.Prelude.{nat_lt}
use Rattle.std.proofs.lemmas.Bool.Decides.{nat_tests}
use Rattle.source_form.specs.SourceText.{slots_of}
use Rattle.source_form.specs.SlotLines.{label_or, label_above}
use Rattle.source_form.proofs.LineSteps.{rest_from, none_from}
use Rattle.source_form.proofs.slot_notes.label_above.Goals as goal

below : (m n : ℕ) → m < n → nat_lt m n ≡ true
below m n lt = grind (arith, nat_tests)

beyond : (m n : ℕ) → n ≤ m → nat_lt m n ≡ false
beyond m n le = grind (arith, nat_tests)

stops : (last : List ℕ) (left slots : ℕ) (s : List ℕ) (more : List (List ℕ)) → slots ≡ slots_of s → left < slots → label_above last left (s ∷ more) ≡ label_or last s
unfolding label_above
stops last left slots s more is lt = rw (sym is, below left slots lt) refl

counts : (last : List ℕ) (left slots : ℕ) (s : List ℕ) (more : List (List ℕ)) → slots ≡ slots_of s → slots ≤ left
    → label_above last left (s ∷ more) ≡ label_above (label_or last s) (left - slots) more
unfolding label_above
counts last left slots s more is le = rw (sym is, beyond left slots le) refl

-- what is from a place on
at : {X : Type 0} (f : X → List ℕ) (xs : List X) (last : List ℕ) (place left : ℕ) (d : X) → place < length xs
    → label_above last left (drop place (map f xs)) ≡ label_above last left (f (get_or xs place d) ∷ drop (place + 1) (map f xs))
at f xs last place left d lt = ap (λ (lines : List (List ℕ)). label_above last left lines) (rest_from f xs place d lt)

ends : {X : Type 0} (f : X → List ℕ) (xs : List X) (last : List ℕ) (place left : ℕ) → length xs ≡ place → label_above last left (drop place (map f xs)) ≡ last
unfolding label_above
ends f xs last place left e = rw (none_from f xs place e) refl

moved : (last last' : List ℕ) (left : ℕ) (more : List (List ℕ)) (whole : List ℕ) → last' ≡ last → label_above last left more ≡ whole → label_above last' left more ≡ whole
moved last last' left more whole same is = rw same is

pub returns-then-left-slots : goal.returns-then-left-slots
returns-then-left-slots c =
    c.label_or-last.ensures ∙ sym (sym c.lines.invariant.goes ∙ at (λ s. s.now) c.args.statements.now _ c.lines.place c.lines.left _ c.lines-test.true ∙ stops _ _ _ _ _ c.slots_of-slots.ensures.slots c.if-left-slots.true)

pub lines-preserved : goal.lines-preserved
lines-preserved c = record {
  inside = omega (arith, c.lines-test.true);
  text = search rules;
  goes = moved _ _ _ _ _ c.label_or-last.ensures (sym (at (λ s. s.now) c.args.statements.now _ c.lines.place c.lines.left _ c.lines-test.true ∙ counts _ _ _ _ _ c.slots_of-slots.ensures.slots c.if-left-slots.false) ∙ c.lines.invariant.goes);
}

pub returns : goal.returns
returns c = sym (sym c.lines.invariant.goes ∙ ends (λ s. s.now) c.args.statements.now _ c.lines.place c.lines.left (omega (arith, c.lines-test.false, c.lines.invariant.inside)))
