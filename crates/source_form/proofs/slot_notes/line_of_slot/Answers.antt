use Rattle.std.proofs.Common.{◌≡◌, ◌∙◌, ◌≤◌, ◌<◌, ◌+◌, ◌-◌, ℕ, true, false, List, ◌∷◌, length, map, drop, get_or, sym, ap, refl, arith}
use Rattle.std.specs.Prelude.{nat_lt}
use Rattle.std.proofs.lemmas.Bool.Decides.{nat_tests}
use Rattle.source_form.specs.SourceText.{slots_of}
use Rattle.source_form.specs.SlotLines.{line_of_slot}
use Rattle.source_form.proofs.LineSteps.{rest_from, none_from}
use Rattle.source_form.proofs.slot_notes.line_of_slot.Goals as goal

below : (m n : ℕ) → m < n → nat_lt m n ≡ true
below m n lt = grind (arith, nat_tests)

beyond : (m n : ℕ) → n ≤ m → nat_lt m n ≡ false
beyond m n le = grind (arith, nat_tests)

stops : (place left slots : ℕ) (s : List ℕ) (more : List (List ℕ)) → slots ≡ slots_of s → left < slots → line_of_slot place left (s ∷ more) ≡ place + 1
unfolding line_of_slot
stops place left slots s more is lt = rw (sym is, below left slots lt) refl

counts : (place left slots : ℕ) (s : List ℕ) (more : List (List ℕ)) → slots ≡ slots_of s → slots ≤ left
    → line_of_slot place left (s ∷ more) ≡ line_of_slot (place + 1) (left - slots) more
unfolding line_of_slot
counts place left slots s more is le = rw (sym is, beyond left slots le) refl

-- what is from a place on
at : {X : Type 0} (f : X → List ℕ) (xs : List X) (place left : ℕ) (d : X) → place < length xs
    → line_of_slot place left (drop place (map f xs)) ≡ line_of_slot place left (f (get_or xs place d) ∷ drop (place + 1) (map f xs))
at f xs place left d lt = ap (λ (lines : List (List ℕ)). line_of_slot place left lines) (rest_from f xs place d lt)

last : {X : Type 0} (f : X → List ℕ) (xs : List X) (place left : ℕ) → length xs ≡ place → line_of_slot place left (drop place (map f xs)) ≡ place
unfolding line_of_slot
last f xs place left e = rw (none_from f xs place e) refl

pub returns-then-left-slots : goal.returns-then-left-slots
returns-then-left-slots c =
    sym (sym c.lines.invariant.goes ∙ at (λ s. s.now) c.args.statements.now c.lines.place c.lines.left _ c.lines-test.true ∙ stops _ _ _ _ _ c.slots_of-slots.ensures.slots c.if-left-slots.true)

pub lines-preserved : goal.lines-preserved
lines-preserved c = record {
  inside = omega (arith, c.lines-test.true);
  goes = sym (at (λ s. s.now) c.args.statements.now c.lines.place c.lines.left _ c.lines-test.true ∙ counts _ _ _ _ _ c.slots_of-slots.ensures.slots c.if-left-slots.false) ∙ c.lines.invariant.goes;
}

pub returns : goal.returns
returns c = sym (sym c.lines.invariant.goes ∙ last (λ s. s.now) c.args.statements.now c.lines.place c.lines.left (omega (arith, c.lines-test.false, c.lines.invariant.inside)))
