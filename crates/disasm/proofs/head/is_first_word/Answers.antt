use Rattle.std.proofs.Common.{◌≡◌, ◌∙◌, sym, ap, refl, [], ℕ, List, ◌∷◌, Some, None, Bool, bytes_eq, true, false}
use Rattle.std.specs.List.{find}
use Rattle.std.proofs.lemmas.Slice.Eq.{bytes_eq-Decides}
use Rattle.disasm.specs.declared.head.Head.{Head}
use Rattle.disasm.specs.declared.head.TheConstants.{HEADS}
use Rattle.disasm.specs.Names.{head_name}
use Rattle.disasm.proofs.Heads.{named_again}
use Rattle.disasm.proofs.head.is_first_word.Goals as goal

some_same : (x h : Head) → Some x ≡ Some h → x ≡ h
some_same x h e = cc

case : (p : Head → Bool) (x : Head) (xs : List Head) (h : Head) (b : Bool) → p x ≡ b → find p (x ∷ xs) ≡ Some h → (find p xs ≡ Some h → p h ≡ true) → p h ≡ true
case p x xs h true e is more = ap p (sym (some_same x h (rw e at is))) ∙ e
case p x xs h false e is more = more (rw e at is)

passes : (p : Head → Bool) (xs : List Head) (h : Head) → find p xs ≡ Some h → p h ≡ true
passes p [] h is = absurd (none_some is) where
  none_some : None ≡ Some h → ⊥
  none_some e = cc
passes p (x ∷ xs) h is = case p x xs h (p x) refl is (passes p xs h)

pub returns-in-Some-clause-only : goal.returns-in-Some-clause-only
returns-in-Some-clause-only c = λ yes.
    let found : find (λ (h : Head). bytes_eq (head_name h) c.args.word.now) HEADS ≡ Some c.in-Some.field-0 = sym c.first_named.ensures ∙ c.in-Some.is in
    let same = passes (λ (h : Head). bytes_eq (head_name h) c.args.word.now) HEADS c.in-Some.field-0 found in
    record { head = c.in-Some.field-0; is = sym ((bytes_eq-Decides (head_name c.in-Some.field-0) c.args.word.now).0 same) }

pub returns-in-None-clause-known : goal.returns-in-None-clause-known
returns-in-None-clause-known c = λ head is.
    let found : c.first_named.result ≡ Some head = c.first_named.ensures ∙ ap (λ (word : List ℕ). find (λ (h : Head). bytes_eq (head_name h) word) HEADS) is ∙ named_again head in
    absurd (none_some head (sym c.in-None.is ∙ found)) where
      none_some : (h : Head) → None ≡ Some h → ⊥
      none_some h e = cc
