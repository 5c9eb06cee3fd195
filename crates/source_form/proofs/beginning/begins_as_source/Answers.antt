use Rattle.std.proofs.Common.{◌≡◌, ◌∙◌, ℕ, Bool, true, false, List, [], ◌∷◌, length, refl, sym, arith}
use Rattle.std.specs.Prelude.{codes}
use Rattle.source_form.specs.SourceText.{begins_with}
use Rattle.source_form.specs.SourceBeginning.{is_word_byte, goes_into, begins_behind}
use Rattle.source_form.proofs.beginning.begins_as_source.Goals as goal

at_word : (rest more : List ℕ) (b : ℕ) (in_comment : Bool) → rest ≡ b ∷ more → is_word_byte in_comment b ≡ true
    → begins_behind rest in_comment ≡ begins_with rest (codes "version")
unfolding begins_behind
at_word rest more b in_comment is yes' = rw (is, yes') refl

one_more : (rest more : List ℕ) (b : ℕ) (in_comment : Bool) → rest ≡ b ∷ more → is_word_byte in_comment b ≡ false
    → begins_behind rest in_comment ≡ begins_behind more (goes_into in_comment b)
unfolding begins_behind
one_more rest more b in_comment is no' = rw (is, no') refl

at_end : (rest : List ℕ) (in_comment : Bool) → length rest ≡ 0 → begins_behind rest in_comment ≡ false
unfolding begins_behind
at_end [] in_comment e = refl
at_end (x ∷ xs) in_comment e = absurd (omega (arith, e))

moved : (more : List ℕ) (now then' whole : Bool) → now ≡ then' → begins_behind more then' ≡ whole → begins_behind more now ≡ whole
moved more now then' whole same is = rw same is

pub returns-then-is_word_byte : goal.returns-then-is_word_byte
returns-then-is_word_byte c =
    let cut : c.bytes.rest.now ≡ c.in-Some.byte.now ∷ c.in-Some.more.now = c.in-Some.ensures.cases.0 in
    c.starts_with.ensures.value
    ∙ (sym (at_word c.bytes.rest.now _ c.in-Some.byte.now c.bytes.in_comment cut (sym c.is_word_byte.ensures ∙ c.if-is_word_byte.true)) ∙ c.bytes.invariant)

pub bytes-preserved : goal.bytes-preserved
bytes-preserved c =
    let cut : c.bytes.rest.now ≡ c.in-Some.byte.now ∷ c.in-Some.more.now = c.in-Some.ensures.cases.0 in
    moved _ _ _ _ c.goes_into-in_comment.ensures
    (sym (one_more c.bytes.rest.now _ c.in-Some.byte.now c.bytes.in_comment cut (sym c.is_word_byte.ensures ∙ c.if-is_word_byte.false)) ∙ c.bytes.invariant)

pub returns : goal.returns
returns c = sym (at_end c.bytes.rest.now c.bytes.in_comment c.in_default.ensures.cases) ∙ c.bytes.invariant
