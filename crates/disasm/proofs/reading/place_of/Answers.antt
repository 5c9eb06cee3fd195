use Rattle.std.proofs.Common.{◌≡◌, ◌++◌, ◌∷◌, [], ℕ, List, refl, ap, ◌∙◌, sym}
use Rattle.std.specs.Int.{w16, w64}
use Rattle.std.proofs.lemmas.Int.{to_z-of_z}
use Rattle.isa.specs.declared.operation.Register.{Register}
use Rattle.disasm.specs.AssemblyText.{register_text, with_sign}
use Rattle.disasm.proofs.shared.Numbers.{short_again}
use Rattle.text_lines.proofs.shared.ByteLemmas.{lacks_from}
use Rattle.disasm.proofs.shared.Bytes.{word_byte, sign_word, far_fits}
use Rattle.disasm.proofs.reading.place_of.Goals as goal

pub returns : goal.returns
returns c = λ r z fits is.
    let first : c.leading_register-register.result ≡ r = c.leading_register-register.ensures r z (93 ∷ []) is in
    let name : c.register_text.result.now ≡ register_text r = c.register_text.ensures ∙ ap (λ (q : Register). register_text q) first in
    let rest : c.after.result.now ≡ with_sign z ++ 93 ∷ [] = c.after.ensures (with_sign z ++ 93 ∷ []) (is ∙ ap (λ (xs : List ℕ). xs ++ (with_sign z ++ 93 ∷ [])) (sym name)) in
    let offset = c.cut.ensures.both (with_sign z) [] rest (lacks_from (word_byte 58) 93 (with_sign z) (sign_word z (far_fits z fits)) refl) in
    let number : c.number_of.result ≡ z = c.number_of.ensures.signed z (far_fits z fits) offset.0 in
    let found : c.short.result ≡ z = rw (number, to_z-of_z w64 z (far_fits z fits)) at c.short.ensures ∙ short_again z fits in
    rw (first, found, to_z-of_z w16 z fits) refl
