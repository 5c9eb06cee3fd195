use Rattle.std.proofs.Common.{◌≡◌, ◌++◌, ◌∷◌, ℕ, List, arith}
use Rattle.std.proofs.lemmas.Str.Pattern.{split_after, split_parts, strip_prefix_char, starts_char}
use Rattle.std.specs.Int.{w64}
use Rattle.std.proofs.lemmas.Int.{to_z-of_z}
use Rattle.std.proofs.lemmas.Bool.Decides.{not_from_Decides}
use Rattle.text_lines.specs.Lines.{Lacks}
use Rattle.disasm.proofs.Operands.{wide_case, bracket_case, register_case, number_case}
use Rattle.disasm.proofs.reading.operand_of.Goals as goal

pub returns-in-Some : goal.returns-in-Some
returns-in-Some c =
    let parts = rw c.in-Some.is at (split_parts 120 c.args.text.now c.split_once.result c.split_once.ensures.cases (omega arith)) in
    let first : (xs ys : List ℕ) → c.args.text.now ≡ xs ++ 120 ∷ ys → Lacks 120 xs → c.in-Some.digits.now ≡ ys = λ xs ys is lacks. (rw c.in-Some.is at (split_after 120 c.args.text.now xs ys c.split_once.result c.split_once.ensures.cases (omega arith) is lacks)).1 in
    wide_case c.args.text.now c.in-Some.field-0-0.now c.in-Some.digits.now c.hex_of.result parts.0 first c.hex_of.ensures

pub returns-in-Some-strip_prefix : goal.returns-in-Some-strip_prefix
returns-in-Some-strip_prefix c =
    let begins = rw c.in-Some-strip_prefix.is at (strip_prefix_char 91 c.args.text.now c.strip_prefix.result c.strip_prefix.ensures.cases (omega arith)) in
    bracket_case c.args.text.now c.in-Some-strip_prefix.inside.now c.place_of.result begins c.place_of.ensures

pub returns-then-starts_with : goal.returns-then-starts_with
returns-then-starts_with c =
    let first = starts_char 114 c.args.text.now c.starts_with.result c.starts_with.ensures.cases (omega arith) (omega arith) in
    register_case c.args.text.now c.register_of.result (first.0 c.if-starts_with.true) c.register_of.ensures

pub returns : goal.returns
returns c =
    let first = starts_char 114 c.args.text.now c.starts_with.result c.starts_with.ensures.cases (omega arith) (omega arith) in
    let begins = rw c.in_default-strip_prefix.is at (strip_prefix_char 91 c.args.text.now c.strip_prefix.result c.strip_prefix.ensures.cases (omega arith)) in
    let lacks = rw c.in_default.is at (split_parts 120 c.args.text.now c.split_once.result c.split_once.ensures.cases (omega arith)) in
    let other = not_from_Decides c.starts_with.result first c.if-starts_with.false in
    number_case c.args.text.now _ other begins lacks (λ z fits is. rw (c.number_of.ensures.plain z fits is) (to_z-of_z w64 z fits)) (λ z fits is. rw (c.number_of.ensures.signed z fits is) (to_z-of_z w64 z fits))
