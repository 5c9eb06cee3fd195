use Rattle.std.proofs.Common.{◌≡◌, ℕ, IfOk, List, Option, string_bytes, subst, sym}
use Rattle.map_meanings.specs.declared.tables.Tables.{Tables}
use Rattle.map_meanings.specs.Meanings.{entry_meaning}
use Rattle.map_contents.specs.ContentsText.{rest_of}
use Rattle.map_contents.proofs.lines.rest_of.Goals as goal

pub returns-in-Some : goal.returns-in-Some
returns-in-Some c =
    let made = c.entry_meaning.result in
    let form = c.args.form in
    let tables = c.in-Some.tables in
    subst (λ (told : Option Tables). IfOk made (λ rest. string_bytes rest ≡ rest_of form told c.args.map c.args.entry.now)) (sym c.in-Some.is)
    (subst (λ (value : List ℕ). IfOk made (λ rest. string_bytes rest ≡ entry_meaning form tables c.args.map c.args.entry.now.0 value))
    c.as_slice-value.ensures.bytes
    (subst (λ (key : List ℕ). IfOk made (λ rest. string_bytes rest ≡ entry_meaning form tables c.args.map key c.as_slice-value.result.now))
    c.as_slice-key.ensures.bytes c.entry_meaning.ensures))
