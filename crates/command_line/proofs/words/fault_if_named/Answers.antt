use Rattle.std.proofs.Common.{◌∙◌, sym}
use Rattle.std.proofs.lemmas.Slice.Eq.{bytes_eq-Decides}
use Rattle.command_line.proofs.words.fault_if_named.Goals as goal

pub returns-then-eq : goal.returns-then-eq
returns-then-eq c =
    let row = c.in-Some.ensures.1 in
    let same = (bytes_eq-Decides c.in-Some.about.name.now c.args.word.now).0 (sym c.eq.ensures ∙ c.if-eq.true) in
    (row.number_is, (c.in-Some.ensures.0, sym same ∙ row.name_is), row)
