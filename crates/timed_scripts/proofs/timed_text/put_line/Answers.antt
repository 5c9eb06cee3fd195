use Rattle.std.proofs.Common.{string_bytes, rules, to_z-of_z, to_z, of_z, FitsSigned, ◌≡◌}
use mir.Syntax.{w128}
use Rattle.timed_scripts.proofs.LineLemmas.{does_next}
use Rattle.timed_scripts.proofs.timed_text.put_line.Goals as goal

pub returns-in-Does-clause-put : goal.returns-in-Does-clause-put
returns-in-Does-clause-put c =
    let told = rw c.in-Does.is at c.in_ok-said_in.ensures.said in
    let inv = rw c.in_ok-said_in.was at c.said_in.type_inv in
    let fits : FitsSigned w128 c.in-Does.moment = search rules in
    let same : to_z w128 (of_z w128 c.in-Does.moment) ≡ c.in-Does.moment = to_z-of_z fits in
    let put = rw same at c.put_command.ensures.put in
    does_next c.args.records.now c.args.number c.args.least c.args.line.now c.in-Does.moment c.in-Does.words.now c.put_command.result (string_bytes c.args.made.now.text)
    (string_bytes c.put_command.new.made.text) c.args.made.now.late.items c.put_command.new.made.late.items told put
