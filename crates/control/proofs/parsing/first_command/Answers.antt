use Rattle.std.proofs.Common.{◌∙◌, sym, arith}
use Rattle.std.proofs.lemmas.Str.Pattern.{split_parts}
use Rattle.text_lines.specs.Lines.{Lacks}
use Rattle.text_lines.proofs.shared.LineLemmas.{lacks_mid, same_front}
use Rattle.control.proofs.Scripts.{line_lacks_feed}
use Rattle.control.proofs.parsing.first_command.Goals as goal

pub returns-in-None : goal.returns-in-None
returns-in-None c =
    let lacks = rw c.in-None.is at (split_parts 10 c.args.text.now c.split_once.result c.split_once.ensures.cases (omega arith)) in
    λ m line more is. λ e. lacks_mid 10 c.args.text.now line more lacks e

pub returns-in-None-2 : goal.returns-in-None-2
returns-in-None-2 c =
    let parts = rw c.in-Some.is at (split_parts 10 c.args.text.now c.split_once.result c.split_once.ensures.cases (omega arith)) in
    λ m line more is. λ e.
    let lacks : Lacks 10 line = rw is.spelled (line_lacks_feed m is.fits) in
    let same = same_front 10 c.in-Some.line.now c.in-Some.rest.now line more parts.1 lacks (sym parts.0 ∙ e) in
    let tells = rw c.in-None-2.is at c.in_ok-command_of-in-Some.ensures in
    tells m (record { fits = is.fits; spelled = same.0 ∙ is.spelled })
