use Rattle.std.proofs.Common.{rules, arith}
use Rattle.std.proofs.lemmas.Str.Pattern.{split_parts}
use Rattle.journals.proofs.Headers.{no_header_line, headed, not_headed}
use Rattle.journals.proofs.parsing.header_of.Goals as goal

pub returns-in-None : goal.returns-in-None
returns-in-None c =
    let lacks = rw c.in-None.is at (split_parts 10 c.args.text.now c.split_once.result c.split_once.ensures.cases (omega arith)) in
    no_header_line c.args.maps.now c.args.text.now lacks

pub returns-then-ne : goal.returns-then-ne
returns-then-ne c =
    let parts = rw c.in-Some.is at (split_parts 10 c.args.text.now c.split_once.result c.split_once.ensures.cases (omega arith)) in
    not_headed c.args.maps.now c.args.text.now c.in-Some.line.now c.in-Some.rest.now c.put_header.new.out.items c.header_read-options.result parts.0 parts.1 (search rules) c.header_read-options.ensures
    (λ e fits. search rules)

pub returns-then-not-fit : goal.returns-then-not-fit
returns-then-not-fit c =
    let parts = rw c.in-Some.is at (split_parts 10 c.args.text.now c.split_once.result c.split_once.ensures.cases (omega arith)) in
    not_headed c.args.maps.now c.args.text.now c.in-Some.line.now c.in-Some.rest.now c.put_header.new.out.items c.header_read-options.result parts.0 parts.1 (search rules) c.header_read-options.ensures
    (λ e fits. let is = c.fit.ensures.allowed.1 fits in search rules)

pub returns-else-not-fit : goal.returns-else-not-fit
returns-else-not-fit c =
    let parts = rw c.in-Some.is at (split_parts 10 c.args.text.now c.split_once.result c.split_once.ensures.cases (omega arith)) in
    headed c.args.maps.now c.args.text.now c.in-Some.line.now c.in-Some.rest.now c.put_header.new.out.items c.header_read-options.result parts.0 (search rules) (search rules) (search rules) c.header_read-options.ensures
