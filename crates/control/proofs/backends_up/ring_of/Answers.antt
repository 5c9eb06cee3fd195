use Rattle.std.proofs.Common.{◌∙◌, ap, Err}
use Rattle.control.proofs.Backends.{not_too_many, no_repeat, owners_below, table_made}
use Rattle.control.proofs.backends_up.ring_of.Goals as goal

pub unreachable-requires-in-Twice : goal.unreachable-requires-in-Twice
unreachable-requires-in-Twice c = no_repeat c.args.size c.args.up.now c.requires.up (c.build.ensures.twice.0 (c.in-Err.is ∙ ap Err c.in-Twice.is))

pub unreachable-requires-in-TooMany : goal.unreachable-requires-in-TooMany
unreachable-requires-in-TooMany c = not_too_many c.args.size c.args.up.now c.requires.up (c.build.ensures.too_many.0 (c.in-Err.is ∙ ap Err c.in-TooMany.is)).1

pub returns-in-Ok-clause-numbers : goal.returns-in-Ok-clause-numbers
returns-in-Ok-clause-numbers c = owners_below c.args.size c.args.up.now c.in-Ok.ring c.requires.up c.in-Ok.ensures.owned

pub returns-in-Ok-clause-table : goal.returns-in-Ok-clause-table
returns-in-Ok-clause-table c = table_made c.is_empty.result c.args.size c.args.up.now c.in-Ok.ring c.is_empty.ensures c.if-is_empty.false c.in-Ok.ensures.population c.in-Ok.ensures.only_one
