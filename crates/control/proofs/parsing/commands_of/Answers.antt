use Rattle.std.proofs.Common.{rules, arith}
use Rattle.control.proofs.Scripts.{all_read, earlier_frame, read_more, no_command, none_so_far}
use Rattle.control.proofs.parsing.commands_of.Goals as goal

pub returns-then-command-least : goal.returns-then-command-least
returns-then-command-least c =
    let first = rw c.in-Some.is at c.in_ok-command.ensures in
    all_read c.args.text.now c.lines.rest.now c.lines.least c.lines.commands.items c.lines.invariant.1 (earlier_frame c.lines.rest.now c.in-Some.after.now c.lines.least c.in-Some.command first c.if-command-least.true)

pub lines-preserved : goal.lines-preserved
lines-preserved c =
    let first = rw c.in-Some.is at c.in_ok-command.ensures in
    (search rules, rw c.in_ok-push.ensures.items (read_more c.args.text.now c.lines.rest.now c.in-Some.after.now c.lines.least c.lines.commands.items c.in-Some.command c.lines.invariant.1 first c.if-command-least.false))
