use Rattle.std.proofs.Common.{◌≡◌, ◌+◌, ℕ, List, length, refl, arith}
use Rattle.std.proofs.Common.{inl, inr}
use Rattle.control.proofs.Scripts.{same_script, bad_after}
use Rattle.control.proofs.parsing.script_of.Goals as goal
use Rattle.text_lines.proofs.shared.ByteLemmas.{not_empty}

pub returns-then-is_empty-clause-only : goal.returns-then-is_empty-clause-only
returns-then-is_empty-clause-only c = λ script is. (same_script c.args.text.now c.in_ok-commands.rest.now c.in_ok-commands.commands.items script c.in_ok-commands.ensures is).0

pub returns-else-is_empty-clause-refused : goal.returns-else-is_empty-clause-refused
returns-else-is_empty-clause-refused c =
    let some = not_empty c.is_empty.result c.in_ok-commands.rest.now c.is_empty.ensures c.if-is_empty.false in
    let bad = bad_after c.args.text.now c.in_ok-commands.rest.now c.in_ok-commands.commands.items c.in_ok-commands.ensures some in
    rw (c.bad_line_after.ensures, c.deref.ensures.value) (inl (record { line = 1 + length c.in_ok-commands.commands.items; fault_is = refl; bad = inr (c.requires, bad) }))

pub returns-else-is_empty-clause-accepts : goal.returns-else-is_empty-clause-accepts
returns-else-is_empty-clause-accepts c = λ script is.
    let some = not_empty c.is_empty.result c.in_ok-commands.rest.now c.is_empty.ensures c.if-is_empty.false in
    let same = same_script c.args.text.now c.in_ok-commands.rest.now c.in_ok-commands.commands.items script c.in_ok-commands.ensures is in
    absurd (omega (arith, rw same.1 at some))
