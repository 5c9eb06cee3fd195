use Rattle.std.proofs.Common.{ℕ, List, sym, subst}
use Rattle.faults.specs.Refusals.{IsRefusalText}
use Rattle.xlb_commands.specs.FaultLines.{fault_line}
use Rattle.xlb_commands.specs.Refused.{in_full, lacks_text, printed_notes}
use Rattle.xlb_commands.proofs.serving.refuse.Goals as goal

pub returns-in-Ok-clause-printed : goal.returns-in-Ok-clause-printed
returns-in-Ok-clause-printed g c = λ same.
    let line = fault_line c.args.refusal.now.fault in
    let notes = printed_notes c.args.refusal.now.notes in
    in_full c.deref.result.now (subst (λ (text : List ℕ). IsRefusalText line notes text) (sym c.deref.ensures.value) c.in-Ok.ensures) (c.print.ensures same)

pub returns-in-Err-clause-printed : goal.returns-in-Err-clause-printed
returns-in-Err-clause-printed g c = λ same. lacks_text (c.print-in-Err.ensures same)
