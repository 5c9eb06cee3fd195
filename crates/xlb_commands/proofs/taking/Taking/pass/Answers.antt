use Rattle.std.proofs.lemmas.Result.{IfOk-weaker}
use Rattle.xlb_commands.proofs.TakingLemmas.{one_taken}
use Rattle.xlb_commands.proofs.taking.Taking.pass.Goals as goal

pub returns-in-Of-clause-taken : goal.returns-in-Of-clause-taken
returns-in-Of-clause-taken c = IfOk-weaker c.pass.result _ _
    (λ taken has sent same part frames past passed.
    one_taken part frames _ past c.in-Of.numbering taken sent (has sent same) (rw c.in-Of.is at passed))
    c.pass.ensures.has
