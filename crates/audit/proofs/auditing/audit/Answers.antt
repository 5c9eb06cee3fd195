use Rattle.std.proofs.Common.{rules}
use Rattle.audit.proofs.Audits.{first_fault}
use Rattle.audit.proofs.auditing.audit.Goals as goal

pub returns-in-Some-clause-refused : goal.returns-in-Some-clause-refused
returns-in-Some-clause-refused c =
    let plan = rw (c.maps-maps.ensures.maps, c.options-options.ensures.options) at c.plan_at-plan.ensures.plan in
    let illegal = rw c.in-Some.is at c.in_ok-place.ensures in
    first_fault c.args.journals.now c.shards.number c.in-Some.place c.plan_at-plan.result c.journal.result (search rules) c.shards.invariant plan c.journal.ensures illegal

pub returns-in-Some-clause-accepts : goal.returns-in-Some-clause-accepts
returns-in-Some-clause-accepts c = λ legal.
    let plan = rw (c.maps-maps.ensures.maps, c.options-options.ensures.options) at c.plan_at-plan.ensures.plan in
    let illegal = rw c.in-Some.is at c.in_ok-place.ensures in
    absurd ((first_fault c.args.journals.now c.shards.number c.in-Some.place c.plan_at-plan.result c.journal.result (search rules) c.shards.invariant plan c.journal.ensures illegal).1 legal)
