use Rattle.std.proofs.Common.{◌∙◌, Err, ap, subst}
use Rattle.conntrack.specs.SteeringRule.{IsSteered}
use Rattle.conntrack.proofs.SendLemmas.{sent_can_go, never_refused}
use Rattle.conntrack.proofs.steering.steer.Goals as goal

pub unreachable-requires : goal.unreachable-requires
unreachable-requires c =
    sent_can_go c.args.frame.now.bytes c.args.records.now c.in-Tx-Some.number-0 c.in-Tx-Some.address c.in-Tx-Some.updates_flows-0
    (subst (λ choice. IsSteered c.args.frame.now.bytes c.args.records.now choice) c.in-Tx-Some.is-0 c.choose-choice.ensures)
    (λ can. never_refused c.args.frame.now.bytes c.args.frame.now.headroom c.in-Err.field-0 can c.requires.room
    (λ same. c.encapsulate.ensures.not_plain_ipv4.0 (c.in-Err.is ∙ ap Err same))
    (λ same. (c.encapsulate.ensures.ttl_zero.0 (c.in-Err.is ∙ ap Err same)).1)
    (λ same. (c.encapsulate.ensures.too_long.0 (c.in-Err.is ∙ ap Err same)).2)
    (λ same. (c.encapsulate.ensures.no_room.0 (c.in-Err.is ∙ ap Err same)).3))
