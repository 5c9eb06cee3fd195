use Rattle.std.proofs.Common.{ap, ◌∙◌, arith}
use Rattle.shards.proofs.Holding.{empty_of}
use Rattle.shards.proofs.Moves.{joins, sees, parts}
use Rattle.shards.proofs.showing.show.Goals as goal

pub join_seat-requires : goal.join_seat-requires
join_seat-requires c =
    let r = c.requires in
    (r.visitor.table_is, r.seat.table_is, empty_of c.args.seat.me r.alone, (let some = r.lock.0 in omega (arith, some)), joins _ _ _ _ _ r.acts)

pub load-requires : goal.load-requires
load-requires c =
    let r = c.requires in
    let j = c.join_seat.ensures in
    (j.0 ∙ r.visitor.table_is, r.lock.0, sees _ _ _ _ (ap (λ x. x.0.holds) j.2 ∙ ap (λ x. x.0.holds) r.visitor.has) (ap (λ x. x.0.acts) j.2 ∙ r.acts))

pub split_seat-requires : goal.split_seat-requires
split_seat-requires c =
    let r = c.requires in
    let j = c.join_seat.ensures in
    let l = c.load.ensures in
    let v = r.visitor.has in (
      l.0 ∙ j.0 ∙ r.visitor.table_is,
      (let some = r.lock.0 in omega (arith, some)),
      parts _ _ _ (ap (λ x. x.0.seated) l.2.0 ∙ ap (λ x. x.0.seated) j.2 ∙ ap (λ x. x.0.seated) v) (ap (λ x. x.0.holds) l.2.0 ∙ ap (λ x. x.0.holds) j.2 ∙ ap (λ x. x.0.holds) v)
          (ap (λ x. x.0.acts) l.2.0 ∙ ap (λ x. x.0.acts) j.2 ∙ r.acts),
    )
