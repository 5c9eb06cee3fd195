use Rattle.std.proofs.Common.{◌≡◌, ap, sym, ◌∙◌, List, length}
use Rattle.std.proofs.lemmas.List.{length-reverse}
use Rattle.atomic_table.specs.Table.{Me}
use Rattle.atomic_table.specs.declared.shared.Seat.{Seat}
use Rattle.semantics.specs.declared.call.Entry.{Entry}
use Rattle.shards.specs.GuardedView.{GuardedView}
use Rattle.shards.specs.declared.rule.Known.{Known}
use Rattle.shards.proofs.Holding.{seat_of_visitor, visitor_has}
use Rattle.shards.proofs.Moves.{ends_all, left, taken_out}
use Rattle.shards.proofs.showing.close.Goals as goal

pub count-entries-requires-clause-seat : goal.count-entries-requires-clause-seat
count-entries-requires-clause-seat c = seat_of_visitor _ _ _ c.args.visitor_seat c.requires.visitor

pub count-entries-requires-clause-taken : goal.count-entries-requires-clause-taken
count-entries-requires-clause-taken c = visitor_has _ _ _ c.args.visitor_seat c.requires.visitor

pub swap-requires : goal.swap-requires
swap-requires c =
    let r = c.requires in
    let v = r.visitor in
    let still = c.count-entries.ensures.same in
    let has = ap (λ (s : Seat GuardedView Known). s.me) still ∙ v.has in
    let many : c.count-entries.result ≡ length v.shard.journal = c.count-entries.ensures.count ∙ ap (λ (l : List Entry). length l) (sym v.written) ∙ length-reverse v.shard.journal in (
      ap (λ (s : Seat GuardedView Known). s.table_id) still ∙ v.table_is,
      r.lock.0,
      rw many (ends_all _ _ _ _ v.shard r.lock.1 (ap (λ (m : Me GuardedView Known). m.1) has) (ap (λ (m : Me GuardedView Known). m.0.seated) has) (ap (λ (m : Me GuardedView Known). m.0.holds) has)
          (v.planned ∙ sym (ap (λ (m : Me GuardedView Known). m.0.key) has)) (v.written ∙ sym (ap (λ (m : Me GuardedView Known). m.0.all) has))),
    )

pub returns-clause-key : goal.returns-clause-key
returns-clause-key c =
    let has = ap (λ (s : Seat GuardedView Known). s.me) c.count-entries.ensures.same ∙ c.requires.visitor.has in
    let ended = c.swap.ensures.2 in
    let is = left _ _ _ _ _ (ap (λ (m : Me GuardedView Known). m.0.seated) ended ∙ ap (λ (m : Me GuardedView Known). m.0.seated) has) (ap (λ (m : Me GuardedView Known). m.0.ended) ended) c.close_with-closed.ensures.values.2 in
    (taken_out _ _ c.take-guarded.result is c.take-guarded.ensures.value).0 ∙ ap (λ (m : Me GuardedView Known). m.0.key) ended ∙ ap (λ (m : Me GuardedView Known). m.0.key) has

pub returns-clause-written : goal.returns-clause-written
returns-clause-written c =
    let has = ap (λ (s : Seat GuardedView Known). s.me) c.count-entries.ensures.same ∙ c.requires.visitor.has in
    let ended = c.swap.ensures.2 in
    let is = left _ _ _ _ _ (ap (λ (m : Me GuardedView Known). m.0.seated) ended ∙ ap (λ (m : Me GuardedView Known). m.0.seated) has) (ap (λ (m : Me GuardedView Known). m.0.ended) ended) c.close_with-closed.ensures.values.2 in
    (taken_out _ _ c.take-guarded.result is c.take-guarded.ensures.value).1 ∙ ap (λ (m : Me GuardedView Known). m.0.all) ended ∙ ap (λ (m : Me GuardedView Known). m.0.all) has
