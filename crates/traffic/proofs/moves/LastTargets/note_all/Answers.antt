use Rattle.std.proofs.Common.{◌≡◌, ◌∙◌, ◌+◌, ◌++◌, List, ap, arith, length, subst, take}
use Rattle.wire.specs.declared.records.Sent.{Sent}
use Rattle.traffic.specs.Tallies.{AreLast}
use Rattle.std.proofs.Math.Seq.{take-length}
use Rattle.traffic.specs.Moving.{last_after, moves_by, passage_of}
use Rattle.traffic.proofs.MoveLemmas.{next_last, next_places}
use Rattle.traffic.proofs.moves.LastTargets.note_all.Goals as goal

pub frames-preserved : goal.frames-preserved
frames-preserved c =
    let bytes = c.deref.ensures.value in
    let frames = c.args.frames.now in
    let table = c.frames.self in
    let sent = c.sent-item.result in
    let place = c.frames.invariant.0 in (
      omega (arith, place),
      (λ past last. next_last table c.note.new.self past frames c.frames.sent-index sent c.frames-test.true c.sent-item.is (c.frames.invariant.1 past last)
          (λ flow. c.in_ok-is_moved.ensures.last flow ∙ ap (λ b. last_after table (passage_of b) flow) bytes)),
      (λ past last first. next_places table past frames c.frames.sent-index sent c.frames-test.true c.sent-item.is (c.frames.invariant.1 past last)
          c.in_ok-is_moved.is_moved c.frames.place c.frames.places.items c.put_place.new.places.items
          (c.in_ok-is_moved.ensures.moved ∙ ap (λ b. moves_by table (passage_of b)) bytes)
          (place ∙ ap (λ n. n + c.frames.sent-index) first) (c.frames.invariant.2 past last first) c.in_ok-put_place.ensures),
    )

pub returns-clause-last : goal.returns-clause-last
returns-clause-last c = λ past last.
    let frames = c.args.frames.now in
    let all : c.frames.sent-index ≡ length frames = omega (arith, c.frames-test.false, c.frames.auto.sent-index-end) in
    subst (λ (s : List Sent). AreLast (past ++ s) c.frames.self) (ap (λ n. take n frames) all ∙ take-length frames) (c.frames.invariant.1 past last)
