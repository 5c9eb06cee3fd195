use Rattle.std.proofs.Common.{◌≡◌, ◌+◌, length, inr, rules, subst}
use Rattle.wire.specs.CaptureFormat.{RefusesRecord}
use Rattle.folders.specs.PieceReading.{ReaderView}
use Rattle.folders.proofs.shared.ReadingLemmas.{filled_on, end_on, not_filled, refused_on}
use Rattle.folders.proofs.capture_reader.CaptureReader.find.Goals as goal
use Rattle.folders.proofs.capture_reader.CaptureReader.find.Goals.{in-Ok-head, in-Err-head}

pub returns-in-Err-clause-fault : goal.returns-in-Err-clause-fault
returns-in-Err-clause-fault g c = not_filled _ _ _ _ c.in-Err.ensures.plain

pub returns-then-is_empty-clause-read : goal.returns-then-is_empty-clause-read
returns-then-is_empty-clause-read g c =
    filled_on _ _ _ _ _ c.fill.ensures.count c.fill.ensures.cut c.in-Ok.ensures.alike c.in-Ok.ensures.filled

pub returns-then-is_empty-clause-whole : goal.returns-then-is_empty-clause-whole
returns-then-is_empty-clause-whole g c =
    let none : length c.fill.new.self.unread ≡ 0 = search rules in
    end_on _ _ _ _ _ _ (filled_on _ _ _ _ _ c.fill.ensures.count c.fill.ensures.cut c.in-Ok.ensures.alike c.in-Ok.ensures.filled) none
    c.in-Ok.ensures.enough

pub returns-clause-read : goal.returns-clause-read
returns-clause-read g c =
    let read = filled_on _ _ _ _ _ c.fill.ensures.count c.fill.ensures.cut c.in-Ok.ensures.alike c.in-Ok.ensures.filled in
    elim c.match-head.branch [ in-Ok-head w ↦ rw w.result-is read | in-Err-head w ↦ rw w.result-is tt ]

pub returns-clause-fault : goal.returns-clause-fault
returns-clause-fault g c =
    elim c.match-head.branch [
      | in-Ok-head w ↦ rw w.result-is tt
      | in-Err-head w ↦
          rw w.result-is
          (inr (refused_on _ _ _ _ c.fill.new.self _
          (filled_on _ _ _ _ _ c.fill.ensures.count c.fill.ensures.cut c.in-Ok.ensures.alike c.in-Ok.ensures.filled) c.in-Ok.ensures.whole
          (subst (λ (it : ReaderView). RefusesRecord it.unread (it.count + 1) w.in-Err-head.fault) c.self.view_is w.in-Err-head.ensures.fault)))
    ]
