use Rattle.std.proofs.Common.{List, append-nil, arith, rules, subst, sym}
use Rattle.folders.specs.PieceReading.{IsReadTo, IsReadWhole}
use Rattle.folders.proofs.shared.ReadingLemmas.{sent_on}
use Rattle.wire.specs.declared.records.Sent.{Sent}
use Rattle.xlb_commands.specs.Replays.{IsCaptureOf}
use Rattle.xlb_commands.proofs.PieceLemmas.{capture_is}
use Rattle.xlb_commands.proofs.Refusals.{kept_twice}
use Rattle.xlb_commands.proofs.captures.kept_capture.Goals as goal

pub returns-in-Ok-None-clause-capture : goal.returns-in-Ok-None-clause-capture
returns-in-Ok-None-clause-capture g c =
    let end = rw c.in-Ok-None.field-0-is at c.in-Ok-None.ensures.whole in
    let whole = subst (λ (them : List Sent). IsReadWhole c.args.reading (g.D.Folder.holds c.args.folder.now c.args.name.now) them c.find.new.self.cut)
    (append-nil c.records.buffer) (end c.args.reading c.args.folder.now c.args.name.now c.records.buffer c.records.invariant.read) in
    subst (λ (them : List Sent). IsCaptureOf (g.D.Folder.holds c.args.folder.now) c.args.reading c.args.name.now them) (sym c.into_capture.ensures)
    (capture_is (g.D.Folder.holds c.args.folder.now) c.args.reading c.args.name.now c.records.buffer _ whole)

pub keep_record-requires-clause-front : goal.keep_record-requires-clause-front
keep_record-requires-clause-front g c = rw c.in-Ok-Some.field-0-is at c.in-Ok-Some.ensures.front

pub keep_record-requires-clause-room : goal.keep_record-requires-clause-room
keep_record-requires-clause-room g c =
    let room = c.records.invariant.room in
    let count = c.in-Ok-Some.ensures.count in
    omega (arith, room, count)

pub records-preserved : goal.records-preserved
records-preserved g c =
    let so_far = c.records.invariant in
    let found = c.in-Ok-Some.ensures in
    let more = c.in_ok-keep_record-in-Ok-Some.ensures in
    let one = more.record in
    let found_count = found.count in
    let count = more.count in
    let room = so_far.room in
    let less = found.fewer in
    let fewer = more.fewer in
    let raw = more.raw in
    record {
      read = subst (λ (them : List Sent). IsReadTo c.args.reading (g.D.Folder.holds c.args.folder.now c.args.name.now) (g.D.Folder.is_left c.find.new.folder) them
          c.keep_record.new.reader) (sym one.3)
          (sent_on _ _ _ _ _ _ one.0 found.read one.1 one.2 c.args.reading c.args.folder.now c.args.name.now c.records.buffer so_far.read);
      room = omega (arith, room, found_count, count, less, fewer, raw);
      kept = kept_twice _ _ _ so_far.kept c.find.ensures.kept;
      steady = search rules;
    }
