use Rattle.std.proofs.Common.{◌≡◌, ◌++◌, ◌∷◌, [], List, append-nil, arith, rules, subst, sym, true}
use Rattle.folders.specs.PieceReading.{IsReadWhole}
use Rattle.folders.proofs.shared.ReadingLemmas.{sent_on}
use Rattle.wire.specs.declared.records.Sent.{Sent}
use Rattle.xlb_commands.specs.Parts.{command_frames}
use Rattle.xlb_commands.proofs.PieceLemmas.{capture_is}
use Rattle.xlb_commands.proofs.Refusals.{kept_twice}
use Rattle.xlb_commands.proofs.in_pieces.pass_records.Goals as goal

pub returns-in-Ok-None-clause-passed : goal.returns-in-Ok-None-clause-passed
returns-in-Ok-None-clause-passed g c =
    let so_far = c.records.invariant in
    let end = rw c.in-Ok-None.field-0-is at c.in-Ok-None.ensures.whole in
    let whole = subst (λ (them : List Sent). IsReadWhole c.args.asked.reading (g.D.Folder.holds c.args.folder.now c.args.asked.files.now.capture.now) them c.find.new.self.cut)
    (append-nil so_far.records) (end c.args.asked.reading c.args.folder.now c.args.asked.files.now.capture.now so_far.records so_far.read) in (
      so_far.records,
      so_far.passed,
      λ to_the_end. capture_is (g.D.Folder.holds c.args.folder.now) c.args.asked.reading c.args.asked.files.now.capture.now so_far.records _ whole,
    )

pub go_past-requires : goal.go_past-requires
go_past-requires g c =
    let so_far = c.records.invariant in
    let room = so_far.room in
    let counted = so_far.read.counted in
    record {
      behind = record {
        part = c.args.asked.part;
        frames = command_frames c.args.script.now;
        past = so_far.records;
        passed = so_far.passed;
      };
      few = omega (arith, room, counted);
    }

pub frame-requires : goal.frame-requires
frame-requires g c = rw c.in-Ok-Some.field-0-is at c.in-Ok-Some.ensures.front

pub records-preserved : goal.records-preserved
records-preserved g c =
    let so_far = c.records.invariant in
    let found = c.in-Ok-Some.ensures in
    let front = rw c.in-Ok-Some.field-0-is at found.front in
    let found_count = found.count in
    let count = c.pass.ensures.count in
    let room = so_far.room in
    let less = found.fewer in
    let fewer = c.pass.ensures.fewer in
    let raw = c.pass.ensures.raw in
    record {
      records = so_far.records ++ front.sent ∷ [];
      read = sent_on _ _ _ _ _ _ front.sent found.read front.begins (c.pass.ensures.behind front.sent front.begins)
          c.args.asked.reading c.args.folder.now c.args.asked.files.now.capture.now so_far.records so_far.read;
      passed = c.in_ok-_taken-in-Ok-Some.ensures.past front.sent (sym (c.frame.ensures front.sent front.begins)) c.args.asked.part
          (command_frames c.args.script.now) so_far.records so_far.passed;
      room = omega (arith, room, found_count, count, less, fewer, raw);
      kept = kept_twice _ _ _ so_far.kept c.find.ensures.kept;
      made = kept_twice _ _ _ so_far.made c.find.ensures.begun_kept;
      steady = search rules;
    }
