use Rattle.std.proofs.Common.{◌≡◌, ◌∙◌, ◌++◌, List, [], refl, subst, sym}
use Rattle.machine.specs.Running.{program_of}
use Rattle.semantics.specs.ShardPlan.{recorded}
use Rattle.wire.specs.declared.records.Sent.{Sent}
use Rattle.xlb_commands.specs.InPieces.{HaveRun}
use Rattle.xlb_commands.specs.Parts.{command_frames, records_in}
use Rattle.xlb_commands.specs.declared.next_records.PieceStep.TheVariants.{More, Last, Changed}
use Rattle.xlb_commands.proofs.Refusals.{failed_since, kept_twice, unserved_since}
use Rattle.xlb_commands.proofs.PieceLemmas.{capture_is, none_run, run_on}
use Rattle.xlb_commands.proofs.TakingLemmas.{none_taken, taken_both}
use Rattle.xlb_commands.proofs.in_pieces.go_through.Goals as goal

pub pieces-init : goal.pieces-init
pieces-init g c = record {
  records = [];
  read = rw c.in-Some.is at c.in_ok-reader.ensures.opened;
  passed = c.in_ok-taking.ensures.passed;
  have_run = subst (λ (them : List Sent). HaveRun (program_of c.args.asked.verified.now c.args.asked.options.shards) c.args.asked.script.now
      (recorded c.args.asked.recording c.args.asked.options) c.args.asked.files.now c.args.going.now.replay c.args.going.now.replay
      (g.D.Folder.is_begun c.args.folder.now) (g.D.Folder.is_begun c.open_reader.new.folder) them) (sym (none_taken c.args.asked.part))
      (none_run _ _ _ _ _ _ _ c.open_reader.ensures.made);
  room = rw c.in-Some.is at c.in_ok-reader.ensures.room;
  goes_on = c.requires.ready.goes_on;
  maps = c.requires.ready.maps;
  kept = c.open_reader.ensures.kept;
  steady = c.in_ok-reader.ensures.steady;
}

more_comes : More ≡ Changed → ⊥
more_comes e = cc

pub pieces-preserved : goal.pieces-preserved
pieces-preserved g c =
    let so_far = c.pieces.invariant in
    let more = (rw c.in-Ok-More.field-0-is at c.in-Ok-More.ensures.more) refl in
    record {
      records = so_far.records ++ more.0;
      read = more.1 c.args.asked.reading c.args.folder.now c.args.asked.files.now.capture.now so_far.records so_far.read;
      passed = more.2 c.args.asked.part (command_frames c.args.whole.script.now) so_far.records so_far.passed;
      have_run = subst (λ (them : List Sent). HaveRun (program_of c.args.asked.verified.now c.args.asked.options.shards) c.args.asked.script.now
          (recorded c.args.asked.recording c.args.asked.options) c.args.asked.files.now c.args.going.now.replay c.take_piece.new.going.replay
          (g.D.Folder.is_begun c.args.folder.now) (g.D.Folder.is_begun c.take_piece.new.folder) them)
          (sym (taken_both c.args.asked.part so_far.records more.0 _ so_far.read.counted))
          (run_on _ _ _ _ _ _ _ _ _ _ (records_in c.args.asked.part so_far.records) _ so_far.have_run more.3);
      room = (rw c.in-Ok-More.field-0-is at c.in-Ok-More.ensures.room) more_comes;
      goes_on = ((rw c.in-Ok-More.field-0-is at c.in-Ok-More.ensures.ready) more_comes).goes_on;
      maps = ((rw c.in-Ok-More.field-0-is at c.in-Ok-More.ensures.ready) more_comes).maps;
      kept = kept_twice _ _ _ so_far.kept c.take_piece.ensures.kept;
      steady = c.in-Ok-More.ensures.steady ∙ so_far.steady;
    }

pub take_piece-requires-clause-ready : goal.take_piece-requires-clause-ready
take_piece-requires-clause-ready g c = record {
  named = c.requires.ready.named;
  goes_on = c.pieces.invariant.goes_on;
  maps = c.pieces.invariant.maps;
}

pub take_piece-requires-clause-abreast : goal.take_piece-requires-clause-abreast
take_piece-requires-clause-abreast g c =
    let so_far = c.pieces.invariant in
    record {
      frames = command_frames c.args.whole.script.now;
      past = so_far.records;
      passed = so_far.passed;
      counted = so_far.read.counted;
    }

pub has_numbers-requires : goal.has_numbers-requires
has_numbers-requires g c =
    let so_far = c.pieces.invariant in
    let last = (rw c.in-Ok-Last.field-0-is at c.in-Ok-Last.ensures.last) refl in
    record {
      part = c.args.asked.part;
      frames = command_frames c.args.whole.script.now;
      past = so_far.records ++ last.0;
      passed = last.2 c.args.asked.part (command_frames c.args.whole.script.now) so_far.records so_far.passed;
    }

pub returns-then-branch-clause-gone : goal.returns-then-branch-clause-gone
returns-then-branch-clause-gone g c =
    let so_far = c.pieces.invariant in
    let last = (rw c.in-Ok-Last.field-0-is at c.in-Ok-Last.ensures.last) refl in
    record {
      numbered = record {
        captured = so_far.records ++ last.0;
        capture = capture_is (g.D.Folder.holds c.args.folder.now) c.args.asked.reading c.args.asked.files.now.capture.now (so_far.records ++ last.0) _
            (last.1 c.args.asked.reading c.args.folder.now c.args.asked.files.now.capture.now so_far.records so_far.read);
        numbers_are = (c.in_ok-has_numbers-in-Ok-Last.ensures.same c.args.asked.part (command_frames c.args.whole.script.now) (so_far.records ++ last.0)
            (last.2 c.args.asked.part (command_frames c.args.whole.script.now) so_far.records so_far.passed)).0 c.if-branch.true;
      };
      have_run = subst (λ (them : List Sent). HaveRun (program_of c.args.asked.verified.now c.args.asked.options.shards) c.args.asked.script.now
          (recorded c.args.asked.recording c.args.asked.options) c.args.asked.files.now c.args.going.now.replay c.take_piece.new.going.replay
          (g.D.Folder.is_begun c.args.folder.now) (g.D.Folder.is_begun c.take_piece.new.folder) them)
          (sym (taken_both c.args.asked.part so_far.records last.0 _ so_far.read.counted))
          (run_on _ _ _ _ _ _ _ _ _ _ (records_in c.args.asked.part so_far.records) _ so_far.have_run last.3);
    }

last_comes : Last ≡ Changed → ⊥
last_comes e = cc

pub returns-then-branch-clause-goes_on : goal.returns-then-branch-clause-goes_on
returns-then-branch-clause-goes_on g c = ((rw c.in-Ok-Last.field-0-is at c.in-Ok-Last.ensures.ready) last_comes).goes_on

pub returns-in-Err-clause-refused : goal.returns-in-Err-clause-refused
returns-in-Err-clause-refused g c = unserved_since _ _ _ (failed_since _ _ _ c.pieces.invariant.steady) c.in-Err.ensures.refused
