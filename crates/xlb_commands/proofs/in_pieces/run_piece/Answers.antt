use Rattle.std.proofs.Common.{◌≡◌, ◌≢◌, ◌∙◌, ◌++◌, ℕ, List, Some, ap, length, sym, subst}
use Rattle.machine.specs.Running.{program_of}
use Rattle.replay.specs.Pieces.{IsUnderway, ReplayGoesOn}
use Rattle.replay.specs.declared.in_pieces.PieceReplay.{PieceReplay}
use Rattle.semantics.specs.ShardPlan.{recorded}
use Rattle.wire.specs.CaptureFormat.{records_bytes}
use Rattle.wire.specs.declared.records.Sent.{Sent}
use Rattle.xlb_commands.specs.InPieces.{AreTold}
use Rattle.xlb_commands.proofs.EndsInPieces.{aligned_next}
use Rattle.xlb_commands.proofs.in_pieces.run_piece.Goals as goal

pub returns-in_ok-add_lines-in-Ok-clause-run : goal.returns-in_ok-add_lines-in-Ok-clause-run
returns-in_ok-add_lines-in-Ok-clause-run g c = λ went.
    let asked = c.args.asked in
    let files = asked.files.now in
    record {
      captured = c.all_are_captured.ensures;
      sent = c.in-Ok.done.sent.items;
      ends = c.in-Ok.done.ends.items;
      run = λ updates past past_sent past_ends under.
          c.give_back.ensures.underway (program_of asked.verified.now asked.options.shards) asked.script.now
          (recorded asked.recording asked.options) updates (past ++ c.args.piece.now.records.items) (past_sent ++ c.in-Ok.done.sent.items)
          (past_ends ++ c.in-Ok.done.ends.items)
          (subst (λ (it : PieceReplay). IsUnderway (program_of asked.verified.now asked.options.shards) asked.script.now
          (recorded asked.recording asked.options) updates (past ++ c.args.piece.now.records.items) (past_sent ++ c.in-Ok.done.sent.items)
          (past_ends ++ c.in-Ok.done.ends.items) it) (sym c.note.ensures)
          (c.in-Ok.ensures.underway (recorded asked.recording asked.options) updates past past_sent past_ends under));
      added = λ apart bytes begun.
          (c.add_lines.ensures.others files.sent.now _ apart).0
          (subst (λ (sent : List Sent). g.D.Folder.is_begun c.add_frames.new.folder files.sent.now (bytes ++ records_bytes sent))
          c.deref.ensures.value (c.in_ok-add_frames-in-Ok.ensures.added bytes begun));
      told = λ updates past past_sent past_ends under. (
        aligned_next _ _ _ updates past past_sent past_ends _ c.args.piece.now.records.items c.in-Ok.done.sent.items c.in-Ok.done.ends.items _
            under c.requires.ready.goes_on (c.in-Ok.ensures.underway (recorded asked.recording asked.options) updates past past_sent past_ends under)
            c.in-Ok.ensures.goes_on,
        λ apart.
            subst (λ (first : ℕ). AreTold (g.D.Folder.is_begun c.args.folder.now) (g.D.Folder.is_begun c.add_lines.new.folder) files
            asked.script.now first c.args.piece.now.records.items c.in-Ok.done.sent.items c.in-Ok.done.ends.items)
            (c.taken-before.ensures ∙ under.taken)
            (subst (λ (records : List Sent). AreTold (g.D.Folder.is_begun c.args.folder.now) (g.D.Folder.is_begun c.add_lines.new.folder) files
            asked.script.now c.taken-before.result records c.in-Ok.done.sent.items c.in-Ok.done.ends.items) c.deref-in-Ok.ensures.value
            (λ name is bytes begun. c.in_ok-add_lines-in-Ok.ensures.told name is bytes
            ((c.add_frames.ensures.others name bytes (λ same. apart (is ∙ ap (λ (it : List ℕ). Some it) same))).0 begun))),
      );
    }

pub returns-in_ok-add_lines-in-Ok-clause-ready : goal.returns-in_ok-add_lines-in-Ok-clause-ready
returns-in_ok-add_lines-in-Ok-clause-ready g c = λ went.
    let script = c.args.asked.script.now in
    record {
      named = c.requires.ready.named;
      goes_on = c.give_back.ensures.goes_on script
          (subst (λ (it : PieceReplay). ReplayGoesOn script it) (sym c.note.ensures) c.in-Ok.ensures.goes_on);
      maps = c.give_back.ensures.maps ∙ ap (λ (it : PieceReplay). it.turns.all.maps) c.note.ensures ∙ c.in-Ok.ensures.maps
          ∙ c.requires.ready.maps;
    }
