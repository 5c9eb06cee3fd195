use Rattle.std.proofs.Common.{◌≡◌, ◌∙◌, ◌++◌, ℕ, List, ap, ap₂, append_assoc, subst, sym, take-append-drop}
use Rattle.wire.specs.CaptureFormat.{records_bytes}
use Rattle.wire.specs.declared.records.Sent.{Sent}
use Rattle.xlb_commands.specs.InPieces.{AreAdded}
use Rattle.xlb_commands.proofs.RecordBytes.{added_both, records_bytes-append}
use Rattle.xlb_commands.proofs.Refusals.{kept_twice}
use Rattle.xlb_commands.proofs.made_in_pieces.add_all_frames.Goals as goal

pub pieces-preserved : goal.pieces-preserved
pieces-preserved g c =
    let so_far = c.pieces.invariant in
    let first : List Sent = c.split_at.result.0.now in
    let later : List Sent = c.split_at.result.1.now in
    let both : first ++ later ≡ c.pieces.rest.now =
    ap₂ (λ (xs ys : List Sent). xs ++ ys) c.split_at.ensures.front c.split_at.ensures.back ∙ take-append-drop c.min.result c.pieces.rest.now in
    record {
      frames = so_far.frames ++ first;
      all = append_assoc so_far.frames first later ∙ (ap (λ (xs : List Sent). so_far.frames ++ xs) both ∙ so_far.all);
      added = subst (λ (more : List ℕ). AreAdded (g.D.Folder.is_begun c.args.folder.now) (g.D.Folder.is_begun c.add_frames.new.folder) c.args.name.now more)
          (sym (records_bytes-append so_far.frames first))
          (added_both (g.D.Folder.is_begun c.args.folder.now) (g.D.Folder.is_begun c.pieces.folder) (g.D.Folder.is_begun c.add_frames.new.folder)
          c.args.name.now (records_bytes so_far.frames) (records_bytes first) so_far.added c.in_default.ensures.added);
      kept = kept_twice _ _ _ so_far.kept c.add_frames.ensures.kept;
      steady = c.in_default.ensures.steady ∙ so_far.steady;
    }
