use Rattle.std.proofs.Common.{◌∙◌, ◌++◌, ℕ, ap, List, subst, sym}
use Rattle.machine.specs.Running.{program_of}
use Rattle.semantics.specs.ShardPlan.{recorded}
use Rattle.wire.specs.declared.records.Sent.{Sent}
use Rattle.xlb_commands.specs.InPieces.{HaveRun}
use Rattle.xlb_commands.specs.Parts.{records_next}
use Rattle.xlb_commands.proofs.PieceLemmas.{read_still, run_after}
use Rattle.xlb_commands.proofs.in_pieces.take_piece.Goals as goal

pub fill_piece-requires-clause-abreast : goal.fill_piece-requires-clause-abreast
fill_piece-requires-clause-abreast g c = (c.args.asked.part, c.requires.abreast)

pub returns-clause-last : goal.returns-clause-last
returns-clause-last g c = λ is.
    let abreast = c.requires.abreast in
    let filled = c.in_ok-step.ensures.last is in (
      filled.0,
      filled.1,
      filled.2,
      subst (λ (them : List Sent). HaveRun (program_of c.args.asked.verified.now c.args.asked.options.shards) c.args.asked.script.now
          (recorded c.args.asked.recording c.args.asked.options) c.args.asked.files.now c.args.going.now.replay c.run_piece.new.going.replay
          (g.D.Folder.is_begun c.args.folder.now) (g.D.Folder.is_begun c.run_piece.new.folder) them)
          (c.capture.ensures ∙ filled.3 c.args.asked.part abreast.frames abreast.past abreast.passed
          ∙ ap (λ (n : ℕ). records_next c.args.asked.part n filled.0) (sym abreast.counted))
          (run_after _ _ _ _ _ _ _ _ _ _ c.fill_piece.ensures.made (c.in_ok-run_piece.ensures.run c.if-not-branch.false)),
    )

pub returns-clause-more : goal.returns-clause-more
returns-clause-more g c = λ is.
    let abreast = c.requires.abreast in
    let filled = c.in_ok-step.ensures.more is in (
      filled.0,
      λ reading opened name records to.
          read_still reading (g.D.Folder.holds opened name) _ _ (records ++ filled.0) _ c.run_piece.ensures.left
          (filled.1 reading opened name records to),
      filled.2,
      subst (λ (them : List Sent). HaveRun (program_of c.args.asked.verified.now c.args.asked.options.shards) c.args.asked.script.now
          (recorded c.args.asked.recording c.args.asked.options) c.args.asked.files.now c.args.going.now.replay c.run_piece.new.going.replay
          (g.D.Folder.is_begun c.args.folder.now) (g.D.Folder.is_begun c.run_piece.new.folder) them)
          (c.capture.ensures ∙ filled.3 c.args.asked.part abreast.frames abreast.past abreast.passed
          ∙ ap (λ (n : ℕ). records_next c.args.asked.part n filled.0) (sym abreast.counted))
          (run_after _ _ _ _ _ _ _ _ _ _ c.fill_piece.ensures.made (c.in_ok-run_piece.ensures.run c.if-not-branch.false)),
    )
