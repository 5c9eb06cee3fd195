use Rattle.std.proofs.Common.{List, ℕ, inl, inr, subst}
use Rattle.std.proofs.lemmas.Result.{err_from_is_err_and}
use Rattle.command_line.specs.Reading.{text_of}
use Rattle.xlb_commands.specs.Replays.{HasBytes}
use Rattle.xlb_commands.proofs.EndMaps.{all_but_four, but_four, replay_behind}
use Rattle.xlb_commands.proofs.Refusals.{failed_since, unfiled_since}
use Rattle.xlb_commands.proofs.replays.replay_with_maps.Goals as goal

pub returns-clause-done : goal.returns-clause-done
returns-clause-done g c =
    replay_behind _ _ _ _ _ _ _ _ _ _ _ _ _ c.in_ok-report.report c.write_text_to.ensures.others c.in_ok-report.ensures.done

pub returns-clause-maps : goal.returns-clause-maps
returns-clause-maps g c =
    subst (λ (lines : List ℕ). HasBytes (g.D.Folder.holds c.write_text_to.new.folder) (text_of c.args.asked.files.now.maps) lines)
    c.text_of_lines.ensures c.in_ok-write_text_to.ensures.written

pub returns-clause-kept : goal.returns-clause-kept
returns-clause-kept g c = all_but_four _ _ _ _ _ _ _ c.replay_once.ensures.kept c.write_text_to.ensures.others

pub returns-in_err-write_text_to-clause-kept : goal.returns-in_err-write_text_to-clause-kept
returns-in_err-write_text_to-clause-kept g c = all_but_four _ _ _ _ _ _ _ c.replay_once.ensures.kept c.write_text_to.ensures.others

pub returns-in_err-report-clause-kept : goal.returns-in_err-report-clause-kept
returns-in_err-report-clause-kept g c = but_four _ _ _ _ _ (text_of c.args.asked.files.now.maps) c.replay_once.ensures.kept

pub returns-in_err-report-clause-refused : goal.returns-in_err-report-clause-refused
returns-in_err-report-clause-refused g c =
    let p = err_from_is_err_and c.from_residual.result c.from_residual.ensures.1 in
    rw (p.1, p.2) (inl c.in_err-report.ensures.refused)

pub returns-in_err-write_text_to-clause-refused : goal.returns-in_err-write_text_to-clause-refused
returns-in_err-write_text_to-clause-refused g c =
    let p = err_from_is_err_and c.from_residual-in_err-write_text_to.result c.from_residual-in_err-write_text_to.ensures.1 in
    rw (p.1, p.2)
    (inr (record {
      report = c.in_ok-report.report;
      made = replay_behind _ _ _ _ _ _ _ _ _ _ _ _ _ c.in_ok-report.report c.write_text_to.ensures.others c.in_ok-report.ensures.done;
      unwritten = unfiled_since _ _ _ _ (failed_since _ _ _ c.in_ok-report.ensures.steady) c.in_err-write_text_to.ensures.refused;
    }))
