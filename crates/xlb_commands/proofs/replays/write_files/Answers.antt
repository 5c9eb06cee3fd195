use Rattle.std.proofs.Common.{◌≡◌, ◌≢◌, ◌∙◌, ℕ, List, Option, Some, None, refl, subst}
use Rattle.std.proofs.lemmas.Result.{err_from_is_err_and}
use Rattle.journals.specs.JournalsView.{JournalsView}
use Rattle.journals.specs.JournalText.{journals_text}
use Rattle.wire.specs.CaptureFormat.{capture_bytes}
use Rattle.wire.specs.declared.records.Sent.{Sent}
use Rattle.xlb_commands.specs.Files.{FileBytes, AreAllKeptBut}
use Rattle.xlb_commands.specs.Refused.{no_sent_file, no_journals_file, no_report_file}
use Rattle.xlb_commands.specs.Replays.{AreWritten, HasBytes}
use Rattle.xlb_commands.proofs.Refusals.{failed_since, unfiled_since}
use Rattle.xlb_commands.proofs.replays.write_files.Goals as goal

-- the journals stay where the report is written to another file
journals_stay : (before after : FileBytes) (name report : Option (List ℕ)) (bytes : List ℕ) (journals : JournalsView) → AreAllKeptBut before after report
    → ((file : List ℕ) → name ≡ Some file → bytes ≡ journals_text journals) → HasBytes before name bytes → report ≢ name → AreWritten after name journals
journals_stay before after None report bytes journals others same has apart = has
journals_stay before after (Some file) report bytes journals others same has apart =
    subst (λ (it : List ℕ). after file it) (same file refl) ((others file bytes apart).0 has)

pub returns-in_err-write_frames-clause-refused : goal.returns-in_err-write_frames-clause-refused
returns-in_err-write_frames-clause-refused g c =
    let p = err_from_is_err_and c.from_residual.result c.from_residual.ensures.1 in
    rw (p.1, p.2) (no_sent_file c.write_frames.ensures.others c.in_err-write_frames.ensures.refused)

pub returns-in_err-write_journals_to-clause-refused : goal.returns-in_err-write_journals_to-clause-refused
returns-in_err-write_journals_to-clause-refused g c =
    let p = err_from_is_err_and c.from_residual-in_err-write_journals_to.result c.from_residual-in_err-write_journals_to.ensures.1 in
    let sent = subst (λ (frames : List Sent). g.D.Folder.holds c.write_frames.new.folder c.args.files.now.sent.now (capture_bytes frames))
    c.deref.ensures.value c.in_ok-write_frames.ensures.written in
    rw (p.1, p.2)
    (no_journals_file (λ other. (c.write_journals_to.ensures.others _ _ other).0 sent)
    (unfiled_since _ _ _ _ (failed_since _ _ _ c.in_ok-write_frames.ensures.steady) c.in_err-write_journals_to.ensures.refused))

pub returns-in_err-write_text_to-clause-refused : goal.returns-in_err-write_text_to-clause-refused
returns-in_err-write_text_to-clause-refused g c =
    let p = err_from_is_err_and c.from_residual-in_err-write_text_to.result c.from_residual-in_err-write_text_to.ensures.1 in
    let sent = subst (λ (frames : List Sent). g.D.Folder.holds c.write_frames.new.folder c.args.files.now.sent.now (capture_bytes frames))
    c.deref.ensures.value c.in_ok-write_frames.ensures.written in
    rw (p.1, p.2)
    (no_report_file
    (λ other third. (c.write_text_to.ensures.others _ _ third).0 ((c.write_journals_to.ensures.others _ _ other).0 sent))
    (journals_stay _ _ _ _ _ c.args.outcome.now.journals c.write_text_to.ensures.others c.requires.journals c.in_ok-write_journals_to.ensures.written)
    (unfiled_since _ _ _ _
    (λ failed. failed_since _ _ _ c.in_ok-write_frames.ensures.steady (failed_since _ _ _ c.in_ok-write_journals_to.ensures.steady failed))
    c.in_err-write_text_to.ensures.refused))

pub returns-clause-sent : goal.returns-clause-sent
returns-clause-sent g c =
    let sent = subst (λ (frames : List Sent). g.D.Folder.holds c.write_frames.new.folder c.args.files.now.sent.now (capture_bytes frames))
    c.deref.ensures.value c.in_ok-write_frames.ensures.written in
    λ other third. (c.write_text_to.ensures.others _ _ third).0 ((c.write_journals_to.ensures.others _ _ other).0 sent)

pub returns-clause-journals : goal.returns-clause-journals
returns-clause-journals g c =
    journals_stay _ _ _ _ _ c.args.outcome.now.journals c.write_text_to.ensures.others c.requires.journals c.in_ok-write_journals_to.ensures.written

pub returns-clause-steady : goal.returns-clause-steady
returns-clause-steady g c =
    c.in_ok-write_text_to.ensures.steady ∙ (c.in_ok-write_journals_to.ensures.steady ∙ c.in_ok-write_frames.ensures.steady)
