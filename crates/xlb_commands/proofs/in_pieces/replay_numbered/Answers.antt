use Rattle.std.proofs.Common.{◌≡◌, ◌++◌, ◌⊎◌, ◌∙◌, inl, inr, ℕ, Bool, true, List, Option, None, Some, arith, refl, subst, sym}
use Rattle.std.proofs.lemmas.Result.{err_from_is_err_and, IfErr-weaker}
use Rattle.wire.specs.CaptureFormat.{capture_bytes, header_bytes, records_bytes}
use Rattle.wire.specs.declared.records.Sent.{Sent}
use Rattle.command_line.specs.Reading.{text_of}
use Rattle.semantics.specs.ShardPlan.{recorded}
use Rattle.xlb_commands.specs.RecordReports.{IsReportFile, form_of, report_text, runs_shipped}
use Rattle.xlb_commands.specs.InPieces.{AreTold, HasNumbers}
use Rattle.traffic.specs.RecordLines.{report_head}
use Rattle.actors.specs.declared.outcome.Outcome.{Outcome}
use Rattle.actors.specs.declared.outcome.ToldEnd.{ToldEnd}
use Rattle.command_line.specs.declared.commands.ReplayFiles.{ReplayFiles}
use Rattle.xlb_commands.specs.declared.fault.Fault.{Fault}
use Rattle.xlb_commands.specs.declared.fault.Fault.TheVariants as faults
use Rattle.xlb_commands.specs.declared.replays.Asked.{Asked}
use Rattle.xlb_commands.specs.declared.report.Report.{Report}
use Rattle.control.specs.declared.command.Command.{Command}
use Rattle.actors.specs.declared.fault.ReplayFault.{ReplayFault}
use Rattle.actors.specs.declared.fault.ReplayFault.TheVariants as replays
use Rattle.xlb_commands.specs.AskedReplays.{HasBadOptions, IsAnsweredBy, IsAnsweredOf, IsDeniedBy, IsDeniedOf, IsMadeInTurn}
use Rattle.xlb_commands.specs.Parts.{records_in, script_in}
use Rattle.xlb_commands.specs.Files.{FileBytes, AreKept}
use Rattle.xlb_commands.specs.Refused.{HasFailed, IsGivenUp, IsUnmade, IsUnserved, LacksRoom}
use Rattle.xlb_commands.specs.Refused.{given_up, lacks_memory, no_capture_bytes, no_replay_capture, not_reported, not_written_down, unmade}
use Rattle.xlb_commands.specs.Replays.{IsCaptureOf, IsMade, IsReportOf, image_of, program_of_replay}
use Rattle.xlb_commands.proofs.Earlier.{all_but_kept, capture_before, unfiled_before}
use Rattle.xlb_commands.proofs.Outcomes.{served_options}
use Rattle.xlb_commands.proofs.Refusals.{failed_since, kept_still, kept_twice, unserved_since, written_down}
use Rattle.xlb_commands.specs.Taking.{script_at}
use Rattle.xlb_commands.proofs.TakingLemmas.{script_is}
use Rattle.xlb_commands.proofs.in_pieces.replay_numbered.Goals as goal

-- what was made of the part is what was made with the script for the whole capture
answer_by : (before after : FileBytes) (asked : Asked) (script : List Command) (captured : List Sent) (report : Report)
    → IsCaptureOf before asked.reading asked.files.now.capture.now captured → script_in asked.part captured script ≡ asked.script.now
    → IsAnsweredOf after asked (records_in asked.part captured) report → IsAnsweredBy before after asked script report
answer_by before after asked script captured report capture same is = record {
  captured = captured;
  capture = capture;
  of_part = subst (λ (them : List Command). IsReportOf after asked.files.now asked.verified.now them asked.options asked.recording asked.ring
      asked.exact asked.updates.now (records_in asked.part captured) report) (sym same) is;
}

-- the same of what was not made
unmade_by : (before after : FileBytes) (failed : Type 0) (asked : Asked) (script : List Command) (captured : List Sent) (fault : Fault)
    → IsCaptureOf before asked.reading asked.files.now.capture.now captured → script_in asked.part captured script ≡ asked.script.now
    → IsDeniedOf before after failed asked (records_in asked.part captured) fault → IsDeniedBy before after failed asked script fault
unmade_by before after failed asked script captured fault capture same is =
    unmade captured capture
    (subst (λ (them : List Command). IsUnmade before after failed asked.files.now (image_of asked.verified.now) them asked.options asked.recording
    asked.exact asked.updates.now (records_in asked.part captured) fault) (sym same) is)

-- the report that is made in pieces is that of all records
report_of : (first made after : FileBytes) (files : ReplayFiles) (name : Option (List ℕ)) → text_of files.report ≡ name
    → (script : List Command) (records sent : List Sent) (ends : List ToldEnd) (whole : Outcome) → whole.sent.items ≡ sent → whole.ends.items ≡ ends
    → ((file : List ℕ) → text_of files.report ≡ Some file → first file (report_head (form_of file)))
    → AreTold first made files script 0 records sent ends
    → ((file bytes : List ℕ) → text_of files.report ≡ Some file → made file bytes → after file bytes)
    → IsReportFile after name (runs_shipped files) script records whole
report_of first made after files None is script records sent ends whole sent_are ends_are begun told written = tt
report_of first made after files (Some file) is script records sent ends whole sent_are ends_are begun told written =
    subst (λ (them : List Sent). after file (report_text (form_of file) (runs_shipped files) script records whole.ends.items them)) (sym sent_are)
    (subst (λ (them : List ToldEnd). after file (report_text (form_of file) (runs_shipped files) script records them sent)) (sym ends_are)
    (written file _ is (told file is (report_head (form_of file)) (begun file is))))

-- a failure between two calls that had none
failed_within : (first second third fourth : ℕ) → second ≡ first → fourth ≡ third → HasFailed second third → HasFailed first fourth
failed_within first second third fourth same after failed = omega arith

pub returns-in_err-write_pieces-in-Ok-Some-clause-kept : goal.returns-in_err-write_pieces-in-Ok-Some-clause-kept
returns-in_err-write_pieces-in-Ok-Some-clause-kept g c =
    all_but_kept _ _ _ _ _ _ (kept_twice _ _ _ c.begin_files.ensures.kept c.left_by_pieces.ensures.kept) c.write_pieces.ensures.others

pub returns-in-Ok-Some-clause-kept : goal.returns-in-Ok-Some-clause-kept
returns-in-Ok-Some-clause-kept g c =
    all_but_kept _ _ _ _ _ _ (kept_twice _ _ _ c.begin_files.ensures.kept c.left_by_pieces.ensures.kept) c.write_pieces.ensures.others

-- memory was refused, or a device failed, before a file was changed
unserved_by : (before after : FileBytes) (failed : Type 0) (asked : Asked) (script : List Command) (fault : Fault) → AreKept before after
    → IsUnserved failed fault → IsDeniedBy before after failed asked script fault
unserved_by before after failed asked script fault kept unserved = no_replay_capture kept (no_capture_bytes unserved)

-- the replay was given up, of a capture in which the commands have these numbers
given_up_by : (before after : FileBytes) (failed : Type 0) (asked : Asked) (numbers : List ℕ) (script : List Command) (fault : Fault) (why : ReplayFault)
    → asked.script.now ≡ script_at asked.part numbers script → asked.exact ≡ true → AreKept before after
    → HasNumbers before asked.reading asked.files.now.capture.now asked.part script numbers
    → IsGivenUp true asked.verified.now.maps asked.updates.now asked.script.now asked.options asked.recording why → fault ≡ faults.Replay why
    → IsDeniedBy before after failed asked script fault
given_up_by before after failed asked numbers script fault why same exact kept are given is =
    unmade_by before after failed asked script are.captured fault are.capture
    (script_is asked.part are.captured numbers script are.numbers_are ∙ sym same)
    (given_up why kept
    (subst (λ (b : Bool). IsGivenUp b asked.verified.now.maps asked.updates.now asked.script.now asked.options asked.recording why) (sym exact) given)
    is)

pub returns-in-Err-clause-refused : goal.returns-in-Err-clause-refused
returns-in-Err-clause-refused g c =
    let asked = c.args.asked in
    let why = c.in-Err.ensures.refused in
    IfErr-weaker c.refused_where_numbered.result _ _
    (λ told is. elim is [
      | inl unserved ↦ unserved_by _ _ _ asked c.args.whole.script.now _ c.refused_where_numbered.ensures.kept unserved
      | inr both ↦ given_up_by _ _ _ asked c.args.whole.numbers.now c.args.whole.script.now _ why.0 c.requires.script c.requires.in_pieces.0
          c.refused_where_numbered.ensures.kept both.1 why.2 (both.0 ∙ why.1)
    ])
    c.refused_where_numbered.ensures.refused

pub returns-in_err-write_pieces-in-Ok-Some-clause-refused : goal.returns-in_err-write_pieces-in-Ok-Some-clause-refused
returns-in_err-write_pieces-in-Ok-Some-clause-refused g c =
    let asked = c.args.asked in
    let left = rw c.in-Ok-Some.field-0-is at c.in-Ok-Some.ensures.left in
    let made_of = left.made_of in
    let before = c.begin_files.ensures.kept in
    let begun = left.added c.requires.in_pieces.1 header_bytes (c.in_ok-begin_files.ensures.sent c.if-not-branch.false) in
    let p = err_from_is_err_and c.from_residual-in_err-write_pieces-in-Ok-Some.result c.from_residual-in_err-write_pieces-in-Ok-Some.ensures.1 in
    rw (p.1, p.2)
    (unmade_by _ _ _ asked c.args.whole.script.now left.captured _
    (capture_before _ _ before _ _ left.captured left.capture)
    left.script_is
    (not_written_down made_of.whole
    (subst (λ (exact : Bool). IsMade exact (program_of_replay (image_of asked.verified.now) asked.options) asked.updates.now asked.script.now
    (recorded asked.recording asked.options) (records_in asked.part left.captured) made_of.whole) (sym c.requires.in_pieces.0) made_of.made)
    (unfiled_before _ _ _ _ _ _ _ _ _ (kept_twice _ _ _ before c.left_by_pieces.ensures.kept)
    (λ failed. failed_since _ _ _ c.in_ok-begin_files.ensures.steady (failed_since _ _ _ c.in-Ok-Some.ensures.steady failed))
    (c.in_err-write_pieces-in-Ok-Some.ensures.refused (capture_bytes made_of.whole.sent.items) made_of.whole.journals
    (subst (λ (sent : List Sent). g.D.Folder.is_begun c.left_by_pieces.new.folder asked.files.now.sent.now (header_bytes ++ records_bytes sent))
    (sym made_of.sent_are) begun) made_of.journals_are))))

pub returns-in-Ok-Some-clause-done : goal.returns-in-Ok-Some-clause-done
returns-in-Ok-Some-clause-done g c =
    let asked = c.args.asked in
    let left = rw c.in-Ok-Some.field-0-is at c.in-Ok-Some.ensures.left in
    let made_of = left.made_of in
    let before = c.begin_files.ensures.kept in
    let begun = left.added c.requires.in_pieces.1 header_bytes (c.in_ok-begin_files.ensures.sent c.if-not-branch.false) in
    answer_by _ _ asked c.args.whole.script.now left.captured _
    (capture_before _ _ before _ _ left.captured left.capture) left.script_is (
      made_of.whole.refused.items,
      record {
        options_are_served = served_options asked.verified.now.maps asked.script.now asked.options c.in-Ok.ensures.good;
        outcome = made_of.whole;
        made = record {
          updates_are = made_of.made.updates_are;
          accounted = made_of.made.accounted;
          in_turn = λ exact. made_of.made.in_turn refl;
        };
        listed = record { kept = made_of.listed.kept; in_turns = λ exact. made_of.listed.in_turns refl };
        by_rule = made_of.by_rule;
        readers = made_of.readers;
        refused_are = refl;
        sent = λ other third apart. c.in_ok-write_pieces-in-Ok-Some.ensures.sent (capture_bytes made_of.whole.sent.items)
            (subst (λ (sent : List Sent). g.D.Folder.is_begun c.left_by_pieces.new.folder asked.files.now.sent.now (header_bytes ++ records_bytes sent))
            (sym made_of.sent_are) begun) other;
        journals = λ apart behind. written_down (g.D.Folder.holds c.write_pieces.new.folder) (text_of asked.files.now.journals) _ made_of.whole.journals
            made_of.journals_are (c.in_ok-write_pieces-in-Ok-Some.ensures.journals apart);
        accepted = made_of.accepted;
        report = λ behind. report_of (g.D.Folder.is_begun c.begin_files.new.folder) (g.D.Folder.is_begun c.left_by_pieces.new.folder)
            (g.D.Folder.holds c.write_pieces.new.folder) asked.files.now (text_of asked.files.now.report) refl asked.script.now
            (records_in asked.part left.captured) left.sent left.ends made_of.whole made_of.sent_are made_of.ends_are
            (c.in_ok-begin_files.ensures.report c.if-not-branch.false) (left.told c.requires.in_pieces.1)
            c.in_ok-write_pieces-in-Ok-Some.ensures.report;
        lines = made_of.text;
      },
      made_of.none_refused,
      made_of.all,
      made_of.maps_are,
    )

-- the replay was not made, or it was made and memory was refused for what it leaves
denied : (before after held : FileBytes) (failed since : Type 0) (asked : Asked) (numbers : List ℕ) (script : List Command) (fault : Fault)
    → asked.exact ≡ true → AreKept before held → AreKept before after → asked.script.now ≡ script_at asked.part numbers script
    → (¬ HasBadOptions asked) → (failed → since)
    → (IsUnserved failed fault
    ⊎ HasNumbers held asked.reading asked.files.now.capture.now asked.part script numbers × (fault ≡ faults.Replay replays.Memory)
    ⊎ IsMadeInTurn held asked script × LacksRoom (text_of asked.files.now.journals) fault)
    → IsDeniedBy before after since asked script fault
denied before after held failed since asked numbers script fault exact same kept commands good so (inl unserved) =
    unserved_by before after since asked script fault kept (unserved_since failed since fault so unserved)
denied before after held failed since asked numbers script fault exact same kept commands good so (inr (inl both)) =
    let are = both.0 in
    given_up_by before after since asked numbers script fault replays.Memory commands exact kept
    (record {
      captured = are.captured;
      capture = capture_before before held same asked.reading asked.files.now.capture.now are.captured are.capture;
      numbers_are = are.numbers_are;
    })
    (record { options_are_bad = ((λ e. cc), λ bad. absurd (good bad)); no_thread = λ yes e. cc; of_update = inl (inl refl) })
    both.1
denied before after held failed since asked numbers script fault exact same kept commands good so (inr (inr both)) =
    let made = both.0 in
    unmade_by before after since asked script made.captured fault
    (capture_before before held same asked.reading asked.files.now.capture.now made.captured made.capture)
    made.script_is
    (not_reported made.outcome kept
    (subst (λ (exact : Bool). IsMade exact (program_of_replay (image_of asked.verified.now) asked.options) asked.updates.now asked.script.now
    (recorded asked.recording asked.options) (records_in asked.part made.captured) made.outcome) (sym exact) made.made)
    both.1)

pub returns-clause-refused : goal.returns-clause-refused
returns-clause-refused g c =
    let before = c.begin_files.ensures.kept in
    denied _ _ _ _ _ c.args.asked c.args.whole.numbers.now c.args.whole.script.now _ c.requires.in_pieces.0 before
    (kept_twice _ _ _ (kept_twice _ _ _ before c.left_by_pieces.ensures.kept) c.give_up-in-Err-left_by_pieces.ensures.kept)
    c.requires.script c.in-Ok.ensures.good
    (failed_within _ _ _ _ c.in_ok-begin_files.ensures.steady c.give_up-in-Err-left_by_pieces.ensures.steady) c.in-Err-left_by_pieces.ensures.refused

pub returns-in_err-begin_files-clause-refused : goal.returns-in_err-begin_files-clause-refused
returns-in_err-begin_files-clause-refused g c =
    let p = err_from_is_err_and c.from_residual-in_err-begin_files.result c.from_residual-in_err-begin_files.ensures.1 in
    rw (p.1, p.2)
    (unserved_by _ _ _ c.args.asked c.args.whole.script.now _ c.begin_files.ensures.kept c.in_err-begin_files.ensures.refused)

pub returns-in_err-table-clause-refused : goal.returns-in_err-table-clause-refused
returns-in_err-table-clause-refused g c =
    let p = err_from_is_err_and c.from_residual.result c.from_residual.ensures.1 in
    rw (p.1, p.2)
    (unserved_by _ _ _ c.args.asked c.args.whole.script.now _ (kept_still _) (lacks_memory c.in_err-table.ensures.refused))
