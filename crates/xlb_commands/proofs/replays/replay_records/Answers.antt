use Rattle.std.proofs.Common.{◌≡◌, ◌∙◌, ◌+◌, ℕ, zero, suc, Bool, List, Option, Some, None, ap, refl, subst, sym, length, length-append, add-one}
use Rattle.std.proofs.lemmas.Result.{err_from_is_err_and}
use Rattle.semantics.specs.declared.options.Options.{Options}
use Rattle.semantics.specs.declared.options.Recording.{Recording}
use Rattle.semantics.specs.ShardPlan.{KeepsRows, room_for, recorded}
use Rattle.wire.specs.declared.records.Sent.{Sent}
use Rattle.control.specs.declared.command.Command.{Command}
use Rattle.actors.specs.Accounts.{ends_of}
use Rattle.actors.specs.Shares.{frames_of}
use Rattle.actors.specs.declared.outcome.Outcome.{Outcome}
use Rattle.actors.specs.declared.runner.Ran.{Ran}
use Rattle.machine.specs.Running.{program_of}
use Rattle.command_line.specs.Reading.{text_of}
use Rattle.xlb_commands.specs.Files.{FileBytes}
use Rattle.xlb_commands.specs.RecordReports.{IsReportFile, form_of, report_text, runs_shipped}
use Rattle.xlb_commands.specs.Replays.{HasBytes}
use Rattle.xlb_commands.specs.Refused.{given_up, not_reported, not_written_down}
use Rattle.xlb_commands.proofs.AcceptedJournals.{accepted_of, are_legal}
use Rattle.xlb_commands.proofs.Outcomes.{had_good, options_fit, rule_of, served_options}
use Rattle.xlb_commands.proofs.ReaderFiles.{reader_file_is}
use Rattle.xlb_commands.proofs.Refusals.{kept_still}
use Rattle.xlb_commands.proofs.replays.replay_records.Goals as goal

-- where a file is named for the report, it has its text
report_stands : (files : FileBytes) (name : Option (List ℕ)) (is_shipped : Bool) (script : List Command) (records : List Sent) (outcome : Outcome)
    (text : List ℕ)
    → ((file : List ℕ) → name ≡ Some file → text ≡ report_text (form_of file) is_shipped script records outcome.ends.items outcome.sent.items)
    → HasBytes files name text → IsReportFile files name is_shipped script records outcome
report_stands files None is_shipped script records outcome text same has = has
report_stands files (Some file) is_shipped script records outcome text same has = subst (λ (it : List ℕ). files file it) (same file refl) has

-- there is an end for each record
length_ends : (frames : List (List ℕ)) (workers : ℕ) (runs : List (List Ran)) (count : ℕ) → length (ends_of frames workers runs count) ≡ count
length_ends frames workers runs zero = refl
length_ends frames workers runs (suc count) =
    length-append (ends_of frames workers runs count) _ ∙ (ap (λ (n : ℕ). n + 1) (length_ends frames workers runs count) ∙ add-one count)

pub left_of-requires-clause-frames : goal.left_of-requires-clause-frames
left_of-requires-clause-frames g c = sym c.in-Ok.ensures.made.made.accounted.each_once

pub left_of-requires-clause-ends : goal.left_of-requires-clause-ends
left_of-requires-clause-ends g c =
    let account = c.in-Ok.ensures.made.made.accounted in
    ap length account.ends ∙ length_ends (frames_of c.args.capture.now.records.items) c.args.asked.options.workers account.runs (length c.args.capture.now.records.items)

pub left_of-requires-clause-rows : goal.left_of-requires-clause-rows
left_of-requires-clause-rows g c = λ file is.
    subst (λ (o : Options). KeepsRows o.journal) (sym c.in-Ok.ensures.made.made.accounted.options_are)
    (subst (λ (r : Recording). KeepsRows (room_for r c.args.asked.options.journal)) (sym (c.requires.consistent.rows file is)) c.in-Ok.ensures.served)

pub text-requires : goal.text-requires
text-requires g c =
    let asked = c.args.asked in
    are_legal (program_of asked.verified.now asked.options.shards) asked.script.now (recorded asked.recording asked.options)
    c.args.capture.now.records.items c.in-Ok.outcome c.in-Ok.ensures.made.made.accounted

pub left_of-requires-clause-legal : goal.left_of-requires-clause-legal
left_of-requires-clause-legal g c =
    let asked = c.args.asked in
    are_legal (program_of asked.verified.now asked.options.shards) asked.script.now (recorded asked.recording asked.options)
    c.args.capture.now.records.items c.in-Ok.outcome c.in-Ok.ensures.made.made.accounted

pub returns-clause-done : goal.returns-clause-done
returns-clause-done g c =
    let asked = c.args.asked in
    let program = program_of asked.verified.now asked.options.shards in
    let options = recorded asked.recording asked.options in
    let records = c.args.capture.now.records.items in
    let outcome = c.in-Ok.outcome in
    let account = c.in-Ok.ensures.made.made.accounted in
    let fit = options_fit program asked.script.now options records outcome c.options.ensures.fit account in (
      outcome.refused.items,
      record {
        options_are_served = served_options asked.verified.now.maps asked.script.now asked.options
            (had_good asked.verified.now.maps asked.script.now asked.options c.replay_at.result outcome c.in-Ok.is c.replay_at.ensures.bad_options);
        outcome = outcome;
        made = c.in-Ok.ensures.made.made;
        listed = c.in-Ok.ensures.made.listed;
        by_rule = λ none. rule_of (text_of asked.files.now.image) asked.ring program asked.script.now options records outcome account
            (λ shipped.
            let steered = c.steered_where_shipped.ensures.steered shipped asked.script.now options records outcome fit c.all_are_captured.ensures
            account in
            record {
              runs = steered;
              stay = c.steered_where_shipped.ensures.stay asked.ring program asked.script.now options records outcome account steered;
              totals = λ unstopped. c.steered_where_shipped.ensures.totals shipped asked.script.now options records outcome fit
                  c.all_are_captured.ensures account (c.in-Ok.ensures.made.made.updates_are ∙ none) unstopped;
              tables = λ roomy. c.steered_where_shipped.ensures.tables shipped asked.script.now options records outcome fit
                  c.all_are_captured.ensures account (c.in-Ok.ensures.made.made.updates_are ∙ none) roomy;
              services = λ roomy. c.steered_where_shipped.ensures.services shipped asked.script.now options records outcome fit
                  c.all_are_captured.ensures account (c.in-Ok.ensures.made.made.updates_are ∙ none) roomy;
            });
        readers = λ none_set reads none unstopped.
            reader_file_is asked.verified.now.maps asked.verified.now.code asked.script.now options records outcome
            (c.readers_send_alike.ensures.sends reads) c.options.ensures.fit c.all_are_captured.ensures account
            (c.in-Ok.ensures.made.made.updates_are ∙ none_set) none unstopped;
        refused_are = refl;
        sent = λ other third apart. c.in_ok-write_files.ensures.sent other third;
        journals = λ apart behind. c.in_ok-write_files.ensures.journals apart;
        accepted = λ file named. accepted_of _ _ _ _ outcome account (c.in_ok-left.ensures.reads_back file named);
        report = λ behind. report_stands (g.D.Folder.holds c.write_files.new.folder) (text_of asked.files.now.report) (runs_shipped asked.files.now)
            asked.script.now records outcome _ c.in_ok-left.ensures.lines c.in_ok-write_files.ensures.report;
        lines = c.in_ok-left.ensures.text;
      },
      c.in_ok-left.ensures.whole,
      c.in_ok-left.ensures.all,
      c.in_ok-left.ensures.maps,
    )

pub returns-in-Err-clause-refused : goal.returns-in-Err-clause-refused
returns-in-Err-clause-refused g c = given_up c.in-Err.fault (kept_still _) c.in-Err.ensures.given_up c.given_up.ensures

pub returns-in_err-left-clause-refused : goal.returns-in_err-left-clause-refused
returns-in_err-left-clause-refused g c =
    let p = err_from_is_err_and c.from_residual.result c.from_residual.ensures.1 in
    rw (p.1, p.2) (not_reported c.in-Ok.outcome (kept_still _) c.in-Ok.ensures.made.made c.in_err-left.ensures.refused)

pub returns-in_err-write_files-clause-refused : goal.returns-in_err-write_files-clause-refused
returns-in_err-write_files-clause-refused g c =
    let p = err_from_is_err_and c.from_residual-in_err-write_files.result c.from_residual-in_err-write_files.ensures.1 in
    rw (p.1, p.2)
    (not_written_down c.in-Ok.outcome c.in-Ok.ensures.made.made c.in_err-write_files.ensures.refused)
