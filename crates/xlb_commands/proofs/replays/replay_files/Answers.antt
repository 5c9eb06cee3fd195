use Rattle.std.proofs.Common.{rules, ◌≡◌, ◌∙◌, ◌++◌, ◌↔◌, ◌⊎◌, inl, inr, ℕ, Bool, true, false, List, [], Option, Some, None, ap, refl, subst, sym}
use Rattle.std.proofs.Common.{string_bytes, true≢false}
use Rattle.std.specs.Prelude.{◌≢◌}
use Rattle.verifier.specs.Dataflow.{Accepts}
use Rattle.verifier.specs.Verified.{Verified}
use Rattle.semantics.specs.declared.options.Recording.{Recording}
use Rattle.semantics.specs.declared.options.Recording.TheVariants.{Rows}
use Rattle.control.specs.declared.command.Command.{Command}
use Rattle.wire.specs.declared.records.Sent.{Sent}
use Rattle.actors.specs.declared.outcome.Applied.{Applied}
use Rattle.command_line.specs.declared.commands.ReplaySettings.{ReplaySettings}
use Rattle.xlb_commands.specs.declared.fault.Fault.{Fault}
use Rattle.xlb_commands.specs.declared.replays.Asked.{Asked}
use Rattle.xlb_commands.specs.declared.report.Report.{Report}
use Rattle.xlb_commands.specs.AskedReplays.{IsAnswered, IsDenied, LacksMaps}
use Rattle.xlb_commands.specs.declared.replays.ReplayAnswer.TheVariants as replayed
use Rattle.xlb_commands.specs.Results.{IsReplayAnswer}
use Rattle.std.proofs.lemmas.Result.{err_from_is_err_and}
use Rattle.ebpf_decode.specs.ImageContents.{Contents}
use Rattle.map_updates.specs.Misfits.{AreFitting}
use Rattle.map_updates.specs.declared.update.MapUpdate.{MapUpdate}
use Rattle.command_line.specs.Reading.{text_of}
use Rattle.capture_readings.specs.declared.readings.Reading.{Reading}
use Rattle.steer.specs.ShippedProgram.{sized_image}
use Rattle.xlb_commands.specs.EndMaps.{lines_bytes}
use Rattle.xlb_commands.specs.Files.{FileBytes}
use Rattle.xlb_commands.specs.Replays.{AreServedSizes, IsProgramOf, IsReplayReport, IsReplayedWith, IsScriptOf, counts_text, image_of, capture_reading, recording_in}
use Rattle.xlb_commands.specs.Replays.{HasBytes, recording_of}
use Rattle.xlb_commands.specs.Replays.{refusals_text}
use Rattle.xlb_commands.specs.Refused.{AreUnwritten, HasFailed, IsUnreplayed, no_maps_file, no_replay_program, no_replay_script, not_replayed}
use Rattle.xlb_commands.proofs.Earlier.{report_before, script_before, unreplayed_before}
use Rattle.xlb_commands.proofs.EndMaps.{four_kept, maps_written}
use Rattle.xlb_commands.proofs.Refusals.{kept_twice, failed_since, script_refusal_before, unfiled_since}
use Rattle.xlb_commands.proofs.replays.replay_files.Goals as goal

-- where no image was named, the program is the shipped one
shipped_of : (files : FileBytes) (name : Option (List ℕ)) (flows ring : ℕ) (program : Contents) → IsProgramOf files name flows ring program →
    name ≡ None → program ≡ sized_image flows ring
shipped_of files name flows ring program is none = subst (λ (other : Option (List ℕ)). IsProgramOf files other flows ring program) none is

-- where a file is named for the journals, their rows are kept
rows_where_named : (no_journals : Bool) (name : Option (List ℕ)) (file : List ℕ) → name ≡ Some file → recording_of no_journals name ≡ Rows
rows_where_named true (Some name) file is = refl
rows_where_named true None file is = absurd cc
rows_where_named false name file is = refl

pub replay_with_maps-requires-clause-consistent : goal.replay_with_maps-requires-clause-consistent
replay_with_maps-requires-clause-consistent g c κs outlives = record {
  fit = search rules;
  rows = λ file is. c.recording_of.ensures
      ∙ rows_where_named c.args.settings.now.no_journals (text_of c.args.settings.now.files.journals) file is;
  size = λ none. (c.in_ok-verified.ensures.size none).1;
  shipped = shipped_of (g.D.Folder.holds c.args.folder.now) (text_of c.args.settings.now.files.image) c.args.settings.now.flows
      c.args.settings.now.ring (image_of c.in_ok-verified.verified) c.in_ok-verified.ensures.program;
}

-- a command was refused, or the replay is strict
some_of : (refused : List Applied) (strict is_refused : Bool) → ((refused ≡ []) ↔ (is_refused ≡ false))
    → (is_refused ≡ true) ⊎ (strict ≡ true) → (refused ≢ []) ⊎ (strict ≡ true)
some_of refused strict is_refused none (inl is) = inl (λ empty. true≢false (sym is ∙ none.0 empty))
some_of refused strict is_refused none (inr is) = inr is

-- the report of a replay with what is asked for, by the same recording, the same updates and the same reading
as_asked : (before after : FileBytes) (asked : ReplaySettings) (verified : Verified) (script : List Command)
    (recording : Recording) (updates : List MapUpdate) (reading : Reading) (report : Report) → recording ≡ recording_in asked
    → updates ≡ asked.updates.items → reading ≡ capture_reading asked.reading
    → IsReplayReport before after asked.files verified script asked.options recording asked.ring asked.exact reading asked.part updates report
    → IsReplayReport before after asked.files verified script asked.options (recording_in asked) asked.ring asked.exact
    (capture_reading asked.reading) asked.part asked.updates.items report
as_asked before after asked verified script recording updates reading report recorded same read is =
    subst (λ (it : List MapUpdate). IsReplayReport before after asked.files verified script asked.options (recording_in asked) asked.ring
    asked.exact (capture_reading asked.reading) asked.part it report) same
    (subst (λ (it : Reading). IsReplayReport before after asked.files verified script asked.options (recording_in asked) asked.ring asked.exact it
    asked.part updates report) read
    (subst (λ (it : Recording). IsReplayReport before after asked.files verified script asked.options it asked.ring asked.exact reading
    asked.part updates report) recorded is))

-- why a replay with what is asked for was not made
unmade_as_asked : (before after : FileBytes) (failed : Type 0) (asked : ReplaySettings) (program : Contents) (script : List Command)
    (recording : Recording) (updates : List MapUpdate) (reading : Reading) (fault : Fault) → recording ≡ recording_in asked
    → updates ≡ asked.updates.items → reading ≡ capture_reading asked.reading
    → IsUnreplayed before after failed asked.files program script asked.options recording asked.exact reading asked.part updates fault
    → IsUnreplayed before after failed asked.files program script asked.options (recording_in asked) asked.exact (capture_reading asked.reading) asked.part
    asked.updates.items fault
unmade_as_asked before after failed asked program script recording updates reading fault recorded same read is =
    subst (λ (it : List MapUpdate). IsUnreplayed before after failed asked.files program script asked.options (recording_in asked) asked.exact
    (capture_reading asked.reading) asked.part it fault) same
    (subst (λ (it : Reading). IsUnreplayed before after failed asked.files program script asked.options (recording_in asked) asked.exact it asked.part
    updates fault) read
    (subst (λ (it : Recording). IsUnreplayed before after failed asked.files program script asked.options it asked.exact reading asked.part
    updates fault) recorded is))

-- the same replay, whose text and refused commands are said otherwise
as_said : (after : FileBytes) (asked : ReplaySettings) (verified : Verified) (script : List Command)
    (records : List Sent) (printed other : List ℕ) (refused others : List Applied) → other ≡ printed → refused ≡ others
    → IsReplayedWith after asked.files verified script asked.options (recording_in asked) asked.ring asked.exact
    asked.updates.items records printed refused
    → IsReplayedWith after asked.files verified script asked.options (recording_in asked) asked.ring asked.exact
    asked.updates.items records other others
as_said after asked verified script records printed other refused others text same is = record {
  options_are_served = is.options_are_served;
  outcome = is.outcome;
  made = is.made;
  listed = is.listed;
  by_rule = is.by_rule;
  readers = is.readers;
  refused_are = is.refused_are ∙ same;
  sent = is.sent;
  journals = is.journals;
  accepted = is.accepted;
  report = is.report;
  lines = text ∙ (is.lines ∙ ap (λ (l : List Applied). counts_text is.outcome.counts ++ refusals_text l) same);
}

-- of a program that may run and a script, what is reported of a replay that was made with both: it was done whole, or in part
answer_is : (before after : FileBytes) (asked : ReplaySettings) (verified : Verified) (script : List Command)
    (made report : Report) → IsProgramOf before (text_of asked.files.image) asked.flows asked.ring (image_of verified)
    → (text_of asked.files.image ≡ None → AreServedSizes asked.flows asked.ring)
    → Accepts verified.version verified.maps verified.code verified.states
    → AreFitting verified.maps asked.updates.items
    → IsScriptOf before (text_of asked.files.script) script
    → IsReplayReport before after asked.files verified script asked.options (recording_in asked) asked.ring asked.exact
    (capture_reading asked.reading) asked.part asked.updates.items made
    → HasBytes after (text_of asked.files.maps) (lines_bytes made.maps)
    → string_bytes report.text ≡ string_bytes made.text
    → (report.is_refused ≡ false → (made.is_refused ≡ false) × (asked.strict ≡ true → made.leaves_out ≡ false))
    → (report.is_refused ≡ true → (made.is_refused ≡ true) ⊎ (asked.strict ≡ true))
    → IsReplayAnswer before after asked (replayed.Made report)
unfolding as_said
answer_is before after asked verified script made report program_is sizes accepted fits script_is is has text whole part = (
  (λ done. record {
    replayed = record {
      verified = verified;
      program_is = program_is;
      sizes = sizes;
      accepted = accepted;
      fits = fits;
      script = script;
      script_is = script_is;
      captured = is.captured;
      capture = is.capture;
      replayed = as_said after asked verified _ _ _ _ is.of_part.0 [] text (is.of_part.2.1 (whole done).0) is.of_part.1;
      maps = maps_written after (text_of asked.files.maps) _ (lines_bytes made.maps) is.of_part.4 has;
    };
    all = λ strict. is.of_part.3 ((whole done).1 strict);
  }),
  (λ in_part. record {
    refused = is.of_part.0;
    some = some_of is.of_part.0 asked.strict made.is_refused is.of_part.2 (part in_part);
    replayed = record {
      verified = verified;
      program_is = program_is;
      sizes = sizes;
      accepted = accepted;
      fits = fits;
      script = script;
      script_is = script_is;
      captured = is.captured;
      capture = is.capture;
      replayed = as_said after asked verified _ _ _ _ is.of_part.0 is.of_part.0 text refl is.of_part.1;
      maps = maps_written after (text_of asked.files.maps) _ (lines_bytes made.maps) is.of_part.4 has;
    };
  }),
)

pub returns-clause-done : goal.returns-clause-done
returns-clause-done g c =
    let settings = c.args.settings.now in
    let verified = c.in_ok-verified.verified in
    let script = c.in_ok-script.script in
    let report = c.in_ok-report.report in
    let fits : AreFitting c.in_ok-verified.verified.maps c.args.settings.now.updates.items = search rules in
    let made = report_before _ _ _ _ _ _ _ _ _ _ _ _ _ report
    (kept_twice _ _ _ c.program_of.ensures.kept c.script_of.ensures.kept) c.in_ok-report.ensures.done in
    answer_is (g.D.Folder.holds c.args.folder.now) (g.D.Folder.holds c.replay_with_maps.new.folder) settings verified script report
    c.of_strict.result c.in_ok-verified.ensures.program c.in_ok-verified.ensures.size c.maps_of.ensures.accepted fits
    (script_before _ _ c.program_of.ensures.kept _ _ c.in_ok-script.ensures.script)
    (as_asked (g.D.Folder.holds c.args.folder.now) (g.D.Folder.holds c.replay_with_maps.new.folder) settings verified script _ _ _ report
    c.recording_of.ensures c.deref-updates.ensures.value c.capture_reading.ensures made)
    c.in_ok-report.ensures.maps
    (ap string_bytes c.of_strict.ensures.text) c.of_strict.ensures.done c.of_strict.ensures.part

pub returns-clause-kept : goal.returns-clause-kept
returns-clause-kept g c =
    four_kept _ _ _ _ _ _ _ (kept_twice _ _ _ c.program_of.ensures.kept c.script_of.ensures.kept) c.replay_with_maps.ensures.kept

pub returns-in_err-report-clause-kept : goal.returns-in_err-report-clause-kept
returns-in_err-report-clause-kept g c =
    four_kept _ _ _ _ _ _ _ (kept_twice _ _ _ c.program_of.ensures.kept c.script_of.ensures.kept) c.replay_with_maps.ensures.kept

pub returns-in_err-verified-clause-refused : goal.returns-in_err-verified-clause-refused
returns-in_err-verified-clause-refused g c =
    let p = err_from_is_err_and c.from_residual.result c.from_residual.ensures.1 in
    rw (p.1, p.2) (no_replay_program c.program_of.ensures.kept c.in_err-verified.ensures.refused)

pub returns-in_err-script-clause-refused : goal.returns-in_err-script-clause-refused
returns-in_err-script-clause-refused g c =
    let fits : AreFitting c.in_ok-verified.verified.maps c.args.settings.now.updates.items = search rules in
    let p = err_from_is_err_and c.from_residual-in_err-script.result c.from_residual-in_err-script.ensures.1 in
    rw (p.1, p.2)
    (no_replay_script (image_of c.in_ok-verified.verified) (kept_twice _ _ _ c.program_of.ensures.kept c.script_of.ensures.kept)
    (record { is = c.in_ok-verified.ensures.program; safe = c.in_ok-verified.ensures.safe }) fits
    (script_refusal_before _ _ _ _ _ _ c.program_of.ensures.kept (failed_since _ _ _ c.in_ok-verified.ensures.steady) c.in_err-script.ensures.refused))

-- a replay that was not made or not written down, or one of which only what the maps hold was not
refused_either : (held after : FileBytes) (failed : Type 0) (asked : Asked) (fault : Fault) (R : Type 0)
    → IsDenied held after failed asked fault ⊎ LacksMaps held after failed asked fault → (IsDenied held after failed asked fault → R)
    → ((report : Report) → IsAnswered held after asked report → AreUnwritten (text_of asked.files.now.maps) failed fault → R) → R
refused_either held after failed asked fault R (inl is) denied lacks = denied is
refused_either held after failed asked fault R (inr is) denied lacks = lacks is.report is.made is.unwritten

pub returns-in_err-report-clause-refused : goal.returns-in_err-report-clause-refused
returns-in_err-report-clause-refused g c =
    let settings = c.args.settings.now in
    let verified = c.in_ok-verified.verified in
    let fits : AreFitting c.in_ok-verified.verified.maps c.args.settings.now.updates.items = search rules in
    let p = err_from_is_err_and c.from_residual-in_err-report.result c.from_residual-in_err-report.ensures.1 in
    rw (p.1, p.2)
    (refused_either _ _ _ _ _ _ c.in_err-report.ensures.refused
    (λ denied. not_replayed (image_of c.in_ok-verified.verified) c.in_ok-script.script
    (record { is = c.in_ok-verified.ensures.program; safe = c.in_ok-verified.ensures.safe }) fits
    (script_before _ _ c.program_of.ensures.kept _ _ c.in_ok-script.ensures.script)
    (unmade_as_asked (g.D.Folder.holds c.args.folder.now) (g.D.Folder.holds c.replay_with_maps.new.folder)
    (HasFailed (g.D.Folder.failure_count c.args.folder.now) (g.D.Folder.failure_count c.replay_with_maps.new.folder)) c.args.settings.now
    (image_of c.in_ok-verified.verified) c.in_ok-script.script _ _ _ c.in_err-report.field-0.0.fault c.recording_of.ensures c.deref-updates.ensures.value
    c.capture_reading.ensures
    (unreplayed_before _ _ _ _ _ _ _ _ _ _ _ _ _ _ _ (kept_twice _ _ _ c.program_of.ensures.kept c.script_of.ensures.kept)
    (λ failed. failed_since _ _ _ c.in_ok-verified.ensures.steady (failed_since _ _ _ c.in_ok-script.ensures.steady failed))
    denied)))
    (λ report made unwritten. no_maps_file verified c.in_ok-script.script report
    (record { is = c.in_ok-verified.ensures.program; safe = c.in_ok-verified.ensures.safe }) fits
    (script_before _ _ c.program_of.ensures.kept _ _ c.in_ok-script.ensures.script)
    (as_asked (g.D.Folder.holds c.args.folder.now) (g.D.Folder.holds c.replay_with_maps.new.folder) settings verified c.in_ok-script.script _ _ _
    report c.recording_of.ensures c.deref-updates.ensures.value c.capture_reading.ensures
    (report_before _ _ _ _ _ _ _ _ _ _ _ _ _ report (kept_twice _ _ _ c.program_of.ensures.kept c.script_of.ensures.kept) made))
    (unfiled_since _ _ _ _
    (λ failed. failed_since _ _ _ c.in_ok-verified.ensures.steady (failed_since _ _ _ c.in_ok-script.ensures.steady failed)) unwritten)))
