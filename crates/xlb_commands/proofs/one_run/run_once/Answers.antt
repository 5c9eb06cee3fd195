use Rattle.std.proofs.Common.{◌≡◌, ◌<◌, ℕ, List, Option, ap, arith, rules, subst}
use Rattle.std.proofs.lemmas.Result.{err_from_is_err_and}
use Rattle.ebpf_decode.specs.ImageContents.{Contents}
use Rattle.journals.specs.JournalsView.{JournalsView}
use Rattle.machine.specs.declared.exit.Stop.{Stop}
use Rattle.map_updates.specs.Misfits.{AreFitting}
use Rattle.map_updates.specs.declared.update.MapUpdate.{MapUpdate}
use Rattle.semantics.specs.Program.{Program}
use Rattle.semantics.specs.declared.options.Options.{Options}
use Rattle.semantics.specs.ShardPlan.{KeepsRows}
use Rattle.semantics.specs.Safety.{IsSafeImage}
use Rattle.semantics.specs.Events.{Ending, Exited}
use Rattle.semantics.specs.System.{Setting, IsInputFrame}
use Rattle.semantics.specs.declared.verdict.Verdict.{Verdict}
use Rattle.runs.specs.SingleRuns.{HasRunAlone, HasStoppedAlone}
use Rattle.guarantees.specs.RunsAlone.{IsAloneInSystem, ending_at}
use Rattle.wire.specs.FrameView.{FrameView}
use Rattle.command_line.specs.Reading.{text_of}
use Rattle.command_line.specs.declared.commands.RunFiles.{RunFiles}
use Rattle.xlb_commands.specs.EndMaps.{lines_bytes}
use Rattle.xlb_commands.specs.Files.{FileBytes, AreKept, AreAllKeptBut, AreAllKeptButTwo, IsImageFile}
use Rattle.xlb_commands.specs.Refused.{IsFittingProgram, AreRunInputs, IsEndedRun, no_report_room, no_run_program, no_run_frame, no_worker, not_run, stopped, no_output_room, not_filed, no_maps_filed}
use Rattle.xlb_commands.specs.Results.{run_options, program_of_run, setting_of_run, start_of_run}
use Rattle.xlb_commands.specs.Replays.{HasBytes}
use Rattle.xlb_commands.proofs.EndMaps.{journals_behind, kept_but_two, legal_of_run, maps_written}
use Rattle.xlb_commands.proofs.Refusals.{kept_twice, frame_refusal_before, failed_since, unfiled_since, written_down}
use Rattle.xlb_commands.proofs.one_run.run_once.Goals as goal

-- after two readings and a writing
kept_but : (a b c d : FileBytes) (written maps : Option (List ℕ)) → AreKept a b → AreKept b c → AreAllKeptBut c d written
    → AreAllKeptButTwo a d written maps
kept_but a b c d written maps first second last = λ name bytes other not_maps. (
  (λ had. (last name bytes other).0 ((second name bytes).0 ((first name bytes).0 had))),
  (λ has. (first name bytes).1 ((second name bytes).1 ((last name bytes other).1 has))),
)

pub returns-in_err-write_journals_to-clause-kept : goal.returns-in_err-write_journals_to-clause-kept
returns-in_err-write_journals_to-clause-kept g c =
    kept_but _ _ _ _ _ (text_of c.args.files.now.maps) c.judged_of.ensures.kept c.frame_of.ensures.kept c.write_journals_to.ensures.others

pub returns-clause-kept : goal.returns-clause-kept
returns-clause-kept g c =
    kept_but_two _ _ _ _ _ _ _ c.judged_of.ensures.kept c.frame_of.ensures.kept c.write_journals_to.ensures.others c.write_text_to.ensures.others

pub returns-in_err-write_text_to-clause-kept : goal.returns-in_err-write_text_to-clause-kept
returns-in_err-write_text_to-clause-kept g c =
    kept_but_two _ _ _ _ _ _ _ c.judged_of.ensures.kept c.frame_of.ensures.kept c.write_journals_to.ensures.others c.write_text_to.ensures.others

-- what a run reads: the frame after the image
inputs : (a b : FileBytes) (run : RunFiles) (updates : List MapUpdate) (program : Contents) (bytes : List ℕ) → AreKept a b → IsImageFile a run.image.now program
    → IsSafeImage program.maps program.code → AreFitting program.maps updates → b run.frame.now bytes → IsInputFrame bytes
    → AreRunInputs a run updates program bytes
inputs a b run updates program bytes kept file safe fits read size =
    record { file = file; safe = safe; fits = fits; read = (kept run.frame.now bytes).1 read; size = size }

-- a run at the moment that was made of these numbers is one of these numbers
stopped_so : (program : Program) (bytes : List ℕ) (updates : List MapUpdate) (frame : FrameView) (stop : Stop) (journals : JournalsView)
    (worker now made_worker made_now : ℕ) → made_worker ≡ worker → made_now ≡ now
    → HasStoppedAlone program (start_of_run bytes made_worker made_now) run_options made_worker updates frame stop journals
    → HasStoppedAlone program (start_of_run bytes worker now) run_options worker updates frame stop journals
stopped_so program bytes updates frame stop journals worker now made_worker made_now same_worker same_now is =
    subst (λ (it : ℕ). HasStoppedAlone program (start_of_run bytes it now) run_options it updates frame stop journals) same_worker
    (subst (λ (it : ℕ). HasStoppedAlone program (start_of_run bytes made_worker it) run_options made_worker updates frame stop journals) same_now is)

ended_so : (program : Program) (bytes : List ℕ) (updates : List MapUpdate) (verdict : Verdict) (steps : ℕ) (frame : FrameView) (journals : JournalsView)
    (worker now made_worker made_now : ℕ) → made_worker ≡ worker → made_now ≡ now
    → HasRunAlone program (start_of_run bytes made_worker made_now) run_options made_worker updates verdict steps frame journals
    → HasRunAlone program (start_of_run bytes worker now) run_options worker updates verdict steps frame journals
ended_so program bytes updates verdict steps frame journals worker now made_worker made_now same_worker same_now is =
    subst (λ (it : ℕ). HasRunAlone program (start_of_run bytes it now) run_options it updates verdict steps frame journals) same_worker
    (subst (λ (it : ℕ). HasRunAlone program (start_of_run bytes made_worker it) run_options made_worker updates verdict steps frame journals) same_now is)

system_so : (setting : Setting) (bytes : List ℕ) (updates : List MapUpdate) (ending : Ending) (journals : JournalsView)
    (worker now made_worker made_now : ℕ) → made_worker ≡ worker → made_now ≡ now
    → IsAloneInSystem setting made_worker made_now bytes updates ending journals → IsAloneInSystem setting worker now bytes updates ending journals
system_so setting bytes updates ending journals worker now made_worker made_now same_worker same_now is =
    subst (λ (it : ℕ). IsAloneInSystem setting it now bytes updates ending journals) same_worker
    (subst (λ (it : ℕ). IsAloneInSystem setting made_worker it bytes updates ending journals) same_now is)

pub returns-clause-done : goal.returns-clause-done
returns-clause-done g c =
    let program : Contents =
    record { version = c.in_ok-verified.verified.version; maps = c.in_ok-verified.verified.maps; code = c.in_ok-verified.verified.code } in
    let fits : AreFitting c.in_ok-verified.verified.maps c.args.updates.now = search rules in
    let below : c.args.worker < 8 = omega (arith, c.in_ok-moment.ensures.given.1, c.in_ok-moment.ensures.below) in
    let at : HasRunAlone (program_of_run program) (start_of_run c.in_ok-frame.frame.bytes c.in_ok-moment.moment.worker c.in_ok-moment.moment.now_ns) run_options
    c.in_ok-moment.moment.worker c.args.updates.now c.in-Ok.exit.verdict c.in-Ok.exit.steps c.run_over.new.frame c.in_ok-ended.field-0.journals = search rules in
    let alone : IsAloneInSystem (setting_of_run program) c.in_ok-moment.moment.worker c.in_ok-moment.moment.now_ns c.in_ok-frame.frame.bytes
    c.args.updates.now (Exited c.in-Ok.exit.verdict c.run_over.new.frame.bytes c.in-Ok.exit.steps) c.in_ok-ended.field-0.journals = search rules in
    record {
      program = program;
      file = c.in_ok-verified.ensures.file;
      states = c.in_ok-verified.verified.states;
      accepted = c.maps_of.ensures.accepted;
      safe = c.in_ok-verified.ensures.safe;
      fits = fits;
      bytes = c.in_ok-frame.frame.bytes;
      read = (c.in_ok-verified.ensures.kept _ _).1 c.in_ok-frame.ensures.read;
      size = c.in_ok-frame.ensures.size;
      worker_is = below;
      verdict = c.in-Ok.exit.verdict;
      steps = c.in-Ok.exit.steps;
      left = c.run_over.new.frame;
      journals = c.in_ok-ended.field-0.journals;
      run = ended_so _ _ _ _ _ _ _ _ _ _ _ c.in_ok-moment.ensures.given.1 c.in_ok-moment.ensures.given.0 at;
      of_system = system_so _ _ _ _ _ _ _ _ _ c.in_ok-moment.ensures.given.1 c.in_ok-moment.ensures.given.0 alone;
      written = λ apart. journals_behind (g.D.Folder.holds c.write_journals_to.new.folder) (g.D.Folder.holds c.write_text_to.new.folder)
          (text_of c.args.files.now.journals) (text_of c.args.files.now.maps) c.in_ok-ended.field-0.journals c.write_text_to.ensures.others apart
          (written_down (g.D.Folder.holds c.write_journals_to.new.folder) (text_of c.args.files.now.journals) c.in_ok-file.file.bytes
          c.in_ok-ended.field-0.journals c.in_ok-file.ensures.bytes c.in_ok-write_journals_to.ensures.written);
      maps = maps_written (g.D.Folder.holds c.write_text_to.new.folder) (text_of c.args.files.now.maps) c.in_ok-ended.field-0.journals
          (lines_bytes c.in_ok-maps.maps) c.in_ok-maps.ensures
          (subst (λ (lines : List ℕ). HasBytes (g.D.Folder.holds c.write_text_to.new.folder) (text_of c.args.files.now.maps) lines)
          c.text_of_lines.ensures c.in_ok-write_text_to.ensures.written);
      lines = c.in_ok-text.ensures;
    }

pub returns-in_err-verified-clause-refused : goal.returns-in_err-verified-clause-refused
returns-in_err-verified-clause-refused g c =
    let p = err_from_is_err_and c.from_residual.result c.from_residual.ensures.1 in
    rw (p.1, p.2) (no_run_program c.judged_of.ensures.kept c.in_err-verified.ensures.refused)

pub returns-in_err-frame-clause-refused : goal.returns-in_err-frame-clause-refused
returns-in_err-frame-clause-refused g c =
    let fits : AreFitting c.in_ok-verified.verified.maps c.args.updates.now = search rules in
    let program : IsFittingProgram (g.D.Folder.holds c.args.folder.now) c.args.files.now.image.now c.args.updates.now = record {
      image = record { version = c.in_ok-verified.verified.version; maps = c.in_ok-verified.verified.maps; code = c.in_ok-verified.verified.code };
      file = c.in_ok-verified.ensures.file;
      safe = c.in_ok-verified.ensures.safe;
      fits = fits;
    } in
    let p = err_from_is_err_and c.from_residual-in_err-frame.result c.from_residual-in_err-frame.ensures.1 in
    rw (p.1, p.2)
    (no_run_frame (kept_twice _ _ _ c.judged_of.ensures.kept c.frame_of.ensures.kept) program
    (frame_refusal_before _ _ _ _ _ _ c.in_ok-verified.ensures.kept (failed_since _ _ _ c.in_ok-verified.ensures.steady) c.in_err-frame.ensures.refused))

pub returns-in_err-moment-clause-refused : goal.returns-in_err-moment-clause-refused
returns-in_err-moment-clause-refused g c =
    let program : Contents =
    record { version = c.in_ok-verified.verified.version; maps = c.in_ok-verified.verified.maps; code = c.in_ok-verified.verified.code } in
    let fits : AreFitting c.in_ok-verified.verified.maps c.args.updates.now = search rules in
    let read = inputs _ _ c.args.files.now _ program c.in_ok-frame.frame.bytes c.in_ok-verified.ensures.kept c.in_ok-verified.ensures.file
    c.in_ok-verified.ensures.safe fits c.in_ok-frame.ensures.read c.in_ok-frame.ensures.size in
    let p = err_from_is_err_and c.from_residual-in_err-moment.result c.from_residual-in_err-moment.ensures.1 in
    rw (p.1, p.2) (no_worker program c.in_ok-frame.frame.bytes (kept_twice _ _ _ c.judged_of.ensures.kept c.frame_of.ensures.kept)
    read c.in_err-moment.ensures.only.1 c.in_err-moment.ensures.only.0)

pub returns-in_err-ended-clause-refused : goal.returns-in_err-ended-clause-refused
returns-in_err-ended-clause-refused g c =
    let program : Contents =
    record { version = c.in_ok-verified.verified.version; maps = c.in_ok-verified.verified.maps; code = c.in_ok-verified.verified.code } in
    let fits : AreFitting c.in_ok-verified.verified.maps c.args.updates.now = search rules in
    let read = inputs _ _ c.args.files.now _ program c.in_ok-frame.frame.bytes c.in_ok-verified.ensures.kept c.in_ok-verified.ensures.file
    c.in_ok-verified.ensures.safe fits c.in_ok-frame.ensures.read c.in_ok-frame.ensures.size in
    let below : c.args.worker < 8 = omega (arith, c.in_ok-moment.ensures.given.1, c.in_ok-moment.ensures.below) in
    let p = err_from_is_err_and c.from_residual-in_err-ended.result c.from_residual-in_err-ended.ensures.1 in
    rw (p.1, p.2) (not_run program c.in_ok-frame.frame.bytes (kept_twice _ _ _ c.judged_of.ensures.kept c.frame_of.ensures.kept)
    read below c.in_err-ended.ensures.refused)

pub returns-in-Err-clause-refused : goal.returns-in-Err-clause-refused
returns-in-Err-clause-refused g c =
    let program : Contents =
    record { version = c.in_ok-verified.verified.version; maps = c.in_ok-verified.verified.maps; code = c.in_ok-verified.verified.code } in
    let fits : AreFitting c.in_ok-verified.verified.maps c.args.updates.now = search rules in
    let read = inputs _ _ c.args.files.now _ program c.in_ok-frame.frame.bytes c.in_ok-verified.ensures.kept c.in_ok-verified.ensures.file
    c.in_ok-verified.ensures.safe fits c.in_ok-frame.ensures.read c.in_ok-frame.ensures.size in
    let below : c.args.worker < 8 = omega (arith, c.in_ok-moment.ensures.given.1, c.in_ok-moment.ensures.below) in
    let at : HasStoppedAlone (program_of_run program) (start_of_run c.in_ok-frame.frame.bytes c.in_ok-moment.moment.worker c.in_ok-moment.moment.now_ns) run_options
    c.in_ok-moment.moment.worker c.args.updates.now c.run_over.new.frame c.in-Err.stop c.in_ok-ended.journals = search rules in
    let alone : IsAloneInSystem (setting_of_run program) c.in_ok-moment.moment.worker c.in_ok-moment.moment.now_ns c.in_ok-frame.frame.bytes
    c.args.updates.now (ending_at c.in-Err.stop) c.in_ok-ended.journals = search rules in
    stopped program c.in_ok-frame.frame.bytes c.in-Err.stop (kept_twice _ _ _ c.judged_of.ensures.kept c.frame_of.ensures.kept) read below
    (record {
      frame = c.run_over.new.frame;
      journals = c.in_ok-ended.journals;
      stopped = stopped_so _ _ _ _ _ _ _ _ _ _ c.in_ok-moment.ensures.given.1 c.in_ok-moment.ensures.given.0 at;
      of_system = system_so _ _ _ _ _ _ _ _ _ c.in_ok-moment.ensures.given.1 c.in_ok-moment.ensures.given.0 alone;
    })
    c.from.ensures

pub returns-in_err-write_journals_to-clause-refused : goal.returns-in_err-write_journals_to-clause-refused
returns-in_err-write_journals_to-clause-refused g c =
    let program : Contents =
    record { version = c.in_ok-verified.verified.version; maps = c.in_ok-verified.verified.maps; code = c.in_ok-verified.verified.code } in
    let fits : AreFitting c.in_ok-verified.verified.maps c.args.updates.now = search rules in
    let read = inputs _ _ c.args.files.now _ program c.in_ok-frame.frame.bytes c.in_ok-verified.ensures.kept c.in_ok-verified.ensures.file
    c.in_ok-verified.ensures.safe fits c.in_ok-frame.ensures.read c.in_ok-frame.ensures.size in
    let below : c.args.worker < 8 = omega (arith, c.in_ok-moment.ensures.given.1, c.in_ok-moment.ensures.below) in
    let at : HasRunAlone (program_of_run program) (start_of_run c.in_ok-frame.frame.bytes c.in_ok-moment.moment.worker c.in_ok-moment.moment.now_ns) run_options
    c.in_ok-moment.moment.worker c.args.updates.now c.in-Ok.exit.verdict c.in-Ok.exit.steps c.run_over.new.frame c.in_ok-ended.journals = search rules in
    let ended : IsEndedRun program c.in_ok-frame.frame.bytes c.args.now c.args.worker c.args.updates.now = record {
      verdict = c.in-Ok.exit.verdict;
      steps = c.in-Ok.exit.steps;
      frame = c.run_over.new.frame;
      journals = c.in_ok-ended.journals;
      ended = ended_so _ _ _ _ _ _ _ _ _ _ _ c.in_ok-moment.ensures.given.1 c.in_ok-moment.ensures.given.0 at;
    } in
    let p = err_from_is_err_and c.from_residual-in_err-write_journals_to.result c.from_residual-in_err-write_journals_to.ensures.1 in
    rw (p.1, p.2)
    (not_filed program c.in_ok-frame.frame.bytes read below ended
    (unfiled_since _ _ _ _
    (λ failed. failed_since _ _ _ c.in_ok-verified.ensures.steady (failed_since _ _ _ c.in_ok-frame.ensures.steady failed))
    c.in_err-write_journals_to.ensures.refused))

pub returns-in_err-file-clause-refused : goal.returns-in_err-file-clause-refused
returns-in_err-file-clause-refused g c =
    let program : Contents =
    record { version = c.in_ok-verified.verified.version; maps = c.in_ok-verified.verified.maps; code = c.in_ok-verified.verified.code } in
    let fits : AreFitting c.in_ok-verified.verified.maps c.args.updates.now = search rules in
    let read = inputs _ _ c.args.files.now _ program c.in_ok-frame.frame.bytes c.in_ok-verified.ensures.kept c.in_ok-verified.ensures.file
    c.in_ok-verified.ensures.safe fits c.in_ok-frame.ensures.read c.in_ok-frame.ensures.size in
    let below : c.args.worker < 8 = omega (arith, c.in_ok-moment.ensures.given.1, c.in_ok-moment.ensures.below) in
    let at : HasRunAlone (program_of_run program) (start_of_run c.in_ok-frame.frame.bytes c.in_ok-moment.moment.worker c.in_ok-moment.moment.now_ns) run_options
    c.in_ok-moment.moment.worker c.args.updates.now c.in-Ok.exit.verdict c.in-Ok.exit.steps c.run_over.new.frame c.in_ok-ended.journals = search rules in
    let ended : IsEndedRun program c.in_ok-frame.frame.bytes c.args.now c.args.worker c.args.updates.now = record {
      verdict = c.in-Ok.exit.verdict;
      steps = c.in-Ok.exit.steps;
      frame = c.run_over.new.frame;
      journals = c.in_ok-ended.journals;
      ended = ended_so _ _ _ _ _ _ _ _ _ _ _ c.in_ok-moment.ensures.given.1 c.in_ok-moment.ensures.given.0 at;
    } in
    let p = err_from_is_err_and c.from_residual-in_err-file.result c.from_residual-in_err-file.ensures.1 in
    rw (p.1, p.2)
    (no_output_room program c.in_ok-frame.frame.bytes (kept_twice _ _ _ c.judged_of.ensures.kept c.frame_of.ensures.kept) read below ended
    c.in_err-file.ensures.refused)

pub returns-in_err-text-clause-refused : goal.returns-in_err-text-clause-refused
returns-in_err-text-clause-refused g c =
    let program : Contents =
    record { version = c.in_ok-verified.verified.version; maps = c.in_ok-verified.verified.maps; code = c.in_ok-verified.verified.code } in
    let fits : AreFitting c.in_ok-verified.verified.maps c.args.updates.now = search rules in
    let read = inputs _ _ c.args.files.now _ program c.in_ok-frame.frame.bytes c.in_ok-verified.ensures.kept c.in_ok-verified.ensures.file
    c.in_ok-verified.ensures.safe fits c.in_ok-frame.ensures.read c.in_ok-frame.ensures.size in
    let below : c.args.worker < 8 = omega (arith, c.in_ok-moment.ensures.given.1, c.in_ok-moment.ensures.below) in
    let at : HasRunAlone (program_of_run program) (start_of_run c.in_ok-frame.frame.bytes c.in_ok-moment.moment.worker c.in_ok-moment.moment.now_ns) run_options
    c.in_ok-moment.moment.worker c.args.updates.now c.in-Ok.exit.verdict c.in-Ok.exit.steps c.run_over.new.frame c.in_ok-ended.journals = search rules in
    let ended : IsEndedRun program c.in_ok-frame.frame.bytes c.args.now c.args.worker c.args.updates.now = record {
      verdict = c.in-Ok.exit.verdict;
      steps = c.in-Ok.exit.steps;
      frame = c.run_over.new.frame;
      journals = c.in_ok-ended.journals;
      ended = ended_so _ _ _ _ _ _ _ _ _ _ _ c.in_ok-moment.ensures.given.1 c.in_ok-moment.ensures.given.0 at;
    } in
    let p = err_from_is_err_and c.from_residual-in_err-text.result c.from_residual-in_err-text.ensures.1 in
    rw p.1 (no_output_room program c.in_ok-frame.frame.bytes (kept_twice _ _ _ c.judged_of.ensures.kept c.frame_of.ensures.kept) read below ended
    (no_report_room p.2))

pub returns-in_err-maps-clause-refused : goal.returns-in_err-maps-clause-refused
returns-in_err-maps-clause-refused g c =
    let program : Contents =
    record { version = c.in_ok-verified.verified.version; maps = c.in_ok-verified.verified.maps; code = c.in_ok-verified.verified.code } in
    let fits : AreFitting c.in_ok-verified.verified.maps c.args.updates.now = search rules in
    let read = inputs _ _ c.args.files.now _ program c.in_ok-frame.frame.bytes c.in_ok-verified.ensures.kept c.in_ok-verified.ensures.file
    c.in_ok-verified.ensures.safe fits c.in_ok-frame.ensures.read c.in_ok-frame.ensures.size in
    let below : c.args.worker < 8 = omega (arith, c.in_ok-moment.ensures.given.1, c.in_ok-moment.ensures.below) in
    let at : HasRunAlone (program_of_run program) (start_of_run c.in_ok-frame.frame.bytes c.in_ok-moment.moment.worker c.in_ok-moment.moment.now_ns) run_options
    c.in_ok-moment.moment.worker c.args.updates.now c.in-Ok.exit.verdict c.in-Ok.exit.steps c.run_over.new.frame c.in_ok-ended.journals = search rules in
    let ended : IsEndedRun program c.in_ok-frame.frame.bytes c.args.now c.args.worker c.args.updates.now = record {
      verdict = c.in-Ok.exit.verdict;
      steps = c.in-Ok.exit.steps;
      frame = c.run_over.new.frame;
      journals = c.in_ok-ended.journals;
      ended = ended_so _ _ _ _ _ _ _ _ _ _ _ c.in_ok-moment.ensures.given.1 c.in_ok-moment.ensures.given.0 at;
    } in
    let p = err_from_is_err_and c.from_residual-in_err-maps.result c.from_residual-in_err-maps.ensures.1 in
    rw p.1 (no_output_room program c.in_ok-frame.frame.bytes (kept_twice _ _ _ c.judged_of.ensures.kept c.frame_of.ensures.kept) read below ended
    (no_report_room p.2))

pub returns-in_err-write_text_to-clause-refused : goal.returns-in_err-write_text_to-clause-refused
returns-in_err-write_text_to-clause-refused g c =
    let program : Contents =
    record { version = c.in_ok-verified.verified.version; maps = c.in_ok-verified.verified.maps; code = c.in_ok-verified.verified.code } in
    let fits : AreFitting c.in_ok-verified.verified.maps c.args.updates.now = search rules in
    let read = inputs _ _ c.args.files.now _ program c.in_ok-frame.frame.bytes c.in_ok-verified.ensures.kept c.in_ok-verified.ensures.file
    c.in_ok-verified.ensures.safe fits c.in_ok-frame.ensures.read c.in_ok-frame.ensures.size in
    let below : c.args.worker < 8 = omega (arith, c.in_ok-moment.ensures.given.1, c.in_ok-moment.ensures.below) in
    let at : HasRunAlone (program_of_run program) (start_of_run c.in_ok-frame.frame.bytes c.in_ok-moment.moment.worker c.in_ok-moment.moment.now_ns) run_options
    c.in_ok-moment.moment.worker c.args.updates.now c.in-Ok.exit.verdict c.in-Ok.exit.steps c.run_over.new.frame c.in_ok-ended.field-0.journals = search rules in
    let ended : IsEndedRun program c.in_ok-frame.frame.bytes c.args.now c.args.worker c.args.updates.now = record {
      verdict = c.in-Ok.exit.verdict;
      steps = c.in-Ok.exit.steps;
      frame = c.run_over.new.frame;
      journals = c.in_ok-ended.field-0.journals;
      ended = ended_so _ _ _ _ _ _ _ _ _ _ _ c.in_ok-moment.ensures.given.1 c.in_ok-moment.ensures.given.0 at;
    } in
    let p = err_from_is_err_and c.from_residual-in_err-write_text_to.result c.from_residual-in_err-write_text_to.ensures.1 in
    rw (p.1, p.2)
    (no_maps_filed program c.in_ok-frame.frame.bytes read below ended
    (λ apart. journals_behind (g.D.Folder.holds c.write_journals_to.new.folder) (g.D.Folder.holds c.write_text_to.new.folder)
    (text_of c.args.files.now.journals) (text_of c.args.files.now.maps) ended.journals c.write_text_to.ensures.others apart
    (written_down (g.D.Folder.holds c.write_journals_to.new.folder) (text_of c.args.files.now.journals) c.in_ok-file.file.bytes
    ended.journals c.in_ok-file.ensures.bytes c.in_ok-write_journals_to.ensures.written))
    (unfiled_since _ _ _ _
    (λ failed. failed_since _ _ _ c.in_ok-verified.ensures.steady (failed_since _ _ _ c.in_ok-frame.ensures.steady
    (failed_since _ _ _ c.in_ok-write_journals_to.ensures.steady failed)))
    c.in_err-write_text_to.ensures.refused))

-- the journals of a run are kept in rows
rows_of_run : (program : Program) (bytes : List ℕ) (updates : List MapUpdate) (verdict : Verdict) (steps : ℕ) (frame : FrameView) (journals : JournalsView)
    (worker now : ℕ) → HasRunAlone program (start_of_run bytes worker now) run_options worker updates verdict steps frame journals
    → KeepsRows journals.options.journal
rows_of_run program bytes updates verdict steps frame journals worker now ran =
    let same = ap (λ (o : Options). o.journal) ran.journals_are.options_are in omega (arith, same)

pub journal_bytes-requires : goal.journal_bytes-requires
journal_bytes-requires g c = λ file is.
    let program : Contents =
    record { version = c.in_ok-verified.verified.version; maps = c.in_ok-verified.verified.maps; code = c.in_ok-verified.verified.code } in
    let at : HasRunAlone (program_of_run program) (start_of_run c.in_ok-frame.frame.bytes c.in_ok-moment.moment.worker c.in_ok-moment.moment.now_ns) run_options
    c.in_ok-moment.moment.worker c.args.updates.now c.in-Ok.exit.verdict c.in-Ok.exit.steps c.run_over.new.frame c.in_ok-ended.field-0.journals = search rules in
    rows_of_run _ _ _ _ _ _ _ _ _ at

pub maps_lines-requires : goal.maps_lines-requires
maps_lines-requires g c =
    let program : Contents =
    record { version = c.in_ok-verified.verified.version; maps = c.in_ok-verified.verified.maps; code = c.in_ok-verified.verified.code } in
    let at : HasRunAlone (program_of_run program) (start_of_run c.in_ok-frame.frame.bytes c.in_ok-moment.moment.worker c.in_ok-moment.moment.now_ns) run_options
    c.in_ok-moment.moment.worker c.args.updates.now c.in-Ok.exit.verdict c.in-Ok.exit.steps c.run_over.new.frame c.in_ok-ended.field-0.journals = search rules in
    legal_of_run _ _ _ _ _ _ _ _ _ at
