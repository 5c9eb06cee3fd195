use Rattle.std.proofs.Common.{arith, ◌≡◌, ◌≢◌, ◌∙◌, ℕ, List, Option, None, Some, ap, sym}
use Rattle.std.proofs.lemmas.Result.{IfErr-weaker, on_ok_weaker}
use Rattle.command_line.specs.Reading.{text_of}
use Rattle.xlb_commands.specs.Files.{FileBytes, AreOthersKept}
use Rattle.xlb_commands.specs.Refused.{HasFailed, no_journals_file, no_report_file}
use Rattle.xlb_commands.specs.Replays.{HasBytes}
use Rattle.xlb_commands.proofs.Earlier.{unfiled_still}
use Rattle.xlb_commands.proofs.Refusals.{failed_since, unfiled_since, written_down}
use Rattle.xlb_commands.proofs.made_in_pieces.write_pieces.Goals as goal

failed_still : (first second third : ℕ) → third ≡ second → HasFailed first second → HasFailed first third
failed_still first second third same failed = omega arith

pub returns-in-Err-clause-others : goal.returns-in-Err-clause-others
returns-in-Err-clause-others g c = λ name bytes first second third.
    let one = c.finish_file.ensures.others name bytes first in
    let other = c.write_journals_to.ensures.others name bytes second in
    let last = c.give_up.ensures.kept name bytes in
    (λ held. last.0 (other.0 (one.0 held)), λ held. one.1 (other.1 (last.1 held)))

pub returns-in-Err-clause-refused : goal.returns-in-Err-clause-refused
returns-in-Err-clause-refused g c = λ bytes view begun same.
    unfiled_still _ _ _ _ _ c.args.files.now bytes view c.in-Err.refusal.fault c.give_up.ensures.kept (failed_still _ _ _ c.give_up.ensures.steady)
    (no_journals_file
    (λ other. (c.write_journals_to.ensures.others _ _ other).0 (c.in_ok-finish_file.ensures.made bytes begun))
    (unfiled_since _ _ _ _ (failed_since _ _ _ c.in_ok-finish_file.ensures.steady) c.in-Err.ensures.refused))

-- the journals stay where the report gets another name
stays : (before after : FileBytes) (report : List ℕ) (name : Option (List ℕ)) (bytes : List ℕ) → AreOthersKept before after report → HasBytes before name bytes
    → (Some report ≢ name) → HasBytes after name bytes
stays before after report None bytes others has apart = has
stays before after report (Some file) bytes others has apart =
    (others file bytes (λ same. apart (ap (λ (it : List ℕ). Some it) (sym same)))).0 has

pub returns-in-Some-clause-journals : goal.returns-in-Some-clause-journals
returns-in-Some-clause-journals g c =
    on_ok_weaker c.finish_file-in-Some.result
    (λ made apart. stays (g.D.Folder.holds c.write_journals_to.new.folder) (g.D.Folder.holds c.finish_file-in-Some.new.folder) c.in-Some.name.now
    (text_of c.args.files.now.journals) c.args.journals.now.bytes c.finish_file-in-Some.ensures.others c.in_default.ensures.written
    (λ same. apart (ap text_of c.in-Some.is ∙ same)))
    c.finish_file-in-Some.ensures.made

pub returns-in-Some-clause-steady : goal.returns-in-Some-clause-steady
returns-in-Some-clause-steady g c =
    on_ok_weaker c.finish_file-in-Some.result (λ same. same ∙ (c.in_default.ensures.steady ∙ c.in_ok-finish_file.ensures.steady))
    c.finish_file-in-Some.ensures.steady

pub returns-in-Some-clause-refused : goal.returns-in-Some-clause-refused
returns-in-Some-clause-refused g c =
    IfErr-weaker c.finish_file-in-Some.result _ _
    (λ refusal is bytes view begun same.
    let held = c.in_ok-finish_file.ensures.made bytes begun in
    no_report_file
    (λ other third. (c.finish_file-in-Some.ensures.others _ _ (λ it. third (ap text_of c.in-Some.is ∙ ap (λ (name : List ℕ). Some name) (sym it)))).0
    ((c.write_journals_to.ensures.others _ _ other).0 held))
    (λ apart. written_down _ (text_of c.args.files.now.journals) _ view same
    (stays _ _ c.in-Some.name.now (text_of c.args.files.now.journals) c.args.journals.now.bytes c.finish_file-in-Some.ensures.others
    c.in_default.ensures.written (λ it. apart (ap text_of c.in-Some.is ∙ it))))
    (unfiled_since _ _ _ _
    (λ failed. failed_since _ _ _ c.in_ok-finish_file.ensures.steady (failed_since _ _ _ c.in_default.ensures.steady failed))
    record { name = c.in-Some.name.now; named = ap text_of c.in-Some.is; unserved = is }))
    c.finish_file-in-Some.ensures.refused
