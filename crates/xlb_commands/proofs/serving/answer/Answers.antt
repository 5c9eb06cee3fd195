use Rattle.std.proofs.Common.{◌≡◌, ◌∙◌, ℕ, List, [], true, false, rules, refl, subst, sym, ap, string_bytes, true≢false}
use Rattle.std.specs.Borrow.{Bor}
use Rattle.command_line.specs.declared.commands.Reading.{Reading}
use Rattle.command_line.specs.declared.commands.Settings.{Settings}
use Rattle.command_line.specs.declared.commands.Settings.TheVariants.{Script, Shipped, Table}
use Rattle.xlb_commands.specs.Files.{FileBytes}
use Rattle.xlb_commands.specs.Replays.{capture_reading}
use Rattle.xlb_commands.specs.Results.{IsAnswer, IsShippedFile}
use Rattle.xlb_commands.specs.Tables.{IsTableShown}
use Rattle.xlb_commands.specs.Timed.{IsScriptShown}
use Rattle.xlb_commands.specs.declared.report.Report.{Report}
use Rattle.xlb_commands.specs.declared.serving.CommandAnswer.{CommandAnswer}
use Rattle.xlb_commands.specs.declared.serving.CommandAnswer.TheVariants as answers
use Rattle.xlb_commands.proofs.serving.answer.Goals as goal

-- the shipped program is written whole, and nothing is printed
shipped_whole : (before after : FileBytes) (settings : Settings) (out : Bor (List ℕ)) (ring flows : ℕ) (answer : CommandAnswer) (report : Report)
    → settings ≡ Shipped out ring flows → answer ≡ answers.Reported report → report.is_refused ≡ false → string_bytes report.text ≡ []
    → IsShippedFile after out.now flows ring → IsAnswer before after settings answer
shipped_whole before after settings out ring flows answer report same is whole silent done =
    rw (same, is) ((λ _. (done, silent)), (λ refused. true≢false (sym refused ∙ whole)))

pub returns-in_ok-write_shipped-in-Shipped-clause-answered : goal.returns-in_ok-write_shipped-in-Shipped-clause-answered
returns-in_ok-write_shipped-in-Shipped-clause-answered g c =
    let made = c.reported-in-Shipped.ensures in
    let same : c.args.settings.now ≡ Shipped c.in-Shipped.out c.in-Shipped.ring c.in-Shipped.flows = search rules in
    shipped_whole _ _ c.args.settings.now c.in-Shipped.out c.in-Shipped.ring c.in-Shipped.flows c.reported-in-Shipped.result made.0 same made.1 made.2
    (ap string_bytes made.3 ∙ c.in_ok-write_shipped-in-Shipped.ensures.silent) c.in_ok-write_shipped-in-Shipped.ensures.done

-- tables are printed, of a script with a command that was refused, or with none
tables_shown : (before after : FileBytes) (settings : Settings) (script : Bor (List ℕ)) (ring : ℕ) (answer : CommandAnswer) (report : Report)
    → settings ≡ Table script ring → answer ≡ answers.Reported report
    → IsTableShown before script.now ring (string_bytes report.text) report.is_refused → IsAnswer before after settings answer
tables_shown before after settings script ring answer report same is shown =
    rw (same, is) (
      (λ whole. subst (IsTableShown before script.now ring (string_bytes report.text)) whole shown),
      (λ part. subst (IsTableShown before script.now ring (string_bytes report.text)) part shown),
    )

pub returns-in_ok-table_file-in-Table-clause-answered : goal.returns-in_ok-table_file-in-Table-clause-answered
returns-in_ok-table_file-in-Table-clause-answered g c =
    let same : c.args.settings.now ≡ Table c.in-Table.script c.in-Table.ring = search rules in
    tables_shown _ _ c.args.settings.now c.in-Table.script c.in-Table.ring _ c.in_ok-table_file-in-Table.field-0 same refl
    c.in_ok-table_file-in-Table.ensures.done

-- the script that a timed script means is printed, whole
script_shown : (before after : FileBytes) (settings : Settings) (capture timed : Bor (List ℕ)) (reading : Reading) (answer : CommandAnswer) (report : Report)
    → settings ≡ Script capture timed reading → answer ≡ answers.Reported report → report.is_refused ≡ false
    → IsScriptShown before (capture_reading reading) capture.now timed.now (string_bytes report.text) → IsAnswer before after settings answer
script_shown before after settings capture timed reading answer report same is whole shown =
    rw (same, is) ((λ _. shown), (λ refused. true≢false (sym refused ∙ whole)))

pub returns-in_ok-timed_file-in-Script-clause-answered : goal.returns-in_ok-timed_file-in-Script-clause-answered
returns-in_ok-timed_file-in-Script-clause-answered g c =
    let same : c.args.settings.now ≡ Script c.in-Script.capture c.in-Script.timed c.in-Script.reading = search rules in
    script_shown _ _ c.args.settings.now c.in-Script.capture c.in-Script.timed c.in-Script.reading _ c.in_ok-timed_file-in-Script.field-0 same refl
    c.in_ok-timed_file-in-Script.ensures.whole (rw c.capture_reading-reading.ensures at c.in_ok-timed_file-in-Script.ensures.done)
