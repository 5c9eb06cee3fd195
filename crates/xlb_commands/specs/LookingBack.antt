-- The report of a replay beside its script: what became of each flow, and a page.
use Rattle.std.specs.Prelude.{◌≡◌, ◌≢◌, ℕ, List, string_bytes}
use Rattle.control.specs.declared.command.Command.{Command}
use Rattle.flows.specs.FlowTexts.{AreFlows}
use Rattle.flows.specs.Mistakes.{refusal_text}
use Rattle.flows.specs.Reports.{AreFlowsRefused}
use Rattle.flows.specs.declared.fault.NoFlows.{NoFlows}
use Rattle.flows.specs.declared.fault.NoFlows.TheVariants as flows
use Rattle.page.specs.Page.{IsWholePage}
use Rattle.xlb_commands.specs.Files.{FileBytes}
use Rattle.xlb_commands.specs.Printable.{in_one_line}
use Rattle.xlb_commands.specs.Replays.{IsScriptFile}
use Rattle.xlb_commands.specs.declared.looking_back.ReportAnswer.{ReportAnswer}
use Rattle.xlb_commands.specs.declared.looking_back.ReportAnswer.TheVariants as answers

-- the files are a report and a script, and this is the table of its flows
pub record AreFlowsShown (files : FileBytes) (report script printed : List ℕ) : Type 0 where
  pub bytes : List ℕ
  pub commands : List Command
  pub summary : List ℕ
  pub read : files report bytes
  pub spelled : IsScriptFile files script commands
  pub flows : AreFlows bytes commands printed summary

-- the second file is a script, the first one is no report whose rows are records 1, 2, 3 and so on, and the text says why
pub record AreNoFlows (files : FileBytes) (report script text : List ℕ) : Type 0 where
  pub bytes : List ℕ
  pub commands : List Command
  pub read : files report bytes
  pub spelled : IsScriptFile files script commands
  pub why : NoFlows
  pub refused : AreFlowsRefused bytes why
  pub not_memory : why ≢ flows.Memory
  pub text_is : text ≡ refusal_text why (in_one_line report)

-- the files are a report and a script, and this is the page of both
pub record IsPageShown (files : FileBytes) (report script printed : List ℕ) : Type 0 where
  pub bytes : List ℕ
  pub commands : List Command
  pub read : files report bytes
  pub spelled : IsScriptFile files script commands
  pub page : IsWholePage bytes commands printed

-- the second file is a script, the first one is no report whose rows are records 1, 2, 3 and so on, and the text says why
pub record IsNoPage (files : FileBytes) (report script text : List ℕ) : Type 0 where
  pub bytes : List ℕ
  pub commands : List Command
  pub read : files report bytes
  pub spelled : IsScriptFile files script commands
  pub why : NoFlows
  pub unread : AreFlowsRefused bytes why
  pub not_memory : why ≢ flows.Memory
  pub text_is : text ≡ refusal_text why (in_one_line report)

-- what the flows of a report's bytes come to
abbrev pub AreFlowsAnswered : List ℕ → List ℕ → List Command → ReportAnswer → Type 0
AreFlowsAnswered name bytes commands (answers.Shown text notes) = (summary : List ℕ) × AreFlows bytes commands (string_bytes text) summary
AreFlowsAnswered name bytes commands (answers.NoReport text) =
    (why : NoFlows) × AreFlowsRefused bytes why × (why ≢ flows.Memory) × (string_bytes text ≡ refusal_text why (in_one_line name))

-- and those of two files
abbrev pub AreFlowsOfFiles : FileBytes → List ℕ → List ℕ → ReportAnswer → Type 0
AreFlowsOfFiles files report script (answers.Shown text notes) = AreFlowsShown files report script (string_bytes text)
AreFlowsOfFiles files report script (answers.NoReport text) = AreNoFlows files report script (string_bytes text)

-- what a page of a report's bytes comes to
abbrev pub IsPageAnswered : List ℕ → List ℕ → List Command → ReportAnswer → Type 0
IsPageAnswered name bytes commands (answers.Shown text notes) = IsWholePage bytes commands (string_bytes text)
IsPageAnswered name bytes commands (answers.NoReport text) =
    (why : NoFlows) × AreFlowsRefused bytes why × (why ≢ flows.Memory) × (string_bytes text ≡ refusal_text why (in_one_line name))

-- and one of two files
abbrev pub IsPageOfFiles : FileBytes → List ℕ → List ℕ → ReportAnswer → Type 0
IsPageOfFiles files report script (answers.Shown text notes) = IsPageShown files report script (string_bytes text)
IsPageOfFiles files report script (answers.NoReport text) = IsNoPage files report script (string_bytes text)
