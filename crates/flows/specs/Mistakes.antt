-- What is printed where the flows of a file are not told.
use Rattle.std.specs.Prelude.{ℕ, ◌++◌, List, codes, decimal}
use Rattle.comparison.specs.Mistakes.{json_text, no_report_text, wrong_field_text}
use Rattle.flows.specs.declared.fault.NoFlows.{NoFlows}
use Rattle.flows.specs.declared.fault.NoFlows.TheVariants.{JsonLines, LeftOut, Memory, NoReport, WrongField}

abbrev pub left_out_text : List ℕ → ℕ → List ℕ
left_out_text name line =
    codes "error: " ++ (name ++ (codes " is not of all records of a replay: line " ++ (decimal line ++ codes "\n")))

abbrev pub refusal_text : NoFlows → List ℕ → List ℕ
refusal_text JsonLines name = json_text name
refusal_text (NoReport line) name = no_report_text name line
refusal_text (WrongField line column) name = wrong_field_text name line column
refusal_text (LeftOut line) name = left_out_text name line
refusal_text Memory name = codes "fault 8 Memory\n"
