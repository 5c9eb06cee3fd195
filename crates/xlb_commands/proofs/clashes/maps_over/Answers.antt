use Rattle.std.proofs.Common.{◌≡◌, ◌⊎◌, inl, inr, ℕ, List, Some, rules}
use Rattle.command_line.specs.declared.commands.ReplayFiles.{ReplayFiles}
use Rattle.command_line.specs.Reading.{text_of}
use Rattle.xlb_commands.specs.Clashes.{IsBeforeReport}
use Rattle.xlb_commands.proofs.clashes.maps_over.Goals as goal

-- a file that is none before the report, and not the report
last_apart : (files : ReplayFiles) (name second : List ℕ) → (IsBeforeReport files second → name ≡ second → ⊥)
    → (text_of files.report ≡ Some second → name ≡ second → ⊥)
    → IsBeforeReport files second ⊎ (text_of files.report ≡ Some second) → name ≡ second → ⊥
last_apart files name second not_before no_report (inl is) same = not_before is same
last_apart files name second not_before no_report (inr is) same = no_report is same

pub returns-clause-none : goal.returns-clause-none
returns-clause-none g c = λ none name second named either same.
    last_apart c.args.files.now name second
    (λ is. c.over_before_report.ensures.none (search rules) name second named is)
    (λ is. c.over_output.ensures.none none name second named is)
    either same
