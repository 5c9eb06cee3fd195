use Rattle.std.proofs.Common.{◌≡◌, inl, inr, ℕ, List, Some, rules, ap, sym}
use Rattle.command_line.specs.declared.commands.ReplayFiles.{ReplayFiles}
use Rattle.command_line.specs.Reading.{text_of}
use Rattle.xlb_commands.specs.Clashes.{IsBeforeReport, IsReplayInput}
use Rattle.xlb_commands.proofs.clashes.over_before_report.Goals as goal

-- a file that is no input, not the sent frames and not the journals
behind_apart : (files : ReplayFiles) (name second : List ℕ) → (IsReplayInput files second → name ≡ second → ⊥)
    → (files.sent.now ≡ second → name ≡ second → ⊥) → (text_of files.journals ≡ Some second → name ≡ second → ⊥)
    → IsBeforeReport files second → name ≡ second → ⊥
behind_apart files name second no_input not_sent no_journals (inl input) same = no_input input same
behind_apart files name second no_input not_sent no_journals (inr (inl is)) same = not_sent (sym is) same
behind_apart files name second no_input not_sent no_journals (inr (inr is)) same = no_journals is same

pub returns-clause-none : goal.returns-clause-none
returns-clause-none g c = λ none name second named either same.
    behind_apart c.args.files.now name second
    (λ input. c.over_inputs.ensures.none (search rules) name second named input)
    (λ is. c.over_output.ensures.none (search rules) name second named (ap (λ (it : List ℕ). Some it) is))
    (λ is. c.over_output-2.ensures.none none name second named is)
    either same
