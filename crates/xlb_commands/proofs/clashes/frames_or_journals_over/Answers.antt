use Rattle.std.proofs.Common.{◌≡◌, ◌⊎◌, inl, inr, ℕ, List, Some, rules, ap, refl, sym}
use Rattle.command_line.specs.declared.commands.ReplayFiles.{ReplayFiles}
use Rattle.xlb_commands.specs.Clashes.{IsReplayInput}
use Rattle.xlb_commands.proofs.clashes.frames_or_journals_over.Goals as goal

-- journals that are no input and not the sent frames
journals_apart : (files : ReplayFiles) (name second : List ℕ) → (IsReplayInput files second → name ≡ second → ⊥)
    → (files.sent.now ≡ second → name ≡ second → ⊥) → IsReplayInput files second ⊎ (second ≡ files.sent.now) → name ≡ second → ⊥
journals_apart files name second no_input not_sent (inl input) same = no_input input same
journals_apart files name second no_input not_sent (inr is) same = not_sent (sym is) same

pub returns-clause-sent : goal.returns-clause-sent
returns-clause-sent g c = λ none second input same.
    c.over_inputs.ensures.none (search rules) c.args.files.now.sent.now second refl input same

pub returns-clause-journals : goal.returns-clause-journals
returns-clause-journals g c = λ none name second named either same.
    journals_apart c.args.files.now name second
    (λ input. c.over_inputs-2.ensures.none (search rules) name second named input)
    (λ is. c.over_output.ensures.none none name second named (ap (λ (it : List ℕ). Some it) is))
    either same
