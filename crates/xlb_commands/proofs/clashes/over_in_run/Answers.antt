use Rattle.std.proofs.Common.{◌≡◌, inl, inr, ℕ, List, Some, rules, sym}
use Rattle.std.specs.Prelude.{◌≢◌}
use Rattle.command_line.specs.declared.commands.RunFiles.{RunFiles}
use Rattle.command_line.specs.Reading.{text_of}
use Rattle.xlb_commands.specs.Clashes.{IsOverInRun, IsRunInput}
use Rattle.xlb_commands.proofs.clashes.over_in_run.Goals as goal

-- what a run writes: the journals, or what the maps hold
run_apart : (files : RunFiles) (written other : List ℕ)
    → ((name second : List ℕ) → text_of files.journals ≡ Some name → IsRunInput files second → name ≢ second)
    → ((name second : List ℕ) → text_of files.maps ≡ Some name → IsRunInput files second → name ≢ second)
    → ((name second : List ℕ) → text_of files.maps ≡ Some name → text_of files.journals ≡ Some second → name ≢ second)
    → IsOverInRun files written other → written ≢ other
run_apart files written other journals maps behind (inl both) = journals written other both.0 both.1
run_apart files written other journals maps behind (inr (inl both)) = maps written other both.0 both.1
run_apart files written other journals maps behind (inr (inr (inl both))) = behind written other both.0 both.1
run_apart files written other journals maps behind (inr (inr (inr both))) = λ same. behind other written both.0 both.1 (sym same)

pub returns-clause-none : goal.returns-clause-none
returns-clause-none g c = λ none written other over.
    run_apart c.args.files.now written other
    (c.over_run_inputs.ensures.none (search rules)) (c.over_run_inputs-2.ensures.none (search rules)) (c.over_output.ensures.none none) over
