-- What is read of a line, and what is put of it.
use Rattle.std.specs.Prelude.{◌≡◌, ℕ, ◌<◌, ◌^◌, ℤ, ◌==◌, ◌⊎◌, List, [], ◌∷◌, ◌++◌, length, Option, Some, if◌then◌else◌}
use Rattle.std.specs.Fmt.{decimal}
use Rattle.wire.specs.declared.records.Sent.{Sent}
use Rattle.control.specs.declared.command.Action.{Action}
use Rattle.control.specs.declared.fault.ControlFault.{ControlFault}
use Rattle.control.specs.declared.fault.ControlFault.TheVariants.{BadLine, Memory}
use Rattle.control.specs.ScriptText.{action_text, script_text}
use Rattle.text_lines.specs.Lines.{ended}
use Rattle.timed_scripts.specs.declared.lines.Said.{Said}
use Rattle.timed_scripts.specs.declared.lines.Said.TheVariants.{Unknown, Nothing, Does}
use Rattle.timed_scripts.specs.Moments.{records_before}
use Rattle.timed_scripts.specs.TimedLines.{Meaning, IsTimedCommand, SaysContent, Says, IsFrom, GoesOn, moment_after, IsBadAfterTimedLines}
use Rattle.timed_scripts.specs.MeantScript.{commands_in, late_in}

-- what is read of a line without its comment
abbrev pub TellsSaid : List Sent → List ℕ → Said → Type 0
TellsSaid records text Unknown = (meaning : Meaning) → ¬ SaysContent records text meaning
TellsSaid records text Nothing = text ≡ []
TellsSaid records text (Does moment words) = (action : Action) × IsTimedCommand records text moment action × (words.now ≡ action_text action)

-- a command may come next
abbrev pub MayCome : List Sent → Option ℤ → ℤ → Type 0
MayCome records least moment = IsFrom least moment × (records_before moment records < 2 ^ 32)

-- the number of records before the moment, a blank and the words
abbrev pub command_line : List Sent → ℤ → List ℕ → List ℕ
command_line records moment words = ended (decimal (records_before moment records) ++ 32 ∷ words)

-- the line of a command is put behind the text, and its number behind those that are late
pub record IsCommandPut (records : List Sent) (number : ℕ) (least : Option ℤ) (moment : ℤ) (words : List ℕ) (next : Option ℤ)
    (text text' : List ℕ) (late late' : List ℕ) : Type 0 where
  pub may_come : MayCome records least moment
  pub next_is : next ≡ Some moment
  pub text_is : text' ≡ text ++ command_line records moment words
  pub late_is : late' ≡ late ++ (if records_before moment records == length records then number ∷ [] else [])

-- what a line says is put behind the text, and its number behind those that are late
pub record IsLinePut (records : List Sent) (number : ℕ) (least : Option ℤ) (line : List ℕ) (next : Option ℤ) (text text' : List ℕ)
    (late late' : List ℕ) : Type 0 where
  pub meaning : Meaning
  pub says : Says records line meaning
  pub goes_on : GoesOn records least meaning
  pub next_is : next ≡ moment_after least meaning
  pub text_is : text' ≡ text ++ script_text (commands_in records meaning)
  pub late_is : late' ≡ late ++ late_in records number meaning

-- the line says nothing, or nothing that may come next
abbrev pub IsNoNext : List Sent → Option ℤ → List ℕ → Type 0
IsNoNext records least line = (meaning : Meaning) → Says records line meaning → ¬ GoesOn records least meaning

-- why no script was made of a text
abbrev pub ExplainsTimedText : List Sent → List ℕ → ControlFault → Type 0
ExplainsTimedText records text fault = ((line : ℕ) × (fault ≡ BadLine line) × IsBadAfterTimedLines records text line) ⊎ (fault ≡ Memory)
