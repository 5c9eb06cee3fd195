-- The script that a timed script means for the records of a capture.
use Rattle.std.specs.Prelude.{◌≡◌, ℕ, ◌+◌, ◌==◌, ◌⊎◌, Bool, false, List, [], ◌∷◌, ◌++◌, length, if◌then◌else◌}
use Rattle.wire.specs.declared.records.Sent.{Sent}
use Rattle.control.specs.declared.command.Command.{Command}
use Rattle.control.specs.declared.fault.ControlFault.{ControlFault}
use Rattle.control.specs.declared.fault.ControlFault.TheVariants.{BadLine, Memory}
use Rattle.control.specs.ScriptText.{IsScriptText}
use Rattle.timed_scripts.specs.Moments.{records_before}
use Rattle.timed_scripts.specs.TimedLines.{Meaning, nothing, does, IsTimedText, IsBadTimedLine}

-- the command that a line means: its action, behind the records that come before its moment
abbrev pub commands_in : List Sent → Meaning → List Command
commands_in records nothing = []
commands_in records (does moment action) = record { frame = records_before moment records; action = action } ∷ []

-- the commands that the lines mean, in their order
abbrev pub commands_of : List Sent → List Meaning → List Command
commands_of records [] = []
commands_of records (meaning ∷ meanings) = commands_in records meaning ++ commands_of records meanings

-- no record is as late as what is said
abbrev pub is_late : List Sent → Meaning → Bool
is_late records nothing = false
is_late records (does moment action) = records_before moment records == length records

abbrev pub late_in : List Sent → ℕ → Meaning → List ℕ
late_in records line meaning = if is_late records meaning then line ∷ [] else []

-- the lines, counted on from one, whose moments lie behind the last record
abbrev pub late_lines : List Sent → ℕ → List Meaning → List ℕ
late_lines records line [] = []
late_lines records line (meaning ∷ meanings) = late_in records line meaning ++ late_lines records (line + 1) meanings

-- the bytes are a timed script; the text is that of the script of its commands; and these of its lines lie behind the last record
pub record IsMeantScript (records : List Sent) (bytes : List ℕ) (text : List ℕ) (late : List ℕ) : Type 0 where
  pub meanings : List Meaning
  pub read : IsTimedText records bytes meanings
  pub script : IsScriptText text (commands_of records meanings)
  pub late_is : late ≡ late_lines records 1 meanings

-- why the bytes mean no script, by the line
pub record IsTimedScriptRefusedAt (records : List Sent) (bytes : List ℕ) (fault : ControlFault) : Type 0 where
  pub line : ℕ
  pub fault_is : fault ≡ BadLine line
  pub bad : IsBadTimedLine records bytes line

-- why there is no script: a bad line, or memory was refused
abbrev pub ExplainsTimedScript : List Sent → List ℕ → ControlFault → Type 0
ExplainsTimedScript records bytes fault = IsTimedScriptRefusedAt records bytes fault ⊎ (fault ≡ Memory)
