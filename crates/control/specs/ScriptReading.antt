-- What is read of a script: its commands, or the first line that is not a command.
use Rattle.std.specs.Prelude.{◌≡◌, ◌≢◌, ℕ, ◌+◌, ◌<◌, ◌≤◌, ◌⊎◌, List, [], ◌∷◌, ◌++◌, length, Option, Some, None}
use Rattle.std.specs.List.{AllByRecursion}
use Rattle.std.specs.Str.{IsUtf8}
use Rattle.text_lines.specs.NoText.{IsNoText}
use Rattle.control.specs.declared.command.Command.{Command}
use Rattle.control.specs.declared.fault.ControlFault.{ControlFault}
use Rattle.control.specs.declared.fault.ControlFault.TheVariants.{BadLine, Memory}
use Rattle.text_lines.specs.Lines.{ended}
use Rattle.control.specs.ScriptText.{CommandFits, IsCommandLine, NeverFalls, script_line, script_text}

-- the one command whose line this is, if it is one's
abbrev pub TellsCommand : List ℕ → Option Command → Type 0
TellsCommand line None = (command : Command) → ¬ IsCommandLine command line
TellsCommand line (Some command) = IsCommandLine command line × ((other : Command) → IsCommandLine other line → other ≡ command)

-- a command that no other one's line spells
abbrev pub IsKnownCommand : Command → Type 0
IsKnownCommand command = TellsCommand (script_line command) (Some command)

-- the first line is no command's, or there is no whole line
abbrev pub BeginsWithNoCommand : List ℕ → Type 0
BeginsWithNoCommand text = (command : Command) (line more : List ℕ) → IsCommandLine command line → text ≢ line ++ 10 ∷ more

-- nor one's whose frame is this one or later
abbrev pub BeginsWithNoCommandFrom : ℕ → List ℕ → Type 0
BeginsWithNoCommandFrom least text =
    (command : Command) (line more : List ℕ) → IsCommandLine command line → least ≤ command.frame → text ≢ line ++ 10 ∷ more

-- the first line is this command's
pub record IsFirstCommand (text : List ℕ) (command : Command) (rest : List ℕ) : Type 0 where
  pub known : IsKnownCommand command
  pub text_is : text ≡ ended (script_line command) ++ rest

-- the frame of the last command, or this one
abbrev pub last_frame : ℕ → List Command → ℕ
last_frame least [] = least
last_frame least (command ∷ commands) = last_frame command.frame commands

-- as many commands' lines as there are, and the rest
pub record AreCommandsRead (text : List ℕ) (commands : List Command) (rest : List ℕ) : Type 0 where
  pub known : AllByRecursion IsKnownCommand commands
  pub never_falls : NeverFalls 0 commands
  pub text_is : text ≡ script_text commands ++ rest
  pub stops : BeginsWithNoCommandFrom (last_frame 0 commands) rest

-- ---- which line is bad

-- after these commands comes a line that is not a command, or one of an earlier frame
pub record IsBadAfterCommands (text : List ℕ) (line : ℕ) : Type 0 where
  pub commands : List Command
  pub rest : List ℕ
  pub fit : AllByRecursion CommandFits commands
  pub never_falls : NeverFalls 0 commands
  pub line_is : line ≡ 1 + length commands
  pub text_is : text ≡ script_text commands ++ rest
  pub not_ended : 0 < length rest
  pub stops : BeginsWithNoCommandFrom (last_frame 0 commands) rest

-- the line, counted from 1, for which the bytes are refused
abbrev pub IsBadScriptLine : List ℕ → ℕ → Type 0
IsBadScriptLine bytes line = IsNoText bytes line ⊎ (IsUtf8 bytes × IsBadAfterCommands bytes line)

-- why the bytes are no script
pub record IsScriptRefusedAt (bytes : List ℕ) (fault : ControlFault) : Type 0 where
  pub line : ℕ
  pub fault_is : fault ≡ BadLine line
  pub bad : IsBadScriptLine bytes line

-- why the bytes were not read: a bad line, or memory was refused
abbrev pub ExplainsScript : List ℕ → ControlFault → Type 0
ExplainsScript bytes fault = IsScriptRefusedAt bytes fault ⊎ (fault ≡ Memory)
