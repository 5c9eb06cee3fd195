-- Two commands with `--exact`, on folders whose files have the same bytes, leave files of the same bytes, and print the same.
use Rattle.std.specs.Prelude.{◌≡◌, ◌≢◌, ℕ, true, List, Option, Some, None}
use Rattle.actors.specs.declared.outcome.Applied.{Applied}
use Rattle.replay.specs.SameReplays.{HadMemory}
use Rattle.command_line.specs.Reading.{text_of}
use Rattle.command_line.specs.declared.commands.ReplayFiles.{ReplayFiles}
use Rattle.command_line.specs.declared.commands.ReplaySettings.{ReplaySettings}
use Rattle.xlb_commands.specs.Files.{FileBytes}
use Rattle.xlb_commands.specs.Replays.{IsReplayed}

-- a file that both have by one name has the same bytes in both
abbrev pub AreSameFiles : FileBytes → FileBytes → Type 0
AreSameFiles one other = (name bytes others : List ℕ) → one name bytes → other name others → bytes ≡ others

-- both have the file, with the same bytes
pub record HaveTheFile (one other : FileBytes) (name : List ℕ) : Type 0 where
  pub bytes : List ℕ
  pub here : one name bytes
  pub there : other name bytes

-- where one is named
abbrev pub HaveTheSame : FileBytes → FileBytes → Option (List ℕ) → Type 0
HaveTheSame one other None = Unit {0}
HaveTheSame one other (Some name) = HaveTheFile one other name

-- each file that the two commands wrote has the same bytes (no two of them have one name in a command that is done), and they printed the same
pub record LeaveTheSame (files : ReplayFiles) (one other : FileBytes) (printed others : List ℕ) : Type 0 where
  pub sent :
      text_of files.journals ≢ Some files.sent.now → text_of files.report ≢ Some files.sent.now → text_of files.maps ≢ Some files.sent.now →
      HaveTheFile one other files.sent.now
  pub journals :
      text_of files.report ≢ text_of files.journals → text_of files.maps ≢ text_of files.journals →
      HaveTheSame one other (text_of files.journals)
  pub report : text_of files.maps ≢ text_of files.report → HaveTheSame one other (text_of files.report)
  pub lines : printed ≡ others

-- Of two commands `xlb replay --exact` with the same settings, each done in its folder: unless memory was refused to a command of either
-- script, what they leave is the same.
abbrev pub SameFilesLeaveTheSame : {D : Type 0} → (D → FileBytes) → Type 0
SameFilesLeaveTheSame {D} holds =
    (before after its_before its_after : D) (asked : ReplaySettings) (printed others : List ℕ) (refused its_refused : List Applied) →
    asked.exact ≡ true → AreSameFiles (holds before) (holds its_before) →
    IsReplayed (holds before) (holds after) asked printed refused →
    IsReplayed (holds its_before) (holds its_after) asked others its_refused →
    HadMemory refused → HadMemory its_refused → LeaveTheSame asked.files (holds after) (holds its_after) printed others
