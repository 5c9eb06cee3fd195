-- What the report of a file beside the script of another comes to.
use Rattle.std.specs.Prelude.{ℕ, List}
use Rattle.control.specs.declared.command.Command.{Command}
use Rattle.xlb_commands.specs.Files.{FileBytes}
use Rattle.xlb_commands.specs.Replays.{IsScriptFile}
use Rattle.xlb_commands.specs.LookingBack.{IsPageAnswered, IsPageOfFiles}
use Rattle.xlb_commands.specs.declared.looking_back.ReportAnswer.{ReportAnswer}
use Rattle.xlb_commands.specs.declared.looking_back.ReportAnswer.TheVariants.{Shown, NoReport}

-- the page of two files is that of their bytes
pub page_of_both : (files : FileBytes) (report script bytes : List ℕ) (commands : List Command) → files report bytes → IsScriptFile files script commands
    → (answer : ReportAnswer) → IsPageAnswered report bytes commands answer → IsPageOfFiles files report script answer
page_of_both files report script bytes commands read spelled (Shown text notes) page =
    record { bytes = bytes; commands = commands; read = read; spelled = spelled; page = page }
page_of_both files report script bytes commands read spelled (NoReport text) unread = record {
  bytes = bytes;
  commands = commands;
  read = read;
  spelled = spelled;
  why = unread.0;
  unread = unread.1;
  not_memory = unread.2;
  text_is = unread.3;
}
