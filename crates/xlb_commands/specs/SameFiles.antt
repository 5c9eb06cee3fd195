-- Exact replays of one input write the same files, and print the same report; with journals of another size, too.
use Rattle.std.specs.Prelude.{◌≡◌, ◌++◌, Bool, true, List}
use Rattle.wire.specs.declared.records.Sent.{Sent}
use Rattle.wire.specs.CaptureFormat.{capture_bytes}
use Rattle.semantics.specs.declared.options.Options.{Options}
use Rattle.semantics.specs.Program.{Program}
use Rattle.map_updates.specs.declared.update.MapUpdate.{MapUpdate}
use Rattle.control.specs.declared.command.Command.{Command}
use Rattle.journals.specs.JournalText.{journals_text}
use Rattle.traffic.specs.declared.record_line.ReportForm.{ReportForm}
use Rattle.actors.specs.declared.outcome.Outcome.{Outcome}
use Rattle.replay.specs.SameReplays.{AreSameFrames, HadMemory}
use Rattle.replay.specs.OtherJournals.{AreSameButJournals, HadRoom}
use Rattle.xlb_commands.specs.RecordReports.{report_text}
use Rattle.xlb_commands.specs.Replays.{IsMade, counts_text, refusals_text}

-- the files of the sent frames and of the report, in either form, have the same bytes, and what is printed is the same
pub record SendTheSameBytes (script : List Command) (records others : List Sent) (one other : Outcome) : Type 0 where
  pub sent : capture_bytes one.sent.items ≡ capture_bytes other.sent.items
  pub report :
      (form : ReportForm) (is_shipped : Bool) →
      report_text form is_shipped script records one.ends.items one.sent.items
      ≡ report_text form is_shipped script others other.ends.items other.sent.items
  pub printed : counts_text one.counts ++ refusals_text one.refused.items ≡ counts_text other.counts ++ refusals_text other.refused.items

-- and so have the files of the journals
pub record WriteTheSame (script : List Command) (records others : List Sent) (one other : Outcome) : Type 0 where
  pub besides : SendTheSameBytes script records others one other
  pub journals : journals_text one.journals ≡ journals_text other.journals

-- Any two exact replays of one program and script, with the same options and updates, of captures of the same frames at the same moments:
-- unless memory was refused to a command of either, they write and print the same.
abbrev pub ExactReplaysWriteTheSame : Type 0
ExactReplaysWriteTheSame =
    (program : Program) (updates : List MapUpdate) (script : List Command) (options : Options) (records others : List Sent)
    (one other : Outcome) → AreSameFrames records others → IsMade true program updates script options records one →
    IsMade true program updates script options others other → HadMemory one.refused.items → HadMemory other.refused.items →
    WriteTheSame script records others one other

-- Besides, the size of the journals may differ, where none was full for a run or for a command: then all but the journals is the same.
abbrev pub JournalsChangeNoBytes : Type 0
JournalsChangeNoBytes =
    (program : Program) (updates : List MapUpdate) (script : List Command) (options others_options : Options) (records others : List Sent)
    (one other : Outcome) → AreSameButJournals options others_options → AreSameFrames records others →
    IsMade true program updates script options records one → IsMade true program updates script others_options others other →
    HadMemory one.refused.items → HadMemory other.refused.items → HadRoom one → HadRoom other →
    SendTheSameBytes script records others one other
