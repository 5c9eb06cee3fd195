use Rattle.std.proofs.Common.{◌≡◌, List}
use Rattle.folders.specs.PieceReading.{HasRoom, IsReadTo, most_to_come}
use Rattle.wire.specs.declared.records.Sent.{Sent}
use Rattle.xlb_commands.specs.Files.{AreKept}
use Rattle.xlb_commands.specs.Parts.{command_frames}
use Rattle.xlb_commands.specs.Taking.{HasPassed}
use Rattle.xlb_commands.proofs.in_pieces.pass_records.Given as goal

-- the records so far
pub record Looked (g : goal.Over) (l : goal.Live-records g) : Type 0 where
  pub records : List Sent
  pub read : IsReadTo l.fn.asked.reading (g.D.Folder.holds l.fn.folder l.fn.asked.files.now.capture.now) (g.D.Folder.is_left l.folder) records l.reader
  pub passed : HasPassed l.fn.asked.part (command_frames l.fn.script) records l.taking
  pub room : HasRoom (g.D.Folder.most_left l.folder) l.reader
  pub kept : AreKept (g.D.Folder.holds l.fn.folder) (g.D.Folder.holds l.folder)
  pub made : AreKept (g.D.Folder.is_begun l.fn.folder) (g.D.Folder.is_begun l.folder)
  pub steady : g.D.Folder.failure_count l.folder ≡ g.D.Folder.failure_count l.fn.folder

abbrev pub invariant-records : goal.invariant-records
invariant-records g l = Looked g l

abbrev pub decreases-records : goal.decreases-records
decreases-records g l = most_to_come (g.D.Folder.most_left l.folder) l.reader
