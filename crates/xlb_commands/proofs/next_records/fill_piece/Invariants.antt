use Rattle.std.proofs.Common.{◌≡◌, ◌+◌, ◌*◌, ◌≤◌, List, length}
use Rattle.folders.specs.PieceReading.{HasRoom, ReadsOn, most_to_come}
use Rattle.wire.specs.declared.records.Sent.{Sent}
use Rattle.xlb_commands.specs.Files.{AreKept}
use Rattle.xlb_commands.specs.Taking.{AreRecordsTaken, GoesPast}
use Rattle.xlb_commands.proofs.next_records.fill_piece.Given as goal

-- the records so far: those that are taken are in the buffer
pub record Filled (g : goal.Over) (l : goal.Live-records g) : Type 0 where
  pub records : List Sent
  pub read : ReadsOn g.D.Folder.holds (g.D.Folder.is_left l.fn.folder) (g.D.Folder.is_left l.folder) l.fn.reader l.reader records
  pub past : GoesPast l.fn.taking l.taking records
  pub taken : AreRecordsTaken l.fn.taking records l.buffer
  pub counted : l.reader.count ≡ l.fn.reader.count + length records
  pub room : HasRoom (g.D.Folder.most_left l.folder) l.reader
  pub fewer : most_to_come (g.D.Folder.most_left l.folder) l.reader + 16 * length l.buffer ≤ most_to_come (g.D.Folder.most_left l.fn.folder) l.fn.reader
  pub kept : AreKept (g.D.Folder.holds l.fn.folder) (g.D.Folder.holds l.folder)
  pub made : AreKept (g.D.Folder.is_begun l.fn.folder) (g.D.Folder.is_begun l.folder)
  pub steady : g.D.Folder.failure_count l.folder ≡ g.D.Folder.failure_count l.fn.folder

abbrev pub invariant-records : goal.invariant-records
invariant-records g l = Filled g l

abbrev pub decreases-records : goal.decreases-records
decreases-records g l = most_to_come (g.D.Folder.most_left l.folder) l.reader
