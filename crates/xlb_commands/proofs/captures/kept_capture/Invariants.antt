use Rattle.std.proofs.Common.{◌≡◌}
use Rattle.folders.specs.PieceReading.{HasRoom, IsReadTo, most_to_come}
use Rattle.xlb_commands.specs.Files.{AreKept}
use Rattle.xlb_commands.proofs.captures.kept_capture.Given as goal

-- the buffer has the records so far
pub record Kept (g : goal.Over) (l : goal.Live-records g) : Type 0 where
  pub read : IsReadTo l.fn.reading (g.D.Folder.holds l.fn.folder l.name) (g.D.Folder.is_left l.folder) l.buffer l.reader
  pub room : HasRoom (g.D.Folder.most_left l.folder) l.reader
  pub kept : AreKept (g.D.Folder.holds l.fn.folder) (g.D.Folder.holds l.folder)
  pub steady : g.D.Folder.failure_count l.folder ≡ g.D.Folder.failure_count l.fn.folder

abbrev pub invariant-records : goal.invariant-records
invariant-records g l = Kept g l

abbrev pub decreases-records : goal.decreases-records
decreases-records g l = most_to_come (g.D.Folder.most_left l.folder) l.reader
