use Rattle.std.proofs.Common.{◌≡◌, ◌++◌, List, length}
use Rattle.wire.specs.CaptureFormat.{records_bytes}
use Rattle.wire.specs.declared.records.Sent.{Sent}
use Rattle.xlb_commands.specs.Files.{AreKept}
use Rattle.xlb_commands.specs.InPieces.{AreAdded}
use Rattle.xlb_commands.proofs.made_in_pieces.add_all_frames.Given as goal

-- the frames so far
pub record Added (g : goal.Over) (l : goal.Live-pieces g) : Type 0 where
  pub frames : List Sent
  pub all : frames ++ l.rest ≡ l.frames
  pub added : AreAdded (g.D.Folder.is_begun l.fn.folder) (g.D.Folder.is_begun l.folder) l.name (records_bytes frames)
  pub kept : AreKept (g.D.Folder.holds l.fn.folder) (g.D.Folder.holds l.folder)
  pub steady : g.D.Folder.failure_count l.folder ≡ g.D.Folder.failure_count l.fn.folder

abbrev pub invariant-pieces : goal.invariant-pieces
invariant-pieces g l = Added g l

abbrev pub decreases-pieces : goal.decreases-pieces
decreases-pieces g l = length l.rest
