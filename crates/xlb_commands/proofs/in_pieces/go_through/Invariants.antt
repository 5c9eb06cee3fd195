use Rattle.std.proofs.Common.{◌≡◌, List}
use Rattle.folders.specs.PieceReading.{HasRoom, IsReadTo, most_to_come}
use Rattle.machine.specs.Running.{program_of}
use Rattle.replay.specs.Pieces.{ReplayGoesOn}
use Rattle.semantics.specs.ShardPlan.{recorded}
use Rattle.wire.specs.declared.records.Sent.{Sent}
use Rattle.xlb_commands.specs.Files.{AreKept}
use Rattle.xlb_commands.specs.InPieces.{HaveRun}
use Rattle.xlb_commands.specs.Parts.{command_frames, records_in}
use Rattle.xlb_commands.specs.Taking.{HasPassed}
use Rattle.xlb_commands.proofs.in_pieces.go_through.Given as goal

-- the records so far: those that are taken were run
pub record Gone (g : goal.Over) (l : goal.Live-pieces g) : Type 0 where
  pub records : List Sent
  pub read : IsReadTo l.asked.reading (g.D.Folder.holds l.fn.folder l.asked.files.now.capture.now) (g.D.Folder.is_left l.folder) records l.reader
  pub passed : HasPassed l.asked.part (command_frames l.whole.script.now) records l.taking
  pub have_run : HaveRun (program_of l.asked.verified.now l.asked.options.shards) l.asked.script.now
      (recorded l.asked.recording l.asked.options) l.asked.files.now l.fn.going.replay l.going.replay
      (g.D.Folder.is_begun l.fn.folder) (g.D.Folder.is_begun l.folder) (records_in l.asked.part records)
  pub room : HasRoom (g.D.Folder.most_left l.folder) l.reader
  pub goes_on : ReplayGoesOn l.asked.script.now l.going.replay
  pub maps : l.going.replay.turns.all.maps ≡ l.asked.verified.now.maps
  pub kept : AreKept (g.D.Folder.holds l.fn.folder) (g.D.Folder.holds l.folder)
  pub steady : g.D.Folder.failure_count l.folder ≡ g.D.Folder.failure_count l.fn.folder

abbrev pub invariant-pieces : goal.invariant-pieces
invariant-pieces g l = Gone g l

abbrev pub decreases-pieces : goal.decreases-pieces
decreases-pieces g l = most_to_come (g.D.Folder.most_left l.folder) l.reader
