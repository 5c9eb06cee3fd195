use Rattle.std.proofs.Common.{◌+◌, List}
use Rattle.machine.specs.Running.{program_of}
use Rattle.wire.specs.declared.records.Sent.{Sent}
use Rattle.replay.specs.Pieces.{HasPiece}
use Rattle.replay.specs.TurnStates.{state_in}
use Rattle.replay.specs.TurnsTaken.{AreTaken}
use Rattle.replay.proofs.single_thread.Turns.piece_turns.Given as goal

abbrev pub invariant-records : goal.invariant-records
invariant-records g l =
    AreTaken (program_of l.verified l.fn.self.all.options.shards) l.script l.starts
    (λ (records : List Sent). HasPiece records l.taken l.piece.records.items) l.taken (l.taken + l.place) (state_in l.fn.self) (state_in l.self) l.next
