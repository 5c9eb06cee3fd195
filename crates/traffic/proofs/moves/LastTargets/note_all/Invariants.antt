use Rattle.std.proofs.Common.{◌≡◌, ◌+◌, ◌++◌, List, length, take}
use Rattle.wire.specs.declared.records.Sent.{Sent}
use Rattle.traffic.specs.Moving.{moved_places}
use Rattle.traffic.specs.Tallies.{AreLast}
use Rattle.traffic.proofs.moves.LastTargets.note_all.Given as goal

abbrev pub invariant-frames : goal.invariant-frames
invariant-frames l =
    (l.place ≡ l.first + l.sent-index)
    × ((past : List Sent) → AreLast past l.fn.self → AreLast (past ++ take l.sent-index l.frames) l.self)
    × ((past : List Sent) → AreLast past l.fn.self → l.first ≡ length past →
    moved_places (past ++ take l.sent-index l.frames) ≡ moved_places past ++ l.places.items)
