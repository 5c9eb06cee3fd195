use Rattle.std.proofs.Common.{◌≡◌, ◌+◌, ℕ, take}
use Rattle.traffic.specs.Counting.{count_to, how_many_to}
use Rattle.traffic.proofs.tunnels.Targets.note_all.Given as goal

abbrev pub invariant-frames : goal.invariant-frames
invariant-frames l =
    (address : ℕ) → count_to l.self address ≡ count_to l.fn.self address + how_many_to address (take l.sent-index l.frames)
