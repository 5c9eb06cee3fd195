use Rattle.std.proofs.Common.{◌≡◌}
use Rattle.replay.specs.Pieces.{ReplayGoesOn}
use Rattle.replay_tests.proofs.replays.in_pieces.compare_taken.Given as goal

-- the replay can go on
abbrev pub invariant-pieces : goal.invariant-pieces
invariant-pieces g l = ReplayGoesOn l.setting.script.now l.replay × (l.replay.turns.all.maps ≡ l.setting.verified.now.maps)
