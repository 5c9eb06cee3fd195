use Rattle.std.proofs.Common.{◌≡◌, length}
use Rattle.replay.specs.InTurn.{IsRoundTo}
use Rattle.replay.proofs.turn_shards.round_over.Given as goal

pub record Turned (l : goal.Live-shards) : Type 0 where
  pub end_is : l.number-end ≡ length l.fn.shards
  pub count : length l.shards ≡ length l.fn.shards
  pub round : IsRoundTo l.number l.fn.shards l.shards

abbrev pub invariant-shards : goal.invariant-shards
invariant-shards l = Turned l
