use Rattle.std.proofs.Common.{◌≡◌, length}
use Rattle.map_contents.proofs.Remaking.{AreMadeTo}
use Rattle.map_contents.proofs.making.make_all.Given as goal

pub record Made (l : goal.Live-shards) : Type 0 where
  pub end_is : l.number-end ≡ length l.lists
  pub count : length l.shards ≡ length l.fn.shards
  pub so_far : AreMadeTo l.fn.journals l.number l.shards

abbrev pub invariant-shards : goal.invariant-shards
invariant-shards l = Made l
