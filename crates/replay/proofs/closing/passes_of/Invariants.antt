use Rattle.std.proofs.Common.{◌≡◌, ◌≤◌, ◌+◌, ◌++◌, length}
use Rattle.std.specs.Prelude.{map, vec_capacity}
use Rattle.actors.specs.RunsOverShards.{pass_in}
use Rattle.replay.proofs.closing.passes_of.Given as goal

pub record Taken (g : goal.Over) (l : goal.Live-workers g) : Type 0 where
  pub count_is : l.count ≡ length l.fn.working.items
  pub left : l._worker + length l.working.items ≡ l.count
  pub counted : length l.passes.items ≡ l._worker
  pub together : l.passes.items ++ map pass_in l.working.items ≡ map pass_in l.fn.working.items
  pub room : l.count ≤ vec_capacity l.passes

abbrev pub invariant-workers : goal.invariant-workers
invariant-workers g l = Taken g l
