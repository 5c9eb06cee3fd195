use Rattle.std.proofs.Common.{◌≡◌, ◌≤◌, ◌<◌, ◌++◌, ℕ}
use Rattle.shards.specs.Passes.{view_at, own_at}
use Rattle.semantics.specs.Reclamation.{is_inside}
use Rattle.shard_port.specs.PassPorts.{worker_number, all_left_deeds, ViewHasLeft}
use Rattle.shard_port.proofs.port.leave_all.Given as goal

pub record Leaving (g : goal.Over) (l : goal.Live-shards g) : Type 0 where
  pub count_is : l.count ≡ g.B.Naming.count
  pub same_caller : l.pass.who ≡ l.fn.pass.who
  pub left :
      (n : ℕ) → n < l.number → ViewHasLeft (is_inside (worker_number l.fn.pass.who) (own_at l.fn.pass n)) (g.B.Naming.plan n) n
      (worker_number l.fn.pass.who) (view_at l.fn.pass n) (view_at l.pass n)
  pub did : l.pass.deeds ≡ all_left_deeds (worker_number l.fn.pass.who) l.fn.pass l.number ++ l.fn.pass.deeds
  pub untouched : (n : ℕ) → l.number ≤ n → view_at l.pass n ≡ view_at l.fn.pass n

abbrev pub invariant-shards : goal.invariant-shards
invariant-shards g l = Leaving g l
