use Rattle.std.proofs.Common.{◌≡◌, ◌<◌, ◌≤◌}
use Rattle.shards.proofs.lock.take_later.Given as goal

pub record Waits (g : goal.Over) (l : goal.Live-turns g) : Type 0 where
  pub table : l.seat.table_id ≡ l.fn.seat.table_id
  pub same : l.seat.me ≡ l.fn.seat.me
  pub lock : l.lock ≡ l.fn.lock
  pub some : 0 < l.phase
  pub few : l.phase < 3
  pub looks : l.looks ≤ 12
  pub next : (goal.iterator-turns g).can_next l.iterator'
  pub finite : (goal.iterator-turns g).is_finite l.iterator'

abbrev pub invariant-turns : goal.invariant-turns
invariant-turns g l = Waits g l
