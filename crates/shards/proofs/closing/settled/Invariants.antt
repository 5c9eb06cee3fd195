use Rattle.std.proofs.Common.{◌≡◌, ◌≢◌, ◌≤◌, ◌<◌, ℕ, length}
use Rattle.semantics.specs.History.{IsLegalHistory}
use Rattle.shards.specs.Passes.{pass_at, view_at}
use Rattle.shards.specs.GuardedView.{keyed}
use Rattle.shards.specs.Seats.{IsLockOf, IsVisitor, view_of}
use Rattle.shards.proofs.Settling.{IsShown}
use Rattle.shards.proofs.closing.settled.Given as goal

pub record Shown (g : goal.Over) (l : goal.Live-passes g) : Type 0 where
  pub end_is : l.place-end ≡ length l.fn.passes.items
  pub count : length l.passes.items ≡ length l.fn.passes.items
  pub visitor : IsVisitor (g.B.Naming.table l.number) (keyed (g.B.Naming.plan l.number) g.B.Naming.order) (view_of l.visitor_seat.me).seen l.visitor_seat
  pub legal : IsLegalHistory (g.B.Naming.plan l.number) (view_of l.visitor_seat.me).seen
  pub lock : IsLockOf (g.B.Naming.table l.number) (keyed (g.B.Naming.plan l.number) g.B.Naming.order) l.lock
  pub shown : (k : ℕ) → k < l.place → IsShown (pass_at l.fn.passes.items k).who (view_at (pass_at l.fn.passes.items k) l.number) (view_of l.visitor_seat.me).seen
  pub left : (k : ℕ) → l.place ≤ k → pass_at l.passes.items k ≡ pass_at l.fn.passes.items k
  pub callers : (k : ℕ) → (pass_at l.passes.items k).who ≡ (pass_at l.fn.passes.items k).who
  pub deeds : (k : ℕ) → (pass_at l.passes.items k).deeds ≡ (pass_at l.fn.passes.items k).deeds
  pub others : (k other : ℕ) → other ≢ l.number → view_at (pass_at l.passes.items k) other ≡ view_at (pass_at l.fn.passes.items k) other

abbrev pub invariant-passes : goal.invariant-passes
invariant-passes g l = Shown g l
