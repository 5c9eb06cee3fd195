use Rattle.std.proofs.Common.{◌≡◌, ℕ}
use Rattle.actors.specs.Rounds.{AreReclaimed}
use Rattle.actors.proofs.shared.RoundLemmas.{IsInRound, IsPartDone}
use Rattle.actors.proofs.reclaimer.Reclaiming.round.Given as goal

pub record Turned (g : goal.Over) (l : goal.Live-shards g) : Type 0 where
  pub end_is : l.number-end ≡ g.B.Naming.count
  pub turned : (rounds : ℕ) → AreReclaimed g.B.Naming.plan g.B.Naming.count rounds l.fn.self →
      IsInRound g.B.Naming.plan g.B.Naming.count rounds l.number l.self
  pub part : IsPartDone g.B.Naming.plan l.number l.fn.self.deeds l.self.deeds

abbrev pub invariant-shards : goal.invariant-shards
invariant-shards g l = Turned g l
