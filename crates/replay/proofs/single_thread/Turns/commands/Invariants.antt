use Rattle.std.proofs.Common.{◌≡◌, ℕ, List, ◌≤◌}
use Rattle.wire.specs.declared.records.Sent.{Sent}
use Rattle.semantics.specs.Program.{Program}
use Rattle.actors.specs.Accounts.{frames_in}
use Rattle.replay.specs.InTurn.{IsSameSetting, AreTurns}
use Rattle.replay.specs.TurnStates.{state_in, HasSameEnds}
use Rattle.replay.specs.Turns.{commands_between}
use Rattle.replay.proofs.single_thread.Turns.commands.Given as goal

pub record Applied (l : goal.Live-commands) : Type 0 where
  pub up : l.fn.from ≤ l.number
  pub within : l.number ≤ l.fn.end
  pub turns : (program : Program) (records : List Sent) (workers : ℕ) →
      AreTurns program l.script records workers (commands_between l.fn.from l.number) (state_in l.fn.self) (state_in l.self)
  pub same : IsSameSetting (state_in l.fn.self) (state_in l.self)
  pub ends : HasSameEnds (state_in l.fn.self) (state_in l.self)
  pub counted : frames_in l.self.counts ≡ frames_in l.fn.self.counts

abbrev pub invariant-commands : goal.invariant-commands
invariant-commands l = Applied l
