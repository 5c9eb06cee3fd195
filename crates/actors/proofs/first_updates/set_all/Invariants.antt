use Rattle.std.specs.Prelude.{◌≡◌, take}
use Rattle.actors.specs.FirstUpdates.{AreSet}
use Rattle.actors.proofs.first_updates.set_all.Given as goal

pub record Making (g : goal.Over) (l : goal.Live-updates g) : Type 0 where
  pub set : AreSet g.U.UpdatePort.gives l.fn.port (take l.place l.updates) l.port
  pub serves : g.U.UpdatePort.serves l.port ≡ g.U.UpdatePort.serves l.fn.port

abbrev pub invariant-updates : goal.invariant-updates
invariant-updates g l = Making g l
