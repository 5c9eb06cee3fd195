use Rattle.std.specs.Prelude.{take}
use Rattle.map_updates.specs.Misfits.{AreFitting}
use Rattle.map_updates.proofs.misfit.first_misfit.Given as goal

abbrev pub invariant-updates : goal.invariant-updates
invariant-updates l = AreFitting l.maps (take l.place l.updates)
