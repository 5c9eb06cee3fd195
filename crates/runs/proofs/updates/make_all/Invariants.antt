use Rattle.std.specs.Prelude.{take}
use Rattle.shard_port.specs.PortView.{ServesMaps}
use Rattle.runs.specs.Updates.{AreUpdated}
use Rattle.runs.proofs.updates.make_all.Given as goal

pub record Making (l : goal.Live-updates) : Type 0 where
  pub updated : AreUpdated l.fn.image.maps l.options (take l.place l.updates) l.shards
  pub serve : ServesMaps l.fn.image.maps l.options l.shards

abbrev pub invariant-updates : goal.invariant-updates
invariant-updates l = Making l
