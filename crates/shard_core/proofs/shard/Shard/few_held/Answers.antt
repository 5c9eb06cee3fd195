use Rattle.std.specs.Prelude.{reverse}
use Rattle.shard_core.proofs.FewHeldLemmas.{few_held}
use Rattle.shard_core.proofs.shard.Shard.few_held.Goals as goal

pub returns : goal.returns
returns c =
    let inside = c.self.inside in
    let is = c.self.invariant in
    rw (← c.self.view_is) (few_held inside.plan (reverse inside.journal.entries) inside.cells is.plan_is is.legal is.contents.balance)
