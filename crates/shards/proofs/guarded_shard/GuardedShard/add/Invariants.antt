use Rattle.std.specs.Prelude.{Bool, true, false, List, [], ◌∷◌, reverse}
use Rattle.semantics.specs.declared.call.Caller.{Caller}
use Rattle.semantics.specs.declared.call.Call.{Call}
use Rattle.semantics.specs.declared.call.Entry.{Entry}
use Rattle.shards.specs.declared.deeds.Deed.{Deed}
use Rattle.shards.specs.declared.deeds.Deed.TheVariants.{Wrote, MetFull}
use Rattle.shards.proofs.guarded_shard.GuardedShard.add.Given as goal

-- what the caller did by a call that was served or not, by the history that the call left
abbrev deed_after : Bool → List Entry → Caller → Call → Deed
deed_after true (newest ∷ earlier) who call = Wrote newest
deed_after true [] who call = MetFull who call
deed_after false history who call = MetFull who call

abbrev pub ghosts-note : goal.ghosts-note
ghosts-note g a = record { item = deed_after a.served (reverse a.shard.now.journal) a.who (g.C.Ask.asks a.ask.now a.shard.now.plan.number) }
