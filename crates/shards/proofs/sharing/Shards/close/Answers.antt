use Rattle.shards.proofs.sharing.Shards.close.Goals as goal

pub nothing-first-requires : goal.nothing-first-requires
nothing-first-requires g c = record { order = (c.self.invariant.1.table_is, c.self.invariant.1.some_word) }

pub returns-clause-did : goal.returns-clause-did
returns-clause-did g c = c.close_behind.ensures.did.one
