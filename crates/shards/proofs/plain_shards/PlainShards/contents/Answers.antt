use Rattle.shards.proofs.plain_shards.PlainShards.contents.Goals as goal

pub contents_of-requires-clause-shards : goal.contents_of-requires-clause-shards
contents_of-requires-clause-shards c =
    let have = rw (← c.self.view_is) at c.requires.shards in
    rw c.deref.ensures.value have

pub returns : goal.returns
returns c =
    let contents = rw c.deref.ensures.value at c.contents_of.ensures in
    rw (← c.self.view_is) contents
