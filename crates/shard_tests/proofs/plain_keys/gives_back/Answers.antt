use Rattle.std.proofs.Common.{sym}
use Rattle.shard_tests.proofs.plain_keys.gives_back.Goals as goal

pub key-requires : goal.key-requires
key-requires c = (c.args.key.now, sym c.in-Some.ensures.number)
