use Rattle.shard_tests.proofs.TestLemmas.{example_key}
use Rattle.shard_tests.proofs.port_rows.remove.Goals as goal

pub delete-requires : goal.delete-requires
delete-requires g c =
    example_key (g.P.MapPort.serves c.args.port.now) c.args.map c.key_of.result c.requires.maps c.requires.map c.key_of.ensures.size
    c.key_of.ensures.bytes
