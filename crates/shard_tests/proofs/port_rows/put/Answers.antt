use Rattle.shard_tests.proofs.TestLemmas.{example_pair}
use Rattle.shard_tests.proofs.port_rows.put.Goals as goal

pub update-requires : goal.update-requires
update-requires g c =
    example_pair (g.P.MapPort.serves c.args.port.now) c.args.map c.key_of.result c.value_of.result c.requires.maps c.requires.map
    c.key_of.ensures.size c.key_of.ensures.bytes c.value_of.ensures.size c.value_of.ensures.bytes
