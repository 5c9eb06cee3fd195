use Rattle.std.proofs.Common.{◌∙◌, arith}
use Rattle.shard_port.specs.PlainPorts.{maps_of}
use Rattle.shard_tests.proofs.TestLemmas.{example_key}
use Rattle.shard_tests.proofs.port_rows.look_once.Goals as goal

pub lookup-result-requires : goal.lookup-result-requires
lookup-result-requires c = example_key (maps_of c.over-port.result) 0 c.key_of.result (c.over-port.ensures.maps ∙ c.requires.maps)
    (omega arith) c.key_of.ensures.size c.key_of.ensures.bytes
