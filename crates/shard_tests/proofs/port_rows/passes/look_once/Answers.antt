use Rattle.std.proofs.Common.{◌∙◌, ap, arith}
use Rattle.shard_port.specs.PassPorts.{served_of}
use Rattle.shard_tests.proofs.TestLemmas.{example_key}
use Rattle.shard_tests.proofs.port_rows.passes.look_once.Goals as goal

pub lookup-result-requires : goal.lookup-result-requires
lookup-result-requires g c =
    example_key (served_of c.over-port.result.shards.now) 0 c.key_of.result
    (ap (λ shards. shards.maps) c.over-port.ensures.shards ∙ c.requires.maps) (omega arith) c.key_of.ensures.size c.key_of.ensures.bytes
