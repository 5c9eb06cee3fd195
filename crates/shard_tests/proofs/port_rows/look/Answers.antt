use Rattle.std.proofs.Common.{◌<◌}
use Rattle.std.proofs.lemmas.Result.{IfOk-weaker}
use Rattle.map_port.specs.Served.{lookup_call, reply_of_handle, IsReadable}
use Rattle.shard_tests.proofs.TestLemmas.{example_key, example_cell}
use Rattle.shard_tests.proofs.port_rows.look.Goals as goal

pub lookup-requires : goal.lookup-requires
lookup-requires g c =
    example_key (g.P.MapPort.serves c.args.port.now) c.args.map c.key_of.result c.requires.maps c.requires.map c.key_of.ensures.size
    c.key_of.ensures.bytes

pub returns-clause-held : goal.returns-clause-held
returns-clause-held g c =
    IfOk-weaker c.lookup.result
    (λ handle. g.P.MapPort.gives c.args.port.now (lookup_call (g.P.MapPort.serves c.args.port.now) c.args.map c.key_of.result)
    (reply_of_handle (g.P.MapPort.cell_of c.lookup.new.self) handle) c.lookup.new.self)
    (λ handle. 0 < handle →
    IsReadable (g.P.MapPort.serves c.lookup.new.self) (g.P.MapPort.has_handed_out c.lookup.new.self)
    (g.P.MapPort.cell_of c.lookup.new.self handle) 0 8)
    (λ handle given. example_cell (g.P.MapPort.serves c.args.port.now) (g.P.MapPort.serves c.lookup.new.self)
    (g.P.MapPort.has_handed_out c.lookup.new.self) (g.P.MapPort.cell_of c.lookup.new.self) c.args.map c.key_of.result handle
    c.requires.maps c.requires.map
    (g.met.P.MapPort.keeps c.args.port.now c.lookup.new.self _ _ given).same
    (g.met.P.MapPort.hands_out c.args.port.now c.lookup.new.self _ _ given))
    c.lookup.ensures.gives
