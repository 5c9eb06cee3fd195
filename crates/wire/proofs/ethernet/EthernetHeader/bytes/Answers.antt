use Rattle.std.proofs.Common.{◌≡◌, length, rules}
use Rattle.wire.specs.FlowBytes.{be_bytes}
use Rattle.wire.proofs.FlowLemmas.{twelve_items}
use Rattle.wire.proofs.ethernet.EthernetHeader.bytes.Goals as goal

pub returns : goal.returns
returns c =
    let header = c.args.self.now in
    let six : length header.destination.0 ≡ 6 = search rules in
    let six' : length header.source.0 ≡ 6 = search rules in
    rw (c.be_bytes.ensures) (twelve_items header.destination.0 header.source.0 (be_bytes header.ether_type) six six')
