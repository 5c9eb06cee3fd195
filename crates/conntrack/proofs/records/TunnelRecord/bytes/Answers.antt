use Rattle.std.proofs.Common.{◌≡◌, length, rules}
use Rattle.conntrack.proofs.LayoutLemmas.{four_parts}
use Rattle.conntrack.proofs.records.TunnelRecord.bytes.Goals as goal

pub returns : goal.returns
returns c =
    let tunnel = c.args.self.now in
    let four : length tunnel.source.0 ≡ 4 = search rules in
    let six : length tunnel.source_mac.0 ≡ 6 = search rules in
    let six' : length tunnel.destination_mac.0 ≡ 6 = search rules in
    let four' : length c.state.result ≡ 4 = search rules in
    rw (← c.state.ensures) (four_parts tunnel.source.0 tunnel.source_mac.0 tunnel.destination_mac.0 c.state.result four six six' four')
