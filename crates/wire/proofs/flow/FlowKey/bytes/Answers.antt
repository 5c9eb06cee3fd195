use Rattle.std.proofs.Common.{◌≡◌, [], ◌∷◌, length, rules}
use Rattle.wire.specs.FlowBytes.{be_bytes, protocol_number}
use Rattle.wire.proofs.FlowLemmas.{eight_items}
use Rattle.wire.proofs.flow.FlowKey.bytes.Goals as goal

pub returns : goal.returns
returns c =
    let key = c.args.self.now in
    let four : length key.source.0 ≡ 4 = search rules in
    let four' : length key.destination.0 ≡ 4 = search rules in
    rw (c.be_bytes.ensures, c.be_bytes-2.ensures, c.number-protocol.ensures)
    (eight_items key.source.0 key.destination.0 (be_bytes key.source_port) (be_bytes key.destination_port) (protocol_number key.transport ∷ 0 ∷ 0 ∷ 0 ∷ []) four four')
