use Rattle.actors.proofs.shared.Asking.{at_viewed, may_viewed, given, turned_away}
use Rattle.actors.proofs.updates.SharedUpdatesUpdatePort.update.Goals as goal

pub update-requires-clause-met : goal.update-requires-clause-met
update-requires-clause-met g c =
    may_viewed g.B.Naming.count g.B.Naming.plan _ _ _ c.args.self.now c.args.map _ c.args.key.now c.args.value.now _ _ _ c.self.view_is
    (at_viewed g.B.Naming.count g.B.Naming.plan _ _ _ c.args.self.now c.args.map c.args.key.now c.args.value.now _ _ c.requires.definition c.self.view_is
    c.self.invariant c.requires.known c.requires.key_size c.requires.value_size c.as_slice.ensures.bytes c.as_slice-2.ensures.bytes
    c.bytes_have_8_bits.ensures c.bytes_have_8_bits-2.ensures)
    c.as_slice-3.ensures.bytes c.as_slice-4.ensures.bytes c.shard_of-shard.ensures c.number.ensures

pub returns-clause-gives : goal.returns-clause-gives
returns-clause-gives g c =
    given g.B.Naming.count g.B.Naming.plan _ _ _ c.update.new.pass c.args.self.now c.args.map c.shard_of-shard.result c.args.key.now c.args.value.now _ _ _ c.self.view_is
    (at_viewed g.B.Naming.count g.B.Naming.plan _ _ _ c.args.self.now c.args.map c.args.key.now c.args.value.now _ _ c.requires.definition c.self.view_is
    c.self.invariant c.requires.known c.requires.key_size c.requires.value_size c.as_slice.ensures.bytes c.as_slice-2.ensures.bytes
    c.bytes_have_8_bits.ensures c.bytes_have_8_bits-2.ensures)
    c.as_slice-3.ensures.bytes c.as_slice-4.ensures.bytes c.shard_of-shard.ensures c.number.ensures c.update.ensures.elsewhere c.update.result c.update.ensures.served
    c.update.ensures.did

pub returns-clause-refuses : goal.returns-clause-refuses
returns-clause-refuses g c =
    turned_away g.B.Naming.count g.B.Naming.plan _ _ _ c.update.new.pass c.args.self.now c.args.map c.shard_of-shard.result c.args.key.now c.args.value.now _ _ _ c.self.view_is
    (at_viewed g.B.Naming.count g.B.Naming.plan _ _ _ c.args.self.now c.args.map c.args.key.now c.args.value.now _ _ c.requires.definition c.self.view_is
    c.self.invariant c.requires.known c.requires.key_size c.requires.value_size c.as_slice.ensures.bytes c.as_slice-2.ensures.bytes
    c.bytes_have_8_bits.ensures c.bytes_have_8_bits-2.ensures)
    c.as_slice-3.ensures.bytes c.as_slice-4.ensures.bytes c.shard_of-shard.ensures c.number.ensures c.update.ensures.elsewhere c.update.result c.update.ensures.refused
    c.update.ensures.did
