use Rattle.replay.proofs.TurnUpdates.{stands_viewed, may_be_made, given, turned_away}
use Rattle.replay.proofs.turn_shards.TurnShardsUpdatePort.update.Goals as goal

pub update_at-requires : goal.update_at-requires
update_at-requires c =
    may_be_made (stands_viewed _ _ _ c.args.self.now c.args.map c.shard_of-number.result c.args.key.now c.args.value.now _ _ c.requires.definition c.self.view_is c.self.invariant
    c.requires.known c.requires.key_size c.requires.value_size c.as_slice.ensures.bytes c.as_slice-2.ensures.bytes c.bytes_have_8_bits.ensures
    c.bytes_have_8_bits-2.ensures c.shard_of-number.ensures)

pub returns-clause-gives : goal.returns-clause-gives
returns-clause-gives c =
    given (stands_viewed _ _ _ c.args.self.now c.args.map c.shard_of-number.result c.args.key.now c.args.value.now _ _ c.requires.definition c.self.view_is c.self.invariant
    c.requires.known c.requires.key_size c.requires.value_size c.as_slice.ensures.bytes c.as_slice-2.ensures.bytes c.bytes_have_8_bits.ensures
    c.bytes_have_8_bits-2.ensures c.shard_of-number.ensures)
    c.args.self.now c.update_at.new.shards c.self.view_is c.update_at.result c.update_at.ensures.made

pub returns-clause-refuses : goal.returns-clause-refuses
returns-clause-refuses c =
    turned_away (stands_viewed _ _ _ c.args.self.now c.args.map c.shard_of-number.result c.args.key.now c.args.value.now _ _ c.requires.definition c.self.view_is c.self.invariant
    c.requires.known c.requires.key_size c.requires.value_size c.as_slice.ensures.bytes c.as_slice-2.ensures.bytes c.bytes_have_8_bits.ensures
    c.bytes_have_8_bits-2.ensures c.shard_of-number.ensures)
    c.args.self.now c.update_at.new.shards c.self.view_is c.update_at.result c.update_at.ensures.full c.update_at.ensures.unchanged
