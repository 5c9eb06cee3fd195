use Rattle.map_contents.proofs.Remaking.{is_step_of, made_more}
use Rattle.map_contents.proofs.making.apply_all.Goals as goal

pub make_entry-requires : goal.make_entry-requires
make_entry-requires c =
    is_step_of c.args.shard.now.plan c.args.entries.now c.places.place c.entry-entry.result c.places.shard c.entry-entry.ensures c.requires.legal
    c.places.invariant

pub places-preserved : goal.places-preserved
places-preserved c =
    made_more c.args.shard.now.plan c.args.entries.now c.places.place c.entry-entry.result c.places.shard c.entry-entry.ensures c.requires.legal
    c.places.invariant c.make_entry.new.shard c.make_entry.ensures
