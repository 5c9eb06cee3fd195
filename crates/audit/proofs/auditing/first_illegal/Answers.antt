use Rattle.std.proofs.Common.{rules}
use Rattle.audit.proofs.Audits.{made_one, illegal_at, held_more, held_of}
use Rattle.audit.proofs.auditing.first_illegal.Goals as goal

pub is_made_again-requires : goal.is_made_again-requires
is_made_again-requires c = held_of c.args.plan c.args.journal.now c.places.place c.places.shard c.places.held c.places.invariant.shard_is c.places.invariant.held_are

pub returns-then-not-is_made_again : goal.returns-then-not-is_made_again
returns-then-not-is_made_again c =
    illegal_at c.args.plan c.args.journal.now c.places.place c.entry-entry.result c.places.shard (search rules) c.entry-entry.ensures c.places.invariant.shard_is c.is_made_again.ensures.legal
    (c.is_made_again.ensures.illegal (search rules))

pub places-preserved : goal.places-preserved
places-preserved c = record {
  shard_is = made_one c.args.plan c.args.journal.now c.places.place c.entry-entry.result c.places.shard c.is_made_again.new.shard c.entry-entry.ensures c.places.invariant.shard_is (c.is_made_again.ensures.made (search rules));
  held_are = held_more c.args.journal.now c.places.place c.entry-entry.result _ (search rules) c.entry-entry.ensures
      (λ counted. c.in_ok-note.ensures _ c.places.invariant.held_are counted);
}
