use Rattle.std.proofs.Common.{◌*◌, ◌+◌, ◌∙◌, ℕ, ap, replicate}
use Rattle.semantics.specs.declared.options.Options.{Options}
use Rattle.conntrack.specs.SteeringMaps.{map_place}
use Rattle.steered_replays.proofs.WordLemmas.{shard_more}
use Rattle.steered_replays.proofs.words.last_words.Goals as goal

pub shards-preserved : goal.shards-preserved
shards-preserved c =
    shard_more c.args.journals.now (map_place c.args.map * c.args.journals.now.options.shards) c.shards.part _ (replicate c.args.count 0)
    c.shards.words.items c.put_shard.new.words.items
    (ap (λ (place : ℕ). place * c.options-shards.result.shards + c.shards.part) c.place.ensures
    ∙ ap (λ (o : Options). map_place c.args.map * o.shards + c.shards.part) c.options-shards.ensures.options)
    c.shards.invariant c.put_shard.ensures
