use Rattle.std.proofs.Common.{◌<◌, ◌≤◌, length, sym, ap, subst, ◌∙◌}
use Rattle.std.specs.Prelude.{slice_get}
use Rattle.std.proofs.lemmas.Option.{slice_get_within}
use Rattle.semantics.proofs.shared.PlanLemmas.{some_shards, few_parts}
use Rattle.shard_port.proofs.PassMetLemmas.{index_size}
use Rattle.shard_port.proofs.port.ShardPort.shard_of.Goals as goal

pub shard_of_map-requires-clause-map : goal.shard_of_map-requires-clause-map
shard_of_map-requires-clause-map g c =
    subst (λ maps. c.args.map < length maps) (sym c.maps.ensures)
    (slice_get_within c.args.self.now.shards.now.maps c.args.map c.requires.definition c.requires.known)

pub shard_of_map-requires-clause-maps : goal.shard_of_map-requires-clause-maps
shard_of_map-requires-clause-maps g c = subst (λ maps. length maps ≤ 16) (sym c.maps.ensures) c.planned.ensures.maps.few

pub shard_of_map-requires-clause-parts : goal.shard_of_map-requires-clause-parts
shard_of_map-requires-clause-parts g c = rw c.options.ensures (some_shards _ c.args.self.now.shards.now.options c.planned.ensures.options)

pub shard_of_map-requires-clause-few : goal.shard_of_map-requires-clause-few
shard_of_map-requires-clause-few g c = rw c.options.ensures (few_parts _ c.args.self.now.shards.now.options c.planned.ensures.options)

pub shard_of_map-requires-clause-size : goal.shard_of_map-requires-clause-size
shard_of_map-requires-clause-size g c = λ definition known.
    index_size c.args.self.now.shards.now.maps c.args.self.now.shards.now.options c.args.map c.args.key.now definition c.planned.ensures.maps
    c.requires (ap (λ maps. slice_get maps c.args.map) (sym c.maps.ensures) ∙ known)
