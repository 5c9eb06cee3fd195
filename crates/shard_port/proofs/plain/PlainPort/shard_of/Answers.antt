use Rattle.std.proofs.Common.{◌<◌, ◌≤◌, length, sym, ap, subst, ◌∙◌}
use Rattle.std.specs.Prelude.{slice_get}
use Rattle.std.proofs.lemmas.Option.{slice_get_within}
use Rattle.std.specs.Coded.{le_prop}
use Rattle.std.proofs.Math.Logic.{∥∥₁_elim}
use Rattle.semantics.proofs.shared.PlanLemmas.{some_shards, few_parts}
use Rattle.shard_port.specs.PortView.{IsPortReady}
use Rattle.shard_port.proofs.GivenLemmas.{index_size, index_size_prop}
use Rattle.shard_port.proofs.plain.PlainPort.shard_of.Goals as goal

pub shard_of_map-requires-clause-map : goal.shard_of_map-requires-clause-map
shard_of_map-requires-clause-map c =
    subst (λ maps. c.args.map < length maps) (sym c.maps.ensures.maps)
    (slice_get_within c.args.self.now.image.now.maps c.args.map c.requires.definition c.requires.known)

pub shard_of_map-requires-clause-maps : goal.shard_of_map-requires-clause-maps
shard_of_map-requires-clause-maps c = ∥∥₁_elim c.args.self.now.ready le_prop
    (λ (ready : IsPortReady c.args.self.now.image.now.maps c.args.self.now.options c.args.self.now.worker c.args.self.now.shards.now). subst
    (λ maps. length maps ≤ 16) (sym c.maps.ensures.maps) ready.few)

pub shard_of_map-requires-clause-parts : goal.shard_of_map-requires-clause-parts
shard_of_map-requires-clause-parts c = ∥∥₁_elim c.args.self.now.ready le_prop
    (λ (ready : IsPortReady c.args.self.now.image.now.maps c.args.self.now.options c.args.self.now.worker c.args.self.now.shards.now). some_shards
    _ c.args.self.now.options ready.are_options)

pub shard_of_map-requires-clause-few : goal.shard_of_map-requires-clause-few
shard_of_map-requires-clause-few c = ∥∥₁_elim c.args.self.now.ready le_prop
    (λ (ready : IsPortReady c.args.self.now.image.now.maps c.args.self.now.options c.args.self.now.worker c.args.self.now.shards.now). few_parts
    _ c.args.self.now.options ready.are_options)

pub shard_of_map-requires-clause-size : goal.shard_of_map-requires-clause-size
shard_of_map-requires-clause-size c = λ definition known. ∥∥₁_elim c.args.self.now.ready
    (index_size_prop definition.kind (length c.args.key.now))
    (λ (ready : IsPortReady c.args.self.now.image.now.maps c.args.self.now.options c.args.self.now.worker c.args.self.now.shards.now).
    index_size _ _ _ _ _ _ definition ready c.requires (ap (λ maps. slice_get maps c.args.map) (sym c.maps.ensures.maps) ∙ known))
