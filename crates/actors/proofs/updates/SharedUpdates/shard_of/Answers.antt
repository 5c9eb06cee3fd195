use Rattle.std.proofs.Common.{◌≡◌, Some, sym, ap, ◌∙◌}
use Rattle.std.specs.Prelude.{slice_get}
use Rattle.ebpf_decode.specs.declared.map.MapDef.{MapDef}
use Rattle.actors.specs.SharedUpdates.{UpdatesView}
use Rattle.actors.proofs.shared.Asking.{index_size, same_found}
use Rattle.actors.proofs.updates.SharedUpdates.shard_of.Goals as goal

pub shard_of_map-requires-clause-size : goal.shard_of_map-requires-clause-size
shard_of_map-requires-clause-size g c definition found =
    let known : slice_get c.self.inside.shards.now.maps c.args.map ≡ Some c.requires.definition =
    ap (λ (view : UpdatesView). slice_get view.maps c.args.map) c.self.view_is ∙ c.requires.known in
    let there : slice_get c.self.inside.shards.now.maps c.args.map ≡ Some definition =
    ap (λ maps. slice_get maps c.args.map) (sym c.maps.ensures) ∙ found in
    let same : c.requires.definition ≡ definition = same_found _ _ _ known there in
    index_size c.self.inside.shards.now.maps c.args.map definition c.args.key.now c.self.invariant.maps_are there
    (c.requires.key_size ∙ ap (λ (one : MapDef). one.key_size) same)
