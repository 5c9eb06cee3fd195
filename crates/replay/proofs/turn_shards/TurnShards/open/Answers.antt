use Rattle.std.proofs.Common.{◌≡◌, List, sym, ◌∙◌, subst}
use Rattle.ebpf_decode.specs.declared.map.MapDef.{MapDef}
use Rattle.semantics.specs.declared.options.Options.{Options}
use Rattle.semantics.specs.ShardPlan.{AreOptions, recorded}
use Rattle.journals.specs.JournalsView.{AreImageMaps}
use Rattle.shard_port.specs.PortView.{ServesMaps}
use Rattle.shards.proofs.shared.ImageMaps.{image_maps}
use Rattle.replay.proofs.turn_shards.TurnShards.open.Goals as goal

pub invariant_of-result : goal.invariant_of-result
invariant_of-result c =
    let verified = c.args.verified.now in
    let of_image : c.in_ok-maps.maps.items ≡ c.image-image.result.now.maps = c.in_ok-maps.ensures ∙ c.maps_of.ensures.maps in
    let of_verified : c.in_ok-maps.maps.items ≡ verified.maps = of_image ∙ c.image-image.ensures.same.0 in
    let same : recorded c.args.recording c.args.options ≡ c.recorded.result = sym c.recorded.ensures.options in
    record {
      options_fit = subst (λ (options : Options). AreOptions c.in_ok-maps.maps.items options) same
          (subst (λ (maps : List MapDef). AreOptions maps (recorded c.args.recording c.args.options)) (sym of_image) c.in_ok-shards.ensures.fit);
      maps_are = subst AreImageMaps (sym of_verified) (image_maps verified.version verified.maps verified.code c.encodable.ensures);
      serve = subst (λ (options : Options). ServesMaps c.in_ok-maps.maps.items options c.in_ok-shards.shards) same
          (subst (λ (maps : List MapDef). ServesMaps maps (recorded c.args.recording c.args.options) c.in_ok-shards.shards) (sym of_image)
          (c.opened_serve.ensures _ _ _ c.in_ok-shards.ensures.opened));
    }
