use Rattle.std.proofs.Math.Logic.{∥∥₁_map}
use Rattle.shard_port.specs.PortView.{AreShardsOf}
use Rattle.shard_port.proofs.plain.PlainPort.over.Goals as goal

pub invariant_of-result : goal.invariant_of-result
invariant_of-result c = record {
  ready = ∥∥₁_map c.requires.shards (λ (are : AreShardsOf c.args.image.now.maps c.args.options c.args.shards.now). record {
    few = c.maps_of.ensures.few;
    sizes = c.maps_of.ensures.sizes;
    are_options = c.requires.options;
    is_worker = c.requires.worker;
    are_shards = are;
  });
}
