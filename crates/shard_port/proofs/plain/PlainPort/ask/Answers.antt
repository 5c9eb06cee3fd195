use Rattle.std.proofs.Math.Logic.{∥∥₁_map}
use Rattle.shard_port.specs.PortView.{IsPortReady}
use Rattle.shard_port.proofs.shared.ReadyLemmas.{shards_asked, ready_with}
use Rattle.shard_port.proofs.plain.PlainPort.ask.Goals as goal

pub invariant_of-self : goal.invariant_of-self
invariant_of-self g c = record {
  ready = ∥∥₁_map c.args.self.now.ready
      (λ (ready : IsPortReady c.args.self.now.image.now.maps c.args.self.now.options c.args.self.now.worker c.args.self.now.shards.now).
      ready_with _ _ _ c.args.self.now.shards.now _
      (shards_asked _ _ c.args.self.now.worker c.args.self.now.shards.now (g.C.Ask.asks c.args.ask c.args.shard)
      (g.C.Ask.replies c.args.shard) c.ask_at.result c.ask_at.new.shards c.requires.sets_bytes c.ask_at.ensures.answered
      c.ask_at.ensures.turned_away) ready);
}
