use Rattle.std.proofs.Common.{◌<◌, ◌^◌, ap}
use Rattle.std.specs.Coded.{Coded-set, coded_bool, le_prop}
use Rattle.std.proofs.Math.Logic.{∥∥₁_elim}
use Rattle.semantics.specs.declared.call.Reply.TheVariants.{Word}
use Rattle.semantics.specs.declared.call.Call.TheVariants.{Load}
use Rattle.shard_port.specs.Asking.{IsAnsweredAmong}
use Rattle.shard_port.specs.PortView.{IsPortReady, cell_of_handle}
use Rattle.shard_port.proofs.shared.MayAskLemmas.{may_load}
use Rattle.shard_port.proofs.GivenLemmas.{given_by, load_below}
use Rattle.shard_port.proofs.plain.PlainPortMapPort.load.Goals as goal

pub ask-requires-clause-may : goal.ask-requires-clause-may
ask-requires-clause-may c = rw c.cell_of_handle-cell.ensures (∥∥₁_elim c.args.self.now.ready (Coded-set coded_bool _ _)
    (λ (ready : IsPortReady c.args.self.now.image.now.maps c.args.self.now.options c.args.self.now.worker c.args.self.now.shards.now).
    may_load c.args.self.now.image.now.maps c.args.self.now.options c.args.self.now.worker c.args.self.now.shards.now (cell_of_handle c.args.handle) c.args.offset c.args.size ready c.requires))

pub returns-in-Ok-clause-gives : goal.returns-in-Ok-clause-gives
returns-in-Ok-clause-gives c =
    let among : IsAnsweredAmong c.args.self.now.worker c.args.self.now.shards.now
    (Load (cell_of_handle c.args.handle) c.args.offset c.args.size) (Word c.in-Ok.number) c.ask.new.self.shards.now =
    rw c.cell_of_handle-cell.ensures at c.in-Ok.ensures.answered in
    let below : c.in-Ok.number < 256 ^ c.args.size =
    ∥∥₁_elim c.args.self.now.ready le_prop (λ (ready : IsPortReady c.args.self.now.image.now.maps c.args.self.now.options c.args.self.now.worker c.args.self.now.shards.now).
    load_below c.args.self.now.image.now.maps c.args.self.now.options c.args.self.now.worker c.args.self.now.shards.now
    (cell_of_handle c.args.handle) c.args.offset c.args.size (Word c.in-Ok.number) c.ask.new.self.shards.now ready among) in
    record {
      same_port = record {
        same_shards = c.ask.ensures.same_shards;
        same_maps = ap (λ image. image.now.maps) c.ask.ensures.same_image;
        same_options = c.ask.ensures.same_options;
        same_worker = c.ask.ensures.same_worker;
      };
      given = given_by c.args.self.now.image.now.maps _ c.args.self.now.options _ c.args.self.now.worker _ c.args.self.now.shards.now _
          (Load (cell_of_handle c.args.handle) c.args.offset c.args.size) (Word c.in-Ok.number)
          (ap (λ image. image.now.maps) c.ask.ensures.same_image) c.ask.ensures.same_options c.ask.ensures.same_worker
          c.args.self.now.ready tt tt below among;
    }
