use Rattle.std.proofs.Common.{◌≡◌, ap, rules, to_z, of_z, w32}
use Rattle.std.specs.Prelude.{FitsSigned}
use Rattle.std.proofs.lemmas.Int.{to_z-of_z}
use Rattle.std.specs.Coded.{Coded-set, coded_bool}
use Rattle.std.proofs.Math.Logic.{∥∥₁_elim}
use Rattle.semantics.specs.declared.call.Reply.TheVariants.{Answer}
use Rattle.map_port.specs.Served.{delete_call}
use Rattle.shard_port.specs.Asking.{IsAnsweredAmong}
use Rattle.shard_port.specs.PortView.{IsPortReady}
use Rattle.shard_port.specs.PlainPorts.{maps_of}
use Rattle.shard_port.proofs.shared.MayAskLemmas.{may_delete}
use Rattle.shard_port.proofs.GivenLemmas.{given_by}
use Rattle.shard_port.proofs.plain.PlainPortMapPort.delete.Goals as goal

pub ask-requires-clause-may : goal.ask-requires-clause-may
ask-requires-clause-may c = rw (c.shard_of-shard.ensures, c.as_slice.ensures.bytes) (∥∥₁_elim c.args.self.now.ready (Coded-set coded_bool _ _)
    (λ (ready : IsPortReady c.args.self.now.image.now.maps c.args.self.now.options c.args.self.now.worker c.args.self.now.shards.now).
    may_delete c.args.self.now.image.now.maps c.args.self.now.options c.args.self.now.worker c.args.self.now.shards.now c.args.map c.args.key.now ready c.requires))

pub returns-in-Ok-clause-gives : goal.returns-in-Ok-clause-gives
returns-in-Ok-clause-gives c =
    let among : IsAnsweredAmong c.args.self.now.worker c.args.self.now.shards.now
    (delete_call (maps_of c.args.self.now) c.args.map c.args.key.now) (Answer c.in-Ok.code) c.ask.new.self.shards.now =
    rw (c.shard_of-shard.ensures, c.as_slice.ensures.bytes) at c.in-Ok.ensures.answered in
    let fits : FitsSigned w32 c.in-Ok.code = search rules in
    let same : to_z w32 (of_z w32 c.in-Ok.code) ≡ c.in-Ok.code = to_z-of_z w32 c.in-Ok.code fits in
    rw same (record {
      same_port = record {
        same_shards = c.ask.ensures.same_shards;
        same_maps = ap (λ image. image.now.maps) c.ask.ensures.same_image;
        same_options = c.ask.ensures.same_options;
        same_worker = c.ask.ensures.same_worker;
      };
      given = given_by c.args.self.now.image.now.maps _ c.args.self.now.options _ c.args.self.now.worker _ c.args.self.now.shards.now _
          (delete_call (maps_of c.args.self.now) c.args.map c.args.key.now) (Answer c.in-Ok.code)
          (ap (λ image. image.now.maps) c.ask.ensures.same_image) c.ask.ensures.same_options c.ask.ensures.same_worker
          c.args.self.now.ready tt tt fits among;
    })
