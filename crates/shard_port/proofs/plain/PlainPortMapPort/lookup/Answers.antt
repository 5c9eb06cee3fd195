use Rattle.std.proofs.Common.{◌≡◌, ℕ, ap, subst}
use Rattle.std.specs.Prelude.{IsTrue}
use Rattle.std.specs.Coded.{Coded-set, coded_bool}
use Rattle.std.proofs.Math.Logic.{∥∥₁_elim}
use Rattle.journal.specs.Entries.{found_reply}
use Rattle.map_port.specs.Served.{lookup_call, reply_of_handle, served_shard, program_over}
use Rattle.semantics.specs.declared.call.Reply.{Reply}
use Rattle.semantics.specs.RunTrace.{IsReplyTo}
use Rattle.shard_port.specs.Asking.{IsAnsweredAmong}
use Rattle.shard_port.specs.PortView.{IsPortReady, cell_of_handle, handle_of, has_small_cell}
use Rattle.shard_port.specs.PlainPorts.{maps_of}
use Rattle.shard_port.proofs.shared.MayAskLemmas.{may_lookup}
use Rattle.shard_port.proofs.GivenLemmas.{given_by, small_lookup, found_told, lookup_formed}
use Rattle.shard_port.proofs.plain.PlainPortMapPort.lookup.Goals as goal

pub ask-requires-clause-may : goal.ask-requires-clause-may
ask-requires-clause-may c = rw (c.shard_of-shard.ensures, c.as_slice.ensures.bytes) (∥∥₁_elim c.args.self.now.ready (Coded-set coded_bool _ _)
    (λ (ready : IsPortReady c.args.self.now.image.now.maps c.args.self.now.options c.args.self.now.worker c.args.self.now.shards.now).
    may_lookup c.args.self.now.image.now.maps c.args.self.now.options c.args.self.now.worker c.args.self.now.shards.now c.args.map
    c.args.key.now ready c.requires))

pub handle_of_found-requires : goal.handle_of_found-requires
handle_of_found-requires c =
    let number : ℕ = served_shard (maps_of c.args.self.now) c.args.map c.args.key.now in
    let among : IsAnsweredAmong c.args.self.now.worker c.args.self.now.shards.now
    (lookup_call (maps_of c.args.self.now) c.args.map c.args.key.now) (found_reply number c.in-Ok.found) c.ask.new.self.shards.now =
    rw (c.shard_of-shard.ensures, c.as_slice.ensures.bytes) at c.in-Ok.ensures.answered in
    rw c.shard_of-shard.ensures (∥∥₁_elim c.args.self.now.ready (Coded-set coded_bool _ _)
    (λ (ready : IsPortReady c.args.self.now.image.now.maps c.args.self.now.options c.args.self.now.worker c.args.self.now.shards.now).
    small_lookup c.args.self.now.image.now.maps c.args.self.now.options c.args.self.now.worker c.args.self.now.shards.now
    number c.args.key.now (found_reply number c.in-Ok.found) c.ask.new.self.shards.now ready among))

pub returns-in-Ok-clause-gives : goal.returns-in-Ok-clause-gives
returns-in-Ok-clause-gives c =
    let number : ℕ = served_shard (maps_of c.args.self.now) c.args.map c.args.key.now in
    let reply : Reply = found_reply number c.in-Ok.found in
    let among : IsAnsweredAmong c.args.self.now.worker c.args.self.now.shards.now
    (lookup_call (maps_of c.args.self.now) c.args.map c.args.key.now) reply c.ask.new.self.shards.now =
    rw (c.shard_of-shard.ensures, c.as_slice.ensures.bytes) at c.in-Ok.ensures.answered in
    let small : IsTrue (has_small_cell reply) =
    ∥∥₁_elim c.args.self.now.ready (Coded-set coded_bool _ _)
    (λ (ready : IsPortReady c.args.self.now.image.now.maps c.args.self.now.options c.args.self.now.worker c.args.self.now.shards.now).
    small_lookup c.args.self.now.image.now.maps c.args.self.now.options c.args.self.now.worker c.args.self.now.shards.now
    number c.args.key.now reply c.ask.new.self.shards.now ready among) in
    let told : reply ≡ reply_of_handle cell_of_handle (handle_of reply) =
    found_told c.args.self.now.worker c.args.self.now.shards.now number c.args.key.now reply c.ask.new.self.shards.now small among in
    rw (c.handle_of_found.ensures.handle, c.shard_of-shard.ensures) (record {
      same_port = record {
        same_shards = c.ask.ensures.same_shards;
        same_maps = ap (λ image. image.now.maps) c.ask.ensures.same_image;
        same_options = c.ask.ensures.same_options;
        same_worker = c.ask.ensures.same_worker;
      };
      given = given_by c.args.self.now.image.now.maps _ c.args.self.now.options _ c.args.self.now.worker _ c.args.self.now.shards.now _
          (lookup_call (maps_of c.args.self.now) c.args.map c.args.key.now) (reply_of_handle cell_of_handle (handle_of reply))
          (ap (λ image. image.now.maps) c.ask.ensures.same_image) c.ask.ensures.same_options c.ask.ensures.same_worker
          c.args.self.now.ready tt tt
          (subst (IsReplyTo (program_over (maps_of c.args.self.now)) (lookup_call (maps_of c.args.self.now) c.args.map c.args.key.now))
          told (lookup_formed c.args.self.now.image.now.maps c.args.self.now.options c.args.self.now.worker c.args.self.now.shards.now
          number c.args.key.now reply c.ask.new.self.shards.now c.args.self.now.ready among))
          (subst (λ (one : Reply). IsAnsweredAmong c.args.self.now.worker c.args.self.now.shards.now
          (lookup_call (maps_of c.args.self.now) c.args.map c.args.key.now) one c.ask.new.self.shards.now) told among);
    })
