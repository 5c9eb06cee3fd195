use Rattle.std.proofs.Common.{◌≡◌, ◌*◌, List, length, sym, ap, ◌∙◌, subst}
use Rattle.std.proofs.lemmas.Result.{IfOk-weaker, IfErr-weaker}
use Rattle.ebpf_decode.specs.declared.map.MapDef.{MapDef}
use Rattle.std.specs.Prelude.{Some}
use Rattle.semantics.specs.ShardPlan.{AreOptions, plan_at}
use Rattle.runs.proofs.Places.{found_at, found_within}
use Rattle.shard_core.specs.JournaledShard.{JournaledShard, opened_shard}
use Rattle.shards.specs.Seats.{no_plan}
use Rattle.semantics.specs.MachineState.{initial_state}
use Rattle.journals.specs.JournalsView.{AreImageMaps}
use Rattle.machine.specs.Running.{program_of}
use Rattle.shards.proofs.shared.ImageMaps.{image_maps}
use Rattle.runs.specs.Updates.{AreUpdated}
use Rattle.runs.proofs.OpeningLemmas.{outside_updated}
use Rattle.runs.proofs.AloneLemmas.{run_alone_by, stop_alone_by, count_kept, plans_kept}
use Rattle.runs.proofs.alone.run_alone.Goals as goal

pub worker_run-ended-requires-clause-outside : goal.worker_run-ended-requires-clause-outside
worker_run-ended-requires-clause-outside c =
    outside_updated c.image-image.result.now.maps c.args.options c.args.updates.now c.make_all.new.shards c.args.moment.now.worker
    c.in_ok-make_all.ensures.made

pub journals_of-journals-requires-clause-are : goal.journals_of-journals-requires-clause-are
journals_of-journals-requires-clause-are c =
    let verified = c.args.verified.now in
    let of_image : c.in_ok-maps.maps.items ≡ c.image-image.result.now.maps = c.in_ok-maps.ensures ∙ c.maps_of.ensures.maps in
    let of_verified : c.in_ok-maps.maps.items ≡ verified.maps = of_image ∙ c.image-image.ensures.same.0 in
    let kept = count_kept (program_of verified c.args.options.shards)
    (initial_state c.args.frame.now c.args.moment.now.worker c.args.moment.now.now_ns) c.args.moment.now.worker c.make_all.new.shards
    c.worker_run-ended.new.shards c.worker_run-ended.new.frame c.worker_run-ended.result c.worker_run-ended.ensures.exit c.worker_run-ended.ensures.stop in
    record {
      maps_are = subst AreImageMaps (sym of_verified) (image_maps verified.version verified.maps verified.code c.encodable.ensures);
      options_fit = subst (λ (maps : List MapDef). AreOptions maps c.args.options) (sym of_image) c.in_ok-shards.ensures.options.fit;
      one_each = kept ∙ c.in_ok-make_all.ensures.made.count ∙ ap (λ (maps : List MapDef). length maps * c.args.options.shards) (sym of_image);
    }

pub journals_of-journals-requires-clause-planned : goal.journals_of-journals-requires-clause-planned
journals_of-journals-requires-clause-planned c = λ number shard there.
    let after = c.worker_run-ended.new.shards in
    let kept = plans_kept (program_of c.args.verified.now c.args.options.shards)
    (initial_state c.args.frame.now c.args.moment.now.worker c.args.moment.now.now_ns) c.args.options c.args.moment.now.worker c.args.updates.now
    c.image-image.result.now.maps c.make_all.new.shards after c.worker_run-ended.new.frame c.worker_run-ended.result
    c.in_ok-make_all.ensures.made c.worker_run-ended.ensures.exit c.worker_run-ended.ensures.stop number (found_within after number shard there) in
    let of_image : c.in_ok-maps.maps.items ≡ c.image-image.result.now.maps = c.in_ok-maps.ensures ∙ c.maps_of.ensures.maps in
    ap (λ (maps : List MapDef). plan_at maps c.args.options number) of_image ∙ kept
    ∙ ap (λ (one : JournaledShard). Some one.plan) (sym (found_at after number shard (opened_shard no_plan) there))

pub returns-clause-exit : goal.returns-clause-exit
returns-clause-exit c =
    let verified = c.args.verified.now in
    let of_verified : c.in_ok-maps.maps.items ≡ verified.maps = c.in_ok-maps.ensures ∙ c.maps_of.ensures.maps ∙ c.image-image.ensures.same.0 in
    let closed = c.journals_of-journals.ensures in
    IfOk-weaker c.worker_run-ended.result _ _
    (λ exit ran. run_alone_by (program_of verified c.args.options.shards)
    (initial_state c.args.frame.now c.args.moment.now.worker c.args.moment.now.now_ns) c.args.options c.args.moment.now.worker c.args.updates.now
    c.make_all.new.shards c.worker_run-ended.new.shards c.journals_of-journals.result
    (subst (λ (maps : List MapDef). AreUpdated maps c.args.options c.args.updates.now c.make_all.new.shards) c.image-image.ensures.same.0 c.in_ok-make_all.ensures.made)
    (closed.maps ∙ of_verified) closed.options closed.count closed.written closed.legal ran.count exit.verdict exit.steps c.worker_run-ended.new.frame ran)
    c.worker_run-ended.ensures.exit

pub returns-clause-stop : goal.returns-clause-stop
returns-clause-stop c =
    let verified = c.args.verified.now in
    let of_verified : c.in_ok-maps.maps.items ≡ verified.maps = c.in_ok-maps.ensures ∙ c.maps_of.ensures.maps ∙ c.image-image.ensures.same.0 in
    let closed = c.journals_of-journals.ensures in
    let kept = count_kept (program_of verified c.args.options.shards)
    (initial_state c.args.frame.now c.args.moment.now.worker c.args.moment.now.now_ns) c.args.moment.now.worker c.make_all.new.shards
    c.worker_run-ended.new.shards c.worker_run-ended.new.frame c.worker_run-ended.result c.worker_run-ended.ensures.exit c.worker_run-ended.ensures.stop in
    IfErr-weaker c.worker_run-ended.result _ _
    (λ stop was. stop_alone_by (program_of verified c.args.options.shards)
    (initial_state c.args.frame.now c.args.moment.now.worker c.args.moment.now.now_ns) c.args.options c.args.moment.now.worker c.args.updates.now
    c.make_all.new.shards c.worker_run-ended.new.shards c.journals_of-journals.result
    (subst (λ (maps : List MapDef). AreUpdated maps c.args.options c.args.updates.now c.make_all.new.shards) c.image-image.ensures.same.0 c.in_ok-make_all.ensures.made)
    (closed.maps ∙ of_verified) closed.options closed.count closed.written closed.legal kept c.worker_run-ended.new.frame stop was)
    c.worker_run-ended.ensures.stop
