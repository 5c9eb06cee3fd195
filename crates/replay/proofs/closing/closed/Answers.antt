use Rattle.std.proofs.Common.{◌≡◌, List, [], length, refl, sym, ap, ◌∙◌, subst, arith}
use Rattle.std.proofs.lemmas.List.{length-map}
use Rattle.std.specs.Prelude.{map, Vec}
use Rattle.std.specs.declared.alloc.Global.{Global}
use Rattle.map_updates.specs.declared.update.MapUpdate.{MapUpdate}
use Rattle.machine.specs.Running.{program_of}
use Rattle.shards.specs.SharedMaps.{ArePlans}
use Rattle.actors.specs.Accounts.{lists_of, AreRunsOfShares, counts_of, sent_of, ends_of}
use Rattle.actors.specs.Shares.{frames_of, all_captured}
use Rattle.actors.specs.Parts.{IsScriptRunBehind, round_count}
use Rattle.actors.specs.RunsOverShards.{pass_in}
use Rattle.actors.specs.Accounted.{IsAccounted}
use Rattle.actors.specs.declared.outcome.Outcome.{Outcome}
use Rattle.shards.specs.Passes.{AreSettled}
use Rattle.semantics.specs.declared.call.Caller.{Caller}
use Rattle.shards.specs.declared.deeds.OrderPart.TheVariants.{ByCaller}
use Rattle.shards.specs.Deeds.{deeds_of}
use Rattle.replay.proofs.Accounts.{IsOwnIn, shares, work, no_work_later, outcome_is}
use Rattle.replay.proofs.LastRound.{first_of_first, nothing_later, closes_behind}
use Rattle.replay.proofs.PartLemmas.{IsScriptBegun, all_of, script_begins, rounds_stand}
use Rattle.replay.proofs.closing.closed.Goals as goal

pub account-requires-clause-runs : goal.account-requires-clause-runs
account-requires-clause-runs g c =
    let records = c.args.capture.now.records.items in
    let workers = c.args.shards.options.workers in
    let lists = c.in_ok-runs.runs.items in
    subst (λ n. AreRunsOfShares (frames_of records) n (length records) (lists_of lists)) (sym (c.in_ok-runs.ensures.count.0 ∙ c.requires.count))
    (shares g.B.Naming.count g.B.Naming.plan (program_of c.args.verified.now c.args.shards.options.shards) records workers c.args.ended.workers.items
    (lists_of lists) c.in_ok-runs.working.items c.requires.count c.requires.handled c.in_ok-runs.ensures.parts)

pub returns-clause-accounted : goal.returns-clause-accounted
returns-clause-accounted g c =
    let records = c.args.capture.now.records.items in
    let frames = frames_of records in
    let workers = c.args.shards.options.workers in
    let program = program_of c.args.verified.now c.args.shards.options.shards in
    let lists = c.in_ok-runs.runs.items in
    let working = c.in_ok-runs.working.items in
    let journals = c.close_behind-journals.result in
    let as_many : length lists ≡ workers = c.in_ok-runs.ensures.count.0 ∙ c.requires.count in
    let workers_passes : length (map pass_in working) ≡ workers = length-map working pass_in ∙ c.in_ok-runs.ensures.count.1 ∙ c.requires.count in
    let passes = c.in_ok-passes.passes.items in
    let settled = all_of (AreSettled g.B.Naming.count journals) passes (map pass_in working) c.args.ended.controller.pass c.args.ended.reclaimer
    c.in_ok-passes.ensures c.close_behind-journals.ensures.settled in
    let did = c.close_behind-journals.ensures.did in
    let one = did.one in
    let owned = all_of (IsOwnIn one.deeds) passes (map pass_in working) c.args.ended.controller.pass c.args.ended.reclaimer c.in_ok-passes.ensures one.own in
    let told = c.outcome_of.ensures in
    let updates_are : c.outcome_of.result.updates.items ≡ c.args.updates.now =
    ap (λ (list : Vec MapUpdate Global). list.items) told.updates ∙ c.in_ok-made.ensures in
    let is = outcome_is c.outcome_of.result c.in_ok-counts.counts c.in_ok-counts.sent c.in_ok-counts.ends journals told.counts told.sent told.ends told.journals in
    let begun = subst (λ maps. IsScriptBegun g.B.Naming.plan maps c.args.shards.options g.B.Naming.count c.outcome_of.result.updates.items c.args.script.now journals one.deeds
    c.outcome_of.result.refused.items) c.requires.maps
    (script_begins g.B.Naming.plan c.args.shards.maps c.args.shards.options g.B.Naming.count c.outcome_of.result.updates.items c.args.script.now c.args.size
    c.args.ended.controller.noted.items c.args.ended.controller.pass journals one.deeds c.outcome_of.result.refused.items c.requires.script.0 c.planned.ensures.plans
    c.planned.ensures.options c.requires.size c.requires.serves
    (subst (λ (updates : List MapUpdate). IsScriptRunBehind g.B.Naming.plan c.args.shards.maps c.args.shards.options updates c.args.script.now c.args.size
    c.args.ended.controller.noted.items c.args.ended.controller.pass c.requires.script.0) (sym updates_are) c.requires.script.2)
    settled.next owned.next told.refused (first_of_first c.requires.script.0 c.args.before_last one.deeds c.requires.script.1 did.begins)) in
    let later = did.begins.0 in
    subst (λ (outcome : Outcome). IsAccounted program c.args.script.now c.args.shards.options records outcome) (sym is) (record {
      maps = c.close_behind-journals.ensures.maps ∙ c.requires.maps;
      options_are = c.close_behind-journals.ensures.options;
      count = g.B.Naming.count;
      count_is = c.close_behind-journals.ensures.count;
      plan = g.B.Naming.plan;
      plans = subst (λ maps. ArePlans maps c.args.shards.options g.B.Naming.count g.B.Naming.plan) c.requires.maps c.planned.ensures.plans;
      legal = c.close_behind-journals.ensures.legal;
      order = one.deeds;
      ordered = record { within = one.within; journals_are = one.journals_are; met = one.met };
      runs = lists_of lists;
      workers = length-map lists (λ list. list.items) ∙ as_many;
      work = work g.B.Naming.count g.B.Naming.plan program records workers c.args.ended.workers.items (lists_of lists) working (map pass_in working) journals
          one.deeds c.requires.count c.requires.handled c.in_ok-runs.ensures.parts (λ worker below. refl)
          (λ worker below. settled.first worker (omega (arith, below, workers_passes)))
          (λ worker below. owned.first worker (omega (arith, below, workers_passes)));
      counts = subst (λ n. c.in_ok-counts.counts ≡ counts_of frames n (lists_of lists) (length records)) as_many c.in_ok-counts.ensures.counts;
      each_once = c.in_ok-counts.ensures.frames;
      sent = subst (λ n. all_captured c.in_ok-counts.sent.items ≡ sent_of frames n (lists_of lists) (length records)) as_many c.in_ok-counts.ensures.sent;
      ends = subst (λ n. c.in_ok-counts.ends.items ≡ ends_of frames n (lists_of lists) (length records)) as_many c.in_ok-counts.ensures.ends;
      commands = begun.commands;
      begins = begun.begins;
      rounds = rounds_stand g.B.Naming.plan g.B.Naming.count (round_count (length records)) journals one.deeds c.args.ended.reclaimer c.requires.rounds.1
          settled.last owned.last c.requires.rounds.0;
      closes = closes_behind g.B.Naming.plan g.B.Naming.count workers one.deeds c.args.before_last c.args.ended.reclaimer.deeds one.by did.begins
          (no_work_later g.B.Naming.count g.B.Naming.plan program records workers c.args.ended.workers.items (lists_of lists) working (map pass_in working)
          one.deeds later c.args.before_last c.requires.count c.requires.handled c.in_ok-runs.ensures.parts (λ worker below. refl)
          (λ worker below. owned.first worker (omega (arith, below, workers_passes))) c.requires.closed.by_workers did.begins.1)
          (subst (λ (one : Caller). deeds_of (ByCaller one) later ≡ []) c.requires.script.2.run.who
          (nothing_later one.deeds later c.args.before_last c.args.ended.controller.pass did.begins.1 c.requires.closed.by_controller owned.next))
          (owned.last ∙ ap (λ (one : Caller). deeds_of (ByCaller one) did.one.deeds) c.requires.rounds.1) c.requires.closed.last;
    })
