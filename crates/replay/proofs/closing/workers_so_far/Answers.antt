use Rattle.std.proofs.Common.{◌≡◌, ◌<◌, [], length, refl, ap, ◌∙◌, subst, arith}
use Rattle.std.proofs.lemmas.List.{set-get_or}
use Rattle.std.specs.Prelude.{slice_set}
use Rattle.atomic_table.proofs.Lists.{at_index}
use mathlib.Core.Option.{some}
use lib.ListN.{get_elem?}
use Rattle.shards.specs.Passes.{PassView}
use Rattle.semantics.proofs.shared.EachLemmas.{within}
use Rattle.replay.proofs.LastRound.{first_of_first, done_more}
use Rattle.replay.proofs.closing.workers_so_far.Goals as goal

pub workers-preserved : goal.workers-preserved
workers-preserved g c =
    let i = c.workers.invariant in
    let before = c.index_mut.result.now in
    let kept = ap (λ (pass : PassView). record before { state = record before.state { pass = pass } }) c.so_far-all.ensures.pass in
    let inside : c.workers.place < length c.workers.workers.items =
    (let t = c.workers-test.true in let e = i.end_is in let a = c.workers.auto.place-end in let same = ap (λ l. length l) i.same in omega (arith, t, e, a, same)) in
    record {
      end_is = i.end_is;
      same = ap (λ one. slice_set c.workers.workers.items c.workers.place one) (kept ∙ c.index_mut.ensures.value)
          ∙ set-get_or c.workers.workers.items c.workers.place before ∙ i.same;
      later = first_of_first c.args.first c.workers.all c.so_far-all.result i.later c.so_far-all.ensures.later;
      done = done_more c.args.workers.now.items c.workers.place before c.workers.all c.so_far-all.result c.so_far-all.ensures.later
          (subst (λ items. get_elem? items c.workers.place ≡ some before) i.same
          (at_index c.workers.workers.items c.workers.place before inside c.index_mut.ensures.value))
          (record { begun = c.so_far-all.result; first = ([], refl); own = c.so_far-all.ensures.own }) i.done;
    }

pub returns-clause-done : goal.returns-clause-done
returns-clause-done g c = λ place one there.
    let i = c.workers.invariant in
    let inside = within c.args.workers.now.items place one there in
    i.done place one there (let t = c.workers-test.false in let e = i.end_is in let a = c.workers.auto.place-end in omega (arith, t, e, a, inside))
