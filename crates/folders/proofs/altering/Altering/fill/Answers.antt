use Rattle.std.proofs.Common.{◌∙◌, [], arith, inr, rules, subst, sym}
use Rattle.std.proofs.lemmas.Result.{on_ok_weaker}
use Rattle.folders.specs.AlteredReading.{AlteringView, AreStillRead}
use Rattle.folders.specs.Filling.{IsFilled}
use Rattle.folders.proofs.AlteringLemmas.{bytes_came, filled_both, none_come, read_few_of, record_read}
use Rattle.folders.proofs.altering.Altering.fill.Goals as goal

pub returns-in-None-clause-filled : goal.returns-in-None-clause-filled
returns-in-None-clause-filled g c =
    let left = g.D.Folder.is_left in
    on_ok_weaker c.end_here.result
    (λ ended.
    subst (λ (it : AlteringView). IsFilled (AreStillRead c.args.self.now (left c.args.folder.now)) (AreStillRead it (left c.next_len.new.folder))
    c.args.window.now c.records.window) (sym c.end_here.ensures.same)
    (filled_both _ _ _ _ _ _ c.records.invariant.filled
    (bytes_came c.records.self c.next_len.new.self _ _ c.records.window c.next_len.ensures.reading c.in-Ok.ensures.filled)))
    c.end_here.ensures.ended

pub returns-in-None-clause-enough : goal.returns-in-None-clause-enough
returns-in-None-clause-enough g c =
    let left = g.D.Folder.is_left c.next_len.new.folder in
    let none = rw c.in-None.is at c.in-Ok.ensures.none in
    on_ok_weaker c.end_here.result
    (λ ended. inr (subst (λ (it : AlteringView). AreStillRead it left []) (sym c.end_here.ensures.same)
    (none_come c.next_len.new.self left none.0 none.1 ended)))
    c.end_here.ensures.ended

pub records-preserved : goal.records-preserved
records-preserved g c =
    let so_far = c.records.invariant in
    let next = c.in-Ok.ensures in
    let found = rw c.in-Some.is at next.whole in
    let took = c.in-Ok-take.ensures in
    let less = next.fewer in
    let few = so_far.fewer in
    let read = read_few_of c.next_len.new.self c.take.new.self c.in-Some.len c.take.new.window found.0 found.1 took.rest took.read in
    record {
      filled = filled_both _ _ _ _ _ _ so_far.filled
          (record_read c.records.self c.next_len.new.self c.take.new.self _ _ c.in-Some.len c.records.window c.take.new.window c.next_len.ensures.reading
          next.filled found.0 found.1 took.rest took.read (search rules));
      reading = c.take.ensures.reading ∙ (c.next_len.ensures.reading ∙ so_far.reading);
      fewer = omega (arith, few, less, read);
      kept = λ name held. (
        (λ had. (c.next_len.ensures.kept name held).0 ((so_far.kept name held).0 had)),
        (λ has. (so_far.kept name held).1 ((c.next_len.ensures.kept name held).1 has)),
      );
      begun_kept = λ name held. (
        (λ had. (c.next_len.ensures.begun_kept name held).0 ((so_far.begun_kept name held).0 had)),
        (λ has. (so_far.begun_kept name held).1 ((c.next_len.ensures.begun_kept name held).1 has)),
      );
      steady = search rules;
    }
