use Rattle.std.proofs.Common.{◌<◌, ◌∷◌, ◌++◌, [], List, length, refl, ap, ◌∙◌}
use Rattle.actors.specs.declared.runner.Ran.{Ran}
use Rattle.semantics.proofs.shared.EachLemmas.{got_there}
use Rattle.actors.proofs.worker.ran.Goals as goal

pub returns-in-Some-clause-ran : goal.returns-in-Some-clause-ran
returns-in-Some-clause-ran g c = λ _.
    let ran : Ran = record { number = c.args.number; end = c.in-Some.end } in
    let below : c.args.number < length c.args.capture.now.records.items =
    c.requires.number in
    record {
      ran = ran;
      number_is = refl;
      noted = c.push_reserved.ensures.items ∙ ap (λ (l : List Ran). l ++ ran ∷ []) c.reserve.ensures.items;
      run = record {
        sent = c.index-sent.result.now;
        known = got_there c.args.capture.now.records.items c.args.number c.index-sent.result.now below c.index-sent.ensures;
        run = c.in-Some.ensures.run;
      };
    }
