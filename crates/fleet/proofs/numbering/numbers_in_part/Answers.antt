use Rattle.std.proofs.Common.{◌∙◌, List, arith, subst, sym, take}
use Rattle.std.proofs.lemmas.List.{length-take-le, take_more}
use Rattle.wire.specs.declared.records.Sent.{Sent}
use Rattle.fleet.specs.Numbers.{AreNumbered}
use Rattle.fleet.proofs.numbering.numbers_in_part.Goals as goal

pub pass-requires-clause-fits : goal.pass-requires-clause-fits
pass-requires-clause-fits c =
    let within = c.records-test.true in
    let passed = c.records.invariant.numbered.passed in
    let long = length-take-le c.records.place c.args.records.now (omega (arith, within)) in
    let fits = c.records.auto.place-end in
    omega (arith, passed, long, within, fits)

pub pass-requires-clause-numbering : goal.pass-requires-clause-numbering
pass-requires-clause-numbering c = record { past = take c.records.place c.args.records.now; numbered = c.records.invariant.numbered }

pub records-preserved : goal.records-preserved
records-preserved c = record {
  numbered = subst (λ (them : List Sent). AreNumbered c.args.frames.now them c.pass.new.self)
      (sym (take_more c.args.records.now c.records.place _ c.records-test.true))
      (c.in_ok-pass.ensures.past (take c.records.place c.args.records.now) _ (sym c.deref.ensures.value) c.records.invariant.numbered);
  part = c.in_ok-pass.ensures.part ∙ c.records.invariant.part;
}
