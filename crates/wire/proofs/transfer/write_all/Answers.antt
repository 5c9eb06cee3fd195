use Rattle.std.proofs.Common.{◌∙◌, rules}
use Rattle.wire.proofs.DeviceLemmas.{written_more, front_written}
use Rattle.wire.proofs.transfer.write_all.Goals as goal

pub writing-preserved : goal.writing-preserved
writing-preserved g c = record {
  within = search rules;
  held = written_more _ _ _ c.args.bytes.now c.writing.at c.in-Ok.count c.writing.invariant.held c.in-Ok.ensures.front;
  steady = c.in-Ok.ensures.steady ∙ c.writing.invariant.steady;
}

pub returns-in-Err-clause-front : goal.returns-in-Err-clause-front
returns-in-Err-clause-front g c =
    front_written _ _ c.args.bytes.now c.writing.at (c.in-Err.ensures.refused_unchanged ∙ c.writing.invariant.held)
