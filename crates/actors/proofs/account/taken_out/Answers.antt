use Rattle.std.proofs.Common.{refl, ap, ◌∙◌}
use Rattle.std.specs.Prelude.{Some}
use Rattle.actors.proofs.shared.TakingOut.{end_is, end_elsewhere, records_stay}
use Rattle.actors.proofs.account.taken_out.Goals as goal

pub returns-clause-end : goal.returns-clause-end
returns-clause-end c =
    ap Some c.replace.ensures.value ∙ end_is c.args.runs.now.items c.args.place c.index_mut-ran.result.now c.requires c.index_mut-ran.ensures.value

pub returns-clause-others : goal.returns-clause-others
returns-clause-others c = end_elsewhere c.args.runs.now.items c.args.place (record { number = c.index_mut-ran.result.now.number; end = c.replace.new.dest })

pub returns-clause-records : goal.returns-clause-records
returns-clause-records c =
    records_stay c.args.runs.now.items c.args.place c.index_mut-ran.result.now (record { number = c.index_mut-ran.result.now.number; end = c.replace.new.dest })
    c.index_mut-ran.ensures.value refl
