use Rattle.std.proofs.Common.{rules, IfOk}
use Rattle.std.proofs.lemmas.Result.{IfOk-weaker}
use Rattle.verifier.specs.Dataflow.{states_of}
use Rattle.verifier.specs.Swept.{PassesSweep}
use Rattle.verifier.proofs.SweepLemmas.{without_structure}
use Rattle.verifier.proofs.shared.SafetyLemmas.{safe_image}
use Rattle.verifier.proofs.sweep.judge.Goals as goal

pub returns-in-Err-clause-refused : goal.returns-in-Err-clause-refused
returns-in-Err-clause-refused g c =
    without_structure (g.K.Keeper.keeps c.args.keeper.now) _ _ _ c.in-Err.fault _ c.in-Err.ensures.fault c.of_shape.ensures c.requires.fresh

pub returns-clause-safe : goal.returns-clause-safe
returns-clause-safe g c =
    let passed : IfOk c.sweep.result (PassesSweep (g.K.Keeper.keeps c.sweep.new.keeper) c.args.image.now.version c.args.image.now.maps c.args.image.now.code
    c.sweep.new.memories) = search rules
    in IfOk-weaker c.sweep.result _ _
    (λ _ passes. safe_image c.args.image.now.version c.args.image.now.maps c.args.image.now.code
    (states_of c.args.image.now.version c.args.image.now.maps c.args.image.now.code) c.code.ensures.encodable passes.accepted)
    passed
