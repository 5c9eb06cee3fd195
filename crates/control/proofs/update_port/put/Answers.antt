use Rattle.std.proofs.Common.{Result, Ok, Err, IfOk, OnErr}
use Rattle.control.proofs.update_port.put.Goals as goal

-- what follows from either answer follows
either_way : {A E C R : Type 0} {P : A → Type 0} (result : Result A E) → ((answer : A) → P answer → C) → (R → C) → IfOk result P → OnErr result R → C
either_way (Ok answer) made refused given turned = made answer given
either_way (Err fault) made refused given turned = refused turned

pub returns-clause-serves : goal.returns-clause-serves
returns-clause-serves g c = either_way c.update.result (λ answer. g.met.U.UpdatePort.keeps c.args.port.now c.update.new.self _ answer)
    (g.met.U.UpdatePort.stays c.args.port.now c.update.new.self _) c.update.ensures.gives c.update.ensures.refuses
