use Rattle.std.proofs.Common.{arith, refl}
use Rattle.fleet.proofs.NumberLemmas.{taken_few}
use Rattle.fleet.proofs.numbering.Numbering.note_due.Goals as goal

pub note-requires : goal.note-requires
note-requires c =
    let few = taken_few c.args.frames.now c.requires.past c.commands.self
    (c.commands.invariant.each c.requires.past c.requires.numbered) in
    let due = c.commands-test.ensures.due refl in
    record { small = omega (arith, few, due.2) }
