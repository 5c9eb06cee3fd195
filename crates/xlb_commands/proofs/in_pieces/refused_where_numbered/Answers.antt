use Rattle.std.proofs.Common.{◌∙◌, inr, refl, sym}
use Rattle.xlb_commands.specs.Parts.{command_frames}
use Rattle.xlb_commands.proofs.Earlier.{capture_before}
use Rattle.xlb_commands.proofs.in_pieces.refused_where_numbered.Goals as goal

pub has_numbers-requires : goal.has_numbers-requires
has_numbers-requires g c =
    let seen = rw c.in-Some.is at c.in_ok-taking.ensures.passed in
    record { part = c.args.asked.part; frames = command_frames c.args.whole.script.now; past = seen.0; passed = seen.1 }

pub returns-then-branch-clause-refused : goal.returns-then-branch-clause-refused
returns-then-branch-clause-refused g c =
    let seen = rw c.in-Some.is at c.in_ok-taking.ensures.passed in
    inr (
      refl,
      record {
        captured = seen.0;
        capture = seen.2 refl;
        numbers_are = (c.in_ok-has_numbers.ensures.same c.args.asked.part (command_frames c.args.whole.script.now) seen.0 seen.1).0 c.if-branch.true;
      },
    )
