use Rattle.std.proofs.Common.{[], ◌∷◌, append-nil, sym}
use Rattle.xlb_commands.proofs.next_records.take_record.Goals as goal

pub returns-in-Ok-clause-record : goal.returns-in-Ok-clause-record
returns-in-Ok-clause-record g c =
    let added = c.in-Ok.ensures.added in
    let same = sym (c.frame.ensures added.0 added.1) in (
      added.0,
      added.1,
      added.2,
      c.in_ok-go_past.ensures.past added.0 same,
      added.0 ∷ [],
      rw c.if-branch.true at (c.in_ok-go_past.ensures.taken added.0 same),
      added.3,
    )

pub returns-else-branch-clause-record : goal.returns-else-branch-clause-record
returns-else-branch-clause-record g c =
    let front = c.requires.front in
    let same = sym (c.frame.ensures front.sent front.begins) in (
      front.sent,
      front.begins,
      c.pass.ensures.behind front.sent front.begins,
      c.in_ok-go_past.ensures.past front.sent same,
      [],
      rw c.if-branch.false at (c.in_ok-go_past.ensures.taken front.sent same),
      sym (append-nil c.args.buffer.now),
    )
