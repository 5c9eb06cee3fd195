use mir.Val.{to_z}
use Rattle.std.proofs.Common.{w32, sym, ◌∙◌, ap}
use Rattle.std.proofs.lemmas.Int.{to_z-of_z}
use Rattle.shard_core.proofs.contents.retire_key.Goals as goal

pub retire-requires-clause-once : goal.retire-requires-clause-once
retire-requires-clause-once c =
    (c.requires.retired c.in-Some.cell (sym (to_z-of_z w32 c.args.code c.ranges.code) ∙ ap (to_z w32) c.if-code-ne0.false) (sym c.in-Some.ensures.cell)).once

pub retire-requires-clause-room : goal.retire-requires-clause-room
retire-requires-clause-room c =
    (c.requires.retired c.in-Some.cell (sym (to_z-of_z w32 c.args.code c.ranges.code) ∙ ap (to_z w32) c.if-code-ne0.false) (sym c.in-Some.ensures.cell)).room

pub retire-requires-clause-latest : goal.retire-requires-clause-latest
retire-requires-clause-latest c = rw c.stamp.ensures.stamp ((c.requires.retired c.in-Some.cell (sym (to_z-of_z w32 c.args.code c.ranges.code) ∙ ap (to_z w32) c.if-code-ne0.false) (sym c.in-Some.ensures.cell)).latest)
