use Rattle.std.proofs.Common.{◌≡◌, w32, length, arith}
use Rattle.std.proofs.lemmas.List.{length-append}
use Rattle.std.proofs.lemmas.Int.{to_z-of_z}
use Rattle.journal.proofs.RowLemmas.{kept_bytes, deleted_more}
use Rattle.journal.proofs.written.Written.append_delete.Goals as goal

pub invariant_of-self : goal.invariant_of-self
invariant_of-self c =
    let here : c.len-at.result ≡ length c.self.inside.bytes.items = cc in
    let sized : length c.args.key.now ≡ c.self.inside.shape.key_size = rw (← c.self.view_is) at c.requires.key in
    rw (c.put_row.ensures.items, c.put_bytes.ensures.items)
    (kept_bytes _ _ _ c.self.inside.rows.items _ c.self.inside.bytes.items c.args.key.now _ c.self.inside.words.items _ _ _ _ c.self.invariant (omega (arith, sized))
    (tt, omega (arith, here, sized, length-append c.self.inside.bytes.items c.args.key.now)) c.put_row.ensures.room c.put_bytes.ensures.room)

pub returns : goal.returns
returns c =
    let here : c.len-at.result ≡ length c.self.inside.bytes.items = cc in
    let sized : length c.args.key.now ≡ c.self.inside.shape.key_size = rw (← c.self.view_is) at c.requires.key in
    rw (c.put_row.ensures.items, c.put_bytes.ensures.items, to_z-of_z w32 c.args.code c.ranges.code, ← c.self.view_is)
    (deleted_more _ _ _ _ c.self.inside.bytes.items c.args.key.now c.self.inside.words.items c.self.inside.rows.items c.args.who c.args.code c.len-at.result
    c.self.invariant.within here sized)
