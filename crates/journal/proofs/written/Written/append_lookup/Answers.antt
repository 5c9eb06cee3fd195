use Rattle.std.proofs.Common.{◌≡◌, ◌∷◌, [], length, arith}
use Rattle.std.proofs.lemmas.List.{length-append}
use Rattle.journal.specs.declared.row.Row.TheVariants.{Found, Missed}
use Rattle.journal.proofs.RowLemmas.{kept_more, kept_bytes, found_more, missed_more}
use Rattle.journal.proofs.written.Written.append_lookup.Goals as goal

pub invariant_of-self : goal.invariant_of-self
invariant_of-self c =
    let here : c.len-at.result ≡ length c.self.inside.bytes.items = cc in
    let there : c.len-start.result ≡ length c.self.inside.words.items = cc in
    let sized : length c.args.key.now ≡ c.self.inside.shape.key_size = rw (← c.self.view_is) at c.requires.key in
    rw (c.put_row.ensures.items, c.put_word.ensures.items, c.put_bytes.ensures.items)
    (kept_more _ _ _ c.self.inside.rows.items _ c.self.inside.bytes.items c.args.key.now _ c.self.inside.words.items (c.in-Some.cell ∷ []) _
    (Found c.args.who c.len-at.result c.len-start.result) _ _ _ c.self.invariant (omega (arith, sized)) (omega arith) (
      omega (arith, there, length-append c.self.inside.words.items (c.in-Some.cell ∷ [])),
      omega (arith, here, sized, length-append c.self.inside.bytes.items c.args.key.now),
    )
    c.put_row.ensures.room c.put_bytes.ensures.room c.put_word.ensures.room)

pub invariant_of-self-in-None : goal.invariant_of-self-in-None
invariant_of-self-in-None c =
    let here : c.len-at.result ≡ length c.self.inside.bytes.items = cc in
    let sized : length c.args.key.now ≡ c.self.inside.shape.key_size = rw (← c.self.view_is) at c.requires.key in
    rw (c.put_row-in-None.ensures.items, c.put_bytes.ensures.items)
    (kept_bytes _ _ _ c.self.inside.rows.items _ c.self.inside.bytes.items c.args.key.now _ c.self.inside.words.items _ (Missed c.args.who c.len-at.result) _ _
    c.self.invariant (omega (arith, sized)) (tt, omega (arith, here, sized, length-append c.self.inside.bytes.items c.args.key.now))
    c.put_row-in-None.ensures.room c.put_bytes.ensures.room)

pub returns-in-Some : goal.returns-in-Some
returns-in-Some c =
    let here : c.len-at.result ≡ length c.self.inside.bytes.items = cc in
    let there : c.len-start.result ≡ length c.self.inside.words.items = cc in
    let sized : length c.args.key.now ≡ c.self.inside.shape.key_size = rw (← c.self.view_is) at c.requires.key in
    rw (c.put_row.ensures.items, c.put_word.ensures.items, c.put_bytes.ensures.items, ← c.self.view_is, c.in-Some.is)
    (found_more _ _ _ _ c.self.inside.bytes.items c.args.key.now c.self.inside.words.items c.self.inside.rows.items c.args.who c.len-at.result c.len-start.result
    c.in-Some.cell c.self.invariant.within here sized there)

pub returns-in-None : goal.returns-in-None
returns-in-None c =
    let here : c.len-at.result ≡ length c.self.inside.bytes.items = cc in
    let sized : length c.args.key.now ≡ c.self.inside.shape.key_size = rw (← c.self.view_is) at c.requires.key in
    rw (c.put_row-in-None.ensures.items, c.put_bytes.ensures.items, ← c.self.view_is, c.in-None.is)
    (missed_more _ _ _ _ c.self.inside.bytes.items c.args.key.now c.self.inside.words.items c.self.inside.rows.items c.args.who c.len-at.result
    c.self.invariant.within here sized)
