use Rattle.std.proofs.Common.{◌≡◌, ◌+◌, ◌≤◌, ◌∷◌, ◌++◌, [], w32, length, arith, ap, ◌∙◌}
use Rattle.std.proofs.lemmas.List.{append_assoc, length-append}
use Rattle.std.proofs.lemmas.Int.{to_z-of_z}
use Rattle.journal.specs.declared.row.Row.TheVariants.{Updated}
use Rattle.journal.proofs.RowLemmas.{kept_more, word_last, updated_more}
use Rattle.journal.proofs.written.Written.append_update.Goals as goal

pub invariant_of-self : goal.invariant_of-self
invariant_of-self c =
    let here : c.len-at.result ≡ length c.self.inside.bytes.items = cc in
    let there : c.len-start.result ≡ length c.self.inside.words.items = cc in
    let key_sized : length c.args.key.now ≡ c.self.inside.shape.key_size = rw (← c.self.view_is) at c.requires.key in
    let value_sized : length c.args.value.now ≡ c.self.inside.shape.value_size = rw (← c.self.view_is) at c.requires.value in
    let both : length (c.args.key.now ++ c.args.value.now) ≡ length c.args.key.now + length c.args.value.now = length-append c.args.key.now c.args.value.now in
    let room = c.put_bytes.ensures.room in
    rw (
      c.put_row.ensures.items,
      c.put_two_words.ensures.items,
      c.put_bytes-2.ensures.items,
      c.put_bytes.ensures.items,
      append_assoc c.self.inside.bytes.items c.args.key.now c.args.value.now,
    )
    (kept_more _ _ _ c.self.inside.rows.items _ c.self.inside.bytes.items (c.args.key.now ++ c.args.value.now) _ c.self.inside.words.items
    (c.len-at.result ∷ c.args.flags ∷ []) _ _ _ _ _ c.self.invariant (omega (arith, key_sized, value_sized, both)) (omega arith) (
      omega (arith, there, length-append c.self.inside.words.items (c.len-at.result ∷ c.args.flags ∷ [])),
      omega (
        arith,
        here,
        key_sized,
        value_sized,
        both,
        length-append c.self.inside.bytes.items (c.args.key.now ++ c.args.value.now),
        word_last c.self.inside.words.items (c.len-at.result ∷ c.args.flags ∷ []) c.len-start.result 0 there,
      ),
    )
    c.put_row.ensures.room (omega (arith, room, c.put_bytes-2.ensures.room)) c.put_two_words.ensures.room)

pub returns : goal.returns
returns c =
    let here : c.len-at.result ≡ length c.self.inside.bytes.items = cc in
    let there : c.len-start.result ≡ length c.self.inside.words.items = cc in
    let key_sized : length c.args.key.now ≡ c.self.inside.shape.key_size = rw (← c.self.view_is) at c.requires.key in
    let value_sized : length c.args.value.now ≡ c.self.inside.shape.value_size = rw (← c.self.view_is) at c.requires.value in
    rw (
      c.put_row.ensures.items,
      c.put_two_words.ensures.items,
      c.put_bytes-2.ensures.items,
      c.put_bytes.ensures.items,
      append_assoc c.self.inside.bytes.items c.args.key.now c.args.value.now,
      to_z-of_z w32 c.args.code c.ranges.code,
      ← c.self.view_is,
    )
    (updated_more _ _ _ _ c.self.inside.bytes.items c.args.key.now c.args.value.now c.self.inside.words.items c.self.inside.rows.items c.args.who c.args.code
    c.len-at.result c.args.flags c.len-start.result c.self.invariant.within here key_sized value_sized there)
