use Rattle.std.proofs.Common.{◌≡◌, ◌∷◌, [], length, arith}
use Rattle.std.proofs.lemmas.List.{length-append}
use Rattle.journal.specs.declared.row.Row.TheVariants.{Stored}
use Rattle.journal.proofs.RowLemmas.{kept_words, stored_more}
use Rattle.journal.proofs.written.Written.append_store.Goals as goal

pub invariant_of-self : goal.invariant_of-self
invariant_of-self c =
    let there : c.len-start.result ≡ length c.self.inside.words.items = cc in
    rw (c.put_row.ensures.items, c.put_two_words.ensures.items)
    (kept_words _ _ _ c.self.inside.rows.items _ c.self.inside.bytes.items _ c.self.inside.words.items (c.args.range.now.cell ∷ c.args.value ∷ []) _ (Stored c.args.who c.args.range.now.size c.args.range.now.offset c.len-start.result) _ _ c.self.invariant (omega arith)
    (omega (arith, there, length-append c.self.inside.words.items (c.args.range.now.cell ∷ c.args.value ∷ [])), tt) c.put_row.ensures.room c.put_two_words.ensures.room)

pub returns : goal.returns
returns c =
    let there : c.len-start.result ≡ length c.self.inside.words.items = cc in
    rw (c.put_row.ensures.items, c.put_two_words.ensures.items, ← c.self.view_is)
    (stored_more _ _ _ _ c.self.inside.bytes.items c.self.inside.words.items c.self.inside.rows.items c.args.who c.args.range.now c.len-start.result c.args.value c.self.invariant.within there)
