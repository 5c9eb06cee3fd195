use Rattle.std.proofs.Common.{◌≡◌, ◌∷◌, [], length, arith}
use Rattle.std.proofs.lemmas.List.{length-append}
use Rattle.journal.specs.declared.row.Row.TheVariants.{Changed}
use Rattle.journal.proofs.RowLemmas.{kept_words, changed_more}
use Rattle.journal.proofs.written.Written.append_atomic.Goals as goal

pub invariant_of-self : goal.invariant_of-self
invariant_of-self c =
    let there : c.len-start.result ≡ length c.self.inside.words.items = cc in
    rw (c.put_row.ensures.items, c.put_four_words.ensures.items)
    (kept_words _ _ _ c.self.inside.rows.items _ c.self.inside.bytes.items _ c.self.inside.words.items (c.args.range.now.cell ∷ c.args.change.now.value ∷ c.args.change.now.expected ∷ c.args.old ∷ []) _ (Changed c.args.who c.args.range.now.size c.args.change.now.op c.args.range.now.offset c.len-start.result) _ _ c.self.invariant (omega arith)
    (omega (arith, there, length-append c.self.inside.words.items (c.args.range.now.cell ∷ c.args.change.now.value ∷ c.args.change.now.expected ∷ c.args.old ∷ [])), tt) c.put_row.ensures.room c.put_four_words.ensures.room)

pub returns : goal.returns
returns c =
    let there : c.len-start.result ≡ length c.self.inside.words.items = cc in
    rw (c.put_row.ensures.items, c.put_four_words.ensures.items, ← c.self.view_is)
    (changed_more _ _ _ _ c.self.inside.bytes.items c.self.inside.words.items c.self.inside.rows.items c.args.who c.args.range.now c.args.change.now c.len-start.result c.args.old c.self.invariant.within there)
