use Rattle.std.proofs.Common.{◌≡◌, ◌∷◌, [], length, arith}
use Rattle.std.proofs.lemmas.List.{length-append}
use Rattle.journal.specs.declared.row.Row.TheVariants.{Reclaimed}
use Rattle.journal.proofs.RowLemmas.{kept_words, reclaimed_more}
use Rattle.journal.proofs.written.Written.append_reclaim.Goals as goal

pub invariant_of-self : goal.invariant_of-self
invariant_of-self c =
    let there : c.len-start.result ≡ length c.self.inside.words.items = cc in
    rw (c.put_row.ensures.items, c.put_word.ensures.items)
    (kept_words _ _ _ c.self.inside.rows.items _ c.self.inside.bytes.items _ c.self.inside.words.items (c.args.count ∷ []) _ (Reclaimed c.args.who c.len-start.result) _ _ c.self.invariant (omega arith)
    (omega (arith, there, length-append c.self.inside.words.items (c.args.count ∷ [])), tt) c.put_row.ensures.room c.put_word.ensures.room)

pub returns : goal.returns
returns c =
    let there : c.len-start.result ≡ length c.self.inside.words.items = cc in
    rw (c.put_row.ensures.items, c.put_word.ensures.items, ← c.self.view_is)
    (reclaimed_more _ _ _ _ c.self.inside.bytes.items c.self.inside.words.items c.self.inside.rows.items c.args.who c.len-start.result c.args.count c.self.invariant.within there)
