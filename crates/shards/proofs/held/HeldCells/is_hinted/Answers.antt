use Rattle.std.proofs.Common.{◌∙◌, true≢false, inl, inr, sym, rules}
use Rattle.std.proofs.lemmas.List.{get_or_read}
use Rattle.std.proofs.lemmas.Bool.Decides.{eqb_tells}
use Rattle.shards.proofs.HeldLemmas.{among_at}
use Rattle.shards.proofs.held.HeldCells.is_hinted.Goals as goal

pub returns : goal.returns
returns c = λ same. elim (eqb_tells c.index.result.now c.args.id) [
  | inl is ↦ rw (← c.self.view_is) (among_at c.args.id _ c.self.inside.ids.items (search rules) (sym (get_or_read c.self.inside.ids.items _ c.index.result.now (search rules) c.index.ensures 0) ∙ is.1))
  | inr apart ↦ absurd (true≢false (sym same ∙ apart.0))
]
