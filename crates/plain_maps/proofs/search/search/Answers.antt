use Rattle.std.proofs.Common.{arith, sym, ◌∙◌}
use Rattle.plain_maps.proofs.Narrowing.{go_up, go_down, same_keys}
use Rattle.plain_maps.proofs.search.search.Goals as goal

pub loop-low-preserved-in-Less : goal.loop-low-preserved-in-Less
loop-low-preserved-in-Less c = go_up _ _ _ _ c.requires _ _ _ _ c.loop-low.invariant (omega arith) (omega arith) (rw (← c.get.ensures, ← c.key_at-other.ensures) (sym c.in-Less.ensures))

pub returns-in-Equal-clause-found : goal.returns-in-Equal-clause-found
returns-in-Equal-clause-found c = record {
  in_range = omega (arith, c.loop-low.invariant.in_range);
  has_key = rw (← c.get.ensures) (sym c.key_at-other.ensures ∙ same_keys _ _ (sym c.in-Equal.ensures));
}

pub loop-low-preserved : goal.loop-low-preserved
loop-low-preserved c = go_down _ _ _ _ c.requires _ _ _ _ c.loop-low.invariant (omega arith) (omega arith) (rw (← c.get.ensures, ← c.key_at-other.ensures) (sym c.in-Greater.ensures))
