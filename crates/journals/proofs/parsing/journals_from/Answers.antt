use Rattle.std.proofs.Common.{refl, rules}
use Rattle.journals.proofs.parsing.journals_from.Goals as goal

pub returns : goal.returns
returns c = rw c.listed.ensures (
  c.in_ok-maps.ensures.items,
  refl,
  record {
    maps_are = c.requires.maps;
    options_fit = c.requires.options;
    one_each = search rules;
  },
  λ entries before. (c.finish_before.new.present, c.in_ok-finish_before.ensures.divided entries before),
)
