-- The rights to take of a list from which the last was taken out.
use Rattle.std.proofs.Common.{◌≡◌, ℕ, ◌+◌, List, [], ◌∷◌, ◌++◌, length, refl, sym, ap, ◌∙◌, subst, length-append, option_to_list}
use Rattle.std.specs.Prelude.{Option, Some, None, IfSome}
use mathlib.Core.Option.{some}
use lib.ListN.{get_elem?}
use Rattle.atomic_table.proofs.Lists.{at_last, at_longer}
use Rattle.rx_queues.specs.declared.passes.TakePass.{TakePass}
use Rattle.rx_queues.specs.declared.passes.Queues.{Queues}
use Rattle.rx_queues.specs.Passes.{IsTakePassOf, TakeAtTheirPlaces}

-- the rights to take that are before some others
pub others_take_at_their_places : (queues : Queues) (all first others : List TakePass) → all ≡ first ++ others → TakeAtTheirPlaces queues all
    → TakeAtTheirPlaces queues first
others_take_at_their_places queues all first others parts takes at pass found =
    takes at pass (subst (λ (list : List TakePass). get_elem? list at ≡ some pass) (sym parts) (at_longer first others at pass found))

-- the last of them, where there is one
pub last_takes_at_its_place : (queues : Queues) (all first : List TakePass) (last : Option TakePass) → all ≡ first ++ option_to_list last
    → TakeAtTheirPlaces queues all → IfSome last (λ take. IsTakePassOf queues take × (length all ≡ length first + 1))
last_takes_at_its_place queues all first None parts takes = tt
last_takes_at_its_place queues all first (Some last) parts takes = (
  (takes (length first) last (subst (λ (list : List TakePass). get_elem? list (length first) ≡ some last) (sym parts) (at_last first last (length first) refl))).0,
  ap length parts ∙ length-append first (last ∷ []),
)
