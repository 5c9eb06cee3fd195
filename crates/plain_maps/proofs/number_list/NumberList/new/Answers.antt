use Rattle.std.proofs.Common.{◌≡◌, ◌∙◌, List, ℕ, [], length, ap, rules}
use Rattle.std.proofs.lemmas.List.{length-replicate}
use Rattle.plain_maps.proofs.BlockLemmas.{empty_shaped, empty_joined}
use Rattle.plain_maps.proofs.number_list.NumberList.new.Goals as goal

pub invariant_of-result : goal.invariant_of-result
invariant_of-result c =
    let none : List ℕ = [] in
    let long : length c.blocks-2.blocks.items ≡ c.blocks-2.counter = ap length c.blocks-2.invariant ∙ length-replicate c.blocks-2.counter none in
    record { shaped = rw c.blocks-2.invariant (empty_shaped c.blocks-2.counter); few = search (rules, long) }

pub returns-clause-numbers : goal.returns-clause-numbers
returns-clause-numbers c = rw c.blocks-2.invariant (empty_joined c.blocks-2.counter)
