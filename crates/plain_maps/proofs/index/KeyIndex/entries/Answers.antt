use Rattle.std.proofs.Common.{ℕ, List, sym, subst}
use Rattle.plain_maps.specs.Keyed.{key_map}
use Rattle.plain_maps.specs.Listed.{ListsAll, item_of}
use Rattle.plain_maps.proofs.Flagged.{lists_flagged}
use Rattle.plain_maps.proofs.index.KeyIndex.entries.Goals as goal

pub returns : goal.returns
returns c =
    let inside = c.self.inside in
    let listed = rw (c.deref.ensures.value, c.deref-2.ensures.value) at c.in_ok-entries.ensures in
    rw (← c.self.view_is) (subst (λ (entries : List (List ℕ × ℕ)). ListsAll (item_of (key_map inside.size inside.capacity inside.keys.items inside.is_there.items) c.args.items.now) entries) (sym listed)
    (lists_flagged inside.size inside.capacity inside.keys.items inside.is_there.items c.args.items.now c.self.invariant.apart))
