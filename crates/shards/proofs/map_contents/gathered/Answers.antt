use Rattle.std.proofs.Common.{◌≡◌, ℕ, ◌+◌, ◌*◌, ◌<◌, List, ◌++◌, length, Some, slice_get, sym, ap, ◌∙◌, subst, arith}
use Rattle.semantics.proofs.shared.EachLemmas.{got_there}
use Rattle.plain_maps.specs.Listed.{ListsAll}
use Rattle.shards.proofs.MapParts.{value_below, lists_start, lists_more}
use Rattle.shards.proofs.map_contents.gathered.Goals as goal

pub parts-init : goal.parts-init
parts-init c =
    subst (λ (entries : List (List ℕ × List ℕ)). ListsAll (value_below c.args.definition.now c.args.parts c.args.shards.now c.args.map 0) entries) (sym c.new-entries.ensures.items)
    (lists_start c.args.definition.now c.args.parts c.args.shards.now c.args.map)

pub parts-preserved : goal.parts-preserved
parts-preserved c =
    let part = c.parts.part in
    let shard = c.index-shards-map.result in
    let within : c.parts.part < c.args.parts = omega (arith, c.parts-test.true) in
    let lt : c.args.map * c.args.parts + c.parts.part < length c.args.shards.now = omega (arith, within, c.requires.within) in
    let there : slice_get c.args.shards.now (c.args.map * c.args.parts + c.parts.part) ≡ Some c.index-shards-map.result =
    got_there c.args.shards.now (c.args.map * c.args.parts + c.parts.part) c.index-shards-map.result lt c.index-shards-map.is in
    let plan = c.requires.parts c.parts.part c.index-shards-map.result within there in
    let added : c.extend_from_slice.new.self.items ≡ c.parts.entries.items ++ c.in_ok-more.more.items =
    c.in_ok-extend_from_slice.ensures.items ∙ ap (λ (more : List (List ℕ × List ℕ)). c.parts.entries.items ++ more) c.deref.ensures.value in
    subst (λ (entries : List (List ℕ × List ℕ)). ListsAll (value_below c.args.definition.now c.args.parts c.args.shards.now c.args.map (c.parts.part + 1)) entries) (sym added)
    (lists_more c.args.definition.now c.args.parts c.args.shards.now c.args.map part shard there plan.same_definition plan.same_part plan.same_parts c.parts.entries.items c.in_ok-more.more.items
    c.parts.invariant c.in_ok-more.ensures)
