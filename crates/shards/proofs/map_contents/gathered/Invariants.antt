use Rattle.plain_maps.specs.Listed.{ListsAll}
use Rattle.shards.proofs.MapParts.{value_below}
use Rattle.shards.proofs.map_contents.gathered.Given as goal

abbrev pub invariant-parts : goal.invariant-parts
invariant-parts l = ListsAll (value_below l.definition l.parts l.shards l.map l.part) l.entries.items
