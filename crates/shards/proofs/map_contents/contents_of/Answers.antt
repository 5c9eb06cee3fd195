use Rattle.semantics.proofs.shared.PlanLemmas.{some_shards}
use Rattle.shards.specs.MapContents.{value_in_map}
use Rattle.shards.proofs.MapParts.{plan_there, parts_within}
use Rattle.shards.proofs.map_contents.contents_of.Goals as goal

pub gathered-requires-clause-some : goal.gathered-requires-clause-some
gathered-requires-clause-some c = some_shards c.args.maps.now c.args.options.now c.requires.options

pub gathered-requires-clause-within : goal.gathered-requires-clause-within
gathered-requires-clause-within c =
    parts_within c.args.maps.now c.args.options.now c.args.shards.now c.args.map c.requires.shards c.requires.map

pub gathered-requires-clause-parts : goal.gathered-requires-clause-parts
gathered-requires-clause-parts c =
    plan_there c.args.maps.now c.args.options.now c.args.shards.now c.args.map c.definition_of-definition.result c.requires.shards
    c.definition_of-definition.ensures

pub returns : goal.returns
returns c = record {
  definition = c.definition_of-definition.result;
  known = c.definition_of-definition.ensures;
  all = c.in_ok-sorted.ensures (value_in_map c.definition_of-definition.result c.args.options.now.shards c.args.shards.now c.args.map)
      c.in_ok-entries.ensures;
}
