use Rattle.std.proofs.Common.{rules}
use Rattle.map_contents.proofs.fronts.fronts_of.Goals as goal

pub returns : goal.returns
returns c = record {
  shards = c.args.shards.now;
  of_journals = c.requires.of_journals;
  entries = c.in_ok-entries.entries.items;
  contents = c.in_ok-entries.ensures;
  fronts_are = (search rules);
}
