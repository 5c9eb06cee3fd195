use Rattle.map_contents.proofs.lines.text_of.Goals as goal

pub returns : goal.returns
returns c = record {
  shards = c.args.shards.now;
  of_journals = c.requires;
  told = c.in_ok-told.told;
  is_told = c.in_ok-told.ensures;
  lines = c.in_ok-text.ensures;
}
