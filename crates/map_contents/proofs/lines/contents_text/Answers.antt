use Rattle.std.proofs.Common.{sym, ◌∙◌}
use Rattle.map_contents.proofs.Remaking.{kept_shards}
use Rattle.map_contents.proofs.lines.contents_text.Goals as goal

pub text_of-requires : goal.text_of-requires
text_of-requires c =
    let kept = rw c.in-Shards.is at c.kept.ensures in
    kept_shards c.args.journals.now c.in-Shards.shards.now (sym c.count-count.ensures.count ∙ c.count-count.ensures.one_each) kept.0 kept.1
