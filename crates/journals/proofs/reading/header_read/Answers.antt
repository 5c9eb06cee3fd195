use Rattle.std.proofs.Common.{◌++◌, ◌∷◌, refl, arith}
use Rattle.std.specs.Fmt.{decimal}
use Rattle.journals.specs.JournalText.{header_text}
use Rattle.journals.proofs.Words.{number_lacks}
use Rattle.journals.proofs.reading.header_read.Goals as goal

pub returns : goal.returns
unfolding header_text
returns c = λ options workers shards journal is.
    let text = c.after.ensures (decimal options.workers ++ 32 ∷ (decimal options.shards ++ 32 ∷ decimal options.journal)) is in
    let first = c.cut.ensures.both (decimal options.workers) (decimal options.shards ++ 32 ∷ decimal options.journal) text (number_lacks options.workers (omega (arith, workers))) in
    let second = c.cut-2.ensures.both (decimal options.shards) (decimal options.journal) first.1 (number_lacks options.shards (omega (arith, shards))) in
    rw (c.count_of.ensures options.workers workers first.0, c.count_of-2.ensures options.shards shards second.0, c.count_of-3.ensures options.journal journal second.1) refl
