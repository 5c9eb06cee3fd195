use Rattle.std.proofs.Common.{◌++◌, ◌∷◌, ◌<◌, ◌^◌, arith}
use Rattle.std.specs.Fmt.{decimal}
use Rattle.semantics.specs.History.{shard_of_call}
use Rattle.journals.specs.JournalText.{who_text, verb_text, verb_of_call, told_text, reply_text, line_of_entry}
use Rattle.journals.proofs.Bytes.{shard_small}
use Rattle.journals.proofs.Words.{number_lacks, who_lacks, verb_lacks, reads_entry}
use Rattle.journals.proofs.reading.entry_read.Goals as goal

pub returns-clause-found : goal.returns-clause-found
unfolding line_of_entry
returns-clause-found c = λ entry fits is.
    let small : shard_of_call entry.call < 2 ^ 32 = shard_small entry.call fits.call in
    let verb = verb_of_call entry.call in
    let told = told_text entry.call (reply_text entry.reply) in
    let first = c.cut.ensures.both (decimal (shard_of_call entry.call)) (who_text entry.who ++ 32 ∷ (verb_text verb ++ 32 ∷ told)) is (number_lacks (shard_of_call entry.call) (omega (arith, small))) in
    let second = c.cut-2.ensures.both (who_text entry.who) (verb_text verb ++ 32 ∷ told) first.1 (who_lacks entry.who fits.who) in
    let third = c.cut-3.ensures.both (verb_text verb) told second.1 (verb_lacks verb) in
    reads_entry entry _ _ _ _ c.told_of.result fits (c.read.ensures verb third.0) (c.who_of.ensures.found entry.who fits.who second.0) (c.count_of.ensures (shard_of_call entry.call) small first.0) c.told_of.ensures.found third.1
