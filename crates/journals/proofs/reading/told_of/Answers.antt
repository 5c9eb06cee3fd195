use Rattle.std.proofs.Common.{◌∙◌, ap}
use Rattle.semantics.specs.declared.call.Reply.{Reply}
use Rattle.semantics.specs.declared.call.Call.TheVariants.{Reclaim}
use Rattle.journals.specs.JournalText.{told_text}
use Rattle.semantics.specs.History.{entry_of}
use Rattle.journals.specs.ToldReading.{Reads}
use Rattle.journals.proofs.reading.told_of.Goals as goal

pub returns-in-Reclaim-clause-found : goal.returns-in-Reclaim-clause-found
unfolding Reads told_text
returns-in-Reclaim-clause-found c = rw c.in-Reclaim.is (λ reply replies is.
    c.plain-in-Reclaim.ensures ∙ ap (λ (r : Reply). entry_of c.args.who (Reclaim c.args.shard) r) (c.freed_of.ensures.found reply replies is))
