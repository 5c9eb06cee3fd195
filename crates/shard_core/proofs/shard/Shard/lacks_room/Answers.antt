use Rattle.std.proofs.Common.{◌≡◌, reverse, length, refl, sym, ◌∙◌, ap}
use Rattle.std.specs.Prelude.{count_by, is_some}
use Rattle.std.proofs.lemmas.List.{length-reverse}
use Rattle.semantics.specs.Reclamation.{inside_count}
use Rattle.shard_core.specs.Sections.{ReaderEpochs}
use Rattle.shard_core.proofs.EpochLemmas.{inside_count_by_epoch}
use Rattle.shard_core.proofs.shard.Shard.lacks_room.Goals as goal

pub returns : goal.returns
returns c =
    let inside = c.self.inside in
    let count : c.count-inside.result ≡ inside_count (reverse inside.journal.entries) =
    c.count-inside.ensures ∙ ap (λ (readers : ReaderEpochs). count_by is_some readers.epochs) c.self.invariant.readers_are ∙ inside_count_by_epoch inside.plan (reverse inside.journal.entries) in
    let long : c.len.result ≡ length (reverse inside.journal.entries) = c.len.ensures ∙ sym (length-reverse inside.journal.entries) in
    rw (← c.self.view_is) (c.lacks_room.ensures ∙ rw (count, long) refl)
