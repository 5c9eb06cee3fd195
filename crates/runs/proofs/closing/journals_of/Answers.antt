use Rattle.std.proofs.Common.{◌≡◌, ℕ, zero, suc, List, [], ◌∷◌, refl, sym, ap, ◌∙◌, subst, length, ◌<◌}
use Rattle.std.proofs.lemmas.List.{length-map}
use Rattle.std.specs.Prelude.{slice_index_or}
use Rattle.semantics.specs.declared.call.Entry.{Entry}
use Rattle.semantics.specs.History.{IsLegalJournal}
use Rattle.shard_core.specs.JournaledShard.{JournaledShard}
use Rattle.journals.specs.JournalsView.{JournalsView, entries_at}
use Rattle.journals.specs.KeptEntries.{ArePlanned, written_entries}
use Rattle.shards.specs.NewShards.{shard_at}
use Rattle.runs.proofs.closing.journals_of.Goals as goal

-- the journal of the shard of a number, among those of all
journal_at : (shards : List JournaledShard) (number : ℕ) → slice_index_or (written_entries shards) number [] ≡ (shard_at shards number).journal
journal_at [] number = refl
journal_at (one ∷ rest) zero = refl
journal_at (one ∷ rest) (suc number) = journal_at rest number

-- and among those of journals that these shards wrote
entries_are : (shards written : List JournaledShard) (journals : JournalsView) (number : ℕ) → written ≡ shards
    → journals.shards ≡ written_entries written → entries_at journals number ≡ (shard_at shards number).journal
entries_are shards written journals number same is =
    ap (λ (lists : List (List Entry)). slice_index_or lists number []) is ∙ journal_at written number
    ∙ ap (λ (them : List JournaledShard). (shard_at them number).journal) same

pub written-requires-clause-planned : goal.written-requires-clause-planned
written-requires-clause-planned c =
    subst (λ (shards : List JournaledShard). ArePlanned c.args.maps.items c.args.options shards) (sym c.into_list-shards.ensures) c.requires.planned

pub returns-clause-count : goal.returns-clause-count
returns-clause-count c =
    ap (λ (journals : JournalsView). length journals.shards) c.written.ensures
    ∙ length-map c.into_list-shards.result.items (λ (one : JournaledShard). one.journal)
    ∙ ap (λ (shards : List JournaledShard). length shards) c.into_list-shards.ensures

pub returns-clause-written : goal.returns-clause-written
returns-clause-written c = λ number below.
    entries_are c.args.shards c.into_list-shards.result.items c.written.result number c.into_list-shards.ensures
    (ap (λ (journals : JournalsView). journals.shards) c.written.ensures)

pub returns-clause-legal : goal.returns-clause-legal
returns-clause-legal c = λ number below.
    let entries = entries_are c.args.shards c.into_list-shards.result.items c.written.result number c.into_list-shards.ensures
    (ap (λ (journals : JournalsView). journals.shards) c.written.ensures) in
    subst (λ (list : List Entry). IsLegalJournal (shard_at c.args.shards number).plan list) (sym entries)
    (subst (λ (shards : List JournaledShard). IsLegalJournal (shard_at shards number).plan (shard_at shards number).journal) c.into_list-shards.ensures
    ((rw c.deref.ensures.value at c.are_legal.ensures) number
    (subst (λ (shards : List JournaledShard). number < length shards) (sym c.into_list-shards.ensures) below)))
