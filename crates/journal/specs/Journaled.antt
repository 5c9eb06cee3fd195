-- What contracts see of a journal: what it was opened with, and its entries, the oldest first.
use Rattle.std.specs.Prelude.{◌≡◌, ℕ, List, [], ◌∷◌, ◌++◌}
use Rattle.semantics.specs.declared.call.Entry.{Entry}

pub record Journaled : Type 0 where
  -- the number of the shard
  pub shard : ℕ
  -- how many entries it has room for
  pub reserve : ℕ
  -- how many bytes its keys and its values have
  pub key_size : ℕ
  pub value_size : ℕ
  pub entries : List Entry

abbrev pub opened_journal : ℕ → ℕ → ℕ → ℕ → Journaled
opened_journal shard reserve key_size value_size =
    record { shard = shard; reserve = reserve; key_size = key_size; value_size = value_size; entries = [] }

-- the journal with one entry more
abbrev pub journal_with_entry : Journaled → Entry → Journaled
journal_with_entry journal entry = record {
  shard = journal.shard;
  reserve = journal.reserve;
  key_size = journal.key_size;
  value_size = journal.value_size;
  entries = journal.entries ++ entry ∷ [];
}

-- the journal was opened with this room and these sizes
abbrev pub HasSizes : Journaled → ℕ → ℕ → ℕ → Type 0
HasSizes journal reserve key_size value_size =
    (journal.reserve ≡ reserve) × (journal.key_size ≡ key_size) × (journal.value_size ≡ value_size)
