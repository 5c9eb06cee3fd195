-- What is read of a file of journals: the journals, or the first line that cannot be there.
use Rattle.std.specs.Prelude.{◌≡◌, ◌≢◌, ℕ, ◌+◌, ◌<◌, ◌≤◌, ◌⊎◌, List, [], ◌∷◌, ◌++◌, length, Option, Some, None, ⊤}
use Rattle.std.specs.List.{AllByRecursion}
use Rattle.std.specs.Str.{IsUtf8}
use Rattle.text_lines.specs.NoText.{IsNoText}
use Rattle.ebpf_decode.specs.declared.map.MapDef.{MapDef}
use Rattle.semantics.specs.declared.call.Entry.{Entry}
use Rattle.semantics.specs.declared.options.Options.{Options}
use Rattle.semantics.specs.ShardPlan.{AreServedOptions, KeepsRows}
use Rattle.semantics.specs.History.{shard_of_call}
use Rattle.journals.specs.JournalsView.{JournalsView, AreJournals}
use Rattle.journals.specs.declared.fault.FileFault.{FileFault}
use Rattle.journals.specs.declared.fault.FileFault.TheVariants.{Device, Memory, BadJournalFile}
use Rattle.text_lines.specs.Lines.{ended}
use Rattle.journals.specs.JournalText.{line_of_entry, header_text, entries_text, all_entries, journals_text}
use Rattle.journals.specs.EntryForm.{IsFileEntry}

-- ---- whole files

-- the entry is one of this shard
abbrev pub IsOfShard : ℕ → Entry → Type 0
IsOfShard number entry = shard_of_call entry.call ≡ number

-- each entry is one of the shard in whose list it is; the first list is that of this shard
abbrev pub AreListedFrom : ℕ → List (List Entry) → Type 0
AreListedFrom number [] = Unit {0}
AreListedFrom number (entries ∷ shards) = AllByRecursion (IsOfShard number) entries × AreListedFrom (number + 1) shards

-- the bytes are the file of these journals
pub record IsJournalsFile (maps : List MapDef) (bytes : List ℕ) (journals : JournalsView) : Type 0 where
  pub of_maps : journals.maps ≡ maps
  pub journals_are : AreJournals maps journals.options (length journals.shards)
  pub rows : KeepsRows journals.options.journal
  pub fit : AllByRecursion (IsFileEntry maps journals.options) (all_entries journals.shards)
  pub listed : AreListedFrom 0 journals.shards
  pub spelled : bytes ≡ journals_text journals

-- where each entry is one that a file may have, in the list of its shard, the text of the journals is their file
abbrev pub JournalsReadBack : JournalsView → Type 0
JournalsReadBack journals =
    AllByRecursion (IsFileEntry journals.maps journals.options) (all_entries journals.shards) → AreListedFrom 0 journals.shards →
    IsJournalsFile journals.maps (journals_text journals) journals

-- ---- lines

-- the line, without its line feed, is the entry's
pub record IsEntryLine (maps : List MapDef) (options : Options) (entry : Entry) (line : List ℕ) : Type 0 where
  pub fits : IsFileEntry maps options entry
  pub spelled : line ≡ line_of_entry entry

-- the one entry whose line this is, if it is one's
abbrev pub TellsEntry : List MapDef → Options → List ℕ → Option Entry → Type 0
TellsEntry maps options line None = (entry : Entry) → ¬ IsEntryLine maps options entry line
TellsEntry maps options line (Some entry) =
    IsEntryLine maps options entry line × ((other : Entry) → IsEntryLine maps options other line → other ≡ entry)

-- an entry that no other one's line spells
abbrev pub IsKnownEntry : List MapDef → Options → Entry → Type 0
IsKnownEntry maps options entry = TellsEntry maps options (line_of_entry entry) (Some entry)

-- the first line is no entry's of this shard or a later one, or there is no whole line
abbrev pub BeginsWithNoEntryFrom : List MapDef → Options → ℕ → List ℕ → Type 0
BeginsWithNoEntryFrom maps options least text =
    (entry : Entry) (line more : List ℕ) → IsEntryLine maps options entry line → least ≤ shard_of_call entry.call → text ≢ line ++ 10 ∷ more

-- shard numbers never fall
abbrev pub ShardsNeverFall : ℕ → List Entry → Type 0
ShardsNeverFall least [] = Unit {0}
ShardsNeverFall least (entry ∷ entries) = (least ≤ shard_of_call entry.call) × ShardsNeverFall (shard_of_call entry.call) entries

-- the shard of the last entry, or this one
abbrev pub last_shard : ℕ → List Entry → ℕ
last_shard least [] = least
last_shard least (entry ∷ entries) = last_shard (shard_of_call entry.call) entries

-- the first line, without its line feed, is one of options that these maps can have
pub record IsHeaderLine (maps : List MapDef) (options : Options) (line : List ℕ) : Type 0 where
  pub fits : AreServedOptions maps options
  pub spelled : line ≡ header_text options

-- the entries, shard by shard: the lists of the shards that are done, and the list of the next one
pub record AreDivided (entries : List Entry) (done : List (List Entry)) (present : List Entry) : Type 0 where
  pub all : entries ≡ all_entries done ++ present
  pub listed : AreListedFrom 0 done
  pub next : AllByRecursion (IsOfShard (length done)) present

-- this many entries' lines, and the rest, which begins with no entry's of their last shard or of a later one
pub record AreEntriesRead (maps : List MapDef) (options : Options) (text : List ℕ) (done : List (List Entry)) (present : List Entry) (lines : ℕ)
    (rest : List ℕ) : Type 0 where
  pub entries : List Entry
  pub known : AllByRecursion (IsKnownEntry maps options) entries
  pub never_falls : ShardsNeverFall 0 entries
  pub divided : AreDivided entries done present
  pub last : length done ≡ last_shard 0 entries
  pub counted : lines ≡ length entries
  pub text_is : text ≡ entries_text entries ++ rest
  pub stops : BeginsWithNoEntryFrom maps options (last_shard 0 entries) rest

-- the options of the header, what comes after its line, and that no other options have this header
pub record IsHeadedBy (maps : List MapDef) (text : List ℕ) (options : Options) (rest : List ℕ) : Type 0 where
  pub fits : AreServedOptions maps options
  pub text_is : text ≡ ended (header_text options) ++ rest
  pub only : (other : Options) → IsHeaderLine maps other (header_text options) → other ≡ options

-- ---- which line is bad

-- the first line is no header
abbrev pub BeginsWithNoHeader : List MapDef → List ℕ → Type 0
BeginsWithNoHeader maps text = (options : Options) (line more : List ℕ) → IsHeaderLine maps options line → text ≢ line ++ 10 ∷ more

-- after a header and these entries comes a line that is not an entry, or one of an earlier shard
pub record IsBadAfterEntries (maps : List MapDef) (text : List ℕ) (line : ℕ) : Type 0 where
  pub options : Options
  pub entries : List Entry
  pub rest : List ℕ
  pub header : AreServedOptions maps options
  pub fit : AllByRecursion (IsFileEntry maps options) entries
  pub never_falls : ShardsNeverFall 0 entries
  pub line_is : line ≡ 2 + length entries
  pub text_is : text ≡ ended (header_text options) ++ (entries_text entries ++ rest)
  pub not_ended : 0 < length rest
  pub stops : BeginsWithNoEntryFrom maps options (last_shard 0 entries) rest

-- the line, counted from 1, for which the bytes are refused
abbrev pub IsBadJournalLine : List MapDef → List ℕ → ℕ → Type 0
IsBadJournalLine maps bytes line =
    IsNoText bytes line ⊎ (IsUtf8 bytes × (((line ≡ 1) × BeginsWithNoHeader maps bytes) ⊎ IsBadAfterEntries maps bytes line))

-- the bytes are no file of these maps
abbrev pub IsNoFile : List MapDef → List ℕ → Type 0
IsNoFile maps bytes = (journals : JournalsView) → ¬ IsJournalsFile maps bytes journals

-- why bytes were refused: by memory, or for their first bad line
abbrev pub RefusesJournals : List MapDef → List ℕ → FileFault → Type 0
RefusesJournals maps bytes Device = ⊥
RefusesJournals maps bytes Memory = ⊤
RefusesJournals maps bytes (BadJournalFile line) = IsBadJournalLine maps bytes line × IsNoFile maps bytes
