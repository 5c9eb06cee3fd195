-- What rows say stays when bytes come behind theirs, and what was put last is read back.
use Rattle.std.proofs.Math.Path.{subst}
use Rattle.std.proofs.Common.{◌≡◌, ℕ, ◌+◌, ◌*◌, ◌<◌, ◌≤◌, List, [], ◌∷◌, ◌++◌, length, take, drop, arith, refl, sym, ◌∙◌, ap}
use Rattle.std.specs.Prelude.{ℤ, map, Some, None}
use Rattle.std.specs.List.{AllByRecursion}
use Rattle.std.proofs.lemmas.List.{map-append, append_assoc, drop-append-le, take-append-le, length-drop, drop_at, take_at, take_all, length-append, get_or_append_left, get_or-append-add, append-nil}
use Rattle.semantics.specs.declared.call.Caller.{Caller}
use Rattle.semantics.specs.declared.call.Call.TheVariants.{Lookup, Load, Store, Atomic, Update, Delete, Reclaim}
use Rattle.semantics.specs.declared.call.Reply.TheVariants as R
use Rattle.semantics.specs.Memory.{cell_ref}
use Rattle.journal.specs.declared.append.CellRange.{CellRange}
use Rattle.journal.specs.declared.append.AtomicChange.{AtomicChange}
use Rattle.semantics.specs.declared.call.Entry.{Entry}
use Rattle.journal.specs.declared.row.Row.{Row}
use Rattle.journal.specs.declared.row.Row.TheVariants.{Entered, Left, Found, Missed, Loaded, Stored, Changed, Updated, Deleted, Reclaimed}
use Rattle.journal.specs.Journaled.{Journaled, journal_with_entry}
use Rattle.journal.specs.Entries.{lookup_entry, load_entry, store_entry, atomic_entry, update_entry, delete_entry, reclaim_entry}
use Rattle.journal.specs.Rows.{part, word, update_at, call_of_row, reply_of_row, entry_of_row, AreWordsWithin, IsRowWithin, IsKept, journaled}

part_kept : (at size : ℕ) (bytes more : List ℕ) → at + size ≤ length bytes → part at size (bytes ++ more) ≡ part at size bytes
part_kept at size bytes more within =
    let left : size ≤ length (drop at bytes) = omega (arith, within, length-drop at bytes) in
    ap (take size) (drop-append-le at bytes more (omega (arith, within))) ∙ take-append-le size (drop at bytes) more left

word_kept : (words more : List ℕ) (at : ℕ) → at < length words → word (words ++ more) at ≡ word words at
word_kept words more at within = get_or_append_left words more 0 at within

update_kept : (shard key value : ℕ) (bytes more : List ℕ) (at flags : ℕ) → at + key + value ≤ length bytes
    → update_at shard key value (bytes ++ more) at flags ≡ update_at shard key value bytes at flags
update_kept shard key value bytes more at flags within =
    ap (λ k. Update shard k (part (at + key) value (bytes ++ more)) flags) (part_kept at key bytes more (omega (arith, within)))
    ∙ ap (λ v. Update shard (part at key bytes) v flags) (part_kept (at + key) value bytes more within)

call_kept : (shard key value : ℕ) (bytes more words later : List ℕ) (row : Row) → IsRowWithin key value (length bytes) words row
    → call_of_row shard key value (bytes ++ more) (words ++ later) row ≡ call_of_row shard key value bytes words row
call_kept shard key value bytes more words later (Found who at start) within = ap (Lookup shard) (part_kept at key bytes more within.1)
call_kept shard key value bytes more words later (Missed who at) within = ap (Lookup shard) (part_kept at key bytes more within.1)
call_kept shard key value bytes more words later (Updated who code start) within =
    rw (word_kept words later (start + 0) (omega (arith, within.0)), word_kept words later (start + 1) within.0)
    (update_kept shard key value bytes more (word words (start + 0)) (word words (start + 1)) within.1)
call_kept shard key value bytes more words later (Deleted who code at) within = ap (Delete shard) (part_kept at key bytes more within.1)
call_kept shard key value bytes more words later (Entered who) within = refl
call_kept shard key value bytes more words later (Left who) within = refl
call_kept shard key value bytes more words later (Loaded who size offset start) within =
    rw (word_kept words later (start + 0) (omega (arith, within.0))) refl
call_kept shard key value bytes more words later (Stored who size offset start) within =
    rw (word_kept words later (start + 0) (omega (arith, within.0)), word_kept words later (start + 1) within.0) refl
call_kept shard key value bytes more words later (Changed who size op offset start) within =
    rw (
      word_kept words later (start + 0) (omega (arith, within.0)),
      word_kept words later (start + 1) (omega (arith, within.0)),
      word_kept words later (start + 2) (omega (arith, within.0)),
    ) refl
call_kept shard key value bytes more words later (Reclaimed who start) within = refl

reply_kept : (shard : ℕ) (words later : List ℕ) (row : Row) → AreWordsWithin words row → reply_of_row shard (words ++ later) row ≡ reply_of_row shard words row
reply_kept shard words later (Found who at start) within = rw (word_kept words later (start + 0) within) refl
reply_kept shard words later (Missed who at) within = refl
reply_kept shard words later (Updated who code start) within = refl
reply_kept shard words later (Deleted who code at) within = refl
reply_kept shard words later (Entered who) within = refl
reply_kept shard words later (Left who) within = refl
reply_kept shard words later (Loaded who size offset start) within = rw (word_kept words later (start + 1) within) refl
reply_kept shard words later (Stored who size offset start) within = refl
reply_kept shard words later (Changed who size op offset start) within = rw (word_kept words later (start + 3) within) refl
reply_kept shard words later (Reclaimed who start) within = rw (word_kept words later (start + 0) within) refl

entries_kept : (shard key value : ℕ) (bytes more words later : List ℕ) (rows : List Row) → AllByRecursion (IsRowWithin key value (length bytes) words) rows
    → map (entry_of_row shard key value (bytes ++ more) (words ++ later)) rows ≡ map (entry_of_row shard key value bytes words) rows
entries_kept shard key value bytes more words later [] within = refl
entries_kept shard key value bytes more words later (row ∷ rows) within =
    rw (call_kept shard key value bytes more words later row within.0, reply_kept shard words later row within.0.0)
    (rw (entries_kept shard key value bytes more words later rows within.1) refl)

-- one row more, whose bytes and words come behind the others
entries_more : (shard key value : ℕ) (bytes more words later : List ℕ) (rows : List Row) (row : Row)
    → AllByRecursion (IsRowWithin key value (length bytes) words) rows
    → map (entry_of_row shard key value (bytes ++ more) (words ++ later)) (rows ++ row ∷ [])
    ≡ map (entry_of_row shard key value bytes words) rows ++ entry_of_row shard key value (bytes ++ more) (words ++ later) row ∷ []
entries_more shard key value bytes more words later rows row within =
    map-append (entry_of_row shard key value (bytes ++ more) (words ++ later)) rows (row ∷ [])
    ∙ ap (λ es. es ++ entry_of_row shard key value (bytes ++ more) (words ++ later) row ∷ []) (entries_kept shard key value bytes more words later rows within)

-- ---- rows stay within what grows

bytes_within : (key value count count' : ℕ) (words later : List ℕ) (row : Row) → count ≤ count' → IsRowWithin key value count words row
    → IsRowWithin key value count' (words ++ later) row
bytes_within key value count count' words later (Entered who) more within = within
bytes_within key value count count' words later (Left who) more within = within
bytes_within key value count count' words later (Found who at start) more within =
    (omega (arith, within.0, length-append words later), omega (arith, within.1, more))
bytes_within key value count count' words later (Missed who at) more within = (tt, omega (arith, within.1, more))
bytes_within key value count count' words later (Loaded who size offset start) more within = (omega (arith, within.0, length-append words later), tt)
bytes_within key value count count' words later (Stored who size offset start) more within = (omega (arith, within.0, length-append words later), tt)
bytes_within key value count count' words later (Changed who size op offset start) more within = (omega (arith, within.0, length-append words later), tt)
bytes_within key value count count' words later (Updated who code start) more within = (
  omega (arith, within.0, length-append words later),
  omega (arith, within.1, more, word_kept words later (start + 0) (omega (arith, within.0))),
)
bytes_within key value count count' words later (Deleted who code at) more within = (tt, omega (arith, within.1, more))
bytes_within key value count count' words later (Reclaimed who start) more within = (omega (arith, within.0, length-append words later), tt)

pub all_within : (key value count count' : ℕ) (words later : List ℕ) (rows : List Row) (row : Row) → count ≤ count'
    → AllByRecursion (IsRowWithin key value count words) rows → IsRowWithin key value count' (words ++ later) row
    → AllByRecursion (IsRowWithin key value count' (words ++ later)) (rows ++ row ∷ [])
all_within key value count count' words later [] row more within last = (last, tt)
all_within key value count count' words later (first ∷ rows) row more within last =
    (bytes_within key value count count' words later first more within.0, all_within key value count count' words later rows row more within.1 last)

-- what was put last is read back
key_last : (bytes key value : List ℕ) (at size : ℕ) → at ≡ length bytes → length key ≡ size → part at size (bytes ++ (key ++ value)) ≡ key
key_last bytes key value at size here sized =
    ap (take size) (drop_at bytes (key ++ value) at (sym here)) ∙ take_at key value size sized

value_last : (bytes key value : List ℕ) (at key_size size : ℕ) → at ≡ length bytes → length key ≡ key_size → length value ≡ size
    → part (at + key_size) size (bytes ++ (key ++ value)) ≡ value
value_last bytes key value at key_size size here key_sized sized =
    ap (part (at + key_size) size) (sym (append_assoc bytes key value))
    ∙ ap (take size) (drop_at (bytes ++ key) value (at + key_size) (omega (arith, here, key_sized, length-append bytes key)))
    ∙ take_all size value (omega (arith, sized))

part_last : (bytes key : List ℕ) (at size : ℕ) → at ≡ length bytes → length key ≡ size → part at size (bytes ++ key) ≡ key
part_last bytes key at size here sized = ap (take size) (drop_at bytes key at (sym here)) ∙ take_all size key (omega (arith, sized))

-- a journal with one row more
journal_more : (shard reserve key value : ℕ) (bytes more words later : List ℕ) (rows : List Row) (row : Row) (entry : Entry)
    → AllByRecursion (IsRowWithin key value (length bytes) words) rows → entry_of_row shard key value (bytes ++ more) (words ++ later) row ≡ entry
    → journaled shard reserve key value (rows ++ row ∷ []) (bytes ++ more) (words ++ later)
    ≡ journal_with_entry (journaled shard reserve key value rows bytes words) entry
journal_more shard reserve key value bytes more words later rows row entry within is =
    ap (λ (es : List Entry). with_entries es)
    (entries_more shard key value bytes more words later rows row within ∙ ap (λ e. map (entry_of_row shard key value bytes words) rows ++ e ∷ []) is)
  where
    with_entries : List Entry → Journaled
    with_entries es = record { shard = shard; reserve = reserve; key_size = key; value_size = value; entries = es }

-- the same with no bytes more, or no words more
journal_words : (shard reserve key value : ℕ) (bytes words later : List ℕ) (rows : List Row) (row : Row) (entry : Entry)
    → AllByRecursion (IsRowWithin key value (length bytes) words) rows → entry_of_row shard key value bytes (words ++ later) row ≡ entry
    → journaled shard reserve key value (rows ++ row ∷ []) bytes (words ++ later) ≡ journal_with_entry (journaled shard reserve key value rows bytes words) entry
journal_words shard reserve key value bytes words later rows row entry within is =
    subst (λ (b : List ℕ). journaled shard reserve key value (rows ++ row ∷ []) b (words ++ later) ≡ journal_with_entry (journaled shard reserve key value rows bytes words) entry)
    (append-nil bytes)
    (journal_more shard reserve key value bytes [] words later rows row entry within
    (subst (λ (b : List ℕ). entry_of_row shard key value b (words ++ later) row ≡ entry) (sym (append-nil bytes)) is))

journal_bytes : (shard reserve key value : ℕ) (bytes more words : List ℕ) (rows : List Row) (row : Row) (entry : Entry)
    → AllByRecursion (IsRowWithin key value (length bytes) words) rows → entry_of_row shard key value (bytes ++ more) words row ≡ entry
    → journaled shard reserve key value (rows ++ row ∷ []) (bytes ++ more) words ≡ journal_with_entry (journaled shard reserve key value rows bytes words) entry
journal_bytes shard reserve key value bytes more words rows row entry within is =
    subst (λ (w : List ℕ). journaled shard reserve key value (rows ++ row ∷ []) (bytes ++ more) w ≡ journal_with_entry (journaled shard reserve key value rows bytes words) entry)
    (append-nil words)
    (journal_more shard reserve key value bytes more words [] rows row entry within
    (subst (λ (w : List ℕ). entry_of_row shard key value (bytes ++ more) w row ≡ entry) (sym (append-nil words)) is))

-- a number that was put last is read back
pub word_last : (words later : List ℕ) (start k : ℕ) → start ≡ length words → word (words ++ later) (start + k) ≡ word later k
word_last words later start k here = ap (λ n. word (words ++ later) (n + k)) here ∙ get_or-append-add words later k 0

-- ---- an entry of each kind, put behind the others

pub found_more : (shard reserve ks vs : ℕ) (bytes key words : List ℕ) (rows : List Row) (who : Caller) (at start cell : ℕ)
    → AllByRecursion (IsRowWithin ks vs (length bytes) words) rows → at ≡ length bytes → length key ≡ ks → start ≡ length words
    → journaled shard reserve ks vs (rows ++ Found who at start ∷ []) (bytes ++ key) (words ++ cell ∷ [])
    ≡ journal_with_entry (journaled shard reserve ks vs rows bytes words) (lookup_entry shard who key (Some cell))
found_more shard reserve ks vs bytes key words rows who at start cell within here sized there =
    journal_more shard reserve ks vs bytes key words (cell ∷ []) rows (Found who at start) (lookup_entry shard who key (Some cell)) within
    (rw (part_last bytes key at ks here sized, word_last words (cell ∷ []) start 0 there) refl)

pub missed_more : (shard reserve ks vs : ℕ) (bytes key words : List ℕ) (rows : List Row) (who : Caller) (at : ℕ)
    → AllByRecursion (IsRowWithin ks vs (length bytes) words) rows → at ≡ length bytes → length key ≡ ks
    → journaled shard reserve ks vs (rows ++ Missed who at ∷ []) (bytes ++ key) words
    ≡ journal_with_entry (journaled shard reserve ks vs rows bytes words) (lookup_entry shard who key None)
missed_more shard reserve ks vs bytes key words rows who at within here sized =
    journal_bytes shard reserve ks vs bytes key words rows (Missed who at) (lookup_entry shard who key None) within
    (ap (λ k. lookup_entry shard who k None) (part_last bytes key at ks here sized))

pub loaded_more : (shard reserve ks vs : ℕ) (bytes words : List ℕ) (rows : List Row) (who : Caller) (range : CellRange) (start value : ℕ)
    → AllByRecursion (IsRowWithin ks vs (length bytes) words) rows → start ≡ length words
    → journaled shard reserve ks vs (rows ++ Loaded who range.size range.offset start ∷ []) bytes (words ++ range.cell ∷ value ∷ [])
    ≡ journal_with_entry (journaled shard reserve ks vs rows bytes words) (load_entry shard who range value)
loaded_more shard reserve ks vs bytes words rows who range start value within there =
    journal_words shard reserve ks vs bytes words (range.cell ∷ value ∷ []) rows (Loaded who range.size range.offset start) (load_entry shard who range value) within
    (rw (word_last words (range.cell ∷ value ∷ []) start 0 there, word_last words (range.cell ∷ value ∷ []) start 1 there) refl)

pub stored_more : (shard reserve ks vs : ℕ) (bytes words : List ℕ) (rows : List Row) (who : Caller) (range : CellRange) (start value : ℕ)
    → AllByRecursion (IsRowWithin ks vs (length bytes) words) rows → start ≡ length words
    → journaled shard reserve ks vs (rows ++ Stored who range.size range.offset start ∷ []) bytes (words ++ range.cell ∷ value ∷ [])
    ≡ journal_with_entry (journaled shard reserve ks vs rows bytes words) (store_entry shard who range value)
stored_more shard reserve ks vs bytes words rows who range start value within there =
    journal_words shard reserve ks vs bytes words (range.cell ∷ value ∷ []) rows (Stored who range.size range.offset start) (store_entry shard who range value) within
    (rw (word_last words (range.cell ∷ value ∷ []) start 0 there, word_last words (range.cell ∷ value ∷ []) start 1 there) refl)

pub changed_more : (shard reserve ks vs : ℕ) (bytes words : List ℕ) (rows : List Row) (who : Caller) (range : CellRange) (change : AtomicChange) (start old : ℕ)
    → AllByRecursion (IsRowWithin ks vs (length bytes) words) rows → start ≡ length words
    → journaled shard reserve ks vs (rows ++ Changed who range.size change.op range.offset start ∷ []) bytes
    (words ++ range.cell ∷ change.value ∷ change.expected ∷ old ∷ [])
    ≡ journal_with_entry (journaled shard reserve ks vs rows bytes words) (atomic_entry shard who range change old)
changed_more shard reserve ks vs bytes words rows who range change start old within there =
    let later : List ℕ = range.cell ∷ change.value ∷ change.expected ∷ old ∷ [] in
    journal_words shard reserve ks vs bytes words later rows (Changed who range.size change.op range.offset start) (atomic_entry shard who range change old) within
    (rw (
      word_last words later start 0 there,
      word_last words later start 1 there,
      word_last words later start 2 there,
      word_last words later start 3 there,
    ) refl)

pub deleted_more : (shard reserve ks vs : ℕ) (bytes key words : List ℕ) (rows : List Row) (who : Caller) (code : ℤ) (at : ℕ)
    → AllByRecursion (IsRowWithin ks vs (length bytes) words) rows → at ≡ length bytes → length key ≡ ks
    → journaled shard reserve ks vs (rows ++ Deleted who code at ∷ []) (bytes ++ key) words
    ≡ journal_with_entry (journaled shard reserve ks vs rows bytes words) (delete_entry shard who key code)
deleted_more shard reserve ks vs bytes key words rows who code at within here sized =
    journal_bytes shard reserve ks vs bytes key words rows (Deleted who code at) (delete_entry shard who key code) within
    (ap (λ k. delete_entry shard who k code) (part_last bytes key at ks here sized))

pub updated_more : (shard reserve ks vs : ℕ) (bytes key value words : List ℕ) (rows : List Row) (who : Caller) (code : ℤ) (at flags start : ℕ)
    → AllByRecursion (IsRowWithin ks vs (length bytes) words) rows → at ≡ length bytes → length key ≡ ks → length value ≡ vs → start ≡ length words
    → journaled shard reserve ks vs (rows ++ Updated who code start ∷ []) (bytes ++ (key ++ value)) (words ++ at ∷ flags ∷ [])
    ≡ journal_with_entry (journaled shard reserve ks vs rows bytes words) (update_entry shard who key value flags code)
updated_more shard reserve ks vs bytes key value words rows who code at flags start within here key_sized value_sized there =
    journal_more shard reserve ks vs bytes (key ++ value) words (at ∷ flags ∷ []) rows (Updated who code start) (update_entry shard who key value flags code) within
    (rw (word_last words (at ∷ flags ∷ []) start 0 there, word_last words (at ∷ flags ∷ []) start 1 there)
    (ap (λ k. update_entry shard who k (part (at + ks) vs (bytes ++ (key ++ value))) flags code) (key_last bytes key value at ks here key_sized)
    ∙ ap (λ v. update_entry shard who key v flags code) (value_last bytes key value at ks vs here key_sized value_sized)))

pub reclaimed_more : (shard reserve ks vs : ℕ) (bytes words : List ℕ) (rows : List Row) (who : Caller) (start count : ℕ)
    → AllByRecursion (IsRowWithin ks vs (length bytes) words) rows → start ≡ length words
    → journaled shard reserve ks vs (rows ++ Reclaimed who start ∷ []) bytes (words ++ count ∷ [])
    ≡ journal_with_entry (journaled shard reserve ks vs rows bytes words) (reclaim_entry shard who count)
reclaimed_more shard reserve ks vs bytes words rows who start count within there =
    journal_words shard reserve ks vs bytes words (count ∷ []) rows (Reclaimed who start) (reclaim_entry shard who count) within
    (rw (word_last words (count ∷ []) start 0 there) refl)

-- ---- the rooms

-- bytes of at most one key and one value, and at most four words, with the row that reads them
pub kept_more : (reserve ks vs : ℕ) (rows : List Row) (row_room : ℕ) (bytes more : List ℕ) (byte_room : ℕ) (words later : List ℕ) (word_room : ℕ) (row : Row)
    (row_room' byte_room' word_room' : ℕ) → IsKept reserve ks vs rows row_room bytes byte_room words word_room → length more ≤ ks + vs → length later ≤ 4
    → IsRowWithin ks vs (length (bytes ++ more)) (words ++ later) row → row_room ≤ row_room' → byte_room ≤ byte_room' → word_room ≤ word_room'
    → IsKept reserve ks vs (rows ++ row ∷ []) row_room' (bytes ++ more) byte_room' (words ++ later) word_room'
kept_more reserve ks vs rows row_room bytes more byte_room words later word_room row row_room' byte_room' word_room' kept few_bytes few_words within a b c =
    let longer : length (bytes ++ more) ≡ length bytes + length more = length-append bytes more in
    let wider : length (words ++ later) ≡ length words + length later = length-append words later in
    let rows_more : length (rows ++ row ∷ []) ≡ length rows + 1 = length-append rows (row ∷ []) in
    record {
      few = kept.few;
      key = kept.key;
      value = kept.value;
      within = all_within ks vs (length bytes) (length (bytes ++ more)) words later rows row (omega (arith, longer)) kept.within within;
      used = rw (rows_more, longer) (sum_fits (length bytes) (length more) (length rows) (ks + vs) kept.used few_bytes);
      words_used = rw (rows_more, wider) (sum_fits (length words) (length later) (length rows) 4 kept.words_used few_words);
      rows_fit = omega (arith, kept.rows_fit, a);
      bytes_fit = omega (arith, kept.bytes_fit, b);
      words_fit = omega (arith, kept.words_fit, c);
    }
  where
    sum_fits : (have more n each : ℕ) → have ≤ n * each → more ≤ each → have + more ≤ (n + 1) * each
    sum_fits have more n each fits small = omega (arith, fits, small)

pub kept_words : (reserve ks vs : ℕ) (rows : List Row) (row_room : ℕ) (bytes : List ℕ) (byte_room : ℕ) (words later : List ℕ) (word_room : ℕ) (row : Row)
    (row_room' word_room' : ℕ) → IsKept reserve ks vs rows row_room bytes byte_room words word_room → length later ≤ 4
    → IsRowWithin ks vs (length bytes) (words ++ later) row → row_room ≤ row_room' → word_room ≤ word_room'
    → IsKept reserve ks vs (rows ++ row ∷ []) row_room' bytes byte_room (words ++ later) word_room'
kept_words reserve ks vs rows row_room bytes byte_room words later word_room row row_room' word_room' kept few_words within a c =
    subst (λ (b : List ℕ). IsKept reserve ks vs (rows ++ row ∷ []) row_room' b byte_room (words ++ later) word_room') (append-nil bytes)
    (kept_more reserve ks vs rows row_room bytes [] byte_room words later word_room row row_room' byte_room word_room' kept (omega arith) few_words
    (subst (λ (b : List ℕ). IsRowWithin ks vs (length b) (words ++ later) row) (sym (append-nil bytes)) within) a (omega arith) c)

pub kept_bytes : (reserve ks vs : ℕ) (rows : List Row) (row_room : ℕ) (bytes more : List ℕ) (byte_room : ℕ) (words : List ℕ) (word_room : ℕ) (row : Row)
    (row_room' byte_room' : ℕ) → IsKept reserve ks vs rows row_room bytes byte_room words word_room → length more ≤ ks + vs
    → IsRowWithin ks vs (length (bytes ++ more)) words row → row_room ≤ row_room' → byte_room ≤ byte_room'
    → IsKept reserve ks vs (rows ++ row ∷ []) row_room' (bytes ++ more) byte_room' words word_room
kept_bytes reserve ks vs rows row_room bytes more byte_room words word_room row row_room' byte_room' kept few_bytes within a b =
    subst (λ (w : List ℕ). IsKept reserve ks vs (rows ++ row ∷ []) row_room' (bytes ++ more) byte_room' w word_room) (append-nil words)
    (kept_more reserve ks vs rows row_room bytes more byte_room words [] word_room row row_room' byte_room' word_room kept few_bytes (omega arith)
    (subst (λ (w : List ℕ). IsRowWithin ks vs (length (bytes ++ more)) w row) (sym (append-nil words)) within) a b (omega arith))
