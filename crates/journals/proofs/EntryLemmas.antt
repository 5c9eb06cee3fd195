-- What rows say stays when bytes come behind theirs, and what was put last is read back.
use Rattle.std.proofs.Common.{◌≡◌, ℕ, ◌+◌, ◌≤◌, List, [], ◌∷◌, ◌++◌, length, take, drop, arith, refl, sym, ◌∙◌, ap}
use Rattle.std.proofs.lemmas.List.{map-append, append_assoc, drop-append-le, take-append-le, length-drop, drop_at, take_at, take_all, length-append}
use Rattle.semantics.specs.declared.call.Call.{Call}
use Rattle.semantics.specs.declared.call.Call.TheVariants as calls
use Rattle.semantics.specs.declared.call.Entry.{Entry}
use Rattle.journal.specs.Rows.{part}
use Rattle.journals.specs.declared.call_row.CallRow.{CallRow}
use Rattle.journals.specs.declared.call_row.CallRow.TheVariants.{Enter, Leave, Lookup, Load, Store, Atomic, Update, Delete, Reclaim}
use Rattle.journals.specs.declared.entry_list.EntryRow.{EntryRow}
use Rattle.journals.specs.EntryRows.{bytes_of, call_row, entry_row, listed_call, listed_entry, listed_entries, IsWithin, AreWithin}

part_kept : (at size : ℕ) (bytes more : List ℕ) → at + size ≤ length bytes → part at size (bytes ++ more) ≡ part at size bytes
part_kept at size bytes more within =
    let left : size ≤ length (drop at bytes) = omega (arith, within, length-drop at bytes) in
    ap (take size) (drop-append-le at bytes more (omega (arith, within))) ∙ take-append-le size (drop at bytes) more left

call_kept : (bytes more : List ℕ) (row : CallRow) → IsWithin (length bytes) row → listed_call (bytes ++ more) row ≡ listed_call bytes row
call_kept bytes more (Enter shard) within = refl
call_kept bytes more (Leave shard) within = refl
call_kept bytes more (Lookup shard key_size at) within = ap (calls.Lookup shard) (part_kept at key_size bytes more within.1)
call_kept bytes more (Load cell offset size) within = refl
call_kept bytes more (Store cell offset size value) within = refl
call_kept bytes more (Atomic cell offset size op value expected) within = refl
call_kept bytes more (Update shard key_size value_size at flags) within =
    ap (λ k. calls.Update shard k (part (at + key_size) value_size (bytes ++ more)) flags) (part_kept at key_size bytes more (omega (arith, within.2)))
    ∙ ap (λ v. calls.Update shard (part at key_size bytes) v flags) (part_kept (at + key_size) value_size bytes more within.2)
call_kept bytes more (Delete shard key_size at) within = ap (calls.Delete shard) (part_kept at key_size bytes more within.1)
call_kept bytes more (Reclaim shard) within = refl

entries_kept : (bytes more : List ℕ) (rows : List EntryRow) → AreWithin (length bytes) rows → listed_entries (bytes ++ more) rows ≡ listed_entries bytes rows
entries_kept bytes more [] within = refl
entries_kept bytes more (row ∷ rows) within =
    rw (call_kept bytes more row.call within.0) (rw (entries_kept bytes more rows within.1) refl)

-- what was put last is read back
key_last : (bytes key value : List ℕ) → part (length bytes) (length key) (bytes ++ (key ++ value)) ≡ key
key_last bytes key value = ap (take (length key)) (drop_at bytes (key ++ value) (length bytes) refl) ∙ take_at key value (length key) refl

value_last : (bytes key value : List ℕ) → part (length bytes + length key) (length value) (bytes ++ (key ++ value)) ≡ value
value_last bytes key value =
    ap (part (length bytes + length key) (length value)) (sym (append_assoc bytes key value))
    ∙ ap (take (length value)) (drop_at (bytes ++ key) value (length bytes + length key) (length-append bytes key))
    ∙ take_all (length value) value (omega (arith))

call_last : (bytes : List ℕ) (call : Call) → listed_call (bytes ++ bytes_of call) (call_row (length bytes) call) ≡ call
call_last bytes (calls.Enter shard) = refl
call_last bytes (calls.Leave shard) = refl
call_last bytes (calls.Lookup shard key) = ap (calls.Lookup shard) (key_last bytes key [])
call_last bytes (calls.Load cell offset size) = refl
call_last bytes (calls.Store cell offset size value) = refl
call_last bytes (calls.Atomic cell offset size op value expected) = refl
call_last bytes (calls.Update shard key value flags) =
    ap (λ k. calls.Update shard k (part (length bytes + length key) (length value) (bytes ++ (key ++ value))) flags) (key_last bytes key value)
    ∙ ap (λ v. calls.Update shard key v flags) (value_last bytes key value)
call_last bytes (calls.Delete shard key) = ap (calls.Delete shard) (key_last bytes key [])
call_last bytes (calls.Reclaim shard) = refl

-- one entry more, whose bytes come behind the others
pub entries_more : (bytes : List ℕ) (rows : List EntryRow) (entry : Entry) → AreWithin (length bytes) rows
    → listed_entries (bytes ++ bytes_of entry.call) (rows ++ entry_row (length bytes) entry ∷ []) ≡ listed_entries bytes rows ++ entry ∷ []
entries_more bytes rows entry within =
    let more : List ℕ = bytes_of entry.call in
    map-append (listed_entry (bytes ++ more)) rows (entry_row (length bytes) entry ∷ [])
    ∙ ap (λ es. es ++ listed_entry (bytes ++ more) (entry_row (length bytes) entry) ∷ []) (entries_kept bytes more rows within)
    ∙ ap (λ call. listed_entries bytes rows ++ with_call call ∷ []) (call_last bytes entry.call)
  where
    with_call : Call → Entry
    with_call call = record { who = entry.who; call = call; reply = entry.reply }
