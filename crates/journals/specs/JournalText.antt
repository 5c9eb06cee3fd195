-- The text of journals: a header, then a line for each entry, shard by shard, each ended by a line feed, with single spaces between words.
use Rattle.std.specs.Prelude.{ℕ, List, ◌∷◌, ◌++◌, codes}
use Rattle.std.specs.Fmt.{decimal, signed_decimal}
use Rattle.std.specs.List.{flat_map}
use Rattle.hex.specs.Hex.{encode_lower}
use Rattle.semantics.specs.declared.call.Caller.{Caller}
use Rattle.semantics.specs.declared.call.Caller.TheVariants.{Worker, Controller, Reclaimer}
use Rattle.semantics.specs.declared.call.Call.{Call}
use Rattle.semantics.specs.declared.call.Call.TheVariants as calls
use Rattle.semantics.specs.declared.call.Reply.{Reply}
use Rattle.semantics.specs.declared.call.Reply.TheVariants.{Entered, Left, Cell, Null, Word, Done, Answer, Freed}
use Rattle.semantics.specs.declared.call.Entry.{Entry}
use Rattle.semantics.specs.declared.options.Options.{Options}
use Rattle.semantics.specs.History.{shard_of_call}
use Rattle.journals.specs.JournalsView.{JournalsView}
use Rattle.text_lines.specs.Lines.{ended}
use Rattle.journals.specs.declared.verb.Verb.{Verb}
use Rattle.journals.specs.declared.verb.Verb.TheVariants.{Enter, Leave, Lookup, Load, Store, Atomic, Update, Delete, Reclaim}

-- ---- words

-- who called: `w0` to `w7`, `c` or `r`
abbrev pub who_text : Caller → List ℕ
who_text (Worker number) = 119 ∷ decimal number
who_text Controller = codes "c"
who_text Reclaimer = codes "r"

abbrev pub verb_text : Verb → List ℕ
verb_text Enter = codes "enter"
verb_text Leave = codes "leave"
verb_text Lookup = codes "lookup"
verb_text Load = codes "load"
verb_text Store = codes "store"
verb_text Atomic = codes "atomic"
verb_text Update = codes "update"
verb_text Delete = codes "delete"
verb_text Reclaim = codes "reclaim"

abbrev pub verb_of_call : Call → Verb
verb_of_call (calls.Enter shard) = Enter
verb_of_call (calls.Leave shard) = Leave
verb_of_call (calls.Lookup shard key) = Lookup
verb_of_call (calls.Load cell offset size) = Load
verb_of_call (calls.Store cell offset size value) = Store
verb_of_call (calls.Atomic cell offset size op value expected) = Atomic
verb_of_call (calls.Update shard key value flags) = Update
verb_of_call (calls.Delete shard key) = Delete
verb_of_call (calls.Reclaim shard) = Reclaim

-- a cell is named by its id; the line names the shard
abbrev pub reply_text : Reply → List ℕ
reply_text Entered = codes "ok"
reply_text Left = codes "ok"
reply_text (Cell cell) = codes "cell " ++ decimal cell.id
reply_text Null = codes "null"
reply_text (Word value) = codes "word " ++ decimal value
reply_text Done = codes "ok"
reply_text (Answer code) = codes "answer " ++ signed_decimal code
reply_text (Freed count) = codes "freed " ++ decimal count

-- what comes after the verb: the call's other words, and then the reply's
unfoldable pub told_text : Call → List ℕ → List ℕ
told_text (calls.Enter shard) reply = reply
told_text (calls.Leave shard) reply = reply
told_text (calls.Lookup shard key) reply = encode_lower key ++ 32 ∷ reply
told_text (calls.Load cell offset size) reply = decimal cell.id ++ 32 ∷ (decimal offset ++ 32 ∷ (decimal size ++ 32 ∷ reply))
told_text (calls.Store cell offset size value) reply =
    decimal cell.id ++ 32 ∷ (decimal offset ++ 32 ∷ (decimal size ++ 32 ∷ (decimal value ++ 32 ∷ reply)))
told_text (calls.Atomic cell offset size op value expected) reply =
    decimal cell.id ++ 32 ∷ (decimal offset ++ 32 ∷ (decimal size ++ 32 ∷ (decimal op ++ 32 ∷
    (decimal value ++ 32 ∷ (decimal expected ++ 32 ∷ reply)))))
told_text (calls.Update shard key value flags) reply = encode_lower key ++ 32 ∷ (encode_lower value ++ 32 ∷ (decimal flags ++ 32 ∷ reply))
told_text (calls.Delete shard key) reply = encode_lower key ++ 32 ∷ reply
told_text (calls.Reclaim shard) reply = reply

-- ---- lines

-- the line of an entry, without its line feed
unfoldable pub line_of_entry : Entry → List ℕ
line_of_entry entry =
    decimal (shard_of_call entry.call) ++ 32 ∷ (who_text entry.who ++ 32 ∷ (verb_text (verb_of_call entry.call) ++ 32 ∷
    told_text entry.call (reply_text entry.reply)))

-- the first line, without its line feed: the format's name and version, then the options
unfoldable pub header_text : Options → List ℕ
header_text options = codes "XLBJ 1 " ++ (decimal options.workers ++ 32 ∷ (decimal options.shards ++ 32 ∷ decimal options.journal))

abbrev pub entries_text : List Entry → List ℕ
entries_text entries = flat_map (λ entry. ended (line_of_entry entry)) entries

-- the entries of all shards, in the order of the file
abbrev pub all_entries : List (List Entry) → List Entry
all_entries shards = flat_map (λ entries. entries) shards

-- the file of these journals
abbrev pub journals_text : JournalsView → List ℕ
journals_text journals = ended (header_text journals.options) ++ entries_text (all_entries journals.shards)
