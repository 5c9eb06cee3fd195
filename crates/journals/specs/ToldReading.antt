-- What follows the verb of a line is read as one entry: of each verb, which.
use Rattle.std.specs.Prelude.{◌≡◌, ℕ, List}
use Rattle.semantics.specs.declared.call.Caller.{Caller}
use Rattle.semantics.specs.declared.call.Call.{Call}
use Rattle.semantics.specs.declared.call.Call.TheVariants as calls
use Rattle.semantics.specs.declared.call.Reply.{Reply}
use Rattle.semantics.specs.declared.call.Reply.TheVariants as replies
use Rattle.semantics.specs.declared.call.Entry.{Entry}
use Rattle.journals.specs.declared.verb.Verb.{Verb}
use Rattle.journals.specs.declared.verb.Verb.TheVariants.{Enter, Leave, Lookup, Load, Store, Atomic, Update, Delete, Reclaim}
use Rattle.journals.specs.JournalText.{told_text, reply_text}
use Rattle.journals.specs.EntryForm.{IsNumber, IsKey, IsValue, IsFinding, IsWord, IsAnswerReply, IsFreed}
use Rattle.semantics.specs.History.{entry_of}

-- this text is read as this entry, wherever it is the text of one of a fitting call
abbrev pub IsReadAs : List ℕ → Entry → Caller → Call → Reply → Type 0
IsReadAs text result who call reply = text ≡ told_text call (reply_text reply) → result ≡ entry_of who call reply

unfoldable pub Reads : Verb → Caller → ℕ → List ℕ → Entry → Type 0
Reads Enter who shard text result = result ≡ entry_of who (calls.Enter shard) replies.Entered
Reads Leave who shard text result = result ≡ entry_of who (calls.Leave shard) replies.Left
Reads Lookup who shard text result =
    (key : List ℕ) (reply : Reply) → IsKey key → IsFinding shard reply → IsReadAs text result who (calls.Lookup shard key) reply
Reads Load who shard text result =
    (id offset size : ℕ) (reply : Reply) → IsNumber id → IsNumber offset → IsNumber size → IsWord reply →
    IsReadAs text result who (calls.Load (record { shard = shard; id = id }) offset size) reply
Reads Store who shard text result =
    (id offset size value : ℕ) → IsNumber id → IsNumber offset → IsNumber size → IsNumber value →
    IsReadAs text result who (calls.Store (record { shard = shard; id = id }) offset size value) replies.Done
Reads Atomic who shard text result =
    (id offset size op value expected : ℕ) (reply : Reply) → IsNumber id → IsNumber offset → IsNumber size → IsNumber op → IsNumber value →
    IsNumber expected → IsWord reply →
    IsReadAs text result who (calls.Atomic (record { shard = shard; id = id }) offset size op value expected) reply
Reads Update who shard text result =
    (key value : List ℕ) (flags : ℕ) (reply : Reply) → IsKey key → IsValue value → IsNumber flags → IsAnswerReply reply →
    IsReadAs text result who (calls.Update shard key value flags) reply
Reads Delete who shard text result =
    (key : List ℕ) (reply : Reply) → IsKey key → IsAnswerReply reply → IsReadAs text result who (calls.Delete shard key) reply
Reads Reclaim who shard text result =
    (reply : Reply) → IsFreed reply → IsReadAs text result who (calls.Reclaim shard) reply
