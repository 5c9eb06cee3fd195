-- When a key was last used, and which key a full LRU map evicts. The history's newest entry is first.
use Rattle.std.specs.Prelude.{ℕ, suc, ◌==◌, Bool, false, ◌&&◌, nat_le, ℤ, pos, negsuc, List, [], ◌∷◌, length, Option, is_some, find}
use Rattle.std.specs.Prelude.{if◌then◌else◌, bytes_eq}
use Rattle.std.specs.List.{list_all}
use Rattle.semantics.specs.declared.call.Call.{Call}
use Rattle.semantics.specs.declared.call.Call.TheVariants.{Lookup, Update}
use Rattle.semantics.specs.declared.call.Reply.{Reply}
use Rattle.semantics.specs.declared.call.Reply.TheVariants.{Answer}
use Rattle.semantics.specs.declared.call.Entry.{Entry}
use Rattle.semantics.specs.Cells.{cell_of_reply}
use Rattle.semantics.specs.Entries.{History}
pub use Rattle.semantics.specs.declared.plan.PresentKey.{PresentKey}

abbrev pub is_zero : ℤ → Bool
is_zero (pos n) = n == 0
is_zero (negsuc n) = false

abbrev pub is_found : Reply → Bool
is_found reply = is_some (cell_of_reply reply)

abbrev pub is_done : Reply → Bool
is_done (Answer code) = is_zero code
is_done reply = false

abbrev pub call_uses : List ℕ → Call → Reply → Bool
call_uses key (Lookup shard asked) reply = bytes_eq asked key && is_found reply
call_uses key (Update shard asked value flags) reply = bytes_eq asked key && is_done reply
call_uses key call reply = false

-- the entry is a use of the key: a Lookup that found it, or an Update that answered 0
abbrev pub uses : List ℕ → Entry → Bool
uses key entry = call_uses key entry.call entry.reply

-- one more than the place of the key's last use; 0 where there is none
abbrev pub last_use : List ℕ → History → ℕ
last_use key [] = 0
last_use key (entry ∷ older) = if uses key entry then suc (length older) else last_use key older

-- no present key was last used earlier
abbrev pub is_least_recently_used : History → List PresentKey → PresentKey → Bool
is_least_recently_used history present candidate =
    list_all (λ (other : PresentKey). nat_le (last_use candidate.key history) (last_use other.key history)) present

-- the present key whose last use is earliest
abbrev pub least_recently_used : History → List PresentKey → Option PresentKey
least_recently_used history present = find (is_least_recently_used history present) present
