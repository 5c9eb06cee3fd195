-- Who is inside a read-side section, which cells it holds, and when a retired cell may be freed: by places in the history
-- alone (epoch-based reclamation). A history is here with its newest entry first; places count from the oldest.
use Rattle.std.specs.Prelude.{ℕ, ◌==◌, Bool, true, false, ◌||◌, nat_lt, List, [], ◌∷◌, length, Option, Some, None, IsTrue, is_some}
use Rattle.std.specs.Prelude.{if◌then◌else◌, count_by}
use Rattle.std.specs.List.{list_all}
use Rattle.semantics.specs.declared.call.Caller.{Caller}
use Rattle.semantics.specs.declared.call.Caller.TheVariants.{Worker}
use Rattle.semantics.specs.declared.call.Call.{Call}
use Rattle.semantics.specs.declared.call.Call.TheVariants.{Enter, Leave, Lookup}
use Rattle.semantics.specs.declared.call.CellRef.{CellRef}
use Rattle.semantics.specs.declared.call.Reply.{Reply}
use Rattle.semantics.specs.declared.call.SectionChange.{SectionChange}
use Rattle.semantics.specs.declared.call.SectionChange.TheVariants as section
use Rattle.semantics.specs.declared.call.HeldChange.{HeldChange}
use Rattle.semantics.specs.declared.call.HeldChange.TheVariants.{LetsGo, Finds, Stays}
use Rattle.semantics.specs.Sections.{section_change}
use Rattle.semantics.specs.Cells.{cell_of_reply}
use Rattle.semantics.specs.Entries.{History}
pub use Rattle.semantics.specs.declared.plan.RetiredCell.{RetiredCell}

-- the caller is the worker of this number
abbrev pub is_worker : ℕ → Caller → Bool
is_worker worker (Worker number) = number == worker
is_worker worker other = false

-- the place of the worker's Enter that no Leave of its own follows, by its own newest Enter or Leave
abbrev pub entered_where : SectionChange → ℕ → Option ℕ → Option ℕ
entered_where section.Begins place before = Some place
entered_where section.Ends place before = None
entered_where section.Stays place before = before

abbrev pub entered_by : Call → ℕ → Option ℕ → Option ℕ
entered_by call place before = entered_where (section_change call) place before

abbrev pub entered_at : ℕ → History → Option ℕ
entered_at worker [] = None
entered_at worker (entry ∷ older) =
    if is_worker worker entry.who then entered_by entry.call (length older) (entered_at worker older) else entered_at worker older

-- the worker has an Enter with no later Leave
abbrev pub is_inside : ℕ → History → Bool
is_inside worker history = is_some (entered_at worker history)

-- what a Lookup that is answered so makes of the cells that its worker holds
abbrev pub found_change : Reply → HeldChange
found_change reply = found_of (cell_of_reply reply) where
  found_of : Option CellRef → HeldChange
  found_of (Some cell) = Finds cell.id
  found_of None = Stays

-- what a call makes of them: an Enter and a Leave let all go, a Lookup may find one
abbrev pub held_change : Call → Reply → HeldChange
held_change (Enter shard) reply = LetsGo
held_change (Leave shard) reply = LetsGo
held_change (Lookup shard key) reply = found_change reply
held_change call reply = Stays

-- whether the worker then holds the cell, where it did before or not
abbrev pub held_where : HeldChange → ℕ → Bool → Bool
held_where LetsGo cell before = false
held_where (Finds id) cell before = id == cell || before
held_where Stays cell before = before

abbrev pub held_by : Call → Reply → ℕ → Bool → Bool
held_by call reply cell before = held_where (held_change call reply) cell before

-- in a legal history: since its last Enter, which no Leave follows, the worker has a Lookup answered with the cell
abbrev pub holds : ℕ → ℕ → History → Bool
holds worker cell [] = false
holds worker cell (entry ∷ older) =
    if is_worker worker entry.who then held_by entry.call entry.reply cell (holds worker cell older) else holds worker cell older

-- the numbers that workers may have
abbrev pub worker_numbers : List ℕ
worker_numbers = 0 ∷ 1 ∷ 2 ∷ 3 ∷ 4 ∷ 5 ∷ 6 ∷ 7 ∷ []

-- how many workers are inside
abbrev pub inside_count : History → ℕ
inside_count history = count_by (λ worker. is_inside worker history) worker_numbers

-- the section began after the cell was retired, or there is none
abbrev pub began_after : ℕ → Option ℕ → Bool
began_after since (Some entered) = nat_lt since entered
began_after since None = true

-- every worker inside has its Enter after the retirement
abbrev pub is_reclaimable : History → RetiredCell → Bool
is_reclaimable history retired = list_all (λ worker. began_after retired.since (entered_at worker history)) worker_numbers

abbrev pub IsInside : ℕ → History → Type 0
IsInside worker history = IsTrue (is_inside worker history)

abbrev pub Holds : ℕ → ℕ → History → Type 0
Holds worker cell history = IsTrue (holds worker cell history)

abbrev pub IsReclaimable : History → RetiredCell → Type 0
IsReclaimable history retired = IsTrue (is_reclaimable history retired)
