-- A caller's own entries show whether it is inside, and what it holds.
use Rattle.std.proofs.Common.{◌≡◌, ℕ, Bool, true, false, cond, ◌&&◌, nat_lt, List, [], ◌∷◌, length, Option, refl, sym, ap}
use Rattle.std.specs.Prelude.{◌==◌, is_some, if◌then◌else◌}
use Rattle.semantics.specs.declared.call.Caller.{Caller}
use Rattle.semantics.specs.declared.call.Caller.TheVariants.{Worker, Controller, Reclaimer}
use Rattle.semantics.specs.declared.call.Call.{Call}
use Rattle.semantics.specs.declared.call.Call.TheVariants.{Enter, Leave, Lookup, Load, Store, Atomic, Update, Delete, Reclaim}
use Rattle.semantics.specs.declared.call.Entry.{Entry}
use Rattle.semantics.specs.declared.call.SectionChange.{SectionChange}
use Rattle.semantics.specs.declared.call.SectionChange.TheVariants.{Begins, Ends, Stays}
use Rattle.semantics.specs.Sections.{section_change}
use Rattle.semantics.specs.ShardPlan.{ShardPlan}
use Rattle.semantics.specs.Reclamation.{is_worker, entered_where, entered_by, entered_at, is_inside, held_by, holds}
use Rattle.semantics.specs.History.{shard_of_call, is_outside_worker, is_inside_worker, is_holder, may_change_keys, meets_part, meets}
use Rattle.semantics.specs.CallerLaws.{own_entries}

-- whether a section is open is decided by the change and by whether one was, not by places
same_section : (change : SectionChange) (place other : ℕ) (before after : Option ℕ) → is_some before ≡ is_some after → is_some (entered_where change place before) ≡ is_some (entered_where change other after)
same_section Begins place other before after same = refl
same_section Ends place other before after same = refl
same_section Stays place other before after same = same

inside_by : (worker : ℕ) (entry : Entry) (older own : List Entry) → is_inside worker own ≡ is_inside worker older → (mine : Bool) → is_worker worker entry.who ≡ mine → is_inside worker (cond mine (entry ∷ own) own) ≡ is_some (if mine then entered_by entry.call (length older) (entered_at worker older) else entered_at worker older)
inside_by worker entry older own same true is = rw is (same_section (section_change entry.call) (length own) (length older) (entered_at worker own) (entered_at worker older) same)
inside_by worker entry older own same false is = same

pub own_inside : (worker : ℕ) (history : List Entry) → is_inside worker (own_entries (Worker worker) history) ≡ is_inside worker history
own_inside worker [] = refl
own_inside worker (entry ∷ older) = inside_by worker entry older (own_entries (Worker worker) older) (own_inside worker older) (is_worker worker entry.who) refl

holds_by : (worker cell : ℕ) (entry : Entry) (older own : List Entry) → holds worker cell own ≡ holds worker cell older → (mine : Bool) → is_worker worker entry.who ≡ mine → holds worker cell (cond mine (entry ∷ own) own) ≡ (if mine then held_by entry.call entry.reply cell (holds worker cell older) else holds worker cell older)
holds_by worker cell entry older own same true is = rw is (ap (held_by entry.call entry.reply cell) same)
holds_by worker cell entry older own same false is = same

pub own_holds : (worker cell : ℕ) (history : List Entry) → holds worker cell (own_entries (Worker worker) history) ≡ holds worker cell history
own_holds worker cell [] = refl
own_holds worker cell (entry ∷ older) = holds_by worker cell entry older (own_entries (Worker worker) older) (own_holds worker cell older) (is_worker worker entry.who) refl

outside_same : (plan : ShardPlan) (history : List Entry) (who : Caller) → is_outside_worker plan history who ≡ is_outside_worker plan (own_entries who history) who
outside_same plan history (Worker number) = ap (λ inside. nat_lt number plan.workers && (if inside then false else true)) (sym (own_inside number history))
outside_same plan history Controller = refl
outside_same plan history Reclaimer = refl

inside_same : (plan : ShardPlan) (history : List Entry) (who : Caller) → is_inside_worker plan history who ≡ is_inside_worker plan (own_entries who history) who
inside_same plan history (Worker number) = ap (λ inside. nat_lt number plan.workers && inside) (sym (own_inside number history))
inside_same plan history Controller = refl
inside_same plan history Reclaimer = refl

holder_same : (plan : ShardPlan) (history : List Entry) (who : Caller) (cell : ℕ) → is_holder plan history who cell ≡ is_holder plan (own_entries who history) who cell
holder_same plan history (Worker number) cell = ap (λ held. nat_lt number plan.workers && held) (sym (own_holds number cell history))
holder_same plan history Controller cell = refl
holder_same plan history Reclaimer cell = refl

change_same : (plan : ShardPlan) (history : List Entry) (who : Caller) → may_change_keys plan history who ≡ may_change_keys plan (own_entries who history) who
change_same plan history (Worker number) = inside_same plan history (Worker number)
change_same plan history Controller = refl
change_same plan history Reclaimer = refl

part_same : (plan : ShardPlan) (history : List Entry) (who : Caller) (call : Call) → meets_part plan history who call ≡ meets_part plan (own_entries who history) who call
part_same plan history who (Enter shard) = outside_same plan history who
part_same plan history who (Leave shard) = inside_same plan history who
part_same plan history who (Lookup shard key) = rw (inside_same plan history who) refl
part_same plan history who (Load cell offset size) = rw (holder_same plan history who cell.id) refl
part_same plan history who (Store cell offset size value) = rw (holder_same plan history who cell.id) refl
part_same plan history who (Atomic cell offset size op value expected) = rw (holder_same plan history who cell.id) refl
part_same plan history who (Update shard key value flags) = rw (change_same plan history who) refl
part_same plan history who (Delete shard key) = rw (change_same plan history who) refl
part_same plan history who (Reclaim shard) = refl

pub condition_is_own : (plan : ShardPlan) (history : List Entry) (who : Caller) (call : Call) → meets plan history who call ≡ meets plan (own_entries who history) who call
condition_is_own plan history who call = ap (λ met. shard_of_call call == plan.number && met) (part_same plan history who call)
