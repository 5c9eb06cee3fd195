-- A caller's condition is a matter of its own entries: what it may call, it knows without the entries of others.
use Rattle.std.specs.Prelude.{◌≡◌, Bool, true, false, List, filter}
use Rattle.semantics.specs.declared.call.Caller.{Caller}
use Rattle.semantics.specs.declared.call.Caller.TheVariants.{Worker, Controller, Reclaimer}
use Rattle.semantics.specs.declared.call.Call.{Call}
use Rattle.semantics.specs.declared.call.Entry.{Entry}
use Rattle.semantics.specs.Reclamation.{is_worker}
use Rattle.semantics.specs.ShardPlan.{ShardPlan}
use Rattle.semantics.specs.History.{is_reclaimer, meets}
use Rattle.semantics.specs.Entries.{History}

abbrev pub is_controller : Caller → Bool
is_controller Controller = true
is_controller who = false

-- the entry's caller is this one
abbrev pub is_caller : Caller → Caller → Bool
is_caller (Worker number) other = is_worker number other
is_caller Controller other = is_controller other
is_caller Reclaimer other = is_reclaimer other

-- the entries that a caller made
abbrev pub own_entries : Caller → History → History
own_entries who history = filter (λ (entry : Entry). is_caller who entry.who) history

-- whether a call meets its condition depends on its caller's own entries alone
abbrev pub ConditionIsOwn : Type 0
ConditionIsOwn =
    (plan : ShardPlan) (history : History) (who : Caller) (call : Call) →
    meets plan history who call ≡ meets plan (own_entries who history) who call
