-- What a call meets at its own place in the order of all deeds: an entry that is served there, or a look at a full journal.
use Rattle.std.proofs.Common.{◌≡◌, ℕ, ◌/◌, ◌%◌, ◌<◌, ◌==◌, ◌&&◌, Bool, true, false, List, [], Option, Some, None, refl, sym, ◌∙◌, ap, subst}
use Rattle.std.specs.Prelude.{IsTrue, slice_get, if◌then◌else◌}
use Rattle.ebpf_decode.specs.declared.map.MapDef.{MapDef}
use Rattle.semantics.specs.declared.call.Caller.{Caller}
use Rattle.semantics.specs.declared.call.Caller.TheVariants.{Worker, Controller, Reclaimer}
use Rattle.semantics.specs.declared.call.Call.{Call}
use Rattle.semantics.specs.declared.call.Call.TheVariants.{Enter, Leave, Lookup, Load, Store, Atomic, Update, Delete, Reclaim}
use Rattle.semantics.specs.declared.call.Entry.{Entry}
use Rattle.semantics.specs.declared.call.Reply.{Reply}
use Rattle.semantics.specs.declared.options.Options.{Options}
use Rattle.semantics.specs.declared.plan.ShardPlan.{ShardPlan}
use Rattle.semantics.specs.ShardPlan.{plan_at, plan_for_map}
use Rattle.semantics.specs.History.{shard_of_call, meets, IsJournalFull, IsLegalStep}
use Rattle.semantics.specs.System.{Setting, SystemState, history_of, with_entry, entry_for, after_call, MayCall, is_key_change}
use Rattle.semantics.specs.Events.{answer_to}
use Rattle.guarantees.specs.Moves.{Answers}
use Rattle.actors.proofs.shared.Callers.{worker_below}
use Rattle.guarantees.proofs.MoveLemmas.{numbered}

pub record IsAtPlace (setting : Setting) (plan : ShardPlan) (system : SystemState) (entry : Entry) : Type 0 where
  pub known : plan_at setting.maps setting.options (shard_of_call entry.call) ≡ Some plan
  pub step : IsLegalStep plan (history_of system plan.number) entry

-- the plan is for the workers of the options
workers_by : (options : Options) (number : ℕ) (found : Option MapDef) (plan : ShardPlan) → plan_for_map options number found ≡ Some plan →
    plan.workers ≡ options.workers
workers_by options number None plan is = absurd cc
workers_by options number (Some definition) plan is =
    let same : (record { number = number; part = number % options.shards; parts = options.shards; definition = definition; workers = options.workers; reserve = options.journal }) ≡ plan = cc
    in sym (ap (λ (one : ShardPlan). one.workers) same)

-- so a worker that has an entry is one of these
pub worker_at : (setting : Setting) (plan : ShardPlan) (system : SystemState) (entry : Entry) (worker : ℕ) → entry.who ≡ Worker worker →
    IsAtPlace setting plan system entry → worker < setting.options.workers
worker_at setting plan system entry worker is place =
    subst (λ (most : ℕ). worker < most)
    (workers_by setting.options (shard_of_call entry.call) (slice_get setting.maps (shard_of_call entry.call / setting.options.shards)) plan place.known)
    (worker_below plan (history_of system plan.number) worker entry.call
    (subst (λ (one : Caller). IsTrue (meets plan (history_of system plan.number) one entry.call)) is place.step.step.met))

pub answers_at : (setting : Setting) (plan : ShardPlan) (system : SystemState) (entry : Entry) → IsAtPlace setting plan system entry →
    Answers setting system entry
answers_at setting plan system entry place =
    record { plan = plan; known = place.known; room = place.step.room; replied = place.step.step.replied }

-- ---- a deed of the controller or the reclaimer

and_false : (test : Bool) → (test && false) ≡ true → ⊥
and_false true is = cc
and_false false is = cc

pub controller_changes_keys : (plan : ShardPlan) (history : List Entry) (call : Call) → IsTrue (meets plan history Controller call) → is_key_change call ≡ true
controller_changes_keys plan history (Enter shard) met = absurd (and_false (shard == plan.number) met)
controller_changes_keys plan history (Leave shard) met = absurd (and_false (shard == plan.number) met)
controller_changes_keys plan history (Lookup shard key) met = absurd (and_false (shard == plan.number) met)
controller_changes_keys plan history (Load cell offset size) met = absurd (and_false (cell.shard == plan.number) met)
controller_changes_keys plan history (Store cell offset size value) met = absurd (and_false (cell.shard == plan.number) met)
controller_changes_keys plan history (Atomic cell offset size op value expected) met = absurd (and_false (cell.shard == plan.number) met)
controller_changes_keys plan history (Update shard key value flags) met = refl
controller_changes_keys plan history (Delete shard key) met = refl
controller_changes_keys plan history (Reclaim shard) met = absurd (and_false (shard == plan.number) met)

pub reclaimer_reclaims : (plan : ShardPlan) (history : List Entry) (call : Call) → IsTrue (meets plan history Reclaimer call) →
    call ≡ Reclaim (shard_of_call call)
reclaimer_reclaims plan history (Enter shard) met = absurd (and_false (shard == plan.number) met)
reclaimer_reclaims plan history (Leave shard) met = absurd (and_false (shard == plan.number) met)
reclaimer_reclaims plan history (Lookup shard key) met = absurd (and_false (shard == plan.number) met)
reclaimer_reclaims plan history (Load cell offset size) met = absurd (and_false (cell.shard == plan.number) met)
reclaimer_reclaims plan history (Store cell offset size value) met = absurd (and_false (cell.shard == plan.number) met)
reclaimer_reclaims plan history (Atomic cell offset size op value expected) met = absurd (and_false (cell.shard == plan.number) met)
reclaimer_reclaims plan history (Update shard key value flags) met = absurd (and_false (shard == plan.number) met)
reclaimer_reclaims plan history (Delete shard key) met = absurd (and_false (shard == plan.number) met)
reclaimer_reclaims plan history (Reclaim shard) met = refl

-- where such a call leads
pub served : (setting : Setting) (plan : ShardPlan) (system : SystemState) (entry : Entry) (who : Caller) → entry.who ≡ who →
    IsAtPlace setting plan system entry →
    after_call (plan_at setting.maps setting.options (shard_of_call entry.call)) system who entry.call
    ≡ with_entry system (shard_of_call entry.call) entry
served setting plan system entry who is place =
    let number : plan.number ≡ shard_of_call entry.call = numbered setting (shard_of_call entry.call) plan place.known in
    ap (λ found. after_call found system who entry.call) place.known
    ∙ ap (λ (full : Bool). if full then system else with_entry system plan.number (entry_for plan system who entry.call)) place.step.room
    ∙ ap (λ (reply : Reply). with_entry system plan.number (record { who = who; call = entry.call; reply = reply })) (sym place.step.step.replied)
    ∙ ap (λ (one : Caller). with_entry system plan.number (record { who = one; call = entry.call; reply = entry.reply })) (sym is)
    ∙ ap (λ (one : ℕ). with_entry system one entry) number

pub may_call : (setting : Setting) (plan : ShardPlan) (system : SystemState) (entry : Entry) (who : Caller) → entry.who ≡ who →
    IsAtPlace setting plan system entry → MayCall (plan_at setting.maps setting.options (shard_of_call entry.call)) system who entry.call
may_call setting plan system entry who is place =
    subst (λ found. MayCall found system who entry.call) (sym place.known)
    (subst (λ (one : Caller). IsTrue (meets plan (history_of system plan.number) one entry.call)) is place.step.step.met)

-- the answer to it
pub answer_served : (setting : Setting) (plan : ShardPlan) (system : SystemState) (entry : Entry) (who : Caller) → entry.who ≡ who →
    IsAtPlace setting plan system entry →
    answer_to (plan_at setting.maps setting.options (shard_of_call entry.call)) system who entry.call ≡ Some entry.reply
answer_served setting plan system entry who is place =
    ap (λ (found : Option ShardPlan). answer_to found system who entry.call) place.known
    ∙ ap (λ (full : Bool). if full then None else Some (entry_for plan system who entry.call).reply) place.step.room
    ∙ ap (λ (reply : Reply). Some reply) (sym place.step.step.replied)

-- the shard that a call looks at, where its journal is full
pub record IsLookAt (setting : Setting) (plan : ShardPlan) (system : SystemState) (call : Call) : Type 0 where
  pub known : plan_at setting.maps setting.options (shard_of_call call) ≡ Some plan
  pub full : IsJournalFull plan (history_of system plan.number) call

-- whether the controller or the reclaimer may make a call depends on no history
abbrev pub IsNoWorker : Caller → Type 0
IsNoWorker (Worker worker) = ⊥
IsNoWorker who = Unit {0}

anywhere : (plan : ShardPlan) (history : List Entry) (who : Caller) (call : Call) → IsNoWorker who → meets plan [] who call ≡ meets plan history who call
anywhere plan history (Worker worker) call none = absurd none
anywhere plan history Controller (Enter shard) none = refl
anywhere plan history Controller (Leave shard) none = refl
anywhere plan history Controller (Lookup shard key) none = refl
anywhere plan history Controller (Load cell offset size) none = refl
anywhere plan history Controller (Store cell offset size value) none = refl
anywhere plan history Controller (Atomic cell offset size op value expected) none = refl
anywhere plan history Controller (Update shard key value flags) none = refl
anywhere plan history Controller (Delete shard key) none = refl
anywhere plan history Controller (Reclaim shard) none = refl
anywhere plan history Reclaimer (Enter shard) none = refl
anywhere plan history Reclaimer (Leave shard) none = refl
anywhere plan history Reclaimer (Lookup shard key) none = refl
anywhere plan history Reclaimer (Load cell offset size) none = refl
anywhere plan history Reclaimer (Store cell offset size value) none = refl
anywhere plan history Reclaimer (Atomic cell offset size op value expected) none = refl
anywhere plan history Reclaimer (Update shard key value flags) none = refl
anywhere plan history Reclaimer (Delete shard key) none = refl
anywhere plan history Reclaimer (Reclaim shard) none = refl

pub may_look : (setting : Setting) (plan : ShardPlan) (system : SystemState) (who : Caller) (call : Call) → IsNoWorker who →
    IsLookAt setting plan system call → meets plan [] who call ≡ true →
    MayCall (plan_at setting.maps setting.options (shard_of_call call)) system who call
may_look setting plan system who call none at may =
    subst (λ found. MayCall found system who call) (sym at.known) (sym (anywhere plan (history_of system plan.number) who call none) ∙ may)

-- where such a look leads, and its answer
pub turned_away : (setting : Setting) (plan : ShardPlan) (system : SystemState) (who : Caller) (call : Call) → IsLookAt setting plan system call →
    after_call (plan_at setting.maps setting.options (shard_of_call call)) system who call ≡ system
turned_away setting plan system who call at =
    ap (λ found. after_call found system who call) at.known
    ∙ ap (λ (full : Bool). if full then system else with_entry system plan.number (entry_for plan system who call)) at.full

pub no_answer : (setting : Setting) (plan : ShardPlan) (system : SystemState) (who : Caller) (call : Call) → IsLookAt setting plan system call →
    answer_to (plan_at setting.maps setting.options (shard_of_call call)) system who call ≡ None
no_answer setting plan system who call at =
    ap (λ (found : Option ShardPlan). answer_to found system who call) at.known
    ∙ ap (λ (full : Bool). if full then None else Some (entry_for plan system who call).reply) at.full
