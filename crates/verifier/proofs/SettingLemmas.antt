-- The shards of a setting: what is held in them, which calls they serve, and that an entry leaves them sound.
use Rattle.std.proofs.Common.{◌≡◌, ℕ, ◌/◌, ◌<◌, ◌≤◌, ◌==◌, ◌&&◌, Bool, true, false, List, ◌∷◌, length, Option, Some, IsTrue, refl, sym, ◌∙◌, ap, subst, arith}
use Rattle.std.specs.Prelude.{MatchBool}
use Rattle.std.proofs.lemmas.Bool.{and_parts}
use Rattle.std.proofs.lemmas.Bool.Decides.{nat_tests}
use Rattle.semantics.specs.declared.plan.ShardPlan.{ShardPlan}
use Rattle.semantics.specs.declared.call.Caller.{Caller}
use Rattle.semantics.specs.declared.call.Caller.TheVariants.{Worker}
use Rattle.semantics.specs.declared.call.CellRef.{CellRef}
use Rattle.semantics.specs.declared.call.Call.{Call}
use Rattle.semantics.specs.declared.call.Call.TheVariants.{Enter, Lookup, Load, Store, Atomic, Update, Delete}
use Rattle.semantics.specs.declared.call.Reply.TheVariants.{Entered}
use Rattle.semantics.specs.Reclamation.{is_inside, holds}
use Rattle.semantics.proofs.shared.PlanLemmas.{some_shards}
use Rattle.verifier.proofs.HistoryLemmas.{inside_enter}
use Rattle.semantics.specs.ShardPlan.{plan_at}
use Rattle.semantics.specs.SequentialShard.{shard_after, is_kept}
use Rattle.semantics.specs.History.{Meets}
use Rattle.semantics.specs.Safety.{IsOnKeptCell, IsServedAt, after_enter, IsServedCall}
use Rattle.semantics.specs.System.{Setting, program_of_setting, SystemState, history_of, is_entered, entry_for}
use Rattle.abstract_state.specs.declared.state.State.{State}
use Rattle.abstract_state.specs.States.{value_size_of}
use Rattle.abstract_state.specs.Soundness.{IsServedLookup, IsServedLoad, IsServedStore, IsServedAtomic, IsServedUpdate}
use Rattle.verifier.proofs.SystemInvariant.{held_in_run, IsSoundShard, IsSetting}
use Rattle.verifier.proofs.PlanLemmas.{plan_facts, plan_in_equal_parts, plan_has_parts, enter_meets, lookup_plan, load_meets, store_meets, atomic_meets, delete_meets, update_meets}
use Rattle.verifier.proofs.ShardLemmas.{IsPermitted, sound_after, held_cell_is_kept}

-- ---- what is held

pub record IsHeldCell (setting : Setting) (system : SystemState) (worker : ℕ) (entered : List ℕ) (map shard cell : ℕ) : Type 0 where
  pub of_map : shard / setting.options.shards ≡ map
  pub was_entered : is_entered shard entered ≡ true
  pub holds : holds worker cell (history_of system shard) ≡ true

pub held_facts : (setting : Setting) (system : SystemState) (worker : ℕ) (entered : List ℕ) (map shard cell : ℕ) →
    IsTrue (held_in_run setting system worker entered map shard cell) → IsHeldCell setting system worker entered map shard cell
held_facts setting system worker entered map shard cell held =
    let parts = and_parts (shard / setting.options.shards == map) (is_entered shard entered && holds worker cell (history_of system shard)) held
    in let more = and_parts (is_entered shard entered) (holds worker cell (history_of system shard)) parts.1
    in record { of_map = (let same : (shard / setting.options.shards == map) ≡ true = parts.0 in grind (arith, nat_tests)); was_entered = more.0; holds = more.1 }

-- ---- sound shards

-- a permitted call leaves its shard sound
pub entry_sound : (plan : ShardPlan) (system : SystemState) (who : Caller) (call : Call) → IsPermitted plan (history_of system plan.number) who call →
    IsSoundShard plan (history_of system plan.number) → IsSoundShard plan (entry_for plan system who call ∷ history_of system plan.number)
entry_sound plan system who call permitted sound = sound_after plan (history_of system plan.number) (entry_for plan system who call) refl permitted sound

-- ---- served calls of a run

-- the call, where the shard was entered, and to enter it, where not
by_entered : (A B : Type 0) (entered : Bool) → (entered ≡ true → A) → (entered ≡ false → B) → MatchBool entered A B
by_entered A B true inside outside = inside refl
by_entered A B false inside outside = outside refl

served_at : (plan : ShardPlan) (system : SystemState) (worker : ℕ) (entered : List ℕ) (call : Call) (found : Option ShardPlan) → found ≡ Some plan → worker < plan.workers →
    is_inside worker (history_of system plan.number) ≡ is_entered plan.number entered →
    (is_entered plan.number entered ≡ true → IsServedAt plan (history_of system plan.number) worker call) →
    (is_entered plan.number entered ≡ false → IsServedAt plan (after_enter plan (history_of system plan.number) worker) worker call) →
    IsServedCall found system worker entered call
served_at plan system worker entered call found is few inside meets entering =
    subst (λ one. IsServedCall one system worker entered call) (sym is)
    (by_entered (IsServedAt plan (history_of system plan.number) worker call)
    (Meets plan (history_of system plan.number) (Worker worker) (Enter plan.number) × IsServedAt plan (after_enter plan (history_of system plan.number) worker) worker call)
    (is_entered plan.number entered) meets
    (λ outside. (enter_meets plan (history_of system plan.number) worker few (inside ∙ outside), entering outside)))

enters_inside : (plan : ShardPlan) (system : SystemState) (worker : ℕ) → is_inside worker (after_enter plan (history_of system plan.number) worker) ≡ true
enters_inside plan system worker =
    inside_enter worker plan.number (record { who = Worker worker; call = Enter plan.number; reply = Entered }) (history_of system plan.number) refl refl

-- a lookup that the abstract state lets through
pub lookup_served : (setting : Setting) (states : List (Option State)) (system : SystemState) (worker : ℕ) (entered : List ℕ) (shard : ℕ) (key : List ℕ) → IsSetting setting states →
    worker < setting.options.workers → is_inside worker (history_of system shard) ≡ is_entered shard entered → IsServedLookup (program_of_setting setting) shard key →
    IsServedCall (plan_at setting.maps setting.options shard) system worker entered (Lookup shard key)
lookup_served setting states system worker entered shard key good few inside served =
    let is = lookup_plan setting.maps setting.options shard served.map key (some_shards setting.maps setting.options good.options) served.of_map served.own
    in let facts = plan_facts setting.maps setting.options shard is.plan is.planned
    in let at : is.plan.number ≡ shard = facts.number
    in let inside_at : is_inside worker (history_of system is.plan.number) ≡ is_entered is.plan.number entered = rw at inside
    in served_at is.plan system worker entered (Lookup shard key) (plan_at setting.maps setting.options shard) is.planned (omega (arith, few, facts.workers)) inside_at
    (λ into. (is.meets (history_of system is.plan.number) worker few (inside_at ∙ into), tt))
    (λ outside. (
      is.meets (after_enter is.plan (history_of system is.plan.number) worker) worker few (enters_inside is.plan system worker),
      tt,
    ))

-- an update or a deletion that the abstract state lets through
pub delete_served : (setting : Setting) (states : List (Option State)) (system : SystemState) (worker : ℕ) (entered : List ℕ) (shard : ℕ) (key : List ℕ) → IsSetting setting states →
    worker < setting.options.workers → is_inside worker (history_of system shard) ≡ is_entered shard entered → IsServedLookup (program_of_setting setting) shard key →
    IsServedCall (plan_at setting.maps setting.options shard) system worker entered (Delete shard key)
delete_served setting states system worker entered shard key good few inside served =
    let is = lookup_plan setting.maps setting.options shard served.map key (some_shards setting.maps setting.options good.options) served.of_map served.own
    in let facts = plan_facts setting.maps setting.options shard is.plan is.planned
    in let at : is.plan.number ≡ shard = facts.number
    in let inside_at : is_inside worker (history_of system is.plan.number) ≡ is_entered is.plan.number entered = rw at inside
    in served_at is.plan system worker entered (Delete shard key) (plan_at setting.maps setting.options shard) is.planned (omega (arith, few, facts.workers)) inside_at
    (λ into. (delete_meets is.plan (history_of system is.plan.number) worker shard key (is.meets (history_of system is.plan.number) worker few (inside_at ∙ into)), tt))
    (λ outside. (
      delete_meets is.plan (after_enter is.plan (history_of system is.plan.number) worker) worker shard key
          (is.meets (after_enter is.plan (history_of system is.plan.number) worker) worker few (enters_inside is.plan system worker)),
      tt,
    ))

pub update_served : (setting : Setting) (states : List (Option State)) (system : SystemState) (worker : ℕ) (entered : List ℕ) (shard : ℕ) (key value : List ℕ) (flags : ℕ) → IsSetting setting states →
    worker < setting.options.workers → is_inside worker (history_of system shard) ≡ is_entered shard entered → IsServedUpdate (program_of_setting setting) shard key value flags →
    IsServedCall (plan_at setting.maps setting.options shard) system worker entered (Update shard key value flags)
update_served setting states system worker entered shard key value flags good few inside served =
    let is = lookup_plan setting.maps setting.options shard served.map key (some_shards setting.maps setting.options good.options) served.of_map.at served.own
    in let facts = plan_facts setting.maps setting.options shard is.plan is.planned
    in let at : is.plan.number ≡ shard = facts.number
    in let inside_at : is_inside worker (history_of system is.plan.number) ≡ is_entered is.plan.number entered = rw at inside
    in let size : length value ≡ is.plan.definition.value_size = served.of_map.value_size ∙ sym (is.value_size ∙ ap value_size_of served.of_map.at.known)
    in served_at is.plan system worker entered (Update shard key value flags) (plan_at setting.maps setting.options shard) is.planned (omega (arith, few, facts.workers)) inside_at
    (λ into. (
      update_meets is.plan (history_of system is.plan.number) worker shard key value flags (is.meets (history_of system is.plan.number) worker few (inside_at ∙ into))
          size served.of_map.value_bytes served.small_flags,
      tt,
    ))
    (λ outside. (
      update_meets is.plan (after_enter is.plan (history_of system is.plan.number) worker) worker shard key value flags
          (is.meets (after_enter is.plan (history_of system is.plan.number) worker) worker few (enters_inside is.plan system worker))
          size served.of_map.value_bytes served.small_flags,
      tt,
    ))

-- a call on a held cell that meets its condition is served: its shard was entered, and the cell is kept
cell_served : (setting : Setting) (states : List (Option State)) (system : SystemState) (worker : ℕ) (entered : List ℕ) (map : ℕ) (cell : CellRef) (call : Call) → IsSetting setting states →
    worker < setting.options.workers → is_inside worker (history_of system cell.shard) ≡ is_entered cell.shard entered →
    (plan : ShardPlan) → plan_at setting.maps setting.options cell.shard ≡ Some plan → IsSoundShard plan (history_of system cell.shard) →
    IsTrue (held_in_run setting system worker entered map cell.shard cell.id) →
    (holds worker cell.id (history_of system plan.number) ≡ true → Meets plan (history_of system plan.number) (Worker worker) call) →
    (IsTrue (is_kept plan (shard_after plan (history_of system plan.number)) cell.id) → IsOnKeptCell plan (history_of system plan.number) call) →
    IsServedCall (plan_at setting.maps setting.options cell.shard) system worker entered call
cell_served setting states system worker entered map cell call good few inside plan planned sound is_held meets on_kept =
    let facts = plan_facts setting.maps setting.options cell.shard plan planned
    in let at : plan.number ≡ cell.shard = facts.number
    in let held = held_facts setting system worker entered map cell.shard cell.id is_held
    in let inside_at : is_inside worker (history_of system plan.number) ≡ is_entered plan.number entered = rw at inside
    in let sound_at : IsSoundShard plan (history_of system plan.number) = subst (λ number. IsSoundShard plan (history_of system number)) (sym at) sound
    in let holds_at : holds worker cell.id (history_of system plan.number) ≡ true = subst (λ number. holds worker cell.id (history_of system number) ≡ true) (sym at) held.holds
    in let most : setting.options.workers ≤ 8 = good.options.at_most_eight
    in served_at plan system worker entered call (plan_at setting.maps setting.options cell.shard) planned (omega (arith, few, facts.workers)) inside_at
    (λ into. (
      meets holds_at,
      on_kept (held_cell_is_kept plan (history_of system plan.number) worker cell.id (plan_in_equal_parts setting.maps setting.options cell.shard plan good.options planned)
          (plan_has_parts setting.maps setting.options cell.shard plan good.options planned) (omega (arith, few, most)) sound_at holds_at),
    ))
    (λ outside. let entered_it : is_entered plan.number entered ≡ true = subst (λ number. is_entered number entered ≡ true) (sym at) held.was_entered in absurd cc)

load_meets_held : (setting : Setting) (system : SystemState) (worker : ℕ) (entered : List ℕ) (cell : CellRef) (offset size : ℕ) → worker < setting.options.workers →
    (plan : ShardPlan) → plan_at setting.maps setting.options cell.shard ≡ Some plan → IsServedLoad (program_of_setting setting) (held_in_run setting system worker entered) cell offset size →
    holds worker cell.id (history_of system plan.number) ≡ true → Meets plan (history_of system plan.number) (Worker worker) (Load cell offset size)
load_meets_held setting system worker entered cell offset size few plan planned served holds_at =
    load_meets setting.maps setting.code setting.options (held_in_run setting system worker entered) cell offset size plan (history_of system plan.number) worker
    (λ map is. ((held_facts setting system worker entered map cell.shard cell.id is).of_map, holds_at)) served planned few

-- loads, stores and atomic operations that the abstract state lets through
pub load_served : (setting : Setting) (states : List (Option State)) (system : SystemState) (worker : ℕ) (entered : List ℕ) (cell : CellRef) (offset size : ℕ) → IsSetting setting states →
    worker < setting.options.workers → is_inside worker (history_of system cell.shard) ≡ is_entered cell.shard entered →
    (plan : ShardPlan) → plan_at setting.maps setting.options cell.shard ≡ Some plan → IsSoundShard plan (history_of system cell.shard) →
    IsServedLoad (program_of_setting setting) (held_in_run setting system worker entered) cell offset size →
    IsServedCall (plan_at setting.maps setting.options cell.shard) system worker entered (Load cell offset size)
load_served setting states system worker entered cell offset size good few inside plan planned sound served =
    cell_served setting states system worker entered served.map cell (Load cell offset size) good few inside plan planned sound served.holds
    (load_meets_held setting system worker entered cell offset size few plan planned served) (λ kept. kept)

pub store_served : (setting : Setting) (states : List (Option State)) (system : SystemState) (worker : ℕ) (entered : List ℕ) (cell : CellRef) (offset size value : ℕ) → IsSetting setting states →
    worker < setting.options.workers → is_inside worker (history_of system cell.shard) ≡ is_entered cell.shard entered →
    (plan : ShardPlan) → plan_at setting.maps setting.options cell.shard ≡ Some plan → IsSoundShard plan (history_of system cell.shard) →
    IsServedStore (program_of_setting setting) (held_in_run setting system worker entered) cell offset size value →
    IsServedCall (plan_at setting.maps setting.options cell.shard) system worker entered (Store cell offset size value)
store_served setting states system worker entered cell offset size value good few inside plan planned sound served =
    cell_served setting states system worker entered served.at.map cell (Store cell offset size value) good few inside plan planned sound served.at.holds
    (λ holds_at. store_meets plan (history_of system plan.number) worker cell offset size value
    (load_meets_held setting system worker entered cell offset size few plan planned served.at holds_at) served.fits) (λ kept. kept)

pub atomic_served : (setting : Setting) (states : List (Option State)) (system : SystemState) (worker : ℕ) (entered : List ℕ) (cell : CellRef) (offset size op value expected : ℕ) → IsSetting setting states →
    worker < setting.options.workers → is_inside worker (history_of system cell.shard) ≡ is_entered cell.shard entered →
    (plan : ShardPlan) → plan_at setting.maps setting.options cell.shard ≡ Some plan → IsSoundShard plan (history_of system cell.shard) →
    IsServedAtomic (program_of_setting setting) (held_in_run setting system worker entered) cell offset size op value expected →
    IsServedCall (plan_at setting.maps setting.options cell.shard) system worker entered (Atomic cell offset size op value expected)
atomic_served setting states system worker entered cell offset size op value expected good few inside plan planned sound served =
    cell_served setting states system worker entered served.map cell (Atomic cell offset size op value expected) good few inside plan planned sound served.holds
    (λ holds_at. atomic_meets setting.maps setting.code setting.options (held_in_run setting system worker entered) cell offset size op value expected plan (history_of system plan.number) worker
    (λ map is. ((held_facts setting system worker entered map cell.shard cell.id is).of_map, holds_at)) served planned few) (λ kept. kept)
