-- A run's calls keep the system sound: it enters a shard, and calls it.
use Rattle.std.proofs.Common.{◌≡◌, ◌≢◌, ℕ, ◌<◌, ◌==◌, ◌*◌, ◌/◌, Bool, true, false, List, ◌∷◌, length, Option, Some, None, refl, sym, ap, subst, ◌∙◌, ⊎_elim, arith}
use Rattle.std.specs.Prelude.{IsTrue}
use Rattle.std.proofs.lemmas.Bool.{cases_eq, ne_eqb}
use Rattle.std.proofs.lemmas.Nat.{div-mul-add, mod_below}
use Rattle.std.proofs.lemmas.Bool.Decides.{eqb_tells}
use Rattle.semantics.specs.declared.plan.ShardPlan.{ShardPlan}
use Rattle.semantics.specs.declared.call.Caller.TheVariants.{Worker}
use Rattle.semantics.specs.declared.call.CellRef.{CellRef}
use Rattle.semantics.specs.declared.call.Call.{Call}
use Rattle.semantics.specs.declared.call.Call.TheVariants.{Enter, Lookup}
use Rattle.semantics.specs.declared.call.SectionChange.TheVariants.{Stays}
use Rattle.semantics.specs.declared.call.Reply.{Reply}
use Rattle.semantics.specs.declared.call.Reply.TheVariants.{Entered, Left, Cell, Null, Word, Done, Answer, Freed}
use Rattle.semantics.specs.declared.call.Entry.{Entry}
use Rattle.semantics.specs.MachineState.{MachineState}
use Rattle.semantics.specs.Program.{part_of_key, shard_number_of_key}
use Rattle.semantics.specs.Sections.{section_change}
use Rattle.semantics.specs.Reclamation.{is_inside, holds}
use Rattle.semantics.specs.Reclamation as history
use Rattle.semantics.specs.RunTrace.{IsReplyTo}
use Rattle.semantics.specs.ShardPlan.{plan_at}
use Rattle.semantics.specs.History.{Meets, journal_is_full}
use Rattle.semantics.specs.System.{Setting, program_of_setting, SystemState, Idle, Runs, worker_state, history_of, with_worker, with_entry, is_entered, entry_for, run_over, after_run_call}
use Rattle.abstract_state.specs.declared.state.State.{State}
use Rattle.abstract_state.specs.Soundness.{IsHandedOut, HoldsAfter}
use Rattle.abstract_state.proofs.shared.Writing.{held_more}
use Rattle.semantics.proofs.shared.PlanLemmas.{some_shards}
use Rattle.verifier.proofs.SystemInvariant.{entered_of, held_in_run, IsSoundRun, IsSoundWorker, IsSetting, IsSoundSystem}
use Rattle.verifier.proofs.HistoryLemmas.{inside_enter, inside_lookup, inside_stays, holds_still, still_held, found_held}
use Rattle.verifier.proofs.PlanLemmas.{plan_facts, plan_within, enter_meets}
use Rattle.verifier.proofs.SettingLemmas.{held_facts}
use Rattle.semantics.proofs.shared.SystemSteps.{history_there, history_elsewhere}
use Rattle.verifier.proofs.EntryLemmas.{local_change, own_entry}
use Rattle.verifier.proofs.EventLemmas.{by_full, over_keeps, over_sound, is_counted}

same_number : (n : ℕ) → (n == n) ≡ true
same_number n = ⊎_elim (λ yes. yes.0) (λ no_more. absurd (no_more.1 refl)) (eqb_tells n n)

-- the shards of a system with one more entry of a worker
abbrev pub grown : SystemState → ShardPlan → ℕ → Call → SystemState
grown system plan worker call = with_entry system plan.number (entry_for plan system (Worker worker) call)

-- the shard of a plan has a history
within_histories : (setting : Setting) (states : List (Option State)) (system : SystemState) (shard : ℕ) (plan : ShardPlan) → IsSetting setting states → IsSoundSystem setting states system →
    plan_at setting.maps setting.options shard ≡ Some plan → plan.number < length system.histories
within_histories setting states system shard plan good sound planned =
    let at : plan.number ≡ shard = (plan_facts setting.maps setting.options shard plan planned).number
    in let total : length system.histories ≡ length setting.maps * setting.options.shards = sound.shards
    in let inside_all : shard < length setting.maps * setting.options.shards = plan_within setting.maps setting.options shard plan (some_shards setting.maps setting.options good.options) planned
    in omega arith

-- where the journal is full, the run ends
pub stopped : (setting : Setting) (states : List (Option State)) (system : SystemState) (worker : ℕ) (state : MachineState) (entered : List ℕ) → IsSetting setting states →
    IsSoundSystem setting states system → worker_state system worker ≡ Runs state entered → IsSoundSystem setting states (with_worker system worker (run_over entered))
stopped setting states system worker state entered good sound is =
    local_change setting states system worker (run_over entered) good sound
    (is_counted setting states system worker sound (λ idle. let e : Idle ≡ Runs state entered = sym idle ∙ is in absurd cc))
    (over_keeps entered ∙ sym (ap entered_of is)) (over_sound setting states system worker entered)

-- ---- entering

entered_first : (shard s : ℕ) (entered : List ℕ) → s ≡ shard → is_entered s (shard ∷ entered) ≡ true
entered_first shard s entered same = rw (same, same_number shard) refl

entered_other : (shard s : ℕ) (entered : List ℕ) → s ≢ shard → is_entered s (shard ∷ entered) ≡ is_entered s entered
entered_other shard s entered apart = let e : (shard == s) ≡ false = ne_eqb shard s (λ same. apart (sym same)) in rw e refl

entering_holds : (setting : Setting) (system : SystemState) (plan : ShardPlan) (worker shard : ℕ) (entered : List ℕ) → plan.number ≡ shard → is_entered shard entered ≡ false →
    (map s cell : ℕ) → IsTrue (held_in_run setting system worker entered map s cell) → IsTrue (held_in_run setting (grown system plan worker (Enter shard)) worker (shard ∷ entered) map s cell)
entering_holds setting system plan worker shard entered at outside map s cell held =
    let is = held_facts setting system worker entered map s cell held
    in let apart : s ≢ shard = (λ same. let no_more : is_entered s entered ≡ false = ap (λ n. is_entered n entered) same ∙ outside in let yes : is_entered s entered ≡ true = is.was_entered in absurd cc)
    in let into : is_entered s (shard ∷ entered) ≡ true = entered_other shard s entered apart ∙ is.was_entered
    in let still : holds worker cell (history_of (grown system plan worker (Enter shard)) s) ≡ true =
    ap (holds worker cell) (history_elsewhere system plan.number s (entry_for plan system (Worker worker) (Enter shard)) (λ e. apart (e ∙ at))) ∙ is.holds
    in let of_map : (s / setting.options.shards == map) ≡ true = rw is.of_map (same_number map)
    in rw (of_map, into, still) refl

pub enter_sound : (setting : Setting) (states : List (Option State)) (system : SystemState) (worker shard : ℕ) (state : MachineState) (entered : List ℕ) (found : Option ShardPlan) → IsSetting setting states →
    IsSoundSystem setting states system → worker_state system worker ≡ Runs state entered → is_entered shard entered ≡ false → plan_at setting.maps setting.options shard ≡ found →
    IsSoundSystem setting states (after_run_call found system worker (Enter shard) entered (λ reply. Runs state (shard ∷ entered)))
enter_sound setting states system worker shard state entered None good sound is outside planned = sound
enter_sound setting states system worker shard state entered (Some plan) good sound is outside planned =
    let few : worker < setting.options.workers = is_counted setting states system worker sound (λ idle. let e : Idle ≡ Runs state entered = sym idle ∙ is in absurd cc)
    in let at : plan.number ≡ shard = (plan_facts setting.maps setting.options shard plan planned).number
    in let within : plan.number < length system.histories = within_histories setting states system shard plan good sound planned
    in let inside_all : shard < length setting.maps * setting.options.shards = plan_within setting.maps setting.options shard plan (some_shards setting.maps setting.options good.options) planned
    in let run : IsSoundRun setting states system worker state entered = subst (IsSoundWorker setting states system worker) is (sound.workers worker)
    in let known : worker < plan.workers = omega (arith, (plan_facts setting.maps setting.options shard plan planned).workers, few)
    in let not_inside : is_inside worker (history_of system plan.number) ≡ false =
    ap (λ n. is_inside worker (history_of system n)) at ∙ sound.inside worker shard ∙ ap (λ st. is_entered shard (entered_of st)) is ∙ outside
    in let met : Meets plan (history_of system plan.number) (Worker worker) (Enter shard) =
    subst (λ n. Meets plan (history_of system plan.number) (Worker worker) (Enter n)) at (enter_meets plan (history_of system plan.number) worker known not_inside)
    in by_full setting states (with_worker system worker (run_over entered)) (with_worker (grown system plan worker (Enter shard)) worker (Runs state (shard ∷ entered)))
    (journal_is_full plan (history_of system plan.number) (Enter shard)) (stopped setting states system worker state entered good sound is)
    (λ room. own_entry setting states system shard plan worker (Enter shard) (Runs state (shard ∷ entered)) good sound planned (record { met = met; room = room }) few
    (λ s. ⊎_elim
    (λ same.
    let now : is_inside worker (history_of (grown system plan worker (Enter shard)) plan.number) ≡ true =
    ap (is_inside worker) (history_there system plan.number (entry_for plan system (Worker worker) (Enter shard)) within)
    ∙ inside_enter worker shard (entry_for plan system (Worker worker) (Enter shard)) (history_of system plan.number) refl refl
    in ap (λ n. is_inside worker (history_of (grown system plan worker (Enter shard)) n)) same ∙ now ∙ sym (entered_first shard s entered (same ∙ at)))
    (λ apart. ap (is_inside worker) (history_elsewhere system plan.number s (entry_for plan system (Worker worker) (Enter shard)) apart)
    ∙ sound.inside worker s ∙ ap (λ st. is_entered s (entered_of st)) is ∙ sym (entered_other shard s entered (λ e. apart (e ∙ sym at))))
    (cases_eq s plan.number))
    (λ s now. ⊎_elim
    (λ same. rw same inside_all)
    (λ apart. sound.entered worker s (ap (λ st. is_entered s (entered_of st)) is ∙ sym (entered_other shard s entered apart) ∙ now))
    (cases_eq s shard))
    (record {
      known = run.known;
      at = run.at;
      begins = run.begins;
      sound = held_more setting.maps (held_in_run setting system worker entered) (held_in_run setting (grown system plan worker (Enter shard)) worker (shard ∷ entered)) run.known state
          (entering_holds setting system plan worker shard entered at outside) run.sound;
      few = run.few;
    }))

-- ---- calls inside a shard

-- a call by which a worker stays inside, and lets go of nothing
pub record IsQuiet (plan : ShardPlan) (system : SystemState) (worker : ℕ) (call : Call) : Type 0 where
  pub inside : is_inside worker (entry_for plan system (Worker worker) call ∷ history_of system plan.number) ≡ is_inside worker (history_of system plan.number)
  pub kept : (cell : ℕ) → holds worker cell (history_of system plan.number) ≡ true → holds worker cell (entry_for plan system (Worker worker) call ∷ history_of system plan.number) ≡ true

pub quiet_lookup : (plan : ShardPlan) (system : SystemState) (worker shard : ℕ) (key : List ℕ) → IsQuiet plan system worker (Lookup shard key)
quiet_lookup plan system worker shard key = record {
  inside = inside_lookup worker shard key (entry_for plan system (Worker worker) (Lookup shard key)) (history_of system plan.number) refl refl;
  kept = λ cell held. still_held worker cell shard key (entry_for plan system (Worker worker) (Lookup shard key)) (history_of system plan.number) refl refl held;
}

-- a call that hands out nothing, and lets go of nothing
pub quiet_call : (plan : ShardPlan) (system : SystemState) (worker : ℕ) (call : Call) → section_change call ≡ Stays →
    ((reply : Reply) (cell : ℕ) (before : Bool) → history.held_by call reply cell before ≡ before) → IsQuiet plan system worker call
quiet_call plan system worker call stays same = record {
  inside = inside_stays worker (entry_for plan system (Worker worker) call) (history_of system plan.number) refl stays;
  kept = λ cell held. holds_still worker cell (entry_for plan system (Worker worker) call) (history_of system plan.number) refl
      (same (entry_for plan system (Worker worker) call).reply cell) ∙ held;
}

-- what the worker held, it holds
pub held_grows : (setting : Setting) (system : SystemState) (plan : ShardPlan) (worker : ℕ) (entered : List ℕ) (call : Call) → IsQuiet plan system worker call → plan.number < length system.histories →
    (map s cell : ℕ) → IsTrue (held_in_run setting system worker entered map s cell) → IsTrue (held_in_run setting (grown system plan worker call) worker entered map s cell)
held_grows setting system plan worker entered call quiet within map s cell held =
    let is = held_facts setting system worker entered map s cell held
    in let still : holds worker cell (history_of (grown system plan worker call) s) ≡ true = ⊎_elim
    (λ same. ap (λ n. holds worker cell (history_of (grown system plan worker call) n)) same
    ∙ ap (holds worker cell) (history_there system plan.number (entry_for plan system (Worker worker) call) within)
    ∙ quiet.kept cell (ap (λ n. holds worker cell (history_of system n)) (sym same) ∙ is.holds))
    (λ apart. ap (holds worker cell) (history_elsewhere system plan.number s (entry_for plan system (Worker worker) call) apart) ∙ is.holds)
    (cases_eq s plan.number)
    in let of_map : (s / setting.options.shards == map) ≡ true = rw is.of_map (same_number map)
    in rw (of_map, is.was_entered, still) refl

-- the run goes on with the reply, which is given to it in full
pub ask_sound : (setting : Setting) (states : List (Option State)) (system : SystemState) (worker shard : ℕ) (call : Call) (state : MachineState) (entered : List ℕ) (plan : ShardPlan) (next : Reply → MachineState) → IsSetting setting states →
    IsSoundSystem setting states system → worker_state system worker ≡ Runs state entered → plan_at setting.maps setting.options shard ≡ Some plan →
    Meets plan (history_of system plan.number) (Worker worker) call → IsQuiet plan system worker call →
    IsSoundRun setting states (grown system plan worker call) worker (next (entry_for plan system (Worker worker) call).reply) entered →
    IsSoundSystem setting states (after_run_call (Some plan) system worker call entered (λ reply. Runs (next reply) entered))
ask_sound setting states system worker shard call state entered plan next good sound is planned met quiet run =
    let few : worker < setting.options.workers = is_counted setting states system worker sound (λ idle. let e : Idle ≡ Runs state entered = sym idle ∙ is in absurd cc)
    in let within : plan.number < length system.histories = within_histories setting states system shard plan good sound planned
    in by_full setting states (with_worker system worker (run_over entered)) (with_worker (grown system plan worker call) worker (Runs (next (entry_for plan system (Worker worker) call).reply) entered))
    (journal_is_full plan (history_of system plan.number) call) (stopped setting states system worker state entered good sound is)
    (λ room. own_entry setting states system shard plan worker call (Runs (next (entry_for plan system (Worker worker) call).reply) entered) good sound planned
    (record { met = met; room = room }) few
    (λ s. ⊎_elim
    (λ same. ap (λ n. is_inside worker (history_of (grown system plan worker call) n)) same
    ∙ ap (is_inside worker) (history_there system plan.number (entry_for plan system (Worker worker) call) within) ∙ quiet.inside
    ∙ ap (λ n. is_inside worker (history_of system n)) (sym same) ∙ sound.inside worker s ∙ ap (λ st. is_entered s (entered_of st)) is)
    (λ apart. ap (is_inside worker) (history_elsewhere system plan.number s (entry_for plan system (Worker worker) call) apart)
    ∙ sound.inside worker s ∙ ap (λ st. is_entered s (entered_of st)) is)
    (cases_eq s plan.number))
    (λ s now. sound.entered worker s (ap (λ st. is_entered s (entered_of st)) is ∙ now))
    run)

-- a lookup hands out the cell that it found, which is of the lookup's map
handed_cell : (setting : Setting) (states : List (Option State)) (system : SystemState) (worker shard : ℕ) (key : List ℕ) (entered : List ℕ) (plan : ShardPlan) (cell : CellRef) → IsSetting setting states →
    plan.number ≡ shard → plan.number < length system.histories → is_entered shard entered ≡ true → (entry_for plan system (Worker worker) (Lookup shard key)).reply ≡ Cell cell → cell.shard ≡ shard →
    IsHandedOut (program_of_setting setting) (held_in_run setting (grown system plan worker (Lookup shard key)) worker entered) (Lookup shard key) (Cell cell)
handed_cell setting states system worker shard key entered plan cell good at within into replied same map definition known own =
    let entry : Entry = entry_for plan system (Worker worker) (Lookup shard key)
    in let some : 0 < setting.options.shards = some_shards setting.maps setting.options good.options
    in let part : part_of_key definition.kind setting.options.shards key < setting.options.shards = mod_below (shard_number_of_key definition.kind key) setting.options.shards some
    in let of_map_shard : shard / setting.options.shards ≡ map =
    ap (λ n. n / setting.options.shards) own ∙ div-mul-add map setting.options.shards (part_of_key definition.kind setting.options.shards key) part
    in let of_map : (cell.shard / setting.options.shards == map) ≡ true = rw (ap (λ n. n / setting.options.shards) same ∙ of_map_shard) (same_number map)
    in let entered_it : is_entered cell.shard entered ≡ true = ap (λ n. is_entered n entered) same ∙ into
    in let now : holds worker cell.id (history_of (grown system plan worker (Lookup shard key)) cell.shard) ≡ true =
    ap (λ n. holds worker cell.id (history_of (grown system plan worker (Lookup shard key)) n)) (same ∙ sym at)
    ∙ ap (holds worker cell.id) (history_there system plan.number (entry_for plan system (Worker worker) (Lookup shard key)) within)
    ∙ found_held worker shard key cell (entry_for plan system (Worker worker) (Lookup shard key)) (history_of system plan.number) refl refl replied
    in rw (of_map, entered_it, now) refl

handed_by : (setting : Setting) (states : List (Option State)) (system : SystemState) (worker shard : ℕ) (key : List ℕ) (entered : List ℕ) (plan : ShardPlan) (reply : Reply) → IsSetting setting states →
    plan.number ≡ shard → plan.number < length system.histories → is_entered shard entered ≡ true → (entry_for plan system (Worker worker) (Lookup shard key)).reply ≡ reply →
    IsReplyTo (program_of_setting setting) (Lookup shard key) reply →
    IsHandedOut (program_of_setting setting) (held_in_run setting (grown system plan worker (Lookup shard key)) worker entered) (Lookup shard key) reply
handed_by setting states system worker shard key entered plan (Cell cell) good at within into replied fits =
    handed_cell setting states system worker shard key entered plan cell good at within into replied fits
handed_by setting states system worker shard key entered plan Entered good at within into replied fits = tt
handed_by setting states system worker shard key entered plan Left good at within into replied fits = tt
handed_by setting states system worker shard key entered plan Null good at within into replied fits = tt
handed_by setting states system worker shard key entered plan (Word n) good at within into replied fits = tt
handed_by setting states system worker shard key entered plan Done good at within into replied fits = tt
handed_by setting states system worker shard key entered plan (Answer n) good at within into replied fits = tt
handed_by setting states system worker shard key entered plan (Freed n) good at within into replied fits = tt

pub lookup_holds : (setting : Setting) (states : List (Option State)) (system : SystemState) (worker shard : ℕ) (key : List ℕ) (entered : List ℕ) (plan : ShardPlan) → IsSetting setting states →
    IsSoundSystem setting states system → plan_at setting.maps setting.options shard ≡ Some plan → is_entered shard entered ≡ true →
    IsReplyTo (program_of_setting setting) (Lookup shard key) (entry_for plan system (Worker worker) (Lookup shard key)).reply →
    HoldsAfter (program_of_setting setting) (held_in_run setting system worker entered) (held_in_run setting (grown system plan worker (Lookup shard key)) worker entered) (Lookup shard key)
    (entry_for plan system (Worker worker) (Lookup shard key)).reply
lookup_holds setting states system worker shard key entered plan good sound planned into fits = record {
  kept = held_grows setting system plan worker entered (Lookup shard key) (quiet_lookup plan system worker shard key) (within_histories setting states system shard plan good sound planned);
  handed_out = handed_by setting states system worker shard key entered plan (entry_for plan system (Worker worker) (Lookup shard key)).reply good
      (plan_facts setting.maps setting.options shard plan planned).number (within_histories setting states system shard plan good sound planned) into refl fits;
}

-- a call that hands out nothing
pub still_holds : (setting : Setting) (states : List (Option State)) (system : SystemState) (worker shard : ℕ) (call : Call) (entered : List ℕ) (plan : ShardPlan) → IsSetting setting states →
    IsSoundSystem setting states system → plan_at setting.maps setting.options shard ≡ Some plan → IsQuiet plan system worker call →
    IsHandedOut (program_of_setting setting) (held_in_run setting (grown system plan worker call) worker entered) call (entry_for plan system (Worker worker) call).reply →
    HoldsAfter (program_of_setting setting) (held_in_run setting system worker entered) (held_in_run setting (grown system plan worker call) worker entered) call
    (entry_for plan system (Worker worker) call).reply
still_holds setting states system worker shard call entered plan good sound planned quiet nothing = record {
  kept = held_grows setting system plan worker entered call quiet (within_histories setting states system shard plan good sound planned);
  handed_out = nothing;
}
