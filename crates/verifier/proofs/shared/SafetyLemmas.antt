-- Whatever happens, the system stays sound; so no run of an accepted program traps or runs on.
use Rattle.std.proofs.Common.{◌≡◌, ℕ, ◌<◌, ◌≤◌, ◌*◌, ◌/◌, Bool, true, false, List, [], ◌∷◌, length, Option, Some, None, refl, sym, ap, subst, ◌∙◌, arith}
use Rattle.std.specs.Prelude.{IsTrue, MatchBool, if◌then◌else◌}
use Rattle.std.proofs.lemmas.List.{length-replicate}
use Rattle.std.proofs.lemmas.List.Sums.{sum_by-cons}
use Rattle.ebpf_decode.specs.declared.insn.Insn.{Insn}
use Rattle.ebpf_decode.specs.declared.map.MapDef.{MapDef}
use Rattle.ebpf_decode.specs.declared.version.Version.{Version}
use Rattle.ebpf_decode.specs.ImageContents.{IsEncodable}
use Rattle.ebpf_decode.specs.InstructionEncoding.{slot_count, total_slots}
use Rattle.image_shape.proofs.shared.SlotLemmas.{some_slots}
use Rattle.semantics.specs.declared.plan.ShardPlan.{ShardPlan}
use Rattle.semantics.specs.declared.call.Caller.TheVariants.{Worker, Controller, Reclaimer}
use Rattle.semantics.specs.declared.call.Call.{Call}
use Rattle.semantics.specs.declared.call.Call.TheVariants.{Enter, Leave, Lookup, Load, Store, Atomic, Update, Delete, Reclaim}
use Rattle.semantics.specs.declared.call.Reply.{Reply}
use Rattle.semantics.specs.MachineState.{MachineState, initial_state}
use Rattle.semantics.specs.Step.{Step, Continues, CallsMap, Exits, Traps}
use Rattle.semantics.specs.Semantics.{next_step}
use Rattle.semantics.specs.declared.options.Options.{Options}
use Rattle.semantics.specs.PlanLimits.{HasImageSizes}
use Rattle.semantics.proofs.shared.PlanLemmas.{some_shards, each_at}
use Rattle.semantics.specs.ShardPlan.{plan_at, AreOptions}
use Rattle.semantics.specs.RunTrace.{IsReplyTo}
use Rattle.semantics.specs.SequentialShard.{shard_after}
use Rattle.semantics.specs.History.{shard_of_call, Meets}
use Rattle.semantics.specs.Safety.{IsServedAt, after_enter, IsServedCall, IsSafeImage}
use Rattle.semantics.specs.System.{Setting, program_of_setting, SystemState, SystemEvent, BeginsRun, DoesInstruction, CallsShard, LeavesShard, Controls, Reclaims, WorkerState, Idle, Runs, Leaves, worker_state, history_of, with_worker, is_entered, entry_for, input_frame, opening_system, is_local, DoesNext, MayLeave, CanHappen, CanAllFollow, CanAllHappen, after_all, after_local, after_instruction, after_run_call, after_asking, after_shard_call, after_leaving, after_event, system_after}
use Rattle.abstract_state.specs.declared.flow.Flow.{Flow}
use Rattle.abstract_state.specs.declared.flow.Flow.TheVariants.{Ends, Falls, Jumps, Splits}
use Rattle.abstract_state.specs.declared.state.State.{State}
use Rattle.abstract_state.specs.Abstraction.{Held}
use Rattle.abstract_state.specs.Soundness.{IsServed, IsHandedOut, Follows}
use Rattle.verifier.specs.Dataflow.{Accepts}
use Rattle.verifier.specs.Coverage.{CoverRuns}
use Rattle.verifier.proofs.SystemInvariant.{entered_of, held_in_run, IsSoundRun, IsSoundWorker, IsSoundShard, IsSetting, IsSoundSystem}
use Rattle.semantics.proofs.shared.AnswerLemmas.{update_fits, delete_fits}
use Rattle.verifier.proofs.ReplyLemmas.{lookup_answer, word_fits}
use Rattle.verifier.proofs.PlanLemmas.{plan_facts}
use Rattle.verifier.proofs.ShardLemmas.{sound_at_start}
use Rattle.semantics.proofs.shared.SystemSteps.{same_everywhere}
use Rattle.verifier.proofs.EntryLemmas.{local_change}
use Rattle.verifier.proofs.EventLemmas.{call_sound, leave_sound, is_counted}
use Rattle.verifier.proofs.AskingLemmas.{grown, stopped, enter_sound, ask_sound, IsQuiet, quiet_lookup, quiet_call, lookup_holds, still_holds}
use Rattle.verifier.proofs.shared.PlaceLemmas.{Here, parts_fit, here_of}
use Rattle.verifier.proofs.shared.RunLemmas.{call_served, safe_worker}
use Rattle.verifier.proofs.shared.LocalLemmas.{continues_soundly, called_soundly, begins_soundly}

-- ---- a run's call

served_call : (setting : Setting) (held : Held) (state : MachineState) (insn : Insn) (flow : Flow) (call : Call) (go : Reply → MachineState) →
    Follows (program_of_setting setting) held flow state insn (CallsMap call go) → IsServed (program_of_setting setting) held call
served_call setting held state insn Ends call go follows = absurd follows
served_call setting held state insn (Falls known) call go follows = follows.0
served_call setting held state insn (Jumps known) call go follows = absurd follows
served_call setting held state insn (Splits taken fallen) call go follows = absurd follows

asked : (setting : Setting) (states : List (Option State)) (system : SystemState) (worker : ℕ) (state : MachineState) (entered : List ℕ) (call : Call) (go : Reply → MachineState) → IsSetting setting states →
    IsSoundSystem setting states system → worker_state system worker ≡ Runs state entered → next_step (program_of_setting setting) state ≡ CallsMap call go →
    IsServed (program_of_setting setting) (held_in_run setting system worker entered) call
asked setting states system worker state entered call go good sound is steps =
    let run : IsSoundRun setting states system worker state entered = subst (IsSoundWorker setting states system worker) is (sound.workers worker)
    in let here : Here (program_of_setting setting) (held_in_run setting system worker entered) state run.known =
    here_of good.version (program_of_setting setting) states (held_in_run setting system worker entered) state good.accepted good.fits run
    in served_call setting (held_in_run setting system worker entered) state here.insn here.flow call go
    (subst (Follows (program_of_setting setting) (held_in_run setting system worker entered) here.flow state here.insn) steps here.follows)

-- the shard of a call is sound
shard_sound : (setting : Setting) (states : List (Option State)) (system : SystemState) (shard : ℕ) (plan : ShardPlan) → IsSoundSystem setting states system →
    plan_at setting.maps setting.options shard ≡ Some plan → IsSoundShard plan (history_of system plan.number)
shard_sound setting states system shard plan sound planned =
    subst (λ n. IsSoundShard plan (history_of system n)) (sym (plan_facts setting.maps setting.options shard plan planned).number) (sound.each_shard shard plan planned)

-- what the worker may call inside a shard that it has entered
entered_may : (plan : ShardPlan) (system : SystemState) (worker : ℕ) (entered : List ℕ) (call : Call) (into : Bool) → is_entered plan.number entered ≡ into → into ≡ true →
    IsServedCall (Some plan) system worker entered call → Meets plan (history_of system plan.number) (Worker worker) call
entered_may plan system worker entered call true is e served =
    (subst (λ test. MatchBool test (IsServedAt plan (history_of system plan.number) worker call)
    (Meets plan (history_of system plan.number) (Worker worker) (Enter plan.number) × IsServedAt plan (after_enter plan (history_of system plan.number) worker) worker call)) is served).0
entered_may plan system worker entered call false is e served = absurd cc

-- a call that hands out nothing and lets go of nothing
asks_still : (setting : Setting) (states : List (Option State)) (system : SystemState) (worker : ℕ) (state : MachineState) (entered : List ℕ) (call : Call) (go : Reply → MachineState) → IsSetting setting states →
    IsSoundSystem setting states system → worker_state system worker ≡ Runs state entered → next_step (program_of_setting setting) state ≡ CallsMap call go →
    (plan : ShardPlan) → plan_at setting.maps setting.options (shard_of_call call) ≡ Some plan → Meets plan (history_of system plan.number) (Worker worker) call → IsQuiet plan system worker call →
    IsReplyTo (program_of_setting setting) call (entry_for plan system (Worker worker) call).reply →
    IsHandedOut (program_of_setting setting) (held_in_run setting (grown system plan worker call) worker entered) call (entry_for plan system (Worker worker) call).reply →
    IsSoundSystem setting states (after_run_call (Some plan) system worker call entered (λ reply. Runs (go reply) entered))
asks_still setting states system worker state entered call go good sound is steps plan planned met quiet fits nothing =
    ask_sound setting states system worker (shard_of_call call) call state entered plan go good sound is planned met quiet
    (called_soundly setting states system worker state entered call go good sound is steps (entry_for plan system (Worker worker) call).reply fits _
    (still_holds setting states system worker (shard_of_call call) call entered plan good sound planned quiet nothing))

asks : (setting : Setting) (states : List (Option State)) (system : SystemState) (worker : ℕ) (state : MachineState) (entered : List ℕ) (call : Call) (go : Reply → MachineState) → IsSetting setting states →
    IsSoundSystem setting states system → worker_state system worker ≡ Runs state entered → next_step (program_of_setting setting) state ≡ CallsMap call go →
    IsServed (program_of_setting setting) (held_in_run setting system worker entered) call → is_entered (shard_of_call call) entered ≡ true →
    (found : Option ShardPlan) → plan_at setting.maps setting.options (shard_of_call call) ≡ found →
    ((plan : ShardPlan) → found ≡ Some plan → Meets plan (history_of system plan.number) (Worker worker) call) →
    IsSoundSystem setting states (after_run_call found system worker call entered (λ reply. Runs (go reply) entered))
asks setting states system worker state entered call go good sound is steps served into None planned may = sound
asks setting states system worker state entered (Lookup shard key) go good sound is steps served into (Some plan) planned may =
    let facts = plan_facts setting.maps setting.options shard plan planned
    in let fits = lookup_answer (program_of_setting setting) plan (history_of system plan.number) shard key facts.number (some_shards setting.maps setting.options good.options) facts.definition
    (each_at HasImageSizes setting.maps (shard / setting.options.shards) plan.definition good.fits.1 facts.definition).some_entries
    in ask_sound setting states system worker shard (Lookup shard key) state entered plan go good sound is planned (may plan refl) (quiet_lookup plan system worker shard key)
    (called_soundly setting states system worker state entered (Lookup shard key) go good sound is steps (entry_for plan system (Worker worker) (Lookup shard key)).reply fits _
    (lookup_holds setting states system worker shard key entered plan good sound planned into fits))
asks setting states system worker state entered (Load cell offset size) go good sound is steps served into (Some plan) planned may =
    asks_still setting states system worker state entered (Load cell offset size) go good sound is steps plan planned (may plan refl)
    (quiet_call plan system worker (Load cell offset size) refl (λ reply one before. refl))
    (word_fits plan (history_of system plan.number) cell.id offset size (shard_sound setting states system cell.shard plan sound planned)) tt
asks setting states system worker state entered (Store cell offset size value) go good sound is steps served into (Some plan) planned may =
    asks_still setting states system worker state entered (Store cell offset size value) go good sound is steps plan planned (may plan refl)
    (quiet_call plan system worker (Store cell offset size value) refl (λ reply one before. refl)) tt tt
asks setting states system worker state entered (Atomic cell offset size op value expected) go good sound is steps served into (Some plan) planned may =
    asks_still setting states system worker state entered (Atomic cell offset size op value expected) go good sound is steps plan planned (may plan refl)
    (quiet_call plan system worker (Atomic cell offset size op value expected) refl (λ reply one before. refl))
    (word_fits plan (history_of system plan.number) cell.id offset size (shard_sound setting states system cell.shard plan sound planned)) tt
asks setting states system worker state entered (Update shard key value flags) go good sound is steps served into (Some plan) planned may =
    asks_still setting states system worker state entered (Update shard key value flags) go good sound is steps plan planned (may plan refl)
    (quiet_call plan system worker (Update shard key value flags) refl (λ reply one before. refl))
    (update_fits plan (shard_after plan (history_of system plan.number)) key flags) tt
asks setting states system worker state entered (Delete shard key) go good sound is steps served into (Some plan) planned may =
    asks_still setting states system worker state entered (Delete shard key) go good sound is steps plan planned (may plan refl)
    (quiet_call plan system worker (Delete shard key) refl (λ reply one before. refl))
    (delete_fits plan (shard_after plan (history_of system plan.number)) key) tt
asks setting states system worker state entered (Enter shard) go good sound is steps served into (Some plan) planned may = absurd served
asks setting states system worker state entered (Leave shard) go good sound is steps served into (Some plan) planned may = absurd served
asks setting states system worker state entered (Reclaim shard) go good sound is steps served into (Some plan) planned may = absurd served

by_entered : (setting : Setting) (states : List (Option State)) (system : SystemState) (worker : ℕ) (state : MachineState) (entered : List ℕ) (call : Call) (go : Reply → MachineState) → IsSetting setting states →
    IsSoundSystem setting states system → worker_state system worker ≡ Runs state entered → next_step (program_of_setting setting) state ≡ CallsMap call go →
    (into : Bool) → is_entered (shard_of_call call) entered ≡ into →
    IsSoundSystem setting states (if into
    then after_run_call (plan_at setting.maps setting.options (shard_of_call call)) system worker call entered (λ reply. Runs (go reply) entered)
    else after_run_call (plan_at setting.maps setting.options (shard_of_call call)) system worker (Enter (shard_of_call call)) entered (λ reply. Runs state (shard_of_call call ∷ entered)))
by_entered setting states system worker state entered call go good sound is steps true into =
    let served = asked setting states system worker state entered call go good sound is steps
    in let may_call = call_served setting states system worker state entered good sound is call served
    in asks setting states system worker state entered call go good sound is steps served into (plan_at setting.maps setting.options (shard_of_call call)) refl
    (λ plan planned. entered_may plan system worker entered call (is_entered plan.number entered) refl
    (ap (λ n. is_entered n entered) (plan_facts setting.maps setting.options (shard_of_call call) plan planned).number ∙ into)
    (subst (λ one. IsServedCall one system worker entered call) planned may_call))
by_entered setting states system worker state entered call go good sound is steps false outside =
    enter_sound setting states system worker (shard_of_call call) state entered (plan_at setting.maps setting.options (shard_of_call call)) good sound is outside refl

-- ---- what a worker does

does : (setting : Setting) (states : List (Option State)) (system : SystemState) (worker : ℕ) (state : MachineState) (entered : List ℕ) (step : Step) → IsSetting setting states →
    IsSoundSystem setting states system → worker_state system worker ≡ Runs state entered → next_step (program_of_setting setting) state ≡ step → IsTrue (is_local step) →
    IsSoundSystem setting states (with_worker system worker (after_local step entered (Runs state entered)))
does setting states system worker state entered (Continues next) good sound is steps local =
    local_change setting states system worker (Runs next entered) good sound
    (is_counted setting states system worker sound (λ idle. let e : Idle ≡ Runs state entered = sym idle ∙ is in absurd cc))
    (sym (ap entered_of is)) (continues_soundly setting states system worker state entered next good sound is steps)
does setting states system worker state entered (Exits verdict last) good sound is steps local = stopped setting states system worker state entered good sound is
does setting states system worker state entered (CallsMap call go) good sound is steps local = absurd cc
does setting states system worker state entered (Traps cause) good sound is steps local = absurd cc

calls : (setting : Setting) (states : List (Option State)) (system : SystemState) (worker : ℕ) (state : MachineState) (entered : List ℕ) (step : Step) → IsSetting setting states →
    IsSoundSystem setting states system → worker_state system worker ≡ Runs state entered → next_step (program_of_setting setting) state ≡ step →
    IsSoundSystem setting states (after_asking setting system worker state entered step)
calls setting states system worker state entered (CallsMap call go) good sound is steps =
    by_entered setting states system worker state entered call go good sound is steps (is_entered (shard_of_call call) entered) refl
calls setting states system worker state entered (Continues next) good sound is steps = sound
calls setting states system worker state entered (Exits verdict last) good sound is steps = sound
calls setting states system worker state entered (Traps cause) good sound is steps = sound

instruction_sound : (setting : Setting) (states : List (Option State)) (system : SystemState) (worker : ℕ) (now : WorkerState) → IsSetting setting states →
    IsSoundSystem setting states system → worker_state system worker ≡ now → DoesNext setting now is_local → IsSoundSystem setting states (with_worker system worker (after_instruction setting now))
instruction_sound setting states system worker Idle good sound is can = absurd can
instruction_sound setting states system worker (Leaves entered) good sound is can = absurd can
instruction_sound setting states system worker (Runs state entered) good sound is can =
    does setting states system worker state entered (next_step (program_of_setting setting) state) good sound is refl can

shard_call_sound : (setting : Setting) (states : List (Option State)) (system : SystemState) (worker : ℕ) (now : WorkerState) → IsSetting setting states →
    IsSoundSystem setting states system → worker_state system worker ≡ now → IsSoundSystem setting states (after_shard_call setting system worker now)
shard_call_sound setting states system worker Idle good sound is = sound
shard_call_sound setting states system worker (Leaves entered) good sound is = sound
shard_call_sound setting states system worker (Runs state entered) good sound is =
    calls setting states system worker state entered (next_step (program_of_setting setting) state) good sound is refl

leaving_sound : (setting : Setting) (states : List (Option State)) (system : SystemState) (worker shard : ℕ) (now : WorkerState) → IsSetting setting states →
    IsSoundSystem setting states system → worker_state system worker ≡ now → MayLeave now shard → IsSoundSystem setting states (after_leaving setting system worker shard now)
leaving_sound setting states system worker shard Idle good sound is may = sound
leaving_sound setting states system worker shard (Runs state entered) good sound is may = sound
leaving_sound setting states system worker shard (Leaves entered) good sound is may =
    leave_sound setting states system worker shard entered (plan_at setting.maps setting.options shard) good sound is may refl

-- ---- events

event_sound : (setting : Setting) (states : List (Option State)) (system : SystemState) (event : SystemEvent) → IsSetting setting states → CanHappen setting system event →
    IsSoundSystem setting states system → IsSoundSystem setting states (after_event setting system event)
event_sound setting states system (BeginsRun worker frame now told) good can sound =
    local_change setting states system worker (Runs (initial_state (input_frame frame) told now) []) good sound can.0 (sym (ap entered_of can.1))
    (begins_soundly setting states system worker frame now told good can.2 can.4 can.3)
event_sound setting states system (DoesInstruction worker) good can sound =
    instruction_sound setting states system worker (worker_state system worker) good sound refl can
event_sound setting states system (CallsShard worker) good can sound = shard_call_sound setting states system worker (worker_state system worker) good sound refl
event_sound setting states system (LeavesShard worker shard) good can sound = leaving_sound setting states system worker shard (worker_state system worker) good sound refl can
event_sound setting states system (Controls call) good can sound =
    call_sound setting states system (shard_of_call call) (plan_at setting.maps setting.options (shard_of_call call)) Controller call good sound refl can.1 (λ worker. refl)
event_sound setting states system (Reclaims shard) good can sound =
    call_sound setting states system shard (plan_at setting.maps setting.options shard) Reclaimer (Reclaim shard) good sound refl can (λ worker. refl)

-- ---- where nothing has happened

opening_is_sound : (setting : Setting) (states : List (Option State)) → IsSetting setting states → IsSoundSystem setting states (opening_system setting)
opening_is_sound setting states good =
    let idle : (worker : ℕ) → worker_state (opening_system setting) worker ≡ Idle = (λ worker. same_everywhere 8 worker Idle)
    in let empty : (shard : ℕ) → history_of (opening_system setting) shard ≡ [] = (λ shard. same_everywhere (length setting.maps * setting.options.shards) shard [])
    in record {
      eight = length-replicate 8 Idle;
      shards = length-replicate (length setting.maps * setting.options.shards) [];
      inside = λ worker shard. rw (empty shard, idle worker) refl;
      entered = λ worker shard is_in. let none : false ≡ true = sym (ap (λ st. is_entered shard (entered_of st)) (idle worker)) ∙ is_in in absurd cc;
      numbers = λ worker h. idle worker;
      workers = λ worker. subst (IsSoundWorker setting states (opening_system setting) worker) (sym (idle worker)) tt;
      each_shard = λ number plan planned. subst (IsSoundShard plan) (sym (empty number)) (sound_at_start plan);
    }

sound_on : (setting : Setting) (states : List (Option State)) (before : SystemState) (events : List SystemEvent) → IsSetting setting states →
    CanAllFollow setting before events → IsSoundSystem setting states before → IsSoundSystem setting states (after_all setting before events)
sound_on setting states before [] good can sound = sound
sound_on setting states before (event ∷ later) good can sound =
    sound_on setting states (after_event setting before event) later good can.1 (event_sound setting states before event good can.0 sound)

system_sound : (setting : Setting) (states : List (Option State)) (events : List SystemEvent) → IsSetting setting states → CanAllHappen setting events →
    IsSoundSystem setting states (system_after setting events)
system_sound setting states events good can = sound_on setting states (opening_system setting) events good can (opening_is_sound setting states good)

-- ---- an accepted image

pub some_slot : (code : List Insn) → 1 ≤ length code → 0 < total_slots code
some_slot [] h = absurd (omega arith)
some_slot (insn ∷ code) h = omega (arith, sum_by-cons slot_count insn code, some_slots insn)

setting_of : (version : Version) (maps : List MapDef) (code : List Insn) (states : List (Option State)) (options : Options) → IsEncodable version maps code → Accepts version maps code states → AreOptions maps options →
    IsSetting (record { maps = maps; code = code; options = options }) states
setting_of version maps code states options encodable accepted fit = record {
  options = fit;
  version = version;
  accepted = accepted;
  some_code = some_slot code encodable.some_code;
  fits = parts_fit version maps code encodable;
}

pub safe_image : (version : Version) (maps : List MapDef) (code : List Insn) (states : List (Option State)) → IsEncodable version maps code → Accepts version maps code states → IsSafeImage maps code
safe_image version maps code states encodable accepted options fit events can worker =
    let good : IsSetting (record { maps = maps; code = code; options = options }) states = setting_of version maps code states options encodable accepted fit
    in safe_worker (record { maps = maps; code = code; options = options }) states (system_after (record { maps = maps; code = code; options = options }) events) worker good
    (system_sound (record { maps = maps; code = code; options = options }) states events good can)

-- its entry states cover the runs that are reached
pub cover_runs : (version : Version) (maps : List MapDef) (code : List Insn) (states : List (Option State)) → IsEncodable version maps code → Accepts version maps code states → CoverRuns maps code states
cover_runs version maps code states encodable accepted options fit events can worker machine entered runs =
    let good : IsSetting (record { maps = maps; code = code; options = options }) states = setting_of version maps code states options encodable accepted fit
    in let system : SystemState = system_after (record { maps = maps; code = code; options = options }) events
    in let sound : IsSoundSystem (record { maps = maps; code = code; options = options }) states (system_after (record { maps = maps; code = code; options = options }) events) =
    system_sound (record { maps = maps; code = code; options = options }) states events good can
    in let run : IsSoundRun (record { maps = maps; code = code; options = options }) states (system_after (record { maps = maps; code = code; options = options }) events) worker machine entered =
    subst (IsSoundWorker (record { maps = maps; code = code; options = options }) states (system_after (record { maps = maps; code = code; options = options }) events) worker) runs (sound.workers worker)
    in record { known = run.known; at = run.at; sound = run.sound }
