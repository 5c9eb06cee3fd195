-- A trace that waits for a reply which a full journal refused, as the events of its worker.
use Rattle.std.proofs.Common.{◌≡◌, ◌≢◌, inl, inr, ⊎_elim, ℕ, zero, suc, ◌<◌, ◌^◌, ◌==◌, ◌||◌, Bool, true, false, List, [], ◌∷◌, ◌++◌, reverse, refl, sym, ◌∙◌, ap, subst, append-nil}
use Rattle.std.specs.Prelude.{if◌then◌else◌}
use Rattle.std.proofs.lemmas.Bool.{cases_eq, ne_eqb}
use Rattle.semantics.specs.declared.plan.ShardPlan.{ShardPlan}
use Rattle.semantics.specs.declared.call.Caller.TheVariants.{Worker}
use Rattle.semantics.specs.declared.call.Call.{Call}
use Rattle.semantics.specs.declared.call.Call.TheVariants.{Enter}
use Rattle.semantics.specs.declared.call.Reply.{Reply}
use Rattle.semantics.specs.declared.call.Entry.{Entry}
use Rattle.semantics.specs.MachineState.{MachineState, initial_state}
use Rattle.semantics.specs.Step.{Step, Continues, CallsMap, Exits, Traps}
use Rattle.semantics.specs.Semantics.{next_step}
use Rattle.semantics.specs.RunTrace.{RunTrace, HasExited, HasTrapped, Waits, GoesOn, trace_of, trace_from}
use Rattle.semantics.specs.History.{shard_of_call}
use Rattle.semantics.specs.System.{Setting, is_entered, IsInputFrame, input_frame}
use Rattle.semantics.specs.System as model
use Rattle.map_port.specs.Exchanges.{Exchange, calls_in, replies_in}
use Rattle.shards.specs.declared.deeds.Deed.{Deed}
use Rattle.shards.specs.declared.deeds.Deed.TheVariants.{Wrote, MetFull}
use Rattle.shards.specs.Passes.{PassView, own_at}
use Rattle.shard_port.specs.Asking.{enter_by, leave_by}
use Rattle.shard_port.specs.Sessions.{exchange_entries, session}
use Rattle.shard_port.specs.PassSessions.{session_at, AreCallsWithin, IsVisitedAt, StoppedAtCall, StoppedAtEnter, HasRefusedSessions}
use Rattle.shard_port.specs.PassDeeds.{asked_deeds, shards_entered, rising, leaving_deeds, deeds_to_call}
use Rattle.runs.specs.FrameRuns.{AreFormed}
use Rattle.guarantees.specs.Steps.{Writes, TurnedAway, Move, asks, IsStep, RunBegins, ShardIsEntered, CallIsRefused, EnterIsRefused, InRun, running, AreStepsOfRun, beginning, leavings, entries_on, deeds_in}
use Rattle.guarantees.specs.SystemRuns.{HaveGrown, IsStoppedInSystem}
use Rattle.guarantees.specs.SystemLaws.{StoppedRunsAreOfTheSystem}
use Rattle.guarantees.proofs.Leaving.{itself, AreEntered, all_leave, left_on, deeds_left}
use Rattle.guarantees.proofs.EventLemmas.{is_some_entry, append_on, append_deeds, since, nothing_since, or_false, Reaches, reach_on, reach_here, whole_session}

-- ---- to the state in which the run waits

-- the state is this one, and its next instruction makes the call
pub record WaitsFor (setting : Setting) (call : Call) (waiting ending : MachineState) : Type 0 where
  pub is : ending ≡ waiting
  pub next : Reply → MachineState
  pub asks_it : next_step (model.program_of_setting setting) waiting ≡ CallsMap call next

abbrev IsLed : Setting → ℕ → ℕ → ℕ → Call → MachineState → Type 0
IsLed setting count worker steps call waiting =
    (state : MachineState) (entered : List ℕ) (exchanges : List Exchange) → AreEntered count entered → AreCallsWithin count exchanges →
    AreFormed (model.program_of_setting setting) exchanges →
    trace_of steps (model.program_of_setting setting) state (replies_in exchanges)
    ≡ record { calls = calls_in exchanges ++ call ∷ []; stand = Waits waiting } →
    Reaches (WaitsFor setting call waiting) setting count worker state entered exchanges

by_step : (setting : Setting) (count worker steps : ℕ) (call : Call) (waiting : MachineState) → IsLed setting count worker steps call waiting →
    (state : MachineState) (entered : List ℕ) (exchanges : List Exchange) → AreEntered count entered → AreCallsWithin count exchanges →
    AreFormed (model.program_of_setting setting) exchanges → (step : Step) → next_step (model.program_of_setting setting) state ≡ step →
    trace_from (trace_of steps (model.program_of_setting setting)) state step (replies_in exchanges)
    ≡ record { calls = calls_in exchanges ++ call ∷ []; stand = Waits waiting } →
    Reaches (WaitsFor setting call waiting) setting count worker state entered exchanges
by_step setting count worker steps call waiting later state entered exchanges distinct within formed (Continues next) is trace =
    reach_on (WaitsFor setting call waiting) setting count worker state next entered exchanges is
    (later next entered exchanges distinct within formed trace)
by_step setting count worker steps call waiting later state entered [] distinct within formed (CallsMap made next) is trace =
    let calls_are : made ∷ [] ≡ call ∷ [] = ap (λ (one : RunTrace). one.calls) trace in
    let stands : Waits state ≡ Waits waiting = ap (λ (one : RunTrace). one.stand) trace in
    let same : made ≡ call = cc in
    let here : state ≡ waiting = cc in
    record {
      run = [];
      ending = state;
      after = entered;
      runs = refl;
      ended = record {
        is = here;
        next = next;
        asks_it = ap (λ (one : MachineState). next_step (model.program_of_setting setting) one) (sym here) ∙ is
            ∙ ap (λ (one : Call). CallsMap one next) same;
      };
      distinct = distinct;
      writes = λ number. nothing_since worker number (is_entered number entered);
      stays = λ number. sym (or_false (is_entered number entered));
      deeds = refl;
      enters = refl;
    }
by_step setting count worker steps call waiting later state entered (exchange ∷ more) distinct within formed (CallsMap made next) is trace =
    let rest : RunTrace = trace_of steps (model.program_of_setting setting) (next exchange.reply) (replies_in more) in
    let calls_made : made ∷ rest.calls ≡ exchange.call ∷ (calls_in more ++ call ∷ []) = ap (λ (one : RunTrace). one.calls) trace in
    let stands : rest.stand ≡ Waits waiting = ap (λ (one : RunTrace). one.stand) trace in
    let same : made ≡ exchange.call = cc in
    let calls_are : rest.calls ≡ calls_in more ++ call ∷ [] = cc in
    let whole : rest ≡ record { calls = calls_in more ++ call ∷ []; stand = Waits waiting } = rw (sym calls_are, sym stands) refl in
    reach_here (WaitsFor setting call waiting) setting count worker state next entered exchange more
    (is_entered (shard_of_call exchange.call) entered) (is ∙ ap (λ (one : Call). CallsMap one next) same) within.0 formed.0 refl distinct
    (λ now fine. later (next exchange.reply) now more fine within.1 formed.1 whole)
by_step setting count worker steps call waiting later state entered exchanges distinct within formed (Exits verdict last) is trace =
    absurd (ended (ap (λ (one : RunTrace). one.stand) trace))
  where
    ended : HasExited verdict last ≡ Waits waiting → ⊥
    ended stands = cc
by_step setting count worker steps call waiting later state entered exchanges distinct within formed (Traps cause) is trace =
    absurd (trapped (ap (λ (one : RunTrace). one.stand) trace))
  where
    trapped : HasTrapped cause ≡ Waits waiting → ⊥
    trapped stands = cc

pub led : (setting : Setting) (count worker steps : ℕ) (call : Call) (waiting : MachineState) → IsLed setting count worker steps call waiting
led setting count worker zero call waiting state entered exchanges distinct within formed trace =
    absurd (let stands : GoesOn ≡ Waits waiting = ap (λ (one : RunTrace). one.stand) trace in cc)
led setting count worker (suc steps) call waiting state entered exchanges distinct within formed trace =
    by_step setting count worker steps call waiting (led setting count worker steps call waiting) state entered exchanges distinct within formed
    (next_step (model.program_of_setting setting) state) refl trace

-- ---- the refusal, and leaving

none_there : (entries : List Entry) → is_some_entry entries ≡ false → entries ≡ []
none_there [] none = refl
none_there (first ∷ later) none = absurd cc

-- what the pass has more, where every session is whole; the step that meets a full journal writes nothing
all_written : (setting : Setting) (worker : ℕ) (state : MachineState) (count : ℕ) (before after : PassView) (exchanges : List Exchange)
    (said : MachineState → Type 0) (reaches : Reaches said setting count worker state [] exchanges) →
    ((number : ℕ) → number < count → own_at after number ≡ reverse (session_at worker number exchanges) ++ own_at before number) →
    HaveGrown count (reaches.run ++ leavings worker (rising count reaches.after)) before after
all_written setting worker state count before after exchanges said reaches written = λ number within.
    written number within
    ∙ ap (λ (list : List Entry). reverse list ++ own_at before number) (sym (whole_session said setting count worker state exchanges reaches number))

-- ---- what the run did

-- steps that did this, then one that meets a full journal, and then the worker leaves
stop_deeds : (worker : ℕ) (run : List Move) (done : List Deed) (refused : Call) (left : List ℕ) → deeds_in worker run ≡ done →
    deeds_in worker (run ++ asks worker (TurnedAway refused) ∷ leavings worker left) ≡ done ++ MetFull (Worker worker) refused ∷ leaving_deeds worker left
stop_deeds worker run done refused left is =
    append_deeds worker run (asks worker (TurnedAway refused) ∷ leavings worker left)
    ∙ ap (λ (list : List Deed). list ++ MetFull (Worker worker) refused ∷ deeds_in worker (leavings worker left)) is
    ∙ ap (λ (list : List Deed). done ++ MetFull (Worker worker) refused ∷ list) (deeds_left worker left)

-- a call that was refused, by the shards that the run had entered, and by whether the call's is one of them
abbrev called_from : ℕ → ℕ → List Exchange → Call → List ℕ → Bool → List Deed
called_from worker count exchanges call entered inside =
    asked_deeds worker [] exchanges ++ (if inside then [] else Wrote (enter_by worker (shard_of_call call)) ∷ []) ++
    MetFull (Worker worker) call ∷ leaving_deeds worker (rising count (if inside then entered else shard_of_call call ∷ entered))

called_by : (worker count : ℕ) (exchanges : List Exchange) (call : Call) (entered : List ℕ) (inside : Bool) → entered ≡ shards_entered [] exchanges →
    is_entered (shard_of_call call) entered ≡ inside →
    called_from worker count exchanges call entered inside ≡ deeds_to_call worker count exchanges call
called_by worker count exchanges call entered inside enters is =
    ap (called_from worker count exchanges call entered) (sym is)
    ∙ ap (λ (list : List ℕ). called_from worker count exchanges call list (is_entered (shard_of_call call) list)) enters

-- ---- each of the ways to stop

pub led_there : (setting : Setting) (count worker told now : ℕ) (frame : List ℕ) (call : Call) (waiting : MachineState) (exchanges : List Exchange)
    (reaches : Reaches (WaitsFor setting call waiting) setting count worker (initial_state (input_frame frame) told now) [] exchanges) →
    AreStepsOfRun setting count worker (beginning frame told now) reaches.run (record { state = waiting; entered = reaches.after })
led_there setting count worker told now frame call waiting exchanges reaches =
    subst (λ (one : MachineState). AreStepsOfRun setting count worker (beginning frame told now) reaches.run (record { state = one; entered = reaches.after }))
    reaches.ended.is reaches.runs

-- steps, with the last one apart
pub steps_end : (setting : Setting) (count worker : ℕ) (before between after : InRun) (moves : List Move) (last : Move) →
    AreStepsOfRun setting count worker before moves between → IsStep setting count worker (running between) last (running after) →
    AreStepsOfRun setting count worker before (moves ++ last ∷ []) after
steps_end setting count worker before between after [] last are ends =
    (after, subst (λ (one : InRun). IsStep setting count worker (running one) last (running after)) (sym are) ends, refl)
steps_end setting count worker before between after (move ∷ moves) last are ends =
    (are.0, are.1, steps_end setting count worker are.0 between after moves last are.2 ends)

module _ (setting : Setting) (worker told now : ℕ) (frame : List ℕ) (count : ℕ) (exchanges : List Exchange) (call : Call) (waiting : MachineState)
    (refused_within : shard_of_call call < count)
    (reaches : Reaches (WaitsFor setting call waiting) setting count worker (initial_state (input_frame frame) told now) [] exchanges) where
  abbrev start_at : MachineState
  start_at = initial_state (input_frame frame) told now

  -- the run has called a shard exactly where it has entered it
  pub called_none : (number : ℕ) → is_entered number reaches.after ≡ false → exchange_entries worker number exchanges ≡ []
  called_none number out = none_there (exchange_entries worker number exchanges) (sym (reaches.stays number) ∙ out)

  pub called_some : (number : ℕ) → is_entered number reaches.after ≡ true → exchange_entries worker number exchanges ≡ [] → ⊥
  called_some number inside none =
      let some : is_entered number reaches.after ≡ is_some_entry (exchange_entries worker number exchanges) = reaches.stays number in
      let no : is_some_entry (exchange_entries worker number exchanges) ≡ false = ap is_some_entry none in cc

  -- entered for the refused call alone
  abbrev pub visits : List Move
  visits = reaches.run ++ asks worker (Writes (enter_by worker (shard_of_call call))) ∷ []

  -- what the moves write then
  visit_writes : (number : ℕ) (here : Bool) → (shard_of_call call == number) ≡ here → is_entered (shard_of_call call) reaches.after ≡ false →
      entries_on number (visits ++ leavings worker (rising count (shard_of_call call ∷ reaches.after)))
      ≡ (entries_on number reaches.run ++ (if here then enter_by worker (shard_of_call call) ∷ [] else []))
      ++ (if (here || is_entered number reaches.after) then leave_by worker number ∷ [] else [])
  visit_writes number here is outside =
      append_on number visits (leavings worker (rising count (shard_of_call call ∷ reaches.after)))
      ∙ ap (λ (list : List Entry). list ++ entries_on number (leavings worker (rising count (shard_of_call call ∷ reaches.after))))
      (append_on number reaches.run (asks worker (Writes (enter_by worker (shard_of_call call))) ∷ []))
      ∙ ap (λ (list : List Entry). (entries_on number reaches.run
      ++ (if shard_of_call call == number then enter_by worker (shard_of_call call) ∷ [] else [])) ++ list)
      (left_on count worker number (shard_of_call call ∷ reaches.after) (outside, refused_within, reaches.distinct))
      ∙ ap (λ (test : Bool). (entries_on number reaches.run ++ (if test then enter_by worker (shard_of_call call) ∷ [] else []))
      ++ (if (test || is_entered number reaches.after) then leave_by worker number ∷ [] else [])) is

  pub visit_elsewhere : (number : ℕ) → number ≢ shard_of_call call → is_entered (shard_of_call call) reaches.after ≡ false →
      entries_on number (visits ++ leavings worker (rising count (shard_of_call call ∷ reaches.after))) ≡ session_at worker number exchanges
  visit_elsewhere number apart outside =
      visit_writes number false (ne_eqb (shard_of_call call) number (λ same. apart (sym same))) outside
      ∙ ap (λ (list : List Entry). list ++ (if is_entered number reaches.after then leave_by worker number ∷ [] else []))
      (append-nil (entries_on number reaches.run))
      ∙ ap (λ (list : List Entry). entries_on number reaches.run ++ list) (sym (left_on count worker number reaches.after reaches.distinct))
      ∙ sym (append_on number reaches.run (leavings worker (rising count reaches.after)))
      ∙ whole_session (WaitsFor setting call waiting) setting count worker start_at exchanges reaches number

  pub visit_there : is_entered (shard_of_call call) reaches.after ≡ false →
      entries_on (shard_of_call call) (visits ++ leavings worker (rising count (shard_of_call call ∷ reaches.after)))
      ≡ enter_by worker (shard_of_call call) ∷ leave_by worker (shard_of_call call) ∷ []
  visit_there outside =
      let before : entries_on (shard_of_call call) reaches.run ≡ [] =
      reaches.writes (shard_of_call call)
      ∙ ap (λ (list : List Entry). since false worker (shard_of_call call) list) (called_none (shard_of_call call) outside) in
      visit_writes (shard_of_call call) true (itself (shard_of_call call)) outside
      ∙ ap (λ (list : List Entry). (list ++ enter_by worker (shard_of_call call) ∷ []) ++ leave_by worker (shard_of_call call) ∷ []) before

module _ (setting : Setting) (worker told now : ℕ) (frame : List ℕ) (plan : ℕ → ShardPlan) (count : ℕ) (before after : PassView)
    (exchanges : List Exchange) (call : Call) (waiting : MachineState) (few : worker < setting.options.workers) (input : IsInputFrame frame)
    (early : now < 2 ^ 64) (low : told < 8) (sessions : HasRefusedSessions plan count worker exchanges call before after)
    (reaches : Reaches (WaitsFor setting call waiting) setting count worker (initial_state (input_frame frame) told now) [] exchanges) where
  abbrev start : MachineState
  start = initial_state (input_frame frame) told now

  abbrev IsStop : Type 0
  IsStop = IsStoppedInSystem setting worker told now frame plan count before after call waiting

  abbrev passing : List Move
  passing = visits setting worker told now frame count exchanges call waiting sessions.refused_within reaches

  abbrev AtCall : Type 0
  AtCall = StoppedAtCall (plan (shard_of_call call)) sessions.full_at count worker exchanges call before after

  abbrev AtEnter : Type 0
  AtEnter = StoppedAtEnter (plan (shard_of_call call)) sessions.full_at count worker exchanges call before after

  -- the call's shard has a session already: the call was refused inside
  inside_stop : is_entered (shard_of_call call) reaches.after ≡ true → AtCall → IsStop
  inside_stop inside at = record {
    begins_so = RunBegins frame now told few input early low;
    run = reaches.run;
    entered = reaches.after;
    goes_on = led_there setting count worker told now frame call waiting exchanges reaches;
    next = reaches.ended.next;
    waits = reaches.ended.asks_it;
    refused = call;
    refused_is = inl refl;
    refuses = CallIsRefused waiting reaches.after call reaches.ended.next reaches.ended.asks_it sessions.refused_within inside;
    left = rising count reaches.after;
    leaves = all_leave setting count worker reaches.after reaches.distinct;
    full_at = sessions.full_at;
    full_seen = sessions.full_seen;
    full = at.full;
    written = all_written setting worker start count before after exchanges (WaitsFor setting call waiting) reaches
        (λ number within. ⊎_elim (λ same. same)
        (λ (visited : IsVisitedAt worker exchanges call number (own_at before number) (own_at after number)).
        absurd (called_some setting worker told now frame count exchanges call waiting sessions.refused_within reaches number
        (subst (λ (one : ℕ). is_entered one reaches.after ≡ true) visited.own_shard inside) visited.first_call))
        (sessions.written number within));
    did = at.did ∙ ap (λ (list : List Deed). reverse list ++ before.deeds)
        (sym (stop_deeds worker reaches.run (asked_deeds worker [] exchanges ++ []) call (rising count reaches.after)
        (reaches.deeds ∙ sym (append-nil (asked_deeds worker [] exchanges)))
        ∙ called_by worker count exchanges call reaches.after true reaches.enters inside));
  }

  -- elsewhere every session is whole
  elsewhere_own : (number : ℕ) → number < count → number ≢ shard_of_call call →
      own_at after number ≡ reverse (session_at worker number exchanges) ++ own_at before number
  elsewhere_own number within apart = ⊎_elim (λ same. same)
      (λ (it : IsVisitedAt worker exchanges call number (own_at before number) (own_at after number)). absurd (apart (sym it.own_shard)))
      (sessions.written number within)

  -- the Enter was refused
  outside_stop : is_entered (shard_of_call call) reaches.after ≡ false → AtEnter → IsStop
  outside_stop outside at = record {
    begins_so = RunBegins frame now told few input early low;
    run = reaches.run;
    entered = reaches.after;
    goes_on = led_there setting count worker told now frame call waiting exchanges reaches;
    next = reaches.ended.next;
    waits = reaches.ended.asks_it;
    refused = Enter (shard_of_call call);
    refused_is = inr refl;
    refuses = EnterIsRefused waiting reaches.after call reaches.ended.next reaches.ended.asks_it sessions.refused_within outside;
    left = rising count reaches.after;
    leaves = all_leave setting count worker reaches.after reaches.distinct;
    full_at = sessions.full_at;
    full_seen = sessions.full_seen;
    full = at.kept_out.full;
    written = all_written setting worker start count before after exchanges (WaitsFor setting call waiting) reaches
        (λ number within. ⊎_elim (λ (here : number ≡ shard_of_call call). nothing_there number here)
        (λ (apart : number ≢ shard_of_call call). elsewhere_own number within apart) (cases_eq number (shard_of_call call)));
    did = at.did ∙ ap (λ (list : List Deed). reverse list ++ before.deeds)
        (sym (stop_deeds worker reaches.run (asked_deeds worker [] exchanges) (Enter (shard_of_call call)) (rising count reaches.after) reaches.deeds
        ∙ ap (λ (list : List ℕ). asked_deeds worker [] exchanges ++ MetFull (Worker worker) (Enter (shard_of_call call)) ∷
        leaving_deeds worker (rising count list)) reaches.enters));
  }
    where
      nothing_there : (number : ℕ) → number ≡ shard_of_call call →
          own_at after number ≡ reverse (session_at worker number exchanges) ++ own_at before number
      nothing_there number here =
          subst (λ (one : ℕ). own_at after one ≡ reverse (session_at worker one exchanges) ++ own_at before one) (sym here)
          (at.kept_out.nothing
          ∙ ap (λ (list : List Entry). reverse (session worker (shard_of_call call) list) ++ own_at before (shard_of_call call)) (sym at.kept_out.first_call))

  visit_own : is_entered (shard_of_call call) reaches.after ≡ false → AtCall → (number : ℕ) → number < count →
      own_at after number
      ≡ reverse (entries_on number (passing ++ leavings worker (rising count (shard_of_call call ∷ reaches.after)))) ++ own_at before number
  visit_own outside at number within = ⊎_elim
      (λ (here : number ≡ shard_of_call call).
      subst (λ (one : ℕ). own_at after one
      ≡ reverse (entries_on one (passing ++ leavings worker (rising count (shard_of_call call ∷ reaches.after)))) ++ own_at before one) (sym here)
      (at.visited (called_none setting worker told now frame count exchanges call waiting sessions.refused_within reaches (shard_of_call call) outside)
      ∙ ap (λ (list : List Entry). reverse list ++ own_at before (shard_of_call call))
      (sym (visit_there setting worker told now frame count exchanges call waiting sessions.refused_within reaches outside))))
      (λ (apart : number ≢ shard_of_call call).
      elsewhere_own number within apart
      ∙ ap (λ (list : List Entry). reverse list ++ own_at before number)
      (sym (visit_elsewhere setting worker told now frame count exchanges call waiting sessions.refused_within reaches number apart outside)))
      (cases_eq number (shard_of_call call))

  visit_deeds : is_entered (shard_of_call call) reaches.after ≡ false →
      deeds_in worker (passing ++ asks worker (TurnedAway call) ∷ leavings worker (rising count (shard_of_call call ∷ reaches.after)))
      ≡ deeds_to_call worker count exchanges call
  visit_deeds outside =
      let enter : List Deed = Wrote (enter_by worker (shard_of_call call)) ∷ [] in
      stop_deeds worker passing (asked_deeds worker [] exchanges ++ enter) call (rising count (shard_of_call call ∷ reaches.after))
      (append_deeds worker reaches.run (asks worker (Writes (enter_by worker (shard_of_call call))) ∷ [])
      ∙ ap (λ (list : List Deed). list ++ Wrote (enter_by worker (shard_of_call call)) ∷ []) reaches.deeds)
      ∙ called_by worker count exchanges call reaches.after false reaches.enters outside

  visit_stop : is_entered (shard_of_call call) reaches.after ≡ false → AtCall → IsStop
  visit_stop outside at = record {
    begins_so = RunBegins frame now told few input early low;
    run = passing;
    entered = shard_of_call call ∷ reaches.after;
    goes_on = steps_end setting count worker (beginning frame told now) (record { state = waiting; entered = reaches.after })
        (record { state = waiting; entered = shard_of_call call ∷ reaches.after }) reaches.run
        (asks worker (Writes (enter_by worker (shard_of_call call)))) (led_there setting count worker told now frame call waiting exchanges reaches)
        (ShardIsEntered waiting reaches.after call reaches.ended.next reaches.ended.asks_it sessions.refused_within outside);
    next = reaches.ended.next;
    waits = reaches.ended.asks_it;
    refused = call;
    refused_is = inl refl;
    refuses = CallIsRefused waiting (shard_of_call call ∷ reaches.after) call reaches.ended.next reaches.ended.asks_it sessions.refused_within
        (ap (λ (test : Bool). test || is_entered (shard_of_call call) reaches.after) (itself (shard_of_call call)));
    left = rising count (shard_of_call call ∷ reaches.after);
    leaves = all_leave setting count worker (shard_of_call call ∷ reaches.after) (outside, sessions.refused_within, reaches.distinct);
    full_at = sessions.full_at;
    full_seen = sessions.full_seen;
    full = at.full;
    written = λ number within. visit_own outside at number within;
    did = at.did ∙ ap (λ (list : List Deed). reverse list ++ before.deeds) (sym (visit_deeds outside));
  }

  -- ---- all three

  pub by_inside : (inside : Bool) → is_entered (shard_of_call call) reaches.after ≡ inside → IsStop
  by_inside true is = ⊎_elim (λ (at : AtCall). inside_stop is at)
      (λ (at : AtEnter).
      absurd (called_some setting worker told now frame count exchanges call waiting sessions.refused_within reaches (shard_of_call call) is at.kept_out.first_call)) sessions.full
  by_inside false is = ⊎_elim (λ (at : AtCall). visit_stop is at) (λ (at : AtEnter). outside_stop is at) sessions.full

pub stopped_is_of_system : StoppedRunsAreOfTheSystem
stopped_is_of_system setting worker told now frame plan count steps before after exchanges call waiting few input early low trace formed sessions =
    let reaches : Reaches (WaitsFor setting call waiting) setting count worker (initial_state (input_frame frame) told now) [] exchanges =
    led setting count worker steps call waiting (initial_state (input_frame frame) told now) [] exchanges tt sessions.within formed trace in
    by_inside setting worker told now frame plan count before after exchanges call waiting few input early low sessions reaches
    (is_entered (shard_of_call call) reaches.after) refl
