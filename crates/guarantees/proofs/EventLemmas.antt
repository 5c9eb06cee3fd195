-- A trace on the replies that a run was given, as the events of its worker.
use Rattle.std.proofs.Common.{◌≡◌, ℕ, zero, suc, ◌<◌, ◌==◌, ◌||◌, Bool, true, false, cond, List, [], ◌∷◌, ◌++◌, map, reverse, refl, sym, ◌∙◌, ap, subst, arith, append_assoc}
use Rattle.std.specs.Prelude.{filter, if◌then◌else◌}
use Rattle.std.proofs.lemmas.Bool.{eqb-true}
use Rattle.std.proofs.lemmas.Bool.Decides.{nat_tests}
use Rattle.std.proofs.lemmas.List.Elements.{filter-append}
use Rattle.semantics.specs.declared.verdict.Verdict.{Verdict}
use Rattle.semantics.specs.declared.call.Call.{Call}
use Rattle.semantics.specs.declared.call.Reply.{Reply}
use Rattle.semantics.specs.declared.call.Entry.{Entry}
use Rattle.semantics.specs.MachineState.{MachineState, initial_state}
use Rattle.semantics.specs.Step.{Step, Continues, CallsMap, Exits, Traps}
use Rattle.semantics.specs.Semantics.{next_step}
use Rattle.semantics.specs.RunTrace.{RunTrace, HasExited, HasTrapped, GoesOn, trace_of, trace_from, IsReplyTo}
use Rattle.semantics.specs.History.{shard_of_call}
use Rattle.semantics.specs.System.{Setting, is_entered, input_frame}
use Rattle.semantics.specs.System as model
use Rattle.map_port.specs.Exchanges.{Exchange, calls_in, replies_in}
use Rattle.shards.specs.declared.deeds.Deed.{Deed}
use Rattle.shards.specs.declared.deeds.Deed.TheVariants.{Wrote}
use Rattle.shards.specs.Deeds.{is_of_shard}
use Rattle.shards.specs.Passes.{own_at}
use Rattle.shard_port.specs.Asking.{enter_by, leave_by}
use Rattle.shard_port.specs.Sessions.{exchange_entry, is_asked_of, exchange_entries, behind_enter, session}
use Rattle.shard_port.specs.PassSessions.{AreCallsWithin}
use Rattle.shard_port.specs.PassDeeds.{asked_deeds, shards_entered, rising, leaving_deeds, run_deeds}
use Rattle.runs.specs.FrameRuns.{AreFormed}
use Rattle.guarantees.specs.Steps.{Writes, Move, does, asks, RunBegins, RunGoesOn, RunEnds, CallIsServed, ShardIsEntered, AreStepsOfRun, leavings, entries_asked, entries_in, entries_on, deeds_asked, deeds_in}
use Rattle.guarantees.specs.SystemLaws.{RunsAreOfTheSystem}
use Rattle.guarantees.proofs.Leaving.{AreEntered, all_leave, left_on, deeds_left}

-- ---- tests and lists

abbrev pub is_some_entry : List Entry → Bool
is_some_entry [] = false
is_some_entry (first ∷ later) = true

pub or_true : (test : Bool) → (test || true) ≡ true
or_true true = refl
or_true false = refl

-- ---- what the events of a run write

-- the entries of later exchanges with a shard, by whether the run is inside now
abbrev pub since : Bool → ℕ → ℕ → List Entry → List Entry
since true worker number entries = entries
since false worker number entries = behind_enter worker number entries

abbrev joined : (worker number : ℕ) → Exchange → List Exchange → Bool → List Entry
joined worker number exchange later test =
    map (exchange_entry worker) (cond test (exchange ∷ filter (is_asked_of number) later) (filter (is_asked_of number) later))

pub call_on : (worker number : ℕ) (exchange : Exchange) (later : List Exchange) (entered : List ℕ) (run : List Move) →
    is_entered (shard_of_call exchange.call) entered ≡ true →
    entries_on number run ≡ since (is_entered number entered) worker number (exchange_entries worker number later) →
    entries_on number (asks worker (Writes (exchange_entry worker exchange)) ∷ run)
    ≡ since (is_entered number entered) worker number (exchange_entries worker number (exchange ∷ later))
call_on worker number exchange later entered run inside rest = by_test (shard_of_call exchange.call == number) refl
  where
    by_test : (test : Bool) → (shard_of_call exchange.call == number) ≡ test →
        cond test (exchange_entry worker exchange ∷ entries_on number run) (entries_on number run)
        ≡ since (is_entered number entered) worker number (joined worker number exchange later test)
    by_test false is = rest
    by_test true is =
        let same : shard_of_call exchange.call ≡ number = eqb-true (shard_of_call exchange.call) number is in
        let here : is_entered number entered ≡ true = subst (λ (n : ℕ). is_entered n entered ≡ true) same inside in
        ap (λ (list : List Entry). exchange_entry worker exchange ∷ list)
        (rest ∙ ap (λ (test : Bool). since test worker number (exchange_entries worker number later)) here)
        ∙ ap (λ (test : Bool). since test worker number (exchange_entry worker exchange ∷ exchange_entries worker number later)) (sym here)

pub enter_on : (worker number : ℕ) (exchange : Exchange) (later : List Exchange) (entered : List ℕ) (moves : List Move) →
    is_entered (shard_of_call exchange.call) entered ≡ false →
    entries_on number moves
    ≡ since (is_entered number (shard_of_call exchange.call ∷ entered)) worker number (exchange_entries worker number (exchange ∷ later)) →
    entries_on number (asks worker (Writes (enter_by worker (shard_of_call exchange.call))) ∷ moves)
    ≡ since (is_entered number entered) worker number (exchange_entries worker number (exchange ∷ later))
enter_on worker number exchange later entered moves outside rest = by_test (shard_of_call exchange.call == number) refl rest
  where
    by_test : (test : Bool) → (shard_of_call exchange.call == number) ≡ test →
        entries_on number moves ≡ since (test || is_entered number entered) worker number (joined worker number exchange later test) →
        cond test (enter_by worker (shard_of_call exchange.call) ∷ entries_on number moves) (entries_on number moves)
        ≡ since (is_entered number entered) worker number (joined worker number exchange later test)
    by_test false is now = now
    by_test true is now =
        let same : shard_of_call exchange.call ≡ number = eqb-true (shard_of_call exchange.call) number is in
        let out : is_entered number entered ≡ false = subst (λ (n : ℕ). is_entered n entered ≡ false) same outside in
        ap (λ (n : ℕ). enter_by worker n ∷ entries_on number moves) same
        ∙ ap (λ (list : List Entry). enter_by worker number ∷ list) now
        ∙ ap (λ (test : Bool). since test worker number (exchange_entry worker exchange ∷ exchange_entries worker number later)) (sym out)

-- ---- which shards a run is in at its end

pub call_in : (worker number : ℕ) (exchange : Exchange) (later : List Exchange) (entered after : List ℕ) →
    is_entered (shard_of_call exchange.call) entered ≡ true →
    is_entered number after ≡ (is_entered number entered || is_some_entry (exchange_entries worker number later)) →
    is_entered number after ≡ (is_entered number entered || is_some_entry (exchange_entries worker number (exchange ∷ later)))
call_in worker number exchange later entered after inside rest = by_test (shard_of_call exchange.call == number) refl
  where
    by_test : (test : Bool) → (shard_of_call exchange.call == number) ≡ test →
        is_entered number after ≡ (is_entered number entered || is_some_entry (joined worker number exchange later test))
    by_test false is = rest
    by_test true is =
        let same : shard_of_call exchange.call ≡ number = eqb-true (shard_of_call exchange.call) number is in
        let here : is_entered number entered ≡ true = subst (λ (n : ℕ). is_entered n entered ≡ true) same inside in
        rest ∙ ap (λ (test : Bool). test || is_some_entry (exchange_entries worker number later)) here ∙ sym (or_true (is_entered number entered))

pub enter_in : (worker number : ℕ) (exchange : Exchange) (later : List Exchange) (entered after : List ℕ) →
    is_entered number after ≡ (is_entered number (shard_of_call exchange.call ∷ entered) || is_some_entry (exchange_entries worker number (exchange ∷ later))) →
    is_entered number after ≡ (is_entered number entered || is_some_entry (exchange_entries worker number (exchange ∷ later)))
enter_in worker number exchange later entered after rest = by_test (shard_of_call exchange.call == number) rest
  where
    by_test : (test : Bool) →
        is_entered number after ≡ ((test || is_entered number entered) || is_some_entry (joined worker number exchange later test)) →
        is_entered number after ≡ (is_entered number entered || is_some_entry (joined worker number exchange later test))
    by_test false now = now
    by_test true now = now ∙ sym (or_true (is_entered number entered))

-- ---- what they do over all shards

-- what a run does that asks a shard which it has entered or not, by that
abbrev asked_from : ℕ → List ℕ → Exchange → List Exchange → Bool → List Deed
asked_from worker entered exchange later inside =
    (if inside then [] else Wrote (enter_by worker (shard_of_call exchange.call)) ∷ []) ++ Wrote (exchange_entry worker exchange) ∷
    asked_deeds worker (if inside then entered else shard_of_call exchange.call ∷ entered) later

asked_by : (worker : ℕ) (entered : List ℕ) (exchange : Exchange) (later : List Exchange) (inside : Bool) →
    is_entered (shard_of_call exchange.call) entered ≡ inside →
    asked_from worker entered exchange later inside ≡ asked_deeds worker entered (exchange ∷ later)
asked_by worker entered exchange later inside is = ap (asked_from worker entered exchange later) (sym is)

enters_by : (entered : List ℕ) (exchange : Exchange) (later : List Exchange) (inside : Bool) →
    is_entered (shard_of_call exchange.call) entered ≡ inside →
    shards_entered (if inside then entered else shard_of_call exchange.call ∷ entered) later ≡ shards_entered entered (exchange ∷ later)
enters_by entered exchange later inside is =
    ap (λ (test : Bool). shards_entered (if test then entered else shard_of_call exchange.call ∷ entered) later) (sym is)

now_inside : (shard : ℕ) (entered : List ℕ) → is_entered shard (shard ∷ entered) ≡ true
now_inside shard entered =
    let same : (shard == shard) ≡ true = grind (arith, nat_tests) in ap (λ (test : Bool). test || is_entered shard entered) same

-- ---- a run to its end

-- to a state that meets this
pub record Reaches (said : MachineState → Type 0) (setting : Setting) (count worker : ℕ) (state : MachineState) (entered : List ℕ)
    (exchanges : List Exchange) : Type 0 where
  pub run : List Move
  pub ending : MachineState
  pub after : List ℕ
  pub runs : AreStepsOfRun setting count worker (record { state = state; entered = entered }) run (record { state = ending; entered = after })
  pub ended : said ending
  pub distinct : AreEntered count after
  pub writes : (number : ℕ) → entries_on number run ≡ since (is_entered number entered) worker number (exchange_entries worker number exchanges)
  pub stays : (number : ℕ) →
      is_entered number after ≡ (is_entered number entered || is_some_entry (exchange_entries worker number exchanges))
  pub deeds : deeds_in worker run ≡ asked_deeds worker entered exchanges
  pub enters : after ≡ shards_entered entered exchanges

-- one instruction that calls nothing
pub reach_on : (said : MachineState → Type 0) (setting : Setting) (count worker : ℕ) (state next : MachineState) (entered : List ℕ)
    (exchanges : List Exchange) → next_step (model.program_of_setting setting) state ≡ Continues next →
    Reaches said setting count worker next entered exchanges → Reaches said setting count worker state entered exchanges
reach_on said setting count worker state next entered exchanges is rest = record {
  run = does worker ∷ rest.run;
  ending = rest.ending;
  after = rest.after;
  runs = (record { state = next; entered = entered }, RunGoesOn state next entered is, rest.runs);
  ended = rest.ended;
  distinct = rest.distinct;
  writes = rest.writes;
  stays = rest.stays;
  deeds = rest.deeds;
  enters = rest.enters;
}

-- one call inside its shard
reach_call : (said : MachineState → Type 0) (setting : Setting) (count worker : ℕ) (state : MachineState) (next : Reply → MachineState)
    (entered : List ℕ) (exchange : Exchange) (later : List Exchange) → next_step (model.program_of_setting setting) state ≡ CallsMap exchange.call next →
    shard_of_call exchange.call < count → IsReplyTo (model.program_of_setting setting) exchange.call exchange.reply →
    is_entered (shard_of_call exchange.call) entered ≡ true →
    Reaches said setting count worker (next exchange.reply) entered later →
    Reaches said setting count worker state entered (exchange ∷ later)
reach_call said setting count worker state next entered exchange later is within formed inside rest = record {
  run = asks worker (Writes (exchange_entry worker exchange)) ∷ rest.run;
  ending = rest.ending;
  after = rest.after;
  runs = (
    record { state = next exchange.reply; entered = entered },
    CallIsServed state entered exchange.call next exchange.reply is within inside formed,
    rest.runs,
  );
  ended = rest.ended;
  distinct = rest.distinct;
  writes = λ number. call_on worker number exchange later entered rest.run inside (rest.writes number);
  stays = λ number. call_in worker number exchange later entered rest.after inside (rest.stays number);
  deeds = ap (λ (list : List Deed). Wrote (exchange_entry worker exchange) ∷ list) rest.deeds ∙ asked_by worker entered exchange later true inside;
  enters = rest.enters ∙ enters_by entered exchange later true inside;
}

-- the first call of a shard: the run enters it before
reach_enter : (said : MachineState → Type 0) (setting : Setting) (count worker : ℕ) (state : MachineState) (next : Reply → MachineState)
    (entered : List ℕ) (exchange : Exchange) (later : List Exchange) → next_step (model.program_of_setting setting) state ≡ CallsMap exchange.call next →
    shard_of_call exchange.call < count → is_entered (shard_of_call exchange.call) entered ≡ false →
    Reaches said setting count worker state (shard_of_call exchange.call ∷ entered) (exchange ∷ later) →
    Reaches said setting count worker state entered (exchange ∷ later)
reach_enter said setting count worker state next entered exchange later is within outside rest = record {
  run = asks worker (Writes (enter_by worker (shard_of_call exchange.call))) ∷ rest.run;
  ending = rest.ending;
  after = rest.after;
  runs = (
    record { state = state; entered = shard_of_call exchange.call ∷ entered },
    ShardIsEntered state entered exchange.call next is within outside,
    rest.runs,
  );
  ended = rest.ended;
  distinct = rest.distinct;
  writes = λ number. enter_on worker number exchange later entered rest.run outside (rest.writes number);
  stays = λ number. enter_in worker number exchange later entered rest.after (rest.stays number);
  deeds =
      ap (λ (list : List Deed). Wrote (enter_by worker (shard_of_call exchange.call)) ∷ list)
      (rest.deeds
      ∙ sym (asked_by worker (shard_of_call exchange.call ∷ entered) exchange later true (now_inside (shard_of_call exchange.call) entered)))
      ∙ asked_by worker entered exchange later false outside;
  enters =
      rest.enters
      ∙ sym (enters_by (shard_of_call exchange.call ∷ entered) exchange later true (now_inside (shard_of_call exchange.call) entered))
      ∙ enters_by entered exchange later false outside;
}

pub reach_here : (said : MachineState → Type 0) (setting : Setting) (count worker : ℕ) (state : MachineState) (next : Reply → MachineState)
    (entered : List ℕ) (exchange : Exchange) (later : List Exchange) (inside : Bool) →
    next_step (model.program_of_setting setting) state ≡ CallsMap exchange.call next → shard_of_call exchange.call < count →
    IsReplyTo (model.program_of_setting setting) exchange.call exchange.reply → is_entered (shard_of_call exchange.call) entered ≡ inside →
    AreEntered count entered →
    ((now : List ℕ) → AreEntered count now → Reaches said setting count worker (next exchange.reply) now later) →
    Reaches said setting count worker state entered (exchange ∷ later)
reach_here said setting count worker state next entered exchange later true is within formed inside distinct rest =
    reach_call said setting count worker state next entered exchange later is within formed inside (rest entered distinct)
reach_here said setting count worker state next entered exchange later false is within formed outside distinct rest =
    let first : is_entered (shard_of_call exchange.call) (shard_of_call exchange.call ∷ entered) ≡ true =
    now_inside (shard_of_call exchange.call) entered in
    reach_enter said setting count worker state next entered exchange later is within outside
    (reach_call said setting count worker state next (shard_of_call exchange.call ∷ entered) exchange later is within formed first
    (rest (shard_of_call exchange.call ∷ entered) (outside, within, distinct)))

pub nothing_since : (worker number : ℕ) (test : Bool) → [] ≡ since test worker number []
nothing_since worker number true = refl
nothing_since worker number false = refl

pub or_false : (test : Bool) → (test || false) ≡ test
or_false true = refl
or_false false = refl

abbrev pub Exited : Setting → Verdict → MachineState → MachineState → Type 0
Exited setting verdict last ending = next_step (model.program_of_setting setting) ending ≡ Exits verdict last

abbrev IsReached : Setting → ℕ → ℕ → ℕ → Verdict → MachineState → Type 0
IsReached setting count worker steps verdict last =
    (state : MachineState) (entered : List ℕ) (exchanges : List Exchange) → AreEntered count entered → AreCallsWithin count exchanges →
    AreFormed (model.program_of_setting setting) exchanges →
    trace_of steps (model.program_of_setting setting) state (replies_in exchanges) ≡ record { calls = calls_in exchanges; stand = HasExited verdict last } →
    Reaches (Exited setting verdict last) setting count worker state entered exchanges

by_step : (setting : Setting) (count worker steps : ℕ) (verdict : Verdict) (last : MachineState) → IsReached setting count worker steps verdict last →
    (state : MachineState) (entered : List ℕ) (exchanges : List Exchange) → AreEntered count entered → AreCallsWithin count exchanges →
    AreFormed (model.program_of_setting setting) exchanges → (step : Step) → next_step (model.program_of_setting setting) state ≡ step →
    trace_from (trace_of steps (model.program_of_setting setting)) state step (replies_in exchanges)
    ≡ record { calls = calls_in exchanges; stand = HasExited verdict last } →
    Reaches (Exited setting verdict last) setting count worker state entered exchanges
by_step setting count worker steps verdict last later state entered exchanges distinct within formed (Continues next) is trace =
    reach_on (Exited setting verdict last) setting count worker state next entered exchanges is (later next entered exchanges distinct within formed trace)
by_step setting count worker steps verdict last later state entered [] distinct within formed (CallsMap call next) is trace =
    absurd (let made : call ∷ [] ≡ [] = ap (λ (one : RunTrace). one.calls) trace in cc)
by_step setting count worker steps verdict last later state entered (exchange ∷ more) distinct within formed (CallsMap call next) is trace =
    let rest : RunTrace = trace_of steps (model.program_of_setting setting) (next exchange.reply) (replies_in more) in
    let made : call ∷ rest.calls ≡ exchange.call ∷ calls_in more = ap (λ (one : RunTrace). one.calls) trace in
    let stands : rest.stand ≡ HasExited verdict last = ap (λ (one : RunTrace). one.stand) trace in
    let same : call ≡ exchange.call = cc in
    let calls_are : rest.calls ≡ calls_in more = cc in
    let whole : rest ≡ record { calls = calls_in more; stand = HasExited verdict last } = rw (sym calls_are, sym stands) refl in
    reach_here (Exited setting verdict last) setting count worker state next entered exchange more (is_entered (shard_of_call exchange.call) entered)
    (is ∙ ap (λ (one : Call). CallsMap one next) same) within.0 formed.0 refl distinct
    (λ now fine. later (next exchange.reply) now more fine within.1 formed.1 whole)
by_step setting count worker steps verdict last later state entered [] distinct within formed (Exits ended final) is trace =
    let stands : HasExited ended final ≡ HasExited verdict last = ap (λ (one : RunTrace). one.stand) trace in
    let same : ended ≡ verdict = cc in
    let left : final ≡ last = cc in
    record {
      run = [];
      ending = state;
      after = entered;
      runs = refl;
      ended = is ∙ ap (λ one. Exits one final) same ∙ ap (λ one. Exits verdict one) left;
      distinct = distinct;
      writes = λ number. nothing_since worker number (is_entered number entered);
      stays = λ number. sym (or_false (is_entered number entered));
      deeds = refl;
      enters = refl;
    }
by_step setting count worker steps verdict last later state entered (exchange ∷ more) distinct within formed (Exits ended final) is trace =
    absurd (let made : [] ≡ exchange.call ∷ calls_in more = ap (λ (one : RunTrace). one.calls) trace in cc)
by_step setting count worker steps verdict last later state entered exchanges distinct within formed (Traps cause) is trace =
    absurd (trapped (ap (λ (one : RunTrace). one.stand) trace))
  where
    trapped : HasTrapped cause ≡ HasExited verdict last → ⊥
    trapped stands = cc

pub reached : (setting : Setting) (count worker steps : ℕ) (verdict : Verdict) (last : MachineState) → IsReached setting count worker steps verdict last
reached setting count worker zero verdict last state entered exchanges distinct within formed trace =
    absurd (let stands : GoesOn ≡ HasExited verdict last = ap (λ (one : RunTrace). one.stand) trace in cc)
reached setting count worker (suc steps) verdict last state entered exchanges distinct within formed trace =
    by_step setting count worker steps verdict last (reached setting count worker steps verdict last) state entered exchanges distinct within formed
    (next_step (model.program_of_setting setting) state) refl trace

-- ---- from idle to idle

append_in : (first second : List Move) → entries_in (first ++ second) ≡ entries_in first ++ entries_in second
append_in [] second = refl
append_in (move ∷ first) second =
    ap (λ (list : List Entry). entries_asked move.asked ++ list) (append_in first second)
    ∙ sym (append_assoc (entries_asked move.asked) (entries_in first) (entries_in second))

pub append_on : (number : ℕ) (first second : List Move) → entries_on number (first ++ second) ≡ entries_on number first ++ entries_on number second
append_on number first second =
    ap (filter (is_of_shard number)) (append_in first second) ∙ filter-append (is_of_shard number) (entries_in first) (entries_in second)

pub closed : (worker number : ℕ) (entries : List Entry) →
    since false worker number entries ++ (if (false || is_some_entry entries) then leave_by worker number ∷ [] else [])
    ≡ session worker number entries
closed worker number [] = refl
closed worker number (first ∷ later) = refl

pub whole_session : (said : MachineState → Type 0) (setting : Setting) (count worker : ℕ) (state : MachineState) (exchanges : List Exchange)
    (reaches : Reaches said setting count worker state [] exchanges) (number : ℕ) →
    entries_on number (reaches.run ++ leavings worker (rising count reaches.after)) ≡ session worker number (exchange_entries worker number exchanges)
whole_session said setting count worker state exchanges reaches number =
    append_on number reaches.run (leavings worker (rising count reaches.after))
    ∙ ap (λ (list : List Entry). list ++ entries_on number (leavings worker (rising count reaches.after))) (reaches.writes number)
    ∙ ap (λ (list : List Entry). since false worker number (exchange_entries worker number exchanges) ++ list)
    (left_on count worker number reaches.after reaches.distinct
    ∙ ap (λ (test : Bool). if test then leave_by worker number ∷ [] else []) (reaches.stays number))
    ∙ closed worker number (exchange_entries worker number exchanges)

pub append_deeds : (worker : ℕ) (first second : List Move) → deeds_in worker (first ++ second) ≡ deeds_in worker first ++ deeds_in worker second
append_deeds worker [] second = refl
append_deeds worker (move ∷ first) second =
    ap (λ (list : List Deed). deeds_asked worker move.asked ++ list) (append_deeds worker first second)
    ∙ sym (append_assoc (deeds_asked worker move.asked) (deeds_in worker first) (deeds_in worker second))

whole_deeds : (said : MachineState → Type 0) (setting : Setting) (count worker : ℕ) (state : MachineState) (exchanges : List Exchange)
    (reaches : Reaches said setting count worker state [] exchanges) →
    deeds_in worker (reaches.run ++ leavings worker (rising count reaches.after)) ≡ run_deeds worker count exchanges
whole_deeds said setting count worker state exchanges reaches =
    append_deeds worker reaches.run (leavings worker (rising count reaches.after))
    ∙ ap (λ (list : List Deed). list ++ deeds_in worker (leavings worker (rising count reaches.after))) reaches.deeds
    ∙ ap (λ (list : List Deed). asked_deeds worker [] exchanges ++ list)
    (deeds_left worker (rising count reaches.after)
    ∙ ap (λ (list : List ℕ). leaving_deeds worker (rising count list)) reaches.enters)

pub run_is_of_system : RunsAreOfTheSystem
run_is_of_system setting worker told now frame count steps before after exchanges verdict last few input early low trace formed sessions =
    let state : MachineState = initial_state (input_frame frame) told now in
    let reaches : Reaches (Exited setting verdict last) setting count worker state [] exchanges =
    reached setting count worker steps verdict last state [] exchanges tt sessions.within formed trace in
    record {
      begins_so = RunBegins frame now told few input early low;
      run = reaches.run;
      ending = record { state = reaches.ending; entered = reaches.after };
      goes_on = reaches.runs;
      exits = reaches.ended;
      ends = RunEnds reaches.ending last verdict reaches.after reaches.ended;
      left = rising count reaches.after;
      leaves = all_leave setting count worker reaches.after reaches.distinct;
      written = λ number within. sessions.written number within
          ∙ ap (λ (list : List Entry). reverse list ++ own_at before number)
          (sym (whole_session (Exited setting verdict last) setting count worker state exchanges reaches number));
      did = sessions.did
          ∙ ap (λ (list : List Deed). reverse list ++ before.deeds) (sym (whole_deeds (Exited setting verdict last) setting count worker state exchanges reaches));
    }
