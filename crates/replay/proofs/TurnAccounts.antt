-- The account of a replay on one thread.
use Rattle.std.proofs.Common.{◌≡◌, ℕ, zero, suc, false, ◌/◌, ◌+◌, ◌-◌, ◌++◌, map, append_assoc, ◌<◌, ◌≤◌, List, [], ◌∷◌, length, take, drop, replicate, reverse, get_or, refl, sym, ap, ◌∙◌, subst, arith}
use Rattle.std.specs.Prelude.{Option, Some, None, slice_get, option_map}
use Rattle.std.proofs.lemmas.List.{append-nil, map-append, length-map, length-replicate, reverse-reverse}
use Rattle.wire.specs.declared.records.Sent.{Sent}
use Rattle.semantics.specs.declared.call.Caller.{Caller}
use Rattle.semantics.specs.declared.call.Caller.TheVariants.{Worker, Controller, Reclaimer}
use Rattle.semantics.specs.declared.call.Entry.{Entry}
use Rattle.semantics.specs.declared.options.Options.{Options}
use Rattle.semantics.specs.declared.plan.ShardPlan.{ShardPlan}
use Rattle.semantics.specs.CallerLaws.{is_caller, own_entries}
use Rattle.semantics.specs.History.{IsLegalJournal}
use Rattle.semantics.specs.Program.{Program}
use Rattle.semantics.specs.Reclamation.{is_inside}
use Rattle.semantics.specs.ShardPlan.{plan_at, AreOptions}
use Rattle.journals.specs.JournalsView.{entries_at}
use Rattle.shard_core.specs.JournaledShard.{JournaledShard, opened_shard}
use Rattle.shards.specs.CallerView.{CallerView, BeginsWith, nothing_seen}
use Rattle.shards.specs.NewShards.{shard_at}
use Rattle.shards.specs.SharedMaps.{ArePlans}
use Rattle.shards.specs.declared.deeds.OrderPart.TheVariants.{ByCaller}
use Rattle.shards.specs.Deeds.{deeds_of, made_on}
use Rattle.shards.specs.Passes.{PassView, view_at, seen_at, AreSettled}
use Rattle.shard_port.specs.PassSessions.{WritesOwnSessions, WritesRefusedOwnSessions}
use Rattle.shard_port.proofs.shared.ReadyLemmas.{plan_number}
use Rattle.control.specs.declared.command.Command.{Command}
use Rattle.map_updates.specs.declared.update.MapUpdate.{MapUpdate}
use Rattle.actors.specs.declared.outcome.Outcome.{Outcome}
use Rattle.actors.specs.declared.runner.Ran.{Ran}
use Rattle.actors.specs.Accounts.{runs_at}
use Rattle.actors.specs.Accounted.{IsWorkOf, IsAccounted}
use Rattle.actors.specs.Actors.{IsUnused, numbers_from, due_to}
use Rattle.control.specs.Controlling.{opened_controller}
use Rattle.actors.specs.Commands.{CommandDone, AreNotedOf, HasSet, IsScriptAccount, all_set, made_deeds, IsMoved}
use Rattle.actors.specs.Parts.{IsScriptRunBehind, round_count, first_commands, first_deeds}
use Rattle.actors.specs.RunsInOrder.{IsRunAt}
use Rattle.actors.specs.RunsOverShards.{IsNewPass, IsRunOf, IsRunIn}
use Rattle.actors.specs.Shares.{frames_of, share, all_captured}
use Rattle.replay.specs.ExactReplays.{IsInTurn, starts_in, first_maps, first_state}
use Rattle.replay.specs.InTurn.{TurnMaps}
use Rattle.machine.specs.Running.{program_of}
use Rattle.verifier.specs.Verified.{Verified}
use Rattle.replay.specs.EventsInTurns.{EventsComeInTurns}
use Rattle.guarantees.specs.TurnByTurn.{ReplaysInTurnsAreListed, turns_of, AreDeedsOfRuns, AreDoneInTurns}
use Rattle.replay.specs.Turns.{Turn, TheCommand, TheRecord, TheRound, rounds_at, turns_to, all_turns}
use Rattle.replay.specs.TurnOrder.{AreDeedsBy, IsInTurnOrder, IsExact}
use Rattle.replay.specs.TurnsAccounted.{TurnsAreAccounted}
use Rattle.replay.proofs.TurnParts.{AreTurnsDone, HasHandledIn}
use Rattle.replay.proofs.Accounts.{IsOwnIn, chain_stands, same_middles}
use Rattle.actors.proofs.shared.CommandAccounts.{account_of_nothing}
use Rattle.replay.proofs.PartLemmas.{IsScriptBegun, script_begins, script_done, rounds_stand, noted_as_many, numbers_count}
use Rattle.replay.proofs.TurnBegun.{AreControllers, all_controllers, begins_now, take_count, take_and_drop, due_few}
use Rattle.actors.proofs.shared.RoundLemmas.{no_round}
use Rattle.actors.proofs.shared.SetLemmas.{moved_by_set, has_set}
use Rattle.replay.proofs.TurnCommands.{by_pass, AreSetByPass, set_steps}
use Rattle.replay.proofs.TurnDeeds.{IsPassOf, Stands, others_stay}
use Rattle.replay.proofs.TurnSimulation.{IsSimulated, AllWent, all_turned}

-- ---- shards that were opened

one_opened : (found : Option ShardPlan) (one : JournaledShard) → Some one ≡ option_map opened_shard found →
    (found ≡ Some one.plan) × (one ≡ opened_shard one.plan)
one_opened None one is = absurd cc
one_opened (Some plan) one is =
    let same : one ≡ opened_shard plan = cc in
    (ap (λ (shard : JournaledShard). Some shard.plan) (sym same), same ∙ ap (λ (shard : JournaledShard). opened_shard shard.plan) (sym same))

there_at : (shards : List JournaledShard) (number : ℕ) (other : JournaledShard) → number < length shards → slice_get shards number ≡ Some (get_or shards number other)
there_at [] number other within = absurd (omega (arith, within))
there_at (one ∷ rest) zero other within = refl
there_at (one ∷ rest) (suc number) other within = there_at rest number other (omega (arith, within))

-- ---- a pass that has seen nothing

same_each : {A : Type 0} (count place : ℕ) (x : A) → get_or (replicate count x) place x ≡ x
same_each zero place x = refl
same_each (suc count) zero x = refl
same_each (suc count) (suc place) x = same_each count place x

abbrev unused : ℕ → Caller → PassView
unused count who = record { who = who; views = replicate count nothing_seen; deeds = [] }

unused_at : (count : ℕ) (who : Caller) (number : ℕ) → view_at (unused count who) number ≡ nothing_seen
unused_at count who number = same_each count number nothing_seen

is_unused : (count : ℕ) (who : Caller) → IsUnused (unused count who)
is_unused count who = (unused_at count who, refl)

unused_mine : (count : ℕ) (who : Caller) → IsPassOf count who [] (unused count who)
unused_mine count who = record {
  caller = refl;
  sized = length-replicate count nothing_seen;
  own = λ number within. ap (λ (view : CallerView). view.own) (unused_at count who number);
  begins = λ number within. ([], sym (ap (λ (view : CallerView). view.seen) (unused_at count who number)));
  did = refl;
}

-- an exact replay, and what was done in each turn
record IsDoneInTurns (program : Program) (script : List Command) (options : Options) (records : List Sent) (outcome : Outcome) : Type 0 where
  exact : IsExact program script options records outcome
  done : AreDoneInTurns program script options records outcome exact.accounted (all_turns (starts_in script) (length records))

none_noted : (script : List Command) (done : List CommandDone) → AreNotedOf script [] done → done ≡ []
none_noted script [] are = refl
none_noted script (one ∷ done) are = absurd are

-- ---- the first turns are the commands before the first record

abbrev CommandsFrom : ℕ → ℕ → List Turn
CommandsFrom from many = map (λ (number : ℕ). TheCommand number) (numbers_from from many)

numbers_parted : (from many more : ℕ) → numbers_from from (many + more) ≡ numbers_from from many ++ numbers_from (from + many) more
numbers_parted from zero more =
    let here : from ≡ from + 0 = omega arith in let all : 0 + more ≡ more = omega arith in λ i. numbers_from (here i) (all i)
numbers_parted from (suc many) more =
    let all : suc many + more ≡ suc (many + more) = omega arith in
    let here : from + 1 + many ≡ from + suc many = omega arith in
    ap (numbers_from from) all
    ∙ ap (λ (list : List ℕ). from ∷ list)
    (numbers_parted (from + 1) many more ∙ ap (λ (n : ℕ). numbers_from (from + 1) many ++ numbers_from n more) here)

commands_parted : (many all : ℕ) → many ≤ all → CommandsFrom 0 all ≡ CommandsFrom 0 many ++ CommandsFrom many (all - many)
commands_parted many all up =
    let parted : all ≡ many + (all - many) = omega (arith, up) in
    ap (CommandsFrom 0) parted ∙ ap (map (λ (number : ℕ). TheCommand number)) (numbers_parted 0 many (all - many))
    ∙ map-append (λ (number : ℕ). TheCommand number) (numbers_from 0 many) (numbers_from (0 + many) (all - many))
    ∙ ap (λ (n : ℕ). CommandsFrom 0 many ++ CommandsFrom n (all - many)) (omega arith)

abbrev AreFirstTurns : List ℕ → List Turn → Type 0
AreFirstTurns starts turns = (later : List Turn) × (turns ≡ CommandsFrom 0 (due_to starts 0) ++ later)

more_turns : (starts : List ℕ) (turns more : List Turn) → AreFirstTurns starts turns → AreFirstTurns starts (turns ++ more)
more_turns starts turns more (later, are) = (
  later ++ more,
  ap (λ (list : List Turn). list ++ more) are ∙ append_assoc (CommandsFrom 0 (due_to starts 0)) later more,
)

first_to : (starts : List ℕ) (number : ℕ) → AreFirstTurns starts (turns_to starts (suc number))
first_to starts zero =
    let all : due_to starts 0 - 0 ≡ due_to starts 0 = omega arith in
    (TheRecord 0 ∷ rounds_at 1, ap (λ (n : ℕ). CommandsFrom 0 n ++ TheRecord 0 ∷ rounds_at 1) all)
first_to starts (suc number) = more_turns starts (turns_to starts (suc number)) _ (first_to starts number)

first_turns : (starts : List ℕ) (number : ℕ) → AreFirstTurns starts (all_turns starts number)
first_turns starts zero =
    let all : length starts - 0 ≡ length starts = omega arith in
    more_turns starts (CommandsFrom 0 (length starts - 0)) (TheRound ∷ []) (
      CommandsFrom (due_to starts 0) (length starts - due_to starts 0),
      ap (CommandsFrom 0) all ∙ commands_parted (due_to starts 0) (length starts) (due_few starts 0),
    )
first_turns starts (suc number) = more_turns starts (turns_to starts (suc number)) _ (first_to starts number)

-- ---- the account

module _ (program : Program) (script : List Command) (options : Options) (records : List Sent) (outcome : Outcome) (are : AreOptions program.maps options)
    (turns : IsInTurn program script options records outcome) (writes : WritesOwnSessions) (writes_refused : WritesRefusedOwnSessions) where
  abbrev count : ℕ
  count = length turns.first.opened

  abbrev plan : ℕ → ShardPlan
  plan number = (shard_at turns.first.opened number).plan

  opened_at : (number : ℕ) → number < count →
      (plan_at program.maps options number ≡ Some (plan number)) × (shard_at turns.first.opened number ≡ opened_shard (plan number))
  opened_at number within =
      one_opened (plan_at program.maps options number) (shard_at turns.first.opened number)
      (sym (there_at turns.first.opened number _ within) ∙ turns.first.opened_are.each number within)

  plans : ArePlans program.maps options count plan
  plans = record { count_is = turns.first.opened_are.count; each = λ number within. (opened_at number within).0 }

  numbered : (number : ℕ) → number < count → (plan number).number ≡ number
  numbered number within = (plan_number options number (slice_get program.maps (number / options.shards)) (plan number) (opened_at number within).0).0

  staffed : (worker : ℕ) → worker < options.workers → (number : ℕ) → number < count → worker < (plan number).workers
  staffed worker below number within =
      subst (λ (n : ℕ). worker < n)
      (sym (plan_number options number (slice_get program.maps (number / options.shards)) (plan number) (opened_at number within).0).3) below

  no_runs : (worker : ℕ) → runs_at (replicate options.workers []) worker ≡ []
  no_runs worker = same_each options.workers worker []

  -- ---- the updates before the first turn

  abbrev opened_maps : TurnMaps
  opened_maps = first_maps program.maps options turns.first.opened

  abbrev updates : List MapUpdate
  updates = outcome.updates.items

  opening : Stands plan count Controller [] turns.first.opened (unused count Controller)
  opening = record {
    sound = record { within = tt; met = tt; legal = λ number within. tt };
    left = record {
      sized = refl;
      planned = λ number within. refl;
      written = λ number within. ap (λ (one : JournaledShard). reverse one.journal) (opened_at number within).1;
    };
    mine = unused_mine count Controller;
  }

  set : AreSetByPass plan count numbered [] (unused count Controller) opened_maps updates turns.begun
  set = set_steps plan count numbered [] (unused count Controller) opened_maps updates turns.begun opening turns.first.updated

  moved : IsMoved (by_pass opened_maps (unused count Controller)) (by_pass turns.begun set.pass') (all_set updates)
  moved = moved_by_set plan updates (by_pass opened_maps (unused count Controller)) (by_pass turns.begun set.pass') refl set.set

  other_unused : (who : Caller) → is_caller who Controller ≡ false → IsPassOf count who set.order' (unused count who)
  other_unused who apart = others_stay count Controller who [] set.order' (unused count who) set.more apart (unused_mine count who)

  was_set : HasSet program.maps options updates set.pass'
  was_set = has_set plan program.maps options updates (unused count Controller) (by_pass turns.begun set.pass') (is_unused count Controller) refl set.set

  nothing_noted : IsScriptAccount plan program.maps options updates script turns.size [] (opened_controller turns.size) set.pass'
  nothing_noted = account_of_nothing plan program.maps options updates script turns.size set.pass' was_set

  alone : AreControllers set.order'
  alone = subst AreControllers (sym (set.more.more ∙ append-nil set.more.deeds)) set.more.made_by

  -- before the first turn
  abbrev first : IsSimulated program updates script options records turns.size plan count 0 0 0 (first_state turns.begun turns.size)
  first = record {
    order = set.order';
    sound = set.stands.sound;
    left = set.stands.left;
    maps = moved.maps;
    options_are = moved.options;
    runs = replicate options.workers [];
    lists = length-replicate options.workers [];
    passes = λ worker. unused count (Worker worker);
    mine = λ worker below. other_unused (Worker worker) refl;
    outside = λ worker below number within. ap (λ (view : CallerView). is_inside worker view.own) (unused_at count (Worker worker) number);
    parts = [];
    order_is = ap reverse (sym (all_controllers set.order' alone) ∙ sym set.stands.mine.did ∙ was_set.did)
        ∙ reverse-reverse (made_deeds program.maps options (all_set updates)) ∙ sym (append-nil (made_deeds program.maps options (all_set updates)));
    handled = λ worker below. subst (λ (list : List Ran). HasHandledIn (IsNewPass worker) (IsRunAt (IsRunOf count plan program worker) records) [] list
        (unused count (Worker worker)) []) (sym (no_runs worker)) (record {
          handled = record {
            records_are = refl;
            before = unused count (Worker worker);
            is_new = record { who = refl; nothing = unused_at count (Worker worker); idle = refl };
            chain = refl;
          };
          of_runs = tt;
        });
    counts = refl;
    sent = refl;
    ends = refl;
    controller = set.pass';
    controls = set.stands.mine;
    each_once = refl;
    commands = [];
    begun = record {
      begun = record {
        account = nothing_noted;
        late = λ up. begins_now plan program.maps options updates script turns.size [] (opened_controller turns.size) set.pass' set.order' nothing_noted
            (let none = noted_as_many script [] nothing_noted.done nothing_noted.are_noted in omega (arith, none, up)) alone set.stands.mine.did;
      };
      same = none_noted script nothing_noted.done nothing_noted.are_noted;
    };
    each_part = tt;
    early = λ less. alone;
    reclaimer = unused count Reclaimer;
    reclaims = other_unused Reclaimer refl;
    reclaimed = no_round plan count (unused count Reclaimer) (is_unused count Reclaimer);
  }

  -- behind the last one
  all_went : AllWent program updates script options records turns.size plan count writes writes_refused are.some_worker numbered staffed (starts_in script)
      (length records) (first_state turns.begun turns.size) turns.last turns.in_order first.order first.parts
  all_went = all_turned program updates script options records turns.size plan count writes writes_refused are.some_worker numbered staffed (starts_in script)
      (length records) (first_state turns.begun turns.size) turns.last first refl turns.in_order

  abbrev ended : IsSimulated program updates script options records turns.size plan count (length records) (length (starts_in script)) (round_count (length records)) turns.last
  ended = all_went.went.now

  in_last : (number : ℕ) → number < count → number < length turns.last.all.shards
  in_last number within = subst (λ (n : ℕ). number < n) (sym ended.left.sized) within

  history_is : (number : ℕ) → number < count → made_on number ended.order ≡ reverse (entries_at outcome.journals number)
  history_is number within = sym (ended.left.written number within) ∙ ap reverse (sym (turns.journals number (in_last number within)))

  settled : (who : Caller) (pass : PassView) → IsPassOf count who ended.order pass → AreSettled count outcome.journals pass
  settled who pass mine number within = record {
    begins = subst (λ (history : List Entry). BeginsWith history (seen_at pass number)) (history_is number within) (mine.begins number within);
    own = mine.own number within ∙ ap (own_entries who) (history_is number within)
        ∙ ap (λ (one : Caller). own_entries one (reverse (entries_at outcome.journals number))) (sym mine.caller);
  }

  owned : (who : Caller) (pass : PassView) → IsPassOf count who ended.order pass → IsOwnIn ended.order pass
  owned who pass mine = mine.did ∙ ap (λ (one : Caller). deeds_of (ByCaller one) ended.order) (sym mine.caller)

  work : (worker : ℕ) → worker < options.workers → IsWorkOf (IsRunAt (IsRunIn plan count program worker outcome.journals) records)
      (share (frames_of records) options.workers worker (length records)) worker (runs_at ended.runs worker) count outcome.journals ended.order
  work worker below =
      let did = (ended.handled worker below).handled in
      let mine = ended.mine worker below in
      record {
        after = ended.passes worker;
        handled = record {
          records_are = did.records_are;
          before = did.before;
          is_new = did.is_new;
          chain = chain_stands count plan program worker records outcome.journals did.before (runs_at ended.runs worker) (ended.passes worker)
              (λ number within. (settled (Worker worker) (ended.passes worker) mine number within).begins) did.chain;
        };
        own = λ number within. mine.own number within ∙ ap (own_entries (Worker worker)) (history_is number within);
        did = mine.did;
      }

  first_within : first_commands script ≤ length (starts_in script)
  first_within = due_few (starts_in script) 0

  abbrev done : List CommandDone
  done = ended.begun.begun.account.done

  script_run : IsScriptRunBehind plan program.maps options updates script turns.size turns.last.noted ended.controller
      (first_deeds program.maps options updates (take (first_commands script) done))
  script_run = record {
    first = take (first_commands script) done;
    run = record {
      each_once = ended.each_once ∙ ap (λ (n : ℕ). numbers_from 0 n) (length-map script (λ line. line.frame));
      state = turns.last.controller;
      account = record { account = ended.begun.begun.account; later = drop (first_commands script) done; goes_on = take_and_drop (first_commands script) done };
      who = ended.controls.caller;
    };
    counted = take_count (first_commands script) done
        (let many = noted_as_many script turns.last.noted done ended.begun.begun.account.are_noted in let all = ap (λ (l : List ℕ). length l) ended.each_once in
        let counted = numbers_count 0 (length (starts_in script)) in let within = first_within in omega (arith, many, all, counted, within));
    deeds_are = refl;
  }

  script_begun : IsScriptBegun plan program.maps options count updates script outcome.journals ended.order outcome.refused.items
  script_begun = script_begins plan program.maps options count updates script turns.size turns.last.noted ended.controller outcome.journals ended.order
      outcome.refused.items (first_deeds program.maps options updates (take (first_commands script) done)) plans are turns.size_is_served turns.serves script_run
      (settled Controller ended.controller ended.controls) (owned Controller ended.controller ended.controls) turns.refused (ended.begun.begun.late first_within)

  abbrev accounted : IsAccounted program script options records outcome
  accounted = record {
    maps = turns.maps;
    options_are = turns.options_are;
    count = count;
    count_is = turns.count_is ∙ ended.left.sized;
    plan = plan;
    plans = plans;
    legal = λ number within. subst (λ (p : ShardPlan). IsLegalJournal p (entries_at outcome.journals number)) (ended.left.planned number within)
        (turns.legal number (in_last number within));
    order = ended.order;
    ordered = record {
      within = ended.sound.within;
      journals_are = λ number within. sym (reverse-reverse (entries_at outcome.journals number)) ∙ ap reverse (sym (history_is number within));
      met = ended.sound.met;
    };
    runs = ended.runs;
    workers = ended.lists;
    work = work;
    counts = turns.counts ∙ ended.counts;
    each_once = turns.each_once;
    sent = ap all_captured turns.sent ∙ ended.sent;
    ends = turns.ends ∙ ended.ends;
    commands = script_begun.commands;
    begins = script_begun.begins;
    rounds = rounds_stand plan count (round_count (length records)) outcome.journals ended.order ended.reclaimer ended.reclaims.caller
        (settled Reclaimer ended.reclaimer ended.reclaims) (owned Reclaimer ended.reclaimer ended.reclaims) ended.reclaimed;
    closes = all_went.closes;
  }

  -- ---- what was done in each turn

  of_runs : (worker : ℕ) → (below : worker < options.workers) →
      AreDeedsOfRuns (IsRunAt (IsRunIn plan count program worker outcome.journals) records) (work worker below).handled.before (runs_at ended.runs worker)
      (work worker below).after (work worker below).handled.chain (turns_of (frames_of records) options.workers worker ended.parts)
  unfolding work
  of_runs worker below =
      let did = ended.handled worker below in
      same_middles count plan program worker records outcome.journals did.handled.before (runs_at ended.runs worker) (ended.passes worker)
      (λ number within. (settled (Worker worker) (ended.passes worker) (ended.mine worker below) number within).begins) did.handled.chain
      (turns_of (frames_of records) options.workers worker ended.parts) did.of_runs

  commands_are : script_begun.commands.done ≡ ended.commands
  unfolding script_begun script_run
  commands_are = script_done plan program.maps options count updates script turns.size turns.last.noted ended.controller outcome.journals ended.order
      outcome.refused.items (first_deeds program.maps options updates (take (first_commands script) done)) plans are turns.size_is_served turns.serves script_run
      (settled Controller ended.controller ended.controls) (owned Controller ended.controller ended.controls) turns.refused (ended.begun.begun.late first_within)
      ∙ ended.begun.same

  done_in_turns : AreDoneInTurns program script options records outcome accounted (all_turns (starts_in script) (length records))
  done_in_turns =
      let begins = first_turns (starts_in script) (length records) in
      record {
        done = ended.parts;
        turns_are = all_went.went.turns_are;
        order_is = ended.order_is;
        each = subst (λ (list : List CommandDone). AreTurnsDone plan program.maps options count records list ended.parts) (sym commands_are) ended.each_part;
        of_runs = of_runs;
        later = begins.0;
        begins = begins.1;
      }

  in_turn_order : IsInTurnOrder program script options records outcome accounted
  in_turn_order = record {
    turns = turns;
    begun = set.order';
    by_controller = subst (AreDeedsBy Controller) (sym (set.more.more ∙ append-nil set.more.deeds)) set.more.made_by;
    begun_is = λ number within. sym (set.stands.left.written number within);
    through = all_went.went.through;
  }

  abbrev exact : IsExact program script options records outcome
  exact = record { accounted = accounted; in_order = in_turn_order }

  -- and with it what was done in each turn
  exact_in_turns : IsDoneInTurns program script options records outcome
  exact_in_turns = record { exact = exact; done = done_in_turns }

pub turns_are_accounted : WritesOwnSessions → WritesRefusedOwnSessions → TurnsAreAccounted
turns_are_accounted writes writes_refused program script options records outcome are turns =
    exact program script options records outcome are turns writes writes_refused

turns_are_done : WritesOwnSessions → WritesRefusedOwnSessions → (program : Program) (script : List Command) (options : Options) (records : List Sent)
    (outcome : Outcome) → AreOptions program.maps options → IsInTurn program script options records outcome →
    IsDoneInTurns program script options records outcome
turns_are_done writes writes_refused program script options records outcome are turns =
    exact_in_turns program script options records outcome are turns writes writes_refused

-- so the list of events comes in the turns
pub events_come_in_turns : WritesOwnSessions → WritesRefusedOwnSessions → (verified : Verified) → ReplaysInTurnsAreListed verified → EventsComeInTurns verified
events_come_in_turns writes writes_refused verified are_listed script options records outcome fit captured sized turns =
    let done = turns_are_done writes writes_refused (program_of verified options.shards) script options records outcome fit turns in
    record {
      exact = done.exact;
      listed = are_listed script options records outcome (all_turns (starts_in script) (length records)) fit captured sized done.exact.accounted done.done;
    }
