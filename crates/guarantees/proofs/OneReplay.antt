-- The replay that the headline is of, as one list of events: what is begun, called and gone over in it, and what comes of it.
use Rattle.std.proofs.Common.{◌≡◌, ℕ, zero, suc, ◌<◌, ◌≤◌, ◌==◌, Bool, true, false, not, ◌&&◌, nat_lt, List, [], ◌∷◌, ◌++◌, length, reverse, cond, take, drop, Some, refl, sym, ◌∙◌, ap, subst, append_assoc, arith}
use Rattle.std.specs.Prelude.{map, filter, slice_get, if◌then◌else◌}
use Rattle.std.specs.List.{AllByRecursion, flat_map}
use Rattle.std.proofs.lemmas.Bool.Decides.{nat_tests}
use Rattle.std.proofs.lemmas.List.{length-map, reverse-append, reverse-reverse}
use Rattle.ebpf_decode.specs.declared.map.MapDef.{MapDef}
use Rattle.semantics.specs.declared.call.Call.{Call}
use Rattle.wire.specs.FrameView.{FrameView}
use Rattle.wire.specs.declared.records.Sent.{Sent}
use Rattle.semantics.specs.declared.call.Caller.TheVariants.{Controller, Reclaimer}
use Rattle.semantics.specs.declared.options.Options.{Options}
use Rattle.semantics.specs.declared.plan.ShardPlan.{ShardPlan}
use Rattle.semantics.specs.ShardPlan.{AreOptions}
use Rattle.semantics.specs.History.{shard_of_call}
use Rattle.semantics.specs.Safety.{IsSafeImage}
use Rattle.semantics.specs.System.{Setting, SystemEvent, Controls, Idle}
use Rattle.verifier.specs.Verified.{Verified}
use Rattle.machine.specs.declared.exit.Stop.{Stop}
use Rattle.machine.specs.declared.exit.Stop.TheVariants.{JournalFull}
use Rattle.machine.specs.declared.moment.Moment.{Moment}
use Rattle.machine.specs.Running.{program_of}
use Rattle.journals.specs.JournalsView.{JournalsView, entries_at}
use Rattle.shards.specs.declared.deeds.Deed.{Deed}
use Rattle.shards.specs.Deeds.{shard_of_deed, deeds_of}
use Rattle.shards.specs.declared.deeds.OrderPart.TheVariants.{ByCaller}
use Rattle.shards.specs.Passes.{PassView}
use Rattle.control.specs.Controlling.{opened_controller}
use Rattle.control.specs.declared.command.Command.{Command}
use Rattle.control.specs.ScriptText.{CommandFits}
use Rattle.actors.specs.declared.outcome.Outcome.{Outcome}
use Rattle.actors.specs.declared.runner.FrameFate.{FrameFate}
use Rattle.actors.specs.declared.runner.FrameFate.TheVariants.{Aborted, Dropped, Passed, Sent as IsSent}
use Rattle.actors.specs.declared.runner.Ran.{Ran}
use Rattle.actors.specs.declared.runner.RunEnd.{RunEnd}
use Rattle.actors.specs.declared.runner.RunEnd.TheVariants.{Stopped as WasStopped, Exited as HasExited}
use Rattle.actors.specs.Accounted.{runs_in_chain, runs_in_work, IsAccounted}
use Rattle.actors.specs.Accounts.{runs_at, verdict_for}
use Rattle.actors.specs.Commands.{AnsweredUpdate, CommandDone, all_set, made_deeds, command_deeds, commands_deeds}
use Rattle.actors.specs.Parts.{round_count as rounds_for, first_commands}
use Rattle.actors.specs.Rounds.{keyed_below}
use Rattle.actors.specs.RunJobs.{records_of}
use Rattle.actors.specs.RunsInOrder.{IsRunAt, IsChainOfRuns}
use Rattle.actors.specs.RunsOverShards.{IsRunIn}
use Rattle.actors.specs.Shares.{frames_of, frame_at, is_short, worker_of_frame, share, captured_of}
use Rattle.semantics.specs.Events.{Ending, Exited, Stopped, begun_by}
use Rattle.guarantees.specs.RunsInList.{moment_of, IsOfSystem, AreOfSystem, moves_of_runs}
use Rattle.guarantees.specs.Headline.{Headline}
use Rattle.guarantees.specs.Merging.{events_of}
use Rattle.guarantees.specs.HeadlineOf.{HeadlineOf, ReplaysKeepHeadline}
use Rattle.guarantees.proofs.LastRound.{ends_with_round}
use Rattle.actors.specs.Captured.{IsCaptured}
use Rattle.semantics.specs.Replay.{Captured, RecordEnd, IsReplay, first_calls, input_of, is_run_by, runner_of, keyed_shards, rounds_over, shard_count, frames_sent}
use Rattle.guarantees.specs.ReplayOf.{calls_made, command_calls, asked_of, totals_in, result_of}
use Rattle.guarantees.specs.Steps.{Move}
use Rattle.guarantees.specs.SystemLaws.{RunsAreOfTheSystem, StoppedRunsAreOfTheSystem}
use Rattle.guarantees.specs.SystemRuns.{setting_of, HasStoppedInSystem}
use Rattle.guarantees.proofs.AnswerLemmas.{begun_among}
use Rattle.actors.proofs.shared.PutLemmas.{worker_below}
use Rattle.guarantees.proofs.DeedAnswers.{heard_is, all_askable, calls_are, answers_are, made_as_many, commands_as_many, keyed_are, rounds_are}
use Rattle.guarantees.proofs.EndLemmas.{Walk}
use Rattle.guarantees.proofs.HeadlineRuns.{are_of_system, moves, moves_of_work, order_is, of_accounted}
use Rattle.guarantees.specs.InParts.{call_of_deed}
use Rattle.guarantees.proofs.Heard.{heard, is_heard, answer_of_deed}
use Rattle.guarantees.proofs.Merge.{IsListWithEnds, IsListFirst, AreControllers, one_list_first}
use Rattle.guarantees.proofs.RecordEnds.{first_all, placed, picked, IsEndingOf, IsRunOfRecord, AreRunsEnded, all_ends, runners_are, totals_are, told_are, sent_are, ends_are, share_is}
use Rattle.guarantees.proofs.RunEnds.{ending_at_stop, ending_of, endings_of, captured_in, walk_of, begun_in}
use Rattle.guarantees.proofs.SizedUpdates.{commands_may_look}

-- ---- how a run ended, in both words

stopped_so : (setting : Setting) (worker : ℕ) (moment : Moment) (frame : List ℕ) (plan : ℕ → ShardPlan) (count : ℕ) (before after : PassView)
    (kept_back : FrameView) (stop : Stop) → (stopped : HasStoppedInSystem setting worker moment frame plan count before after kept_back stop) →
    (shard : ℕ) × (ending_at_stop setting worker moment frame plan count before after kept_back stop stopped ≡ Stopped shard)
unfolding ending_at_stop
stopped_so setting worker moment frame plan count before after kept_back (JournalFull shard) stopped = (shard_of_call stopped.of_system.refused, refl)

same_some : (one other : ℕ) → Some one ≡ Some other → one ≡ other
same_some one other same = cc

module _ (verified : Verified) (options : Options) (plan : ℕ → ShardPlan) (count worker : ℕ) (journals : JournalsView) where
  abbrev IsIn : Sent → PassView → RunEnd → PassView → Type 0
  IsIn captured before end after = IsRunIn plan count (program_of verified options.shards) worker journals captured before end after

  abbrev IsOf : (captured : Sent) (before : PassView) (end : RunEnd) (after : PassView) → IsIn captured before end after → Type 0
  IsOf captured before end after run = IsOfSystem verified options plan count worker journals captured before end after run

  exited_so : (captured : Sent) (before : PassView) (steps : ℕ) (fate : FrameFate) (after : PassView) →
      (run : IsIn captured before (HasExited steps fate) after) (of_system : IsOf captured before (HasExited steps fate) after run) →
      run.verdict ≡ verdict_for fate →
      Exited run.verdict of_system.last.frame.bytes of_system.last.steps ≡ Exited (verdict_for fate) of_system.last.frame.bytes steps
  exited_so captured before steps fate after run of_system verdict =
      λ i. Exited (verdict i) of_system.last.frame.bytes (sym (same_some steps run.steps run.counted ∙ of_system.counted) i)

  told_so : (captured : Sent) (before : PassView) (end : RunEnd) (after : PassView) →
      (run : IsIn captured before end after) (of_system : IsOf captured before end after run) →
      IsEndingOf captured end (ending_of verified options plan count worker journals captured before end after run of_system)
  unfolding ending_of
  told_so captured before WasStopped after run of_system =
      stopped_so (setting_of verified options) worker (moment_of captured worker) captured.bytes.items plan count before after run.frame run.stop of_system
  told_so captured before (HasExited steps Aborted) after run of_system =
      (of_system.last.frame.bytes, exited_so captured before steps Aborted after run of_system run.told, tt)
  told_so captured before (HasExited steps Dropped) after run of_system =
      (of_system.last.frame.bytes, exited_so captured before steps Dropped after run of_system run.told, tt)
  told_so captured before (HasExited steps Passed) after run of_system =
      (of_system.last.frame.bytes, exited_so captured before steps Passed after run of_system run.told, tt)
  told_so captured before (HasExited steps (IsSent out)) after run of_system = (
    of_system.last.frame.bytes,
    exited_so captured before steps (IsSent out) after run of_system run.told.0,
    (run.told.1.seconds, run.told.1.micros, run.told.1.bytes_are ∙ ap (λ (frame : FrameView). frame.bytes) of_system.sent_is),
  )

  -- ---- the runs of a worker, by their places

  module _ (records : List Sent) where
    abbrev IsRun : PassView → Ran → PassView → Type 0
    IsRun = IsRunAt (IsRunIn plan count (program_of verified options.shards) worker journals) records

    abbrev AreOf : (before : PassView) (runs : List Ran) (after : PassView) → IsChainOfRuns IsRun before runs after → Type 0
    AreOf before runs after chain =
        AreOfSystem verified options plan count worker journals records (runs_in_chain IsRun before runs after chain)

    abbrev endings : (before : PassView) (runs : List Ran) (after : PassView) (chain : IsChainOfRuns IsRun before runs after) →
        AreOf before runs after chain → List Ending
    endings before runs after chain are =
        endings_of verified options plan count worker journals records (runs_in_chain IsRun before runs after chain) are

    run_at : (before : PassView) (runs : List Ran) (after : PassView) (chain : IsChainOfRuns IsRun before runs after) →
        (are : AreOf before runs after chain) → (place number : ℕ) → slice_get (records_of runs) place ≡ Some number →
        IsRunOfRecord records runs (endings before runs after chain are) place number
    unfolding endings_of
    run_at before [] after chain are place number there = absurd cc
    run_at before (ran ∷ later) after chain are zero number there =
        let same : ran.number ≡ number = cc there in
        record {
          end = ran.end;
          ends_so = refl;
          sent = chain.1.sent;
          known = ap (slice_get records) (sym same) ∙ chain.1.known;
          ending = ending_of verified options plan count worker journals chain.1.sent before ran.end chain.0 chain.1.run are.0;
          there = refl;
          told = told_so chain.1.sent before ran.end chain.0 chain.1.run are.0;
        }
    run_at before (ran ∷ later) after chain are (suc place) number there =
        let rest = run_at chain.0 later after chain.2 are.1 place number there in
        record {
          end = rest.end;
          ends_so = rest.ends_so;
          sent = rest.sent;
          known = rest.known;
          ending = rest.ending;
          there = rest.there;
          told = rest.told;
        }

    as_many : (before : PassView) (runs : List Ran) (after : PassView) (chain : IsChainOfRuns IsRun before runs after) →
        (are : AreOf before runs after chain) → length (endings before runs after chain are) ≡ length (records_of runs)
    unfolding endings_of
    as_many before [] after chain are = refl
    as_many before (ran ∷ later) after chain are = ap suc (as_many chain.0 later after chain.2 are.1)

    captured_are : (before : PassView) (runs : List Ran) (after : PassView) (chain : IsChainOfRuns IsRun before runs after) →
        captured_in verified options plan count worker journals records (runs_in_chain IsRun before runs after chain) ≡ picked records (records_of runs)
    unfolding captured_in
    captured_are before [] after chain = refl
    captured_are before (ran ∷ later) after chain =
        ap (λ (list : List Captured). captured_of chain.1.sent ∷ list) (captured_are chain.0 later after chain.2)
        ∙ ap (λ (list : List Sent). map captured_of list ++ picked records (records_of later)) (sym (placed records ran.number chain.1.sent chain.1.known))

-- ---- workers that there are not run nothing

not_below : (workers worker one : ℕ) → one < workers → workers ≤ worker → (one == worker) ≡ false
not_below workers worker one below past = grind (arith, nat_tests, below, past)

no_share : (frames : List (List ℕ)) (workers worker count : ℕ) → 0 < workers → workers ≤ worker → share frames workers worker count ≡ []
no_share frames workers worker zero some past = refl
no_share frames workers worker (suc count) some past =
    ap (λ (test : Bool). if not (is_short (frame_at frames count)) && test then share frames workers worker count ++ count ∷ []
    else share frames workers worker count)
    (not_below workers worker (worker_of_frame (frame_at frames count) workers) (worker_below (frame_at frames count) workers some) past)
    ∙ none (not (is_short (frame_at frames count))) (share frames workers worker count)
    ∙ no_share frames workers worker count some past
  where
    none : (test : Bool) (list : List ℕ) → (if test && false then list ++ count ∷ [] else list) ≡ list
    none true list = refl
    none false list = refl

-- ---- what the order begins with

all_chosen : (test : Deed → Bool) (deeds : List Deed) → AllByRecursion (λ (deed : Deed). test deed ≡ true) (filter test deeds)
all_chosen test [] = tt
all_chosen test (deed ∷ deeds) = by_test (test deed) refl (all_chosen test deeds) where
  by_test : (is : Bool) → test deed ≡ is → AllByRecursion (λ (one : Deed). test one ≡ true) (filter test deeds) →
      AllByRecursion (λ (one : Deed). test one ≡ true) (cond is (deed ∷ filter test deeds) (filter test deeds))
  by_test true is rest = (is, rest)
  by_test false is rest = rest

all_left : (P : Deed → Type 0) (first later : List Deed) → AllByRecursion P (first ++ later) → AllByRecursion P first
all_left P [] later all = tt
all_left P (deed ∷ first) later all = (all.0, all_left P first later all.1)

parted_commands : (maps : List MapDef) (options : Options) (done : List CommandDone) (n : ℕ) →
    commands_deeds maps options done ≡ commands_deeds maps options (take n done) ++ commands_deeds maps options (drop n done)
parted_commands maps options done zero = refl
parted_commands maps options [] (suc n) = refl
parted_commands maps options (one ∷ done) (suc n) =
    ap (λ (list : List Deed). command_deeds maps options one ++ list) (parted_commands maps options done n)
    ∙ sym (append_assoc (command_deeds maps options one) (commands_deeds maps options (take n done)) (commands_deeds maps options (drop n done)))

parted_deeds : (maps : List MapDef) (options : Options) (made : List AnsweredUpdate) (done : List CommandDone) (n : ℕ) →
    made_deeds maps options made ++ commands_deeds maps options done
    ≡ (made_deeds maps options made ++ commands_deeds maps options (take n done)) ++ commands_deeds maps options (drop n done)
parted_deeds maps options made done n =
    ap (λ (list : List Deed). made_deeds maps options made ++ list) (parted_commands maps options done n)
    ∙ sym (append_assoc (made_deeds maps options made) (commands_deeds maps options (take n done)) (commands_deeds maps options (drop n done)))

take_map : (f : CommandDone → List Call) (n : ℕ) (done : List CommandDone) → map f (take n done) ≡ take n (map f done)
take_map f zero done = refl
take_map f (suc n) [] = refl
take_map f (suc n) (one ∷ done) = ap (λ (list : List (List Call)). f one ∷ list) (take_map f n done)

pub map_both : (deeds : List Deed) → map (λ (call : Call). Controls call) (map call_of_deed deeds) ≡ map (λ (deed : Deed). Controls (call_of_deed deed)) deeds
map_both [] = refl
map_both (deed ∷ deeds) = ap (λ (list : List SystemEvent). Controls (call_of_deed deed) ∷ list) (map_both deeds)

-- ---- the whole replay

pub less : (worker workers : ℕ) → nat_lt worker workers ≡ true → worker < workers
less worker workers is = grind (arith, nat_tests, is)

module _ (ran : RunsAreOfTheSystem) (stopped : StoppedRunsAreOfTheSystem) (verified : Verified) (safe : IsSafeImage verified.maps verified.code)
    (script : List Command) (options : Options) (records : List Sent) (outcome : Outcome) (fit : AreOptions verified.maps options)
    (captured : AllByRecursion IsCaptured records) (sized : AllByRecursion CommandFits script)
    (accounted : IsAccounted (program_of verified options.shards) script options records outcome) where
  abbrev pub setting : Setting
  setting = setting_of verified options

  abbrev pub moved : ℕ → List Move
  moved = (moves ran stopped verified safe script options records outcome fit captured accounted).moves

  abbrev pub own_moves : (worker : ℕ) → nat_lt worker options.workers ≡ true → (below : worker < options.workers)
      × (moved worker
      ≡ moves_of_runs verified options accounted.plan accounted.count worker outcome.journals records (runs_in_work (accounted.work worker below))
      (are_of_system ran stopped verified safe script options records outcome fit captured accounted worker below))
  own_moves worker is = moves_of_work ran stopped verified safe script options records outcome fit captured accounted worker (less worker options.workers is)

  abbrev pub of_system : (worker : ℕ) (below : worker < options.workers) →
      AreOfSystem verified options accounted.plan accounted.count worker outcome.journals records (runs_in_work (accounted.work worker below))
  of_system = are_of_system ran stopped verified safe script options records outcome fit captured accounted

  -- how the runs of a worker ended
  unfoldable pub ends_if : (worker : ℕ) (test : Bool) → nat_lt worker options.workers ≡ test → List Ending
  ends_if worker true is =
      endings_of verified options accounted.plan accounted.count worker outcome.journals records
      (runs_in_work (accounted.work worker (own_moves worker is).0)) (of_system worker (own_moves worker is).0)
  ends_if worker false is = []

  unfoldable pub ends : ℕ → List Ending
  ends worker = ends_if worker (nat_lt worker options.workers) refl

  each_if : (worker : ℕ) (test : Bool) → (is : nat_lt worker options.workers ≡ test) → worker < options.workers → (place number : ℕ) →
      slice_get (records_of (runs_at accounted.runs worker)) place ≡ Some number →
      IsRunOfRecord records (runs_at accounted.runs worker) (ends_if worker test is) place number
  unfolding ends_if
  each_if worker true is below place number there =
      let own = (own_moves worker is).0 in
      let did = accounted.work worker own in
      run_at verified options accounted.plan accounted.count worker outcome.journals records did.handled.before (runs_at accounted.runs worker) did.after
      did.handled.chain (of_system worker own) place number there
  each_if worker false is below place number there = absurd (grind (arith, nat_tests, is, below))

  as_many_if : (worker : ℕ) (test : Bool) → (is : nat_lt worker options.workers ≡ test) →
      length (ends_if worker test is) ≡ length (share (frames_of records) options.workers worker (length records))
  unfolding ends_if
  as_many_if worker true is =
      let own = (own_moves worker is).0 in
      let did = accounted.work worker own in
      as_many verified options accounted.plan accounted.count worker outcome.journals records did.handled.before (runs_at accounted.runs worker) did.after
      did.handled.chain (of_system worker own)
      ∙ ap length did.handled.records_are
  as_many_if worker false is =
      let past : options.workers ≤ worker = grind (arith, nat_tests, is) in
      ap length (sym (no_share (frames_of records) options.workers worker (length records) fit.some_worker past))

  pub are_ended : AreRunsEnded records options.workers accounted.runs ends
  unfolding ends
  are_ended = record {
    some = fit.some_worker;
    shares = λ worker below. (accounted.work worker below).handled.records_are;
    each = λ worker below. each_if worker (nat_lt worker options.workers) refl below;
    as_many = λ worker. as_many_if worker (nat_lt worker options.workers) refl;
  }

  -- the worker's moves, with these ends, and what they begin
  walk_if : (worker : ℕ) (test : Bool) → (is : nat_lt worker options.workers ≡ test) →
      Walk setting accounted.count worker Idle (moved worker) (ends_if worker test is)
  unfolding ends_if
  walk_if worker true is =
      let own = own_moves worker is in
      subst (λ (list : List Move). Walk setting accounted.count worker Idle list (ends_if worker true is)) (sym own.1)
      (walk_of verified options accounted.plan accounted.count worker outcome.journals records (runs_in_work (accounted.work worker own.0))
      (of_system worker own.0))
  walk_if worker false is =
      let past : options.workers ≤ worker = grind (arith, nat_tests, is) in
      subst (λ (list : List Move). Walk setting accounted.count worker Idle list [])
      (sym ((moves ran stopped verified safe script options records outcome fit captured accounted).of_others worker past))
      (record { steps = refl; ends_are = refl })

  walks : (worker : ℕ) → Walk setting accounted.count worker Idle (moved worker) (ends worker)
  unfolding ends
  walks worker = walk_if worker (nat_lt worker options.workers) refl

  abbrev own_of : ℕ → Captured → Bool
  own_of worker one = is_run_by (λ frame. worker_of_frame frame options.workers) worker one

  share_in : (worker : ℕ) →
      picked records (share (frames_of records) options.workers worker (length records)) ≡ filter (own_of worker) (map captured_of records)
  share_in worker =
      share_is records options.workers accounted.runs ends are_ended worker (length records) (omega arith)
      ∙ ap (λ (list : List Sent). filter (own_of worker) (map captured_of list)) (first_all records)

  begun_is : (worker : ℕ) (test : Bool) → (is : nat_lt worker options.workers ≡ test) →
      begun_by worker (events_of (moved worker)) ≡ map (input_of worker) (filter (own_of worker) (map captured_of records))
  begun_is worker true is =
      let own = own_moves worker is in
      let did = accounted.work worker own.0 in
      ap (λ (list : List Move). begun_by worker (events_of list)) own.1
      ∙ begun_in verified options accounted.plan accounted.count worker outcome.journals records (runs_in_work did) (of_system worker own.0)
      ∙ ap (map (input_of worker))
      (captured_are verified options accounted.plan accounted.count worker outcome.journals records did.handled.before (runs_at accounted.runs worker)
      did.after did.handled.chain
      ∙ ap (picked records) did.handled.records_are ∙ share_in worker)
  begun_is worker false is =
      let past : options.workers ≤ worker = grind (arith, nat_tests, is) in
      ap (λ (list : List Move). begun_by worker (events_of list))
      ((moves ran stopped verified safe script options records outcome fit captured accounted).of_others worker past)
      ∙ ap (map (input_of worker))
      (ap (picked records) (sym (no_share (frames_of records) options.workers worker (length records) fit.some_worker past)) ∙ share_in worker)

  -- ---- the statement

  abbrev pub record_ends : List RecordEnd
  record_ends = all_ends (frames_of records) options.workers ends (length records)

  abbrev pub done : List CommandDone
  done = accounted.commands.done

  abbrev pub made : List AnsweredUpdate
  made = all_set outcome.updates.items

  abbrev pub controller_deeds : List Deed
  controller_deeds = made_deeds verified.maps options made ++ commands_deeds verified.maps options done

  pub heard_controller : heard accounted.plan Controller (reverse accounted.order) ≡ controller_deeds
  heard_controller =
      let by = accounted.commands.of_script in
      heard_is accounted.plan Controller accounted.order controller_deeds accounted.commands.did
      (all_askable accounted.plan verified.maps options made done
      (commands_may_look accounted.plan verified.maps options accounted.count by.size accounted.plans fit script sized by.serves by.noted done by.are_noted
      (opened_controller by.size) by.state by.are_done refl))

  -- what the order begins with
  abbrev first_done : List CommandDone
  first_done = take (first_commands script) done

  abbrev first : List Deed
  first = made_deeds verified.maps options made ++ commands_deeds verified.maps options first_done

  order_begins : reverse accounted.order ≡ first ++ reverse accounted.begins.0
  order_begins = ap (λ (list : List Deed). reverse list) accounted.begins.1 ∙ reverse-append accounted.begins.0 (reverse first)
      ∙ ap (λ (list : List Deed). list ++ reverse accounted.begins.0) (reverse-reverse first)

  first_heard : AreControllers accounted.plan first
  first_heard =
      let all : AreControllers accounted.plan controller_deeds = subst (AreControllers accounted.plan) heard_controller (all_chosen (is_heard accounted.plan Controller) (reverse accounted.order)) in
      all_left (λ (deed : Deed). is_heard accounted.plan Controller deed ≡ true) first (commands_deeds verified.maps options (drop (first_commands script) done))
      (subst (AreControllers accounted.plan) (parted_deeds verified.maps options made done (first_commands script)) all)

  abbrev list_first : IsListFirst setting accounted.plan accounted.count (λ number. entries_at outcome.journals number) moved ends first (reverse accounted.order)
  list_first = one_list_first setting accounted.plan accounted.count (λ number. entries_at outcome.journals number) moved ends first (reverse accounted.begins.0)
      (reverse accounted.order) first_heard order_begins (order_is ran stopped verified safe script options records outcome fit captured accounted) walks

  -- a list of events of these moves, these ends and this order
  abbrev pub IsListed : Type 0
  IsListed = IsListWithEnds setting accounted.plan accounted.count (λ number. entries_at outcome.journals number) moved ends (reverse accounted.order)

  abbrev pub AreFirstCalls : List SystemEvent → Type 0
  AreFirstCalls events =
      (later : List SystemEvent) ×
      (events ≡ map (λ (call : Call). Controls call) (first_calls (asked_of verified script options records outcome done)) ++ later)

  abbrev reclaimer_deeds : List Deed
  reclaimer_deeds = reverse (deeds_of (ByCaller Reclaimer) accounted.order)

  abbrev rounds : ℕ
  rounds = rounds_for (length records)

  reclaimer_is : map shard_of_deed (heard accounted.plan Reclaimer (reverse accounted.order)) ≡ rounds_over (keyed_below accounted.plan accounted.count) rounds
  reclaimer_is =
      let all = rounds_are setting accounted.plan accounted.count accounted.plans.each accounted.count rounds reclaimer_deeds (omega arith) accounted.rounds.did in
      ap (map shard_of_deed)
      (heard_is accounted.plan Reclaimer accounted.order reclaimer_deeds (sym (reverse-reverse (deeds_of (ByCaller Reclaimer) accounted.order))) all.may)
      ∙ all.shards_are

  are_first_calls : AreFirstCalls list_first.whole.list.events
  are_first_calls = (
    list_first.first.0,
    list_first.first.1
        ∙ ap (λ (list : List SystemEvent). list ++ list_first.first.0)
        (sym (map_both first)
        ∙ ap (λ (calls : List Call). map (λ (call : Call). Controls call) calls) (calls_are verified.maps options made first_done
        ∙ ap (λ (calls : List (List Call)). calls_made verified.maps options made ++ flat_map (λ list. list) calls)
        (take_map (command_calls verified.maps options) (first_commands script) done))),
  )

  pub are_replay : (with_ends : IsListed) → AreFirstCalls with_ends.list.events →
      IsReplay setting (asked_of verified script options records outcome done) (result_of outcome done record_ends) with_ends.list.events
  are_replay with_ends calls_first = record {
    can = with_ends.list.can;
    begun = λ worker. begun_among worker with_ends.list.events ∙ ap (begun_by worker) (with_ends.list.of_each worker)
        ∙ begun_is worker (nat_lt worker options.workers) refl;
    called = with_ends.called ∙ ap (map call_of_deed) heard_controller ∙ calls_are verified.maps options made done;
    later = calls_first.0;
    first = calls_first.1;
    gone_over = with_ends.gone_over ∙ reclaimer_is
        ∙ ap (λ (shards : List ℕ). rounds_over shards rounds)
        (keyed_are setting accounted.plan accounted.count accounted.plans.each accounted.count (omega arith)
        ∙ ap (keyed_shards setting) accounted.plans.count_is)
        ∙ ap (λ (number : ℕ). rounds_over (keyed_shards setting (shard_count setting)) (rounds_for number)) (sym (length-map records captured_of));
    runners = runners_are records options.workers accounted.runs ends are_ended (length records) (omega arith)
        ∙ ap (λ (list : List Sent). map (runner_of (λ frame. worker_of_frame frame options.workers)) (map captured_of list)) (first_all records);
    ended = λ worker. with_ends.ended worker ∙ sym (ends_are records options.workers accounted.runs ends are_ended worker);
    totals = ap totals_in accounted.counts ∙ totals_are records options.workers accounted.runs ends are_ended (length records) (omega arith);
    sent = accounted.sent
        ∙ sent_are records options.workers accounted.runs ends are_ended (length records) (omega arith)
        ∙ ap (λ (list : List Sent). frames_sent (map captured_of list) record_ends) (first_all records);
    answers = with_ends.answers ∙ ap (map answer_of_deed) heard_controller ∙ answers_are verified.maps options made done;
    of_calls = record { first = made_as_many verified.maps options made; each = commands_as_many verified.maps options done };
    left = λ shard below. with_ends.list.histories shard (let same = accounted.plans.count_is in omega (arith, same, below));
    idle = with_ends.list.idle;
  }

  abbrev pub kept : (with_ends : IsListed) → AreFirstCalls with_ends.list.events → Headline verified script options records outcome
  kept with_ends calls_first = record {
    safe = safe;
    replay = record {
      options_fit = fit;
      done = done;
      of_script = accounted.commands.of_script;
      ends = record_ends;
      are_told = told_are records options.workers accounted.runs ends are_ended (length records) (omega arith) ∙ sym accounted.ends;
      journals_are = record {
        maps_are = accounted.maps;
        options_are = accounted.options_are;
        count = accounted.count_is ∙ accounted.plans.count_is;
      };
      events = with_ends.list.events;
      are = are_replay with_ends calls_first;
    };
  }

  abbrev pub headline_of : (with_ends : IsListed) → AreFirstCalls with_ends.list.events → HeadlineOf verified script options records outcome accounted
  headline_of with_ends calls_first = record {
    headline = kept with_ends calls_first;
    same_commands = refl;
    same_events = of_accounted ran stopped verified safe script options records outcome fit captured accounted with_ends.list;
    closes = ends_with_round (setting_of verified options) accounted.plan accounted.count accounted.order with_ends.list.events accounted.closes
        with_ends.list.written;
  }

pub replays_keep_headline : RunsAreOfTheSystem → StoppedRunsAreOfTheSystem → (verified : Verified) → IsSafeImage verified.maps verified.code →
    ReplaysKeepHeadline verified
replays_keep_headline ran stopped verified safe script options records outcome fit captured sized accounted =
    headline_of ran stopped verified safe script options records outcome fit captured sized accounted
    (list_first ran stopped verified safe script options records outcome fit captured sized accounted).whole
    (are_first_calls ran stopped verified safe script options records outcome fit captured sized accounted)
