-- What turns do, one after the other.
use Rattle.std.proofs.Common.{◌≡◌, ⊎_elim, inl, inr, ℕ, zero, suc, ◌+◌, ◌-◌, ◌*◌, ◌%◌, ◌<◌, ◌≤◌, Bool, true, false, nat_lt, List, [], ◌∷◌, ◌++◌, length, map, Some, refl, sym, ap, ◌∙◌, subst, arith, add-one}
use Rattle.std.specs.Prelude.{◌==◌, All, IsTrue, slice_get, slice_set, slice_index, slice_index_or, if◌then◌else◌, Result, Ok, Err, IfOk, IfErr, Option, None, OnErr}
use Rattle.std.specs.Coded.{le_prop}
use Rattle.std.proofs.Math.Logic.{∥∥₁_elim}
use Rattle.std.proofs.Math.Nat.{mul-le-mul_right}
use Rattle.std.proofs.lemmas.Bool.{cases_lt}
use Rattle.std.proofs.lemmas.Bool.Decides.{nat_tests}
use Rattle.std.proofs.lemmas.List.{length-set}
use Rattle.std.proofs.lemmas.Option.{get_or_from_slice_get}
use Rattle.ebpf_decode.specs.declared.map.MapDef.{MapDef}
use Rattle.ebpf_decode.specs.declared.version.Version.TheVariants.{V2}
use Rattle.wire.specs.FrameView.{FrameView}
use Rattle.wire.specs.declared.records.Sent.{Sent}
use Rattle.semantics.specs.declared.full.JournalFull.{JournalFull as FullJournal}
use Rattle.semantics.specs.declared.options.Options.{Options}
use Rattle.semantics.specs.declared.verdict.Verdict.{Verdict}
use Rattle.semantics.specs.MachineState.{MachineState}
use Rattle.semantics.specs.History.{IsLegalJournal}
use Rattle.semantics.specs.Program.{Program}
use Rattle.semantics.specs.ServedCalls.{IsKeyOf}
use Rattle.semantics.specs.ShardPlan.{AreOptions}
use Rattle.semantics.proofs.shared.ConditionLemmas.{bytes_test}
use Rattle.semantics.proofs.shared.ImageSizes.{image_sizes}
use Rattle.semantics.proofs.shared.PlanLemmas.{few_parts}
use Rattle.journals.specs.JournalsView.{AreImageMaps}
use Rattle.machine.specs.declared.exit.Exit.{Exit}
use Rattle.machine.specs.declared.exit.Stop.{Stop}
use Rattle.machine.specs.declared.exit.Stop.TheVariants.{JournalFull}
use Rattle.machine.specs.Running.{Ends, StopsSo}
use Rattle.map_port.specs.Served.{Maps, served_shard}
use Rattle.shard_core.specs.JournaledShard.{JournaledShard, opened_shard}
use Rattle.shards.specs.NewShards.{shard_at}
use Rattle.shards.specs.Seats.{no_plan}
use Rattle.shard_port.specs.Asking.{all_left}
use Rattle.shard_port.specs.PortView.{PortView, IsGivenBy, IsRefusedBy, IsPortReady, AreShardsOf, ServesMaps}
use Rattle.shard_port.specs.declared.plain.PlainPort.{PlainPort}
use Rattle.shard_port.specs.PlainPorts.{IsSamePort, PortGives, PortRefuses, maps_of, port_view}
use Rattle.shard_port.specs.PortLaws.{both_true}
use Rattle.shard_port.specs.Sessions.{CallsKeepServing, StaysOnePort}
use Rattle.shard_port.proofs.shared.Chains.{chain_of}
use Rattle.shard_port.proofs.shared.MayAskLemmas.{at_key, same_test}
use Rattle.control.specs.declared.command.Action.{Action}
use Rattle.control.specs.declared.command.Command.{Command}
use Rattle.control.specs.declared.fault.ControlFault.{ControlFault}
use Rattle.control.specs.Controlling.{ControllerState, refusal_of}
use Rattle.actors.specs.Actors.{numbers_from, AreDue}
use Rattle.actors.specs.Commands.{ServesScript}
use Rattle.semantics.specs.Replay.{is_keyed}
use Rattle.actors.proofs.shared.HandLemmas.{numbers_more}
use Rattle.actors.proofs.shared.Effects.{no_err, fault_in}
use Rattle.replay.specs.Turns.{Turn, TheCommand, TheRecord, TheRound, due_to, due_before, commands_between, rounds_at, turns_to, all_turns}
use Rattle.actors.specs.declared.runner.RunEnd.{RunEnd}
use Rattle.actors.specs.declared.runner.RunEnd.TheVariants.{Stopped, Exited}
use Rattle.replay.specs.InTurn.{worker_port, EndsInTurn, StopsInTurn, ServesTurns, may_update_at, IsAskedInTurn, IsReclaimedInTurn, IsPartOfRound, IsRoundTo, TurnState, IsSameSetting, IsTurn, AreTurns, IsExitInTurn, IsRunInTurn}

-- ---- lists

pub set_same : {A : Type 0} (xs : List A) (number : ℕ) (x : A) → slice_get xs number ≡ Some x → slice_set xs number x ≡ xs
set_same [] number x known = refl
set_same {A = A} (first ∷ rest) zero x known = let same : first ≡ x = cc in ap (λ (y : A). y ∷ rest) (sym same)
set_same {A = A} (first ∷ rest) (suc number) x known = ap (λ (list : List A). first ∷ list) (set_same rest number x known)

-- ---- a run

stop_stays : StaysOnePort → (program : Program) (start : MachineState) (port later : PlainPort) (frame : FrameView) (stop : Stop) →
    StopsSo PortGives PortRefuses program start port later frame stop → IsSamePort port later
stop_stays stays program start port later frame (JournalFull shard) stops =
    let first = stays port stops.middle stops.exchanges stops.chain in
    let last = stops.refused.same_port in
    record {
      same_shards = last.same_shards ∙ first.same_shards;
      same_maps = last.same_maps ∙ first.same_maps;
      same_options = last.same_options ∙ first.same_options;
      same_worker = last.same_worker ∙ first.same_worker;
    }

-- the port of a run is the same port after it, whether the run ended or stopped
pub run_stays : StaysOnePort → (program : Program) (start : MachineState) (port later : PlainPort) (frame : FrameView) (result : Result Exit Stop) →
    IfOk result (λ (exit : Exit). Ends PortGives program start port later exit.verdict exit.steps frame) →
    IfErr result (λ (stop : Stop). StopsSo PortGives PortRefuses program start port later frame stop) → IsSamePort port later
run_stays stays program start port later frame (Ok exit) ends stops = stays port later ends.exchanges ends.chain
run_stays stays program start port later frame (Err stop) ends stops = stop_stays stays program start port later frame stop stops

module _ (program : Program) (start : MachineState) (worker : ℕ) (before after : List JournaledShard) (port later : PlainPort)
    (same_shards : port.shards.now ≡ before) (same_worker : port.worker ≡ worker)
    (served : maps_of port ≡ record { maps = program.maps; shards = program.shards })
    (finished : after ≡ all_left later.worker later.shards.now)
  where
    abbrev seen : Maps → ℕ → List JournaledShard → PortView
    seen m w s = record { served = m; worker = w; shards = s }

    first_is : port_view port ≡ worker_port program worker before
    first_is =
        ap (λ (m : Maps). seen m port.worker port.shards.now) served
        ∙ ap (λ (w : ℕ). seen (record { maps = program.maps; shards = program.shards }) w port.shards.now) same_worker
        ∙ ap (λ (s : List JournaledShard). seen (record { maps = program.maps; shards = program.shards }) worker s) same_shards

    pub ends_in_turn : (verdict : Verdict) (steps : ℕ) (frame : FrameView) → Ends PortGives program start port later verdict steps frame →
        EndsInTurn program start worker before after verdict steps frame
    ends_in_turn verdict steps frame ends = record {
      last = port_view later;
      ends = subst (λ (first : PortView). Ends IsGivenBy program start first (port_view later) verdict steps frame) first_is (record {
        exchanges = ends.exchanges;
        chain = chain_of port_view PortGives IsGivenBy (λ one two call reply given. given.given) port later ends.exchanges ends.chain;
        last = ends.last;
        trace = ends.trace;
        steps_done = ends.steps_done;
        bounded = ends.bounded;
        frame_left = ends.frame_left;
      });
      left = finished;
    }

    pub stops_in_turn : (frame : FrameView) (stop : Stop) → StopsSo PortGives PortRefuses program start port later frame stop →
        StopsInTurn program start worker before after frame stop
    stops_in_turn frame (JournalFull shard) stops = record {
      last = port_view later;
      stops = subst (λ (first : PortView). StopsSo IsGivenBy IsRefusedBy program start first (port_view later) frame (JournalFull shard)) first_is (record {
        exchanges = stops.exchanges;
        middle = port_view stops.middle;
        chain = chain_of port_view PortGives IsGivenBy (λ one two call reply given. given.given) port stops.middle stops.exchanges stops.chain;
        call = stops.call;
        refused = stops.refused.refused;
        waiting = stops.waiting;
        trace = stops.trace;
        names_the_shard = stops.names_the_shard;
        frame_left = stops.frame_left;
      });
      left = finished;
    }

-- ---- shards of maps

pub ready_for : (maps : List MapDef) (options : Options) (shards : List JournaledShard) → AreImageMaps maps → AreOptions maps options →
    AreShardsOf maps options shards → IsPortReady maps options 0 shards
ready_for maps options shards are fit shards_are = record {
  few = are.few;
  sizes = image_sizes V2 maps are.allowed;
  are_options = fit;
  is_worker = (let some = fit.some_worker in omega (arith, some));
  are_shards = shards_are;
}

pub count_of : (maps : List MapDef) (options : Options) (shards : List JournaledShard) → ServesMaps maps options shards →
    length shards ≡ length maps * options.shards
count_of maps options shards serve =
    let up : length shards ≤ length maps * options.shards =
    ∥∥₁_elim serve le_prop (λ (are : AreShardsOf maps options shards). let n = are.count in omega (arith, n)) in
    let down : length maps * options.shards ≤ length shards =
    ∥∥₁_elim serve le_prop (λ (are : AreShardsOf maps options shards). let n = are.count in omega (arith, n)) in
    omega (arith, up, down)

-- the controller may make an update of a map that there is
pub may_make : (maps : List MapDef) (options : Options) (shards : List JournaledShard) (map : ℕ) (key value : List ℕ) (definition : MapDef) →
    IsPortReady maps options 0 shards → slice_get maps map ≡ Some definition → length key ≡ definition.key_size → length value ≡ definition.value_size →
    All (λ byte. byte < 256) key → All (λ byte. byte < 256) value →
    IsTrue (may_update_at (slice_get shards (served_shard (record { maps = maps; shards = options.shards }) map key)) key value)
may_make maps options shards map key value definition ready known key_size value_size bytes value_bytes =
    let of_map : IsKeyOf maps map key = record { definition = definition; known = known; key_size = key_size; bytes = bytes } in
    let at = at_key maps options 0 shards map key ready of_map in
    let same : definition ≡ at.shard.plan.definition = cc (known, at.definition) in
    let sized : length value ≡ at.shard.plan.definition.value_size = value_size ∙ ap (λ (one : MapDef). one.value_size) same in
    rw at.known (both_true _ _ (same_test at.shard.plan.number at.shard.plan.number refl)
    (both_true _ _ at.own_key (both_true _ _ (both_true _ _ (same_test _ _ sized) (bytes_test value value_bytes)) refl)))

-- ---- a round

reclaim_serves : CallsKeepServing → (maps : List MapDef) (options : Options) (number : ℕ) (before after : List JournaledShard) →
    ServesMaps maps options before → IsReclaimedInTurn number before after → ServesMaps maps options after
reclaim_serves keep maps options number before after serve asked = subst (ServesMaps maps options) (sym asked.written) (by_case asked.asked)
  where
    by_case : IsAskedInTurn asked.one asked.new → ServesMaps maps options (slice_set before number asked.new)
    by_case (inl (freed, is, legal)) =
        subst (λ (new : JournaledShard). ServesMaps maps options (slice_set before number new)) (sym is)
        (keep maps options before number asked.one _ serve asked.known tt (subst (λ (new : JournaledShard). IsLegalJournal asked.one.plan new.journal) is legal))
    by_case (inr (full, same)) =
        subst (λ (new : JournaledShard). ServesMaps maps options (slice_set before number new)) (sym same)
        (subst (ServesMaps maps options) (sym (set_same before number asked.one asked.known)) serve)

part_serves : CallsKeepServing → (maps : List MapDef) (options : Options) (keyed : Bool) (number : ℕ) (before after : List JournaledShard) →
    ServesMaps maps options before → IsPartOfRound keyed number before after → ServesMaps maps options after
part_serves keep maps options true number before after serve part = reclaim_serves keep maps options number before after serve part
part_serves keep maps options false number before after serve part = subst (ServesMaps maps options) (sym part) serve

pub round_serves : CallsKeepServing → (maps : List MapDef) (options : Options) (count : ℕ) (before after : List JournaledShard) →
    ServesMaps maps options before → IsRoundTo count before after → ServesMaps maps options after
round_serves keep maps options zero before after serve round = subst (ServesMaps maps options) (sym round) serve
round_serves keep maps options (suc number) before after serve round =
    part_serves keep maps options (is_keyed (shard_at round.0 number).plan.definition.kind) number round.0 after
    (round_serves keep maps options number before round.0 serve round.1) round.2

pub part_count : (keyed : Bool) (number : ℕ) (before after : List JournaledShard) → IsPartOfRound keyed number before after → length after ≡ length before
part_count true number before after part =
    ap (λ (l : List JournaledShard). length l) part.written ∙ length-set before number part.new
part_count false number before after part = ap (λ (l : List JournaledShard). length l) part

pub round_more : (number : ℕ) (before middle after : List JournaledShard) → IsRoundTo number before middle →
    IsPartOfRound (is_keyed (shard_at middle number).plan.definition.kind) number middle after → IsRoundTo (number + 1) before after
round_more number before middle after round part = rw add-one (middle, round, part)

-- ---- settings

pub setting_stays : (state : TurnState) → IsSameSetting state state
setting_stays state = record { maps = refl; options = refl; size = refl }

pub setting_more : (before middle after : TurnState) → IsSameSetting before middle → IsSameSetting middle after → IsSameSetting before after
setting_more before middle after first second = record {
  maps = second.maps ∙ first.maps;
  options = second.options ∙ first.options;
  size = second.size ∙ first.size;
}

pub still_serves : (script : List Command) (before after : TurnState) → IsSameSetting before after → ServesScript before.all.maps before.controller.size script →
    ServesScript after.all.maps after.controller.size script
still_serves script before after same serves =
    subst (λ (n : ℕ). ServesScript after.all.maps n script) (sym same.size)
    (subst (λ (maps : List MapDef). ServesScript maps before.controller.size script) (sym same.maps) serves)

-- ---- turn after turn

module _ (program : Program) (script : List Command) (records : List Sent) (workers : ℕ) where
  abbrev Turned : List Turn → TurnState → TurnState → Type 0
  Turned = AreTurns program script records workers

  pub turns_append : (first second : List Turn) (before middle after : TurnState) → Turned first before middle → Turned second middle after →
      Turned (first ++ second) before after
  turns_append [] second before middle after one two = subst (λ (state : TurnState). Turned second state after) one two
  turns_append (turn ∷ first) second before middle after one two = (one.0, one.1, turns_append first second one.0 middle after one.2 two)

  pub turns_more : (turns : List Turn) (turn : Turn) (before middle after : TurnState) → Turned turns before middle → IsTurn program script records workers turn middle after →
      Turned (turns ++ turn ∷ []) before after
  turns_more turns turn before middle after are one = turns_append turns (turn ∷ []) before middle after are (after, one, refl)

-- ---- commands

commands_push : (numbers : List ℕ) (number : ℕ) → map (λ (n : ℕ). TheCommand n) (numbers ++ number ∷ []) ≡ map (λ (n : ℕ). TheCommand n) numbers ++ TheCommand number ∷ []
commands_push [] number = refl
commands_push (first ∷ rest) number = ap (λ (list : List Turn). TheCommand first ∷ list) (commands_push rest number)

pub between_none : (from : ℕ) → commands_between from from ≡ []
between_none from = let none : from - from ≡ 0 = omega arith in ap (λ (n : ℕ). map (λ (number : ℕ). TheCommand number) (numbers_from from n)) none

pub between_more : (from number : ℕ) → from ≤ number → commands_between from (number + 1) ≡ commands_between from number ++ TheCommand number ∷ []
between_more from number up =
    let more : number + 1 - from ≡ suc (number - from) = omega (arith, up) in
    let last : from + (number - from) ≡ number = omega (arith, up) in
    ap (λ (n : ℕ). map (λ (one : ℕ). TheCommand one) (numbers_from from n)) more
    ∙ ap (λ (list : List ℕ). map (λ (one : ℕ). TheCommand one) list) (numbers_more from (number - from))
    ∙ commands_push (numbers_from from (number - from)) (from + (number - from))
    ∙ ap (λ (n : ℕ). commands_between from number ++ TheCommand n ∷ []) last

-- ---- which commands are due

first_and_later : (start : ℕ) (later : List ℕ) (number place count : ℕ) → start ≤ number → place < suc count →
    ((k : ℕ) → k < count → slice_index later k ≤ number) → slice_index (start ∷ later) place ≤ number
first_and_later start later number zero count first below rest = first
first_and_later start later number (suc place) count first below rest = rest place (omega (arith, below))

due_place : (starts : List ℕ) (number place : ℕ) → place < due_to starts number → slice_index starts place ≤ number
due_place [] number place within = absurd (omega (arith, within))
due_place (start ∷ later) number place within = by_test (nat_lt number start) refl within (λ k below. due_place later number k below)
  where
    by_test : (early : Bool) → nat_lt number start ≡ early → place < (if early then 0 else suc (due_to later number)) →
        ((k : ℕ) → k < due_to later number → slice_index later k ≤ number) → slice_index (start ∷ later) place ≤ number
    by_test true is below rest = absurd (omega (arith, below))
    by_test false is below rest =
        let first : start ≤ number = grind (arith, nat_tests) in
        first_and_later start later number place (due_to later number) first below rest

pub before_place : (starts : List ℕ) (number place : ℕ) → place < due_before starts number → slice_index starts place ≤ number
before_place starts zero place within = absurd (omega (arith, within))
before_place starts (suc number) place within = (let there = due_place starts number place within in omega (arith, there))

due_all : (starts : List ℕ) (number end : ℕ) → end ≤ length starts → ((place : ℕ) → place < end → slice_index starts place ≤ number) →
    (end < length starts → number < slice_index starts end) → end ≡ due_to starts number
due_all [] number end within due early = omega (arith, within)
due_all (start ∷ later) number zero within due early =
    let first : number < start = early (omega arith) in
    let is : nat_lt number start ≡ true = grind (arith, nat_tests, first) in
    rw is refl
due_all (start ∷ later) number (suc end) within due early =
    let first : start ≤ number = due zero (omega arith) in
    let is : nat_lt number start ≡ false = grind (arith, nat_tests, first) in
    let rest : end ≡ due_to later number =
    due_all later number end (omega (arith, within)) (λ place below. due (suc place) (omega (arith, below))) (λ below. early (omega (arith, below))) in
    rw is (ap suc rest)

pub due_is : (starts : List ℕ) (number next end : ℕ) → next ≡ due_before starts number → AreDue starts next number end → end ≡ due_to starts number
due_is starts number next end is due =
    due_all starts number end due.within
    (λ place below. ⊎_elim
    (λ (earlier : place < next). before_place starts number place (subst (λ (n : ℕ). place < n) is earlier))
    (λ (later : next ≤ place). due.due place later below)
    (cases_lt place next))
    due.early

-- ---- one record more

pub record_more : (program : Program) (script : List Command) (records : List Sent) (workers : ℕ) (starts : List ℕ) (number next end : ℕ)
    (first before one two after : TurnState) → next ≡ due_before starts number → end ≡ due_to starts number →
    AreTurns program script records workers (turns_to starts number) first before →
    AreTurns program script records workers (commands_between next end) before one →
    IsTurn program script records workers (TheRecord number) one two →
    AreTurns program script records workers (rounds_at (number + 1)) two after →
    AreTurns program script records workers (turns_to starts (number + 1)) first after
record_more program script records workers starts number next end first before one two after next_is end_is were commands ran round =
    let due : AreTurns program script records workers (commands_between (due_before starts number) (due_to starts number)) before one =
    subst (λ (n : ℕ). AreTurns program script records workers (commands_between n (due_to starts number)) before one) next_is
    (subst (λ (n : ℕ). AreTurns program script records workers (commands_between next n) before one) end_is commands) in
    let last : AreTurns program script records workers (TheRecord number ∷ rounds_at (suc number)) one after =
    (two, ran, subst (λ (n : ℕ). AreTurns program script records workers (rounds_at n) two after) (add-one number) round) in
    subst (λ (n : ℕ). AreTurns program script records workers (turns_to starts n) first after) (sym (add-one number))
    (turns_append program script records workers (turns_to starts number)
    (commands_between (due_before starts number) (due_to starts number) ++ TheRecord number ∷ rounds_at (suc number)) first before after were
    (turns_append program script records workers (commands_between (due_before starts number) (due_to starts number)) (TheRecord number ∷ rounds_at (suc number))
    before one after due last))

pub all_taken : (program : Program) (script : List Command) (records : List Sent) (workers : ℕ) (starts : List ℕ) (count next end : ℕ)
    (first before one after : TurnState) → next ≡ due_before starts count → end ≡ length starts →
    AreTurns program script records workers (turns_to starts count) first before →
    AreTurns program script records workers (commands_between next end) before one →
    IsTurn program script records workers TheRound one after →
    AreTurns program script records workers (all_turns starts count) first after
all_taken program script records workers starts count next end first before one after next_is end_is were commands round =
    let left : AreTurns program script records workers (commands_between (due_before starts count) (length starts)) before one =
    subst (λ (n : ℕ). AreTurns program script records workers (commands_between n (length starts)) before one) next_is
    (subst (λ (n : ℕ). AreTurns program script records workers (commands_between next n) before one) end_is commands) in
    turns_append program script records workers (turns_to starts count)
    (commands_between (due_before starts count) (length starts) ++ TheRound ∷ []) first before after were
    (turns_more program script records workers (commands_between (due_before starts count) (length starts)) TheRound before one after left round)

-- ---- few shards

pub few_shards : (maps : List MapDef) (options : Options) (shards : List JournaledShard) → ServesTurns maps options shards → length shards ≤ 128
few_shards maps options shards serves =
    let counted : length shards ≡ length maps * options.shards = count_of maps options shards serves.serve in
    let few : length maps ≤ 16 = serves.maps_are.few in
    let at_most : length maps * options.shards ≤ 16 * options.shards = mul-le-mul_right options.shards few in
    let parts : options.shards ≤ 8 = few_parts maps options serves.options_fit in
    omega (arith, counted, at_most, parts)

-- ---- one shard of a list

pub part_skipped : (shards : List JournaledShard) (number : ℕ) (one : JournaledShard) → slice_get shards number ≡ Some one →
    is_keyed one.plan.definition.kind ≡ false →
    IsPartOfRound (is_keyed (shard_at shards number).plan.definition.kind) number shards (slice_set shards number one)
part_skipped shards number one known off =
    let one_is : shard_at shards number ≡ one = get_or_from_slice_get shards number one (opened_shard no_plan) known in
    subst (λ (keyed : Bool). IsPartOfRound keyed number shards (slice_set shards number one))
    (sym (ap (λ (s : JournaledShard). is_keyed s.plan.definition.kind) one_is ∙ off)) (set_same shards number one known)

pub unchanged_at : {A : Type 0} (shards : List JournaledShard) (number : ℕ) (one new : JournaledShard) (result : Result A FullJournal) →
    slice_get shards number ≡ Some one → OnErr result (new ≡ one) → OnErr result (slice_set shards number new ≡ shards)
unchanged_at shards number one new (Ok answer) known same = tt
unchanged_at shards number one new (Err fault) known same =
    ap (λ (s : JournaledShard). slice_set shards number s) same ∙ set_same shards number one known

-- ---- a round, if it is its time

pub round_in_time : (program : Program) (script : List Command) (records : List Sent) (workers number : ℕ) (before after : TurnState) (test : Bool) →
    (number % 64 == 0) ≡ test → AreTurns program script records workers (if test then TheRound ∷ [] else []) before after →
    AreTurns program script records workers (rounds_at number) before after
round_in_time program script records workers number before after test is turns =
    subst (λ (due : Bool). AreTurns program script records workers (if due then TheRound ∷ [] else []) before after) (sym is) turns

-- ---- what refuses a command first

pub none_first : {A : Type 0} (state : ControllerState) (action : Action) (x : A) →
    ((fault : ControlFault) → refusal_of state action ≡ Some fault → ◌≡◌ {A = Result A ControlFault} (Ok x) (Err fault)) →
    (fault : ControlFault) → refusal_of state action ≡ Some fault → ◌≡◌ {A = Option ControlFault} None (Some fault)
none_first state action x first fault is = absurd (no_err x fault (first fault is))

pub some_first : {A : Type 0} (state : ControllerState) (action : Action) (fault : ControlFault) →
    ((other : ControlFault) → refusal_of state action ≡ Some other → ◌≡◌ {A = Result A ControlFault} (Err fault) (Err other)) →
    (other : ControlFault) → refusal_of state action ≡ Some other → ◌≡◌ {A = Option ControlFault} (Some fault) (Some other)
some_first state action fault first other is = ap fault_in (first other is)

-- ---- a run that came to its end is one

pub run_of_exit : (program : Program) (captured : Sent) (worker : ℕ) (before : List JournaledShard) (end : RunEnd) (after : List JournaledShard) →
    IsExitInTurn program captured worker before end after → IsRunInTurn program captured worker before end after
run_of_exit program captured worker before Stopped after exit = absurd exit.told
run_of_exit program captured worker before (Exited steps fate) after exit = exit
