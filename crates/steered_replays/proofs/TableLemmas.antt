-- The lookup table and the backends after a replay are those that the script left.
use Rattle.std.proofs.Common.{◌≡◌, ◌⊎◌, inl, inr, ℕ, zero, suc, ◌+◌, ◌*◌, ◌%◌, ◌/◌, ◌^◌, ◌<◌, ◌≤◌, ◌==◌, ◌&&◌, Bool, true, false, List, [], ◌∷◌, ◌++◌, length, replicate, refl, sym, ◌∙◌, ap, subst, arith}
use Rattle.std.specs.Prelude.{Option, Some, None, option_map, slice_get, if◌then◌else◌, is_some, take}
use Rattle.std.specs.List.{AllByRecursion}
use Rattle.std.proofs.Math.Nat.{mod-lt}
use Rattle.std.proofs.lemmas.Bool.{lt-ltb}
use Rattle.std.proofs.lemmas.Bool.Decides.{nat_tests}
use Rattle.std.proofs.lemmas.List.{take_all, length-replicate, length-append}
use Rattle.ebpf_decode.specs.declared.map.MapDef.{MapDef}
use Rattle.ebpf_decode.specs.declared.map.MapKind.{MapKind}
use Rattle.ebpf_decode.specs.declared.map.MapKind.TheVariants.{Array}
use Rattle.wire.specs.Fnv.{fnv1a64_of}
use Rattle.wire.specs.declared.records.Sent.{Sent}
use Rattle.semantics.specs.declared.call.Call.{Call}
use Rattle.semantics.specs.declared.call.Call.TheVariants.{Enter, Leave, Lookup, Load}
use Rattle.semantics.specs.declared.call.Caller.TheVariants.{Worker, Controller, Reclaimer}
use Rattle.semantics.specs.declared.call.Entry.{Entry}
use Rattle.semantics.specs.declared.options.Options.{Options}
use Rattle.semantics.specs.declared.plan.ShardPlan.{ShardPlan}
use Rattle.semantics.specs.CallerLaws.{own_entries}
use Rattle.semantics.specs.History.{IsLegalHistory}
use Rattle.semantics.specs.LittleEndian.{number_of_bytes, bytes_of_number}
use Rattle.semantics.specs.SequentialShard.{SequentialShard, shard_after, cell_bytes, cell_of_key, cell_of_kind}
use Rattle.semantics.specs.ShardPlan.{plan_at, plan_for_map, capacity}
use Rattle.maglev.specs.RingSize.{IsRingSize}
use Rattle.maglev.specs.declared.backend.Backend.{Backend as Server}
use Rattle.conntrack.specs.declared.records.BackendRecord.{BackendRecord}
use Rattle.conntrack.specs.declared.steering_maps.SteeringMap.TheVariants as maps
use Rattle.conntrack.specs.Layouts.{flag_number, service_key, ring_bytes, backend_bytes}
use Rattle.conntrack.specs.SteeringMaps.{sized_maps, defined, ring_entries}
use Rattle.conntrack.specs.Steering.{SteeringSizes}
use Rattle.steer.specs.SteeringLaws.{of_size, shipped_program}
use Rattle.shards.specs.CallerView.{CallerView}
use Rattle.shards.specs.Passes.{own_at}
use Rattle.control.specs.declared.command.Action.{Action}
use Rattle.control.specs.declared.command.Command.{Command}
use Rattle.control.specs.declared.fault.ControlFault.{ControlFault}
use Rattle.control.specs.declared.fault.ControlFault.TheVariants.{JournalFull}
use Rattle.control.specs.declared.update.Update.{Update as Change}
use Rattle.control.specs.declared.update.Update.TheVariants.{Vip, Ring, Backend, Tunnel}
use Rattle.control.specs.Controlling.{ControllerState, IsTable, opened_controller}
use Rattle.control.specs.MapUpdates.{UpdateBytes, map_update}
use Rattle.actors.specs.declared.outcome.Applied.{Applied}
use Rattle.actors.specs.declared.outcome.Outcome.{Outcome}
use Rattle.actors.specs.Accounted.{IsWorkOf, IsAccounted}
use Rattle.actors.specs.RunsInOrder.{IsRunAt}
use Rattle.actors.specs.Shares.{frames_of, share}
use Rattle.actors.specs.Accounts.{runs_at}
use Rattle.actors.specs.Actors.{numbers_from}
use Rattle.actors.specs.Commands.{AnsweredUpdate, CommandDone, AreDone, AreNotedOf, ServesScript, all_set, made_in, with_updates, with_update, controller_entry}
use Rattle.actors.specs.Parts.{numbers_of, refused_of, round_count}
use Rattle.actors.specs.SharedUpdates.{shard_of}
use Rattle.map_updates.specs.declared.update.MapUpdate.{MapUpdate}
use Rattle.steered_replays.specs.Counting.{IsQuiet}
use Rattle.steered_replays.specs.SteeredRuns.{IsSteeredReplay}
use Rattle.steered_replays.proofs.RuledRuns.{IsRuled, work_ruled}
use Rattle.steered_replays.specs.TablesAtEnd.{value_in_shard, value_at, last_histories, maps_at_end, IsRecordedUp, is_refused, carried_out, MetNoFullJournal, up_left, no_record, record_left, AreTablesAtEnd, IsPlainReplay, IsMoment}
use Rattle.steered_replays.proofs.ArrayShards.{is_success, IsSetting, IsControlled, cell_after, own_puts, last_put, last_sized, put_made, is_in_cell, updates_put, same_put}
use Rattle.actors.proofs.shared.Callers.{all_of_callers, all_own}
use Rattle.steered_replays.proofs.CommandTables.{is_at, IsNoStop, done_actions, and_action, HaveRecords, slot_done, table_done, up_done, size_done, records_done, take_done, take_unstopped}
use Rattle.steered_replays.proofs.ControllerShards.{IsOfChange, all_made}
use Rattle.steered_replays.proofs.NoteLemmas.{legal_before}
use Rattle.actors.proofs.shared.EveryEntry.{all_parts}
use Rattle.steered_replays.proofs.PlaceLemmas.{same_command, part_place, aside_of, same_place, IsShards, some_shard, rounds_none}
use Rattle.steered_replays.proofs.QuietRuns.{NamesOwnAt, IsChanged, all_name_own, chain_quiet}
use Rattle.actors.proofs.shared.RingSizes.{four_sizes, one_size}

-- ---- the size of the table

abbrev third_entries : List MapDef → ℕ
third_entries (first ∷ second ∷ third ∷ rest) = third.max_entries
third_entries _ = 0

small_size : (size : ℕ) → IsRingSize size → size ≤ 65538
small_size size is = let four = four_sizes size is in omega (arith, four)

-- ---- the commands that were carried out

none_done : (script : List Command) (noted : List Applied) (done : List CommandDone) → numbers_of noted ≡ [] → AreNotedOf script noted done → done ≡ []
none_done script [] [] none are = refl
none_done script [] (one ∷ later) none are = absurd are
none_done script (first ∷ more) done none are = absurd cc

no_stops : (script : List Command) (noted : List Applied) (done : List CommandDone) → AreNotedOf script noted done → MetNoFullJournal (refused_of noted) →
    AllByRecursion IsNoStop done
no_stops script [] [] are met = tt
no_stops script [] (one ∷ later) are met = absurd are
no_stops script (first ∷ more) [] are met = absurd are
no_stops script (first ∷ more) (one ∷ later) are met = by (λ rest. no_stops script more later are.1 rest) first.fault refl met
  where
    by : (MetNoFullJournal (refused_of more) → AllByRecursion IsNoStop later) → (fault : Option ControlFault) → first.fault ≡ fault →
        MetNoFullJournal (if is_some fault then first ∷ refused_of more else refused_of more) → AllByRecursion IsNoStop (one ∷ later)
    by onward None is rest = (λ full. absurd (let same : None ≡ Some JournalFull = sym is ∙ sym are.0.fault ∙ full in cc), onward rest)
    by onward (Some fault) is rest = (λ full. rest.0 (sym are.0.fault ∙ full), onward rest.1)

-- none of a list of later numbers is an earlier one
not_later : (noted : List Applied) (first number count : ℕ) → numbers_of noted ≡ numbers_from first count → number < first → is_refused (refused_of noted) number ≡ false
not_later [] first number count are below = refl
not_later (one ∷ more) first number zero are below = absurd cc
not_later (one ∷ more) first number (suc count) are below =
    let at : one.command ≡ first = cc are in
    let rest : numbers_of more ≡ numbers_from (first + 1) count = cc are in
    let other : (one.command == number) ≡ false = grind (arith, nat_tests) in
    by (is_some one.fault) other (not_later more (first + 1) number count rest (omega (arith, below)))
  where
    by : (test : Bool) → (one.command == number) ≡ false → is_refused (refused_of more) number ≡ false →
        is_refused (if test then one ∷ refused_of more else refused_of more) number ≡ false
    by true other rest = rw (other, rest) refl
    by false other rest = rest

other_command : (a b : ℕ) → a < b → (a == b) ≡ false
other_command a b less = grind (arith, nat_tests)

-- one that is noted before them does not matter to later ones
later_commands : (one : Applied) (more : List Applied) (number : ℕ) (script : List Command) → one.command < number →
    carried_out (refused_of (one ∷ more)) number script ≡ carried_out (refused_of more) number script
later_commands one more number [] below = refl
later_commands one more number (command ∷ later) below =
    let rest : carried_out (refused_of (one ∷ more)) (number + 1) later ≡ carried_out (refused_of more) (number + 1) later =
    later_commands one more (number + 1) later (omega (arith, below)) in
    let test : is_refused (refused_of (one ∷ more)) number ≡ is_refused (refused_of more) number = by (is_some one.fault) (other_command one.command number below) in
    ap (λ (t : Bool). if t then carried_out (refused_of (one ∷ more)) (number + 1) later
    else command.action ∷ carried_out (refused_of (one ∷ more)) (number + 1) later) test
    ∙ ap (λ (l : List Action). if is_refused (refused_of more) number then l else command.action ∷ l) rest
  where
    by : (test : Bool) → (one.command == number) ≡ false → is_refused (if test then one ∷ refused_of more else refused_of more) number ≡ is_refused (refused_of more) number
    by true other = rw other refl
    by false other = refl

carried : (script : List Command) (noted : List Applied) (done : List CommandDone) (first : ℕ) (rest : List Command) (count : ℕ) →
    ((k : ℕ) → slice_get script (first + k) ≡ slice_get rest k) → numbers_of noted ≡ numbers_from first (length rest) → AreNotedOf script noted done →
    carried_out (refused_of noted) first (take count rest) ≡ done_actions (take count done)
carried script noted done first rest zero there numbers are = refl
carried script [] [] first [] (suc count) there numbers are = refl
carried script [] [] first (command ∷ later) (suc count) there numbers are = absurd cc
carried script [] (one ∷ more) first rest (suc count) there numbers are = absurd are
carried script (noted ∷ more) [] first rest (suc count) there numbers are = absurd are
carried script (noted ∷ more) (one ∷ others) first [] (suc count) there numbers are = absurd cc
carried script (noted ∷ more) (one ∷ others) first (command ∷ later) (suc count) there numbers are =
    let at : noted.command ≡ first = cc numbers in
    let own : numbers_of more ≡ numbers_from (first + 1) (length later) = cc numbers in
    let tail : carried_out (refused_of more) (first + 1) (take count later) ≡ done_actions (take count others) =
    carried script more others (first + 1) later count (λ k. ap (slice_get script) (shifted first k) ∙ there (suc k)) own are.1 in
    let same_rest : carried_out (refused_of (noted ∷ more)) (first + 1) (take count later) ≡ done_actions (take count others) =
    later_commands noted more (first + 1) (take count later) (omega (arith, at)) ∙ tail in
    let known : slice_get script first ≡ Some command = ap (slice_get script) (plain first) ∙ there 0 in
    let same : are.0.command ≡ command = cc (sym are.0.known ∙ ap (slice_get script) at ∙ known) in
    let action : command.action ≡ one.action = ap (λ (c : Command). c.action) (sym same) ∙ sym are.0.action in
    ap (λ (l : List Action). if is_refused (refused_of (noted ∷ more)) first then l else command.action ∷ l) same_rest
    ∙ by noted.fault refl at own action
    ∙ ap (λ (f : Option ControlFault). and_action f one.action (done_actions (take count others))) (sym are.0.fault)
  where
    shifted : (n k : ℕ) → (n + 1) + k ≡ n + suc k
    shifted n k = omega arith

    plain : (n : ℕ) → n ≡ n + 0
    plain n = omega arith

    by : (fault : Option ControlFault) → noted.fault ≡ fault → noted.command ≡ first → numbers_of more ≡ numbers_from (first + 1) (length later) → command.action ≡ one.action →
        (if is_refused (if is_some noted.fault then noted ∷ refused_of more else refused_of more) first then done_actions (take count others)
        else command.action ∷ done_actions (take count others))
        ≡ and_action noted.fault one.action (done_actions (take count others))
    by None is at own action =
        let later_none : is_refused (refused_of more) first ≡ false = not_later more (first + 1) first (length later) own (omega arith) in
        rw (is, later_none, action) refl
    by (Some fault) is at own action = let here : (noted.command == first) ≡ true = ap (λ n. n == first) at ∙ same_command first in rw (is, here) refl

-- each command was done
all_taken : (script : List Command) (noted : List Applied) (done : List CommandDone) (first : ℕ) (rest : List Command) → numbers_of noted ≡ numbers_from first (length rest) →
    AreNotedOf script noted done → take (length rest) done ≡ done
all_taken script [] [] first [] numbers are = refl
all_taken script [] [] first (command ∷ later) numbers are = absurd cc
all_taken script [] (one ∷ more) first rest numbers are = absurd are
all_taken script (noted ∷ more) [] first rest numbers are = absurd are
all_taken script (noted ∷ more) (one ∷ others) first [] numbers are = absurd cc
all_taken script (noted ∷ more) (one ∷ others) first (command ∷ later) numbers are =
    ap (λ l. one ∷ l) (all_taken script more others (first + 1) later (let own : numbers_of more ≡ numbers_from (first + 1) (length later) = cc numbers in own) are.1)

-- ---- where an update goes

module _ (notes size : ℕ) (options : Options) (some : 0 < options.shards) where
  -- of the lookup table
  ring_place : (made : AnsweredUpdate) → IsOfChange made → (number : ℕ) →
      is_in_cell (sized_maps notes size) options (2 * options.shards + number % options.shards) options.shards (number / options.shards) made ≡ is_at 2 number made
  ring_place made (change, is) number =
      ap (λ (u : UpdateBytes). is_in_cell (sized_maps notes size) options (2 * options.shards + number % options.shards) options.shards (number / options.shards) (record { update = u; answer = made.answer })) is
      ∙ by change
      ∙ ap (λ (u : UpdateBytes). is_at 2 number (record { update = u; answer = made.answer })) (sym is)
    where
      by : (change : Change) →
          is_in_cell (sized_maps notes size) options (2 * options.shards + number % options.shards) options.shards (number / options.shards) (record { update = map_update change; answer = made.answer })
          ≡ is_at 2 number (record { update = map_update change; answer = made.answer })
      by (Vip service vip) = aside_of options.shards some 2 0 (fnv1a64_of (service_key service) % options.shards) number
          (is_success made.answer && (number_of_bytes (service_key service) / options.shards == number / options.shards))
          (is_success made.answer && (number_of_bytes (service_key service) == number))
          (mod-lt (fnv1a64_of (service_key service)) some) (λ e. absurd (omega (arith, e)))
      by (Ring slot ring) = same_place options.shards some 2 (number_of_bytes (bytes_of_number 4 slot)) number (is_success made.answer)
      by (Backend other backend) = aside_of options.shards some 2 3 (number_of_bytes (bytes_of_number 4 other) % options.shards) number
          (is_success made.answer && (number_of_bytes (bytes_of_number 4 other) / options.shards == number / options.shards))
          (is_success made.answer && (number_of_bytes (bytes_of_number 4 other) == number))
          (mod-lt (number_of_bytes (bytes_of_number 4 other)) some) (λ e. absurd (omega (arith, e)))
      by (Tunnel tunnel) = aside_of options.shards some 2 4 (number_of_bytes (bytes_of_number 4 0) % options.shards) number
          (is_success made.answer && (number_of_bytes (bytes_of_number 4 0) / options.shards == number / options.shards))
          (is_success made.answer && (number_of_bytes (bytes_of_number 4 0) == number))
          (mod-lt (number_of_bytes (bytes_of_number 4 0)) some) (λ e. absurd (omega (arith, e)))

  -- and of the backends
  backend_place : (made : AnsweredUpdate) → IsOfChange made → (number : ℕ) →
      is_in_cell (sized_maps notes size) options (3 * options.shards + number % options.shards) options.shards (number / options.shards) made ≡ is_at 3 number made
  backend_place made (change, is) number =
      ap (λ (u : UpdateBytes). is_in_cell (sized_maps notes size) options (3 * options.shards + number % options.shards) options.shards (number / options.shards) (record { update = u; answer = made.answer })) is
      ∙ by change
      ∙ ap (λ (u : UpdateBytes). is_at 3 number (record { update = u; answer = made.answer })) (sym is)
    where
      by : (change : Change) →
          is_in_cell (sized_maps notes size) options (3 * options.shards + number % options.shards) options.shards (number / options.shards) (record { update = map_update change; answer = made.answer })
          ≡ is_at 3 number (record { update = map_update change; answer = made.answer })
      by (Vip service vip) = aside_of options.shards some 3 0 (fnv1a64_of (service_key service) % options.shards) number
          (is_success made.answer && (number_of_bytes (service_key service) / options.shards == number / options.shards))
          (is_success made.answer && (number_of_bytes (service_key service) == number))
          (mod-lt (fnv1a64_of (service_key service)) some) (λ e. absurd (omega (arith, e)))
      by (Ring slot ring) = aside_of options.shards some 3 2 (number_of_bytes (bytes_of_number 4 slot) % options.shards) number
          (is_success made.answer && (number_of_bytes (bytes_of_number 4 slot) / options.shards == number / options.shards))
          (is_success made.answer && (number_of_bytes (bytes_of_number 4 slot) == number))
          (mod-lt (number_of_bytes (bytes_of_number 4 slot)) some) (λ e. absurd (omega (arith, e)))
      by (Backend other backend) = same_place options.shards some 3 (number_of_bytes (bytes_of_number 4 other)) number (is_success made.answer)
      by (Tunnel tunnel) = aside_of options.shards some 3 4 (number_of_bytes (bytes_of_number 4 0) % options.shards) number
          (is_success made.answer && (number_of_bytes (bytes_of_number 4 0) / options.shards == number / options.shards))
          (is_success made.answer && (number_of_bytes (bytes_of_number 4 0) == number))
          (mod-lt (number_of_bytes (bytes_of_number 4 0)) some) (λ e. absurd (omega (arith, e)))

pub all_places : (at other : AnsweredUpdate → Bool) → ((made : AnsweredUpdate) → IsOfChange made → at made ≡ other made) → (made : List AnsweredUpdate) →
    AllByRecursion IsOfChange made → AllByRecursion (λ (one : AnsweredUpdate). at one ≡ other one) made
all_places at other each [] all = tt
all_places at other each (one ∷ made) all = (each one all.0, all_places at other each made all.1)

-- ---- the entries of such a shard

-- a call that changes nothing, or an update of the controller
abbrev IsKnown : Entry → Type 0
IsKnown entry = IsQuiet entry.call ⊎ ((entry.who ≡ Controller) × IsSetting entry.call)

quiet_sets : (call : Call) → IsQuiet call → IsSetting call
quiet_sets (Enter number) quiet = tt
quiet_sets (Leave number) quiet = tt
quiet_sets (Lookup number key) quiet = tt
quiet_sets (Load ref offset size) quiet = tt
quiet_sets _ quiet = absurd quiet

known_sets : (history : List Entry) → AllByRecursion IsKnown history → AllByRecursion (λ (entry : Entry). IsSetting entry.call) history
known_sets [] all = tt
known_sets (entry ∷ older) all = (by all.0, known_sets older all.1)
  where
    by : IsKnown entry → IsSetting entry.call
    by (inl quiet) = quiet_sets entry.call quiet
    by (inr own) = own.1

known_controlled : (history : List Entry) → AllByRecursion IsKnown history → AllByRecursion IsControlled history
known_controlled [] all = tt
known_controlled (entry ∷ older) all = (by all.0, known_controlled older all.1)
  where
    by : IsKnown entry → IsControlled entry
    by (inl quiet) = inl quiet
    by (inr own) = inr own.0

quiet_known : (history : List Entry) → AllByRecursion (λ (entry : Entry). IsQuiet entry.call) history → AllByRecursion IsKnown history
quiet_known [] all = tt
quiet_known (entry ∷ older) all = (inl all.0, quiet_known older all.1)

updates_known : (maps : List MapDef) (options : Options) (number : ℕ) (made : List AnsweredUpdate) (history : List Entry) → AllByRecursion IsKnown history →
    AllByRecursion IsKnown (with_updates maps options number made history)
updates_known maps options number [] history all = all
updates_known maps options number (one ∷ made) history all =
    updates_known maps options number made (with_update maps options number one history) (by (shard_of maps options one.update == number))
  where
    by : (test : Bool) → AllByRecursion IsKnown (if test then controller_entry number one ∷ history else history)
    by true = (inr (refl, tt), all)
    by false = all

-- ---- the plan of a shard

pub record IsPlanOf (options : Options) (definition : MapDef) (plan : ShardPlan) : Type 0 where
  pub parts_are : plan.parts ≡ options.shards
  pub definition_is : plan.definition ≡ definition
  pub workers_are : plan.workers ≡ options.workers

pub planned_of : (options : Options) (number : ℕ) (definition : MapDef) (plan : ShardPlan) → plan_for_map options number (Some definition) ≡ Some plan → IsPlanOf options definition plan
planned_of options number definition plan is =
    let same : record {
      number = number;
      part = number % options.shards;
      parts = options.shards;
      definition = definition;
      workers = options.workers;
      reserve = options.journal;
    } ≡ plan = cc is in
    record {
      parts_are = ap (λ (p : ShardPlan). p.parts) (sym same);
      definition_is = ap (λ (p : ShardPlan). p.definition) (sym same);
      workers_are = ap (λ (p : ShardPlan). p.workers) (sym same);
    }

in_ring : (shards : ℕ) → IsShards shards → (size slot : ℕ) → slot < size → slot / shards < (size + 7) / 8 * 8 / shards
in_ring shards (inl is) size slot within = subst (λ (s : ℕ). slot / s < (size + 7) / 8 * 8 / s) (sym is) (omega (arith, within))
in_ring shards (inr (inl is)) size slot within = subst (λ (s : ℕ). slot / s < (size + 7) / 8 * 8 / s) (sym is) (omega (arith, within))
in_ring shards (inr (inr (inl is))) size slot within = subst (λ (s : ℕ). slot / s < (size + 7) / 8 * 8 / s) (sym is) (omega (arith, within))
in_ring shards (inr (inr (inr is))) size slot within = subst (λ (s : ℕ). slot / s < (size + 7) / 8 * 8 / s) (sym is) (omega (arith, within))

rounded_up : (size slot : ℕ) → slot < size → slot < (size + 7) / 8 * 8
rounded_up size slot within = omega (arith, within)

pub below_all : (n shards count : ℕ) → n < 5 * shards → count ≡ 6 * shards → n < count
below_all n shards count below is = omega (arith, below, is)

in_backends : (shards : ℕ) → IsShards shards → (number : ℕ) → number < 256 → number / shards < 256 / shards
in_backends shards (inl is) number few = subst (λ (s : ℕ). number / s < 256 / s) (sym is) (omega (arith, few))
in_backends shards (inr (inl is)) number few = subst (λ (s : ℕ). number / s < 256 / s) (sym is) (omega (arith, few))
in_backends shards (inr (inr (inl is))) number few = subst (λ (s : ℕ). number / s < 256 / s) (sym is) (omega (arith, few))
in_backends shards (inr (inr (inr is))) number few = subst (λ (s : ℕ). number / s < 256 / s) (sym is) (omega (arith, few))

last_known : (newer older : List Entry) → AllByRecursion IsKnown (newer ++ older) → AllByRecursion IsKnown older
last_known newer older all = (all_parts IsKnown newer older all).1

-- ---- the whole

-- in these histories the last values that were put in the lookup table and in the backends are those that these commands leave
pub record AreLastPuts (size shards : ℕ) (done : List Action) (histories : ℕ → List Entry) : Type 0 where
  pub owners : List ℕ
  pub table : IsTable size (up_left [] done) owners
  pub up : AllByRecursion (IsRecordedUp done) (up_left [] done)
  pub ring : (slot : ℕ) → slot < size →
      last_put shards (slot / shards) (replicate 8 0) (histories (2 * shards + slot % shards)) ≡ ring_bytes (record { owner = slice_get owners slot })
  pub backends : (number : ℕ) → number < 256 →
      last_put shards (number / shards) (replicate 8 0) (histories (3 * shards + number % shards)) ≡ backend_bytes (record_left number no_record done)
  pub four : (number : ℕ) → number < 256 → length (record_left number no_record done).address.0 ≡ 4

module _ (notes size : ℕ) (is_size : IsRingSize size) (script : List Command) (options : Options) (records : List Sent) (outcome : Outcome)
    (plain : IsPlainReplay notes size script options records outcome)
    (replayed : IsSteeredReplay size (shipped_program notes (of_size options.shards size)) script options records outcome plain.accounted) where
  abbrev accounted : IsAccounted (shipped_program notes (of_size options.shards size)) script options records outcome
  accounted = plain.accounted

  abbrev sizes : SteeringSizes
  sizes = of_size options.shards size

  -- the runs of a worker, with what they wrote
  work : (worker : ℕ) → worker < options.workers →
      IsWorkOf (IsRunAt (IsRuled accounted.plan accounted.count sizes worker) records)
      (share (frames_of records) options.workers worker (length records)) worker (runs_at accounted.runs worker) accounted.count outcome.journals accounted.order
  work worker below =
      work_ruled accounted.plan accounted.count sizes (shipped_program notes sizes) worker outcome.journals records
      (share (frames_of records) options.workers worker (length records)) (runs_at accounted.runs worker) accounted.order (accounted.work worker below)
      (replayed.by_rule worker below)

  abbrev whole : ℕ → List Entry
  whole number = last_histories outcome.journals number

  abbrev all_done : List CommandDone
  all_done = accounted.commands.done

  some : 0 < options.shards
  some = some_shard options.shards plain.fit.power_of_two

  unstopped_all : AllByRecursion IsNoStop all_done
  unstopped_all = no_stops script accounted.commands.of_script.noted all_done accounted.commands.of_script.are_noted (subst MetNoFullJournal accounted.commands.of_script.refused_are plain.none_full)

  -- the controller's last state, for a table of this size
  ended_all : (state : ControllerState) × AreDone (opened_controller size) all_done state
  ended_all = by accounted.commands.of_script.serves
    where
      by : ServesScript (sized_maps notes size) accounted.commands.of_script.size script → (state : ControllerState) × AreDone (opened_controller size) all_done state
      by (inl empty) =
          let none : all_done ≡ [] =
          none_done script accounted.commands.of_script.noted all_done (accounted.commands.of_script.each_once ∙ ap (λ (l : List Command). numbers_from 0 (length l)) empty) accounted.commands.of_script.are_noted in
          (opened_controller size, subst (λ (l : List CommandDone). AreDone (opened_controller size) l (opened_controller size)) (sym none) refl)
      by (inr same) =
          let one : accounted.commands.of_script.size ≡ size = sym (one_size size accounted.commands.of_script.size is_size accounted.commands.of_script.size_is_served (ap third_entries same.maps_are)) in
          (accounted.commands.of_script.state, subst (λ (n : ℕ). AreDone (opened_controller n) all_done accounted.commands.of_script.state) one accounted.commands.of_script.are_done)

  -- one shard in which runs change nothing
  module _ (number : ℕ) (within : number < accounted.count) (still : IsChanged sizes number → ⊥) where
    nothing_yet : (worker : ℕ) (below : worker < options.workers) → own_at (work worker below).handled.before number ≡ []
    nothing_yet worker below = ap (λ (view : CallerView). view.own) ((work worker below).handled.is_new.nothing number)

    worker_named : (worker : ℕ) (below : worker < options.workers) (other : ℕ) → other < accounted.count →
        AllByRecursion NamesOwnAt (own_at (work worker below).after other)
    worker_named worker below other inside =
        subst (λ (own : List Entry). AllByRecursion NamesOwnAt own) (sym ((work worker below).own other inside))
        (all_own NamesOwnAt (Worker worker) (whole other) (all_name_own (accounted.plan other) (whole other) (accounted.legal other inside)))

    pub worker_quiet : (worker : ℕ) → worker < options.workers → AllByRecursion (λ (entry : Entry). IsQuiet entry.call) (own_entries (Worker worker) (whole number))
    worker_quiet worker below =
        let did = work worker below in
        subst (λ (own : List Entry). AllByRecursion (λ (entry : Entry). IsQuiet entry.call) own) (did.own number within)
        (chain_quiet accounted.plan accounted.count sizes some worker records did.handled.before (runs_at accounted.runs worker) did.after did.handled.chain
        (worker_named worker below) number within still
        (subst (λ (own : List Entry). AllByRecursion (λ (entry : Entry). IsQuiet entry.call) own) (sym (nothing_yet worker below)) tt))

    pub controller_own : own_entries Controller (whole number) ≡ with_updates (sized_maps notes size) options number (made_in all_done) []
    controller_own =
        accounted.commands.own number within
        ∙ ap (λ (updates : List MapUpdate). with_updates (sized_maps notes size) options number (all_set updates ++ made_in all_done) []) plain.none_set

  -- one shard of an array that the program only reads
  module _ (number : ℕ) (within : number < accounted.count) (low : 2 * options.shards ≤ number) (high : number < 5 * options.shards)
      (array : (accounted.plan number).definition.kind ≡ Array) (workers : (accounted.plan number).workers ≡ options.workers) where
    still : IsChanged sizes number → ⊥
    still (inl flows) = absurd (let below = flows.1 in omega (arith, below, low))
    still (inr counts) = absurd (omega (arith, counts, high))

    reclaimer_none : own_entries Reclaimer (whole number) ≡ []
    reclaimer_none =
        rounds_none (accounted.plan number).definition.kind array (accounted.plan number) number (round_count (length records)) (own_entries Reclaimer (whole number)) (whole number)
        (accounted.rounds.each number within)

    all_known : AllByRecursion IsKnown (whole number)
    all_known =
        all_of_callers IsKnown (accounted.plan number) (whole number) (accounted.legal number within)
        (record {
          of_workers = λ worker below. quiet_known (own_entries (Worker worker) (whole number)) (worker_quiet number within still worker (subst (λ (n : ℕ). worker < n) workers below));
          of_controller = subst (λ (own : List Entry). AllByRecursion IsKnown own) (sym (controller_own number within still))
              (updates_known (sized_maps notes size) options number (made_in all_done) [] tt);
          of_reclaimer = subst (λ (own : List Entry). AllByRecursion IsKnown own) (sym reclaimer_none) tt;
        })

    -- at any moment the last value that was put in a cell is the last of what the controller has then made
    last_holds : (newer older : List Entry) → whole number ≡ newer ++ older → (made : List AnsweredUpdate) →
        own_entries Controller older ≡ with_updates (sized_maps notes size) options number made [] → (cell : ℕ) →
        last_put (accounted.plan number).parts cell (replicate (accounted.plan number).definition.value_size 0) older
        ≡ put_made (is_in_cell (sized_maps notes size) options number (accounted.plan number).parts cell) made (replicate (accounted.plan number).definition.value_size 0)
    last_holds newer older is made own cell =
        let first : List ℕ = replicate (accounted.plan number).definition.value_size 0 in
        let parts : ℕ = (accounted.plan number).parts in
        let known : AllByRecursion IsKnown older = last_known newer older (subst (λ (h : List Entry). AllByRecursion IsKnown h) is all_known) in
        own_puts parts cell first older (known_controlled older known)
        ∙ ap (λ (l : List Entry). last_put parts cell first l) own
        ∙ updates_put (sized_maps notes size) options number parts cell first made []

    legal_then : (newer older : List Entry) → whole number ≡ newer ++ older → IsLegalHistory (accounted.plan number) older
    legal_then newer older is =
        legal_before (accounted.plan number) newer older (subst (λ (h : List Entry). IsLegalHistory (accounted.plan number) h) is (accounted.legal number within))

    -- so the cell holds it
    cell_holds : (newer older : List Entry) → whole number ≡ newer ++ older → (made : List AnsweredUpdate) →
        own_entries Controller older ≡ with_updates (sized_maps notes size) options number made [] → (cell : ℕ) → cell < capacity (accounted.plan number) →
        cell_bytes (shard_after (accounted.plan number) older) cell
        ≡ put_made (is_in_cell (sized_maps notes size) options number (accounted.plan number).parts cell) made (replicate (accounted.plan number).definition.value_size 0)
    cell_holds newer older is made own cell inside =
        let known : AllByRecursion IsKnown older = last_known newer older (subst (λ (h : List Entry). AllByRecursion IsKnown h) is all_known) in
        cell_after (accounted.plan number) older cell array inside (legal_then newer older is) (known_sets older known) ∙ last_holds newer older is made own cell

    -- and so much has each cell
    cell_sized : (newer older : List Entry) → whole number ≡ newer ++ older → (made : List AnsweredUpdate) →
        own_entries Controller older ≡ with_updates (sized_maps notes size) options number made [] → (cell : ℕ) →
        length (put_made (is_in_cell (sized_maps notes size) options number (accounted.plan number).parts cell) made (replicate (accounted.plan number).definition.value_size 0))
        ≡ (accounted.plan number).definition.value_size
    cell_sized newer older is made own cell =
        let first : List ℕ = replicate (accounted.plan number).definition.value_size 0 in
        ap (λ (l : List ℕ). length l) (sym (last_holds newer older is made own cell))
        ∙ last_sized (accounted.plan number) cell first (length-replicate (accounted.plan number).definition.value_size 0) older (legal_then newer older is)

  -- a moment
  module _ (commands : ℕ) (histories : ℕ → List Entry) (moment : IsMoment notes size script options records outcome plain commands histories) where
    abbrev done : List CommandDone
    done = take commands all_done

    pub unstopped : AllByRecursion IsNoStop done
    unstopped = take_unstopped all_done commands unstopped_all

    pub ended : (state : ControllerState) × AreDone (opened_controller size) done state
    ended = take_done (opened_controller size) all_done ended_all.0 commands ended_all.1

    abbrev state : ControllerState
    state = ended.0

    pub changes : AllByRecursion IsOfChange (made_in done)
    changes =
        let first = take_done (opened_controller accounted.commands.of_script.size) all_done accounted.commands.of_script.state commands accounted.commands.of_script.are_done in
        all_made (opened_controller accounted.commands.of_script.size) done first.0 first.1

    pub are_carried : carried_out outcome.refused.items 0 (take commands script) ≡ done_actions done
    are_carried =
        ap (λ (l : List Applied). carried_out l 0 (take commands script)) accounted.commands.of_script.refused_are
        ∙ carried script accounted.commands.of_script.noted all_done 0 script commands (λ k. ap (slice_get script) (from_zero k)) accounted.commands.of_script.each_once accounted.commands.of_script.are_noted
      where
        from_zero : (k : ℕ) → 0 + k ≡ k
        from_zero k = omega arith

    -- a key of an array in such a place
    module _ (place entries : ℕ) (known : slice_get (sized_maps notes size) place ≡ Some (defined Array 4 8 entries)) (index : ℕ)
        (low : 2 * options.shards ≤ place * options.shards + index % options.shards) (high : place * options.shards + index % options.shards < 5 * options.shards)
        (small : index < 2 ^ 32) (inside : index < entries) (in_part : index / options.shards < entries / options.shards)
        (same : (made : AnsweredUpdate) → IsOfChange made →
        is_in_cell (sized_maps notes size) options (place * options.shards + index % options.shards) options.shards (index / options.shards) made ≡ is_at place index made) where
      abbrev key : List ℕ
      key = bytes_of_number 4 index

      back : number_of_bytes key ≡ index
      back = omega (arith, small)

      abbrev number : ℕ
      number = place * options.shards + index % options.shards

      abbrev cell : ℕ
      cell = index / options.shards

      within : number < accounted.count
      within = below_all number options.shards accounted.count high accounted.plans.count_is

      abbrev plan : ShardPlan
      plan = accounted.plan number

      is_plan : IsPlanOf options (defined Array 4 8 entries) plan
      is_plan =
          planned_of options number (defined Array 4 8 entries) plan
          (sym (ap (plan_for_map options number) (ap (slice_get (sized_maps notes size)) (part_place options.shards place (index % options.shards) (mod-lt index some)) ∙ known))
          ∙ accounted.plans.each number within)

      array : plan.definition.kind ≡ Array
      array = ap (λ (d : MapDef). d.kind) is_plan.definition_is

      inside_plan : cell < capacity plan
      inside_plan =
          subst (λ (p : ℕ). cell < plan.definition.max_entries / p) (sym is_plan.parts_are)
          (subst (λ (d : MapDef). cell < d.max_entries / options.shards) (sym is_plan.definition_is) in_part)

      abbrev shard : SequentialShard
      shard = shard_after plan (histories number)

      -- what is put in the cell is what is put under the key
      puts_are : put_made (is_in_cell (sized_maps notes size) options number plan.parts cell) (made_in done) (replicate plan.definition.value_size 0)
          ≡ put_made (is_at place index) (made_in done) (replicate 8 0)
      puts_are =
          ap (λ (parts : ℕ). put_made (is_in_cell (sized_maps notes size) options number parts cell) (made_in done) (replicate plan.definition.value_size 0)) is_plan.parts_are
          ∙ ap (λ (d : MapDef). put_made (is_in_cell (sized_maps notes size) options number options.shards cell) (made_in done) (replicate d.value_size 0)) is_plan.definition_is
          ∙ same_put (is_in_cell (sized_maps notes size) options number options.shards cell) (is_at place index) (made_in done) (replicate 8 0)
          (all_places (is_in_cell (sized_maps notes size) options number options.shards cell) (is_at place index) same (made_in done) changes)

      holds : cell_bytes shard cell ≡ put_made (is_at place index) (made_in done) (replicate 8 0)
      holds =
          cell_holds number within low high array is_plan.workers_are (moment.newer number) (histories number) (moment.oldest number within) (made_in done)
          (moment.controlled number within) cell inside_plan
          ∙ puts_are

      -- by the entries alone
      last_is : last_put options.shards cell (replicate 8 0) (histories number) ≡ put_made (is_at place index) (made_in done) (replicate 8 0)
      last_is =
          ap (λ (parts : ℕ). last_put parts cell (replicate 8 0) (histories number)) (sym is_plan.parts_are)
          ∙ ap (λ (d : MapDef). last_put plan.parts cell (replicate d.value_size 0) (histories number)) (sym is_plan.definition_is)
          ∙ last_holds number within low high array is_plan.workers_are (moment.newer number) (histories number) (moment.oldest number within) (made_in done)
          (moment.controlled number within) cell
          ∙ puts_are

      sized : length (put_made (is_at place index) (made_in done) (replicate 8 0)) ≡ 8
      sized =
          ap (λ (l : List ℕ). length l) (sym puts_are)
          ∙ cell_sized number within low high array is_plan.workers_are (moment.newer number) (histories number) (moment.oldest number within) (made_in done)
          (moment.controlled number within) cell
          ∙ ap (λ (d : MapDef). d.value_size) is_plan.definition_is

      found : cell_of_key plan shard key ≡ Some cell
      found =
          let entries_are : plan.definition.max_entries ≡ entries = ap (λ (d : MapDef). d.max_entries) is_plan.definition_is in
          let back_is = back in
          let below : number_of_bytes key < plan.definition.max_entries = omega (arith, entries_are, back_is, inside) in
          ap (λ (kind : MapKind). cell_of_kind kind plan shard key) array
          ∙ ap (λ (t : Bool). if t then Some (number_of_bytes key / plan.parts) else None) (lt-ltb (number_of_bytes key) plan.definition.max_entries below)
          ∙ ap (λ (n : ℕ). Some (n / plan.parts)) back
          ∙ ap (λ (n : ℕ). Some (index / n)) is_plan.parts_are

      has_value : value_in_shard (histories (place * outcome.journals.options.shards + number_of_bytes key % outcome.journals.options.shards))
          (plan_at outcome.journals.maps outcome.journals.options (place * outcome.journals.options.shards + number_of_bytes key % outcome.journals.options.shards)) key
          ≡ Some (put_made (is_at place index) (made_in done) (replicate 8 0))
      has_value =
          ap (λ (o : Options). value_in_shard (histories (place * o.shards + number_of_bytes key % o.shards))
          (plan_at outcome.journals.maps o (place * o.shards + number_of_bytes key % o.shards)) key) accounted.options_are
          ∙ ap (λ (maps : List MapDef). value_in_shard (histories (place * options.shards + number_of_bytes key % options.shards))
          (plan_at maps options (place * options.shards + number_of_bytes key % options.shards)) key) accounted.maps
          ∙ ap (λ (n : ℕ). value_in_shard (histories (place * options.shards + n % options.shards))
          (plan_at (sized_maps notes size) options (place * options.shards + n % options.shards)) key) back
          ∙ ap (λ (p : Option ShardPlan). value_in_shard (histories number) p key) (accounted.plans.each number within)
          ∙ ap (option_map (cell_bytes shard)) found
          ∙ ap Some holds

    low_two : (n : ℕ) → 2 * options.shards ≤ 2 * options.shards + n
    low_two n = omega arith

    high_two : (n : ℕ) → 2 * options.shards + n % options.shards < 5 * options.shards
    high_two n = (let part : n % options.shards < options.shards = mod-lt n some in omega (arith, part))

    low_three : (n : ℕ) → 2 * options.shards ≤ 3 * options.shards + n
    low_three n = omega arith

    high_three : (n : ℕ) → 3 * options.shards + n % options.shards < 5 * options.shards
    high_three n = (let part : n % options.shards < options.shards = mod-lt n some in omega (arith, part))

    ring_holds : (slot : ℕ) → slot < size →
        value_at (record { journals = outcome.journals; histories = histories }) maps.Ring (bytes_of_number 4 slot) ≡ Some (ring_bytes (record { owner = slice_get state.owners slot }))
    ring_holds slot within =
        let few : size ≤ 65538 = small_size size is_size in
        has_value 2 (ring_entries size) refl slot (low_two (slot % options.shards)) (high_two slot) (omega (arith, few, within)) (rounded_up size slot within)
        (in_ring options.shards plain.fit.power_of_two size slot within) (λ made of. ring_place notes size options some made of slot)
        ∙ ap Some (slot_done slot (opened_controller size) done state ended.1 unstopped few within)

    ring_last : (slot : ℕ) → slot < size →
        last_put options.shards (slot / options.shards) (replicate 8 0) (histories (2 * options.shards + slot % options.shards))
        ≡ ring_bytes (record { owner = slice_get state.owners slot })
    ring_last slot within =
        let few : size ≤ 65538 = small_size size is_size in
        last_is 2 (ring_entries size) refl slot (low_two (slot % options.shards)) (high_two slot) (omega (arith, few, within)) (rounded_up size slot within)
        (in_ring options.shards plain.fit.power_of_two size slot within) (λ made of. ring_place notes size options some made of slot)
        ∙ slot_done slot (opened_controller size) done state ended.1 unstopped few within

    abbrev left : ℕ → BackendRecord
    left number = record_left number no_record (done_actions done)

    recorded : ((number : ℕ) → put_made (is_at 3 number) (made_in done) (backend_bytes no_record) ≡ backend_bytes (left number)) × HaveRecords left state.up
    recorded = records_done (λ number. no_record) (opened_controller size) done state ended.1 unstopped tt

    backend_holds : (number : ℕ) → number < 256 →
        value_at (record { journals = outcome.journals; histories = histories }) maps.Backends (bytes_of_number 4 number) ≡ Some (backend_bytes (left number))
    backend_holds number few =
        has_value 3 256 refl number (low_three (number % options.shards)) (high_three number) (omega (arith, few)) few
        (in_backends options.shards plain.fit.power_of_two number few) (λ made of. backend_place notes size options some made of number)
        ∙ ap Some (recorded.0 number)

    backend_last : (number : ℕ) → number < 256 →
        last_put options.shards (number / options.shards) (replicate 8 0) (histories (3 * options.shards + number % options.shards)) ≡ backend_bytes (left number)
    backend_last number few =
        last_is 3 256 refl number (low_three (number % options.shards)) (high_three number) (omega (arith, few)) few
        (in_backends options.shards plain.fit.power_of_two number few) (λ made of. backend_place notes size options some made of number)
        ∙ recorded.0 number

    -- and an address of four bytes
    four_bytes : (number : ℕ) → number < 256 → length (left number).address.0 ≡ 4
    four_bytes number few =
        let whole_is : length (backend_bytes (left number)) ≡ 8 =
        ap (λ (l : List ℕ). length l) (sym (recorded.0 number))
        ∙ sized 3 256 refl number (low_three (number % options.shards)) (high_three number) (omega (arith, few)) few
        (in_backends options.shards plain.fit.power_of_two number few) (λ made of. backend_place notes size options some made of number) in
        let both : length (backend_bytes (left number)) ≡ length (left number).address.0 + 4 = length-append (left number).address.0 (bytes_of_number 4 (flag_number (left number).is_up)) in
        omega (arith, whole_is, both)

    up_recorded : (up : List Server) → HaveRecords left up → AllByRecursion (IsRecordedUp (done_actions done)) up
    up_recorded [] have = tt
    up_recorded (server ∷ up) have = (
      record {
        few = have.0.0;
        address = ap (λ (r : BackendRecord). length r.address.0) (sym have.0.1) ∙ four_bytes server.number have.0.0;
        recorded = have.0.1;
      },
      up_recorded up have.1,
    )

    same_up : state.up ≡ up_left [] (done_actions done)
    same_up = up_done (opened_controller size) done state ended.1 unstopped

    table_left : IsTable size (up_left [] (done_actions done)) state.owners
    table_left =
        subst (λ (up : List Server). IsTable size up state.owners) same_up
        (subst (λ (n : ℕ). IsTable n state.up state.owners) (size_done (opened_controller size) done state ended.1 unstopped)
        (table_done (opened_controller size) done state ended.1 unstopped refl))

    all_up : AllByRecursion (IsRecordedUp (done_actions done)) (up_left [] (done_actions done))
    all_up = subst (λ (up : List Server). AllByRecursion (IsRecordedUp (done_actions done)) up) same_up (up_recorded state.up recorded.1)

    pub are_tables : AreTablesAtEnd size (carried_out outcome.refused.items 0 (take commands script)) (record { journals = outcome.journals; histories = histories })
    are_tables = subst (λ (acts : List Action). AreTablesAtEnd size acts (record { journals = outcome.journals; histories = histories })) (sym are_carried) (record {
      owners = state.owners;
      table = table_left;
      ring = ring_holds;
      backends = backend_holds;
      up = all_up;
    })

    pub are_last_puts : AreLastPuts size options.shards (carried_out outcome.refused.items 0 (take commands script)) histories
    are_last_puts = subst (λ (acts : List Action). AreLastPuts size options.shards acts histories) (sym are_carried) (record {
      owners = state.owners;
      table = table_left;
      up = all_up;
      ring = ring_last;
      backends = backend_last;
      four = four_bytes;
    })

  -- the end is the moment after all commands
  pub at_the_end : IsMoment notes size script options records outcome plain (length script) (last_histories outcome.journals)
  at_the_end = record {
    newer = λ number. [];
    oldest = λ number within. refl;
    controlled = λ number within.
        accounted.commands.own number within
        ∙ ap (λ (updates : List MapUpdate). with_updates (sized_maps notes size) options number (all_set updates ++ made_in all_done) []) plain.none_set
        ∙ ap (λ (l : List CommandDone). with_updates (sized_maps notes size) options number (made_in l) [])
        (sym (all_taken script accounted.commands.of_script.noted all_done 0 script accounted.commands.of_script.each_once accounted.commands.of_script.are_noted));
  }

  pub are_left : AreTablesAtEnd size (carried_out outcome.refused.items 0 script) (maps_at_end outcome.journals)
  are_left =
      subst (λ (l : List Command). AreTablesAtEnd size (carried_out outcome.refused.items 0 l) (maps_at_end outcome.journals)) (take_all (length script) script (omega arith))
      (are_tables (length script) (last_histories outcome.journals) at_the_end)

  pub last_puts : AreLastPuts size options.shards (carried_out outcome.refused.items 0 script) (last_histories outcome.journals)
  last_puts =
      subst (λ (l : List Command). AreLastPuts size options.shards (carried_out outcome.refused.items 0 l) (last_histories outcome.journals))
      (take_all (length script) script (omega arith)) (are_last_puts (length script) (last_histories outcome.journals) at_the_end)
