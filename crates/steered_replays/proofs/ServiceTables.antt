-- What the updates of a script's commands come to: the record of each service.
use Rattle.std.proofs.Common.{◌≡◌, inl, inr, ℕ, ◌+◌, ◌*◌, ◌%◌, ◌<◌, ◌==◌, ◌&&◌, Bool, true, false, List, [], ◌∷◌, refl, sym, ◌∙◌, ap, arith, bytes_eq}
use Rattle.std.specs.Prelude.{Option, Some, None, option_map, if◌then◌else◌}
use Rattle.std.specs.List.{AllByRecursion, find}
use Rattle.std.proofs.Math.Nat.{mod-lt}
use Rattle.std.proofs.lemmas.Bool.Decides.{nat_tests}
use Rattle.std.proofs.lemmas.Slice.Eq.{bytes_eq-Decides}
use Rattle.wire.specs.Fnv.{fnv1a64_of}
use Rattle.semantics.specs.LittleEndian.{number_of_bytes, bytes_of_number}
use Rattle.semantics.specs.declared.options.Options.{Options}
use Rattle.conntrack.specs.declared.records.VipRecord.{VipRecord}
use Rattle.conntrack.specs.Layouts.{service_key, vip_bytes}
use Rattle.conntrack.specs.SteeringMaps.{sized_maps}
use Rattle.maglev.specs.declared.backend.Backend.{Backend as Server}
use Rattle.control.specs.declared.command.Action.{Action}
use Rattle.control.specs.declared.command.Action.TheVariants as actions
use Rattle.control.specs.declared.fault.ControlFault.{ControlFault}
use Rattle.control.specs.declared.ring_changes.Slot.{Slot}
use Rattle.control.specs.declared.update.Update.{Update as Change}
use Rattle.control.specs.declared.update.Update.TheVariants.{Vip, Ring, Backend, Tunnel}
use Rattle.control.specs.Controlling.{ControllerState, has_number, down_update, first_updates}
use Rattle.control.specs.MapUpdates.{UpdateBytes, map_update}
use Rattle.control.specs.RingChanges.{changes_below, slot_updates}
use Rattle.actors.specs.Commands.{AnsweredUpdate, CommandDone, AreDone, all_done, made_in}
use Rattle.steered_replays.specs.TablesAtEnd.{service_after, service_left}
use Rattle.steered_replays.proofs.ArrayShards.{is_success}
use Rattle.steered_replays.proofs.CommandTables.{IsNoStop, IsStep, step_of, neither, and_action, done_actions, all_done_both}
use Rattle.steered_replays.proofs.ControllerShards.{IsOfChange}
use Rattle.steered_replays.proofs.HashShards.{kept_made, kept_both, none_kept, is_key_in}
use Rattle.steered_replays.proofs.PlaceLemmas.{aside_of}

-- an update of this key in the map of services, answered 0
abbrev pub is_service : List ℕ → AnsweredUpdate → Bool
is_service key made = (made.update.map == 0) && (is_success made.answer && bytes_eq made.update.key key)

module _ (key : List ℕ) where
  aside_slots : (slots : List Slot) → AllByRecursion (λ (one : AnsweredUpdate). is_service key one ≡ false) (all_done (slot_updates slots))
  aside_slots [] = tt
  aside_slots (slot ∷ slots) = (refl, aside_slots slots)

  put_down : (found : Option Server) (before : Option (List ℕ)) → kept_made (is_service key) (all_done (down_update found)) before ≡ before
  put_down None before = refl
  put_down (Some server) before = refl

  put_first : (up : List Server) (action : Action) (before : Option VipRecord) →
      kept_made (is_service key) (all_done (first_updates up action)) (option_map vip_bytes before) ≡ option_map vip_bytes (service_after key before action)
  put_first up (actions.Vip service is_notrack) before = by (bytes_eq (service_key service) key)
    where
      by : (test : Bool) → (if test then Some (vip_bytes (record { is_notrack = is_notrack })) else option_map vip_bytes before)
          ≡ option_map vip_bytes (if test then Some (record { is_notrack = is_notrack }) else before)
      by true = refl
      by false = refl
  put_first up (actions.Up number address) before = refl
  put_first up (actions.Down number) before = put_down (find (has_number number) up) (option_map vip_bytes before)
  put_first up (actions.Gateway source source_mac destination_mac) before = refl

  refused_aside : (made : List AnsweredUpdate) → AllByRecursion (λ (one : AnsweredUpdate). is_success one.answer ≡ false) made →
      AllByRecursion (λ (one : AnsweredUpdate). is_service key one ≡ false) made
  refused_aside [] all = tt
  refused_aside (one ∷ made) all = (neither (one.update.map == 0) (is_success one.answer) (bytes_eq one.update.key key) all.0, refused_aside made all.1)

  service_step : (state : ControllerState) (one : CommandDone) (state' : ControllerState) → IsStep state one state' → (before : Option VipRecord) →
      kept_made (is_service key) one.made (option_map vip_bytes before) ≡ option_map vip_bytes (service_left key before (and_action one.fault one.action []))
  service_step state one state' (inr kept) before =
      none_kept (is_service key) one.made (option_map vip_bytes before) (refused_aside one.made kept.aside)
      ∙ ap (λ (f : Option ControlFault). option_map vip_bytes (service_left key before (and_action f one.action []))) (sym kept.fault_is)
  service_step state one state' (inl (none, carried)) before =
      let slots : List Change = slot_updates (changes_below state.owners carried.owners state.size) in
      let firsts : List Change = first_updates state.up one.action in
      ap (λ l. kept_made (is_service key) l (option_map vip_bytes before)) (carried.made ∙ all_done_both firsts slots)
      ∙ kept_both (is_service key) (all_done firsts) (all_done slots) (option_map vip_bytes before)
      ∙ none_kept (is_service key) (all_done slots) (kept_made (is_service key) (all_done firsts) (option_map vip_bytes before))
      (aside_slots (changes_below state.owners carried.owners state.size))
      ∙ put_first state.up one.action before
      ∙ ap (λ (f : Option ControlFault). option_map vip_bytes (service_left key before (and_action f one.action []))) (sym none)

  left_both : (before : Option VipRecord) (fault : Option ControlFault) (action : Action) (later : List Action) →
      service_left key (service_left key before (and_action fault action [])) later ≡ service_left key before (and_action fault action later)
  left_both before None action later = refl
  left_both before (Some fault) action later = refl

  pub services_done : (state : ControllerState) (done : List CommandDone) (state' : ControllerState) → AreDone state done state' → AllByRecursion IsNoStop done →
      (before : Option VipRecord) → kept_made (is_service key) (made_in done) (option_map vip_bytes before) ≡ option_map vip_bytes (service_left key before (done_actions done))
  services_done state [] state' are all before = refl
  services_done state (one ∷ later) state' are all before =
      let middle : Option VipRecord = service_left key before (and_action one.fault one.action []) in
      kept_both (is_service key) one.made (made_in later) (option_map vip_bytes before)
      ∙ ap (kept_made (is_service key) (made_in later)) (service_step state one are.0 (step_of state one are.0 one.fault are.1.did all.0) before)
      ∙ services_done are.0 later state' are.2 all.1 middle
      ∙ ap (option_map vip_bytes) (left_both before one.fault one.action (done_actions later))

-- ---- where they go

module _ (notes size : ℕ) (options : Options) (some : 0 < options.shards) where
  same_shard : (asked key : List ℕ) (x : Bool) →
      ((0 * options.shards + fnv1a64_of asked % options.shards == 0 * options.shards + fnv1a64_of key % options.shards) && (x && bytes_eq asked key))
      ≡ (x && bytes_eq asked key)
  same_shard asked key x = by (bytes_eq asked key) refl
    where
      self : (n : ℕ) → (n == n) ≡ true
      self n = grind (arith, nat_tests)

      neither_shard : (test x : Bool) → (test && (x && false)) ≡ (x && false)
      neither_shard true x = refl
      neither_shard false true = refl
      neither_shard false false = refl

      by : (same : Bool) → bytes_eq asked key ≡ same →
          ((0 * options.shards + fnv1a64_of asked % options.shards == 0 * options.shards + fnv1a64_of key % options.shards) && (x && same)) ≡ (x && same)
      by true is =
          ap (λ (k : List ℕ). (0 * options.shards + fnv1a64_of k % options.shards == 0 * options.shards + fnv1a64_of key % options.shards) && (x && true)) ((bytes_eq-Decides asked key).0 is)
          ∙ ap (λ (t : Bool). t && (x && true)) (self (0 * options.shards + fnv1a64_of key % options.shards))
      by false is = neither_shard (0 * options.shards + fnv1a64_of asked % options.shards == 0 * options.shards + fnv1a64_of key % options.shards) x

  pub service_place : (made : AnsweredUpdate) → IsOfChange made → (key : List ℕ) →
      is_key_in (sized_maps notes size) options (0 * options.shards + fnv1a64_of key % options.shards) key made ≡ is_service key made
  service_place made (change, is) key =
      ap (λ (u : UpdateBytes). is_key_in (sized_maps notes size) options (0 * options.shards + fnv1a64_of key % options.shards) key (record { update = u; answer = made.answer })) is
      ∙ by change
      ∙ ap (λ (u : UpdateBytes). is_service key (record { update = u; answer = made.answer })) (sym is)
    where
      by : (change : Change) →
          is_key_in (sized_maps notes size) options (0 * options.shards + fnv1a64_of key % options.shards) key (record { update = map_update change; answer = made.answer })
          ≡ is_service key (record { update = map_update change; answer = made.answer })
      by (Vip service vip) = same_shard (service_key service) key (is_success made.answer)
      by (Ring slot ring) = aside_of options.shards some 0 2 (number_of_bytes (bytes_of_number 4 slot) % options.shards) (fnv1a64_of key)
          (is_success made.answer && bytes_eq (bytes_of_number 4 slot) key)
          (is_success made.answer && bytes_eq (bytes_of_number 4 slot) key)
          (mod-lt (number_of_bytes (bytes_of_number 4 slot)) some) (λ e. absurd (omega (arith, e)))
      by (Backend other backend) = aside_of options.shards some 0 3 (number_of_bytes (bytes_of_number 4 other) % options.shards) (fnv1a64_of key)
          (is_success made.answer && bytes_eq (bytes_of_number 4 other) key)
          (is_success made.answer && bytes_eq (bytes_of_number 4 other) key)
          (mod-lt (number_of_bytes (bytes_of_number 4 other)) some) (λ e. absurd (omega (arith, e)))
      by (Tunnel tunnel) = aside_of options.shards some 0 4 (number_of_bytes (bytes_of_number 4 0) % options.shards) (fnv1a64_of key)
          (is_success made.answer && bytes_eq (bytes_of_number 4 0) key)
          (is_success made.answer && bytes_eq (bytes_of_number 4 0) key)
          (mod-lt (number_of_bytes (bytes_of_number 4 0)) some) (λ e. absurd (omega (arith, e)))
