-- The services at a moment of a replay are those that the commands so far have named.
use Rattle.std.proofs.Common.{◌≡◌, ◌⊎◌, inl, inr, ℕ, ◌+◌, ◌*◌, ◌%◌, ◌<◌, ◌==◌, Bool, true, false, List, [], ◌∷◌, ◌++◌, length, refl, sym, ◌∙◌, ap, subst, arith}
use Rattle.std.specs.Prelude.{Option, None, option_map, slice_get, take, if◌then◌else◌}
use Rattle.std.specs.List.{AllByRecursion}
use Rattle.std.proofs.Math.Nat.{mod-lt}
use Rattle.std.proofs.lemmas.List.{take_all}
use Rattle.ebpf_decode.specs.declared.map.MapDef.{MapDef}
use Rattle.ebpf_decode.specs.declared.map.MapKind.{MapKind}
use Rattle.ebpf_decode.specs.declared.map.MapKind.TheVariants.{Hash}
use Rattle.wire.specs.Fnv.{fnv1a64_of}
use Rattle.wire.specs.declared.records.Sent.{Sent}
use Rattle.semantics.specs.declared.call.Call.{Call}
use Rattle.semantics.specs.declared.call.Call.TheVariants.{Enter, Leave, Lookup, Load, Reclaim}
use Rattle.semantics.specs.declared.call.Caller.TheVariants.{Worker, Controller, Reclaimer}
use Rattle.semantics.specs.declared.call.Entry.{Entry}
use Rattle.semantics.specs.declared.options.Options.{Options}
use Rattle.semantics.specs.declared.plan.ShardPlan.{ShardPlan}
use Rattle.semantics.specs.CallerLaws.{own_entries}
use Rattle.semantics.specs.History.{IsLegalHistory}
use Rattle.semantics.specs.SequentialShard.{shard_after, cell_bytes, cell_of_key}
use Rattle.semantics.specs.ShardPlan.{plan_at, plan_for_map}
use Rattle.maglev.specs.RingSize.{IsRingSize}
use Rattle.conntrack.specs.Layouts.{vip_bytes}
use Rattle.conntrack.specs.SteeringMaps.{sized_maps, defined}
use Rattle.steer.specs.SteeringLaws.{of_size, shipped_program}
use Rattle.control.specs.declared.command.Action.{Action}
use Rattle.control.specs.declared.command.Command.{Command}
use Rattle.control.specs.Controlling.{opened_controller}
use Rattle.actors.specs.declared.outcome.Outcome.{Outcome}
use Rattle.actors.specs.Accounted.{IsAccounted}
use Rattle.actors.specs.Commands.{AnsweredUpdate, CommandDone, made_in, with_updates, with_update, controller_entry}
use Rattle.actors.specs.Parts.{round_count}
use Rattle.actors.specs.Rounds.{IsReclaim, IsReclaimedBy}
use Rattle.actors.specs.SharedUpdates.{shard_of}
use Rattle.steered_replays.specs.Counting.{IsQuiet}
use Rattle.steered_replays.specs.SteeredRuns.{IsSteeredReplay}
use Rattle.steered_replays.specs.TablesAtEnd.{value_in_shard, last_histories, maps_at_end, carried_out, service_left, AreServices, IsPlainReplay, IsMoment}
use Rattle.actors.proofs.shared.Callers.{all_of_callers}
use Rattle.steered_replays.proofs.CommandTables.{done_actions}
use Rattle.steered_replays.proofs.HashShards.{IsKeeping, IsAsideOrOwn, last_kept, kept_after, own_keeps, kept_made, is_key_in, updates_keep, same_kept}
use Rattle.steered_replays.proofs.NoteLemmas.{legal_before}
use Rattle.steered_replays.proofs.PlaceLemmas.{part_place, some_shard}
use Rattle.steered_replays.proofs.QuietRuns.{IsChanged}
use Rattle.actors.proofs.shared.EveryEntry.{all_parts}
use Rattle.steered_replays.proofs.ServiceTables.{is_service, services_done, service_place}
use Rattle.steered_replays.proofs.TableLemmas as tables
use Rattle.steered_replays.proofs.TableLemmas.{IsPlanOf, planned_of, all_places}

-- a call that changes nothing, a Reclaim, or an update of the controller
abbrev IsKept : Entry → Type 0
IsKept entry = (IsQuiet entry.call ⊎ ((number : ℕ) × (entry.call ≡ Reclaim number))) ⊎ ((entry.who ≡ Controller) × IsKeeping entry.call)

quiet_keeping : (call : Call) → IsQuiet call → IsKeeping call
quiet_keeping (Enter number) quiet = tt
quiet_keeping (Leave number) quiet = tt
quiet_keeping (Lookup number key) quiet = tt
quiet_keeping (Load ref offset size) quiet = tt
quiet_keeping _ quiet = absurd quiet

kept_keeping : (history : List Entry) → AllByRecursion IsKept history → AllByRecursion (λ (entry : Entry). IsKeeping entry.call) history
kept_keeping [] all = tt
kept_keeping (entry ∷ older) all = (by all.0, kept_keeping older all.1)
  where
    by : IsKept entry → IsKeeping entry.call
    by (inl (inl quiet)) = quiet_keeping entry.call quiet
    by (inl (inr (number, call))) = subst IsKeeping (sym call) tt
    by (inr own) = own.1

kept_aside : (history : List Entry) → AllByRecursion IsKept history → AllByRecursion IsAsideOrOwn history
kept_aside [] all = tt
kept_aside (entry ∷ older) all = (by all.0, kept_aside older all.1)
  where
    by : IsKept entry → IsAsideOrOwn entry
    by (inl aside) = inl aside
    by (inr own) = inr own.0

quiet_kept : (history : List Entry) → AllByRecursion (λ (entry : Entry). IsQuiet entry.call) history → AllByRecursion IsKept history
quiet_kept [] all = tt
quiet_kept (entry ∷ older) all = (inl (inl all.0), quiet_kept older all.1)

updates_kept : (maps : List MapDef) (options : Options) (number : ℕ) (made : List AnsweredUpdate) (history : List Entry) → AllByRecursion IsKept history →
    AllByRecursion IsKept (with_updates maps options number made history)
updates_kept maps options number [] history all = all
updates_kept maps options number (one ∷ made) history all =
    updates_kept maps options number made (with_update maps options number one history) (by (shard_of maps options one.update == number))
  where
    by : (test : Bool) → AllByRecursion IsKept (if test then controller_entry number one ∷ history else history)
    by true = (inr (refl, tt), all)
    by false = all

reclaims_kept : (number : ℕ) (own : List Entry) → AllByRecursion (IsReclaim number) own → AllByRecursion IsKept own
reclaims_kept number [] all = tt
reclaims_kept number (entry ∷ own) all = (inl (inr (number, ap (λ (e : Entry). e.call) all.0.1)), reclaims_kept number own all.1)

rounds_kept : (kind : MapKind) → kind ≡ Hash → (plan : ShardPlan) (number rounds : ℕ) (own seen : List Entry) → IsReclaimedBy kind plan number rounds own seen →
    AllByRecursion IsKept own
rounds_kept kind hash plan number rounds own seen made =
    let reclaimed = subst (λ (k : MapKind). IsReclaimedBy k plan number rounds own seen) hash made in reclaims_kept number own reclaimed.each

below_all : (n shards count : ℕ) → n < shards → count ≡ 6 * shards → n < count
below_all n shards count below is = omega (arith, below, is)

module _ (notes size : ℕ) (is_size : IsRingSize size) (script : List Command) (options : Options) (records : List Sent) (outcome : Outcome)
    (plain : IsPlainReplay notes size script options records outcome)
    (replayed : IsSteeredReplay size (shipped_program notes (of_size options.shards size)) script options records outcome plain.accounted) where
  abbrev accounted : IsAccounted (shipped_program notes (of_size options.shards size)) script options records outcome
  accounted = plain.accounted

  abbrev whole : ℕ → List Entry
  whole number = last_histories outcome.journals number

  abbrev all_done : List CommandDone
  all_done = accounted.commands.done

  some : 0 < options.shards
  some = some_shard options.shards plain.fit.power_of_two

  -- one shard of services
  module _ (number : ℕ) (within : number < accounted.count) (low : number < options.shards)
      (hash : (accounted.plan number).definition.kind ≡ Hash) (workers : (accounted.plan number).workers ≡ options.workers) where
    still : IsChanged (of_size options.shards size) number → ⊥
    still (inl flows) = absurd (let above = flows.0 in omega (arith, above, low))
    still (inr counts) = absurd (omega (arith, counts, low))

    all_kept : AllByRecursion IsKept (whole number)
    all_kept =
        all_of_callers IsKept (accounted.plan number) (whole number) (accounted.legal number within)
        (record {
          of_workers = λ worker below.
              quiet_kept (own_entries (Worker worker) (whole number))
              (tables.worker_quiet notes size is_size script options records outcome plain replayed number within still worker (subst (λ (n : ℕ). worker < n) workers below));
          of_controller = subst (λ (own : List Entry). AllByRecursion IsKept own) (sym (tables.controller_own notes size is_size script options records outcome plain replayed number within still))
              (updates_kept (sized_maps notes size) options number (made_in all_done) [] tt);
          of_reclaimer = rounds_kept (accounted.plan number).definition.kind hash (accounted.plan number) number (round_count (length records))
              (own_entries Reclaimer (whole number)) (whole number) (accounted.rounds.each number within);
        })

    service_holds : (newer older : List Entry) → whole number ≡ newer ++ older → (made : List AnsweredUpdate) →
        own_entries Controller older ≡ with_updates (sized_maps notes size) options number made [] → (key : List ℕ) →
        option_map (cell_bytes (shard_after (accounted.plan number) older)) (cell_of_key (accounted.plan number) (shard_after (accounted.plan number) older) key)
        ≡ kept_made (is_key_in (sized_maps notes size) options number key) made None
    service_holds newer older is made own key =
        let known : AllByRecursion IsKept older = (all_parts IsKept newer older (subst (λ (h : List Entry). AllByRecursion IsKept h) is all_kept)).1 in
        kept_after (accounted.plan number) hash key older
        (legal_before (accounted.plan number) newer older (subst (λ (h : List Entry). IsLegalHistory (accounted.plan number) h) is (accounted.legal number within)))
        (kept_keeping older known)
        ∙ own_keeps key older (kept_aside older known)
        ∙ ap (last_kept key) own
        ∙ updates_keep (sized_maps notes size) options number key made []

  -- a moment
  module _ (commands : ℕ) (histories : ℕ → List Entry) (moment : IsMoment notes size script options records outcome plain commands histories) where
    abbrev done : List CommandDone
    done = take commands all_done

    module _ (key : List ℕ) where
      abbrev number : ℕ
      number = 0 * options.shards + fnv1a64_of key % options.shards

      part : fnv1a64_of key % options.shards < options.shards
      part = mod-lt (fnv1a64_of key) some

      first_map : number < options.shards
      first_map = (let few = part in omega (arith, few))

      within : number < accounted.count
      within = below_all number options.shards accounted.count first_map accounted.plans.count_is

      abbrev plan : ShardPlan
      plan = accounted.plan number

      is_plan : IsPlanOf options (defined Hash 8 8 64) plan
      is_plan =
          planned_of options number (defined Hash 8 8 64) plan
          (sym (ap (plan_for_map options number) (ap (slice_get (sized_maps notes size)) (part_place options.shards 0 (fnv1a64_of key % options.shards) part)))
          ∙ accounted.plans.each number within)

      has_value : value_in_shard (histories (0 * outcome.journals.options.shards + fnv1a64_of key % outcome.journals.options.shards))
          (plan_at outcome.journals.maps outcome.journals.options (0 * outcome.journals.options.shards + fnv1a64_of key % outcome.journals.options.shards)) key
          ≡ option_map vip_bytes (service_left key None (done_actions done))
      has_value =
          ap (λ (o : Options). value_in_shard (histories (0 * o.shards + fnv1a64_of key % o.shards))
          (plan_at outcome.journals.maps o (0 * o.shards + fnv1a64_of key % o.shards)) key) accounted.options_are
          ∙ ap (λ (maps : List MapDef). value_in_shard (histories number) (plan_at maps options number) key) accounted.maps
          ∙ ap (λ (p : Option ShardPlan). value_in_shard (histories number) p key) (accounted.plans.each number within)
          ∙ service_holds number within first_map (ap (λ (d : MapDef). d.kind) is_plan.definition_is) is_plan.workers_are (moment.newer number) (histories number)
          (moment.oldest number within) (made_in done) (moment.controlled number within) key
          ∙ same_kept (is_key_in (sized_maps notes size) options number key) (is_service key) (made_in done) None
          (all_places (is_key_in (sized_maps notes size) options number key) (is_service key) (λ made of. service_place notes size options some made of key) (made_in done)
          (tables.changes notes size is_size script options records outcome plain replayed commands histories moment))
          ∙ services_done key (opened_controller size) done (tables.ended notes size is_size script options records outcome plain replayed commands histories moment).0
          (tables.ended notes size is_size script options records outcome plain replayed commands histories moment).1
          (tables.unstopped notes size is_size script options records outcome plain replayed commands histories moment) None

    pub are_services : AreServices (carried_out outcome.refused.items 0 (take commands script)) (record { journals = outcome.journals; histories = histories })
    are_services key =
        has_value key
        ∙ ap (λ (acts : List Action). option_map vip_bytes (service_left key None acts))
        (sym (tables.are_carried notes size is_size script options records outcome plain replayed commands histories moment))

  pub services_left : AreServices (carried_out outcome.refused.items 0 script) (maps_at_end outcome.journals)
  services_left =
      subst (λ (l : List Command). AreServices (carried_out outcome.refused.items 0 l) (maps_at_end outcome.journals)) (take_all (length script) script (omega arith))
      (are_services (length script) (last_histories outcome.journals) (tables.at_the_end notes size is_size script options records outcome plain replayed))
