-- An update that was refused on shards on which the controller alone did something: the answer is the one-thread map's, behind the updates before
-- it and nothing else.
use Rattle.std.proofs.Common.{◌≡◌, ℕ, zero, suc, ◌+◌, ◌/◌, ◌<◌, List, [], ◌∷◌, ◌++◌, length, take, reverse, Some, refl, sym, ap, ◌∙◌, subst, append_assoc, arith}
use Rattle.std.specs.Prelude.{Option, slice_get, slice_set, option_map, ℤ, IsTrue, is_some}
use mathlib.Core.List.{reverse-cons}
use Rattle.std.proofs.lemmas.List.{reverse-reverse}
use Rattle.ebpf_decode.specs.declared.map.MapDef.{MapDef}
use Rattle.map_updates.specs.declared.update.MapUpdate.{MapUpdate}
use Rattle.semantics.specs.declared.call.Caller.TheVariants.{Controller}
use Rattle.semantics.specs.declared.call.Call.{Call}
use Rattle.semantics.specs.declared.call.Entry.{Entry}
use Rattle.semantics.specs.declared.call.Reply.{Reply}
use Rattle.semantics.specs.declared.call.Reply.TheVariants.{Answer}
use Rattle.semantics.specs.declared.linux.UpdateFlags.TheVariants.{Any}
use Rattle.semantics.specs.declared.options.Options.{Options}
use Rattle.semantics.specs.declared.plan.ShardPlan.{ShardPlan}
use Rattle.semantics.specs.Linux.{flags_number, success}
use Rattle.semantics.specs.History.{shard_of_call, entry_of, IsLegalHistory, IsLegalJournal, IsJournalFull}
use Rattle.semantics.specs.SequentialShard.{update_answer, shard_after}
use Rattle.semantics.specs.ShardPlan.{AreOptions}
use Rattle.semantics.proofs.shared.PlanLemmas.{some_shards}
use Rattle.shard_core.specs.JournaledShard.{JournaledShard, opened_shard, shard_with_entry}
use Rattle.shards.specs.declared.deeds.Deed.{Deed}
use Rattle.shards.specs.declared.deeds.Deed.TheVariants.{Wrote, MetFull}
use Rattle.shards.specs.Deeds.{made_on, AreMet, AreFirst}
use Rattle.shards.specs.Opening.{AreOpened}
use Rattle.shards.specs.Passes.{PassView}
use Rattle.shards.specs.SharedMaps.{ArePlans}
use Rattle.control.specs.MapUpdates.{UpdateBytes}
use Rattle.actors.specs.declared.fault.ReplayFault.{ReplayFault}
use Rattle.actors.specs.declared.fault.ReplayFault.TheVariants.{BadOptions, Memory, NoThread, Refused, Full}
use Rattle.actors.specs.Actors.{IsUnused}
use Rattle.actors.specs.FirstUpdates.{update_bytes, AreSet, IsWhyLeft}
use Rattle.actors.specs.SharedUpdates.{UpdatesView, shard_of, controller_update, IsUpdated, IsTurnedAway}
use Rattle.actors.specs.UpdateFaults.{IsWhyByPass}
use Rattle.actors.proofs.shared.DeedLemmas.{made_append}
use Rattle.replay.specs.InTurn.{TurnMaps, IsUpdatedInTurn, IsTurnedAwayInTurn}
use Rattle.replay.specs.TurnFaults.{IsWhyInTurn}
use Rattle.replay.proofs.PartLemmas.{within_of}
use Rattle.replay.proofs.TurnDeeds.{made_here, one_else}
use Rattle.shard_port.proofs.shared.ReadyLemmas.{plan_number}

-- ---- what was done earlier

legal_earlier : (plan : ShardPlan) (later earlier : List Entry) → IsLegalHistory plan (later ++ earlier) → IsLegalHistory plan earlier
legal_earlier plan [] earlier is = is
legal_earlier plan (entry ∷ later) earlier is = legal_earlier plan later earlier is.1

met_earlier : (plan : ℕ → ShardPlan) (later earlier : List Deed) → AreMet plan (later ++ earlier) → AreMet plan earlier
met_earlier plan [] earlier met = met
met_earlier plan (deed ∷ later) earlier met = met_earlier plan later earlier met.1

first_less : (deed : Deed) (deeds whole : List Deed) → AreFirst (deed ∷ deeds) whole → AreFirst deeds whole
first_less deed deeds whole first = (first.0 ++ deed ∷ [], first.1 ∙ sym (append_assoc first.0 (deed ∷ []) deeds))

abbrev answer_of : ℤ → Reply → ℤ
answer_of none (Answer answer) = answer
answer_of none reply = none

-- ---- the shards of these plans, on which the controller did this

module _ (plan : ℕ → ShardPlan) (maps : List MapDef) (options : Options) (count : ℕ) (plans : ArePlans maps options count plan) (fit : AreOptions maps options) where
  abbrev shard_with : List Deed → ℕ → JournaledShard
  shard_with deeds number = record { plan = plan number; journal = reverse (made_on number deeds) }

  abbrev shards_from : List Deed → ℕ → ℕ → List JournaledShard
  shards_from deeds number zero = []
  shards_from deeds number (suc left) = shard_with deeds number ∷ shards_from deeds (suc number) left

  abbrev maps_with : List Deed → TurnMaps
  maps_with deeds = record { maps = maps; options = options; shards = shards_from deeds 0 count }

  numbered : (number : ℕ) → number < count → (plan number).number ≡ number
  numbered number below = (plan_number options number (slice_get maps (number / options.shards)) (plan number) (plans.each number below)).0

  there : (deeds : List Deed) (number left k : ℕ) → k < left → slice_get (shards_from deeds number left) k ≡ Some (shard_with deeds (number + k))
  there deeds number zero k below = absurd (omega (arith, below))
  there deeds number (suc left) zero below = ap (λ (n : ℕ). Some (shard_with deeds n)) (omega arith)
  there deeds number (suc left) (suc k) below = there deeds (suc number) left k (omega (arith, below)) ∙ ap (λ (n : ℕ). Some (shard_with deeds n)) (omega arith)

  there_at : (deeds : List Deed) (k : ℕ) → k < count → slice_get (shards_from deeds 0 count) k ≡ Some (shard_with deeds k)
  there_at deeds k below = there deeds 0 count k below ∙ ap (λ (n : ℕ). Some (shard_with deeds n)) (omega arith)

  many : (deeds : List Deed) (number left : ℕ) → length (shards_from deeds number left) ≡ left
  many deeds number zero = refl
  many deeds number (suc left) = ap suc (many deeds (suc number) left)

  opened : AreOpened maps options (shards_from [] 0 count)
  opened = record {
    count = many [] 0 count ∙ plans.count_is;
    each = λ number below.
        let within : number < count = (let long = many [] 0 count in omega (arith, below, long)) in
        there_at [] number within ∙ ap (λ (found : Option ShardPlan). option_map opened_shard found) (sym (plans.each number within));
  }

  -- one entry more on one of them
  apart_still : (entry : Entry) (deeds : List Deed) (number left : ℕ) → shard_of_call entry.call < number →
      shards_from (Wrote entry ∷ deeds) number left ≡ shards_from deeds number left
  apart_still entry deeds number zero below = refl
  apart_still entry deeds number (suc left) below = λ i.
      record { plan = plan number; journal = reverse (one_else number (Wrote entry) deeds (λ same. omega (arith, same, below)) i) }
      ∷ apart_still entry deeds (suc number) left (omega (arith, below)) i

  one_more : (entry : Entry) (deeds : List Deed) (number left k : ℕ) → k < left → shard_of_call entry.call ≡ number + k →
      shards_from (Wrote entry ∷ deeds) number left ≡ slice_set (shards_from deeds number left) k (shard_with_entry (shard_with deeds (number + k)) entry)
  one_more entry deeds number zero k below at = absurd (omega (arith, below))
  one_more entry deeds number (suc left) zero below at =
      let here : shard_of_call entry.call ≡ number = omega (arith, at) in
      let written : reverse (made_on number (Wrote entry ∷ deeds)) ≡ reverse (made_on number deeds) ++ entry ∷ [] =
      ap (λ (list : List Entry). reverse list) (made_here number entry deeds here) ∙ reverse-cons entry (made_on number deeds) in
      (λ i. record { plan = plan number; journal = written i } ∷ apart_still entry deeds (suc number) left (omega (arith, here)) i)
      ∙ ap (λ (n : ℕ). shard_with_entry (shard_with deeds n) entry ∷ shards_from deeds (suc number) left) (omega arith)
  one_more entry deeds number (suc left) (suc k) below at =
      (λ i. record { plan = plan number; journal = reverse (one_else number (Wrote entry) deeds (λ same. omega (arith, same, at)) i) }
      ∷ one_more entry deeds (suc number) left k (omega (arith, below)) (omega (arith, at)) i)
      ∙ ap (λ (n : ℕ). shard_with deeds number ∷ slice_set (shards_from deeds (suc number) left) k (shard_with_entry (shard_with deeds n) entry)) (omega arith)

  one_more_at : (entry : Entry) (deeds : List Deed) (k : ℕ) → k < count → shard_of_call entry.call ≡ k →
      shards_from (Wrote entry ∷ deeds) 0 count ≡ slice_set (shards_from deeds 0 count) k (shard_with_entry (shard_with deeds k) entry)
  one_more_at entry deeds k below at = one_more entry deeds 0 count k below (omega (arith, at))
      ∙ ap (λ (n : ℕ). slice_set (shards_from deeds 0 count) k (shard_with_entry (shard_with deeds n) entry)) (omega arith)

  -- ---- in a whole whose histories are legal, and in which each look at a full journal met one

  module _ (whole : List Deed) (legal : (number : ℕ) → number < count → IsLegalHistory (plan number) (made_on number whole)) (met : AreMet plan whole) where
    legal_first : (deeds : List Deed) → AreFirst deeds whole → (number : ℕ) → number < count → IsLegalHistory (plan number) (made_on number deeds)
    legal_first deeds first number below =
        legal_earlier (plan number) (made_on number first.0) (made_on number deeds)
        (subst (IsLegalHistory (plan number)) (ap (λ (list : List Deed). made_on number list) first.1 ∙ made_append number first.0 deeds) (legal number below))

    met_first : (deeds : List Deed) → AreFirst deeds whole → AreMet plan deeds
    met_first deeds first = met_earlier plan first.0 deeds (subst (λ (list : List Deed). AreMet plan list) first.1 met)

    -- an update that was answered
    answered : (before after : UpdatesView) (update : UpdateBytes) (answer : ℤ) → before.maps ≡ maps → before.options ≡ options → IsUpdated plan before update answer after →
        AreFirst after.pass.deeds whole → IsUpdatedInTurn (maps_with before.pass.deeds) update answer (maps_with after.pass.deeds)
    answered before after update answer same_maps same_options made first =
        let number : ℕ = shard_of maps options update in
        let at : shard_of before.maps before.options update ≡ number = λ i. shard_of (same_maps i) (same_options i) update in
        let of_map : slice_get maps update.map ≡ Some (plan number).definition =
        ap (λ (m : List MapDef). slice_get m update.map) (sym same_maps) ∙ made.of_map ∙ ap (λ (n : ℕ). Some (plan n).definition) at in
        let below : number < count = subst (λ (n : ℕ). number < n) (sym plans.count_is)
        (within_of maps update.map options.shards update.key (slice_get maps update.map) (some_shards maps options fit) refl
        (subst (λ (found : Option MapDef). IsTrue (is_some found)) (sym of_map) refl)) in
        let entry : Entry = entry_of Controller (controller_update number update) (Answer answer) in
        let did : after.pass.deeds ≡ Wrote entry ∷ before.pass.deeds =
        made.did ∙ ap (λ (n : ℕ). Wrote (entry_of Controller (controller_update n update) (Answer answer)) ∷ before.pass.deeds) at in
        let now : AreFirst (Wrote entry ∷ before.pass.deeds) whole = subst (λ (list : List Deed). AreFirst list whole) did first in
        let grown : IsLegalHistory (plan number) (entry ∷ made_on number before.pass.deeds) =
        subst (IsLegalHistory (plan number)) (made_here number entry before.pass.deeds refl) (legal_first (Wrote entry ∷ before.pass.deeds) now number below) in
        let history : reverse (reverse (made_on number before.pass.deeds)) ≡ made_on number before.pass.deeds = reverse-reverse (made_on number before.pass.deeds) in
        let own : controller_update number update ≡ controller_update (plan number).number update = ap (λ (n : ℕ). controller_update n update) (sym (numbered number below)) in
        let named : shard_with_entry (shard_with before.pass.deeds number) entry ≡
        shard_with_entry (shard_with before.pass.deeds number) (entry_of Controller (controller_update (plan number).number update) (Answer answer)) =
        ap (λ (call : Call). shard_with_entry (shard_with before.pass.deeds number) (entry_of Controller call (Answer answer))) own in
        record {
          at = record {
            one = shard_with before.pass.deeds number;
            known = there_at before.pass.deeds number below;
            answered = ap (λ (reply : Reply). answer_of answer reply) grown.0.step.replied
                ∙ ap (λ (list : List Entry). update_answer (plan number) (shard_after (plan number) list) update.key (flags_number Any)) (sym history);
            legal = subst (λ (one : JournaledShard). IsLegalJournal (plan number) one.journal) named
                (subst (IsLegalHistory (plan number))
                (sym (ap (λ (list : List Entry). reverse list) (sym (reverse-cons entry (made_on number before.pass.deeds))) ∙ reverse-reverse (entry ∷ made_on number before.pass.deeds)))
                grown);
            written = ap (λ (list : List Deed). shards_from list 0 count) did ∙ one_more_at entry before.pass.deeds number below refl
                ∙ ap (λ (one : JournaledShard). slice_set (shards_from before.pass.deeds 0 count) number one) named;
          };
          of_map = ∣ of_map ∣₁;
          same_maps = refl;
          same_options = refl;
        }

    -- and one that met a full journal
    turned_away : (before after : UpdatesView) (update : UpdateBytes) → before.maps ≡ maps → before.options ≡ options → IsTurnedAway plan before update after →
        AreFirst after.pass.deeds whole → IsTurnedAwayInTurn (maps_with before.pass.deeds) update (maps_with before.pass.deeds)
    turned_away before after update same_maps same_options away first =
        let number : ℕ = shard_of maps options update in
        let at : shard_of before.maps before.options update ≡ number = λ i. shard_of (same_maps i) (same_options i) update in
        let of_map : slice_get maps update.map ≡ Some (plan number).definition =
        ap (λ (m : List MapDef). slice_get m update.map) (sym same_maps) ∙ away.of_map ∙ ap (λ (n : ℕ). Some (plan n).definition) at in
        let below : number < count = subst (λ (n : ℕ). number < n) (sym plans.count_is)
        (within_of maps update.map options.shards update.key (slice_get maps update.map) (some_shards maps options fit) refl
        (subst (λ (found : Option MapDef). IsTrue (is_some found)) (sym of_map) refl)) in
        let did : after.pass.deeds ≡ MetFull Controller (controller_update number update) ∷ before.pass.deeds =
        away.did ∙ ap (λ (n : ℕ). MetFull Controller (controller_update n update) ∷ before.pass.deeds) at in
        let full : IsJournalFull (plan number) (made_on number before.pass.deeds) (controller_update number update) =
        (met_first (MetFull Controller (controller_update number update) ∷ before.pass.deeds) (subst (λ (list : List Deed). AreFirst list whole) did first)).0 in
        record {
          at = record {
            one = shard_with before.pass.deeds number;
            known = there_at before.pass.deeds number below;
            full = subst (λ (call : Call). IsJournalFull (plan number) (reverse (reverse (made_on number before.pass.deeds))) call)
                (ap (λ (n : ℕ). controller_update n update) (sym (numbered number below)))
                (subst (λ (list : List Entry). IsJournalFull (plan number) list (controller_update number update)) (sym (reverse-reverse (made_on number before.pass.deeds))) full);
          };
          of_map = ∣ of_map ∣₁;
          nothing = refl;
        }

    -- one update after the other: what comes later shows that what was done before comes first
    module _ (start : UpdatesView) (nothing : start.pass.deeds ≡ []) where
      set_first : (updates : List MapUpdate) (before after : UpdatesView) → before.maps ≡ maps → before.options ≡ options → AreSet (IsUpdated plan) before updates after →
          AreFirst after.pass.deeds whole → AreFirst before.pass.deeds whole
      set_first [] before after same_maps same_options set first = subst (λ (port : UpdatesView). AreFirst port.pass.deeds whole) (sym set) first
      set_first (update ∷ later) before after same_maps same_options set first =
          let middle = set_first later set.0 after (set.1.maps ∙ same_maps) (set.1.options ∙ same_options) set.2 first in
          first_less _ before.pass.deeds whole (subst (λ (list : List Deed). AreFirst list whole) set.1.did middle)

      set_in_turn : (updates : List MapUpdate) (before after : UpdatesView) → before.maps ≡ maps → before.options ≡ options → AreSet (IsUpdated plan) before updates after →
          AreFirst after.pass.deeds whole → AreSet IsUpdatedInTurn (maps_with before.pass.deeds) updates (maps_with after.pass.deeds)
      set_in_turn [] before after same_maps same_options set first = ap (λ (port : UpdatesView). maps_with port.pass.deeds) set
      set_in_turn (update ∷ later) before after same_maps same_options set first = (
        maps_with set.0.pass.deeds,
        answered before set.0 (update_bytes update) success same_maps same_options set.1
            (set_first later set.0 after (set.1.maps ∙ same_maps) (set.1.options ∙ same_options) set.2 first),
        set_in_turn later set.0 after (set.1.maps ∙ same_maps) (set.1.options ∙ same_options) set.2 first,
      )

      set_same : (updates : List MapUpdate) (before after : UpdatesView) → before.maps ≡ maps → before.options ≡ options → AreSet (IsUpdated plan) before updates after →
          (after.maps ≡ maps) × (after.options ≡ options)
      set_same [] before after same_maps same_options set =
          (ap (λ (port : UpdatesView). port.maps) (sym set) ∙ same_maps, ap (λ (port : UpdatesView). port.options) (sym set) ∙ same_options)
      set_same (update ∷ later) before after same_maps same_options set = set_same later set.0 after (set.1.maps ∙ same_maps) (set.1.options ∙ same_options) set.2

      from_nothing : (after : TurnMaps) (updates : List MapUpdate) → AreSet IsUpdatedInTurn (maps_with start.pass.deeds) updates after →
          AreSet IsUpdatedInTurn (maps_with []) updates after
      from_nothing after updates set = subst (λ (list : List Deed). AreSet IsUpdatedInTurn (maps_with list) updates after) nothing set

      why_left : (updates : List MapUpdate) (after : UpdatesView) (fault : ReplayFault) → start.maps ≡ maps → start.options ≡ options →
          IsWhyLeft (IsUpdated plan) (IsTurnedAway plan) start updates after fault → AreFirst after.pass.deeds whole → IsWhyInTurn maps options updates fault
      why_left updates after (Refused place answer) same_maps same_options why first =
          let same = set_same (take place updates) start why.middle same_maps same_options why.next.set in
          let before = first_less _ why.middle.pass.deeds whole (subst (λ (list : List Deed). AreFirst list whole) why.answered.did first) in record {
            opened = shards_from [] 0 count;
            opened_are = opened;
            why = (
              maps_with after.pass.deeds,
              record {
                update = why.update;
                middle = maps_with why.middle.pass.deeds;
                next = record {
                  known = why.next.known;
                  set = from_nothing (maps_with why.middle.pass.deeds) (take place updates)
                      (set_in_turn (take place updates) start why.middle same_maps same_options why.next.set before);
                };
                answered = answered why.middle after (update_bytes why.update) answer same.0 same.1 why.answered first;
                no_success = why.no_success;
              },
            );
          }
      why_left updates after (Full place) same_maps same_options why first =
          let same = set_same (take place updates) start why.middle same_maps same_options why.next.set in
          let before = first_less _ why.middle.pass.deeds whole (subst (λ (list : List Deed). AreFirst list whole) why.full.did first) in record {
            opened = shards_from [] 0 count;
            opened_are = opened;
            why = (
              maps_with why.middle.pass.deeds,
              record {
                update = why.update;
                middle = maps_with why.middle.pass.deeds;
                next = record {
                  known = why.next.known;
                  set = from_nothing (maps_with why.middle.pass.deeds) (take place updates)
                      (set_in_turn (take place updates) start why.middle same_maps same_options why.next.set before);
                };
                full = turned_away why.middle after (update_bytes why.update) same.0 same.1 why.full first;
              },
            );
          }
      why_left updates after BadOptions same_maps same_options why first = absurd why
      why_left updates after Memory same_maps same_options why first = absurd why
      why_left updates after NoThread same_maps same_options why first = absurd why

-- by what the controller's pass saw, and by the one order in which its deeds come first
pub why_as_only_caller : (plan : ℕ → ShardPlan) (maps : List MapDef) (options : Options) (count : ℕ) (updates : List MapUpdate) (before after : PassView)
    (fault : ReplayFault) (whole : List Deed) → ArePlans maps options count plan → AreOptions maps options → IsUnused before →
    IsWhyByPass plan maps options before after updates fault → ((number : ℕ) → number < count → IsLegalHistory (plan number) (made_on number whole)) →
    AreMet plan whole → AreFirst after.deeds whole → IsWhyInTurn maps options updates fault
why_as_only_caller plan maps options count updates before after fault whole plans fit unused why legal met first =
    why_left plan maps options count plans fit whole legal met (record { maps = maps; options = options; pass = before }) unused.1 updates
    (record { maps = maps; options = options; pass = after }) fault refl refl why first
