-- Updates, commands and rounds over shards with journals of different room.
use Rattle.std.proofs.Common.{◌≡◌, ◌≢◌, ◌⊎◌, inl, inr, ℕ, zero, suc, ℤ, pos, Bool, true, false, List, [], ◌∷◌, ◌++◌, Option, Some, None, sym, ap, ◌∙◌, subst}
use Rattle.std.specs.Prelude.{slice_get, slice_set}
use Rattle.ebpf_decode.specs.declared.map.MapDef.{MapDef}
use Rattle.semantics.specs.declared.options.Options.{Options}
use Rattle.semantics.specs.Linux.{success}
use Rattle.semantics.specs.Program.{shard_in_map}
use Rattle.semantics.specs.Replay.{is_keyed}
use Rattle.map_updates.specs.declared.update.MapUpdate.{MapUpdate}
use Rattle.shard_core.specs.JournaledShard.{JournaledShard}
use Rattle.shards.specs.NewShards.{shard_at}
use Rattle.control.specs.declared.command.Action.{Action}
use Rattle.control.specs.declared.fault.ControlFault.{ControlFault}
use Rattle.control.specs.declared.fault.ControlFault.TheVariants.{Refused, JournalFull, Memory}
use Rattle.control.specs.declared.update.Update.{Update as Change}
use Rattle.control.specs.MapUpdates.{UpdateBytes, map_update, AreMade}
use Rattle.control.specs.RingChanges.{changes_below, slot_updates}
use Rattle.control.specs.Controlling.{ControllerState, refusal_of, updates_of}
use Rattle.actors.specs.FirstUpdates.{AreSet, update_bytes}
use Rattle.replay.specs.InTurn.{TurnMaps, shard_in_turn, IsUpdatedAt, IsUpdatedInTurn, IsAppliedInTurn, IsReclaimedInTurn, IsPartOfRound, IsRoundTo}
use Rattle.replay.specs.OtherJournals.{AreSameButJournals}
use Rattle.replay.proofs.OneCommand.{no_answer, one_table, firsts, ups, IsKept, IsWhole, IsTold, IsOneOf, one_of_four}
use Rattle.replay.proofs.OtherShards.{IsOutside, AreAllAlike, alike_at, alike_set, kind_there, after_update, update_alike, asked_alike}

-- ---- maps

pub record AreMapsAlike (one other : TurnMaps) : Type 0 where
  pub maps : one.maps ≡ other.maps
  pub options : AreSameButJournals one.options other.options
  pub shards : AreAllAlike IsOutside one.shards other.shards

pub maps_alike : (one other one' other' : TurnMaps) → one' ≡ one → other' ≡ other → AreMapsAlike one other → AreMapsAlike one' other'
maps_alike one other one' other' first second alike =
    subst (λ (all : TurnMaps). AreMapsAlike all other') (sym first) (subst (λ (all : TurnMaps). AreMapsAlike one all) (sym second) alike)

pub same_options : (one other one' other' : Options) → one' ≡ one → other' ≡ other → AreSameButJournals one other → AreSameButJournals one' other'
same_options one other one' other' first second same =
    subst (λ (o : Options). AreSameButJournals o other') (sym first) (subst (λ (o : Options). AreSameButJournals one o) (sym second) same)

-- ---- an update

at_alike : (one other after after' : List JournaledShard) (number : ℕ) (key value : List ℕ) (answer answer' : ℤ) → AreAllAlike IsOutside one other →
    IsUpdatedAt one number key value answer after → IsUpdatedAt other number key value answer' after' →
    (answer ≡ answer') × AreAllAlike IsOutside after after'
at_alike one other after after' number key value answer answer' all made made' =
    let here = alike_at IsOutside one other number made.one made'.one all made.known made'.known in
    let once = update_alike made.one made'.one key value answer answer' here made.answered made'.answered made.legal made'.legal in (
      once.answers,
      subst (λ (list : List JournaledShard). AreAllAlike IsOutside list after') (sym made.written)
          (subst (λ (list : List JournaledShard). AreAllAlike IsOutside (slice_set one number (after_update made.one key value answer)) list) (sym made'.written)
          (alike_set IsOutside one other number (after_update made.one key value answer) (after_update made'.one key value answer') all once.alike)),
    )

updated_alike : (one other after after' : TurnMaps) (update : UpdateBytes) (answer answer' : ℤ) → AreMapsAlike one other →
    IsUpdatedInTurn one update answer after → IsUpdatedInTurn other update answer' after' → (answer ≡ answer') × AreMapsAlike after after'
updated_alike one other after after' update answer answer' alike made made' =
    let number : shard_in_turn other update ≡ shard_in_turn one update =
    sym (ap (λ (m : List MapDef). shard_in_map (slice_get m update.map) one.options.shards update.map update.key) alike.maps
    ∙ ap (λ (n : ℕ). shard_in_map (slice_get other.maps update.map) n update.map update.key) alike.options.shards) in
    let once = at_alike one.shards other.shards after.shards after'.shards (shard_in_turn one update) update.key update.value answer answer' alike.shards made.at
    (subst (λ (n : ℕ). IsUpdatedAt other.shards n update.key update.value answer' after'.shards) number made'.at) in (
      once.0,
      record {
        maps = made.same_maps ∙ alike.maps ∙ sym made'.same_maps;
        options = same_options one.options other.options after.options after'.options made.same_options made'.same_options alike.options;
        shards = once.1;
      },
    )

pub set_alike : (updates : List MapUpdate) (one other after after' : TurnMaps) → AreMapsAlike one other → AreSet IsUpdatedInTurn one updates after →
    AreSet IsUpdatedInTurn other updates after' → AreMapsAlike after after'
set_alike [] one other after after' alike set set' = maps_alike one other after after' (sym set) (sym set') alike
set_alike (update ∷ later) one other after after' alike set set' =
    set_alike later set.0 set'.0 after after' (updated_alike one other set.0 set'.0 (update_bytes update) success success alike set.1 set'.1).1 set.2 set'.2

made_alike : (updates : List Change) (one other after after' : TurnMaps) → AreMapsAlike one other → AreMade IsUpdatedInTurn one updates after →
    AreMade IsUpdatedInTurn other updates after' → AreMapsAlike after after'
made_alike [] one other after after' alike made made' = maps_alike one other after after' (sym made) (sym made') alike
made_alike (update ∷ later) one other after after' alike made made' =
    made_alike later made.0 made'.0 after after' (updated_alike one other made.0 made'.0 (map_update update) (pos 0) (pos 0) alike made.1 made'.1).1
    made.2 made'.2

-- ---- a command

pub record AreAppliedAlike (fault fault' : Option ControlFault) (state state' : ControllerState) (after after' : TurnMaps) : Type 0 where
  pub faults : fault ≡ fault'
  pub states : state ≡ state'
  pub maps : AreMapsAlike after after'

module _ (state : ControllerState) (action : Action) where
  -- what refuses it first is its fault
  abbrev ComesFirst : Option ControlFault → Type 0
  ComesFirst fault = (other : ControlFault) → refusal_of state action ≡ Some other → fault ≡ Some other

  -- no full journal stopped it
  abbrev IsOneOfThree : TurnMaps → Option ControlFault → ControllerState → TurnMaps → Type 0
  IsOneOfThree before fault state' after =
      IsKept state before action fault state' after ⊎ (IsWhole state before action fault state' after ⊎ IsTold state before action fault state' after)

  one_of_three : (before : TurnMaps) (fault : Option ControlFault) (state' : ControllerState) (after : TurnMaps) → fault ≢ Some JournalFull →
      IsOneOf state before action fault state' after → IsOneOfThree before fault state' after
  one_of_three before fault state' after room (inl kept) = inl kept
  one_of_three before fault state' after room (inr (inl whole)) = inr (inl whole)
  one_of_three before fault state' after room (inr (inr (inl told))) = inr (inr told)
  one_of_three before fault state' after room (inr (inr (inr cut))) = absurd (room cut.fault_is)

  module _ (one other : TurnMaps) (fault fault' : Option ControlFault) (state' state'' : ControllerState) (after after' : TurnMaps) where
    both_kept : AreMapsAlike one other → IsKept state one action fault state' after → IsKept state other action fault' state'' after' →
        AreAppliedAlike fault fault' state' state'' after after'
    both_kept alike first second = record {
      faults = first.fault_is ∙ sym first.refuses ∙ second.refuses ∙ sym second.fault_is;
      states = first.unchanged.state_is ∙ sym second.unchanged.state_is;
      maps = maps_alike one other after after' first.unchanged.port_is second.unchanged.port_is alike;
    }

    both_whole : AreMapsAlike one other → IsWhole state one action fault state' after → IsWhole state other action fault' state'' after' →
        AreAppliedAlike fault fault' state' state'' after after'
    both_whole alike first second =
        let owners = one_table state.size (ups state one action) first.whole.owners second.whole.owners first.whole.table second.whole.table in
        record {
          faults = first.fault_is ∙ sym second.fault_is;
          states = first.whole.state_is
              ∙ ap (λ (list : List ℕ). record { size = state.size; up = ups state one action; owners = list; is_full = false }) owners
              ∙ sym second.whole.state_is;
          maps = made_alike (updates_of state (firsts state one action) first.whole.owners) one other after after' alike first.whole.are_made
              (subst (λ (list : List ℕ). AreMade IsUpdatedInTurn other (updates_of state (firsts state one action) list) after') (sym owners)
              second.whole.are_made);
        }

    both_told : AreMapsAlike one other → IsTold state one action fault state' after → IsTold state other action fault' state'' after' →
        AreAppliedAlike fault fault' state' state'' after after'
    both_told alike first second =
        let lists : first.answered.update ∷ [] ≡ second.answered.update ∷ [] = sym first.answered.only ∙ second.answered.only in
        let update : first.answered.update ≡ second.answered.update = cc in
        let once = updated_alike one other after after' (map_update first.answered.update) first.answer second.answer alike first.answered.answered
        (subst (λ (change : Change). IsUpdatedInTurn other (map_update change) second.answer after') (sym update) second.answered.answered) in
        record {
          faults = first.fault_is ∙ ap (λ (answer : ℤ). Some (Refused answer)) once.0 ∙ sym second.fault_is;
          states = first.answered.state_is ∙ sym second.answered.state_is;
          maps = once.1;
        }

    not_whole : IsKept state one action fault state' after → IsWhole state other action fault' state'' after' → ComesFirst fault' → ⊥
    not_whole first second comes =
        let both : None ≡ Some first.which = sym second.fault_is ∙ comes first.which first.refuses in cc

    not_told : IsKept state one action fault state' after → IsTold state other action fault' state'' after' → ComesFirst fault' → ⊥
    not_told first second comes =
        let both : Some first.which ≡ Some (Refused second.answer) = sym (comes first.which first.refuses) ∙ second.fault_is in
        no_answer state action second.answer (first.refuses ∙ both)

  whole_not_told : (one other : TurnMaps) (fault fault' : Option ControlFault) (state' state'' : ControllerState) (after after' : TurnMaps) →
      AreMapsAlike one other → IsWhole state one action fault state' after → IsTold state other action fault' state'' after' → ⊥
  whole_not_told one other fault fault' state' state'' after after' alike first second =
      let rest : List Change = slot_updates (changes_below state.owners first.whole.owners state.size) in
      let made : AreMade IsUpdatedInTurn one (second.answered.update ∷ rest) after =
      subst (λ (list : List Change). AreMade IsUpdatedInTurn one (list ++ rest) after) second.answered.only first.whole.are_made in
      second.answered.not_done
      (sym (updated_alike one other made.0 after' (map_update second.answered.update) (pos 0) second.answer alike made.1 second.answered.answered).0)

  told_not_whole : (one other : TurnMaps) (fault fault' : Option ControlFault) (state' state'' : ControllerState) (after after' : TurnMaps) →
      AreMapsAlike one other → IsTold state one action fault state' after → IsWhole state other action fault' state'' after' → ⊥
  told_not_whole one other fault fault' state' state'' after after' alike first second =
      let rest : List Change = slot_updates (changes_below state.owners second.whole.owners state.size) in
      let made : AreMade IsUpdatedInTurn other (first.answered.update ∷ rest) after' =
      subst (λ (list : List Change). AreMade IsUpdatedInTurn other (list ++ rest) after') first.answered.only second.whole.are_made in
      first.answered.not_done
      (updated_alike one other after made.0 (map_update first.answered.update) first.answer (pos 0) alike first.answered.answered made.1).0

  three_ways : (one other : TurnMaps) (f f' : Option ControlFault) (s s' : ControllerState) (a a' : TurnMaps) → AreMapsAlike one other → ComesFirst f →
      ComesFirst f' → IsOneOfThree one f s a → IsOneOfThree other f' s' a' → AreAppliedAlike f f' s s' a a'
  three_ways one other f f' s s' a a' alike comes comes' (inl first) (inl second) = both_kept one other f f' s s' a a' alike first second
  three_ways one other f f' s s' a a' alike comes comes' (inl first) (inr (inl second)) =
      absurd (not_whole one other f f' s s' a a' first second comes')
  three_ways one other f f' s s' a a' alike comes comes' (inl first) (inr (inr second)) =
      absurd (not_told one other f f' s s' a a' first second comes')
  three_ways one other f f' s s' a a' alike comes comes' (inr (inl first)) (inl second) =
      absurd (not_whole other one f' f s' s a' a second first comes)
  three_ways one other f f' s s' a a' alike comes comes' (inr (inl first)) (inr (inl second)) =
      both_whole one other f f' s s' a a' alike first second
  three_ways one other f f' s s' a a' alike comes comes' (inr (inl first)) (inr (inr second)) =
      absurd (whole_not_told one other f f' s s' a a' alike first second)
  three_ways one other f f' s s' a a' alike comes comes' (inr (inr first)) (inl second) =
      absurd (not_told other one f' f s' s a' a second first comes)
  three_ways one other f f' s s' a a' alike comes comes' (inr (inr first)) (inr (inl second)) =
      absurd (told_not_whole one other f f' s s' a a' alike first second)
  three_ways one other f f' s s' a a' alike comes comes' (inr (inr first)) (inr (inr second)) =
      both_told one other f f' s s' a a' alike first second

pub applied_alike : (state : ControllerState) (one other : TurnMaps) (action : Action) (fault fault' : Option ControlFault)
    (state' state'' : ControllerState) (after after' : TurnMaps) → AreMapsAlike one other → fault ≢ Some Memory → fault' ≢ Some Memory →
    fault ≢ Some JournalFull → fault' ≢ Some JournalFull → IsAppliedInTurn fault state one action state' after →
    IsAppliedInTurn fault' state other action state'' after' →
    ((which : ControlFault) → refusal_of state action ≡ Some which → fault ≡ Some which) →
    ((which : ControlFault) → refusal_of state action ≡ Some which → fault' ≡ Some which) →
    AreAppliedAlike fault fault' state' state'' after after'
applied_alike state one other action fault fault' state' state'' after after' alike had had' room room' did did' comes comes' =
    three_ways state action one other fault fault' state' state'' after after' alike comes comes'
    (one_of_three state action one fault state' after room (one_of_four state one action fault state' after had did))
    (one_of_three state action other fault' state'' after' room' (one_of_four state other action fault' state'' after' had' did'))

-- ---- a round

reclaimed_alike : (number : ℕ) (one other after after' : List JournaledShard) → AreAllAlike IsOutside one other → IsReclaimedInTurn number one after →
    IsReclaimedInTurn number other after' → AreAllAlike IsOutside after after'
reclaimed_alike number one other after after' all asked asked' =
    let here = alike_at IsOutside one other number asked.one asked'.one all asked.known asked'.known in
    let new = asked_alike asked.one asked'.one asked.new asked'.new here asked.asked asked'.asked in
    subst (λ (list : List JournaledShard). AreAllAlike IsOutside list after') (sym asked.written)
    (subst (λ (list : List JournaledShard). AreAllAlike IsOutside (slice_set one number asked.new) list) (sym asked'.written)
    (alike_set IsOutside one other number asked.new asked'.new all new))

part_alike : (keyed : Bool) (number : ℕ) (one other after after' : List JournaledShard) → AreAllAlike IsOutside one other →
    IsPartOfRound keyed number one after → IsPartOfRound keyed number other after' → AreAllAlike IsOutside after after'
part_alike true number one other after after' all part part' = reclaimed_alike number one other after after' all part part'
part_alike false number one other after after' all part part' =
    subst (λ (list : List JournaledShard). AreAllAlike IsOutside list after') (sym part)
    (subst (λ (list : List JournaledShard). AreAllAlike IsOutside one list) (sym part') all)

pub round_alike : (count : ℕ) (one other after after' : List JournaledShard) → AreAllAlike IsOutside one other → IsRoundTo count one after →
    IsRoundTo count other after' → AreAllAlike IsOutside after after'
round_alike zero one other after after' all round round' =
    subst (λ (list : List JournaledShard). AreAllAlike IsOutside list after') (sym round)
    (subst (λ (list : List JournaledShard). AreAllAlike IsOutside one list) (sym round') all)
round_alike (suc number) one other after after' all round round' =
    let middle = round_alike number one other round.0 round'.0 all round.1 round'.1 in
    let kind = kind_there IsOutside round.0 round'.0 number middle in
    part_alike (is_keyed (shard_at round.0 number).plan.definition.kind) number round.0 round'.0 after after' middle round.2
    (subst (λ (definition : MapDef). IsPartOfRound (is_keyed definition.kind) number round'.0 after') (sym kind) round'.2)
