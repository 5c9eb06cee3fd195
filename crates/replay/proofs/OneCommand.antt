-- An update in turn has one answer and leaves one state, and so has a command, unless memory is refused to it.
use Rattle.std.proofs.Common.{◌≡◌, ◌≢◌, ◌⊎◌, inl, inr, ℕ, ℤ, pos, Bool, true, false, List, [], ◌∷◌, ◌++◌, Option, Some, None, reverse, refl, sym, ap, ◌∙◌, subst}
use Rattle.std.specs.Prelude.{slice_set, IsTrue, if◌then◌else◌, nat_lt, ◌&&◌, ◌||◌}
use Rattle.std.specs.List.{find, list_any}
use Rattle.std.proofs.lemmas.List.{reverse-append}
use Rattle.ebpf_decode.specs.declared.map.MapDef.{MapDef}
use Rattle.wire.specs.declared.ethernet.Ipv4Address.{Ipv4Address}
use Rattle.semantics.specs.declared.call.Caller.TheVariants.{Controller}
use Rattle.semantics.specs.declared.call.Entry.{Entry}
use Rattle.semantics.specs.declared.call.Reply.TheVariants.{Answer}
use Rattle.semantics.specs.declared.linux.UpdateFlags.TheVariants.{Any}
use Rattle.semantics.specs.declared.options.Options.{Options}
use Rattle.semantics.specs.declared.plan.ShardPlan.{ShardPlan}
use Rattle.semantics.specs.Linux.{flags_number, success}
use Rattle.semantics.specs.History.{journal_is_full, IsLegalHistory, IsLegalJournal, IsLegalStep}
use Rattle.semantics.specs.SequentialShard.{update_answer}
use Rattle.map_updates.specs.declared.update.MapUpdate.{MapUpdate}
use Rattle.shard_core.specs.JournaledShard.{JournaledShard, state_of}
use Rattle.shard_core.specs.Calls.{shard_with_call, shard_update_call}
use Rattle.maglev.specs.declared.backend.Backend.{Backend as Server}
use Rattle.control.specs.declared.command.Action.{Action}
use Rattle.control.specs.declared.command.Action.TheVariants as actions
use Rattle.control.specs.declared.fault.ControlFault.{ControlFault}
use Rattle.control.specs.declared.fault.ControlFault.TheVariants.{BadSize, BadLine, UnknownBackend, BackendTwice, Refused, JournalFull, Memory}
use Rattle.control.specs.declared.update.Update.{Update as Change}
use Rattle.control.specs.MapUpdates.{UpdateBytes, map_update, AreMade}
use Rattle.control.specs.RingChanges.{changes_below, slot_updates}
use Rattle.control.specs.Controlling.{ControllerState, IsTable, has_number, has_address, up_refusal, down_refusal, action_refusal, refusal_of, first_updates, up_after, updates_of, IsCarriedOut, IsStopped, IsUnchanged, IsServiceAnswered}
use Rattle.actors.specs.FirstUpdates.{AreSet, update_bytes}
use Rattle.replay.specs.InTurn.{TurnMaps, shard_in_turn, IsUpdatedInTurn, IsTurnedAwayInTurn, IsAppliedInTurn}
use Rattle.replay.proofs.OneRun.{not_both}

-- ---- an update

-- the newest entry of a legal journal is a step
pub newest_step : (plan : ShardPlan) (journal : List Entry) (entry : Entry) → IsLegalJournal plan (journal ++ entry ∷ []) →
    IsLegalStep plan (reverse journal) entry
newest_step plan journal entry legal =
    let whole : IsLegalHistory plan (entry ∷ reverse journal) = subst (IsLegalHistory plan) (reverse-append journal (entry ∷ [])) legal in whole.0

abbrev maps_of : List MapDef → Options → List JournaledShard → TurnMaps
maps_of maps options shards = record { maps = maps; options = options; shards = shards }

pub one_state : (one other : TurnMaps) → one.maps ≡ other.maps → one.options ≡ other.options → one.shards ≡ other.shards → one ≡ other
one_state one other maps options shards =
    ap (λ (m : List MapDef). maps_of m one.options one.shards) maps ∙ ap (λ (o : Options). maps_of other.maps o one.shards) options
    ∙ ap (λ (s : List JournaledShard). maps_of other.maps other.options s) shards

pub updated_once : (before : TurnMaps) (update : UpdateBytes) (answer answer' : ℤ) (after after' : TurnMaps) → IsUpdatedInTurn before update answer after →
    IsUpdatedInTurn before update answer' after' → (answer ≡ answer') × (after ≡ after')
updated_once before update answer answer' after after' made made' =
    let same : made.at.one ≡ made'.at.one = cc (made.at.known, made'.at.known) in
    let answered : answer ≡ answer' =
    made.at.answered ∙ ap (λ (one : JournaledShard). update_answer one.plan (state_of one) update.key (flags_number Any)) same
    ∙ sym made'.at.answered in
    let shards : after.shards ≡ after'.shards =
    made.at.written
    ∙ ap (λ (one : JournaledShard). slice_set before.shards (shard_in_turn before update)
    (shard_with_call one Controller (shard_update_call one update.key update.value (flags_number Any)) (Answer answer))) same
    ∙ ap (λ (z : ℤ). slice_set before.shards (shard_in_turn before update)
    (shard_with_call made'.at.one Controller (shard_update_call made'.at.one update.key update.value (flags_number Any)) (Answer z))) answered
    ∙ sym made'.at.written in
    (answered, one_state after after' (made.same_maps ∙ sym made'.same_maps) (made.same_options ∙ sym made'.same_options) shards)

pub updated_or_full : (before : TurnMaps) (update : UpdateBytes) (answer : ℤ) (after after' : TurnMaps) → IsUpdatedInTurn before update answer after →
    IsTurnedAwayInTurn before update after' → ⊥
updated_or_full before update answer after after' made full =
    let same : made.at.one ≡ full.at.one = cc (made.at.known, full.at.known) in
    let one : JournaledShard = made.at.one in
    let step = newest_step one.plan one.journal
    (record { who = Controller; call = shard_update_call one update.key update.value (flags_number Any); reply = Answer answer }) made.at.legal in
    let is_full : IsTrue (journal_is_full one.plan (reverse one.journal) (shard_update_call one update.key update.value (flags_number Any))) =
    subst (λ (shard : JournaledShard). IsTrue (journal_is_full shard.plan (reverse shard.journal)
    (shard_update_call shard update.key update.value (flags_number Any)))) (sym same) full.at.full in
    not_both (journal_is_full one.plan (reverse one.journal) (shard_update_call one update.key update.value (flags_number Any))) is_full step.room

-- ---- updates, one after the other

set_once : (updates : List MapUpdate) (before after after' : TurnMaps) → AreSet IsUpdatedInTurn before updates after →
    AreSet IsUpdatedInTurn before updates after' → after ≡ after'
set_once [] before after after' set set' = sym set ∙ set'
set_once (update ∷ later) before after after' set set' =
    let middle = (updated_once before (update_bytes update) success success set.0 set'.0 set.1 set'.1).1 in
    set_once later set.0 after after' set.2 (subst (λ (one : TurnMaps). AreSet IsUpdatedInTurn one later after') (sym middle) set'.2)

pub all_set_once : (updates others : List MapUpdate) (before after after' : TurnMaps) → updates ≡ others → AreSet IsUpdatedInTurn before updates after →
    AreSet IsUpdatedInTurn before others after' → after ≡ after'
all_set_once updates others before after after' same set set' =
    set_once updates before after after' set (subst (λ (list : List MapUpdate). AreSet IsUpdatedInTurn before list after') (sym same) set')

made_once : (updates : List Change) (before after after' : TurnMaps) → AreMade IsUpdatedInTurn before updates after →
    AreMade IsUpdatedInTurn before updates after' → after ≡ after'
made_once [] before after after' made made' = sym made ∙ made'
made_once (update ∷ later) before after after' made made' =
    let middle = (updated_once before (map_update update) (pos 0) (pos 0) made.0 made'.0 made.1 made'.1).1 in
    made_once later made.0 after after' made.2 (subst (λ (one : TurnMaps). AreMade IsUpdatedInTurn one later after') (sym middle) made'.2)

-- the first update of those that were made, or that met a full journal
abbrev IsTurnedAwayAt : TurnMaps → Change → TurnMaps → Type 0
IsTurnedAwayAt before update after = IsTurnedAwayInTurn before (map_update update) after

cut_once : (updates made made' later later' : List Change) (next next' : Change) (before middle middle' after after' : TurnMaps) →
    updates ≡ made ++ next ∷ later → updates ≡ made' ++ next' ∷ later' → AreMade IsUpdatedInTurn before made middle →
    AreMade IsUpdatedInTurn before made' middle' → IsTurnedAwayAt middle next after → IsTurnedAwayAt middle' next' after' → after ≡ after'
cut_once updates [] [] later later' next next' before middle middle' after after' is is' made made' full full' =
    full.nothing ∙ sym made ∙ made' ∙ sym full'.nothing
cut_once updates [] (other ∷ others) later later' next next' before middle middle' after after' is is' made made' full full' =
    let lists : next ∷ later ≡ other ∷ (others ++ next' ∷ later') = sym is ∙ is' in
    let same : next ≡ other = cc in
    absurd (updated_or_full before (map_update other) (pos 0) made'.0 after made'.1
    (subst (λ (one : Change). IsTurnedAwayAt before one after) same (subst (λ (one : TurnMaps). IsTurnedAwayAt one next after) (sym made) full)))
cut_once updates (first ∷ more) [] later later' next next' before middle middle' after after' is is' made made' full full' =
    let lists : next' ∷ later' ≡ first ∷ (more ++ next ∷ later) = sym is' ∙ is in
    let same : next' ≡ first = cc in
    absurd (updated_or_full before (map_update first) (pos 0) made.0 after' made.1
    (subst (λ (one : Change). IsTurnedAwayAt before one after') same (subst (λ (one : TurnMaps). IsTurnedAwayAt one next' after') (sym made') full')))
cut_once updates (first ∷ more) (other ∷ others) later later' next next' before middle middle' after after' is is' made made' full full' =
    let lists : first ∷ (more ++ next ∷ later) ≡ other ∷ (others ++ next' ∷ later') = sym is ∙ is' in
    let same : first ≡ other = cc in
    let rest : more ++ next ∷ later ≡ others ++ next' ∷ later' = cc in
    let step : IsUpdatedInTurn before (map_update first) (pos 0) made'.0 =
    subst (λ (one : Change). IsUpdatedInTurn before (map_update one) (pos 0) made'.0) (sym same) made'.1 in
    let there = (updated_once before (map_update first) (pos 0) (pos 0) made.0 made'.0 made.1 step).1 in
    cut_once (more ++ next ∷ later) more others later later' next next' made.0 middle middle' after after' refl rest made.2
    (subst (λ (one : TurnMaps). AreMade IsUpdatedInTurn one others middle') (sym there) made'.2) full full'

-- not all of them are made and one is turned away
made_or_cut : (made later : List Change) (next : Change) (before middle after after' : TurnMaps) →
    AreMade IsUpdatedInTurn before (made ++ next ∷ later) after → AreMade IsUpdatedInTurn before made middle → IsTurnedAwayAt middle next after' → ⊥
made_or_cut [] later next before middle after after' all made full =
    updated_or_full before (map_update next) (pos 0) all.0 after' all.1 (subst (λ (one : TurnMaps). IsTurnedAwayAt one next after') (sym made) full)
made_or_cut (first ∷ more) later next before middle after after' all made full =
    let there = (updated_once before (map_update first) (pos 0) (pos 0) all.0 made.0 all.1 made.1).1 in
    made_or_cut more later next all.0 middle after after' all.2
    (subst (λ (one : TurnMaps). AreMade IsUpdatedInTurn one more middle) (sym there) made.2) full

-- the first of several was not answered 0, and was answered 0 or turned away
first_or_cut : (update : Change) (rest made later : List Change) (next : Change) (answer : ℤ) (before middle given after : TurnMaps) →
    update ∷ rest ≡ made ++ next ∷ later → answer ≢ pos 0 → IsUpdatedInTurn before (map_update update) answer given →
    AreMade IsUpdatedInTurn before made middle → IsTurnedAwayAt middle next after → ⊥
first_or_cut update rest [] later next answer before middle given after is not_done answered made full =
    let same : update ≡ next = cc in
    updated_or_full before (map_update update) answer given after answered
    (subst (λ (one : Change). IsTurnedAwayAt before one after) (sym same) (subst (λ (one : TurnMaps). IsTurnedAwayAt one next after) (sym made) full))
first_or_cut update rest (first ∷ more) later next answer before middle given after is not_done answered made full =
    let same : update ≡ first = cc in
    not_done (updated_once before (map_update update) answer (pos 0) given made.0 answered
    (subst (λ (one : Change). IsUpdatedInTurn before (map_update one) (pos 0) made.0) (sym same) made.1)).0

-- ---- what refuses a command before anything is asked

-- the two faults of a command that names the wrong backend
abbrev IsOfBackend : ControlFault → Type 0
IsOfBackend UnknownBackend = Unit {0}
IsOfBackend BackendTwice = Unit {0}
IsOfBackend BadSize = ⊥
IsOfBackend (BadLine line) = ⊥
IsOfBackend (Refused answer) = ⊥
IsOfBackend JournalFull = ⊥
IsOfBackend Memory = ⊥

of_backend : (fault other : ControlFault) → Some fault ≡ Some other → IsOfBackend fault → IsOfBackend other
of_backend fault other same is = let one : fault ≡ other = cc in subst IsOfBackend one is

up_of_backend : (size : ℕ) (up : List Server) (number : ℕ) (address : Ipv4Address) (fault : ControlFault) →
    up_refusal size up number address ≡ Some fault → IsOfBackend fault
up_of_backend size up number address fault is =
    by_tests (nat_lt number 256 && nat_lt number size) (list_any (has_number number) up || list_any (has_address address) up) is
  where
    by_tests : (known twice : Bool) → (if known then (if twice then Some BackendTwice else None) else Some UnknownBackend) ≡ Some fault → IsOfBackend fault
    by_tests true true is = of_backend BackendTwice fault is tt
    by_tests true false is = absurd cc
    by_tests false twice is = of_backend UnknownBackend fault is tt

down_of_backend : (server : Option Server) (fault : ControlFault) → down_refusal server ≡ Some fault → IsOfBackend fault
down_of_backend (Some server) fault is = absurd cc
down_of_backend None fault is = of_backend UnknownBackend fault is tt

action_of_backend : (size : ℕ) (up : List Server) (action : Action) (fault : ControlFault) → action_refusal size up action ≡ Some fault → IsOfBackend fault
action_of_backend size up (actions.Vip service is_notrack) fault is = absurd cc
action_of_backend size up (actions.Up number address) fault is = up_of_backend size up number address fault is
action_of_backend size up (actions.Down number) fault is = down_of_backend (find (has_number number) up) fault is
action_of_backend size up (actions.Gateway source source_mac destination_mac) fault is = absurd cc

-- a controller that met no full journal refuses for one of these two; no controller refuses so for an answer of a map
refused_of_backend : (state : ControllerState) (action : Action) (fault : ControlFault) → state.is_full ≡ false → refusal_of state action ≡ Some fault →
    IsOfBackend fault
refused_of_backend state action fault not_full is =
    let test : refusal_of state action ≡ action_refusal state.size state.up action =
    ap (λ (full : Bool). if full then Some JournalFull else action_refusal state.size state.up action) not_full in
    action_of_backend state.size state.up action fault (sym test ∙ is)

pub no_answer : (state : ControllerState) (action : Action) (answer : ℤ) → refusal_of state action ≡ Some (Refused answer) → ⊥
no_answer state action answer is = by_test state.is_full refl
  where
    by_test : (full : Bool) → state.is_full ≡ full → ⊥
    by_test false not_full = refused_of_backend state action (Refused answer) not_full is
    by_test true full_now =
        let test : refusal_of state action ≡ Some JournalFull =
        ap (λ (full : Bool). if full then Some JournalFull else action_refusal state.size state.up action) full_now in
        let both : Some JournalFull ≡ Some (Refused answer) = sym test ∙ is in
        absurd cc

-- ---- what a command did

pub one_table : (size : ℕ) (up : List Server) (owners others : List ℕ) → IsTable size up owners → IsTable size up others → owners ≡ others
one_table size [] owners others table table' = table ∙ sym table'
one_table size (server ∷ up) owners others table table' = table'.1 owners table.0

module _ (state : ControllerState) (before : TurnMaps) (action : Action) where
  abbrev pub firsts : List Change
  firsts = first_updates state.up action

  abbrev pub ups : List Server
  ups = up_after state.up action

  -- it was refused before anything was asked
  pub record IsKept (fault : Option ControlFault) (state' : ControllerState) (after : TurnMaps) : Type 0 where
    pub which : ControlFault
    pub fault_is : fault ≡ Some which
    pub refuses : refusal_of state action ≡ Some which
    pub unchanged : IsUnchanged state before state' after

  -- all its updates were made
  pub record IsWhole (fault : Option ControlFault) (state' : ControllerState) (after : TurnMaps) : Type 0 where
    pub fault_is : fault ≡ None
    pub whole : IsCarriedOut IsUpdatedInTurn state before firsts ups state' after

  -- its one update was answered so
  pub record IsTold (fault : Option ControlFault) (state' : ControllerState) (after : TurnMaps) : Type 0 where
    pub answer : ℤ
    pub fault_is : fault ≡ Some (Refused answer)
    pub answered : IsServiceAnswered IsUpdatedInTurn state before firsts answer state' after

  -- an update met a full journal
  pub record IsCut (fault : Option ControlFault) (state' : ControllerState) (after : TurnMaps) : Type 0 where
    pub fault_is : fault ≡ Some JournalFull
    pub stopped : IsStopped IsUpdatedInTurn IsTurnedAwayInTurn state before firsts ups state' after

  abbrev pub IsOneOf : Option ControlFault → ControllerState → TurnMaps → Type 0
  IsOneOf fault state' after = IsKept fault state' after ⊎ (IsWhole fault state' after ⊎ (IsTold fault state' after ⊎ IsCut fault state' after))

  pub one_of_four : (fault : Option ControlFault) (state' : ControllerState) (after : TurnMaps) → fault ≢ Some Memory →
      IsAppliedInTurn fault state before action state' after → IsOneOf fault state' after
  one_of_four None state' after had did = inr (inl (record { fault_is = refl; whole = did }))
  one_of_four (Some UnknownBackend) state' after had did =
      inl (record { which = UnknownBackend; fault_is = refl; refuses = did.1; unchanged = did.0 })
  one_of_four (Some BackendTwice) state' after had did = inl (record { which = BackendTwice; fault_is = refl; refuses = did.1; unchanged = did.0 })
  one_of_four (Some (Refused answer)) state' after had did = inr (inr (inl (record { answer = answer; fault_is = refl; answered = did })))
  one_of_four (Some JournalFull) state' after had (inl kept) =
      inl (record { which = JournalFull; fault_is = refl; refuses = kept.1; unchanged = kept.0 })
  one_of_four (Some JournalFull) state' after had (inr cut) = inr (inr (inr (record { fault_is = refl; stopped = cut })))
  one_of_four (Some Memory) state' after had did = absurd (had refl)
  one_of_four (Some BadSize) state' after had did = absurd did
  one_of_four (Some (BadLine line)) state' after had did = absurd did

  -- the refusal comes first
  abbrev pub IsFirst : Option ControlFault → Type 0
  IsFirst fault = (other : ControlFault) → refusal_of state action ≡ Some other → fault ≡ Some other

  record IsOnce (fault fault' : Option ControlFault) (state' state'' : ControllerState) (after after' : TurnMaps) : Type 0 where
    faults : fault ≡ fault'
    states : state' ≡ state''
    maps : after ≡ after'

  module _ (fault fault' : Option ControlFault) (state' state'' : ControllerState) (after after' : TurnMaps) where
    kept_twice : IsKept fault state' after → IsKept fault' state'' after' → IsOnce fault fault' state' state'' after after'
    kept_twice one other = record {
      faults = one.fault_is ∙ sym one.refuses ∙ other.refuses ∙ sym other.fault_is;
      states = one.unchanged.state_is ∙ sym other.unchanged.state_is;
      maps = one.unchanged.port_is ∙ sym other.unchanged.port_is;
    }

    whole_twice : IsWhole fault state' after → IsWhole fault' state'' after' → IsOnce fault fault' state' state'' after after'
    whole_twice one other =
        let owners = one_table state.size ups one.whole.owners other.whole.owners one.whole.table other.whole.table in
        record {
          faults = one.fault_is ∙ sym other.fault_is;
          states = one.whole.state_is
              ∙ ap (λ (list : List ℕ). record { size = state.size; up = ups; owners = list; is_full = false }) owners
              ∙ sym other.whole.state_is;
          maps = made_once (updates_of state firsts one.whole.owners) before after after' one.whole.are_made
              (subst (λ (list : List ℕ). AreMade IsUpdatedInTurn before (updates_of state firsts list) after') (sym owners) other.whole.are_made);
        }

    told_twice : IsTold fault state' after → IsTold fault' state'' after' → IsOnce fault fault' state' state'' after after'
    told_twice one other =
        let lists : one.answered.update ∷ [] ≡ other.answered.update ∷ [] = sym one.answered.only ∙ other.answered.only in
        let update : one.answered.update ≡ other.answered.update = cc in
        let once = updated_once before (map_update one.answered.update) one.answer other.answer after after' one.answered.answered
        (subst (λ (change : Change). IsUpdatedInTurn before (map_update change) other.answer after') (sym update) other.answered.answered) in
        record {
          faults = one.fault_is ∙ ap (λ (answer : ℤ). Some (Refused answer)) once.0 ∙ sym other.fault_is;
          states = one.answered.state_is ∙ sym other.answered.state_is;
          maps = once.1;
        }

    cut_twice : IsCut fault state' after → IsCut fault' state'' after' → IsOnce fault fault' state' state'' after after'
    cut_twice one other =
        let owners = one_table state.size ups one.stopped.owners other.stopped.owners one.stopped.table other.stopped.table in
        record {
          faults = one.fault_is ∙ sym other.fault_is;
          states = one.stopped.state_is ∙ sym other.stopped.state_is;
          maps = cut_once (updates_of state firsts one.stopped.owners) one.stopped.cut_short.made other.stopped.cut_short.made one.stopped.cut_short.later
              other.stopped.cut_short.later one.stopped.cut_short.next other.stopped.cut_short.next before one.stopped.cut_short.middle
              other.stopped.cut_short.middle after after' one.stopped.cut_short.in_order
              (ap (λ (list : List ℕ). updates_of state firsts list) owners ∙ other.stopped.cut_short.in_order) one.stopped.cut_short.are_made
              other.stopped.cut_short.are_made one.stopped.cut_short.is_refused other.stopped.cut_short.is_refused;
        }

    kept_or_whole : IsKept fault state' after → IsWhole fault' state'' after' → IsFirst fault' → ⊥
    kept_or_whole one other first =
        let both : None ≡ Some one.which = sym other.fault_is ∙ first one.which one.refuses in absurd cc

    kept_or_told : IsKept fault state' after → IsTold fault' state'' after' → IsFirst fault' → ⊥
    kept_or_told one other first =
        let both : Some one.which ≡ Some (Refused other.answer) = sym (first one.which one.refuses) ∙ other.fault_is in
        no_answer state action other.answer (one.refuses ∙ both)

    kept_or_cut : IsKept fault state' after → IsCut fault' state'' after' → IsFirst fault' → ⊥
    kept_or_cut one other first =
        let both : Some one.which ≡ Some JournalFull = sym (first one.which one.refuses) ∙ other.fault_is in
        refused_of_backend state action JournalFull other.stopped.not_full (one.refuses ∙ both)

    whole_or_told : IsWhole fault state' after → IsTold fault' state'' after' → ⊥
    whole_or_told one other =
        let rest : List Change = slot_updates (changes_below state.owners one.whole.owners state.size) in
        let made : AreMade IsUpdatedInTurn before (other.answered.update ∷ rest) after =
        subst (λ (list : List Change). AreMade IsUpdatedInTurn before (list ++ rest) after) other.answered.only one.whole.are_made in
        other.answered.not_done (updated_once before (map_update other.answered.update) other.answer (pos 0) after' made.0 other.answered.answered made.1).0

    whole_or_cut : IsWhole fault state' after → IsCut fault' state'' after' → ⊥
    whole_or_cut one other =
        let owners = one_table state.size ups one.whole.owners other.stopped.owners one.whole.table other.stopped.table in
        let list : updates_of state firsts one.whole.owners ≡ other.stopped.cut_short.made ++ other.stopped.cut_short.next ∷ other.stopped.cut_short.later =
        ap (λ (owners : List ℕ). updates_of state firsts owners) owners ∙ other.stopped.cut_short.in_order in
        made_or_cut other.stopped.cut_short.made other.stopped.cut_short.later other.stopped.cut_short.next before other.stopped.cut_short.middle after after'
        (subst (λ (updates : List Change). AreMade IsUpdatedInTurn before updates after) list one.whole.are_made) other.stopped.cut_short.are_made
        other.stopped.cut_short.is_refused

    told_or_cut : IsTold fault state' after → IsCut fault' state'' after' → ⊥
    told_or_cut one other =
        let rest : List Change = slot_updates (changes_below state.owners other.stopped.owners state.size) in
        let list : one.answered.update ∷ rest ≡ other.stopped.cut_short.made ++ other.stopped.cut_short.next ∷ other.stopped.cut_short.later =
        ap (λ (updates : List Change). updates ++ rest) (sym one.answered.only) ∙ other.stopped.cut_short.in_order in
        first_or_cut one.answered.update rest other.stopped.cut_short.made other.stopped.cut_short.later other.stopped.cut_short.next one.answer before
        other.stopped.cut_short.middle after after' list one.answered.not_done one.answered.answered other.stopped.cut_short.are_made
        other.stopped.cut_short.is_refused

  both_ways : (fault fault' : Option ControlFault) (state' state'' : ControllerState) (after after' : TurnMaps) → IsFirst fault → IsFirst fault' →
      IsOneOf fault state' after → IsOneOf fault' state'' after' → IsOnce fault fault' state' state'' after after'
  both_ways f f' s s' a a' first first' (inl one) (inl other) = kept_twice f f' s s' a a' one other
  both_ways f f' s s' a a' first first' (inl one) (inr (inl other)) = absurd (kept_or_whole f f' s s' a a' one other first')
  both_ways f f' s s' a a' first first' (inl one) (inr (inr (inl other))) = absurd (kept_or_told f f' s s' a a' one other first')
  both_ways f f' s s' a a' first first' (inl one) (inr (inr (inr other))) = absurd (kept_or_cut f f' s s' a a' one other first')
  both_ways f f' s s' a a' first first' (inr (inl one)) (inl other) = absurd (kept_or_whole f' f s' s a' a other one first)
  both_ways f f' s s' a a' first first' (inr (inl one)) (inr (inl other)) = whole_twice f f' s s' a a' one other
  both_ways f f' s s' a a' first first' (inr (inl one)) (inr (inr (inl other))) = absurd (whole_or_told f f' s s' a a' one other)
  both_ways f f' s s' a a' first first' (inr (inl one)) (inr (inr (inr other))) = absurd (whole_or_cut f f' s s' a a' one other)
  both_ways f f' s s' a a' first first' (inr (inr (inl one))) (inl other) = absurd (kept_or_told f' f s' s a' a other one first)
  both_ways f f' s s' a a' first first' (inr (inr (inl one))) (inr (inl other)) = absurd (whole_or_told f' f s' s a' a other one)
  both_ways f f' s s' a a' first first' (inr (inr (inl one))) (inr (inr (inl other))) = told_twice f f' s s' a a' one other
  both_ways f f' s s' a a' first first' (inr (inr (inl one))) (inr (inr (inr other))) = absurd (told_or_cut f f' s s' a a' one other)
  both_ways f f' s s' a a' first first' (inr (inr (inr one))) (inl other) = absurd (kept_or_cut f' f s' s a' a other one first)
  both_ways f f' s s' a a' first first' (inr (inr (inr one))) (inr (inl other)) = absurd (whole_or_cut f' f s' s a' a other one)
  both_ways f f' s s' a a' first first' (inr (inr (inr one))) (inr (inr (inl other))) = absurd (told_or_cut f' f s' s a' a other one)
  both_ways f f' s s' a a' first first' (inr (inr (inr one))) (inr (inr (inr other))) = cut_twice f f' s s' a a' one other

-- one fault, one state of the controller, and one state of the maps
pub record IsAppliedOnce (fault fault' : Option ControlFault) (state state' : ControllerState) (after after' : TurnMaps) : Type 0 where
  pub faults : fault ≡ fault'
  pub states : state ≡ state'
  pub maps : after ≡ after'

pub applied_once : (state : ControllerState) (before : TurnMaps) (action : Action) (fault fault' : Option ControlFault) (state' state'' : ControllerState)
    (after after' : TurnMaps) → fault ≢ Some Memory → fault' ≢ Some Memory → IsAppliedInTurn fault state before action state' after →
    IsAppliedInTurn fault' state before action state'' after' →
    ((other : ControlFault) → refusal_of state action ≡ Some other → fault ≡ Some other) →
    ((other : ControlFault) → refusal_of state action ≡ Some other → fault' ≡ Some other) → IsAppliedOnce fault fault' state' state'' after after'
applied_once state before action fault fault' state' state'' after after' had had' did did' first first' =
    let once = both_ways state before action fault fault' state' state'' after after' first first'
    (one_of_four state before action fault state' after had did) (one_of_four state before action fault' state'' after' had' did') in
    record { faults = once.faults; states = once.states; maps = once.maps }
