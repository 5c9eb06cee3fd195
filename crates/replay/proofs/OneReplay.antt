-- Two exact replays of one input take the same turns through the same states, and return the same.
use Rattle.std.proofs.Common.{◌≡◌, ◌≢◌, ◌⊎◌, inl, inr, ⊎_elim, ℕ, zero, suc, ◌<◌, cond, List, [], ◌∷◌, ◌++◌, length, Option, Some, None, refl, sym, ap, ◌∙◌, subst, arith, append_assoc, append-nil}
use Rattle.std.specs.Prelude.{slice_get, is_some}
use Rattle.std.specs.List.{AllByRecursion}
use Rattle.std.proofs.lemmas.List.{length-map, ext_get_or}
use Rattle.ebpf_decode.specs.declared.map.MapDef.{MapDef}
use Rattle.wire.specs.declared.records.Sent.{Sent}
use Rattle.semantics.specs.declared.call.Entry.{Entry}
use Rattle.semantics.specs.declared.options.Options.{Options}
use Rattle.semantics.specs.Program.{Program}
use Rattle.map_updates.specs.declared.update.MapUpdate.{MapUpdate}
use Rattle.journals.specs.JournalsView.{JournalsView}
use Rattle.shard_core.specs.JournaledShard.{JournaledShard}
use Rattle.shards.specs.NewShards.{shard_at}
use Rattle.shards.specs.Opening.{AreOpened}
use Rattle.maglev.specs.RingSize.{IsRingSize}
use Rattle.conntrack.specs.SteeringMaps.{ring_entries}
use Rattle.control.specs.declared.command.Command.{Command}
use Rattle.control.specs.declared.fault.ControlFault.{ControlFault}
use Rattle.control.specs.declared.fault.ControlFault.TheVariants.{Memory}
use Rattle.control.specs.Controlling.{ControllerState, refusal_of, opened_controller}
use Rattle.semantics.specs.Replay.{Captured}
use Rattle.actors.specs.declared.account.Counts.{Counts}
use Rattle.actors.specs.declared.outcome.Applied.{Applied}
use Rattle.actors.specs.declared.outcome.ToldEnd.{ToldEnd}
use Rattle.actors.specs.Accounts.{sent_by, counted, record_end}
use Rattle.actors.specs.Commands.{ServesScript}
use Rattle.actors.specs.FirstUpdates.{AreSet}
use Rattle.actors.specs.Parts.{refused_of}
use Rattle.actors.specs.Shares.{worker_of_frame, captured_of, all_captured}
use Rattle.replay.specs.Turns.{Turn, TheCommand, TheRecord, TheRound, all_turns}
use Rattle.replay.specs.InTurn.{TurnMaps, TurnState, IsUpdatedInTurn, IsHandledInTurn, IsAppliedInTurn, IsRoundTo, IsRecordTurn, IsCommandTurn, IsRoundTurn, IsTurn, AreTurns}
use Rattle.replay.specs.ExactReplays.{HasBegun, starts_in, first_maps, first_state}
use Rattle.replay.specs.SameReplays.{HadMemory, AreSameFrames, ReturnTheSame, ExactReplaysAgree, PiecesAgree}
use Rattle.replay.proofs.OneRun.{AreOneEnd, handled_once}
use Rattle.replay.proofs.OneCommand.{one_state, all_set_once, IsAppliedOnce, applied_once}
use Rattle.replay.proofs.OneRound.{round_once}
use Rattle.actors.proofs.shared.RingSizes.{one_size}

-- ---- lists

same_by_place : {A : Type 0} (one other : List A) → length one ≡ length other →
    ((number : ℕ) → number < length one → slice_get one number ≡ slice_get other number) → one ≡ other
same_by_place [] [] count each = refl
same_by_place [] (second ∷ others) count each = absurd (omega (arith, count))
same_by_place (first ∷ more) [] count each = absurd (omega (arith, count))
same_by_place {A} (first ∷ more) (second ∷ others) count each =
    let heads : Some first ≡ Some second = each 0 (omega arith) in
    let same : first ≡ second = cc in
    let rest : more ≡ others =
    same_by_place more others (omega (arith, count)) (λ number below. each (suc number) (omega (arith, below))) in
    ap (λ (x : A). x ∷ more) same ∙ ap (λ (list : List A). second ∷ list) rest

-- the records at a place of two lists with the same frames
pub frame_there : (records others : List Sent) (number : ℕ) (captured captured' : Sent) → all_captured records ≡ all_captured others →
    slice_get records number ≡ Some captured → slice_get others number ≡ Some captured' → captured_of captured ≡ captured_of captured'
frame_there [] others number captured captured' same known known' = absurd cc
frame_there (first ∷ more) [] number captured captured' same known known' = absurd cc
frame_there (first ∷ more) (second ∷ others) zero captured captured' same known known' =
    let lists : captured_of first ∷ all_captured more ≡ captured_of second ∷ all_captured others = same in
    let heads : captured_of first ≡ captured_of second = cc in
    let one : first ≡ captured = cc in
    let other : second ≡ captured' = cc in
    ap captured_of (sym one) ∙ heads ∙ ap captured_of other
frame_there (first ∷ more) (second ∷ others) (suc number) captured captured' same known known' =
    let lists : captured_of first ∷ all_captured more ≡ captured_of second ∷ all_captured others = same in
    let rest : all_captured more ≡ all_captured others = cc in
    frame_there more others number captured captured' rest known known'

pub first_part : {A : Type 0} (P : A → Type 0) (one other : List A) → AllByRecursion P (one ++ other) → AllByRecursion P one
first_part P [] other all = tt
first_part P (x ∷ one) other all = (all.0, first_part P one other all.1)

pub last_part : {A : Type 0} (P : A → Type 0) (one : List A) (x : A) → AllByRecursion P (one ++ x ∷ []) → P x
last_part P [] x all = all.0
last_part P (y ∷ one) x all = last_part P one x all.1

-- ---- states

-- Between two turns two replays are in one state. Without commands nothing asks how large the lookup table is.
record AreAlike (script : List Command) (one other : TurnState) : Type 0 where
  all : one.all ≡ other.all
  controller : (script ≡ []) ⊎ (one.controller ≡ other.controller)
  noted : one.noted ≡ other.noted
  counts : one.counts ≡ other.counts
  sent : all_captured one.sent ≡ all_captured other.sent
  ends : one.ends ≡ other.ends

-- a turn that leaves the controller as it was
pub same_controller : (script : List Command) (one other one' other' : ControllerState) → one' ≡ one → other' ≡ other → (script ≡ []) ⊎ (one ≡ other) →
    (script ≡ []) ⊎ (one' ≡ other')
same_controller script one other one' other' first second (inl none) = inl none
same_controller script one other one' other' first second (inr same) = inr (first ∙ same ∙ sym second)

-- ---- one turn

module _ (program : Program) (script : List Command) (records others : List Sent) (workers : ℕ) (same_frames : AreSameFrames records others) where
  record_once : (number : ℕ) (one other after after' : TurnState) → AreAlike script one other → IsRecordTurn program records workers number one after →
      IsRecordTurn program others workers number other after' → AreAlike script after after'
  record_once number one other after after' alike turn turn' =
      let frames = frame_there records others number turn.captured turn'.captured same_frames turn.known turn'.known in
      let shards : other.all.shards ≡ one.all.shards = ap (λ (all : TurnMaps). all.shards) (sym alike.all) in
      let once = handled_once program workers turn.captured turn'.captured one.all.shards after.all.shards after'.all.shards turn.end turn'.end frames
      turn.handled
      (subst (λ (list : List JournaledShard). IsHandledInTurn program workers turn'.captured list turn'.end after'.all.shards) shards turn'.handled) in
      let end : AreOneEnd turn.end turn'.end = once.1 in
      let worker : worker_of_frame turn.captured.bytes.items workers ≡ worker_of_frame turn'.captured.bytes.items workers =
      ap (λ (frame : Captured). worker_of_frame frame.bytes workers) frames in
      record {
        all = one_state after.all after'.all
            (turn.maps ∙ ap (λ (all : TurnMaps). all.maps) alike.all ∙ sym turn'.maps)
            (turn.options ∙ ap (λ (all : TurnMaps). all.options) alike.all ∙ sym turn'.options) once.0;
        controller = same_controller script one.controller other.controller after.controller after'.controller turn.controller turn'.controller alike.controller;
        noted = turn.noted ∙ alike.noted ∙ sym turn'.noted;
        counts = turn.counts ∙ ap (λ (before : Counts). counted before turn.end) alike.counts ∙ end.counted_alike other.counts ∙ sym turn'.counts;
        sent = turn.sent ∙ ap (λ (list : List Captured). list ++ sent_by turn.end) alike.sent
            ∙ ap (λ (list : List Captured). all_captured other.sent ++ list) end.sent_alike ∙ sym turn'.sent;
        ends = turn.ends ∙ ap (λ (list : List ToldEnd). list ++ record_end (worker_of_frame turn.captured.bytes.items workers) turn.end ∷ []) alike.ends
            ∙ ap (λ (w : ℕ). other.ends ++ record_end w turn.end ∷ []) worker
            ∙ ap (λ (last : ToldEnd). other.ends ++ last ∷ []) (end.noted_alike (worker_of_frame turn'.captured.bytes.items workers))
            ∙ sym turn'.ends;
      }

  command_once : (number : ℕ) (one other after after' : TurnState) → AreAlike script one other → HadMemory after.noted → HadMemory after'.noted →
      IsCommandTurn script number one after → IsCommandTurn script number other after' → AreAlike script after after'
  command_once number one other after after' alike had had' turn turn' =
      ⊎_elim
      (λ (none : script ≡ []).
      let known : slice_get [] number ≡ Some turn.command =
      subst (λ (list : List Command). slice_get list number ≡ Some turn.command) none turn.known in
      let nothing : None ≡ Some turn.command = known in
      absurd cc)
      (λ (same : one.controller ≡ other.controller).
      let command : turn.command ≡ turn'.command = cc (turn.known, turn'.known) in
      let did : IsAppliedInTurn turn'.fault one.controller one.all turn.command.action after'.controller after'.all =
      subst (λ (line : Command). IsAppliedInTurn turn'.fault one.controller one.all line.action after'.controller after'.all) (sym command)
      (subst (λ (all : TurnMaps). IsAppliedInTurn turn'.fault one.controller all turn'.command.action after'.controller after'.all) (sym alike.all)
      (subst (λ (state : ControllerState). IsAppliedInTurn turn'.fault state other.all turn'.command.action after'.controller after'.all) (sym same) turn'.did)) in
      let first : (fault : ControlFault) → refusal_of one.controller turn.command.action ≡ Some fault → turn'.fault ≡ Some fault =
      λ fault refused. turn'.first fault
      (ap (λ (state : ControllerState). refusal_of state turn'.command.action) (sym same)
      ∙ ap (λ (line : Command). refusal_of one.controller line.action) (sym command) ∙ refused) in
      let once : IsAppliedOnce turn.fault turn'.fault after.controller after'.controller after.all after'.all =
      applied_once one.controller one.all turn.command.action turn.fault turn'.fault after.controller after'.controller after.all after'.all
      (last_part (λ (done : Applied). done.fault ≢ Some Memory) one.noted (record { command = number; fault = turn.fault }) (subst HadMemory turn.noted had))
      (last_part (λ (done : Applied). done.fault ≢ Some Memory) other.noted (record { command = number; fault = turn'.fault }) (subst HadMemory turn'.noted had'))
      turn.did did turn.first first in
      record {
        all = once.maps;
        controller = inr once.states;
        noted = turn.noted ∙ ap (λ (list : List Applied). list ++ record { command = number; fault = turn.fault } ∷ []) alike.noted
            ∙ ap (λ (fault : Option ControlFault). other.noted ++ record { command = number; fault = fault } ∷ []) once.faults ∙ sym turn'.noted;
        counts = turn.counts ∙ alike.counts ∙ sym turn'.counts;
        sent = ap all_captured turn.sent ∙ alike.sent ∙ ap all_captured (sym turn'.sent);
        ends = turn.ends ∙ alike.ends ∙ sym turn'.ends;
      })
      alike.controller

  round_turn_once : (one other after after' : TurnState) → AreAlike script one other → IsRoundTurn one after → IsRoundTurn other after' →
      AreAlike script after after'
  round_turn_once one other after after' alike turn turn' =
      let shards : other.all.shards ≡ one.all.shards = ap (λ (all : TurnMaps). all.shards) (sym alike.all) in
      let once = round_once (length one.all.shards) one.all.shards after.all.shards after'.all.shards turn.round
      (subst (λ (list : List JournaledShard). IsRoundTo (length list) list after'.all.shards) shards turn'.round) in
      record {
        all = one_state after.all after'.all
            (turn.maps ∙ ap (λ (all : TurnMaps). all.maps) alike.all ∙ sym turn'.maps)
            (turn.options ∙ ap (λ (all : TurnMaps). all.options) alike.all ∙ sym turn'.options) once;
        controller = same_controller script one.controller other.controller after.controller after'.controller turn.controller turn'.controller alike.controller;
        noted = turn.noted ∙ alike.noted ∙ sym turn'.noted;
        counts = turn.counts ∙ alike.counts ∙ sym turn'.counts;
        sent = ap all_captured turn.sent ∙ alike.sent ∙ ap all_captured (sym turn'.sent);
        ends = turn.ends ∙ alike.ends ∙ sym turn'.ends;
      }

  turn_once : (turn : Turn) (one other after after' : TurnState) → AreAlike script one other → HadMemory after.noted → HadMemory after'.noted →
      IsTurn program script records workers turn one after → IsTurn program script others workers turn other after' → AreAlike script after after'
  turn_once (TheRecord number) one other after after' alike had had' made made' = record_once number one other after after' alike made made'
  turn_once (TheCommand number) one other after after' alike had had' made made' = command_once number one other after after' alike had had' made made'
  turn_once TheRound one other after after' alike had had' made made' = round_turn_once one other after after' alike made made'

-- ---- what was noted is kept

pub record IsNotedOnTo (before after : List Applied) : Type 0 where
  pub more : List Applied
  pub is : after ≡ before ++ more

module _ (program : Program) (script : List Command) (records : List Sent) (workers : ℕ) where
  turn_notes : (turn : Turn) (before after : TurnState) → IsTurn program script records workers turn before after → IsNotedOnTo before.noted after.noted
  turn_notes (TheRecord number) before after made = record { more = []; is = made.noted ∙ sym (append-nil before.noted) }
  turn_notes (TheCommand number) before after made = record { more = record { command = number; fault = made.fault } ∷ []; is = made.noted }
  turn_notes TheRound before after made = record { more = []; is = made.noted ∙ sym (append-nil before.noted) }

  pub turns_note : (turns : List Turn) (before after : TurnState) → AreTurns program script records workers turns before after →
      IsNotedOnTo before.noted after.noted
  turns_note [] before after made = record { more = []; is = ap (λ (state : TurnState). state.noted) made ∙ sym (append-nil before.noted) }
  turns_note (turn ∷ later) before after made =
      let here = turn_notes turn before made.0 made.1 in
      let rest = turns_note later made.0 after made.2 in
      record {
        more = here.more ++ rest.more;
        is = rest.is ∙ ap (λ (list : List Applied). list ++ rest.more) here.is ∙ append_assoc before.noted here.more rest.more;
      }

  had_before : (turns : List Turn) (before after : TurnState) → AreTurns program script records workers turns before after → HadMemory after.noted →
      HadMemory before.noted
  had_before turns before after made had =
      let whole = turns_note turns before after made in
      first_part (λ (done : Applied). done.fault ≢ Some Memory) before.noted whole.more (subst HadMemory whole.is had)

-- ---- all turns

module _ (program : Program) (script : List Command) (records others : List Sent) (workers : ℕ) (same_frames : AreSameFrames records others) where
  turns_once : (turns : List Turn) (one other last last' : TurnState) → AreAlike script one other → HadMemory last.noted → HadMemory last'.noted →
      AreTurns program script records workers turns one last → AreTurns program script others workers turns other last' → AreAlike script last last'
  turns_once [] one other last last' alike had had' made made' =
      subst (λ (state : TurnState). AreAlike script last state) (sym made') (subst (λ (state : TurnState). AreAlike script state other) (sym made) alike)
  turns_once (turn ∷ later) one other last last' alike had had' made made' =
      turns_once later made.0 made'.0 last last'
      (turn_once program script records others workers same_frames turn one other made.0 made'.0 alike
      (had_before program script records workers later made.0 last made.2 had)
      (had_before program script others workers later made'.0 last' made'.2 had') made.1 made'.1)
      had had' made.2 made'.2

-- ---- how they begin

opened_once : (maps : List MapDef) (options : Options) (one other : List JournaledShard) → AreOpened maps options one → AreOpened maps options other →
    one ≡ other
opened_once maps options one other opened opened' =
    let count : length one ≡ length other = opened.count ∙ sym opened'.count in
    same_by_place one other count
    (λ number below. opened.each number below ∙ sym (opened'.each number (subst (λ (n : ℕ). number < n) count below)))

begun_once : (maps : List MapDef) (options : Options) (updates others : List MapUpdate) (begun begun' : TurnMaps) → updates ≡ others →
    HasBegun maps options updates begun → HasBegun maps options others begun' → begun ≡ begun'
begun_once maps options updates others begun begun' same has has' =
    let opened = opened_once maps options has.opened has'.opened has.opened_are has'.opened_are in
    all_set_once updates others (first_maps maps options has.opened) begun begun' same has.updated
    (subst (λ (shards : List JournaledShard). AreSet IsUpdatedInTurn (first_maps maps options shards) others begun') (sym opened) has'.updated)

-- how many entries a map has, if there is one
abbrev entries_in : Option MapDef → ℕ
entries_in None = 0
entries_in (Some definition) = definition.max_entries

pub first_controller : (maps : List MapDef) (script : List Command) (size other : ℕ) → IsRingSize size → IsRingSize other → ServesScript maps size script →
    ServesScript maps other script → (script ≡ []) ⊎ (opened_controller size ≡ opened_controller other)
first_controller maps script size other served served' (inl none) serves' = inl none
first_controller maps script size other served served' (inr of_table) (inl none) = inl none
first_controller maps script size other served served' (inr of_table) (inr of_other) =
    let slots : ring_entries size ≡ ring_entries other =
    ap (λ (list : List MapDef). entries_in (slice_get list 2)) (sym of_table.maps_are ∙ of_other.maps_are) in
    inr (ap opened_controller (one_size size other served served' slots))

-- ---- what they return

-- a command that was not refused has no fault, so not this one either
abbrev pub NoneFailedSo : ControlFault → List Applied → Type 0
NoneFailedSo bad commands = AllByRecursion (λ (one : Applied). one.fault ≢ Some bad) commands

pub none_of_all : (bad : ControlFault) (noted : List Applied) → NoneFailedSo bad (refused_of noted) → NoneFailedSo bad noted
none_of_all bad [] none = tt
none_of_all bad (one ∷ later) none = by_fault (none_of_all bad later) one.fault refl
  where
    by_fault : (NoneFailedSo bad (refused_of later) → NoneFailedSo bad later) → (fault : Option ControlFault) → one.fault ≡ fault → NoneFailedSo bad (one ∷ later)
    by_fault rest None is =
        let listed : refused_of (one ∷ later) ≡ refused_of later =
        ap (λ (f : Option ControlFault). cond (is_some f) (one ∷ refused_of later) (refused_of later)) is in
        ((λ (failed : one.fault ≡ Some bad). let both : None ≡ Some bad = sym is ∙ failed in cc), rest (subst (NoneFailedSo bad) listed none))
    by_fault rest (Some fault) is =
        let listed : refused_of (one ∷ later) ≡ one ∷ refused_of later =
        ap (λ (f : Option ControlFault). cond (is_some f) (one ∷ refused_of later) (refused_of later)) is in
        let all : NoneFailedSo bad (one ∷ refused_of later) = subst (NoneFailedSo bad) listed none in
        (all.0, rest all.1)

abbrev view_of : List MapDef → Options → List (List Entry) → JournalsView
view_of maps options shards = record { maps = maps; options = options; shards = shards }

one_view : (one other : JournalsView) → one.maps ≡ other.maps → one.options ≡ other.options → one.shards ≡ other.shards → one ≡ other
one_view one other maps options shards =
    ap (λ (m : List MapDef). view_of m one.options one.shards) maps ∙ ap (λ (o : Options). view_of other.maps o one.shards) options
    ∙ ap (λ (s : List (List Entry)). view_of other.maps other.options s) shards

pub replays_agree : ExactReplaysAgree
replays_agree program script options records others one other frames turns turns' updates had had' = record {
  counts = turns.counts ∙ alike.counts ∙ sym turns'.counts;
  ends = turns.ends ∙ alike.ends ∙ sym turns'.ends;
  sent = ap all_captured turns.sent ∙ alike.sent ∙ ap all_captured (sym turns'.sent);
  refused = turns.refused ∙ ap refused_of alike.noted ∙ sym turns'.refused;
  journals = one_view one.journals other.journals (turns.maps ∙ sym turns'.maps) (turns.options_are ∙ sym turns'.options_are) shards;
}
  where
    begun : turns.begun ≡ turns'.begun
    begun = begun_once program.maps options one.updates.items other.updates.items turns.begun turns'.begun updates turns.first turns'.first

    starts : AreAlike script (first_state turns.begun turns.size) (first_state turns'.begun turns'.size)
    starts = record {
      all = begun;
      controller = first_controller program.maps script turns.size turns'.size turns.size_is_served turns'.size_is_served turns.serves turns'.serves;
      noted = refl;
      counts = refl;
      sent = refl;
      ends = refl;
    }

    count : length others ≡ length records
    count = sym (length-map others captured_of) ∙ ap (λ (list : List Captured). length list) (sym frames) ∙ length-map records captured_of

    alike : AreAlike script turns.last turns'.last
    alike = turns_once program script records others options.workers frames (all_turns (starts_in script) (length records))
        (first_state turns.begun turns.size) (first_state turns'.begun turns'.size) turns.last turns'.last starts
        (none_of_all Memory turns.last.noted (subst HadMemory turns.refused had))
        (none_of_all Memory turns'.last.noted (subst HadMemory turns'.refused had')) turns.in_order
        (subst (λ (n : ℕ). AreTurns program script others options.workers (all_turns (starts_in script) n) (first_state turns'.begun turns'.size) turns'.last)
        count turns'.in_order)

    same_shards : turns.last.all.shards ≡ turns'.last.all.shards
    same_shards = ap (λ (all : TurnMaps). all.shards) alike.all

    shard_count : length turns.last.all.shards ≡ length turns'.last.all.shards
    shard_count = ap (λ (list : List JournaledShard). length list) same_shards

    shards : one.journals.shards ≡ other.journals.shards
    shards = ext_get_or [] one.journals.shards other.journals.shards (turns.count_is ∙ shard_count ∙ sym turns'.count_is)
        (λ number below.
        let within : number < length turns.last.all.shards = subst (λ (n : ℕ). number < n) turns.count_is below in
        turns.journals number within
        ∙ ap (λ (list : List JournaledShard). (shard_at list number).journal) same_shards
        ∙ sym (turns'.journals number (subst (λ (n : ℕ). number < n) shard_count within)))

pub pieces_agree : PiecesAgree
pieces_agree program script options records others sent sent' ends ends' rest rest' frames made made' updates had had' =
    let same : ReturnTheSame made.whole made'.whole =
    replays_agree program script options records others made.whole made'.whole frames made.exact.in_order.turns made'.exact.in_order.turns
    (made.is_whole.updates ∙ updates ∙ sym made'.is_whole.updates) (subst HadMemory (sym made.is_whole.refused) had)
    (subst HadMemory (sym made'.is_whole.refused) had') in
    record {
      counts = sym made.is_whole.counts ∙ same.counts ∙ made'.is_whole.counts;
      ends_are = sym made.is_whole.ends_are ∙ same.ends ∙ made'.is_whole.ends_are;
      sent_are = ap all_captured (sym made.is_whole.sent_are) ∙ same.sent ∙ ap all_captured made'.is_whole.sent_are;
      refused = sym made.is_whole.refused ∙ same.refused ∙ made'.is_whole.refused;
      journals = sym made.is_whole.journals ∙ same.journals ∙ made'.is_whole.journals;
    }
