-- Two exact replays of one input with journals of different room, of which none was full for a run or a command, take the same turns through
-- states that are alike.
use Rattle.std.proofs.Common.{◌≡◌, ◌≢◌, ◌⊎◌, inl, inr, ⊎_elim, ℕ, suc, ◌+◌, ◌*◌, ◌/◌, ◌%◌, ◌<◌, ◌≤◌, List, [], ◌∷◌, ◌++◌, length, Option, Some, None, refl, sym, ap, ◌∙◌, subst, arith}
use Rattle.std.specs.Prelude.{slice_get, option_map}
use Rattle.std.proofs.lemmas.List.{length-map}
use Rattle.ebpf_decode.specs.declared.map.MapDef.{MapDef}
use Rattle.semantics.specs.declared.options.Options.{Options}
use Rattle.semantics.specs.declared.plan.ShardPlan.{ShardPlan}
use Rattle.semantics.specs.Program.{Program}
use Rattle.semantics.specs.ShardPlan.{plan_for_map}
use Rattle.map_updates.specs.declared.update.MapUpdate.{MapUpdate}
use Rattle.shard_core.specs.JournaledShard.{JournaledShard, opened_shard}
use Rattle.shards.specs.Opening.{AreOpened}
use Rattle.wire.specs.declared.records.Sent.{Sent}
use Rattle.control.specs.declared.command.Command.{Command}
use Rattle.control.specs.declared.fault.ControlFault.{ControlFault}
use Rattle.control.specs.declared.fault.ControlFault.TheVariants.{JournalFull, Memory}
use Rattle.control.specs.Controlling.{ControllerState, refusal_of}
use Rattle.semantics.specs.Replay.{Captured}
use Rattle.actors.specs.declared.account.Counts.{Counts}
use Rattle.actors.specs.declared.outcome.Applied.{Applied}
use Rattle.actors.specs.declared.outcome.Outcome.{Outcome}
use Rattle.actors.specs.declared.outcome.ToldEnd.{ToldEnd}
use Rattle.actors.specs.declared.runner.RunEnd.{RunEnd}
use Rattle.actors.specs.declared.runner.RunEnd.TheVariants.{Stopped, Exited}
use Rattle.actors.specs.declared.runner.FrameFate.TheVariants.{Aborted, Dropped, Passed, Sent as IsSent}
use Rattle.actors.specs.Accounts.{sent_by, counted, record_end}
use Rattle.actors.specs.FirstUpdates.{AreSet}
use Rattle.actors.specs.Parts.{refused_of}
use Rattle.actors.specs.Shares.{worker_of_frame, captured_of, all_captured}
use Rattle.replay.specs.Turns.{Turn, TheCommand, TheRecord, TheRound, all_turns}
use Rattle.replay.specs.InTurn.{TurnMaps, TurnState, IsUpdatedInTurn, IsAppliedInTurn, IsRoundTo, IsRecordTurn, IsCommandTurn, IsRoundTurn, IsTurn, AreTurns}
use Rattle.replay.specs.ExactReplays.{IsInTurn, HasBegun, starts_in, first_maps, first_state}
use Rattle.replay.specs.SameReplays.{HadMemory, AreSameFrames}
use Rattle.replay.specs.OtherJournals.{HadRoom, AreSameButJournals, JournalsChangeNothing}
use Rattle.replay.proofs.OneRun.{AreOneEnd}
use Rattle.replay.proofs.OneReplay.{frame_there, first_part, last_part, same_controller, turns_note, first_controller, NoneFailedSo, none_of_all}
use Rattle.replay.proofs.OtherShards.{AreAlike, IsOutside, AreAllAlike, alike_count}
use Rattle.replay.proofs.OtherRuns.{handled_alike}
use Rattle.replay.proofs.OtherTurns.{AreMapsAlike, same_options, set_alike, AreAppliedAlike, applied_alike, round_alike}

-- ---- how they begin

module _ (options others : Options) (same : AreSameButJournals options others) where
  abbrev plan_with : ℕ → MapDef → ℕ → ℕ → ℕ → ShardPlan
  plan_with number definition shards workers room = record {
    number = number;
    part = number % shards;
    parts = shards;
    definition = definition;
    workers = workers;
    reserve = room;
  }

  plans_alike : (number : ℕ) (definition : MapDef) → plan_with number definition others.shards others.workers others.journal
      ≡ plan_with number definition options.shards options.workers others.journal
  plans_alike number definition =
      ap (λ (n : ℕ). plan_with number definition n others.workers others.journal) (sym same.shards)
      ∙ ap (λ (n : ℕ). plan_with number definition options.shards n others.journal) (sym same.workers)

  opened_alike : (number : ℕ) (found : Option MapDef) (one other : JournaledShard) →
      Some one ≡ option_map opened_shard (plan_for_map options number found) → Some other ≡ option_map opened_shard (plan_for_map others number found) →
      AreAlike IsOutside one other
  opened_alike number None one other first second = absurd cc
  opened_alike number (Some definition) one other first second =
      let here : one ≡ opened_shard (plan_with number definition options.shards options.workers options.journal) = cc in
      let there : other ≡ opened_shard (plan_with number definition others.shards others.workers others.journal) = cc in
      let alike : AreAlike IsOutside (opened_shard (plan_with number definition options.shards options.workers options.journal))
      (opened_shard (plan_with number definition others.shards others.workers others.journal)) =
      record { plan = plans_alike number definition; journals = inl refl; first = λ worker. refl; second = λ worker. refl } in
      subst (λ (shard : JournaledShard). AreAlike IsOutside shard other) (sym here)
      (subst (λ (shard : JournaledShard). AreAlike IsOutside (opened_shard (plan_with number definition options.shards options.workers options.journal)) shard)
      (sym there) alike)

alike_by_place : (P : JournaledShard → Type 0) (more others : List JournaledShard) → length more ≡ length others →
    ((number : ℕ) (one other : JournaledShard) → number < length more → slice_get more number ≡ Some one → slice_get others number ≡ Some other →
    AreAlike P one other) → AreAllAlike P more others
alike_by_place P [] [] count each = tt
alike_by_place P [] (second ∷ others) count each = absurd (omega (arith, count))
alike_by_place P (first ∷ more) [] count each = absurd (omega (arith, count))
alike_by_place P (first ∷ more) (second ∷ others) count each = (
  each 0 first second (omega arith) refl refl,
  alike_by_place P more others (omega (arith, count)) (λ number one other below. each (suc number) one other (omega (arith, below))),
)

all_opened_alike : (maps : List MapDef) (options others : Options) (one other : List JournaledShard) → AreSameButJournals options others →
    AreOpened maps options one → AreOpened maps others other → AreAllAlike IsOutside one other
all_opened_alike maps options others one other same opened opened' =
    let count : length one ≡ length other =
    opened.count ∙ ap (λ (n : ℕ). length maps * n) same.shards ∙ sym opened'.count in
    alike_by_place IsOutside one other count (λ number first second below known known'.
    opened_alike options others same number (slice_get maps (number / options.shards)) first second (sym known ∙ opened.each number below)
    (sym known' ∙ opened'.each number (subst (λ (n : ℕ). number < n) count below)
    ∙ ap (λ (n : ℕ). option_map opened_shard (plan_for_map others number (slice_get maps (number / n)))) (sym same.shards)))

begun_alike : (maps : List MapDef) (options others : Options) (updates updates' : List MapUpdate) (begun begun' : TurnMaps) →
    AreSameButJournals options others → updates ≡ updates' → HasBegun maps options updates begun → HasBegun maps others updates' begun' →
    AreMapsAlike begun begun'
begun_alike maps options others updates updates' begun begun' same listed has has' =
    set_alike updates (first_maps maps options has.opened) (first_maps maps others has'.opened) begun begun'
    (record { maps = refl; options = same; shards = all_opened_alike maps options others has.opened has'.opened same has.opened_are has'.opened_are })
    has.updated (subst (λ (list : List MapUpdate). AreSet IsUpdatedInTurn (first_maps maps others has'.opened) list begun') (sym listed) has'.updated)

-- ---- states

record AreStatesAlike (script : List Command) (one other : TurnState) : Type 0 where
  all : AreMapsAlike one.all other.all
  controller : (script ≡ []) ⊎ (one.controller ≡ other.controller)
  noted : one.noted ≡ other.noted
  counts : one.counts ≡ other.counts
  sent : all_captured one.sent ≡ all_captured other.sent
  ends : one.ends ≡ other.ends

-- so far no command was refused memory, no journal was full for one, and no run was stopped
record IsQuiet (state : TurnState) : Type 0 where
  memory : HadMemory state.noted
  room : NoneFailedSo JournalFull state.noted
  stopped : state.counts.stopped ≡ 0

stops_grow : (before : Counts) (end : Option RunEnd) → before.stopped ≤ (counted before end).stopped
stops_grow before None = omega arith
stops_grow before (Some Stopped) = omega arith
stops_grow before (Some (Exited steps Aborted)) = omega arith
stops_grow before (Some (Exited steps Dropped)) = omega arith
stops_grow before (Some (Exited steps Passed)) = omega arith
stops_grow before (Some (Exited steps (IsSent sent))) = omega arith

not_stopped : (before after : Counts) (end : Option RunEnd) → after ≡ counted before end → after.stopped ≡ 0 → end ≢ Some Stopped
not_stopped before after end is none was_stopped =
    let more : after.stopped ≡ before.stopped + 1 =
    ap (λ (counts : Counts). counts.stopped) is ∙ ap (λ (one : Option RunEnd). (counted before one).stopped) was_stopped in
    omega (arith, more, none)

module _ (program : Program) (script : List Command) (records : List Sent) (workers : ℕ) where
  stops_before : (turn : Turn) (before after : TurnState) → IsTurn program script records workers turn before after → after.counts.stopped ≡ 0 →
      before.counts.stopped ≡ 0
  stops_before (TheRecord number) before after made none =
      let grown = stops_grow before.counts made.end in
      let same : after.counts.stopped ≡ (counted before.counts made.end).stopped = ap (λ (counts : Counts). counts.stopped) made.counts in
      omega (arith, grown, same, none)
  stops_before (TheCommand number) before after made none = ap (λ (counts : Counts). counts.stopped) (sym made.counts) ∙ none
  stops_before TheRound before after made none = ap (λ (counts : Counts). counts.stopped) (sym made.counts) ∙ none

  all_stops_before : (turns : List Turn) (before after : TurnState) → AreTurns program script records workers turns before after →
      after.counts.stopped ≡ 0 → before.counts.stopped ≡ 0
  all_stops_before [] before after made none = ap (λ (state : TurnState). state.counts.stopped) (sym made) ∙ none
  all_stops_before (turn ∷ later) before after made none =
      stops_before turn before made.0 made.1 (all_stops_before later made.0 after made.2 none)

  quiet_before : (turns : List Turn) (before after : TurnState) → AreTurns program script records workers turns before after → IsQuiet after →
      IsQuiet before
  quiet_before turns before after made quiet =
      let whole = turns_note program script records workers turns before after made in
      record {
        memory = first_part (λ (done : Applied). done.fault ≢ Some Memory) before.noted whole.more (subst HadMemory whole.is quiet.memory);
        room = first_part (λ (done : Applied). done.fault ≢ Some JournalFull) before.noted whole.more
            (subst (NoneFailedSo JournalFull) whole.is quiet.room);
        stopped = all_stops_before turns before after made quiet.stopped;
      }

-- ---- one turn

module _ (program : Program) (script : List Command) (records others : List Sent) (workers : ℕ) (same_frames : AreSameFrames records others) where
  record_alike : (number : ℕ) (one other after after' : TurnState) → AreStatesAlike script one other → IsQuiet after → IsQuiet after' →
      IsRecordTurn program records workers number one after → IsRecordTurn program others workers number other after' → AreStatesAlike script after after'
  record_alike number one other after after' alike quiet quiet' turn turn' =
      let frames = frame_there records others number turn.captured turn'.captured same_frames turn.known turn'.known in
      let once = handled_alike program workers turn.captured turn'.captured one.all.shards other.all.shards after.all.shards after'.all.shards turn.end turn'.end
      frames alike.all.shards (not_stopped one.counts after.counts turn.end turn.counts quiet.stopped)
      (not_stopped other.counts after'.counts turn'.end turn'.counts quiet'.stopped) turn.handled turn'.handled in
      let end : AreOneEnd turn.end turn'.end = once.1 in
      let worker : worker_of_frame turn.captured.bytes.items workers ≡ worker_of_frame turn'.captured.bytes.items workers =
      ap (λ (frame : Captured). worker_of_frame frame.bytes workers) frames in
      record {
        all = record {
          maps = turn.maps ∙ alike.all.maps ∙ sym turn'.maps;
          options = same_options one.all.options other.all.options after.all.options after'.all.options turn.options turn'.options alike.all.options;
          shards = once.0;
        };
        controller = same_controller script one.controller other.controller after.controller after'.controller turn.controller turn'.controller alike.controller;
        noted = turn.noted ∙ alike.noted ∙ sym turn'.noted;
        counts = turn.counts ∙ ap (λ (before : Counts). counted before turn.end) alike.counts ∙ end.counted_alike other.counts ∙ sym turn'.counts;
        sent = turn.sent ∙ ap (λ (list : List Captured). list ++ sent_by turn.end) alike.sent
            ∙ ap (λ (list : List Captured). all_captured other.sent ++ list) end.sent_alike ∙ sym turn'.sent;
        ends = turn.ends ∙ ap (λ (list : List ToldEnd). list ++ record_end (worker_of_frame turn.captured.bytes.items workers) turn.end ∷ []) alike.ends
            ∙ ap (λ (w : ℕ). other.ends ++ record_end w turn.end ∷ []) worker
            ∙ ap (λ (last : ToldEnd). other.ends ++ last ∷ []) (end.noted_alike (worker_of_frame turn'.captured.bytes.items workers))
            ∙ sym turn'.ends;
      }

  command_alike : (number : ℕ) (one other after after' : TurnState) → AreStatesAlike script one other → IsQuiet after → IsQuiet after' →
      IsCommandTurn script number one after → IsCommandTurn script number other after' → AreStatesAlike script after after'
  command_alike number one other after after' alike quiet quiet' turn turn' =
      ⊎_elim
      (λ (none : script ≡ []).
      let known : slice_get [] number ≡ Some turn.command =
      subst (λ (list : List Command). slice_get list number ≡ Some turn.command) none turn.known in
      let nothing : None ≡ Some turn.command = known in
      absurd cc)
      (λ (same : one.controller ≡ other.controller).
      let command : turn.command ≡ turn'.command = cc (turn.known, turn'.known) in
      let did : IsAppliedInTurn turn'.fault one.controller other.all turn.command.action after'.controller after'.all =
      subst (λ (line : Command). IsAppliedInTurn turn'.fault one.controller other.all line.action after'.controller after'.all) (sym command)
      (subst (λ (state : ControllerState). IsAppliedInTurn turn'.fault state other.all turn'.command.action after'.controller after'.all) (sym same) turn'.did) in
      let first : (fault : ControlFault) → refusal_of one.controller turn.command.action ≡ Some fault → turn'.fault ≡ Some fault =
      λ fault refused. turn'.first fault
      (ap (λ (state : ControllerState). refusal_of state turn'.command.action) (sym same)
      ∙ ap (λ (line : Command). refusal_of one.controller line.action) (sym command) ∙ refused) in
      let once : AreAppliedAlike turn.fault turn'.fault after.controller after'.controller after.all after'.all =
      applied_alike one.controller one.all other.all turn.command.action turn.fault turn'.fault after.controller after'.controller after.all after'.all alike.all
      (last_part (λ (done : Applied). done.fault ≢ Some Memory) one.noted (record { command = number; fault = turn.fault })
      (subst HadMemory turn.noted quiet.memory))
      (last_part (λ (done : Applied). done.fault ≢ Some Memory) other.noted (record { command = number; fault = turn'.fault })
      (subst HadMemory turn'.noted quiet'.memory))
      (last_part (λ (done : Applied). done.fault ≢ Some JournalFull) one.noted (record { command = number; fault = turn.fault })
      (subst (NoneFailedSo JournalFull) turn.noted quiet.room))
      (last_part (λ (done : Applied). done.fault ≢ Some JournalFull) other.noted (record { command = number; fault = turn'.fault })
      (subst (NoneFailedSo JournalFull) turn'.noted quiet'.room))
      turn.did did turn.first first in
      record {
        all = once.maps;
        controller = inr once.states;
        noted = turn.noted ∙ ap (λ (list : List Applied). list ++ record { command = number; fault = turn.fault } ∷ []) alike.noted
            ∙ ap (λ (fault : Option ControlFault). other.noted ++ record { command = number; fault = fault } ∷ []) once.faults ∙ sym turn'.noted;
        counts = turn.counts ∙ alike.counts ∙ sym turn'.counts;
        sent = ap all_captured turn.sent ∙ alike.sent ∙ ap all_captured (sym turn'.sent);
        ends = turn.ends ∙ alike.ends ∙ sym turn'.ends;
      })
      alike.controller

  round_turn_alike : (one other after after' : TurnState) → AreStatesAlike script one other → IsRoundTurn one after → IsRoundTurn other after' →
      AreStatesAlike script after after'
  round_turn_alike one other after after' alike turn turn' =
      let count : length other.all.shards ≡ length one.all.shards = sym (alike_count IsOutside one.all.shards other.all.shards alike.all.shards) in
      record {
        all = record {
          maps = turn.maps ∙ alike.all.maps ∙ sym turn'.maps;
          options = same_options one.all.options other.all.options after.all.options after'.all.options turn.options turn'.options alike.all.options;
          shards = round_alike (length one.all.shards) one.all.shards other.all.shards after.all.shards after'.all.shards alike.all.shards turn.round
              (subst (λ (n : ℕ). IsRoundTo n other.all.shards after'.all.shards) count turn'.round);
        };
        controller = same_controller script one.controller other.controller after.controller after'.controller turn.controller turn'.controller alike.controller;
        noted = turn.noted ∙ alike.noted ∙ sym turn'.noted;
        counts = turn.counts ∙ alike.counts ∙ sym turn'.counts;
        sent = ap all_captured turn.sent ∙ alike.sent ∙ ap all_captured (sym turn'.sent);
        ends = turn.ends ∙ alike.ends ∙ sym turn'.ends;
      }

  turn_alike : (turn : Turn) (one other after after' : TurnState) → AreStatesAlike script one other → IsQuiet after → IsQuiet after' →
      IsTurn program script records workers turn one after → IsTurn program script others workers turn other after' → AreStatesAlike script after after'
  turn_alike (TheRecord number) one other after after' alike quiet quiet' made made' =
      record_alike number one other after after' alike quiet quiet' made made'
  turn_alike (TheCommand number) one other after after' alike quiet quiet' made made' =
      command_alike number one other after after' alike quiet quiet' made made'
  turn_alike TheRound one other after after' alike quiet quiet' made made' = round_turn_alike one other after after' alike made made'

  -- ---- all turns

  turns_alike : (turns : List Turn) (one other last last' : TurnState) → AreStatesAlike script one other → IsQuiet last → IsQuiet last' →
      AreTurns program script records workers turns one last → AreTurns program script others workers turns other last' → AreStatesAlike script last last'
  turns_alike [] one other last last' alike quiet quiet' made made' =
      subst (λ (state : TurnState). AreStatesAlike script last state) (sym made')
      (subst (λ (state : TurnState). AreStatesAlike script state other) (sym made) alike)
  turns_alike (turn ∷ later) one other last last' alike quiet quiet' made made' =
      turns_alike later made.0 made'.0 last last'
      (turn_alike turn one other made.0 made'.0 alike (quiet_before program script records workers later made.0 last made.2 quiet)
      (quiet_before program script others workers later made'.0 last' made'.2 quiet') made.1 made'.1)
      quiet quiet' made.2 made'.2

-- ---- what they return

quiet_end : (program : Program) (script : List Command) (options : Options) (records : List Sent) (outcome : Outcome) →
    (turns : IsInTurn program script options records outcome) → HadMemory outcome.refused.items → HadRoom outcome → IsQuiet turns.last
quiet_end program script options records outcome turns had room = record {
  memory = none_of_all Memory turns.last.noted (subst HadMemory turns.refused had);
  room = none_of_all JournalFull turns.last.noted (subst (NoneFailedSo JournalFull) turns.refused room.commands);
  stopped = ap (λ (counts : Counts). counts.stopped) (sym turns.counts) ∙ room.none_stopped;
}

pub journals_change_nothing : JournalsChangeNothing
journals_change_nothing program script options options' records others one other same frames turns turns' updates had had' room room' = record {
  counts = turns.counts ∙ alike.counts ∙ sym turns'.counts;
  ends = turns.ends ∙ alike.ends ∙ sym turns'.ends;
  sent = ap all_captured turns.sent ∙ alike.sent ∙ ap all_captured (sym turns'.sent);
  refused = turns.refused ∙ ap refused_of alike.noted ∙ sym turns'.refused;
}
  where
    starts : AreStatesAlike script (first_state turns.begun turns.size) (first_state turns'.begun turns'.size)
    starts = record {
      all = begun_alike program.maps options options' one.updates.items other.updates.items turns.begun turns'.begun same updates turns.first turns'.first;
      controller = first_controller program.maps script turns.size turns'.size turns.size_is_served turns'.size_is_served turns.serves turns'.serves;
      noted = refl;
      counts = refl;
      sent = refl;
      ends = refl;
    }

    count : length others ≡ length records
    count = sym (length-map others captured_of) ∙ ap (λ (list : List Captured). length list) (sym frames) ∙ length-map records captured_of

    alike : AreStatesAlike script turns.last turns'.last
    alike = turns_alike program script records others options.workers frames (all_turns (starts_in script) (length records))
        (first_state turns.begun turns.size) (first_state turns'.begun turns'.size) turns.last turns'.last starts
        (quiet_end program script options records one turns had room) (quiet_end program script options' others other turns' had' room') turns.in_order
        (subst (λ (w : ℕ). AreTurns program script others w (all_turns (starts_in script) (length records)) (first_state turns'.begun turns'.size) turns'.last)
        (sym same.workers)
        (subst (λ (n : ℕ). AreTurns program script others options'.workers (all_turns (starts_in script) n) (first_state turns'.begun turns'.size) turns'.last)
        count turns'.in_order))
