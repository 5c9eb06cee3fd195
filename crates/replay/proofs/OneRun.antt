-- A call on the shards of one thread has one reply, so a run over them has one end, and leaves one state.
use Rattle.std.proofs.Common.{◌≡◌, inl, inr, ℕ, ◌+◌, ◌*◌, Bool, List, [], ◌∷◌, Option, Some, None, reverse, refl, sym, ap, ◌∙◌, subst, append-nil}
use Rattle.std.specs.Prelude.{slice_set, IsTrue, IsFalse}
use Rattle.ebpf_decode.specs.InstructionEncoding.{total_slots}
use Rattle.wire.specs.FrameView.{FrameView}
use Rattle.wire.specs.declared.records.Sent.{Sent}
use Rattle.semantics.specs.declared.call.Call.{Call}
use Rattle.semantics.specs.declared.call.Reply.{Reply}
use Rattle.semantics.specs.declared.verdict.Verdict.{Verdict}
use Rattle.semantics.specs.declared.verdict.Verdict.TheVariants as verdicts
use Rattle.semantics.specs.History.{shard_of_call, journal_is_full}
use Rattle.semantics.specs.MachineState.{MachineState, initial_state}
use Rattle.semantics.specs.Program.{Program}
use Rattle.semantics.specs.RunTrace.{RunStand, HasExited, Waits}
use Rattle.machine.specs.declared.exit.Stop.{Stop}
use Rattle.machine.specs.declared.exit.Stop.TheVariants.{JournalFull}
use Rattle.machine.specs.Running.{Ends, Stops, StopsSo}
use Rattle.map_port.specs.Served.{Maps}
use Rattle.map_port.specs.Exchanges.{calls_in}
use Rattle.shard_core.specs.JournaledShard.{JournaledShard, sequential_reply, shard_with_entry}
use Rattle.shard_port.specs.Asking.{can_enter, entered, asked_entry, EntersAndCalls, CannotEnterOrCall, all_left}
use Rattle.shard_port.specs.PortView.{PortView, IsGivenBy, IsRefusedBy}
use Rattle.semantics.specs.Replay.{Captured}
use Rattle.actors.specs.declared.account.Counts.{Counts}
use Rattle.actors.specs.declared.outcome.ToldEnd.TheVariants as ends
use Rattle.actors.specs.declared.runner.FrameFate.{FrameFate}
use Rattle.actors.specs.declared.runner.FrameFate.TheVariants.{Aborted, Dropped, Passed, Sent as IsSent}
use Rattle.actors.specs.declared.runner.RunEnd.{RunEnd}
use Rattle.actors.specs.declared.runner.RunEnd.TheVariants.{Stopped, Exited}
use Rattle.actors.specs.Shares.{is_short, worker_of_frame, captured_of}
use Rattle.actors.specs.Accounts.{sent_by, counted, record_end, verdict_for}
use Rattle.actors.specs.RunsOverShards.{start_of, IsTold}
use Rattle.replay.specs.InTurn.{worker_port, EndsInTurn, StopsInTurn, IsExitInTurn, IsRunInTurn, IsHandledInTurn}
use Rattle.replay.proofs.OneTrace.{trace_with, IsPlayed, one_end}

-- ---- a call

pub not_both : (test : Bool) → IsTrue test → IsFalse test → ⊥
not_both test is is_not = absurd cc

abbrev seen : Maps → ℕ → List JournaledShard → PortView
seen served worker shards = record { served = served; worker = worker; shards = shards }

one_port : (one other : PortView) → one.served ≡ other.served → one.worker ≡ other.worker → one.shards ≡ other.shards → one ≡ other
one_port one other served worker shards =
    ap (λ (m : Maps). seen m one.worker one.shards) served ∙ ap (λ (w : ℕ). seen other.served w one.shards) worker
    ∙ ap (λ (s : List JournaledShard). seen other.served other.worker s) shards

given_once : (before : PortView) (call : Call) (reply reply' : Reply) (after after' : PortView) → IsGivenBy before call reply after →
    IsGivenBy before call reply' after' → (reply ≡ reply') × (after ≡ after')
given_once before call reply reply' after after' given given' =
    let same : given.answered.shard ≡ given'.answered.shard = cc (given.answered.known, given'.answered.known) in
    let replied : reply ≡ reply' =
    given.answered.answered.replied ∙ ap (λ (one : JournaledShard). sequential_reply (entered before.worker one) call) same
    ∙ sym given'.answered.answered.replied in
    let written : given.answered.new ≡ given'.answered.new =
    given.answered.answered.written
    ∙ ap (λ (one : JournaledShard). shard_with_entry (entered before.worker one) (asked_entry before.worker call reply)) same
    ∙ ap (λ (one : Reply). shard_with_entry (entered before.worker given'.answered.shard) (asked_entry before.worker call one)) replied
    ∙ sym given'.answered.answered.written in
    let shards : after.shards ≡ after'.shards =
    given.answered.put_back ∙ ap (λ (new : JournaledShard). slice_set before.shards (shard_of_call call) new) written
    ∙ sym given'.answered.put_back in
    (replied, one_port after after' (given.same_maps ∙ sym given'.same_maps) (given.same_worker ∙ sym given'.same_worker) shards)

refused_once : (before : PortView) (call : Call) (after after' : PortView) → IsRefusedBy before call after → IsRefusedBy before call after' → after ≡ after'
refused_once before call after after' refused refused' =
    let same : refused.turned_away.shard ≡ refused'.turned_away.shard = cc (refused.turned_away.known, refused'.turned_away.known) in
    let new = left_once before.worker refused.turned_away.shard call refused.turned_away.new refused'.turned_away.new refused.turned_away.turned_away
    (subst (λ (one : JournaledShard). CannotEnterOrCall before.worker one call refused'.turned_away.new) (sym same) refused'.turned_away.turned_away) in
    let shards : after.shards ≡ after'.shards =
    refused.turned_away.put_back ∙ ap (λ (one : JournaledShard). slice_set before.shards (shard_of_call call) one) new
    ∙ sym refused'.turned_away.put_back in
    one_port after after' (refused.same_maps ∙ sym refused'.same_maps) (refused.same_worker ∙ sym refused'.same_worker) shards
  where
    left_once : (worker : ℕ) (shard : JournaledShard) (call : Call) (new new' : JournaledShard) → CannotEnterOrCall worker shard call new →
        CannotEnterOrCall worker shard call new' → new ≡ new'
    left_once worker shard call new new' (inl out) (inl out') = out.unchanged ∙ sym out'.unchanged
    left_once worker shard call new new' (inl out) (inr kept) = absurd (not_both (can_enter worker shard) kept.enters out.full)
    left_once worker shard call new new' (inr kept) (inl out) = absurd (not_both (can_enter worker shard) kept.enters out.full)
    left_once worker shard call new new' (inr kept) (inr also) = kept.entered_only ∙ sym also.entered_only

given_or_refused : (before : PortView) (call : Call) (reply : Reply) (after after' : PortView) → IsGivenBy before call reply after →
    IsRefusedBy before call after' → ⊥
given_or_refused before call reply after after' given refused =
    let same : given.answered.shard ≡ refused.turned_away.shard = cc (given.answered.known, refused.turned_away.known) in
    never before.worker given.answered.shard call reply given.answered.new refused.turned_away.new given.answered.answered
    (subst (λ (one : JournaledShard). CannotEnterOrCall before.worker one call refused.turned_away.new) (sym same) refused.turned_away.turned_away)
  where
    never : (worker : ℕ) (shard : JournaledShard) (call : Call) (reply : Reply) (new new' : JournaledShard) → EntersAndCalls worker shard call reply new →
        CannotEnterOrCall worker shard call new' → ⊥
    never worker shard call reply new new' answered (inl out) = not_both (can_enter worker shard) answered.enters out.full
    never worker shard call reply new new' answered (inr kept) =
        not_both (journal_is_full shard.plan (reverse (entered worker shard).journal) call) kept.full answered.room

-- ---- a run

same_given : (one other : PortView) (call : Call) (reply reply' : Reply) (after after' : PortView) → one ≡ other → IsGivenBy one call reply after →
    IsGivenBy other call reply' after' → (reply ≡ reply') × (after ≡ after')
same_given one other call reply reply' after after' same given given' =
    given_once one call reply reply' after after' given (subst (λ (port : PortView). IsGivenBy port call reply' after') (sym same) given')

same_refused : (one other : PortView) (call : Call) (after after' : PortView) → one ≡ other → IsRefusedBy one call after → IsRefusedBy other call after' →
    after ≡ after'
same_refused one other call after after' same refused refused' =
    refused_once one call after after' refused (subst (λ (port : PortView). IsRefusedBy port call after') (sym same) refused')

never_both : (one other : PortView) (call : Call) (reply : Reply) (after after' : PortView) → one ≡ other → IsGivenBy one call reply after →
    IsRefusedBy other call after' → ⊥
never_both one other call reply after after' same given refused =
    given_or_refused one call reply after after' given (subst (λ (port : PortView). IsRefusedBy port call after') (sym same) refused)

nor_so : (one other : PortView) (call : Call) (reply : Reply) (after after' : PortView) → one ≡ other → IsRefusedBy one call after →
    IsGivenBy other call reply after' → ⊥
nor_so one other call reply after after' same refused given =
    given_or_refused other call reply after' after given (subst (λ (port : PortView). IsRefusedBy port call after) same refused)

abbrev IsPlayedOver : Program → MachineState → PortView → PortView → RunStand → Type 0
IsPlayedOver program start before after stand = IsPlayed IsGivenBy IsRefusedBy (total_slots program.code) program start before after stand

played_once : (program : Program) (start : MachineState) (before after after' : PortView) (stand stand' : RunStand) →
    IsPlayedOver program start before after stand → IsPlayedOver program start before after' stand' → (stand ≡ stand') × (after ≡ after')
played_once program start before after after' stand stand' played played' =
    one_end IsGivenBy IsGivenBy IsRefusedBy IsRefusedBy (λ (one other : PortView). one ≡ other) same_given same_refused never_both nor_so
    (total_slots program.code) program start before before after after' stand stand' refl played played'

exit_played : (program : Program) (start : MachineState) (before after : PortView) (verdict : Verdict) (steps : ℕ) (frame : FrameView) →
    (run : Ends IsGivenBy program start before after verdict steps frame) → IsPlayedOver program start before after (HasExited verdict run.last)
exit_played program start before after verdict steps frame run = record {
  made = run.exchanges;
  pending = [];
  middle = after;
  chain = run.chain;
  trace = run.trace ∙ ap (λ (calls : List Call). trace_with calls (HasExited verdict run.last)) (sym (append-nil (calls_in run.exchanges)));
  ends = refl;
}

stop_played : (program : Program) (start : MachineState) (before after : PortView) (frame : FrameView) (shard : ℕ) →
    (run : Stops IsGivenBy IsRefusedBy program start before after frame shard) → IsPlayedOver program start before after (Waits run.waiting)
stop_played program start before after frame shard run = record {
  made = run.exchanges;
  pending = run.call ∷ [];
  middle = run.middle;
  chain = run.chain;
  trace = run.trace;
  ends = run.refused;
}

-- a run that a full journal stopped, whichever it was
record IsStopPlayed (program : Program) (start : MachineState) (before after : PortView) : Type 0 where
  waiting : MachineState
  played : IsPlayedOver program start before after (Waits waiting)

stopped_so : (program : Program) (start : MachineState) (before after : PortView) (frame : FrameView) (stop : Stop) →
    StopsSo IsGivenBy IsRefusedBy program start before after frame stop → IsStopPlayed program start before after
stopped_so program start before after frame (JournalFull shard) run =
    record { waiting = run.waiting; played = stop_played program start before after frame shard run }

left_by : (before after : List JournaledShard) (one other : PortView) → before ≡ all_left one.worker one.shards → after ≡ all_left other.worker other.shards →
    one ≡ other → before ≡ after
left_by before after one other left left' same = left ∙ ap (λ (port : PortView). all_left port.worker port.shards) same ∙ sym left'

record IsOneExit (after after' : List JournaledShard) (verdict verdict' : Verdict) (steps steps' : ℕ) (frame frame' : FrameView) : Type 0 where
  shards : after ≡ after'
  verdicts_are : verdict ≡ verdict'
  steps_are : steps ≡ steps'
  frames : frame ≡ frame'

exits_once : (program : Program) (start : MachineState) (worker : ℕ) (before after after' : List JournaledShard) (verdict verdict' : Verdict)
    (steps steps' : ℕ) (frame frame' : FrameView) → EndsInTurn program start worker before after verdict steps frame →
    EndsInTurn program start worker before after' verdict' steps' frame' → IsOneExit after after' verdict verdict' steps steps' frame frame'
exits_once program start worker before after after' verdict verdict' steps steps' frame frame' run run' =
    let port : PortView = worker_port program worker before in
    let whole = played_once program start port run.last run'.last (HasExited verdict run.ends.last) (HasExited verdict' run'.ends.last)
    (exit_played program start port run.last verdict steps frame run.ends) (exit_played program start port run'.last verdict' steps' frame' run'.ends) in
    let same : HasExited verdict run.ends.last ≡ HasExited verdict' run'.ends.last = whole.0 in
    let state : run.ends.last ≡ run'.ends.last = cc in
    let answered : verdict ≡ verdict' = cc in
    record {
      shards = left_by after after' run.last run'.last run.left run'.left whole.1;
      verdicts_are = answered;
      steps_are = run.ends.steps_done ∙ ap (λ (one : MachineState). one.steps) state ∙ sym run'.ends.steps_done;
      frames = run.ends.frame_left ∙ ap (λ (one : MachineState). one.frame) state ∙ sym run'.ends.frame_left;
    }

stops_once : (program : Program) (start : MachineState) (worker : ℕ) (before after after' : List JournaledShard) (frame frame' : FrameView)
    (stop stop' : Stop) → StopsInTurn program start worker before after frame stop → StopsInTurn program start worker before after' frame' stop' →
    after ≡ after'
stops_once program start worker before after after' frame frame' stop stop' run run' =
    let port : PortView = worker_port program worker before in
    let one = stopped_so program start port run.last frame stop run.stops in
    let other = stopped_so program start port run'.last frame' stop' run'.stops in
    let whole = played_once program start port run.last run'.last (Waits one.waiting) (Waits other.waiting) one.played other.played in
    left_by after after' run.last run'.last run.left run'.left whole.1

ends_or_stops : (program : Program) (start : MachineState) (worker : ℕ) (before after after' : List JournaledShard) (verdict : Verdict) (steps : ℕ)
    (frame frame' : FrameView) (stop : Stop) → EndsInTurn program start worker before after verdict steps frame →
    StopsInTurn program start worker before after' frame' stop → ⊥
ends_or_stops program start worker before after after' verdict steps frame frame' stop run run' =
    let port : PortView = worker_port program worker before in
    let other = stopped_so program start port run'.last frame' stop run'.stops in
    let whole = played_once program start port run.last run'.last (HasExited verdict run.ends.last) (Waits other.waiting)
    (exit_played program start port run.last verdict steps frame run.ends) other.played in
    let same : HasExited verdict run.ends.last ≡ Waits other.waiting = whole.0 in
    absurd cc

-- ---- what is said of a run's end

-- two ends are counted, sent and noted alike
pub record AreOneEnd (one other : Option RunEnd) : Type 0 where
  pub counted_alike : (before : Counts) → counted before one ≡ counted before other
  pub sent_alike : sent_by one ≡ sent_by other
  pub noted_alike : (worker : ℕ) → record_end worker one ≡ record_end worker other

-- by the verdict alone
abbrev counted_by : Counts → Verdict → Counts
counted_by c verdicts.Aborted = record c { aborted = c.aborted + 1 }
counted_by c verdicts.Drop = record c { drop = c.drop + 1 }
counted_by c verdicts.Pass = record c { pass = c.pass + 1 }
counted_by c verdicts.Tx = record c { tx = c.tx + 1 }

abbrev sent_for : Captured → Verdict → List Captured
sent_for frame verdicts.Aborted = []
sent_for frame verdicts.Drop = []
sent_for frame verdicts.Pass = []
sent_for frame verdicts.Tx = frame ∷ []

-- a frame at a record's moment
abbrev at_moment : Captured → List ℕ → Captured
at_moment captured bytes = record { seconds = captured.seconds; micros = captured.micros; bytes = bytes }

told_verdict : (captured : Sent) (verdict : Verdict) (frame : FrameView) (steps : ℕ) (fate : FrameFate) → IsTold captured verdict frame (Exited steps fate) →
    verdict_for fate ≡ verdict
told_verdict captured verdict frame steps Aborted told = sym told
told_verdict captured verdict frame steps Dropped told = sym told
told_verdict captured verdict frame steps Passed told = sym told
told_verdict captured verdict frame steps (IsSent sent) told = sym told.0

counted_so : (steps : ℕ) (fate : FrameFate) (before : Counts) → counted before (Some (Exited steps fate)) ≡ counted_by before (verdict_for fate)
counted_so steps Aborted before = refl
counted_so steps Dropped before = refl
counted_so steps Passed before = refl
counted_so steps (IsSent sent) before = refl

noted_so : (steps : ℕ) (fate : FrameFate) (worker : ℕ) → record_end worker (Some (Exited steps fate)) ≡ ends.Exited worker (verdict_for fate) steps
noted_so steps Aborted worker = refl
noted_so steps Dropped worker = refl
noted_so steps Passed worker = refl
noted_so steps (IsSent sent) worker = refl

one_frame : (one other : Captured) → one.seconds ≡ other.seconds → one.micros ≡ other.micros → one.bytes ≡ other.bytes → one ≡ other
one_frame one other seconds micros bytes =
    let of : ℕ → ℕ → List ℕ → Captured = λ s m b. record { seconds = s; micros = m; bytes = b } in
    ap (λ (s : ℕ). of s one.micros one.bytes) seconds ∙ ap (λ (m : ℕ). of other.seconds m one.bytes) micros
    ∙ ap (λ (b : List ℕ). of other.seconds other.micros b) bytes

sent_so : (captured : Sent) (verdict : Verdict) (frame : FrameView) (steps : ℕ) (fate : FrameFate) → IsTold captured verdict frame (Exited steps fate) →
    sent_by (Some (Exited steps fate)) ≡ sent_for (at_moment (captured_of captured) frame.bytes) verdict
sent_so captured verdict frame steps Aborted told = ap (sent_for (at_moment (captured_of captured) frame.bytes)) (sym told)
sent_so captured verdict frame steps Dropped told = ap (sent_for (at_moment (captured_of captured) frame.bytes)) (sym told)
sent_so captured verdict frame steps Passed told = ap (sent_for (at_moment (captured_of captured) frame.bytes)) (sym told)
sent_so captured verdict frame steps (IsSent sent) told =
    ap (λ (one : Captured). one ∷ [])
    (one_frame (captured_of sent) (at_moment (captured_of captured) frame.bytes) told.1.seconds told.1.micros told.1.bytes_are)
    ∙ ap (sent_for (at_moment (captured_of captured) frame.bytes)) (sym told.0)

-- ---- the run of a record

-- how a run begins, by the record's frame
abbrev start_at : Captured → ℕ → MachineState
start_at captured worker =
    initial_state (record { bytes = captured.bytes; headroom = 256 }) worker ((captured.seconds * 1000000 + captured.micros) * 1000)

pub same_start : (captured captured' : Sent) (worker : ℕ) → captured_of captured ≡ captured_of captured' → start_of captured' worker ≡ start_of captured worker
same_start captured captured' worker same = ap (λ (one : Captured). start_at one worker) (sym same)

-- two runs that ended with one verdict, in as many steps, and left one frame
pub told_once : (captured captured' : Sent) (verdict verdict' : Verdict) (frame frame' : FrameView) (steps steps' count count' : ℕ) (fate fate' : FrameFate) →
    captured_of captured ≡ captured_of captured' → verdict ≡ verdict' → count ≡ count' → frame ≡ frame' →
    IsTold captured verdict frame (Exited steps fate) → IsTold captured' verdict' frame' (Exited steps' fate') → Some steps ≡ Some count →
    Some steps' ≡ Some count' → AreOneEnd (Some (Exited steps fate)) (Some (Exited steps' fate'))
told_once captured captured' verdict verdict' frame frame' steps steps' count count' fate fate' same verdicts_are counts_are frames told told' first second =
    let fates : verdict_for fate ≡ verdict_for fate' =
    told_verdict captured verdict frame steps fate told ∙ verdicts_are ∙ sym (told_verdict captured' verdict' frame' steps' fate' told') in
    let same_steps : steps ≡ steps' = cc in
    record {
      counted_alike = λ counts. counted_so steps fate counts ∙ ap (counted_by counts) fates ∙ sym (counted_so steps' fate' counts);
      sent_alike = sent_so captured verdict frame steps fate told
          ∙ ap (λ (moment : Captured). sent_for (at_moment moment frame.bytes) verdict) same
          ∙ ap (λ (one : FrameView). sent_for (at_moment (captured_of captured') one.bytes) verdict) frames
          ∙ ap (sent_for (at_moment (captured_of captured') frame'.bytes)) verdicts_are
          ∙ sym (sent_so captured' verdict' frame' steps' fate' told');
      noted_alike = λ number. noted_so steps fate number ∙ ap (λ (one : Verdict). ends.Exited number one steps) fates
          ∙ ap (λ (n : ℕ). ends.Exited number (verdict_for fate') n) same_steps ∙ sym (noted_so steps' fate' number);
    }

exit_once : (program : Program) (captured captured' : Sent) (worker : ℕ) (before after after' : List JournaledShard) (steps steps' : ℕ)
    (fate fate' : FrameFate) → captured_of captured ≡ captured_of captured' → IsExitInTurn program captured worker before (Exited steps fate) after →
    IsExitInTurn program captured' worker before (Exited steps' fate') after' →
    (after ≡ after') × AreOneEnd (Some (Exited steps fate)) (Some (Exited steps' fate'))
exit_once program captured captured' worker before after after' steps steps' fate fate' same exit exit' =
    let one = exits_once program (start_of captured worker) worker before after after' exit.verdict exit'.verdict exit.steps exit'.steps exit.frame exit'.frame
    exit.run
    (subst (λ (start : MachineState). EndsInTurn program start worker before after' exit'.verdict exit'.steps exit'.frame)
    (same_start captured captured' worker same) exit'.run) in (
      one.shards,
      told_once captured captured' exit.verdict exit'.verdict exit.frame exit'.frame steps steps' exit.steps exit'.steps fate fate' same
          one.verdicts_are one.steps_are one.frames exit.told exit'.told exit.counted exit'.counted,
    )

pub run_once : (program : Program) (captured captured' : Sent) (worker : ℕ) (before after after' : List JournaledShard) (end end' : RunEnd) →
    captured_of captured ≡ captured_of captured' → IsRunInTurn program captured worker before end after →
    IsRunInTurn program captured' worker before end' after' → (after ≡ after') × AreOneEnd (Some end) (Some end')
run_once program captured captured' worker before after after' Stopped Stopped same stop stop' = (
  stops_once program (start_of captured worker) worker before after after' stop.frame stop'.frame stop.stop stop'.stop stop.run
      (subst (λ (start : MachineState). StopsInTurn program start worker before after' stop'.frame stop'.stop)
      (same_start captured captured' worker same) stop'.run),
  record { counted_alike = λ counts. refl; sent_alike = refl; noted_alike = λ number. refl },
)
run_once program captured captured' worker before after after' Stopped (Exited steps fate) same stop exit = absurd
    (ends_or_stops program (start_of captured' worker) worker before after' after exit.verdict exit.steps exit.frame stop.frame stop.stop exit.run
    (subst (λ (start : MachineState). StopsInTurn program start worker before after stop.frame stop.stop)
    (sym (same_start captured captured' worker same)) stop.run))
run_once program captured captured' worker before after after' (Exited steps fate) Stopped same exit stop = absurd
    (ends_or_stops program (start_of captured worker) worker before after after' exit.verdict exit.steps exit.frame stop.frame stop.stop exit.run
    (subst (λ (start : MachineState). StopsInTurn program start worker before after' stop.frame stop.stop)
    (same_start captured captured' worker same) stop.run))
run_once program captured captured' worker before after after' (Exited steps fate) (Exited steps' fate') same exit exit' =
    exit_once program captured captured' worker before after after' steps steps' fate fate' same exit exit'

pub handled_once : (program : Program) (workers : ℕ) (captured captured' : Sent) (before after after' : List JournaledShard) (end end' : Option RunEnd) →
    captured_of captured ≡ captured_of captured' → IsHandledInTurn program workers captured before end after →
    IsHandledInTurn program workers captured' before end' after' → (after ≡ after') × AreOneEnd end end'
handled_once program workers captured captured' before after after' None None same passed passed' = (
  passed.nothing ∙ sym passed'.nothing,
  record { counted_alike = λ counts. refl; sent_alike = refl; noted_alike = λ number. refl },
)
handled_once program workers captured captured' before after after' None (Some end) same passed ran =
    let tests : is_short captured.bytes.items ≡ is_short captured'.bytes.items = ap (λ (one : Captured). is_short one.bytes) same in
    absurd (not_both (is_short captured.bytes.items) passed.short (tests ∙ ran.long))
handled_once program workers captured captured' before after after' (Some end) None same ran passed =
    let tests : is_short captured.bytes.items ≡ is_short captured'.bytes.items = ap (λ (one : Captured). is_short one.bytes) same in
    absurd (not_both (is_short captured'.bytes.items) passed.short (sym tests ∙ ran.long))
handled_once program workers captured captured' before after after' (Some end) (Some end') same ran ran' =
    let worker : worker_of_frame captured'.bytes.items workers ≡ worker_of_frame captured.bytes.items workers =
    ap (λ (one : Captured). worker_of_frame one.bytes workers) (sym same) in
    run_once program captured captured' (worker_of_frame captured.bytes.items workers) before after after' end end' same ran.run
    (subst (λ (number : ℕ). IsRunInTurn program captured' number before end' after') worker ran'.run)
