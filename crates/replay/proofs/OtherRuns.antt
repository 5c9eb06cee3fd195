-- A run over shards with journals of different room that ends in both ends alike.
use Rattle.std.proofs.Common.{◌≡◌, ◌≢◌, ℕ, List, [], Option, Some, None, refl, sym, ap, ◌∙◌, subst, append-nil, map}
use Rattle.std.specs.Prelude.{slice_set}
use Rattle.ebpf_decode.specs.InstructionEncoding.{total_slots}
use Rattle.wire.specs.FrameView.{FrameView}
use Rattle.wire.specs.declared.records.Sent.{Sent}
use Rattle.semantics.specs.declared.call.Call.{Call}
use Rattle.semantics.specs.declared.call.Reply.{Reply}
use Rattle.semantics.specs.declared.verdict.Verdict.{Verdict}
use Rattle.semantics.specs.History.{shard_of_call}
use Rattle.semantics.specs.MachineState.{MachineState}
use Rattle.semantics.specs.Program.{Program}
use Rattle.semantics.specs.RunTrace.{RunStand, HasExited}
use Rattle.machine.specs.Running.{Ends}
use Rattle.map_port.specs.Exchanges.{calls_in}
use Rattle.shard_core.specs.JournaledShard.{JournaledShard}
use Rattle.shard_port.specs.Asking.{EntersAndCalls, left, all_left}
use Rattle.shard_port.specs.PortView.{PortView, IsGivenBy}
use Rattle.semantics.specs.Replay.{Captured}
use Rattle.actors.specs.declared.runner.FrameFate.{FrameFate}
use Rattle.actors.specs.declared.runner.RunEnd.{RunEnd}
use Rattle.actors.specs.declared.runner.RunEnd.TheVariants.{Stopped, Exited}
use Rattle.actors.specs.Shares.{is_short, worker_of_frame, captured_of}
use Rattle.actors.specs.RunsOverShards.{start_of}
use Rattle.replay.specs.InTurn.{worker_port, EndsInTurn, IsExitInTurn, IsRunInTurn, IsHandledInTurn}
use Rattle.replay.proofs.OneTrace.{trace_with, IsPlayed, one_end}
use Rattle.replay.proofs.OneRun.{not_both, AreOneEnd, told_once, same_start}
use Rattle.replay.proofs.OtherShards.{IsOutside, IsOutsideBut, AreAllAlike, alike_at, alike_set, alike_map, alike_also, but_one, left_alike, call_alike}

-- ---- ports

record ArePortsAlike (worker : ℕ) (one other : PortView) : Type 0 where
  served : one.served ≡ other.served
  first_worker : one.worker ≡ worker
  second_worker : other.worker ≡ worker
  shards : AreAllAlike (IsOutsideBut worker) one.shards other.shards

given_alike : (worker : ℕ) (one other : PortView) (call : Call) (reply reply' : Reply) (after after' : PortView) → ArePortsAlike worker one other →
    IsGivenBy one call reply after → IsGivenBy other call reply' after' → (reply ≡ reply') × ArePortsAlike worker after after'
given_alike worker one other call reply reply' after after' alike given given' =
    let here = alike_at (IsOutsideBut worker) one.shards other.shards (shard_of_call call) given.answered.shard given'.answered.shard alike.shards
    given.answered.known given'.answered.known in
    let said = call_alike worker given.answered.shard given'.answered.shard given.answered.new given'.answered.new call reply reply' given.run_call here
    (subst (λ (n : ℕ). EntersAndCalls n given.answered.shard call reply given.answered.new) alike.first_worker given.answered.answered)
    (subst (λ (n : ℕ). EntersAndCalls n given'.answered.shard call reply' given'.answered.new) alike.second_worker given'.answered.answered) in
    let set = alike_set (IsOutsideBut worker) one.shards other.shards (shard_of_call call) given.answered.new given'.answered.new alike.shards said.alike in (
      said.replies,
      record {
        served = given.same_maps ∙ alike.served ∙ sym given'.same_maps;
        first_worker = given.same_worker ∙ alike.first_worker;
        second_worker = given'.same_worker ∙ alike.second_worker;
        shards = subst (λ (list : List JournaledShard). AreAllAlike (IsOutsideBut worker) list after'.shards) (sym given.answered.put_back)
            (subst (λ (list : List JournaledShard). AreAllAlike (IsOutsideBut worker) (slice_set one.shards (shard_of_call call) given.answered.new) list)
            (sym given'.answered.put_back) set);
      },
    )

-- ---- runs

-- no call is refused
abbrev Never : PortView → Call → PortView → Type 0
Never before call after = ⊥

abbrev IsPlayedWhole : Program → MachineState → PortView → PortView → RunStand → Type 0
IsPlayedWhole program start before after stand = IsPlayed IsGivenBy Never (total_slots program.code) program start before after stand

played_alike : (program : Program) (start : MachineState) (worker : ℕ) (before before' after after' : PortView) (stand stand' : RunStand) →
    ArePortsAlike worker before before' → IsPlayedWhole program start before after stand → IsPlayedWhole program start before' after' stand' →
    (stand ≡ stand') × ArePortsAlike worker after after'
played_alike program start worker before before' after after' stand stand' alike played played' =
    one_end IsGivenBy IsGivenBy Never Never (ArePortsAlike worker) (given_alike worker)
    (λ (one other : PortView) (call : Call) (next next' : PortView) (ports : ArePortsAlike worker one other) (refused : ⊥) (refused' : ⊥). absurd refused)
    (λ (one other : PortView) (call : Call) (reply : Reply) (next next' : PortView) (ports : ArePortsAlike worker one other)
    (given : IsGivenBy one call reply next) (refused : ⊥). refused)
    (λ (one other : PortView) (call : Call) (reply : Reply) (next next' : PortView) (ports : ArePortsAlike worker one other) (refused : ⊥)
    (given : IsGivenBy other call reply next'). refused)
    (total_slots program.code) program start before before' after after' stand stand' alike played played'

whole_played : (program : Program) (start : MachineState) (before after : PortView) (verdict : Verdict) (steps : ℕ) (frame : FrameView) →
    (run : Ends IsGivenBy program start before after verdict steps frame) → IsPlayedWhole program start before after (HasExited verdict run.last)
whole_played program start before after verdict steps frame run = record {
  made = run.exchanges;
  pending = [];
  middle = after;
  chain = run.chain;
  trace = run.trace ∙ ap (λ (calls : List Call). trace_with calls (HasExited verdict run.last)) (sym (append-nil (calls_in run.exchanges)));
  ends = refl;
}

record AreExitsAlike (after after' : List JournaledShard) (verdict verdict' : Verdict) (steps steps' : ℕ) (frame frame' : FrameView) : Type 0 where
  shards : AreAllAlike IsOutside after after'
  verdicts_are : verdict ≡ verdict'
  steps_are : steps ≡ steps'
  frames : frame ≡ frame'

left_so : (worker : ℕ) (after : List JournaledShard) (port : PortView) → after ≡ all_left port.worker port.shards → port.worker ≡ worker →
    map (left worker) port.shards ≡ after
left_so worker after port is same = sym (is ∙ ap (λ (n : ℕ). all_left n port.shards) same)

exits_alike : (program : Program) (start : MachineState) (worker : ℕ) (before before' after after' : List JournaledShard) (verdict verdict' : Verdict)
    (steps steps' : ℕ) (frame frame' : FrameView) → AreAllAlike IsOutside before before' →
    EndsInTurn program start worker before after verdict steps frame → EndsInTurn program start worker before' after' verdict' steps' frame' →
    AreExitsAlike after after' verdict verdict' steps steps' frame frame'
exits_alike program start worker before before' after after' verdict verdict' steps steps' frame frame' all run run' =
    let ports : ArePortsAlike worker (worker_port program worker before) (worker_port program worker before') =
    record {
      served = refl;
      first_worker = refl;
      second_worker = refl;
      shards = alike_also IsOutside (IsOutsideBut worker) before before' (but_one worker) all;
    } in
    let whole = played_alike program start worker (worker_port program worker before) (worker_port program worker before') run.last run'.last
    (HasExited verdict run.ends.last) (HasExited verdict' run'.ends.last) ports
    (whole_played program start (worker_port program worker before) run.last verdict steps frame run.ends)
    (whole_played program start (worker_port program worker before') run'.last verdict' steps' frame' run'.ends) in
    let same : HasExited verdict run.ends.last ≡ HasExited verdict' run'.ends.last = whole.0 in
    let state : run.ends.last ≡ run'.ends.last = cc in
    let answered : verdict ≡ verdict' = cc in
    let last : ArePortsAlike worker run.last run'.last = whole.1 in
    let mapped = alike_map (IsOutsideBut worker) IsOutside (left worker) run.last.shards run'.last.shards (left_alike worker) last.shards in
    record {
      shards = subst (λ (list : List JournaledShard). AreAllAlike IsOutside list after') (left_so worker after run.last run.left last.first_worker)
          (subst (λ (list : List JournaledShard). AreAllAlike IsOutside (map (left worker) run.last.shards) list)
          (left_so worker after' run'.last run'.left last.second_worker) mapped);
      verdicts_are = answered;
      steps_are = run.ends.steps_done ∙ ap (λ (one : MachineState). one.steps) state ∙ sym run'.ends.steps_done;
      frames = run.ends.frame_left ∙ ap (λ (one : MachineState). one.frame) state ∙ sym run'.ends.frame_left;
    }

exit_alike : (program : Program) (captured captured' : Sent) (worker : ℕ) (before before' after after' : List JournaledShard) (steps steps' : ℕ)
    (fate fate' : FrameFate) → captured_of captured ≡ captured_of captured' → AreAllAlike IsOutside before before' →
    IsExitInTurn program captured worker before (Exited steps fate) after → IsExitInTurn program captured' worker before' (Exited steps' fate') after' →
    AreAllAlike IsOutside after after' × AreOneEnd (Some (Exited steps fate)) (Some (Exited steps' fate'))
exit_alike program captured captured' worker before before' after after' steps steps' fate fate' same all exit exit' =
    let one = exits_alike program (start_of captured worker) worker before before' after after' exit.verdict exit'.verdict exit.steps exit'.steps exit.frame
    exit'.frame all exit.run
    (subst (λ (start : MachineState). EndsInTurn program start worker before' after' exit'.verdict exit'.steps exit'.frame)
    (same_start captured captured' worker same) exit'.run) in (
      one.shards,
      told_once captured captured' exit.verdict exit'.verdict exit.frame exit'.frame steps steps' exit.steps exit'.steps fate fate' same
          one.verdicts_are one.steps_are one.frames exit.told exit'.told exit.counted exit'.counted,
    )

run_alike : (program : Program) (captured captured' : Sent) (worker : ℕ) (before before' after after' : List JournaledShard) (end end' : RunEnd) →
    captured_of captured ≡ captured_of captured' → AreAllAlike IsOutside before before' → Some end ≢ Some Stopped → Some end' ≢ Some Stopped →
    IsRunInTurn program captured worker before end after → IsRunInTurn program captured' worker before' end' after' →
    AreAllAlike IsOutside after after' × AreOneEnd (Some end) (Some end')
run_alike program captured captured' worker before before' after after' Stopped end' same all ended ended' run run' = absurd (ended refl)
run_alike program captured captured' worker before before' after after' (Exited steps fate) Stopped same all ended ended' run run' = absurd (ended' refl)
run_alike program captured captured' worker before before' after after' (Exited steps fate) (Exited steps' fate') same all ended ended' run run' =
    exit_alike program captured captured' worker before before' after after' steps steps' fate fate' same all run run'

pub handled_alike : (program : Program) (workers : ℕ) (captured captured' : Sent) (before before' after after' : List JournaledShard)
    (end end' : Option RunEnd) → captured_of captured ≡ captured_of captured' → AreAllAlike IsOutside before before' → end ≢ Some Stopped →
    end' ≢ Some Stopped → IsHandledInTurn program workers captured before end after → IsHandledInTurn program workers captured' before' end' after' →
    AreAllAlike IsOutside after after' × AreOneEnd end end'
handled_alike program workers captured captured' before before' after after' None None same all ended ended' passed passed' = (
  subst (λ (list : List JournaledShard). AreAllAlike IsOutside list after') (sym passed.nothing)
      (subst (λ (list : List JournaledShard). AreAllAlike IsOutside before list) (sym passed'.nothing) all),
  record { counted_alike = λ counts. refl; sent_alike = refl; noted_alike = λ number. refl },
)
handled_alike program workers captured captured' before before' after after' None (Some end) same all ended ended' passed ran =
    let tests : is_short captured.bytes.items ≡ is_short captured'.bytes.items = ap (λ (one : Captured). is_short one.bytes) same in
    absurd (not_both (is_short captured.bytes.items) passed.short (tests ∙ ran.long))
handled_alike program workers captured captured' before before' after after' (Some end) None same all ended ended' ran passed =
    let tests : is_short captured.bytes.items ≡ is_short captured'.bytes.items = ap (λ (one : Captured). is_short one.bytes) same in
    absurd (not_both (is_short captured'.bytes.items) passed.short (sym tests ∙ ran.long))
handled_alike program workers captured captured' before before' after after' (Some end) (Some end') same all ended ended' ran ran' =
    let worker : worker_of_frame captured'.bytes.items workers ≡ worker_of_frame captured.bytes.items workers =
    ap (λ (one : Captured). worker_of_frame one.bytes workers) (sym same) in
    run_alike program captured captured' (worker_of_frame captured.bytes.items workers) before before' after after' end end' same all ended ended' ran.run
    (subst (λ (number : ℕ). IsRunInTurn program captured' number before' end' after') worker ran'.run)
