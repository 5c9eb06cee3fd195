-- What `run_alone` is asked where it returns, and what it then ensures, said of the system.
use Rattle.std.proofs.Common.{◌≡◌, ◌⊎◌, inl, inr, ⊎_elim, ◌↔◌, ℕ, ◌<◌, ◌≤◌, ◌^◌, Bool, true, false, List, refl, ◌∙◌, ap, subst}
use Rattle.std.specs.Prelude.{Result, Ok, Err, IfOk, IfErr, IsErrOf, IsFalse}
use Rattle.std.proofs.lemmas.Bool.{cases_lt}
use Rattle.std.proofs.lemmas.Result.{IfOk-weaker, IfErr-weaker}
use Rattle.wire.specs.FrameView.{FrameView}
use Rattle.map_rules.specs.declared.open_fault.OpenFault.TheVariants.{BadOptions}
use Rattle.map_updates.specs.Misfits.{AreFitting}
use Rattle.map_updates.specs.declared.update.MapUpdate.{MapUpdate}
use Rattle.semantics.specs.declared.options.Options.{Options}
use Rattle.semantics.specs.Events.{Exited}
use Rattle.semantics.specs.MachineState.{initial_state}
use Rattle.semantics.specs.ShardPlan.{AreServedOptions, are_served_options}
use Rattle.semantics.specs.System.{IsInputFrame, input_frame}
use Rattle.verifier.specs.Verified.{Verified}
use Rattle.machine.specs.Running.{program_of}
use Rattle.runs.specs.SingleRuns.{HasRunAlone, HasStoppedAlone}
use Rattle.runs.specs.declared.alone.SingleRun.{SingleRun}
use Rattle.runs.specs.declared.fault.RunFault.{RunFault}
use Rattle.runs.specs.declared.fault.RunFault.TheVariants.{Open}
use Rattle.guarantees.specs.RunsAlone.{ending_at, IsAskedAlone, IsAloneInSystem, RunsAloneAreOfTheSystem, StoppedRunsAloneAreOfTheSystem}
use Rattle.guarantees.specs.SystemRuns.{setting_of}

is_served : (X : Type 0) (test : Bool) → (IsFalse test ⊎ X → ⊥) → test ≡ true
is_served X true neither = refl
is_served X false neither = absurd (neither (inl refl))

ok_is_no_err : (single : SingleRun) (why : RunFault) → Ok single ≡ Err why → ⊥
ok_is_no_err single why is = absurd cc

module _ (verified : Verified) (options : Options) (worker now : ℕ) (frame : FrameView) (updates : List MapUpdate) (fits : Bool)
    (served : fits ≡ are_served_options verified.maps options) (allowed : (fits ≡ true) ↔ AreServedOptions verified.maps options)
    (room : frame.headroom ≡ 256) (input : IsInputFrame frame.bytes) (early : now < 2 ^ 64) (fit : AreFitting verified.maps updates) where
  -- where no options were refused
  asked : (IsFalse (are_served_options verified.maps options) ⊎ (options.workers ≤ worker) → ⊥) →
      IsAskedAlone (setting_of verified options) worker now frame.bytes updates
  asked neither = record {
    options = (allowed.0 (served ∙ is_served (options.workers ≤ worker) (are_served_options verified.maps options) neither)).fit;
    few = ⊎_elim (λ (below : worker < options.workers). below) (λ (past : options.workers ≤ worker). absurd (neither (inr past)))
        (cases_lt worker options.workers);
    input = input;
    early = early;
    fit = fit;
  }

  same_frame : frame ≡ input_frame frame.bytes
  same_frame = ap (λ (headroom : ℕ). record { bytes = frame.bytes; headroom = headroom }) room

  pub ended_in_system : RunsAloneAreOfTheSystem → (left : FrameView) (result : Result SingleRun RunFault) →
      (IsErrOf result (Open BadOptions) ↔ (IsFalse (are_served_options verified.maps options) ⊎ (options.workers ≤ worker))) →
      IfOk result (λ single. IfOk single.ended (λ exit. HasRunAlone (program_of verified options.shards) (initial_state frame worker now) options worker
      updates exit.verdict exit.steps left single.journals)) →
      IfOk result (λ single. IfOk single.ended (λ exit. IsAloneInSystem (setting_of verified options) worker now frame.bytes updates
      (Exited exit.verdict left.bytes exit.steps) single.journals))
  ended_in_system law left (Err why) bad ran = tt
  ended_in_system law left (Ok single) bad ran = IfOk-weaker single.ended _ _
      (λ exit one. law (setting_of verified options) worker now frame.bytes updates exit.verdict exit.steps left single.journals
      (asked (λ broken. ok_is_no_err single (Open BadOptions) (bad.1 broken)))
      (subst (λ (start : FrameView). HasRunAlone (program_of verified options.shards) (initial_state start worker now) options worker updates
      exit.verdict exit.steps left single.journals) same_frame one))
      ran

  pub stopped_in_system : StoppedRunsAloneAreOfTheSystem → (left : FrameView) (result : Result SingleRun RunFault) →
      (IsErrOf result (Open BadOptions) ↔ (IsFalse (are_served_options verified.maps options) ⊎ (options.workers ≤ worker))) →
      IfOk result (λ single. IfErr single.ended (λ stop. HasStoppedAlone (program_of verified options.shards) (initial_state frame worker now) options
      worker updates left stop single.journals)) →
      IfOk result (λ single. IfErr single.ended (λ stop. IsAloneInSystem (setting_of verified options) worker now frame.bytes updates
      (ending_at stop) single.journals))
  stopped_in_system law left (Err why) bad was = tt
  stopped_in_system law left (Ok single) bad was = IfErr-weaker single.ended _ _
      (λ stop one. law (setting_of verified options) worker now frame.bytes updates left stop single.journals
      (asked (λ broken. ok_is_no_err single (Open BadOptions) (bad.1 broken)))
      (subst (λ (start : FrameView). HasStoppedAlone (program_of verified options.shards) (initial_state start worker now) options worker updates
      left stop single.journals) same_frame one))
      was
