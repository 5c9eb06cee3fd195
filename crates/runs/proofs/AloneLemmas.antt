-- A run over shards in which nothing had happened but updates, by the journals that are left.
use Rattle.std.proofs.Common.{◌≡◌, ℕ, ◌<◌, List, ◌++◌, length, Some, sym, ap, ◌∙◌, subst}
use Rattle.std.specs.Prelude.{Result, Ok, Err, IfOk, IfErr}
use Rattle.wire.specs.FrameView.{FrameView}
use Rattle.map_updates.specs.declared.update.MapUpdate.{MapUpdate}
use Rattle.semantics.specs.declared.call.Entry.{Entry}
use Rattle.ebpf_decode.specs.declared.map.MapDef.{MapDef}
use Rattle.semantics.specs.declared.options.Options.{Options}
use Rattle.semantics.specs.declared.plan.ShardPlan.{ShardPlan}
use Rattle.semantics.specs.ShardPlan.{plan_at}
use Rattle.semantics.specs.declared.verdict.Verdict.{Verdict}
use Rattle.semantics.specs.History.{IsLegalJournal}
use Rattle.semantics.specs.MachineState.{MachineState}
use Rattle.semantics.specs.Program.{Program}
use Rattle.shard_core.specs.JournaledShard.{JournaledShard}
use Rattle.journals.specs.JournalsView.{JournalsView, entries_at}
use Rattle.machine.specs.declared.exit.Exit.{Exit}
use Rattle.machine.specs.declared.exit.Stop.{Stop}
use Rattle.machine.specs.declared.exit.Stop.TheVariants.{JournalFull}
use Rattle.shard_port.specs.PassSessions.{session_at, AreCallsWithin}
use Rattle.shards.specs.NewShards.{shard_at}
use Rattle.runs.specs.ShardRuns.{HasMore, HasRunOver, HasStoppedOver, IsFullAfter}
use Rattle.runs.specs.Updates.{served_by, updates_at, AreUpdated}
use Rattle.runs.specs.SingleRuns.{AreLegalJournalsOf, HasRunAlone, HasStoppedAlone}

module _ (program : Program) (start : MachineState) (options : Options) (worker : ℕ) (updates : List MapUpdate) (before after : List JournaledShard)
    (journals : JournalsView) (were : AreUpdated program.maps options updates before) (maps_are : journals.maps ≡ program.maps)
    (options_are : journals.options ≡ options) (closed : length journals.shards ≡ length after)
    (entries : (number : ℕ) → number < length after → entries_at journals number ≡ (shard_at after number).journal)
    (legal : (number : ℕ) → number < length after → IsLegalJournal (shard_at after number).plan (entries_at journals number))
    (count : length after ≡ length before)
  where
    among : (number : ℕ) → number < length journals.shards → number < length after
    among number below = subst (λ (n : ℕ). number < n) closed below

    among_old : (number : ℕ) → number < length journals.shards → number < length before
    among_old number below = subst (λ (n : ℕ). number < n) (closed ∙ count) below

    are_journals : ((number : ℕ) → number < length before → (shard_at after number).plan ≡ (shard_at before number).plan) →
        AreLegalJournalsOf program.maps options journals
    are_journals same_plan = record {
      maps_are = maps_are;
      options_are = options_are;
      count = closed ∙ count ∙ were.count;
      legal = λ number below. record {
        plan = (shard_at after number).plan;
        planned = were.planned number (among_old number below) ∙ ap Some (sym (same_plan number (among_old number below)));
        legal = legal number (among number below);
      };
    }

    written_by : (number : ℕ) (own : List Entry) → number < length journals.shards → HasMore before after number own →
        entries_at journals number ≡ updates_at (served_by program.maps options) number updates ++ own
    written_by number own below more =
        entries number (among number below) ∙ ap (λ (one : JournaledShard). one.journal) more
        ∙ ap (λ (journal : List Entry). journal ++ own) (were.written number (among_old number below))

    pub run_alone_by : (verdict : Verdict) (steps : ℕ) (frame : FrameView) → HasRunOver program start worker before after verdict steps frame →
        HasRunAlone program start options worker updates verdict steps frame journals
    run_alone_by verdict steps frame ran = record {
      journals_are = are_journals (λ number below. ap (λ (one : JournaledShard). one.plan) (ran.written number below));
      exchanges = ran.exchanges;
      ended = ran.ended;
      within = subst (λ (n : ℕ). AreCallsWithin n ran.exchanges) (sym (closed ∙ count)) ran.within;
      written = λ number below. written_by number (session_at worker number ran.exchanges) below (ran.written number (among_old number below));
    }

    pub stop_alone_by : (frame : FrameView) (stop : Stop) → HasStoppedOver program start worker before after frame stop →
        HasStoppedAlone program start options worker updates frame stop journals
    stop_alone_by frame (JournalFull shard) was = record {
      journals_are = are_journals (λ number below. ap (λ (one : JournaledShard). one.plan) (was.written number below).1);
      exchanges = was.exchanges;
      refused = was.refused;
      named = was.named;
      waited = was.waited;
      within = subst (λ (n : ℕ). AreCallsWithin n was.exchanges) (sym (closed ∙ count)) was.within;
      refused_within = subst (λ (n : ℕ). shard < n) (sym (closed ∙ count)) was.refused_within;
      written = λ number below.
          let cut = was.written number (among_old number below) in
          record { own = cut.0; session = cut.2; both = written_by number cut.0 below cut.1 };
      plan = (shard_at before shard).plan;
      planned = were.planned shard was.refused_within;
      full = subst (λ (one : JournaledShard). IsFullAfter worker shard was.exchanges was.refused one (entries_at journals shard))
          (ap (λ (journal : List Entry). record { plan = (shard_at before shard).plan; journal = journal }) (were.written shard was.refused_within))
          (subst (λ (journal : List Entry). IsFullAfter worker shard was.exchanges was.refused (shard_at before shard) journal)
          (sym (entries shard (subst (λ (n : ℕ). shard < n) (sym count) was.refused_within))) was.full);
    }

-- whether the run ended or was stopped, there are as many shards as before
pub count_kept : (program : Program) (start : MachineState) (worker : ℕ) (before after : List JournaledShard) (frame : FrameView)
    (result : Result Exit Stop) → IfOk result (λ exit. HasRunOver program start worker before after exit.verdict exit.steps frame) →
    IfErr result (HasStoppedOver program start worker before after frame) → length after ≡ length before
count_kept program start worker before after frame (Ok exit) ran was = ran.count
count_kept program start worker before after frame (Err (JournalFull shard)) ran was = was.count

-- and each has the plan that it had before
planned_at : (maps : List MapDef) (options : Options) (updates : List MapUpdate) (before after : List JournaledShard) → AreUpdated maps options updates before →
    (number : ℕ) → number < length before → (shard_at after number).plan ≡ (shard_at before number).plan →
    plan_at maps options number ≡ Some (shard_at after number).plan
planned_at maps options updates before after were number below same =
    were.planned number below ∙ ap (λ (p : ShardPlan). Some p) (sym same)

pub plans_kept : (program : Program) (start : MachineState) (options : Options) (worker : ℕ) (updates : List MapUpdate) (maps : List MapDef) (before after : List JournaledShard)
    (frame : FrameView) (result : Result Exit Stop) → AreUpdated maps options updates before →
    IfOk result (λ exit. HasRunOver program start worker before after exit.verdict exit.steps frame) →
    IfErr result (HasStoppedOver program start worker before after frame) → (number : ℕ) → number < length after →
    plan_at maps options number ≡ Some (shard_at after number).plan
plans_kept program start options worker updates maps before after frame (Ok exit) were ran was number below =
    let there : number < length before = subst (λ (n : ℕ). number < n) ran.count below in
    planned_at maps options updates before after were number there (ap (λ (one : JournaledShard). one.plan) (ran.written number there))
plans_kept program start options worker updates maps before after frame (Err (JournalFull shard)) were ran was number below =
    let there : number < length before = subst (λ (n : ℕ). number < n) was.count below in
    planned_at maps options updates before after were number there (ap (λ (one : JournaledShard). one.plan) (was.written number there).1)
