-- The account of a replay.
use Rattle.std.proofs.Common.{◌≡◌, ◌⊎◌, ℕ, zero, suc, ◌<◌, List, [], ◌∷◌, ◌++◌, length, refl, sym, ap, ◌∙◌, subst, arith, inl, inr, append_assoc}
use Rattle.std.specs.Prelude.{reverse, map, Vec}
use Rattle.std.specs.declared.alloc.Global.{Global}
use mathlib.Core.Option.{some, some-injective, some-ne-none}
use lib.ListN.{get_elem?}
use Rattle.wire.specs.declared.records.Sent.{Sent}
use Rattle.wire.specs.FrameView.{FrameView}
use Rattle.semantics.specs.declared.call.Call.{Call}
use Rattle.semantics.specs.declared.call.Call.TheVariants.{Enter}
use Rattle.semantics.specs.declared.call.Caller.{Caller}
use Rattle.semantics.specs.declared.call.Caller.TheVariants.{Worker}
use Rattle.semantics.specs.declared.call.Entry.{Entry}
use Rattle.semantics.specs.Reclamation.{is_inside}
use Rattle.semantics.specs.History.{shard_of_call, IsJournalFull}
use Rattle.semantics.specs.declared.options.Options.{Options}
use Rattle.semantics.specs.declared.plan.ShardPlan.{ShardPlan}
use Rattle.semantics.specs.CallerLaws.{own_entries}
use Rattle.semantics.specs.Program.{Program}
use Rattle.machine.specs.declared.exit.Stop.{Stop}
use Rattle.machine.specs.declared.exit.Stop.TheVariants.{JournalFull}
use Rattle.runs.specs.FrameRuns.{HasStopped}
use Rattle.shards.specs.CallerView.{CallerView, BeginsWith}
use Rattle.journals.specs.JournalsView.{JournalsView, entries_at}
use Rattle.shards.specs.Passes.{PassView, seen_at, pass_at, AreSettled}
use Rattle.shard_port.specs.PassSessions.{StoppedAtCall, StoppedAtEnter}
use Rattle.actors.proofs.shared.FullStays.{full_stays}
use Rattle.guarantees.specs.TurnByTurn.{TurnDeeds, AreDeedsOfRuns}
use Rattle.actors.specs.declared.account.Counts.{Counts}
use Rattle.replay.specs.declared.crew.Handled.{Handled}
use Rattle.actors.specs.declared.runner.Ran.{Ran}
use Rattle.actors.specs.declared.runner.RunEnd.{RunEnd}
use Rattle.actors.specs.declared.runner.RunEnd.TheVariants.{Stopped, Exited}
use Rattle.actors.specs.Accounts.{runs_at, AreRunsOfShares}
use Rattle.semantics.specs.Each.{Each}
use Rattle.replay.specs.Crews.{IsHandled, IsPart}
use Rattle.replay.specs.LastRound.{IsWorkerDoneIn}
use Rattle.replay.proofs.LastRound.{nothing_later}
use Rattle.actors.specs.RunsInOrder.{IsRunAt, IsChainOfRuns, HasHandled}
use Rattle.actors.specs.Shares.{frames_of, share}
use Rattle.actors.specs.RunJobs.{records_of}
use Rattle.actors.specs.declared.outcome.Outcome.{Outcome}
use Rattle.actors.specs.declared.outcome.ToldEnd.{ToldEnd}
use Rattle.actors.specs.declared.worker.Working.{Working}
use Rattle.actors.specs.RunsOverShards.{IsNewPass, IsNewAt, IsIdle, IsRunOf, IsRunBy, IsRunIn, IsExit, StopsFor, IsFullAtEnd, pass_in, start_of}
use Rattle.shards.specs.declared.deeds.Deed.{Deed}
use Rattle.shards.specs.declared.deeds.OrderPart.TheVariants.{ByCaller}
use Rattle.shards.specs.Deeds.{deeds_of}
use Rattle.actors.specs.Accounted.{IsWorkOf}

-- ---- an outcome by its parts

pub outcome_is : (outcome : Outcome) (counts : Counts) (sent : Vec Sent Global) (ends : Vec ToldEnd Global) (journals : JournalsView) → outcome.counts ≡ counts
    → outcome.sent ≡ sent → outcome.ends ≡ ends → outcome.journals ≡ journals
    → outcome ≡ record { counts = counts; updates = outcome.updates; refused = outcome.refused; sent = sent; ends = ends; journals = journals }
outcome_is outcome counts sent ends journals of_counts of_sent of_ends of_journals =
    λ i. record { counts = of_counts i; updates = outcome.updates; refused = outcome.refused; sent = of_sent i; ends = of_ends i; journals = of_journals i }

-- ---- histories that begin with others

pub begins_trans : (a b c : List Entry) → BeginsWith a b → BeginsWith b c → BeginsWith a c
begins_trans a b c ab bc = (ab.0 ++ bc.0, ab.1 ∙ ap (λ (l : List Entry). ab.0 ++ l) bc.1 ∙ sym (append_assoc ab.0 bc.0 c))

pub full_later : (plan : ShardPlan) (history earlier : List Entry) (call : Call) → BeginsWith history earlier → IsJournalFull plan earlier call →
    IsJournalFull plan history call
full_later plan history earlier call begins full =
    subst (λ (l : List Entry). IsJournalFull plan l call) (sym begins.1) (full_stays plan begins.0 earlier call full)

-- what is seen on each of N shards begins with what was seen before
abbrev Grows : ℕ → PassView → PassView → Type 0
Grows count before after = (number : ℕ) → number < count → BeginsWith (seen_at after number) (seen_at before number)

-- ---- a run keeps its caller, and what is seen grows

record Goes (count : ℕ) (before after : PassView) : Type 0 where
  who : after.who ≡ before.who
  grows : Grows count before after

stop_goes : (program : Program) (plan : ℕ → ShardPlan) (count worker : ℕ) (captured : Sent) (before after : PassView) (frame : FrameView) (stop : Stop)
    → HasStopped program (start_of captured worker) plan count worker before after frame stop → Goes count before after
stop_goes program plan count worker captured before after frame (JournalFull shard) was =
    record { who = was.sessions.same_caller; grows = was.sessions.seen_on }

exit_goes : (count : ℕ) (program : Program) (worker : ℕ) (captured : Sent) (before : PassView) (end : RunEnd) (after : PassView)
    → IsExit count program worker captured before end after → Goes count before after
exit_goes count program worker captured before end after exit =
    record { who = exit.run.sessions.same_caller; grows = exit.run.sessions.seen_on }

run_goes : (count : ℕ) (plan : ℕ → ShardPlan) (program : Program) (worker : ℕ) (captured : Sent) (before : PassView) (end : RunEnd) (after : PassView)
    → IsRunOf count plan program worker captured before end after → Goes count before after
run_goes count plan program worker captured before Stopped after run = stop_goes program plan count worker captured before after run.frame run.stop run.run
run_goes count plan program worker captured before (Exited steps fate) after run = exit_goes count program worker captured before (Exited steps fate) after run

-- ---- a run, held against the journals that began with what was seen after it

-- each journal begins with what was seen
abbrev IsSeenOf : ℕ → JournalsView → PassView → Type 0
IsSeenOf count journals pass = (number : ℕ) → number < count → BeginsWith (reverse (entries_at journals number)) (seen_at pass number)

stop_stands : (plan : ℕ → ShardPlan) (count : ℕ) (program : Program) (worker : ℕ) (journals : JournalsView) (captured : Sent) (before after : PassView)
    (frame : FrameView) (stop : Stop) → IsSeenOf count journals after →
    HasStopped program (start_of captured worker) plan count worker before after frame stop →
    StopsFor plan count program worker journals captured before after frame stop
stop_stands plan count program worker journals captured before after frame (JournalFull shard) seen was =
    let sessions = was.sessions in
    let at = shard_of_call was.refused in
    let begins : BeginsWith (reverse (entries_at journals at)) sessions.full_at =
    begins_trans (reverse (entries_at journals at)) (seen_at after at) sessions.full_at (seen at sessions.refused_within) sessions.full_seen in
    (was, by_case sessions.full_at begins sessions.full)
  where
    by_case : (full_at : List Entry) → BeginsWith (reverse (entries_at journals (shard_of_call was.refused))) full_at →
        (StoppedAtCall (plan (shard_of_call was.refused)) full_at count worker was.exchanges was.refused before after
        ⊎ StoppedAtEnter (plan (shard_of_call was.refused)) full_at count worker was.exchanges was.refused before after)
        → IsFullAtEnd plan journals before after was.refused
    by_case full_at begins (inl full) =
        inl (full_later (plan (shard_of_call was.refused)) (reverse (entries_at journals (shard_of_call was.refused))) full_at was.refused begins full.full)
    by_case full_at begins (inr full) =
        inr (full.kept_out.nothing, full_later (plan (shard_of_call was.refused)) (reverse (entries_at journals (shard_of_call was.refused))) full_at (Enter (shard_of_call was.refused)) begins full.kept_out.full)

run_stands : (plan : ℕ → ShardPlan) (count : ℕ) (program : Program) (worker : ℕ) (journals : JournalsView) (captured : Sent) (before : PassView)
    (end : RunEnd) (after : PassView) → IsSeenOf count journals after → IsRunOf count plan program worker captured before end after →
    IsRunIn plan count program worker journals captured before end after
run_stands plan count program worker journals captured before Stopped after seen run = record {
  frame = run.frame;
  stop = run.stop;
  run = stop_stands plan count program worker journals captured before after run.frame run.stop seen run.run;
}
run_stands plan count program worker journals captured before (Exited steps fate) after seen run = run

-- ---- run after run

module _ (count : ℕ) (plan : ℕ → ShardPlan) (program : Program) (worker : ℕ) (records : List Sent) where
  abbrev AreRuns : PassView → List Ran → PassView → Type 0
  AreRuns = IsChainOfRuns (IsRunAt (IsRunOf count plan program worker) records)

  -- by what the worker keeps, and by its passes
  chain_of_passes : {B : Type 0} (before : Working B) (runs : List Ran) (after : Working B) →
      IsChainOfRuns (IsRunAt (IsRunBy count plan program worker) records) before runs after → AreRuns (pass_in before) runs (pass_in after)
  chain_of_passes before [] after chain = ap pass_in chain
  chain_of_passes before (ran ∷ later) after chain =
      (pass_in chain.0, record { sent = chain.1.sent; known = chain.1.known; run = chain.1.run }, chain_of_passes chain.0 later after chain.2)

  chain_goes : (before : PassView) (runs : List Ran) (after : PassView) → AreRuns before runs after → Goes count before after
  chain_goes before [] after chain = record {
    who = ap (λ (p : PassView). p.who) (sym chain);
    grows = λ number within. ([], ap (λ (p : PassView). seen_at p number) (sym chain));
  }
  chain_goes before (ran ∷ later) after chain =
      let first = run_goes count plan program worker chain.1.sent before ran.end chain.0 chain.1.run in
      let rest = chain_goes chain.0 later after chain.2 in
      record {
        who = rest.who ∙ first.who;
        grows = λ number within. begins_trans (seen_at after number) (seen_at chain.0 number) (seen_at before number) (rest.grows number within) (first.grows number within);
      }

  pub chain_stands : (journals : JournalsView) (before : PassView) (runs : List Ran) (after : PassView) → IsSeenOf count journals after →
      AreRuns before runs after → IsChainOfRuns (IsRunAt (IsRunIn plan count program worker journals) records) before runs after
  chain_stands journals before [] after seen chain = chain
  chain_stands journals before (ran ∷ later) after seen chain =
      let rest = chain_goes chain.0 later after chain.2 in
      let middle : IsSeenOf count journals chain.0 =
      λ number within. begins_trans (reverse (entries_at journals number)) (seen_at after number) (seen_at chain.0 number) (seen number within) (rest.grows number within) in (
        chain.0,
        record {
          sent = chain.1.sent;
          known = chain.1.known;
          run = run_stands plan count program worker journals chain.1.sent before ran.end chain.0 middle chain.1.run;
        },
        chain_stands journals chain.0 later after seen chain.2,
      )

  -- what was done in each run is the same
  pub same_middles : (journals : JournalsView) (before : PassView) (runs : List Ran) (after : PassView) → (seen : IsSeenOf count journals after) →
      (chain : AreRuns before runs after) (parts : List TurnDeeds) → AreDeedsOfRuns (IsRunAt (IsRunOf count plan program worker) records) before runs after chain parts →
      AreDeedsOfRuns (IsRunAt (IsRunIn plan count program worker journals) records) before runs after (chain_stands journals before runs after seen chain) parts
  unfolding chain_stands
  same_middles journals before [] after seen chain [] are = tt
  same_middles journals before [] after seen chain (one ∷ parts) are = absurd are
  same_middles journals before (ran ∷ later) after seen chain [] are = absurd are
  same_middles journals before (ran ∷ later) after seen chain (one ∷ parts) are =
      (are.0, are.1, same_middles journals chain.0 later after seen chain.2 parts are.2)

-- ---- a worker before its first run

pub new_is_idle : (count worker : ℕ) (options : Options) (pass : PassView) → worker < options.workers → IsNewPass worker pass → IsIdle count worker options pass
new_is_idle count worker options pass below is_new = record {
  who = is_new.who;
  below = below;
  outside = λ number within. ap (λ (v : CallerView). is_inside worker v.own) (is_new.nothing number);
}

-- ---- lists

module _ {A : Type 0} where
  found : (l : List A) (place : ℕ) → place < length l → (x : A) × (get_elem? l place ≡ some x)
  found [] place below = absurd (omega arith)
  found (x ∷ xs) zero below = (x, refl)
  found (x ∷ xs) (suc place) below = found xs place (omega arith)

  here : (P : ℕ → A → Type 0) (l : List A) (place : ℕ) (x : A) → Each P 0 l → get_elem? l place ≡ some x → P place x
  here P l place x each there = subst (λ n. P n x) (omega arith) (each place x there)

-- the pass of the worker at a place
pass_there : {B : Type 0} (working : List (Working B)) (j : ℕ) (x : Working B) → get_elem? working j ≡ some x → pass_in x ≡ pass_at (map pass_in working) j
pass_there [] j x e = absurd (some-ne-none x (sym e))
pass_there (y ∷ ys) zero x e = ap pass_in (sym (some-injective y x e))
pass_there (y ∷ ys) (suc j) x e = pass_there ys j x e

-- ---- the workers

-- the pass's deeds are its caller's in the one order
abbrev pub IsOwnIn : List Deed → PassView → Type 0
IsOwnIn order pass = pass.deeds ≡ deeds_of (ByCaller pass.who) order

module _ {B : Type 0} (count : ℕ) (plan : ℕ → ShardPlan) (program : Program) (records : List Sent) (workers : ℕ) where
  abbrev IsDone : ℕ → Handled (Working B) → Type 0
  IsDone = IsHandled IsNewAt (IsRunBy count plan program) records workers

  pub shares : (handled : List (Handled (Working B))) (lists : List (List Ran)) (states : List (Working B)) → length handled ≡ workers
      → Each IsDone 0 handled → Each (IsPart lists states) 0 handled → AreRunsOfShares (frames_of records) workers (length records) lists
  shares handled lists states all done parts worker below =
      let it = found handled worker (omega (arith, all, below)) in
      let part = here (IsPart lists states) handled worker it.0 parts it.1 in
      ap records_of part.runs ∙ (here IsDone handled worker it.0 done it.1).records_are

  pub work : (handled : List (Handled (Working B))) (lists : List (List Ran)) (states : List (Working B)) (passes : List PassView) (journals : JournalsView)
      (order : List Deed) → length handled ≡ workers → Each IsDone 0 handled → Each (IsPart lists states) 0 handled
      → ((worker : ℕ) → worker < workers → pass_at passes worker ≡ pass_at (map pass_in states) worker)
      → ((worker : ℕ) → worker < workers → AreSettled count journals (pass_at passes worker))
      → ((worker : ℕ) → worker < workers → IsOwnIn order (pass_at passes worker))
      → (worker : ℕ) → worker < workers → IsWorkOf (IsRunAt (IsRunIn plan count program worker journals) records)
      (share (frames_of records) workers worker (length records)) worker (runs_at lists worker) count journals order
  work handled lists states passes journals order all done parts same settled owned worker below =
      let it = found handled worker (omega (arith, all, below)) in
      let part = here (IsPart lists states) handled worker it.0 parts it.1 in
      let one = here IsDone handled worker it.0 done it.1 in
      let after : PassView = pass_in it.0.state in
      let before : PassView = pass_in one.before in
      let pass_is : after ≡ pass_at passes worker = pass_there states worker it.0.state part.state ∙ sym (same worker below) in
      let chain = chain_of_passes count plan program worker records one.before it.0.runs.items it.0.state one.chain in
      let goes = chain_goes count plan program worker records before it.0.runs.items after chain in
      let who : after.who ≡ Worker worker = goes.who ∙ one.is_new.who in
      let ended : AreSettled count journals after = subst (λ (p : PassView). AreSettled count journals p) (sym pass_is) (settled worker below) in
      let stands = chain_stands count plan program worker records journals before it.0.runs.items after (λ number within. (ended number within).begins) chain in
      let did : HasHandled (IsNewPass worker) (IsRunAt (IsRunIn plan count program worker journals) records)
      (share (frames_of records) workers worker (length records)) it.0.runs.items after =
      record { records_are = one.records_are; before = before; is_new = one.is_new; chain = stands } in
      record {
        after = after;
        handled = subst (λ (l : List Ran). HasHandled (IsNewPass worker) (IsRunAt (IsRunIn plan count program worker journals) records)
            (share (frames_of records) workers worker (length records)) l after)
            (sym part.runs) did;
        own = λ number within. (ended number within).own ∙ ap (λ (c : Caller). own_entries c (reverse (entries_at journals number))) who;
        did = subst (IsOwnIn order) (sym pass_is) (owned worker below) ∙ ap (λ (c : Caller). deeds_of (ByCaller c) order) who;
      }

  -- what they did is all in a beginning of the order
  pub no_work_later : (handled : List (Handled (Working B))) (lists : List (List Ran)) (states : List (Working B)) (passes : List PassView)
      (order later last : List Deed) → length handled ≡ workers → Each IsDone 0 handled → Each (IsPart lists states) 0 handled
      → ((worker : ℕ) → worker < workers → pass_at passes worker ≡ pass_at (map pass_in states) worker)
      → ((worker : ℕ) → worker < workers → IsOwnIn order (pass_at passes worker)) → Each (IsWorkerDoneIn last) 0 handled → order ≡ later ++ last
      → (worker : ℕ) → worker < workers → deeds_of (ByCaller (Worker worker)) later ≡ []
  no_work_later handled lists states passes order later last all done parts same owned in_last is worker below =
      let it = found handled worker (omega (arith, all, below)) in
      let part = here (IsPart lists states) handled worker it.0 parts it.1 in
      let one = here IsDone handled worker it.0 done it.1 in
      let after : PassView = pass_in it.0.state in
      let before : PassView = pass_in one.before in
      let pass_is : after ≡ pass_at passes worker = pass_there states worker it.0.state part.state ∙ sym (same worker below) in
      let chain = chain_of_passes count plan program worker records one.before it.0.runs.items it.0.state one.chain in
      let who : after.who ≡ Worker worker = (chain_goes count plan program worker records before it.0.runs.items after chain).who ∙ one.is_new.who in
      subst (λ (c : Caller). deeds_of (ByCaller c) later ≡ []) who
      (nothing_later order later last after is (here (IsWorkerDoneIn last) handled worker it.0 in_last it.1)
      (subst (IsOwnIn order) (sym pass_is) (owned worker below)))
