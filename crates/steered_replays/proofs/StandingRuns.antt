-- What a run of a replay asked and was answered stands in the journals, among the entries of its worker's other runs.
use Rattle.std.proofs.Common.{◌≡◌, ◌⊎◌, inl, inr, ℕ, zero, suc, ◌<◌, List, [], ◌∷◌, ◌++◌, length, sym, ◌∙◌, ap, subst, append_assoc}
use Rattle.std.specs.Prelude.{reverse, Option, Some, None, slice_get}
use Rattle.wire.specs.FrameView.{FrameView}
use Rattle.wire.specs.declared.records.Sent.{Sent}
use Rattle.semantics.specs.declared.call.Call.{Call}
use Rattle.semantics.specs.declared.call.Caller.TheVariants.{Worker}
use Rattle.semantics.specs.declared.call.Entry.{Entry}
use Rattle.semantics.specs.declared.plan.ShardPlan.{ShardPlan}
use Rattle.semantics.specs.CallerLaws.{own_entries}
use Rattle.semantics.specs.Program.{Program}
use Rattle.map_port.specs.Exchanges.{Exchange}
use Rattle.machine.specs.declared.exit.Stop.{Stop}
use Rattle.machine.specs.declared.exit.Stop.TheVariants.{JournalFull}
use Rattle.journals.specs.JournalsView.{JournalsView, entries_at}
use Rattle.shards.specs.declared.deeds.Deed.{Deed}
use Rattle.shards.specs.Passes.{PassView, own_at}
use Rattle.shard_port.specs.Asking.{enter_by, leave_by}
use Rattle.shard_port.specs.PassSessions.{IsVisitedAt, session_at}
use Rattle.actors.specs.declared.runner.Ran.{Ran}
use Rattle.actors.specs.declared.runner.RunEnd.{RunEnd}
use Rattle.actors.specs.declared.runner.RunEnd.TheVariants.{Stopped, Exited}
use Rattle.actors.specs.Accounted.{IsWorkOf, RunInPlace, runs_in_chain, runs_in_work}
use Rattle.actors.specs.Accounts.{runs_at, fate_of}
use Rattle.actors.specs.RunsInOrder.{IsRunAt, IsChainOfRuns}
use Rattle.actors.specs.RunsOverShards.{StopsFor, IsRunIn}
use Rattle.actors.specs.Shares.{frames_of, share, worker_of_frame}
use Rattle.steered_replays.specs.SteeredRuns.{IsFateIn}
use Rattle.steered_replays.specs.SteeredRuns.{StandsIfEnded, FateStands, FatesStand}

-- the own entries of a later pass on a shard are some more than those of an earlier one
abbrev Grows : ℕ → PassView → PassView → Type 0
Grows number before after = (newer : List Entry) × (own_at after number ≡ newer ++ own_at before number)

grows_on : (number : ℕ) (before middle after : PassView) → Grows number before middle → Grows number middle after → Grows number before after
grows_on number before middle after first later = (
  later.0 ++ first.0,
  later.1 ∙ ap (λ (own : List Entry). later.0 ++ own) first.1 ∙ sym (append_assoc later.0 first.0 (own_at before number)),
)

module _ (plan : ℕ → ShardPlan) (count : ℕ) (program : Program) (worker : ℕ) (journals : JournalsView) (records : List Sent) (number : ℕ)
    (within : number < count) where
  abbrev IsRun : PassView → Ran → PassView → Type 0
  IsRun = IsRunAt (IsRunIn plan count program worker journals) records

  visited_or_not : (exchanges : List Exchange) (refused : Call) (before after : PassView) →
      (own_at after number ≡ reverse (session_at worker number exchanges) ++ own_at before number)
      ⊎ IsVisitedAt worker exchanges refused number (own_at before number) (own_at after number) → Grows number before after
  visited_or_not exchanges refused before after (inl written) = (reverse (session_at worker number exchanges), written)
  visited_or_not exchanges refused before after (inr visited) = (leave_by worker number ∷ enter_by worker number ∷ [], visited.written)

  stop_grows : (captured : Sent) (before after : PassView) (frame : FrameView) (stop : Stop) →
      StopsFor plan count program worker journals captured before after frame stop → Grows number before after
  stop_grows captured before after frame (JournalFull shard) stops =
      let was = stops.0 in visited_or_not was.exchanges was.refused before after (was.sessions.written number within)

  run_grows : (captured : Sent) (before : PassView) (end : RunEnd) (after : PassView) →
      IsRunIn plan count program worker journals captured before end after → Grows number before after
  run_grows captured before Stopped after run = stop_grows captured before after run.frame run.stop run.run
  run_grows captured before (Exited steps fate) after run =
      (reverse (session_at worker number run.run.exchanges), run.run.sessions.written number within)

  chain_grows : (before : PassView) (runs : List Ran) (after : PassView) → IsChainOfRuns IsRun before runs after → Grows number before after
  chain_grows before [] after chain = ([], ap (λ (pass : PassView). own_at pass number) (sym chain))
  chain_grows before (ran ∷ later) after chain =
      grows_on number before chain.0 after (run_grows chain.1.sent before ran.end chain.0 chain.1.run) (chain_grows chain.0 later after chain.2)

  grows_behind : (before : PassView) (runs : List Ran) (after : PassView) (chain : IsChainOfRuns IsRun before runs after) (place : ℕ) (one : RunInPlace IsRun) →
      slice_get (runs_in_chain IsRun before runs after chain) place ≡ Some one → Grows number one.after after
  grows_behind before [] after chain place one there = absurd cc
  grows_behind before (ran ∷ later) after chain zero one there =
      let same : (record { before = before; ran = ran; after = chain.0; run = chain.1 }) ≡ one = cc there in
      subst (λ (o : RunInPlace IsRun). Grows number o.after after) same (chain_grows chain.0 later after chain.2)
  grows_behind before (ran ∷ later) after chain (suc place) one there = grows_behind chain.0 later after chain.2 place one there

module _ (plan : ℕ → ShardPlan) (count : ℕ) (program : Program) (worker : ℕ) (journals : JournalsView) where
  -- the own entries of a pass on each shard are the oldest in the journals
  abbrev IsOldest : PassView → Type 0
  IsOldest pass =
      (number : ℕ) → number < count → (newer : List Entry) × (own_entries (Worker worker) (reverse (entries_at journals number)) ≡ newer ++ own_at pass number)

  stands_if_ended : (captured : Sent) (before : PassView) (end : RunEnd) (after : PassView)
      (run : IsRunIn plan count program worker journals captured before end after) →
      IsOldest after → StandsIfEnded plan count program worker journals captured before end after run
  stands_if_ended captured before Stopped after run oldest = tt
  stands_if_ended captured before (Exited steps fate) after run oldest = λ number within.
      let newer = oldest number within in
      record {
        newer = newer.0;
        own_are = newer.1 ∙ ap (λ (own : List Entry). newer.0 ++ own) (run.run.sessions.written number within);
      }

  fate_stands : (records : List Sent) (shared : List ℕ) (runs : List Ran) (order : List Deed)
      (work : IsWorkOf (IsRunAt (IsRunIn plan count program worker journals) records) shared worker runs count journals order) (place number : ℕ) (captured : Sent)
      (fate : Option RunEnd) (is : IsFateIn (runs_in_work work) place number captured fate) →
      FateStands plan count program worker journals records (runs_in_work work) place number captured fate is
  fate_stands records shared runs order work place number captured None is = tt
  fate_stands records shared runs order work place number captured (Some end) is =
      stands_if_ended is.one.run.sent is.one.before is.one.ran.end is.one.after is.one.run.run
      (λ shard within.
      let newer = grows_behind plan count program worker journals records shard within work.handled.before runs work.after work.handled.chain place is.one is.in_place in
      (newer.0, sym (work.own shard within) ∙ newer.1))

pub fates_stand : FatesStand
fates_stand size program script options records outcome accounted steered number captured known =
    let worker : ℕ = worker_of_frame captured.bytes.items options.workers in
    let fate = steered.fates number captured known in
    fate_stands accounted.plan accounted.count program worker outcome.journals records
    (share (frames_of records) options.workers worker (length records)) (runs_at accounted.runs worker) accounted.order (accounted.work worker fate.0)
    (length (share (frames_of records) options.workers worker number)) number captured (fate_of (frames_of records) options.workers accounted.runs number) fate.1
