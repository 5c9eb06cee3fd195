-- The runs of a worker: one more, and the end.
use Rattle.std.proofs.Common.{◌≡◌, ℕ, List, [], ◌∷◌, ◌++◌, refl, sym, ap, ◌∙◌, subst}
use Rattle.std.specs.List.{AllByRecursion}
use Rattle.rx_queues.specs.declared.job.Job.{Job}
use Rattle.rx_queues.specs.declared.job.Job.TheVariants.{Frame, End}
use Rattle.shards.specs.Passes.{PassView}
use Rattle.actors.specs.declared.runner.Ran.{Ran}
use Rattle.actors.specs.Accounted.{RunInPlace, runs_in_chain}
use Rattle.actors.specs.RunJobs.{jobs_of, records_of}
use Rattle.actors.specs.RunsInOrder.{IsChainOfRuns, IsOneMore, HasWorked}

-- the jobs that were taken so far are those of the runs
pub record HasRunSoFar {S : Type 0} (IsNew : S → Type 0) (IsRun : S → Ran → S → Type 0) (taken : List Job) (runs : List Ran) (after : S) : Type 0
  where
    pub jobs : taken ≡ jobs_of runs
    pub before : S
    pub is_new : IsNew before
    pub chain : IsChainOfRuns IsRun before runs after

pub none_run : {S : Type 0} (IsNew : S → Type 0) (IsRun : S → Ran → S → Type 0) (taken : List Job) (runs : List Ran) (state : S)
    → IsNew state → taken ≡ [] → runs ≡ [] → HasRunSoFar IsNew IsRun taken runs state
none_run {S} IsNew IsRun taken runs state is_new nothing empty = record {
  jobs = nothing ∙ ap jobs_of (sym empty);
  before = state;
  is_new = is_new;
  chain = subst (λ (list : List Ran). IsChainOfRuns IsRun state list state) (sym empty) refl;
}

jobs_push : (runs : List Ran) (ran : Ran) → jobs_of (runs ++ ran ∷ []) ≡ jobs_of runs ++ Frame ran.number ∷ []
jobs_push [] ran = refl
jobs_push (first ∷ later) ran = ap (λ jobs. Frame first.number ∷ jobs) (jobs_push later ran)

chain_push : {S : Type 0} (IsRun : S → Ran → S → Type 0) (before middle after : S) (runs : List Ran) (ran : Ran)
    → IsChainOfRuns IsRun before runs middle → IsRun middle ran after → IsChainOfRuns IsRun before (runs ++ ran ∷ []) after
chain_push {S} IsRun before middle after [] ran chain run = (after, subst (λ (s : S). IsRun s ran after) (sym chain) run, refl)
chain_push IsRun before middle after (first ∷ later) ran chain run =
    (chain.0, chain.1, chain_push IsRun chain.0 middle after later ran chain.2 run)

pub one_run : {S : Type 0} (IsNew : S → Type 0) (IsRun : S → Ran → S → Type 0) (taken now : List Job) (number : ℕ) (runs runs' : List Ran) (state state' : S)
    → HasRunSoFar IsNew IsRun taken runs state → now ≡ taken ++ Frame number ∷ [] → IsOneMore IsRun number state runs state' runs'
    → HasRunSoFar IsNew IsRun now runs' state'
one_run IsNew IsRun taken now number runs runs' state state' sofar is more = record {
  jobs = is ∙ ap (λ jobs. jobs ++ Frame number ∷ []) sofar.jobs ∙ ap (λ n. jobs_of runs ++ Frame n ∷ []) (sym more.number_is)
      ∙ sym (jobs_push runs more.ran) ∙ ap jobs_of (sym more.noted);
  before = sofar.before;
  is_new = sofar.is_new;
  chain = subst (λ (list : List Ran). IsChainOfRuns IsRun sofar.before list state') (sym more.noted)
      (chain_push IsRun sofar.before state state' runs more.ran sofar.chain more.run);
}

pub all_run : {S : Type 0} (IsNew : S → Type 0) (IsRun : S → Ran → S → Type 0) (taken now : List Job) (runs : List Ran) (state : S)
    → HasRunSoFar IsNew IsRun taken runs state → now ≡ taken ++ End ∷ [] → HasWorked IsNew IsRun now runs state
all_run IsNew IsRun taken now runs state sofar is = record {
  jobs = is ∙ ap (λ jobs. jobs ++ End ∷ []) sofar.jobs;
  before = sofar.before;
  is_new = sofar.is_new;
  chain = sofar.chain;
}

-- ---- the runs of a chain in their places

-- what follows of each run from what holds of its number
pub all_in_chain : (IsRun : PassView → Ran → PassView → Type 0) (P : Ran → Type 0) (Q : RunInPlace IsRun → Type 0) →
    ((one : RunInPlace IsRun) → P one.ran → Q one) → (before : PassView) (runs : List Ran) (after : PassView)
    (chain : IsChainOfRuns IsRun before runs after) → AllByRecursion P runs → AllByRecursion Q (runs_in_chain IsRun before runs after chain)
all_in_chain IsRun P Q turns before [] after chain all = tt
all_in_chain IsRun P Q turns before (ran ∷ later) after chain all = (
  turns (record { before = before; ran = ran; after = chain.0; run = chain.1 }) all.0,
  all_in_chain IsRun P Q turns chain.0 later after chain.2 all.1,
)

pub of_records : (P : ℕ → Type 0) (runs : List Ran) → AllByRecursion P (records_of runs) → AllByRecursion (λ (ran : Ran). P ran.number) runs
of_records P [] all = tt
of_records P (ran ∷ later) all = (all.0, of_records P later all.1)
