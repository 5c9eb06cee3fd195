-- Lists of queues and of the rights to them.
use Rattle.std.proofs.Common.{◌≡◌, ◌≢◌, ℕ, zero, suc, ◌<◌, List, [], ◌∷◌, ◌++◌, map, length, set, get_or, refl, sym, ap, ◌∙◌, subst, ⊎_elim, arith}
use Rattle.std.specs.Prelude.{Option, Result, Ok, Err, OnOk, OnErr, IfErr, slice_index_or}
use mathlib.Core.Option.{some, some-injective}
use lib.ListN.{get_elem?}
use Rattle.atomic_table.proofs.Lists.{at_set, at_index}
use Rattle.crossbeam_queue.specs.declared.array_queue.Doing.{Doing}
use Rattle.crossbeam_queue.specs.declared.array_queue.Slotted.{Slotted}
use Rattle.crossbeam_queue.specs.Passes.{Pass, view}
use Rattle.rx_queues.specs.declared.job.Job.{Job}
use Rattle.rx_queues.specs.declared.rule.JobsKnown.{JobsKnown}
use Rattle.rx_queues.specs.declared.rule.Purpose.{Purpose}
use Rattle.rx_queues.specs.Passes.{IsPutPassFor, IsTakePassFor, ArePutPasses, IsTakePassAt, with_job_at, WasFull}

abbrev pub Line : Type 0 → Type 0 → Type 0
Line Q A = Slotted (Option Job) (Doing Job JobsKnown) Q A

module _ {Q A : Type 0} where
  -- the right to take from the queue at its place
  pub take_pass_there : (purposes : ℕ → Purpose) (queues : List (Line Q A)) (at : ℕ) (queue : Line Q A) (pass : Pass Job JobsKnown)
      → IsTakePassAt purposes queues at pass → at < length queues → queue ≡ get_or queues at queue → IsTakePassFor (purposes at) queue pass
  take_pass_there purposes queues at queue pass right within there = right queue (at_index queues at queue within there)

  -- and it stays the right to that queue
  pub take_pass_stays : (purposes : ℕ → Purpose) (queues : List (Line Q A)) (at : ℕ) (queue : Line Q A) (pass : Pass Job JobsKnown)
      → IsTakePassFor (purposes at) queue pass → at < length queues → queue ≡ get_or queues at queue → IsTakePassAt purposes queues at pass
  take_pass_stays purposes queues at queue pass right within there other found =
      subst (λ (one : Line Q A). IsTakePassFor (purposes at) one pass) (some-injective queue other (sym (at_index queues at queue within there) ∙ found)) right

  -- the right to put into the queue at a place
  pub put_pass_there : (purposes : ℕ → Purpose) (queues : List (Line Q A)) (passes : List (Pass Job JobsKnown)) (at : ℕ) (queue : Line Q A)
      (pass : Pass Job JobsKnown) → length passes ≡ length queues → ArePutPasses purposes queues passes → at < length queues
      → queue ≡ get_or queues at queue → pass ≡ get_or passes at pass → IsPutPassFor (purposes at) queue pass
  put_pass_there purposes queues passes at queue pass as_many rights within there mine =
      rights at queue pass (at_index queues at queue within there) (at_index passes at pass (let same = as_many in omega arith) mine)

  -- the rights stay, where the one at a place stays the right to its queue
  pub put_passes_stay : (purposes : ℕ → Purpose) (queues : List (Line Q A)) (passes : List (Pass Job JobsKnown)) (at : ℕ) (queue : Line Q A)
      (now : Pass Job JobsKnown) → ArePutPasses purposes queues passes → at < length queues → queue ≡ get_or queues at queue
      → IsPutPassFor (purposes at) queue now → ArePutPasses purposes queues (set passes at now)
  put_passes_stay purposes queues passes at queue now rights within there right place other pass found_queue found_pass =
      ⊎_elim (λ (here : (place ≡ at) × (now ≡ pass)).
      let found : get_elem? queues at ≡ some other = subst (λ n. get_elem? queues n ≡ some other) here.0 found_queue in
      let same : queue ≡ other = some-injective queue other (sym (at_index queues at queue within there) ∙ found) in
      subst (λ (there : ℕ × Line Q A × Pass Job JobsKnown). IsPutPassFor (purposes there.0) there.1 there.2) (λ i. (sym here.0 i, same i, here.1 i)) right)
      (λ (apart : (place ≢ at) × (get_elem? passes place ≡ some pass)). rights place other pass found_queue apart.1)
      (at_set passes at place now pass found_pass)

-- a right to put or to take, where what the queue is for is what the pass knows of it
pub put_pass_known : {Q A : Type 0} (purpose : Purpose) (queue : Line Q A) (pass : Pass Job JobsKnown) → IsPutPassFor purpose queue pass
    → IsPutPassFor (view pass).purpose queue pass
put_pass_known purpose queue pass right = (right.0, right.1, refl, right.3)

pub take_pass_known : {Q A : Type 0} (purpose : Purpose) (queue : Line Q A) (pass : Pass Job JobsKnown) → IsTakePassFor purpose queue pass
    → IsTakePassFor (view pass).purpose queue pass
take_pass_known purpose queue pass right = (right.0, right.1, refl)

-- and where it is what the pass knew before
pub put_pass_as : {Q A : Type 0} (purpose : Purpose) (queue : Line Q A) (was now : Pass Job JobsKnown) → IsPutPassFor purpose queue was
    → IsPutPassFor (view was).purpose queue now → IsPutPassFor purpose queue now
put_pass_as purpose queue was now right same = (same.0, same.1, same.2 ∙ right.2, same.3)

pub take_pass_as : {Q A : Type 0} (purpose : Purpose) (queue : Line Q A) (was now : Pass Job JobsKnown) → IsTakePassFor purpose queue was
    → IsTakePassFor (view was).purpose queue now → IsTakePassFor purpose queue now
take_pass_as purpose queue was now right same = (same.0, same.1, same.2 ∙ right.2)

abbrev pub put_of : Pass Job JobsKnown → List Job
put_of pass = (view pass).put

-- the lists of what was put, after a put into one queue
pub puts_with_job : (passes : List (Pass Job JobsKnown)) (at : ℕ) (was now : Pass Job JobsKnown) (job : Job) → was ≡ get_or passes at was
    → put_of now ≡ put_of was ++ job ∷ [] → map put_of (set passes at now) ≡ with_job_at at job (map put_of passes)
puts_with_job [] at was now job mine put = refl
puts_with_job (first ∷ others) zero was now job mine put =
    ap (λ jobs. jobs ∷ map put_of others) (put ∙ ap (λ (pass : Pass Job JobsKnown). put_of pass ++ job ∷ []) mine)
puts_with_job (first ∷ others) (suc at) was now job mine put = ap (λ lists. put_of first ∷ lists) (puts_with_job others at was now job mine put)

-- the same lists, where nothing was put
pub puts_unchanged : (passes : List (Pass Job JobsKnown)) (at : ℕ) (was now : Pass Job JobsKnown) → was ≡ get_or passes at was
    → put_of now ≡ put_of was → map put_of (set passes at now) ≡ map put_of passes
puts_unchanged [] at was now mine put = refl
puts_unchanged (first ∷ others) zero was now mine put = ap (λ jobs. jobs ∷ map put_of others) (put ∙ ap put_of mine)
puts_unchanged (first ∷ others) (suc at) was now mine put = ap (λ lists. put_of first ∷ lists) (puts_unchanged others at was now mine put)

-- what was put into the queue at a place
pub put_there : (passes : List (Pass Job JobsKnown)) (at : ℕ) (was : Pass Job JobsKnown) → at < length passes → was ≡ get_or passes at was
    → slice_index_or (map put_of passes) at [] ≡ put_of was
put_there [] at was within mine = absurd (omega arith)
put_there (first ∷ others) zero was within mine = ap put_of (sym mine)
put_there (first ∷ others) (suc at) was within mine = put_there others at was (omega arith) mine

-- the same of a put's result: where it was done, where the job came back
pub on_put : (result : Result Unit Job) (passes : List (Pass Job JobsKnown)) (at place : ℕ) (was now : Pass Job JobsKnown) (job : Job) → at ≡ place
    → was ≡ get_or passes at was → OnOk result (put_of now ≡ put_of was ++ job ∷ [])
    → OnOk result (map put_of (set passes at now) ≡ with_job_at place job (map put_of passes))
on_put (Ok done) passes at place was now job here mine put =
    puts_with_job passes at was now job mine put ∙ ap (λ n. with_job_at n job (map put_of passes)) here
on_put (Err back) passes at place was now job here mine put = tt

pub on_back : (result : Result Unit Job) (passes : List (Pass Job JobsKnown)) (at : ℕ) (was now : Pass Job JobsKnown) (job : Job)
    → was ≡ get_or passes at was → IfErr result (λ back. (back ≡ job) × (put_of now ≡ put_of was))
    → IfErr result (λ back. (back ≡ job) × (map put_of (set passes at now) ≡ map put_of passes))
on_back (Ok done) passes at was now job mine same = tt
on_back (Err back) passes at was now job mine same = (same.0, puts_unchanged passes at was now mine same.1)

pub on_full : (result : Result Unit Job) (passes : List (Pass Job JobsKnown)) (at place : ℕ) (was : Pass Job JobsKnown) → at ≡ place
    → at < length passes → was ≡ get_or passes at was → OnErr result (WasFull (put_of was))
    → OnErr result (WasFull (slice_index_or (map put_of passes) place []))
on_full (Ok done) passes at place was here within mine full = tt
on_full (Err back) passes at place was here within mine full =
    subst (λ (jobs : List Job). WasFull jobs) (sym (put_there passes at was within mine) ∙ ap (λ n. slice_index_or (map put_of passes) n []) here) full
