-- Queues that are opened one after another.
use Rattle.std.proofs.Common.{◌≡◌, ◌⊎◌, ℕ, zero, suc, ◌<◌, List, [], ◌∷◌, ◌++◌, map, replicate, length, refl, sym, ap, ◌∙◌, subst, inl, inr, ⊎_elim, arith}
use mathlib.Core.Option.{some, some-injective, some-ne-none}
use lib.ListN.{get_elem?}
use Rattle.crossbeam_queue.specs.Passes.{Pass, view}
use Rattle.rx_queues.specs.declared.job.Job.{Job}
use Rattle.rx_queues.specs.declared.rule.JobsKnown.{JobsKnown}
use Rattle.rx_queues.specs.declared.rule.Purpose.{Purpose}
use Rattle.rx_queues.specs.declared.passes.TakePass.{TakePass}
use Rattle.rx_queues.specs.declared.passes.Queues.{Queues}
use Rattle.rx_queues.specs.Passes.{IsTakePassFor, IsPutPassFor, IsTakePassAt, ArePutPasses, TakeAtTheirPlaces, purpose_of}
use Rattle.rx_queues.proofs.PassLemmas.{Line, put_of}

-- each pass takes from the queue at its own place, and has taken nothing
abbrev pub TakeFromTheirs : {Q A : Type 0} → (ℕ → Purpose) → List (Line Q A) → List TakePass → Type 0
TakeFromTheirs {Q} {A} purposes queues passes = (at : ℕ) (pass : TakePass) → get_elem? passes at ≡ some pass
    → (pass.queue ≡ at) × IsTakePassAt purposes queues at pass.pass × ((view pass.pass).taken ≡ [])

module _ {A : Type 0} where
  -- what is in a list with one more was there before, or is the last
  before_or_last : (list : List A) (last it : A) (at : ℕ) → get_elem? (list ++ last ∷ []) at ≡ some it
      → (get_elem? list at ≡ some it) ⊎ ((at ≡ length list) × (last ≡ it))
  before_or_last [] last it zero found = inr (refl, some-injective last it found)
  before_or_last [] last it (suc at) found = absurd (some-ne-none it (sym found))
  before_or_last (first ∷ others) last it zero found = inl found
  before_or_last (first ∷ others) last it (suc at) found =
      ⊎_elim inl (λ (here : (at ≡ length others) × (last ≡ it)). inr (ap suc here.0, here.1)) (before_or_last others last it at found)

  -- the place of what is in a list is within it
  pub within_list : (list : List A) (it : A) (at : ℕ) → get_elem? list at ≡ some it → at < length list
  within_list [] it at found = absurd (some-ne-none it (sym found))
  within_list (first ∷ others) it zero found = omega arith
  within_list (first ∷ others) it (suc at) found = let below = within_list others it at found in omega arith

module _ {Q A : Type 0} where
  pub put_passes_push : (purposes : ℕ → Purpose) (queues : List (Line Q A)) (passes : List (Pass Job JobsKnown)) (queue : Line Q A)
      (pass : Pass Job JobsKnown) → length queues ≡ length passes → ArePutPasses purposes queues passes
      → IsPutPassFor (purposes (length queues)) queue pass → ArePutPasses purposes (queues ++ queue ∷ []) (passes ++ pass ∷ [])
  put_passes_push purposes queues passes queue pass as_many rights right at other mine found_queue found_pass =
      ⊎_elim
      (λ before. ⊎_elim (λ before_too. rights at other mine before before_too)
      (λ (here : (at ≡ length passes) × (pass ≡ mine)). absurd (let below = within_list queues other at before in let last = here.0 in omega arith))
      (before_or_last passes pass mine at found_pass))
      (λ (last : (at ≡ length queues) × (queue ≡ other)). ⊎_elim
      (λ before. absurd (let below = within_list passes mine at before in let here = last.0 in omega arith))
      (λ (here : (at ≡ length passes) × (pass ≡ mine)).
      subst (λ (there : ℕ × Line Q A × Pass Job JobsKnown). IsPutPassFor (purposes there.0) there.1 there.2) (λ i. (sym last.0 i, last.1 i, here.1 i)) right)
      (before_or_last passes pass mine at found_pass))
      (before_or_last queues queue other at found_queue)

  pub take_passes_push : (purposes : ℕ → Purpose) (queues : List (Line Q A)) (passes : List TakePass) (queue : Line Q A) (pass : TakePass)
      → length queues ≡ length passes → TakeFromTheirs purposes queues passes → pass.queue ≡ length passes
      → IsTakePassFor (purposes (length queues)) queue pass.pass → (view pass.pass).taken ≡ []
      → TakeFromTheirs purposes (queues ++ queue ∷ []) (passes ++ pass ∷ [])
  take_passes_push purposes queues passes queue pass as_many before place right nothing at mine found =
      ⊎_elim
      (λ there. let old = before at mine there in (
        old.0,
        (λ other found_queue. ⊎_elim (λ it. old.1 other it)
            (λ (last : (at ≡ length queues) × (queue ≡ other)). absurd (let below = within_list passes mine at there in let here = last.0 in omega arith))
            (before_or_last queues queue other at found_queue)),
        old.2,
      ))
      (λ (here : (at ≡ length passes) × (pass ≡ mine)).
      let Own : TakePass → Type 0 = λ one. (one.queue ≡ at) × IsTakePassAt purposes (queues ++ queue ∷ []) at one.pass × ((view one.pass).taken ≡ []) in
      let own : Own pass = (
        place ∙ sym here.0,
        (λ other found_queue. ⊎_elim
            (λ it. absurd (let below = within_list queues other at it in let last = here.0 in omega arith))
            (λ (last : (at ≡ length queues) × (queue ≡ other)).
            subst (λ (there : ℕ × Line Q A). IsTakePassFor (purposes there.0) there.1 pass.pass) (λ i. (sym last.0 i, last.1 i)) right)
            (before_or_last queues queue other at found_queue)),
        nothing,
      ) in
      subst Own here.1 own)
      (before_or_last passes pass mine at found)

-- nothing was put through any of these
abbrev pub HavePutNothing : List (Pass Job JobsKnown) → Type 0
HavePutNothing [] = Unit {0}
HavePutNothing (pass ∷ others) = (put_of pass ≡ []) × HavePutNothing others

pub nothing_put_push : (passes : List (Pass Job JobsKnown)) (pass : Pass Job JobsKnown) → HavePutNothing passes → put_of pass ≡ [] → HavePutNothing (passes ++ pass ∷ [])
nothing_put_push [] pass before nothing = (nothing, tt)
nothing_put_push (first ∷ others) pass before nothing = (before.0, nothing_put_push others pass before.1 nothing)

pub empty_lists : (passes : List (Pass Job JobsKnown)) → HavePutNothing passes → map put_of passes ≡ replicate (length passes) []
empty_lists [] nothing = refl
empty_lists (pass ∷ others) nothing = (λ i. nothing.0 i ∷ empty_lists others nothing.1 i)

-- the rights to take, where each is of the queue at its place
pub all_take_at_their_places : (queues : Queues) (passes : List TakePass) → length passes ≡ length queues.queues.items
    → TakeFromTheirs (purpose_of queues) queues.queues.items passes → TakeAtTheirPlaces queues passes
all_take_at_their_places queues passes as_many all at pass found =
    let here = all at pass found in
    let there = within_list passes pass at found in
    let Right : ℕ → Type 0 = λ place. (place < length queues.queues.items) × IsTakePassAt (purpose_of queues) queues.queues.items place pass.pass in
    (subst Right (sym here.0) (omega arith, here.1), here.0, here.2)
