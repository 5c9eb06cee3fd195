-- Every thread was handed the end, and nothing after that.
use Rattle.std.proofs.Common.{replicate, nat_lt, refl, ◌≡◌, ℕ, ◌+◌, ◌/◌, ◌<◌, Bool, true, false, List, [], ◌∷◌, ◌++◌, length, sym, ap, ◌∙◌, subst, arith}
use Rattle.std.proofs.lemmas.Bool.Decides.{nat_tests}
use Rattle.rx_queues.specs.declared.job.Job.{Job}
use Rattle.rx_queues.specs.declared.job.Job.TheVariants.{End}
use Rattle.actors.specs.Actors.{HasNoEnd, EndsOnce, AreAllEnded, AreBothEnded, AreDispatched}
use Rattle.actors.specs.Puts.{put_at, frame_jobs, ArePutWithEnd, ArePut, AreAllPut, AreNonePut}
use Rattle.actors.specs.Shares.{share}
use Rattle.actors.proofs.shared.HandLemmas.{commands_no_end, notes_no_end}
use Rattle.actors.proofs.shared.PutLemmas.{none_put, all_put}

frames_no_end : (records : List ℕ) → HasNoEnd (frame_jobs records)
frames_no_end [] = tt
frames_no_end (number ∷ records) = ((λ same. absurd (cc)), frames_no_end records)

-- the workers, after their records
pub workers_ended : (frames : List (List ℕ)) (workers count : ℕ) (puts : List (List Job)) → AreAllPut frames workers count puts → AreAllEnded workers puts
workers_ended frames workers count puts all = λ worker below. record {
  before = frame_jobs (share frames workers worker count);
  no_end = frames_no_end (share frames workers worker count);
  jobs_are = all worker below;
}

-- the workers, with no record
pub none_ended_once : (workers : ℕ) (puts : List (List Job)) → AreNonePut workers puts → AreAllEnded workers puts
none_ended_once workers puts none = λ worker below. record { before = []; no_end = tt; jobs_are = none worker below }

nothing_at : (workers place : ℕ) (puts : List (List Job)) → puts ≡ replicate (workers + 2) [] → put_at puts place ≡ []
nothing_at workers place puts is = ap (λ p. put_at p place) is ∙ none_put (workers + 2) place

pub none_ran : (workers : ℕ) (before after : List (List Job)) → ((worker : ℕ) → worker < workers → put_at before worker ≡ [])
    → ArePutWithEnd workers before after → AreNonePut workers after
none_ran workers before after nothing ended = λ worker below. ended.each worker below ∙ ap (λ jobs. jobs ++ End ∷ []) (nothing worker below)

-- from queues into which nothing was put
pub none_ran_at_all : (workers : ℕ) (before after : List (List Job)) → before ≡ replicate (workers + 2) [] → ArePutWithEnd workers before after
    → AreNonePut workers after
none_ran_at_all workers before after is ended = none_ran workers before after (λ worker below. nothing_at workers worker before is) ended

pub nothing_no_end : (workers place : ℕ) (before after : List (List Job)) → before ≡ replicate (workers + 2) [] → put_at after place ≡ put_at before place
    → HasNoEnd (put_at after place)
nothing_no_end workers place before after is same = subst HasNoEnd (sym (same ∙ nothing_at workers place before is)) tt

-- the controller and the reclaimer
pub both_end_once : (workers : ℕ) (before after : List (List Job)) → workers + 1 < length before → AreBothEnded workers before after
    → HasNoEnd (put_at before workers) → HasNoEnd (put_at before (workers + 1)) → EndsOnce (put_at after workers) × EndsOnce (put_at after (workers + 1))
both_end_once workers before after within ended first second = (
  record { before = put_at before workers; no_end = first; jobs_are = ended.controller (omega (arith, within)) },
  record { before = put_at before (workers + 1); no_end = second; jobs_are = ended.reclaimer within },
)

-- all of them
pub all_ended : (workers : ℕ) (before after : List (List Job)) → AreAllEnded workers before
    → ((place : ℕ) → place < workers → put_at after place ≡ put_at before place)
    → EndsOnce (put_at after workers) × EndsOnce (put_at after (workers + 1)) → AreAllEnded (workers + 2) after
all_ended workers before after were same both = λ place below. by_test place below (nat_lt place workers) refl where
  by_last : (place : ℕ) → place < workers + 2 → workers < place + 1 → (test : Bool) → nat_lt place (workers + 1) ≡ test → EndsOnce (put_at after place)
  by_last place below past true is =
      let here : workers ≡ place = grind (arith, nat_tests, is, past) in
      subst (λ n. EndsOnce (put_at after n)) here both.0
  by_last place below past false is =
      let here : workers + 1 ≡ place = grind (arith, nat_tests, is, below) in
      subst (λ n. EndsOnce (put_at after n)) here both.1

  by_test : (place : ℕ) → place < workers + 2 → (test : Bool) → nat_lt place workers ≡ test → EndsOnce (put_at after place)
  by_test place below true is =
      let inside : place < workers = grind (arith, nat_tests, is) in
      subst EndsOnce (sym (same place inside)) (were place inside)
  by_test place below false is =
      let past : workers < place + 1 = grind (arith, nat_tests, is) in
      by_last place below past (nat_lt place (workers + 1)) refl

-- no thread was started: first the controller and the reclaimer were handed the end, then the workers
pub nobody_ran : (workers : ℕ) (before middle after : List (List Job)) → before ≡ replicate (workers + 2) [] → workers + 1 < length before
    → AreBothEnded workers before middle → ArePutWithEnd workers middle after → AreNonePut workers after × AreAllEnded (workers + 2) after
nobody_ran workers before middle after is within both ended =
    let none = none_ran workers middle after (λ worker below. both.others worker below ∙ nothing_at workers worker before is) ended in
    let ends = both_end_once workers before middle within both (nothing_no_end workers workers before before is refl)
    (nothing_no_end workers (workers + 1) before before is refl) in (
      none,
      all_ended workers after after (none_ended_once workers after none) (λ place below. refl) (
        subst EndsOnce (sym (ended.others workers (omega arith))) ends.0,
        subst EndsOnce (sym (ended.others (workers + 1) (omega arith))) ends.1,
      ),
    )

-- the workers' queues when all was handed over and they were handed the end
pub workers_done : (frames : List (List ℕ)) (workers count : ℕ) (before ended after : List (List Job)) → ArePut frames workers count before
    → ArePutWithEnd workers before ended → after ≡ ended → AreAllPut frames workers count after
workers_done frames workers count before ended after were put is =
    subst (λ p. AreAllPut frames workers count p) (sym is) (all_put frames workers count before ended were put)

-- and the two others'
pub actors_go_on : (frames : List (List ℕ)) (starts : List ℕ) (workers number first last : ℕ) (before ended after : List (List Job))
    → AreDispatched frames starts workers number first last before → ArePutWithEnd workers before ended → after ≡ ended
    → HasNoEnd (put_at after workers) × HasNoEnd (put_at after (workers + 1))
actors_go_on frames starts workers number first last before ended after were put is = (
  subst HasNoEnd (sym (ap (λ p. put_at p workers) is ∙ put.others workers (omega arith) ∙ were.commands)) (commands_no_end first were.count),
  subst HasNoEnd (sym (ap (λ p. put_at p (workers + 1)) is ∙ put.others (workers + 1) (omega arith) ∙ were.notes)) (notes_no_end (number / 64)),
)

-- no worker could be started
pub actors_idle : (workers : ℕ) (before after : List (List Job)) → before ≡ replicate (workers + 2) [] → ArePutWithEnd workers before after
    → HasNoEnd (put_at after workers) × HasNoEnd (put_at after (workers + 1))
actors_idle workers before after is put = (
  nothing_no_end workers workers before after is (put.others workers (omega arith)),
  nothing_no_end workers (workers + 1) before after is (put.others (workers + 1) (omega arith)),
)

-- and then those two were handed the end
pub ended_then : (workers : ℕ) (before after : List (List Job)) → workers + 1 < length before → AreAllEnded workers before
    → HasNoEnd (put_at before workers) × HasNoEnd (put_at before (workers + 1)) → AreBothEnded workers before after → AreAllEnded (workers + 2) after
ended_then workers before after within were none both =
    all_ended workers before after were both.others (both_end_once workers before after within both none.0 none.1)
