-- What is handed to the controller and the reclaimer, job by job.
use Rattle.std.proofs.Common.{replicate, ◌≡◌, ℕ, zero, suc, ◌+◌, ◌<◌, ◌/◌, ◌%◌, ◌==◌, Bool, true, false, if◌then◌else◌, List, [], ◌∷◌, ◌++◌, map, length, refl, sym, ap, ◌∙◌, subst, arith, add-one, append_assoc}
use Rattle.std.proofs.Math.Nat.{mod-lt, div-add-mod}
use Rattle.std.proofs.lemmas.Bool.Decides.{nat_tests}
use Rattle.std.proofs.lemmas.List.{append-nil}
use Rattle.rx_queues.specs.declared.job.Job.{Job}
use Rattle.rx_queues.specs.declared.job.Job.TheVariants.{Command, Note, End}
use Rattle.rx_queues.specs.Fifo.{IsTakenInOrder}
use Rattle.rx_queues.specs.Passes.{with_job_at}
use Rattle.actors.specs.Actors.{numbers_from, commands_from, HasEndLast, HasNoEnd, EndsOnce, ArePutAt, AreHandedOver, AreBothEnded}
use Rattle.actors.specs.Puts.{put_at}
use Rattle.actors.proofs.shared.PutLemmas.{length_with_job, job_here, job_elsewhere}

-- ---- jobs put at one place

pub one_put : (place : ℕ) (job : Job) (before after : List (List Job)) → after ≡ with_job_at place job before → ArePutAt place (job ∷ []) before after
one_put place job before after is = record {
  count = ap (λ (p : List (List Job)). length p) is ∙ length_with_job place job before;
  here = λ within. ap (λ p. put_at p place) is ∙ job_here place job before within;
  elsewhere = λ other apart. ap (λ p. put_at p other) is ∙ job_elsewhere place other job before (λ same. apart (sym same));
}

pub none_put_at : (place : ℕ) (before after : List (List Job)) → after ≡ before → ArePutAt place [] before after
none_put_at place before after is = record {
  count = ap (λ (p : List (List Job)). length p) is;
  here = λ within. ap (λ p. put_at p place) is ∙ sym (append-nil (put_at before place));
  elsewhere = λ other apart. ap (λ p. put_at p other) is;
}

pub round_due : (place number : ℕ) (before after : List (List Job)) → (number % 64 == 0) ≡ true → ArePutAt place (Note ∷ []) before after
    → ArePutAt place (if number % 64 == 0 then Note ∷ [] else []) before after
round_due place number before after due put = rw due put

pub both_ended : (workers : ℕ) (before middle after : List (List Job)) → middle ≡ with_job_at workers End before → after ≡ with_job_at (workers + 1) End middle
    → AreBothEnded workers before after
both_ended workers before middle after first second =
    let one = one_put workers End before middle first in
    let two = one_put (workers + 1) End middle after second in
    let count = one.count in record {
      others = λ place below. two.elsewhere place (λ same. absurd (omega (arith, same, below)))
          ∙ one.elsewhere place (λ same. absurd (omega (arith, same, below)));
      controller = λ within. two.elsewhere workers (λ same. absurd (omega (arith, same))) ∙ one.here within;
      reclaimer = λ within. two.here (omega (arith, count, within)) ∙ ap (λ jobs. jobs ++ End ∷ []) (one.elsewhere (workers + 1) (λ same. absurd (omega (arith, same))));
    }

-- ---- commands

pub numbers_more : (first count : ℕ) → numbers_from first (suc count) ≡ numbers_from first count ++ (first + count) ∷ []
numbers_more first zero = ap (λ n. n ∷ []) (omega arith)
numbers_more first (suc count) =
    ap (λ rest. first ∷ rest) (numbers_more (first + 1) count) ∙ ap (λ n. first ∷ (numbers_from (first + 1) count ++ n ∷ [])) (omega arith)

commands_push : (numbers : List ℕ) (last : ℕ) → map (λ (number : ℕ). Command number) (numbers ++ last ∷ []) ≡ map (λ (number : ℕ). Command number) numbers ++ Command last ∷ []
commands_push [] last = refl
commands_push (one ∷ numbers) last = ap (λ rest. Command one ∷ rest) (commands_push numbers last)

pub commands_more : (first count : ℕ) → commands_from first (suc count) ≡ commands_from first count ++ Command (first + count) ∷ []
commands_more first count = ap (λ numbers. map (λ (number : ℕ). Command number) numbers) (numbers_more first count) ∙ commands_push (numbers_from first count) (first + count)

pub commands_join : (first count next more : ℕ) → first + count ≡ next → commands_from first count ++ commands_from next more ≡ commands_from first (count + more)
commands_join first zero next more is =
    let start : next ≡ first = omega (arith, is) in
    let same : more ≡ 0 + more = omega arith in
    ap (λ n. commands_from n more) start ∙ ap (λ n. commands_from first n) same
commands_join first (suc count) next more is =
    ap (λ rest. Command first ∷ rest) (commands_join (first + 1) count next more (omega (arith, is)))
    ∙ ap (λ n. commands_from first n) (suc_over count more)
  where
    suc_over : (a b : ℕ) → suc (a + b) ≡ suc a + b
    suc_over a b = omega arith

pub none_handed : (place from : ℕ) (puts : List (List Job)) → AreHandedOver place from from puts puts
none_handed place from puts = record { count = 0; together = omega arith; put = none_put_at place puts puts refl }

pub one_handed : (place from end : ℕ) (before middle after : List (List Job)) → AreHandedOver place from end before middle
    → after ≡ with_job_at place (Command end) middle → AreHandedOver place from (end + 1) before after
one_handed place from end before middle after were is =
    let one = one_put place (Command end) middle after is in
    let count = were.put.count in
    let together = were.together in record {
      count = suc were.count;
      together = omega (arith, together);
      put = record {
        count = one.count ∙ count;
        here = λ within. one.here (omega (arith, count, within)) ∙ ap (λ jobs. jobs ++ Command end ∷ []) (were.put.here within)
            ∙ append_assoc (put_at before place) (commands_from from were.count) (Command end ∷ [])
            ∙ ap (λ n. put_at before place ++ (commands_from from were.count ++ Command n ∷ [])) (sym together)
            ∙ ap (λ jobs. put_at before place ++ jobs) (sym (commands_more from were.count));
        elsewhere = λ other apart. one.elsewhere other apart ∙ were.put.elsewhere other apart;
      };
    }

-- ---- the end

pub commands_no_end : (first count : ℕ) → HasNoEnd (commands_from first count)
commands_no_end first zero = tt
commands_no_end first (suc count) = ((λ same. absurd (cc)), commands_no_end (first + 1) count)

pub notes_no_end : (count : ℕ) → HasNoEnd (replicate count Note)
notes_no_end zero = tt
notes_no_end (suc count) = ((λ same. absurd (cc)), notes_no_end count)

no_more : (mine left : List Job) → ¬ ([] ≡ (mine ++ End ∷ []) ++ left)
no_more [] left e = absurd (cc)
no_more (job ∷ mine) left e = absurd (cc)

same_to_end : (put mine left : List Job) → HasNoEnd put → put ++ End ∷ [] ≡ (mine ++ End ∷ []) ++ left → mine ≡ put
same_to_end [] [] left none e = refl
same_to_end [] (job ∷ mine) left none e = absurd (no_more mine left (grind (arith)))
same_to_end (job ∷ put) [] left none e = absurd (none.0 (grind (arith)))
same_to_end (job ∷ put) (one ∷ mine) left none e = grind (arith, same_to_end put mine left none.1)

-- who took to an end has taken all that was put
pub taken_all : (taken put : List Job) → HasEndLast taken → EndsOnce put → IsTakenInOrder taken put → taken ≡ put
taken_all taken put ended once order =
    let same = same_to_end once.before ended.before order.left once.no_end (sym once.jobs_are ∙ order.rest ∙ ap (λ jobs. jobs ++ order.left) ended.jobs_are) in
    ended.jobs_are ∙ ap (λ jobs. jobs ++ End ∷ []) same ∙ sym once.jobs_are

-- ---- rounds

round_over : (number : ℕ) → (suc number % 64 == 0) ≡ true → suc number / 64 ≡ suc (number / 64)
round_over number is =
    let whole : suc number % 64 ≡ 0 = grind (arith, nat_tests) in
    let now = div-add-mod (suc number) 64 in
    let before = div-add-mod number 64 in
    let less = mod-lt number {m = 64} (omega arith) in
    omega (arith, whole, now, before, less)

round_on : (number : ℕ) → (suc number % 64 == 0) ≡ false → suc number / 64 ≡ number / 64
round_on number is =
    let some : 0 < suc number % 64 = grind (arith, nat_tests) in
    let now = div-add-mod (suc number) 64 in
    let before = div-add-mod number 64 in
    let more = mod-lt (suc number) {m = 64} (omega arith) in
    let less = mod-lt number {m = 64} (omega arith) in
    omega (arith, some, now, before, less, more)

notes_push : (n : ℕ) → replicate n Note ++ Note ∷ [] ≡ replicate (suc n) Note
notes_push zero = refl
notes_push (suc n) = ap (λ rest. Note ∷ rest) (notes_push n)

pub rounds_more : (number : ℕ) → replicate (number / 64) Note ++ (if (number + 1) % 64 == 0 then Note ∷ [] else []) ≡ replicate ((number + 1) / 64) Note
rounds_more number = subst (λ n. replicate (number / 64) Note ++ (if n % 64 == 0 then Note ∷ [] else []) ≡ replicate (n / 64) Note) (sym (add-one number))
    (by_test (suc number % 64 == 0) refl)
  where
    by_test : (test : Bool) → (suc number % 64 == 0) ≡ test
        → replicate (number / 64) Note ++ (if suc number % 64 == 0 then Note ∷ [] else []) ≡ replicate (suc number / 64) Note
    by_test true is = rw is (notes_push (number / 64) ∙ ap (λ n. replicate n Note) (sym (round_over number is)))
    by_test false is = rw is (append-nil (replicate (number / 64) Note) ∙ ap (λ n. replicate n Note) (sym (round_on number is)))
