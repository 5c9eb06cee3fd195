-- Each step on a queue keeps its rule.
use Rattle.std.proofs.Common.{◌≡◌, ◌≢◌, ℕ, zero, suc, true, false, true≢false, List, [], ◌∷◌, ◌++◌, length, set, sym, refl, ap, ◌∙◌, subst, ⊎_elim, append_assoc}
use mathlib.Core.Option.{some, some-ne-none}
use lib.ListN.{get_elem?}
use Rattle.crossbeam_queue.specs.Fifo.{Pushes, Pops, Forks, Merges, Learns}
use Rattle.crossbeam_queue.proofs.Lists.{at_set, at_snoc}
use Rattle.rx_queues.specs.declared.job.Job.{Job}
use Rattle.rx_queues.specs.declared.rule.JobsKnown.{JobsKnown}
use Rattle.rx_queues.specs.declared.rule.Purpose.{Purpose}
use Rattle.rx_queues.specs.Fifo.{Fits, no_purpose, known, putter, taker, with_put, with_taken, Knows, IsInOrder, IsTakenInOrder, MayHold}
use Rattle.std.specs.List.{AllByRecursion}

-- what is found in a list with one more, and not in the list, is at its end
found_at_end : (list : List JobsKnown) (last it : JobsKnown) (at : ℕ) → get_elem? list at ≢ some it → get_elem? (list ++ last ∷ []) at ≡ some it → at ≡ length list
found_at_end [] last it zero missed found = refl
found_at_end [] last it (suc at) missed found = absurd (some-ne-none it (sym found))
found_at_end (first ∷ others) last it zero missed found = absurd (missed found)
found_at_end (first ∷ others) last it (suc at) missed found = ap suc (found_at_end others last it at missed found)

abbrev Each : (ℕ → JobsKnown → Type 0) → List JobsKnown → Type 0
Each Fact passes = (at : ℕ) (it : JobsKnown) → get_elem? passes at ≡ some it → Fact at it

-- a fact of each pass, after one of them was changed
each_set : (Fact : ℕ → JobsKnown → Type 0) (passes : List JobsKnown) (changed : ℕ) (now : JobsKnown) → Fact changed now
    → ((at : ℕ) (it : JobsKnown) → at ≢ changed → get_elem? passes at ≡ some it → Fact at it) → Each Fact (set passes changed now)
each_set Fact passes changed now mine others at it found =
    ⊎_elim (λ (same : (at ≡ changed) × (now ≡ it)). subst (λ (pair : ℕ × JobsKnown). Fact pair.0 pair.1) (λ i. (sym same.0 i, same.1 i)) mine)
    (λ (apart : (at ≢ changed) × (get_elem? passes at ≡ some it)). others at it apart.0 apart.1)
    (at_set passes changed at now it found)

-- a fact of each job, with one more that it holds for
all_push : (Fact : Job → Type 0) (jobs : List Job) (job : Job) → AllByRecursion Fact jobs → Fact job → AllByRecursion Fact (jobs ++ job ∷ [])
all_push Fact [] job all it = (it, tt)
all_push Fact (first ∷ others) job all it = (all.0, all_push Fact others job all.1 it)

pub begins_in_order : IsInOrder [] (known no_purpose true true [] [] ∷ [])
begins_in_order = record {
  purpose = no_purpose;
  writer = 0;
  reader = 0;
  put = [];
  taken = [];
  rest = refl;
  fit = tt;
  each = each_set (Knows no_purpose 0 0 [] []) (known no_purpose true true [] [] ∷ []) 0 (known no_purpose true true [] []) ((λ _. (refl, refl, refl)), λ _. (refl, refl, refl))
      (λ at it other found. absurd (other (found_at_end [] _ it at (λ none. some-ne-none it (sym none)) found)));
}

pub put_keeps_order : (room pass : ℕ) (it : JobsKnown) (job : Job) → it.puts ≡ true → Fits it.purpose job
    → Pushes IsInOrder room pass it job (λ after. after ≡ with_put it job)
put_keeps_order room pass it job may fits held passes _ rule found =
    let mine = rule.each pass it found in
    let put = rule.put ++ job ∷ [] in (
      with_put it job,
      record {
        purpose = rule.purpose;
        writer = rule.writer;
        reader = rule.reader;
        put = put;
        taken = rule.taken;
        rest = ap (λ jobs. jobs ++ job ∷ []) rule.rest ∙ append_assoc rule.taken held (job ∷ []);
        fit = all_push (Fits rule.purpose) held job rule.fit (subst (λ (purpose : Purpose). Fits purpose job) (mine.0 may).2 fits);
        each = each_set (Knows rule.purpose rule.writer rule.reader put rule.taken) passes pass (with_put it job)
            ((λ _. ((mine.0 may).0, ap (λ jobs. jobs ++ job ∷ []) (mine.0 may).1, (mine.0 may).2)), mine.1)
            (λ at other apart there. ((λ puts. absurd (apart (((rule.each at other there).0 puts).0 ∙ sym (mine.0 may).0))), (rule.each at other there).1));
      },
      refl,
    )

pub take_keeps_order : (pass : ℕ) (it : JobsKnown) → it.takes ≡ true
    → Pops IsInOrder pass it (λ job after. (after ≡ with_taken it job) × Fits it.purpose job)
take_keeps_order pass it may job held passes rule found =
    let mine = rule.each pass it found in
    let taken = rule.taken ++ job ∷ [] in (
      with_taken it job,
      record {
        purpose = rule.purpose;
        writer = rule.writer;
        reader = rule.reader;
        put = rule.put;
        taken = taken;
        rest = rule.rest ∙ sym (append_assoc rule.taken (job ∷ []) held);
        fit = rule.fit.1;
        each = each_set (Knows rule.purpose rule.writer rule.reader rule.put taken) passes pass (with_taken it job)
            (mine.0, λ _. ((mine.1 may).0, ap (λ jobs. jobs ++ job ∷ []) (mine.1 may).1, (mine.1 may).2))
            (λ at other apart there. ((rule.each at other there).0, λ takes. absurd (apart (((rule.each at other there).1 takes).0 ∙ sym (mine.1 may).0))));
      },
      (refl, subst (λ (purpose : Purpose). Fits purpose job) (sym (mine.1 may).2) rule.fit.0),
    )

-- a queue from which nothing was taken, and into which nothing was put, holds nothing
holds_nothing : (taken held : List Job) → [] ≡ taken ++ held → held ≡ []
holds_nothing [] held is = sym is
holds_nothing (first ∷ others) held is = absurd (cc is)

-- the pass that has both rights, while nothing was put, may say what the queue is for
pub opening_keeps_order : (pass : ℕ) (purpose : Purpose)
    → Forks IsInOrder pass (known no_purpose true true [] []) (putter purpose []) (taker purpose [])
opening_keeps_order pass purpose held passes rule found =
    let mine = rule.each pass (known no_purpose true true [] []) found in
    let left : JobsKnown = putter purpose [] in
    let right : JobsKnown = taker purpose [] in
    let changed : List JobsKnown = set passes pass left in
    let empty : held ≡ [] = holds_nothing rule.taken held ((mine.0 refl).1 ∙ rule.rest) in
    let Kept : ℕ → JobsKnown → Type 0 = λ at other. (other.puts ≡ true → (at ≡ pass) × (other.put ≡ []) × (other.purpose ≡ purpose)) × (other.takes ≢ true) in
    let kept : Each Kept changed = each_set Kept passes pass left ((λ _. (refl, refl, refl)), λ wrong. true≢false (sym wrong))
    (λ at other apart there. (
      (λ puts. absurd (apart (((rule.each at other there).0 puts).0 ∙ sym (mine.0 refl).0))),
      λ takes. apart (((rule.each at other there).1 takes).0 ∙ sym (mine.1 refl).0),
    )) in
    record {
      purpose = purpose;
      writer = pass;
      reader = length changed;
      put = [];
      taken = [];
      rest = sym empty;
      fit = subst (λ (jobs : List Job). AllByRecursion (Fits purpose) jobs) (sym empty) tt;
      each = λ at other there. ⊎_elim (λ before. ((kept at other before).0, λ may. absurd ((kept at other before).1 may)))
          (λ (is : right ≡ other). (
            (λ may. absurd (true≢false (sym (ap (λ (one : JobsKnown). one.puts) is ∙ may)))),
            λ may. (
              found_at_end changed right other at (λ before. (kept at other before).1 may) there,
              ap (λ (one : JobsKnown). one.taken) (sym is),
              ap (λ (one : JobsKnown). one.purpose) (sym is),
            ),
          )) (at_snoc changed right other at there);
    }

pub join_keeps_order : (pass : ℕ) (it : JobsKnown) (other : ℕ) (theirs : JobsKnown) → it.puts ≡ true → theirs.takes ≡ true
    → Merges IsInOrder pass it other theirs (known it.purpose true true it.put theirs.taken) (known no_purpose false false [] [])
join_keeps_order pass it other theirs puts takes held passes rule found two there =
    let both : JobsKnown = known it.purpose true true it.put theirs.taken in
    let mine = rule.each pass it found in
    let changed : List JobsKnown = set passes pass both in
    let was : get_elem? passes other ≡ some theirs = ⊎_elim (λ same. absurd (two same.0)) (λ apart. apart.1) (at_set passes pass other both theirs there) in
    let known_there = (rule.each other theirs was).1 takes in
    let Now : ℕ → JobsKnown → Type 0 = λ at one. at ≢ other → Knows rule.purpose rule.writer pass rule.put rule.taken at one in
    let now : Each Now changed = each_set Now passes pass both (λ _. ((λ _. mine.0 puts), λ _. (refl, known_there.1, (mine.0 puts).2)))
    (λ at one _ here apart. ((rule.each at one here).0, λ may. absurd (apart (((rule.each at one here).1 may).0 ∙ sym known_there.0)))) in
    record {
      purpose = rule.purpose;
      writer = rule.writer;
      reader = pass;
      put = rule.put;
      taken = rule.taken;
      rest = rule.rest;
      fit = rule.fit;
      each = each_set (Knows rule.purpose rule.writer pass rule.put rule.taken) changed other (known no_purpose false false [] [])
          ((λ wrong. absurd (true≢false (sym wrong))), λ wrong. absurd (true≢false (sym wrong))) (λ at one apart here. now at one here apart);
    }

-- what a pass learns of what its queue holds
pub pass_may_hold : (pass : ℕ) (it : JobsKnown) → Learns IsInOrder pass it (MayHold it)
pass_may_hold pass it held passes rule found = record {
  put = rule.put;
  taken = rule.taken;
  rest = rule.rest;
  all_put = λ may. ((rule.each pass it found).0 may).1;
  all_taken = λ may. ((rule.each pass it found).1 may).1;
}

-- a pass with both rights knows that what was taken is a beginning of what was put
pub taken_in_order : (it : JobsKnown) (held : List Job) → it.puts ≡ true → it.takes ≡ true → MayHold it held → IsTakenInOrder it.taken it.put
taken_in_order it held puts takes may = record {
  left = held;
  rest = may.all_put puts ∙ may.rest ∙ ap (λ jobs. jobs ++ held) (sym (may.all_taken takes));
}
