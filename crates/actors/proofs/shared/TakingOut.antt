-- Runs from which the ends of the first ones were taken out: what is said of the later records stays.
use Rattle.std.proofs.Common.{◌≡◌, ℕ, zero, suc, ◌+◌, ◌<◌, ◌≤◌, ◌==◌, Bool, true, false, List, [], ◌∷◌, ◌++◌, length, set, get_or, refl, sym, ap, ◌∙◌, subst, add-one, arith}
use Rattle.std.specs.Prelude.{Vec, Some}
use Rattle.std.proofs.lemmas.Bool.Decides.{nat_tests}
use Rattle.actors.specs.declared.runner.Ran.{Ran}
use Rattle.actors.specs.Shares.{frame_at, is_short, worker_of_frame, share}
use Rattle.actors.specs.RunJobs.{records_of}
use Rattle.actors.specs.Accounts.{lists_of, runs_at, end_at, fate_of, counts_of, counted, sent_of, sent_by, ends_of, record_end, AreRunsOfShares, AreFatesFrom}
use Rattle.actors.proofs.shared.AccountLemmas.{IsNextAt, place_of, handed_own, end_there}
use Rattle.actors.proofs.shared.ShareLemmas.{handed_within}

-- ---- in one list

pub end_is : (runs : List Ran) (place : ℕ) (ran : Ran) → place < length runs → ran ≡ get_or runs place ran → Some ran.end ≡ end_at runs place
end_is runs place ran below is = sym (end_there runs place ran below is)

pub end_elsewhere : (runs : List Ran) (place : ℕ) (ran : Ran) (other : ℕ) → ¬ (other ≡ place) → end_at (set runs place ran) other ≡ end_at runs other
end_elsewhere [] place ran other apart = refl
end_elsewhere (first ∷ later) zero ran zero apart = absurd (apart refl)
end_elsewhere (first ∷ later) zero ran (suc other) apart = refl
end_elsewhere (first ∷ later) (suc place) ran zero apart = refl
end_elsewhere (first ∷ later) (suc place) ran (suc other) apart = end_elsewhere later place ran other (λ same. apart (ap suc same))

pub records_stay : (runs : List Ran) (place : ℕ) (was now : Ran) → was ≡ get_or runs place was → now.number ≡ was.number
    → records_of (set runs place now) ≡ records_of runs
records_stay [] place was now is same = refl
records_stay (first ∷ later) zero was now is same = ap (λ n. n ∷ records_of later) (same ∙ ap (λ (r : Ran). r.number) is)
records_stay (first ∷ later) (suc place) was now is same = ap (λ list. first.number ∷ list) (records_stay later place was now is same)

-- ---- in the lists of all workers

pub list_here : {A : Type 0} (runs : List (Vec Ran A)) (worker : ℕ) (list : Vec Ran A) → worker < length runs
    → runs_at (lists_of (set runs worker list)) worker ≡ list.items
list_here [] worker list below = absurd (omega arith)
list_here (first ∷ later) zero list below = refl
list_here (first ∷ later) (suc worker) list below = list_here later worker list (omega arith)

pub list_elsewhere : {A : Type 0} (runs : List (Vec Ran A)) (worker : ℕ) (list : Vec Ran A) (other : ℕ) → ¬ (other ≡ worker)
    → runs_at (lists_of (set runs worker list)) other ≡ runs_at (lists_of runs) other
list_elsewhere [] worker list other apart = refl
list_elsewhere (first ∷ later) zero list zero apart = absurd (apart refl)
list_elsewhere (first ∷ later) zero list (suc other) apart = refl
list_elsewhere (first ∷ later) (suc worker) list zero apart = refl
list_elsewhere (first ∷ later) (suc worker) list (suc other) apart = list_elsewhere later worker list other (λ same. apart (ap suc same))

-- one worker's list, with the end at a place taken out
pub record IsTakenOut (worker place : ℕ) (before after : List (List Ran)) : Type 0 where
  pub records : records_of (runs_at after worker) ≡ records_of (runs_at before worker)
  pub others : (other : ℕ) → ¬ (other ≡ place) → end_at (runs_at after worker) other ≡ end_at (runs_at before worker) other
  pub elsewhere : (other : ℕ) → ¬ (other ≡ worker) → runs_at after other ≡ runs_at before other

pub taken_out : {A : Type 0} (runs : List (Vec Ran A)) (worker place : ℕ) (was now : Vec Ran A) → worker < length runs → runs_at (lists_of runs) worker ≡ was.items
    → records_of now.items ≡ records_of was.items
    → ((other : ℕ) → ¬ (other ≡ place) → end_at now.items other ≡ end_at was.items other)
    → IsTakenOut worker place (lists_of runs) (lists_of (set runs worker now))
taken_out runs worker place was now below is records others =
    let here = list_here runs worker now below in record {
      records = ap records_of here ∙ records ∙ ap records_of (sym is);
      others = λ other apart. ap (λ l. end_at l other) here ∙ others other apart ∙ ap (λ l. end_at l other) (sym is);
      elsewhere = λ other apart. list_elsewhere runs worker now other apart;
    }

pub still_runs : (frames : List (List ℕ)) (workers count worker place : ℕ) (before after : List (List Ran)) → IsTakenOut worker place before after
    → AreRunsOfShares frames workers count before → AreRunsOfShares frames workers count after
still_runs frames workers count worker place before after out were = λ other below. by_test other below (other == worker) refl where
  by_test : (other : ℕ) → other < workers → (test : Bool) → (other == worker) ≡ test → records_of (runs_at after other) ≡ share frames workers other count
  by_test other below true same =
      let here : worker ≡ other = grind (arith, nat_tests) in
      subst (λ w. records_of (runs_at after w) ≡ records_of (runs_at before w)) here out.records ∙ were other below
  by_test other below false apart = ap records_of (out.elsewhere other (grind (arith, nat_tests))) ∙ were other below

short_fate : (frames : List (List ℕ)) (workers : ℕ) (before after : List (List Ran)) (number : ℕ) → is_short (frame_at frames number) ≡ true
    → fate_of frames workers after number ≡ fate_of frames workers before number
short_fate frames workers before after number short = rw short refl

pub long_fate : (frames : List (List ℕ)) (workers : ℕ) (runs : List (List Ran)) (number : ℕ) → is_short (frame_at frames number) ≡ false
    → fate_of frames workers runs number ≡ end_at (runs_at runs (worker_of_frame (frame_at frames number) workers))
    (length (share frames workers (worker_of_frame (frame_at frames number) workers) number))
long_fate frames workers runs number long = rw long refl

pub later_fates : (frames : List (List ℕ)) (workers count number : ℕ) (before : List (List Ran)) (next : List ℕ) (worker place : ℕ) (list : List Ran)
    (after : List (List Ran)) → IsNextAt frames workers count number before next worker place list → IsTakenOut worker place before after
    → AreFatesFrom (number + 1) frames workers before after
later_fates frames workers count number before next worker place list after at out = λ later past. by_short later past (is_short (frame_at frames later)) refl where
  own : ℕ → ℕ
  own later = worker_of_frame (frame_at frames later) workers

  by_worker : (later : ℕ) → number + 1 ≤ later → (test : Bool) → (own later == worker) ≡ test
      → end_at (runs_at after (own later)) (length (share frames workers (own later) later)) ≡ end_at (runs_at before (own later)) (length (share frames workers (own later) later))
  by_worker later past true same =
      let here : worker ≡ own later = grind (arith, nat_tests) in
      let at_place = place_of at in
      let more = handed_within frames workers worker number later (handed_own frames workers worker number at.long at.who) (omega (arith, past)) in
      subst (λ w. end_at (runs_at after w) (length (share frames workers w later)) ≡ end_at (runs_at before w) (length (share frames workers w later))) here
      (out.others (length (share frames workers worker later)) (λ e. absurd (omega (arith, e, at_place, more))))
  by_worker later past false apart =
      ap (λ l. end_at l (length (share frames workers (own later) later))) (out.elsewhere (own later) (grind (arith, nat_tests)))

  by_short : (later : ℕ) → number + 1 ≤ later → (test : Bool) → is_short (frame_at frames later) ≡ test
      → fate_of frames workers after later ≡ fate_of frames workers before later
  by_short later past true short = short_fate frames workers before after later short
  by_short later past false long =
      long_fate frames workers after later long ∙ by_worker later past (own later == worker) refl ∙ sym (long_fate frames workers before later long)

-- what the taken end is
pub fate_at : (frames : List (List ℕ)) (workers count number : ℕ) (runs : List (List Ran)) (next : List ℕ) (worker place : ℕ) (list : List Ran)
    → IsNextAt frames workers count number runs next worker place list → end_at list place ≡ fate_of frames workers runs number
fate_at frames workers count number runs next worker place list at =
    sym (long_fate frames workers runs number at.long
    ∙ ap (λ w. end_at (runs_at runs w) (length (share frames workers w number))) at.who
    ∙ ap (λ p. end_at (runs_at runs worker) p) (sym (place_of at))
    ∙ ap (λ l. end_at l place) at.list_is)

pub counts_next : (frames : List (List ℕ)) (workers : ℕ) (runs : List (List Ran)) (number : ℕ)
    → counts_of frames workers runs (number + 1) ≡ counted (counts_of frames workers runs number) (fate_of frames workers runs number)
counts_next frames workers runs number = ap (λ n. counts_of frames workers runs n) (add-one number)

pub sent_next : (frames : List (List ℕ)) (workers : ℕ) (runs : List (List Ran)) (number : ℕ)
    → sent_of frames workers runs (number + 1) ≡ sent_of frames workers runs number ++ sent_by (fate_of frames workers runs number)
sent_next frames workers runs number = ap (λ n. sent_of frames workers runs n) (add-one number)

pub ends_next : (frames : List (List ℕ)) (workers : ℕ) (runs : List (List Ran)) (number : ℕ)
    → ends_of frames workers runs (number + 1) ≡ ends_of frames workers runs number
    ++ record_end (worker_of_frame (frame_at frames number) workers) (fate_of frames workers runs number) ∷ []
ends_next frames workers runs number = ap (λ n. ends_of frames workers runs n) (add-one number)
