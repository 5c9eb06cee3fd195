-- What became of a record, by the place of its run among those of its worker.
use Rattle.std.proofs.Common.{◌≡◌, ◌≢◌, ℕ, zero, suc, ◌+◌, ◌<◌, ◌==◌, Bool, true, false, List, [], ◌∷◌, length, set, get_or, refl, sym, ap, ◌∙◌, subst, arith, add-one}
use Rattle.wire.specs.declared.records.Sent.{Sent}
use Rattle.std.specs.Prelude.{Vec, Some, slice_index}
use Rattle.std.proofs.lemmas.Bool.Decides.{nat_tests}
use Rattle.semantics.proofs.shared.EachLemmas.{or_set_here, or_set_else, set_count, found_or}
use Rattle.actors.specs.declared.runner.Ran.{Ran}
use Rattle.actors.specs.Shares.{frames_of, frame_at, is_short, worker_of_frame, is_handed, share}
use Rattle.actors.specs.RunJobs.{records_of}
use Rattle.actors.specs.Accounts.{lists_of, runs_at, end_at, AreRunsOfShares, AreNext}
use Rattle.actors.proofs.shared.ShareLemmas.{share_handed, share_not, handed_within}

equal_test : (m n : ℕ) → m ≡ n → (m == n) ≡ true
equal_test m n is = grind (arith, nat_tests)

other_test : (m n : ℕ) → m ≢ n → (m == n) ≡ false
other_test m n apart = grind (arith, nat_tests)

pub handed_own : (frames : List (List ℕ)) (workers worker number : ℕ) → is_short (frame_at frames number) ≡ false
    → worker_of_frame (frame_at frames number) workers ≡ worker → is_handed frames workers worker number ≡ true
handed_own frames workers worker number long own = rw long (equal_test _ _ own)

pub handed_other : (frames : List (List ℕ)) (workers worker number : ℕ) → is_short (frame_at frames number) ≡ false
    → worker_of_frame (frame_at frames number) workers ≢ worker → is_handed frames workers worker number ≡ false
handed_other frames workers worker number long apart = rw long (other_test _ _ apart)

pub end_there : (runs : List Ran) (place : ℕ) (ran : Ran) → place < length runs → ran ≡ get_or runs place ran → end_at runs place ≡ Some ran.end
end_there [] place ran below is = absurd (omega arith)
end_there (first ∷ later) zero ran below is = ap (λ (r : Ran). Some r.end) (sym is)
end_there (first ∷ later) (suc place) ran below is = end_there later place ran (omega arith) is

pub as_many : (runs : List Ran) → length (records_of runs) ≡ length runs
as_many [] = refl
as_many (first ∷ later) = ap suc (as_many later)

-- the run of a record that a worker was handed is there
pub run_within : (frames : List (List ℕ)) (workers count number : ℕ) (runs : List (List Ran)) → AreRunsOfShares frames workers count runs
    → is_short (frame_at frames number) ≡ false → worker_of_frame (frame_at frames number) workers < workers → number < count
    → length (share frames workers (worker_of_frame (frame_at frames number) workers) number) < length (runs_at runs (worker_of_frame (frame_at frames number) workers))
run_within frames workers count number runs are long below there =
    let worker = worker_of_frame (frame_at frames number) workers in
    let held = handed_own frames workers worker number long refl in
    let room = handed_within frames workers worker number count held there in
    let same = sym (as_many (runs_at runs worker)) ∙ ap (λ l. length l) (are worker below) in
    omega (arith, room, same)

pub next_long : (frames : List (List ℕ)) (workers number : ℕ) (next : List ℕ) (place : ℕ) → is_short (frame_at frames number) ≡ false
    → worker_of_frame (frame_at frames number) workers < workers
    → place ≡ slice_index next (worker_of_frame (frame_at frames number) workers)
    → AreNext frames workers number next
    → AreNext frames workers (suc number) (set next (worker_of_frame (frame_at frames number) workers) (place + 1))
next_long frames workers number next place long below is were = record {
  count = set_count next _ (place + 1) ∙ were.count;
  each = λ worker within. by_test worker within (worker_of_frame (frame_at frames number) workers == worker) refl;
} where
  own : ℕ
  own = worker_of_frame (frame_at frames number) workers

  by_test : (worker : ℕ) → worker < workers → (test : Bool) → (worker_of_frame (frame_at frames number) workers == worker) ≡ test
      → slice_index (set next (worker_of_frame (frame_at frames number) workers) (place + 1)) worker ≡ length (share frames workers worker (suc number))
  by_test worker within true same =
      let here : own ≡ worker = grind (arith, nat_tests) in
      ap (λ n. slice_index (set next n (place + 1)) worker) here
      ∙ or_set_here next worker (place + 1) 0 (let n = were.count in omega (arith, n, within))
      ∙ ap (λ n. n + 1) (is ∙ ap (slice_index next) here ∙ were.each worker within)
      ∙ sym (share_handed frames workers worker number (handed_own frames workers worker number long here))
  by_test worker within false apart =
      let other : own ≢ worker = grind (arith, nat_tests) in
      or_set_else next own worker (place + 1) 0 (λ same. other (sym same)) ∙ were.each worker within
      ∙ sym (share_not frames workers worker number (handed_other frames workers worker number long other))

pub frame_there : (records : List Sent) (number : ℕ) (sent : Sent) → number < length records → sent ≡ get_or records number sent
    → frame_at (frames_of records) number ≡ sent.bytes.items
frame_there [] number sent below is = absurd (omega arith)
frame_there (first ∷ later) zero sent below is = ap (λ (s : Sent). s.bytes.items) (sym is)
frame_there (first ∷ later) (suc number) sent below is = frame_there later number sent (omega arith) is

pub list_there : {A : Type 0} (runs : List (Vec Ran A)) (worker : ℕ) (list : Vec Ran A) → worker < length runs → list ≡ get_or runs worker list
    → runs_at (lists_of runs) worker ≡ list.items
list_there [] worker list below is = absurd (omega arith)
list_there {A} (first ∷ later) zero list below is = ap (λ (v : Vec Ran A). v.items) (sym is)
list_there (first ∷ later) (suc worker) list below is = list_there later worker list (omega arith) is

-- the next record is this worker's, and the place is that of its run
pub record IsNextAt (frames : List (List ℕ)) (workers count number : ℕ) (runs : List (List Ran)) (next : List ℕ) (worker place : ℕ) (list : List Ran) : Type 0
  where
    pub long : is_short (frame_at frames number) ≡ false
    pub who : worker_of_frame (frame_at frames number) workers ≡ worker
    pub below : worker < workers
    pub there : number < count
    pub are_runs : AreRunsOfShares frames workers count runs
    pub is_next : AreNext frames workers number next
    pub place_is : place ≡ slice_index next worker
    pub list_is : runs_at runs worker ≡ list

pub place_of : {frames : List (List ℕ)} {workers count number : ℕ} {runs : List (List Ran)} {next : List ℕ} {worker place : ℕ} {list : List Ran}
    → IsNextAt frames workers count number runs next worker place list → place ≡ length (share frames workers worker number)
place_of {worker = worker} at = at.place_is ∙ at.is_next.each worker at.below

pub place_within : (frames : List (List ℕ)) (workers count number : ℕ) (runs : List (List Ran)) (next : List ℕ) (worker place : ℕ) (list : List Ran)
    → IsNextAt frames workers count number runs next worker place list → place < length list
place_within frames workers count number runs next worker place list at =
    let Within : ℕ → Type 0 = λ w. length (share frames workers w number) < length (runs_at runs w) in
    let below : worker_of_frame (frame_at frames number) workers < workers = subst (λ w. w < workers) (sym at.who) at.below in
    let room : Within worker = subst Within at.who (run_within frames workers count number runs at.are_runs at.long below at.there) in
    let is = place_of at in
    let same = ap (λ (l : List Ran). length l) at.list_is in
    omega (arith, room, is, same)

pub next_after : (frames : List (List ℕ)) (workers count number : ℕ) (runs : List (List Ran)) (next : List ℕ) (worker place : ℕ) (list : List Ran)
    → IsNextAt frames workers count number runs next worker place list → AreNext frames workers (number + 1) (set next worker (place + 1))
next_after frames workers count number runs next worker place list at =
    let below : worker_of_frame (frame_at frames number) workers < workers = subst (λ w. w < workers) (sym at.who) at.below in
    subst (λ (y : ℕ × ℕ). AreNext frames workers y.0 (set next y.1 (place + 1))) (λ i. (sym (add-one number) i, at.who i))
    (next_long frames workers number next place at.long below (at.place_is ∙ ap (slice_index next) (sym at.who)) at.is_next)

pub next_at : {A : Type 0} (records : List Sent) (runs : List (Vec Ran A)) (number : ℕ) (sent : Sent) (next : List ℕ) (worker place : ℕ) (list : Vec Ran A)
    → number < length records → sent ≡ get_or records number sent → is_short sent.bytes.items ≡ false
    → worker ≡ worker_of_frame (frame_at (frames_of records) number) (length runs) → worker < length runs
    → AreRunsOfShares (frames_of records) (length runs) (length records) (lists_of runs) → AreNext (frames_of records) (length runs) number next
    → place ≡ get_or next worker place → list ≡ get_or runs worker list
    → IsNextAt (frames_of records) (length runs) (length records) number (lists_of runs) next worker place list.items
next_at records runs number sent next worker place list below found long who few are is_next place_is list_is =
    let there = frame_there records number sent below found in record {
      long = ap is_short there ∙ long;
      who = sym who;
      below = few;
      there = below;
      are_runs = are;
      is_next = is_next;
      place_is = found_or next worker place 0 (let n = is_next.count in omega (arith, n, few)) place_is;
      list_is = list_there runs worker list few list_is;
    }
