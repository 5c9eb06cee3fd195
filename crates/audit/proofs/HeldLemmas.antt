-- What a worker holds follows from serials: that of its newest Enter or Leave, and those of the Lookups that found a cell.
use Rattle.std.proofs.Common.{◌≡◌, ◌⊎◌, inl, inr, ◌++◌, ℕ, zero, suc, ◌+◌, ◌==◌, ◌<◌, ◌≤◌, Bool, true, false, ◌||◌, cond, nat_lt, List, [], ◌∷◌, length, Some, arith, refl, sym, ◌∙◌, ap, subst}
use Rattle.std.specs.Prelude.{slice_get, slice_set, Result, Ok, Err}
use Rattle.std.specs.Result.{OnOk}
use Rattle.std.proofs.lemmas.Bool.Decides.{nat_tests}
use Rattle.std.proofs.lemmas.List.{length-set}
use Rattle.std.proofs.lemmas.Option.{slice_get_within}
use Rattle.semantics.specs.declared.call.Caller.{Caller}
use Rattle.semantics.specs.declared.call.Caller.TheVariants.{Worker}
use Rattle.semantics.specs.declared.call.HeldChange.{HeldChange}
use Rattle.semantics.specs.declared.call.HeldChange.TheVariants.{LetsGo, Finds, Stays}
use Rattle.semantics.specs.declared.call.Entry.{Entry}
use Rattle.semantics.specs.Reclamation.{is_worker, held_change, held_where, held_by, holds}
use Rattle.audit.specs.declared.held_cells.WorkerCells.{WorkerCells}
use Rattle.audit.specs.declared.held_cells.HeldCells.{HeldCells}
use Rattle.audit.specs.HeldCells.{serial_found, since_after, found_after, Tells, AreHeld}

not_later : (since serial bound : ℕ) → serial ≤ bound → since ≡ bound + 1 → nat_lt since serial ≡ false
not_later since serial bound within is = grind (arith, nat_tests)

later : (since serial bound : ℕ) → since ≤ bound → serial ≡ bound + 1 → nat_lt since serial ≡ true
later since serial bound within is = grind (arith, nat_tests)

-- an Enter or a Leave
begins_anew : (worker : ℕ) (entry : Entry) (history : List Entry) (old new : WorkerCells) → is_worker worker entry.who ≡ true
    → ((cell : ℕ) (before : Bool) → held_by entry.call entry.reply cell before ≡ false) → Tells worker history old
    → new.since ≡ length history + 1 → ((cell : ℕ) → serial_found new cell ≡ serial_found old cell) → Tells worker (entry ∷ history) new
begins_anew worker entry history old new own lets_go told since found = record {
  holding = (λ cell. not_later new.since (serial_found new cell) (length history) (rw (found cell) (told.found_within cell)) since
      ∙ sym (rw own (lets_go cell (holds worker cell history))));
  since_within = omega (arith, since);
  found_within = (λ cell. let within : serial_found old cell ≤ length history = told.found_within cell in rw (found cell) (omega (arith, within)));
}

-- a call that changes nothing of it
stays : (worker : ℕ) (entry : Entry) (history : List Entry) (old new : WorkerCells)
    → ((cell : ℕ) → holds worker cell (entry ∷ history) ≡ holds worker cell history) → Tells worker history old
    → new.since ≡ old.since → ((cell : ℕ) → serial_found new cell ≡ serial_found old cell) → Tells worker (entry ∷ history) new
stays worker entry history old new same told since found = record {
  holding = (λ cell. rw (since, found cell) (told.holding cell ∙ sym (same cell)));
  since_within = let within : old.since ≤ length history = told.since_within in rw since (omega (arith, within));
  found_within = (λ cell. let within : serial_found old cell ≤ length history = told.found_within cell in rw (found cell) (omega (arith, within)));
}

-- a Lookup that found a cell
finds : (worker : ℕ) (entry : Entry) (history : List Entry) (old new : WorkerCells) (id : ℕ) → is_worker worker entry.who ≡ true
    → ((cell : ℕ) (before : Bool) → held_by entry.call entry.reply cell before ≡ (id == cell || before)) → Tells worker history old
    → new.since ≡ old.since → ((cell : ℕ) → serial_found new cell ≡ cond (id == cell) (length history + 1) (serial_found old cell)) → Tells worker (entry ∷ history) new
finds worker entry history old new id own holding told since found = record {
  holding = (λ cell. rw (since, found cell) (by_test cell (id == cell) ∙ sym (rw own (holding cell (holds worker cell history)))));
  since_within = let within : old.since ≤ length history = told.since_within in rw since (omega (arith, within));
  found_within = (λ cell. rw (found cell) (within cell (id == cell)));
}
  where
    by_test : (cell : ℕ) (test : Bool) → nat_lt old.since (cond test (length history + 1) (serial_found old cell)) ≡ (test || holds worker cell history)
    by_test cell true = later old.since (length history + 1) (length history) told.since_within refl
    by_test cell false = told.holding cell

    within : (cell : ℕ) (test : Bool) → cond test (length history + 1) (serial_found old cell) ≤ suc (length history)
    within cell true = omega arith
    within cell false = let before : serial_found old cell ≤ length history = told.found_within cell in omega (arith, before)

own_stays : (worker : ℕ) (entry : Entry) (history : List Entry) (old new : WorkerCells) → is_worker worker entry.who ≡ true
    → ((cell : ℕ) (before : Bool) → held_by entry.call entry.reply cell before ≡ before) → Tells worker history old
    → new.since ≡ old.since → ((cell : ℕ) → serial_found new cell ≡ serial_found old cell) → Tells worker (entry ∷ history) new
own_stays worker entry history old new own keeps told since found =
    stays worker entry history old new (λ cell. rw own (keeps cell (holds worker cell history))) told since found

-- one entry more of the worker
own_noted : (worker : ℕ) (entry : Entry) (history : List Entry) (old new : WorkerCells) (change : HeldChange) (serial : ℕ) → is_worker worker entry.who ≡ true → held_change entry.call entry.reply ≡ change
    → serial ≡ length history + 1 → Tells worker history old → new.since ≡ since_after change serial old.since
    → ((cell : ℕ) → serial_found new cell ≡ found_after change serial cell (serial_found old cell)) → Tells worker (entry ∷ history) new
own_noted worker entry history old new LetsGo serial own is at told since found =
    begins_anew worker entry history old new own (λ cell before. ap (λ change. held_where change cell before) is) told (since ∙ at) found
own_noted worker entry history old new (Finds id) serial own is at told since found =
    finds worker entry history old new id own (λ cell before. ap (λ change. held_where change cell before) is) told since
    (λ cell. found cell ∙ ap (λ n. cond (id == cell) n (serial_found old cell)) at)
own_noted worker entry history old new Stays serial own is at told since found =
    own_stays worker entry history old new own (λ cell before. ap (λ change. held_where change cell before) is) told since found

-- one of another caller
other_noted : (worker : ℕ) (entry : Entry) (history : List Entry) (cells : WorkerCells) → is_worker worker entry.who ≡ false → Tells worker history cells → Tells worker (entry ∷ history) cells
other_noted worker entry history cells other told = stays worker entry history cells cells (λ cell. rw other refl) told refl (λ cell. refl)

-- nothing was noted
pub nothing_told : (worker : ℕ) (cells : WorkerCells) → cells.since ≡ 0 → cells.found.items ≡ [] → Tells worker [] cells
nothing_told worker cells since found = record {
  holding = (λ cell. rw (since, found) refl);
  since_within = omega (arith, since);
  found_within = (λ cell. rw found (omega arith));
}

-- ---- all workers

get_pushed : (xs : List WorkerCells) (pushed : WorkerCells) (i : ℕ) (found : WorkerCells) → slice_get (xs ++ pushed ∷ []) i ≡ Some found → (slice_get xs i ≡ Some found) ⊎ (pushed ≡ found)
get_pushed [] pushed zero found is = inr cc
get_pushed [] pushed (suc i) found is = absurd cc
get_pushed (x ∷ xs) pushed zero found is = inl is
get_pushed (x ∷ xs) pushed (suc i) found is = get_pushed xs pushed i found is

-- one worker more of whom nothing was noted
pub more_told : (xs ys : List WorkerCells) (pushed : WorkerCells) → ys ≡ xs ++ pushed ∷ [] → ((worker : ℕ) → Tells worker [] pushed)
    → ((worker : ℕ) (cells : WorkerCells) → slice_get xs worker ≡ Some cells → Tells worker [] cells) → (worker : ℕ) (cells : WorkerCells) → slice_get ys worker ≡ Some cells → Tells worker [] cells
more_told xs ys pushed is told each worker cells found =
    by (get_pushed xs pushed worker cells (ap (λ (items : List WorkerCells). slice_get items worker) (sym is) ∙ found)) where
      by : (slice_get xs worker ≡ Some cells) ⊎ (pushed ≡ cells) → Tells worker [] cells
      by (inl older) = each worker cells older
      by (inr same) = subst (Tells worker []) same (told worker)

get_set : (xs : List WorkerCells) (at : ℕ) (put : WorkerCells) (i : ℕ) (found : WorkerCells) → slice_get (slice_set xs at put) i ≡ Some found → ((i ≡ at) × (put ≡ found)) ⊎ ((i ≡ at → ⊥) × (slice_get xs i ≡ Some found))
get_set [] at put i found is = absurd cc
get_set (x ∷ xs) zero put zero found is = inl (refl, cc)
get_set (x ∷ xs) zero put (suc i) found is = inr ((λ e. omega (arith, e)), is)
get_set (x ∷ xs) (suc at) put zero found is = inr ((λ e. omega (arith, e)), is)
get_set (x ∷ xs) (suc at) put (suc i) found is = by (get_set xs at put i found is) where
  by : ((i ≡ at) × (put ≡ found)) ⊎ ((i ≡ at → ⊥) × (slice_get xs i ≡ Some found)) → ((suc i ≡ suc at) × (put ≡ found)) ⊎ ((suc i ≡ suc at → ⊥) × (slice_get xs i ≡ Some found))
  by (inl same) = inl (ap suc same.0, same.1)
  by (inr other) = inr ((λ e. other.0 (omega (arith, e))), other.1)

-- an entry of this worker
pub noted : (held after : HeldCells) (entry : Entry) (history : List Entry) (number : ℕ) (old new : WorkerCells) (change : HeldChange) (serial : ℕ) → entry.who ≡ Worker number
    → change ≡ held_change entry.call entry.reply → AreHeld held history → serial ≡ length history + 1
    → slice_get held.workers.items number ≡ Some old → after.workers.items ≡ slice_set held.workers.items number new
    → new.since ≡ since_after change serial old.since → ((cell : ℕ) → serial_found new cell ≡ found_after change serial cell (serial_found old cell)) → AreHeld after (entry ∷ history)
noted held after entry history number old new change serial who is_change are at old_is items since found = record {
  eight = ap length items ∙ length-set held.workers.items number new ∙ are.eight;
  each = (λ worker cells is. by worker cells (get_set held.workers.items number new worker cells (ap (λ (xs : List WorkerCells). slice_get xs worker) (sym items) ∙ is)));
}
  where
    itself : is_worker number entry.who ≡ true
    itself = rw who (grind (arith, nat_tests))

    other_worker : (worker : ℕ) → (worker ≡ number → ⊥) → is_worker worker entry.who ≡ false
    other_worker worker apart = rw who (by_test (number == worker) refl) where
      by_test : (test : Bool) → (number == worker) ≡ test → test ≡ false
      by_test true is = absurd (apart (grind (arith, nat_tests)))
      by_test false is = refl

    by : (worker : ℕ) (cells : WorkerCells) → ((worker ≡ number) × (new ≡ cells)) ⊎ ((worker ≡ number → ⊥) × (slice_get held.workers.items worker ≡ Some cells)) → Tells worker (entry ∷ history) cells
    by worker cells (inl same) =
        let here : Tells number (entry ∷ history) new = own_noted number entry history old new change serial itself (sym is_change) at (are.each number old old_is) since found in
        subst (λ (w : ℕ). Tells w (entry ∷ history) cells) (sym same.0) (subst (Tells number (entry ∷ history)) same.1 here)
    by worker cells (inr other) = other_noted worker entry history cells (other_worker worker other.0) (are.each worker cells other.1)

-- an entry of none of them
pub none_noted : (held : HeldCells) (entry : Entry) (history : List Entry) → ((worker : ℕ) → worker < 8 → is_worker worker entry.who ≡ false) → AreHeld held history → AreHeld held (entry ∷ history)
none_noted held entry history other are = record {
  eight = are.eight;
  each = (λ worker cells is.
      let within : worker < length held.workers.items = slice_get_within held.workers.items worker cells is in
      let eight : length held.workers.items ≡ 8 = are.eight in
      other_noted worker entry history cells (other worker (omega (arith, within, eight))) (are.each worker cells is));
}

-- what holds of both where a call succeeds
pub on_both : {T E A B C : Type 0} (r : Result T E) → OnOk r A → OnOk r B → (A → B → C) → OnOk r C
on_both (Ok x) one other both = both one other
on_both (Err e) one other both = tt

-- a worker's number is below 8
pub no_worker : (number : ℕ) (who : Caller) → who ≡ Worker number → 8 ≤ number → (worker : ℕ) → worker < 8 → is_worker worker who ≡ false
no_worker number who is least worker below = rw is (by_test (number == worker) refl) where
  by_test : (test : Bool) → (number == worker) ≡ test → test ≡ false
  by_test true same = absurd (let e : number ≡ worker = grind (arith, nat_tests) in omega (arith, e, least, below))
  by_test false same = refl
