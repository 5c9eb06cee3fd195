-- How the flags of who is inside follow the journal.
use Rattle.std.proofs.Common.{◌≡◌, ℕ, zero, suc, ◌<◌, ◌≤◌, Bool, true, false, List, [], ◌∷◌, length, Option, get_or, arith, refl, sym, ◌∙◌, ap}
use Rattle.std.proofs.lemmas.List.{set_past}
use Rattle.std.proofs.lemmas.Bool.Decides.{nat_tests}
use Rattle.std.specs.Prelude.{◌==◌, count_by, is_some, if◌then◌else◌, map, slice_set}
use Rattle.semantics.specs.declared.call.Caller.{Caller}
use Rattle.semantics.specs.declared.call.Caller.TheVariants.{Worker, Controller, Reclaimer}
use Rattle.semantics.specs.declared.call.Call.{Call}
use Rattle.semantics.specs.declared.call.Call.TheVariants.{Enter, Leave}
use Rattle.semantics.specs.declared.call.Reply.{Reply}
use Rattle.semantics.specs.declared.call.Entry.{Entry}
use Rattle.semantics.specs.Reclamation.{is_worker, entered_by, entered_at, is_inside, worker_numbers, inside_count}

-- of each worker, by its number, whether it is inside
abbrev pub inside_flags : List Entry → List Bool
inside_flags history = map (λ worker. is_inside worker history) worker_numbers

-- the flags with one worker's changed
abbrev pub with_flag : Caller → Bool → List Bool → List Bool
with_flag (Worker number) flag flags = slice_set flags number flag
with_flag who flag flags = flags

-- a call that neither begins nor ends a section changes no flag
abbrev pub KeepsSections : Call → Type 0
KeepsSections call = (place : ℕ) (before : Option ℕ) → entered_by call place before ≡ before

is_inside_kept : (worker : ℕ) (who : Caller) (call : Call) (reply : Reply) (older : List Entry) → KeepsSections call →
    is_inside worker (record { who = who; call = call; reply = reply } ∷ older) ≡ is_inside worker older
is_inside_kept worker who call reply older keeps = by_own (is_worker worker who)
  where
    by_own : (own : Bool) → is_some (if own then entered_by call (length older) (entered_at worker older) else entered_at worker
        older) ≡ is_some (entered_at worker older)
    by_own true = ap is_some (keeps (length older) (entered_at worker older))
    by_own false = refl

each_same : (f g : ℕ → Bool) → ((n : ℕ) → f n ≡ g n) → (ns : List ℕ) → map f ns ≡ map g ns
each_same f g same [] = refl
each_same f g same (n ∷ ns) = rw (same n) (rw (each_same f g same ns) refl)

pub inside_flags_kept : (who : Caller) (call : Call) (reply : Reply) (older : List Entry) → KeepsSections call →
    inside_flags (record { who = who; call = call; reply = reply } ∷ older) ≡ inside_flags older
inside_flags_kept who call reply older keeps =
    each_same (λ worker. is_inside worker (record { who = who; call = call; reply = reply } ∷ older)) (λ worker. is_inside worker older)
    (λ worker. is_inside_kept worker who call reply older keeps) worker_numbers

-- a worker that is none of the eight has no flag
is_inside_other : (worker number : ℕ) (call : Call) (reply : Reply) (older : List Entry) → (number == worker) ≡ false →
    is_inside worker (record { who = Worker number; call = call; reply = reply } ∷ older) ≡ is_inside worker older
is_inside_other worker number call reply older other = rw other refl

past_eight : (number : ℕ) (call : Call) (reply : Reply) (older : List Entry) → 8 ≤ number →
    inside_flags (record { who = Worker number; call = call; reply = reply } ∷ older) ≡ inside_flags older
past_eight number call reply older past =
    let other : (worker : ℕ) → worker < 8 → is_inside worker
    (record { who = Worker number; call = call; reply = reply } ∷ older) ≡ is_inside worker older =
    (λ worker below. is_inside_other worker number call reply older (grind (arith, nat_tests))) in
    rw (other 0 (omega arith)) (rw (other 1 (omega arith))
    (rw (other 2 (omega arith)) (rw (other 3 (omega arith))
    (rw (other 4 (omega arith)) (rw (other 5 (omega arith)) (rw (other 6 (omega arith)) (rw (other 7 (omega arith)) refl)))))))

-- an Enter sets its worker's flag, a Leave clears it
pub inside_flags_entered : (who : Caller) (shard : ℕ) (reply : Reply) (older : List Entry) →
    inside_flags (record { who = who; call = Enter shard; reply = reply } ∷ older) ≡ with_flag who true (inside_flags older)
inside_flags_entered Controller shard reply older = refl
inside_flags_entered Reclaimer shard reply older = refl
inside_flags_entered (Worker zero) shard reply older = refl
inside_flags_entered (Worker (suc zero)) shard reply older = refl
inside_flags_entered (Worker (suc (suc zero))) shard reply older = refl
inside_flags_entered (Worker (suc (suc (suc zero)))) shard reply older = refl
inside_flags_entered (Worker (suc (suc (suc (suc zero))))) shard reply older = refl
inside_flags_entered (Worker (suc (suc (suc (suc (suc zero)))))) shard reply older = refl
inside_flags_entered (Worker (suc (suc (suc (suc (suc (suc zero))))))) shard reply older = refl
inside_flags_entered (Worker (suc (suc (suc (suc (suc (suc (suc zero)))))))) shard reply older = refl
inside_flags_entered (Worker (suc (suc (suc (suc (suc (suc (suc (suc more))))))))) shard reply older =
    past_eight (suc (suc (suc (suc (suc (suc (suc (suc more)))))))) (Enter shard) reply older (omega arith) ∙
    sym (set_past (inside_flags older) (suc (suc (suc (suc (suc (suc (suc (suc more)))))))) true (omega arith))

pub inside_flags_left : (who : Caller) (shard : ℕ) (reply : Reply) (older : List Entry) →
    inside_flags (record { who = who; call = Leave shard; reply = reply } ∷ older) ≡ with_flag who false (inside_flags older)
inside_flags_left Controller shard reply older = refl
inside_flags_left Reclaimer shard reply older = refl
inside_flags_left (Worker zero) shard reply older = refl
inside_flags_left (Worker (suc zero)) shard reply older = refl
inside_flags_left (Worker (suc (suc zero))) shard reply older = refl
inside_flags_left (Worker (suc (suc (suc zero)))) shard reply older = refl
inside_flags_left (Worker (suc (suc (suc (suc zero))))) shard reply older = refl
inside_flags_left (Worker (suc (suc (suc (suc (suc zero)))))) shard reply older = refl
inside_flags_left (Worker (suc (suc (suc (suc (suc (suc zero))))))) shard reply older = refl
inside_flags_left (Worker (suc (suc (suc (suc (suc (suc (suc zero)))))))) shard reply older = refl
inside_flags_left (Worker (suc (suc (suc (suc (suc (suc (suc (suc more))))))))) shard reply older =
    past_eight (suc (suc (suc (suc (suc (suc (suc (suc more)))))))) (Leave shard) reply older (omega arith) ∙
    sym (set_past (inside_flags older) (suc (suc (suc (suc (suc (suc (suc (suc more)))))))) false (omega arith))

-- how many are inside is how many flags are set
pub inside_count-flags : (history : List Entry) → inside_count history ≡ count_by (λ flag. flag) (inside_flags history)
inside_count-flags history = refl

-- a worker's flag
pub inside_flags-at : (worker : ℕ) (history : List Entry) → worker < 8 →
    get_or (inside_flags history) worker false ≡ is_inside worker history
inside_flags-at zero history below = refl
inside_flags-at (suc zero) history below = refl
inside_flags-at (suc (suc zero)) history below = refl
inside_flags-at (suc (suc (suc zero))) history below = refl
inside_flags-at (suc (suc (suc (suc zero)))) history below = refl
inside_flags-at (suc (suc (suc (suc (suc zero))))) history below = refl
inside_flags-at (suc (suc (suc (suc (suc (suc zero)))))) history below = refl
inside_flags-at (suc (suc (suc (suc (suc (suc (suc zero))))))) history below = refl
inside_flags-at (suc (suc (suc (suc (suc (suc (suc (suc more)))))))) history below = absurd (omega arith)
