-- Callers by their numbers, and the entries of one when another makes a call.
use Rattle.std.proofs.Common.{◌≡◌, ◌≢◌, ℕ, zero, suc, List, ◌∷◌, true, false, cond, eq-eqb, ne_eqb, refl, ap}
use Rattle.semantics.specs.declared.call.Caller.{Caller}
use Rattle.semantics.specs.declared.call.Caller.TheVariants.{Worker, Controller, Reclaimer}
use Rattle.semantics.specs.declared.call.Entry.{Entry}
use Rattle.semantics.specs.CallerLaws.{is_caller, own_entries}
use Rattle.shards.specs.LockRule.{caller_at, caller_place}

pub place_at : (number : ℕ) → caller_place (caller_at number) ≡ number
place_at zero = refl
place_at (suc zero) = refl
place_at (suc (suc number)) = refl

pub is_own : (who : Caller) → is_caller who who ≡ true
is_own (Worker number) = eq-eqb number number refl
is_own Controller = refl
is_own Reclaimer = refl

pub is_other : (who other : Caller) → caller_place other ≢ caller_place who → is_caller who other ≡ false
is_other (Worker n) (Worker m) apart = ne_eqb m n (λ same. apart (ap (λ k. suc (suc k)) same))
is_other (Worker n) Controller apart = refl
is_other (Worker n) Reclaimer apart = refl
is_other Controller (Worker m) apart = refl
is_other Controller Controller apart = absurd (apart refl)
is_other Controller Reclaimer apart = refl
is_other Reclaimer (Worker m) apart = refl
is_other Reclaimer Controller apart = refl
is_other Reclaimer Reclaimer apart = absurd (apart refl)

-- the own entries of the one who makes the call
pub own_of_maker : (entry : Entry) (log : List Entry) → own_entries entry.who (entry ∷ log) ≡ entry ∷ own_entries entry.who log
own_of_maker entry log = ap (λ mine. cond mine (entry ∷ own_entries entry.who log) (own_entries entry.who log)) (is_own entry.who)

-- and of another
pub own_of_other : (who : Caller) (entry : Entry) (log : List Entry) → caller_place entry.who ≢ caller_place who → own_entries who (entry ∷ log) ≡ own_entries who log
own_of_other who entry log apart = ap (λ mine. cond mine (entry ∷ own_entries who log) (own_entries who log)) (is_other who entry.who apart)
