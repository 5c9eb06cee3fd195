-- What holds of every entry of lists that are put together, and taken apart.
use Rattle.std.proofs.Common.{◌≡◌, ℕ, ◌==◌, ◌<◌, Bool, true, false, List, [], ◌∷◌, ◌++◌, sym, subst, arith}
use Rattle.std.specs.Prelude.{reverse, map, if◌then◌else◌}
use Rattle.std.specs.List.{AllByRecursion, filter}
use Rattle.std.proofs.lemmas.List.{reverse-append}
use Rattle.std.proofs.lemmas.Bool.Decides.{nat_tests}
use Rattle.semantics.specs.declared.call.Entry.{Entry}
use Rattle.semantics.specs.History.{shard_of_call}
use Rattle.map_port.specs.Exchanges.{Exchange}
use Rattle.shard_port.specs.Asking.{enter_by, leave_by}
use Rattle.shard_port.specs.PassSessions.{AreCallsWithin}
use Rattle.shard_port.specs.Sessions.{exchange_entry, is_asked_of, exchange_entries, session}

module _ {A : Type 0} where
  pub all_both : (P : A → Type 0) (xs ys : List A) → AllByRecursion P xs → AllByRecursion P ys → AllByRecursion P (xs ++ ys)
  all_both P [] ys first second = second
  all_both P (x ∷ xs) ys first second = (first.0, all_both P xs ys first.1 second)

  pub all_parts : (P : A → Type 0) (xs ys : List A) → AllByRecursion P (xs ++ ys) → AllByRecursion P xs × AllByRecursion P ys
  all_parts P [] ys all = (tt, all)
  all_parts P (x ∷ xs) ys all = (let rest = all_parts P xs ys all.1 in ((all.0, rest.0), rest.1))

  pub all_reverse : (P : A → Type 0) (xs : List A) → AllByRecursion P xs → AllByRecursion P (reverse xs)
  all_reverse P [] all = tt
  all_reverse P (x ∷ xs) all =
      subst (λ (l : List A). AllByRecursion P l) (sym (reverse-append (x ∷ []) xs)) (all_both P (reverse xs) (x ∷ []) (all_reverse P xs all.1) (all.0, tt))

  pub all_reversed : (P : A → Type 0) (xs : List A) → AllByRecursion P (reverse xs) → AllByRecursion P xs
  all_reversed P [] all = tt
  all_reversed P (x ∷ xs) all =
      let parts = all_parts P (reverse xs) (x ∷ []) (subst (λ (l : List A). AllByRecursion P l) (reverse-append (x ∷ []) xs) all) in
      (parts.1.0, all_reversed P xs parts.0)

-- ---- a session

pub all_session : (P : Entry → Type 0) (worker number : ℕ) (entries : List Entry) → P (enter_by worker number) → P (leave_by worker number) →
    AllByRecursion P entries → AllByRecursion P (session worker number entries)
all_session P worker number [] enters leaves all = tt
all_session P worker number (first ∷ later) enters leaves all =
    (enters, (all.0, all_both P later (leave_by worker number ∷ []) all.1 (leaves, tt)))

pub in_session : (P : Entry → Type 0) (worker number : ℕ) (entries : List Entry) → AllByRecursion P (session worker number entries) →
    AllByRecursion P entries
in_session P worker number [] all = tt
in_session P worker number (first ∷ later) all = (all.1.0, (all_parts P later (leave_by worker number ∷ []) all.1.1).0)

-- ---- the entries of exchanges

if_at : (P : Entry → Type 0) (worker : ℕ) (exchange : Exchange) (rest : List Exchange) (test : Bool) → P (exchange_entry worker exchange) →
    AllByRecursion P (map (exchange_entry worker) rest) → AllByRecursion P (map (exchange_entry worker) (if test then exchange ∷ rest else rest))
if_at P worker exchange rest true here all = (here, all)
if_at P worker exchange rest false here all = all

pub all_entries : (P : Entry → Type 0) (worker number : ℕ) (exchanges : List Exchange) →
    AllByRecursion (λ (exchange : Exchange). P (exchange_entry worker exchange)) exchanges → AllByRecursion P (exchange_entries worker number exchanges)
all_entries P worker number [] all = tt
all_entries P worker number (exchange ∷ later) all =
    if_at P worker exchange (filter (is_asked_of number) later) (is_asked_of number exchange) all.0 (all_entries P worker number later all.1)

-- and back: what holds of the entries on each of this many shards holds of each exchange
rest_at : (P : Entry → Type 0) (worker : ℕ) (exchange : Exchange) (rest : List Exchange) (test : Bool) →
    AllByRecursion P (map (exchange_entry worker) (if test then exchange ∷ rest else rest)) → AllByRecursion P (map (exchange_entry worker) rest)
rest_at P worker exchange rest true all = all.1
rest_at P worker exchange rest false all = all

first_at : (P : Entry → Type 0) (worker : ℕ) (exchange : Exchange) (rest : List Exchange) (test : Bool) → test ≡ true →
    AllByRecursion P (map (exchange_entry worker) (if test then exchange ∷ rest else rest)) → P (exchange_entry worker exchange)
first_at P worker exchange rest true is all = all.0
first_at P worker exchange rest false is all = absurd cc

same_test : (a : ℕ) → (a == a) ≡ true
same_test a = grind (arith, nat_tests)

pub each_exchange : (P : ℕ → Entry → Type 0) (count worker : ℕ) (exchanges : List Exchange) → AreCallsWithin count exchanges →
    ((number : ℕ) → number < count → AllByRecursion (P number) (exchange_entries worker number exchanges)) →
    AllByRecursion (λ (exchange : Exchange). P (shard_of_call exchange.call) (exchange_entry worker exchange)) exchanges
each_exchange P count worker [] within all = tt
each_exchange P count worker (exchange ∷ later) within all =
    let number : ℕ = shard_of_call exchange.call in (
      first_at (P number) worker exchange (filter (is_asked_of number) later) (is_asked_of number exchange) (same_test number) (all number within.0),
      each_exchange P count worker later within.1
          (λ n below. rest_at (P n) worker exchange (filter (is_asked_of n) later) (is_asked_of n exchange) (all n below)),
    )
