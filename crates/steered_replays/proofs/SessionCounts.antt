-- What a run's sessions add to the counts among its worker's own entries.
use Rattle.std.proofs.Common.{◌≡◌, ℕ, ◌+◌, ◌*◌, ◌<◌, ◌≤◌, ◌==◌, Bool, true, false, List, [], ◌∷◌, ◌++◌, refl, sym, ◌∙◌, ap, subst, arith, inl}
use Rattle.std.specs.Prelude.{reverse, map, if◌then◌else◌}
use Rattle.std.specs.List.{AllByRecursion, filter}
use Rattle.std.proofs.lemmas.List.{reverse-append}
use Rattle.std.proofs.lemmas.Bool.Decides.{nat_tests}
use Rattle.semantics.specs.declared.call.Entry.{Entry}
use Rattle.semantics.specs.History.{shard_of_call}
use Rattle.map_port.specs.Exchanges.{Exchange}
use Rattle.conntrack.specs.Steering.{SteeringSizes}
use Rattle.shards.specs.Passes.{PassView, own_at}
use Rattle.shard_port.specs.Asking.{leave_by}
use Rattle.shard_port.specs.PassSessions.{HasSessions, session_at}
use Rattle.shard_port.specs.Sessions.{exchange_entry, is_asked_of, exchange_entries, session}
use Rattle.steered_replays.specs.Counting.{IsCounting, AreCounting, raised, raised_by}
use Rattle.actors.proofs.shared.EveryEntry.{all_both, all_parts, all_reverse, all_reversed, all_session, in_session, each_exchange}
use Rattle.steered_replays.proofs.ResultCounts.{raised_on, IsFound, IsCountingIn}

raised_both : (cell : ℕ) (xs ys : List Entry) → raised cell (xs ++ ys) ≡ raised cell xs + raised cell ys
raised_both cell [] ys = omega arith
raised_both cell (x ∷ xs) ys = (let rest = raised_both cell xs ys in omega (arith, rest))

raised_reverse : (cell : ℕ) (xs : List Entry) → raised cell (reverse xs) ≡ raised cell xs
raised_reverse cell [] = refl
raised_reverse cell (x ∷ xs) =
    let rest : raised cell (reverse xs) ≡ raised cell xs = raised_reverse cell xs in
    let both : raised cell (reverse xs ++ x ∷ []) ≡ raised cell (reverse xs) + (raised_by cell x.call + 0) = raised_both cell (reverse xs) (x ∷ []) in
    ap (raised cell) (reverse-append (x ∷ []) xs) ∙ omega (arith, rest, both)

-- ---- a session

raised_session : (cell worker number : ℕ) (entries : List Entry) → raised cell (session worker number entries) ≡ raised cell entries
raised_session cell worker number [] = refl
raised_session cell worker number (first ∷ later) =
    let both : raised cell (later ++ leave_by worker number ∷ []) ≡ raised cell later + (0 + 0) = raised_both cell later (leave_by worker number ∷ []) in
    omega (arith, both)

raised_entries : (cell worker number : ℕ) (exchanges : List Exchange) → raised cell (exchange_entries worker number exchanges) ≡ raised_on number cell exchanges
raised_entries cell worker number [] = refl
raised_entries cell worker number (exchange ∷ later) =
    by (shard_of_call exchange.call == number) ∙ ap (λ n. (if shard_of_call exchange.call == number then raised_by cell exchange.call else 0) + n) (raised_entries cell worker number later)
  where
    by : (test : Bool) → raised cell (map (exchange_entry worker) (if test then exchange ∷ filter (is_asked_of number) later else filter (is_asked_of number) later))
        ≡ (if test then raised_by cell exchange.call else 0) + raised cell (exchange_entries worker number later)
    by true = refl
    by false = omega arith

-- what a run's exchanges raise, its worker's own entries have more
pub session_raises : (count worker : ℕ) (exchanges : List Exchange) (before after : PassView) → HasSessions count worker exchanges before after →
    (number cell : ℕ) → number < count → raised cell (own_at after number) ≡ raised_on number cell exchanges + raised cell (own_at before number)
session_raises count worker exchanges before after sessions number cell within =
    ap (raised cell) (sessions.written number within) ∙ raised_both cell (reverse (session_at worker number exchanges)) (own_at before number)
    ∙ ap (λ n. n + raised cell (own_at before number))
    (raised_reverse cell (session_at worker number exchanges) ∙ raised_session cell worker number (exchange_entries worker number exchanges)
    ∙ raised_entries cell worker number exchanges)

-- ---- what holds of entries, and of exchanges

-- what holds of the worker's own entries after a run holds of those before it
pub earlier_own : (P : Entry → Type 0) (count worker : ℕ) (exchanges : List Exchange) (before after : PassView) → HasSessions count worker exchanges before after →
    (number : ℕ) → number < count → AllByRecursion P (own_at after number) → AllByRecursion P (own_at before number)
earlier_own P count worker exchanges before after sessions number within all =
    (all_parts P (reverse (session_at worker number exchanges)) (own_at before number)
    (subst (λ (own : List Entry). AllByRecursion P own) (sessions.written number within) all)).1

own_exchanges : (P : Entry → Type 0) (count worker : ℕ) (exchanges : List Exchange) (before after : PassView) → HasSessions count worker exchanges before after →
    ((number : ℕ) → number < count → AllByRecursion P (own_at after number)) → AllByRecursion (λ (exchange : Exchange). P (exchange_entry worker exchange)) exchanges
own_exchanges P count worker exchanges before after sessions all =
    each_exchange (λ (shard : ℕ). P) count worker exchanges sessions.within
    (λ number within. in_session P worker number (exchange_entries worker number exchanges) (all_reversed P (session_at worker number exchanges)
    (all_parts P (reverse (session_at worker number exchanges)) (own_at before number)
    (subst (λ (own : List Entry). AllByRecursion P own) (sessions.written number within) (all number within))).0))

-- an entry in which a count that was looked up was found
abbrev pub IsFoundIn : SteeringSizes → Entry → Type 0
IsFoundIn sizes entry = IsFound sizes entry.call entry.reply

pub found_exchanges : (sizes : SteeringSizes) (count worker : ℕ) (exchanges : List Exchange) (before after : PassView) → HasSessions count worker exchanges before after →
    ((number : ℕ) → number < count → AllByRecursion (IsFoundIn sizes) (own_at after number)) →
    AllByRecursion (λ (exchange : Exchange). IsFound sizes exchange.call exchange.reply) exchanges
found_exchanges sizes count worker exchanges before after sessions all = own_exchanges (IsFoundIn sizes) count worker exchanges before after sessions all

-- ---- shards of counts

if_at : (sizes : SteeringSizes) (worker number : ℕ) → 5 * sizes.shards ≤ number → (exchange : Exchange) (rest : List Exchange) (test : Bool) →
    is_asked_of number exchange ≡ test → IsCountingIn sizes exchange → AreCounting (map (exchange_entry worker) rest) →
    AreCounting (map (exchange_entry worker) (if test then exchange ∷ rest else rest))
if_at sizes worker number past exchange rest true is here all =
    let same : shard_of_call exchange.call ≡ number = grind (arith, nat_tests) in (here (omega (arith, past, same)), all)
if_at sizes worker number past exchange rest false is here all = all

counting_entries : (sizes : SteeringSizes) (worker number : ℕ) → 5 * sizes.shards ≤ number → (exchanges : List Exchange) →
    AllByRecursion (IsCountingIn sizes) exchanges → AreCounting (exchange_entries worker number exchanges)
counting_entries sizes worker number past [] all = tt
counting_entries sizes worker number past (exchange ∷ later) all =
    if_at sizes worker number past exchange (filter (is_asked_of number) later) (is_asked_of number exchange) refl all.0
    (counting_entries sizes worker number past later all.1)

-- a run keeps a shard of counts what it is
pub stays_counting : (sizes : SteeringSizes) (count worker : ℕ) (exchanges : List Exchange) (before after : PassView) → HasSessions count worker exchanges before after →
    AllByRecursion (IsCountingIn sizes) exchanges → (number : ℕ) → number < count → 5 * sizes.shards ≤ number → AreCounting (own_at before number) →
    AreCounting (own_at after number)
stays_counting sizes count worker exchanges before after sessions counting number within past all =
    let P : Entry → Type 0 = (λ (entry : Entry). IsCounting entry.call) in
    subst AreCounting (sym (sessions.written number within))
    (all_both P (reverse (session_at worker number exchanges)) (own_at before number)
    (all_reverse P (session_at worker number exchanges)
    (all_session P worker number (exchange_entries worker number exchanges) (inl tt) (inl tt) (counting_entries sizes worker number past exchanges counting))) all)
