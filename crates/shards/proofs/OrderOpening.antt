-- The seats of the order as it is opened: one account after another is dealt.
use Rattle.std.proofs.Common.{◌≡◌, ℕ, zero, suc, ◌+◌, ◌*◌, ◌<◌, List, [], ◌∷◌, length, drop, refl, sym, ap, ◌∙◌, subst, arith}
use Rattle.atomic_table.specs.Seated.{TableId}
use Rattle.atomic_table.specs.declared.badge.Badge.{Badge}
use Rattle.semantics.proofs.shared.EachLemmas.{within}
use Rattle.shards.specs.declared.deeds.OrderPart.TheVariants.{OnShard, ByCaller}
use Rattle.shards.specs.declared.deeds.Account.{Account}
use Rattle.shards.specs.LockRule.{caller_at}
use Rattle.shards.specs.OrderRule.{part_code, account, account_at, caller_accounts, first_accounts, AreOther, HaveDistinctParts, IsPlaced, ArePlaces, AreShardPlaces, AreCallerPlaces}
use Rattle.shards.proofs.Callers.{place_at}

-- ---- one account after another

pub rest_at : (v : List Account) (k : ℕ) → k < length v → drop k v ≡ account_at v k ∷ drop (suc k) v
rest_at [] k below = absurd (omega (arith, below))
rest_at (x ∷ xs) zero below = refl
rest_at (x ∷ xs) (suc k) below = rest_at xs k (omega (arith, below))

pub apart_at : (v : List Account) (k : ℕ) → k < length v → HaveDistinctParts v → AreOther (part_code (account_at v k).part) (drop (suc k) v)
apart_at [] k below are = absurd (omega (arith, below))
apart_at (x ∷ xs) zero below are = are.0
apart_at (x ∷ xs) (suc k) below are = apart_at xs k (omega (arith, below)) are.1

-- ---- the first accounts

callers_not_shards : (k place left : ℕ) → AreOther (2 * k) (caller_accounts place left)
callers_not_shards k place zero = tt
callers_not_shards k place (suc left) = ((λ same. omega (arith, same)), callers_not_shards k (suc place) left)

later_callers : (k place left : ℕ) → k < place → AreOther (suc (2 * k)) (caller_accounts place left)
later_callers k place zero below = tt
later_callers k place (suc left) below = (
  (λ same. let is = place_at place in omega (arith, same, is, below)),
  later_callers k (suc place) left (omega (arith, below)),
)

pub callers_apart : (place left : ℕ) → HaveDistinctParts (caller_accounts place left)
callers_apart place zero = tt
callers_apart place (suc left) = (
  subst (λ (k : ℕ). AreOther (suc (2 * k)) (caller_accounts (suc place) left)) (sym (place_at place)) (later_callers place (suc place) left (omega arith)),
  callers_apart (suc place) left,
)

later_shards : (k number left callers : ℕ) → k < number → AreOther (2 * k) (first_accounts number left callers)
later_shards k number zero callers below = callers_not_shards k 0 callers
later_shards k number (suc left) callers below = ((λ same. omega (arith, same, below)), later_shards k (suc number) left callers (omega (arith, below)))

pub first_apart : (number left callers : ℕ) → HaveDistinctParts (first_accounts number left callers)
first_apart number zero callers = callers_apart 0 callers
first_apart number (suc left) callers = (later_shards number (suc number) left callers (omega arith), first_apart (suc number) left callers)

pub callers_count : (place left : ℕ) → length (caller_accounts place left) ≡ left
callers_count place zero = refl
callers_count place (suc left) = ap suc (callers_count (suc place) left)

pub first_count : (number left callers : ℕ) → length (first_accounts number left callers) ≡ left + callers
first_count number zero callers = (let c = callers_count 0 callers in omega (arith, c))
first_count number (suc left) callers = (let rest = first_count (suc number) left callers in omega (arith, rest))

-- the callers' are behind the shards'
pub behind_shards : (number left callers : ℕ) → drop left (first_accounts number left callers) ≡ caller_accounts 0 callers
behind_shards number zero callers = refl
behind_shards number (suc left) callers = behind_shards (suc number) left callers

shard_account : (number left callers k : ℕ) → k < left → account_at (first_accounts number left callers) k ≡ account (OnShard (number + k)) []
shard_account number zero callers k below = absurd (omega (arith, below))
shard_account number (suc left) callers zero below = ap (λ (n : ℕ). account (OnShard n) []) (omega arith)
shard_account number (suc left) callers (suc k) below =
    shard_account (suc number) left callers k (omega (arith, below)) ∙ ap (λ (n : ℕ). account (OnShard n) []) (omega arith)

caller_account : (place left k : ℕ) → k < left → account_at (caller_accounts place left) k ≡ account (ByCaller (caller_at (place + k))) []
caller_account place zero k below = absurd (omega (arith, below))
caller_account place (suc left) zero below = ap (λ (n : ℕ). account (ByCaller (caller_at n)) []) (omega arith)
caller_account place (suc left) (suc k) below =
    caller_account (suc place) left k (omega (arith, below)) ∙ ap (λ (n : ℕ). account (ByCaller (caller_at n)) []) (omega arith)

pub shard_places : (table : TableId) (count callers : ℕ) (places : List (Badge (List Account))) → length places ≡ count →
    ArePlaces table (first_accounts 0 count callers) places → AreShardPlaces table places
shard_places table count callers places counted are j place there =
    subst (λ (one : Account). IsPlaced table one place)
    (shard_account 0 count callers (0 + j) (let below = within places j place there in omega (arith, below, counted)) ∙ ap (λ (n : ℕ). account (OnShard n) []) (omega arith)) (are j place there)

pub caller_places : (table : TableId) (callers : ℕ) (places : List (Badge (List Account))) → length places ≡ callers →
    ArePlaces table (caller_accounts 0 callers) places → AreCallerPlaces table places
caller_places table callers places counted are j place there =
    subst (λ (one : Account). IsPlaced table one place)
    (caller_account 0 callers (0 + j) (let below = within places j place there in omega (arith, below, counted)) ∙ ap (λ (n : ℕ). account (ByCaller (caller_at n)) []) (omega arith)) (are j place there)
