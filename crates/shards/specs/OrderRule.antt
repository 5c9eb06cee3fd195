-- The rule of the order: each part (a shard, a caller) has one account, which lies with one seat and is all deeds of this part in the
-- order. So who has the account of a shard and that of a caller can add what the caller does on the shard, and both know that nothing was
-- added in between. And who has the accounts of all callers knows the whole order so far: the order begins with it from then on, and any seat
-- may know that. So may it know that the order begins with all that was done so far, of which its own accounts are parts.
use Rattle.std.specs.Prelude.{◌≡◌, ◌≢◌, ℕ, zero, suc, ◌*◌, ◌<◌, List, [], ◌∷◌, ◌⊎◌, map, length, slice_index_or}
use Rattle.std.specs.List.{AllByRecursion}
use mathlib.Core.Option.{some}
use lib.ListN.{get_elem?}
use Rattle.atomic_table.specs.Seated.{TableId}
use Rattle.atomic_table.specs.Table.{State, Me}
use Rattle.atomic_table.specs.declared.badge.Badge.{Badge}
use Rattle.atomic_table.specs.declared.owned.Table.{Table}
use Rattle.atomic_table.specs.declared.shared.Seat.{Seat}
use Rattle.semantics.specs.declared.plan.ShardPlan.{ShardPlan}
use Rattle.semantics.specs.declared.call.Caller.TheVariants.{Controller}
use Rattle.semantics.specs.Each.{Each}
use Rattle.shards.specs.declared.deeds.Deed.{Deed}
use Rattle.shards.specs.declared.deeds.OrderPart.{OrderPart}
use Rattle.shards.specs.declared.deeds.OrderPart.TheVariants.{OnShard, ByCaller, AtFirst}
use Rattle.shards.specs.declared.deeds.Account.{Account}
use Rattle.shards.specs.declared.order_rule.OrderKey.{OrderKey}
use Rattle.shards.specs.Deeds.{caller_of_deed, deeds_of, AreMet, AreDeedsWithin, AreFirst}
use Rattle.shards.specs.GuardedView.{KeyedPlan}
use Rattle.shards.specs.LockRule.{caller_at, caller_place, no_plan, no_table}

-- parts by number; a beginning is nobody's own, and needs none
abbrev pub part_code : OrderPart → ℕ
part_code (OnShard number) = 2 * number
part_code (ByCaller who) = suc (2 * caller_place who)
part_code AtFirst = 0

abbrev pub plan_in : List ShardPlan → ℕ → ShardPlan
plan_in plans number = slice_index_or plans number no_plan

-- ---- the accounts

-- of a part with no deeds, and of one with these deeds alone
abbrev pub account : OrderPart → List Deed → Account
account part deeds = record { part = part; deeds = deeds }

abbrev pub caller_accounts : ℕ → ℕ → List Account
caller_accounts place zero = []
caller_accounts place (suc left) = account (ByCaller (caller_at place)) [] ∷ caller_accounts (suc place) left

-- of N shards from a number on, and then of N callers
abbrev pub first_accounts : ℕ → ℕ → ℕ → List Account
first_accounts number zero callers = caller_accounts 0 callers
first_accounts number (suc left) callers = account (OnShard number) [] ∷ first_accounts (suc number) left callers

abbrev pub all_others : List Account → List Account
all_others [] = []
all_others (one ∷ others) = others

abbrev pub first_alone : List Account → List Account
first_alone [] = []
first_alone (one ∷ others) = one ∷ []

abbrev pub with_first : List Account → List Account → List Account
with_first accounts [] = accounts
with_first accounts (one ∷ others) = one ∷ accounts

-- ---- the rule

-- each is a deed of one of N callers
abbrev pub AreByCallers : ℕ → List Deed → Type 0
AreByCallers callers deeds = AllByRecursion (λ (deed : Deed). caller_place (caller_of_deed deed) < callers) deeds

-- one seat has the account of a part
abbrev pub IsOwner : (ℕ → ℕ) → ℕ → OrderPart → Type 0
IsOwner owner id (OnShard number) = owner (part_code (OnShard number)) ≡ id
IsOwner owner id (ByCaller who) = owner (part_code (ByCaller who)) ≡ id
IsOwner owner id AtFirst = Unit {0}

-- a caller is one of N
abbrev pub IsPartBelow : ℕ → OrderPart → Type 0
IsPartBelow callers (OnShard number) = Unit {0}
IsPartBelow callers (ByCaller who) = caller_place who < callers
IsPartBelow callers AtFirst = Unit {0}

-- these deeds are the part of the order
abbrev pub IsPartOf : List Deed → OrderPart → List Deed → Type 0
IsPartOf all (OnShard number) deeds = deeds ≡ deeds_of (OnShard number) all
IsPartOf all (ByCaller who) deeds = deeds ≡ deeds_of (ByCaller who) all
IsPartOf all AtFirst deeds = AreFirst deeds all

pub record IsAccount (callers : ℕ) (owner : ℕ → ℕ) (all : List Deed) (id : ℕ) (one : Account) : Type 0 where
  pub own : IsOwner owner id one.part
  pub below : IsPartBelow callers one.part
  pub kept : IsPartOf all one.part one.deeds

abbrev pub AreAccounts : ℕ → (ℕ → ℕ) → List Deed → ℕ → List Account → Type 0
AreAccounts callers owner all id [] = Unit {0}
AreAccounts callers owner all id (one ∷ others) = IsAccount callers owner all id one × AreAccounts callers owner all id others

pub record IsOrderRuleKept {S : Type 0} (plans : List ShardPlan) (callers : ℕ) (s : State S (List Account)) : Type 0 where
  -- the order, newest first, and the seat that has the account of each part
  pub all : List Deed
  pub owner : ℕ → ℕ
  pub within : AreDeedsWithin (length plans) all
  pub by : AreByCallers callers all
  pub met : AreMet (plan_in plans) all
  pub fits : (id : ℕ) (v : List Account) → get_elem? s.views id ≡ some v → AreAccounts callers owner all id v

-- a seat without an account comes
abbrev pub MakesEmptySeat : {S : Type 0} → Me S (List Account) → Type 0
MakesEmptySeat w = w ≡ ([], [])

-- a deed is added to the order, and to each account of the seat
abbrev pub noted : Deed → List Account → List Account
noted deed accounts = map (λ (one : Account). account one.part (deed ∷ one.deeds)) accounts

abbrev pub AddsDeed : {S : Type 0} → Deed → Me S (List Account) → Me S (List Account) → Type 0
AddsDeed deed v w = w ≡ (noted deed v.0, v.1)

-- ---- the whole order

-- the accounts of the first callers, the last of them first: the controller has these deeds, and the N others none
abbrev pub callers_down : ℕ → List Deed → List Account
callers_down zero deeds = account (ByCaller Controller) deeds ∷ []
callers_down (suc count) deeds = account (ByCaller (caller_at (suc count))) [] ∷ callers_down count deeds

abbrev pub last_deeds : List Account → List Deed
last_deeds [] = []
last_deeds (one ∷ []) = one.deeds
last_deeds (one ∷ other ∷ more) = last_deeds (other ∷ more)

-- who has the accounts of all callers, the controller's last, learns that the order begins with what the controller did
abbrev pub SeesFirst : {S : Type 0} → Me S (List Account) → Me S (List Account) → Type 0
SeesFirst v w = w ≡ (account AtFirst (last_deeds v.0) ∷ v.0, v.1)

-- each account is its part of this order
abbrev pub AreParts : List Deed → List Account → Type 0
AreParts all [] = Unit {0}
AreParts all (one ∷ others) = IsPartOf all one.part one.deeds × AreParts all others

-- a seat learns that the order begins with all that was done so far, of which its accounts are parts
abbrev pub SeesSoFar : {S : Type 0} → Me S (List Account) → Me S (List Account) → Type 0
SeesSoFar v w = (all : List Deed) × AreParts all v.0 × (w ≡ (account AtFirst all ∷ v.0, v.1))

-- a seat comes that knows a beginning without deeds
abbrev pub BringsNothing : {S : Type 0} → Me S (List Account) → Type 0
BringsNothing w = w ≡ (account AtFirst [] ∷ [], [])

-- ---- seats with one account

abbrev pub account_deeds : List Account → List Deed
account_deeds [] = []
account_deeds (one ∷ others) = one.deeds

abbrev pub deeds_viewed : List (List Account) → List Deed
deeds_viewed [] = []
deeds_viewed (accounts ∷ others) = account_deeds accounts

-- and of a seat that rests
abbrev pub deeds_at : Badge (List Account) → List Deed
deeds_at place = deeds_viewed place.views

abbrev pub IsPlaceOf : TableId → OrderPart → Badge (List Account) → Type 0
IsPlaceOf table part place = (place.table_id ≡ table) × (place.views ≡ (account part (deeds_at place) ∷ []) ∷ [])

abbrev pub IsSeatFor : {S : Type 0} → TableId → OrderPart → Seat S (List Account) → Type 0
IsSeatFor table part seat = (seat.table_id ≡ table) × (seat.me ≡ (account part (account_deeds seat.me.0) ∷ [], []))

-- a seat with this account rests in the place
pub record IsPlaced (table : TableId) (one : Account) (place : Badge (List Account)) : Type 0 where
  pub table_is : place.table_id ≡ table
  pub knows : place.views ≡ (one ∷ []) ∷ []

-- that of a part with no deeds
abbrev pub IsFresh : TableId → OrderPart → Badge (List Account) → Type 0
IsFresh table part place = IsPlaced table (account part []) place

abbrev pub no_order_place : Badge (List Account)
no_order_place = record { marker = record {}; table_id = no_table; id = 0; views = [] }

abbrev pub order_place_at : List (Badge (List Account)) → ℕ → Badge (List Account)
order_place_at places number = slice_index_or places number no_order_place

-- of N callers the seats of all but the first wait in their places, and nothing was done by them
abbrev pub AreWaiting : TableId → ℕ → List (Badge (List Account)) → Type 0
AreWaiting table callers places = (place : ℕ) → 0 < place → place < callers →
    (place < length places) × IsFresh table (ByCaller (caller_at place)) (order_place_at places place)

-- the accounts of N callers, of which the controller did this, and the others nothing
abbrev pub HasAllOf : {S : Type 0} → ℕ → List Deed → Me S (List Account) → Type 0
HasAllOf callers deeds me = (others : ℕ) → callers ≡ suc others → me ≡ (callers_down others deeds, [])

-- the account at a place
abbrev pub account_at : List Account → ℕ → Account
account_at accounts place = slice_index_or accounts place (account (OnShard 0) [])

-- the part of this number is another
abbrev pub IsOther : ℕ → OrderPart → Type 0
IsOther code (OnShard number) = part_code (OnShard number) ≢ code
IsOther code (ByCaller who) = part_code (ByCaller who) ≢ code
IsOther code AtFirst = Unit {0}

-- the parts of accounts are not the same twice
abbrev pub AreOther : ℕ → List Account → Type 0
AreOther code [] = Unit {0}
AreOther code (one ∷ others) = IsOther code one.part × AreOther code others

abbrev pub HaveDistinctParts : List Account → Type 0
HaveDistinctParts [] = Unit {0}
HaveDistinctParts (one ∷ others) = AreOther (part_code one.part) others × HaveDistinctParts others

-- each account lies in its place
abbrev pub ArePlaces : TableId → List Account → List (Badge (List Account)) → Type 0
ArePlaces table accounts places =
    Each (λ (number : ℕ) (place : Badge (List Account)). IsPlaced table (account_at accounts number) place) 0 places

abbrev pub AreShardPlaces : TableId → List (Badge (List Account)) → Type 0
AreShardPlaces table places = Each (λ (number : ℕ) (place : Badge (List Account)). IsFresh table (OnShard number) place) 0 places

abbrev pub AreCallerPlaces : TableId → List (Badge (List Account)) → Type 0
AreCallerPlaces table places =
    Each (λ (number : ℕ) (place : Badge (List Account)). IsFresh table (ByCaller (caller_at number)) place) 0 places

-- ---- the order's table

-- it has this name, and knows the plans of N shards, and how many callers there are
pub record IsOrderOf {S P A : Type 0} (table : TableId) (plan : ℕ → ShardPlan) (count callers : ℕ)
    (order : Table S (List Account) OrderKey P A) : Type 0 where
  pub table_is : order.shared.table_id ≡ table
  pub some_word : 0 < table.words
  pub no_slot : table.slots ≡ 0
  pub sized : length order.shared.key.plans.items ≡ count
  pub plans : (number : ℕ) → number < count → plan_in order.shared.key.plans.items number ≡ plan number
  pub callers_are : order.shared.key.callers ≡ callers

-- it is the order of a shard with this key, whose plan it knows
pub record KnowsShard {S P A : Type 0} (key : KeyedPlan) (order : Table S (List Account) OrderKey P A) : Type 0 where
  pub table_is : order.shared.table_id ≡ key.order
  pub some_word : 0 < key.order.words
  pub within : key.plan.number < length order.shared.key.plans.items
  pub plan_is : plan_in order.shared.key.plans.items key.plan.number ≡ key.plan

-- ---- its end

abbrev pub IsOneOfAccounts : Account → List Account → Type 0
IsOneOfAccounts one [] = ⊥
IsOneOfAccounts one (other ∷ others) = (other ≡ one) ⊎ IsOneOfAccounts one others

-- one list of deeds of N callers; each of these accounts is a part of it
pub record IsEnd (plans : List ShardPlan) (callers : ℕ) (accounts : List Account) : Type 0 where
  pub all : List Deed
  pub within : AreDeedsWithin (length plans) all
  pub by : AreByCallers callers all
  pub met : AreMet (plan_in plans) all
  pub each : (one : Account) → IsOneOfAccounts one accounts → IsPartOf all one.part one.deeds
