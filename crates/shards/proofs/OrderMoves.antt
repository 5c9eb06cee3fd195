-- Each step on the order keeps its rule.
use Rattle.std.proofs.Common.{◌≡◌, ◌≢◌, ℕ, zero, suc, ◌+◌, ◌*◌, ◌<◌, ◌≤◌, ◌==◌, cond, Bool, List, [], ◌∷◌, ◌++◌, length, set, true, false, refl, sym, ap, ◌∙◌, subst, ⊎_elim, arith, eq-eqb, ne_eqb, append-nil}
use Rattle.std.specs.Prelude.{slice_index}
use mathlib.Core.Option.{some, some-ne-none, some-injective}
use lib.ListN.{get_elem?}
use Rattle.atomic_table.specs.Table.{Allows, Splits, Joins, Enters, Final, Seen, Me, keeps, State, stepped, opening}
use Rattle.atomic_table.proofs.Lists.{at_set}
use Rattle.atomic_table.specs.declared.badge.Badge.{Badge}
use Rattle.semantics.proofs.shared.EachLemmas.{at_snoc}
use Rattle.semantics.specs.declared.call.Caller.{Caller}
use Rattle.semantics.specs.declared.call.Call.{Call}
use Rattle.semantics.specs.declared.call.Entry.{Entry}
use Rattle.semantics.specs.declared.plan.ShardPlan.{ShardPlan}
use Rattle.semantics.specs.History.{shard_of_call}
use Rattle.shards.specs.declared.deeds.Deed.{Deed}
use Rattle.shards.specs.declared.deeds.Deed.TheVariants.{Wrote, MetFull}
use Rattle.shards.specs.declared.deeds.OrderPart.{OrderPart}
use Rattle.shards.specs.declared.deeds.OrderPart.TheVariants.{OnShard, ByCaller, AtFirst}
use Rattle.shards.specs.declared.deeds.Account.{Account}
use Rattle.shards.specs.Deeds.{shard_of_deed, caller_of_deed, is_deed_of, deeds_of, entries_made, made_on, IsMetBehind}
use Rattle.shards.specs.OrderRule.{part_code, plan_in, account, caller_accounts, first_accounts, all_others, first_alone, with_first, IsOther, AreOther, account_deeds, deeds_viewed, deeds_at, IsOwner, IsPartOf, IsAccount, AreAccounts, IsOrderRuleKept, IsEnd, IsOneOfAccounts, noted, AddsDeed, MakesEmptySeat, BringsNothing}
use Rattle.shards.proofs.Callers.{is_own, is_other, place_at}
use Rattle.shards.proofs.Moves.{moved, moved_here, moved_else}

abbrev pub All : (ℕ → List Account → Type 0) → List (List Account) → Type 0
All F views = (id : ℕ) (v : List Account) → get_elem? views id ≡ some v → F id v

pub all_set : (F : ℕ → List Account → Type 0) (views : List (List Account)) (id : ℕ) (w : List Account) → F id w →
    ((j : ℕ) (u : List Account) → j ≢ id → get_elem? views j ≡ some u → F j u) → All F (set views id w)
all_set F views id w mine others j u e = ⊎_elim (λ (x : (j ≡ id) × (w ≡ u)). subst (λ (y : ℕ × List Account). F y.0 y.1) (λ i. (sym x.0 i, x.1 i)) mine)
    (λ (x : (j ≢ id) × (get_elem? views j ≡ some u)). others j u x.0 x.1) (at_set views id j w u e)

all_push : (F : ℕ → List Account → Type 0) (views : List (List Account)) (w : List Account) → All F views → F (length views) w → All F (views ++ w ∷ [])
all_push F views w were mine j u e = ⊎_elim (λ x. were j u x)
    (λ (x : (j ≡ length views) × (w ≡ u)). subst (λ (y : ℕ × List Account). F y.0 y.1) (λ i. (sym x.0 i, x.1 i)) mine) (at_snoc views w u j e)

-- ---- accounts of other parts

-- a part moves, and another stays
owner_stays : (owner : ℕ → ℕ) (code new id : ℕ) (part : OrderPart) → IsOther code part → IsOwner owner id part → IsOwner (moved owner code new) id part
owner_stays owner code new id (OnShard number) apart own = moved_else owner code new (part_code (OnShard number)) apart ∙ own
owner_stays owner code new id (ByCaller who) apart own = moved_else owner code new (part_code (ByCaller who)) apart ∙ own
owner_stays owner code new id AtFirst apart own = tt

-- a part moves, and these stay
others_stay : (callers : ℕ) (owner : ℕ → ℕ) (all : List Deed) (code id new : ℕ) (v : List Account) → AreOther code v → AreAccounts callers owner all id v →
    AreAccounts callers (moved owner code new) all id v
others_stay callers owner all code id new [] apart are = tt
others_stay callers owner all code id new (one ∷ others) apart are = (
  record { own = owner_stays owner code new id one.part apart.0 are.0.own; below = are.0.below; kept = are.0.kept },
  others_stay callers owner all code id new others apart.1 are.1,
)

-- accounts of a seat that does not have this part
part_elsewhere : (owner : ℕ → ℕ) (code id : ℕ) (part : OrderPart) → owner code ≢ id → IsOwner owner id part → IsOther code part
part_elsewhere owner code id (OnShard number) apart own = λ same. apart (ap owner (sym same) ∙ own)
part_elsewhere owner code id (ByCaller who) apart own = λ same. apart (ap owner (sym same) ∙ own)
part_elsewhere owner code id AtFirst apart own = tt

elsewhere : (callers : ℕ) (owner : ℕ → ℕ) (all : List Deed) (code id : ℕ) (v : List Account) → owner code ≢ id → AreAccounts callers owner all id v → AreOther code v
elsewhere callers owner all code id [] apart are = tt
elsewhere callers owner all code id (one ∷ others) apart are =
    (part_elsewhere owner code id one.part apart are.0.own, elsewhere callers owner all code id others apart are.1)

-- a part comes to the seat that has these
moves_here : (owner : ℕ → ℕ) (code id other : ℕ) (b : Bool) → (other == code) ≡ b → owner other ≡ id → moved owner code id other ≡ id
moves_here owner code id other true is own = ap (λ (c : Bool). cond c id (owner other)) is
moves_here owner code id other false is own = ap (λ (c : Bool). cond c id (owner other)) is ∙ own

owner_joined : (owner : ℕ → ℕ) (code id : ℕ) (part : OrderPart) → IsOwner owner id part → IsOwner (moved owner code id) id part
owner_joined owner code id (OnShard number) own = moves_here owner code id (part_code (OnShard number)) (part_code (OnShard number) == code) refl own
owner_joined owner code id (ByCaller who) own = moves_here owner code id (part_code (ByCaller who)) (part_code (ByCaller who) == code) refl own
owner_joined owner code id AtFirst own = tt

joins_them : (callers : ℕ) (owner : ℕ → ℕ) (all : List Deed) (code id : ℕ) (v : List Account) → AreAccounts callers owner all id v →
    AreAccounts callers (moved owner code id) all id v
joins_them callers owner all code id [] are = tt
joins_them callers owner all code id (one ∷ others) are = (
  record { own = owner_joined owner code id one.part are.0.own; below = are.0.below; kept = are.0.kept },
  joins_them callers owner all code id others are.1,
)

-- ---- the opening

shards_nothing : (callers id number : ℕ) → IsAccount callers (λ _. id) [] id (account (OnShard number) [])
shards_nothing callers id number = record { own = refl; below = tt; kept = refl }

callers_begin : (callers place left : ℕ) → place + left ≤ callers → AreAccounts callers (λ _. 0) [] 0 (caller_accounts place left)
callers_begin callers place zero few = tt
callers_begin callers place (suc left) few = (
  record { own = refl; below = (let is = place_at place in omega (arith, is, few)); kept = refl },
  callers_begin callers (suc place) left (omega (arith, few)),
)

all_begin : (callers number left : ℕ) → AreAccounts callers (λ _. 0) [] 0 (first_accounts number left callers)
all_begin callers number zero = callers_begin callers 0 callers (omega arith)
all_begin callers number (suc left) = (shards_nothing callers 0 number, all_begin callers (suc number) left)

pub order_begins : {S : Type 0} (plans : List ShardPlan) (words : List ℕ) (slots : List S) (callers : ℕ) →
    IsOrderRuleKept plans callers (opening words slots (first_accounts 0 (length plans) callers))
order_begins plans words slots callers = record { all = []; owner = λ _. 0; within = tt; by = tt; met = tt; fits = one } where
  one : (id : ℕ) (v : List Account) → get_elem? (first_accounts 0 (length plans) callers ∷ []) id ≡ some v → AreAccounts callers (λ _. 0) [] id v
  one zero v e = subst (AreAccounts callers (λ _. 0) [] 0) (some-injective _ _ e) (all_begin callers 0 (length plans))
  one (suc id) v e = absurd (some-ne-none v (sym e))

-- ---- seats

-- that one seat has the account of a part is said by the part's number
pub record IsNumbered (part : OrderPart) : Type 0 where
  pub to : (owner : ℕ → ℕ) (id : ℕ) → IsOwner owner id part → owner (part_code part) ≡ id
  pub from : (owner : ℕ → ℕ) (id : ℕ) → owner (part_code part) ≡ id → IsOwner owner id part

shard_numbered : (number : ℕ) → IsNumbered (OnShard number)
shard_numbered number = record { to = λ owner id own. own; from = λ owner id own. own }

caller_numbered : (who : Caller) → IsNumbered (ByCaller who)
caller_numbered who = record { to = λ owner id own. own; from = λ owner id own. own }

-- the first account goes to a new seat
deals_numbered : {S : Type 0} (plans : List ShardPlan) (callers id : ℕ) (part : OrderPart) (deeds : List Deed) (v : List Account) → IsNumbered part →
    AreOther (part_code part) v → Splits {S = S} (IsOrderRuleKept plans callers) id (account part deeds ∷ v) v (account part deeds ∷ [])
deals_numbered plans callers id part deeds v numbered apart s h at =
    let are = h.fits id (account part deeds ∷ v) at in
    let new : ℕ = length (set s.views id v) in
    let owner' = moved h.owner (part_code part) new in
    let F : ℕ → List Account → Type 0 = AreAccounts callers owner' h.all in record {
      all = h.all;
      owner = owner';
      within = h.within;
      by = h.by;
      met = h.met;
      fits = all_push F (set s.views id v) (account part deeds ∷ [])
          (all_set F s.views id v (others_stay callers h.owner h.all (part_code part) id new v apart are.1)
          (λ j u other e. others_stay callers h.owner h.all (part_code part) j new u
          (elsewhere callers h.owner h.all (part_code part) j u (λ same. other (sym same ∙ numbered.to h.owner id are.0.own)) (h.fits j u e)) (h.fits j u e)))
          (record { own = numbered.from owner' new (moved_here h.owner (part_code part) new); below = are.0.below; kept = are.0.kept }, tt);
    }

deals_beginning : {S : Type 0} (plans : List ShardPlan) (callers id : ℕ) (deeds : List Deed) (v : List Account) →
    Splits {S = S} (IsOrderRuleKept plans callers) id (account AtFirst deeds ∷ v) v (account AtFirst deeds ∷ [])
deals_beginning plans callers id deeds v s h at =
    let are = h.fits id (account AtFirst deeds ∷ v) at in
    let F : ℕ → List Account → Type 0 = AreAccounts callers h.owner h.all in record {
      all = h.all;
      owner = h.owner;
      within = h.within;
      by = h.by;
      met = h.met;
      fits = all_push F (set s.views id v) (account AtFirst deeds ∷ []) (all_set F s.views id v are.1 (λ j u other e. h.fits j u e))
          (record { own = tt; below = tt; kept = are.0.kept }, tt);
    }

deals_part : {S : Type 0} (plans : List ShardPlan) (callers id : ℕ) (part : OrderPart) (deeds : List Deed) (v : List Account) → AreOther (part_code part) v →
    Splits {S = S} (IsOrderRuleKept plans callers) id (account part deeds ∷ v) v (account part deeds ∷ [])
deals_part {S} plans callers id (OnShard number) deeds v apart = deals_numbered {S = S} plans callers id (OnShard number) deeds v (shard_numbered number) apart
deals_part {S} plans callers id (ByCaller who) deeds v apart = deals_numbered {S = S} plans callers id (ByCaller who) deeds v (caller_numbered who) apart
deals_part {S} plans callers id AtFirst deeds v apart = deals_beginning {S = S} plans callers id deeds v

pub deals_first : {S : Type 0} (plans : List ShardPlan) (callers id : ℕ) (one : Account) (v : List Account) → AreOther (part_code one.part) v →
    Splits {S = S} (IsOrderRuleKept plans callers) id (one ∷ v) v (one ∷ [])
deals_first {S} plans callers id one v apart = deals_part {S = S} plans callers id one.part one.deeds v apart

-- a seat with nothing comes
pub order_comes : {S : Type 0} (plans : List ShardPlan) (callers slots : ℕ) →
    Enters {S = S} (IsOrderRuleKept plans callers) slots 0 (λ n w. MakesEmptySeat {S = S} (w, []))
order_comes plans callers slots s h l fits = (
  [],
  record {
    all = h.all;
    owner = h.owner;
    within = h.within;
    by = h.by;
    met = h.met;
    fits = all_push (AreAccounts callers h.owner h.all) s.views [] h.fits tt;
  },
  refl,
)

-- and one that knows that the order begins with nothing
pub beginning_comes : {S : Type 0} (plans : List ShardPlan) (callers slots : ℕ) →
    Enters {S = S} (IsOrderRuleKept plans callers) slots 0 (λ n w. BringsNothing {S = S} (w, []))
beginning_comes plans callers slots s h l fits = (
  account AtFirst [] ∷ [],
  record {
    all = h.all;
    owner = h.owner;
    within = h.within;
    by = h.by;
    met = h.met;
    fits = all_push (AreAccounts callers h.owner h.all) s.views (account AtFirst [] ∷ []) h.fits
        (record { own = tt; below = tt; kept = (h.all, sym (append-nil h.all)) }, tt);
  },
  refl,
)

-- a seat takes in the one account of another
takes_numbered : {S : Type 0} (plans : List ShardPlan) (callers id : ℕ) (v : List Account) (other : ℕ) (part : OrderPart) (deeds : List Deed) → IsNumbered part →
    Joins {S = S} (IsOrderRuleKept plans callers) id v other (account part deeds ∷ []) (account part deeds ∷ v) []
takes_numbered plans callers id v other part deeds numbered s h at apart there =
    let one : Account = account part deeds in
    let was : get_elem? s.views other ≡ some (one ∷ []) = ⊎_elim (λ x. absurd (apart x.0)) (λ x. x.1) (at_set s.views id other (one ∷ v) (one ∷ []) there) in
    let theirs = (h.fits other (one ∷ []) was).0 in
    let code : ℕ = part_code part in
    let owner' = moved h.owner code id in
    let F : ℕ → List Account → Type 0 = AreAccounts callers owner' h.all in
    let Now : ℕ → List Account → Type 0 = λ j y. j ≢ other → F j y in
    let now : All Now (set s.views id (one ∷ v)) = all_set Now s.views id (one ∷ v)
    (λ _. (record { own = numbered.from owner' id (moved_here h.owner code id); below = theirs.below; kept = theirs.kept }, joins_them callers h.owner h.all code id v (h.fits id v at)))
    (λ j u not_id e not_other. others_stay callers h.owner h.all code j id u
    (elsewhere callers h.owner h.all code j u (λ same. not_other (sym same ∙ numbered.to h.owner other theirs.own)) (h.fits j u e)) (h.fits j u e)) in record {
      all = h.all;
      owner = owner';
      within = h.within;
      by = h.by;
      met = h.met;
      fits = all_set F (set s.views id (one ∷ v)) other [] tt (λ j u not_other e. now j u e not_other);
    }

takes_beginning : {S : Type 0} (plans : List ShardPlan) (callers id : ℕ) (v : List Account) (other : ℕ) (deeds : List Deed) →
    Joins {S = S} (IsOrderRuleKept plans callers) id v other (account AtFirst deeds ∷ []) (account AtFirst deeds ∷ v) []
takes_beginning plans callers id v other deeds s h at apart there =
    let one : Account = account AtFirst deeds in
    let was : get_elem? s.views other ≡ some (one ∷ []) = ⊎_elim (λ x. absurd (apart x.0)) (λ x. x.1) (at_set s.views id other (one ∷ v) (one ∷ []) there) in
    let theirs = (h.fits other (one ∷ []) was).0 in
    let F : ℕ → List Account → Type 0 = AreAccounts callers h.owner h.all in
    let now : All F (set s.views id (one ∷ v)) = all_set F s.views id (one ∷ v) (record { own = tt; below = tt; kept = theirs.kept }, h.fits id v at) (λ j u not_id e. h.fits j u e) in
    record {
      all = h.all;
      owner = h.owner;
      within = h.within;
      by = h.by;
      met = h.met;
      fits = all_set F (set s.views id (one ∷ v)) other [] tt (λ j u not_other e. now j u e);
    }

takes_part : {S : Type 0} (plans : List ShardPlan) (callers id : ℕ) (v : List Account) (other : ℕ) (part : OrderPart) (deeds : List Deed) →
    Joins {S = S} (IsOrderRuleKept plans callers) id v other (account part deeds ∷ []) (account part deeds ∷ v) []
takes_part {S} plans callers id v other (OnShard number) deeds = takes_numbered {S = S} plans callers id v other (OnShard number) deeds (shard_numbered number)
takes_part {S} plans callers id v other (ByCaller who) deeds = takes_numbered {S = S} plans callers id v other (ByCaller who) deeds (caller_numbered who)
takes_part {S} plans callers id v other AtFirst deeds = takes_beginning {S = S} plans callers id v other deeds

pub takes_first : {S : Type 0} (plans : List ShardPlan) (callers id : ℕ) (v : List Account) (other : ℕ) (one : Account) →
    Joins {S = S} (IsOrderRuleKept plans callers) id v other (one ∷ []) (one ∷ v) []
takes_first {S} plans callers id v other one = takes_part {S = S} plans callers id v other one.part one.deeds

-- ---- a deed more

-- it is no deed of another part
not_on_shard : (deed : Deed) (number : ℕ) → IsOther (part_code (OnShard (shard_of_deed deed))) (OnShard number) → is_deed_of (OnShard number) deed ≡ false
not_on_shard deed number not_there = ne_eqb (shard_of_deed deed) number (λ same. not_there (ap (λ n. 2 * n) (sym same)))

not_by_caller : (deed : Deed) (who : Caller) → IsOther (part_code (ByCaller (caller_of_deed deed))) (ByCaller who) → is_deed_of (ByCaller who) deed ≡ false
not_by_caller deed who not_by = is_other who (caller_of_deed deed) (λ same. not_by (ap (λ n. suc (2 * n)) (sym same)))

-- a part to which it does not belong; and the order begins as before
part_same : (all : List Deed) (deed : Deed) (part : OrderPart) (deeds : List Deed) → IsOther (part_code (OnShard (shard_of_deed deed))) part →
    IsOther (part_code (ByCaller (caller_of_deed deed))) part → IsPartOf all part deeds → IsPartOf (deed ∷ all) part deeds
part_same all deed (OnShard number) deeds not_there not_by kept = kept
    ∙ sym (ap (λ (mine : Bool). cond mine (deed ∷ deeds_of (OnShard number) all) (deeds_of (OnShard number) all)) (not_on_shard deed number not_there))
part_same all deed (ByCaller who) deeds not_there not_by kept = kept
    ∙ sym (ap (λ (mine : Bool). cond mine (deed ∷ deeds_of (ByCaller who) all) (deeds_of (ByCaller who) all)) (not_by_caller deed who not_by))
part_same all deed AtFirst deeds not_there not_by kept = (deed ∷ kept.0, ap (λ (l : List Deed). deed ∷ l) kept.1)

-- accounts to which it does not belong
others_same : (callers : ℕ) (owner : ℕ → ℕ) (all : List Deed) (deed : Deed) (id : ℕ) (v : List Account) → AreOther (part_code (OnShard (shard_of_deed deed))) v → AreOther (part_code (ByCaller (caller_of_deed deed))) v →
    AreAccounts callers owner all id v → AreAccounts callers owner (deed ∷ all) id v
others_same callers owner all deed id [] not_there not_by are = tt
others_same callers owner all deed id (one ∷ others) not_there not_by are = (
  record { own = are.0.own; below = are.0.below; kept = part_same all deed one.part one.deeds not_there.0 not_by.0 are.0.kept },
  others_same callers owner all deed id others not_there.1 not_by.1 are.1,
)

-- and one to which it does
belongs : (all : List Deed) (deed : Deed) (part : OrderPart) (deeds : List Deed) → is_deed_of part deed ≡ true → deeds ≡ deeds_of part all →
    deed ∷ deeds ≡ deeds_of part (deed ∷ all)
belongs all deed part deeds is kept =
    ap (λ (l : List Deed). deed ∷ l) kept ∙ sym (ap (λ (mine : Bool). cond mine (deed ∷ deeds_of part all) (deeds_of part all)) is)

-- the entries on a shard are those of the shard's deeds
wrote_more : (number : ℕ) (entry : Entry) (deeds : List Deed) (b : Bool) → (shard_of_call entry.call == number) ≡ b → made_on number deeds ≡ entries_made (deeds_of (OnShard number) deeds) →
    made_on number (Wrote entry ∷ deeds) ≡ entries_made (deeds_of (OnShard number) (Wrote entry ∷ deeds))
wrote_more number entry deeds true is were = rw is (ap (λ (l : List Entry). entry ∷ l) were)
wrote_more number entry deeds false is were = rw is were

met_more : (number : ℕ) (who : Caller) (call : Call) (deeds : List Deed) (b : Bool) → (shard_of_call call == number) ≡ b → made_on number deeds ≡ entries_made (deeds_of (OnShard number) deeds) →
    made_on number (MetFull who call ∷ deeds) ≡ entries_made (deeds_of (OnShard number) (MetFull who call ∷ deeds))
met_more number who call deeds true is were = rw is were
met_more number who call deeds false is were = rw is were

pub made_by_deeds : (number : ℕ) (deeds : List Deed) → made_on number deeds ≡ entries_made (deeds_of (OnShard number) deeds)
made_by_deeds number [] = refl
made_by_deeds number (Wrote entry ∷ others) = wrote_more number entry others (shard_of_call entry.call == number) refl (made_by_deeds number others)
made_by_deeds number (MetFull who call ∷ others) = met_more number who call others (shard_of_call call == number) refl (made_by_deeds number others)

-- who has the account of a shard and that of a caller adds what the caller does there
pub adds_deed : {S : Type 0} (plans : List ShardPlan) (callers slots id word : ℕ) (deed : Deed) (there by : List Deed) → shard_of_deed deed < length plans →
    IsMetBehind (plan_in plans) deed (entries_made there) → (s : State S (List Account)) → IsOrderRuleKept plans callers s →
    get_elem? s.views id ≡ some (account (OnShard (shard_of_deed deed)) there ∷ account (ByCaller (caller_of_deed deed)) by ∷ []) →
    IsOrderRuleKept plans callers (stepped s word (slice_index s.words word) id []
    (noted deed (account (OnShard (shard_of_deed deed)) there ∷ account (ByCaller (caller_of_deed deed)) by ∷ [])) keeps)
adds_deed plans callers slots id word deed there by below met s h at =
    let are = h.fits id _ at in
    let shard : OrderPart = OnShard (shard_of_deed deed) in
    let caller : OrderPart = ByCaller (caller_of_deed deed) in record {
      all = deed ∷ h.all;
      owner = h.owner;
      within = (below, h.within);
      by = (are.1.0.below, h.by);
      met = (
        subst (IsMetBehind (plan_in plans) deed) (ap entries_made are.0.kept ∙ sym (made_by_deeds (shard_of_deed deed) h.all)) met,
        h.met,
      );
      fits = all_set (AreAccounts callers h.owner (deed ∷ h.all)) s.views id _ (
        record { own = are.0.own; below = tt; kept = belongs h.all deed shard there (eq-eqb (shard_of_deed deed) (shard_of_deed deed) refl) are.0.kept },
        (record { own = are.1.0.own; below = are.1.0.below; kept = belongs h.all deed caller by (is_own (caller_of_deed deed)) are.1.0.kept }, tt),
      )
          (λ j u other e. others_same callers h.owner h.all deed j u
          (elsewhere callers h.owner h.all (part_code shard) j u (λ same. other (sym same ∙ are.0.own)) (h.fits j u e))
          (elsewhere callers h.owner h.all (part_code caller) j u (λ same. other (sym same ∙ are.1.0.own)) (h.fits j u e)) (h.fits j u e));
    }

-- ---- the same of views that are known to be these

pub takes_one : {S : Type 0} (plans : List ShardPlan) (callers id : ℕ) (v : List Account) (other : ℕ) (w : List Account) (one : Account) → w ≡ one ∷ [] →
    Joins {S = S} (IsOrderRuleKept plans callers) id v other w (with_first v w) []
takes_one {S} plans callers id v other w one is =
    subst (λ (u : List Account). Joins {S = S} (IsOrderRuleKept plans callers) id v other u (with_first v u) []) (sym is) (takes_first {S = S} plans callers id v other one)

pub deals_one : {S : Type 0} (plans : List ShardPlan) (callers id : ℕ) (accounts : List Account) (one : Account) (v : List Account) → accounts ≡ one ∷ v → AreOther (part_code one.part) v →
    Splits {S = S} (IsOrderRuleKept plans callers) id accounts (all_others accounts) (first_alone accounts)
deals_one {S} plans callers id accounts one v is apart =
    subst (λ (u : List Account). Splits {S = S} (IsOrderRuleKept plans callers) id u (all_others u) (first_alone u)) (sym is) (deals_first {S = S} plans callers id one v apart)

-- the accounts of a shard and of a caller, where the caller does something there
abbrev pub the_two : Deed → List Deed → List Deed → List Account
the_two deed there by = account (OnShard (shard_of_deed deed)) there ∷ account (ByCaller (caller_of_deed deed)) by ∷ []

pub adds_one : {S : Type 0} (plans : List ShardPlan) (callers slots id word : ℕ) (me : Me S (List Account)) (deed : Deed) (there by : List Deed) → me ≡ (the_two deed there by, []) →
    shard_of_deed deed < length plans → IsMetBehind (plan_in plans) deed (entries_made there) →
    Allows {S = S} (IsOrderRuleKept plans callers) slots id me word (λ n. n) (λ n w. AddsDeed deed me w)
adds_one {S} plans callers slots id word me deed there by is below met =
    subst (λ (m : Me S (List Account)). Allows {S = S} (IsOrderRuleKept plans callers) slots id m word (λ n. n) (λ n w. AddsDeed deed m w)) (sym is)
    (λ s h l at fits. (noted deed (the_two deed there by), keeps, tt, adds_deed plans callers slots id word deed there by below met s h at, refl))

-- the shard's account is not the caller's
pub two_parts : (number : ℕ) (who : Caller) (by : List Deed) → AreOther (part_code (OnShard number)) (account (ByCaller who) by ∷ [])
two_parts number who by = (λ same. omega (arith, same), tt)

-- a seat that rests in a place
pub view_there : (place : Badge (List Account)) (accounts : List Account) (part : OrderPart) → place.views ≡ accounts ∷ [] →
    place.views ≡ (account part (deeds_at place) ∷ []) ∷ [] → accounts ≡ account part (deeds_at place) ∷ []
view_there place accounts part is rests = ap (λ (l : List (List Account)). first_view l) (sym is ∙ rests) where
  first_view : List (List Account) → List Account
  first_view [] = accounts
  first_view (x ∷ xs) = x

pub both_are : {S : Type 0} (me : Me S (List Account)) (w : List Account) (one : Account) (two : Account) → me ≡ (two ∷ [], []) → w ≡ one ∷ [] →
    ◌≡◌ {A = Me S (List Account)} (with_first me.0 w, me.1) (one ∷ two ∷ [], [])
both_are {S} me w one two is w_is = ap (λ (x : Me S (List Account) × List Account). (with_first x.0.0 x.1, x.0.1)) (λ i. (is i, w_is i))

pub rests_so : (views : List (List Account)) (part : OrderPart) (deeds : List Deed) → views ≡ (account part deeds ∷ []) ∷ [] →
    (views ≡ (account part (deeds_viewed views) ∷ []) ∷ []) × (deeds_viewed views ≡ deeds)
rests_so views part deeds is = (is ∙ ap (λ (l : List Deed). (account part l ∷ []) ∷ []) (sym (ap deeds_viewed is)), ap deeds_viewed is)

pub sits_so : {S : Type 0} (me : Me S (List Account)) (part : OrderPart) (deeds : List Deed) → me ≡ (account part deeds ∷ [], []) →
    (me ≡ (account part (account_deeds me.0) ∷ [], [])) × (account_deeds me.0 ≡ deeds)
sits_so {S} me part deeds is =
    let same : account_deeds me.0 ≡ deeds = ap (λ (m : Me S (List Account)). account_deeds m.0) is in
    (is ∙ ap (λ (l : List Deed). (account part l ∷ [], [])) (sym same), same)

-- ---- the end

in_order : (callers : ℕ) (owner : ℕ → ℕ) (all : List Deed) (id : ℕ) (v : List Account) → AreAccounts callers owner all id v → (one : Account) → IsOneOfAccounts one v →
    IsPartOf all one.part one.deeds
in_order callers owner all id [] are one has = absurd has
in_order callers owner all id (other ∷ others) are one has = ⊎_elim
    (λ (same : other ≡ one). subst (λ (a : Account). IsPartOf all a.part a.deeds) same are.0.kept) (in_order callers owner all id others are.1 one) has

pub order_ends : {S : Type 0} (plans : List ShardPlan) (callers id : ℕ) (v : List Account) (words : List ℕ) (slots : List S) →
    Final (Seen (IsOrderRuleKept plans callers) id v) words slots → IsEnd plans callers v
order_ends plans callers id v words slots final =
    let h = final.1.0 in record { all = h.all; within = h.within; by = h.by; met = h.met; each = in_order callers h.owner h.all id v (h.fits id v final.1.1) }
