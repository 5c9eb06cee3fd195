-- A seat learns that the order begins with all that was done so far.
use Rattle.std.proofs.Common.{◌≡◌, ◌≢◌, ℕ, List, [], ◌∷◌, refl, sym, ap, ◌∙◌, subst, arith}
use Rattle.std.specs.Prelude.{slice_index}
use mathlib.Core.Option.{some}
use lib.ListN.{get_elem?}
use Rattle.atomic_table.specs.Table.{Allows, Me, keeps, State, stepped}
use Rattle.semantics.specs.declared.call.Caller.{Caller}
use Rattle.semantics.specs.declared.plan.ShardPlan.{ShardPlan}
use Rattle.shards.specs.declared.deeds.Account.{Account}
use Rattle.shards.specs.declared.deeds.Deed.{Deed}
use Rattle.shards.specs.declared.deeds.OrderPart.TheVariants.{ByCaller, AtFirst}
use Rattle.shards.specs.Deeds.{deeds_of, AreFirst}
use Rattle.shards.specs.OrderRule.{part_code, account, AreOther, AreAccounts, AreParts, IsOrderRuleKept, SeesSoFar}
use Rattle.shards.proofs.OrderMoves.{all_set}

parts_of : (callers : ℕ) (owner : ℕ → ℕ) (all : List Deed) (id : ℕ) (v : List Account) → AreAccounts callers owner all id v → AreParts all v
parts_of callers owner all id [] are = tt
parts_of callers owner all id (one ∷ others) are = (are.0.kept, parts_of callers owner all id others are.1)

sees : {S : Type 0} (plans : List ShardPlan) (callers id word : ℕ) (v : List Account) (s : State S (List Account)) (h : IsOrderRuleKept plans callers s) →
    get_elem? s.views id ≡ some v → IsOrderRuleKept plans callers (stepped s word (slice_index s.words word) id [] (account AtFirst h.all ∷ v) keeps)
sees plans callers id word v s h at = record {
  all = h.all;
  owner = h.owner;
  within = h.within;
  by = h.by;
  met = h.met;
  fits = all_set (AreAccounts callers h.owner h.all) s.views id _ (record { own = tt; below = tt; kept = ([], refl) }, h.fits id v at) (λ j u other e. h.fits j u e);
}

pub sees_so_far : {S : Type 0} (plans : List ShardPlan) (callers slots id word : ℕ) (me : Me S (List Account)) (v : List Account) → me ≡ (v, []) →
    Allows {S = S} (IsOrderRuleKept plans callers) slots id me word (λ n. n) (λ n w. SeesSoFar me w)
sees_so_far {S} plans callers slots id word me v is =
    subst (λ (m : Me S (List Account)). Allows {S = S} (IsOrderRuleKept plans callers) slots id m word (λ n. n) (λ n w. SeesSoFar m w)) (sym is)
    (λ s h l at fits. (
      account AtFirst h.all ∷ v,
      keeps,
      tt,
      sees {S = S} plans callers id word v s h at,
      (h.all, parts_of callers h.owner h.all id v (h.fits id v at), refl),
    ))

-- ---- a seat with an earlier beginning, and the account of a caller

abbrev pub with_earlier : List Deed → Caller → List Deed → List Account
with_earlier earlier who deeds = account AtFirst earlier ∷ account (ByCaller who) deeds ∷ []

pub above_caller : (who : Caller) (deeds : List Deed) → AreOther (part_code AtFirst) (account (ByCaller who) deeds ∷ [])
above_caller who deeds = ((λ same. omega (arith, same)), tt)

pub above_both : (earlier : List Deed) (who : Caller) (deeds : List Deed) → AreOther (part_code AtFirst) (with_earlier earlier who deeds)
above_both earlier who deeds = (tt, above_caller who deeds)

pub knows_so_far : {S : Type 0} (before after : Me S (List Account)) (earlier : List Deed) (who : Caller) (deeds : List Deed) → before ≡ (with_earlier earlier who deeds, []) →
    (saw : SeesSoFar before after) → after ≡ (account AtFirst saw.0 ∷ with_earlier earlier who deeds, [])
knows_so_far {S} before after earlier who deeds is saw = saw.2 ∙ ap (λ (m : Me S (List Account)). (account AtFirst saw.0 ∷ m.0, m.1)) is

pub parts_so_far : {S : Type 0} (before after : Me S (List Account)) (earlier : List Deed) (who : Caller) (deeds : List Deed) → before ≡ (with_earlier earlier who deeds, []) →
    (saw : SeesSoFar before after) → AreFirst earlier saw.0 × (deeds ≡ deeds_of (ByCaller who) saw.0)
parts_so_far {S} before after earlier who deeds is saw =
    let parts = subst (λ (m : Me S (List Account)). AreParts saw.0 m.0) is saw.1 in (parts.0, parts.1.0)
