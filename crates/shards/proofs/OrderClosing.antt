-- What the seats know when the shards are closed makes one order of all deeds.
use Rattle.std.proofs.Common.{◌≡◌, ◌≢◌, ℕ, ◌+◌, ◌<◌, List, [], ◌∷◌, ◌++◌, length, refl, sym, ap, ◌∙◌, subst, ⊎_elim, inl, inr, arith}
use Rattle.std.specs.Prelude.{reverse, slice_index_or}
use Rattle.std.proofs.lemmas.List.{reverse-reverse}
use Rattle.atomic_table.specs.Table.{Me}
use Rattle.atomic_table.specs.declared.badge.Badge.{Badge}
use Rattle.semantics.specs.declared.call.Entry.{Entry}
use Rattle.semantics.specs.declared.plan.ShardPlan.{ShardPlan}
use Rattle.semantics.specs.History.{shard_of_call, IsJournalFull}
use Rattle.journals.specs.JournalsView.{JournalsView, entries_at}
use Rattle.shards.specs.declared.deeds.Deed.{Deed}
use Rattle.shards.specs.declared.deeds.Deed.TheVariants.{Wrote, MetFull}
use Rattle.shards.specs.declared.deeds.OrderPart.{OrderPart}
use Rattle.shards.specs.declared.deeds.OrderPart.TheVariants.{OnShard, AtFirst}
use Rattle.shards.specs.declared.deeds.Account.{Account}
use Rattle.shards.specs.Deeds.{entries_made, made_on, deeds_of, AreMet, AreDeedsWithin}
use Rattle.shards.specs.ClosedOrders.{HasGathered, IsOneOrder, IsOneOrderBehind, account_of}
use Rattle.shards.specs.OrderRule.{account, deeds_at, account_deeds, plan_in, with_first, IsOneOfAccounts, IsEnd}
use Rattle.shards.specs.Passes.{PassView, pass_at}
use Rattle.shards.proofs.Settling.{same_or_other}
use Rattle.shards.proofs.OrderMoves.{made_by_deeds, view_there, sits_so}
use Rattle.semantics.proofs.shared.EachLemmas.{or_push_here, or_push_else}

-- the account of the shard of this number, whose entries are the journal
pub record HasShard (number : ℕ) (journal : List Entry) (accounts : List Account) : Type 0 where
  pub deeds : List Deed
  pub written : entries_made deeds ≡ reverse journal
  pub has : IsOneOfAccounts (account (OnShard number) deeds) accounts

-- one more
pub gathered_more : {S : Type 0} (number : ℕ) (journals : List (List Entry)) (journal : List Entry) (before after : Me S (List Account)) → length journals ≡ number → HasGathered number journal before after →
    ((k : ℕ) → k < number → HasShard k (slice_index_or journals k []) before.0) → (k : ℕ) → k < number + 1 → HasShard k (slice_index_or (journals ++ journal ∷ []) k []) after.0
gathered_more {S} number journals journal before after made more were k within = ⊎_elim
    (λ (here : k ≡ number). record {
      deeds = more.deeds;
      written = more.written ∙ ap (λ (l : List Entry). reverse l) (sym (or_push_here journals journal [] k (made ∙ sym here)));
      has = subst (λ (l : List Account). IsOneOfAccounts (account (OnShard k) more.deeds) l) (sym is)
          (inl (ap (λ (n : ℕ). account (OnShard n) more.deeds) (sym here)));
    })
    (λ (apart : k ≢ number).
    let less : k < number = omega (arith, within, apart) in
    let was = were k less in record {
      deeds = was.deeds;
      written = was.written ∙ ap (λ (l : List Entry). reverse l) (sym (or_push_else journals journal [] k (omega (arith, made, less))));
      has = subst (λ (l : List Account). IsOneOfAccounts (account (OnShard k) was.deeds) l) (sym is) (inr was.has);
    })
    (same_or_other k number)
  where
    is : after.0 ≡ account (OnShard number) more.deeds ∷ before.0
    is = ap (λ (m : Me S (List Account)). m.0) more.more

-- a seat has taken in another
pub gathered : {S : Type 0} (before after other : Me S (List Account)) (part : OrderPart) (deeds : List Deed) → after ≡ (with_first before.0 other.0, before.1) →
    other ≡ (account part (account_deeds other.0) ∷ [], []) → account_deeds other.0 ≡ deeds → after ≡ (account part deeds ∷ before.0, before.1)
gathered {S} before after other part deeds both is same =
    both ∙ ap (λ (m : Me S (List Account)). (with_first before.0 m.0, before.1)) is ∙ ap (λ (l : List Deed). (account part l ∷ before.0, before.1)) same

-- one more caller's
pub callers_more : (passes : List PassView) (number : ℕ) (pass : PassView) (before after : List Account) → pass ≡ pass_at passes number → after ≡ account_of pass ∷ before →
    ((place : ℕ) → place < number → IsOneOfAccounts (account_of (pass_at passes place)) before) → (place : ℕ) → place < number + 1 → IsOneOfAccounts (account_of (pass_at passes place)) after
callers_more passes number pass before after first is were place within = subst (λ (l : List Account). IsOneOfAccounts (account_of (pass_at passes place)) l) (sym is) (⊎_elim
    (λ (here : place ≡ number). inl (ap account_of (first ∙ ap (λ (n : ℕ). pass_at passes n) (sym here))))
    (λ (apart : place ≢ number). inr (were place (omega (arith, within, apart)))) (same_or_other place number))

-- the seat of a place
pub seat_of_place : {S : Type 0} (place : Badge (List Account)) (me : Me S (List Account)) (part : OrderPart) → place.views ≡ (account part (deeds_at place) ∷ []) ∷ [] → place.views ≡ me.0 ∷ [] → me.1 ≡ [] →
    (me ≡ (account part (account_deeds me.0) ∷ [], [])) × (account_deeds me.0 ≡ deeds_at place)
seat_of_place {S} place me part rests is empty =
    let there : me.0 ≡ account part (deeds_at place) ∷ [] = view_there place me.0 part is rests in sits_so me part (deeds_at place) (λ i. (there i, empty i))

-- plans that agree on the shards
met_alike : (plan other : ℕ → ShardPlan) (count : ℕ) → ((number : ℕ) → number < count → plan number ≡ other number) → (deeds : List Deed) → AreDeedsWithin count deeds → AreMet plan deeds → AreMet other deeds
met_alike plan other count same [] within met = tt
met_alike plan other count same (Wrote entry ∷ earlier) within met = (tt, met_alike plan other count same earlier within.1 met.1)
met_alike plan other count same (MetFull who call ∷ earlier) within met = (
  subst (λ (p : ShardPlan). IsJournalFull p (made_on (shard_of_call call) earlier) call) (same (shard_of_call call) within.0) met.0,
  met_alike plan other count same earlier within.1 met.1,
)

pub one_order : (plan : ℕ → ShardPlan) (count callers : ℕ) (plans : List ShardPlan) (journals : JournalsView) (passes : List PassView) (accounts : List Account) → IsEnd plans callers accounts → length plans ≡ count →
    ((number : ℕ) → number < count → plan_in plans number ≡ plan number) → ((number : ℕ) → number < count → HasShard number (entries_at journals number) accounts) →
    ((place : ℕ) → place < length passes → IsOneOfAccounts (account_of (pass_at passes place)) accounts) → IsOneOrder plan count callers journals passes
one_order plan count callers plans journals passes accounts end sized alike shards handed =
    let within : AreDeedsWithin count end.all = subst (λ (n : ℕ). AreDeedsWithin n end.all) sized end.within in record {
      deeds = end.all;
      within = within;
      by = end.by;
      journals_are = λ number below.
          let has = shards number below in
          let all : has.deeds ≡ deeds_of (OnShard number) end.all = end.each (account (OnShard number) has.deeds) has.has in
          sym (reverse-reverse (entries_at journals number)) ∙ ap (λ (l : List Entry). reverse l) (sym has.written ∙ ap entries_made all ∙ sym (made_by_deeds number end.all));
      own = λ place below. end.each (account_of (pass_at passes place)) (handed place below);
      met = met_alike (plan_in plans) plan count alike end.all within end.met;
    }

-- and the order begins with the deeds of the last account
pub one_order_behind : (plan : ℕ → ShardPlan) (count callers : ℕ) (plans : List ShardPlan) (journals : JournalsView) (passes : List PassView) (first : List Deed) (accounts : List Account) →
    IsEnd plans callers (account AtFirst first ∷ accounts) → length plans ≡ count → ((number : ℕ) → number < count → plan_in plans number ≡ plan number) →
    ((number : ℕ) → number < count → HasShard number (entries_at journals number) accounts) →
    ((place : ℕ) → place < length passes → IsOneOfAccounts (account_of (pass_at passes place)) accounts) → IsOneOrderBehind plan count callers first journals passes
unfolding one_order
one_order_behind plan count callers plans journals passes first accounts end sized alike shards handed = record {
  one = one_order plan count callers plans journals passes accounts (record { all = end.all; within = end.within; by = end.by; met = end.met; each = λ one has. end.each one (inr has) })
      sized alike shards handed;
  begins = end.each (account AtFirst first) (inl refl);
}

-- where the seat took in that account last
pub one_order_gathered : {S : Type 0} (plan : ℕ → ShardPlan) (count callers : ℕ) (plans : List ShardPlan) (journals : JournalsView) (passes : List PassView) (first : List Deed)
    (before after : Me S (List Account)) → after ≡ (account AtFirst first ∷ before.0, before.1) → IsEnd plans callers after.0 → length plans ≡ count →
    ((number : ℕ) → number < count → plan_in plans number ≡ plan number) → ((number : ℕ) → number < count → HasShard number (entries_at journals number) before.0) →
    ((place : ℕ) → place < length passes → IsOneOfAccounts (account_of (pass_at passes place)) before.0) → IsOneOrderBehind plan count callers first journals passes
one_order_gathered {S} plan count callers plans journals passes first before after is end sized alike shards handed =
    one_order_behind plan count callers plans journals passes first before.0 (subst (λ (l : List Account). IsEnd plans callers l) (ap (λ (m : Me S (List Account)). m.0) is) end)
    sized alike shards handed
