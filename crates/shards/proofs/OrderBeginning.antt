-- Who has the accounts of all callers knows the whole order: where the controller alone did something, the order is what it did.
use Rattle.std.proofs.Common.{⊎_elim, ◌≡◌, ◌≢◌, ℕ, zero, suc, ◌+◌, ◌*◌, ◌<◌, ◌≤◌, Bool, true, false, true≢false, cond, List, [], ◌∷◌, ◌++◌, length, refl, sym, ap, ◌∙◌, subst, arith}
use Rattle.std.specs.Prelude.{slice_index, slice_index_or, slice_set, replicate}
use Rattle.std.proofs.lemmas.List.{length-replicate}
use mathlib.Core.Option.{some}
use lib.ListN.{get_elem?}
use Rattle.atomic_table.specs.Seated.{TableId}
use Rattle.atomic_table.specs.Table.{Allows, Me, keeps, State, stepped}
use Rattle.atomic_table.specs.declared.badge.Badge.{Badge}
use Rattle.atomic_table.specs.declared.shared.Seat.{Seat}
use Rattle.semantics.specs.declared.call.Caller.{Caller}
use Rattle.semantics.specs.declared.call.Caller.TheVariants.{Controller}
use Rattle.semantics.specs.declared.plan.ShardPlan.{ShardPlan}
use Rattle.semantics.specs.CallerLaws.{is_caller}
use Rattle.shards.specs.declared.deeds.Account.{Account}
use Rattle.shards.specs.declared.deeds.Deed.{Deed}
use Rattle.shards.specs.declared.deeds.OrderPart.{OrderPart}
use Rattle.shards.specs.declared.deeds.OrderPart.TheVariants.{ByCaller, AtFirst}
use Rattle.shards.specs.Deeds.{caller_of_deed, is_deed_of, deeds_of}
use Rattle.shards.specs.LockRule.{caller_at, caller_place}
use Rattle.shards.specs.OrderRule.{part_code, account, account_deeds, deeds_at, deeds_viewed, AreOther, IsSeatFor, AreByCallers, AreAccounts, IsOrderRuleKept, callers_down, last_deeds, SeesFirst, with_first, IsFresh, order_place_at, no_order_place, AreWaiting, HasAllOf}
use Rattle.shards.proofs.Callers.{is_own, place_at}
use Rattle.shards.proofs.Dealing.{caller_is}
use Rattle.shards.proofs.OrderClosing.{seat_of_place}
use Rattle.shards.proofs.OrderMoves.{all_set}
use Rattle.shards.specs.NewShards.{is_dealt_at, AreAtOrder}
use Rattle.shards.proofs.Names.{below_places}
use Rattle.shards.proofs.Settling.{same_or_other}
use Rattle.semantics.proofs.shared.EachLemmas.{or_set_here, or_set_else, or_within, set_count}

-- ---- the deeds of all callers but the controller are none

none_earlier : (part : OrderPart) (deed : Deed) (earlier : List Deed) (b : Bool) → is_deed_of part deed ≡ b → deeds_of part (deed ∷ earlier) ≡ [] →
    (b ≡ false) × (deeds_of part earlier ≡ [])
none_earlier part deed earlier true is none =
    let more : deed ∷ deeds_of part earlier ≡ [] = sym (ap (λ (mine : Bool). cond mine (deed ∷ deeds_of part earlier) (deeds_of part earlier)) is) ∙ none in
    absurd (let long = ap (λ (l : List Deed). length l) more in omega (arith, long))
none_earlier part deed earlier false is none =
    (refl, sym (ap (λ (mine : Bool). cond mine (deed ∷ deeds_of part earlier) (deeds_of part earlier)) is) ∙ none)

at_place : (who : Caller) (place : ℕ) → caller_place who ≡ place → caller_at place ≡ who
at_place who place is = ap caller_at (sym is) ∙ caller_is who

belongs_to : (deed : Deed) (place : ℕ) → caller_place (caller_of_deed deed) ≡ place → is_deed_of (ByCaller (caller_at place)) deed ≡ true
belongs_to deed place is = ap (λ (who : Caller). is_caller who (caller_of_deed deed)) (at_place (caller_of_deed deed) place is) ∙ is_own (caller_of_deed deed)

only_controllers : (callers : ℕ) (all : List Deed) → AreByCallers callers all →
    ((place : ℕ) → 0 < place → place < callers → deeds_of (ByCaller (caller_at place)) all ≡ []) → deeds_of (ByCaller Controller) all ≡ all
only_controllers callers [] by none = refl
only_controllers callers (deed ∷ earlier) by none =
    first (caller_place (caller_of_deed deed)) refl (only_controllers callers earlier by.1
    (λ place past below. (none_earlier (ByCaller (caller_at place)) deed earlier (is_deed_of (ByCaller (caller_at place)) deed) refl (none place past below)).1))
  where
    first : (place : ℕ) → caller_place (caller_of_deed deed) ≡ place → deeds_of (ByCaller Controller) earlier ≡ earlier →
        deeds_of (ByCaller Controller) (deed ∷ earlier) ≡ deed ∷ earlier
    first zero is rest =
        ap (λ (mine : Bool). cond mine (deed ∷ deeds_of (ByCaller Controller) earlier) (deeds_of (ByCaller Controller) earlier)) (belongs_to deed 0 is)
        ∙ ap (λ (l : List Deed). deed ∷ l) rest
    first (suc k) is rest =
        let below : suc k < callers = (let within = by.0 in omega (arith, within, is)) in
        absurd (true≢false (none_earlier (ByCaller (caller_at (suc k))) deed earlier true (belongs_to deed (suc k) is) (none (suc k) (omega arith) below)).0)

-- ---- the accounts of all callers

pub last_down : (count : ℕ) (deeds : List Deed) → last_deeds (callers_down count deeds) ≡ deeds
last_down zero deeds = refl
last_down (suc zero) deeds = refl
last_down (suc (suc count)) deeds = last_down (suc count) deeds

down_controller : (callers : ℕ) (owner : ℕ → ℕ) (all : List Deed) (id count : ℕ) (deeds : List Deed) → AreAccounts callers owner all id (callers_down count deeds) →
    deeds ≡ deeds_of (ByCaller Controller) all
down_controller callers owner all id zero deeds are = are.0.kept
down_controller callers owner all id (suc count) deeds are = down_controller callers owner all id count deeds are.1

down_others : (callers : ℕ) (owner : ℕ → ℕ) (all : List Deed) (id count : ℕ) (deeds : List Deed) → AreAccounts callers owner all id (callers_down count deeds) →
    (place : ℕ) → 0 < place → place ≤ count → deeds_of (ByCaller (caller_at place)) all ≡ []
down_others callers owner all id zero deeds are place past few = absurd (omega (arith, past, few))
down_others callers owner all id (suc count) deeds are place past few = ⊎_elim
    (λ (here : place ≡ suc count). ap (λ (n : ℕ). deeds_of (ByCaller (caller_at n)) all) here ∙ sym are.0.kept)
    (λ (apart : place ≢ suc count). down_others callers owner all id count deeds are.1 place past (omega (arith, few, apart)))
    (same_or_other place (suc count))

sees : {S : Type 0} (plans : List ShardPlan) (callers id word count : ℕ) (deeds : List Deed) → callers ≡ suc count → (s : State S (List Account)) →
    IsOrderRuleKept plans callers s → get_elem? s.views id ≡ some (callers_down count deeds) →
    IsOrderRuleKept plans callers (stepped s word (slice_index s.words word) id []
    (account AtFirst (last_deeds (callers_down count deeds)) ∷ callers_down count deeds) keeps)
sees plans callers id word count deeds many s h at =
    let are = h.fits id (callers_down count deeds) at in
    let whole : h.all ≡ last_deeds (callers_down count deeds) =
    sym (only_controllers callers h.all h.by (λ place past below. down_others callers h.owner h.all id count deeds are place past (omega (arith, below, many))))
    ∙ sym (down_controller callers h.owner h.all id count deeds are) ∙ sym (last_down count deeds) in record {
      all = h.all;
      owner = h.owner;
      within = h.within;
      by = h.by;
      met = h.met;
      fits = all_set (AreAccounts callers h.owner h.all) s.views id _ (record { own = tt; below = tt; kept = ([], whole) }, are) (λ j u other e. h.fits j u e);
    }

pub sees_first : {S : Type 0} (plans : List ShardPlan) (callers slots id word : ℕ) (me : Me S (List Account)) (count : ℕ) (deeds : List Deed) →
    me ≡ (callers_down count deeds, []) → callers ≡ suc count → Allows {S = S} (IsOrderRuleKept plans callers) slots id me word (λ n. n) (λ n w. SeesFirst me w)
sees_first {S} plans callers slots id word me count deeds is many =
    subst (λ (m : Me S (List Account)). Allows {S = S} (IsOrderRuleKept plans callers) slots id m word (λ n. n) (λ n w. SeesFirst m w)) (sym is)
    (λ s h l at fits.
    (account AtFirst (last_deeds (callers_down count deeds)) ∷ callers_down count deeds, keeps, tt, sees {S = S} plans callers id word count deeds many s h at, refl))

-- the seat, and what it learned
pub after_look : {S : Type 0} (before after : Me S (List Account)) (count : ℕ) (deeds : List Deed) → before ≡ (callers_down count deeds, []) → SeesFirst before after →
    after ≡ (account AtFirst deeds ∷ callers_down count deeds, [])
after_look {S} before after count deeds is saw =
    saw ∙ ap (λ (m : Me S (List Account)). (account AtFirst (last_deeds m.0) ∷ m.0, m.1)) is
    ∙ ap (λ (l : List Deed). (account AtFirst l ∷ callers_down count deeds, [])) (last_down count deeds)

-- ---- one seat after the other is taken in

pub taken_more : {S : Type 0} (place : ℕ) (deeds : List Deed) (before after other : Me S (List Account)) → 0 < place → HasAllOf place deeds before →
    after ≡ (with_first before.0 other.0, before.1) → other.0 ≡ account (ByCaller (caller_at place)) [] ∷ [] → HasAllOf (place + 1) deeds after
taken_more zero deeds before after other past was both there others is = absurd (omega (arith, past))
taken_more {S} (suc count) deeds before after other past was both there others is =
    let same : suc count ≡ others = omega (arith, is) in
    both ∙ ap (λ (m : Me S (List Account)). (with_first m.0 other.0, m.1)) (was count refl)
    ∙ ap (λ (l : List Account). (with_first (callers_down count deeds) l, [])) there
    ∙ ap (λ (n : ℕ). (callers_down n deeds, [])) same

-- and one after the other is dealt again: N are left
abbrev pub IsLeftOf : {S : Type 0} → ℕ → ℕ → List Deed → Me S (List Account) → Type 0
IsLeftOf callers done deeds me = (others : ℕ) → callers ≡ others + done → me ≡ (callers_down others deeds, [])

-- ---- the places

pub place_taken : (table : TableId) (callers : ℕ) (old now : List (Badge (List Account))) (place : ℕ) (badge : Badge (List Account)) → length now ≡ length old →
    ((k : ℕ) → place ≤ k → order_place_at now k ≡ order_place_at old k) → (k : ℕ) → place + 1 ≤ k →
    order_place_at (slice_set now place badge) k ≡ order_place_at old k
place_taken table callers old now place badge count same k later =
    or_set_else now place k badge no_order_place (λ here. omega (arith, here, later)) ∙ same k (omega (arith, later))

pub place_dealt : (table : TableId) (callers done : ℕ) (places : List (Badge (List Account))) (place : ℕ) (badge : Badge (List Account)) →
    place + done ≡ callers → place < length places → IsFresh table (ByCaller (caller_at place)) badge →
    ((k : ℕ) → callers < k + done → k < callers → IsFresh table (ByCaller (caller_at k)) (order_place_at places k)) →
    (k : ℕ) → callers < k + (done + 1) → k < callers → IsFresh table (ByCaller (caller_at k)) (order_place_at (slice_set places place badge) k)
place_dealt table callers done places place badge there within fresh were k later below = ⊎_elim
    (λ (here : k ≡ place). subst (λ (n : ℕ). IsFresh table (ByCaller (caller_at n)) (order_place_at (slice_set places place badge) n)) (sym here)
    (subst (λ (b : Badge (List Account)). IsFresh table (ByCaller (caller_at place)) b) (sym (or_set_here places place badge no_order_place within)) fresh))
    (λ (apart : k ≢ place). subst (λ (b : Badge (List Account)). IsFresh table (ByCaller (caller_at k)) b)
    (sym (or_set_else places place k badge no_order_place apart)) (were k (omega (arith, later, apart, there)) below))
    (same_or_other k place)

-- a seat that waits, as it is taken out of its place
pub waits_there : (table : TableId) (callers : ℕ) (old now : List (Badge (List Account))) (place : ℕ) (badge taken : Badge (List Account)) → AreWaiting table callers old →
    order_place_at now place ≡ order_place_at old place → 0 < place → place < callers → place < length now → badge ≡ slice_index_or now place badge → taken ≡ badge →
    IsFresh table (ByCaller (caller_at place)) taken
waits_there table callers old now place badge taken waiting same past below within found took =
    subst (IsFresh table (ByCaller (caller_at place))) (sym (took ∙ found ∙ or_within now badge no_order_place place within ∙ same)) (waiting place past below).1

pub seat_from : {S : Type 0} (table : TableId) (part : OrderPart) (badge : Badge (List Account)) (seat : Seat S (List Account)) → IsFresh table part badge →
    seat.table_id ≡ badge.table_id → badge.views ≡ seat.me.0 ∷ [] → seat.me.1 ≡ [] → IsSeatFor table part seat × (seat.me.0 ≡ account part [] ∷ [])
seat_from {S} table part badge seat fresh same knows empty =
    let nothing : deeds_at badge ≡ [] = ap (λ (views : List (List Account)). deeds_viewed views) fresh.knows in
    let sits = seat_of_place badge seat.me part (fresh.knows ∙ ap (λ (l : List Deed). (account part l ∷ []) ∷ []) (sym nothing)) knows empty in (
      (same ∙ fresh.table_is, sits.0),
      ap (λ (m : Me S (List Account)). m.0) sits.0 ∙ ap (λ (l : List Deed). account part l ∷ []) (sits.1 ∙ nothing),
    )

-- the first account is apart from the others
pub down_apart : (place count : ℕ) (deeds : List Deed) → count < place → AreOther (part_code (ByCaller (caller_at place))) (callers_down count deeds)
down_apart place zero deeds below = ((λ same. let is = place_at place in omega (arith, same, is, below)), tt)
down_apart place (suc count) deeds below = (
  (λ same. let is = place_at place in let other = place_at (suc count) in omega (arith, same, is, other, below)),
  down_apart place count deeds (omega (arith, below)),
)

-- how many are left before the last of N
pub gap : (callers done : ℕ) → done < callers → (left : ℕ) × (callers ≡ suc left + done)
gap zero done below = absurd (omega (arith, below))
gap (suc callers) zero below = (callers, omega arith)
gap (suc callers) (suc done) below = (let rest = gap callers done (omega (arith, below)) in (rest.0, (let is = rest.1 in omega (arith, is))))

pub beginning_apart : (count : ℕ) (deeds : List Deed) → AreOther (part_code AtFirst) (callers_down count deeds)
beginning_apart zero deeds = ((λ same. omega (arith, same)), tt)
beginning_apart (suc count) deeds = ((λ same. omega (arith, same)), beginning_apart count deeds)

-- ---- of N callers only the first has its pass

waits_still : (callers place : ℕ) → place < callers → is_dealt_at (replicate callers false) place ≡ false
waits_still zero place below = absurd (omega (arith, below))
waits_still (suc callers) zero below = refl
waits_still (suc callers) (suc place) below = waits_still callers place (omega (arith, below))

first_dealt : (callers : ℕ) → is_dealt_at (slice_set (replicate callers false) 0 true) 0 ≡ true
first_dealt zero = refl
first_dealt (suc callers) = refl

module _ (callers : ℕ) (dealt : List Bool) (alone : dealt ≡ slice_set (replicate callers false) 0 true) where
  pub alone_count : length dealt ≡ callers
  alone_count = ap (λ (l : List Bool). length l) alone ∙ set_count (replicate callers false) 0 true ∙ length-replicate callers false

  behind_first : (place : ℕ) → 0 < place → is_dealt_at dealt place ≡ is_dealt_at (replicate callers false) place
  behind_first place past = ap (λ (l : List Bool). is_dealt_at l place) alone ∙ or_set_else (replicate callers false) 0 place true true (λ here. omega (arith, here, past))

  pub alone_waiting : (order : TableId) (places : List (Badge (List Account))) → AreAtOrder order dealt places → AreWaiting order callers places
  alone_waiting order places at place past below = at place (behind_first place past ∙ waits_still callers place below)

  pub alone_at_order : (order : TableId) (places : List (Badge (List Account))) → AreWaiting order callers places → AreAtOrder order dealt places
  alone_at_order order places waiting zero waits =
      absurd (true≢false (sym (ap (λ (l : List Bool). is_dealt_at l 0) alone ∙ first_dealt callers) ∙ waits))
  alone_at_order order places waiting (suc place) waits =
      waiting (suc place) (omega arith) (below_places callers (suc place) (sym (behind_first (suc place) (omega arith)) ∙ waits))
