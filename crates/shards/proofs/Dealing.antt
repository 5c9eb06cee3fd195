-- A caller's seats are taken out of the rows: they make the parts of its pass, and the rows keep those of the others.
use Rattle.std.proofs.Common.{◌≡◌, ◌≢◌, ◌⊎◌, ◌<◌, ◌≤◌, ◌+◌, ◌++◌, ℕ, zero, suc, Bool, true, false, true≢false, List, [], ◌∷◌, length, refl, sym, ap, ◌∙◌, subst, ⊎_elim, inl, inr, arith}
use Rattle.std.specs.Prelude.{slice_set, slice_index_or}
use Rattle.atomic_table.specs.Seated.{TableId}
use Rattle.atomic_table.specs.declared.badge.Badge.{Badge}
use Rattle.semantics.specs.declared.call.Caller.{Caller}
use Rattle.semantics.specs.declared.call.Caller.TheVariants.{Worker, Controller, Reclaimer}
use Rattle.shards.specs.declared.rule.Known.{Known}
use Rattle.shards.specs.CallerView.{nothing_seen}
use Rattle.atomic_table.specs.Table.{Me}
use Rattle.atomic_table.specs.declared.shared.Seat.{Seat}
use Rattle.shards.specs.declared.deeds.Deed.{Deed}
use Rattle.shards.specs.GuardedView.{KeyedPlan, GuardedView}
use Rattle.shards.specs.LockRule.{caller_at, caller_place, pass_of, nobody}
use Rattle.shards.specs.Seats.{has_shard, view_of}
use Rattle.shards.specs.ShardPasses.{ShardPassView, shard_pass_view}
use Rattle.shards.specs.Passes.{badge_at, view_at, pass_view, shard_pass_at, no_part, IsPartOf, IsPass}
use Rattle.shards.specs.NewShards.{IsNewBadge, badges_at, is_dealt_at, IsDealer, IsNewSeat, IsPartOfSeat, view_of_known}
use Rattle.shards.specs.HeldCells.{HeldIds, most_held, room_at, room_of}
use Rattle.shards.proofs.PartLemmas.{view_is}
use Rattle.shards.proofs.Settling.{same_or_other}
use Rattle.semantics.proofs.shared.EachLemmas.{or_set_here, or_set_else, or_past, or_within, or_push_here, or_push_else}

abbrev first_known : List Known → Known
first_known [] = nobody
first_known (v ∷ vs) = v

pub caller_is : (who : Caller) → caller_at (caller_place who) ≡ who
caller_is (Worker number) = refl
caller_is Controller = refl
caller_is Reclaimer = refl

room_enough : (who : Caller) (most room : ℕ) → most ≤ room → room_of who most ≤ room_of who room
room_enough (Worker number) most room enough = enough
room_enough Controller most room enough = omega arith
room_enough Reclaimer most room enough = omega arith

module _ (table : ℕ → TableId) (key : ℕ → KeyedPlan) (count : ℕ) (rooms : List ℕ) (dealt : List Bool) (rows : List (List (Badge Known))) (place : ℕ) (who : Caller)
    (dealer : IsDealer table key count rooms dealt rows) (waits : is_dealt_at dealt place ≡ false) (placed : place ≡ caller_place who) where
  pub place_within : (number : ℕ) → number < length rows → place < length (badges_at rows number)
  place_within number below = (dealer.waiting number (let sized = dealer.sized in omega (arith, sized, below)) place waits).0

  new_at_seat : (number : ℕ) → number < length rows → IsNewBadge (table number) (key number) who (badge_at (badges_at rows number) place)
  new_at_seat number below = subst (λ (w : Caller). IsNewBadge (table number) (key number) w (badge_at (badges_at rows number) place)) (ap caller_at placed ∙ caller_is who)
      (dealer.waiting number (let sized = dealer.sized in omega (arith, sized, below)) place waits).1

  pub new_seat : (number : ℕ) (held : HeldIds) → number < length rows → room_of who (room_at rooms number) ≤ held.room → IsNewSeat (badge_at (badges_at rows number) place) held
  new_seat number held below enough = record {
    key = key number;
    who = who;
    fresh = (new_at_seat number below).fresh;
    room = (let more = room_enough who (most_held (key number).plan) (room_at rooms number) (dealer.enough number (let sized = dealer.sized in omega (arith, sized, below))) in omega (arith, more, enough));
  }

  module _ (parts : List ShardPassView) (same_count : length parts ≡ length rows) (made : (number : ℕ) → number < length rows → IsPartOfSeat (badge_at (badges_at rows number) place) (shard_pass_at parts number)) where
    part_is : (number : ℕ) → number < length rows → shard_pass_at parts number ≡ view_of_known (badge_at (badges_at rows number) place).table_id (pass_of (key number) who [] [])
    part_is number below = made number below (pass_of (key number) who [] []) (new_at_seat number below).fresh

    pub nothing_at : (deeds : List Deed) (number : ℕ) → view_at (pass_view who parts deeds) number ≡ nothing_seen
    nothing_at deeds number = view_is who parts deeds number ∙ ⊎_elim
        (λ (below : number < length parts). ap (λ (p : ShardPassView). p.view) (part_is number (omega (arith, same_count, below))))
        (λ (past : length parts ≤ number). ap (λ (p : ShardPassView). p.view) (or_past parts no_part number past)) (below_or_past number (length parts))
      where
        below_or_past : (a b : ℕ) → (a < b) ⊎ (b ≤ a)
        below_or_past a zero = inr (omega arith)
        below_or_past zero (suc b) = inl (omega arith)
        below_or_past (suc a) (suc b) = ⊎_elim (λ (h : a < b). inl (omega (arith, h))) (λ (h : b ≤ a). inr (omega (arith, h))) (below_or_past a b)

    pub new_pass : IsPass table key count who parts
    new_pass = record {
      sized = same_count ∙ dealer.sized;
      each = λ number less.
          let below : number < length rows = (let sized = dealer.sized in omega (arith, sized, less)) in
          subst (IsPartOf (table number) (key number) who) (sym (part_is number below))
          (record { table_is = (new_at_seat number below).table_is; key_is = refl; caller = refl; alone = refl });
    }

pub rest_of_rows : (table : ℕ → TableId) (key : ℕ → KeyedPlan) (count : ℕ) (rooms : List ℕ) (dealt : List Bool) (rows rows' : List (List (Badge Known))) (place : ℕ) →
    IsDealer table key count rooms dealt rows → place < length dealt → length rows' ≡ length rows →
    ((number other : ℕ) → other ≢ place → badge_at (badges_at rows' number) other ≡ badge_at (badges_at rows number) other) →
    ((number : ℕ) → length (badges_at rows' number) ≡ length (badges_at rows number)) →
    IsDealer table key count rooms (slice_set dealt place true) rows'
rest_of_rows table key count room dealt rows rows' place dealer below same_count others lengths = record {
  sized = same_count ∙ dealer.sized;
  waiting = λ number within other waits.
      let apart : other ≢ place = λ same. true≢false (sym (ap (is_dealt_at (slice_set dealt place true)) same ∙ or_set_here dealt place true true below) ∙ waits) in
      let still : is_dealt_at dealt other ≡ false = sym (or_set_else dealt place other true true apart) ∙ waits in
      let was = dealer.waiting number within other still in
      let long = lengths number in
      let here = was.0 in
      (omega (arith, long, here), subst (IsNewBadge (table number) (key number) (caller_at other)) (sym (others number other apart)) was.1);
  roomed = dealer.roomed;
  enough = dealer.enough;
}

-- ---- one row after another

pub row_there : (rows : List (List (Badge Known))) (number : ℕ) (row : List (Badge Known)) → number < length rows → row ≡ slice_index_or rows number row → row ≡ badges_at rows number
row_there rows number row below is = is ∙ or_within rows row [] number below

-- one more seat is taken out of its row
module _ (old rows : List (List (Badge Known))) (number place : ℕ) (row after : List (Badge Known)) (below : number < length rows) (is : row ≡ slice_index_or rows number row)
    (others : (other : ℕ) → other ≢ place → badge_at after other ≡ badge_at row other) (same_length : length after ≡ length row) where
  row_is : row ≡ badges_at rows number
  row_is = row_there rows number row below is

  pub rows_left : ((k : ℕ) → number ≤ k → badges_at rows k ≡ badges_at old k) → (k : ℕ) → number + 1 ≤ k → badges_at (slice_set rows number after) k ≡ badges_at old k
  rows_left were k past = or_set_else rows number k after [] (λ same. omega (arith, past, same)) ∙ were k (omega (arith, past))

  pub others_left : ((k other : ℕ) → other ≢ place → badge_at (badges_at rows k) other ≡ badge_at (badges_at old k) other) →
      (k other : ℕ) → other ≢ place → badge_at (badges_at (slice_set rows number after) k) other ≡ badge_at (badges_at old k) other
  others_left were k other apart = ⊎_elim
      (λ (here : k ≡ number). ap (λ (n : ℕ). badge_at (badges_at (slice_set rows number after) n) other) here ∙ ap (λ (r : List (Badge Known)). badge_at r other) (or_set_here rows number after [] below)
      ∙ others other apart ∙ ap (λ (r : List (Badge Known)). badge_at r other) row_is ∙ ap (λ (n : ℕ). badge_at (badges_at rows n) other) (sym here) ∙ were k other apart)
      (λ (elsewhere : k ≢ number). ap (λ (r : List (Badge Known)). badge_at r other) (or_set_else rows number k after [] elsewhere) ∙ were k other apart) (same_or_other k number)

  pub lengths_left : ((k : ℕ) → length (badges_at rows k) ≡ length (badges_at old k)) → (k : ℕ) → length (badges_at (slice_set rows number after) k) ≡ length (badges_at old k)
  lengths_left were k = ⊎_elim
      (λ (here : k ≡ number). ap (λ (n : ℕ). length (badges_at (slice_set rows number after) n)) here ∙ ap (λ (r : List (Badge Known)). length r) (or_set_here rows number after [] below)
      ∙ same_length ∙ ap (λ (r : List (Badge Known)). length r) row_is ∙ ap (λ (n : ℕ). length (badges_at rows n)) (sym here) ∙ were k)
      (λ (elsewhere : k ≢ number). ap (λ (r : List (Badge Known)). length r) (or_set_else rows number k after [] elsewhere) ∙ were k) (same_or_other k number)

-- one more part is made
pub parts_more : (P : ℕ → ShardPassView → Type 0) (parts grown : List ShardPassView) (number : ℕ) (part : ShardPassView) → length parts ≡ number → grown ≡ parts ++ part ∷ [] → P number part →
    ((k : ℕ) → k < number → P k (shard_pass_at parts k)) → (k : ℕ) → k < number + 1 → P k (shard_pass_at grown k)
parts_more P parts grown number part counted is new were k within = ⊎_elim
    (λ (here : k ≡ number). subst (P k) (sym (ap (λ (ps : List ShardPassView). shard_pass_at ps k) is ∙ or_push_here parts part no_part k (counted ∙ sym here))) (subst (λ (m : ℕ). P m part) (sym here) new))
    (λ (apart : k ≢ number). subst (P k) (sym (ap (λ (ps : List ShardPassView). shard_pass_at ps k) is ∙ or_push_else parts part no_part k (omega (arith, counted, within, apart)))) (were k (omega (arith, within, apart))))
    (same_or_other k number)

-- ---- the seat of a badge

-- what a new seat of a badge knows, and the part that is made of it
module _ (badge : Badge Known) (held : HeldIds) (new : IsNewSeat badge held) (me : Me GuardedView Known) (knows : badge.views ≡ me.0 ∷ []) (empty : me.1 ≡ []) where
  known_is : me.0 ≡ pass_of new.key new.who [] []
  known_is = ap (λ (vs : List Known). first_known vs) (sym knows ∙ new.fresh)

  pub seat_of_new : me ≡ (pass_of me.0.key me.0.who [] [], [])
  seat_of_new =
      let is : me ≡ (pass_of new.key new.who [] [], []) = (λ i. (known_is i, empty i)) in
      is ∙ ap (λ (v : Known). (pass_of v.key v.who [] [], [])) (sym known_is)

  pub room_of_new : room_of me.0.who (most_held me.0.key.plan) ≤ held.room
  room_of_new = subst (λ (v : Known). room_of v.who (most_held v.key.plan) ≤ held.room) (sym known_is) new.room

pub part_of_seat : (badge : Badge Known) (seat : Seat GuardedView Known) (part : ShardPassView) → seat.table_id ≡ badge.table_id → badge.views ≡ seat.me.0 ∷ [] → seat.me.1 ≡ [] → part ≡ shard_pass_view seat → IsPartOfSeat badge part
part_of_seat badge seat part same knows empty is v views =
    let known : seat.me.0 ≡ v = ap (λ (vs : List Known). first_known vs) (sym knows ∙ views) in
    is ∙ (λ i. record { table = seat.table_id; key = seat.me.0.key; who = seat.me.0.who; has_it = has_shard (seat.me.0, empty i); view = view_of (seat.me.0, empty i) })
    ∙ (λ i. view_of_known (same i) (known i))
