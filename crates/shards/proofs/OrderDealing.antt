-- A caller's seat at the order is taken out of its place.
use Rattle.std.proofs.Common.{◌≡◌, ◌≢◌, ◌<◌, ℕ, Bool, true, false, true≢false, List, [], ◌∷◌, length, sym, ap, ◌∙◌, subst, arith}
use Rattle.std.specs.Prelude.{slice_set, slice_index_or}
use Rattle.atomic_table.specs.Seated.{TableId}
use Rattle.atomic_table.specs.declared.badge.Badge.{Badge}
use Rattle.atomic_table.specs.declared.shared.Seat.{Seat}
use Rattle.semantics.specs.declared.call.Caller.{Caller}
use Rattle.shards.specs.declared.deeds.Account.{Account}
use Rattle.shards.specs.declared.deeds.Deed.{Deed}
use Rattle.shards.specs.declared.deeds.OrderPart.TheVariants.{ByCaller}
use Rattle.shards.specs.LockRule.{caller_at, caller_place}
use Rattle.shards.specs.NewShards.{AreAtOrder, is_dealt_at}
use Rattle.shards.specs.OrderRule.{account, account_deeds, deeds_at, deeds_viewed, no_order_place, IsFresh, IsSeatFor}
use Rattle.shards.proofs.Dealing.{caller_is}
use Rattle.shards.proofs.OrderClosing.{seat_of_place}
use Rattle.semantics.proofs.shared.EachLemmas.{or_set_here, or_set_else, or_within, set_count}

module _ (order : TableId) (dealt : List Bool) (places : List (Badge (List Account))) (place : ℕ) (who : Caller) (at : AreAtOrder order dealt places) (waits : is_dealt_at dealt place ≡ false) (placed : place ≡ caller_place who) where
  pub place_there : place < length places
  place_there = (at place waits).0

  module _ (badge : Badge (List Account)) (is : badge ≡ slice_index_or places place badge) where
    pub fresh_there : IsFresh order (ByCaller who) badge
    fresh_there = subst (λ (x : Caller × Badge (List Account)). IsFresh order (ByCaller x.0) x.1)
        (λ i. ((ap caller_at placed ∙ caller_is who) i, sym (is ∙ or_within places badge no_order_place place place_there) i)) (at place waits).1

    pub seat_there : {S : Type 0} (seat : Seat S (List Account)) → seat.table_id ≡ badge.table_id → badge.views ≡ seat.me.0 ∷ [] → seat.me.1 ≡ [] → IsSeatFor order (ByCaller who) seat × (account_deeds seat.me.0 ≡ [])
    seat_there {S} seat same knows empty =
        let nothing : deeds_at badge ≡ [] = ap (λ (b : List (List Account)). deeds_viewed b) fresh_there.knows in
        let sits = seat_of_place badge seat.me (ByCaller who) (fresh_there.knows ∙ ap (λ (l : List Deed). (account (ByCaller who) l ∷ []) ∷ []) (sym nothing)) knows empty in
        ((same ∙ fresh_there.table_is, sits.0), sits.1 ∙ nothing)

  pub others_there : (other : Badge (List Account)) → place < length dealt → AreAtOrder order (slice_set dealt place true) (slice_set places place other)
  others_there other below k still_waits =
      let apart : k ≢ place = λ same. true≢false (sym (ap (is_dealt_at (slice_set dealt place true)) same ∙ or_set_here dealt place true true below) ∙ still_waits) in
      let still : is_dealt_at dealt k ≡ false = sym (or_set_else dealt place k true true apart) ∙ still_waits in
      let was = at k still in
      let long = was.0 in
      let count = set_count places place other in (
        omega (arith, long, count),
        subst (IsFresh order (ByCaller (caller_at k))) (sym (or_set_else places place k other no_order_place apart)) was.1,
      )
