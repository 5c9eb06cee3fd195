use Rattle.std.proofs.Common.{◌≡◌, ◌≢◌, ◌≤◌, ◌<◌, ◌+◌, ◌++◌, ℕ, List, [], ◌∷◌, length, length-append, sym, ap, ◌∙◌, subst, ⊎_elim, arith}
use Rattle.shards.specs.HeldCells.{HeldIds, no_ids, held_at, room_at, room_of}
use Rattle.semantics.proofs.shared.EachLemmas.{or_push_here, or_push_else}
use Rattle.shards.proofs.Settling.{same_or_other}
use Rattle.shards.proofs.held.none_held.Goals as goal

-- a fact of each list, once one more is there
each_more : (P : ℕ → HeldIds → Type 0) (held grown : List HeldIds) (n : ℕ) (one : HeldIds) → length held ≡ n → grown ≡ held ++ one ∷ [] → P n one →
    ((k : ℕ) → k < n → P k (held_at held k)) → (k : ℕ) → k < n + 1 → P k (held_at grown k)
each_more P held grown n one counted is new were k within = ⊎_elim
    (λ (here : k ≡ n). subst (P k) (sym (ap (λ (hs : List HeldIds). held_at hs k) is ∙ or_push_here held one no_ids k (counted ∙ sym here))) (subst (λ (m : ℕ). P m one) (sym here) new))
    (λ (apart : k ≢ n). subst (P k) (sym (ap (λ (hs : List HeldIds). held_at hs k) is ∙ or_push_else held one no_ids k (omega (arith, counted, within, apart)))) (were k (omega (arith, within, apart))))
    (same_or_other k n)

pub lists-preserved : goal.lists-preserved
lists-preserved c =
    let i = c.lists.invariant in
    let more = c.push_reserved.ensures.items in
    let held : List HeldIds = c.lists.held.items in
    let within : c.lists.number < length c.args.rooms.now = (let e = i.end_is in let t = c.lists-test.true in omega (arith, e, t)) in
    record {
      end_is = i.end_is;
      counted = ap (λ (hs : List HeldIds). length hs) more ∙ length-append held (c.in_ok-with_room.field-0 ∷ []) ∙ ap (λ n. n + 1) i.counted;
      enough = (let r = i.enough in let grown = c.push_reserved.ensures.capacity in omega (arith, r, grown));
      none = each_more (λ (k : ℕ) (h : HeldIds). h.ids ≡ []) held c.push_reserved.new.self.items c.lists.number c.in_ok-with_room.field-0 i.counted more c.in_ok-with_room.ensures.none i.none;
      room = each_more (λ (k : ℕ) (h : HeldIds). room_of c.args.who (room_at c.args.rooms.now k) ≤ h.room) held c.push_reserved.new.self.items c.lists.number c.in_ok-with_room.field-0 i.counted more
          (let enough = c.in_ok-with_room.ensures.room in let is : c.room_of-room.result ≡ room_of c.args.who (room_at c.args.rooms.now c.lists.number) = c.room_of-room.ensures in omega (arith, enough, is)) i.room;
    }
