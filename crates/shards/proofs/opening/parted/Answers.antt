use Rattle.std.proofs.Common.{◌≡◌, ◌<◌, ◌+◌, ◌≤◌, ℕ, List, length, sym, ap, ◌∙◌, subst, arith, length-append}
use Rattle.atomic_table.specs.Seated.{TableId}
use Rattle.atomic_table.specs.declared.badge.Badge.{Badge}
use Rattle.semantics.specs.declared.plan.ShardPlan.{ShardPlan}
use Rattle.shards.specs.declared.rule.Known.{Known}
use Rattle.semantics.specs.Each.{Each}
use Rattle.shards.specs.GuardedView.{KeyedPlan, keyed, keys}
use Rattle.shards.specs.LockRule.{lock_place}
use Rattle.shards.specs.Seats.{IsLockOf}
use Rattle.shards.specs.HeldCells.{most_held, IsRoomOf}
use Rattle.shards.specs.SharedMaps.{AreLocks}
use Rattle.shards.specs.NewShards.{NewShardView, no_shard, new_at, AreNewSeats, IsNamedAt, HasAllSeats}
use Rattle.semantics.proofs.shared.EachLemmas.{each_push, each_first, each_rest, each_none, each_start, at_or}
use Rattle.shards.proofs.opening.parted.Goals as goal

abbrev IsLeft : (ℕ → TableId) → (ℕ → ShardPlan) → TableId → List NewShardView → ℕ → NewShardView → Type 0
IsLeft table plan order shards number new = (new ≡ new_at shards number) × IsNamedAt table plan order number new

pub shards-init : goal.shards-init
shards-init g c = record {
  locks_made = ap (λ xs. length xs) c.in_ok-locks.ensures.items;
  locks_are = subst (λ xs. AreLocks g.B.Naming.table (keys g.B.Naming.plan g.B.Naming.order) xs) (sym c.in_ok-locks.ensures.items) (each_none (λ number lock. IsLockOf (g.B.Naming.table number) (keys g.B.Naming.plan g.B.Naming.order number) lock) 0);
  rows_made = ap (λ xs. length xs) c.in_ok-rows.ensures.items;
  rows_are = subst (λ xs. Each (HasAllSeats g.B.Naming.table (keys g.B.Naming.plan g.B.Naming.order) c.args.shards.items) 0 xs) (sym c.in_ok-rows.ensures.items) (each_none (HasAllSeats g.B.Naming.table (keys g.B.Naming.plan g.B.Naming.order) c.args.shards.items) 0);
  rooms_made = ap (λ xs. length xs) c.in_ok-rooms.ensures.items;
  rooms_are = subst (λ xs. Each (IsRoomOf g.B.Naming.plan) 0 xs) (sym c.in_ok-rooms.ensures.items) (each_none (IsRoomOf g.B.Naming.plan) 0);
  left = each_start (IsLeft g.B.Naming.table g.B.Naming.plan g.B.Naming.order c.args.shards.items) c.args.shards.items
      (λ place new there. (
        at_or c.args.shards.items place new no_shard there,
        subst (λ (n : ℕ). IsNamedAt g.B.Naming.table g.B.Naming.plan g.B.Naming.order n new) (omega arith) (c.requires place new there),
      ));
  together = omega arith;
  count_is = (let is = c.len-count.ensures in let ok = c.args.shards.ok.0 in omega (arith, is, ok));
  locks_room = (let enough = c.in_ok-locks.ensures.capacity in omega (arith, enough));
  rows_room = (let enough = c.in_ok-rows.ensures.capacity in omega (arith, enough));
  rooms_room = (let enough = c.in_ok-rooms.ensures.capacity in omega (arith, enough));
}

pub shards-preserved : goal.shards-preserved
shards-preserved g c =
    let i = c.shards.invariant in
    let number = c.shards._number in
    let some_left : 0 < length c.shards.shards.items = (let t = i.together in let n = i.count_is in let below = c.shards-test.true in omega (arith, t, n, below)) in
    let first = each_first (IsLeft g.B.Naming.table g.B.Naming.plan g.B.Naming.order c.args.shards.items) number c.shards.shards.items c.remove.result i.left some_left c.remove.ensures.value in
    let table_is : c.lock.inside.lock.shared.table_id ≡ g.B.Naming.table number = ap (λ (v : NewShardView). v.table) c.lock.view_is ∙ first.1.table_is in
    let planned : c.lock.inside.lock.shared.key ≡ keys g.B.Naming.plan g.B.Naming.order number =
    (λ k. keyed ((ap (λ (v : NewShardView). v.plan) c.lock.view_is ∙ first.1.plan_is) k) ((ap (λ (v : NewShardView). v.order) c.lock.view_is ∙ first.1.order_is) k)) in
    let locks = c.push_reserved.ensures.items in
    let rows = c.push_reserved-in-shards.ensures.items in
    let rooms = c.push_reserved-in-shards-2.ensures.items in
    record {
      locks_made = ap (λ xs. length xs) locks ∙ length-append c.shards.locks.items _ ∙ ap (λ n. n + 1) i.locks_made;
      locks_are = subst (λ xs. AreLocks g.B.Naming.table (keys g.B.Naming.plan g.B.Naming.order) xs) (sym locks)
          (each_push (λ n lock. IsLockOf (g.B.Naming.table n) (keys g.B.Naming.plan g.B.Naming.order n) lock) c.shards.locks.items number c.lock.inside.lock i.locks_made i.locks_are (
            table_is,
            subst (λ (t : TableId). lock_place < t.words) table_is c.lock.invariant.some_word,
            ap (λ (t : TableId). t.slots) (sym table_is) ∙ c.lock.invariant.one_slot,
            planned,
          ));
      rows_made = ap (λ xs. length xs) rows ∙ length-append c.shards.rows.items _ ∙ ap (λ n. n + 1) i.rows_made;
      rows_are = subst (λ xs. Each (HasAllSeats g.B.Naming.table (keys g.B.Naming.plan g.B.Naming.order) c.args.shards.items) 0 xs) (sym rows)
          (each_push (HasAllSeats g.B.Naming.table (keys g.B.Naming.plan g.B.Naming.order) c.args.shards.items) c.shards.rows.items number c.new.result i.rows_made i.rows_are
          (record {
            count = ap (λ (b : List (Badge Known)). length b) c.new.ensures ∙ ap (λ (v : NewShardView). v.places) (c.lock.view_is ∙ first.0);
            fresh = subst (λ (b : List (Badge Known)). AreNewSeats (g.B.Naming.table number) (keys g.B.Naming.plan g.B.Naming.order number) b) (sym c.new.ensures)
                (subst (λ (x : TableId × KeyedPlan). AreNewSeats x.0 x.1 c.lock.inside.seats.items) (λ k. (table_is k, planned k)) c.lock.invariant.seats_are);
          }));
      rooms_made = ap (λ xs. length xs) rooms ∙ length-append c.shards.rooms.items _ ∙ ap (λ n. n + 1) i.rooms_made;
      rooms_are = subst (λ xs. Each (IsRoomOf g.B.Naming.plan) 0 xs) (sym rooms)
          (each_push (IsRoomOf g.B.Naming.plan) c.shards.rooms.items number c.lock.inside.room i.rooms_made i.rooms_are
          (subst (λ (p : KeyedPlan). most_held p.plan ≤ c.lock.inside.room) planned c.lock.invariant.enough));
      left = subst (λ xs. Each (IsLeft g.B.Naming.table g.B.Naming.plan g.B.Naming.order c.args.shards.items) (number + 1) xs) (sym c.remove.ensures.items)
          (each_rest (IsLeft g.B.Naming.table g.B.Naming.plan g.B.Naming.order c.args.shards.items) number c.shards.shards.items i.left);
      together = (let t = i.together in let shorter = c.remove.ensures.len in let a = c.shards.shards.ok.0 in let b = c.remove.new.self.ok.0 in omega (arith, t, shorter, a, b, some_left));
      count_is = i.count_is;
      locks_room = (let r = i.locks_room in let grown = c.push_reserved.ensures.capacity in omega (arith, r, grown));
      rows_room = (let r = i.rows_room in let grown = c.push_reserved-in-shards.ensures.capacity in omega (arith, r, grown));
      rooms_room = (let r = i.rooms_room in let grown = c.push_reserved-in-shards-2.ensures.capacity in omega (arith, r, grown));
    }
