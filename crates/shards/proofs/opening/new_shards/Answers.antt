use Rattle.std.proofs.Common.{◌≡◌, ◌<◌, ◌+◌, ℕ, length, sym, ap, ◌∙◌, subst, arith, length-append, [], ◌∷◌, List}
use Rattle.shard_core.specs.JournaledShard.{JournaledShard, opened_shard}
use Rattle.semantics.specs.Each.{Each}
use Rattle.atomic_table.specs.Seated.{TableId}
use Rattle.atomic_table.specs.declared.badge.Badge.{Badge}
use Rattle.shards.specs.declared.deeds.Account.{Account}
use Rattle.shards.specs.declared.deeds.OrderPart.TheVariants.{OnShard}
use Rattle.shards.specs.OrderRule.{IsFresh}
use Rattle.shards.specs.Seats.{no_plan}
use Rattle.shards.specs.NewShards.{shard_at, IsUnusedShard, IsNewShardOf}
use Rattle.semantics.proofs.shared.EachLemmas.{each_push, each_first, each_rest, each_none, each_start, at_or}
use Rattle.shards.proofs.opening.new_shards.Goals as goal

abbrev IsLeft : List JournaledShard → ℕ → JournaledShard → Type 0
IsLeft shards number shard = (shard ≡ shard_at shards number) × (IsUnusedShard shard × (shard.plan.number ≡ number))

abbrev IsSeatLeft : TableId → ℕ → Badge (List Account) → Type 0
IsSeatLeft table number place = IsFresh table (OnShard number) place

pub shards-init : goal.shards-init
shards-init c = record {
  made = subst (λ xs. Each (IsNewShardOf c.args.shards.items c.args.order.now.shared.table_id c.args.callers) 0 xs) (sym c.in_ok-all.ensures.items) (each_none (IsNewShardOf c.args.shards.items c.args.order.now.shared.table_id c.args.callers) 0);
  counted = ap (λ xs. length xs) c.in_ok-all.ensures.items;
  left = each_start (IsLeft c.args.shards.items) c.args.shards.items (λ place shard there. (at_or c.args.shards.items place shard (opened_shard no_plan) there, (c.requires.unused place shard there, c.requires.numbers place shard there ∙ omega arith)));
  seats = c.requires.places.1;
  as_many = (let e = c.requires.places.0 in omega (arith, e));
  together = omega arith;
  count_is = (let is = c.len-count.ensures in let ok = c.args.shards.ok.0 in omega (arith, is, ok));
  room = (let enough = c.in_ok-all.ensures.capacity in omega (arith, enough));
}

pub of-requires-clause-unused : goal.of-requires-clause-unused
of-requires-clause-unused c =
    let i = c.shards.invariant in
    let some_left : 0 < length c.shards.shards.items = (let t = i.together in let n = i.count_is in let below = c.shards-test.true in omega (arith, t, n, below)) in
    (each_first (IsLeft c.args.shards.items) c.shards._number c.shards.shards.items c.remove-shard.result i.left some_left c.remove-shard.ensures.value).1.0

pub of-requires-clause-fresh : goal.of-requires-clause-fresh
of-requires-clause-fresh c =
    let i = c.shards.invariant in
    let table = c.args.order.now.shared.table_id in
    let some_left : 0 < length c.shards.shards.items = (let t = i.together in let n = i.count_is in let below = c.shards-test.true in omega (arith, t, n, below)) in
    let some_seat : 0 < length c.shards.places.items = (let t = i.as_many in let n = i.count_is in let below = c.shards-test.true in omega (arith, t, n, below)) in
    let first = each_first (IsLeft c.args.shards.items) c.shards._number c.shards.shards.items c.remove-shard.result i.left some_left c.remove-shard.ensures.value in
    subst (λ (n : ℕ). IsFresh table (OnShard n) c.remove-place.result) (sym first.1.1)
    (each_first (IsSeatLeft table) c.shards._number c.shards.places.items c.remove-place.result i.seats some_seat c.remove-place.ensures.value)

pub shards-preserved : goal.shards-preserved
shards-preserved c =
    let i = c.shards.invariant in
    let some_left : 0 < length c.shards.shards.items = (let t = i.together in let n = i.count_is in let below = c.shards-test.true in omega (arith, t, n, below)) in
    let first = each_first (IsLeft c.args.shards.items) c.shards._number c.shards.shards.items c.remove-shard.result i.left some_left c.remove-shard.ensures.value in
    let one : IsNewShardOf c.args.shards.items c.args.order.now.shared.table_id c.args.callers c.shards._number c.in_ok-of.field-0 =
    record { plan_is = c.in_ok-of.ensures.plan ∙ ap (λ (s : JournaledShard). s.plan) first.0; places_are = c.in_ok-of.ensures.places; order_is = c.in_ok-of.ensures.order } in
    let more = c.push_reserved.ensures.items in record {
      made = subst (λ xs. Each (IsNewShardOf c.args.shards.items c.args.order.now.shared.table_id c.args.callers) 0 xs) (sym more)
          (each_push (IsNewShardOf c.args.shards.items c.args.order.now.shared.table_id c.args.callers) c.shards.all.items c.shards._number c.in_ok-of.field-0 i.counted i.made one);
      counted = ap (λ xs. length xs) more ∙ length-append c.shards.all.items (c.in_ok-of.field-0 ∷ []) ∙ ap (λ n. n + 1) i.counted;
      left = subst (λ xs. Each (IsLeft c.args.shards.items) (c.shards._number + 1) xs) (sym c.remove-shard.ensures.items) (each_rest (IsLeft c.args.shards.items) c.shards._number c.shards.shards.items i.left);
      together = (let t = i.together in let shorter = c.remove-shard.ensures.len in let a = c.shards.shards.ok.0 in let b = c.remove-shard.new.self.ok.0 in omega (arith, t, shorter, a, b, some_left));
      seats = subst (λ xs. Each (IsSeatLeft c.args.order.now.shared.table_id) (c.shards._number + 1) xs) (sym c.remove-place.ensures.items) (each_rest (IsSeatLeft c.args.order.now.shared.table_id) c.shards._number c.shards.places.items i.seats);
      as_many = (let t = i.as_many in let n = i.count_is in let below = c.shards-test.true in let shorter = c.remove-place.ensures.len in let a = c.shards.places.ok.0 in let b = c.remove-place.new.self.ok.0 in omega (arith, t, n, below, shorter, a, b));
      count_is = i.count_is;
      room = (let r = i.room in let grown = c.push_reserved.ensures.capacity in omega (arith, r, grown));
    }
