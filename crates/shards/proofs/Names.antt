-- The names that a program picks for opened shards fit, and all callers wait for their passes.
use Rattle.std.proofs.Common.{◌≡◌, ◌<◌, ◌+◌, ◌/◌, ℕ, zero, suc, Bool, false, true≢false, List, [], length, sym, ap, ◌∙◌, subst, arith}
use Rattle.std.specs.Prelude.{Option, Some, None, replicate, slice_get}
use Rattle.atomic_table.specs.Seated.{TableId}
use Rattle.atomic_table.specs.declared.badge.Badge.{Badge}
use Rattle.ebpf_decode.specs.declared.map.MapDef.{MapDef}
use Rattle.semantics.specs.declared.options.Options.{Options}
use Rattle.semantics.specs.declared.plan.ShardPlan.{ShardPlan}
use Rattle.semantics.specs.ShardPlan.{plan_for_map}
use Rattle.shards.specs.declared.rule.Known.{Known}
use Rattle.semantics.specs.Each.{Each}
use Rattle.atomic_table.specs.declared.owned.Table.{Table}
use Rattle.shard_core.specs.JournaledShard.{JournaledShard, opened_shard}
use Rattle.shards.specs.Seats.{no_plan}
use Rattle.shards.specs.declared.deeds.Account.{Account}
use Rattle.shards.specs.declared.deeds.OrderPart.TheVariants.{ByCaller}
use Rattle.shards.specs.declared.order_rule.OrderKey.{OrderKey}
use Rattle.shards.specs.LockRule.{caller_at}
use Rattle.shards.specs.OrderRule.{IsFresh, IsOrderOf, AreCallerPlaces, no_order_place, order_place_at}
use Rattle.shards.specs.Opening.{AreOpened}
use Rattle.shards.specs.NewShards.{OpenedShards, AreAtOrder, shard_at, NewShardView, no_shard, new_at, IsOpening, IsNamed, IsNamedAt, badges_at, is_dealt_at, HasAllSeats, IsDealer}
use Rattle.shards.proofs.Openings.{opened_at}
use Rattle.shards.specs.GuardedView.{keys}
use Rattle.shards.specs.HeldCells.{room_at, IsRoomOf}
use Rattle.semantics.proofs.shared.EachLemmas.{within, at_or, each_at, each_start, or_within}

-- a plan has the number that it was asked for
pub number_of : (options : Options) (number : ℕ) (plan : ShardPlan) (found : Option MapDef) → plan_for_map options number found ≡ Some plan → plan.number ≡ number
number_of options number plan None is = absurd (none_is_some is) where
  none_is_some : None ≡ Some plan → ⊥
  none_is_some e = subst (λ (o : Option ShardPlan). is_none o) e tt where
    is_none : Option ShardPlan → Type 0
    is_none None = Unit {0}
    is_none (Some p) = ⊥
number_of options number plan (Some definition) is = sym (ap (λ (o : Option ShardPlan). number_in o) is) where
  number_in : Option ShardPlan → ℕ
  number_in (Some p) = p.number
  number_in None = 0

pub named_each : (count : ℕ) (table : ℕ → TableId) (plan : ℕ → ShardPlan) (order name : TableId) (maps : List MapDef) (options : Options) (shards : List NewShardView) →
    IsOpening maps options name shards → IsNamed count table plan order (record { maps = maps; options = options; shards = shards; order = name }) →
    Each (IsNamedAt table plan order) 0 shards
named_each count table plan order name maps options shards opening named = each_start (IsNamedAt table plan order) shards (λ number new there.
    let is : new ≡ new_at shards number = at_or shards number new no_shard there in record {
      table_is = ap (λ (n : NewShardView). n.table) is ∙ sym (named.table_is number);
      plan_is = ap (λ (n : NewShardView). n.plan) is ∙ sym (named.plan_is number);
      order_is = ap (λ (n : NewShardView). n.order) is ∙ opening.orders number (within shards number new there) ∙ sym named.order_is;
      number_is = ap (λ (n : NewShardView). n.plan.number) is
          ∙ number_of options number (new_at shards number).plan (slice_get maps (number / options.shards)) (opening.plans number (within shards number new there));
    })

-- among this many that are not dealt, only the places past the end count as dealt
pub below_places : (places place : ℕ) → is_dealt_at (replicate places false) place ≡ false → place < places
below_places zero place waits = absurd (true≢false waits)
below_places (suc places) zero waits = omega arith
below_places (suc places) (suc place) waits = (let rest = below_places places place waits in omega (arith, rest))

pub all_wait : (table : ℕ → TableId) (plan : ℕ → ShardPlan) (order name : TableId) (count : ℕ) (rooms : List ℕ) (maps : List MapDef) (options : Options) (shards : List NewShardView) (rows : List (List (Badge Known))) (dealt : List Bool) →
    IsOpening maps options name shards → IsNamed count table plan order (record { maps = maps; options = options; shards = shards; order = name }) → (length rooms ≡ length shards) → Each (IsRoomOf plan) 0 rooms → length rows ≡ length shards → Each (HasAllSeats table (keys plan order) shards) 0 rows →
    dealt ≡ replicate (options.workers + 2) false → IsDealer table (keys plan order) count rooms dealt rows
all_wait table plan order name count rooms maps options shards rows dealt opening named as_many fit rows_are_as_many rows_are dealt_is = record {
  sized = rows_are_as_many ∙ sym named.count_is;
  waiting = λ number below place waits.
      let there : number < length rows = (let a = rows_are_as_many in let count_is = named.count_is in omega (arith, a, count_is)) in
      let row = each_at (HasAllSeats table (keys plan order) shards) rows number (badges_at rows number) rows_are there (or_within rows [] (badges_at rows number) number there) in
      let few = below_places (options.workers + 2) place (ap (λ (d : List Bool). is_dealt_at d place) (sym dealt_is) ∙ waits) in
      let long : place < length (badges_at rows number) =
      (let a = row.count in let b = opening.places number (let a = rows_are_as_many in omega (arith, a, there)) in omega (arith, a, b, few)) in
      (long, row.fresh place long);
  roomed = as_many ∙ sym named.count_is;
  enough = λ number below.
      let there : number < length rooms = (let count_is = named.count_is in omega (arith, count_is, below, as_many)) in
      each_at (IsRoomOf plan) rooms number (room_at rooms number) fit there (or_within rooms 0 (room_at rooms number) number there);
}

-- ---- the order of all deeds

pub order_named : {S P A : Type 0} (count callers : ℕ) (table : ℕ → TableId) (plan : ℕ → ShardPlan) (order : TableId) (opened : OpenedShards) (the : Table S (List Account) OrderKey P A) →
    IsNamed count table plan order opened → the.shared.table_id ≡ opened.order → IsOrderOf the.shared.table_id (λ (n : ℕ). (new_at opened.shards n).plan) (length opened.shards) callers the →
    IsOrderOf order plan count callers the
order_named count callers table plan order opened the named same is =
    let name : the.shared.table_id ≡ order = same ∙ sym named.order_is in record {
      table_is = name;
      some_word = subst (λ (t : TableId). 0 < t.words) name is.some_word;
      no_slot = subst (λ (t : TableId). t.slots ≡ 0) name is.no_slot;
      sized = is.sized ∙ sym named.count_is;
      plans = λ number below. is.plans number (let e = named.count_is in omega (arith, e, below)) ∙ sym (named.plan_is number);
      callers_are = is.callers_are;
    }

pub at_order : (order : TableId) (callers : ℕ) (dealt : List Bool) (places : List (Badge (List Account))) → length places ≡ callers → AreCallerPlaces order places →
    dealt ≡ replicate callers false → AreAtOrder order dealt places
at_order order callers dealt places counted are dealt_is place waits =
    let few = below_places callers place (ap (λ (d : List Bool). is_dealt_at d place) (sym dealt_is) ∙ waits) in
    let there : place < length places = omega (arith, few, counted) in (
      there,
      each_at (λ (number : ℕ) (p : Badge (List Account)). IsFresh order (ByCaller (caller_at number)) p) places place (order_place_at places place) are there (or_within places no_order_place (order_place_at places place) place there),
    )

pub numbers_when_opened : (maps : List MapDef) (options : Options) (shards : List JournaledShard) → AreOpened maps options shards →
    Each (λ (number : ℕ) (shard : JournaledShard). shard.plan.number ≡ number) 0 shards
numbers_when_opened maps options shards opened place shard there =
    ap (λ (s : JournaledShard). s.plan.number) (at_or shards place shard (opened_shard no_plan) there)
    ∙ number_of options place (shard_at shards place).plan (slice_get maps (place / options.shards)) (opened_at maps options shards opened place (within shards place shard there)).1
    ∙ omega arith
