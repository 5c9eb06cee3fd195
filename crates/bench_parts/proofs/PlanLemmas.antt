-- A shard whose map and options are those that are measured has their plan.
use Rattle.std.proofs.Common.{◌≡◌, ◌<◌, ◌*◌, ◌/◌, ◌%◌, ℕ, zero, suc, Bool, true, List, [], ◌∷◌, length, refl, sym, ap, ◌∙◌, arith}
use Rattle.std.specs.Prelude.{Option, Some, None, slice_get, slice_index_or, ◌==◌, ◌&&◌}
use Rattle.std.proofs.lemmas.Bool.Decides.{nat_tests}
use Rattle.semantics.proofs.shared.ConditionLemmas.{first_true, second_true}
use Rattle.ebpf_decode.specs.declared.map.MapDef.{MapDef}
use Rattle.ebpf_decode.specs.declared.map.MapKind.TheVariants.{Array}
use Rattle.semantics.specs.declared.options.Options.{Options}
use Rattle.semantics.specs.declared.plan.ShardPlan.{ShardPlan}
use Rattle.semantics.specs.ShardPlan.{plan_at, plan_for_map}
use Rattle.shards.specs.SharedMaps.{ArePlans}
use Rattle.bench_parts.specs.Measured.{measured_plan}

abbrev measured_map : MapDef
measured_map = record { kind = Array; key_size = 4; value_size = 8; max_entries = 64 }

abbrev measured_options : Options
measured_options = record { workers = 4; shards = 1; journal = 1048576 }

abbrev plan_in : Option ShardPlan → ShardPlan
plan_in (Some plan) = plan
plan_in None = measured_plan 0

abbrev with_part : ℕ → ℕ → ShardPlan
with_part shard part = record { number = shard; part = part; parts = 1; definition = measured_map; workers = 4; reserve = 1048576 }

whole : (n : ℕ) → n / 1 ≡ n
whole n = omega arith

no_rest : (n : ℕ) → n % 1 ≡ 0
no_rest n = omega arith

at : (maps : List MapDef) (n : ℕ) (d : MapDef) → n < length maps → slice_get maps n ≡ Some (slice_index_or maps n d)
at [] n d below = absurd (omega arith)
at (m ∷ ms) zero d below = refl
at (m ∷ ms) (suc n) d below = at ms n d (omega arith)

equal : (a b : ℕ) → (a == b) ≡ true → a ≡ b
equal a b same = grind (arith, nat_tests)

pub options_are : (o : Options) (r : Bool) → r ≡ ((o.workers == 4) && ((o.shards == 1) && (o.journal == 1048576))) → r ≡ true → o ≡ measured_options
options_are o r is held =
    let all : ((o.workers == 4) && ((o.shards == 1) && (o.journal == 1048576))) ≡ true = sym is ∙ held in
    let rest = second_true (o.workers == 4) ((o.shards == 1) && (o.journal == 1048576)) all in
    let workers : o.workers ≡ 4 = equal o.workers 4 (first_true (o.workers == 4) ((o.shards == 1) && (o.journal == 1048576)) all) in
    let shards : o.shards ≡ 1 = equal o.shards 1 (first_true (o.shards == 1) (o.journal == 1048576) rest) in
    let journal : o.journal ≡ 1048576 = equal o.journal 1048576 (second_true (o.shards == 1) (o.journal == 1048576) rest) in
    λ i. record { workers = workers i; shards = shards i; journal = journal i }

pub map_is : (m : MapDef) (k r : Bool) → (k ≡ true → m.kind ≡ Array) →
    r ≡ (k && ((m.key_size == 4) && ((m.value_size == 8) && (m.max_entries == 64)))) → r ≡ true → m ≡ measured_map
map_is m k r of_kind is held =
    let all : (k && ((m.key_size == 4) && ((m.value_size == 8) && (m.max_entries == 64)))) ≡ true = sym is ∙ held in
    let rest = second_true k ((m.key_size == 4) && ((m.value_size == 8) && (m.max_entries == 64))) all in
    let last = second_true (m.key_size == 4) ((m.value_size == 8) && (m.max_entries == 64)) rest in
    let kind : m.kind ≡ Array = of_kind (first_true k ((m.key_size == 4) && ((m.value_size == 8) && (m.max_entries == 64))) all) in
    let keys : m.key_size ≡ 4 = equal m.key_size 4 (first_true (m.key_size == 4) ((m.value_size == 8) && (m.max_entries == 64)) rest) in
    let values : m.value_size ≡ 8 = equal m.value_size 8 (first_true (m.value_size == 8) (m.max_entries == 64) last) in
    let entries : m.max_entries ≡ 64 = equal m.max_entries 64 (second_true (m.value_size == 8) (m.max_entries == 64) last) in
    λ i. record { kind = kind i; key_size = keys i; value_size = values i; max_entries = entries i }

pub measured : (maps maps' : List MapDef) (options : Options) (count : ℕ) (plan : ℕ → ShardPlan) (shard : ℕ) (m : MapDef) → ArePlans maps options count plan →
    maps' ≡ maps → shard < length maps' → m ≡ slice_index_or maps' shard m → m ≡ measured_map → options ≡ measured_options → plan shard ≡ measured_plan shard
measured maps maps' options count plan shard m plans same within there is of_four =
    let length_same = ap (λ (ms : List MapDef). length ms) same in
    let counted : count ≡ length maps * 1 = plans.count_is ∙ ap (λ (o : Options). length maps * o.shards) of_four in
    let below : shard < count = omega (arith, length_same, within, counted) in
    let planned : plan_at maps options shard ≡ Some (plan shard) = plans.each shard below in
    let found : slice_get maps shard ≡ Some measured_map =
    ap (λ (ms : List MapDef). slice_get ms shard) (sym same) ∙ at maps' shard m within ∙ ap Some (sym there ∙ is) in
    ap plan_in (sym planned)
    ∙ ap (λ (o : Options). plan_in (plan_at maps o shard)) of_four
    ∙ ap (λ (n : ℕ). plan_in (plan_for_map measured_options shard (slice_get maps n))) (whole shard)
    ∙ ap (λ (one : Option MapDef). plan_in (plan_for_map measured_options shard one)) found
    ∙ ap (with_part shard) (no_rest shard)
