-- The plans of the shards of an image's maps.
use Rattle.std.proofs.Common.{◌≡◌, ℕ, zero, suc, ◌+◌, ◌*◌, ◌/◌, ◌%◌, ◌<◌, ◌≤◌, List, [], ◌∷◌, length, get_or, Option, Some, None, refl, subst, ⊎_elim, arith, mul-le-mul_right, suc-mul}
use Rattle.std.specs.Prelude.{slice_get}
use Rattle.std.specs.List.{AllByRecursion}
use Rattle.std.proofs.lemmas.Nat.{mod_below}
use Rattle.std.proofs.lemmas.List.Elements.{recursion_from_All}
use Rattle.ebpf_decode.specs.declared.map.MapDef.{MapDef}
use Rattle.semantics.specs.declared.options.Options.{Options}
use Rattle.semantics.specs.ShardPlan.{ShardPlan, plan_for_map, plan_at, AreOptions}
use Rattle.semantics.specs.PlanLimits.{HasImageSizes, IsPlan}

pub each_at : (P : MapDef → Type 0) (maps : List MapDef) (place : ℕ) (definition : MapDef) → AllByRecursion P maps → slice_get maps place ≡ Some definition → P definition
each_at P [] place definition each is = absurd cc
each_at P (first ∷ maps) zero definition each is = let same : first ≡ definition = cc in subst P same each.0
each_at P (first ∷ maps) (suc place) definition each is = each_at P maps place definition each.1 is

pub some_shards : (maps : List MapDef) (options : Options) → AreOptions maps options → 0 < options.shards
some_shards maps options fits = ⊎_elim
    (λ one. omega (arith, one))
    (λ more. ⊎_elim (λ two. omega (arith, two)) (λ many. ⊎_elim (λ four. omega (arith, four)) (λ eight. omega (arith, eight)) many) more)
    fits.power_of_two

pub few_parts : (maps : List MapDef) (options : Options) → AreOptions maps options → options.shards ≤ 8
few_parts maps options are = grind (arith, are.power_of_two)

-- the shard of a map's part is one of all maps' shards
pub below_count : (map maps parts part : ℕ) → map < maps → part < parts → map * parts + part < maps * parts
below_count map maps parts part of_map of_part =
    let more : suc map * parts ≤ maps * parts = mul-le-mul_right parts of_map in
    let next : suc map * parts ≡ map * parts + parts = suc-mul map parts in
    omega (arith, more, next, of_part)

abbrev pub plan_of : Options → ℕ → MapDef → ShardPlan
plan_of options number definition = record {
  number = number;
  part = number % options.shards;
  parts = options.shards;
  definition = definition;
  workers = options.workers;
  reserve = options.journal;
}

plan_of_map : (maps : List MapDef) (options : Options) (number : ℕ) (definition : MapDef) → AreOptions maps options → HasImageSizes definition → definition.max_entries % options.shards ≡ 0 → IsPlan (plan_of options number definition)
plan_of_map maps options number definition fits sizes equal =
    let some : 0 < options.shards = some_shards maps options fits in
    record {
      limits = record { key_size = sizes.key_size; index_size = sizes.index_size; value_size = sizes.value_size; some_part = some };
      some_entries = sizes.some_entries;
      most_entries = sizes.most_entries;
      part = mod_below number options.shards some;
      equal_parts = equal;
      some_worker = fits.some_worker;
      at_most_eight = fits.at_most_eight;
      least_reserve = fits.least_journal;
      greatest_reserve = fits.greatest_journal;
    }

plan_by : (maps : List MapDef) (options : Options) (number : ℕ) (plan : ShardPlan) (found : Option MapDef) → AllByRecursion HasImageSizes maps → AreOptions maps options → slice_get maps (number / options.shards) ≡ found →
    plan_for_map options number found ≡ Some plan → IsPlan plan
plan_by maps options number plan None sizes fits is planned = absurd cc
plan_by maps options number plan (Some definition) sizes fits is planned =
    let same : plan_of options number definition ≡ plan = cc
    in subst IsPlan same (plan_of_map maps options number definition fits (each_at HasImageSizes maps (number / options.shards) definition sizes is)
    (each_at (λ (one : MapDef). one.max_entries % options.shards ≡ 0) maps (number / options.shards) definition (recursion_from_All (λ (one : MapDef). one.max_entries % options.shards ≡ 0) maps fits.in_equal_parts) is))

pub shards_have_plans : (maps : List MapDef) (options : Options) (number : ℕ) (plan : ShardPlan) → AllByRecursion HasImageSizes maps → AreOptions maps options → plan_at maps options number ≡ Some plan → IsPlan plan
shards_have_plans maps options number plan sizes fits is = plan_by maps options number plan (slice_get maps (number / options.shards)) sizes fits refl is

-- the map at a place that there is
pub map_at : (maps : List MapDef) (place : ℕ) (other : MapDef) → place < length maps → slice_get maps place ≡ Some (get_or maps place other)
map_at [] place other within = absurd (omega (arith, within))
map_at (one ∷ rest) zero other within = refl
map_at (one ∷ rest) (suc place) other within = map_at rest place other (omega (arith, within))
