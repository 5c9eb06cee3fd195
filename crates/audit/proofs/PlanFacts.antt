-- A shard's plan, of maps that an image may have.
use Rattle.std.proofs.Common.{◌≡◌, ◌⊎◌, ℕ, ◌*◌, ◌/◌, ◌<◌, ◌≤◌, List, length, get_or, Some, arith, refl, inl, inr}
use Rattle.std.proofs.lemmas.Nat.{div_below}
use Rattle.ebpf_decode.specs.declared.version.Version.TheVariants.{V2}
use Rattle.ebpf_decode.specs.declared.map.MapDef.{MapDef}
use Rattle.semantics.specs.declared.options.Options.{Options}
use Rattle.semantics.specs.declared.plan.ShardPlan.{ShardPlan}
use Rattle.semantics.specs.ShardPlan.{plan_at, AreOptions}
use Rattle.semantics.specs.PlanLimits.{IsPlan}
use Rattle.semantics.proofs.shared.ImageSizes.{image_sizes}
use Rattle.semantics.proofs.shared.PlanLemmas.{map_at, plan_of, shards_have_plans}
use Rattle.journals.specs.JournalsView.{AreImageMaps}

pub some_shards : (maps : List MapDef) (options : Options) → AreOptions maps options → (1 ≤ options.shards) × (options.shards ≤ 8)
some_shards maps options fits = by fits.power_of_two where
  by : (options.shards ≡ 1) ⊎ (options.shards ≡ 2) ⊎ (options.shards ≡ 4) ⊎ (options.shards ≡ 8) → (1 ≤ options.shards) × (options.shards ≤ 8)
  by (inl e) = (omega (arith, e), omega (arith, e))
  by (inr (inl e)) = (omega (arith, e), omega (arith, e))
  by (inr (inr (inl e))) = (omega (arith, e), omega (arith, e))
  by (inr (inr (inr e))) = (omega (arith, e), omega (arith, e))

-- there are at most 128 shards
pub few_shards : (maps : List MapDef) (options : Options) → AreImageMaps maps → AreOptions maps options → length maps * options.shards ≤ 128
few_shards maps options are fits = by fits.power_of_two where
  few : length maps ≤ 16
  few = are.few

  by : (options.shards ≡ 1) ⊎ (options.shards ≡ 2) ⊎ (options.shards ≡ 4) ⊎ (options.shards ≡ 8) → length maps * options.shards ≤ 128
  by (inl e) = rw e (omega (arith, few))
  by (inr (inl e)) = rw e (omega (arith, few))
  by (inr (inr (inl e))) = rw e (omega (arith, few))
  by (inr (inr (inr e))) = rw e (omega (arith, few))

pub map_within : (maps : List MapDef) (options : Options) (number : ℕ) → AreOptions maps options → number < length maps * options.shards → number / options.shards < length maps
map_within maps options number fits below = let some = (some_shards maps options fits).0 in div_below number options.shards (length maps) (omega (arith, some)) below

pub plan_is : (maps : List MapDef) (options : Options) (number : ℕ) (other : MapDef) → AreOptions maps options → number < length maps * options.shards
    → plan_at maps options number ≡ Some (plan_of options number (get_or maps (number / options.shards) other))
plan_is maps options number other fits below = rw (map_at maps (number / options.shards) other (map_within maps options number fits below)) refl

pub limits_are : (maps : List MapDef) (options : Options) (number : ℕ) (plan : ShardPlan) → AreImageMaps maps → AreOptions maps options → plan_at maps options number ≡ Some plan → IsPlan plan
limits_are maps options number plan are fits is = shards_have_plans maps options number plan (image_sizes V2 maps are.allowed) fits is
