-- A shard's plan, of maps that an image may have.
use Rattle.std.proofs.Common.{ℕ, ◌*◌, ◌/◌, ◌<◌, List, length, get_or, refl}
use Rattle.std.specs.List.{AllByRecursion}
use Rattle.std.proofs.lemmas.Nat.{div_below}
use Rattle.ebpf_decode.specs.declared.map.MapDef.{MapDef}
use Rattle.semantics.specs.declared.options.Options.{Options}
use Rattle.semantics.specs.ShardPlan.{AreOptions}
use Rattle.semantics.specs.PlanLimits.{HasImageSizes, IsPlan}
use Rattle.semantics.proofs.shared.PlanLemmas.{map_at, plan_of, shards_have_plans}

pub plan_is : (maps : List MapDef) (options : Options) (number : ℕ) (other : MapDef) → AllByRecursion HasImageSizes maps → AreOptions maps options → 0 < options.shards → number < length maps * options.shards
    → IsPlan (plan_of options number (get_or maps (number / options.shards) other))
plan_is maps options number other sizes fit some below =
    let within : number / options.shards < length maps = div_below number options.shards (length maps) some below in
    shards_have_plans maps options number (plan_of options number (get_or maps (number / options.shards) other)) sizes fit
    (rw (map_at maps (number / options.shards) other within) refl)
