-- The order knows each shard.
use Rattle.std.proofs.Common.{◌≡◌, ◌<◌, ◌/◌, ℕ, List, ap, ◌∙◌, arith}
use Rattle.std.specs.Prelude.{slice_get}
use Rattle.atomic_table.specs.Seated.{TableId}
use Rattle.atomic_table.specs.declared.owned.Table.{Table}
use Rattle.ebpf_decode.specs.declared.map.MapDef.{MapDef}
use Rattle.semantics.specs.declared.options.Options.{Options}
use Rattle.semantics.specs.declared.plan.ShardPlan.{ShardPlan}
use Rattle.shards.specs.declared.deeds.Account.{Account}
use Rattle.shards.specs.declared.order_rule.OrderKey.{OrderKey}
use Rattle.shards.specs.GuardedView.{keyed}
use Rattle.shards.specs.OrderRule.{IsOrderOf, KnowsShard, plan_in}
use Rattle.shards.specs.SharedMaps.{ArePlans}
use Rattle.shards.proofs.Names.{number_of}

pub numbered : (maps : List MapDef) (options : Options) (count : ℕ) (plan : ℕ → ShardPlan) (number : ℕ) → ArePlans maps options count plan → number < count → (plan number).number ≡ number
numbered maps options count plan number plans below = number_of options number (plan number) (slice_get maps (number / options.shards)) (plans.each number below)

pub knows_shard : {S P A : Type 0} (plan : ℕ → ShardPlan) (order : TableId) (count callers : ℕ) (maps : List MapDef) (options : Options) (the : Table S (List Account) OrderKey P A) (number : ℕ) →
    IsOrderOf order plan count callers the → ArePlans maps options count plan → number < count → KnowsShard (keyed (plan number) order) the
knows_shard plan order count callers maps options the number is plans below =
    let same = numbered maps options count plan number plans below in record {
      table_is = is.table_is;
      some_word = is.some_word;
      within = (let sized = is.sized in omega (arith, sized, same, below));
      plan_is = ap (λ (n : ℕ). plan_in the.shared.key.plans.items n) same ∙ is.plans number below;
    }
