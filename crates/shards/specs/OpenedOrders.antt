-- The order of all deeds as shards are opened, and the callers' seats at it.
use Rattle.std.specs.Prelude.{◌≡◌, ℕ, ◌+◌, List, length}
use Rattle.atomic_table.specs.declared.badge.Badge.{Badge}
use Rattle.atomic_table.specs.declared.owned.Table.{Table}
use Rattle.semantics.specs.declared.options.Options.{Options}
use Rattle.shards.specs.declared.deeds.Account.{Account}
use Rattle.shards.specs.declared.order_rule.OrderKey.{OrderKey}
use Rattle.shards.specs.NewShards.{NewShardView, new_at}
use Rattle.shards.specs.OrderRule.{IsOrderOf, AreCallerPlaces}

-- it knows the shards' plans, and each caller's seat waits at its place
pub record IsOpenedOrder {S P A : Type 0} (options : Options) (shards : List NewShardView) (order : Table S (List Account) OrderKey P A)
    (places : List (Badge (List Account))) : Type 0 where
  pub order_is : IsOrderOf order.shared.table_id (λ (number : ℕ). (new_at shards number).plan) (length shards) (options.workers + 2) order
  pub counted : length places ≡ options.workers + 2
  pub fresh : AreCallerPlaces order.shared.table_id places
