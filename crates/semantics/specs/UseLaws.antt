-- Distinct present keys have distinct last uses, so that the least recently used key is one.
use Rattle.std.specs.Prelude.{◌≡◌, ◌<◌, List, [], ◌∷◌}
use Rattle.std.specs.List.{AllByRecursion}
use Rattle.semantics.specs.declared.plan.PresentKey.{PresentKey}
use Rattle.semantics.specs.ShardPlan.{ShardPlan}
use Rattle.semantics.specs.LeastRecentlyUsed.{last_use}
use Rattle.semantics.specs.SequentialShard.{shard_after}
use Rattle.semantics.specs.History.{IsLegalHistory}
use Rattle.semantics.specs.Entries.{History}

-- any two items of the list are related, the earlier to the later
abbrev pub ArePairwise : {A : Type 0} → (A → A → Type 0) → List A → Type 0
ArePairwise R [] = Unit {0}
ArePairwise R (x ∷ xs) = AllByRecursion (R x) xs × ArePairwise R xs

-- each present key was used
abbrev pub PresentKeysWereUsed : Type 0
PresentKeysWereUsed =
    (plan : ShardPlan) (history : History) → IsLegalHistory plan history →
    AllByRecursion (λ (one : PresentKey). 0 < last_use one.key history) (shard_after plan history).present

-- no two present keys are the same, and no two were last used by the same entry
abbrev pub PresentKeysDiffer : Type 0
PresentKeysDiffer =
    (plan : ShardPlan) (history : History) → IsLegalHistory plan history →
    ArePairwise (λ (one other : PresentKey). one.key ≡ other.key → ⊥) (shard_after plan history).present

abbrev pub LastUsesDiffer : Type 0
LastUsesDiffer =
    (plan : ShardPlan) (history : History) → IsLegalHistory plan history →
    ArePairwise (λ (one other : PresentKey). last_use one.key history ≡ last_use other.key history → ⊥) (shard_after plan history).present
