-- How many cells a worker can hold at a time: two for each entry of the shard's capacity, since it holds only cells that are kept.
use Rattle.std.specs.Prelude.{◌≡◌, ℕ, ◌*◌, ◌<◌, ◌≤◌, ◌==◌, Bool, true, false, List, [], ◌∷◌, length}
use Rattle.std.specs.List.{list_any}
use Rattle.semantics.specs.declared.call.Entry.{Entry}
use Rattle.semantics.specs.declared.plan.ShardPlan.{ShardPlan}
use Rattle.semantics.specs.ShardPlan.{capacity}
use Rattle.semantics.specs.Reclamation.{holds}

abbrev pub is_among : ℕ → List ℕ → Bool
is_among id ids = list_any (λ other. other == id) ids

-- no number is there twice
abbrev pub AreOnce : List ℕ → Type 0
AreOnce [] = Unit {0}
AreOnce (id ∷ ids) = (is_among id ids ≡ false) × AreOnce ids

-- cells that a worker holds, each listed once, are no more than two for each entry (an array's shard has one)
pub record FewAreHeld (plan : ShardPlan) (history : List Entry) : Type 0 where
  pub most : (worker : ℕ) (ids : List ℕ) → worker < plan.workers → AreOnce ids →
      ((cell : ℕ) → is_among cell ids ≡ true → holds worker cell history ≡ true) → length ids ≤ 2 * capacity plan
