-- What shards that were opened, and the new shards that are made of them, have to do with their plans.
use Rattle.std.proofs.Common.{◌≡◌, ◌<◌, ◌+◌, ℕ, zero, suc, List, [], ◌∷◌, length, get_or, refl, sym, ap, ◌∙◌, subst, arith}
use Rattle.std.specs.Prelude.{Option, Some, None, slice_get, option_map}
use Rattle.atomic_table.specs.Seated.{TableId}
use Rattle.ebpf_decode.specs.declared.map.MapDef.{MapDef}
use Rattle.semantics.specs.declared.options.Options.{Options}
use Rattle.semantics.specs.declared.plan.ShardPlan.{ShardPlan}
use Rattle.semantics.specs.ShardPlan.{plan_at, AreOptions}
use Rattle.shard_core.specs.JournaledShard.{JournaledShard, opened_shard}
use Rattle.shards.specs.Opening.{AreOpened}
use Rattle.journals.specs.JournalsView.{AreImageMaps}
use Rattle.semantics.specs.Each.{Each}
use Rattle.shards.specs.Seats.{no_plan}
use Rattle.shards.specs.NewShards.{NewShardView, no_shard, new_at, shard_at, IsUnusedShard, AreUnused, IsNewShardOf, IsOpening}
use Rattle.semantics.proofs.shared.EachLemmas.{within, at_or, each_at}

module _ {A : Type 0} where
  get_is : (xs : List A) (place : ℕ) (d : A) → place < length xs → slice_get xs place ≡ Some (get_or xs place d)
  get_is [] place d below = absurd (omega arith)
  get_is (x ∷ xs) zero d below = refl
  get_is (x ∷ xs) (suc place) d below = get_is xs place d (omega arith)

some_is : {A : Type 0} → (a b : A) → Some a ≡ Some b → a ≡ b
some_is {A} a b same = ap (λ (o : Option A). or_first o) same where
  or_first : Option A → A
  or_first (Some x) = x
  or_first None = a

-- of a shard that was opened by its plan, if it has one
by_plan : (shard : JournaledShard) (plan : Option ShardPlan) → Some shard ≡ option_map opened_shard plan → IsUnusedShard shard × (plan ≡ Some shard.plan)
by_plan shard None same = absurd (none_is_some same) where
  none_is_some : Some shard ≡ None → ⊥
  none_is_some e = subst (λ (o : Option JournaledShard). is_there o) e tt where
    is_there : Option JournaledShard → Type 0
    is_there (Some s) = Unit {0}
    is_there None = ⊥
by_plan shard (Some plan) same =
    let is : shard ≡ opened_shard plan = some_is shard (opened_shard plan) same in
    let planned : shard.plan ≡ plan = ap (λ (s : JournaledShard). s.plan) is in
    (is ∙ ap opened_shard (sym planned), ap Some (sym planned))

pub opened_at : (maps : List MapDef) (options : Options) (shards : List JournaledShard) → AreOpened maps options shards → (number : ℕ) → number < length shards →
    IsUnusedShard (shard_at shards number) × (plan_at maps options number ≡ Some (shard_at shards number).plan)
opened_at maps options shards opened number below =
    by_plan (shard_at shards number) (plan_at maps options number) (sym (get_is shards number (opened_shard no_plan) below) ∙ opened.each number below)

pub unused_when_opened : (maps : List MapDef) (options : Options) (shards : List JournaledShard) → AreOpened maps options shards → AreUnused shards
unused_when_opened maps options shards opened place shard there =
    subst IsUnusedShard (sym (at_or shards place shard (opened_shard no_plan) there)) (opened_at maps options shards opened place (within shards place shard there)).0

pub is_opening : (maps copy : List MapDef) (options : Options) (order : TableId) (shards : List JournaledShard) (callers : ℕ) (all : List NewShardView) →
    AreImageMaps maps → AreOptions maps options → AreOpened maps options shards → copy ≡ maps → callers ≡ options.workers + 2 → length all ≡ length shards →
    Each (IsNewShardOf shards order callers) 0 all → IsOpening copy options order all
is_opening maps copy options order shards callers all allowed fit opened same_maps enough same_count made =
    let made_at : (number : ℕ) → number < length all → IsNewShardOf shards order callers number (new_at all number) =
    λ number below. each_at (IsNewShardOf shards order callers) all number (new_at all number) made below (default_is number below) in
    subst (λ (ms : List MapDef). IsOpening ms options order all) (sym same_maps) (record {
      maps_are = allowed;
      options_fit = fit;
      count = same_count ∙ opened.count;
      plans = λ number below. (opened_at maps options shards opened number (omega (arith, same_count))).1 ∙ ap Some (sym (made_at number below).plan_is);
      orders = λ number below. (made_at number below).order_is;
      places = λ number below. (made_at number below).places_are ∙ enough;
    })
  where
    default_is : (number : ℕ) → number < length all → new_at all number ≡ get_or all number (new_at all number)
    default_is number below = some_is _ _ (sym (get_is all number no_shard below) ∙ get_is all number (new_at all number) below)
