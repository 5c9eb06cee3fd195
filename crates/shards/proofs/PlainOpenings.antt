-- Lists that grow at their end.
use Rattle.std.proofs.Common.{◌≡◌, ℕ, zero, suc, ◌+◌, ◌<◌, Bool, true, false, nat_lt, List, [], ◌∷◌, ◌++◌, length, Some, arith, refl, ◌∙◌, ap, subst}
use Rattle.std.specs.Prelude.{slice_get, option_map}
use Rattle.std.proofs.lemmas.List.{length-append}
use Rattle.std.proofs.lemmas.Bool.Decides.{nat_tests}
use Rattle.ebpf_decode.specs.declared.map.MapDef.{MapDef}
use Rattle.semantics.specs.declared.options.Options.{Options}
use Rattle.semantics.specs.declared.plan.ShardPlan.{ShardPlan}
use Rattle.semantics.specs.ShardPlan.{plan_at}
use Rattle.shard_core.specs.JournaledShard.{JournaledShard, opened_shard}

pub slice_get-front : {A : Type 0} (xs : List A) (y : A) (k : ℕ) → k < length xs → slice_get (xs ++ y ∷ []) k ≡ slice_get xs k
slice_get-front [] y k within = absurd (omega arith)
slice_get-front (x ∷ xs) y zero within = refl
slice_get-front (x ∷ xs) y (suc k) within = slice_get-front xs y k (omega arith)

pub slice_get-last : {A : Type 0} (xs : List A) (y : A) → slice_get (xs ++ y ∷ []) (length xs) ≡ Some y
slice_get-last [] y = refl
slice_get-last (x ∷ xs) y = slice_get-last xs y

-- this many shards are as they are opened
abbrev pub AreOpenedSoFar : List MapDef → Options → List JournaledShard → Type 0
AreOpenedSoFar maps options shards =
    (number : ℕ) → number < length shards → slice_get shards number ≡ option_map opened_shard (plan_at maps options number)

pub one_more_opened : (maps : List MapDef) (options : Options) (shards : List JournaledShard) (plan : ShardPlan) → Some plan ≡ plan_at maps options (length shards) → AreOpenedSoFar maps options shards → AreOpenedSoFar maps options (shards ++ opened_shard plan ∷ [])
one_more_opened maps options shards plan planned each number within = by_place (nat_lt number (length shards)) refl
  where
    by_place : (test : Bool) → nat_lt number (length shards) ≡ test → slice_get (shards ++ opened_shard plan ∷ []) number ≡ option_map opened_shard (plan_at maps options number)
    by_place true is =
        let before : number < length shards = grind (arith, nat_tests) in
        slice_get-front shards (opened_shard plan) number before ∙ each number before
    by_place false is =
        let longer : length (shards ++ opened_shard plan ∷ []) ≡ length shards + 1 = length-append shards (opened_shard plan ∷ []) in
        let last : length shards ≡ number = grind (arith, nat_tests) in
        subst (λ place. slice_get (shards ++ opened_shard plan ∷ []) place ≡ option_map opened_shard (plan_at maps options place)) last
        (slice_get-last shards (opened_shard plan) ∙ ap (option_map opened_shard) planned)
