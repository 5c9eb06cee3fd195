-- The shard of a key: it is there, it is planned for the key's map, and the key is its own.
use Rattle.std.proofs.Common.{◌≡◌, ℕ, ◌+◌, ◌*◌, ◌/◌, ◌%◌, ◌<◌, true, List, length, Some, arith, refl, sym, ◌∙◌, ap}
use Rattle.std.specs.Prelude.{All, slice_get}
use Rattle.std.proofs.lemmas.Option.{slice_get_within}
use Rattle.std.proofs.lemmas.Nat.{div-mul-add, mod-mul-add}
use Rattle.std.proofs.Math.Nat.{mod-lt}
use Rattle.std.proofs.lemmas.Bool.Decides.{nat_tests}
use Rattle.std.specs.Prelude.{Bool, ◌&&◌, ◌==◌}
use Rattle.ebpf_decode.specs.declared.map.MapDef.{MapDef}
use Rattle.semantics.specs.declared.options.Options.{Options}
use Rattle.semantics.specs.declared.plan.ShardPlan.{ShardPlan}
use Rattle.semantics.specs.Program.{part_of_key, shard_number_of_key, shard_of_key}
use Rattle.semantics.specs.ShardPlan.{AreOptions, plan_at, plan_for_map}
use Rattle.semantics.specs.History.{is_own_key}
use Rattle.semantics.proofs.shared.ConditionLemmas.{bytes_test}
use Rattle.semantics.proofs.shared.PlanLemmas.{some_shards, below_count}
use Rattle.shards.specs.SharedMaps.{ArePlans}

same_test : (a b : ℕ) → a ≡ b → (a == b) ≡ true
same_test a b same = grind (arith, nat_tests)

both_true : (a b : Bool) → a ≡ true → b ≡ true → (a && b) ≡ true
both_true a b first second = rw (first, second) refl

-- what the shard's plan is, where the shard is the map's
pub record IsPlannedFor (options : Options) (number : ℕ) (definition : MapDef) (plan : ShardPlan) : Type 0 where
  pub numbered : plan.number ≡ number
  pub part : plan.part ≡ number % options.shards
  pub parts : plan.parts ≡ options.shards
  pub workers : plan.workers ≡ options.workers
  pub reserve : plan.reserve ≡ options.journal
  pub defined : plan.definition ≡ definition

planned_for : (options : Options) (number : ℕ) (definition : MapDef) (plan : ShardPlan) →
    plan_for_map options number (Some definition) ≡ Some plan → IsPlannedFor options number definition plan
planned_for options number definition plan is =
    let same : (record {
      number = number;
      part = number % options.shards;
      parts = options.shards;
      definition = definition;
      workers = options.workers;
      reserve = options.journal;
    }) ≡ plan = cc is in
    record {
      numbered = ap (λ (one : ShardPlan). one.number) (sym same);
      part = ap (λ (one : ShardPlan). one.part) (sym same);
      parts = ap (λ (one : ShardPlan). one.parts) (sym same);
      workers = ap (λ (one : ShardPlan). one.workers) (sym same);
      reserve = ap (λ (one : ShardPlan). one.reserve) (sym same);
      defined = ap (λ (one : ShardPlan). one.definition) (sym same);
    }

-- the shard of a key of a map
pub record IsAtKey (maps : List MapDef) (options : Options) (count : ℕ) (plan : ℕ → ShardPlan) (number : ℕ) (definition : MapDef) (key : List ℕ) : Type 0 where
  pub within : number < count
  pub planned : plan_at maps options number ≡ Some (plan number)
  pub is : IsPlannedFor options number definition (plan number)
  pub own_key : is_own_key (plan number) key ≡ true

pub at_key : (maps : List MapDef) (options : Options) (count : ℕ) (plan : ℕ → ShardPlan) (map : ℕ) (definition : MapDef) (key : List ℕ) →
    ArePlans maps options count plan → AreOptions maps options → slice_get maps map ≡ Some definition → length key ≡ definition.key_size →
    All (λ byte. byte < 256) key → IsAtKey maps options count plan (shard_of_key map definition.kind options.shards key) definition key
at_key maps options count plan map definition key plans are known size bytes =
    let parts : ℕ = options.shards in
    let part : ℕ = part_of_key definition.kind parts key in
    let number : ℕ = map * parts + part in
    let some : 0 < parts = some_shards maps options are in
    let below : part < parts = mod-lt (shard_number_of_key definition.kind key) some in
    let here : map * parts + part < length maps * parts =
    below_count map (length maps) parts part (slice_get_within maps map definition known) below in
    let counted : count ≡ length maps * parts = plans.count_is in
    let within : number < count = omega (arith, counted, here) in
    let planned : plan_at maps options number ≡ Some (plan number) = plans.each number within in
    let of_number : number / parts ≡ map = div-mul-add map parts part below in
    let of_part : number % parts ≡ part = mod-mul-add map parts part below in
    let found : slice_get maps (number / parts) ≡ Some definition = ap (slice_get maps) of_number ∙ known in
    let is : IsPlannedFor options number definition (plan number) =
    planned_for options number definition (plan number) (sym (ap (plan_for_map options number) found) ∙ planned) in
    let sized : length key ≡ (plan number).definition.key_size = size ∙ ap (λ (one : MapDef). one.key_size) (sym is.defined) in
    let own_part : part_of_key (plan number).definition.kind (plan number).parts key ≡ (plan number).part =
    ap (λ (one : MapDef). part_of_key one.kind (plan number).parts key) is.defined ∙ ap (λ n. part_of_key definition.kind n key) is.parts ∙
    sym of_part ∙ sym is.part in
    record {
      within = within;
      planned = planned;
      is = is;
      own_key = both_true _ _ (same_test _ _ sized) (both_true _ _ (same_test _ _ own_part) (bytes_test key bytes));
    }
