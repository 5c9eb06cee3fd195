-- The element at index 0 of an array is always there.
use Rattle.std.proofs.Common.{◌≡◌, ℕ, ◌+◌, ◌*◌, ◌/◌, ◌<◌, ◌≤◌, List, Some, None, refl, sym, ◌∙◌, ap, arith, lt-ltb}
use Rattle.std.specs.Prelude.{slice_get}
use Rattle.std.proofs.lemmas.Nat.{div-mul-add}
use Rattle.ebpf_decode.specs.declared.map.MapDef.{MapDef}
use Rattle.ebpf_decode.specs.declared.map.MapKind.TheVariants.{Array}
use Rattle.semantics.specs.LittleEndian.{number_of_bytes}
use Rattle.semantics.specs.Program.{Program}
use Rattle.semantics.specs.Semantics.{first_key}
use Rattle.semantics.specs.ShardPlan.{ShardPlan}
use Rattle.semantics.specs.SequentialShard.{SequentialShard, cell_of_index, cell_of_kind, cell_of_key}
use Rattle.semantics.specs.RunTrace.{MayBeAbsent}

first_found : (plan : ShardPlan) (shard : SequentialShard) (key : List ℕ) → plan.definition.kind ≡ Array → 1 ≤ plan.definition.max_entries → key ≡ first_key →
    cell_of_key plan shard key ≡ None → ⊥
first_found plan shard key array some first none =
    let of_kind : cell_of_key plan shard key ≡ cell_of_index plan (number_of_bytes key) = ap (λ kind. cell_of_kind kind plan shard key) array
    in let of_key : cell_of_index plan (number_of_bytes key) ≡ cell_of_index plan 0 = ap (λ one. cell_of_index plan (number_of_bytes one)) first
    in let there : cell_of_index plan 0 ≡ Some (0 / plan.parts) = rw (lt-ltb 0 plan.definition.max_entries (omega arith)) refl
    in let both : None ≡ Some (0 / plan.parts) = sym none ∙ (of_kind ∙ (of_key ∙ there))
    in absurd cc

-- where a shard finds nothing, a run may get that reply
pub nothing_found : (program : Program) (plan : ShardPlan) (shard : SequentialShard) (number : ℕ) (key : List ℕ) → 0 < program.shards →
    slice_get program.maps (number / program.shards) ≡ Some plan.definition → 1 ≤ plan.definition.max_entries → cell_of_key plan shard key ≡ None →
    MayBeAbsent program number key
nothing_found program plan shard number key parts of_plan some none map definition known array own first =
    let counted : number ≡ map * program.shards + 0 = omega (arith, own)
    in let at : number / program.shards ≡ map = ap (λ n. n / program.shards) counted ∙ div-mul-add map program.shards 0 parts
    in let both : Some definition ≡ Some plan.definition = sym known ∙ (ap (λ n. slice_get program.maps n) (sym at) ∙ of_plan)
    in let same : plan.definition ≡ definition = cc
    in first_found plan shard key (ap (λ (one : MapDef). one.kind) same ∙ array) some first none
