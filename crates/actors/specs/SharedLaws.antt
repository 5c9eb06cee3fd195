-- An update of an array that is shared is answered 0 at each index that the array has.
use Rattle.std.proofs.Common.{◌≡◌, ℕ, ◌<◌, List, true, nat_lt, refl, sym, ◌∙◌, ap, subst, arith}
use Rattle.std.specs.Prelude.{ℤ}
use Rattle.std.proofs.lemmas.Bool.Decides.{nat_tests}
use Rattle.ebpf_decode.specs.declared.map.MapDef.{MapDef}
use Rattle.ebpf_decode.specs.declared.map.MapKind.TheVariants.{Array}
use Rattle.semantics.specs.declared.plan.ShardPlan.{ShardPlan}
use Rattle.semantics.specs.declared.linux.UpdateFlags.TheVariants.{Any}
use Rattle.semantics.specs.Cells.{answer_in}
use Rattle.semantics.specs.Linux.{flags_number, success}
use Rattle.semantics.specs.LittleEndian.{number_of_bytes}
use Rattle.semantics.specs.History.{IsLegalHistory}
use Rattle.semantics.specs.SequentialShard.{SequentialShard, shard_after, update_answer}
use Rattle.control.specs.MapUpdates.{UpdateBytes, IsInArray}
use Rattle.actors.specs.SharedUpdates.{UpdatesView, IsUpdated, shard_for}

pub array_answer : (plan : ShardPlan) (shard : SequentialShard) (key : List ℕ) → plan.definition.kind ≡ Array →
    number_of_bytes key < plan.definition.max_entries → update_answer plan shard key (flags_number Any) ≡ success
array_answer plan shard key array inside =
    let test : nat_lt (number_of_bytes key) plan.definition.max_entries ≡ true = grind (arith, nat_tests, inside) in
    rw (array, test) refl

pub array_takes : (plan : ℕ → ShardPlan) (before : UpdatesView) (update : UpdateBytes) (answer : ℤ) (after : UpdatesView) →
    IsInArray before.maps update → IsUpdated plan before update answer after → answer ≡ success
array_takes plan before update answer after stands updated =
    let here : ShardPlan = plan (shard_for before update) in
    let same : stands.definition ≡ here.definition = cc (stands.known, updated.of_map) in
    let array : here.definition.kind ≡ Array = ap (λ (one : MapDef). one.kind) (sym same) ∙ stands.array in
    let inside : number_of_bytes update.key < here.definition.max_entries =
    subst (λ (one : MapDef). number_of_bytes update.key < one.max_entries) same stands.inside in
    let legal = subst (λ history. IsLegalHistory here history) updated.answered.seen updated.answered.legal in
    ap answer_in legal.0.step.replied ∙ array_answer here (shard_after here updated.answered.earlier) update.key array inside
