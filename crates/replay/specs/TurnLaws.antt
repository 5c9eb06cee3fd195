-- What an update in turn owes a controller: an array is answered 0 at each index that it has, and a refusal leaves the maps.
use Rattle.std.proofs.Common.{◌≡◌, ◌<◌, sym, ◌∙◌, ap, subst}
use Rattle.std.specs.Prelude.{ℤ}
use Rattle.std.specs.Coded.{Coded-set, coded_ℤ}
use Rattle.std.proofs.Math.Logic.{∥∥₁_elim}
use Rattle.ebpf_decode.specs.declared.map.MapDef.{MapDef}
use Rattle.semantics.specs.declared.plan.ShardPlan.{ShardPlan}
use Rattle.semantics.specs.Linux.{success}
use Rattle.semantics.specs.LittleEndian.{number_of_bytes}
use Rattle.shard_core.specs.JournaledShard.{state_of}
use Rattle.control.specs.MapUpdates.{UpdateBytes, IsInArray}
use Rattle.replay.specs.InTurn.{TurnMaps, IsUpdatedInTurn, IsTurnedAwayInTurn}
use Rattle.actors.specs.SharedLaws.{array_answer}

pub refused_keeps : (before : TurnMaps) (update : UpdateBytes) (after : TurnMaps) → IsTurnedAwayInTurn before update after →
    after.maps ≡ before.maps
refused_keeps before update after refused = ap (λ (all : TurnMaps). all.maps) refused.nothing

pub array_takes_in_turn : (before : TurnMaps) (update : UpdateBytes) (answer : ℤ) (after : TurnMaps) → IsInArray before.maps update →
    IsUpdatedInTurn before update answer after → answer ≡ success
array_takes_in_turn before update answer after stands updated =
    ∥∥₁_elim updated.of_map (Coded-set coded_ℤ _ _) (λ of_map.
    let here : ShardPlan = updated.at.one.plan in
    let same : stands.definition ≡ here.definition = cc (stands.known, of_map) in
    let array = ap (λ (one : MapDef). one.kind) (sym same) ∙ stands.array in
    let inside : number_of_bytes update.key < here.definition.max_entries =
    subst (λ (one : MapDef). number_of_bytes update.key < one.max_entries) same stands.inside in
    updated.at.answered ∙ array_answer here (state_of updated.at.one) update.key array inside)
