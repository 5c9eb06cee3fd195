-- A replay on one thread behind the updates before its first record.
use Rattle.std.proofs.Common.{◌≡◌, inr, List, [], ◌∷◌, sym, ap, ◌∙◌, subst}
use Rattle.ebpf_decode.specs.declared.map.MapDef.{MapDef}
use Rattle.map_updates.specs.declared.update.MapUpdate.{MapUpdate}
use Rattle.semantics.specs.declared.options.Options.{Options}
use Rattle.shards.specs.Opening.{AreOpened}
use Rattle.actors.specs.declared.fault.ReplayFault.{ReplayFault}
use Rattle.replay.specs.ExactReplays.{HasBegun, first_maps}
use Rattle.actors.specs.FirstUpdates.{AreSet, IsWhyNotSet}
use Rattle.replay.specs.InTurn.{TurnMaps, IsUpdatedInTurn, IsTurnedAwayInTurn}
use Rattle.actors.specs.UpdateFaults.{OfUpdate}
use Rattle.replay.specs.TurnFaults.{IsWhyInTurn}

set_options : (updates : List MapUpdate) (before after : TurnMaps) → AreSet IsUpdatedInTurn before updates after → after.options ≡ before.options
set_options [] before after set = ap (λ (all : TurnMaps). all.options) (sym set)
set_options (update ∷ later) before after set = set_options later set.0 after set.2 ∙ set.1.same_options

pub begun_options : (options : Options) (updates : List MapUpdate) (before after : TurnMaps) → before.options ≡ options →
    AreSet IsUpdatedInTurn before updates after → after.options ≡ options
begun_options options updates before after same set = set_options updates before after set ∙ same

pub has_begun : (maps : List MapDef) (options : Options) (updates : List MapUpdate) (before after : TurnMaps) → AreOpened maps options before.shards →
    before.maps ≡ maps → before.options ≡ options → AreSet IsUpdatedInTurn before updates after → HasBegun maps options updates after
has_begun maps options updates before after opened same_maps same_options set = record {
  opened = before.shards;
  opened_are = opened;
  updated = subst (λ (m : List MapDef). AreSet IsUpdatedInTurn (first_maps m options before.shards) updates after) same_maps
      (subst (λ (o : Options). AreSet IsUpdatedInTurn (first_maps before.maps o before.shards) updates after) same_options set);
}

why_so : (maps : List MapDef) (options : Options) (updates : List MapUpdate) (before : TurnMaps) (fault : ReplayFault) → AreOpened maps options before.shards →
    before.maps ≡ maps → before.options ≡ options → IsWhyNotSet IsUpdatedInTurn IsTurnedAwayInTurn before updates fault → IsWhyInTurn maps options updates fault
why_so maps options updates before fault opened same_maps same_options why = record {
  opened = before.shards;
  opened_are = opened;
  why = subst (λ (m : List MapDef). IsWhyNotSet IsUpdatedInTurn IsTurnedAwayInTurn (first_maps m options before.shards) updates fault) same_maps
      (subst (λ (o : Options). IsWhyNotSet IsUpdatedInTurn IsTurnedAwayInTurn (first_maps before.maps o before.shards) updates fault) same_options why);
}

pub why_in_turn : (maps : List MapDef) (options : Options) (updates : List MapUpdate) (before : TurnMaps) (fault : ReplayFault) →
    AreOpened maps options before.shards → before.maps ≡ maps → before.options ≡ options →
    IsWhyNotSet IsUpdatedInTurn IsTurnedAwayInTurn before updates fault → OfUpdate (IsWhyInTurn maps options updates) fault
why_in_turn maps options updates before fault opened same_maps same_options why =
    inr (why_so maps options updates before fault opened same_maps same_options why)
