-- Updates before the first record, by the controller's port to shards that it shares.
use Rattle.std.proofs.Common.{◌≡◌, ℕ, List, [], ◌∷◌, take, refl, sym, ◌∙◌, subst}
use Rattle.ebpf_decode.specs.declared.map.MapDef.{MapDef}
use Rattle.map_updates.specs.declared.update.MapUpdate.{MapUpdate}
use Rattle.semantics.specs.declared.call.Caller.{Caller}
use Rattle.semantics.specs.declared.call.Caller.TheVariants.{Controller}
use Rattle.semantics.specs.declared.options.Options.{Options}
use Rattle.semantics.specs.declared.plan.ShardPlan.{ShardPlan}
use Rattle.shards.specs.Passes.{PassView}
use Rattle.actors.specs.declared.fault.ReplayFault.{ReplayFault}
use Rattle.actors.specs.declared.fault.ReplayFault.TheVariants.{BadOptions, Memory, NoThread, Refused, Full}
use Rattle.actors.specs.Actors.{IsUnused}
use Rattle.actors.specs.Commands.{all_set, IsMoved, HasSet}
use Rattle.actors.specs.FirstUpdates.{AreSet, IsWhyLeft}
use Rattle.actors.specs.SharedUpdates.{UpdatesView, IsUpdated, IsTurnedAway}
use Rattle.actors.specs.UpdateFaults.{IsWhyByPass}
use Rattle.actors.proofs.shared.Effects.{GivesCounted, RefusesUncounted, counted_within}
use Rattle.actors.proofs.shared.SetLemmas.{set_within, why_within, moved_by_set, has_set}

-- what the port is after them, through a port that counts its replies
pub record IsPortSet (maps : List MapDef) (options : Options) (updates : List MapUpdate) (after : UpdatesView) : Type 0 where
  pub maps_are : after.maps ≡ maps
  pub options_are : after.options ≡ options
  pub who : after.pass.who ≡ Controller
  pub set : HasSet after.maps after.options updates after.pass

pub port_set : {P : Type 0} (plan : ℕ → ShardPlan) (within : P → UpdatesView) (who : P → Caller) (count : P → ℕ) (maps : List MapDef) (options : Options)
    (updates : List MapUpdate) (pass : PassView) (before after : P) → IsUnused pass → pass.who ≡ Controller →
    within before ≡ record { maps = maps; options = options; pass = pass } → AreSet (GivesCounted plan within who count) before updates after →
    IsPortSet maps options updates (within after)
port_set plan within who count maps options updates pass before after unused is_controller is set =
    let start : UpdatesView = record { maps = maps; options = options; pass = pass } in
    let by_pass : AreSet (IsUpdated plan) start updates (within after) =
    subst (λ (port : UpdatesView). AreSet (IsUpdated plan) port updates (within after)) is
    (set_within plan within (GivesCounted plan within who count) (RefusesUncounted plan within who count) (counted_within plan within who count) updates
    before after set) in
    let moved : IsMoved start (within after) (all_set updates) = moved_by_set plan updates start (within after) is_controller by_pass in
    let made : HasSet maps options updates (within after).pass = has_set plan maps options updates pass (within after) unused is_controller by_pass in
    record {
      maps_are = moved.maps;
      options_are = moved.options;
      who = moved.who;
      set = subst (λ (m : List MapDef). HasSet m (within after).options updates (within after).pass) (sym moved.maps)
          (subst (λ (o : Options). HasSet maps o updates (within after).pass) (sym moved.options) made);
    }

pub port_refused : {P : Type 0} (plan : ℕ → ShardPlan) (within : P → UpdatesView) (who : P → Caller) (count : P → ℕ) (maps : List MapDef)
    (options : Options) (updates : List MapUpdate) (pass : PassView) (before after : P) (fault : ReplayFault) →
    within before ≡ record { maps = maps; options = options; pass = pass } → within after ≡ record { maps = maps; options = options; pass = (within after).pass } →
    IsWhyLeft (GivesCounted plan within who count) (RefusesUncounted plan within who count) before updates after fault →
    IsWhyByPass plan maps options pass (within after).pass updates fault
port_refused plan within who count maps options updates pass before after fault is was why =
    let start : UpdatesView = record { maps = maps; options = options; pass = pass } in
    subst (λ (port : UpdatesView). IsWhyLeft (IsUpdated plan) (IsTurnedAway plan) start updates port fault) was
    (subst (λ (port : UpdatesView). IsWhyLeft (IsUpdated plan) (IsTurnedAway plan) port updates (within after) fault) is
    (why_within plan within (GivesCounted plan within who count) (RefusesUncounted plan within who count) (counted_within plan within who count) updates before
    after fault why))

-- whatever was done, the controller's port is to the same maps, and is the controller's
pub record IsSamePort (before after : UpdatesView) : Type 0 where
  pub maps : after.maps ≡ before.maps
  pub options : after.options ≡ before.options
  pub who : after.pass.who ≡ before.pass.who

same_set : (plan : ℕ → ShardPlan) (updates : List MapUpdate) (before after : UpdatesView) → AreSet (IsUpdated plan) before updates after → IsSamePort before after
same_set plan [] before after set = subst (IsSamePort before) set (record { maps = refl; options = refl; who = refl })
same_set plan (update ∷ later) before after (middle, given, rest) =
    let behind = same_set plan later middle after rest in record {
      maps = behind.maps ∙ given.maps;
      options = behind.options ∙ given.options;
      who = behind.who ∙ given.elsewhere.who;
    }

pub same_left : (plan : ℕ → ShardPlan) (updates : List MapUpdate) (before after : UpdatesView) (fault : ReplayFault) →
    IsWhyLeft (IsUpdated plan) (IsTurnedAway plan) before updates after fault → IsSamePort before after
same_left plan updates before after (Refused place answer) why =
    let set = same_set plan (take place updates) before why.middle why.next.set in record {
      maps = why.answered.maps ∙ set.maps;
      options = why.answered.options ∙ set.options;
      who = why.answered.elsewhere.who ∙ set.who;
    }
same_left plan updates before after (Full place) why =
    let set = same_set plan (take place updates) before why.middle why.next.set in record {
      maps = why.full.maps ∙ set.maps;
      options = why.full.options ∙ set.options;
      who = why.full.elsewhere.who ∙ set.who;
    }
same_left plan updates before after BadOptions why = absurd why
same_left plan updates before after Memory why = absurd why
same_left plan updates before after NoThread why = absurd why
