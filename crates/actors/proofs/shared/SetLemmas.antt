-- Updates before the first record, made one after the other.
use Rattle.std.proofs.Common.{◌≡◌, ℕ, zero, suc, ◌+◌, ◌<◌, Bool, true, false, List, [], ◌∷◌, ◌++◌, length, take, get_or, Option, Some, None, add-one, refl, sym, ap, ◌∙◌, subst, arith}
use Rattle.std.specs.Prelude.{◌==◌, ℤ, reverse, slice_get, slice_index_or}
use Rattle.std.proofs.lemmas.Bool.Decides.{nat_tests}
use Rattle.std.proofs.lemmas.List.{append-nil}
use Rattle.std.proofs.lemmas.List.Elements.{All-get_or}
use Rattle.std.proofs.lemmas.Option.{slice_get-get_or}
use Rattle.ebpf_decode.specs.declared.map.MapDef.{MapDef}
use Rattle.map_updates.specs.declared.update.MapUpdate.{MapUpdate}
use Rattle.map_updates.specs.Misfits.{misfit_of, misfit_among, AreFitting}
use Rattle.semantics.specs.declared.call.Caller.TheVariants.{Controller}
use Rattle.semantics.specs.declared.call.Entry.{Entry}
use Rattle.semantics.specs.declared.options.Options.{Options}
use Rattle.semantics.specs.declared.plan.ShardPlan.{ShardPlan}
use Rattle.semantics.specs.Linux.{success}
use Rattle.shards.specs.CallerView.{CallerView}
use Rattle.shards.specs.declared.deeds.Deed.{Deed}
use Rattle.shards.specs.Passes.{PassView}
use Rattle.control.specs.MapUpdates.{UpdateBytes, IsUpdateOf}
use Rattle.actors.specs.declared.fault.ReplayFault.{ReplayFault}
use Rattle.actors.specs.declared.fault.ReplayFault.TheVariants.{BadOptions, Memory, NoThread, Refused, Full}
use Rattle.actors.specs.Actors.{IsUnused}
use Rattle.actors.specs.Commands.{AnsweredUpdate, all_set, with_updates, made_deeds, IsMoved, HasSet}
use Rattle.actors.specs.FirstUpdates.{update_bytes, AreSet, IsNextUpdate, IsWhyLeft}
use Rattle.actors.specs.SharedUpdates.{UpdatesView, IsUpdated, IsTurnedAway}
use Rattle.actors.proofs.shared.Moving.{HasWithin, did_more, moved_nowhere, moved_on, moved_by_one}

-- ---- updates that the maps take

both_sizes : (maps : List MapDef) (update : MapUpdate) (definition : MapDef) → slice_get maps update.map ≡ Some definition →
    (key value : Bool) → (length update.key == definition.key_size) ≡ key → (length update.value == definition.value_size) ≡ value →
    misfit_among (Some definition) update ≡ None → IsUpdateOf maps (update_bytes update)
both_sizes maps update definition known true true key value none = record {
  definition = definition;
  known = known;
  key_size = grind (arith, nat_tests);
  value_size = grind (arith, nat_tests);
}
both_sizes maps update definition known true false key value none = absurd (let wrong = rw (key, value) at none in cc)
both_sizes maps update definition known false value key other none = absurd (let wrong = rw key at none in cc)

fits_map : (maps : List MapDef) (update : MapUpdate) → misfit_of maps update ≡ None → IsUpdateOf maps (update_bytes update)
fits_map maps update none = by_map (slice_get maps update.map) refl none
  where
    by_map : (found : Option MapDef) → slice_get maps update.map ≡ found → misfit_among found update ≡ None → IsUpdateOf maps (update_bytes update)
    by_map None is none = absurd cc
    by_map (Some definition) is none = both_sizes maps update definition is _ _ refl refl none

-- the update at a place of a list that fits is one of a map that there is
pub update_fits : (maps : List MapDef) (updates : List MapUpdate) (place : ℕ) (update : MapUpdate) → place < length updates →
    update ≡ slice_index_or updates place update → AreFitting maps updates → IsUpdateOf maps (update_bytes update)
update_fits maps updates place update within is fit =
    fits_map maps update
    (subst (λ (one : MapUpdate). misfit_of maps one ≡ None) (sym is)
    (All-get_or (λ (one : MapUpdate). misfit_of maps one ≡ None) updates place update within fit))

-- ---- one more

set_next : {P : Type 0} (gives : P → UpdateBytes → ℤ → P → Type 0) (before middle after : P) (updates : List MapUpdate) (place : ℕ) (other : MapUpdate) →
    place < length updates → AreSet gives before (take place updates) middle → gives middle (update_bytes (get_or updates place other)) success after →
    AreSet gives before (take (suc place) updates) after
set_next gives before middle after [] place other within set one = absurd (omega (arith, within))
set_next gives before middle after (update ∷ later) zero other within set one =
    (after, subst (λ port. gives port (update_bytes update) success after) (sym set) one, refl)
set_next gives before middle after (update ∷ later) (suc place) other within set one =
    (set.0, set.1, set_next gives set.0 middle after later place other (omega (arith, within)) set.2 one)

pub set_step : {P : Type 0} (gives : P → UpdateBytes → ℤ → P → Type 0) (before middle after : P) (updates : List MapUpdate) (place : ℕ) (other : MapUpdate) →
    place < length updates → AreSet gives before (take place updates) middle → gives middle (update_bytes (get_or updates place other)) success after →
    AreSet gives before (take (place + 1) updates) after
set_step gives before middle after updates place other within set one =
    rw (add-one place) (set_next gives before middle after updates place other within set one)

pub is_next : {P : Type 0} (gives : P → UpdateBytes → ℤ → P → Type 0) (before middle : P) (updates : List MapUpdate) (place : ℕ) (update : MapUpdate) →
    place < length updates → slice_index_or updates place update ≡ update → AreSet gives before (take place updates) middle →
    IsNextUpdate gives before updates place update middle
is_next gives before middle updates place update within is set = record {
  known = slice_get-get_or updates place update within ∙ ap Some is;
  set = set;
}

-- ---- through a port that has the controller's one within

pub set_within : {P : Type 0} (plan : ℕ → ShardPlan) (within : P → UpdatesView) (gives : P → UpdateBytes → ℤ → P → Type 0)
    (refuses : P → UpdateBytes → P → Type 0) → HasWithin plan within gives refuses → (updates : List MapUpdate) (before after : P) →
    AreSet gives before updates after → AreSet (IsUpdated plan) (within before) updates (within after)
set_within plan within gives refuses has [] before after set = ap within set
set_within plan within gives refuses has (update ∷ later) before after (middle, given, rest) =
    (within middle, has.given before middle (update_bytes update) success given, set_within plan within gives refuses has later middle after rest)

pub why_within : {P : Type 0} (plan : ℕ → ShardPlan) (within : P → UpdatesView) (gives : P → UpdateBytes → ℤ → P → Type 0)
    (refuses : P → UpdateBytes → P → Type 0) → HasWithin plan within gives refuses → (updates : List MapUpdate) (before after : P) (fault : ReplayFault) →
    IsWhyLeft gives refuses before updates after fault → IsWhyLeft (IsUpdated plan) (IsTurnedAway plan) (within before) updates (within after) fault
why_within plan within gives refuses has updates before after (Refused place answer) why = record {
  update = why.update;
  middle = within why.middle;
  next = record {
    known = why.next.known;
    set = set_within plan within gives refuses has (take place updates) before why.middle why.next.set;
  };
  answered = has.given why.middle after (update_bytes why.update) answer why.answered;
  no_success = why.no_success;
}
why_within plan within gives refuses has updates before after (Full place) why = record {
  update = why.update;
  middle = within why.middle;
  next = record {
    known = why.next.known;
    set = set_within plan within gives refuses has (take place updates) before why.middle why.next.set;
  };
  full = has.refused why.middle after (update_bytes why.update) why.full;
}
why_within plan within gives refuses has updates before after BadOptions why = why
why_within plan within gives refuses has updates before after Memory why = why
why_within plan within gives refuses has updates before after NoThread why = why

-- ---- what they make of the controller's pass

pub moved_by_set : (plan : ℕ → ShardPlan) (updates : List MapUpdate) (before after : UpdatesView) → before.pass.who ≡ Controller →
    AreSet (IsUpdated plan) before updates after → IsMoved before after (all_set updates)
moved_by_set plan [] before after who set = subst (λ port. IsMoved before port []) set (moved_nowhere before who)
moved_by_set plan (update ∷ later) before after who (middle, given, rest) =
    let one : AnsweredUpdate = record { update = update_bytes update; answer = success } in
    let first : IsMoved before middle (one ∷ []) = moved_by_one plan before middle (update_bytes update) success who given in
    moved_on before middle after (one ∷ []) (all_set later) first (moved_by_set plan later middle after first.who rest)

did_set : (plan : ℕ → ShardPlan) (updates : List MapUpdate) (before after : UpdatesView) → AreSet (IsUpdated plan) before updates after →
    after.pass.deeds ≡ reverse (made_deeds before.maps before.options (all_set updates)) ++ before.pass.deeds
did_set plan [] before after set = ap (λ (port : UpdatesView). port.pass.deeds) (sym set)
did_set plan (update ∷ later) before after (middle, given, rest) =
    let one : AnsweredUpdate = record { update = update_bytes update; answer = success } in
    let behind = did_set plan later middle after rest
    ∙ ap (λ maps. reverse (made_deeds maps middle.options (all_set later)) ++ middle.pass.deeds) given.maps
    ∙ ap (λ options. reverse (made_deeds before.maps options (all_set later)) ++ middle.pass.deeds) given.options in
    did_more before.pass.deeds middle.pass.deeds after.pass.deeds (made_deeds before.maps before.options (one ∷ []))
    (made_deeds before.maps before.options (all_set later)) given.did behind

pub has_set : (plan : ℕ → ShardPlan) (maps : List MapDef) (options : Options) (updates : List MapUpdate) (pass : PassView) (after : UpdatesView) →
    IsUnused pass → pass.who ≡ Controller → AreSet (IsUpdated plan) (record { maps = maps; options = options; pass = pass }) updates after →
    HasSet maps options updates after.pass
has_set plan maps options updates pass after unused who set =
    let before : UpdatesView = record { maps = maps; options = options; pass = pass } in
    record {
      own = λ number. (moved_by_set plan updates before after who set).own number
          ∙ ap (λ (history : List Entry). with_updates maps options number (all_set updates) history)
          (ap (λ (view : CallerView). view.own) (unused.0 number));
      did = did_set plan updates before after set
          ∙ ap (λ (deeds : List Deed). reverse (made_deeds maps options (all_set updates)) ++ deeds) unused.1
          ∙ append-nil (reverse (made_deeds maps options (all_set updates)));
    }
