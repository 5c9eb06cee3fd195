-- What a command that the controller applied did.
use Rattle.std.proofs.Common.{◌≡◌, ℕ, List, [], ◌∷◌, refl, sym, ap, ◌∙◌, subst, inl, inr}
use Rattle.std.specs.Prelude.{ℤ, Option, Some, None, Result, Ok, Err}
use Rattle.semantics.specs.declared.call.Caller.{Caller}
use Rattle.semantics.specs.declared.call.Caller.TheVariants.{Controller}
use Rattle.semantics.specs.declared.plan.ShardPlan.{ShardPlan}
use Rattle.control.specs.declared.command.Action.{Action}
use Rattle.control.specs.declared.fault.ControlFault.{ControlFault}
use Rattle.control.specs.declared.fault.ControlFault.TheVariants.{BadSize, BadLine, UnknownBackend, BackendTwice, Refused, JournalFull, Memory}
use Rattle.control.specs.declared.update.Update.{Update as Change}
use Rattle.control.specs.MapUpdates.{UpdateBytes, map_update}
use Rattle.control.specs.Controlling.{ControllerState, IsCarriedOut as IsWhole, IsStopped, IsServiceAnswered, IsLeft, refusal_of, first_updates, up_after}
use Rattle.control.specs.Controlling.{updates_of}
use Rattle.shard_port.specs.ScheduleHook.{IsReplyCounted, IsRefusalUncounted}
use Rattle.actors.specs.SharedUpdates.{UpdatesView, IsUpdated, IsTurnedAway}
use Rattle.actors.specs.Commands.{AnsweredUpdate, CommandDone, IsNothing, IsDoneBy, IsMoved, HasEffect, all_done, made_deeds}
use Rattle.actors.proofs.shared.Moving.{HasWithin, moved_by_all, did_all, did_more, moved_until_full, moved_by_one, moved_nowhere}

-- no fault comes first
abbrev pub NoneFirst : ControllerState → Action → Type 0
NoneFirst state action = (fault : ControlFault) → refusal_of state action ≡ Some fault → ⊥

-- this fault is the one that comes first, if one does
abbrev pub ComesFirst : ControllerState → Action → ControlFault → Type 0
ComesFirst state action fault = (other : ControlFault) → refusal_of state action ≡ Some other → Some fault ≡ Some other

pub carried_out : {P : Type 0} (plan : ℕ → ShardPlan) (within : P → UpdatesView) (gives : P → UpdateBytes → ℤ → P → Type 0)
    (refuses : P → UpdateBytes → P → Type 0) → HasWithin plan within gives refuses → (state : ControllerState) (action : Action)
    (state' : ControllerState) (before after : P) → (within before).pass.who ≡ Controller → NoneFirst state action →
    IsWhole gives state before (first_updates state.up action) (up_after state.up action) state' after →
    HasEffect plan state action None state' (within before) (within after)
carried_out plan within gives refuses has state action state' before after who first whole =
    let changes : List Change = updates_of state (first_updates state.up action) whole.owners in
    record {
      one = record { action = action; fault = None; made = all_done changes; stopped = None };
      action_is = refl;
      fault_is = refl;
      done = record {
        did = record { owners = whole.owners; table = whole.table; state_is = whole.state_is; made = refl; not_stopped = refl };
        first = λ fault is. absurd (first fault is);
      };
      moved = moved_by_all plan within gives refuses has changes before after who whole.are_made;
      full = tt;
      did = did_more (within before).pass.deeds (within after).pass.deeds (within after).pass.deeds
          (made_deeds (within before).maps (within before).options (all_done changes)) []
          (did_all plan within gives refuses has changes before after whole.are_made) refl;
    }

-- nothing was asked
nothing_done : (plan : ℕ → ShardPlan) (state : ControllerState) (action : Action) (fault : ControlFault) (state' : ControllerState)
    (before after : UpdatesView) → before.pass.who ≡ Controller → ComesFirst state action fault → state' ≡ state → after ≡ before →
    ((one : CommandDone) → one.action ≡ action → IsNothing state one state' → IsDoneBy (Some fault) state one state') →
    HasEffect plan state action (Some fault) state' before after
nothing_done plan state action fault state' before after who first state_is port_is did =
    let one : CommandDone = record { action = action; fault = Some fault; made = []; stopped = None } in
    record {
      one = one;
      action_is = refl;
      fault_is = refl;
      done = record {
        did = did one refl (record { made = refl; not_stopped = refl; state_is = state_is });
        first = first;
      };
      moved = subst (λ port. IsMoved before port []) (sym port_is) (moved_nowhere before who);
      full = tt;
      did = ap (λ (port : UpdatesView). port.pass.deeds) port_is;
    }

answered : {P : Type 0} (plan : ℕ → ShardPlan) (within : P → UpdatesView) (gives : P → UpdateBytes → ℤ → P → Type 0)
    (refuses : P → UpdateBytes → P → Type 0) → HasWithin plan within gives refuses → (state : ControllerState) (action : Action) (answer : ℤ)
    (state' : ControllerState) (before after : P) → (within before).pass.who ≡ Controller → ComesFirst state action (Refused answer) →
    IsServiceAnswered gives state before (first_updates state.up action) answer state' after →
    HasEffect plan state action (Some (Refused answer)) state' (within before) (within after)
answered plan within gives refuses has state action answer state' before after who first told =
    let made : AnsweredUpdate = record { update = map_update told.update; answer = answer } in
    record {
      one = record { action = action; fault = Some (Refused answer); made = made ∷ []; stopped = None };
      action_is = refl;
      fault_is = refl;
      done = record {
        did = record { change = told.update; only = told.only; not_done = told.not_done; made = refl; not_stopped = refl; state_is = told.state_is };
        first = first;
      };
      moved = moved_by_one plan (within before) (within after) (map_update told.update) answer who
          (has.given before after (map_update told.update) answer told.answered);
      full = tt;
      did = (has.given before after (map_update told.update) answer told.answered).did;
    }

stopped : {P : Type 0} (plan : ℕ → ShardPlan) (within : P → UpdatesView) (gives : P → UpdateBytes → ℤ → P → Type 0)
    (refuses : P → UpdateBytes → P → Type 0) → HasWithin plan within gives refuses → (state : ControllerState) (action : Action)
    (state' : ControllerState) (before after : P) → (within before).pass.who ≡ Controller → ComesFirst state action JournalFull →
    IsStopped gives refuses state before (first_updates state.up action) (up_after state.up action) state' after →
    HasEffect plan state action (Some JournalFull) state' (within before) (within after)
stopped plan within gives refuses has state action state' before after who first cut =
    let changes : List Change = updates_of state (first_updates state.up action) cut.owners in
    let moved = moved_until_full plan within gives refuses has changes before after who cut.cut_short in
    record {
      one = record { action = action; fault = Some JournalFull; made = all_done cut.cut_short.made; stopped = Some (map_update cut.cut_short.next) };
      action_is = refl;
      fault_is = refl;
      done = record {
        did = inr (record {
          not_full = cut.not_full;
          owners = cut.owners;
          table = cut.table;
          state_is = cut.state_is;
          begun = cut.cut_short.made;
          next = cut.cut_short.next;
          later = cut.cut_short.later;
          in_order = cut.cut_short.in_order;
          made = refl;
          stopped = refl;
        });
        first = first;
      };
      moved = moved.moved;
      full = moved.full;
      did = moved.did;
    }

pub refused : {P : Type 0} (plan : ℕ → ShardPlan) (within : P → UpdatesView) (gives : P → UpdateBytes → ℤ → P → Type 0)
    (refuses : P → UpdateBytes → P → Type 0) → HasWithin plan within gives refuses → (state : ControllerState) (action : Action) (fault : ControlFault)
    (state' : ControllerState) (before after : P) → (within before).pass.who ≡ Controller → ComesFirst state action fault →
    IsLeft gives refuses state before action state' after fault → HasEffect plan state action (Some fault) state' (within before) (within after)
refused plan within gives refuses has state action UnknownBackend state' before after who first (unchanged, is) =
    nothing_done plan state action UnknownBackend state' (within before) (within after) who first unchanged.state_is (ap within unchanged.port_is)
    (λ one same nothing. (nothing, ap (refusal_of state) same ∙ is))
refused plan within gives refuses has state action BackendTwice state' before after who first (unchanged, is) =
    nothing_done plan state action BackendTwice state' (within before) (within after) who first unchanged.state_is (ap within unchanged.port_is)
    (λ one same nothing. (nothing, ap (refusal_of state) same ∙ is))
refused plan within gives refuses has state action (Refused answer) state' before after who first left =
    answered plan within gives refuses has state action answer state' before after who first left
refused plan within gives refuses has state action JournalFull state' before after who first (inl (unchanged, is)) =
    nothing_done plan state action JournalFull state' (within before) (within after) who first unchanged.state_is (ap within unchanged.port_is)
    (λ one same nothing. inl (nothing, ap (refusal_of state) same ∙ is))
refused plan within gives refuses has state action JournalFull state' before after who first (inr cut) =
    stopped plan within gives refuses has state action state' before after who first cut
refused plan within gives refuses has state action Memory state' before after who first (unchanged, is) =
    nothing_done plan state action Memory state' (within before) (within after) who first unchanged.state_is (ap within unchanged.port_is)
    (λ one same nothing. (nothing, ap (refusal_of state) same ∙ is))
refused plan within gives refuses has state action BadSize state' before after who first left = absurd left
refused plan within gives refuses has state action (BadLine line) state' before after who first left = absurd left

-- ---- through a port that counts its replies

abbrev pub GivesCounted : {P : Type 0} → (ℕ → ShardPlan) → (P → UpdatesView) → (P → Caller) → (P → ℕ) → P → UpdateBytes → ℤ → P → Type 0
GivesCounted plan within who count before update answer after =
    IsReplyCounted (IsUpdated plan (within before) update answer (within after)) (who before) (who after) (count before) (count after)

abbrev pub RefusesUncounted : {P : Type 0} → (ℕ → ShardPlan) → (P → UpdatesView) → (P → Caller) → (P → ℕ) → P → UpdateBytes → P → Type 0
RefusesUncounted plan within who count before update after =
    IsRefusalUncounted (IsTurnedAway plan (within before) update (within after)) (who before) (who after) (count before) (count after)

pub counted_within : {P : Type 0} (plan : ℕ → ShardPlan) (within : P → UpdatesView) (who : P → Caller) (count : P → ℕ) →
    HasWithin plan within (GivesCounted plan within who count) (RefusesUncounted plan within who count)
counted_within plan within who count = record {
  given = λ before after update answer given. given.given_within;
  refused = λ before after update refused. refused.refused_within;
}

pub no_err : {A B : Type 0} (x : A) (e : B) → ◌≡◌ {A = Result A B} (Ok x) (Err e) → ⊥
no_err x e same = cc

abbrev pub fault_in : {A : Type 0} → Result A ControlFault → Option ControlFault
fault_in (Ok x) = None
fault_in (Err fault) = Some fault

pub carried_out_counted : {P A : Type 0} (before after : P) (plan : ℕ → ShardPlan) (within : P → UpdatesView) (who : P → Caller) (count : P → ℕ)
    (state : ControllerState) (action : Action) (state' : ControllerState) (x : A) → (within before).pass.who ≡ Controller →
    ((fault : ControlFault) → refusal_of state action ≡ Some fault → ◌≡◌ {A = Result A ControlFault} (Ok x) (Err fault)) →
    IsWhole (GivesCounted plan within who count) state before (first_updates state.up action) (up_after state.up action) state' after →
    HasEffect plan state action None state' (within before) (within after)
carried_out_counted before after plan within who count state action state' x is first whole =
    carried_out plan within (GivesCounted plan within who count) (RefusesUncounted plan within who count) (counted_within plan within who count)
    state action state' before after is (λ fault refused. no_err x fault (first fault refused)) whole

pub refused_counted : {P A : Type 0} (before after : P) (plan : ℕ → ShardPlan) (within : P → UpdatesView) (who : P → Caller) (count : P → ℕ)
    (state : ControllerState) (action : Action) (fault : ControlFault) (state' : ControllerState) → (within before).pass.who ≡ Controller →
    ((other : ControlFault) → refusal_of state action ≡ Some other → ◌≡◌ {A = Result A ControlFault} (Err fault) (Err other)) →
    IsLeft (GivesCounted plan within who count) (RefusesUncounted plan within who count) state before action state' after fault →
    HasEffect plan state action (Some fault) state' (within before) (within after)
refused_counted before after plan within who count state action fault state' is first left =
    refused plan within (GivesCounted plan within who count) (RefusesUncounted plan within who count) (counted_within plan within who count)
    state action fault state' before after is (λ other comes. ap fault_in (first other comes)) left
