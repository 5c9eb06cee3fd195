-- The controller's updates over the shards of one thread, as those of its pass, and what a command did by it.
use Rattle.std.proofs.Common.{◌≡◌, ℕ, ◌<◌, true, false, List, [], ◌∷◌, ◌++◌, length, reverse, refl, sym, ap, ◌∙◌, subst, inl, inr}
use Rattle.std.specs.Prelude.{ℤ, Option, Some, None, slice_get}
use Rattle.std.specs.Coded.{Coded-set, coded_bool}
use Rattle.std.proofs.Math.Logic.{∥∥₁_elim, ∥∥₁_map}
use Rattle.std.proofs.Math.Nat.{ℕ_set}
use Rattle.std.proofs.lemmas.Bool.{false≢true}
use Rattle.std.proofs.lemmas.List.{reverse-append}
use Rattle.ebpf_decode.specs.declared.map.MapDef.{MapDef}
use Rattle.ebpf_decode.specs.declared.map.MapKind.{MapKind}
use Rattle.ebpf_decode.specs.declared.map.MapKind.TheVariants.{Array, Hash, LruHash}
use Rattle.semantics.specs.declared.call.Caller.{Caller}
use Rattle.semantics.specs.declared.call.Caller.TheVariants.{Controller}
use Rattle.semantics.specs.declared.call.Call.{Call}
use Rattle.semantics.specs.declared.call.Call.TheVariants.{Update}
use Rattle.semantics.specs.declared.call.Reply.TheVariants.{Answer}
use Rattle.semantics.specs.declared.call.Entry.{Entry}
use Rattle.semantics.specs.declared.linux.UpdateFlags.TheVariants.{Any}
use Rattle.semantics.specs.declared.plan.ShardPlan.{ShardPlan}
use Rattle.semantics.specs.Linux.{flags_number}
use Rattle.semantics.specs.CallerLaws.{own_entries}
use Rattle.semantics.specs.History.{IsLegalHistory, IsJournalFull, entry_of}
use Rattle.shard_core.specs.JournaledShard.{JournaledShard}
use Rattle.shards.specs.CallerView.{BeginsWith, ViewIsServed}
use Rattle.shards.specs.declared.deeds.Deed.{Deed}
use Rattle.shards.specs.declared.deeds.Deed.TheVariants.{Wrote, MetFull}
use Rattle.shards.specs.Deeds.{made_on}
use Rattle.shards.specs.Passes.{PassView, view_at, seen_at}
use Rattle.control.specs.declared.command.Action.{Action}
use Rattle.control.specs.declared.fault.ControlFault.{ControlFault}
use Rattle.control.specs.declared.fault.ControlFault.TheVariants.{BadSize, BadLine, UnknownBackend, BackendTwice, Refused, JournalFull, Memory}
use Rattle.control.specs.declared.update.Update.{Update as Change}
use Rattle.control.specs.MapUpdates.{UpdateBytes, map_update, AreMade}
use Rattle.control.specs.Controlling.{ControllerState, IsStopped, IsLeft, refusal_of, first_updates, up_after, updates_of}
use Rattle.actors.specs.SharedUpdates.{UpdatesView, shard_of, controller_update, IsUpdated, IsTurnedAway}
use Rattle.map_updates.specs.declared.update.MapUpdate.{MapUpdate}
use Rattle.actors.specs.Commands.{HasEffect}
use Rattle.actors.specs.FirstUpdates.{update_bytes, AreSet}
use Rattle.replay.specs.InTurn.{TurnMaps, IsUpdatedInTurn, IsTurnedAwayInTurn, IsAppliedInTurn}
use Rattle.actors.proofs.shared.Moving.{HasWithin}
use Rattle.actors.proofs.shared.Effects.{carried_out, refused}
use Rattle.replay.proofs.TurnLemmas.{set_same}
use Rattle.replay.proofs.TurnDeeds.{Stands, IsMoreBy, AreBy, pass_after, own_of_maker, made_here, no_more, more_by, more_on, elsewhere_same, own_here, seen_here, stands_after, one_of}

-- ---- a definition under a squash

kind_same : (a b : MapKind) → ∥ a ≡ b ∥₁ → a ≡ b
kind_same Array Array same = refl
kind_same Hash Hash same = refl
kind_same LruHash LruHash same = refl
kind_same Array Hash same = absurd (false≢true (∥∥₁_elim same (Coded-set coded_bool false true) (λ (e : Array ≡ Hash). absurd cc)))
kind_same Array LruHash same = absurd (false≢true (∥∥₁_elim same (Coded-set coded_bool false true) (λ (e : Array ≡ LruHash). absurd cc)))
kind_same Hash Array same = absurd (false≢true (∥∥₁_elim same (Coded-set coded_bool false true) (λ (e : Hash ≡ Array). absurd cc)))
kind_same Hash LruHash same = absurd (false≢true (∥∥₁_elim same (Coded-set coded_bool false true) (λ (e : Hash ≡ LruHash). absurd cc)))
kind_same LruHash Array same = absurd (false≢true (∥∥₁_elim same (Coded-set coded_bool false true) (λ (e : LruHash ≡ Array). absurd cc)))
kind_same LruHash Hash same = absurd (false≢true (∥∥₁_elim same (Coded-set coded_bool false true) (λ (e : LruHash ≡ Hash). absurd cc)))

some_same : (one other : MapDef) → Some one ≡ Some other → one ≡ other
some_same one other same = cc

definition_is : (found : Option MapDef) (definition : MapDef) → ∥ found ≡ Some definition ∥₁ → found ≡ Some definition
definition_is None definition is =
    absurd (false≢true (∥∥₁_elim is (Coded-set coded_bool false true) (λ (e : ◌≡◌ {A = Option MapDef} None (Some definition)). absurd cc)))
definition_is (Some one) definition is =
    let kind : one.kind ≡ definition.kind = kind_same one.kind definition.kind (∥∥₁_map is (λ (e : Some one ≡ Some definition). ap (λ (d : MapDef). d.kind) (some_same one definition e))) in
    let key : one.key_size ≡ definition.key_size =
    ∥∥₁_elim is (ℕ_set one.key_size definition.key_size) (λ (e : Some one ≡ Some definition). ap (λ (d : MapDef). d.key_size) (some_same one definition e)) in
    let value : one.value_size ≡ definition.value_size =
    ∥∥₁_elim is (ℕ_set one.value_size definition.value_size) (λ (e : Some one ≡ Some definition). ap (λ (d : MapDef). d.value_size) (some_same one definition e)) in
    let entries : one.max_entries ≡ definition.max_entries =
    ∥∥₁_elim is (ℕ_set one.max_entries definition.max_entries) (λ (e : Some one ≡ Some definition). ap (λ (d : MapDef). d.max_entries) (some_same one definition e)) in
    let same : one ≡ definition = (λ i. record { kind = kind i; key_size = key i; value_size = value i; max_entries = entries i }) in
    ap (λ (d : MapDef). Some d) same

none_some : (fault : ControlFault) → ◌≡◌ {A = Option ControlFault} None (Some fault) → ⊥
none_some fault same = cc

-- ---- one update

-- the shards of one thread, as the controller's port by a pass
abbrev pub by_pass : TurnMaps → PassView → UpdatesView
by_pass all pass = record { maps = all.maps; options = all.options; pass = pass }

module _ (plan : ℕ → ShardPlan) (count : ℕ) (numbered : (number : ℕ) → number < count → (plan number).number ≡ number) where
  pub record IsUpdatedByPass (order : List Deed) (pass : PassView) (before : TurnMaps) (update : UpdateBytes) (answer : ℤ) (after : TurnMaps) : Type 0 where
    pub order' : List Deed
    pub pass' : PassView
    pub more : IsMoreBy Controller order order'
    pub stands : Stands plan count Controller order' after.shards pass'
    pub updated : IsUpdated plan (by_pass before pass) update answer (by_pass after pass')

  pub update_step : (order : List Deed) (pass : PassView) (before : TurnMaps) (update : UpdateBytes) (answer : ℤ) (after : TurnMaps) →
      Stands plan count Controller order before.shards pass → IsUpdatedInTurn before update answer after →
      IsUpdatedByPass order pass before update answer after
  update_step order pass before update answer after stands updated =
      let number : ℕ = shard_of before.maps before.options update in
      let at = updated.at in
      let one : JournaledShard = at.one in
      let is = one_of plan count number order before.shards one stands.left at.known in
      let same_number : one.plan.number ≡ number = ap (λ (p : ShardPlan). p.number) is.planned ∙ numbered number is.within in
      let call : Call = controller_update number update in
      let entry : Entry = entry_of Controller call (Answer answer) in
      let deeds : List Deed = Wrote entry ∷ [] in
      let are : AreBy Controller number deeds = (record { caller = refl; shard = refl }, tt) in
      let room : number < length pass.views = subst (λ (n : ℕ). number < n) (sym stands.mine.sized) is.within in
      let newest : made_on number (deeds ++ order) ≡ entry ∷ made_on number order = made_here number entry order refl in
      let asked : Entry = record { who = Controller; call = Update one.plan.number update.key update.value (flags_number Any); reply = Answer answer } in
      let new : JournaledShard = record { plan = one.plan; journal = one.journal ++ asked ∷ [] } in
      let written : reverse new.journal ≡ made_on number (deeds ++ order) =
      reverse-append one.journal (asked ∷ [])
      ∙ ap (λ (n : ℕ). entry_of Controller (Update n update.key update.value (flags_number Any)) (Answer answer) ∷ reverse one.journal) same_number
      ∙ ap (λ (history : List Entry). entry ∷ history) is.written ∙ sym newest in
      let legal : IsLegalHistory (plan number) (made_on number (deeds ++ order)) =
      subst (λ (p : ShardPlan). IsLegalHistory p (made_on number (deeds ++ order))) is.planned (subst (IsLegalHistory one.plan) written at.legal) in
      let seen = seen_here number deeds order pass room in
      let served : ViewIsServed (plan number) (view_at pass number) (view_at (pass_after number deeds order pass) number) entry = record {
        earlier = made_on number order;
        seen = seen ∙ newest;
        begins = stands.mine.begins number is.within;
        legal = subst (IsLegalHistory (plan number)) (sym seen) legal;
        own = own_here Controller number deeds order pass stands.mine.caller room ∙ ap (own_entries Controller) newest
            ∙ own_of_maker entry (made_on number order) ∙ ap (λ (history : List Entry). entry ∷ history) (sym (stands.mine.own number is.within));
      } in
      record {
        order' = deeds ++ order;
        pass' = pass_after number deeds order pass;
        more = more_by Controller number deeds order are;
        stands = subst (λ (shards : List JournaledShard). Stands plan count Controller (deeds ++ order) shards (pass_after number deeds order pass))
            (sym at.written)
            (stands_after plan count Controller number deeds order before.shards new pass are is.within is.planned written legal (tt, stands.sound.met) stands);
        updated = record {
          maps = updated.same_maps;
          options = updated.same_options;
          of_map = definition_is (slice_get before.maps update.map) one.plan.definition updated.of_map
              ∙ ap (λ (p : ShardPlan). Some p.definition) is.planned;
          elsewhere = elsewhere_same number deeds order pass;
          answered = subst (λ (who : Caller). ViewIsServed (plan number) (view_at pass number) (view_at (pass_after number deeds order pass) number)
              (entry_of who call (Answer answer))) (sym stands.mine.caller) served;
          did = refl;
        };
      }

  pub record IsTurnedAwayByPass (order : List Deed) (pass : PassView) (before : TurnMaps) (update : UpdateBytes) (after : TurnMaps) : Type 0 where
    pub order' : List Deed
    pub pass' : PassView
    pub more : IsMoreBy Controller order order'
    pub stands : Stands plan count Controller order' after.shards pass'
    pub away : IsTurnedAway plan (by_pass before pass) update (by_pass after pass')

  pub away_step : (order : List Deed) (pass : PassView) (before : TurnMaps) (update : UpdateBytes) (after : TurnMaps) →
      Stands plan count Controller order before.shards pass → IsTurnedAwayInTurn before update after → IsTurnedAwayByPass order pass before update after
  away_step order pass before update after stands away =
      let number : ℕ = shard_of before.maps before.options update in
      let at = away.at in
      let one : JournaledShard = at.one in
      let is = one_of plan count number order before.shards one stands.left at.known in
      let same_number : one.plan.number ≡ number = ap (λ (p : ShardPlan). p.number) is.planned ∙ numbered number is.within in
      let call : Call = controller_update number update in
      let deeds : List Deed = MetFull Controller call ∷ [] in
      let are : AreBy Controller number deeds = (record { caller = refl; shard = refl }, tt) in
      let room : number < length pass.views = subst (λ (n : ℕ). number < n) (sym stands.mine.sized) is.within in
      let full : IsJournalFull (plan number) (made_on number order) call =
      subst (λ (n : ℕ). IsJournalFull (plan number) (made_on number order) (Update n update.key update.value (flags_number Any))) same_number
      (subst (λ (history : List Entry). IsJournalFull (plan number) history (Update one.plan.number update.key update.value (flags_number Any))) is.written
      (subst (λ (p : ShardPlan). IsJournalFull p (reverse one.journal) (Update one.plan.number update.key update.value (flags_number Any))) is.planned at.full)) in
      let seen = seen_here number deeds order pass room in
      let kept = set_same before.shards number one at.known in
      record {
        order' = deeds ++ order;
        pass' = pass_after number deeds order pass;
        more = more_by Controller number deeds order are;
        stands = subst (λ (shards : List JournaledShard). Stands plan count Controller (deeds ++ order) shards (pass_after number deeds order pass))
            (kept ∙ ap (λ (all : TurnMaps). all.shards) (sym away.nothing))
            (stands_after plan count Controller number deeds order before.shards one pass are is.within is.planned is.written
            (stands.sound.legal number is.within) (full, stands.sound.met) stands);
        away = record {
          maps = ap (λ (all : TurnMaps). all.maps) away.nothing;
          options = ap (λ (all : TurnMaps). all.options) away.nothing;
          of_map = definition_is (slice_get before.maps update.map) one.plan.definition away.of_map
              ∙ ap (λ (p : ShardPlan). Some p.definition) is.planned;
          elsewhere = elsewhere_same number deeds order pass;
          refused = record {
            begins = subst (λ (history : List Entry). BeginsWith history (seen_at pass number)) (sym seen) (stands.mine.begins number is.within);
            legal = subst (IsLegalHistory (plan number)) (sym seen) (stands.sound.legal number is.within);
            full = subst (λ (history : List Entry). IsJournalFull (plan number) history call) (sym seen) full;
            own = own_here Controller number deeds order pass stands.mine.caller room ∙ sym (stands.mine.own number is.within);
          };
          did = refl;
        };
      }

  -- ---- several

  pub record AreMadeByPass (order : List Deed) (pass : PassView) (before : TurnMaps) (changes : List Change) (after : TurnMaps) : Type 0 where
    pub order' : List Deed
    pub pass' : PassView
    pub more : IsMoreBy Controller order order'
    pub stands : Stands plan count Controller order' after.shards pass'
    pub made : AreMade (IsUpdated plan) (by_pass before pass) changes (by_pass after pass')

  made_steps : (order : List Deed) (pass : PassView) (before : TurnMaps) (changes : List Change) (after : TurnMaps) →
      Stands plan count Controller order before.shards pass → AreMade IsUpdatedInTurn before changes after → AreMadeByPass order pass before changes after
  made_steps order pass before [] after stands made = record {
    order' = order;
    pass' = pass;
    more = no_more Controller order;
    stands = subst (λ (all : TurnMaps). Stands plan count Controller order all.shards pass) made stands;
    made = ap (λ (all : TurnMaps). by_pass all pass) made;
  }
  made_steps order pass before (change ∷ changes) after stands made =
      let one = update_step order pass before (map_update change) _ made.0 stands made.1 in
      let rest = made_steps one.order' one.pass' made.0 changes after one.stands made.2 in
      record {
        order' = rest.order';
        pass' = rest.pass';
        more = more_on Controller order one.order' rest.order' one.more rest.more;
        stands = rest.stands;
        made = (by_pass made.0 one.pass', one.updated, rest.made);
      }

  -- ---- the updates before the first turn

  pub record AreSetByPass (order : List Deed) (pass : PassView) (before : TurnMaps) (updates : List MapUpdate) (after : TurnMaps) : Type 0 where
    pub order' : List Deed
    pub pass' : PassView
    pub more : IsMoreBy Controller order order'
    pub stands : Stands plan count Controller order' after.shards pass'
    pub set : AreSet (IsUpdated plan) (by_pass before pass) updates (by_pass after pass')

  pub set_steps : (order : List Deed) (pass : PassView) (before : TurnMaps) (updates : List MapUpdate) (after : TurnMaps) →
      Stands plan count Controller order before.shards pass → AreSet IsUpdatedInTurn before updates after → AreSetByPass order pass before updates after
  set_steps order pass before [] after stands set = record {
    order' = order;
    pass' = pass;
    more = no_more Controller order;
    stands = subst (λ (all : TurnMaps). Stands plan count Controller order all.shards pass) set stands;
    set = ap (λ (all : TurnMaps). by_pass all pass) set;
  }
  set_steps order pass before (update ∷ updates) after stands set =
      let one = update_step order pass before (update_bytes update) _ set.0 stands set.1 in
      let rest = set_steps one.order' one.pass' set.0 updates after one.stands set.2 in
      record {
        order' = rest.order';
        pass' = rest.pass';
        more = more_on Controller order one.order' rest.order' one.more rest.more;
        stands = rest.stands;
        set = (by_pass set.0 one.pass', one.updated, rest.set);
      }

  -- ---- a command

  pub record HasEffectByPass (order : List Deed) (pass : PassView) (state : ControllerState) (before : TurnMaps) (action : Action)
      (fault : Option ControlFault) (state' : ControllerState) (after : TurnMaps) : Type 0 where
    pub order' : List Deed
    pub pass' : PassView
    pub more : IsMoreBy Controller order order'
    pub stands : Stands plan count Controller order' after.shards pass'
    pub effect : HasEffect plan state action fault state' (by_pass before pass) (by_pass after pass')

  itself : HasWithin plan (λ (port : UpdatesView). port) (IsUpdated plan) (IsTurnedAway plan)
  itself = record { given = λ before after update answer given. given; refused = λ before after update away. away }

  -- what a refusal leaves, by the pass
  record IsLeftByPass (order : List Deed) (pass : PassView) (state : ControllerState) (before : TurnMaps) (action : Action) (fault : ControlFault)
      (state' : ControllerState) (after : TurnMaps) : Type 0 where
    order' : List Deed
    pass' : PassView
    more : IsMoreBy Controller order order'
    stands : Stands plan count Controller order' after.shards pass'
    left : IsLeft (IsUpdated plan) (IsTurnedAway plan) state (by_pass before pass) action state' (by_pass after pass') fault

  -- nothing was done
  still : (order : List Deed) (pass : PassView) (state : ControllerState) (before : TurnMaps) (action : Action) (fault : ControlFault)
      (state' : ControllerState) (after : TurnMaps) → Stands plan count Controller order before.shards pass → after ≡ before →
      (by_pass after pass ≡ by_pass before pass → IsLeft (IsUpdated plan) (IsTurnedAway plan) state (by_pass before pass) action state' (by_pass after pass) fault) →
      IsLeftByPass order pass state before action fault state' after
  still order pass state before action fault state' after stands same left = record {
    order' = order;
    pass' = pass;
    more = no_more Controller order;
    stands = subst (λ (all : TurnMaps). Stands plan count Controller order all.shards pass) (sym same) stands;
    left = left (ap (λ (all : TurnMaps). by_pass all pass) same);
  }

  cut_steps : (order : List Deed) (pass : PassView) (state : ControllerState) (before : TurnMaps) (action : Action) (state' : ControllerState) (after : TurnMaps) →
      Stands plan count Controller order before.shards pass →
      IsStopped IsUpdatedInTurn IsTurnedAwayInTurn state before (first_updates state.up action) (up_after state.up action) state' after →
      IsLeftByPass order pass state before action JournalFull state' after
  cut_steps order pass state before action state' after stands stopped =
      let cut = stopped.cut_short in
      let made = made_steps order pass before cut.made cut.middle stands cut.are_made in
      let last = away_step made.order' made.pass' cut.middle (map_update cut.next) after made.stands cut.is_refused in
      record {
        order' = last.order';
        pass' = last.pass';
        more = more_on Controller order made.order' last.order' made.more last.more;
        stands = last.stands;
        left = inr (record {
          not_full = stopped.not_full;
          owners = stopped.owners;
          table = stopped.table;
          state_is = stopped.state_is;
          cut_short = record {
            made = cut.made;
            next = cut.next;
            later = cut.later;
            middle = by_pass cut.middle made.pass';
            in_order = cut.in_order;
            are_made = made.made;
            is_refused = last.away;
          };
        });
      }

  left_by : (order : List Deed) (pass : PassView) (state : ControllerState) (before : TurnMaps) (action : Action) (fault : ControlFault)
      (state' : ControllerState) (after : TurnMaps) → Stands plan count Controller order before.shards pass →
      IsLeft IsUpdatedInTurn IsTurnedAwayInTurn state before action state' after fault → IsLeftByPass order pass state before action fault state' after
  left_by order pass state before action UnknownBackend state' after stands (unchanged, is) =
      still order pass state before action UnknownBackend state' after stands unchanged.port_is
      (λ same. (record { state_is = unchanged.state_is; port_is = same }, is))
  left_by order pass state before action BackendTwice state' after stands (unchanged, is) =
      still order pass state before action BackendTwice state' after stands unchanged.port_is
      (λ same. (record { state_is = unchanged.state_is; port_is = same }, is))
  left_by order pass state before action Memory state' after stands (unchanged, is) =
      still order pass state before action Memory state' after stands unchanged.port_is
      (λ same. (record { state_is = unchanged.state_is; port_is = same }, is))
  left_by order pass state before action (Refused answer) state' after stands told =
      let one = update_step order pass before (map_update told.update) answer after stands told.answered in
      record {
        order' = one.order';
        pass' = one.pass';
        more = one.more;
        stands = one.stands;
        left = record { update = told.update; only = told.only; not_done = told.not_done; answered = one.updated; state_is = told.state_is };
      }
  left_by order pass state before action JournalFull state' after stands (inl (unchanged, is)) =
      still order pass state before action JournalFull state' after stands unchanged.port_is
      (λ same. inl (record { state_is = unchanged.state_is; port_is = same }, is))
  left_by order pass state before action JournalFull state' after stands (inr stopped) =
      cut_steps order pass state before action state' after stands stopped
  left_by order pass state before action BadSize state' after stands left = absurd left
  left_by order pass state before action (BadLine line) state' after stands left = absurd left

  none_first : (state : ControllerState) (action : Action) →
      ((other : ControlFault) → refusal_of state action ≡ Some other → ◌≡◌ {A = Option ControlFault} None (Some other)) →
      (fault : ControlFault) → refusal_of state action ≡ Some fault → ⊥
  none_first state action first fault is = none_some fault (first fault is)

  pub command_by_pass : (fault : Option ControlFault) (order : List Deed) (pass : PassView) (state : ControllerState) (before : TurnMaps) (action : Action)
      (state' : ControllerState) (after : TurnMaps) → Stands plan count Controller order before.shards pass →
      IsAppliedInTurn fault state before action state' after → ((other : ControlFault) → refusal_of state action ≡ Some other → fault ≡ Some other) →
      HasEffectByPass order pass state before action fault state' after
  command_by_pass None order pass state before action state' after stands applied first =
      let made = made_steps order pass before (updates_of state (first_updates state.up action) applied.owners) after stands applied.are_made in
      record {
        order' = made.order';
        pass' = made.pass';
        more = made.more;
        stands = made.stands;
        effect = carried_out plan (λ (port : UpdatesView). port) (IsUpdated plan) (IsTurnedAway plan) itself state action state' (by_pass before pass)
            (by_pass after made.pass') stands.mine.caller (none_first state action first)
            (record { owners = applied.owners; table = applied.table; state_is = applied.state_is; are_made = made.made });
      }
  command_by_pass (Some fault) order pass state before action state' after stands applied first =
      let left = left_by order pass state before action fault state' after stands applied in
      record {
        order' = left.order';
        pass' = left.pass';
        more = left.more;
        stands = left.stands;
        effect = refused plan (λ (port : UpdatesView). port) (IsUpdated plan) (IsTurnedAway plan) itself state action fault state' (by_pass before pass)
            (by_pass after left.pass') stands.mine.caller first left.left;
      }
