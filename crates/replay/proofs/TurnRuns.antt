-- The calls of a run over the shards of one thread, as calls of its worker's pass.
use Rattle.std.proofs.Common.{◌≡◌, inl, inr, ℕ, ◌<◌, ◌||◌, Bool, true, false, not, List, [], ◌∷◌, ◌++◌, length, reverse, Some, refl, sym, ap, ◌∙◌, subst}
use Rattle.std.specs.Prelude.{slice_get, if◌then◌else◌}
use Rattle.std.proofs.lemmas.List.{reverse-append}
use Rattle.semantics.specs.declared.call.Caller.TheVariants.{Worker}
use Rattle.semantics.specs.declared.call.Call.{Call}
use Rattle.semantics.specs.declared.call.Call.TheVariants.{Enter}
use Rattle.semantics.specs.declared.call.Reply.{Reply}
use Rattle.semantics.specs.declared.call.Entry.{Entry}
use Rattle.semantics.specs.declared.plan.ShardPlan.{ShardPlan}
use Rattle.semantics.specs.CallerLaws.{own_entries}
use Rattle.semantics.specs.Reclamation.{is_inside}
use Rattle.semantics.specs.History.{shard_of_call, IsLegalHistory, IsJournalFull, journal_is_full}
use Rattle.semantics.proofs.shared.CallerLemmas.{own_inside}
use Rattle.map_port.specs.Served.{Maps}
use Rattle.map_port.specs.Exchanges.{Exchange, IsChain}
use Rattle.shard_core.specs.JournaledShard.{JournaledShard}
use Rattle.shards.specs.CallerView.{BeginsWith}
use Rattle.shards.specs.declared.deeds.Deed.{Deed}
use Rattle.shards.specs.declared.deeds.Deed.TheVariants.{Wrote, MetFull}
use Rattle.shards.specs.Deeds.{made_on, AreMet}
use Rattle.shards.specs.Passes.{PassView, view_at, own_at, seen_at}
use Rattle.shard_port.specs.Asking.{is_in, enter_by, entered, asked_entry, entering as entering_of, CannotEnter, CannotCall, CannotEnterOrCall}
use Rattle.shard_port.specs.PortView.{PortView, IsGivenBy as Gives, IsRefusedBy as Refuses}
use Rattle.shard_port.specs.PassPorts.{PassPort, worker_number, entering_by_own, inside_own, entered_deeds, IsAskedAt, CannotEnterAt, CannotCallAt, IsTurnedAwayBy, PassGives, PassRefuses}
use Rattle.replay.proofs.TurnDeeds.{IsPassOf, Stands, IsMoreBy, AreBy, pass_after, own_of_maker, made_here, no_more, more_by, more_on, elsewhere_same, own_here, seen_here, stands_after, IsOneOf, one_of}

-- ---- entering

-- whether it is inside is seen by its own entries
inside_there : (plan : ℕ → ShardPlan) (count worker number : ℕ) (order : List Deed) (shards : List JournaledShard) (one : JournaledShard) (pass : PassView) →
    IsOneOf plan count number order one → IsPassOf count (Worker worker) order pass → is_in worker one ≡ is_inside worker (own_at pass number)
inside_there plan count worker number order shards one pass is mine =
    ap (is_inside worker) is.written ∙ sym (own_inside worker (made_on number order)) ∙ ap (is_inside worker) (sym (mine.own number is.within))

made_entered : (worker number : ℕ) (own : List Entry) (order : List Deed) →
    made_on number (entered_deeds worker number own ++ order) ≡ entering_by_own worker number own ++ made_on number order
made_entered worker number own order = by_test (is_inside worker own)
  where
    by_test : (inside : Bool) → made_on number ((if inside then [] else Wrote (enter_by worker number) ∷ []) ++ order)
        ≡ (if inside then [] else enter_by worker number ∷ []) ++ made_on number order
    by_test true = refl
    by_test false = made_here number (enter_by worker number) order refl

own_entered : (worker number : ℕ) (own history : List Entry) →
    own_entries (Worker worker) (entering_by_own worker number own ++ history) ≡ entering_by_own worker number own ++ own_entries (Worker worker) history
own_entered worker number own history = by_test (is_inside worker own)
  where
    by_test : (inside : Bool) → own_entries (Worker worker) ((if inside then [] else enter_by worker number ∷ []) ++ history)
        ≡ (if inside then [] else enter_by worker number ∷ []) ++ own_entries (Worker worker) history
    by_test true = refl
    by_test false = own_of_maker (enter_by worker number) history

entered_by : (worker number : ℕ) (own : List Entry) → AreBy (Worker worker) number (entered_deeds worker number own)
entered_by worker number own = by_test (is_inside worker own)
  where
    by_test : (inside : Bool) → AreBy (Worker worker) number (if inside then [] else Wrote (enter_by worker number) ∷ [])
    by_test true = tt
    by_test false = (record { caller = refl; shard = refl }, tt)

met_entered : (plan : ℕ → ShardPlan) (worker number : ℕ) (own : List Entry) (order : List Deed) → AreMet plan order →
    AreMet plan (entered_deeds worker number own ++ order)
met_entered plan worker number own order met = by_test (is_inside worker own)
  where
    by_test : (inside : Bool) → AreMet plan ((if inside then [] else Wrote (enter_by worker number) ∷ []) ++ order)
    by_test true = met
    by_test false = (tt, met)

reverse_entering : (worker number : ℕ) (inside : Bool) →
    reverse (if inside then [] else enter_by worker number ∷ []) ≡ (if inside then [] else enter_by worker number ∷ [])
reverse_entering worker number true = refl
reverse_entering worker number false = refl

-- the history of the shard once the worker has entered
entered_history : (worker number : ℕ) (own : List Entry) (one : JournaledShard) → one.plan.number ≡ number → is_in worker one ≡ is_inside worker own →
    reverse (entered worker one).journal ≡ entering_by_own worker number own ++ reverse one.journal
entered_history worker number own one numbered same =
    reverse-append one.journal (entering_of worker one)
    ∙ ap (λ (list : List Entry). list ++ reverse one.journal)
    (reverse_entering worker one.plan.number (is_in worker one)
    ∙ ap (λ (n : ℕ). if is_in worker one then [] else enter_by worker n ∷ []) numbered
    ∙ ap (λ (inside : Bool). if inside then [] else enter_by worker number ∷ []) same)

or_parts : (a b : Bool) → (a || not b) ≡ false → (a ≡ false) × (b ≡ true)
or_parts true b held = absurd cc
or_parts false true held = (refl, refl)
or_parts false false held = absurd cc

-- a port by its parts
abbrev pub one_port : Maps → PassView → PassPort
one_port served pass = record { served = served; pass = pass }

-- ---- the shards, as a worker's pass has them

module _ (plan : ℕ → ShardPlan) (count : ℕ) (numbered : (number : ℕ) → number < count → (plan number).number ≡ number) where
  -- a call's shard once the worker has entered: what the deeds of entering make of it
  record IsEntered (worker number : ℕ) (order : List Deed) (one : JournaledShard) (pass : PassView) : Type 0 where
    is : IsOneOf plan count number order one
    inside : is_in worker one ≡ is_inside worker (own_at pass number)
    history : reverse (entered worker one).journal ≡ made_on number (entered_deeds worker number (own_at pass number) ++ order)
    room : number < length pass.views

  enters : (worker number : ℕ) (order : List Deed) (shards : List JournaledShard) (one : JournaledShard) (pass : PassView) →
      Stands plan count (Worker worker) order shards pass → slice_get shards number ≡ Some one → IsEntered worker number order one pass
  enters worker number order shards one pass stands known =
      let is = one_of plan count number order shards one stands.left known in
      let inside = inside_there plan count worker number order shards one pass is stands.mine in
      record {
        is = is;
        inside = inside;
        history = entered_history worker number (own_at pass number) one (ap (λ (p : ShardPlan). p.number) is.planned ∙ numbered number is.within) inside
            ∙ ap (λ (list : List Entry). entering_by_own worker number (own_at pass number) ++ list) is.written
            ∙ sym (made_entered worker number (own_at pass number) order);
        room = subst (λ (n : ℕ). number < n) (sym stands.mine.sized) is.within;
      }

  -- own entries behind the deeds of entering
  entered_own : (worker number : ℕ) (order : List Deed) (pass : PassView) → number < count → IsPassOf count (Worker worker) order pass →
      own_entries (Worker worker) (made_on number (entered_deeds worker number (own_at pass number) ++ order))
      ≡ inside_own worker number (own_at pass number)
  entered_own worker number order pass within mine =
      ap (own_entries (Worker worker)) (made_entered worker number (own_at pass number) order)
      ∙ own_entered worker number (own_at pass number) (made_on number order)
      ∙ ap (λ (list : List Entry). entering_by_own worker number (own_at pass number) ++ list) (sym (mine.own number within))

  -- ---- an answer

  pub record IsStep (order : List Deed) (pass : PassView) (before after : PortView) (call : Call) (reply : Reply) : Type 0 where
    pub order' : List Deed
    pub pass' : PassView
    pub more : IsMoreBy (Worker before.worker) order order'
    pub stands : Stands plan count (Worker before.worker) order' after.shards pass'
    pub given : PassGives plan count (record { served = before.served; pass = pass }) call reply (record { served = after.served; pass = pass' })

  pub given_step : (order : List Deed) (pass : PassView) (before after : PortView) (call : Call) (reply : Reply) →
      Stands plan count (Worker before.worker) order before.shards pass → Gives before call reply after → IsStep order pass before after call reply
  given_step order pass before after call reply stands given =
      let worker : ℕ = before.worker in
      let number : ℕ = shard_of_call call in
      let among = given.answered in
      let one : JournaledShard = among.shard in
      let own : List Entry = own_at pass number in
      let entry : Entry = asked_entry worker call reply in
      let first : List Deed = entered_deeds worker number own in
      let deeds : List Deed = Wrote entry ∷ first in
      let at = enters worker number order before.shards one pass stands among.known in
      let are : AreBy (Worker worker) number deeds = (record { caller = refl; shard = refl }, entered_by worker number own) in
      let newest : made_on number (deeds ++ order) ≡ entry ∷ made_on number (first ++ order) = made_here number entry (first ++ order) refl in
      let planned : among.new.plan ≡ plan number = ap (λ (shard : JournaledShard). shard.plan) among.answered.written ∙ at.is.planned in
      let written : reverse among.new.journal ≡ made_on number (deeds ++ order) =
      ap (λ (shard : JournaledShard). reverse shard.journal) among.answered.written
      ∙ reverse-append (entered worker one).journal (entry ∷ [])
      ∙ ap (λ (list : List Entry). entry ∷ list) at.history ∙ sym newest in
      let legal : IsLegalHistory (plan number) (made_on number (deeds ++ order)) =
      subst (λ (p : ShardPlan). IsLegalHistory p (made_on number (deeds ++ order))) planned
      (subst (IsLegalHistory among.new.plan) written among.legal) in
      let met : AreMet plan (deeds ++ order) = (tt, met_entered plan worker number own order stands.sound.met) in
      let caller : worker_number pass.who ≡ worker = ap worker_number stands.mine.caller in
      let seen : seen_at (pass_after number deeds order pass) number ≡ entry ∷ entering_by_own worker number own ++ made_on number order =
      seen_here number deeds order pass at.room ∙ newest ∙ ap (λ (list : List Entry). entry ∷ list) (made_entered worker number own order) in
      let asked : IsAskedAt (plan number) number worker (view_at pass number) (view_at (pass_after number deeds order pass) number) call reply = record {
        earlier = made_on number order;
        begins = stands.mine.begins number at.is.within;
        seen = seen;
        legal = subst (IsLegalHistory (plan number)) (sym (seen_here number deeds order pass at.room)) legal;
        own = own_here (Worker worker) number deeds order pass stands.mine.caller at.room ∙ ap (own_entries (Worker worker)) newest
            ∙ own_of_maker entry (made_on number (first ++ order))
            ∙ ap (λ (list : List Entry). entry ∷ list) (entered_own worker number order pass at.is.within stands.mine);
      } in
      record {
        order' = deeds ++ order;
        pass' = pass_after number deeds order pass;
        more = more_by (Worker worker) number deeds order are;
        stands = subst (λ (shards : List JournaledShard). Stands plan count (Worker worker) (deeds ++ order) shards (pass_after number deeds order pass))
            (sym among.put_back)
            (stands_after plan count (Worker worker) number deeds order before.shards among.new pass are at.is.within planned written legal met stands);
        given = record {
          same_maps = given.same_maps;
          some_shard = given.some_shard;
          within = at.is.within;
          elsewhere = elsewhere_same number deeds order pass;
          is_worker = stands.mine.caller ∙ ap Worker (sym caller);
          run_call = given.run_call;
          formed = given.formed;
          asked = record {
            at = subst (λ (w : ℕ). IsAskedAt (plan number) number w (view_at pass number) (view_at (pass_after number deeds order pass) number) call reply)
                (sym caller) asked;
            did = ap (λ (w : ℕ). Wrote (asked_entry w call reply) ∷ entered_deeds w number own ++ pass.deeds) (sym caller);
          };
        };
      }

  -- ---- a refusal

  record IsAway (worker : ℕ) (order : List Deed) (pass : PassView) (call : Call) (new : JournaledShard) : Type 0 where
    deeds : List Deed
    are : AreBy (Worker worker) (shard_of_call call) deeds
    planned : new.plan ≡ plan (shard_of_call call)
    written : reverse new.journal ≡ made_on (shard_of_call call) (deeds ++ order)
    met : AreMet plan (deeds ++ order)
    away : IsLegalHistory (plan (shard_of_call call)) (made_on (shard_of_call call) (deeds ++ order)) →
        IsTurnedAwayBy (plan (shard_of_call call)) (shard_of_call call) pass (pass_after (shard_of_call call) deeds order pass) call

  cannot_enter : (worker : ℕ) (order : List Deed) (shards : List JournaledShard) (pass : PassView) (call : Call) (one new : JournaledShard) →
      Stands plan count (Worker worker) order shards pass → slice_get shards (shard_of_call call) ≡ Some one → CannotEnter worker one new →
      IsAway worker order pass call new
  cannot_enter worker order shards pass call one new stands known cannot =
      let number : ℕ = shard_of_call call in
      let at = enters worker number order shards one pass stands known in
      let deeds : List Deed = MetFull pass.who (Enter number) ∷ [] in
      let parts = or_parts (is_in worker one) (journal_is_full one.plan (reverse one.journal) (Enter one.plan.number)) cannot.full in
      let same_number : one.plan.number ≡ number = ap (λ (p : ShardPlan). p.number) at.is.planned ∙ numbered number at.is.within in
      let full : IsJournalFull (plan number) (made_on number order) (Enter number) =
      subst (λ (n : ℕ). IsJournalFull (plan number) (made_on number order) (Enter n)) same_number
      (subst (λ (history : List Entry). IsJournalFull (plan number) history (Enter one.plan.number)) at.is.written
      (subst (λ (p : ShardPlan). IsJournalFull p (reverse one.journal) (Enter one.plan.number)) at.is.planned parts.1)) in
      let seen = seen_here number deeds order pass at.room in
      let caller : worker_number pass.who ≡ worker = ap worker_number stands.mine.caller in
      let cannot_at : CannotEnterAt (plan number) number worker (view_at pass number) (view_at (pass_after number deeds order pass) number) = record {
        outside = sym at.inside ∙ parts.0;
        refused = record {
          begins = subst (λ (history : List Entry). BeginsWith history (seen_at pass number)) (sym seen) (stands.mine.begins number at.is.within);
          legal = subst (IsLegalHistory (plan number)) (sym seen) (stands.sound.legal number at.is.within);
          full = subst (λ (history : List Entry). IsJournalFull (plan number) history (Enter number)) (sym seen) full;
          own = own_here (Worker worker) number deeds order pass stands.mine.caller at.room ∙ sym (stands.mine.own number at.is.within);
        };
      } in
      record {
        deeds = deeds;
        are = (record { caller = stands.mine.caller; shard = refl }, tt);
        planned = ap (λ (shard : JournaledShard). shard.plan) cannot.unchanged ∙ at.is.planned;
        written = ap (λ (shard : JournaledShard). reverse shard.journal) cannot.unchanged ∙ at.is.written;
        met = (full, stands.sound.met);
        away = λ legal. inl (record {
          at = subst (λ (w : ℕ). CannotEnterAt (plan number) number w (view_at pass number) (view_at (pass_after number deeds order pass) number))
              (sym caller) cannot_at;
          did = refl;
        });
      }

  cannot_call : (worker : ℕ) (order : List Deed) (shards : List JournaledShard) (pass : PassView) (call : Call) (one new : JournaledShard) →
      Stands plan count (Worker worker) order shards pass → slice_get shards (shard_of_call call) ≡ Some one → CannotCall worker one call new →
      IsAway worker order pass call new
  cannot_call worker order shards pass call one new stands known cannot =
      let number : ℕ = shard_of_call call in
      let own : List Entry = own_at pass number in
      let at = enters worker number order shards one pass stands known in
      let first : List Deed = entered_deeds worker number own in
      let deeds : List Deed = MetFull pass.who call ∷ first in
      let full : IsJournalFull (plan number) (made_on number (first ++ order)) call =
      subst (λ (history : List Entry). IsJournalFull (plan number) history call) at.history
      (subst (λ (p : ShardPlan). IsJournalFull p (reverse (entered worker one).journal) call) at.is.planned cannot.full) in
      let seen = seen_here number deeds order pass at.room in
      let caller : worker_number pass.who ≡ worker = ap worker_number stands.mine.caller in
      record {
        deeds = deeds;
        are = (record { caller = stands.mine.caller; shard = refl }, entered_by worker number own);
        planned = ap (λ (shard : JournaledShard). shard.plan) cannot.entered_only ∙ at.is.planned;
        written = ap (λ (shard : JournaledShard). reverse shard.journal) cannot.entered_only ∙ at.history;
        met = (full, met_entered plan worker number own order stands.sound.met);
        away = λ legal.
            let cannot_at : CannotCallAt (plan number) number worker (view_at pass number) (view_at (pass_after number deeds order pass) number) call = record {
              earlier = made_on number order;
              begins = stands.mine.begins number at.is.within;
              seen = seen ∙ made_entered worker number own order;
              legal = subst (IsLegalHistory (plan number)) (sym seen) legal;
              full = subst (λ (history : List Entry). IsJournalFull (plan number) history call) (sym seen) full;
              own = own_here (Worker worker) number deeds order pass stands.mine.caller at.room
                  ∙ entered_own worker number order pass at.is.within stands.mine;
            } in
            inr (record {
              at = subst (λ (w : ℕ). CannotCallAt (plan number) number w (view_at pass number) (view_at (pass_after number deeds order pass) number) call)
                  (sym caller) cannot_at;
              did = ap (λ (w : ℕ). MetFull pass.who call ∷ entered_deeds w number own ++ pass.deeds) (sym caller);
            });
      }

  away_by : (worker : ℕ) (order : List Deed) (shards : List JournaledShard) (pass : PassView) (call : Call) (one new : JournaledShard) →
      Stands plan count (Worker worker) order shards pass → slice_get shards (shard_of_call call) ≡ Some one → CannotEnterOrCall worker one call new →
      IsAway worker order pass call new
  away_by worker order shards pass call one new stands known (inl cannot) = cannot_enter worker order shards pass call one new stands known cannot
  away_by worker order shards pass call one new stands known (inr cannot) = cannot_call worker order shards pass call one new stands known cannot

  pub record IsLastStep (order : List Deed) (pass : PassView) (before after : PortView) (call : Call) : Type 0 where
    pub order' : List Deed
    pub pass' : PassView
    pub more : IsMoreBy (Worker before.worker) order order'
    pub stands : Stands plan count (Worker before.worker) order' after.shards pass'
    pub refused : PassRefuses plan count (record { served = before.served; pass = pass }) call (record { served = after.served; pass = pass' })

  pub refused_step : (order : List Deed) (pass : PassView) (before after : PortView) (call : Call) →
      Stands plan count (Worker before.worker) order before.shards pass → Refuses before call after → IsLastStep order pass before after call
  refused_step order pass before after call stands refused =
      let worker : ℕ = before.worker in
      let number : ℕ = shard_of_call call in
      let among = refused.turned_away in
      let away = away_by worker order before.shards pass call among.shard among.new stands among.known among.turned_away in
      let at = enters worker number order before.shards among.shard pass stands among.known in
      let deeds : List Deed = away.deeds in
      let legal : IsLegalHistory (plan number) (made_on number (deeds ++ order)) =
      subst (λ (p : ShardPlan). IsLegalHistory p (made_on number (deeds ++ order))) away.planned
      (subst (IsLegalHistory among.new.plan) away.written among.legal) in
      record {
        order' = deeds ++ order;
        pass' = pass_after number deeds order pass;
        more = more_by (Worker worker) number deeds order away.are;
        stands = subst (λ (shards : List JournaledShard). Stands plan count (Worker worker) (deeds ++ order) shards (pass_after number deeds order pass))
            (sym among.put_back)
            (stands_after plan count (Worker worker) number deeds order before.shards among.new pass away.are at.is.within away.planned away.written legal
            away.met stands);
        refused = record {
          same_maps = refused.same_maps;
          within = at.is.within;
          elsewhere = elsewhere_same number deeds order pass;
          is_worker = stands.mine.caller ∙ ap Worker (sym (ap worker_number stands.mine.caller));
          turned_away = away.away legal;
        };
      }

  -- ---- a chain of calls

  pub record IsChained (worker : ℕ) (order : List Deed) (pass : PassView) (before after : PortView) (exchanges : List Exchange) : Type 0 where
    pub order' : List Deed
    pub pass' : PassView
    pub more : IsMoreBy (Worker worker) order order'
    pub stands : Stands plan count (Worker worker) order' after.shards pass'
    pub chain : IsChain (PassGives plan count) (record { served = before.served; pass = pass }) exchanges (record { served = after.served; pass = pass' })
    pub same_worker : after.worker ≡ worker

  pub chain_steps : (worker : ℕ) (order : List Deed) (pass : PassView) (before after : PortView) (exchanges : List Exchange) → before.worker ≡ worker →
      Stands plan count (Worker worker) order before.shards pass → IsChain Gives before exchanges after →
      IsChained worker order pass before after exchanges
  chain_steps worker order pass before after [] same stands chain = record {
    order' = order;
    pass' = pass;
    more = no_more (Worker worker) order;
    stands = subst (λ (port : PortView). Stands plan count (Worker worker) order port.shards pass) chain stands;
    chain = ap (λ (port : PortView). one_port port.served pass) chain;
    same_worker = ap (λ (port : PortView). port.worker) (sym chain) ∙ same;
  }
  chain_steps worker order pass before after (exchange ∷ later) same stands chain =
      let one = given_step order pass before chain.0 exchange.call exchange.reply
      (subst (λ (w : ℕ). Stands plan count (Worker w) order before.shards pass) (sym same) stands) chain.1 in
      let middle : Stands plan count (Worker worker) one.order' chain.0.shards one.pass' =
      subst (λ (w : ℕ). Stands plan count (Worker w) one.order' chain.0.shards one.pass') same one.stands in
      let rest = chain_steps worker one.order' one.pass' chain.0 after later (chain.1.same_worker ∙ same) middle chain.2 in
      record {
        order' = rest.order';
        pass' = rest.pass';
        more = more_on (Worker worker) order one.order' rest.order'
            (subst (λ (w : ℕ). IsMoreBy (Worker w) order one.order') same one.more) rest.more;
        stands = rest.stands;
        chain = (one_port chain.0.served one.pass', one.given, rest.chain);
        same_worker = rest.same_worker;
      }
