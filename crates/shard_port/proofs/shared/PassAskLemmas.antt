-- A call by a pass, which enters the shard before where it is outside.
use Rattle.std.proofs.Common.{◌≡◌, inl, inr, ℕ, ◌/◌, ◌<◌, Bool, true, false, nat_lt, List, [], ◌∷◌, ◌++◌, arith, refl, sym, ◌∙◌, ap, subst}
use Rattle.std.specs.Prelude.{◌==◌, IsTrue, slice_get, if◌then◌else◌, Result, Ok, Err, IfOk, IfErr, OnErr}
use Rattle.std.proofs.lemmas.Bool.Decides.{nat_tests}
use Rattle.ebpf_decode.specs.declared.map.MapDef.{MapDef}
use Rattle.semantics.specs.declared.options.Options.{Options}
use Rattle.semantics.specs.declared.plan.ShardPlan.{ShardPlan}
use Rattle.semantics.specs.declared.call.Caller.{Caller}
use Rattle.semantics.specs.declared.call.Caller.TheVariants.{Worker, Controller, Reclaimer}
use Rattle.semantics.specs.declared.call.Call.{Call}
use Rattle.semantics.specs.declared.call.Call.TheVariants.{Enter, Leave}
use Rattle.semantics.specs.declared.call.Reply.{Reply}
use Rattle.semantics.specs.declared.call.Reply.TheVariants.{Left}
use Rattle.semantics.specs.declared.call.Entry.{Entry}
use Rattle.semantics.specs.Reclamation.{is_inside}
use Rattle.semantics.specs.History.{Meets}
use Rattle.journal.specs.Entries as entries
use Rattle.semantics.specs.declared.full.JournalFull.{JournalFull}
use Rattle.shards.specs.declared.deeds.Deed.{Deed}
use Rattle.shards.specs.declared.deeds.Deed.TheVariants.{Wrote, MetFull}
use Rattle.shards.specs.declared.stopped.Stopped.{Stopped}
use Rattle.shards.specs.declared.stopped.Stopped.TheVariants.{AtEnter, AtCall}
use Rattle.shards.specs.CallerView.{CallerView, ViewIsServed, ViewIsRefused}
use Rattle.shards.specs.Deeds.{deed_by, deeds_by_both}
use Rattle.shards.specs.Passes.{PassView, is_inside_of, view_at, own_at}
use Rattle.shards.specs.SharedMaps.{ArePlans}
use Rattle.shards.specs.Asked.{AreServed, IsServedThenRefused, PassIsServed, PassIsRefused, PassEntersAndIsServed, PassIsStopped}
use Rattle.shard_port.specs.Asking.{enter_by, leave_by, asked_entry}
use Rattle.shard_port.specs.PortLaws.{both_true}
use Rattle.shard_port.specs.PassPorts.{is_worker_below, worker_number, entering_by_own, entered_deeds, left_deeds, inside_own, IsAskedAt, CannotCallAt, IsAskedBy, IsTurnedAwayBy, ViewHasLeft}
use Rattle.shard_port.proofs.shared.ReadyLemmas.{plan_number}

-- ---- who calls

pub is_worker : (most : ℕ) (who : Caller) → IsTrue (is_worker_below most who) → who ≡ Worker (worker_number who)
is_worker most (Worker number) below = refl
is_worker most Controller below = cc
is_worker most Reclaimer below = cc

pub inside_same : (most : ℕ) (who : Caller) (own : List Entry) → IsTrue (is_worker_below most who) →
    is_inside_of who own ≡ is_inside (worker_number who) own
inside_same most (Worker number) own below = refl
inside_same most Controller own below = cc
inside_same most Reclaimer own below = cc

-- ---- entering

none_entering : (worker number : ℕ) (own : List Entry) → is_inside worker own ≡ true → entering_by_own worker number own ≡ []
none_entering worker number own inside = ap (λ (test : Bool). if test then [] else enter_by worker number ∷ []) inside

one_entering : (worker number : ℕ) (own : List Entry) → is_inside worker own ≡ false →
    entering_by_own worker number own ≡ enter_by worker number ∷ []
one_entering worker number own outside = ap (λ (test : Bool). if test then [] else enter_by worker number ∷ []) outside

-- ---- served

asked_inside : (most : ℕ) (plan : ShardPlan) (number : ℕ) (who : Caller) (before after : CallerView) (call : Call) (reply : Reply) →
    IsTrue (is_worker_below most who) → is_inside_of who before.own ≡ true →
    ViewIsServed plan before after (record { who = who; call = call; reply = reply }) →
    IsAskedAt plan number (worker_number who) before after call reply
asked_inside most plan number (Worker worker) before after call reply below inside served =
    let none : entering_by_own worker number before.own ≡ [] = none_entering worker number before.own inside in
    record {
      earlier = served.earlier;
      begins = served.begins;
      seen = served.seen ∙ ap (λ (first : List Entry). asked_entry worker call reply ∷ first ++ served.earlier) (sym none);
      legal = served.legal;
      own = served.own ∙ ap (λ (first : List Entry). asked_entry worker call reply ∷ first ++ before.own) (sym none);
    }
asked_inside most plan number Controller before after call reply below inside served = cc
asked_inside most plan number Reclaimer before after call reply below inside served = cc

asked_outside : (most : ℕ) (plan : ShardPlan) (number : ℕ) (who : Caller) (before after : CallerView) (call : Call) (reply : Reply) →
    IsTrue (is_worker_below most who) → is_inside_of who before.own ≡ false →
    AreServed plan before after (entries.enter_entry number who) (record { who = who; call = call; reply = reply }) →
    IsAskedAt plan number (worker_number who) before after call reply
asked_outside most plan number (Worker worker) before after call reply below outside served =
    let one : entering_by_own worker number before.own ≡ enter_by worker number ∷ [] = one_entering worker number before.own outside in
    record {
      earlier = served.earlier;
      begins = served.begins;
      seen = served.seen ∙ ap (λ (first : List Entry). asked_entry worker call reply ∷ first ++ served.earlier) (sym one);
      legal = served.legal;
      own = served.own ∙ ap (λ (first : List Entry). asked_entry worker call reply ∷ first ++ before.own) (sym one);
    }
asked_outside most plan number Controller before after call reply below outside served = cc
asked_outside most plan number Reclaimer before after call reply below outside served = cc

-- ---- what its deeds are then

none_entered : (worker number : ℕ) (own : List Entry) → is_inside worker own ≡ true → entered_deeds worker number own ≡ []
none_entered worker number own inside = ap (λ (test : Bool). if test then [] else Wrote (enter_by worker number) ∷ []) inside

one_entered : (worker number : ℕ) (own : List Entry) → is_inside worker own ≡ false →
    entered_deeds worker number own ≡ Wrote (enter_by worker number) ∷ []
one_entered worker number own outside = ap (λ (test : Bool). if test then [] else Wrote (enter_by worker number) ∷ []) outside

abbrev wrote_by : Caller → Call → Reply → Deed
wrote_by who call reply = Wrote (record { who = who; call = call; reply = reply })

did_inside : (most number : ℕ) (who : Caller) (own : List Entry) (call : Call) (reply : Reply) (before after : List Deed) →
    IsTrue (is_worker_below most who) → is_inside_of who own ≡ true → after ≡ wrote_by who call reply ∷ before →
    after ≡ Wrote (asked_entry (worker_number who) call reply) ∷ entered_deeds (worker_number who) number own ++ before
did_inside most number (Worker worker) own call reply before after below inside did =
    did ∙ ap (λ (first : List Deed). Wrote (asked_entry worker call reply) ∷ first ++ before) (sym (none_entered worker number own inside))
did_inside most number Controller own call reply before after below inside did = cc
did_inside most number Reclaimer own call reply before after below inside did = cc

did_outside : (most number : ℕ) (who : Caller) (own : List Entry) (call : Call) (reply : Reply) (before after : List Deed) →
    IsTrue (is_worker_below most who) → is_inside_of who own ≡ false →
    after ≡ wrote_by who call reply ∷ Wrote (entries.enter_entry number who) ∷ before →
    after ≡ Wrote (asked_entry (worker_number who) call reply) ∷ entered_deeds (worker_number who) number own ++ before
did_outside most number (Worker worker) own call reply before after below outside did =
    did ∙ ap (λ (first : List Deed). Wrote (asked_entry worker call reply) ∷ first ++ before) (sym (one_entered worker number own outside))
did_outside most number Controller own call reply before after below outside did = cc
did_outside most number Reclaimer own call reply before after below outside did = cc

met_inside_then : (most number : ℕ) (who : Caller) (own : List Entry) (call : Call) (before after : List Deed) →
    IsTrue (is_worker_below most who) → is_inside_of who own ≡ true → after ≡ MetFull who call ∷ before →
    after ≡ MetFull who call ∷ entered_deeds (worker_number who) number own ++ before
met_inside_then most number (Worker worker) own call before after below inside did =
    did ∙ ap (λ (first : List Deed). MetFull (Worker worker) call ∷ first ++ before) (sym (none_entered worker number own inside))
met_inside_then most number Controller own call before after below inside did = cc
met_inside_then most number Reclaimer own call before after below inside did = cc

met_outside_then : (most number : ℕ) (who : Caller) (own : List Entry) (call : Call) (before after : List Deed) →
    IsTrue (is_worker_below most who) → is_inside_of who own ≡ false →
    after ≡ MetFull who call ∷ Wrote (entries.enter_entry number who) ∷ before →
    after ≡ MetFull who call ∷ entered_deeds (worker_number who) number own ++ before
met_outside_then most number (Worker worker) own call before after below outside did =
    did ∙ ap (λ (first : List Deed). MetFull (Worker worker) call ∷ first ++ before) (sym (one_entered worker number own outside))
met_outside_then most number Controller own call before after below outside did = cc
met_outside_then most number Reclaimer own call before after below outside did = cc

-- ---- refused

refused_inside : (most : ℕ) (plan : ShardPlan) (number : ℕ) (who : Caller) (before after : CallerView) (call : Call) →
    IsTrue (is_worker_below most who) → is_inside_of who before.own ≡ true → ViewIsRefused plan before after call →
    CannotCallAt plan number (worker_number who) before after call
refused_inside most plan number (Worker worker) before after call below inside refused =
    let none : entering_by_own worker number before.own ≡ [] = none_entering worker number before.own inside in
    record {
      earlier = after.seen;
      begins = refused.begins;
      seen = ap (λ (first : List Entry). first ++ after.seen) (sym none);
      legal = refused.legal;
      full = refused.full;
      own = refused.own ∙ ap (λ (first : List Entry). first ++ before.own) (sym none);
    }
refused_inside most plan number Controller before after call below inside refused = cc
refused_inside most plan number Reclaimer before after call below inside refused = cc

refused_at_call : (most : ℕ) (plan : ShardPlan) (number : ℕ) (who : Caller) (before after : CallerView) (call : Call) →
    IsTrue (is_worker_below most who) → is_inside_of who before.own ≡ false →
    IsServedThenRefused plan before after (entries.enter_entry number who) call →
    CannotCallAt plan number (worker_number who) before after call
refused_at_call most plan number (Worker worker) before after call below outside stopped =
    let one : entering_by_own worker number before.own ≡ enter_by worker number ∷ [] = one_entering worker number before.own outside in
    record {
      earlier = stopped.earlier;
      begins = stopped.begins;
      seen = stopped.seen ∙ ap (λ (first : List Entry). first ++ stopped.earlier) (sym one);
      legal = stopped.legal;
      full = stopped.full;
      own = stopped.own ∙ ap (λ (first : List Entry). first ++ before.own) (sym one);
    }
refused_at_call most plan number Controller before after call below outside stopped = cc
refused_at_call most plan number Reclaimer before after call below outside stopped = cc

-- ---- by the pass

module _ {A : Type 0} (most : ℕ) (plan : ShardPlan) (number : ℕ) (before after : PassView) (call : Call) (replies : A → Reply)
    (below : IsTrue (is_worker_below most before.who)) where
  pub asked_once_inside : (result : Result A JournalFull) → is_inside_of before.who (own_at before number) ≡ true →
      IfOk result (λ answer. PassIsServed plan number before after call (replies answer)) →
      after.deeds ≡ deed_by before.who call replies result ∷ before.deeds →
      IfOk result (λ answer. IsAskedBy plan number before after call (replies answer))
  asked_once_inside (Ok answer) inside served did = record {
    at = asked_inside most plan number before.who (view_at before number) (view_at after number) call (replies answer) below inside served;
    did = did_inside most number before.who (own_at before number) call (replies answer) before.deeds after.deeds below inside did;
  }
  asked_once_inside (Err full) inside served did = served

  pub turned_away_inside : (result : Result A JournalFull) → is_inside_of before.who (own_at before number) ≡ true →
      OnErr result (PassIsRefused plan number before after call) → after.deeds ≡ deed_by before.who call replies result ∷ before.deeds →
      OnErr result (IsTurnedAwayBy plan number before after call)
  turned_away_inside (Ok answer) inside refused did = refused
  turned_away_inside (Err full) inside refused did = inr (record {
    at = refused_inside most plan number before.who (view_at before number) (view_at after number) call below inside refused;
    did = met_inside_then most number before.who (own_at before number) call before.deeds after.deeds below inside did;
  })

  pub asked_from_outside : (result : Result A Stopped) (answer : A) → result ≡ Ok answer → is_inside_of before.who (own_at before number) ≡ false →
      IfOk result (λ answer. PassEntersAndIsServed plan number before after call (replies answer)) →
      after.deeds ≡ deeds_by_both number before.who call replies result ++ before.deeds →
      IsAskedBy plan number before after call (replies answer)
  asked_from_outside (Ok found) answer is outside served did =
      let same : found ≡ answer = cc in
      subst (λ (one : A). IsAskedBy plan number before after call (replies one)) same (record {
        at = asked_outside most plan number before.who (view_at before number) (view_at after number) call (replies found) below outside served;
        did = did_outside most number before.who (own_at before number) call (replies found) before.deeds after.deeds below outside did;
      })
  asked_from_outside (Err stopped) answer is outside served did = absurd cc

  pub turned_away_outside : (result : Result A Stopped) (stopped : Stopped) → result ≡ Err stopped →
      is_inside_of before.who (own_at before number) ≡ false → IfErr result (PassIsStopped plan number before after call) →
      after.deeds ≡ deeds_by_both number before.who call replies result ++ before.deeds → IsTurnedAwayBy plan number before after call
  turned_away_outside (Ok answer) stopped is outside refused did = absurd cc
  turned_away_outside (Err (AtEnter full)) stopped is outside refused did = inl (record {
    at = record { outside = sym (inside_same most before.who (own_at before number) below) ∙ outside; refused = refused.0 };
    did = did;
  })
  turned_away_outside (Err (AtCall full)) stopped is outside refused did = inr (record {
    at = refused_at_call most plan number before.who (view_at before number) (view_at after number) call below outside refused.0;
    did = met_outside_then most number before.who (own_at before number) call before.deeds after.deeds below outside did;
  })

-- ---- what the shard asks of its caller

pub met_inside : (most : ℕ) (plan : ShardPlan) (number : ℕ) (who : Caller) (own : List Entry) (call : Call) →
    IsTrue (is_worker_below most who) → is_inside_of who own ≡ true → Meets plan (inside_own (worker_number who) number own) who call →
    Meets plan own who call
met_inside most plan number (Worker worker) own call below inside met =
    subst (λ (first : List Entry). Meets plan (first ++ own) (Worker worker) call) (none_entering worker number own inside) met
met_inside most plan number Controller own call below inside met = cc
met_inside most plan number Reclaimer own call below inside met = cc

pub met_outside : (most : ℕ) (plan : ShardPlan) (number : ℕ) (who : Caller) (own : List Entry) (call : Call) →
    IsTrue (is_worker_below most who) → is_inside_of who own ≡ false → Meets plan (inside_own (worker_number who) number own) who call →
    Meets plan (entries.enter_entry number who ∷ own) who call
met_outside most plan number (Worker worker) own call below outside met =
    subst (λ (first : List Entry). Meets plan (first ++ own) (Worker worker) call) (one_entering worker number own outside) met
met_outside most plan number Controller own call below outside met = cc
met_outside most plan number Reclaimer own call below outside met = cc

-- of a worker that the plans have, and a shard that they have
pub record IsPlannedAt (options : Options) (number : ℕ) (plan : ShardPlan) : Type 0 where
  pub numbered : plan.number ≡ number
  pub numbered_test : (number == plan.number) ≡ true
  pub workers : plan.workers ≡ options.workers

pub planned_at : (maps : List MapDef) (options : Options) (count : ℕ) (plan : ℕ → ShardPlan) (number : ℕ) →
    ArePlans maps options count plan → number < count → IsPlannedAt options number (plan number)
planned_at maps options count plan number plans within =
    let planned = plan_number options number (slice_get maps (number / options.shards)) (plan number) (plans.each number within) in
    let same : (plan number).number ≡ number = planned.0 in
    record {
      numbered = same;
      numbered_test = subst (λ (n : ℕ). (number == n) ≡ true) (sym same) (same_number number);
      workers = planned.3;
    }
  where
    same_number : (n : ℕ) → (n == n) ≡ true
    same_number n = grind (arith, nat_tests)

pub below_workers : (options : Options) (plan : ShardPlan) (worker : ℕ) → plan.workers ≡ options.workers →
    IsTrue (nat_lt worker options.workers) → nat_lt worker plan.workers ≡ true
below_workers options plan worker same below = subst (λ (most : ℕ). nat_lt worker most ≡ true) (sym same) below

pub may_enter : (maps : List MapDef) (options : Options) (count : ℕ) (plan : ℕ → ShardPlan) (number : ℕ) (who : Caller) (own : List Entry) →
    ArePlans maps options count plan → number < count → IsTrue (is_worker_below options.workers who) → is_inside_of who own ≡ false →
    Meets (plan number) own who (Enter number)
may_enter maps options count plan number (Worker worker) own plans within below outside =
    let at = planned_at maps options count plan number plans within in
    both_true _ _ at.numbered_test
    (both_true _ _ (below_workers options (plan number) worker at.workers below) (ap (λ (test : Bool). if test then false else true) outside))
may_enter maps options count plan number Controller own plans within below outside = cc
may_enter maps options count plan number Reclaimer own plans within below outside = cc

pub may_leave : (maps : List MapDef) (options : Options) (count : ℕ) (plan : ℕ → ShardPlan) (number : ℕ) (who : Caller) (own : List Entry) →
    ArePlans maps options count plan → number < count → IsTrue (is_worker_below options.workers who) → is_inside_of who own ≡ true →
    Meets (plan number) own who (Leave number)
may_leave maps options count plan number (Worker worker) own plans within below inside =
    let at = planned_at maps options count plan number plans within in
    both_true _ _ at.numbered_test (both_true _ _ (below_workers options (plan number) worker at.workers below) inside)
may_leave maps options count plan number Controller own plans within below inside = cc
may_leave maps options count plan number Reclaimer own plans within below inside = cc

-- ---- leaving

pub left_inside : (most : ℕ) (plan : ShardPlan) (number : ℕ) (who : Caller) (before after : CallerView) →
    IsTrue (is_worker_below most who) → is_inside_of who before.own ≡ true →
    ViewIsServed plan before after (record { who = who; call = Leave number; reply = Left }) →
    ViewHasLeft (is_inside (worker_number who) before.own) plan number (worker_number who) before after
left_inside most plan number (Worker worker) before after below inside served =
    subst (λ (test : Bool). ViewHasLeft test plan number worker before after) (sym inside) served
left_inside most plan number Controller before after below inside served = cc
left_inside most plan number Reclaimer before after below inside served = cc

pub left_outside : (most : ℕ) (plan : ShardPlan) (number : ℕ) (who : Caller) (before : CallerView) → IsTrue (is_worker_below most who) →
    is_inside_of who before.own ≡ false →
    ViewHasLeft (is_inside (worker_number who) before.own) plan number (worker_number who) before before
left_outside most plan number who before below outside =
    subst (λ (test : Bool). ViewHasLeft test plan number (worker_number who) before before)
    (sym (sym (inside_same most who before.own below) ∙ outside)) refl

pub left_then : (most number : ℕ) (who : Caller) (own : List Entry) (before after : List Deed) → IsTrue (is_worker_below most who) →
    is_inside_of who own ≡ true → after ≡ Wrote (entries.leave_entry number who) ∷ before →
    after ≡ left_deeds (worker_number who) number own ++ before
left_then most number (Worker worker) own before after below inside did =
    did ∙ ap (λ (test : Bool). (if test then Wrote (leave_by worker number) ∷ [] else []) ++ before) (sym inside)
left_then most number Controller own before after below inside did = cc
left_then most number Reclaimer own before after below inside did = cc

pub stayed_then : (most number : ℕ) (who : Caller) (own : List Entry) (deeds : List Deed) → IsTrue (is_worker_below most who) →
    is_inside_of who own ≡ false → deeds ≡ left_deeds (worker_number who) number own ++ deeds
stayed_then most number (Worker worker) own deeds below outside =
    ap (λ (test : Bool). (if test then Wrote (leave_by worker number) ∷ [] else []) ++ deeds) (sym outside)
stayed_then most number Controller own deeds below outside = cc
stayed_then most number Reclaimer own deeds below outside = cc
