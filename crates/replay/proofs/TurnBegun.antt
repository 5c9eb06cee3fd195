-- The account of the controller's commands in turn, with what the one order of all deeds begins with.
use Rattle.std.proofs.Common.{◌≡◌, ⊎_elim, ℕ, zero, suc, ◌+◌, ◌<◌, ◌≤◌, Bool, true, false, cond, List, [], ◌∷◌, ◌++◌, length, length-append, take, drop, refl, sym, ap, ◌∙◌, subst, append_assoc, arith}
use Rattle.std.specs.Prelude.{slice_get, Some, nat_lt, if◌then◌else◌}
use Rattle.std.specs.List.{AllByRecursion}
use Rattle.std.proofs.lemmas.Bool.{cases_eq}
use Rattle.ebpf_decode.specs.declared.map.MapDef.{MapDef}
use Rattle.map_updates.specs.declared.update.MapUpdate.{MapUpdate}
use Rattle.semantics.specs.declared.call.Caller.{Caller}
use Rattle.semantics.specs.declared.call.Caller.TheVariants.{Controller}
use Rattle.semantics.specs.declared.options.Options.{Options}
use Rattle.semantics.specs.declared.plan.ShardPlan.{ShardPlan}
use Rattle.semantics.specs.CallerLaws.{is_caller}
use Rattle.shards.specs.declared.deeds.Deed.{Deed}
use Rattle.shards.specs.declared.deeds.OrderPart.TheVariants.{ByCaller}
use Rattle.shards.specs.Deeds.{caller_of_deed, deeds_of, AreFirst}
use Rattle.shards.specs.Passes.{PassView}
use Rattle.control.specs.declared.command.Command.{Command}
use Rattle.control.specs.Controlling.{ControllerState}
use Rattle.actors.specs.declared.outcome.Applied.{Applied}
use Rattle.actors.specs.Actors.{due_to}
use Rattle.actors.specs.Commands.{CommandDone, HasEffect, IsScriptAccount}
use Rattle.actors.specs.Parts.{first_commands, first_deeds}
use Rattle.actors.specs.SharedUpdates.{UpdatesView}
use Rattle.actors.proofs.shared.CommandAccounts.{account_more, account_done}
use Rattle.replay.proofs.TurnDeeds.{IsMoreBy, is_own}

-- ---- the first commands of several

pub take_less : {A : Type 0} (n : ℕ) (xs ys : List A) → n ≤ length xs → take n (xs ++ ys) ≡ take n xs
take_less {A} zero xs ys few = refl
take_less {A} (suc n) [] ys few = absurd (omega (arith, few))
take_less {A} (suc n) (x ∷ xs) ys few = ap (λ (list : List A). x ∷ list) (take_less n xs ys (omega (arith, few)))

pub take_whole : {A : Type 0} (n : ℕ) (xs : List A) → n ≡ length xs → take n xs ≡ xs
take_whole {A} zero [] is = refl
take_whole {A} zero (x ∷ xs) is = absurd (omega (arith, is))
take_whole {A} (suc n) [] is = absurd (omega (arith, is))
take_whole {A} (suc n) (x ∷ xs) is = ap (λ (list : List A). x ∷ list) (take_whole n xs (omega (arith, is)))

pub take_count : {A : Type 0} (n : ℕ) (xs : List A) → n ≤ length xs → length (take n xs) ≡ n
take_count zero xs few = refl
take_count (suc n) [] few = absurd (omega (arith, few))
take_count (suc n) (x ∷ xs) few = ap suc (take_count n xs (omega (arith, few)))

pub take_and_drop : {A : Type 0} (n : ℕ) (xs : List A) → xs ≡ take n xs ++ drop n xs
take_and_drop {A} zero xs = refl
take_and_drop {A} (suc n) [] = refl
take_and_drop {A} (suc n) (x ∷ xs) = ap (λ (list : List A). x ∷ list) (take_and_drop n xs)

-- no more are due than there are
pub due_few : (starts : List ℕ) (number : ℕ) → due_to starts number ≤ length starts
due_few [] number = omega arith
due_few (start ∷ later) number = by_test (nat_lt number start) (due_few later number)
  where
    by_test : (early : Bool) → due_to later number ≤ length later → (if early then 0 else suc (due_to later number)) ≤ length (start ∷ later)
    by_test true rest = omega arith
    by_test false rest = omega (arith, rest)

-- ---- deeds of the controller alone

abbrev pub AreControllers : List Deed → Type 0
AreControllers deeds = AllByRecursion (λ (deed : Deed). caller_of_deed deed ≡ Controller) deeds

pub all_controllers : (deeds : List Deed) → AreControllers deeds → deeds_of (ByCaller Controller) deeds ≡ deeds
all_controllers [] are = refl
all_controllers (deed ∷ deeds) are =
    ap (λ (mine : Bool). cond mine (deed ∷ deeds_of (ByCaller Controller) deeds) (deeds_of (ByCaller Controller) deeds))
    (ap (λ (one : Caller). is_caller Controller one) are.0 ∙ is_own Controller)
    ∙ ap (λ (list : List Deed). deed ∷ list) (all_controllers deeds are.1)

-- ---- the account

-- once the commands before the first record were applied, the order begins with their deeds
pub record IsBegunAccount (plan : ℕ → ShardPlan) (maps : List MapDef) (options : Options) (updates : List MapUpdate) (script : List Command) (size : ℕ)
    (noted : List Applied) (state : ControllerState) (pass : PassView) (next : ℕ) (order : List Deed) : Type 0 where
  pub account : IsScriptAccount plan maps options updates script size noted state pass
  pub late : first_commands script ≤ next → AreFirst (first_deeds maps options updates (take (first_commands script) account.done)) order

pub grown_first : (who : Caller) (first order order' : List Deed) → IsMoreBy who order order' → AreFirst first order → AreFirst first order'
grown_first who first order order' more begins =
    (more.deeds ++ begins.0, more.more ∙ ap (λ (list : List Deed). more.deeds ++ list) begins.1 ∙ sym (append_assoc more.deeds begins.0 first))

-- another caller did more
pub begun_grown : (plan : ℕ → ShardPlan) (maps : List MapDef) (options : Options) (updates : List MapUpdate) (script : List Command) (size : ℕ) (noted : List Applied)
    (state : ControllerState) (pass : PassView) (next : ℕ) (who : Caller) (order order' : List Deed) → IsMoreBy who order order' →
    IsBegunAccount plan maps options updates script size noted state pass next order → IsBegunAccount plan maps options updates script size noted state pass next order'
begun_grown plan maps options updates script size noted state pass next who order order' more was = record {
  account = was.account;
  late = λ up. grown_first who (first_deeds maps options updates (take (first_commands script) was.account.done)) order order' more (was.late up);
}

-- nothing was done but by the controller, whose account has just the first commands
pub begins_now : (plan : ℕ → ShardPlan) (maps : List MapDef) (options : Options) (updates : List MapUpdate) (script : List Command) (size : ℕ) (noted : List Applied)
    (state : ControllerState) (pass : PassView) (order : List Deed) (account : IsScriptAccount plan maps options updates script size noted state pass) →
    first_commands script ≡ length account.done → AreControllers order → pass.deeds ≡ deeds_of (ByCaller Controller) order →
    AreFirst (first_deeds maps options updates (take (first_commands script) account.done)) order
begins_now plan maps options updates script size noted state pass order account many alone did = (
  [],
  sym (all_controllers order alone) ∙ sym did ∙ account.did
      ∙ ap (λ (done : List CommandDone). first_deeds maps options updates done) (sym (take_whole (first_commands script) account.done many)),
)

-- one command more
pub begun_more : (plan : ℕ → ShardPlan) (updates : List MapUpdate) (script : List Command) (size : ℕ) (noted : List Applied) (state state' : ControllerState)
    (before after : UpdatesView) (command : Command) (last : Applied) (next : ℕ) (order order' : List Deed) →
    (was : IsBegunAccount plan before.maps before.options updates script size noted state before.pass next order) → slice_get script last.command ≡ Some command →
    HasEffect plan state command.action last.fault state' before after → length was.account.done ≡ next → IsMoreBy Controller order order' →
    (next < first_commands script → AreControllers order') → after.pass.deeds ≡ deeds_of (ByCaller Controller) order' →
    IsBegunAccount plan after.maps after.options updates script size (noted ++ last ∷ []) state' after.pass (next + 1) order'
begun_more plan updates script size noted state state' before after command last next order order' was known effect many more alone did =
    let account : IsScriptAccount plan after.maps after.options updates script size (noted ++ last ∷ []) state' after.pass =
    account_more plan updates script size noted state state' before after command last was.account known effect in
    let is : account.done ≡ was.account.done ++ effect.one ∷ [] =
    account_done plan updates script size noted state state' before after command last was.account known effect in
    let n : ℕ = first_commands script in record {
      account = account;
      late = λ up. ⊎_elim
          (λ (now : n ≡ next + 1). begins_now plan after.maps after.options updates script size (noted ++ last ∷ []) state' after.pass order' account
          (let long = ap (λ (done : List CommandDone). length done) is ∙ length-append was.account.done (effect.one ∷ []) in omega (arith, now, many, long)) (alone (omega (arith, now))) did)
          (λ earlier.
          let few : n ≤ next = omega (arith, earlier, up) in
          subst (λ (first : List Deed). AreFirst first order')
          (ap (λ (m : List MapDef). first_deeds m before.options updates (take n was.account.done)) (sym effect.moved.maps)
          ∙ ap (λ (o : Options). first_deeds after.maps o updates (take n was.account.done)) (sym effect.moved.options)
          ∙ ap (λ (done : List CommandDone). first_deeds after.maps after.options updates done)
          (sym (ap (λ (done : List CommandDone). take n done) is ∙ take_less n was.account.done (effect.one ∷ []) (omega (arith, few, many)))))
          (grown_first Controller (first_deeds before.maps before.options updates (take n was.account.done)) order order' more (was.late few)))
          (cases_eq n (next + 1));
    }

-- ---- the same, with what the commands did

pub record IsBegunWith (plan : ℕ → ShardPlan) (maps : List MapDef) (options : Options) (updates : List MapUpdate) (script : List Command) (size : ℕ)
    (noted : List Applied) (state : ControllerState) (pass : PassView) (next : ℕ) (order : List Deed) (done : List CommandDone) : Type 0 where
  pub begun : IsBegunAccount plan maps options updates script size noted state pass next order
  pub same : begun.account.done ≡ done

pub with_grown : (plan : ℕ → ShardPlan) (maps : List MapDef) (options : Options) (updates : List MapUpdate) (script : List Command) (size : ℕ) (noted : List Applied)
    (state : ControllerState) (pass : PassView) (next : ℕ) (who : Caller) (order order' : List Deed) (done : List CommandDone) → IsMoreBy who order order' →
    IsBegunWith plan maps options updates script size noted state pass next order done →
    IsBegunWith plan maps options updates script size noted state pass next order' done
unfolding begun_grown
with_grown plan maps options updates script size noted state pass next who order order' done more was = record {
  begun = begun_grown plan maps options updates script size noted state pass next who order order' more was.begun;
  same = was.same;
}

pub with_more : (plan : ℕ → ShardPlan) (updates : List MapUpdate) (script : List Command) (size : ℕ) (noted : List Applied) (state state' : ControllerState)
    (before after : UpdatesView) (command : Command) (last : Applied) (next : ℕ) (order order' : List Deed) (done : List CommandDone) →
    (was : IsBegunWith plan before.maps before.options updates script size noted state before.pass next order done) →
    slice_get script last.command ≡ Some command → (effect : HasEffect plan state command.action last.fault state' before after) →
    length was.begun.account.done ≡ next → IsMoreBy Controller order order' → (next < first_commands script → AreControllers order') →
    after.pass.deeds ≡ deeds_of (ByCaller Controller) order' →
    IsBegunWith plan after.maps after.options updates script size (noted ++ last ∷ []) state' after.pass (next + 1) order' (done ++ effect.one ∷ [])
unfolding begun_more
with_more plan updates script size noted state state' before after command last next order order' done was known effect many more alone did = record {
  begun = begun_more plan updates script size noted state state' before after command last next order order' was.begun known effect many more alone did;
  same = account_done plan updates script size noted state state' before after command last was.begun.account known effect
      ∙ ap (λ (list : List CommandDone). list ++ effect.one ∷ []) was.same;
}
