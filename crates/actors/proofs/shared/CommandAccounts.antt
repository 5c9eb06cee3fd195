-- The account of a script, and one command more.
use Rattle.std.proofs.Common.{◌≡◌, ℕ, List, [], ◌∷◌, ◌++◌, refl, sym, ap, ◌∙◌, subst, append_assoc}
use Rattle.std.specs.Prelude.{Option, Some, None, IfSome, slice_get, reverse}
use Rattle.std.specs.List.{AllByRecursion}
use Rattle.std.proofs.lemmas.List.{append-nil, reverse-append}
use Rattle.ebpf_decode.specs.declared.map.MapDef.{MapDef}
use Rattle.semantics.specs.declared.call.Caller.TheVariants.{Controller}
use Rattle.semantics.specs.declared.options.Options.{Options}
use Rattle.semantics.specs.declared.plan.ShardPlan.{ShardPlan}
use Rattle.semantics.specs.History.{IsJournalFull}
use Rattle.shards.specs.declared.deeds.Deed.{Deed}
use Rattle.shards.specs.Passes.{PassView, own_at, seen_at}
use Rattle.map_updates.specs.declared.update.MapUpdate.{MapUpdate}
use Rattle.control.specs.declared.command.Command.{Command}
use Rattle.control.specs.MapUpdates.{UpdateBytes}
use Rattle.control.specs.Controlling.{ControllerState, opened_controller}
use Rattle.actors.specs.declared.outcome.Applied.{Applied}
use Rattle.actors.specs.SharedUpdates.{UpdatesView, shard_of, controller_update}
use Rattle.actors.specs.Commands.{CommandDone, IsCommandDone, AreDone, IsNotedOf, AreNotedOf, all_set, made_in, with_updates, made_deeds, command_deeds, commands_deeds, IsShardFullForUpdate, IsMoved, HasEffect, HasSet, IsScriptAccount, IsScriptAccountBehind, CommanderView, HasAccountBehind, OfEachAccount, IsCommander, ServesScript}
use Rattle.actors.specs.ActorJobs.{IsActorAccounted}
use Rattle.actors.proofs.shared.Moving.{with_updates_more}
use Rattle.actors.proofs.shared.FullStays.{full_stays}

noted_more : (script : List Command) (noted : List Applied) (done : List CommandDone) (one : CommandDone) (last : Applied) →
    AreNotedOf script noted done → IsNotedOf script last one → AreNotedOf script (noted ++ last ∷ []) (done ++ one ∷ [])
noted_more script [] [] one last are is = (is, tt)
noted_more script [] (first ∷ done) one last are is = absurd are
noted_more script (first ∷ noted) [] one last are is = absurd are
noted_more script (first ∷ noted) (other ∷ done) one last (known, are) is = (known, noted_more script noted done one last are is)

done_more : (done : List CommandDone) (one : CommandDone) (first state state' : ControllerState) → AreDone first done state → IsCommandDone state one state' →
    AreDone first (done ++ one ∷ []) state'
done_more [] one first state state' are is = (state', subst (λ start. IsCommandDone start one state') (sym are) is, refl)
done_more (other ∷ done) one first state state' (middle, did, are) is = (middle, did, done_more done one middle state state' are is)

made_more : (done : List CommandDone) (one : CommandDone) → made_in (done ++ one ∷ []) ≡ made_in done ++ one.made
made_more [] one = append-nil one.made
made_more (first ∷ done) one = ap (λ rest. first.made ++ rest) (made_more done one) ∙ sym (append_assoc first.made (made_in done) one.made)

full_later : (plan : ℕ → ShardPlan) (before after : UpdatesView) (one : CommandDone) → IsMoved before after one.made → (stopped : Option UpdateBytes) →
    IfSome stopped (IsShardFullForUpdate plan before.maps before.options before.pass) → IfSome stopped (IsShardFullForUpdate plan after.maps after.options after.pass)
full_later plan before after one moved None full = tt
full_later plan before after one moved (Some update) full =
    let number : ℕ = shard_of before.maps before.options update in
    let grown = moved.grows number in
    let now : IsShardFullForUpdate plan before.maps before.options after.pass update = record {
      of_map = full.of_map;
      full = subst (λ seen. IsJournalFull (plan number) seen (controller_update number update)) (sym grown.1)
          (full_stays (plan number) grown.0 (seen_at before.pass number) (controller_update number update) full.full);
    } in
    subst (λ options. IsShardFullForUpdate plan after.maps options after.pass update) (sym moved.options)
    (subst (λ maps. IsShardFullForUpdate plan maps before.options after.pass update) (sym moved.maps) now)

all_full_later : (plan : ℕ → ShardPlan) (before after : UpdatesView) (one : CommandDone) (done : List CommandDone) → IsMoved before after one.made →
    AllByRecursion (λ (other : CommandDone). IfSome other.stopped (IsShardFullForUpdate plan before.maps before.options before.pass)) done →
    IfSome one.stopped (IsShardFullForUpdate plan after.maps after.options after.pass) →
    AllByRecursion (λ (other : CommandDone). IfSome other.stopped (IsShardFullForUpdate plan after.maps after.options after.pass)) (done ++ one ∷ [])
all_full_later plan before after one [] moved full last = (last, tt)
all_full_later plan before after one (other ∷ done) moved (here, full) last =
    (full_later plan before after one moved other.stopped here, all_full_later plan before after one done moved full last)

-- the fullness of the last command, in the port's own words
last_full : (plan : ℕ → ShardPlan) (before after : UpdatesView) (one : CommandDone) → IsMoved before after one.made → (stopped : Option UpdateBytes) →
    IfSome stopped (IsShardFullForUpdate plan before.maps before.options after.pass) → IfSome stopped (IsShardFullForUpdate plan after.maps after.options after.pass)
last_full plan before after one moved None full = tt
last_full plan before after one moved (Some update) full =
    subst (λ options. IsShardFullForUpdate plan after.maps options after.pass update) (sym moved.options)
    (subst (λ maps. IsShardFullForUpdate plan maps before.options after.pass update) (sym moved.maps) full)

own_more : (maps : List MapDef) (options : Options) (before after : UpdatesView) (updates : List MapUpdate) (done : List CommandDone) (one : CommandDone) →
    before.maps ≡ maps → before.options ≡ options → IsMoved before after one.made →
    ((number : ℕ) → own_at before.pass number ≡ with_updates maps options number (all_set updates ++ made_in done) []) → (number : ℕ) →
    own_at after.pass number ≡ with_updates maps options number (all_set updates ++ made_in (done ++ one ∷ [])) []
own_more maps options before after updates done one same_maps same_options moved own number =
    moved.own number ∙ ap (λ m. with_updates m before.options number one.made (own_at before.pass number)) same_maps
    ∙ ap (λ o. with_updates maps o number one.made (own_at before.pass number)) same_options
    ∙ ap (λ history. with_updates maps options number one.made history) (own number)
    ∙ sym (with_updates_more maps options number (all_set updates ++ made_in done) one.made [])
    ∙ ap (λ made. with_updates maps options number made [])
    (append_assoc (all_set updates) (made_in done) one.made ∙ ap (λ rest. all_set updates ++ rest) (sym (made_more done one)))

commands_more : (maps : List MapDef) (options : Options) (done : List CommandDone) (one : CommandDone) →
    commands_deeds maps options (done ++ one ∷ []) ≡ commands_deeds maps options done ++ command_deeds maps options one
commands_more maps options [] one = append-nil (command_deeds maps options one)
commands_more maps options (first ∷ done) one =
    ap (λ rest. command_deeds maps options first ++ rest) (commands_more maps options done one)
    ∙ sym (append_assoc (command_deeds maps options first) (commands_deeds maps options done) (command_deeds maps options one))

account_did : (maps : List MapDef) (options : Options) (before after first : List Deed) (done : List CommandDone) (one : CommandDone) →
    before ≡ reverse (first ++ commands_deeds maps options done) → after ≡ reverse (command_deeds maps options one) ++ before →
    after ≡ reverse (first ++ commands_deeds maps options (done ++ one ∷ []))
account_did maps options before after first done one were did =
    did ∙ ap (λ deeds. reverse (command_deeds maps options one) ++ deeds) were
    ∙ sym (reverse-append (first ++ commands_deeds maps options done) (command_deeds maps options one))
    ∙ ap reverse (append_assoc first (commands_deeds maps options done) (command_deeds maps options one)
    ∙ ap (λ rest. first ++ rest) (sym (commands_more maps options done one)))

pub account_more : (plan : ℕ → ShardPlan) (updates : List MapUpdate) (script : List Command) (size : ℕ) (noted : List Applied) (state state' : ControllerState)
    (before after : UpdatesView) (command : Command) (last : Applied) →
    IsScriptAccount plan before.maps before.options updates script size noted state before.pass → slice_get script last.command ≡ Some command →
    HasEffect plan state command.action last.fault state' before after →
    IsScriptAccount plan after.maps after.options updates script size (noted ++ last ∷ []) state' after.pass
account_more plan updates script size noted state state' before after command last account known effect =
    let one : CommandDone = effect.one in
    record {
      done = account.done ++ one ∷ [];
      are_noted = noted_more script noted account.done one last account.are_noted
          (record { command = command; known = known; action = effect.action_is; fault = effect.fault_is });
      are_done = done_more account.done one (opened_controller size) state state' account.are_done effect.done;
      own = own_more after.maps after.options before after updates account.done one (sym effect.moved.maps) (sym effect.moved.options) effect.moved
          (λ number. account.own number ∙ ap (λ m. with_updates m before.options number (all_set updates ++ made_in account.done) []) (sym effect.moved.maps)
          ∙ ap (λ o. with_updates after.maps o number (all_set updates ++ made_in account.done) []) (sym effect.moved.options));
      full = all_full_later plan before after one account.done effect.moved account.full (last_full plan before after one effect.moved one.stopped effect.full);
      did = account_did before.maps before.options before.pass.deeds after.pass.deeds (made_deeds before.maps before.options (all_set updates)) account.done one
          account.did effect.did
          ∙ ap (λ m. reverse (made_deeds m before.options (all_set updates) ++ commands_deeds m before.options (account.done ++ one ∷ []))) (sym effect.moved.maps)
          ∙ ap (λ o. reverse (made_deeds after.maps o (all_set updates) ++ commands_deeds after.maps o (account.done ++ one ∷ []))) (sym effect.moved.options);
    }

pub account_of_nothing : (plan : ℕ → ShardPlan) (maps : List MapDef) (options : Options) (updates : List MapUpdate) (script : List Command) (size : ℕ)
    (pass : PassView) → HasSet maps options updates pass → IsScriptAccount plan maps options updates script size [] (opened_controller size) pass
account_of_nothing plan maps options updates script size pass set = record {
  done = [];
  are_noted = tt;
  are_done = refl;
  own = λ number. set.own number ∙ ap (λ made. with_updates maps options number made []) (sym (append-nil (all_set updates)));
  full = tt;
  did = set.did ∙ ap reverse (sym (append-nil (made_deeds maps options (all_set updates))));
}

-- ---- the actor

-- before its first command
pub commander_of_nothing : (plan : ℕ → ShardPlan) (updates : List MapUpdate) (script : List Command) (noted : List Applied) (size : ℕ)
    (state : ControllerState) (port : UpdatesView) → HasSet port.maps port.options updates port.pass → port.pass.who ≡ Controller →
    ServesScript port.maps size script → noted ≡ [] → state ≡ opened_controller size → IsCommander plan updates script noted state port
commander_of_nothing plan updates script noted size state port set who serves none opened =
    subst (λ (one : ControllerState). IsCommander plan updates script noted one port) (sym opened)
    (subst (λ (all : List Applied). IsCommander plan updates script all (opened_controller size) port) (sym none) (record {
      account = account_of_nothing plan port.maps port.options updates script size port.pass set;
      serves = serves;
      who = who;
    }))

pub commander_more : (plan : ℕ → ShardPlan) (updates : List MapUpdate) (script : List Command) (noted noted' : List Applied) (state state' : ControllerState)
    (before after : UpdatesView) (command : Command) (last : Applied) → IsCommander plan updates script noted state before → noted' ≡ noted ++ last ∷ [] →
    slice_get script last.command ≡ Some command → HasEffect plan state command.action last.fault state' before after → state'.size ≡ state.size →
    IsCommander plan updates script noted' state' after
commander_more plan updates script noted noted' state state' before after command last was is known effect size =
    let account : IsScriptAccount plan after.maps after.options updates script state.size (noted ++ last ∷ []) state' after.pass =
    account_more plan updates script state.size noted state state' before after command last was.account known effect in
    record {
      account = subst (λ n. IsScriptAccount plan after.maps after.options updates script n noted' state' after.pass) (sym size)
          (subst (λ all. IsScriptAccount plan after.maps after.options updates script state.size all state' after.pass) (sym is) account);
      serves = subst (λ maps. ServesScript maps state'.size script) (sym effect.moved.maps)
          (subst (λ n. ServesScript before.maps n script) (sym size) was.serves);
      who = effect.moved.who;
    }

-- ---- an account that goes on from another

pub account_done : (plan : ℕ → ShardPlan) (updates : List MapUpdate) (script : List Command) (size : ℕ) (noted : List Applied) (state state' : ControllerState)
    (before after : UpdatesView) (command : Command) (last : Applied) →
    (account : IsScriptAccount plan before.maps before.options updates script size noted state before.pass) → (known : slice_get script last.command ≡ Some command) →
    (effect : HasEffect plan state command.action last.fault state' before after) →
    (account_more plan updates script size noted state state' before after command last account known effect).done ≡ account.done ++ effect.one ∷ []
unfolding account_more
account_done plan updates script size noted state state' before after command last account known effect = refl

account_behind : (plan : ℕ → ShardPlan) (updates : List MapUpdate) (script : List Command) (size : ℕ) (noted : List Applied) (state state' : ControllerState)
    (before after : UpdatesView) (command : Command) (last : Applied) →
    (account : IsScriptAccount plan before.maps before.options updates script size noted state before.pass) → slice_get script last.command ≡ Some command →
    HasEffect plan state command.action last.fault state' before after →
    IsScriptAccountBehind plan after.maps after.options updates script size (noted ++ last ∷ []) state' after.pass account.done
unfolding account_more
account_behind plan updates script size noted state state' before after command last account known effect = record {
  account = account_more plan updates script size noted state state' before after command last account known effect;
  later = effect.one ∷ [];
  goes_on = refl;
}

-- one command more goes on from what was before it
pub commander_behind : (plan : ℕ → ShardPlan) (updates : List MapUpdate) (script : List Command) (noted noted' : List Applied) (state state' : ControllerState)
    (before after : UpdatesView) (command : Command) (last : Applied) → noted' ≡ noted ++ last ∷ [] → slice_get script last.command ≡ Some command →
    HasEffect plan state command.action last.fault state' before after → state'.size ≡ state.size →
    OfEachAccount plan (record { updates = updates; script = script; noted = noted; controller = state; port = before })
    (HasAccountBehind plan (record { updates = updates; script = script; noted = noted'; controller = state'; port = after }))
commander_behind plan updates script noted noted' state state' before after command last is known effect size account =
    subst (λ n. IsScriptAccountBehind plan after.maps after.options updates script n noted' state' after.pass account.done) (sym size)
    (subst (λ all. IsScriptAccountBehind plan after.maps after.options updates script state.size all state' after.pass account.done) (sym is)
    (account_behind plan updates script state.size noted state state' before after command last account known effect))

pub behind_nothing : (plan : ℕ → ShardPlan) (start : CommanderView) → OfEachAccount plan start (HasAccountBehind plan start)
behind_nothing plan start account = record { account = account; later = []; goes_on = sym (append-nil account.done) }

pub behind_more : (plan : ℕ → ShardPlan) (start middle after : CommanderView) → OfEachAccount plan start (HasAccountBehind plan middle) →
    OfEachAccount plan middle (HasAccountBehind plan after) → OfEachAccount plan start (HasAccountBehind plan after)
behind_more plan start middle after first more account =
    let was = first account in
    let now = more was.account in record {
      account = now.account;
      later = was.later ++ now.later;
      goes_on = now.goes_on ∙ ap (λ (done : List CommandDone). done ++ now.later) was.goes_on ∙ append_assoc account.done was.later now.later;
    }

-- what the controller gives back at the end
pub actor_accounted : (plan : ℕ → ShardPlan) (start view : CommanderView) (noted : List Applied) (pass : PassView) → view.port.maps ≡ start.port.maps →
    view.port.options ≡ start.port.options → view.updates ≡ start.updates → view.script ≡ start.script → view.controller.size ≡ start.controller.size →
    noted ≡ view.noted → pass ≡ view.port.pass → OfEachAccount plan start (HasAccountBehind plan view) → IsActorAccounted plan start noted pass
actor_accounted plan start view noted pass maps options updates script size noted_is pass_is accounts = record {
  state = view.controller;
  account = λ begun.
      let one = subst (λ p. IsScriptAccountBehind plan view.port.maps view.port.options view.updates view.script view.controller.size view.noted view.controller p begun.done)
      (sym pass_is) (accounts begun) in
      let two = subst (λ n. IsScriptAccountBehind plan view.port.maps view.port.options view.updates view.script view.controller.size n view.controller pass begun.done)
      (sym noted_is) one in
      let three = subst (λ m. IsScriptAccountBehind plan m view.port.options view.updates view.script view.controller.size noted view.controller pass begun.done) maps two in
      let four = subst (λ o. IsScriptAccountBehind plan start.port.maps o view.updates view.script view.controller.size noted view.controller pass begun.done) options three in
      let five = subst (λ u. IsScriptAccountBehind plan start.port.maps start.port.options u view.script view.controller.size noted view.controller pass begun.done) updates four in
      let six = subst (λ s. IsScriptAccountBehind plan start.port.maps start.port.options start.updates s view.controller.size noted view.controller pass begun.done) script five in
      subst (λ n. IsScriptAccountBehind plan start.port.maps start.port.options start.updates start.script n noted view.controller pass begun.done) size six;
}
