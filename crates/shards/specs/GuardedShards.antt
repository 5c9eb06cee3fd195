-- A shard in its slot, with its seat at the order.
use Rattle.std.specs.Prelude.{◌≡◌, List, [], ◌∷◌, reverse, Result, IfOk, IfErr, OnErr}
use Rattle.atomic_table.specs.declared.badge.Badge.{Badge}
use Rattle.semantics.specs.declared.call.Call.{Call}
use Rattle.semantics.specs.declared.call.Caller.{Caller}
use Rattle.semantics.specs.declared.call.Reply.{Reply}
use Rattle.semantics.specs.declared.full.JournalFull.{JournalFull}
use Rattle.semantics.specs.History.{IsLegalHistory, IsJournalFull, entry_of}
use Rattle.shard_core.specs.FewHeld.{FewAreHeld}
use Rattle.shard_core.specs.JournaledShard.{JournaledShard}
use Rattle.shards.specs.GuardedView.{GuardedView}
use Rattle.shards.specs.declared.deeds.Account.{Account}
use Rattle.shards.specs.declared.deeds.OrderPart.TheVariants.{OnShard}
use Rattle.shards.specs.Deeds.{entries_made}
use Rattle.shards.specs.OrderRule.{account, deeds_at}

-- the seat has the shard's account, and the entries of its deeds are the journal
pub record IsGuardedShard (shard : JournaledShard) (place : Badge (List Account)) : Type 0 where
  pub noted : place.views ≡ (account (OnShard shard.plan.number) (deeds_at place) ∷ []) ∷ []
  pub written : entries_made (deeds_at place) ≡ reverse shard.journal

-- the journal has the call's entry, or was full for it and is as it was; either way it is legal, and few cells are held
pub record HasCalled {A : Type 0} (who : Caller) (call : Call) (replies : A → Reply) (before after : GuardedView)
    (result : Result A JournalFull) : Type 0 where
  pub key : after.key ≡ before.key
  pub next : IfOk result (λ answer. reverse after.journal ≡ entry_of who call (replies answer) ∷ reverse before.journal)
  pub full : OnErr result (IsJournalFull before.key.plan (reverse before.journal) call)
  pub unchanged : OnErr result (after ≡ before)
  pub legal : IsLegalHistory before.key.plan (reverse after.journal)
  pub few : FewAreHeld before.key.plan (reverse after.journal)
  pub names_the_shard : IfErr result (λ fault. fault.shard ≡ before.key.plan.number)
