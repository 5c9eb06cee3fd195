-- What a call on the shard that a seat has makes of the seat.
use Rattle.std.proofs.Common.{◌≡◌, ℕ, ◌∷◌, List, true, reverse, refl, sym, ap, ◌∙◌, subst}
use Rattle.std.specs.Prelude.{Result, IfOk, OnErr}
use Rattle.atomic_table.specs.Table.{rest}
use Rattle.atomic_table.specs.declared.shared.Seat.{Seat}
use Rattle.semantics.specs.declared.call.Caller.{Caller}
use Rattle.semantics.specs.declared.call.Call.{Call}
use Rattle.semantics.specs.declared.call.Reply.{Reply}
use Rattle.semantics.specs.declared.call.Entry.{Entry}
use Rattle.semantics.specs.declared.full.JournalFull.{JournalFull}
use Rattle.semantics.specs.CallerLaws.{own_entries}
use Rattle.semantics.specs.History.{Meets, IsLegalHistory, IsJournalFull, entry_of}
use Rattle.shard_core.specs.FewHeld.{FewAreHeld}
use Rattle.shards.specs.GuardedShards.{HasCalled}
use Rattle.shards.specs.GuardedView.{KeyedPlan, GuardedView}
use Rattle.shards.specs.declared.rule.Known.{Known}
use Rattle.shards.specs.Seats.{IsHolding, has_shard, view_of}
use Rattle.shards.proofs.Holding.{Lent, lent, grows, when_refused}

-- the seat, with the shard as it is now
abbrev pub seat_with : Seat GuardedView Known → GuardedView → Seat GuardedView Known
seat_with seat shard = record { marker = seat.marker; table_id = seat.table_id; id = seat.id; me = (seat.me.0, (0, shard) ∷ rest seat.me.1) }

-- the seat has the shard as before, with the call's entry, or as it was where the journal was full
pub record HasAdded {A : Type 0} (who : Caller) (asks : ℕ → Call) (replies : ℕ → A → Reply) (before after : Seat GuardedView Known) (answer : Result A JournalFull) : Type 0 where
  pub taken : has_shard after.me ≡ true
  pub same : after.me.0 ≡ before.me.0
  pub holding : IsHolding after.me.0 after.me.1
  pub next : IfOk answer (λ a. (view_of after.me).seen ≡ entry_of who (asks before.me.0.key.plan.number) (replies before.me.0.key.plan.number a) ∷ (view_of before.me).seen)
  pub full : OnErr answer (IsJournalFull before.me.0.key.plan (view_of before.me).seen (asks before.me.0.key.plan.number))
  pub unchanged : OnErr answer (after ≡ before)
  pub legal : IsLegalHistory before.me.0.key.plan (view_of after.me).seen
  pub few : FewAreHeld before.me.0.key.plan (view_of after.me).seen

module _ (seat : Seat GuardedView Known) (shard : GuardedView) (has : seat.me.1 ≡ (0, shard) ∷ rest seat.me.1) (holding : IsHolding seat.me.0 seat.me.1) where
  lends : Lent seat.me.0 seat.me.1 shard
  lends = lent seat.me.0 seat.me.1 shard has holding

  pub lent_key : shard.key ≡ seat.me.0.key
  lent_key = lends.planned

  module _ (who : Caller) (asks : ℕ → Call) (by : seat.me.0.who ≡ who) where
    pub lent_met : Meets seat.me.0.key.plan (view_of seat.me).own who (asks seat.me.0.key.plan.number) → Meets shard.key.plan (own_entries who (reverse shard.journal)) who (asks shard.key.plan.number)
    lent_met met = subst (λ (x : KeyedPlan × List Entry). Meets x.0.plan x.1 who (asks x.0.plan.number))
        (λ i. (sym lends.planned i, (lends.own ∙ ap (λ (w : Caller). own_entries w (reverse shard.journal)) by) i)) met

    pub added : {A : Type 0} (replies : ℕ → A → Reply) (after : GuardedView) → seat.me.0.acts ≡ true → (answer : Result A JournalFull) →
        HasCalled who (asks shard.key.plan.number) (replies shard.key.plan.number) shard after answer → HasAdded who asks replies seat (seat_with seat after) answer
    added replies after acts answer called = record {
      taken = refl;
      same = refl;
      holding = grows seat.me.0 seat.me.1 shard after who (asks shard.key.plan.number) (replies shard.key.plan.number) acts by has holding called.key answer called.next called.unchanged;
      next = subst (λ (x : KeyedPlan × List Entry). IfOk answer (λ a. reverse after.journal ≡ entry_of who (asks x.0.plan.number) (replies x.0.plan.number a) ∷ x.1)) (λ i. (lends.planned i, sym lends.seen i)) called.next;
      full = subst (λ (x : KeyedPlan × List Entry). OnErr answer (IsJournalFull x.0.plan x.1 (asks x.0.plan.number))) (λ i. (lends.planned i, sym lends.seen i)) called.full;
      unchanged = when_refused answer (λ same. ap (seat_with seat) same ∙ ap (λ l. record { marker = seat.marker; table_id = seat.table_id; id = seat.id; me = (seat.me.0, l) }) (sym has)) called.unchanged;
      legal = subst (λ (k : KeyedPlan). IsLegalHistory k.plan (reverse after.journal)) lends.planned called.legal;
      few = subst (λ (k : KeyedPlan). FewAreHeld k.plan (reverse after.journal)) lends.planned called.few;
    }
