-- A round of the reclaimer over the shards of one thread, as one of its pass.
use Rattle.std.proofs.Common.{◌≡◌, ℕ, zero, suc, ◌+◌, ◌<◌, ◌≤◌, Bool, true, false, List, [], ◌∷◌, ◌++◌, length, reverse, refl, sym, ap, ◌∙◌, subst, arith, inl, inr}
use Rattle.std.specs.Prelude.{Some, slice_get, slice_set}
use Rattle.std.proofs.lemmas.List.{reverse-append}
use Rattle.ebpf_decode.specs.declared.map.MapKind.{MapKind}
use Rattle.semantics.specs.declared.call.Caller.{Caller}
use Rattle.semantics.specs.declared.call.Caller.TheVariants.{Reclaimer}
use Rattle.semantics.specs.declared.call.Call.TheVariants.{Reclaim}
use Rattle.semantics.specs.declared.call.Reply.TheVariants.{Freed}
use Rattle.semantics.specs.declared.call.Entry.{Entry}
use Rattle.semantics.specs.declared.plan.ShardPlan.{ShardPlan}
use Rattle.semantics.specs.CallerLaws.{own_entries}
use Rattle.semantics.specs.History.{IsLegalHistory, IsJournalFull, entry_of}
use Rattle.shard_core.specs.JournaledShard.{JournaledShard}
use Rattle.shards.specs.CallerView.{BeginsWith, ViewIsServed}
use Rattle.shards.specs.NewShards.{shard_at}
use Rattle.shards.specs.declared.deeds.Deed.{Deed}
use Rattle.shards.specs.declared.deeds.Deed.TheVariants.{Wrote, MetFull}
use Rattle.shards.specs.Deeds.{made_on}
use Rattle.shards.specs.Passes.{PassView, view_at, own_at, seen_at, IsElsewhereSame}
use Rattle.actors.specs.Rounds.{AreReclaimed, HasMadeRound, IsReclaimAsked, HasAsked}
use Rattle.semantics.specs.Replay.{is_keyed}
use Rattle.replay.specs.InTurn.{IsAskedInTurn, IsReclaimedInTurn, IsPartOfRound, IsRoundTo}
use Rattle.actors.proofs.shared.RoundLemmas.{IsInRound, IsPartDone, keyed_turn, array_turn, same_elsewhere, next_turn, first_turn, all_turns, keyed_did, array_did, first_part, next_part, round_done}
use Rattle.replay.proofs.TurnDeeds.{Stands, IsMoreBy, AreBy, pass_after, own_of_maker, made_here, no_more, more_by, more_on, elsewhere_same, own_here, seen_here, stands_after, one_of}

one_over : (n : ℕ) → suc n ≡ n + 1
one_over n = omega arith

module _ (plan : ℕ → ShardPlan) (count : ℕ) (numbered : (number : ℕ) → number < count → (plan number).number ≡ number) where
  -- ---- one shard

  record IsAskedByPass (number : ℕ) (order : List Deed) (pass : PassView) (after : List JournaledShard) : Type 0 where
    order' : List Deed
    pass' : PassView
    more : IsMoreBy Reclaimer order order'
    stands : Stands plan count Reclaimer order' after pass'
    elsewhere : IsElsewhereSame number pass pass'
    asked : IsReclaimAsked (plan number) number pass pass'
    did : HasAsked number pass pass'

  served_step : (number : ℕ) (order : List Deed) (shards : List JournaledShard) (pass : PassView) (one : JournaledShard) (freed : ℕ) →
      Stands plan count Reclaimer order shards pass → slice_get shards number ≡ Some one →
      IsLegalHistory one.plan (reverse (one.journal ++ entry_of Reclaimer (Reclaim one.plan.number) (Freed freed) ∷ [])) →
      IsAskedByPass number order pass (slice_set shards number (record {
        plan = one.plan;
        journal = one.journal ++ entry_of Reclaimer (Reclaim one.plan.number) (Freed freed) ∷ [];
      }))
  served_step number order shards pass one freed stands known is_legal =
      let is = one_of plan count number order shards one stands.left known in
      let same_number : one.plan.number ≡ number = ap (λ (p : ShardPlan). p.number) is.planned ∙ numbered number is.within in
      let entry : Entry = entry_of Reclaimer (Reclaim number) (Freed freed) in
      let asked : Entry = entry_of Reclaimer (Reclaim one.plan.number) (Freed freed) in
      let deeds : List Deed = Wrote entry ∷ [] in
      let are : AreBy Reclaimer number deeds = (record { caller = refl; shard = refl }, tt) in
      let room : number < length pass.views = subst (λ (n : ℕ). number < n) (sym stands.mine.sized) is.within in
      let newest : made_on number (deeds ++ order) ≡ entry ∷ made_on number order = made_here number entry order refl in
      let new : JournaledShard = record { plan = one.plan; journal = one.journal ++ asked ∷ [] } in
      let written : reverse new.journal ≡ made_on number (deeds ++ order) =
      reverse-append one.journal (asked ∷ [])
      ∙ ap (λ (n : ℕ). entry_of Reclaimer (Reclaim n) (Freed freed) ∷ reverse one.journal) same_number
      ∙ ap (λ (history : List Entry). entry ∷ history) is.written ∙ sym newest in
      let legal : IsLegalHistory (plan number) (made_on number (deeds ++ order)) =
      subst (λ (p : ShardPlan). IsLegalHistory p (made_on number (deeds ++ order))) is.planned (subst (IsLegalHistory one.plan) written is_legal) in
      let seen = seen_here number deeds order pass room in
      let served : ViewIsServed (plan number) (view_at pass number) (view_at (pass_after number deeds order pass) number) entry = record {
        earlier = made_on number order;
        seen = seen ∙ newest;
        begins = stands.mine.begins number is.within;
        legal = subst (IsLegalHistory (plan number)) (sym seen) legal;
        own = own_here Reclaimer number deeds order pass stands.mine.caller room ∙ ap (own_entries Reclaimer) newest
            ∙ own_of_maker entry (made_on number order) ∙ ap (λ (history : List Entry). entry ∷ history) (sym (stands.mine.own number is.within));
      } in
      record {
        order' = deeds ++ order;
        pass' = pass_after number deeds order pass;
        more = more_by Reclaimer number deeds order are;
        stands = stands_after plan count Reclaimer number deeds order shards new pass are is.within is.planned written legal (tt, stands.sound.met) stands;
        elsewhere = elsewhere_same number deeds order pass;
        asked = inl (
          freed,
          subst (λ (who : Caller). ViewIsServed (plan number) (view_at pass number) (view_at (pass_after number deeds order pass) number)
              (entry_of who (Reclaim number) (Freed freed))) (sym stands.mine.caller) served,
        );
        did = (Wrote entry, inl (freed, refl), refl);
      }

  full_step : (number : ℕ) (order : List Deed) (shards : List JournaledShard) (pass : PassView) (one : JournaledShard) →
      Stands plan count Reclaimer order shards pass → slice_get shards number ≡ Some one →
      IsJournalFull one.plan (reverse one.journal) (Reclaim one.plan.number) → IsAskedByPass number order pass (slice_set shards number one)
  full_step number order shards pass one stands known is_full =
      let is = one_of plan count number order shards one stands.left known in
      let same_number : one.plan.number ≡ number = ap (λ (p : ShardPlan). p.number) is.planned ∙ numbered number is.within in
      let deeds : List Deed = MetFull Reclaimer (Reclaim number) ∷ [] in
      let are : AreBy Reclaimer number deeds = (record { caller = refl; shard = refl }, tt) in
      let room : number < length pass.views = subst (λ (n : ℕ). number < n) (sym stands.mine.sized) is.within in
      let full : IsJournalFull (plan number) (made_on number order) (Reclaim number) =
      subst (λ (n : ℕ). IsJournalFull (plan number) (made_on number order) (Reclaim n)) same_number
      (subst (λ (history : List Entry). IsJournalFull (plan number) history (Reclaim one.plan.number)) is.written
      (subst (λ (p : ShardPlan). IsJournalFull p (reverse one.journal) (Reclaim one.plan.number)) is.planned is_full)) in
      let seen = seen_here number deeds order pass room in
      record {
        order' = deeds ++ order;
        pass' = pass_after number deeds order pass;
        more = more_by Reclaimer number deeds order are;
        stands = stands_after plan count Reclaimer number deeds order shards one pass are is.within is.planned is.written
            (stands.sound.legal number is.within) (full, stands.sound.met) stands;
        elsewhere = elsewhere_same number deeds order pass;
        asked = inr (record {
          begins = subst (λ (history : List Entry). BeginsWith history (seen_at pass number)) (sym seen) (stands.mine.begins number is.within);
          legal = subst (IsLegalHistory (plan number)) (sym seen) (stands.sound.legal number is.within);
          full = subst (λ (history : List Entry). IsJournalFull (plan number) history (Reclaim number)) (sym seen) full;
          own = own_here Reclaimer number deeds order pass stands.mine.caller room ∙ sym (stands.mine.own number is.within);
        });
        did = (MetFull Reclaimer (Reclaim number), inr refl, refl);
      }

  asked_step : (number : ℕ) (order : List Deed) (shards : List JournaledShard) (pass : PassView) (one new : JournaledShard) →
      Stands plan count Reclaimer order shards pass → slice_get shards number ≡ Some one → IsAskedInTurn one new →
      IsAskedByPass number order pass (slice_set shards number new)
  asked_step number order shards pass one new stands known (inl (freed, is, legal)) =
      subst (λ (shard : JournaledShard). IsAskedByPass number order pass (slice_set shards number shard)) (sym is)
      (served_step number order shards pass one freed stands known (subst (λ (shard : JournaledShard). IsLegalHistory one.plan (reverse shard.journal)) is legal))
  asked_step number order shards pass one new stands known (inr (full, same)) =
      subst (λ (shard : JournaledShard). IsAskedByPass number order pass (slice_set shards number shard)) (sym same)
      (full_step number order shards pass one stands known full)

  -- ---- shard after shard

  record IsRoundByPass (rounds number : ℕ) (order : List Deed) (pass : PassView) (after : List JournaledShard) : Type 0 where
    order' : List Deed
    pass' : PassView
    more : IsMoreBy Reclaimer order order'
    stands : Stands plan count Reclaimer order' after pass'
    in_round : IsInRound plan count rounds number pass'
    part : IsPartDone plan number pass.deeds pass'.deeds

  keyed_step : (rounds number : ℕ) (order : List Deed) (pass : PassView) (middle after : List JournaledShard) → number < count →
      is_keyed (plan number).definition.kind ≡ true → IsRoundByPass rounds number order pass middle → IsReclaimedInTurn number middle after →
      IsRoundByPass rounds (number + 1) order pass after
  keyed_step rounds number order pass middle after within keyed was turn =
      let kind : MapKind = (plan number).definition.kind in
      let one = asked_step number was.order' middle was.pass' turn.one turn.new was.stands turn.known turn.asked in
      record {
        order' = one.order';
        pass' = one.pass';
        more = more_on Reclaimer order was.order' one.order' was.more one.more;
        stands = subst (λ (shards : List JournaledShard). Stands plan count Reclaimer one.order' shards one.pass') (sym turn.written) one.stands;
        in_round = next_turn plan count rounds number was.pass' one.pass' was.in_round within one.elsewhere
            (λ before. keyed_turn kind (plan number) number rounds was.pass' one.pass' keyed was.stands.mine.caller one.asked before);
        part = next_part plan number pass.deeds was.pass' one.pass' was.part (keyed_did kind number was.pass' one.pass' keyed one.did);
      }

  array_step : (rounds number : ℕ) (order : List Deed) (pass : PassView) (middle after : List JournaledShard) → number < count →
      is_keyed (plan number).definition.kind ≡ false → IsRoundByPass rounds number order pass middle → after ≡ middle →
      IsRoundByPass rounds (number + 1) order pass after
  array_step rounds number order pass middle after within array was same =
      let kind : MapKind = (plan number).definition.kind in
      record {
        order' = was.order';
        pass' = was.pass';
        more = was.more;
        stands = subst (λ (shards : List JournaledShard). Stands plan count Reclaimer was.order' shards was.pass') (sym same) was.stands;
        in_round = next_turn plan count rounds number was.pass' was.pass' was.in_round within (same_elsewhere number was.pass')
            (λ before. array_turn kind (plan number) number rounds (own_at was.pass' number) (seen_at was.pass' number) array before);
        part = next_part plan number pass.deeds was.pass' was.pass' was.part (array_did kind number was.pass' array);
      }

  part_step : (rounds number : ℕ) (order : List Deed) (pass : PassView) (middle after : List JournaledShard) → number < count → (keyed : Bool) →
      is_keyed (plan number).definition.kind ≡ keyed → IsRoundByPass rounds number order pass middle → IsPartOfRound keyed number middle after →
      IsRoundByPass rounds (number + 1) order pass after
  part_step rounds number order pass middle after within true is was part = keyed_step rounds number order pass middle after within is was part
  part_step rounds number order pass middle after within false is was part = array_step rounds number order pass middle after within is was part

  round_to : (rounds : ℕ) (order : List Deed) (pass : PassView) (before : List JournaledShard) → Stands plan count Reclaimer order before pass →
      AreReclaimed plan count rounds pass → (number : ℕ) → number ≤ count → (after : List JournaledShard) → IsRoundTo number before after →
      IsRoundByPass rounds number order pass after
  round_to rounds order pass before stands were zero few after round = record {
    order' = order;
    pass' = pass;
    more = no_more Reclaimer order;
    stands = subst (λ (shards : List JournaledShard). Stands plan count Reclaimer order shards pass) (sym round) stands;
    in_round = first_turn plan count rounds pass were;
    part = first_part plan pass.deeds;
  }
  round_to rounds order pass before stands were (suc number) few after (middle, first, last) =
      let was = round_to rounds order pass before stands were number (omega (arith, few)) middle first in
      let within : number < count = omega (arith, few) in
      let same : is_keyed (shard_at middle number).plan.definition.kind ≡ is_keyed (plan number).definition.kind =
      ap (λ (p : ShardPlan). is_keyed p.definition.kind) (was.stands.left.planned number within) in
      subst (λ (n : ℕ). IsRoundByPass rounds n order pass after) (sym (one_over number))
      (part_step rounds number order pass middle after within (is_keyed (shard_at middle number).plan.definition.kind) (sym same) was last)

  -- ---- a round

  pub record HasRoundByPass (rounds : ℕ) (order : List Deed) (pass : PassView) (after : List JournaledShard) : Type 0 where
    pub order' : List Deed
    pub pass' : PassView
    pub more : IsMoreBy Reclaimer order order'
    pub stands : Stands plan count Reclaimer order' after pass'
    pub reclaimed : AreReclaimed plan count (rounds + 1) pass'
    pub did : HasMadeRound plan count pass.deeds pass'.deeds

  pub round_by_pass : (rounds : ℕ) (order : List Deed) (pass : PassView) (before after : List JournaledShard) → Stands plan count Reclaimer order before pass →
      AreReclaimed plan count rounds pass → IsRoundTo (length before) before after → HasRoundByPass rounds order pass after
  round_by_pass rounds order pass before after stands were round =
      let done = round_to rounds order pass before stands were count (omega arith) after
      (subst (λ (n : ℕ). IsRoundTo n before after) stands.left.sized round) in
      record {
        order' = done.order';
        pass' = done.pass';
        more = done.more;
        stands = done.stands;
        reclaimed = record {
          each = all_turns plan count rounds count done.pass' (omega arith) done.in_round;
          did = round_done plan count rounds pass.deeds done.pass'.deeds were.did done.part;
        };
        did = record { made = done.part.made; round = done.part.asked; deeds_are = done.part.deeds_are };
      }
