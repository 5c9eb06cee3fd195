-- A round in turn leaves one state: each Reclaim has one reply, and is made exactly where the journal has room for it.
use Rattle.std.proofs.Common.{◌≡◌, inl, inr, ℕ, zero, suc, Bool, true, false, List, reverse, sym, ap, ◌∙◌, subst}
use Rattle.std.specs.Prelude.{slice_set}
use Rattle.semantics.specs.declared.call.Caller.TheVariants.{Reclaimer}
use Rattle.semantics.specs.declared.call.Reply.{Reply}
use Rattle.semantics.specs.declared.call.Reply.TheVariants.{Freed}
use Rattle.semantics.specs.History.{journal_is_full, IsLegalJournal, IsLegalStep, entry_of}
use Rattle.semantics.specs.Replay.{is_keyed}
use Rattle.shard_core.specs.JournaledShard.{JournaledShard}
use Rattle.shard_core.specs.Calls.{IsFullFor, shard_with_call, reclaim_call}
use Rattle.shards.specs.NewShards.{shard_at}
use Rattle.replay.specs.InTurn.{IsAskedInTurn, IsReclaimedInTurn, IsPartOfRound, IsRoundTo}
use Rattle.replay.proofs.OneRun.{not_both}
use Rattle.replay.proofs.OneCommand.{newest_step}

-- a Reclaim that was served is the newest step of the shard
asked_step : (one new : JournaledShard) (freed : ℕ) → new ≡ shard_with_call one Reclaimer (reclaim_call one) (Freed freed) → IsLegalJournal one.plan new.journal →
    IsLegalStep one.plan (reverse one.journal) (entry_of Reclaimer (reclaim_call one) (Freed freed))
asked_step one new freed is legal =
    newest_step one.plan one.journal (entry_of Reclaimer (reclaim_call one) (Freed freed))
    (subst (λ (shard : JournaledShard). IsLegalJournal one.plan shard.journal) is legal)

served_or_full : (one new : JournaledShard) (freed : ℕ) → new ≡ shard_with_call one Reclaimer (reclaim_call one) (Freed freed) →
    IsLegalJournal one.plan new.journal → IsFullFor one (reclaim_call one) → ⊥
served_or_full one new freed is legal full =
    not_both (journal_is_full one.plan (reverse one.journal) (reclaim_call one)) full (asked_step one new freed is legal).room

asked_once : (one new new' : JournaledShard) → IsAskedInTurn one new → IsAskedInTurn one new' → new ≡ new'
asked_once one new new' (inl (freed, is, legal)) (inl (freed', is', legal')) =
    let replied : Freed freed ≡ Freed freed' =
    (asked_step one new freed is legal).step.replied ∙ sym (asked_step one new' freed' is' legal').step.replied in
    is ∙ ap (λ (reply : Reply). shard_with_call one Reclaimer (reclaim_call one) reply) replied ∙ sym is'
asked_once one new new' (inl (freed, is, legal)) (inr (full, same)) = absurd (served_or_full one new freed is legal full)
asked_once one new new' (inr (full, same)) (inl (freed, is, legal)) = absurd (served_or_full one new' freed is legal full)
asked_once one new new' (inr (full, same)) (inr (full', same')) = same ∙ sym same'

reclaimed_once : (number : ℕ) (before after after' : List JournaledShard) → IsReclaimedInTurn number before after → IsReclaimedInTurn number before after' →
    after ≡ after'
reclaimed_once number before after after' asked asked' =
    let same : asked.one ≡ asked'.one = cc (asked.known, asked'.known) in
    let new : asked.new ≡ asked'.new =
    asked_once asked.one asked.new asked'.new asked.asked
    (subst (λ (one : JournaledShard). IsAskedInTurn one asked'.new) (sym same) asked'.asked) in
    asked.written ∙ ap (λ (one : JournaledShard). slice_set before number one) new ∙ sym asked'.written

part_once : (keyed : Bool) (number : ℕ) (before after after' : List JournaledShard) → IsPartOfRound keyed number before after →
    IsPartOfRound keyed number before after' → after ≡ after'
part_once true number before after after' part part' = reclaimed_once number before after after' part part'
part_once false number before after after' part part' = part ∙ sym part'

pub round_once : (count : ℕ) (before after after' : List JournaledShard) → IsRoundTo count before after → IsRoundTo count before after' → after ≡ after'
round_once zero before after after' round round' = round ∙ sym round'
round_once (suc number) before after after' round round' =
    let middle = round_once number before round.0 round'.0 round.1 round'.1 in
    part_once (is_keyed (shard_at round.0 number).plan.definition.kind) number round.0 after after' round.2
    (subst (λ (shards : List JournaledShard). IsPartOfRound (is_keyed (shard_at shards number).plan.definition.kind) number shards after') (sym middle) round'.2)
