use Rattle.std.proofs.Common.{◌≡◌, ℕ, List, reverse, Option, Some, None, refl, sym, ◌∙◌, ap, arith}
use Rattle.std.specs.Prelude.{IsTrue, IsFalse}
use Rattle.semantics.specs.declared.plan.ShardPlan.{ShardPlan}
use Rattle.semantics.specs.declared.call.Caller.{Caller}
use Rattle.semantics.specs.declared.call.Call.TheVariants.{Lookup}
use Rattle.semantics.specs.History.{meets, journal_is_full}
use Rattle.semantics.specs.SequentialShard.{shard_after, lookup_reply}
use Rattle.journal.specs.Entries.{lookup_entry}
use Rattle.shard_core.proofs.KeyLemmas.{cell_in_is}
use Rattle.shard_core.proofs.ContentLemmas.{contents_looked}
use Rattle.shard_core.proofs.StepLemmas.{step_taken, nothing_retired}
use Rattle.shard_core.proofs.shard.Shard.lookup.Goals as goal

same_entry : (plan : ShardPlan) (who : Caller) (key : List ℕ) (found : Option ℕ) → lookup_entry plan.number who key found ≡ record { who = who; call = Lookup plan.number key; reply = lookup_reply plan found }
same_entry plan who key (Some cell) = refl
same_entry plan who key None = refl

pub invariant_of-self : goal.invariant_of-self
invariant_of-self c =
    let inside = c.self.inside in
    let met : IsTrue (meets inside.plan (reverse inside.journal.entries) c.args.who (Lookup inside.plan.number c.args.key.now)) = rw (← c.self.view_is) at c.requires in
    let has_room : IsFalse (journal_is_full inside.plan (reverse inside.journal.entries) (Lookup inside.plan.number c.args.key.now)) =
    sym (rw (← c.self.view_is) at c.lacks_room.ensures) ∙ c.if-lacks_room.false in
    rw c.append_lookup.ensures (step_taken inside.plan inside.journal inside.cells inside.cells inside.keys c.touch-found.new.self inside.readers inside.readers c.args.who
    (Lookup inside.plan.number c.args.key.now) (lookup_reply inside.plan c.touch-found.result) (lookup_entry inside.journal.shard c.args.who c.args.key.now c.touch-found.result) c.self.invariant
    (record {
      met = met;
      has_room = has_room;
      replied = ap (lookup_reply inside.plan) (c.touch-found.ensures.cell
          ∙ cell_in_is inside.keys inside.plan (reverse inside.journal.entries) (shard_after inside.plan (reverse inside.journal.entries)) c.args.key.now c.self.invariant.contents.fits c.self.invariant.contents.has);
      contents = contents_looked inside.plan c.args.who inside.plan.number c.args.key.now c.touch-found.result (reverse inside.journal.entries) (shard_after inside.plan (reverse inside.journal.entries)) inside.cells inside.keys c.touch-found.new.self
          c.touch-found.ensures.cell c.touch-found.ensures.table c.touch-found.ensures.unchanged c.self.invariant.contents;
      readers = nothing_retired inside.plan (reverse inside.journal.entries) (Lookup inside.plan.number c.args.key.now) inside.readers c.self.invariant.readers_are (omega arith);
      keeps = λ _ _. refl;
    }) (ap (λ shard. lookup_entry shard c.args.who c.args.key.now c.touch-found.result) c.self.invariant.journal_is.number ∙ same_entry inside.plan c.args.who c.args.key.now c.touch-found.result))
