use Rattle.std.proofs.Common.{reverse, refl, sym, ◌∙◌, ap}
use Rattle.std.specs.Prelude.{IsTrue, IsFalse}
use Rattle.semantics.specs.declared.call.Call.TheVariants.{Enter}
use Rattle.semantics.specs.declared.call.Reply.TheVariants.{Entered}
use Rattle.semantics.specs.History.{meets, journal_is_full}
use Rattle.semantics.proofs.shared.ConditionLemmas.{second_true}
use Rattle.journal.specs.Entries.{enter_entry}
use Rattle.shard_core.proofs.StepLemmas.{section_taken, outside_below, entered_readers}
use Rattle.shard_core.proofs.shard.Shard.enter.Goals as goal

pub invariant_of-self : goal.invariant_of-self
invariant_of-self c =
    let inside = c.self.inside in
    let met : IsTrue (meets inside.plan (reverse inside.journal.entries) c.args.who (Enter inside.plan.number)) = rw (← c.self.view_is) at c.requires in
    let has_room : IsFalse (journal_is_full inside.plan (reverse inside.journal.entries) (Enter inside.plan.number)) =
    sym (rw (← c.self.view_is) at c.lacks_room.ensures) ∙ c.if-lacks_room.false in
    let below = outside_below inside.plan (reverse inside.journal.entries) c.args.who c.in-Some.worker c.self.invariant.plan_is.at_most_eight (second_true _ _ met) c.in-Some.ensures in
    rw (c.append_enter.ensures, c.enter.ensures) (section_taken inside.plan inside.journal inside.cells inside.keys inside.readers _ c.args.who
    (Enter inside.plan.number) Entered (enter_entry inside.journal.shard c.args.who) c.self.invariant met has_room refl (λ _ is. is) (λ q. refl)
    (entered_readers inside.plan (reverse inside.journal.entries) c.args.who c.in-Some.worker inside.plan.number inside.readers c.in-Some.ensures below c.self.invariant.readers_are)
    (ap (λ shard. enter_entry shard c.args.who) c.self.invariant.journal_is.number))
