use Rattle.std.proofs.Common.{◌<◌, reverse, length, arith, refl, ap}
use Rattle.std.specs.Prelude.{IsTrue}
use Rattle.semantics.specs.declared.call.Call.TheVariants.{Leave}
use Rattle.semantics.specs.declared.call.Reply.TheVariants.{Left}
use Rattle.semantics.specs.History.{meets}
use Rattle.semantics.proofs.shared.ConditionLemmas.{second_true}
use Rattle.journal.specs.Entries.{leave_entry}
use Rattle.shard_core.proofs.RoomLemmas.{served_has_room}
use Rattle.shard_core.proofs.StepLemmas.{section_taken, inside_below, left_readers}
use Rattle.shard_core.proofs.shard.Shard.leave.Goals as goal

pub append_leave-requires : goal.append_leave-requires
append_leave-requires c =
    let inside = c.self.inside in
    let within : length inside.journal.entries < inside.plan.reserve =
    served_has_room inside.plan inside.journal.entries c.args.who (Leave inside.plan.number) c.self.invariant.plan_is.at_most_eight c.self.invariant.legal
    (rw (← c.self.view_is) at c.requires) refl in
    omega (arith, within, c.self.invariant.journal_is.reserve)

pub invariant_of-self : goal.invariant_of-self
invariant_of-self c =
    let inside = c.self.inside in
    let met : IsTrue (meets inside.plan (reverse inside.journal.entries) c.args.who (Leave inside.plan.number)) = rw (← c.self.view_is) at c.requires in
    let below = inside_below inside.plan (reverse inside.journal.entries) c.args.who c.in-Some.worker c.self.invariant.plan_is.at_most_eight (second_true _ _ met) c.in-Some.ensures in
    rw (c.append_leave.ensures, c.leave.ensures) (section_taken inside.plan inside.journal inside.cells inside.keys inside.readers _ c.args.who
    (Leave inside.plan.number) Left (leave_entry inside.journal.shard c.args.who) c.self.invariant met refl refl (λ _ is. is) (λ q. refl)
    (left_readers inside.plan (reverse inside.journal.entries) c.args.who c.in-Some.worker inside.plan.number inside.readers c.in-Some.ensures below c.self.invariant.readers_are)
    (ap (λ shard. leave_entry shard c.args.who) c.self.invariant.journal_is.number))
