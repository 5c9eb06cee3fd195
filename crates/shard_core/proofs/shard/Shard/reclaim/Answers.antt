use Rattle.std.proofs.Common.{reverse, refl, sym, ◌∙◌, ap, subst}
use Rattle.std.specs.Prelude.{IsTrue, IsFalse}
use Rattle.semantics.specs.declared.call.Call.TheVariants.{Reclaim}
use Rattle.semantics.specs.declared.call.Reply.TheVariants.{Freed}
use Rattle.semantics.specs.History.{meets, journal_is_full}
use Rattle.semantics.specs.SequentialShard.{shard_after}
use Rattle.shard_core.specs.Sections.{readers_of}
use Rattle.journal.specs.Entries.{reclaim_entry}
use Rattle.shard_core.proofs.ChangeLemmas.{freed_count, contents_reclaimed}
use Rattle.shard_core.proofs.EpochLemmas.{IsFloorOf}
use Rattle.shard_core.proofs.StepLemmas.{step_taken, nothing_retired, fewer_retired}
use Rattle.shard_core.proofs.shard.Shard.reclaim.Goals as goal

pub invariant_of-self : goal.invariant_of-self
invariant_of-self c =
    let inside = c.self.inside in
    let met : IsTrue (meets inside.plan (reverse inside.journal.entries) c.args.who (Reclaim inside.plan.number)) = rw (← c.self.view_is) at c.requires in
    let has_room : IsFalse (journal_is_full inside.plan (reverse inside.journal.entries) (Reclaim inside.plan.number)) =
    sym (rw (← c.self.view_is) at c.lacks_room.ensures) ∙ c.if-lacks_room.false in
    let floor : IsFloorOf (readers_of inside.plan (reverse inside.journal.entries)) c.floor-floor.result = subst (λ readers. IsFloorOf readers c.floor-floor.result) c.self.invariant.readers_are c.floor-floor.ensures in
    rw (c.append_reclaim.ensures, c.free-count.ensures.table) (step_taken inside.plan inside.journal inside.cells _ inside.keys inside.keys inside.readers inside.readers c.args.who
    (Reclaim inside.plan.number) (Freed c.free-count.result) (reclaim_entry inside.journal.shard c.args.who c.free-count.result) c.self.invariant
    (record {
      met = met;
      has_room = has_room;
      replied = ap Freed (c.free-count.ensures.count ∙ freed_count inside.plan (reverse inside.journal.entries) inside.cells inside.keys c.floor-floor.result c.self.invariant.contents floor);
      contents = contents_reclaimed inside.plan _ (reverse inside.journal.entries) inside.cells inside.keys inside.plan.number c.floor-floor.result (λ q. refl) c.self.invariant.contents floor;
      readers = nothing_retired inside.plan (reverse inside.journal.entries) (Reclaim inside.plan.number) inside.readers c.self.invariant.readers_are (fewer_retired (reverse inside.journal.entries) (shard_after inside.plan (reverse inside.journal.entries)).retired);
      keeps = λ _ _. refl;
    }) (ap (λ shard. reclaim_entry shard c.args.who c.free-count.result) c.self.invariant.journal_is.number))

pub returns-clause-replied : goal.returns-clause-replied
returns-clause-replied c =
    let inside = c.self.inside in
    let floor : IsFloorOf (readers_of inside.plan (reverse inside.journal.entries)) c.floor-floor.result = subst (λ readers. IsFloorOf readers c.floor-floor.result) c.self.invariant.readers_are c.floor-floor.ensures in
    rw (← c.self.view_is) (ap Freed (c.free-count.ensures.count ∙ freed_count inside.plan (reverse inside.journal.entries) inside.cells inside.keys c.floor-floor.result c.self.invariant.contents floor))

pub returns-clause-legal : goal.returns-clause-legal
returns-clause-legal c =
    let inside = c.self.inside in
    let met : IsTrue (meets inside.plan (reverse inside.journal.entries) c.args.who (Reclaim inside.plan.number)) = rw (← c.self.view_is) at c.requires in
    let has_room : IsFalse (journal_is_full inside.plan (reverse inside.journal.entries) (Reclaim inside.plan.number)) =
    sym (rw (← c.self.view_is) at c.lacks_room.ensures) ∙ c.if-lacks_room.false in
    let floor : IsFloorOf (readers_of inside.plan (reverse inside.journal.entries)) c.floor-floor.result = subst (λ readers. IsFloorOf readers c.floor-floor.result) c.self.invariant.readers_are c.floor-floor.ensures in
    rw c.append_reclaim.ensures ((step_taken inside.plan inside.journal inside.cells _ inside.keys inside.keys inside.readers inside.readers c.args.who
    (Reclaim inside.plan.number) (Freed c.free-count.result) (reclaim_entry inside.journal.shard c.args.who c.free-count.result) c.self.invariant
    (record {
      met = met;
      has_room = has_room;
      replied = ap Freed (c.free-count.ensures.count ∙ freed_count inside.plan (reverse inside.journal.entries) inside.cells inside.keys c.floor-floor.result c.self.invariant.contents floor);
      contents = contents_reclaimed inside.plan _ (reverse inside.journal.entries) inside.cells inside.keys inside.plan.number c.floor-floor.result (λ q. refl) c.self.invariant.contents floor;
      readers = nothing_retired inside.plan (reverse inside.journal.entries) (Reclaim inside.plan.number) inside.readers c.self.invariant.readers_are (fewer_retired (reverse inside.journal.entries) (shard_after inside.plan (reverse inside.journal.entries)).retired);
      keeps = λ _ _. refl;
    }) (ap (λ shard. reclaim_entry shard c.args.who c.free-count.result) c.self.invariant.journal_is.number)).legal)
