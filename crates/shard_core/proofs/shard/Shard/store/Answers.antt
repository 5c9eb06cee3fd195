use Rattle.std.proofs.Common.{reverse, refl, sym, ◌∙◌, ap, arith}
use Rattle.std.specs.Prelude.{IsTrue, IsFalse}
use Rattle.semantics.specs.declared.call.Call.TheVariants.{Store}
use Rattle.semantics.specs.declared.call.Reply.TheVariants.{Done}
use Rattle.semantics.specs.History.{meets, journal_is_full}
use Rattle.semantics.specs.SequentialShard.{shard_after}
use Rattle.journal.specs.Entries.{store_entry}
use Rattle.shard_core.proofs.AskedLemmas.{store_asked}
use Rattle.shard_core.proofs.StepLemmas.{step_taken, nothing_retired, table_keeps, contents_stored}
use Rattle.shard_core.proofs.shard.Shard.store.Goals as goal

pub put_number-requires-clause-kept : goal.put_number-requires-clause-kept
put_number-requires-clause-kept c =
    let inside = c.self.inside in
    let asked = store_asked inside.plan (reverse inside.journal.entries) c.args.who inside.plan.number c.args.range.now.cell c.args.range.now.offset c.args.range.now.size c.args.value
    c.self.invariant.plan_is c.self.invariant.legal (rw (← c.self.view_is) at c.requires) in
    table_keeps inside.plan (reverse inside.journal.entries) (shard_after inside.plan (reverse inside.journal.entries)) inside.cells inside.keys c.args.range.now.cell c.self.invariant.contents asked.kept

pub invariant_of-self : goal.invariant_of-self
invariant_of-self c =
    let inside = c.self.inside in
    let met : IsTrue (meets inside.plan (reverse inside.journal.entries) c.args.who (Store (record { shard = inside.plan.number; id = c.args.range.now.cell }) c.args.range.now.offset c.args.range.now.size c.args.value)) =
    rw (← c.self.view_is) at c.requires in
    let has_room : IsFalse (journal_is_full inside.plan (reverse inside.journal.entries) (Store (record { shard = inside.plan.number; id = c.args.range.now.cell }) c.args.range.now.offset c.args.range.now.size c.args.value)) =
    sym (rw (← c.self.view_is) at c.lacks_room.ensures) ∙ c.if-lacks_room.false in
    let asked = store_asked inside.plan (reverse inside.journal.entries) c.args.who inside.plan.number c.args.range.now.cell c.args.range.now.offset c.args.range.now.size c.args.value
    c.self.invariant.plan_is c.self.invariant.legal met in
    rw (c.append_store.ensures, c.put_number.ensures) (step_taken inside.plan inside.journal inside.cells _ inside.keys inside.keys inside.readers inside.readers c.args.who
    (Store (record { shard = inside.plan.number; id = c.args.range.now.cell }) c.args.range.now.offset c.args.range.now.size c.args.value) Done
    (store_entry inside.journal.shard c.args.who c.args.range.now c.args.value) c.self.invariant
    (record {
      met = met;
      has_room = has_room;
      replied = refl;
      contents = contents_stored inside.plan _ (reverse inside.journal.entries) (shard_after inside.plan (reverse inside.journal.entries)) inside.cells inside.keys c.args.range.now.cell c.args.range.now.offset c.args.range.now.size c.args.value (λ q. refl) asked.kept c.self.invariant.contents;
      readers = nothing_retired inside.plan (reverse inside.journal.entries) (Store (record { shard = inside.plan.number; id = c.args.range.now.cell }) c.args.range.now.offset c.args.range.now.size c.args.value) inside.readers c.self.invariant.readers_are (omega arith);
      keeps = λ _ _. refl;
    }) (ap (λ shard. store_entry shard c.args.who c.args.range.now c.args.value) c.self.invariant.journal_is.number))
