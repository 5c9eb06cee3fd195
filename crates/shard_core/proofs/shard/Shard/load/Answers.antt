use Rattle.std.proofs.Common.{reverse, refl, sym, ◌∙◌, ap, arith}
use Rattle.std.specs.Prelude.{IsTrue, IsFalse}
use Rattle.semantics.specs.declared.call.Call.TheVariants.{Load}
use Rattle.semantics.specs.declared.call.Reply.TheVariants.{Word}
use Rattle.semantics.specs.History.{meets, journal_is_full}
use Rattle.semantics.specs.SequentialShard.{shard_after}
use Rattle.journal.specs.Entries.{load_entry}
use Rattle.shard_core.proofs.AskedLemmas.{load_asked}
use Rattle.shard_core.proofs.ContentLemmas.{contents_on}
use Rattle.shard_core.proofs.StepLemmas.{step_taken, nothing_retired, table_keeps, kept_number}
use Rattle.shard_core.proofs.shard.Shard.load.Goals as goal

pub number_in-value-requires-clause-kept : goal.number_in-value-requires-clause-kept
number_in-value-requires-clause-kept c =
    let inside = c.self.inside in
    let asked = load_asked inside.plan (reverse inside.journal.entries) c.args.who inside.plan.number c.args.range.now.cell c.args.range.now.offset c.args.range.now.size
    c.self.invariant.plan_is c.self.invariant.legal (rw (← c.self.view_is) at c.requires) in
    table_keeps inside.plan (reverse inside.journal.entries) (shard_after inside.plan (reverse inside.journal.entries)) inside.cells inside.keys c.args.range.now.cell c.self.invariant.contents asked.kept

pub invariant_of-self : goal.invariant_of-self
invariant_of-self c =
    let inside = c.self.inside in
    let met : IsTrue (meets inside.plan (reverse inside.journal.entries) c.args.who (Load (record { shard = inside.plan.number; id = c.args.range.now.cell }) c.args.range.now.offset c.args.range.now.size)) =
    rw (← c.self.view_is) at c.requires in
    let has_room : IsFalse (journal_is_full inside.plan (reverse inside.journal.entries) (Load (record { shard = inside.plan.number; id = c.args.range.now.cell }) c.args.range.now.offset c.args.range.now.size)) =
    sym (rw (← c.self.view_is) at c.lacks_room.ensures) ∙ c.if-lacks_room.false in
    let asked = load_asked inside.plan (reverse inside.journal.entries) c.args.who inside.plan.number c.args.range.now.cell c.args.range.now.offset c.args.range.now.size
    c.self.invariant.plan_is c.self.invariant.legal met in
    let number = kept_number inside.plan (reverse inside.journal.entries) (shard_after inside.plan (reverse inside.journal.entries)) inside.cells inside.keys c.args.range.now.cell c.args.range.now.offset c.args.range.now.size c.self.invariant.contents asked.kept in
    rw c.append_load.ensures (step_taken inside.plan inside.journal inside.cells inside.cells inside.keys inside.keys inside.readers inside.readers c.args.who
    (Load (record { shard = inside.plan.number; id = c.args.range.now.cell }) c.args.range.now.offset c.args.range.now.size) (Word c.number_in-value.result)
    (load_entry inside.journal.shard c.args.who c.args.range.now c.number_in-value.result) c.self.invariant
    (record {
      met = met;
      has_room = has_room;
      replied = ap Word (c.number_in-value.ensures ∙ number);
      contents = contents_on inside.plan _ (reverse inside.journal.entries) (shard_after inside.plan (reverse inside.journal.entries)) inside.cells inside.keys (λ q. refl) c.self.invariant.contents;
      readers = nothing_retired inside.plan (reverse inside.journal.entries) (Load (record { shard = inside.plan.number; id = c.args.range.now.cell }) c.args.range.now.offset c.args.range.now.size) inside.readers c.self.invariant.readers_are (omega arith);
      keeps = λ _ _. refl;
    }) (ap (λ shard. load_entry shard c.args.who c.args.range.now c.number_in-value.result) c.self.invariant.journal_is.number))

pub returns-clause-of_its_cell : goal.returns-clause-of_its_cell
returns-clause-of_its_cell c =
    let inside = c.self.inside in
    let asked = load_asked inside.plan (reverse inside.journal.entries) c.args.who inside.plan.number c.args.range.now.cell c.args.range.now.offset c.args.range.now.size
    c.self.invariant.plan_is c.self.invariant.legal (rw (← c.self.view_is) at c.requires) in
    let number = kept_number inside.plan (reverse inside.journal.entries) (shard_after inside.plan (reverse inside.journal.entries)) inside.cells inside.keys c.args.range.now.cell c.args.range.now.offset c.args.range.now.size c.self.invariant.contents asked.kept in
    rw (← c.self.view_is) (c.number_in-value.ensures ∙ number)

pub returns-clause-legal : goal.returns-clause-legal
returns-clause-legal c =
    let inside = c.self.inside in
    let met : IsTrue (meets inside.plan (reverse inside.journal.entries) c.args.who (Load (record { shard = inside.plan.number; id = c.args.range.now.cell }) c.args.range.now.offset c.args.range.now.size)) =
    rw (← c.self.view_is) at c.requires in
    let has_room : IsFalse (journal_is_full inside.plan (reverse inside.journal.entries) (Load (record { shard = inside.plan.number; id = c.args.range.now.cell }) c.args.range.now.offset c.args.range.now.size)) =
    sym (rw (← c.self.view_is) at c.lacks_room.ensures) ∙ c.if-lacks_room.false in
    let asked = load_asked inside.plan (reverse inside.journal.entries) c.args.who inside.plan.number c.args.range.now.cell c.args.range.now.offset c.args.range.now.size
    c.self.invariant.plan_is c.self.invariant.legal met in
    let number = kept_number inside.plan (reverse inside.journal.entries) (shard_after inside.plan (reverse inside.journal.entries)) inside.cells inside.keys c.args.range.now.cell c.args.range.now.offset c.args.range.now.size c.self.invariant.contents asked.kept in
    rw c.append_load.ensures ((step_taken inside.plan inside.journal inside.cells inside.cells inside.keys inside.keys inside.readers inside.readers c.args.who
    (Load (record { shard = inside.plan.number; id = c.args.range.now.cell }) c.args.range.now.offset c.args.range.now.size) (Word c.number_in-value.result)
    (load_entry inside.journal.shard c.args.who c.args.range.now c.number_in-value.result) c.self.invariant
    (record {
      met = met;
      has_room = has_room;
      replied = ap Word (c.number_in-value.ensures ∙ number);
      contents = contents_on inside.plan _ (reverse inside.journal.entries) (shard_after inside.plan (reverse inside.journal.entries)) inside.cells inside.keys (λ q. refl) c.self.invariant.contents;
      readers = nothing_retired inside.plan (reverse inside.journal.entries) (Load (record { shard = inside.plan.number; id = c.args.range.now.cell }) c.args.range.now.offset c.args.range.now.size) inside.readers c.self.invariant.readers_are (omega arith);
      keeps = λ _ _. refl;
    }) (ap (λ shard. load_entry shard c.args.who c.args.range.now c.number_in-value.result) c.self.invariant.journal_is.number)).legal)
