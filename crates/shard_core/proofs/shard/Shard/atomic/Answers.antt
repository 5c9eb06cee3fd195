use Rattle.std.proofs.Common.{reverse, refl, sym, ◌∙◌, ap, ◌+◌, ◌≤◌, arith}
use Rattle.std.specs.Prelude.{IsTrue, IsFalse}
use Rattle.semantics.specs.declared.call.Call.TheVariants.{Atomic}
use Rattle.semantics.specs.declared.call.Reply.TheVariants.{Word}
use Rattle.semantics.specs.History.{meets, journal_is_full}
use Rattle.semantics.specs.SequentialShard.{shard_after}
use Rattle.journal.specs.Entries.{atomic_entry}
use Rattle.shard_core.proofs.AskedLemmas.{atomic_asked}
use Rattle.shard_core.proofs.StepLemmas.{step_taken, nothing_retired, table_keeps, kept_number, contents_changed}
use Rattle.shard_core.proofs.shard.Shard.atomic.Goals as goal

pub change_number-old-requires-clause-kept : goal.change_number-old-requires-clause-kept
change_number-old-requires-clause-kept c =
    let inside = c.self.inside in
    let range = c.args.range.now in
    let change = c.args.change.now in
    let asked = atomic_asked inside.plan (reverse inside.journal.entries) c.args.who inside.plan.number range.cell range.offset range.size change.op change.value change.expected
    c.self.invariant.plan_is c.self.invariant.legal (rw (← c.self.view_is) at c.requires) in
    table_keeps inside.plan (reverse inside.journal.entries) (shard_after inside.plan (reverse inside.journal.entries)) inside.cells inside.keys range.cell c.self.invariant.contents asked.range.kept

pub change_number-old-requires-clause-within : goal.change_number-old-requires-clause-within
change_number-old-requires-clause-within c =
    let inside = c.self.inside in
    let range = c.args.range.now in
    let change = c.args.change.now in
    let asked = atomic_asked inside.plan (reverse inside.journal.entries) c.args.who inside.plan.number range.cell range.offset range.size change.op change.value change.expected
    c.self.invariant.plan_is c.self.invariant.legal (rw (← c.self.view_is) at c.requires) in
    let within : range.offset + range.size ≤ inside.plan.definition.value_size = asked.range.within in
    omega (arith, within, c.self.invariant.contents.sized)

pub change_number-old-requires-clause-size : goal.change_number-old-requires-clause-size
change_number-old-requires-clause-size c =
    let inside = c.self.inside in
    let range = c.args.range.now in
    let change = c.args.change.now in
    let asked = atomic_asked inside.plan (reverse inside.journal.entries) c.args.who inside.plan.number range.cell range.offset range.size change.op change.value change.expected
    c.self.invariant.plan_is c.self.invariant.legal (rw (← c.self.view_is) at c.requires) in
    asked.size_is

pub change_number-old-requires-clause-operand : goal.change_number-old-requires-clause-operand
change_number-old-requires-clause-operand c =
    let inside = c.self.inside in
    let range = c.args.range.now in
    let change = c.args.change.now in
    let asked = atomic_asked inside.plan (reverse inside.journal.entries) c.args.who inside.plan.number range.cell range.offset range.size change.op change.value change.expected
    c.self.invariant.plan_is c.self.invariant.legal (rw (← c.self.view_is) at c.requires) in
    asked.value_fits

pub change_number-old-requires-clause-expected : goal.change_number-old-requires-clause-expected
change_number-old-requires-clause-expected c =
    let inside = c.self.inside in
    let range = c.args.range.now in
    let change = c.args.change.now in
    let asked = atomic_asked inside.plan (reverse inside.journal.entries) c.args.who inside.plan.number range.cell range.offset range.size change.op change.value change.expected
    c.self.invariant.plan_is c.self.invariant.legal (rw (← c.self.view_is) at c.requires) in
    asked.expected_fits

pub append_atomic-requires-clause-range : goal.append_atomic-requires-clause-range
append_atomic-requires-clause-range c =
    let inside = c.self.inside in
    let range = c.args.range.now in
    let change = c.args.change.now in
    let asked = atomic_asked inside.plan (reverse inside.journal.entries) c.args.who inside.plan.number range.cell range.offset range.size change.op change.value change.expected
    c.self.invariant.plan_is c.self.invariant.legal (rw (← c.self.view_is) at c.requires) in
    let within : range.offset + range.size ≤ inside.plan.definition.value_size = asked.range.within in
    let narrow : range.size ≤ 8 = asked.range.narrow in
    let most : inside.plan.definition.value_size ≤ 256 = c.self.invariant.plan_is.limits.value_size in
    (omega (arith, within, most), omega (arith, narrow))

pub invariant_of-self : goal.invariant_of-self
invariant_of-self c =
    let inside = c.self.inside in
    let range = c.args.range.now in
    let change = c.args.change.now in
    let met : IsTrue (meets inside.plan (reverse inside.journal.entries) c.args.who (Atomic (record { shard = inside.plan.number; id = range.cell }) range.offset range.size change.op change.value change.expected)) =
    rw (← c.self.view_is) at c.requires in
    let has_room : IsFalse (journal_is_full inside.plan (reverse inside.journal.entries) (Atomic (record { shard = inside.plan.number; id = range.cell }) range.offset range.size change.op change.value change.expected)) =
    sym (rw (← c.self.view_is) at c.lacks_room.ensures) ∙ c.if-lacks_room.false in
    let asked = atomic_asked inside.plan (reverse inside.journal.entries) c.args.who inside.plan.number range.cell range.offset range.size change.op change.value change.expected
    c.self.invariant.plan_is c.self.invariant.legal met in
    let number = kept_number inside.plan (reverse inside.journal.entries) (shard_after inside.plan (reverse inside.journal.entries)) inside.cells inside.keys range.cell range.offset range.size c.self.invariant.contents asked.range.kept in
    rw (c.append_atomic.ensures, c.change_number-old.ensures.table) (step_taken inside.plan inside.journal inside.cells _ inside.keys inside.keys inside.readers inside.readers c.args.who
    (Atomic (record { shard = inside.plan.number; id = range.cell }) range.offset range.size change.op change.value change.expected) (Word c.change_number-old.result)
    (atomic_entry inside.journal.shard c.args.who range change c.change_number-old.result) c.self.invariant
    (record {
      met = met;
      has_room = has_room;
      replied = ap Word (c.change_number-old.ensures.old ∙ number);
      contents = contents_changed inside.plan _ (reverse inside.journal.entries) (shard_after inside.plan (reverse inside.journal.entries)) inside.cells inside.keys range.cell range.offset range.size change.op change.value change.expected c.in-Some.op (λ q. refl) asked.range.kept (sym c.in-Some.ensures) c.self.invariant.contents;
      readers = nothing_retired inside.plan (reverse inside.journal.entries) (Atomic (record { shard = inside.plan.number; id = range.cell }) range.offset range.size change.op change.value change.expected) inside.readers c.self.invariant.readers_are (omega arith);
      keeps = λ _ _. refl;
    }) (ap (λ shard. atomic_entry shard c.args.who range change c.change_number-old.result) c.self.invariant.journal_is.number))

pub returns-clause-of_its_cell : goal.returns-clause-of_its_cell
returns-clause-of_its_cell c =
    let inside = c.self.inside in
    let range = c.args.range.now in
    let change = c.args.change.now in
    let asked = atomic_asked inside.plan (reverse inside.journal.entries) c.args.who inside.plan.number range.cell range.offset range.size change.op change.value change.expected
    c.self.invariant.plan_is c.self.invariant.legal (rw (← c.self.view_is) at c.requires) in
    let number = kept_number inside.plan (reverse inside.journal.entries) (shard_after inside.plan (reverse inside.journal.entries)) inside.cells inside.keys range.cell range.offset range.size c.self.invariant.contents asked.range.kept in
    rw (← c.self.view_is) (c.change_number-old.ensures.old ∙ number)

pub returns-clause-legal : goal.returns-clause-legal
returns-clause-legal c =
    let inside = c.self.inside in
    let range = c.args.range.now in
    let change = c.args.change.now in
    let met : IsTrue (meets inside.plan (reverse inside.journal.entries) c.args.who (Atomic (record { shard = inside.plan.number; id = range.cell }) range.offset range.size change.op change.value change.expected)) =
    rw (← c.self.view_is) at c.requires in
    let has_room : IsFalse (journal_is_full inside.plan (reverse inside.journal.entries) (Atomic (record { shard = inside.plan.number; id = range.cell }) range.offset range.size change.op change.value change.expected)) =
    sym (rw (← c.self.view_is) at c.lacks_room.ensures) ∙ c.if-lacks_room.false in
    let asked = atomic_asked inside.plan (reverse inside.journal.entries) c.args.who inside.plan.number range.cell range.offset range.size change.op change.value change.expected
    c.self.invariant.plan_is c.self.invariant.legal met in
    let number = kept_number inside.plan (reverse inside.journal.entries) (shard_after inside.plan (reverse inside.journal.entries)) inside.cells inside.keys range.cell range.offset range.size c.self.invariant.contents asked.range.kept in
    rw c.append_atomic.ensures ((step_taken inside.plan inside.journal inside.cells _ inside.keys inside.keys inside.readers inside.readers c.args.who
    (Atomic (record { shard = inside.plan.number; id = range.cell }) range.offset range.size change.op change.value change.expected) (Word c.change_number-old.result)
    (atomic_entry inside.journal.shard c.args.who range change c.change_number-old.result) c.self.invariant
    (record {
      met = met;
      has_room = has_room;
      replied = ap Word (c.change_number-old.ensures.old ∙ number);
      contents = contents_changed inside.plan _ (reverse inside.journal.entries) (shard_after inside.plan (reverse inside.journal.entries)) inside.cells inside.keys range.cell range.offset range.size change.op change.value change.expected c.in-Some.op (λ q. refl) asked.range.kept (sym c.in-Some.ensures) c.self.invariant.contents;
      readers = nothing_retired inside.plan (reverse inside.journal.entries) (Atomic (record { shard = inside.plan.number; id = range.cell }) range.offset range.size change.op change.value change.expected) inside.readers c.self.invariant.readers_are (omega arith);
      keeps = λ _ _. refl;
    }) (ap (λ shard. atomic_entry shard c.args.who range change c.change_number-old.result) c.self.invariant.journal_is.number)).legal)
