use Rattle.std.proofs.Common.{◌≡◌, sym, ℕ, ◌<◌, ◌≤◌, ◌∙◌, ap, refl, arith, length, Some}
use Rattle.std.specs.Prelude.{slice_get}
use Rattle.semantics.specs.declared.call.Caller.{Caller}
use Rattle.semantics.specs.declared.call.Caller.TheVariants.{Worker}
use Rattle.std.proofs.lemmas.Option.{slice_get_read}
use Rattle.audit.proofs.HeldLemmas.{noted, none_noted, no_worker, on_both}
use Rattle.audit.proofs.held_cells.HeldCells.note.Goals as goal

abbrev worker_of : ℕ → Caller
worker_of number = Worker number

pub returns-in-Some : goal.returns-in-Some
returns-in-Some c = λ history are at.
    let held = c.args.self.now in
    let within : c.from.result < length held.workers.items = c.in-Some.ensures.item.3.0 in
    let same : c.from.result ≡ c.in-Worker.number = c.from.ensures in
    let read : slice_get held.workers.items c.from.result ≡ Some c.in-Some.cells.now = slice_get_read held.workers.items _ c.from.result c.in-Some.cells.now refl within c.in-Some.ensures.value in
    let who = c.in-Worker.is ∙ ap worker_of (sym same) in
    on_both c.note.result c.note.ensures.since c.note.ensures.found
    (noted held _ c.args.entry.now history c.from.result c.in-Some.cells.now c.note.new.self c.of.result c.args.serial who c.of.ensures are at read refl)

pub returns-in-None : goal.returns-in-None
returns-in-None c = λ history are at.
    let held = c.args.self.now in
    let eight : length held.workers.items ≡ 8 = are.eight in
    let past : length held.workers.items ≤ c.from.result = c.in-None.ensures.item.3 in
    let same : c.from.result ≡ c.in-Worker.number = c.from.ensures in
    none_noted held c.args.entry.now history (no_worker c.in-Worker.number c.args.entry.now.who c.in-Worker.is (omega arith)) are
