use Rattle.std.proofs.Common.{length, set, sym, ◌∙◌, arith}
use Rattle.actors.specs.Accounts.{lists_of}
use Rattle.actors.specs.Shares.{frames_of}
use Rattle.actors.proofs.shared.AccountLemmas.{next_at, place_within, next_after}
use Rattle.actors.proofs.shared.TakingOut.{taken_out, still_runs, later_fates, fate_at}
use Rattle.actors.proofs.account.next_fate.Goals as goal

pub taken_out-end-requires : goal.taken_out-end-requires
taken_out-end-requires c =
    let at = next_at c.args.capture.now.records.items c.args.runs.now.items c.args.number c.index-sent.result.now c.args.next.now.items c.args.worker
    c.index-place.result.now c.index_mut-list.result.now c.requires.number c.index-sent.ensures (sym c.is_short.ensures ∙ c.if-is_short.false)
    c.requires.worker.0 c.requires.worker.1 c.requires.runs c.requires.next c.index-place.ensures c.index_mut-list.ensures.value in
    place_within _ _ _ _ _ _ _ _ _ at

pub overflow_add-place : goal.overflow_add-place
overflow_add-place c =
    let at = next_at c.args.capture.now.records.items c.args.runs.now.items c.args.number c.index-sent.result.now c.args.next.now.items c.args.worker
    c.index-place.result.now c.index_mut-list.result.now c.requires.number c.index-sent.ensures (sym c.is_short.ensures ∙ c.if-is_short.false)
    c.requires.worker.0 c.requires.worker.1 c.requires.runs c.requires.next c.index-place.ensures c.index_mut-list.ensures.value in
    let within = place_within _ _ _ _ _ _ _ _ _ at in
    let ok = c.index_mut-list.result.now.ok.0 in
    let small = c.index_mut-list.result.now.small in
    omega (arith, within, ok, small)

pub returns-clause-runs : goal.returns-clause-runs
returns-clause-runs c =
    let at = next_at c.args.capture.now.records.items c.args.runs.now.items c.args.number c.index-sent.result.now c.args.next.now.items c.args.worker
    c.index-place.result.now c.index_mut-list.result.now c.requires.number c.index-sent.ensures (sym c.is_short.ensures ∙ c.if-is_short.false)
    c.requires.worker.0 c.requires.worker.1 c.requires.runs c.requires.next c.index-place.ensures c.index_mut-list.ensures.value in
    let out = taken_out c.args.runs.now.items c.args.worker c.index-place.result.now c.index_mut-list.result.now c.taken_out-end.new.runs at.below at.list_is
    c.taken_out-end.ensures.records c.taken_out-end.ensures.others in
    still_runs (frames_of c.args.capture.now.records.items) (length c.args.runs.now.items) (length c.args.capture.now.records.items)
    c.args.worker c.index-place.result.now (lists_of c.args.runs.now.items)
    (lists_of (set c.args.runs.now.items c.args.worker c.taken_out-end.new.runs)) out c.requires.runs

pub returns-clause-next : goal.returns-clause-next
returns-clause-next c =
    let at = next_at c.args.capture.now.records.items c.args.runs.now.items c.args.number c.index-sent.result.now c.args.next.now.items c.args.worker
    c.index-place.result.now c.index_mut-list.result.now c.requires.number c.index-sent.ensures (sym c.is_short.ensures ∙ c.if-is_short.false)
    c.requires.worker.0 c.requires.worker.1 c.requires.runs c.requires.next c.index-place.ensures c.index_mut-list.ensures.value in
    next_after _ _ _ _ _ _ _ _ _ at

pub returns-clause-fate : goal.returns-clause-fate
returns-clause-fate c =
    let at = next_at c.args.capture.now.records.items c.args.runs.now.items c.args.number c.index-sent.result.now c.args.next.now.items c.args.worker
    c.index-place.result.now c.index_mut-list.result.now c.requires.number c.index-sent.ensures (sym c.is_short.ensures ∙ c.if-is_short.false)
    c.requires.worker.0 c.requires.worker.1 c.requires.runs c.requires.next c.index-place.ensures c.index_mut-list.ensures.value in
    c.taken_out-end.ensures.end ∙ fate_at _ _ _ _ _ _ _ _ _ at

pub returns-clause-later : goal.returns-clause-later
returns-clause-later c =
    let at = next_at c.args.capture.now.records.items c.args.runs.now.items c.args.number c.index-sent.result.now c.args.next.now.items c.args.worker
    c.index-place.result.now c.index_mut-list.result.now c.requires.number c.index-sent.ensures (sym c.is_short.ensures ∙ c.if-is_short.false)
    c.requires.worker.0 c.requires.worker.1 c.requires.runs c.requires.next c.index-place.ensures c.index_mut-list.ensures.value in
    let out = taken_out c.args.runs.now.items c.args.worker c.index-place.result.now c.index_mut-list.result.now c.taken_out-end.new.runs at.below at.list_is
    c.taken_out-end.ensures.records c.taken_out-end.ensures.others in
    later_fates _ _ _ _ _ _ _ _ _ _ at out
