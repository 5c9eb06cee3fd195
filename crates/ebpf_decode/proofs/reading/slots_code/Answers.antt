use Rattle.std.proofs.Common.{◌≡◌, ℕ, ◌-◌, List, Result, ap, ◌∙◌, sym, arith, Ok, Err, None}
use Rattle.std.proofs.lemmas.Result.{err_from_is_err_and}
use Rattle.ebpf_decode.specs.declared.insn.Insn.{Insn}
use Rattle.ebpf_decode.specs.declared.fault.DecodeFault.{DecodeFault}
use Rattle.ebpf_decode.specs.declared.fault.DecodeFault.TheVariants.{WideCut}
use Rattle.ebpf_decode.specs.SlotForm.{slot_at, slots_at}
use Rattle.ebpf_decode.specs.InstructionReading.{step_at, code_from}
use Rattle.ebpf_decode.proofs.Loops.{slot_more, slot_refused, slots_done, slots_cut}
use Rattle.ebpf_decode.proofs.reading.slots_code.Goals as goal

pub returns-in_err-reading : goal.returns-in_err-reading
returns-in_err-reading c =
    let p = err_from_is_err_and c.from_residual-in_err-reading.result c.from_residual-in_err-reading.ensures.1 in
    let found : step_at c.args.version c.loop-place.place c.loop-place.pending (slot_at c.loop-place.rest.now) ≡ Err c.in_err-reading.field-0.0 = rw (← c.of.ensures) (sym c.in_err-reading.ensures) in
    rw (p.1, p.2) (λ _. slot_refused c.args.version c.loop-place.code.items c.loop-place.pending c.args.count c.loop-place.place c.loop-place.rest.now c.in_err-reading.field-0.0 (code_from c.args.version 0 None (slots_at c.args.count c.args.bytes.now)) c.loop-place-test.true found c.loop-place.invariant.1)

pub loop-place-preserved : goal.loop-place-preserved
loop-place-preserved c =
    let found : step_at c.args.version c.loop-place.place c.loop-place.pending (slot_at c.loop-place.rest.now) ≡ Ok c.in_ok-reading.reading = rw (← c.of.ensures) (sym c.in_ok-reading.ensures) in
    let more = slot_more c.args.version c.loop-place.code.items c.loop-place.pending c.args.count c.loop-place.place c.loop-place.rest.now c.in_ok-reading.reading (code_from c.args.version 0 None (slots_at c.args.count c.args.bytes.now)) c.loop-place-test.true found c.loop-place.invariant.1 in
    (omega (arith, c.loop-place.invariant.0, c.split_at.ensures.back_len, c.loop-place-test.true), rw (c.in_ok-keep.ensures, c.pending_of-pending.ensures, c.split_at.ensures.back) more)

pub returns-in-None : goal.returns-in-None
returns-in-None c = slots_done c.args.version c.loop-place.code.items c.args.count c.loop-place.place c.loop-place.rest.now (code_from c.args.version 0 None (slots_at c.args.count c.args.bytes.now)) c.loop-place-test.false (rw c.in-None.is at c.loop-place.invariant.1)

abbrev cut_at : ℕ → Result (List Insn) DecodeFault
cut_at n = Err (WideCut (n - 1))

pub returns-in-Some : goal.returns-in-Some
returns-in-Some c = λ _.
    let ended : c.loop-place.place ≡ c.args.count = omega (arith, c.loop-place.auto.place-end, c.loop-place-test.false) in
    let cut = slots_cut c.args.version c.loop-place.code.items c.in-Some.field-0 c.args.count c.loop-place.place c.loop-place.rest.now (code_from c.args.version 0 None (slots_at c.args.count c.args.bytes.now)) c.loop-place-test.false (rw c.in-Some.is at c.loop-place.invariant.1) in
    rw (c.at.ensures, c.saturating_sub.ensures) (cut ∙ ap (λ (n : ℕ). cut_at n) ended)
