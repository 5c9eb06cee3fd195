use Rattle.std.proofs.lemmas.Result.{err_from_is_err_and}
use Rattle.xlb_commands.specs.Refused.{no_timed_capture, no_timed_bytes, means_none}
use Rattle.xlb_commands.proofs.Refusals.{unserved_since, failed_since}
use Rattle.xlb_commands.proofs.timed.timed_file.Goals as goal

pub returns-in_err-captured-clause-refused : goal.returns-in_err-captured-clause-refused
returns-in_err-captured-clause-refused g c =
    let p = err_from_is_err_and c.from_residual.result c.from_residual.ensures.1 in
    rw (p.1, p.2) (no_timed_capture c.in_err-captured.ensures.refused)

pub returns-in_err-bytes-clause-refused : goal.returns-in_err-bytes-clause-refused
returns-in_err-bytes-clause-refused g c =
    let p = err_from_is_err_and c.from_residual-in_err-bytes.result c.from_residual-in_err-bytes.ensures.1 in
    rw (p.1, p.2)
    (no_timed_bytes c.in_ok-captured.captured.records.items c.in_ok-captured.ensures.capture
    (unserved_since _ _ _ (failed_since _ _ _ c.in_ok-captured.ensures.steady) c.in_err-bytes.ensures.refused))

pub returns-in_err-made-clause-refused : goal.returns-in_err-made-clause-refused
returns-in_err-made-clause-refused g c =
    let p = err_from_is_err_and c.from_residual-in_err-made.result c.from_residual-in_err-made.ensures.1 in
    let read = (c.in_ok-captured.ensures.kept c.args.timed.now c.in_ok-bytes.bytes.items).1 c.in_ok-bytes.ensures.bytes in
    let why = rw (c.deref.ensures.value, c.deref-2.ensures.value) at c.in_err-made.ensures.refused in
    rw (p.1, p.2) (means_none c.in_ok-captured.captured.records.items c.in_ok-bytes.bytes.items why.0 c.in_ok-captured.ensures.capture read why.1 why.2)

pub returns-clause-done : goal.returns-clause-done
returns-clause-done g c = record {
  records = c.in_ok-captured.captured.records.items;
  captured = c.in_ok-captured.ensures.capture;
  bytes = c.in_ok-bytes.bytes.items;
  read = (c.in_ok-captured.ensures.kept c.args.timed.now c.in_ok-bytes.bytes.items).1 c.in_ok-bytes.ensures.bytes;
  late = c.in_ok-made.made.late.items;
  meant = rw (c.deref.ensures.value, c.deref-2.ensures.value) at c.in_ok-made.ensures.meant;
}
