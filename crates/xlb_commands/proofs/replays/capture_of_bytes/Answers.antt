use Rattle.std.proofs.Common.{ℕ, List, subst}
use Rattle.std.proofs.lemmas.Result.{err_from_is_err_and}
use Rattle.xlb_commands.specs.Refused.{IsNoCaptureIn, no_capture}
use Rattle.xlb_commands.proofs.replays.capture_of_bytes.Goals as goal

pub returns-in_err-capture-clause-refused : goal.returns-in_err-capture-clause-refused
returns-in_err-capture-clause-refused g c =
    let p = err_from_is_err_and c.from_residual-in_err-capture.result c.from_residual-in_err-capture.ensures.1 in
    rw (p.1, p.2)
    (no_capture c.in_ok-bytes.bytes.items c.in_ok-bytes.ensures.bytes
    (subst (λ (bytes : List ℕ). IsNoCaptureIn c.args.reading bytes c.in_err-capture.field-0.0.fault) c.deref.ensures.value c.in_err-capture.ensures.refused))
