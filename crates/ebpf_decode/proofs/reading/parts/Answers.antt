use Rattle.std.proofs.Common.{◌≤◌, ◌-◌, sym, ◌∙◌, length, drop, arith}
use Rattle.std.proofs.lemmas.List.{length-drop, take_all}
use Rattle.std.proofs.lemmas.Result.{err_from_is_err_and}
use Rattle.ebpf_decode.proofs.shared.ImageLaws.{asks_for_code}
use Rattle.ebpf_decode.proofs.reading.parts.Goals as goal

pub returns-in_err-code-clause-asked : goal.returns-in_err-code-clause-asked
returns-in_err-code-clause-asked c =
    let p = err_from_is_err_and c.from_residual-in_err-code.result c.from_residual-in_err-code.ensures.1 in
    let bytes = c.args.bytes.now in
    let short : length (drop 8 bytes) ≤ length bytes - 8 = omega (arith, length-drop 8 bytes) in
    let whole = take_all (length bytes - 8) (drop 8 bytes) short in
    let head = sym c.has_head.ensures ∙ c.if-not-has_head.false in
    let read = rw (whole, c.version_of-version.ensures) at c.in_ok-maps.ensures.given in
    rw (p.1, p.2) (λ memory. asks_for_code bytes c.in_ok-maps.rest.now c.in_ok-maps.maps.items head read (c.in_err-code.ensures.asked memory))
