use Rattle.std.proofs.Common.{sym, ◌∙◌, arith}
use Rattle.std.proofs.lemmas.Result.{err_from_is_err_and}
use Rattle.ebpf_decode.specs.ImageContents.{Contents}
use Rattle.ebpf_decode.proofs.shared.ImageLaws.{image_takes, read_again, only_memory}
use Rattle.ebpf_decode.proofs.reading.decode.Goals as goal

pub returns-in_err-version-clause-only : goal.returns-in_err-version-clause-only
returns-in_err-version-clause-only c =
    let p = err_from_is_err_and c.from_residual.result c.from_residual.ensures.1 in
    rw (p.1, p.2) (λ image is other. only_memory c.args.bytes.now c.in_err-version.field-0.0 image c.in_err-version.ensures.given is other)

pub new-requires : goal.new-requires
new-requires c =
    let made : Contents = record { version = c.in_ok-version.version; maps = c.in_ok-version.maps.items; code = c.in_ok-version.code.items } in
    (image_takes c.args.bytes.now made (λ i. omega (arith, c.type_inv.bytes i)) c.in_ok-version.ensures.given).encodable

pub returns-clause-found : goal.returns-clause-found
returns-clause-found c =
    let made : Contents = record { version = c.in_ok-version.version; maps = c.in_ok-version.maps.items; code = c.in_ok-version.code.items } in
    rw c.new.ensures (image_takes c.args.bytes.now made (λ i. omega (arith, c.type_inv.bytes i)) c.in_ok-version.ensures.given)

pub returns-clause-only : goal.returns-clause-only
returns-clause-only c = λ image is _. rw c.new.ensures (sym c.in_ok-version.ensures.given ∙ read_again c.args.bytes.now image is)
