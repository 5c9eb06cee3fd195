use Rattle.std.proofs.Common.{◌≡◌, ◌∙◌, sym, arith, refl, Some, None}
use Rattle.ebpf_decode.specs.declared.fault.DecodeFault.{DecodeFault}
use Rattle.ebpf_decode.specs.ImageFormat.{first_part_fault}
use Rattle.disasm.proofs.shared.Texts.{same_parts, bad_after, faulty, no_fault}
use Rattle.disasm.proofs.assembling.image_of.Goals as goal
use Rattle.text_lines.proofs.shared.ByteLemmas.{not_empty, is_empty}

pub returns-then-not-is_empty-clause-refused : goal.returns-then-not-is_empty-clause-refused
returns-then-not-is_empty-clause-refused c =
    let some = not_empty c.is_empty.result c.in_ok-code.rest.now c.is_empty.ensures c.if-not-is_empty.true in
    rw (c.bad_line_after.ensures, c.deref.ensures.value, c.deref-then-not-is_empty.ensures.value) (bad_after c.args.version c.args.text.now c.args.body.now c.in_ok-maps.program.now c.in_ok-code.rest.now c.in_ok-maps.maps.items c.in_ok-code.code.items c.requires c.in_ok-maps.ensures c.in_ok-code.ensures some)

pub returns-then-not-is_empty-clause-accepts : goal.returns-then-not-is_empty-clause-accepts
returns-then-not-is_empty-clause-accepts c = λ image is.
    let some = not_empty c.is_empty.result c.in_ok-code.rest.now c.is_empty.ensures c.if-not-is_empty.true in
    let same = same_parts c.args.version c.args.text.now c.args.body.now c.in_ok-maps.program.now c.in_ok-code.rest.now c.in_ok-maps.maps.items c.in_ok-code.code.items c.requires c.in_ok-maps.ensures c.in_ok-code.ensures image is in
    absurd (omega (arith, rw same.3 at some))

pub returns-in-Ok-clause-only : goal.returns-in-Ok-clause-only
returns-in-Ok-clause-only c = λ image is.
    let same = same_parts c.args.version c.args.text.now c.args.body.now c.in_ok-maps.program.now c.in_ok-code.rest.now c.in_ok-maps.maps.items c.in_ok-code.code.items c.requires c.in_ok-maps.ensures c.in_ok-code.ensures image is in
    rw (c.in-Ok.ensures.made, same.0, same.1, same.2) refl

pub returns-in-Err-clause-refused : goal.returns-in-Err-clause-refused
returns-in-Err-clause-refused c =
    let empty = is_empty c.is_empty.result c.in_ok-code.rest.now c.is_empty.ensures c.if-not-is_empty.false in
    faulty c.args.version c.args.text.now c.args.body.now c.in_ok-maps.program.now c.in_ok-code.rest.now c.in_ok-maps.maps.items c.in_ok-code.code.items c.in-Err.fault c.requires c.in_ok-maps.ensures c.in_ok-code.ensures empty (sym c.in-Err.ensures.fault)

pub returns-in-Err-clause-accepts : goal.returns-in-Err-clause-accepts
returns-in-Err-clause-accepts c = λ image is.
    let same = same_parts c.args.version c.args.text.now c.args.body.now c.in_ok-maps.program.now c.in_ok-code.rest.now c.in_ok-maps.maps.items c.in_ok-code.code.items c.requires c.in_ok-maps.ensures c.in_ok-code.ensures image is in
    let none : first_part_fault c.args.version c.in_ok-maps.maps.items c.in_ok-code.code.items ≡ None = rw (same.0, same.1, same.2) (no_fault image.version image.maps image.code is.encodable) in
    let clash : Some c.in-Err.fault ≡ None = c.in-Err.ensures.fault ∙ none in
    absurd (some_not_none c.in-Err.fault clash) where
      some_not_none : (fault : DecodeFault) → Some fault ≡ None → ⊥
      some_not_none fault e = cc
