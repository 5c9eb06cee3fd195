use Rattle.std.proofs.Common.{◌≡◌, slice_index_or, arith}
use Rattle.std.proofs.lemmas.List.{get_or_default}
use Rattle.wire.proofs.frame_buffer.with_byte_range.Goals as goal

pub returns-clause-byte_range : goal.returns-clause-byte_range
returns-clause-byte_range c =
    λ k d within.
    let same : slice_index_or c.args.bytes.now k d ≡ slice_index_or c.args.bytes.now k 0 = get_or_default c.args.bytes.now k d 0 within in
    omega (arith, c.type_inv.bytes k)
