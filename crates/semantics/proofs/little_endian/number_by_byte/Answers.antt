use Rattle.std.proofs.Common.{◌≡◌, suc, ◌+◌, ◌*◌, ◌^◌, ◌<◌, length, ◌-◌, arith}
use Rattle.std.proofs.Math.Facts.{Fits-of_lt, Fits-lt-pow}
use Rattle.semantics.proofs.shared.LittleEndianLemmas.{below-more, fits-more, number_of_bytes-step}
use Rattle.semantics.proofs.little_endian.number_by_byte.Goals as goal

pub overflow_mul-number : goal.overflow_mul-number
overflow_mul-number c =
    let few : length c.args.bytes.now - c.higher.from < 8 = omega arith in
    Fits-of_lt (let h : c.higher.number * 256 + 0 < 2 ^ 64 = fits-more c.higher.number 0 _ c.higher.invariant.small (omega arith) few in omega arith)

pub overflow_add-number : goal.overflow_add-number
overflow_add-number c =
    let few : length c.args.bytes.now - c.higher.from < 8 = omega arith in
    let byte : c.from.result < 256 = rw c.from.ensures (Fits-lt-pow (c.type_inv.bytes (c.higher.from - 1))) in
    Fits-of_lt (fits-more c.higher.number c.from.result _ c.higher.invariant.small byte few)

pub higher-preserved : goal.higher-preserved
higher-preserved c =
    let byte : c.from.result < 256 = rw c.from.ensures (Fits-lt-pow (c.type_inv.bytes (c.higher.from - 1))) in
    let one_more : length c.args.bytes.now - (c.higher.from - 1) ≡ suc (length c.args.bytes.now - c.higher.from) = omega arith in
    record {
      within = omega arith;
      small = rw one_more (below-more c.higher.number c.from.result _ c.higher.invariant.small byte);
      so_far = number_of_bytes-step c.args.bytes.now c.higher.from (c.higher.from - 1) c.higher.number c.from.result (omega arith) c.higher.invariant.within c.higher.invariant.so_far c.from.ensures;
    }
