-- The outer header's checksum, as the block works it out: over words of four and of two bytes, the low byte first.
use Rattle.std.proofs.Common.{◌≡◌, ℕ, zero, suc, ◌+◌, ◌-◌, ◌*◌, ◌%◌, ◌/◌, ◌^◌, ◌<◌, ◌≤◌, List, [], ◌∷◌, sym, ap, subst, arith, ◌∙◌}
use Rattle.std.specs.Prelude.{bit_and, bit_xor}
use Rattle.std.specs.Int.Bits.{xor_add_and}
use Rattle.std.proofs.lemmas.Nat.{and_mask}
use Rattle.wire.specs.Checksum.{ones_add, ones_sum_of}
use Rattle.wire.specs.FlowBytes.{be_bytes}
use Rattle.semantics.specs.LittleEndian.{bytes_of_number, number_of_bytes}
use Rattle.steer.proofs.Tunnelling.{header_with, header_checksum}

-- ---- ones' complement sums: what represents a plain sum

-- the plain sum modulo 65535, between 1 and 65535 unless it is 0
pub record StandsFor (folded total : ℕ) : Type 0 where
  pub at_most : folded ≤ 65535
  pub times : ℕ
  pub same : folded + 65535 * times ≡ total
  pub some : 0 < total → 0 < folded

nothing : StandsFor 0 0
nothing = record { at_most = omega arith; times = 0; same = omega arith; some = λ more. more }

one_more : (folded total word : ℕ) → StandsFor folded total → word ≤ 65535 → StandsFor (ones_add folded word) (total + word)
one_more folded total word stands small =
    let at_most : folded ≤ 65535 = stands.at_most in
    let same : folded + 65535 * stands.times ≡ total = stands.same in
    record {
      at_most = (let below : (folded + word) % 65536 + (folded + word) / 65536 ≤ 65535 = omega arith in below);
      times = stands.times + (folded + word) / 65536;
      same = (let is : (folded + word) % 65536 + (folded + word) / 65536 + 65535 * (stands.times + (folded + word) / 65536) ≡ total + word = omega arith in is);
      some = λ more. positive folded total word stands at_most small more;
    }
  where
    positive : (folded total word : ℕ) → StandsFor folded total → folded ≤ 65535 → word ≤ 65535 → 0 < total + word → 0 < (folded + word) % 65536 + (folded + word) / 65536
    positive folded zero word stands at_most small more = omega arith
    positive folded (suc total) word stands at_most small more =
        let above : 0 < folded = stands.some (let one : 0 < suc total = omega arith in one) in omega arith

-- ---- the block's folds

abbrev pub fold_once : ℕ → ℕ
fold_once x = (bit_and x 65535 + x / 65536) % 18446744073709551616

fold_is : (x : ℕ) → x < 1099511627776 → fold_once x ≡ x % 65536 + x / 65536
fold_is x small =
    ap (λ n. (n + x / 65536) % 18446744073709551616) (and_mask x 16) ∙ (let is : (x % 2 ^ 16 + x / 65536) % 18446744073709551616 ≡ x % 65536 + x / 65536 = omega arith in is)

three_folds : (x : ℕ) → 0 < x → x < 8590934592 → StandsFor (fold_once (fold_once (fold_once x))) x
three_folds x some small =
    let one : fold_once x ≡ x % 65536 + x / 65536 = fold_is x (omega arith) in
    let below : fold_once x ≤ 196640 = omega arith in
    let two : fold_once (fold_once x) ≡ fold_once x % 65536 + fold_once x / 65536 = fold_is (fold_once x) (omega arith) in
    let lower : fold_once (fold_once x) ≤ 65538 = omega arith in
    let three : fold_once (fold_once (fold_once x)) ≡ fold_once (fold_once x) % 65536 + fold_once (fold_once x) / 65536 = fold_is (fold_once (fold_once x)) (omega arith) in
    record {
      at_most = omega arith;
      times = x / 65536 + fold_once x / 65536 + fold_once (fold_once x) / 65536;
      same = omega arith;
      some = λ more. omega arith;
    }

-- ---- one number and the other with its bytes swapped

complement_bytes : (folded sum low_total high_total carried beyond : ℕ) → StandsFor folded low_total → StandsFor sum high_total → 0 < low_total → 0 < high_total →
    low_total + 65535 * carried ≡ 256 * high_total + 65535 * beyond →
    bytes_of_number 2 (bit_xor folded 65535) ≡ be_bytes (65535 - sum)
complement_bytes folded sum low_total high_total carried beyond low high low_some high_some carries =
    let folded_most : folded ≤ 65535 = low.at_most in
    let folded_some : 0 < folded = low.some low_some in
    let folded_is : folded + 65535 * low.times ≡ low_total = low.same in
    let sum_most : sum ≤ 65535 = high.at_most in
    let sum_some : 0 < sum = high.some high_some in
    let sum_is : sum + 65535 * high.times ≡ high_total = high.same in
    let swapped : folded % 256 * 256 + folded / 256 ≡ sum = omega arith in
    let masked : bit_and folded 65535 ≡ folded % 2 ^ 16 = and_mask folded 16 in
    let both : bit_xor folded 65535 + bit_and folded 65535 * 2 ≡ folded + 65535 = xor_add_and folded 65535 in
    let xored : bit_xor folded 65535 ≡ 65535 - folded = omega arith in
    let first : bit_xor folded 65535 % 256 ≡ (65535 - sum) / 256 = omega arith in
    let second : bit_xor folded 65535 / 256 % 256 ≡ (65535 - sum) % 256 = omega arith in
    (λ i. first i ∷ second i ∷ [])

-- ---- the outer header

module _ (service total s0 s1 s2 s3 t0 t1 t2 t3 : ℕ) (service_small : service < 256) (total_small : total ≤ 65535)
    (s0_small : s0 < 256) (s1_small : s1 < 256) (s2_small : s2 < 256) (s3_small : s3 < 256)
    (t0_small : t0 < 256) (t1_small : t1 < 256) (t2_small : t2 < 256) (t3_small : t3 < 256) where
  abbrev pub source : List ℕ
  source = s0 ∷ s1 ∷ s2 ∷ s3 ∷ []

  abbrev pub target : List ℕ
  target = t0 ∷ t1 ∷ t2 ∷ t3 ∷ []

  -- high byte first
  abbrev high_first : ℕ
  high_first = 0 + (69 * 256 + service) + (total / 256 * 256 + total % 256) + (0 * 256 + 0) + (64 * 256 + 0) + (64 * 256 + 4) + (0 * 256 + 0)
      + (s0 * 256 + s1) + (s2 * 256 + s3) + (t0 * 256 + t1) + (t2 * 256 + t3)

  by_words : StandsFor (ones_sum_of (header_with 0 service total source target)) high_first
  by_words =
      one_more _ _ _ (one_more _ _ _ (one_more _ _ _ (one_more _ _ _ (one_more _ _ _ (one_more _ _ _ (one_more _ _ _ (one_more _ _ _ (one_more _ _ _ (one_more _ _ _
      nothing (let small : 69 * 256 + service ≤ 65535 = omega arith in small)) (let small : total / 256 * 256 + total % 256 ≤ 65535 = omega arith in small))
      (let small : 0 ≤ 65535 = omega arith in small)) (let small : 16384 ≤ 65535 = omega arith in small)) (let small : 16388 ≤ 65535 = omega arith in small))
      (let small : 0 ≤ 65535 = omega arith in small))
      (let small : s0 * 256 + s1 ≤ 65535 = omega arith in small)) (let small : s2 * 256 + s3 ≤ 65535 = omega arith in small))
      (let small : t0 * 256 + t1 ≤ 65535 = omega arith in small)) (let small : t2 * 256 + t3 ≤ 65535 = omega arith in small)

  -- low byte first, in words of four bytes and of two
  abbrev low_first : ℕ
  low_first = number_of_bytes source + number_of_bytes target + (69 + 256 * service) + number_of_bytes (be_bytes total) + 1152

  abbrev pub added : ℕ
  added =
      ((((number_of_bytes source + number_of_bytes target) % 18446744073709551616 + (69 + 256 * service)) % 18446744073709551616
      + number_of_bytes (be_bytes total)) % 18446744073709551616 + 1152) % 18446744073709551616

  added_is : added ≡ low_first
  added_is = omega arith

  pub checksum_field : bytes_of_number 2 (bit_xor (fold_once (fold_once (fold_once added))) 65535) ≡ be_bytes (header_checksum service total source target)
  checksum_field =
      let small : low_first < 8590934592 = omega arith in
      let some : 0 < low_first = omega arith in
      let more : 0 < high_first = omega arith in
      let folded : StandsFor (fold_once (fold_once (fold_once added))) low_first =
      subst (λ x. StandsFor (fold_once (fold_once (fold_once x))) low_first) (sym added_is) (three_folds low_first some small) in
      let carries : low_first + 65535 * (69 + total / 256 + 128 + s0 + t0) ≡ 256 * high_first + 65535 * (256 * s3 + 256 * t3) = omega arith in
      complement_bytes (fold_once (fold_once (fold_once added))) (ones_sum_of (header_with 0 service total source target)) low_first high_first
      (69 + total / 256 + 128 + s0 + t0) (256 * s3 + 256 * t3) folded by_words some more carries
