-- Numbers and their bytes.
use Rattle.std.proofs.Common.{◌≡◌, ℕ, zero, suc, ◌+◌, ◌-◌, ◌*◌, ◌%◌, ◌/◌, ◌^◌, ◌<◌, ◌≤◌, ◌==◌, ◌++◌, Bool, true, List, [], ◌∷◌, refl, sym}
use Rattle.std.proofs.Common.{ap, arith, ◌∙◌, length}
use Rattle.std.specs.Prelude.{bit_and, bit_or, nat_le, nat_lt, if◌then◌else◌, pos, negsuc}
use Rattle.std.proofs.lemmas.Bool.Decides.{nat_tests}
use Rattle.isa.specs.Words.{signed_value, low_half}
use Rattle.wire.specs.FlowBytes.{be_bytes}
use Rattle.std.specs.Int.{swap_bytes, w16}
use Rattle.std.proofs.lemmas.Nat.{or_comm, or_shifted, and_block}
use Rattle.semantics.specs.LittleEndian.{bytes_of_number, number_of_bytes, reaches}
use Rattle.semantics.proofs.shared.LittleEndianLemmas.{number_of_bytes-cons}
use Rattle.steer.specs.PartStarts.{cells}

-- bytes are below 256
abbrev pub AreSmall : List ℕ → Type 0
AreSmall [] = Unit {0}
AreSmall (byte ∷ bytes) = (byte < 256) × AreSmall bytes

pub small_cells : (from count : ℕ) (byte : ℕ → ℕ) → ((n : ℕ) → byte n < 256) → AreSmall (cells from count byte)
small_cells from zero byte are = tt
small_cells from (suc count) byte are = (are from, small_cells (from + 1) count byte are)

pub bytes_back : (bytes : List ℕ) → AreSmall bytes → bytes_of_number (length bytes) (number_of_bytes bytes) ≡ bytes
bytes_back [] small = refl
bytes_back (byte ∷ rest) small =
    let whole : number_of_bytes (byte ∷ rest) ≡ number_of_bytes rest * 256 + byte = number_of_bytes-cons byte rest in
    let here : byte < 256 = small.0 in
    let low : number_of_bytes (byte ∷ rest) % 256 ≡ byte = omega arith in
    let high : number_of_bytes (byte ∷ rest) / 256 ≡ number_of_bytes rest = omega arith in
    (λ i. low i ∷ (ap (bytes_of_number (length rest)) high ∙ bytes_back rest small.1) i)

-- the upper four of eight bytes
pub upper_four : (a b c d : ℕ) (rest : List ℕ) → AreSmall (a ∷ b ∷ c ∷ d ∷ []) → number_of_bytes (a ∷ b ∷ c ∷ d ∷ rest) / 4294967296 ≡ number_of_bytes rest
upper_four a b c d rest small =
    let one : number_of_bytes (a ∷ b ∷ c ∷ d ∷ rest) ≡ number_of_bytes (b ∷ c ∷ d ∷ rest) * 256 + a = number_of_bytes-cons a (b ∷ c ∷ d ∷ rest) in
    let two : number_of_bytes (b ∷ c ∷ d ∷ rest) ≡ number_of_bytes (c ∷ d ∷ rest) * 256 + b = number_of_bytes-cons b (c ∷ d ∷ rest) in
    let three : number_of_bytes (c ∷ d ∷ rest) ≡ number_of_bytes (d ∷ rest) * 256 + c = number_of_bytes-cons c (d ∷ rest) in
    let four : number_of_bytes (d ∷ rest) ≡ number_of_bytes rest * 256 + d = number_of_bytes-cons d rest in
    let a_small : a < 256 = small.0 in
    let b_small : b < 256 = small.1.0 in
    let c_small : c < 256 = small.1.1.0 in
    let d_small : d < 256 = small.1.1.1.0 in
    omega arith

-- a service's port and transport, from the upper half of four bytes and the protocol
pub port_word : (a b c d protocol : ℕ) → a < 256 → b < 256 → c < 256 → d < 256 → protocol < 256 →
    bit_or (number_of_bytes (a ∷ b ∷ c ∷ d ∷ []) / 65536) ((protocol * 65536) % 18446744073709551616) ≡ number_of_bytes (c ∷ d ∷ protocol ∷ 0 ∷ [])
port_word a b c d protocol a_small b_small c_small d_small protocol_small =
    let upper : number_of_bytes (a ∷ b ∷ c ∷ d ∷ []) / 65536 ≡ c + 256 * d = omega arith in
    let shifted : (protocol * 65536) % 18446744073709551616 ≡ protocol * 2 ^ 16 = omega arith in
    let low : c + 256 * d < 2 ^ 16 = omega arith in
    (λ i. bit_or (upper i) (shifted i)) ∙ or_comm (c + 256 * d) (protocol * 2 ^ 16) ∙ or_shifted protocol 16 (c + 256 * d) low ∙ omega arith

pub one_byte_word : (byte : ℕ) → byte < 256 → bytes_of_number 4 byte ≡ byte ∷ 0 ∷ 0 ∷ 0 ∷ []
one_byte_word byte small =
    let same : byte ≡ number_of_bytes (byte ∷ 0 ∷ 0 ∷ 0 ∷ []) = omega arith in
    let zero_small : 0 < 256 = omega arith in
    ap (bytes_of_number 4) same ∙ bytes_back (byte ∷ 0 ∷ 0 ∷ 0 ∷ []) (small, (zero_small, (zero_small, (zero_small, tt))))

-- two bytes, high byte first
pub swapped_word : (high low : ℕ) → high < 256 → low < 256 → swap_bytes w16 ((high + 256 * low) % 65536) ≡ high * 256 + low
swapped_word high low high_small low_small =
    let whole : (high + 256 * low) % 65536 ≡ high + 256 * low = omega arith in
    ap (swap_bytes w16) whole ∙ omega arith

-- ---- the tests of a flow

pub ReachesSo : ℕ → List ℕ → Type 0
ReachesSo count items = reaches count items ≡ nat_le count (length items)

pub reaches_so : (count : ℕ) (items : List ℕ) → reaches count items ≡ nat_le count (length items)
reaches_so zero items = grind (arith, nat_tests)
reaches_so (suc count) [] = grind (arith, nat_tests)
reaches_so (suc count) (item ∷ items) = let below = reaches_so count items in grind (arith, nat_tests)

pub fragment_test : (low high : ℕ) → low < 256 → high < 256 → (bit_and (low + 256 * high) 65343 == 0) ≡ (bit_and (low * 256 + high) 16383 == 0)
fragment_test low high low_small high_small =
    let one : low + 256 * high ≡ high * 2 ^ 8 + low = omega arith in
    let two : low * 256 + high ≡ low * 2 ^ 8 + high = omega arith in
    let in_low : low < 2 ^ 8 = omega arith in
    let in_high : high < 2 ^ 8 = omega arith in
    let first : bit_and (low + 256 * high) 65343 ≡ bit_and high 255 * 2 ^ 8 + bit_and low 63 =
    ap (λ n. bit_and n 65343) one ∙ and_block 8 high 255 low 63 in_low (omega arith) in
    let second : bit_and (low * 256 + high) 16383 ≡ bit_and low 63 * 2 ^ 8 + bit_and high 255 =
    ap (λ n. bit_and n 16383) two ∙ and_block 8 low 63 high 255 in_high (omega arith) in
    (λ i. first i == 0) ∙ both (bit_and high 255) (bit_and low 63) ∙ sym (λ i. second i == 0)
  where
    both : (a b : ℕ) → (a * 2 ^ 8 + b == 0) ≡ (b * 2 ^ 8 + a == 0)
    both a b = grind (arith, nat_tests)

pub as_signed : (n : ℕ) → n < 65536 → signed_value 64 n ≡ pos n
as_signed n small = ap (λ (t : Bool). if t then pos n else negsuc (18446744073709551616 - suc n)) (let below : nat_lt n 9223372036854775808 ≡ true = grind (arith, nat_tests) in below)

-- ---- the new headers

pub small_number : (count n : ℕ) → AreSmall (bytes_of_number count n)
small_number zero n = tt
small_number (suc count) n = ((let below : n % 256 < 256 = omega arith in below), small_number count (n / 256))

pub low_four : (n : ℕ) → low_half n ≡ number_of_bytes (bytes_of_number 4 n)
low_four n = omega arith

pub low_four_bytes : (n : ℕ) → bytes_of_number 4 (low_half n) ≡ bytes_of_number 4 n
low_four_bytes n = ap (bytes_of_number 4) (low_four n) ∙ bytes_back (bytes_of_number 4 n) (small_number 4 n)

pub service_word : (service : ℕ) → service < 256 → bit_or ((service * 256) % 18446744073709551616) 69 ≡ 69 + 256 * service
service_word service small =
    let shifted : (service * 256) % 18446744073709551616 ≡ service * 2 ^ 8 = omega arith in
    let low : 69 < 2 ^ 8 = omega arith in
    ap (λ n. bit_or n 69) shifted ∙ or_shifted service 8 69 low ∙ omega arith

pub service_bytes : (service : ℕ) → service < 256 → bytes_of_number 2 (bit_or ((service * 256) % 18446744073709551616) 69) ≡ 69 ∷ service ∷ []
service_bytes service small =
    let low : 69 < 256 = omega arith in
    ap (bytes_of_number 2) (service_word service small) ∙ bytes_back (69 ∷ service ∷ []) (low, (small, tt))

abbrev pub swapped_total : ℕ → ℕ → ℕ
swapped_total high low = swap_bytes w16 (((swap_bytes w16 ((high + 256 * low) % 65536) + 20) % 18446744073709551616) % 65536)

pub total_word : (high low : ℕ) → high < 256 → low < 256 → high * 256 + low ≤ 2034 →
    swapped_total high low ≡ number_of_bytes (be_bytes (high * 256 + low + 20))
total_word high low high_small low_small short =
    ap (λ n. swap_bytes w16 (((n + 20) % 18446744073709551616) % 65536)) (swapped_word high low high_small low_small) ∙ omega arith

pub total_bytes : (high low : ℕ) → high < 256 → low < 256 → high * 256 + low ≤ 2034 →
    bytes_of_number 4 (swapped_total high low) ≡ be_bytes (high * 256 + low + 20) ++ 0 ∷ 0 ∷ []
total_bytes high low high_small low_small short =
    let first : (high * 256 + low + 20) / 256 < 256 = omega arith in
    let second : (high * 256 + low + 20) % 256 < 256 = omega arith in
    let none : 0 < 256 = omega arith in
    let padded : number_of_bytes (be_bytes (high * 256 + low + 20)) ≡ number_of_bytes (be_bytes (high * 256 + low + 20) ++ 0 ∷ 0 ∷ []) = omega arith in
    ap (bytes_of_number 4) (total_word high low high_small low_small short ∙ padded)
    ∙ bytes_back (be_bytes (high * 256 + low + 20) ++ 0 ∷ 0 ∷ []) (first, (second, (none, (none, tt))))
