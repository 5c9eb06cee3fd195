-- An interval that an operation or a cut returns represents all that the operation returns, or that the test lets through.
use Rattle.std.proofs.Common.{◌≡◌, ℕ, zero, suc, ◌+◌, ◌-◌, ◌*◌, ◌/◌, ◌%◌, ◌^◌, ◌<◌, ◌≤◌, Bool, true, false, refl, sym, ◌∙◌, arith, nat_lt, nat_le, ◌==◌, ◌&&◌, if◌then◌else◌, min, max, ap}
use Rattle.std.specs.Int.{w64, leading_zeros}
use Rattle.std.specs.Int.Count.{count_leading_zeros}
use Rattle.std.specs.Prelude.{bit_and, bit_or, bit_xor}
use Rattle.std.proofs.lemmas.Bool.{ltb-true, ltb-false, leb-true, leb-false, eqb-true, and_parts, not-false, cases_lt}
use Rattle.std.proofs.lemmas.Nat.{pow_pos, or_lt, xor_lt, and_le_l, and_le_r, mod_below, mul-le, le-div, leading_length}
use Rattle.std.proofs.Math.Logic.{⊎_elim}
use Rattle.std.proofs.Math.Nat.{mod-eq_of_lt, add-mod_right, div-mul-le_self, div-le_self, pow-suc}
use Rattle.isa.specs.Words.{width_bits, operand_at, low_half}
use Rattle.isa.specs.Alu.{alu_result, alu_value, neg_value, sign_extended, extension_bits, short_extension_bits}
use Rattle.isa.specs.Swap.{swap_bits, swap_result}
use Rattle.isa.specs.Test.{test_holds, test_taken}
use Rattle.isa.proofs.shared.Bounds.{alu_result-lt, neg_value-lt, operand_at-lt, width_fits, movsx64-lt, movsx32-lt, swap_result-lt}
use Rattle.isa.specs.declared.operation.Extension.{Extension}
use Rattle.isa.specs.declared.operation.ShortExtension.{ShortExtension}
use Rattle.isa.specs.declared.operation.ByteOrder.{ByteOrder}
use Rattle.isa.specs.declared.operation.SwapWidth.{SwapWidth}
use Rattle.isa.specs.declared.operation.Test.{Test}
use Rattle.isa.specs.declared.operation.Test.TheVariants.{Eq, Gt, Ge, Set, Ne, Sgt, Sge, Lt, Le, Slt, Sle}
use Rattle.isa.specs.declared.operation.Width.{Width}
use Rattle.isa.specs.declared.operation.Width.TheVariants.{Bits32, Bits64}
use Rattle.isa.specs.declared.operation.AluOp.{AluOp}
use Rattle.isa.specs.declared.operation.AluOp.TheVariants.{Add, Sub, Mul, Div, Sdiv, Or, And, Lsh, Rsh, Mod, Smod, Xor, Mov, Arsh}
use Rattle.abstract_scalar.specs.declared.interval.Interval.{Interval}
use Rattle.abstract_scalar.specs.Intervals.{Covers, interval_of, constant_of, is_single, full_of, hull_of}
use Rattle.abstract_scalar.specs.Transfer.{operand_interval, within, binary_digits, as_long_as, is_divisor, interval_row, transfer_of, neg_of, movsx64_of, movsx32_of, swap_of}
use Rattle.abstract_scalar.specs.Cuts.{kept_between, cut_of, refine_of}

-- ---- intervals

if_covers : (t : Bool) (i j : Interval) (n : ℕ) → (t ≡ true → Covers i n) → (t ≡ false → Covers j n) → Covers (if t then i else j) n
if_covers true i j n p q = p refl
if_covers false i j n p q = q refl

if_value : (t : Bool) (i : Interval) (x y : ℕ) → (t ≡ true → Covers i x) → (t ≡ false → Covers i y) → Covers i (if t then x else y)
if_value true i x y p q = p refl
if_value false i x y p q = q refl

from_low : (low high n : ℕ) → low ≤ n → n ≤ high → Covers (interval_of low high) n
from_low low high n p q = record { above = p; below = q }

pub full_covers : (bits n : ℕ) → n < 2 ^ bits → Covers (full_of bits) n
full_covers bits n h = from_low 0 (2 ^ bits - 1) n (omega arith) (omega arith)

-- a single number represents itself alone
pub single_is : (i : Interval) (n : ℕ) → is_single i ≡ true → Covers i n → n ≡ i.low
single_is i n s c = let e : i.low ≡ i.high = eqb-true i.low i.high s in let p : i.low ≤ n = c.above in let q : n ≤ i.high = c.below in omega arith

pub constant_covers : (n m : ℕ) → m ≡ n → Covers (constant_of n) m
constant_covers n m e = from_low n n m (omega arith) (omega arith)

pub hull_covers_left : (i j : Interval) (n : ℕ) → Covers i n → Covers (hull_of i j) n
hull_covers_left i j n c = let p : i.low ≤ n = c.above in let q : n ≤ i.high = c.below in from_low (min i.low j.low) (max i.high j.high) n (omega arith) (omega arith)

pub hull_covers_right : (i j : Interval) (n : ℕ) → Covers j n → Covers (hull_of i j) n
hull_covers_right i j n c = let p : j.low ≤ n = c.above in let q : n ≤ j.high = c.below in from_low (min i.low j.low) (max i.high j.high) n (omega arith) (omega arith)

-- ---- operands

low_half-of_lt : (n : ℕ) → n < 2 ^ 32 → low_half n ≡ n
low_half-of_lt n h = mod-eq_of_lt h

pub operand_covers : (width : Width) (i : Interval) (n : ℕ) → Covers i n → Covers (operand_interval width i) (operand_at width n)
operand_covers Bits64 i n c = c
operand_covers Bits32 i n c =
    if_covers (is_single i) (constant_of (low_half i.low)) (if nat_lt i.high (2 ^ 32) then i else full_of 32) (low_half n)
    (λ s. constant_covers (low_half i.low) (low_half n) (ap low_half (single_is i n s c)))
    (λ _. if_covers (nat_lt i.high (2 ^ 32)) i (full_of 32) (low_half n)
    (λ t. let h : i.high < 2 ^ 32 = ltb-true i.high (2 ^ 32) t
    in let q : n ≤ i.high = c.below
    in let l : n < 2 ^ 32 = omega arith
    in rw (low_half-of_lt n l) c)
    (λ _. full_covers 32 (low_half n) (mod_below n (2 ^ 32) (pow_pos 32))))

-- ---- rows

within_covers : (bits low high n : ℕ) → low ≤ n → n ≤ high → (m : ℕ) → (n < 2 ^ bits → m ≡ n) → m < 2 ^ bits → Covers (within bits low high) m
within_covers bits low high n p q m e h =
    if_covers (nat_lt low (2 ^ bits) && nat_lt high (2 ^ bits)) (interval_of low high) (full_of bits) m
    (λ t. let parts = and_parts (nat_lt low (2 ^ bits)) (nat_lt high (2 ^ bits)) t
    in let r : high < 2 ^ bits = ltb-true high (2 ^ bits) parts.1
    in let s : n < 2 ^ bits = omega arith
    in let d : m ≡ n = e s
    in from_low low high m (omega arith) (omega arith))
    (λ _. full_covers bits m h)

sum_covers : (bits : ℕ) (i j : Interval) (a b : ℕ) → Covers i a → Covers j b → Covers (interval_row bits Add i j) ((a + b) % 2 ^ bits)
sum_covers bits i j a b c d =
    let p : i.low ≤ a = c.above in let q : a ≤ i.high = c.below in let r : j.low ≤ b = d.above in let s : b ≤ j.high = d.below
    in within_covers bits (i.low + j.low) (i.high + j.high) (a + b) (omega arith) (omega arith) ((a + b) % 2 ^ bits) (λ h. mod-eq_of_lt h) (mod_below (a + b) (2 ^ bits) (pow_pos bits))

product_covers : (bits : ℕ) (i j : Interval) (a b : ℕ) → Covers i a → Covers j b → Covers (interval_row bits Mul i j) ((a * b) % 2 ^ bits)
product_covers bits i j a b c d =
    within_covers bits (i.low * j.low) (i.high * j.high) (a * b) (mul-le i.low j.low a b c.above d.above) (mul-le a b i.high j.high c.below d.below) ((a * b) % 2 ^ bits) (λ h. mod-eq_of_lt h) (mod_below (a * b) (2 ^ bits) (pow_pos bits))

-- what is taken away is no more than what is there
difference_is : (m a b : ℕ) → b ≤ a → a < m → (a + (m - b)) % m ≡ a - b
difference_is m a b h l =
    let e : a + (m - b) ≡ (a - b) + m = omega arith
    in let s : a - b < m = omega arith
    in ap (λ x. x % m) e ∙ (add-mod_right (a - b) m ∙ mod-eq_of_lt s)

difference_covers : (bits : ℕ) (i j : Interval) (a b : ℕ) → a < 2 ^ bits → Covers i a → Covers j b → Covers (interval_row bits Sub i j) ((a + (2 ^ bits - b)) % 2 ^ bits)
difference_covers bits i j a b l c d =
    let p : i.low ≤ a = c.above in let q : a ≤ i.high = c.below in let r : j.low ≤ b = d.above in let s : b ≤ j.high = d.below
    in if_covers (nat_le j.high i.low) (interval_of (i.low - j.high) (i.high - j.low)) (full_of bits) ((a + (2 ^ bits - b)) % 2 ^ bits)
    (λ t. let h : j.high ≤ i.low = leb-true j.high i.low t
    in let k : b ≤ a = omega arith
    in let e : (a + (2 ^ bits - b)) % 2 ^ bits ≡ a - b = difference_is (2 ^ bits) a b k l
    in from_low (i.low - j.high) (i.high - j.low) ((a + (2 ^ bits - b)) % 2 ^ bits) (omega arith) (omega arith))
    (λ _. full_covers bits ((a + (2 ^ bits - b)) % 2 ^ bits) (mod_below (a + (2 ^ bits - b)) (2 ^ bits) (pow_pos bits)))

quotient_grows : (a b k : ℕ) → 0 < k → a ≤ b → a / k ≤ b / k
quotient_grows a b k h p = le-div (a / k) b k h (let e : a / k * k ≤ a = div-mul-le_self a k in omega arith)

quotient_covers : (bits : ℕ) (i j : Interval) (a b : ℕ) → Covers i a → Covers j b → Covers (interval_row bits Div i j) (alu_result bits Div a b)
quotient_covers bits i j a b c d =
    let q : a ≤ i.high = c.below
    in let l : a / b ≤ a = div-le_self a b
    in if_covers (is_divisor j) (interval_of (i.low / j.low) (i.high / j.low)) (interval_of 0 i.high) (alu_result bits Div a b)
    (λ t. let parts = and_parts (is_single j) (nat_lt 0 j.low) t
    in let e : b ≡ j.low = single_is j b parts.0 d
    in let h : 0 < j.low = ltb-true 0 j.low parts.1
    in if_value (b == 0) (interval_of (i.low / j.low) (i.high / j.low)) 0 (a / b)
    (λ z. let w : b ≡ 0 = eqb-true b 0 z in absurd (omega arith))
    (λ _. rw e (from_low (i.low / j.low) (i.high / j.low) (a / j.low) (quotient_grows i.low a j.low h c.above) (quotient_grows a i.high j.low h c.below))))
    (λ _. if_value (b == 0) (interval_of 0 i.high) 0 (a / b) (λ _. from_low 0 i.high 0 (omega arith) (omega arith)) (λ _. from_low 0 i.high (a / b) (omega arith) (omega arith)))

remainder_covers : (bits : ℕ) (i j : Interval) (a b : ℕ) → Covers i a → Covers j b → Covers (interval_row bits Mod i j) (alu_result bits Mod a b)
remainder_covers bits i j a b c d =
    let q : a ≤ i.high = c.below
    in let l : a % b ≤ a = omega arith
    in if_covers (is_divisor j) (if nat_lt i.high j.low then i else interval_of 0 (j.low - 1)) (interval_of 0 i.high) (alu_result bits Mod a b)
    (λ t. let parts = and_parts (is_single j) (nat_lt 0 j.low) t
    in let e : b ≡ j.low = single_is j b parts.0 d
    in let h : 0 < j.low = ltb-true 0 j.low parts.1
    in if_value (b == 0) (if nat_lt i.high j.low then i else interval_of 0 (j.low - 1)) a (a % b)
    (λ z. let w : b ≡ 0 = eqb-true b 0 z in absurd (omega arith))
    (λ _. rw e (if_covers (nat_lt i.high j.low) i (interval_of 0 (j.low - 1)) (a % j.low)
    (λ u. let r : i.high < j.low = ltb-true i.high j.low u
    in let s : a < j.low = omega arith
    in let m : a % j.low ≡ a = mod-eq_of_lt s
    in rw m c)
    (λ _. let r : a % j.low < j.low = mod_below a j.low h in from_low 0 (j.low - 1) (a % j.low) (omega arith) (omega arith)))))
    (λ _. if_value (b == 0) (interval_of 0 i.high) a (a % b) (λ _. from_low 0 i.high a (omega arith) (omega arith)) (λ _. from_low 0 i.high (a % b) (omega arith) (omega arith)))

-- a number is below the power of two with as many binary digits
digits_bound : (n : ℕ) → n < 2 ^ 64 → n < 2 ^ binary_digits n
digits_bound n h =
    let found = leading_length 64 n h
    in let e : binary_digits n ≡ found.0 = (let s : leading_zeros w64 n + found.0 ≡ 64 = found.1 in omega arith)
    in rw e (found.2)

leading_of_large : (k n : ℕ) → 2 ^ k ≤ n → count_leading_zeros k n ≡ 0
unfolding count_leading_zeros
leading_of_large zero n h = refl
leading_of_large (suc k) zero h = absurd (let p : 0 < 2 ^ suc k = pow_pos (suc k) in omega arith)
leading_of_large (suc k) (suc n) h =
    leading_of_large k (suc n / 2) (le-div (2 ^ k) (suc n) 2 (omega arith) (let e : 2 ^ suc k ≡ 2 ^ k * 2 = pow-suc 2 k in omega arith))

-- so is each 64-bit number up to it
digits_cover : (m n : ℕ) → n ≤ m → n < 2 ^ 64 → n < 2 ^ binary_digits m
digits_cover m n h l = ⊎_elim
    (λ small. let b : m < 2 ^ binary_digits m = digits_bound m small in omega arith)
    (λ large. let z : count_leading_zeros 64 m ≡ 0 = leading_of_large 64 m large
    in let e : binary_digits m ≡ 64 = (let y : leading_zeros w64 m ≡ 0 = z in omega arith)
    in rw e l)
    (cases_lt m (2 ^ 64))

as_long_covers : (m n : ℕ) → n < 2 ^ binary_digits m → Covers (as_long_as m) n
as_long_covers m n h = from_low 0 (2 ^ binary_digits m - 1) n (omega arith) (omega arith)

or_covers : (bits : ℕ) (i j : Interval) (a b : ℕ) → a < 2 ^ 64 → b < 2 ^ 64 → Covers i a → Covers j b → Covers (interval_row bits Or i j) (bit_or a b)
or_covers bits i j a b p q c d =
    let r : a ≤ i.high = c.below in let s : b ≤ j.high = d.below
    in let m : a < 2 ^ binary_digits (max i.high j.high) = digits_cover (max i.high j.high) a (omega arith) p
    in let n : b < 2 ^ binary_digits (max i.high j.high) = digits_cover (max i.high j.high) b (omega arith) q
    in as_long_covers (max i.high j.high) (bit_or a b) (or_lt (binary_digits (max i.high j.high)) a b m n)

xor_covers : (bits : ℕ) (i j : Interval) (a b : ℕ) → a < 2 ^ 64 → b < 2 ^ 64 → Covers i a → Covers j b → Covers (interval_row bits Xor i j) (bit_xor a b)
xor_covers bits i j a b p q c d =
    let r : a ≤ i.high = c.below in let s : b ≤ j.high = d.below
    in let m : a < 2 ^ binary_digits (max i.high j.high) = digits_cover (max i.high j.high) a (omega arith) p
    in let n : b < 2 ^ binary_digits (max i.high j.high) = digits_cover (max i.high j.high) b (omega arith) q
    in as_long_covers (max i.high j.high) (bit_xor a b) (xor_lt (binary_digits (max i.high j.high)) a b m n)

and_covers : (bits : ℕ) (i j : Interval) (a b : ℕ) → Covers i a → Covers j b → Covers (interval_row bits And i j) (bit_and a b)
and_covers bits i j a b c d =
    let p : bit_and a b ≤ a = and_le_l a b in let q : bit_and a b ≤ b = and_le_r a b
    in let r : a ≤ i.high = c.below in let s : b ≤ j.high = d.below
    in from_low 0 (min i.high j.high) (bit_and a b) (omega arith) (omega arith)

left_shift_covers : (bits : ℕ) (i j : Interval) (a b : ℕ) → Covers i a → Covers j b → Covers (interval_row bits Lsh i j) ((a * 2 ^ (b % bits)) % 2 ^ bits)
left_shift_covers bits i j a b c d =
    if_covers (is_single j) (within bits (i.low * 2 ^ (j.low % bits)) (i.high * 2 ^ (j.low % bits))) (full_of bits) ((a * 2 ^ (b % bits)) % 2 ^ bits)
    (λ t. let e : b ≡ j.low = single_is j b t d
    in rw e (product_covers bits i (constant_of (2 ^ (j.low % bits))) a (2 ^ (j.low % bits)) c (constant_covers (2 ^ (j.low % bits)) (2 ^ (j.low % bits)) refl)))
    (λ _. full_covers bits ((a * 2 ^ (b % bits)) % 2 ^ bits) (mod_below (a * 2 ^ (b % bits)) (2 ^ bits) (pow_pos bits)))

right_shift_covers : (bits : ℕ) (i j : Interval) (a b : ℕ) → Covers i a → Covers j b → Covers (interval_row bits Rsh i j) (a / 2 ^ (b % bits))
right_shift_covers bits i j a b c d =
    let q : a ≤ i.high = c.below
    in let l : a / 2 ^ (b % bits) ≤ a = div-le_self a (2 ^ (b % bits))
    in if_covers (is_single j) (interval_of (i.low / 2 ^ (j.low % bits)) (i.high / 2 ^ (j.low % bits))) (interval_of 0 i.high) (a / 2 ^ (b % bits))
    (λ t. let e : b ≡ j.low = single_is j b t d
    in rw e (from_low (i.low / 2 ^ (j.low % bits)) (i.high / 2 ^ (j.low % bits)) (a / 2 ^ (j.low % bits))
    (quotient_grows i.low a (2 ^ (j.low % bits)) (pow_pos (j.low % bits)) c.above)
    (quotient_grows a i.high (2 ^ (j.low % bits)) (pow_pos (j.low % bits)) c.below)))
    (λ _. from_low 0 i.high (a / 2 ^ (b % bits)) (omega arith) (omega arith))

-- each row of the table
row_covers : (bits : ℕ) (operation : AluOp) (i j : Interval) (a b : ℕ) → 2 ^ bits ≡ 2 * 2 ^ (bits - 1) → a < 2 ^ 64 → b < 2 ^ 64 → a < 2 ^ bits → b < 2 ^ bits → Covers i a → Covers j b → Covers (interval_row bits operation i j) (alu_result bits operation a b)
row_covers bits Add i j a b e p q l m c d = sum_covers bits i j a b c d
row_covers bits Sub i j a b e p q l m c d = difference_covers bits i j a b l c d
row_covers bits Mul i j a b e p q l m c d = product_covers bits i j a b c d
row_covers bits Div i j a b e p q l m c d = quotient_covers bits i j a b c d
row_covers bits Sdiv i j a b e p q l m c d = full_covers bits (alu_result bits Sdiv a b) (alu_result-lt bits Sdiv a b e l m)
row_covers bits Or i j a b e p q l m c d = or_covers bits i j a b p q c d
row_covers bits And i j a b e p q l m c d = and_covers bits i j a b c d
row_covers bits Lsh i j a b e p q l m c d = left_shift_covers bits i j a b c d
row_covers bits Rsh i j a b e p q l m c d = right_shift_covers bits i j a b c d
row_covers bits Mod i j a b e p q l m c d = remainder_covers bits i j a b c d
row_covers bits Smod i j a b e p q l m c d = full_covers bits (alu_result bits Smod a b) (alu_result-lt bits Smod a b e l m)
row_covers bits Xor i j a b e p q l m c d = xor_covers bits i j a b p q c d
row_covers bits Mov i j a b e p q l m c d = d
row_covers bits Arsh i j a b e p q l m c d = full_covers bits (alu_result bits Arsh a b) (alu_result-lt bits Arsh a b e l m)

-- ---- operations

halves : (width : Width) → 2 ^ width_bits width ≡ 2 * 2 ^ (width_bits width - 1)
halves Bits32 = refl
halves Bits64 = refl

operand_fits : (width : Width) (n : ℕ) → n < 2 ^ 64 → operand_at width n < 2 ^ 64
operand_fits width n h = width_fits width (operand_at width n) (operand_at-lt width n h)

-- what an operation returns of covered numbers is covered
pub transfer_covers : (width : Width) (operation : AluOp) (i j : Interval) (a b : ℕ) → a < 2 ^ 64 → b < 2 ^ 64 → Covers i a → Covers j b → Covers (transfer_of width operation i j) (alu_value width operation a b)
transfer_covers width operation i j a b p q c d =
    if_covers (is_single i && is_single j) (constant_of (alu_value width operation i.low j.low))
    (interval_row (width_bits width) operation (operand_interval width i) (operand_interval width j)) (alu_value width operation a b)
    (λ t. let parts = and_parts (is_single i) (is_single j) t
    in let e : a ≡ i.low = single_is i a parts.0 c
    in let f : b ≡ j.low = single_is j b parts.1 d
    in constant_covers (alu_value width operation i.low j.low) (alu_value width operation a b) (ap (λ x. alu_value width operation x b) e ∙ ap (λ x. alu_value width operation i.low x) f))
    (λ _. row_covers (width_bits width) operation (operand_interval width i) (operand_interval width j) (operand_at width a) (operand_at width b) (halves width)
    (operand_fits width a p) (operand_fits width b q) (operand_at-lt width a p) (operand_at-lt width b q) (operand_covers width i a c) (operand_covers width j b d))

pub neg_covers : (width : Width) (i : Interval) (a : ℕ) → Covers i a → Covers (neg_of width i) (neg_value width a)
neg_covers width i a c =
    if_covers (is_single i) (constant_of (neg_value width i.low)) (full_of (width_bits width)) (neg_value width a)
    (λ t. constant_covers (neg_value width i.low) (neg_value width a) (ap (neg_value width) (single_is i a t c)))
    (λ _. full_covers (width_bits width) (neg_value width a) (neg_value-lt width a))

pub movsx64_covers : (extension : Extension) (i : Interval) (a : ℕ) → Covers i a → Covers (movsx64_of extension i) (sign_extended (extension_bits extension) 64 a)
movsx64_covers extension i a c =
    if_covers (is_single i) (constant_of (sign_extended (extension_bits extension) 64 i.low)) (full_of 64) (sign_extended (extension_bits extension) 64 a)
    (λ t. constant_covers (sign_extended (extension_bits extension) 64 i.low) (sign_extended (extension_bits extension) 64 a) (ap (sign_extended (extension_bits extension) 64) (single_is i a t c)))
    (λ _. full_covers 64 (sign_extended (extension_bits extension) 64 a) (movsx64-lt extension a))

pub movsx32_covers : (extension : ShortExtension) (i : Interval) (a : ℕ) → Covers i a → Covers (movsx32_of extension i) (sign_extended (short_extension_bits extension) 32 a)
movsx32_covers extension i a c =
    if_covers (is_single i) (constant_of (sign_extended (short_extension_bits extension) 32 i.low)) (full_of 32) (sign_extended (short_extension_bits extension) 32 a)
    (λ t. constant_covers (sign_extended (short_extension_bits extension) 32 i.low) (sign_extended (short_extension_bits extension) 32 a) (ap (sign_extended (short_extension_bits extension) 32) (single_is i a t c)))
    (λ _. full_covers 32 (sign_extended (short_extension_bits extension) 32 a) (movsx32-lt extension a))

pub swap_covers : (order : ByteOrder) (width : SwapWidth) (i : Interval) (a : ℕ) → Covers i a → Covers (swap_of order width i) (swap_result order width a)
swap_covers order width i a c =
    if_covers (is_single i) (constant_of (swap_result order width i.low)) (full_of (swap_bits width)) (swap_result order width a)
    (λ t. constant_covers (swap_result order width i.low) (swap_result order width a) (ap (swap_result order width) (single_is i a t c)))
    (λ _. full_covers (swap_bits width) (swap_result order width a) (swap_result-lt order width a))

-- ---- cuts

kept_covers : (i : Interval) (from until n : ℕ) → from ≤ n → n < until → Covers i n → Covers (kept_between i from until) n
kept_covers i from until n p q c =
    let r : i.low ≤ n = c.above in let s : n ≤ i.high = c.below
    in if_covers (nat_lt (max i.low from) (min (i.high + 1) until)) (interval_of (max i.low from) (min (i.high + 1) until - 1)) i n
    (λ _. from_low (max i.low from) (min (i.high + 1) until - 1) n (omega arith) (omega arith))
    (λ _. c)

-- a number for which the test has this outcome stays
cut_covers : (bits : ℕ) (test : Test) (taken : Bool) (i : Interval) (c n : ℕ) → n < 2 ^ 64 → test_holds bits test n c ≡ taken → Covers i n → Covers (cut_of test taken i c) n
cut_covers bits Eq true i c n h t v = let e : n ≡ c = eqb-true n c t in kept_covers i c (c + 1) n (omega arith) (omega arith) v
cut_covers bits Eq false i c n h t v = v
cut_covers bits Gt true i c n h t v = let e : c < n = ltb-true c n t in kept_covers i (c + 1) (2 ^ 64) n (omega arith) h v
cut_covers bits Gt false i c n h t v = let e : n ≤ c = ltb-false c n t in kept_covers i 0 (c + 1) n (omega arith) (omega arith) v
cut_covers bits Ge true i c n h t v = let e : c ≤ n = leb-true c n t in kept_covers i c (2 ^ 64) n e h v
cut_covers bits Ge false i c n h t v = let e : n < c = leb-false c n t in kept_covers i 0 c n (omega arith) e v
cut_covers bits Set taken i c n h t v = v
cut_covers bits Ne true i c n h t v = v
cut_covers bits Ne false i c n h t v = let e : n ≡ c = eqb-true n c (not-false (n == c) t) in kept_covers i c (c + 1) n (omega arith) (omega arith) v
cut_covers bits Sgt taken i c n h t v = v
cut_covers bits Sge taken i c n h t v = v
cut_covers bits Lt true i c n h t v = let e : n < c = ltb-true n c t in kept_covers i 0 c n (omega arith) e v
cut_covers bits Lt false i c n h t v = let e : c ≤ n = ltb-false n c t in kept_covers i c (2 ^ 64) n e h v
cut_covers bits Le true i c n h t v = let e : n ≤ c = leb-true n c t in kept_covers i 0 (c + 1) n (omega arith) (omega arith) v
cut_covers bits Le false i c n h t v = let e : c < n = leb-false n c t in kept_covers i (c + 1) (2 ^ 64) n (omega arith) h v
cut_covers bits Slt taken i c n h t v = v
cut_covers bits Sle taken i c n h t v = v

pub refine_covers : (width : Width) (test : Test) (i : Interval) (c n : ℕ) (taken : Bool) → n < 2 ^ 64 → Covers i n → test_taken width test n c ≡ taken → Covers (refine_of width test i c taken) n
refine_covers Bits64 test i c n taken h v t = cut_covers 64 test taken i c n h t v
refine_covers Bits32 test i c n taken h v t =
    if_covers (nat_lt i.high (2 ^ 32)) (cut_of test taken i (low_half c)) i n
    (λ u. let r : i.high < 2 ^ 32 = ltb-true i.high (2 ^ 32) u
    in let q : n ≤ i.high = v.below
    in let l : n < 2 ^ 32 = omega arith
    in let e : low_half n ≡ n = low_half-of_lt n l
    in cut_covers 32 test taken i (low_half c) n h (ap (λ x. test_holds 32 test x (low_half c)) (sym e) ∙ t) v)
    (λ _. v)
