-- What an operation returns fits its width.
use Rattle.std.proofs.Common.{◌≡◌, ℕ, zero, suc, ◌+◌, ◌-◌, ◌*◌, ◌/◌, ◌%◌, ◌^◌, ◌<◌, ◌≤◌, ℤ, pos, negsuc, neg_ℤ, Bool, true, false, refl, arith, ◌==◌, if◌then◌else◌, lit≤}
use Rattle.std.specs.Prelude.{bit_and}
use Rattle.std.proofs.lemmas.Nat.{pow_pos, or_lt, xor_lt, and_le_l, mod_below}
use Rattle.std.specs.Int.Signed.{mag, mag_rem, mag_shr, quot_z, rem_z, shr_z}
use Rattle.isa.specs.Words.{signed_value, twos_complement, width_bits, operand_at}
use Rattle.isa.specs.Alu.{alu_result, alu_value, neg_value, sign_extended, extension_bits, short_extension_bits}
use Rattle.isa.specs.Swap.{swap_bits, swap_result, opposite_bytes}
use Rattle.isa.specs.declared.operation.ByteOrder.{ByteOrder}
use Rattle.isa.specs.declared.operation.ByteOrder.TheVariants.{ToLittle, ToBig, Swapped}
use Rattle.isa.specs.declared.operation.SwapWidth.{SwapWidth}
use Rattle.isa.specs.declared.operation.SwapWidth.TheVariants.{Swap16, Swap32, Swap64}
use Rattle.isa.specs.declared.operation.Extension.{Extension}
use Rattle.isa.specs.declared.operation.Extension.TheVariants.{I8, I16, I32}
use Rattle.isa.specs.declared.operation.ShortExtension.{ShortExtension}
use Rattle.isa.specs.declared.operation.ShortExtension.TheVariants.{Short8, Short16}
use Rattle.isa.specs.Atomic.{atomic_result, atomic_value}
use Rattle.isa.specs.declared.operation.Width.{Width}
use Rattle.isa.specs.declared.operation.Width.TheVariants.{Bits32, Bits64}
use Rattle.isa.specs.declared.operation.AluOp.{AluOp}
use Rattle.isa.specs.declared.operation.AluOp.TheVariants.{Add, Sub, Mul, Div, Sdiv, Or, And, Lsh, Rsh, Mod, Smod, Xor, Mov, Arsh}
use Rattle.isa.specs.declared.operation.AtomicOp.{AtomicOp}
use Rattle.isa.specs.declared.operation.AtomicOp.TheVariants.{AtomicAdd, AtomicOr, AtomicAnd, AtomicXor, FetchAdd, FetchOr, FetchAnd, FetchXor, Exchange, CompareExchange}

-- ---- signed numbers

-- the bits of a number of small magnitude
pub twos_complement-lt : (bits : ℕ) (z : ℤ) → mag z < 2 ^ bits → twos_complement bits z < 2 ^ bits
twos_complement-lt bits (pos n) h = h
twos_complement-lt bits (negsuc n) h = let p : 0 < 2 ^ bits = pow_pos bits in omega arith

-- a signed reading lies in the signed range
pub signed_value-mag : (bits n : ℕ) → 2 ^ bits ≡ 2 * 2 ^ (bits - 1) → mag (signed_value bits n) < 2 ^ (bits - 1)
signed_value-mag bits n e = let p : 0 < 2 ^ (bits - 1) = pow_pos (bits - 1) in grind arith

quotient-neg : (r : ℕ) → mag (neg_ℤ (pos r)) ≤ r
quotient-neg zero = omega arith
quotient-neg (suc r) = omega arith

quotient-le : (n d : ℕ) → n / d ≤ n
quotient-le n d = omega arith

-- a quotient is no larger than its dividend, except the step from -(n + 1) to n + 1
quotient-mag : (a b : ℤ) → mag (quot_z a b) ≤ mag a + 1
quotient-mag (pos a) (pos b) = let p : a / b ≤ a = quotient-le a b in omega arith
quotient-mag (pos a) (negsuc b) = let p : a / suc b ≤ a = quotient-le a (suc b) in let q : mag (neg_ℤ (pos (a / suc b))) ≤ a / suc b = quotient-neg (a / suc b) in omega arith
quotient-mag (negsuc a) (pos b) = let p : suc a / b ≤ suc a = quotient-le (suc a) b in let q : mag (neg_ℤ (pos (suc a / b))) ≤ suc a / b = quotient-neg (suc a / b) in omega arith
quotient-mag (negsuc a) (negsuc b) = let p : suc a / suc b ≤ suc a = quotient-le (suc a) (suc b) in omega arith

-- ---- arithmetic

-- on numbers of `bits` bits an operation returns one of `bits` bits
pub alu_result-lt : (bits : ℕ) (operation : AluOp) (a b : ℕ) → 2 ^ bits ≡ 2 * 2 ^ (bits - 1) → a < 2 ^ bits → b < 2 ^ bits → alu_result bits operation a b < 2 ^ bits
alu_result-lt bits Add a b e p q = mod_below (a + b) (2 ^ bits) (pow_pos bits)
alu_result-lt bits Sub a b e p q = mod_below (a + (2 ^ bits - b)) (2 ^ bits) (pow_pos bits)
alu_result-lt bits Mul a b e p q = mod_below (a * b) (2 ^ bits) (pow_pos bits)
alu_result-lt bits Div a b e p q = quotient (b == 0)
  where
    quotient : (t : Bool) → (if t then 0 else a / b) < 2 ^ bits
    quotient true = pow_pos bits
    quotient false = let h : a / b ≤ a = quotient-le a b in omega arith
alu_result-lt bits Sdiv a b e p q = quotient (b == 0)
  where
    half : 0 < 2 ^ (bits - 1)
    half = pow_pos (bits - 1)

    quotient : (t : Bool) → (if t then 0 else twos_complement bits (quot_z (signed_value bits a) (signed_value bits b))) < 2 ^ bits
    quotient true = pow_pos bits
    quotient false = twos_complement-lt bits (quot_z (signed_value bits a) (signed_value bits b))
        (let m : mag (quot_z (signed_value bits a) (signed_value bits b)) ≤ mag (signed_value bits a) + 1 = quotient-mag (signed_value bits a) (signed_value bits b)
        in let s : mag (signed_value bits a) < 2 ^ (bits - 1) = signed_value-mag bits a e in omega arith)
alu_result-lt bits Or a b e p q = or_lt bits a b p q
alu_result-lt bits And a b e p q = let h : bit_and a b ≤ a = and_le_l a b in omega arith
alu_result-lt bits Lsh a b e p q = mod_below (a * 2 ^ (b % bits)) (2 ^ bits) (pow_pos bits)
alu_result-lt bits Rsh a b e p q = let h : a / 2 ^ (b % bits) ≤ a = quotient-le a (2 ^ (b % bits)) in omega arith
alu_result-lt bits Mod a b e p q = remainder (b == 0)
  where
    remainder : (t : Bool) → (if t then a else a % b) < 2 ^ bits
    remainder true = p
    remainder false = let h : a % b ≤ a = omega arith in omega arith
alu_result-lt bits Smod a b e p q = remainder (b == 0)
  where
    half : 0 < 2 ^ (bits - 1)
    half = pow_pos (bits - 1)

    remainder : (t : Bool) → (if t then a else twos_complement bits (rem_z (signed_value bits a) (signed_value bits b))) < 2 ^ bits
    remainder true = p
    remainder false = twos_complement-lt bits (rem_z (signed_value bits a) (signed_value bits b))
        (let m : mag (rem_z (signed_value bits a) (signed_value bits b)) ≤ mag (signed_value bits a) = mag_rem (signed_value bits a) (signed_value bits b)
        in let s : mag (signed_value bits a) < 2 ^ (bits - 1) = signed_value-mag bits a e in omega arith)
alu_result-lt bits Xor a b e p q = xor_lt bits a b p q
alu_result-lt bits Mov a b e p q = q
alu_result-lt bits Arsh a b e p q = twos_complement-lt bits (shr_z (signed_value bits a) (2 ^ (b % bits)))
    (let m : mag (shr_z (signed_value bits a) (2 ^ (b % bits))) ≤ mag (signed_value bits a) = mag_shr (signed_value bits a) (2 ^ (b % bits))
    in let half : 0 < 2 ^ (bits - 1) = pow_pos (bits - 1)
    in let s : mag (signed_value bits a) < 2 ^ (bits - 1) = signed_value-mag bits a e in omega arith)

pub operand_at-lt : (width : Width) (n : ℕ) → n < 2 ^ 64 → operand_at width n < 2 ^ width_bits width
operand_at-lt Bits32 n h = mod_below n (2 ^ 32) (pow_pos 32)
operand_at-lt Bits64 n h = h

halves : (width : Width) → 2 ^ width_bits width ≡ 2 * 2 ^ (width_bits width - 1)
halves Bits32 = refl
halves Bits64 = refl

-- what an instruction of the class leaves fits the class
pub alu_value-lt : (width : Width) (operation : AluOp) (a b : ℕ) → a < 2 ^ 64 → b < 2 ^ 64 → alu_value width operation a b < 2 ^ width_bits width
alu_value-lt width operation a b p q =
    alu_result-lt (width_bits width) operation (operand_at width a) (operand_at width b) (halves width) (operand_at-lt width a p) (operand_at-lt width b q)

-- and a register
pub width_fits : (width : Width) (n : ℕ) → n < 2 ^ width_bits width → n < 2 ^ 64
width_fits Bits32 n h = omega arith
width_fits Bits64 n h = h

pub alu_value-fits : (width : Width) (operation : AluOp) (a b : ℕ) → a < 2 ^ 64 → b < 2 ^ 64 → alu_value width operation a b < 2 ^ 64
alu_value-fits width operation a b p q = width_fits width (alu_value width operation a b) (alu_value-lt width operation a b p q)

pub neg_value-lt : (width : Width) (a : ℕ) → neg_value width a < 2 ^ width_bits width
neg_value-lt width a = mod_below (2 ^ width_bits width - operand_at width a) (2 ^ width_bits width) (pow_pos (width_bits width))

-- ---- sign extension

pub sign_extended-lt : (from bits a : ℕ) → 2 ^ from ≡ 2 * 2 ^ (from - 1) → 2 ^ (from - 1) ≤ 2 ^ bits → sign_extended from bits a < 2 ^ bits
sign_extended-lt from bits a e h =
    twos_complement-lt bits (signed_value from (a % 2 ^ from))
    (let s : mag (signed_value from (a % 2 ^ from)) < 2 ^ (from - 1) = signed_value-mag from (a % 2 ^ from) e in omega arith)

pub movsx64-lt : (extension : Extension) (a : ℕ) → sign_extended (extension_bits extension) 64 a < 2 ^ 64
movsx64-lt I8 a = sign_extended-lt 8 64 a refl (lit≤ tt)
movsx64-lt I16 a = sign_extended-lt 16 64 a refl (lit≤ tt)
movsx64-lt I32 a = sign_extended-lt 32 64 a refl (lit≤ tt)

pub movsx32-lt : (extension : ShortExtension) (a : ℕ) → sign_extended (short_extension_bits extension) 32 a < 2 ^ 32
movsx32-lt Short8 a = sign_extended-lt 8 32 a refl (lit≤ tt)
movsx32-lt Short16 a = sign_extended-lt 16 32 a refl (lit≤ tt)

-- ---- atomic operations

pub atomic_result-lt : (bits : ℕ) (operation : AtomicOp) (old n expected : ℕ) → old < 2 ^ bits → n < 2 ^ bits → atomic_result bits operation old n expected < 2 ^ bits
atomic_result-lt bits AtomicAdd old n expected p q = mod_below (old + n) (2 ^ bits) (pow_pos bits)
atomic_result-lt bits AtomicOr old n expected p q = or_lt bits old n p q
atomic_result-lt bits AtomicAnd old n expected p q = let h : bit_and old n ≤ old = and_le_l old n in omega arith
atomic_result-lt bits AtomicXor old n expected p q = xor_lt bits old n p q
atomic_result-lt bits FetchAdd old n expected p q = mod_below (old + n) (2 ^ bits) (pow_pos bits)
atomic_result-lt bits FetchOr old n expected p q = or_lt bits old n p q
atomic_result-lt bits FetchAnd old n expected p q = let h : bit_and old n ≤ old = and_le_l old n in omega arith
atomic_result-lt bits FetchXor old n expected p q = xor_lt bits old n p q
atomic_result-lt bits Exchange old n expected p q = q
atomic_result-lt bits CompareExchange old n expected p q = chosen (old == expected)
  where
    chosen : (t : Bool) → (if t then n else old) < 2 ^ bits
    chosen true = q
    chosen false = p

pub atomic_value-lt : (width : Width) (operation : AtomicOp) (old n expected : ℕ) → old < 2 ^ 64 → n < 2 ^ 64 → atomic_value width operation old n expected < 2 ^ width_bits width
atomic_value-lt width operation old n expected p q =
    atomic_result-lt (width_bits width) operation (operand_at width old) (operand_at width n) (operand_at width expected) (operand_at-lt width old p) (operand_at-lt width n q)

-- ---- byte swaps

pub opposite_bytes-lt : (width : SwapWidth) (n : ℕ) → opposite_bytes width n < 2 ^ swap_bits width
opposite_bytes-lt Swap16 n = omega arith
opposite_bytes-lt Swap32 n = omega arith
opposite_bytes-lt Swap64 n = omega arith

pub swap_result-lt : (order : ByteOrder) (width : SwapWidth) (a : ℕ) → swap_result order width a < 2 ^ swap_bits width
swap_result-lt ToLittle width a = mod_below a (2 ^ swap_bits width) (pow_pos (swap_bits width))
swap_result-lt ToBig width a = opposite_bytes-lt width (a % 2 ^ swap_bits width)
swap_result-lt Swapped width a = opposite_bytes-lt width (a % 2 ^ swap_bits width)
