-- The interval of what an operation returns, from the intervals of its operands.
use Rattle.std.specs.Prelude.{ℕ, ◌+◌, ◌-◌, ◌*◌, ◌/◌, ◌%◌, ◌^◌, Bool, ◌&&◌, nat_lt, nat_le, if◌then◌else◌, min, max}
use Rattle.std.specs.Int.{w64, leading_zeros}
use Rattle.isa.specs.Words.{width_bits, low_half}
use Rattle.isa.specs.Alu.{alu_value, neg_value, sign_extended, extension_bits, short_extension_bits}
use Rattle.isa.specs.Swap.{swap_bits, swap_result}
use Rattle.isa.specs.declared.operation.Width.{Width}
use Rattle.isa.specs.declared.operation.Width.TheVariants.{Bits32, Bits64}
use Rattle.isa.specs.declared.operation.AluOp.{AluOp}
use Rattle.isa.specs.declared.operation.AluOp.TheVariants.{Add, Sub, Mul, Div, Sdiv, Or, And, Lsh, Rsh, Mod, Smod, Xor, Mov, Arsh}
use Rattle.isa.specs.declared.operation.Extension.{Extension}
use Rattle.isa.specs.declared.operation.ShortExtension.{ShortExtension}
use Rattle.isa.specs.declared.operation.ByteOrder.{ByteOrder}
use Rattle.isa.specs.declared.operation.SwapWidth.{SwapWidth}
use Rattle.abstract_scalar.specs.declared.interval.Interval.{Interval}
use Rattle.abstract_scalar.specs.Intervals.{interval_of, constant_of, is_single, full_of}

-- an operand as the class reads it: on 32 bits a single number is cut to its low half, and an interval that reaches
-- above the half becomes the whole half
abbrev pub operand_interval : Width → Interval → Interval
operand_interval Bits64 i = i
operand_interval Bits32 i =
    if is_single i then constant_of (low_half i.low) else if nat_lt i.high (2 ^ 32) then i else full_of 32

-- these ends, where they are numbers of this many bits
abbrev pub within : ℕ → ℕ → ℕ → Interval
within bits low high = if nat_lt low (2 ^ bits) && nat_lt high (2 ^ bits) then interval_of low high else full_of bits

-- how many binary digits a number below 2 ^ 64 has
abbrev pub binary_digits : ℕ → ℕ
binary_digits n = 64 - leading_zeros w64 n

-- the numbers with no more binary digits than this one
abbrev pub as_long_as : ℕ → Interval
as_long_as n = interval_of 0 (2 ^ binary_digits n - 1)

-- a single number other than zero
abbrev pub is_divisor : Interval → Bool
is_divisor j = is_single j && nat_lt 0 j.low

-- one row for each operation on operands of this many bits that are not both single numbers
abbrev pub interval_row : ℕ → AluOp → Interval → Interval → Interval
interval_row bits Add i j = within bits (i.low + j.low) (i.high + j.high)
interval_row bits Sub i j = if nat_le j.high i.low then interval_of (i.low - j.high) (i.high - j.low) else full_of bits
interval_row bits Mul i j = within bits (i.low * j.low) (i.high * j.high)
interval_row bits Div i j = if is_divisor j then interval_of (i.low / j.low) (i.high / j.low) else interval_of 0 i.high
interval_row bits Sdiv i j = full_of bits
interval_row bits Or i j = as_long_as (max i.high j.high)
interval_row bits And i j = interval_of 0 (min i.high j.high)
interval_row bits Lsh i j =
    if is_single j then within bits (i.low * 2 ^ (j.low % bits)) (i.high * 2 ^ (j.low % bits)) else full_of bits
interval_row bits Rsh i j =
    if is_single j then interval_of (i.low / 2 ^ (j.low % bits)) (i.high / 2 ^ (j.low % bits)) else interval_of 0 i.high
interval_row bits Mod i j =
    if is_divisor j then (if nat_lt i.high j.low then i else interval_of 0 (j.low - 1)) else interval_of 0 i.high
interval_row bits Smod i j = full_of bits
interval_row bits Xor i j = as_long_as (max i.high j.high)
interval_row bits Mov i j = j
interval_row bits Arsh i j = full_of bits

-- two single numbers give the exact result
abbrev pub transfer_of : Width → AluOp → Interval → Interval → Interval
transfer_of width operation i j =
    if is_single i && is_single j then constant_of (alu_value width operation i.low j.low)
    else interval_row (width_bits width) operation (operand_interval width i) (operand_interval width j)

-- the operations with one operand are exact for a single number
abbrev pub neg_of : Width → Interval → Interval
neg_of width i = if is_single i then constant_of (neg_value width i.low) else full_of (width_bits width)

abbrev pub movsx64_of : Extension → Interval → Interval
movsx64_of extension i =
    if is_single i then constant_of (sign_extended (extension_bits extension) 64 i.low) else full_of 64

abbrev pub movsx32_of : ShortExtension → Interval → Interval
movsx32_of extension i =
    if is_single i then constant_of (sign_extended (short_extension_bits extension) 32 i.low) else full_of 32

-- a byte swap cuts to its own width, and its operand is not cut before
abbrev pub swap_of : ByteOrder → SwapWidth → Interval → Interval
swap_of order width i =
    if is_single i then constant_of (swap_result order width i.low) else full_of (swap_bits width)
