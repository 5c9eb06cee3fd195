-- What the outcome of a comparison with a single number says of the other operand.
use Rattle.std.specs.Prelude.{ℕ, ◌+◌, ◌-◌, ◌^◌, Bool, true, false, nat_lt, if◌then◌else◌, min, max}
use Rattle.isa.specs.Words.{low_half}
use Rattle.isa.specs.declared.operation.Width.{Width}
use Rattle.isa.specs.declared.operation.Width.TheVariants.{Bits32, Bits64}
use Rattle.isa.specs.declared.operation.Test.{Test}
use Rattle.isa.specs.declared.operation.Test.TheVariants.{Eq, Gt, Ge, Set, Ne, Sgt, Sge, Lt, Le, Slt, Sle}
use Rattle.abstract_scalar.specs.declared.interval.Interval.{Interval}
use Rattle.abstract_scalar.specs.Intervals.{interval_of}

-- the numbers of the interval from `from` up to, but without, `until`; where none is left, the interval as it was
abbrev pub kept_between : Interval → ℕ → ℕ → Interval
kept_between i from until =
    if nat_lt (max i.low from) (min (i.high + 1) until) then interval_of (max i.low from) (min (i.high + 1) until - 1) else i

abbrev pub kept_from : Interval → ℕ → Interval
kept_from i from = kept_between i from (2 ^ 64)

-- a test against the number c, and whether it holds: the unsigned orders cut on both edges, equality where the numbers are equal
abbrev pub cut_of : Test → Bool → Interval → ℕ → Interval
cut_of Eq true i c = kept_between i c (c + 1)
cut_of Eq false i c = i
cut_of Gt true i c = kept_from i (c + 1)
cut_of Gt false i c = kept_between i 0 (c + 1)
cut_of Ge true i c = kept_from i c
cut_of Ge false i c = kept_between i 0 c
cut_of Set taken i c = i
cut_of Ne true i c = i
cut_of Ne false i c = kept_between i c (c + 1)
cut_of Sgt taken i c = i
cut_of Sge taken i c = i
cut_of Lt true i c = kept_between i 0 c
cut_of Lt false i c = kept_from i c
cut_of Le true i c = kept_between i 0 (c + 1)
cut_of Le false i c = kept_from i (c + 1)
cut_of Slt taken i c = i
cut_of Sle taken i c = i

-- a comparison of low halves says something of numbers below 2 ^ 32 alone, and c counts with its low half
abbrev pub refine_of : Width → Test → Interval → ℕ → Bool → Interval
refine_of Bits64 test i c taken = cut_of test taken i c
refine_of Bits32 test i c taken = if nat_lt i.high (2 ^ 32) then cut_of test taken i (low_half c) else i
