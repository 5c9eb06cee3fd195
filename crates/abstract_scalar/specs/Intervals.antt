-- An unsigned interval represents the numbers from its low to its high end; one whose low end is above its high end represents none.
use Rattle.std.specs.Prelude.{ℕ, ◌-◌, ◌^◌, ◌≤◌, Bool, ◌==◌, ◌&&◌, nat_le, min, max}
use Rattle.abstract_scalar.specs.declared.interval.Interval.{Interval}

-- the interval represents this number, among others
pub record Covers (interval : Interval) (n : ℕ) : Type 0 where
  pub above : interval.low ≤ n
  pub below : n ≤ interval.high

-- the same as a test
abbrev pub covers : Interval → ℕ → Bool
covers interval n = nat_le interval.low n && nat_le n interval.high

abbrev pub interval_of : ℕ → ℕ → Interval
interval_of low high = record { low = low; high = high }

-- one number
abbrev pub constant_of : ℕ → Interval
constant_of n = interval_of n n

abbrev pub is_single : Interval → Bool
is_single interval = interval.low == interval.high

-- every number of this many bits
abbrev pub full_of : ℕ → Interval
full_of bits = interval_of 0 (2 ^ bits - 1)

-- the least interval with all numbers of both
abbrev pub hull_of : Interval → Interval → Interval
hull_of i j = interval_of (min i.low j.low) (max i.high j.high)
