-- The sizes of a lookup table: primes, so that each skip leads through all slots.
use Rattle.std.specs.Prelude.{ℕ, List, [], ◌∷◌, Contains}

-- the sizes that are served
abbrev pub ring_sizes : List ℕ
ring_sizes = 7 ∷ 251 ∷ 4093 ∷ 65537 ∷ []

-- a table may have this size
abbrev pub IsRingSize : ℕ → Type 0
IsRingSize size = Contains ring_sizes size
