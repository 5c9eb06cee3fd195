-- A list of numbers in blocks of one size; all blocks before the last one that has numbers are full.
use Rattle.std.specs.Prelude.{◌≡◌, ℕ, zero, suc, ◌+◌, ◌-◌, ◌*◌, ◌^◌, ◌≤◌, min, List, [], ◌∷◌, length}
use Rattle.std.specs.List.{flat_map}

-- how many numbers a block has, where it is not the last
abbrev pub block_size : ℕ
block_size = 1024

pub record BoundedList : Type 0 where
  -- how many numbers there is room for
  pub room : ℕ
  pub numbers : List ℕ

abbrev pub joined : List (List ℕ) → List ℕ
joined blocks = flat_map (λ block. block) blocks

abbrev pub bounded_list : List (List ℕ) → BoundedList
bounded_list blocks = record { room = length blocks * block_size; numbers = joined blocks }

-- this many numbers: each block is full, or has what is left
abbrev pub Shaped : ℕ → List (List ℕ) → Type 0
Shaped n [] = n ≡ 0
Shaped n (block ∷ blocks) = (length block ≡ min block_size n) × Shaped (n - block_size) blocks

-- this many numbers and one more, which is in the block of this place
abbrev pub Over : ℕ → ℕ → List (List ℕ) → Type 0
Over k n [] = ⊥
Over zero n (block ∷ blocks) = (length block ≡ min block_size n + 1) × Shaped (n - block_size) blocks
Over (suc k) n (block ∷ blocks) = (block_size ≤ n) × (length block ≡ block_size) × Over k (n - block_size) blocks

-- this many numbers without one, which the block of this place lacks
abbrev pub Under : ℕ → ℕ → List (List ℕ) → Type 0
Under k n [] = ⊥
Under zero n (block ∷ blocks) = (length block + 1 ≡ min block_size n) × Shaped (n - block_size) blocks
Under (suc k) n (block ∷ blocks) = (block_size ≤ n) × (length block ≡ block_size) × Under k (n - block_size) blocks

pub record IsInBlocks (len : ℕ) (blocks : List (List ℕ)) : Type 0 where
  pub shaped : Shaped len blocks
  pub few : length blocks ≤ 2 ^ 32
