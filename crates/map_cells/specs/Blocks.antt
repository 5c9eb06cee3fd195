-- Parts of one size, one behind the other, in one list of bytes.
use Rattle.std.specs.Prelude.{ℕ, ◌*◌, List, take, drop}

-- the part of this number
abbrev pub block_of : ℕ → List ℕ → ℕ → List ℕ
block_of size bytes n = take size (drop (n * size) bytes)
