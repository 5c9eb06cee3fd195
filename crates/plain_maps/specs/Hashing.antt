-- A fast hash of a key; the proofs use only that it is a function: a multiplication and a shift for each eight bytes, then for each byte
-- that is left.
use Rattle.std.specs.Prelude.{ℕ, zero, suc, ◌*◌, ◌/◌, ◌%◌, ◌^◌, List, [], ◌∷◌, length, take, drop, bit_xor, bit_and, ◌-◌}
use Rattle.std.specs.Int.{from_le_bytes, w64}

abbrev pub product_of : ℕ → ℕ → ℕ
product_of hash word = (bit_xor hash word * 11400714819323198485) % 2 ^ 64

abbrev pub mixed : ℕ → ℕ → ℕ
mixed hash word = bit_xor (product_of hash word) (product_of hash word / 2 ^ 32)

abbrev pub hashed_with_bytes : List ℕ → ℕ → ℕ
hashed_with_bytes [] hash = hash
hashed_with_bytes (byte ∷ bytes) hash = hashed_with_bytes bytes (mixed hash byte)

-- this many words, and the bytes behind them
abbrev pub with_words : ℕ → List ℕ → ℕ → ℕ
with_words zero bytes hash = hashed_with_bytes bytes hash
with_words (suc words) bytes hash = with_words words (drop 8 bytes) (mixed hash (from_le_bytes w64 (take 8 bytes)))

abbrev pub hash_of : List ℕ → ℕ
hash_of key = with_words (length key / 8) key 14695981039346656037

-- the bucket of a key
abbrev pub home_of : ℕ → List ℕ → ℕ
home_of buckets key = bit_and (hash_of key) (buckets - 1)
