-- The 64-bit FNV-1a hash (the FNV non-cryptographic hash algorithm,
-- draft-eastlake-fnv): for each byte, exclusive or, then multiply.
use Rattle.std.specs.Prelude.{ℕ, ◌*◌, ◌%◌, ◌^◌, List, bit_xor, fold}

-- the hash after one more byte
abbrev pub fnv1a64_next : ℕ → ℕ → ℕ
fnv1a64_next hash byte = (bit_xor hash byte * 0x100000001b3) % 2 ^ 64

-- the hash of the bytes, from the offset basis on
abbrev pub fnv1a64_of : List ℕ → ℕ
fnv1a64_of bytes = fold fnv1a64_next 0xcbf29ce484222325 bytes
