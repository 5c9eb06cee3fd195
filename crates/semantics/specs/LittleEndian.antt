-- Numbers as bytes, the lowest first, and reaching into a list: eBPF's memory is little-endian (RFC 9669, section 5).
use Rattle.std.specs.Prelude.{ℕ, zero, suc, ◌+◌, ◌*◌, ◌/◌, ◌%◌, Bool, true, false, List, [], ◌∷◌}

-- a byte below a number that the higher bytes give, which may be none
abbrev pub above_byte : ℕ → List ℕ → ℕ → ℕ
above_byte byte [] number = byte
above_byte byte (next ∷ higher) number = byte + 256 * number

-- the number of these bytes
abbrev pub number_of_bytes : List ℕ → ℕ
number_of_bytes [] = 0
number_of_bytes (byte ∷ higher) = above_byte byte higher (number_of_bytes higher)

-- the lowest `count` bytes of a number
abbrev pub bytes_of_number : ℕ → ℕ → List ℕ
bytes_of_number zero number = []
bytes_of_number (suc count) number = number % 256 ∷ bytes_of_number count (number / 256)

-- whether a list has at least this many items: by its structure, so that it computes where only the front of the list is known
abbrev pub reaches : {A : Type 0} → ℕ → List A → Bool
reaches zero items = true
reaches (suc count) [] = false
reaches (suc count) (item ∷ items) = reaches count items
