-- The internet checksum's sum (RFC 1071, section 1): the ones' complement sum of the
-- 16-bit words, high byte first. A last odd byte is the high byte of a word.
use Rattle.std.specs.Prelude.{◌≡◌, ℕ, ◌+◌, ◌-◌, ◌*◌, ◌/◌, ◌%◌, List, [], ◌∷◌, ◌++◌, length, fold}

-- the words of the bytes, high byte first
abbrev pub words_of_bytes : List ℕ → List ℕ
words_of_bytes [] = []
words_of_bytes (last ∷ []) = last * 256 ∷ []
words_of_bytes (high ∷ low ∷ bytes) = (high * 256 + low) ∷ words_of_bytes bytes

-- ones' complement addition of 16-bit words: the carry comes back in at the low end
abbrev pub ones_add : ℕ → ℕ → ℕ
ones_add a b = (a + b) % 65536 + (a + b) / 65536

-- the ones' complement sum of the bytes' words
abbrev pub ones_sum_of : List ℕ → ℕ
ones_sum_of bytes = fold ones_add 0 (words_of_bytes bytes)

-- the ones' complement of a word
abbrev pub ones_complement : ℕ → ℕ
ones_complement word = 65535 - word

-- the bytes with this word between the two parts
abbrev pub with_word_between : List ℕ → ℕ → List ℕ → List ℕ
with_word_between before word after = before ++ word / 256 ∷ word % 256 ∷ after

-- where the checksum field of the bytes is zero, the complement of their sum in its
-- place makes the sum all ones
abbrev pub ComplementInPlace : List ℕ → Type 0
ComplementInPlace bytes =
    (before after : List ℕ)
    → length before % 2 ≡ 0
    → bytes ≡ with_word_between before 0 after
    → ones_sum_of (with_word_between before (ones_complement (ones_sum_of bytes)) after) ≡ 65535
