-- The ones' complement sum in closed form: zero where all words are, and else the
-- number from 1 to 65535 that is the plain sum modulo 65535.
use Rattle.std.proofs.Common.{◌≡◌, ℕ, zero, suc, ◌+◌, ◌-◌, ◌*◌, ◌/◌, ◌%◌, ◌<◌, ◌≤◌, ◌⊎◌, inl, inr, List, [], ◌∷◌, ◌++◌, length, get_or, fold, refl, ap, subst, sym, ◌∙◌, arith, zero-add, add_assoc}
use Rattle.std.proofs.lemmas.Bool.{cases_lt}
use Rattle.wire.specs.Checksum.{words_of_bytes, ones_add, ones_sum_of, with_word_between, ComplementInPlace}

closed : ℕ → ℕ
closed zero = 0
closed (suc n) = n % 65535 + 1

closed-pos : (n total : ℕ) → total ≡ suc n → closed total ≡ n % 65535 + 1
unfolding closed
closed-pos n total is = rw is refl

closed_small : (word : ℕ) → word ≤ 65535 → closed word ≡ word
unfolding closed
closed_small zero small = refl
closed_small (suc n) small = omega arith

-- one more word
ones_add-closed : (total word : ℕ) → word ≤ 65535 → ones_add (closed total) word ≡ closed (total + word)
unfolding closed
ones_add-closed zero word small =
    let same : ones_add 0 word ≡ word = omega arith in
    same ∙ sym (closed_small word small) ∙ ap closed (sym (zero-add word))
ones_add-closed (suc n) word small =
    let by_sum : closed (suc n + word) ≡ (n + word) % 65535 + 1 = closed-pos (n + word) (suc n + word) (omega arith) in
    rw by_sum
    (⊎_elim (cases_lt (n % 65535 + word) 65535))
  where
    ⊎_elim : ((n % 65535 + word < 65535) ⊎ (65535 ≤ n % 65535 + word)) → ones_add (n % 65535 + 1) word ≡ (n + word) % 65535 + 1
    ⊎_elim (inl low) = omega arith
    ⊎_elim (inr high) = omega arith

-- numbers that fit 16 bits
AreWords : List ℕ → Type 0
AreWords [] = Unit {0}
AreWords (word ∷ words) = (word ≤ 65535) × AreWords words

plain_sum : List ℕ → ℕ
plain_sum [] = 0
plain_sum (word ∷ words) = word + plain_sum words

fold-closed : (total : ℕ) (words : List ℕ) → AreWords words → fold ones_add (closed total) words ≡ closed (total + plain_sum words)
unfolding AreWords plain_sum
fold-closed total [] small = ap closed (omega arith)
fold-closed total (word ∷ words) small =
    rw (ones_add-closed total word small.0) (fold-closed (total + word) words small.1 ∙ ap closed (add_assoc total word (plain_sum words)))

AreWords-words_of : (bytes : List ℕ) → ((i : ℕ) → get_or bytes i 0 < 256) → AreWords (words_of_bytes bytes)
unfolding AreWords
AreWords-words_of [] small = tt
AreWords-words_of (last ∷ []) small = (omega (arith, small 0), tt)
AreWords-words_of (high ∷ low ∷ bytes) small = (omega (arith, small 0, small 1), AreWords-words_of bytes (λ i. small (suc (suc i))))

AreWords-with : (before : List ℕ) (word other : ℕ) (after : List ℕ) → AreWords (before ++ word ∷ after) → other ≤ 65535 → AreWords (before ++ other ∷ after)
unfolding AreWords
AreWords-with [] word other after small fits = (fits, small.1)
AreWords-with (first ∷ before) word other after small fits = (small.0, AreWords-with before word other after small.1 fits)

words_of-append : (before bytes : List ℕ) → length before % 2 ≡ 0 → words_of_bytes (before ++ bytes) ≡ words_of_bytes before ++ words_of_bytes bytes
words_of-append [] bytes even = refl
words_of-append (x ∷ []) bytes even = absurd (omega arith)
words_of-append (high ∷ low ∷ before) bytes even =
    ap (λ words. (high * 256 + low) ∷ words) (words_of-append before bytes (let two_less : length before % 2 ≡ 0 = omega arith in two_less))

sum-with : (before after : List ℕ) (word : ℕ) → plain_sum (before ++ word ∷ after) ≡ plain_sum (before ++ 0 ∷ after) + word
unfolding plain_sum
sum-with [] after word = omega arith
sum-with (first ∷ before) after word = omega (arith, sum-with before after word)

closed-complement : (total : ℕ) → closed (total + (65535 - closed total)) ≡ 65535
unfolding closed
closed-complement zero = refl
closed-complement (suc n) =
    closed-pos (n + (65534 - n % 65535)) (suc n + (65535 - (n % 65535 + 1))) (omega arith) ∙ omega arith

ones_sum_of-closed : (bytes : List ℕ) → ((i : ℕ) → get_or bytes i 0 < 256) → ones_sum_of bytes ≡ closed (plain_sum (words_of_bytes bytes))
unfolding closed
ones_sum_of-closed bytes small = fold-closed 0 (words_of_bytes bytes) (AreWords-words_of bytes small) ∙ ap closed (zero-add (plain_sum (words_of_bytes bytes)))

-- the words of the bytes with a word between two parts
words_of-with_word : (before after : List ℕ) (word : ℕ) → length before % 2 ≡ 0 → words_of_bytes (with_word_between before word after) ≡ words_of_bytes before ++ word ∷ words_of_bytes after
words_of-with_word before after word even =
    let whole : word / 256 * 256 + word % 256 ≡ word = omega arith in
    words_of-append before (word / 256 ∷ word % 256 ∷ after) even ∙ ap (λ n. words_of_bytes before ++ n ∷ words_of_bytes after) whole

-- the law: with its complement in place, the sum is all ones
pub complement_in_place : (bytes : List ℕ) → ((i : ℕ) → get_or bytes i 0 < 256) → ComplementInPlace bytes
unfolding closed
complement_in_place bytes small before after even is =
    let total : ℕ = plain_sum (words_of_bytes bytes) in
    let spelled : words_of_bytes bytes ≡ words_of_bytes before ++ 0 ∷ words_of_bytes after = ap words_of_bytes is ∙ words_of-with_word before after 0 even in
    let sum_is : ones_sum_of bytes ≡ closed total = ones_sum_of-closed bytes small in
    let word : ℕ = 65535 - closed total in
    let words : words_of_bytes (with_word_between before word after) ≡ words_of_bytes before ++ word ∷ words_of_bytes after = words_of-with_word before after word even in
    let are_words : AreWords (words_of_bytes before ++ 0 ∷ words_of_bytes after) = subst AreWords spelled (AreWords-words_of bytes small) in
    let fits : word ≤ 65535 = omega arith in
    rw (sum_is, words)
    (fold-closed 0 (words_of_bytes before ++ word ∷ words_of_bytes after) (AreWords-with (words_of_bytes before) 0 word (words_of_bytes after) are_words fits)
    ∙ ap closed (zero-add _ ∙ sum-with (words_of_bytes before) (words_of_bytes after) word ∙ ap (λ n. n + word) (ap plain_sum (sym spelled)))
    ∙ closed-complement total)
