-- The shares of a table, counted slot by slot.
use Rattle.std.proofs.Common.{◌≡◌, ◌≢◌, ◌∙◌, ◌+◌, ◌-◌, ◌<◌, ◌≤◌, ◌⊎◌, ℕ, zero, suc, List, [], cond, eqb, length, get_or, set, take, replicate, ap, sym, arith, subst, ⊎_elim, refl}
use Rattle.std.proofs.lemmas.Bool.{cases_eq, cases_lt, cond-false, cond-true, eq-eqb, le-ltb, lt-ltb, ne_eqb}
use Rattle.std.proofs.lemmas.Grind.{get_or-set_at}
use Rattle.std.proofs.lemmas.List.{get_or_past, get_or-replicate, get_or-set_other, length-replicate, length-set, length-take-le}
use Rattle.std.proofs.lemmas.List.Sums.{count_by-le-length, sum_by_more}
use Rattle.std.proofs.lemmas.Option.{unwrap_or-slice_get}
use Rattle.maglev.specs.Population.{share_of}
use Rattle.traffic.specs.Shares.{AreShares, share_counted, entry_gains, gains_below, share_at}

-- 1 where the slot has the word
abbrev pub ones : ℕ → ℕ → ℕ
ones word slot = cond (eqb slot word) 1 0

pub share_more : (word : ℕ) (table : List ℕ) (i : ℕ) → i < length table
    → share_of word (take (i + 1) table) ≡ share_of word (take i table) + ones word (get_or table i 0)
share_more word table i below = sum_by_more (ones word) table i 0 below

at : (xs : List ℕ) (i : ℕ) → share_at xs i ≡ get_or xs i 0
at xs i = unwrap_or-slice_get xs i 0

inside : (shares : List ℕ) (slot : ℕ) → slot < length shares → share_counted shares slot ≡ set shares slot (share_at shares slot + 1)
inside shares slot below = rw (lt-ltb slot (length shares) below) refl

past : (shares : List ℕ) (slot : ℕ) → length shares ≤ slot → share_counted shares slot ≡ shares
past shares slot above = rw (le-ltb slot (length shares) above) refl

length-counted : (shares : List ℕ) (slot : ℕ) → length (share_counted shares slot) ≡ length shares
length-counted shares slot =
    ⊎_elim
    (λ below. ap length (inside shares slot below) ∙ length-set shares slot (share_at shares slot + 1))
    (λ above. ap length (past shares slot above))
    (cases_lt slot (length shares))

-- a counted slot adds one to its own word
counted_own : (shares : List ℕ) (word slot : ℕ) → word < length shares → slot ≡ word
    → share_at (share_counted shares slot) word ≡ share_at shares word + ones word slot
counted_own shares word slot below same =
    let here : slot < length shares = subst (λ (n : ℕ). n < length shares) (sym same) below in
    ap (λ (s : List ℕ). share_at s word) (inside shares slot here)
    ∙ (at (set shares slot (share_at shares slot + 1)) word
    ∙ (get_or-set_at shares slot word (share_at shares slot + 1) 0 (sym same) here
    ∙ (ap (λ (n : ℕ). share_at shares n + 1) same
    ∙ ap (λ (n : ℕ). share_at shares word + n) (sym (cond-true (eqb slot word) 1 0 (eq-eqb slot word same))))))

kept : (shares : List ℕ) (word slot : ℕ) → slot ≢ word → (slot < length shares) ⊎ (length shares ≤ slot)
    → share_at (share_counted shares slot) word ≡ share_at shares word
kept shares word slot other cases =
    ⊎_elim
    (λ below. ap (λ (s : List ℕ). share_at s word) (inside shares slot below)
    ∙ (at (set shares slot (share_at shares slot + 1)) word
    ∙ (get_or-set_other shares slot word (share_at shares slot + 1) 0 (λ same. other (sym same)) ∙ sym (at shares word))))
    (λ above. ap (λ (s : List ℕ). share_at s word) (past shares slot above))
    cases

-- and nothing to another
counted_other : (shares : List ℕ) (word slot : ℕ) → slot ≢ word → share_at (share_counted shares slot) word ≡ share_at shares word + ones word slot
counted_other shares word slot other =
    let none : ones word slot ≡ 0 = cond-false (eqb slot word) 1 0 (ne_eqb slot word other) in
    kept shares word slot other (cases_lt slot (length shares)) ∙ omega (arith, none)

counted_word : (shares : List ℕ) (word slot : ℕ) → word < length shares
    → share_at (share_counted shares slot) word ≡ share_at shares word + ones word slot
counted_word shares word slot below =
    ⊎_elim (λ same. counted_own shares word slot below same) (λ other. counted_other shares word slot other) (cases_eq slot word)

-- before the first slot no word has any
pub none_counted : (words : ℕ) (shares : List ℕ) → shares ≡ replicate words 0 → AreShares [] words shares
none_counted words shares is = record {
  as_many = ap length is ∙ length-replicate words 0;
  each = λ word below. ap (λ (s : List ℕ). share_at s word) is ∙ (at (replicate words 0) word ∙ get_or-replicate words word 0 0 below);
}

-- one slot more
pub one_counted : (table shares shares' : List ℕ) (words i : ℕ) → i < length table → AreShares (take i table) words shares
    → shares' ≡ share_counted shares (get_or table i 0) → AreShares (take (i + 1) table) words shares'
one_counted table shares shares' words i below known is = record {
  as_many = ap length is ∙ (length-counted shares (get_or table i 0) ∙ known.as_many);
  each = λ word few.
      ap (λ (s : List ℕ). share_at s word) is
      ∙ (counted_word shares word (get_or table i 0) (subst (λ (n : ℕ). word < n) (sym known.as_many) few)
      ∙ (ap (λ (n : ℕ). n + ones word (get_or table i 0)) (known.each word few) ∙ sym (share_more word table i below)));
}

-- no count is above the number of the slots
pub few_counted : (table shares : List ℕ) (words i word : ℕ) → i ≤ length table → AreShares (take i table) words shares → share_at shares word ≤ i
few_counted table shares words i word within known =
    ⊎_elim
    (λ few.
    let is : share_at shares word ≡ share_of word (take i table) = known.each word few in
    let some : share_of word (take i table) ≤ length (take i table) = count_by-le-length (λ (owner : ℕ). eqb owner word) (take i table) in
    let most : length (take i table) ≡ i = length-take-le i table within in
    omega (arith, is, some, most))
    (λ above.
    let none : share_at shares word ≡ 0 = at shares word ∙ get_or_past shares word 0 (subst (λ (n : ℕ). n ≤ word) (sym known.as_many) above) in
    omega (arith, none))
    (cases_lt word words)

-- what words gain, by shares or by tables
pub gains_are : (old new before after : List ℕ) (count words : ℕ) → AreShares old count before → AreShares new count after → words ≤ count
    → entry_gains before after words ≡ gains_below old new words
unfolding entry_gains gains_below
gains_are old new before after count zero first second few = refl
gains_are old new before after count (suc word) first second few =
    let below : word < count = omega (arith, few) in
    ap (λ (n : ℕ). n + (share_at after word - share_at before word)) (gains_are old new before after count word first second (omega (arith, few)))
    ∙ (ap (λ (n : ℕ). gains_below old new word + (n - share_at before word)) (second.each word below)
    ∙ ap (λ (n : ℕ). gains_below old new word + (share_of word new - n)) (first.each word below))
