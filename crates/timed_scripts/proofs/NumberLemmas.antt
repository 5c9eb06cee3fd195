-- Numbers are read digit by digit.
use Rattle.std.proofs.Common.{◌≡◌, ℕ, ◌+◌, ◌-◌, ◌*◌, ◌<◌, ◌≤◌, true, false, List, [], ◌∷◌, length, Option, Some, None, ltb, refl, arith, lt-ltb, le-ltb}
use Rattle.std.specs.Char.{is_ascii_digit}
use Rattle.std.proofs.lemmas.Bool.{and_right}
use Rattle.std.specs.Prelude.{◌≢◌, ℤ, pos, int_lt, ◌≤ℤ◌, ◌<ℤ◌}
use Rattle.std.proofs.lemmas.Int.{ints, by_lt_z}
use Rattle.std.proofs.Common.{ne_eqb, ap, suc-le-suc}
use Rattle.wire.specs.declared.records.Sent.{Sent}
use Rattle.timed_scripts.specs.Cutting.{cut_at}
use Rattle.timed_scripts.specs.Moments.{number_after, record_moment, records_before, since, fixed_moment, moment_said}

pub no_digit : (value : ℕ) (rest later : List ℕ) (digit : ℕ) → rest ≡ digit ∷ later → is_ascii_digit digit ≡ false → number_after value rest ≡ None
no_digit value rest later digit is no' = rw (is, no') refl

pub too_much : (value : ℕ) (rest later : List ℕ) (digit : ℕ) → rest ≡ digit ∷ later → 100_000_000_000 ≤ value → number_after value rest ≡ None
too_much value rest later digit is le = rw (is, and_right (is_ascii_digit digit) (ltb value 100_000_000_000) (le-ltb value 100_000_000_000 le)) refl

pub one_digit : (value : ℕ) (rest later : List ℕ) (digit : ℕ) → rest ≡ digit ∷ later → is_ascii_digit digit ≡ true → value < 100_000_000_000
    → number_after value rest ≡ number_after (value * 10 + (digit - 48)) later
one_digit value rest later digit is yes' lt = rw (is, yes', lt-ltb value 100_000_000_000 lt) refl

pub all_read : (value : ℕ) (rest : List ℕ) → length rest ≡ 0 → number_after value rest ≡ Some value
all_read value [] e = refl
all_read value (x ∷ xs) e = absurd (omega (arith, e))

-- ---- moments

pub behind_plus : (first : Option ℕ) (word later : List ℕ) → word ≡ 43 ∷ later → moment_said first word ≡ since first (cut_at 115 later)
behind_plus first word later is = rw is refl

pub no_plus : (first : Option ℕ) (word : List ℕ) → ((later : List ℕ) → word ≢ 43 ∷ later) → moment_said first word ≡ fixed_moment word
no_plus first [] none = refl
no_plus first (x ∷ xs) none = rw (ne_eqb x 43 (λ e. none xs (ap (λ (y : ℕ). y ∷ xs) e))) refl

-- ---- records before a moment

not_earlier : (a b : ℤ) → b ≤ℤ a → int_lt a b ≡ false
not_earlier a b le = grind (arith, ints)

earlier : (a b : ℤ) → a <ℤ b → int_lt a b ≡ true
earlier a b lt = grind (arith, ints)

pub none_before : (moment : ℤ) (rest later : List Sent) (sent : Sent) → rest ≡ sent ∷ later → moment ≤ℤ pos (record_moment sent) → records_before moment rest ≡ 0
none_before moment rest later sent is le = rw (is, not_earlier (pos (record_moment sent)) moment le) refl

pub one_before : (moment : ℤ) (rest later : List Sent) (sent : Sent) → rest ≡ sent ∷ later → pos (record_moment sent) <ℤ moment → records_before moment rest ≡ 1 + records_before moment later
one_before moment rest later sent is lt = rw (is, earlier (pos (record_moment sent)) moment lt) (omega arith)

pub no_record : (moment : ℤ) (rest : List Sent) → length rest ≡ 0 → records_before moment rest ≡ 0
no_record moment [] e = refl
no_record moment (x ∷ xs) e = absurd (omega (arith, e))

-- a later moment has no fewer records before it
pub before_later : (one other : ℤ) (records : List Sent) → one ≤ℤ other → records_before one records ≤ records_before other records
before_later one other [] le = omega arith
before_later one other (r ∷ rs) le = by_lt_z (pos (record_moment r)) one
    (λ lt. rw (earlier (pos (record_moment r)) one lt, earlier (pos (record_moment r)) other (omega (arith, ints, lt, le))) (suc-le-suc (before_later one other rs le)))
    (λ ge. rw (not_earlier (pos (record_moment r)) one ge) (omega arith))
