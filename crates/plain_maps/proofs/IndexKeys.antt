-- The keys of an array's part: each index as four bytes, and back.
use Rattle.std.proofs.Common.{◌≡◌, ◌⊎◌, ℕ, zero, suc, ◌+◌, ◌*◌, ◌/◌, ◌%◌, ◌^◌, ◌==◌, ◌<◌, ◌≤◌, true, false, cond, ◌&&◌, nat_lt, List, [], ◌∷◌, ◌++◌, length, Some, None, bytes_eq, refl, sym, ap, ◌∙◌, inl, inr, arith, lit<, subst}
use Rattle.std.specs.List.{IsDistinct}
use Rattle.std.specs.Map.{lookup, keys_of}
use Rattle.std.proofs.Math.Nat.{mod-lt, pow-suc, div-lt_iff_lt-mul, div-mul-le_self, mod-eq-sub-div-mul, mul-le-mul_right}
use Rattle.std.proofs.lemmas.Bool.{cases_Bool, cases_lt, and_from, and_parts, lt-ltb, le-ltb, eq-eqb, eqb-true, false≢true}
use Rattle.std.proofs.lemmas.Nat.{div-mul-add, mod-mul-add}
use Rattle.std.proofs.lemmas.Slice.Eq.{bytes_eq-Decides}
use Rattle.semantics.specs.LittleEndian.{number_of_bytes, bytes_of_number}
use Rattle.semantics.specs.ByteCells.{AreBytes}
use Rattle.semantics.specs.History.{are_bytes}
use Rattle.semantics.proofs.shared.LittleEndianLemmas.{number_of_bytes-cons}
use Rattle.semantics.proofs.shared.CellBytes.{bytes_tested}
use Rattle.plain_maps.specs.ArrayTable.{is_index_of, cell_of_array_index, cell_in_part}
use Rattle.plain_maps.specs.Listed.{ListsAll}
use Rattle.plain_maps.proofs.shared.Listing.{when_true, when_false, lookup_before, lookup_behind, none_distinct, distinct_push}

-- ---- numbers and bytes

byte_of : (byte higher : ℕ) → byte < 256 → (higher * 256 + byte) % 256 ≡ byte
byte_of byte higher small = mod-mul-add higher 256 byte small

rest_of : (byte higher : ℕ) → byte < 256 → (higher * 256 + byte) / 256 ≡ higher
rest_of byte higher small = div-mul-add higher 256 byte small

bytes_back : (bytes : List ℕ) → AreBytes bytes → bytes_of_number (length bytes) (number_of_bytes bytes) ≡ bytes
bytes_back [] are = refl
bytes_back (byte ∷ higher) are =
    let whole : number_of_bytes (byte ∷ higher) ≡ number_of_bytes higher * 256 + byte = number_of_bytes-cons byte higher in
    let first : number_of_bytes (byte ∷ higher) % 256 ≡ byte = ap (λ (n : ℕ). n % 256) whole ∙ byte_of byte (number_of_bytes higher) are.0 in
    let rest : number_of_bytes (byte ∷ higher) / 256 ≡ number_of_bytes higher = ap (λ (n : ℕ). n / 256) whole ∙ rest_of byte (number_of_bytes higher) are.0 in
    ap (λ (b : ℕ). b ∷ bytes_of_number (length higher) (number_of_bytes (byte ∷ higher) / 256)) first
    ∙ ap (λ (bs : List ℕ). byte ∷ bs) (ap (bytes_of_number (length higher)) rest ∙ bytes_back higher are.1)

number_back : (count number : ℕ) → number < 256 ^ count → number_of_bytes (bytes_of_number count number) ≡ number
number_back zero number small = omega arith
number_back (suc count) number small =
    let power : 256 ^ suc count ≡ 256 ^ count * 256 = pow-suc 256 count in
    let below : number < 256 ^ count * 256 = omega (arith, small, power) in
    let rest : number_of_bytes (bytes_of_number count (number / 256)) ≡ number / 256 = number_back count (number / 256) ((div-lt_iff_lt-mul (lit< tt)).1 below) in
    let sum : number_of_bytes (bytes_of_number count (number / 256)) * 256 + number % 256 ≡ number = omega (arith, rest) in
    number_of_bytes-cons (number % 256) (bytes_of_number count (number / 256)) ∙ sum

are_bytes_of : (count number : ℕ) → are_bytes (bytes_of_number count number) ≡ true
are_bytes_of zero number = refl
are_bytes_of (suc count) number = and_from (nat_lt (number % 256) 256) (are_bytes (bytes_of_number count (number / 256))) (lt-ltb (number % 256) 256 (mod-lt number (lit< tt))) (are_bytes_of count (number / 256))

length_of_bytes : (count number : ℕ) → length (bytes_of_number count number) ≡ count
length_of_bytes zero number = refl
length_of_bytes (suc count) number = let rest = length_of_bytes count (number / 256) in omega (arith, rest)

-- ---- the rows of a part

-- the first indices of a part, as keys, each with its cell
abbrev pub index_rows : ℕ → ℕ → ℕ → List (List ℕ × ℕ)
index_rows parts part zero = []
index_rows parts part (suc count) = index_rows parts part count ++ (bytes_of_number 4 (count * parts + part), count) ∷ []

pub rows_more : (parts part count : ℕ) → index_rows parts part count ++ (bytes_of_number 4 (count * parts + part), count) ∷ [] ≡ index_rows parts part (count + 1)
rows_more parts part count = let next : suc count ≡ count + 1 = omega arith in ap (index_rows parts part) next

-- a key of the part
record IsIndex (parts part : ℕ) (key : List ℕ) : Type 0 where
  four : length key ≡ 4
  own : number_of_bytes key % parts ≡ part
  bytes : AreBytes key

module _ (parts part : ℕ) (within : part < parts) where
  tested : (key : List ℕ) → is_index_of parts part key ≡ true → IsIndex parts part key
  tested key test =
      let first = and_parts (length key == 4) (number_of_bytes key % parts == part && are_bytes key) test in
      let others = and_parts (number_of_bytes key % parts == part) (are_bytes key) first.1 in
      record { four = eqb-true (length key) 4 first.0; own = eqb-true (number_of_bytes key % parts) part others.0; bytes = bytes_tested key others.1 }

  -- its index, by its rank
  index_is : (key : List ℕ) → IsIndex parts part key → number_of_bytes key / parts * parts + part ≡ number_of_bytes key
  index_is key is =
      let most = div-mul-le_self (number_of_bytes key) parts in
      let rest = mod-eq-sub-div-mul (number_of_bytes key) parts in
      omega (arith, most, rest, is.own)

  key_is : (key : List ℕ) (count : ℕ) → IsIndex parts part key → number_of_bytes key / parts ≡ count → bytes_of_number 4 (count * parts + part) ≡ key
  key_is key count is same =
      let number : count * parts + part ≡ number_of_bytes key = ap (λ (rank : ℕ). rank * parts + part) (sym same) ∙ index_is key is in
      ap (bytes_of_number 4) number ∙ subst (λ size. bytes_of_number size (number_of_bytes key) ≡ key) is.four (bytes_back key is.bytes)

  row_number : (count : ℕ) → count * parts + part < 2 ^ 32 → number_of_bytes (bytes_of_number 4 (count * parts + part)) ≡ count * parts + part
  row_number count small = number_back 4 (count * parts + part) small

  row_is : (count : ℕ) → count * parts + part < 2 ^ 32 → is_index_of parts part (bytes_of_number 4 (count * parts + part)) ≡ true
  row_is count small =
      and_from (length (bytes_of_number 4 (count * parts + part)) == 4) (number_of_bytes (bytes_of_number 4 (count * parts + part)) % parts == part && are_bytes (bytes_of_number 4 (count * parts + part)))
      (eq-eqb (length (bytes_of_number 4 (count * parts + part))) 4 (length_of_bytes 4 (count * parts + part)))
      (and_from (number_of_bytes (bytes_of_number 4 (count * parts + part)) % parts == part) (are_bytes (bytes_of_number 4 (count * parts + part)))
      (eq-eqb (number_of_bytes (bytes_of_number 4 (count * parts + part)) % parts) part (ap (λ (number : ℕ). number % parts) (row_number count small) ∙ mod-mul-add count parts part within))
      (are_bytes_of 4 (count * parts + part)))

  row_rank : (count : ℕ) → count * parts + part < 2 ^ 32 → number_of_bytes (bytes_of_number 4 (count * parts + part)) / parts ≡ count
  row_rank count small = ap (λ (number : ℕ). number / parts) (row_number count small) ∙ div-mul-add count parts part within

  -- the indices of these ranks fit four bytes
  abbrev Fit : ℕ → Type 0
  Fit count = (rank : ℕ) → rank < count → rank * parts + part < 2 ^ 32

  -- no key is there but those of the ranks so far
  no_row : (count : ℕ) (key : List ℕ) → Fit count → (is_index_of parts part key ≡ false) ⊎ (count ≤ number_of_bytes key / parts) → lookup (bytes_eq key) (index_rows parts part count) ≡ None
  no_row zero key fit why = refl
  no_row (suc count) key fit why =
      lookup_behind (bytes_eq key) (index_rows parts part count) ((bytes_of_number 4 (count * parts + part), count) ∷ [])
      (no_row count key (λ rank lt. fit rank (omega (arith, lt))) (elim why [ inl foreign ↦ inl foreign | inr above ↦ inr (omega (arith, above)) ]))
      ∙ ap (λ test. cond test (Some count) None) other
    where
      other : bytes_eq key (bytes_of_number 4 (count * parts + part)) ≡ false
      other = elim (cases_Bool (bytes_eq key (bytes_of_number 4 (count * parts + part)))) [
        | inr apart ↦ apart
        | inl equal ↦ (let same : key ≡ bytes_of_number 4 (count * parts + part) = (bytes_eq-Decides key (bytes_of_number 4 (count * parts + part))).0 equal in
            let small = fit count (omega arith) in
            elim why [
              | inl foreign ↦ absurd (false≢true (sym foreign ∙ ap (is_index_of parts part) same ∙ row_is count small))
              | inr above ↦ (let rank : number_of_bytes key / parts ≡ count = ap (λ (bytes : List ℕ). number_of_bytes bytes / parts) same ∙ row_rank count small in absurd (omega (arith, rank, above)))
            ])
      ]

  a_row : (count : ℕ) (key : List ℕ) → Fit count → IsIndex parts part key → number_of_bytes key / parts < count → lookup (bytes_eq key) (index_rows parts part count) ≡ Some (number_of_bytes key / parts)
  a_row zero key fit is below = absurd (omega (arith, below))
  a_row (suc count) key fit is below = elim (cases_lt (number_of_bytes key / parts) count) [
    | inl before ↦ lookup_before (bytes_eq key) (index_rows parts part count) ((bytes_of_number 4 (count * parts + part), count) ∷ []) (number_of_bytes key / parts)
        (a_row count key (λ rank lt. fit rank (omega (arith, lt))) is before)
    | inr last ↦ (let same : number_of_bytes key / parts ≡ count = omega (arith, last, below) in
        let equal : bytes_eq key (bytes_of_number 4 (count * parts + part)) ≡ true = (bytes_eq-Decides key (bytes_of_number 4 (count * parts + part))).1 (sym (key_is key count is same)) in
        lookup_behind (bytes_eq key) (index_rows parts part count) ((bytes_of_number 4 (count * parts + part), count) ∷ [])
        (no_row count key (λ rank lt. fit rank (omega (arith, lt))) (inr last))
        ∙ ap (λ test. cond test (Some count) None) equal ∙ ap Some (sym same))
  ]

  distinct_rows : (count : ℕ) → Fit count → IsDistinct bytes_eq (keys_of (index_rows parts part count))
  distinct_rows zero fit = none_distinct
  distinct_rows (suc count) fit =
      let fits : Fit count = λ rank lt. fit rank (omega (arith, lt)) in
      let rank = row_rank count (fit count (omega arith)) in
      distinct_push (index_rows parts part count) (bytes_of_number 4 (count * parts + part)) count (distinct_rows count fits)
      (no_row count (bytes_of_number 4 (count * parts + part)) fits (inr (omega (arith, rank))))

  -- ---- all of them

  module _ (max_entries : ℕ) (whole : max_entries % parts ≡ 0) (few : max_entries ≤ 2 ^ 32) where
    whole_is : max_entries / parts * parts ≡ max_entries
    whole_is =
        let most = div-mul-le_self max_entries parts in
        let rest = mod-eq-sub-div-mul max_entries parts in
        omega (arith, most, rest, whole)

    pub index_below : (rank : ℕ) → rank < max_entries / parts → rank * parts + part < max_entries
    index_below rank lt =
        let ends : (rank + 1) * parts ≤ max_entries / parts * parts = mul-le-mul_right parts (omega (arith, lt)) in
        omega (arith, ends, whole_is, within)

    rank_below : (number : ℕ) → number < max_entries → number / parts < max_entries / parts
    rank_below number lt = let below : number < max_entries / parts * parts = omega (arith, lt, whole_is) in (div-lt_iff_lt-mul (omega (arith, within))).1 below

    below_by_rank : (number : ℕ) → number / parts < max_entries / parts → number < max_entries
    below_by_rank number lt = let below : number < max_entries / parts * parts = (div-lt_iff_lt-mul (omega (arith, within))).0 lt in omega (arith, below, whole_is)

    fit_all : Fit (max_entries / parts)
    fit_all rank lt = let below = index_below rank lt in omega (arith, below, few)

    each_row : (key : List ℕ) → lookup (bytes_eq key) (index_rows parts part (max_entries / parts)) ≡ cell_in_part max_entries parts part key
    each_row key = elim (cases_Bool (is_index_of parts part key)) [
      | inr foreign ↦ no_row (max_entries / parts) key fit_all (inl foreign) ∙ sym (when_false (is_index_of parts part key) (cell_of_array_index max_entries parts (number_of_bytes key)) None foreign)
      | inl own ↦ elim (cases_lt (number_of_bytes key) max_entries) [
        | inl below ↦ a_row (max_entries / parts) key fit_all (tested key own) (rank_below (number_of_bytes key) below)
            ∙ sym (when_true (is_index_of parts part key) (cell_of_array_index max_entries parts (number_of_bytes key)) None own
            ∙ when_true (nat_lt (number_of_bytes key) max_entries) (Some (number_of_bytes key / parts)) None (lt-ltb (number_of_bytes key) max_entries below))
        | inr past ↦ no_row (max_entries / parts) key fit_all (inr (no_rank past))
            ∙ sym (when_true (is_index_of parts part key) (cell_of_array_index max_entries parts (number_of_bytes key)) None own
            ∙ when_false (nat_lt (number_of_bytes key) max_entries) (Some (number_of_bytes key / parts)) None (le-ltb (number_of_bytes key) max_entries past))
      ]
    ]
      where
        no_rank : max_entries ≤ number_of_bytes key → max_entries / parts ≤ number_of_bytes key / parts
        no_rank past = elim (cases_lt (number_of_bytes key / parts) (max_entries / parts)) [
          | inl lower ↦ (let below = below_by_rank (number_of_bytes key) lower in absurd (omega (arith, below, past)))
          | inr above ↦ above
        ]

    pub lists_rows : ListsAll (cell_in_part max_entries parts part) (index_rows parts part (max_entries / parts))
    lists_rows = record { apart = distinct_rows (max_entries / parts) fit_all; each = each_row }
