-- Kinds of changes, and how many records there are of each.
use Rattle.std.specs.Prelude.{◌≡◌, ℕ, ◌+◌, ◌-◌, ◌^◌, ◌<◌, List, String, count_by, if◌then◌else◌, unwrap_or, IsPermutation}
use Rattle.std.specs.BTreeMap.{BTreeMap, IsOrdered, get_by_text}
use Rattle.std.specs.String.{string_cmp}
use Rattle.std.specs.Str.{bytes_eq}
use Rattle.std.specs.List.Sorted.{IsNonDecreasingBy}
use Rattle.comparison.specs.Changes.{change_at}

-- 1 if the texts are the same, and 0 if not
abbrev pub one_if_same : List ℕ → List ℕ → ℕ
one_if_same first second = if bytes_eq first second then 1 else 0

-- how many of the records at these places are changed so
abbrev pub how_many_changed : List (List ℕ) → List (List ℕ) → List ℕ → List ℕ → ℕ
how_many_changed first second change places = count_by (λ place. bytes_eq change (change_at first second place)) places

module _ {Y : Type 0} where
  -- the number that a table has for a kind, and 0 for a kind that is not listed
  abbrev pub count_of : BTreeMap (String Y) ℕ → List ℕ → ℕ
  count_of table change = unwrap_or (get_by_text table change) 0

  -- every kind that is listed has a record
  abbrev pub HasNoZero : BTreeMap (String Y) ℕ → Type 0
  HasNoZero table = (change : List ℕ) → 0 < unwrap_or (get_by_text table change) 1

  -- a kind has one record more, and every other kind as many
  pub record HasOneMore (old new : BTreeMap (String Y) ℕ) (change : List ℕ) : Type 0 where
    pub no_zero : HasNoZero new
    pub counts : (other : List ℕ) → count_of new other ≡ count_of old other + one_if_same other change

  -- a table with the kinds of the records at these places, each once, with how many they are
  pub record IsTableOf (first second : List (List ℕ)) (places : List ℕ) (table : BTreeMap (String Y) ℕ) : Type 0 where
    pub no_zero : HasNoZero table
    pub counts : (change : List ℕ) → count_of table change ≡ how_many_changed first second change places

  -- the kinds of a table, the most frequent first
  pub record IsByCount (table : BTreeMap (String Y) ℕ) (kinds : List (String Y × ℕ)) : Type 0 where
    pub ordered : IsOrdered string_cmp table
    pub listed : IsPermutation table.entries kinds
    pub falling : IsNonDecreasingBy (λ kind. 2 ^ 64 - 1 - kind.1) kinds

  -- a list of the kinds of the records at these places, each once, with how many they are: the most frequent first
  pub record AreKindsOf (first second : List (List ℕ)) (places : List ℕ) (kinds : List (String Y × ℕ)) : Type 0 where
    pub table : BTreeMap (String Y) ℕ
    pub counted : IsTableOf first second places table
    pub by_count : IsByCount table kinds
