-- Keys by their hash: a bucket has three entry numbers, and counts the keys of its own that found no place in it and are in order
-- instead. So a key that is not in its bucket is absent where that count is 0, and else costs a search among the keys in order.
use Rattle.std.specs.Prelude.{◌≡◌, ◌≢◌, ℕ, ◌+◌, ◌==◌, ◌<◌, ◌≤◌, ◌⊎◌, Bool, true, false, not, ◌&&◌, List, [], ◌∷◌, length, slice_index_or}
use Rattle.std.specs.Prelude.{Option, Some, None, bytes_eq, if◌then◌else◌}
use Rattle.plain_maps.specs.declared.buckets.Bucket.{Bucket}
use Rattle.plain_maps.specs.Keyed.{key_of, IsOrder}
use Rattle.plain_maps.specs.Hashing.{home_of}

-- what is where no entry number does
abbrev pub nothing : ℕ
nothing = 4294967295

abbrev pub empty_bucket : Bucket
empty_bucket = record { first = nothing; second = nothing; third = nothing; over = 0 }

abbrev pub bucket_at : List Bucket → ℕ → Bucket
bucket_at buckets b = slice_index_or buckets b empty_bucket

abbrev pub StandsInBucket : ℕ → Bucket → Type 0
StandsInBucket n bucket = (bucket.first ≡ n) ⊎ ((bucket.second ≡ n) ⊎ (bucket.third ≡ n))

-- the number is one, and has this key
abbrev pub has : ℕ → List ℕ → List ℕ → ℕ → Bool
has size keys key n = not (n == nothing) && bytes_eq (key_of size keys n) key

abbrev pub found_in : ℕ → List ℕ → List ℕ → Bucket → Option ℕ
found_in size keys key bucket =
    if has size keys key bucket.first then Some bucket.first
    else (if has size keys key bucket.second then Some bucket.second
    else (if has size keys key bucket.third then Some bucket.third else None))

-- the bucket with one more number, if it has a free place
abbrev pub placed : ℕ → Bucket → Option Bucket
placed n bucket =
    if bucket.first == nothing then Some (record bucket { first = n })
    else (if bucket.second == nothing then Some (record bucket { second = n })
    else (if bucket.third == nothing then Some (record bucket { third = n }) else None))

abbrev pub cleared_slot : ℕ → ℕ → ℕ
cleared_slot n slot = if slot == n then nothing else slot

abbrev pub cleared : ℕ → Bucket → Bucket
cleared n bucket = record {
  first = cleared_slot n bucket.first;
  second = cleared_slot n bucket.second;
  third = cleared_slot n bucket.third;
  over = bucket.over;
}

abbrev pub There : List Bool → ℕ → Type 0
There flags n = slice_index_or flags n false ≡ true

abbrev pub InOrder : List ℕ → ℕ → Type 0
InOrder order n = (i : ℕ) × (i < length order) × (slice_index_or order i 0 ≡ n)

-- how many of the numbers have this bucket
abbrev pub one_homed : ℕ → ℕ → ℕ
one_homed b home = if home == b then 1 else 0

abbrev pub homed : ℕ → (ℕ → ℕ) → List ℕ → ℕ
homed b home [] = 0
homed b home (n ∷ numbers) = one_homed b (home n) + homed b home numbers

-- the bucket of an entry number
abbrev pub home : ℕ → List ℕ → ℕ → ℕ → ℕ
home size keys buckets n = home_of buckets (key_of size keys n)

pub record IsIndex (size capacity : ℕ) (keys : List ℕ) (flags : List Bool) (order : List ℕ) (places : ℕ)
    (buckets : List Bucket) : Type 0 where
  pub ordered : IsOrder size capacity keys order
  pub flag_count : length flags ≡ capacity
  pub few : capacity < nothing
  pub some : 0 < length buckets
  pub room : capacity ≤ places
  pub apart : (n m : ℕ) → There flags n → There flags m → key_of size keys n ≡ key_of size keys m → n ≡ m
  pub listed : (i : ℕ) → i < length order → There flags (slice_index_or order i 0)
  pub bucketed :
      (b n : ℕ) → b < length buckets → StandsInBucket n (bucket_at buckets b) → n ≢ nothing →
      There flags n × (home size keys (length buckets) n ≡ b)
  pub exclusive : (b i : ℕ) → b < length buckets → i < length order → StandsInBucket (slice_index_or order i 0) (bucket_at buckets b) → ⊥
  pub covered : (n : ℕ) → There flags n → StandsInBucket n (bucket_at buckets (home size keys (length buckets) n)) ⊎ InOrder order n
  pub counted : (b : ℕ) → b < length buckets → (bucket_at buckets b).over ≡ homed b (home size keys (length buckets)) order
