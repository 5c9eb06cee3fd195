-- The words of an update: its map's place in decimal, its key and its value in hexadecimal, two digits for each byte.
use Rattle.std.specs.Prelude.{◌≡◌, ℕ, ◌<◌, ◌≤◌, ◌^◌, List, length, Ok}
use Rattle.std.specs.Str.Parse.{IsNumeral, digits_value, without_leading_plus}
use Rattle.hex.specs.Hex.{decode_of}
use Rattle.map_updates.specs.declared.reading.Mistake.{Mistake}
use Rattle.map_updates.specs.declared.reading.Mistake.TheVariants.{Map, Key, Value, Memory}
use Rattle.map_updates.specs.declared.update.MapUpdate.{MapUpdate}

abbrev pub numeral_value : List ℕ → ℕ
numeral_value text = digits_value 10 (without_leading_plus text)

-- the text writes a number of 32 bits
abbrev pub IsMapNumber : List ℕ → Type 0
IsMapNumber text = IsNumeral 10 (without_leading_plus text) × (numeral_value text < 2 ^ 32)

-- the text writes these bytes, this many at most
abbrev pub IsHex : ℕ → List ℕ → List ℕ → Type 0
IsHex most text bytes = (decode_of text ≡ Ok bytes) × (length bytes ≤ most)

-- the text writes no bytes
abbrev pub IsUndecoded : List ℕ → Type 0
IsUndecoded text = (bytes : List ℕ) → decode_of text ≡ Ok bytes → ⊥

-- the text writes no bytes, or too many
abbrev pub IsNoHex : ℕ → List ℕ → Type 0
IsNoHex most text = (bytes : List ℕ) → ¬ IsHex most text bytes

-- the words say this update
pub record IsWritten (map key value : List ℕ) (update : MapUpdate) : Type 0 where
  pub is_number : IsMapNumber map
  pub map_is : update.map ≡ numeral_value map
  pub key_is : IsHex 32 key update.key
  pub value_is : IsHex 256 value update.value

-- the words say none: the first mistake in them
abbrev pub AreMistakenWords : List ℕ → List ℕ → List ℕ → Mistake → Type 0
AreMistakenWords map key value Map = ¬ IsMapNumber map
AreMistakenWords map key value Key = IsMapNumber map × IsNoHex 32 key
AreMistakenWords map key value Value = IsMapNumber map × ((bytes : List ℕ) × IsHex 32 key bytes) × IsNoHex 256 value
AreMistakenWords map key value Memory = Unit {0}
