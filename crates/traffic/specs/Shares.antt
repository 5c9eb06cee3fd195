-- How much of a lookup table each backend has, and how many of its slots change hands. A table is the list of its words, by slot: an
-- owner's number and one, or 0 where nobody owns the slot.
use Rattle.std.specs.Prelude.{◌≡◌, ℕ, zero, suc, ◌+◌, ◌-◌, ◌<◌, ◌==◌, List, length, slice_get, unwrap_or, if◌then◌else◌}
use Rattle.maglev.specs.Population.{share_of}
use Rattle.traffic.specs.WrittenMaps.{with_item_at}

abbrev pub share_at : List ℕ → ℕ → ℕ
share_at words place = unwrap_or (slice_get words place) 0

-- how many of the first slots have another word in the second table than in the first
abbrev pub moved_below : List ℕ → List ℕ → ℕ → ℕ
moved_below old new zero = 0
moved_below old new (suc place) = moved_below old new place + (if share_at old place == share_at new place then 0 else 1)

-- how many slots more have this word in the second table
abbrev pub gain_of : List ℕ → List ℕ → ℕ → ℕ
gain_of old new word = share_of word new - share_of word old

unfoldable pub gains_below : List ℕ → List ℕ → ℕ → ℕ
gains_below old new zero = 0
gains_below old new (suc word) = gains_below old new word + gain_of old new word

-- The least number of slots that change hands from the first table to any in which each of 256 backends, and nobody, has the share of the
-- second table: what each of them gains.
abbrev pub least_moves : List ℕ → List ℕ → ℕ
least_moves old new = gains_below old new 257

-- ---- a list of shares, by word

-- the list has the share of each of the words below this one
pub record AreShares (table : List ℕ) (words : ℕ) (shares : List ℕ) : Type 0 where
  pub as_many : length shares ≡ words
  pub each : (word : ℕ) → word < words → share_at shares word ≡ share_of word table

-- one slot more has this word, if the list has it
abbrev pub share_counted : List ℕ → ℕ → List ℕ
share_counted shares word = with_item_at shares word (share_at shares word + 1)

-- how many slots more have this word in the second table, by the shares in both
abbrev pub entry_gain : List ℕ → List ℕ → ℕ → ℕ
entry_gain old new word = share_at new word - share_at old word

unfoldable pub entry_gains : List ℕ → List ℕ → ℕ → ℕ
entry_gains old new zero = 0
entry_gains old new (suc word) = entry_gains old new word + entry_gain old new word
