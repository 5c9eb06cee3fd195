-- What maps hold after the calls of journals, as a text.
use Rattle.std.specs.Prelude.{◌≡◌, ℕ, zero, suc, ◌++◌, List, [], codes, decimal, length, Option, Some, None}
use Rattle.std.specs.List.{flat_map}
use Rattle.hex.specs.Hex.{encode_lower}
use Rattle.journals.specs.JournalsView.{JournalsView}
use Rattle.shard_core.specs.JournaledShard.{JournaledShard}
use Rattle.shards.specs.MapContents.{AreContentsOfMap}
use Rattle.map_meanings.specs.declared.form.ContentsForm.{ContentsForm}
use Rattle.map_meanings.specs.declared.form.ContentsForm.TheVariants.{Words, Json}
use Rattle.map_meanings.specs.declared.tables.Tables.{Tables}
use Rattle.map_meanings.specs.Meanings.{entry_meaning}
use Rattle.map_contents.specs.Remade.{AreShardsOf}
use Rattle.map_contents.specs.Told.{IsTold}

-- the line of an entry of the map at a place: the place, the key, the value, and what stands behind them
abbrev pub entry_text : ContentsForm → ℕ → List ℕ → List ℕ → List ℕ → List ℕ
entry_text Words map key value rest = decimal map ++ (codes " " ++ (key ++ (codes " " ++ (value ++ (rest ++ codes "\n")))))
entry_text Json map key value rest =
    codes "{\"map\":" ++ (decimal map ++ (codes ",\"key\":\"" ++ (key ++ (codes "\",\"value\":\"" ++ (value ++ (codes "\"" ++ (rest
    ++ codes "}\n")))))))

-- what the entry means, where the maps are those of steering
abbrev pub rest_of : ContentsForm → Option Tables → ℕ → List ℕ × List ℕ → List ℕ
rest_of form None map entry = []
rest_of form (Some tables) map entry = entry_meaning form tables map entry.0 entry.1

-- key and value are hexadecimal
abbrev pub entry_line : ContentsForm → Option Tables → ℕ → List ℕ × List ℕ → List ℕ
entry_line form told map entry = entry_text form map (encode_lower entry.0) (encode_lower entry.1) (rest_of form told map entry)

-- a line for each entry
abbrev pub map_lines : ContentsForm → Option Tables → ℕ → List (List ℕ × List ℕ) → List ℕ
map_lines form told map entries = flat_map (entry_line form told map) entries

-- the lines of the map at a place, of all that it holds
pub record AreMapLines (form : ContentsForm) (told : Option Tables) (journals : JournalsView) (shards : List JournaledShard) (map : ℕ)
    (lines : List ℕ) : Type 0 where
  pub entries : List (List ℕ × List ℕ)
  pub contents : AreContentsOfMap journals.maps journals.options shards map entries
  pub lines_are : lines ≡ map_lines form told map entries

-- the lines of the first so many maps, one map after the other
abbrev pub AreLinesTo : ContentsForm → Option Tables → JournalsView → List JournaledShard → ℕ → List ℕ → Type 0
AreLinesTo form told journals shards zero text = text ≡ []
AreLinesTo form told journals shards (suc map) text =
    (before lines : List ℕ) × AreLinesTo form told journals shards map before × AreMapLines form told journals shards map lines
    × (text ≡ before ++ lines)

-- of all maps, as they are after the calls of the journals
pub record IsContentsText (form : ContentsForm) (journals : JournalsView) (text : List ℕ) : Type 0 where
  pub shards : List JournaledShard
  pub of_journals : AreShardsOf journals shards
  pub told : Option Tables
  pub is_told : IsTold journals shards told
  pub lines : AreLinesTo form told journals shards (length journals.maps) text
