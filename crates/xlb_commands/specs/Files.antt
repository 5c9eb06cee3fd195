-- Files by their names, and images in them.
use Rattle.std.specs.Prelude.{◌≢◌, ◌↔◌, ℕ, List, Option, Some}
use Rattle.ebpf_decode.specs.ImageContents.{Contents}
use Rattle.ebpf_decode.specs.ImageFormat.{IsImageEncoding}
use Rattle.source_form.specs.SourceImage.{IsSource}

-- which bytes the file of a name has
abbrev pub FileBytes : Type 1
FileBytes = List ℕ → List ℕ → Type 0

-- each file has the bytes that it had
abbrev pub AreKept : FileBytes → FileBytes → Type 0
AreKept before after = (name bytes : List ℕ) → (before name bytes ↔ after name bytes)

-- each file but the one of this name has the bytes that it had
abbrev pub AreOthersKept : FileBytes → FileBytes → List ℕ → Type 0
AreOthersKept before after written = (name bytes : List ℕ) → name ≢ written → (before name bytes ↔ after name bytes)

-- each file but the one of this name, if there is one, has the bytes that it had
abbrev pub AreAllKeptBut : FileBytes → FileBytes → Option (List ℕ) → Type 0
AreAllKeptBut before after written = (name bytes : List ℕ) → written ≢ Some name → (before name bytes ↔ after name bytes)

-- each file except those of these names, where the second and the third may be missing, has the bytes that it had
abbrev pub AreAllButKept : FileBytes → FileBytes → List ℕ → Option (List ℕ) → Option (List ℕ) → Type 0
AreAllButKept before after written other third =
    (name bytes : List ℕ) → name ≢ written → other ≢ Some name → third ≢ Some name → (before name bytes ↔ after name bytes)

-- the same of two names, which may both be missing
abbrev pub AreAllKeptButTwo : FileBytes → FileBytes → Option (List ℕ) → Option (List ℕ) → Type 0
AreAllKeptButTwo before after written other =
    (name bytes : List ℕ) → written ≢ Some name → other ≢ Some name → (before name bytes ↔ after name bytes)

-- and of four names, of which only the first has to be there
abbrev pub AreAllButFourKept : FileBytes → FileBytes → List ℕ → Option (List ℕ) → Option (List ℕ) → Option (List ℕ) → Type 0
AreAllButFourKept before after written other third fourth =
    (name bytes : List ℕ) → name ≢ written → other ≢ Some name → third ≢ Some name → fourth ≢ Some name →
    (before name bytes ↔ after name bytes)

-- the file of this name is the encoding of the image
pub record IsImageFile (files : FileBytes) (name : List ℕ) (image : Contents) : Type 0 where
  pub bytes : List ℕ
  pub read : files name bytes
  pub encoding : IsImageEncoding bytes image

-- the image that is judged: the one whose encoding the file is, or the one that its text means in the source form
pub data IsJudged (files : FileBytes) (name : List ℕ) (image : Contents) : Type 0 where
  an_image : IsImageFile files name image → IsJudged files name image
  a_source : (text : List ℕ) → files name text → IsSource text image → IsJudged files name image
