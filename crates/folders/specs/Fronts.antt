-- The front of a file: its first bytes, and how many there are in all.
use Rattle.std.specs.Prelude.{◌≡◌, ◌≤◌, ◌<◌, ℕ, List, take, length}
use Rattle.folders.specs.declared.folder.Front.{Front}

-- these are the first bytes of the file, as many as are asked for or all, and its length
pub record IsFrontOf (bytes : List ℕ) (most : ℕ) (front : Front) : Type 0 where
  pub kept : front.bytes.items ≡ take most bytes
  pub whole : front.length ≡ length bytes

-- the file of some bytes has this front
pub record HasFront (holds : List ℕ → Type 0) (most : ℕ) (front : Front) : Type 0 where
  pub bytes : List ℕ
  pub held : holds bytes
  pub is_front : IsFrontOf bytes most front

-- the numbers of it: no more bytes are kept than are asked for or there are, and fewer than asked for only where these are all
pub record IsShortFront (most : ℕ) (front : Front) : Type 0 where
  pub few : length front.bytes.items ≤ most
  pub within : length front.bytes.items ≤ front.length
  pub others : length front.bytes.items < most → front.length ≡ length front.bytes.items
