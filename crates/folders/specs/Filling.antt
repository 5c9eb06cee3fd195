-- A buffer that more bytes of a file were read into.
use Rattle.std.specs.Prelude.{◌≡◌, ℕ, List, ◌++◌}
use Rattle.folders.specs.Pieces.{IsPiece}

-- behind the bytes that were unread come the next ones of the file
pub record IsFilled (was_left : List ℕ → Type 0) (is_left : List ℕ → Type 0) (was_unread : List ℕ) (unread : List ℕ) : Type 0 where
  pub piece : List ℕ
  pub appended : unread ≡ was_unread ++ piece
  pub came : IsPiece was_left is_left piece
