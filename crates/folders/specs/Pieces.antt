-- Files that are read in pieces: what is left of one, before and after a piece.
use Rattle.std.specs.Prelude.{ℕ, List, ◌++◌}

-- something is left of the file, and whatever it is, the file has these bytes
pub record IsOpened (holds : List ℕ → Type 0) (is_left : List ℕ → Type 0) : Type 0 where
  pub bytes : List ℕ
  pub left : is_left bytes
  pub held : (all : List ℕ) → is_left all → holds all

-- the piece came: before it was left what is left now, behind the piece; and something is left, if anything was
pub record IsPiece (was_left : List ℕ → Type 0) (is_left : List ℕ → Type 0) (piece : List ℕ) : Type 0 where
  pub some : (before : List ℕ) → was_left before → (rest : List ℕ) × is_left rest
  pub behind : (rest : List ℕ) → is_left rest → was_left (piece ++ rest)
