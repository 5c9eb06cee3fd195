-- Bytes that are not UTF-8.
use Rattle.std.specs.Prelude.{◌≡◌, ◌==◌, ◌+◌, ℕ, List, IsUtf8, count_by, take}
use Rattle.std.specs.Str.{IsValidUpTo}

-- the line, counted from 1, of the first byte that is no UTF-8
pub record IsNoText (bytes : List ℕ) (line : ℕ) : Type 0 where
  pub valid : ℕ
  pub not_utf8 : ¬ IsUtf8 bytes
  pub valid_up_to : IsValidUpTo bytes valid
  pub line_is : line ≡ 1 + count_by (λ byte. byte == 10) (take valid bytes)
