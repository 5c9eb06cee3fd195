-- Numbers of 16 bits as headers have them: high byte first (RFC 791, appendix B).
use Rattle.std.specs.Prelude.{ℕ, ◌+◌, ◌*◌, List, slice_index}

-- the 16-bit number at an index, high byte first
abbrev pub be_word_at : ℕ → List ℕ → ℕ
be_word_at at bytes = slice_index bytes at * 256 + slice_index bytes (at + 1)
