-- What a contract sees of a frame: its bytes, and how many free bytes lie before them.
use Rattle.std.specs.Prelude.{ℕ, ◌+◌, ◌-◌, List, ◌++◌, length, take, drop, replicate, slice_set}

pub record FrameView : Type 0 where
  pub bytes : List ℕ
  pub headroom : ℕ

-- the list with these items in place of those from an index on
abbrev pub overwritten_at : ℕ → List ℕ → List ℕ → List ℕ
overwritten_at at items old = take at old ++ items ++ drop (at + length items) old

-- the frame with this byte at an index
abbrev pub with_byte_at : ℕ → ℕ → FrameView → FrameView
with_byte_at at byte old = record { bytes = slice_set old.bytes at byte; headroom = old.headroom }

-- the frame with these bytes in place of those from an index on
abbrev pub with_bytes_at : ℕ → List ℕ → FrameView → FrameView
with_bytes_at at items old = record { bytes = overwritten_at at items old.bytes; headroom = old.headroom }

-- the frame with its start moved back: zeros come before it
abbrev pub grown_front : ℕ → FrameView → FrameView
grown_front count old = record { bytes = replicate count 0 ++ old.bytes; headroom = old.headroom - count }

-- the frame with its start moved forward: its first bytes are dropped
abbrev pub shrunk_front : ℕ → FrameView → FrameView
shrunk_front count old = record { bytes = drop count old.bytes; headroom = old.headroom + count }
