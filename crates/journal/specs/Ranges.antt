-- Bytes of a cell that a row has room to name.
use Rattle.std.specs.Prelude.{◌<◌}
use Rattle.journal.specs.declared.append.CellRange.{CellRange}

-- every range within a value is one, since a value has at most 256 bytes
abbrev pub IsShortRange : CellRange → Type 0
IsShortRange range = (range.offset < 65536) × (range.size < 256)
