use Rattle.std.proofs.Common.{◌≡◌, string_bytes, map, take}
use Rattle.std.specs.List.{flat_map}
use Rattle.flows.specs.FlowRecords.{moved_of}
use Rattle.page.specs.Tables.{move_line}
use Rattle.page.proofs.tables.move_lines.Given as goal

abbrev pub invariant-moves : goal.invariant-moves
invariant-moves l =
    string_bytes l.text ≡ flat_map (λ move. move_line (map (λ row. row.now) l.rows) (moved_of move)) (take l.moved-index l.moves)
