-- The text of a comparison, for people.
use Rattle.std.specs.Prelude.{ℕ, ◌-◌, ◌==◌, ◌++◌, List, [], String, codes, decimal, if◌then◌else◌, string_bytes, length, take}
use Rattle.std.specs.List.{flat_map}
use Rattle.comparison.specs.Columns.{number_column, moment_column, source_column, source_port_column, destination_column}
use Rattle.comparison.specs.Columns.{destination_port_column, protocol_column}
use Rattle.comparison.specs.Rows.{field, row_at}
use Rattle.comparison.specs.Changes.{change_at}

-- how many records both have, and how many are treated differently
abbrev pub summary_line : ℕ → ℕ → List ℕ
summary_line records changed = decimal records ++ (codes " records in both, " ++ (decimal changed ++ codes " treated differently\n"))

-- a kind of change, with how many records there are of it
abbrev pub kind_line : List ℕ → ℕ → List ℕ
kind_line change count = decimal count ++ (codes " " ++ (change ++ codes "\n"))

abbrev pub kinds_text : {Y : Type 0} → List (String Y × ℕ) → List ℕ
kinds_text kinds = flat_map (λ kind. kind_line (string_bytes kind.0) kind.1) kinds

-- kinds that are not printed
abbrev pub more_line : ℕ → List ℕ
more_line count = if count == 0 then [] else codes "and " ++ (decimal count ++ codes " kinds more\n")

abbrev pub flow_pieces : List ℕ → List ℕ → List ℕ → List ℕ → List ℕ → List ℕ
flow_pieces protocol source source_port destination destination_port =
    protocol ++ (codes " " ++ (source ++ (codes ":" ++ (source_port ++ (codes " to " ++ (destination ++ (codes ":"
    ++ destination_port)))))))

-- the flow of a record: protocol, source and port, destination and port
abbrev pub flow_phrase : List ℕ → List ℕ
flow_phrase row =
    if length (field source_column row) == 0 then codes "no flow" else
    flow_pieces (field protocol_column row) (field source_column row) (field source_port_column row) (field destination_column row)
    (field destination_port_column row)

abbrev pub record_pieces : List ℕ → List ℕ → List ℕ → List ℕ → List ℕ
record_pieces number moment flow change =
    codes "record " ++ (number ++ (codes " at " ++ (moment ++ (codes ", " ++ (flow ++ (codes ": " ++ (change ++ codes "\n")))))))

-- a record that is treated differently
abbrev pub record_text : List (List ℕ) → List (List ℕ) → ℕ → List ℕ
record_text first second place =
    record_pieces (field number_column (row_at first place)) (field moment_column (row_at first place)) (flow_phrase (row_at first place))
    (change_at first second place)

abbrev pub records_text : List (List ℕ) → List (List ℕ) → List ℕ → List ℕ
records_text first second places = flat_map (record_text first second) places

-- the numbers, the twenty most frequent kinds, and the first ten records that are treated differently
abbrev pub comparison_text : {Y : Type 0} → List (List ℕ) → List (List ℕ) → List ℕ → List (String Y × ℕ) → List ℕ
comparison_text first second places kinds =
    ((summary_line (length first) (length places) ++ kinds_text (take 20 kinds)) ++ more_line (length kinds - 20))
    ++ records_text first second (take 10 places)
