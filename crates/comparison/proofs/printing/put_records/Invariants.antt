use Rattle.std.proofs.Common.{◌≡◌, ◌++◌, map, take, string_bytes}
use Rattle.comparison.specs.ComparisonText.{records_text}
use Rattle.comparison.proofs.printing.put_records.Given as goal

abbrev pub invariant-places : goal.invariant-places
invariant-places l =
    string_bytes l.text ≡ string_bytes l.fn.text ++ records_text (map (λ row. row.now) l.first) (map (λ row. row.now) l.second)
    (take l.place-index l.places)
