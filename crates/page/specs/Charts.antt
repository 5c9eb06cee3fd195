-- The charts of a page: frames over time by backend and by what became of them, and frames by backend.
use Rattle.std.specs.Prelude.{ℕ, zero, suc, ◌+◌, ◌-◌, ◌*◌, ◌/◌, ◌%◌, ◌==◌, ◌++◌, min, max, List, [], codes, decimal, fold, if◌then◌else◌, length}
use Rattle.std.specs.Prelude.{slice_index}
use Rattle.control.specs.declared.command.Command.{Command}
use Rattle.page.specs.Labels.{backend_label}
use Rattle.page.specs.Svg.{axis_text, groups_until, highest_of, legend_text, row_text, scaled}
use Rattle.page.specs.Named.{classes_of, pattern_of}
use Rattle.page.specs.Tallies.{counts_by_cell, slot_counts}

-- ---- words

-- the last six digits of a number
unfoldable pub six_last_digits : ℕ → List ℕ
six_last_digits value =
    decimal (value / 100000 % 10) ++ (decimal (value / 10000 % 10) ++ (decimal (value / 1000 % 10) ++ (decimal (value / 100 % 10)
    ++ (decimal (value / 10 % 10) ++ decimal (value % 10)))))

-- microseconds as seconds
unfoldable pub seconds_text : ℕ → List ℕ
seconds_text micros = decimal (micros / 1000000) ++ (codes "." ++ six_last_digits micros)

-- what became of a frame
abbrev pub fate_word : ℕ → List ℕ
fate_word fate =
    if fate == 0 then codes "sent" else (if fate == 1 then codes "passed" else (if fate == 2 then codes "dropped" else
    (if fate == 3 then codes "aborted" else (if fate == 4 then codes "stopped" else
    (if fate == 5 then codes "short" else codes "other")))))

-- ---- legends

-- the first N of the backends with a name
abbrev pub name_legend : List Command → List ℕ → ℕ → List ℕ
name_legend commands named zero = []
name_legend commands named (suc place) =
    name_legend commands named place ++ legend_text place (backend_label commands (slice_index named place))

-- all backends without a name, if one of them has a frame
abbrev pub others_legend : ℕ → List ℕ
others_legend count = if count == 0 then [] else legend_text 8 (codes "others")

abbrev pub backend_legend : List Command → List ℕ → ℕ → List ℕ
backend_legend commands named others = name_legend commands named (min (length named) 8) ++ others_legend others

abbrev pub fate_legend : ℕ → List ℕ
fate_legend zero = []
fate_legend (suc fate) = fate_legend fate ++ legend_text fate (fate_word fate)

-- how many of the fates are named: the seventh, anything else, only where there is such a frame
abbrev pub fates_named : List ℕ → ℕ
fates_named totals = if slice_index totals 6 == 0 then 6 else 7

-- ---- charts over time

-- what fills the patterns of the classes, each different in black and white
unfoldable pub patterns_text : List ℕ
patterns_text =
    codes "<defs>\n<pattern id=\"f0\" width=\"6\" height=\"6\" patternUnits=\"userSpaceOnUse\"><rect width=\"6\" height=\"6\" "
    ++ (codes "fill=\"#1f5fa8\"/></pattern>\n"
    ++ (codes "<pattern id=\"f1\" width=\"6\" height=\"6\" patternUnits=\"userSpaceOnUse\"><rect width=\"6\" height=\"6\" "
    ++ (codes "fill=\"#f0b429\"/><path d=\"M0 6L6 0\" stroke=\"#000\"/></pattern>\n"
    ++ (codes "<pattern id=\"f2\" width=\"6\" height=\"6\" patternUnits=\"userSpaceOnUse\"><rect width=\"6\" height=\"6\" "
    ++ (codes "fill=\"#e4e4e4\"/><circle cx=\"3\" cy=\"3\" r=\"1.4\"/></pattern>\n"
    ++ (codes "<pattern id=\"f3\" width=\"6\" height=\"6\" patternUnits=\"userSpaceOnUse\"><rect width=\"6\" height=\"6\" "
    ++ (codes "fill=\"#c0392b\"/><path d=\"M0 3H6\" stroke=\"#fff\"/></pattern>\n"
    ++ (codes "<pattern id=\"f4\" width=\"6\" height=\"6\" patternUnits=\"userSpaceOnUse\"><rect width=\"6\" height=\"6\" "
    ++ (codes "fill=\"#7fc8a9\"/><path d=\"M3 0V6\" stroke=\"#000\"/></pattern>\n"
    ++ (codes "<pattern id=\"f5\" width=\"6\" height=\"6\" patternUnits=\"userSpaceOnUse\"><rect width=\"6\" height=\"6\" fill=\"#ddd\"/>"
    ++ (codes "<path d=\"M0 0L6 6M0 6L6 0\" stroke=\"#000\" stroke-width=\".7\"/></pattern>\n"
    ++ (codes "<pattern id=\"f6\" width=\"6\" height=\"6\" patternUnits=\"userSpaceOnUse\"><rect width=\"6\" height=\"6\" fill=\"#111\"/>"
    ++ (codes "</pattern>\n<pattern id=\"f7\" width=\"6\" height=\"6\" patternUnits=\"userSpaceOnUse\"><rect width=\"6\" height=\"6\" "
    ++ (codes "fill=\"#d9a5d8\"/><path d=\"M0 0L6 6\" stroke=\"#000\"/></pattern>\n"
    ++ (codes "<pattern id=\"f8\" width=\"6\" height=\"6\" patternUnits=\"userSpaceOnUse\"><rect width=\"6\" height=\"6\" "
    ++ codes "fill=\"#f4f4f4\"/><path d=\"M0 3H6M3 0V6\" stroke=\"#000\" stroke-width=\".6\"/></pattern>\n</defs>\n")))))))))))))))

-- the bars of the counts of slots, and their scale
abbrev pub body_at : List ℕ → ℕ → List ℕ → List ℕ → ℕ → List ℕ
body_at counts classes first last highest = groups_until counts classes highest classes ++ axis_text highest first last

unfoldable pub body_text : List ℕ → ℕ → List ℕ → List ℕ → List ℕ
body_text counts classes first last = body_at counts classes first last (highest_of counts classes 60)

-- what the chart of frames over time by backend begins with
unfoldable pub backend_opening : List ℕ
backend_opening =
    codes "<h2>Frames over time, by backend</h2>\n<svg role=\"img\" viewBox=\"0 0 400 206\">\n"
    ++ (codes "<title>Frames over time, by backend</title>\n"
    ++ (codes "<desc>Stacked bars: how many frames each backend got in each of at most sixty equal slots of time. Numbered lines are "
    ++ codes "commands.</desc>\n"))

-- frames over time by backend, with the marks of commands
unfoldable pub backend_chart : List ℕ → List ℕ → List ℕ → List ℕ → List ℕ
backend_chart defs body marks legend =
    backend_opening ++ (defs ++ (body ++ (marks ++ (legend ++ codes "</svg>\n"))))

-- what the chart of frames over time by what became of them begins with
unfoldable pub fate_opening : List ℕ
fate_opening =
    codes "<h2>Frames over time, by what became of them</h2>\n<svg role=\"img\" viewBox=\"0 0 400 206\">\n"
    ++ (codes "<title>Frames over time, by what became of them</title>\n"
    ++ (codes "<desc>Stacked bars: how many frames were sent, passed, dropped, aborted, stopped or short in each of at most sixty equal "
    ++ codes "slots of time. Numbered lines are commands.</desc>\n"))

-- frames over time by what became of them, with the marks of commands
unfoldable pub fate_chart : List ℕ → List ℕ → List ℕ → List ℕ
fate_chart body marks legend =
    fate_opening ++ (body ++ (marks ++ (legend ++ codes "</svg>\n")))

-- frames over time by backend, of rows with these slots and classes, between two moments
unfoldable pub classes_over_time : List Command → List ℕ → List ℕ → List ℕ → List ℕ → List ℕ → List ℕ → List ℕ
classes_over_time commands named classes slots first last marks =
    backend_chart patterns_text (body_text (slot_counts 9 slots classes) 9 first last) marks
    (backend_legend commands named (slice_index (counts_by_cell classes 9) 8))

-- the same of rows with these keys, where these backends have a name
abbrev pub backends_over_time : List Command → List ℕ → List ℕ → List ℕ → List ℕ → List ℕ → List ℕ → List ℕ
backends_over_time commands named keys slots first last marks =
    classes_over_time commands named (classes_of named 8 keys) slots first last marks

unfoldable pub fates_over_time : List ℕ → List ℕ → List ℕ → List ℕ → List ℕ → List ℕ → List ℕ
fates_over_time totals fates slots first last marks =
    fate_chart (body_text (slot_counts 7 slots fates) 7 first last) marks (fate_legend (fates_named totals))

-- ---- frames by backend

-- the bar of the listed backend at this place
unfoldable pub backend_row : List Command → List ℕ → List ℕ → List ℕ → ℕ → ℕ → List ℕ
backend_row commands named listed totals highest place =
    row_text place (pattern_of named (slice_index listed place)) (backend_label commands (slice_index listed place))
    (scaled 240 highest (slice_index totals place)) (slice_index totals place)

-- the bars of the first N
abbrev pub backend_rows : List Command → List ℕ → List ℕ → List ℕ → ℕ → ℕ → List ℕ
backend_rows commands named listed totals highest zero = []
backend_rows commands named listed totals highest (suc place) =
    backend_rows commands named listed totals highest place ++ backend_row commands named listed totals highest place

-- the bar of all other backends, at this place, if one of them has a frame
abbrev pub others_row : ℕ → ℕ → ℕ → List ℕ
others_row highest place count = if count == 0 then [] else row_text place 8 (codes "others") (scaled 240 highest count) count

abbrev pub one_if_any : ℕ → ℕ
one_if_any count = if count == 0 then 0 else 1

-- the most frames that a backend got, and 1 where none got any
abbrev pub most_of : List ℕ → ℕ
most_of totals = fold max 1 totals

unfoldable pub rows_chart : ℕ → List ℕ → List ℕ
rows_chart height rows =
    codes "<h2>Frames by backend</h2>\n<svg role=\"img\" viewBox=\"0 0 400 " ++ (decimal height
    ++ (codes "\">\n<title>Frames by backend</title>\n<desc>Bars: how many frames each backend got.</desc>\n" ++ (rows ++ codes "</svg>\n")))

-- the bars of so many listed backends, and of all others
abbrev pub all_rows : List Command → List ℕ → List ℕ → List ℕ → ℕ → ℕ → List ℕ
all_rows commands named listed totals highest count =
    backend_rows commands named listed totals highest count ++ others_row highest count (slice_index totals 32)

unfoldable pub backends_text : List Command → List ℕ → List ℕ → List ℕ → List ℕ
backends_text commands named listed totals =
    rows_chart (4 + 14 * (min (length listed) 32 + one_if_any (slice_index totals 32)))
    (all_rows commands named listed totals (most_of totals) (min (length listed) 32))
