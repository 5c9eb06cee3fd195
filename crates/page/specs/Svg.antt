-- Texts of SVG (SVG 2): bars, axes, marks and legends, from numbers. The plot of a chart has 360 by 120 units at (36, 20).
use Rattle.std.specs.Prelude.{ℕ, zero, suc, ◌+◌, ◌-◌, ◌*◌, ◌/◌, ◌%◌, ◌==◌, ◌++◌, max, min, List, [], codes, decimal, if◌then◌else◌, slice_index}

-- ---- sums and heights

-- how many frames of the first N classes there are, where the counts of a slot begin at this cell
abbrev pub sum_of : List ℕ → ℕ → ℕ → ℕ
sum_of counts cell zero = 0
sum_of counts cell (suc class) = sum_of counts cell class + slice_index counts (cell + class)

-- the most frames of a slot among the first N, and 1 where there are none
unfoldable pub highest_of : List ℕ → ℕ → ℕ → ℕ
highest_of counts classes zero = 1
highest_of counts classes (suc slot) = max (highest_of counts classes slot) (sum_of counts (slot * classes) classes)

-- the height of so many frames, where the most have this height; rounded up, so that one frame is seen
abbrev pub scaled : ℕ → ℕ → ℕ → ℕ
scaled height highest count = (count * height + (highest - 1)) / highest

-- ---- stacked bars

-- a part of a slot's bar, from one height to another
abbrev pub bar_text : ℕ → ℕ → ℕ → List ℕ
bar_text x low high =
    if high - low == 0 then [] else
    codes "<rect x=\"" ++ (decimal x ++ (codes "\" y=\"" ++ (decimal (140 - high) ++ (codes "\" width=\"5\" height=\"" ++ (decimal (high - low)
    ++ codes "\"/>")))))

abbrev pub bar_of : List ℕ → ℕ → ℕ → ℕ → ℕ → List ℕ
bar_of counts classes highest class slot =
    bar_text (36 + slot * 6) (scaled 120 highest (sum_of counts (slot * classes) class))
    (scaled 120 highest (sum_of counts (slot * classes) (class + 1)))

-- the parts of a class in the bars of the first N slots
unfoldable pub bars_until : List ℕ → ℕ → ℕ → ℕ → ℕ → List ℕ
bars_until counts classes highest class zero = []
bars_until counts classes highest class (suc slot) =
    bars_until counts classes highest class slot ++ bar_of counts classes highest class slot

-- all parts of a class, drawn in its pattern
unfoldable pub group_text : ℕ → List ℕ → List ℕ
group_text class bars = codes "<g fill=\"url(#f" ++ (decimal class ++ (codes ")\">" ++ (bars ++ codes "</g>\n")))

unfoldable pub groups_until : List ℕ → ℕ → ℕ → ℕ → List ℕ
groups_until counts classes highest zero = []
groups_until counts classes highest (suc class) =
    groups_until counts classes highest class ++ group_text class (bars_until counts classes highest class 60)

-- ---- axes

-- the scale of the plot: the most frames of a slot, and the first and the last moment
unfoldable pub axis_text : ℕ → List ℕ → List ℕ → List ℕ
axis_text highest first last =
    codes "<path class=\"axis\" d=\"M36 20H396M36 80H396M36 140H396\"/>\n<text class=\"end\" x=\"33\" y=\"24\">" ++ (decimal highest
    ++ (codes "</text><text class=\"end\" x=\"33\" y=\"144\">0</text>\n<text x=\"36\" y=\"153\">" ++ (first
    ++ (codes " s</text><text class=\"end\" x=\"396\" y=\"153\">" ++ (last ++ codes " s</text>\n")))))

-- ---- marks

-- a mark with a number at the top of a slot
unfoldable pub mark_text : ℕ → ℕ → List ℕ
mark_text label x =
    codes "<path class=\"mark\" d=\"M" ++ (decimal x ++ (codes " 12V140\"/><text class=\"mid\" x=\"" ++ (decimal x ++ (codes "\" y=\"9\">"
    ++ (decimal label ++ codes "</text>\n")))))

-- where a slot begins
abbrev pub slot_x : ℕ → ℕ
slot_x slot = 36 + min slot 59 * 6

-- the mark of a command, if the one before it is not in its slot
abbrev pub mark_at : List ℕ → ℕ → List ℕ
mark_at slots zero = mark_text 1 (slot_x (slice_index slots 0))
mark_at slots (suc place) =
    if slice_index slots (suc place) == slice_index slots place then [] else mark_text (place + 2) (slot_x (slice_index slots (suc place)))

-- the marks of the first N commands, by their slots
abbrev pub marks_until : List ℕ → ℕ → List ℕ
marks_until slots zero = []
marks_until slots (suc place) = marks_until slots place ++ mark_at slots place

-- ---- legends

-- the pattern of a class in a legend, and its name
unfoldable pub legend_key : ℕ → ℕ → ℕ → List ℕ
legend_key class x y =
    codes "<rect class=\"key\" x=\"" ++ (decimal x ++ (codes "\" y=\"" ++ (decimal y
    ++ (codes "\" width=\"14\" height=\"9\" fill=\"url(#f" ++ decimal class))))

unfoldable pub legend_name : ℕ → ℕ → List ℕ → List ℕ
legend_name x y label =
    codes ")\"/><text x=\"" ++ (decimal x ++ (codes "\" y=\"" ++ (decimal y ++ (codes "\">" ++ (label ++ codes "</text>\n")))))

-- a class in a legend at this place
abbrev pub legend_at : ℕ → ℕ → ℕ → ℕ → ℕ → List ℕ → List ℕ
legend_at class x y text_x text_y label = legend_key class x y ++ legend_name text_x text_y label

-- a class in a legend: its pattern and its name, three in a line
unfoldable pub legend_text : ℕ → List ℕ → List ℕ
legend_text class label =
    legend_at class (36 + class % 3 * 122) (162 + class / 3 * 14) (54 + class % 3 * 122) (170 + class / 3 * 14) label

-- ---- bars of backends

-- a bar with a name at its left, and its pattern with a number at its right
unfoldable pub row_front : ℕ → ℕ → List ℕ → ℕ → List ℕ
row_front y text_y label width =
    codes "<text class=\"end\" x=\"104\" y=\"" ++ (decimal text_y ++ (codes "\">" ++ (label ++ (codes "</text><rect class=\"key\" x=\"108\" y=\""
    ++ (decimal y ++ (codes "\" width=\"" ++ decimal width))))))

unfoldable pub row_back : ℕ → ℕ → ℕ → ℕ → List ℕ
row_back text_y pattern after count =
    codes "\" height=\"10\" fill=\"url(#f" ++ (decimal pattern ++ (codes ")\"/><text x=\"" ++ (decimal after ++ (codes "\" y=\""
    ++ (decimal text_y ++ (codes "\">" ++ (decimal count ++ codes "</text>\n")))))))

-- a bar with a name and a number at this height
abbrev pub row_at_height : ℕ → ℕ → ℕ → List ℕ → ℕ → ℕ → ℕ → List ℕ
row_at_height y text_y pattern label width after count = row_front y text_y label width ++ row_back text_y pattern after count

-- the bar of a backend, with its name at its left and the number of its frames at its right
unfoldable pub row_text : ℕ → ℕ → List ℕ → ℕ → ℕ → List ℕ
row_text place pattern label width count =
    row_at_height (4 + place * 14) (12 + place * 14) pattern label width (112 + width) count
