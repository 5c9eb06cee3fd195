-- Moved frames by reason, as bars.
use Rattle.std.specs.Prelude.{ℕ, zero, suc, ◌++◌, max, List, [], codes, length}
use Rattle.flows.specs.Stories.{reason_word}
use Rattle.flows.specs.Telling.{Moved, moves_for, reason_at}
use Rattle.page.specs.Svg.{row_text, scaled}

-- the bar of a reason, where the longest is of this many frames
unfoldable pub reason_bar : ℕ → ℕ → ℕ → List ℕ
reason_bar highest count place = row_text place place (reason_word (reason_at place)) (scaled 240 highest count) count

-- the bars of the first N reasons
abbrev pub reason_bars : List Moved → ℕ → ℕ → List ℕ
reason_bars moves highest zero = []
reason_bars moves highest (suc place) = reason_bars moves highest place ++ reason_bar highest (moves_for place moves) place

unfoldable pub reasons_chart : List ℕ → List ℕ
reasons_chart bars =
    codes "<h2>Moved frames, by reason</h2>\n<svg role=\"img\" viewBox=\"0 0 400 74\">\n<title>Moved frames, by reason</title>\n"
    ++ (codes "<desc>Bars: how many frames went to another address than the sent frame of their flow before, for each reason.</desc>\n"
    ++ (bars ++ codes "</svg>\n"))

-- a bar over the whole width is of all moved frames, or of one where there are none
abbrev pub longest : List Moved → ℕ
longest moves = max (length moves) 1

-- the bars of the five reasons
unfoldable pub reasons_text : List Moved → List ℕ
reasons_text moves = reasons_chart (reason_bars moves (longest moves) 5)
