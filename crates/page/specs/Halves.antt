-- Frames of backends before and behind the first command that is not one of the start.
use Rattle.std.specs.Prelude.{ℕ, zero, suc, ◌+◌, ◌==◌, ◌&&◌, ◌++◌, List, [], Option, Some, None, codes, decimal, drop, if◌then◌else◌, slice_index, take}
use Rattle.control.specs.declared.command.Command.{Command}
use Rattle.page.specs.Labels.{backend_label}
use Rattle.page.specs.Named.{classes_of}
use Rattle.page.specs.Tallies.{counts_by_cell}

-- of keys, how many are of each of 32 listed backends, of all others, and of none
abbrev pub counts_with_none : List ℕ → List ℕ → List ℕ
counts_with_none listed keys = counts_by_cell (classes_of listed 32 keys) 34

-- a backend, all others, or none
unfoldable pub half_label : List Command → List ℕ → ℕ → List ℕ
half_label commands listed place =
    if place == 33 then codes "none" else (if place == 32 then codes "others" else backend_label commands (slice_index listed place))

unfoldable pub half_text : List ℕ → ℕ → ℕ → List ℕ
half_text label before behind =
    codes "<tr><th>" ++ (label ++ (codes "</th><td>" ++ (decimal before ++ (codes "</td><td>" ++ (decimal behind ++ codes "</td></tr>\n")))))

-- the row of a backend that has a frame
abbrev pub half_row : List Command → List ℕ → List ℕ → List ℕ → ℕ → List ℕ
half_row commands listed before behind place =
    if slice_index before place == 0 && slice_index behind place == 0 then []
    else half_text (half_label commands listed place) (slice_index before place) (slice_index behind place)

abbrev pub half_rows : List Command → List ℕ → List ℕ → List ℕ → ℕ → List ℕ
half_rows commands listed before behind zero = []
half_rows commands listed before behind (suc place) =
    half_rows commands listed before behind place ++ half_row commands listed before behind place

unfoldable pub halves_table : ℕ → List ℕ → List ℕ
halves_table record_number rows =
    codes "<h2>Frames by backend, before and behind the first command</h2>\n<p>The first command behind record 1 comes before record "
    ++ (decimal record_number
    ++ (codes ".</p>\n<table class=\"figures\">\n<tr><th>backend</th><th>before</th><th>behind</th></tr>\n" ++ (rows ++ codes "</table>\n")))

-- the table of these keys, where the first so many are before the command
unfoldable pub halves_at : List Command → List ℕ → List ℕ → ℕ → List ℕ
halves_at commands listed keys count =
    halves_table (count + 1) (half_rows commands listed (counts_with_none listed (take count keys)) (counts_with_none listed (drop count keys)) 34)

-- the table, if there is such a command
abbrev pub halves_text : List Command → List ℕ → List ℕ → Option ℕ → List ℕ
halves_text commands listed keys None = []
halves_text commands listed keys (Some count) = halves_at commands listed keys count
