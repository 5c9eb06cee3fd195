-- What is printed of a lookup table at the end of a replay: a line for each backend that owns slots.
use Rattle.std.specs.Prelude.{ℕ, zero, suc, ◌+◌, ◌/◌, ◌%◌, ◌++◌, ◌==◌, List, [], codes, decimal, length, if◌then◌else◌}
use Rattle.maglev.specs.Population.{share_of}
use Rattle.traffic.specs.Shares.{share_at}
use Rattle.traffic.specs.SummaryText.{dotted}

-- the address whose bytes a number has, the first one lowest
abbrev pub low_address : ℕ → List ℕ
low_address number = dotted (number % 256) (number / 256 % 256) (number / 65536 % 256) (number / 16777216 % 256)

abbrev pub share_text : ℕ → ℕ → ℕ → List ℕ → List ℕ
share_text share size number address =
    decimal share ++ (codes " of " ++ (decimal size ++ (codes " slots of the lookup table for backend " ++ (decimal number
    ++ (codes ", " ++ (address ++ codes ", at the end\n"))))))

-- the line of a backend with this share of the slots, if it owns one
abbrev pub share_line : ℕ → ℕ → ℕ → ℕ → List ℕ
share_line share size number address = if share == 0 then [] else share_text share size number (low_address address)

-- the lines of the backends below this number, by the words of the table and the numbers with which the backends' records begin
unfoldable pub shares_below : List ℕ → List ℕ → ℕ → List ℕ
shares_below words records zero = []
shares_below words records (suc number) =
    shares_below words records number ++ share_line (share_of (number + 1) words) (length words) number (share_at records number)

abbrev pub last_shares : List ℕ → List ℕ → List ℕ
last_shares words records = shares_below words records 256
