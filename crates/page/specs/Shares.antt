-- The shares of a lookup table at the start of a script and at its end.
use Rattle.std.specs.Prelude.{◌≡◌, ℕ, zero, suc, ◌+◌, ◌==◌, ◌&&◌, ◌++◌, List, [], codes, decimal, if◌then◌else◌}
use Rattle.control.specs.declared.command.Command.{Command}
use Rattle.maglev.specs.Population.{share_of}
use Rattle.page.specs.Commands.{first_ones}
use Rattle.page.specs.Labels.{backend_label}
use Rattle.page.specs.Svg.{scaled}
use Rattle.traffic.specs.Applied.{AreWordsAfter}

-- a row of the table: a backend's label, its slots at the start and at the end
unfoldable pub share_numbers : List ℕ → ℕ → ℕ → List ℕ
share_numbers label start last =
    codes "<tr><td>" ++ (label ++ (codes "</td><td>" ++ (decimal start ++ (codes "</td><td>" ++ (decimal last ++ codes "</td><td>")))))

-- and two bars of these widths
unfoldable pub share_bars : ℕ → ℕ → List ℕ
share_bars start last =
    codes "<svg style=\"width:126px\" viewBox=\"0 0 126 20\"><rect class=\"key\" x=\"2\" y=\"2\" width=\"" ++ (decimal start
    ++ (codes "\" height=\"7\" fill=\"url(#f2)\"/><rect class=\"key\" x=\"2\" y=\"11\" width=\"" ++ (decimal last
    ++ codes "\" height=\"7\" fill=\"url(#f0)\"/></svg></td></tr>\n")))

-- the row of the backend with this key, if it owns a slot at the start or at the end; a bar over the whole width is of all slots
abbrev pub share_row : List Command → ℕ → ℕ → ℕ → List ℕ
share_row commands key start last =
    if start == 0 && last == 0 then [] else share_numbers (backend_label commands key) start last ++ share_bars (scaled 122 251 start) (scaled 122 251 last)

-- the rows of the backends below N, where these are the words of the table: of each slot the number of its owner and one, or 0
unfoldable pub share_rows : List Command → List ℕ → List ℕ → ℕ → List ℕ
share_rows commands start last zero = []
share_rows commands start last (suc backend) =
    share_rows commands start last backend ++ share_row commands (backend + 1) (share_of (backend + 1) start) (share_of (backend + 1) last)

unfoldable pub shares_table : List ℕ → List ℕ
shares_table rows =
    codes "<h2>Shares of a lookup table of 251 slots</h2>\n<p>How many of 251 slots each backend owns: with the commands before record 1 (dots), and "
    ++ (codes "with all commands. A command that is refused changes nothing. 251 is the size of a replay without <code>--ring</code>; a report does "
    ++ (codes "not say if its replay had another, whose shares <code>xlb table SCRIPT --ring N</code> prints.</p>\n<div class=\"wide\"><table>\n"
    ++ (codes "<tr><th>backend</th><th>at the start</th><th>at the end</th><th></th></tr>\n" ++ (rows ++ codes "</table></div>\n"))))

unfoldable pub shares_text : List Command → List ℕ → List ℕ → List ℕ
shares_text commands start last = shares_table (share_rows commands start last 256)

-- the text has the shares of the tables of 251 slots behind the commands before the first record, and behind all commands
pub record AreSharesTold (commands : List Command) (text : List ℕ) : Type 0 where
  pub start : List ℕ
  pub last : List ℕ
  pub start_is : AreWordsAfter 251 (first_ones commands) start
  pub last_is : AreWordsAfter 251 commands last
  pub text_is : text ≡ shares_text commands start last
