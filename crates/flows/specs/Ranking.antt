-- What the code keeps of the flows with the most changes: for each the number of its changes, and its line.
use Rattle.std.specs.Prelude.{ℕ, nat_lt, List, String, length, string_bytes, unwrap_or}
use Rattle.std.specs.List.{position}
use Rattle.flows.specs.Stories.{Story}
use Rattle.flows.specs.SummaryText.{ranked_line}

-- what is kept
abbrev pub line_view : {Y : Type 0} → ℕ × String Y → ℕ × List ℕ
line_view line = (line.0, string_bytes line.1)

-- what is to be kept of a story
abbrev pub ranked_view : Story → ℕ × List ℕ
ranked_view story = (story.changes, ranked_line story)

-- the place of a line with so many changes: before the first that has fewer, or at the end
abbrev pub place_for : {Y : Type 0} → ℕ → List (ℕ × String Y) → ℕ
place_for changes lines = unwrap_or (position (λ line. nat_lt line.0 changes) lines) (length lines)
