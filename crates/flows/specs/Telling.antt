-- The flows of a report, each with its story, in the order in which they first appear; and why frames were moved.
use Rattle.std.specs.Prelude.{ℕ, zero, suc, ◌==◌, ◌++◌, Bool, List, [], ◌∷◌, Option, Some, None, count_by, if◌then◌else◌, slice_get}
use Rattle.std.specs.List.{position}
use Rattle.std.specs.Str.{bytes_eq}
use Rattle.comparison.specs.Rows.{row_at}
use Rattle.control.specs.declared.command.Command.{Command}
use Rattle.flows.specs.declared.reason.Reason.{Reason}
use Rattle.flows.specs.declared.reason.Reason.TheVariants.{Readdressed, Down, Untracked, Evicted, Unknown}
use Rattle.flows.specs.Settings.{before}
use Rattle.flows.specs.Stories.{Story, after, story_begun, flow_of_row, row_has_flow, move_by}

-- the story is of this flow
abbrev pub is_story_of : List ℕ → Story → Bool
is_story_of flow story = bytes_eq story.flow flow

-- the stories after a frame: its flow's story goes on, or one begins
abbrev pub stories_with : List ℕ → List Command → List Story → List Story
stories_with row commands [] = after (story_begun row) row commands ∷ []
stories_with row commands (story ∷ others) =
    if is_story_of (flow_of_row row) story then after story row commands ∷ others else story ∷ stories_with row commands others

-- why the frame is moved, if it is, where these are the stories before it
abbrev pub move_in : List ℕ → List Command → List Story → Option Reason
move_in row commands [] = None
move_in row commands (story ∷ others) =
    if is_story_of (flow_of_row row) story then move_by story row commands else move_in row commands others

-- the stories after a frame, and why it is moved, if it is: a frame without a flow changes nothing
abbrev pub stories_after : List ℕ → List Command → List Story → List Story
stories_after row commands stories = if row_has_flow row then stories_with row commands stories else stories

abbrev pub move_of : List ℕ → List Command → List Story → Option Reason
move_of row commands stories = if row_has_flow row then move_in row commands stories else None

-- the stories of the first N rows
abbrev pub stories_until : List (List ℕ) → List Command → ℕ → List Story
stories_until rows commands zero = []
stories_until rows commands (suc place) = stories_after (row_at rows place) (before place commands) (stories_until rows commands place)

-- ---- moves

-- a moved frame: the place of its row, the address to which the sent frame of its flow before went, the number of the backend that got that
-- one, which is empty where it is not known, and why it is moved
pub record Moved : Type 0 where
  pub place : ℕ
  pub from : List ℕ
  pub backend : List ℕ
  pub reason : Reason

-- the address to which the last sent frame of a story went
abbrev pub address_of_story : Option Story → List ℕ
address_of_story None = []
address_of_story (Some story) = story.address

abbrev pub story_at : List Story → Option ℕ → Option Story
story_at stories None = None
story_at stories (Some place) = slice_get stories place

-- the address to which the last sent frame of a flow went, where these are the stories so far
abbrev pub address_in : List ℕ → List Story → List ℕ
address_in flow stories = address_of_story (story_at stories (position (is_story_of flow) stories))

-- the number of the backend that got it
abbrev pub backend_of_story : Option Story → List ℕ
backend_of_story None = []
backend_of_story (Some story) = story.backend

abbrev pub backend_in : List ℕ → List Story → List ℕ
backend_in flow stories = backend_of_story (story_at stories (position (is_story_of flow) stories))

abbrev pub moved_at : ℕ → List ℕ → List ℕ → Option Reason → List Moved
moved_at place from backend None = []
moved_at place from backend (Some reason) = record { place = place; from = from; backend = backend; reason = reason } ∷ []

-- the moves at a row, where these are the stories and the commands before it
abbrev pub moves_at_row : ℕ → List ℕ → List Command → List Story → List Moved
moves_at_row place row commands stories =
    moved_at place (address_in (flow_of_row row) stories) (backend_in (flow_of_row row) stories) (move_of row commands stories)

-- the moves among the first N rows, in their order
abbrev pub moves_until : List (List ℕ) → List Command → ℕ → List Moved
moves_until rows commands zero = []
moves_until rows commands (suc place) =
    moves_until rows commands place
    ++ moves_at_row place (row_at rows place) (before place commands) (stories_until rows commands place)

-- ---- by reason

-- the place of a reason in the order in which they are listed, and the reason at a place
abbrev pub rank : Reason → ℕ
rank Down = 0
rank Evicted = 1
rank Untracked = 2
rank Readdressed = 3
rank Unknown = 4

abbrev pub reason_at : ℕ → Reason
reason_at place =
    if place == 0 then Down else (if place == 1 then Evicted else (if place == 2 then Untracked else (if place == 3 then Readdressed else Unknown)))

-- how many frames were moved for the reason of this rank
abbrev pub moves_for : ℕ → List Moved → ℕ
moves_for place moves = count_by (λ move. rank move.reason == place) moves
