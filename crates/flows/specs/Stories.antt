-- What is told of a flow: its frames so far, and the backends that got them.
use Rattle.std.specs.Prelude.{ℕ, ◌+◌, ◌==◌, ◌++◌, ◌&&◌, ◌||◌, not, Bool, false, List, [], ◌∷◌, Option, Some, None, codes, length, if◌then◌else◌}
use Rattle.std.specs.Str.{bytes_eq}
use Rattle.comparison.specs.Columns.{moment_column, verdict_column, case_column, backend_column, address_column}
use Rattle.comparison.specs.Columns.{source_column, protocol_column, choice_column}
use Rattle.comparison.specs.Rows.{field, fields_between}
use Rattle.control.specs.declared.command.Command.{Command}
use Rattle.flows.specs.declared.reason.Reason.{Reason}
use Rattle.flows.specs.declared.reason.Reason.TheVariants.{Readdressed, Down, Untracked, Evicted, Unknown}
use Rattle.flows.specs.Settings.{is_up}

-- ---- what a row says

-- the flow as the row spells it: source, source port, destination, destination port and protocol with commas between them
abbrev pub flow_of_row : List ℕ → List ℕ
flow_of_row row = fields_between source_column protocol_column row

abbrev pub row_has_flow : List ℕ → Bool
row_has_flow row = not (length (field source_column row) == 0)

abbrev pub moment_of_row : List ℕ → List ℕ
moment_of_row row = field moment_column row

abbrev pub is_sent_row : List ℕ → Bool
is_sent_row row = bytes_eq (field verdict_column row) (codes "TX")

-- the frame was dropped; and for want of a backend that is up, as its case says
abbrev pub is_dropped_row : List ℕ → Bool
is_dropped_row row = bytes_eq (field verdict_column row) (codes "DROP")

abbrev pub has_no_backend : List ℕ → Bool
has_no_backend row = is_dropped_row row && bytes_eq (field case_column row) (codes "no-backend")

-- a full journal stopped the run of the frame
abbrev pub is_stopped_row : List ℕ → Bool
is_stopped_row row = bytes_eq (field verdict_column row) (codes "STOPPED")

-- the number of the backend, and the address to which the frame was sent; what is not known is empty
abbrev pub backend_of_row : List ℕ → List ℕ
backend_of_row row = field backend_column row

abbrev pub address_of : List ℕ → List ℕ
address_of row = field address_column row

-- how the run chose the backend: this word says it
abbrev pub is_chosen : List ℕ → List ℕ → Bool
is_chosen word row = bytes_eq (field choice_column row) word

-- by the flow's note; by the table, though the flow has a note, since its backend is not up; by the table, since the service is without
-- tracking; by the table, since the flow has no note
abbrev pub is_noted_row : List ℕ → Bool
is_noted_row row = is_chosen (codes "noted") row

abbrev pub has_note_down : List ℕ → Bool
has_note_down row = is_chosen (codes "note-down") row

abbrev pub is_untracked_row : List ℕ → Bool
is_untracked_row row = is_chosen (codes "untracked") row

abbrev pub has_no_note : List ℕ → Bool
has_no_note row = is_chosen (codes "no-note") row

-- a word, or another one where it is empty
abbrev pub or_else : List ℕ → List ℕ → List ℕ
or_else [] other = other
or_else (byte ∷ more) other = byte ∷ more

-- the backend in a word: its number; where that is not known, its address; and where a frame was sent in no tunnel, a dash
abbrev pub backend_name : List ℕ → List ℕ
backend_name row = or_else (backend_of_row row) (or_else (address_of row) (codes "-"))

-- ---- stories

-- A flow, the moments of its first and last frame, how many frames it has, how many of them were sent, how many dropped, and how many of
-- these for want of a backend that is up; whether one was dropped behind a sent one; how many sent ones went to another address than the
-- sent one before; of the last sent frame its backend, its address, and whether the flow's service was without tracking then, as its row
-- says; and the backends in words.
pub record Story : Type 0 where
  pub flow : List ℕ
  pub first : List ℕ
  pub last : List ℕ
  pub frames : ℕ
  pub sent : ℕ
  pub dropped : ℕ
  pub no_backend : ℕ
  pub lost : Bool
  pub changes : ℕ
  pub backend : List ℕ
  pub address : List ℕ
  pub untracked : Bool
  pub path : List ℕ

-- before the first frame, which this row is
abbrev pub story_begun : List ℕ → Story
story_begun row = record {
  flow = flow_of_row row;
  first = moment_of_row row;
  last = moment_of_row row;
  frames = 0;
  sent = 0;
  dropped = 0;
  no_backend = 0;
  lost = false;
  changes = 0;
  backend = [];
  address = [];
  untracked = false;
  path = [];
}

-- ---- changes

-- the frame is sent to another address than the sent one before
abbrev pub is_moved_row : Story → List ℕ → Bool
is_moved_row story row = is_sent_row row && (not (story.sent == 0) && not (bytes_eq story.address (address_of row)))

-- the number of the backend of the sent frame before is known, and that backend is not up after these commands
abbrev pub was_down : Story → List Command → Bool
was_down story commands = not (length story.backend == 0) && not (is_up story.backend commands)

-- where the run found a note, and its backend up: the note is of an older frame than the one before, which left none; or it is the note of
-- the backend before, whose address was changed
abbrev pub reason_of_noted : Story → Reason
reason_of_noted story = if story.untracked then Untracked else Readdressed

-- where no note says it: the backend before is not up by the script, or this
abbrev pub down_or : Reason → Story → List Command → Reason
down_or other story commands = if was_down story commands then Down else other

-- Why the next frame is sent to another address, by what its run did: it found the flow's note, whose backend is not up; it followed the
-- note; it looked for none, or the sent frame before left none, as the service was without tracking; or it found none, so the note is gone.
-- Unknown where the report does not say what the run did.
abbrev pub reason_of_move : Story → List ℕ → List Command → Reason
reason_of_move story row commands =
    if has_note_down row then Down
    else if is_noted_row row then reason_of_noted story
    else if is_untracked_row row || story.untracked then down_or Untracked story commands
    else if has_no_note row then down_or Evicted story commands
    else Unknown

-- why a frame is moved, if it is
abbrev pub move_by : Story → List ℕ → List Command → Option Reason
move_by story row commands = if is_moved_row story row then Some (reason_of_move story row commands) else None

abbrev pub reason_word : Reason → List ℕ
reason_word Readdressed = codes "readdressed"
reason_word Down = codes "down"
reason_word Untracked = codes "untracked"
reason_word Evicted = codes "evicted"
reason_word Unknown = codes "unknown"

abbrev pub change_with_reason : List ℕ → List ℕ → List ℕ
change_with_reason reason backend = codes " >" ++ (reason ++ (codes " " ++ backend))

-- what a sent frame adds to the backends in words: the first backend, and each change with its reason
abbrev pub step_text : Story → List ℕ → Option Reason → List ℕ
step_text story row None = if story.sent == 0 then backend_name row else []
step_text story row (Some reason) = change_with_reason (reason_word reason) (backend_name row)

abbrev pub one_if_some : Option Reason → ℕ
one_if_some None = 0
one_if_some (Some reason) = 1

abbrev pub one_if : Bool → ℕ
one_if is = if is then 1 else 0

-- ---- a frame more

-- after a frame that is not sent
abbrev pub after_unsent : Story → List ℕ → Story
after_unsent story row = record {
  flow = story.flow;
  first = story.first;
  last = moment_of_row row;
  frames = story.frames + 1;
  sent = story.sent;
  dropped = story.dropped + one_if (is_dropped_row row);
  no_backend = story.no_backend + one_if (has_no_backend row);
  lost = story.lost || (is_dropped_row row && not (story.sent == 0));
  changes = story.changes;
  backend = story.backend;
  address = story.address;
  untracked = story.untracked;
  path = story.path;
}

-- after a sent frame, which is moved for this reason, or not
abbrev pub after_sent : Story → List ℕ → Option Reason → Story
after_sent story row move = record {
  flow = story.flow;
  first = story.first;
  last = moment_of_row row;
  frames = story.frames + 1;
  sent = story.sent + 1;
  dropped = story.dropped;
  no_backend = story.no_backend;
  lost = story.lost;
  changes = story.changes + one_if_some move;
  backend = backend_of_row row;
  address = address_of row;
  untracked = is_untracked_row row;
  path = story.path ++ step_text story row move;
}

-- after a frame, where these commands came before it
abbrev pub after : Story → List ℕ → List Command → Story
after story row commands =
    if is_sent_row row then after_sent story row (move_by story row commands) else after_unsent story row
