-- Which backends are listed, and which of these have a name and a pattern of their own in the charts: 32 and eight at most, first those that
-- commands behind the first record name, eight at most, then those with the most frames.
use Rattle.std.specs.Prelude.{ℕ, zero, suc, ◌+◌, ◌==◌, ◌||◌, ◌++◌, min, not, nat_le, nat_lt, List, [], ◌∷◌, count_by, fold, if◌then◌else◌, length, map}
use Rattle.std.specs.Prelude.{slice_index, take, unwrap_or}
use Rattle.std.specs.List.{position}
use Rattle.control.specs.declared.command.Action.{Action}
use Rattle.control.specs.declared.command.Action.TheVariants.{Vip, Up, Down, Gateway}
use Rattle.control.specs.declared.command.Command.{Command}
use Rattle.page.specs.Tallies.{counts_by_cell}

-- the key of the backend that a command names, and 0 where it names none
abbrev pub key_in : Action → ℕ
key_in (Up backend address) = backend + 1
key_in (Down backend) = backend + 1
key_in (Vip service is_notrack) = 0
key_in (Gateway source source_mac destination_mac) = 0

-- a key more, if it is one, is not there yet, and there are fewer than this many
abbrev pub with_key : ℕ → List ℕ → ℕ → List ℕ
with_key most named key =
    if key == 0 || (nat_le most (length named) || not (count_by (λ other. other == key) named == 0)) then named else named ++ key ∷ []

-- the first eight backends that commands name
abbrev pub named_by : List Command → List ℕ
named_by commands = fold (λ named (command : Command). with_key 8 named (key_in command.action)) [] commands

-- how many frames a key has that is not there yet, where these are the counts of keys; 0 is no key
abbrev pub frames_of : List ℕ → List ℕ → ℕ → ℕ
frames_of counts named key =
    if key == 0 || not (count_by (λ other. other == key) named == 0) then 0 else slice_index counts key

abbrev pub busier : List ℕ → List ℕ → ℕ → ℕ → ℕ
busier counts named best key = if nat_lt (frames_of counts named best) (frames_of counts named key) then key else best

-- the key below N that is not there yet and has the most frames, of as many the least; and 0 where none has any
abbrev pub busiest : List ℕ → List ℕ → ℕ → ℕ
busiest counts named zero = 0
busiest counts named (suc key) = busier counts named (busiest counts named key) key

-- up to N more, the busiest first, as far as there are fewer than 32; a table has no backend above 255, whose key is 256
abbrev pub with_busiest : List ℕ → List ℕ → ℕ → List ℕ
with_busiest counts named zero = named
with_busiest counts named (suc n) = with_key 32 (with_busiest counts named n) (busiest counts (with_busiest counts named n) 257)

-- the cell of a key among 257, and none for a key above these
abbrev pub key_cell : ℕ → ℕ
key_cell key = min key 257

-- the backends that are listed, of frames with these keys
abbrev pub listed_keys : List Command → List ℕ → List ℕ
listed_keys later keys = with_busiest (counts_by_cell (map key_cell keys) 257) (named_by later) 32

-- those of them with a name
abbrev pub named_keys : List ℕ → List ℕ
named_keys listed = take 8 listed

-- the place of a key among these, and this number for all others
abbrev pub place_or : List ℕ → ℕ → ℕ → ℕ
place_or listed others key = unwrap_or (position (λ other. other == key) listed) others

-- the pattern of a backend: by its place among those with a name, and the ninth for all others
abbrev pub pattern_of : List ℕ → ℕ → ℕ
pattern_of named key = place_or named 8 key

-- the class of a frame: the place of its backend among these, the next class for all others, and the one behind it for a frame without one
abbrev pub class_of_key : List ℕ → ℕ → ℕ → ℕ
class_of_key listed others key = if key == 0 then others + 1 else place_or listed others key

abbrev pub classes_of : List ℕ → ℕ → List ℕ → List ℕ
classes_of listed others keys = map (λ key. class_of_key listed others key) keys
