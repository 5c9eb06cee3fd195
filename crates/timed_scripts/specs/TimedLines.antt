-- What the lines of a timed script say.
use Rattle.std.specs.Prelude.{◌≡◌, ℕ, ◌+◌, ◌<◌, ◌^◌, ℤ, ◌≤ℤ◌, ◌⊎◌, List, [], ◌∷◌, ◌++◌, length, Option, Some, None, ⊤, IsUtf8}
use Rattle.std.specs.List.{flat_map, AllByRecursion}
use Rattle.wire.specs.declared.records.Sent.{Sent}
use Rattle.text_lines.specs.Lines.{Lacks, ended}
use Rattle.text_lines.specs.NoText.{IsNoText}
use Rattle.control.specs.declared.command.Action.{Action}
use Rattle.control.specs.ScriptText.{ActionFits, action_text}
use Rattle.timed_scripts.specs.Cutting.{cut_at, content}
use Rattle.timed_scripts.specs.Moments.{first_moment, moment_said, records_before}

-- what a line says: nothing, or what is done at a moment
pub data Meaning : Type 0 where
  nothing : Meaning
  does : (moment : ℤ) → (action : Action) → Meaning

-- a moment, a blank, and the words of an action as a script spells them
pub record IsTimedCommand (records : List Sent) (text : List ℕ) (moment : ℤ) (action : Action) : Type 0 where
  pub word : List ℕ
  pub taken_apart : cut_at 32 text ≡ Some (word, action_text action)
  pub moment_is : moment_said (first_moment records) word ≡ Some moment
  pub fits : ActionFits action

-- what a line has before its comment says this
abbrev pub SaysContent : List Sent → List ℕ → Meaning → Type 0
SaysContent records text nothing = text ≡ []
SaysContent records text (does moment action) = IsTimedCommand records text moment action

abbrev pub Says : List Sent → List ℕ → Meaning → Type 0
Says records line meaning = SaysContent records (content line) meaning

-- each line says what stands at its place
abbrev pub AreSaid : List Sent → List (List ℕ) → List Meaning → Type 0
AreSaid records [] [] = ⊤
AreSaid records [] (meaning ∷ meanings) = ⊥
AreSaid records (line ∷ lines) [] = ⊥
AreSaid records (line ∷ lines) (meaning ∷ meanings) = Says records line meaning × AreSaid records lines meanings

-- ---- moments never fall

abbrev pub IsFrom : Option ℤ → ℤ → Type 0
IsFrom None moment = ⊤
IsFrom (Some least) moment = least ≤ℤ moment

-- what is said next is no earlier than this moment, and a script has a number for the records before it
abbrev pub GoesOn : List Sent → Option ℤ → Meaning → Type 0
GoesOn records least nothing = ⊤
GoesOn records least (does moment action) = IsFrom least moment × (records_before moment records < 2 ^ 32)

-- the latest moment behind what is said
abbrev pub moment_after : Option ℤ → Meaning → Option ℤ
moment_after least nothing = least
moment_after least (does moment action) = Some moment

abbrev pub last_moment : Option ℤ → List Meaning → Option ℤ
last_moment least [] = least
last_moment least (meaning ∷ meanings) = last_moment (moment_after least meaning) meanings

-- each moment is the one before it or a later one, and has a number
abbrev pub AllGoOn : List Sent → Option ℤ → List Meaning → Type 0
AllGoOn records least [] = ⊤
AllGoOn records least (meaning ∷ meanings) = GoesOn records least meaning × AllGoOn records (moment_after least meaning) meanings

-- ---- texts

-- the text is these lines, each ended by a line feed, that say this, and a rest
pub record AreTimedLinesRead (records : List Sent) (text : List ℕ) (meanings : List Meaning) (rest : List ℕ) : Type 0 where
  pub lines : List (List ℕ)
  pub whole : AllByRecursion (λ line. Lacks 10 line) lines
  pub text_is : text ≡ flat_map ended lines ++ rest
  pub said : AreSaid records lines meanings
  pub go_on : AllGoOn records None meanings

-- the text is a timed script, and its lines say this
abbrev pub IsTimedText : List Sent → List ℕ → List Meaning → Type 0
IsTimedText records text meanings = AreTimedLinesRead records text meanings []

-- no whole line begins the text that says something, or what it says is earlier
abbrev pub StopsAt : List Sent → Option ℤ → List ℕ → Type 0
StopsAt records least text = (line more : List ℕ) (meaning : Meaning) → Lacks 10 line → text ≡ line ++ 10 ∷ more
    → Says records line meaning → ¬ GoesOn records least meaning

-- behind lines of a timed script comes one that is none, or is earlier
pub record IsBadAfterTimedLines (records : List Sent) (text : List ℕ) (line : ℕ) : Type 0 where
  pub meanings : List Meaning
  pub rest : List ℕ
  pub read : AreTimedLinesRead records text meanings rest
  pub line_is : line ≡ 1 + length meanings
  pub not_ended : 0 < length rest
  pub stops : StopsAt records (last_moment None meanings) rest

-- the line, counted from 1, for which the bytes are no timed script
abbrev pub IsBadTimedLine : List Sent → List ℕ → ℕ → Type 0
IsBadTimedLine records bytes line = IsNoText bytes line ⊎ (IsUtf8 bytes × IsBadAfterTimedLines records bytes line)
