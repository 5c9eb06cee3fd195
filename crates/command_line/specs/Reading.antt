-- What the settings are of a command and what was found for its arguments.
use Rattle.std.specs.Prelude.{◌≡◌, ◌<◌, ◌^◌, ◌*◌, ◌+◌, ◌/◌, ℕ, Bool, List, [], ◌∷◌, ◌++◌, length, true, false, ◌&&◌, Option, Some, None, option_map}
use Rattle.std.specs.Prelude.{◌⊎◌, IfSome}
use Rattle.std.specs.Prelude.{IsTrue, IsFalse, ◌||◌, not, codes, is_none, is_some, unwrap_or, slice_get, slice_index_or}
use Rattle.std.specs.Borrow.{Bor}
use Rattle.std.specs.Str.{bytes_eq}
use Rattle.std.specs.Str.Parse.{IsNumeral, digits_value, without_leading_plus}
use Rattle.clap.specs.Walk.{Row, Text, all_of, first_of, one_of}
use Rattle.clap.specs.Values.{kind_of}
use Rattle.clap.specs.declared.error.kind.ErrorKind.{ErrorKind}
use Rattle.clap.specs.declared.error.kind.ErrorKind.TheVariants.{ArgumentConflict, OutOfMemory, ValueValidation}
use Rattle.semantics.specs.declared.options.Options.{Options}
use Rattle.fleet.specs.declared.part.Loss.{Loss}
use Rattle.fleet.specs.declared.part.Part.{Part}
use Rattle.command_line.specs.declared.commands.Reading.{Reading}
use Rattle.command_line.specs.declared.commands.ReplayFiles.{ReplayFiles}
use Rattle.command_line.specs.declared.commands.RunFiles.{RunFiles}
use Rattle.command_line.specs.declared.commands.Settings.{Settings}
use Rattle.command_line.specs.declared.commands.Settings.TheVariants.{Check, Run, Disasm, Audit, Explain, Asm, Shipped, Replay, Table}
use Rattle.command_line.specs.declared.commands.Settings.TheVariants.{Script, Compare, Flows, Page}
use Rattle.command_line.specs.declared.words.WordsFault.{WordsFault}
use Rattle.command_line.specs.declared.words.WordsFault.TheVariants.{Parser, UnknownFault, Both, TwoImages, UpdatesAlone, OfCommands, JournalsOfNone}
use Rattle.command_line.specs.declared.words.WordsFault.TheVariants.{Update, NoPart, LostAlone, NoLoss}
use Rattle.command_line.specs.declared.words.AskedWords.{AskedWords}
use Rattle.command_line.specs.declared.words.AskedWords.TheVariants as asks
use Rattle.command_line.specs.declared.words.AskedWords.TheVariants.{Command, NoSuchFault, ImageAndScript, ImageAndProgram, NoUpdate}
use Rattle.faults.specs.Explanations.{is_fault}
use Rattle.faults.specs.FaultTable.{IsRowOf, row_of}
use Rattle.map_updates.specs.UpdateWords.{IsWritten, AreMistakenWords}
use Rattle.map_updates.specs.declared.reading.Mistake.{Mistake}
use Rattle.map_updates.specs.declared.reading.Mistake.TheVariants.{Memory}
use Rattle.map_updates.specs.declared.update.MapUpdate.{MapUpdate}
use Rattle.command_line.specs.Commanded.{AreLeftByCommands, IsFirstOfCommands}

-- the word of an option, where it is given
abbrev pub text_of : Option (Bor (List ℕ)) → Option (List ℕ)
text_of word = option_map (λ (w : Bor (List ℕ)). w.now) word

-- the word of an argument, which the parser found
abbrev pub argument_word : Text → List Row → Text
argument_word id rows = unwrap_or (first_of id rows) []

-- the number that the argument's text writes, where it writes one below 2 ^ bits
abbrev pub IsNumberOf : ℕ → Text → List Row → ℕ → Type 0
IsNumberOf bits id rows number =
    (text : Text) → one_of id rows ≡ Some text → IsNumeral 10 (without_leading_plus text)
    → digits_value 10 (without_leading_plus text) < 2 ^ bits → number ≡ digits_value 10 (without_leading_plus text)

-- a switch is on where the parser found it given, and off where it found it missing
abbrev pub IsSwitchOf : Text → List Row → Bool → Type 0
IsSwitchOf id rows switch =
    (one_of id rows ≡ Some (codes "true") → switch ≡ true) × (one_of id rows ≡ Some (codes "false") → switch ≡ false)

abbrev pub is_named : Text → Text → Type 0
is_named name wanted = IsTrue (bytes_eq name wanted)

-- the name is that of one of the commands
abbrev pub IsCommand : Text → Type 0
IsCommand name = IsTrue
    (bytes_eq name (codes "check")
    || bytes_eq name (codes "run")
    || bytes_eq name (codes "disasm")
    || bytes_eq name (codes "audit")
    || bytes_eq name (codes "explain")
    || bytes_eq name (codes "replay")
    || bytes_eq name (codes "shipped")
    || bytes_eq name (codes "table")
    || bytes_eq name (codes "script")
    || bytes_eq name (codes "compare")
    || bytes_eq name (codes "flows")
    || bytes_eq name (codes "page")
    || bytes_eq name (codes "asm"))

-- both of two options are given
abbrev pub are_both_given : Text → Text → List Row → Bool
are_both_given one other rows = is_some (first_of one rows) && is_some (first_of other rows)

-- there are updates
abbrev pub has_updates : List Row → Bool
has_updates rows = is_some (all_of (codes "update") rows)

-- a program over the maps of steering is named
abbrev pub has_program : List Row → Bool
has_program rows = is_some (first_of (codes "program") rows)

-- there are updates, and neither an image nor such a program
abbrev pub are_updates_alone : List Row → Bool
are_updates_alone rows = has_updates rows && (is_none (first_of (codes "image") rows) && not (has_program rows))

-- a file is named for the journals
abbrev pub has_journals : List Row → Bool
has_journals rows = is_some (first_of (codes "journals") rows)

-- the first of two options that is given, if one is
abbrev pub first_given : Option Text → Option Text → Option Text
first_given (Some word) other = Some word
first_given None other = other

-- the word writes this number
abbrev pub Writes : Text → ℕ → Type 0
Writes word number =
    IsNumeral 10 (without_leading_plus word) × (digits_value 10 (without_leading_plus word) ≡ number)

-- the word is the name of this fault
abbrev pub IsName : Text → ℕ → Type 0
IsName word number = (is_fault number ≡ true) × (word ≡ (row_of number).name)

-- and no fault of a lower number has that name
abbrev pub IsFirstName : Text → ℕ → Type 0
IsFirstName word number = IsName word number × ((lower : ℕ) → lower < number → ¬ IsName word lower)

-- the word says this fault, by its number or by its name
abbrev pub SaysFault : Text → ℕ → Type 0
SaysFault word number = Writes word number ⊎ IsFirstName word number

-- the word is neither the number nor the name of a fault
abbrev pub SaysNone : Text → Type 0
SaysNone word = (number : ℕ) → is_fault number ≡ true → ¬ Writes word number × ¬ IsName word number

-- the files of a run are what was found for its arguments
abbrev pub AreRunFiles : List Row → RunFiles → Type 0
AreRunFiles rows files = (files.image.now ≡ argument_word (codes "IMAGE") rows)
    × (files.frame.now ≡ argument_word (codes "FRAME") rows)
    × (text_of files.journals ≡ first_of (codes "journals") rows)
    × (text_of files.maps ≡ first_of (codes "maps") rows)

-- the words of an option that may be given any number of times, those of all uses
abbrev pub words_of : Text → List Row → List Text
words_of id rows = unwrap_or (all_of id rows) []

abbrev pub word_at : List Text → ℕ → Text
word_at words place = slice_index_or words place []

-- the three words of a place, from 0, say this update
abbrev pub IsUpdateAt : List Text → ℕ → MapUpdate → Type 0
IsUpdateAt words place update =
    IsWritten (word_at words (3 * place)) (word_at words (3 * place + 1)) (word_at words (3 * place + 2)) update

-- each three of the words say one update, in their order
pub record AreUpdates (words : List Text) (updates : List MapUpdate) : Type 0 where
  pub count : length updates ≡ length words / 3
  pub each : (place : ℕ) (update : MapUpdate) → slice_get updates place ≡ Some update → IsUpdateAt words place update

-- the update at a place, from 0, is the first malformed one, and has this mistake first
pub record IsBadUpdate (words : List Text) (place : ℕ) (mistake : Mistake) : Type 0 where
  pub within : place < length words / 3
  pub earlier : (before : ℕ) → before < place → (update : MapUpdate) × IsUpdateAt words before update
  pub mistaken :
      AreMistakenWords (word_at words (3 * place)) (word_at words (3 * place + 1)) (word_at words (3 * place + 2)) mistake

-- the files of a replay are what was found for its arguments
abbrev pub AreReplayFiles : List Row → ReplayFiles → Type 0
AreReplayFiles rows files = (files.capture.now ≡ argument_word (codes "CAPTURE") rows)
    × (files.sent.now ≡ argument_word (codes "SENT") rows)
    × (text_of files.image ≡ first_given (first_of (codes "image") rows) (first_of (codes "program") rows))
    × (files.is_steering ≡ is_none (first_of (codes "image") rows))
    × (text_of files.script ≡ first_of (codes "script") rows)
    × (text_of files.journals ≡ first_of (codes "journals") rows)
    × (text_of files.report ≡ first_of (codes "report") rows)
    × (text_of files.maps ≡ first_of (codes "maps") rows)

-- and so are its options
abbrev pub AreReplayOptions : List Row → Options → Type 0
AreReplayOptions rows options = IsNumberOf 32 (codes "workers") rows options.workers
    × IsNumberOf 32 (codes "shards") rows options.shards
    × IsNumberOf 32 (codes "journal") rows options.journal

-- and how the capture is read
abbrev pub IsReadingOf : List Row → Reading → Type 0
IsReadingOf rows reading = IsSwitchOf (codes "skip-long") rows reading.skip_long
    × IsSwitchOf (codes "pad-cut") rows reading.pad_cut
    × IsSwitchOf (codes "allow-cut") rows reading.allow_cut

-- the word is K/N, with a slash between two numbers: K is below N
pub record IsPartWord (word : Text) (number of : ℕ) : Type 0 where
  pub before : Text
  pub after : Text
  pub split : word ≡ before ++ 0x2f ∷ after
  pub first : Writes before number
  pub second : Writes after of
  pub within : number < of
  pub fits : of < 2 ^ 32

-- the word is that of no part
abbrev pub IsNoPartWord : Text → Type 0
IsNoPartWord word = (number of : ℕ) → ¬ IsPartWord word number of

-- the part that a word says
pub record SaysPart (word : Text) (part : Option Part) : Type 0 where
  pub said : Part
  pub part_is : part ≡ Some said
  pub spelled : IsPartWord word said.number said.of

-- the part that is asked for, where one is
abbrev pub IsPartAsked : Option Text → Option Part → Type 0
IsPartAsked None part = part ≡ None
IsPartAsked (Some word) part = SaysPart word part

-- the word is J@RECORD, with an at sign between two numbers: part J, one of at least two, is lost behind so many records
pub record IsLossWord (word : Text) (of : ℕ) (loss : Loss) : Type 0 where
  pub before : Text
  pub after : Text
  pub split : word ≡ before ++ 0x40 ∷ after
  pub first : Writes before loss.part
  pub second : Writes after loss.from
  pub within : loss.part < of
  pub others : 1 < of
  pub fits : loss.from < 2 ^ 32

-- the word is that of no loss of one of so many parts
abbrev pub IsNoLossWord : Text → ℕ → Type 0
IsNoLossWord word of = (loss : Loss) → ¬ IsLossWord word of loss

-- the part has the loss that a word says
pub record HasLoss (word : Text) (part : Part) : Type 0 where
  pub said : Loss
  pub loss_is : part.lost ≡ Some said
  pub spelled : IsLossWord word part.of said

-- the part that is replayed
pub record LosesPart (word : Text) (part : Option Part) : Type 0 where
  pub losing : Part
  pub part_is : part ≡ Some losing
  pub with_loss : HasLoss word losing

-- the loss that is asked for, where one is: of a part that is asked for
abbrev pub IsLossAsked : Option Text → Option Part → Type 0
IsLossAsked None part = IfSome part (λ whole. whole.lost ≡ None)
IsLossAsked (Some word) part = LosesPart word part

-- a loss is asked for, and no part
abbrev pub is_lost_alone : List Row → Bool
is_lost_alone rows = is_some (first_of (codes "lost") rows) && is_none (first_of (codes "part") rows)

-- a loss is asked for with a part, and the word is that of none
pub record AsksNoLoss (asked lost : Option Text) (word : Text) : Type 0 where
  pub part_word : Text
  pub number : ℕ
  pub of : ℕ
  pub part_given : asked ≡ Some part_word
  pub part_spelled : IsPartWord part_word number of
  pub given : lost ≡ Some word
  pub none : IsNoLossWord word of

-- a part is asked for, and the word is that of none
pub record AsksNoPart (asked : Option Text) (word : Text) : Type 0 where
  pub given : asked ≡ Some word
  pub none : IsNoPartWord word

-- a replay is asked for one program, and for updates only where that is not the shipped one
abbrev pub IsOfOneProgram : List Row → Type 0
IsOfOneProgram rows = IsFalse (are_both_given (codes "image") (codes "script") rows)
    × IsFalse (are_both_given (codes "image") (codes "program") rows)
    × IsFalse (are_updates_alone rows)

-- a file is named for journals only where their rows are kept
pub record NamesKeptRows (rows : List Row) : Type 0 where
  pub no_journals : Bool
  pub switch : IsSwitchOf (codes "no-journals") rows no_journals
  pub kept : IsFalse (no_journals && has_journals rows)

-- a mistake in an update is that of a run, or of a replay that has no other mistake
abbrev pub IsOfUpdates : Text → List Row → Type 0
IsOfUpdates name rows =
    is_named name (codes "run") ⊎ (is_named name (codes "replay") × IsOfOneProgram rows × NamesKeptRows rows)

-- the updates of a replay: commands of a script, which a program over the maps of steering may have, set other maps
pub record AreReplayUpdates (rows : List Row) (updates : List MapUpdate) : Type 0 where
  pub said : AreUpdates (words_of (codes "update") rows) updates
  pub left : IsTrue (has_program rows) → AreLeftByCommands updates

-- no update is malformed, or of a map that commands set
pub record AreSomeUpdates (rows : List Row) : Type 0 where
  pub updates : List MapUpdate
  pub are : AreReplayUpdates rows updates

-- no update is malformed, and the first one of a map that commands set is at this place, from 0
pub record IsUpdateOfCommands (rows : List Row) (place : ℕ) : Type 0 where
  pub updates : List MapUpdate
  pub said : AreUpdates (words_of (codes "update") rows) updates
  pub program : IsTrue (has_program rows)
  pub first : IsFirstOfCommands updates place

-- the settings are those of the command of this name, with what was found for its arguments
abbrev pub IsReadFrom : Text → List Row → Settings → Type 0
IsReadFrom name rows (Check image explain) = is_named name (codes "check")
    × (image.now ≡ argument_word (codes "IMAGE") rows)
    × IsSwitchOf (codes "explain") rows explain
IsReadFrom name rows (Run files now worker updates) = is_named name (codes "run")
    × AreRunFiles rows files
    × IsNumberOf 64 (codes "now") rows now
    × IsNumberOf 32 (codes "worker") rows worker
    × AreUpdates (words_of (codes "update") rows) updates.items
IsReadFrom name rows (Disasm image source) = is_named name (codes "disasm")
    × (image.now ≡ argument_word (codes "IMAGE") rows)
    × IsSwitchOf (codes "source") rows source
IsReadFrom name rows (Audit image journals) = is_named name (codes "audit")
    × (image.now ≡ argument_word (codes "IMAGE") rows)
    × (journals.now ≡ argument_word (codes "JOURNALS") rows)
IsReadFrom name rows (Explain about) = is_named name (codes "explain")
    × SaysFault (argument_word (codes "FAULT") rows) about.number
    × IsRowOf about.number about
    × (is_fault about.number ≡ true)
IsReadFrom name rows (Asm text out source) = is_named name (codes "asm")
    × (text.now ≡ argument_word (codes "TEXT") rows)
    × (out.now ≡ argument_word (codes "OUT") rows)
    × IsSwitchOf (codes "source") rows source
IsReadFrom name rows (Shipped out ring flows) = is_named name (codes "shipped")
    × (out.now ≡ argument_word (codes "OUT") rows)
    × IsNumberOf 32 (codes "ring") rows ring
    × IsNumberOf 32 (codes "flows") rows flows
IsReadFrom name rows (Table script ring) = is_named name (codes "table")
    × (script.now ≡ argument_word (codes "SCRIPT") rows)
    × IsNumberOf 32 (codes "ring") rows ring
IsReadFrom name rows (Script capture timed reading) = is_named name (codes "script")
    × (capture.now ≡ argument_word (codes "CAPTURE") rows)
    × (timed.now ≡ argument_word (codes "TIMED") rows)
    × IsReadingOf rows reading
IsReadFrom name rows (Compare first second) = is_named name (codes "compare")
    × (first.now ≡ argument_word (codes "FIRST") rows)
    × (second.now ≡ argument_word (codes "SECOND") rows)
IsReadFrom name rows (Flows report script) = is_named name (codes "flows")
    × (report.now ≡ argument_word (codes "REPORT") rows)
    × (script.now ≡ argument_word (codes "SCRIPT") rows)
IsReadFrom name rows (Page report script) = is_named name (codes "page")
    × (report.now ≡ argument_word (codes "REPORT") rows)
    × (script.now ≡ argument_word (codes "SCRIPT") rows)
IsReadFrom name rows (Replay asked) = is_named name (codes "replay")
    × AreReplayFiles rows asked.files
    × AreReplayOptions rows asked.options
    × IsNumberOf 32 (codes "ring") rows asked.ring
    × IsNumberOf 32 (codes "flows") rows asked.flows
    × IsSwitchOf (codes "exact") rows asked.exact
    × IsSwitchOf (codes "summary") rows asked.summary
    × IsReadingOf rows asked.reading
    × IsPartAsked (first_of (codes "part") rows) asked.part
    × IsLossAsked (first_of (codes "lost") rows) asked.part
    × IsSwitchOf (codes "no-journals") rows asked.no_journals
    × IsSwitchOf (codes "strict") rows asked.strict
    × IsSwitchOf (codes "no-clobber") rows asked.no_clobber
    × IsOfOneProgram rows
    × IsFalse (asked.no_journals && has_journals rows)
    × AreReplayUpdates rows asked.updates.items

-- what was asked for: a command, what a word means that is no fault, a replay of both an image and a script or of two images, one with
-- updates of the shipped program, one with a file for journals that keep no rows, a malformed update, an update of what commands set, or a
-- replay of no part
abbrev pub IsAsked : Text → List Row → AskedWords → Type 0
IsAsked name rows (Command settings) = IsReadFrom name rows settings
IsAsked name rows (NoSuchFault word) = is_named name (codes "explain")
    × (word.now ≡ argument_word (codes "FAULT") rows)
    × SaysNone word.now
IsAsked name rows ImageAndScript = is_named name (codes "replay") × IsTrue (are_both_given (codes "image") (codes "script") rows)
IsAsked name rows ImageAndProgram = is_named name (codes "replay")
    × IsFalse (are_both_given (codes "image") (codes "script") rows)
    × IsTrue (are_both_given (codes "image") (codes "program") rows)
IsAsked name rows asks.UpdatesAlone = is_named name (codes "replay")
    × IsFalse (are_both_given (codes "image") (codes "script") rows)
    × IsFalse (are_both_given (codes "image") (codes "program") rows)
    × IsTrue (are_updates_alone rows)
IsAsked name rows asks.JournalsOfNone = is_named name (codes "replay")
    × IsOfOneProgram rows
    × IsSwitchOf (codes "no-journals") rows true
    × IsTrue (has_journals rows)
IsAsked name rows (NoUpdate place mistake) = IsOfUpdates name rows × IsBadUpdate (words_of (codes "update") rows) place mistake
IsAsked name rows (asks.OfCommands place) = is_named name (codes "replay")
    × IsOfOneProgram rows
    × NamesKeptRows rows
    × IsUpdateOfCommands rows place
IsAsked name rows (asks.NoPart word) = is_named name (codes "replay")
    × IsOfOneProgram rows
    × NamesKeptRows rows
    × AreSomeUpdates rows
    × AsksNoPart (first_of (codes "part") rows) word.now
IsAsked name rows asks.LostAlone = is_named name (codes "replay")
    × IsOfOneProgram rows
    × NamesKeptRows rows
    × AreSomeUpdates rows
    × IsTrue (is_lost_alone rows)
IsAsked name rows (asks.NoLoss word) = is_named name (codes "replay")
    × IsOfOneProgram rows
    × NamesKeptRows rows
    × AreSomeUpdates rows
    × AsksNoLoss (first_of (codes "part") rows) (first_of (codes "lost") rows) word.now

-- the words ask for what there is not: what a word means that is no fault, a replay of both an image and a script or of two images, one
-- with updates of the shipped program, one with a file for journals that keep no rows, a malformed update, an update of what commands set, a
-- replay of no part, one with a loss and no part, or one with no loss of a part
abbrev pub AsksInVain : Text → List Row → WordsFault → Type 0
AsksInVain name rows (UnknownFault word) = IsAsked name rows (NoSuchFault word)
AsksInVain name rows Both = IsAsked name rows ImageAndScript
AsksInVain name rows TwoImages = IsAsked name rows ImageAndProgram
AsksInVain name rows UpdatesAlone = IsAsked name rows asks.UpdatesAlone
AsksInVain name rows JournalsOfNone = IsAsked name rows asks.JournalsOfNone
AsksInVain name rows (Update place mistake) = IsAsked name rows (NoUpdate place mistake)
AsksInVain name rows (OfCommands place) = IsAsked name rows (asks.OfCommands place)
AsksInVain name rows (NoPart word) = IsAsked name rows (asks.NoPart word)
AsksInVain name rows LostAlone = IsAsked name rows asks.LostAlone
AsksInVain name rows (NoLoss word) = IsAsked name rows (asks.NoLoss word)
AsksInVain name rows (Parser error) = ⊥

-- the parser's word for what the user asked for, or got wrong
abbrev pub kind_of_mistake : Mistake → ErrorKind
kind_of_mistake Memory = OutOfMemory
kind_of_mistake mistake = ValueValidation

abbrev pub kind_of_fault : WordsFault → ErrorKind
kind_of_fault (Parser error) = kind_of error
kind_of_fault (UnknownFault word) = ValueValidation
kind_of_fault Both = ArgumentConflict
kind_of_fault TwoImages = ArgumentConflict
kind_of_fault UpdatesAlone = ArgumentConflict
kind_of_fault JournalsOfNone = ArgumentConflict
kind_of_fault (Update place mistake) = kind_of_mistake mistake
kind_of_fault (OfCommands place) = ArgumentConflict
kind_of_fault (NoPart word) = ValueValidation
kind_of_fault LostAlone = ArgumentConflict
kind_of_fault (NoLoss word) = ValueValidation
