-- What a replay takes of the records of a capture that is read in pieces.
use Rattle.std.specs.Prelude.{◌≡◌, ◌+◌, ◌++◌, ◌<◌, ◌^◌, ◌==◌, ◌⊎◌, ℕ, Bool, true, List, [], Option, Some, None, length, map}
use Rattle.wire.specs.declared.records.Sent.{Sent}
use Rattle.control.specs.declared.command.Command.{Command}
use Rattle.control.specs.Renumbering.{at_frames}
use Rattle.folders.specs.PieceReading.{ReaderView}
use Rattle.fleet.specs.declared.part.Part.{Part}
use Rattle.fleet.specs.declared.numbering.Numbering.{Numbering}
use Rattle.fleet.specs.Numbers.{AreNumbered}
use Rattle.fleet.specs.Parts.{number_in_part}
use Rattle.xlb_commands.specs.declared.taking.Taking.{Taking}
use Rattle.xlb_commands.specs.declared.taking.Taking.TheVariants.{All, Of}
use Rattle.xlb_commands.specs.Parts.{command_frames, records_next}

-- the numbers, in this part, of the commands at these frames are known as far as they are due behind these records
pub record IsPartway (part : Option Part) (frames : List ℕ) (past : List Sent) (own : List ℕ) (numbering : Numbering) : Type 0 where
  pub part_is : part ≡ Some numbering.part
  pub frames_are : own ≡ frames
  pub numbered : AreNumbered frames past numbering

-- behind these records of a capture: all of them were taken; or those of this part were, in which the commands at these frames get their
-- numbers
abbrev pub HasPassed : Option Part → List ℕ → List Sent → Taking → Type 0
HasPassed part frames past All = part ≡ None
HasPassed part frames past (Of own numbering) = IsPartway part frames past own.items numbering

-- all commands have their numbers
abbrev pub knows_numbers : Taking → Bool
knows_numbers All = true
knows_numbers (Of own numbering) = length numbering.numbers.items == length own.items

-- from the one to the other these records were passed
abbrev pub GoesPast : Taking → Taking → List Sent → Type 0
GoesPast before after records =
    (part : Option Part) (frames : List ℕ) (past : List Sent) → HasPassed part frames past before → HasPassed part frames (past ++ records) after

-- and these are those of them that are taken
abbrev pub AreRecordsTaken : Taking → List Sent → List Sent → Type 0
AreRecordsTaken before records taken =
    (part : Option Part) (frames : List ℕ) (past : List Sent) → HasPassed part frames past before → taken ≡ records_next part (length past) records

-- it is behind some records
pub record IsBehindSome (taking : Taking) : Type 0 where
  pub part : Option Part
  pub frames : List ℕ
  pub past : List Sent
  pub passed : HasPassed part frames past taking

-- with the commands of this script
pub record IsBehindSomeOf (script : List Command) (taking : Taking) : Type 0 where
  pub part : Option Part
  pub past : List Sent
  pub passed : HasPassed part (command_frames script) past taking

-- it can pass one record more
pub record CanPass (taking : Taking) : Type 0 where
  pub behind : IsBehindSome taking
  pub few : length behind.past + 1 < 2 ^ 64

-- of this part it is behind as many records as were read
pub record IsAbreast (part : Option Part) (taking : Taking) (reader : ReaderView) : Type 0 where
  pub frames : List ℕ
  pub past : List Sent
  pub passed : HasPassed part frames past taking
  pub counted : reader.count ≡ length past

-- the commands at these frames have these numbers in the part of these records, if it is one
abbrev pub AreNumbers : Option Part → List ℕ → List Sent → List ℕ → Type 0
AreNumbers None frames records numbers = Unit {0}
AreNumbers (Some part) frames records numbers = numbers ≡ map (number_in_part part.of part.lost part.number records) frames

-- the script's commands at these numbers in the part, or where there is none as they are
abbrev pub script_at : Option Part → List ℕ → List Command → List Command
script_at None numbers script = script
script_at (Some part) numbers script = at_frames numbers script
