-- The part of a capture that a replay takes, and the script's commands in it.
use Rattle.std.specs.Prelude.{ℕ, List, Option, Some, None, map}
use Rattle.wire.specs.declared.records.Sent.{Sent}
use Rattle.control.specs.declared.command.Command.{Command}
use Rattle.control.specs.Renumbering.{at_frames}
use Rattle.fleet.specs.declared.part.Part.{Part}
use Rattle.fleet.specs.Parts.{number_in_part, records_behind, records_of_part}

-- how many records of the capture come before each command
abbrev pub command_frames : List Command → List ℕ
command_frames script = map (λ (command : Command). command.frame) script

-- the numbers that the commands have in a part of these records
abbrev pub numbers_of_part : Part → List Sent → List Command → List ℕ
numbers_of_part part records script = map (number_in_part part.of part.lost part.number records) (command_frames script)

-- the records that are replayed: those of the part, or where none is named all of them
abbrev pub records_in : Option Part → List Sent → List Sent
records_in (Some part) records = records_of_part part.of part.lost part.number records
records_in None records = records

-- those among the next records of the capture, behind so many
abbrev pub records_next : Option Part → ℕ → List Sent → List Sent
records_next (Some part) past records = records_behind part.of part.lost part.number past records
records_next None past records = records

-- the script that is carried out: its commands at their numbers in the part, or where none is named as they are
abbrev pub script_in : Option Part → List Sent → List Command → List Command
script_in (Some part) records script = at_frames (numbers_of_part part records script) script
script_in None records script = script
