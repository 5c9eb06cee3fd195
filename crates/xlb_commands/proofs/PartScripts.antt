-- The commands of a script in a part of a capture: their numbers never fall.
use Rattle.std.proofs.Common.{◌≡◌, ◌∙◌, ◌∷◌, ℕ, List, [], length}
use Rattle.std.proofs.lemmas.List.{length-map}
use Rattle.wire.specs.declared.records.Sent.{Sent}
use Rattle.control.specs.declared.command.Command.{Command}
use Rattle.control.specs.Renumbering.{at_frames}
use Rattle.control.specs.ScriptText.{NeverFalls}
use Rattle.fleet.specs.declared.part.Part.{Part}
use Rattle.fleet.specs.Numbers.{NeverFall}
use Rattle.fleet.specs.Parts.{is_in_part, number_in_part}
use Rattle.fleet.proofs.shared.PartLemmas.{never_fewer}
use Rattle.xlb_commands.specs.Parts.{command_frames, numbers_of_part}

-- in the whole capture they never fall
pub frames_fall : (least : ℕ) (script : List Command) → NeverFalls least script → NeverFall least (command_frames script)
frames_fall least [] falls = tt
frames_fall least (command ∷ script) falls = (falls.0, frames_fall command.frame script falls.1)

-- so they never fall in the part
pub numbers_fall : (part : Part) (records : List Sent) (least : ℕ) (script : List Command) → NeverFalls least script
    → NeverFalls (number_in_part part.of part.lost part.number records least) (at_frames (numbers_of_part part records script) script)
numbers_fall part records least [] falls = tt
numbers_fall part records least (command ∷ script) falls = (
  never_fewer (is_in_part part.of part.lost part.number) records least command.frame falls.0,
  numbers_fall part records command.frame script falls.1,
)

-- there is a number for each command
pub as_many : (part : Part) (records : List Sent) (script : List Command) → length (numbers_of_part part records script) ≡ length script
as_many part records script =
    length-map (command_frames script) (number_in_part part.of part.lost part.number records) ∙ length-map script (λ (command : Command). command.frame)
