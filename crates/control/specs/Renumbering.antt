-- The commands of a script at other frames.
use Rattle.std.specs.Prelude.{ℕ, List, [], ◌∷◌}
use Rattle.control.specs.declared.command.Command.{Command}

-- the command at this frame
abbrev pub at_frame : ℕ → Command → Command
at_frame frame command = record { frame = frame; action = command.action }

-- each command at the frame with its place
abbrev pub at_frames : List ℕ → List Command → List Command
at_frames frames [] = []
at_frames [] (command ∷ commands) = []
at_frames (frame ∷ frames) (command ∷ commands) = at_frame frame command ∷ at_frames frames commands
