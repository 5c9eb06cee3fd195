-- What is printed of the lookup table after each command of a script.
use Rattle.std.specs.Prelude.{◌≡◌, ℕ, ◌+◌, ◌*◌, ◌/◌, ◌%◌, ◌++◌, ◌∷◌, zero, suc, ◌==◌, List, [], Bool, true, false, codes, decimal}
use Rattle.std.specs.Prelude.{replicate, slice_get, unwrap_or, if◌then◌else◌, None}
use Rattle.maglev.specs.Population.{share_of}
use Rattle.control.specs.declared.command.Command.{Command}
use Rattle.control.specs.declared.fault.ControlFault.{ControlFault}
use Rattle.control.specs.FaultNumber.{control_fault_number}
use Rattle.control.specs.Controlling.{ControllerState, refusal_of, IsCarriedOut, IsLeft, first_updates, up_after, opened_controller}
use Rattle.traffic.specs.WrittenMaps.{MapsState, IsUpdateAnswered, IsNeverRefused}
use Rattle.traffic.specs.Shares.{moved_below, least_moves}
use Rattle.traffic.specs.SummaryText.{dotted}
use Rattle.traffic.specs.declared.tables.Refused.{Refused}

-- ---- lines

-- a share in hundredths of a percent, to the nearest one
abbrev pub hundredths : ℕ → ℕ → ℕ
hundredths share size = (share * 20000 + size) / (size * 2)

-- hundredths with a point and two digits
abbrev pub percent_text : ℕ → List ℕ
percent_text part = decimal (part / 100) ++ (codes "." ++ (decimal (part / 10 % 10) ++ decimal (part % 10)))

-- the byte at a place; 0 where there is none
abbrev pub byte_at : List ℕ → ℕ → ℕ
byte_at bytes place = unwrap_or (slice_get bytes place) 0

-- the address that a backend's record begins with
abbrev pub front_address : List ℕ → List ℕ
front_address bytes = dotted (byte_at bytes 0) (byte_at bytes 1) (byte_at bytes 2) (byte_at bytes 3)

abbrev pub backend_text : ℕ → List ℕ → ℕ → List ℕ → List ℕ
backend_text number address share percent =
    codes "backend " ++ (decimal number ++ (codes " address " ++ (address ++ (codes " slots " ++ (decimal share
    ++ (codes " percent " ++ (percent ++ codes "\n")))))))

-- the line of a backend with this share of the slots, if it owns one; its record begins with its address
abbrev pub backend_line : ℕ → ℕ → ℕ → List ℕ → List ℕ
backend_line size number share backend =
    if share == 0 then [] else backend_text number (front_address backend) share (percent_text (hundredths share size))

abbrev pub backend_record : List (List ℕ) → ℕ → List ℕ
backend_record backends number = unwrap_or (slice_get backends number) []

-- the lines of the backends below this number
unfoldable pub lines_below : MapsState → ℕ → List ℕ
lines_below state zero = []
lines_below state (suc number) =
    lines_below state number ++ backend_line state.size number (share_of (number + 1) state.words) (backend_record state.backends number)

-- the line of a command, counted from 0 here and from 1 there, that was carried out
abbrev pub done_line : ℕ → ℕ → ℕ → ℕ → List ℕ
done_line place frame moved least =
    codes "command " ++ (decimal (place + 1) ++ (codes " frame " ++ (decimal frame ++ (codes " moved " ++ (decimal moved
    ++ (codes " least " ++ (decimal least ++ codes "\n")))))))

-- and the line of one that was refused
abbrev pub refused_line : ℕ → ℕ → List ℕ
refused_line place fault = codes "command " ++ (decimal (place + 1) ++ (codes " refused " ++ (decimal fault ++ codes "\n")))

-- the lines of a command that left the maps so, where these were the table's words before
abbrev pub done_lines : ℕ → ℕ → List ℕ → MapsState → List ℕ
done_lines place frame before maps =
    done_line place frame (moved_below before maps.words maps.size) (least_moves before maps.words) ++ lines_below maps 256

-- ---- a script

-- The command at a place leads from one state of the controller and of the maps to another, as a replay's controller carries it out; or it
-- is refused, and leaves what the controller says. What is printed is so, and it is noted where it was refused.
pub data IsShown (place : ℕ) (state : ControllerState) (maps : MapsState) (command : Command) (state' : ControllerState)
    (maps' : MapsState) (printed : List ℕ) (noted : List Refused) : Type 0 where
  carried_out : refusal_of state command.action ≡ None
      → IsCarriedOut IsUpdateAnswered state maps (first_updates state.up command.action) (up_after state.up command.action) state' maps'
      → printed ≡ done_lines place command.frame maps.words maps' → noted ≡ []
      → IsShown place state maps command state' maps' printed noted
  refused : (fault : ControlFault) → IsLeft IsUpdateAnswered IsNeverRefused state maps command.action state' maps' fault
      → printed ≡ refused_line place (control_fault_number fault) → noted ≡ record { place = place; fault = fault } ∷ []
      → IsShown place state maps command state' maps' printed noted

-- the commands from a place on are shown, one after the other
abbrev pub AreShown : ℕ → ControllerState → MapsState → List Command → List ℕ → List Refused → Type 0
AreShown place state maps [] printed noted = (printed ≡ []) × (noted ≡ [])
AreShown place state maps (command ∷ later) printed noted =
    (state' : ControllerState) × (maps' : MapsState) × (first rest : List ℕ) × (one others : List Refused)
    × IsShown place state maps command state' maps' first one
    × AreShown (place + 1) state' maps' later rest others
    × (printed ≡ first ++ rest) × (noted ≡ one ++ others)

-- maps before the first command
abbrev pub no_maps : ℕ → MapsState
no_maps size = record { size = size; words = replicate size 0; backends = replicate 256 []; keys = [] }

-- what is printed of a script, and which of its commands were refused and why
abbrev pub AreTables : ℕ → List Command → List ℕ → List Refused → Type 0
AreTables size script printed noted = AreShown 0 (opened_controller size) (no_maps size) script printed noted

-- a command was refused
abbrev pub is_some : List Refused → Bool
is_some [] = false
is_some (first ∷ others) = true
