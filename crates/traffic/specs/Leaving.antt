-- What is printed of a `down`: the slots that change hands are those of the backend that goes down and those that leave a backend which
-- stays, by the owners that Maglev's population of the backends that are up names before it and behind it.
use Rattle.std.specs.Prelude.{◌≡◌, ℕ, zero, suc, ◌+◌, ◌==◌, ◌&&◌, not, Bool, false, List, [], ◌∷◌, ◌++◌, Option, Some, None, take}
use Rattle.std.specs.Prelude.{slice_get, if◌then◌else◌}
use Rattle.std.specs.List.{find, list_any}
use Rattle.maglev.specs.declared.backend.Backend.{Backend as Server}
use Rattle.maglev.specs.RingSize.{IsRingSize}
use Rattle.maglev.specs.Population.{share_of}
use Rattle.control.specs.declared.command.Action.TheVariants.{Down}
use Rattle.control.specs.declared.command.Command.{Command}
use Rattle.control.specs.Controlling.{IsTable, has_number, up_after, without_backend}
use Rattle.control.specs.RingChanges.{is_same_owner}
use Rattle.traffic.specs.TableText.{AreTables, done_line}
use Rattle.traffic.specs.declared.tables.Refused.{Refused}

-- ---- slots

-- the slot has an owner, which is not the backend of this number, and in the second table another owner, or none
abbrev pub leaves_another : ℕ → Option ℕ → Option ℕ → Bool
leaves_another number None later = false
leaves_another number (Some owner) later = not (owner == number) && not (is_same_owner (Some owner) later)

-- how many of the first slots leave another backend than the one of this number, by the owners in the first table and in the second
abbrev pub left_below : ℕ → List ℕ → List ℕ → ℕ → ℕ
left_below number owners later zero = 0
left_below number owners later (suc slot) =
    left_below number owners later slot + (if leaves_another number (slice_get owners slot) (slice_get later slot) then 1 else 0)

-- Of so many slots that change hands when a backend goes down: the owners by the population of the backends that are up before, and by that
-- of all of them but this one. The backend's own slots change hands, and those that leave a backend which stays, and no other.
pub record IsDownCounted (size : ℕ) (up : List Server) (number moved : ℕ) : Type 0 where
  pub server : Server
  pub is_up : find (has_number number) up ≡ Some server
  pub owners : List ℕ
  pub table : IsTable size up owners
  pub later_owners : List ℕ
  pub later_table : IsTable size (without_backend up number) later_owners
  pub moved_is : moved ≡ share_of number owners + left_below number owners later_owners size

-- ---- who is up

-- the command at this place is noted as refused
abbrev pub is_noted : List Refused → ℕ → Bool
is_noted noted place = list_any (λ (one : Refused). one.place == place) noted

-- the backends that are up behind commands of which these were refused, by rising number; the first of the list has this place
abbrev pub up_behind : List Refused → ℕ → List Server → List Command → List Server
up_behind noted place up [] = up
up_behind noted place up (command ∷ later) =
    up_behind noted (place + 1) (if is_noted noted place then up else up_after up command.action) later

-- ---- the text

-- behind what is printed of the commands before it stands the line of this `down`, with the number of the slots that change hands
pub record IsDownShown (size : ℕ) (script : List Command) (printed : List ℕ) (noted : List Refused) (place frame number : ℕ) : Type 0 where
  pub front : List ℕ
  pub noted_before : List Refused
  pub before : AreTables size (take place script) front noted_before
  pub moved : ℕ
  pub least : ℕ
  pub behind : List ℕ
  pub printed_is : printed ≡ front ++ (done_line place frame moved least ++ behind)
  pub counted : IsDownCounted size (up_behind noted 0 [] (take place script)) number moved

-- so it is of each `down` that was not refused, in whatever is printed of a script
abbrev pub DownsAreCounted : Type 0
DownsAreCounted =
    (size : ℕ) → IsRingSize size → (script : List Command) (printed : List ℕ) (noted : List Refused) → AreTables size script printed noted →
    (place : ℕ) (command : Command) (number : ℕ) → slice_get script place ≡ Some command → command.action ≡ Down number →
    is_noted noted place ≡ false → IsDownShown size script printed noted place command.frame number
