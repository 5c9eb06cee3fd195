-- The text of a script: a line for each command, each ended by a line feed, with single spaces between words. It is the one spelling of the
-- commands.
use Rattle.std.specs.Prelude.{◌≡◌, ℕ, ◌<◌, ◌≤◌, ◌^◌, ◌/◌, ◌%◌, ◌+◌, Bool, true, false, List, [], ◌∷◌, ◌++◌, All, codes, length, slice_index}
use Rattle.std.specs.Fmt.{decimal}
use Rattle.std.specs.List.{flat_map, AllByRecursion}
use Rattle.wire.specs.declared.flow.Transport.{Transport}
use Rattle.wire.specs.declared.flow.Transport.TheVariants.{Tcp, Udp}
use Rattle.conntrack.specs.declared.keys.Service.{Service}
use Rattle.text_lines.specs.Lines.{ended}
use Rattle.text_lines.specs.Digits.{hex_digit}
use Rattle.control.specs.declared.command.Action.{Action}
use Rattle.control.specs.declared.command.Action.TheVariants.{Vip, Up, Down, Gateway}
use Rattle.control.specs.declared.command.Command.{Command}

-- ---- words

-- the four bytes of an address as decimal numbers with dots between them (RFC 1123, section 2.1)
unfoldable pub address_text : List ℕ → List ℕ
address_text bytes =
    decimal (slice_index bytes 0) ++
    46 ∷ (decimal (slice_index bytes 1) ++ 46 ∷ (decimal (slice_index bytes 2) ++ 46 ∷ decimal (slice_index bytes 3)))

-- a byte as two hexadecimal digits
unfoldable pub hex_pair : ℕ → List ℕ
hex_pair byte = hex_digit (byte / 16) ∷ hex_digit (byte % 16) ∷ []

-- a colon and a byte
abbrev pub colon_pair : ℕ → List ℕ
colon_pair byte = 58 ∷ hex_pair byte

-- the six bytes of an Ethernet address with colons between them
unfoldable pub mac_text : List ℕ → List ℕ
mac_text bytes =
    hex_pair (slice_index bytes 0) ++ (colon_pair (slice_index bytes 1) ++ (colon_pair (slice_index bytes 2)
    ++ (colon_pair (slice_index bytes 3) ++ (colon_pair (slice_index bytes 4) ++ colon_pair (slice_index bytes 5)))))

abbrev pub transport_text : Transport → List ℕ
transport_text Tcp = codes "tcp"
transport_text Udp = codes "udp"

-- what the line of a service ends with: nothing, or that its flows are not tracked
abbrev pub notrack_text : Bool → List ℕ
notrack_text false = []
notrack_text true = codes " notrack"

-- ---- lines

unfoldable pub vip_text : Service → Bool → List ℕ
vip_text service is_notrack =
    address_text service.address.0 ++ 32 ∷ (decimal service.port ++ 32 ∷ (transport_text service.transport ++ notrack_text is_notrack))

unfoldable pub gateway_text : List ℕ → List ℕ → List ℕ → List ℕ
gateway_text source source_mac destination_mac = address_text source ++ 32 ∷ (mac_text source_mac ++ 32 ∷ mac_text destination_mac)

unfoldable pub action_text : Action → List ℕ
action_text (Vip service is_notrack) = codes "vip " ++ vip_text service is_notrack
action_text (Up backend address) = codes "up " ++ (decimal backend ++ 32 ∷ address_text address.0)
action_text (Down backend) = codes "down " ++ decimal backend
action_text (Gateway source source_mac destination_mac) = codes "gateway " ++ gateway_text source.0 source_mac.0 destination_mac.0

-- the line without its line feed
unfoldable pub script_line : Command → List ℕ
script_line command = decimal command.frame ++ 32 ∷ action_text command.action

abbrev pub script_text : List Command → List ℕ
script_text commands = flat_map (λ command. ended (script_line command)) commands

-- ---- which commands there are

-- this many bytes
pub record AreBytesOfLength (count : ℕ) (bytes : List ℕ) : Type 0 where
  pub long : length bytes ≡ count
  pub each : (place : ℕ) → place < count → slice_index bytes place < 256

unfoldable pub ActionFits : Action → Type 0
ActionFits (Vip service is_notrack) = AreBytesOfLength 4 service.address.0 × (service.port < 2 ^ 16)
ActionFits (Up backend address) = (backend < 2 ^ 32) × AreBytesOfLength 4 address.0
ActionFits (Down backend) = backend < 2 ^ 32
ActionFits (Gateway source source_mac destination_mac) = AreBytesOfLength 4 source.0 × AreBytesOfLength 6 source_mac.0 × AreBytesOfLength 6 destination_mac.0

-- each of its numbers fits its field
pub record CommandFits (command : Command) : Type 0 where
  pub frame : command.frame < 2 ^ 32
  pub action : ActionFits command.action

-- the line, without its line feed, is the command's
pub record IsCommandLine (command : Command) (line : List ℕ) : Type 0 where
  pub fits : CommandFits command
  pub spelled : line ≡ script_line command

-- ---- scripts

-- the frame numbers begin at this one or later, and never fall
abbrev pub NeverFalls : ℕ → List Command → Type 0
NeverFalls least [] = Unit {0}
NeverFalls least (command ∷ commands) = (least ≤ command.frame) × NeverFalls command.frame commands

-- the text is that of these commands
pub record IsScriptText (text : List ℕ) (commands : List Command) : Type 0 where
  pub fit : AllByRecursion CommandFits commands
  pub never_falls : NeverFalls 0 commands
  pub spelled : text ≡ script_text commands
