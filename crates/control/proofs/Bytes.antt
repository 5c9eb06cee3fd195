-- Which bytes are in the words of a line.
use Rattle.std.proofs.Common.{◌≡◌, ℕ, ◌+◌, ◌≤◌, ◌<◌, ◌^◌, ◌/◌, ◌%◌, Bool, true, false, List, [], ◌∷◌, ◌++◌, get_or, refl, arith}
use Rattle.std.specs.Fmt.{decimal}
use Rattle.std.proofs.lemmas.Fmt.{decimal_by_steps}
use Rattle.std.proofs.lemmas.Bool.Decides.{nat_tests}
use Rattle.wire.specs.declared.flow.Transport.{Transport}
use Rattle.wire.specs.declared.flow.Transport.TheVariants.{Tcp, Udp}
use Rattle.conntrack.specs.declared.keys.Service.{Service}
use Rattle.text_lines.proofs.shared.ByteLemmas.{all_bytes, within, all_append, all_more, weaken}
use Rattle.control.specs.declared.command.Action.{Action}
use Rattle.control.specs.declared.command.Action.TheVariants.{Vip, Up, Down, Gateway}
use Rattle.control.specs.declared.command.Command.{Command}
use Rattle.text_lines.specs.Digits.{hex_digit}
use Rattle.control.specs.ScriptText.{AreBytesOfLength, ActionFits, CommandFits, address_text, hex_pair, colon_pair, mac_text, transport_text, notrack_text, vip_text, gateway_text, action_text, script_line}

wider : (low high low' high' b : ℕ) → low' ≤ low → high ≤ high' → within low high b ≡ true → within low' high' b ≡ true
wider low high low' high' b before after a = grind (arith, nat_tests)

pub widen : (low high low' high' : ℕ) (xs : List ℕ) → low' ≤ low → high ≤ high' → all_bytes (within low high) xs ≡ true → all_bytes (within low' high') xs ≡ true
widen low high low' high' xs before after a = weaken (within low high) (within low' high') (λ b h. wider low high low' high' b before after h) xs a

-- ---- words

digit_within : (m : ℕ) → m < 10 → all_bytes (within 48 58) ((48 + m) ∷ []) ≡ true
digit_within m lt = grind (arith, nat_tests)

pub decimal_within : (n : ℕ) → n < 2 ^ 64 → all_bytes (within 48 58) (decimal n) ≡ true
decimal_within n small =
    decimal_by_steps (λ m ds. all_bytes (within 48 58) ds ≡ true) (λ m lt. digit_within m lt)
    (λ m ds le a. all_append (within 48 58) ds ((48 + m % 10) ∷ []) a (digit_within (m % 10) (omega arith))) n small

part_within : (bytes : List ℕ) → AreBytesOfLength 4 bytes → (place : ℕ) → place < 4 → all_bytes (within 46 58) (decimal (get_or bytes place 0)) ≡ true
part_within bytes fits place lt =
    let small : get_or bytes place 0 < 256 = fits.each place lt in
    widen 48 58 46 58 (decimal (get_or bytes place 0)) (omega arith) (omega arith) (decimal_within (get_or bytes place 0) (omega arith))

-- an address has digits and dots
pub address_within : (bytes : List ℕ) → AreBytesOfLength 4 bytes → all_bytes (within 46 58) (address_text bytes) ≡ true
unfolding address_text
address_within bytes fits =
    let p = within 46 58 in
    let third = all_append p (decimal (get_or bytes 2 0)) (46 ∷ decimal (get_or bytes 3 0)) (part_within bytes fits 2 (omega arith)) (all_more p 46 (decimal (get_or bytes 3 0)) refl (part_within bytes fits 3 (omega arith))) in
    let second = all_append p (decimal (get_or bytes 1 0)) (46 ∷ (decimal (get_or bytes 2 0) ++ 46 ∷ decimal (get_or bytes 3 0))) (part_within bytes fits 1 (omega arith)) (all_more p 46 (decimal (get_or bytes 2 0) ++ 46 ∷ decimal (get_or bytes 3 0)) refl third) in
    all_append p (decimal (get_or bytes 0 0)) (46 ∷ (decimal (get_or bytes 1 0) ++ 46 ∷ (decimal (get_or bytes 2 0) ++ 46 ∷ decimal (get_or bytes 3 0)))) (part_within bytes fits 0 (omega arith))
    (all_more p 46 (decimal (get_or bytes 1 0) ++ 46 ∷ (decimal (get_or bytes 2 0) ++ 46 ∷ decimal (get_or bytes 3 0))) refl second)

hex_within : (digit : ℕ) → digit < 16 → within 48 103 (hex_digit digit) ≡ true
hex_within digit lt = grind (arith, nat_tests)

pair_within : (byte : ℕ) → byte < 256 → all_bytes (within 48 103) (hex_pair byte) ≡ true
unfolding hex_pair
pair_within byte lt =
    let p = within 48 103 in
    all_more p (hex_digit (byte / 16)) (hex_digit (byte % 16) ∷ []) (hex_within (byte / 16) (omega arith)) (all_more p (hex_digit (byte % 16)) [] (hex_within (byte % 16) (omega arith)) refl)

colon_within : (byte : ℕ) → byte < 256 → all_bytes (within 48 103) (colon_pair byte) ≡ true
colon_within byte lt = all_more (within 48 103) 58 (hex_pair byte) refl (pair_within byte lt)

-- an Ethernet address has digits, letters and colons
pub mac_within : (bytes : List ℕ) → AreBytesOfLength 6 bytes → all_bytes (within 48 103) (mac_text bytes) ≡ true
unfolding mac_text
mac_within bytes fits =
    let p = within 48 103 in
    let byte : ℕ → ℕ = λ place. get_or bytes place 0 in
    let later : (place : ℕ) → place < 6 → all_bytes p (colon_pair (get_or bytes place 0)) ≡ true = λ place lt. colon_within (get_or bytes place 0) (fits.each place lt) in
    let e = all_append p (colon_pair (byte 4)) (colon_pair (byte 5)) (later 4 (omega arith)) (later 5 (omega arith)) in
    let d = all_append p (colon_pair (byte 3)) (colon_pair (byte 4) ++ colon_pair (byte 5)) (later 3 (omega arith)) e in
    let c = all_append p (colon_pair (byte 2)) (colon_pair (byte 3) ++ (colon_pair (byte 4) ++ colon_pair (byte 5))) (later 2 (omega arith)) d in
    let b = all_append p (colon_pair (byte 1)) (colon_pair (byte 2) ++ (colon_pair (byte 3) ++ (colon_pair (byte 4) ++ colon_pair (byte 5)))) (later 1 (omega arith)) c in
    all_append p (hex_pair (byte 0)) (colon_pair (byte 1) ++ (colon_pair (byte 2) ++ (colon_pair (byte 3) ++ (colon_pair (byte 4) ++ colon_pair (byte 5))))) (pair_within (byte 0) (fits.each 0 (omega arith))) b

pub transport_within : (transport : Transport) → all_bytes (within 33 128) (transport_text transport) ≡ true
transport_within Tcp = refl
transport_within Udp = refl

notrack_within : (is_notrack : Bool) → all_bytes (within 32 128) (notrack_text is_notrack) ≡ true
notrack_within false = refl
notrack_within true = refl

-- ---- lines: printable bytes and spaces

abbrev printed : ℕ → Bool
printed = within 32 128

-- two words with a space between them
spaced : (xs ys : List ℕ) → all_bytes printed xs ≡ true → all_bytes printed ys ≡ true → all_bytes printed (xs ++ 32 ∷ ys) ≡ true
spaced xs ys a b = all_append printed xs (32 ∷ ys) a (all_more printed 32 ys refl b)

decimal_printed : (n : ℕ) → n < 2 ^ 64 → all_bytes printed (decimal n) ≡ true
decimal_printed n lt = widen 48 58 32 128 (decimal n) (omega arith) (omega arith) (decimal_within n lt)

address_printed : (bytes : List ℕ) → AreBytesOfLength 4 bytes → all_bytes printed (address_text bytes) ≡ true
address_printed bytes fits = widen 46 58 32 128 (address_text bytes) (omega arith) (omega arith) (address_within bytes fits)

mac_printed : (bytes : List ℕ) → AreBytesOfLength 6 bytes → all_bytes printed (mac_text bytes) ≡ true
mac_printed bytes fits = widen 48 103 32 128 (mac_text bytes) (omega arith) (omega arith) (mac_within bytes fits)

vip_printed : (service : Service) (is_notrack : Bool) → AreBytesOfLength 4 service.address.0 → service.port < 2 ^ 16 → all_bytes printed (vip_text service is_notrack) ≡ true
unfolding vip_text
vip_printed service is_notrack address port =
    let ending = all_append printed (transport_text service.transport) (notrack_text is_notrack) (widen 33 128 32 128 (transport_text service.transport) (omega arith) (omega arith) (transport_within service.transport)) (notrack_within is_notrack) in
    spaced (address_text service.address.0) (decimal service.port ++ 32 ∷ (transport_text service.transport ++ notrack_text is_notrack)) (address_printed service.address.0 address)
    (spaced (decimal service.port) (transport_text service.transport ++ notrack_text is_notrack) (decimal_printed service.port (omega arith)) ending)

gateway_printed : (source source_mac destination_mac : List ℕ) → AreBytesOfLength 4 source → AreBytesOfLength 6 source_mac → AreBytesOfLength 6 destination_mac → all_bytes printed (gateway_text source source_mac destination_mac) ≡ true
unfolding gateway_text
gateway_printed source source_mac destination_mac a b c =
    spaced (address_text source) (mac_text source_mac ++ 32 ∷ mac_text destination_mac) (address_printed source a) (spaced (mac_text source_mac) (mac_text destination_mac) (mac_printed source_mac b) (mac_printed destination_mac c))

action_printed : (action : Action) → ActionFits action → all_bytes printed (action_text action) ≡ true
unfolding action_text ActionFits
action_printed (Vip service is_notrack) fits = vip_printed service is_notrack fits.0 fits.1
action_printed (Up backend address) fits = spaced (decimal backend) (address_text address.0) (decimal_printed backend (omega (arith, fits.0))) (address_printed address.0 fits.1)
action_printed (Down backend) fits = decimal_printed backend (omega (arith, fits))
action_printed (Gateway source source_mac destination_mac) fits = gateway_printed source.0 source_mac.0 destination_mac.0 fits.0 fits.1 fits.2

pub line_printed : (command : Command) → CommandFits command → all_bytes (within 32 128) (script_line command) ≡ true
unfolding script_line
line_printed command fits = spaced (decimal command.frame) (action_text command.action) (decimal_printed command.frame (omega (arith, fits.frame))) (action_printed command.action fits.action)
