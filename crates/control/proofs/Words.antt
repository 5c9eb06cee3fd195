-- Words and their parts are read back.
use Rattle.std.proofs.Common.{◌≡◌, ℕ, zero, suc, ◌+◌, ◌*◌, ◌≤◌, ◌<◌, ◌^◌, ◌/◌, ◌%◌, Bool, true, false, ltb, leb, List, [], ◌∷◌, ◌++◌, length, drop, get_or, refl, sym, ap, ◌∙◌, arith, append_assoc, length-append}
use Rattle.std.specs.Prelude.{◌≢◌, codes}
use Rattle.std.specs.Fmt.{decimal}
use Rattle.std.proofs.lemmas.List.{append-nil}
use Rattle.std.proofs.lemmas.Bool.Decides.{nat_tests}
use Rattle.wire.specs.declared.flow.Transport.{Transport}
use Rattle.wire.specs.declared.flow.Transport.TheVariants.{Tcp, Udp}
use Rattle.conntrack.specs.declared.keys.Service.{Service}
use Rattle.control.specs.declared.command.Action.{Action}
use Rattle.control.specs.declared.command.Action.TheVariants.{Vip, Up, Down, Gateway}
use Rattle.text_lines.specs.Lines.{Lacks}
use Rattle.text_lines.specs.Digits.{hex_digit}
use Rattle.control.specs.ScriptText.{AreBytesOfLength, ActionFits, address_text, mac_text, transport_text, notrack_text, vip_text, gateway_text, action_text}
use Rattle.text_lines.proofs.shared.ByteLemmas.{all_bytes, within, lacks_from}
use Rattle.control.proofs.Bytes.{decimal_within, address_within, mac_within, transport_within}

-- ---- marks

pub decimal_lacks : (mark n : ℕ) → mark < 48 → n < 2 ^ 64 → Lacks mark (decimal n)
decimal_lacks mark n low lt = lacks_from (within 48 58) mark (decimal n) (decimal_within n lt) (grind (arith, nat_tests))

pub address_lacks : (bytes : List ℕ) → AreBytesOfLength 4 bytes → Lacks 32 (address_text bytes)
address_lacks bytes fits = lacks_from (within 46 58) 32 (address_text bytes) (address_within bytes fits) refl

pub mac_lacks : (bytes : List ℕ) → AreBytesOfLength 6 bytes → Lacks 32 (mac_text bytes)
mac_lacks bytes fits = lacks_from (within 48 103) 32 (mac_text bytes) (mac_within bytes fits) refl

pub transport_lacks : (transport : Transport) → Lacks 32 (transport_text transport)
transport_lacks transport = lacks_from (within 33 128) 32 (transport_text transport) (transport_within transport) refl

-- ---- lists by their elements

pub four_bytes : (bytes : List ℕ) → length bytes ≡ 4 → bytes ≡ get_or bytes 0 0 ∷ get_or bytes 1 0 ∷ get_or bytes 2 0 ∷ get_or bytes 3 0 ∷ []
four_bytes [] is = absurd (omega (arith, is))
four_bytes (a ∷ []) is = absurd (omega (arith, is))
four_bytes (a ∷ b ∷ []) is = absurd (omega (arith, is))
four_bytes (a ∷ b ∷ c ∷ []) is = absurd (omega (arith, is))
four_bytes (a ∷ b ∷ c ∷ d ∷ []) is = refl
four_bytes (a ∷ b ∷ c ∷ d ∷ e ∷ rest) is = absurd (omega (arith, is))

pub six_bytes : (bytes : List ℕ) → length bytes ≡ 6
    → bytes ≡ get_or bytes 0 0 ∷ get_or bytes 1 0 ∷ get_or bytes 2 0 ∷ get_or bytes 3 0 ∷ get_or bytes 4 0 ∷ get_or bytes 5 0 ∷ []
six_bytes [] is = absurd (omega (arith, is))
six_bytes (a ∷ []) is = absurd (omega (arith, is))
six_bytes (a ∷ b ∷ []) is = absurd (omega (arith, is))
six_bytes (a ∷ b ∷ c ∷ []) is = absurd (omega (arith, is))
six_bytes (a ∷ b ∷ c ∷ d ∷ []) is = absurd (omega (arith, is))
six_bytes (a ∷ b ∷ c ∷ d ∷ e ∷ []) is = absurd (omega (arith, is))
six_bytes (a ∷ b ∷ c ∷ d ∷ e ∷ f ∷ []) is = refl
six_bytes (a ∷ b ∷ c ∷ d ∷ e ∷ f ∷ g ∷ rest) is = absurd (omega (arith, is))

pub four_same : (bytes : List ℕ) (a b c d : ℕ) → length bytes ≡ 4 → a ≡ get_or bytes 0 0 → b ≡ get_or bytes 1 0 → c ≡ get_or bytes 2 0 → d ≡ get_or bytes 3 0 → a ∷ b ∷ c ∷ d ∷ [] ≡ bytes
four_same bytes a b c d long x y z w = rw (x, y, z, w) (sym (four_bytes bytes long))

pub six_same : (bytes : List ℕ) (a b c d e f : ℕ) → length bytes ≡ 6 → a ≡ get_or bytes 0 0 → b ≡ get_or bytes 1 0 → c ≡ get_or bytes 2 0 → d ≡ get_or bytes 3 0 → e ≡ get_or bytes 4 0 → f ≡ get_or bytes 5 0
    → a ∷ b ∷ c ∷ d ∷ e ∷ f ∷ [] ≡ bytes
six_same bytes a b c d e f long x y z w u v = rw (x, y, z, w, u, v) (sym (six_bytes bytes long))

-- ---- the end of a service's line

pub notrack_parts : (transport : Transport) (is_notrack : Bool) (ending front back : List ℕ) → ((xs ys : List ℕ) → ending ≡ xs ++ 32 ∷ ys → Lacks 32 xs → (front ≡ xs) × (back ≡ ys))
    → (Lacks 32 ending → (front ≡ ending) × (back ≡ [])) → ending ≡ transport_text transport ++ notrack_text is_notrack → (front ≡ transport_text transport) × (back ≡ drop 1 (notrack_text is_notrack))
notrack_parts transport true ending front back cut whole is = cut (transport_text transport) (codes "notrack") is (transport_lacks transport)
notrack_parts transport false ending front back cut whole is =
    let same : ending ≡ transport_text transport = is ∙ append-nil (transport_text transport) in
    let found = whole (rw same (transport_lacks transport)) in
    (found.0 ∙ same, found.1)

-- ---- the first letter of an action's first word

abbrev pub first_letter : Action → ℕ
first_letter (Vip service is_notrack) = 118
first_letter (Up backend address) = 117
first_letter (Down backend) = 100
first_letter (Gateway source source_mac destination_mac) = 103

pub letter_of : (action : Action) → get_or (action_text action) 0 0 ≡ first_letter action
unfolding action_text
letter_of (Vip service is_notrack) = refl
letter_of (Up backend address) = refl
letter_of (Down backend) = refl
letter_of (Gateway source source_mac destination_mac) = refl

pub letter_read : (text letters : List ℕ) (letter : ℕ) (action : Action) → letters ≡ text → letter ≡ get_or letters 0 0 → text ≡ action_text action → letter ≡ first_letter action
letter_read text letters letter action same read is = read ∙ ap (λ (xs : List ℕ). get_or xs 0 0) (same ∙ is) ∙ letter_of action

pub vip_case : (text rest : List ℕ) (result : Action) → ((more : List ℕ) → text ≡ codes "vip " ++ more → rest ≡ more)
    → ((service : Service) (is_notrack : Bool) → ActionFits (Vip service is_notrack) → rest ≡ vip_text service is_notrack → result ≡ Vip service is_notrack)
    → (action : Action) → ActionFits action → text ≡ action_text action → 118 ≡ first_letter action → result ≡ action
unfolding action_text
vip_case text rest result cut reads (Vip service is_notrack) fits is letter = reads service is_notrack fits (cut (vip_text service is_notrack) is)
vip_case text rest result cut reads (Up backend address) fits is letter = absurd (omega (arith, letter))
vip_case text rest result cut reads (Down backend) fits is letter = absurd (omega (arith, letter))
vip_case text rest result cut reads (Gateway source source_mac destination_mac) fits is letter = absurd (omega (arith, letter))

pub up_case : (text rest : List ℕ) (result : Action) → ((more : List ℕ) → text ≡ codes "up " ++ more → rest ≡ more)
    → ((backend : ℕ) (address : List ℕ) → backend < 2 ^ 32 → AreBytesOfLength 4 address → rest ≡ decimal backend ++ 32 ∷ address_text address → result ≡ Up backend (record { 0 = address }))
    → (action : Action) → ActionFits action → text ≡ action_text action → 117 ≡ first_letter action → result ≡ action
unfolding action_text ActionFits
up_case text rest result cut reads (Vip service is_notrack) fits is letter = absurd (omega (arith, letter))
up_case text rest result cut reads (Up backend address) fits is letter = reads backend address.0 fits.0 fits.1 (cut (decimal backend ++ 32 ∷ address_text address.0) is)
up_case text rest result cut reads (Down backend) fits is letter = absurd (omega (arith, letter))
up_case text rest result cut reads (Gateway source source_mac destination_mac) fits is letter = absurd (omega (arith, letter))

pub down_case : (text rest : List ℕ) (number : ℕ) → ((more : List ℕ) → text ≡ codes "down " ++ more → rest ≡ more)
    → ((backend : ℕ) → backend < 2 ^ 32 → rest ≡ decimal backend → number ≡ backend)
    → (action : Action) → ActionFits action → text ≡ action_text action → 100 ≡ first_letter action → Down number ≡ action
unfolding action_text ActionFits
down_case text rest number cut reads (Vip service is_notrack) fits is letter = absurd (omega (arith, letter))
down_case text rest number cut reads (Up backend address) fits is letter = absurd (omega (arith, letter))
down_case text rest number cut reads (Down backend) fits is letter = ap Down (reads backend fits (cut (decimal backend) is))
down_case text rest number cut reads (Gateway source source_mac destination_mac) fits is letter = absurd (omega (arith, letter))

pub gateway_case : (text rest : List ℕ) (result : Action) → ((more : List ℕ) → text ≡ codes "gateway " ++ more → rest ≡ more)
    → ((source source_mac destination_mac : List ℕ) → AreBytesOfLength 4 source → AreBytesOfLength 6 source_mac → AreBytesOfLength 6 destination_mac → rest ≡ gateway_text source source_mac destination_mac
    → result ≡ Gateway (record { 0 = source }) (record { 0 = source_mac }) (record { 0 = destination_mac }))
    → (letter : ℕ) → letter ≢ 118 → letter ≢ 117 → letter ≢ 100 → (action : Action) → ActionFits action → text ≡ action_text action → letter ≡ first_letter action → result ≡ action
unfolding action_text ActionFits
gateway_case text rest result cut reads letter v u d (Vip service is_notrack) fits is same = absurd (v same)
gateway_case text rest result cut reads letter v u d (Up backend address) fits is same = absurd (u same)
gateway_case text rest result cut reads letter v u d (Down backend) fits is same = absurd (d same)
gateway_case text rest result cut reads letter v u d (Gateway source source_mac destination_mac) fits is same =
    reads source.0 source_mac.0 destination_mac.0 fits.0 fits.1 fits.2 (cut (gateway_text source.0 source_mac.0 destination_mac.0) is)

-- ---- bytes that a type holds

pub four_fit : (a b c d : ℕ) → a < 256 → b < 256 → c < 256 → d < 256 → AreBytesOfLength 4 (a ∷ b ∷ c ∷ d ∷ [])
four_fit a b c d x y z w = record { long = refl; each = each } where
  each : (place : ℕ) → place < 4 → get_or (a ∷ b ∷ c ∷ d ∷ []) place 0 < 256
  each zero lt = x
  each (suc zero) lt = y
  each (suc (suc zero)) lt = z
  each (suc (suc (suc zero))) lt = w
  each (suc (suc (suc (suc place)))) lt = absurd (omega arith)

pub six_fit : (a b c d e f : ℕ) → a < 256 → b < 256 → c < 256 → d < 256 → e < 256 → f < 256 → AreBytesOfLength 6 (a ∷ b ∷ c ∷ d ∷ e ∷ f ∷ [])
six_fit a b c d e f x y z w u v = record { long = refl; each = each } where
  each : (place : ℕ) → place < 6 → get_or (a ∷ b ∷ c ∷ d ∷ e ∷ f ∷ []) place 0 < 256
  each zero lt = x
  each (suc zero) lt = y
  each (suc (suc zero)) lt = z
  each (suc (suc (suc zero))) lt = w
  each (suc (suc (suc (suc zero)))) lt = u
  each (suc (suc (suc (suc (suc zero))))) lt = v
  each (suc (suc (suc (suc (suc (suc place)))))) lt = absurd (omega arith)
