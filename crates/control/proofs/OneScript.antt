-- A text is that of one script at most.
use Rattle.std.proofs.Common.{◌≡◌, ℕ, ◌+◌, ◌<◌, ◌^◌, ◌/◌, ◌%◌, Bool, true, false, List, [], ◌∷◌, ◌++◌, drop, get_or, refl, sym, ap, ◌∙◌, arith}
use Rattle.std.specs.Fmt.{decimal}
use Rattle.std.specs.List.{AllByRecursion}
use Rattle.std.proofs.lemmas.Fmt.{decimal_injective}
use Rattle.std.proofs.lemmas.Bool.Decides.{nat_tests}
use Rattle.wire.specs.declared.flow.Transport.{Transport}
use Rattle.wire.specs.declared.flow.Transport.TheVariants.{Tcp, Udp}
use Rattle.conntrack.specs.declared.keys.Service.{Service}
use Rattle.control.specs.declared.command.Action.{Action}
use Rattle.control.specs.declared.command.Action.TheVariants.{Vip, Up, Down, Gateway}
use Rattle.control.specs.declared.command.Command.{Command}
use Rattle.text_lines.specs.Digits.{hex_digit}
use Rattle.text_lines.proofs.shared.LineLemmas.{no_empty_line, one_line, same_front}
use Rattle.control.specs.ScriptText.{AreBytesOfLength, ActionFits, CommandFits, IsScriptText, action_text, address_text, gateway_text, hex_pair}
use Rattle.control.specs.ScriptText.{mac_text, notrack_text, script_line, script_text, transport_text, vip_text}
use Rattle.control.proofs.Scripts.{line_lacks_feed}
use Rattle.control.proofs.Words.{address_lacks, decimal_lacks, first_letter, four_bytes, letter_of, mac_lacks, six_bytes}

-- ---- addresses

same_byte : (a b : List ℕ) (long place : ℕ) → place < long → AreBytesOfLength long a → AreBytesOfLength long b
    → decimal (get_or a place 0) ≡ decimal (get_or b place 0) → get_or a place 0 ≡ get_or b place 0
same_byte a b long place lt fits its same =
    let one : get_or a place 0 < 256 = fits.each place lt in
    let other : get_or b place 0 < 256 = its.each place lt in
    decimal_injective (get_or a place 0) (get_or b place 0) (omega (arith, one)) (omega (arith, other)) same

-- the decimal of a byte has no dot
no_dot : (bytes : List ℕ) (place : ℕ) → place < 4 → AreBytesOfLength 4 bytes → (rest others : List ℕ) (digits : List ℕ)
    → AreBytesOfLength 4 digits → decimal (get_or bytes place 0) ++ 46 ∷ rest ≡ decimal (get_or digits place 0) ++ 46 ∷ others
    → (decimal (get_or bytes place 0) ≡ decimal (get_or digits place 0)) × (rest ≡ others)
no_dot bytes place lt fits rest others digits its same =
    let one : get_or bytes place 0 < 256 = fits.each place lt in
    let other : get_or digits place 0 < 256 = its.each place lt in
    same_front 46 (decimal (get_or bytes place 0)) rest (decimal (get_or digits place 0)) others
    (decimal_lacks 46 (get_or bytes place 0) (omega arith) (omega (arith, one)))
    (decimal_lacks 46 (get_or digits place 0) (omega arith) (omega (arith, other))) same

four_alike : (a b : List ℕ) → AreBytesOfLength 4 a → AreBytesOfLength 4 b → get_or a 0 0 ≡ get_or b 0 0 → get_or a 1 0 ≡ get_or b 1 0
    → get_or a 2 0 ≡ get_or b 2 0 → get_or a 3 0 ≡ get_or b 3 0 → a ≡ b
four_alike a b fits its w x y z = four_bytes a fits.long ∙ rw (w, x, y, z) (sym (four_bytes b its.long))

same_address : (a b : List ℕ) → AreBytesOfLength 4 a → AreBytesOfLength 4 b → address_text a ≡ address_text b → a ≡ b
unfolding address_text
same_address a b fits its same =
    let first = no_dot a 0 (omega arith) fits (decimal (get_or a 1 0) ++ 46 ∷ (decimal (get_or a 2 0) ++ 46 ∷ decimal (get_or a 3 0)))
    (decimal (get_or b 1 0) ++ 46 ∷ (decimal (get_or b 2 0) ++ 46 ∷ decimal (get_or b 3 0))) b its same in
    let second = no_dot a 1 (omega arith) fits (decimal (get_or a 2 0) ++ 46 ∷ decimal (get_or a 3 0))
    (decimal (get_or b 2 0) ++ 46 ∷ decimal (get_or b 3 0)) b its first.1 in
    let third = no_dot a 2 (omega arith) fits (decimal (get_or a 3 0)) (decimal (get_or b 3 0)) b its second.1 in
    four_alike a b fits its (same_byte a b 4 0 (omega arith) fits its first.0) (same_byte a b 4 1 (omega arith) fits its second.0)
    (same_byte a b 4 2 (omega arith) fits its third.0) (same_byte a b 4 3 (omega arith) fits its third.1)

same_digit : (x y : ℕ) → x < 16 → y < 16 → hex_digit x ≡ hex_digit y → x ≡ y
same_digit x y below its same = grind (arith, nat_tests)

same_pair : (x y : ℕ) → x < 256 → y < 256 → hex_digit (x / 16) ≡ hex_digit (y / 16) → hex_digit (x % 16) ≡ hex_digit (y % 16) → x ≡ y
same_pair x y below its high low =
    let upper : x / 16 ≡ y / 16 = same_digit (x / 16) (y / 16) (omega (arith, below)) (omega (arith, its)) high in
    let lower : x % 16 ≡ y % 16 = same_digit (x % 16) (y % 16) (omega arith) (omega arith) low in
    omega (arith, upper, lower)

six_alike : (a b : List ℕ) → AreBytesOfLength 6 a → AreBytesOfLength 6 b → get_or a 0 0 ≡ get_or b 0 0 → get_or a 1 0 ≡ get_or b 1 0
    → get_or a 2 0 ≡ get_or b 2 0 → get_or a 3 0 ≡ get_or b 3 0 → get_or a 4 0 ≡ get_or b 4 0 → get_or a 5 0 ≡ get_or b 5 0 → a ≡ b
six_alike a b fits its u v w x y z = six_bytes a fits.long ∙ rw (u, v, w, x, y, z) (sym (six_bytes b its.long))

same_mac : (a b : List ℕ) → AreBytesOfLength 6 a → AreBytesOfLength 6 b → mac_text a ≡ mac_text b → a ≡ b
unfolding mac_text hex_pair
same_mac a b fits its same =
    let at : (place : ℕ) → get_or (mac_text a) place 0 ≡ get_or (mac_text b) place 0 = λ place. ap (λ (xs : List ℕ). get_or xs place 0) same in
    six_alike a b fits its
    (same_pair (get_or a 0 0) (get_or b 0 0) (fits.each 0 (omega arith)) (its.each 0 (omega arith)) (at 0) (at 1))
    (same_pair (get_or a 1 0) (get_or b 1 0) (fits.each 1 (omega arith)) (its.each 1 (omega arith)) (at 3) (at 4))
    (same_pair (get_or a 2 0) (get_or b 2 0) (fits.each 2 (omega arith)) (its.each 2 (omega arith)) (at 6) (at 7))
    (same_pair (get_or a 3 0) (get_or b 3 0) (fits.each 3 (omega arith)) (its.each 3 (omega arith)) (at 9) (at 10))
    (same_pair (get_or a 4 0) (get_or b 4 0) (fits.each 4 (omega arith)) (its.each 4 (omega arith)) (at 12) (at 13))
    (same_pair (get_or a 5 0) (get_or b 5 0) (fits.each 5 (omega arith)) (its.each 5 (omega arith)) (at 15) (at 16))

-- ---- what a service's line ends with

letter_at : (place : ℕ) (xs ys : List ℕ) → xs ≡ ys → get_or xs place 0 ≡ get_or ys place 0
letter_at place xs ys same = ap (λ (zs : List ℕ). get_or zs place 0) same

same_ending : (one other : Transport) (is_notrack is_its : Bool) → transport_text one ++ notrack_text is_notrack ≡ transport_text other ++ notrack_text is_its
    → (one ≡ other) × (is_notrack ≡ is_its)
same_ending Tcp Tcp true true same = (refl, refl)
same_ending Tcp Tcp false false same = (refl, refl)
same_ending Udp Udp true true same = (refl, refl)
same_ending Udp Udp false false same = (refl, refl)
same_ending Tcp Tcp true false same = (let differ = letter_at 3 _ _ same in absurd (omega (arith, differ)))
same_ending Tcp Tcp false true same = (let differ = letter_at 3 _ _ same in absurd (omega (arith, differ)))
same_ending Udp Udp true false same = (let differ = letter_at 3 _ _ same in absurd (omega (arith, differ)))
same_ending Udp Udp false true same = (let differ = letter_at 3 _ _ same in absurd (omega (arith, differ)))
same_ending Tcp Udp true true same = (let differ = letter_at 0 _ _ same in absurd (omega (arith, differ)))
same_ending Tcp Udp true false same = (let differ = letter_at 0 _ _ same in absurd (omega (arith, differ)))
same_ending Tcp Udp false true same = (let differ = letter_at 0 _ _ same in absurd (omega (arith, differ)))
same_ending Tcp Udp false false same = (let differ = letter_at 0 _ _ same in absurd (omega (arith, differ)))
same_ending Udp Tcp true true same = (let differ = letter_at 0 _ _ same in absurd (omega (arith, differ)))
same_ending Udp Tcp true false same = (let differ = letter_at 0 _ _ same in absurd (omega (arith, differ)))
same_ending Udp Tcp false true same = (let differ = letter_at 0 _ _ same in absurd (omega (arith, differ)))
same_ending Udp Tcp false false same = (let differ = letter_at 0 _ _ same in absurd (omega (arith, differ)))

-- ---- actions

vip_of : List ℕ → ℕ → Transport → Bool → Action
vip_of address port transport is_notrack = Vip (record { address = record { 0 = address }; port = port; transport = transport }) is_notrack

same_vip : (s t : Service) (is_notrack is_its : Bool) → AreBytesOfLength 4 s.address.0 → AreBytesOfLength 4 t.address.0 → s.port < 2 ^ 16
    → t.port < 2 ^ 16 → vip_text s is_notrack ≡ vip_text t is_its → Vip s is_notrack ≡ Vip t is_its
unfolding vip_text vip_of
same_vip s t is_notrack is_its fits its small low same =
    let first = same_front 32 (address_text s.address.0) (decimal s.port ++ 32 ∷ (transport_text s.transport ++ notrack_text is_notrack))
    (address_text t.address.0) (decimal t.port ++ 32 ∷ (transport_text t.transport ++ notrack_text is_its))
    (address_lacks s.address.0 fits) (address_lacks t.address.0 its) same in
    let second = same_front 32 (decimal s.port) (transport_text s.transport ++ notrack_text is_notrack) (decimal t.port)
    (transport_text t.transport ++ notrack_text is_its) (decimal_lacks 32 s.port (omega arith) (omega (arith, small)))
    (decimal_lacks 32 t.port (omega arith) (omega (arith, low))) first.1 in
    let ending = same_ending s.transport t.transport is_notrack is_its second.1 in
    ap (λ (x : List ℕ). vip_of x s.port s.transport is_notrack) (same_address s.address.0 t.address.0 fits its first.0)
    ∙ ap (λ (n : ℕ). vip_of t.address.0 n s.transport is_notrack)
    (decimal_injective s.port t.port (omega (arith, small)) (omega (arith, low)) second.0)
    ∙ ap (λ (x : Transport). vip_of t.address.0 t.port x is_notrack) ending.0
    ∙ ap (λ (x : Bool). vip_of t.address.0 t.port t.transport x) ending.1

up_of : ℕ → List ℕ → Action
up_of backend address = Up backend (record { 0 = address })

same_up : (m n : ℕ) (a b : List ℕ) → m < 2 ^ 32 → n < 2 ^ 32 → AreBytesOfLength 4 a → AreBytesOfLength 4 b
    → decimal m ++ 32 ∷ address_text a ≡ decimal n ++ 32 ∷ address_text b → up_of m a ≡ up_of n b
same_up m n a b small low fits its same =
    let parts = same_front 32 (decimal m) (address_text a) (decimal n) (address_text b) (decimal_lacks 32 m (omega arith) (omega (arith, small)))
    (decimal_lacks 32 n (omega arith) (omega (arith, low))) same in
    ap (λ (x : ℕ). up_of x a) (decimal_injective m n (omega (arith, small)) (omega (arith, low)) parts.0)
    ∙ ap (λ (x : List ℕ). up_of n x) (same_address a b fits its parts.1)

gateway_of : List ℕ → List ℕ → List ℕ → Action
gateway_of source source_mac destination_mac = Gateway (record { 0 = source }) (record { 0 = source_mac }) (record { 0 = destination_mac })

same_gateway : (a b c d e f : List ℕ) → AreBytesOfLength 4 a → AreBytesOfLength 6 b → AreBytesOfLength 6 c → AreBytesOfLength 4 d
    → AreBytesOfLength 6 e → AreBytesOfLength 6 f → gateway_text a b c ≡ gateway_text d e f → gateway_of a b c ≡ gateway_of d e f
unfolding gateway_text
same_gateway a b c d e f one two three four five six same =
    let first = same_front 32 (address_text a) (mac_text b ++ 32 ∷ mac_text c) (address_text d) (mac_text e ++ 32 ∷ mac_text f)
    (address_lacks a one) (address_lacks d four) same in
    let second = same_front 32 (mac_text b) (mac_text c) (mac_text e) (mac_text f) (mac_lacks b two) (mac_lacks e five) first.1 in
    ap (λ (x : List ℕ). gateway_of x b c) (same_address a d one four first.0)
    ∙ ap (λ (x : List ℕ). gateway_of d x c) (same_mac b e two five second.0)
    ∙ ap (λ (x : List ℕ). gateway_of d e x) (same_mac c f three six second.1)

same_letter : (a b : Action) → action_text a ≡ action_text b → first_letter a ≡ first_letter b
same_letter a b same = sym (letter_of a) ∙ letter_at 0 (action_text a) (action_text b) same ∙ letter_of b

same_action : (a b : Action) → ActionFits a → ActionFits b → action_text a ≡ action_text b → a ≡ b
unfolding action_text ActionFits up_of gateway_of
same_action (Vip s n) (Vip t m) fits its same = same_vip s t n m fits.0 its.0 fits.1 its.1 (ap (λ (xs : List ℕ). drop 4 xs) same)
same_action (Up m a) (Up n b) fits its same = same_up m n a.0 b.0 fits.0 its.0 fits.1 its.1 (ap (λ (xs : List ℕ). drop 3 xs) same)
same_action (Down m) (Down n) fits its same =
    (let small = fits in let low = its in
    ap Down (decimal_injective m n (omega (arith, small)) (omega (arith, low)) (ap (λ (xs : List ℕ). drop 5 xs) same)))
same_action (Gateway a b c) (Gateway d e f) fits its same =
    same_gateway a.0 b.0 c.0 d.0 e.0 f.0 fits.0 fits.1 fits.2 its.0 its.1 its.2 (ap (λ (xs : List ℕ). drop 8 xs) same)
same_action (Vip s n) (Up m a) fits its same = (let letter = same_letter (Vip s n) (Up m a) same in absurd (omega (arith, letter)))
same_action (Vip s n) (Down m) fits its same = (let letter = same_letter (Vip s n) (Down m) same in absurd (omega (arith, letter)))
same_action (Vip s n) (Gateway a b c) fits its same = (let letter = same_letter (Vip s n) (Gateway a b c) same in absurd (omega (arith, letter)))
same_action (Up m a) (Vip s n) fits its same = (let letter = same_letter (Up m a) (Vip s n) same in absurd (omega (arith, letter)))
same_action (Up m a) (Down n) fits its same = (let letter = same_letter (Up m a) (Down n) same in absurd (omega (arith, letter)))
same_action (Up m x) (Gateway a b c) fits its same = (let letter = same_letter (Up m x) (Gateway a b c) same in absurd (omega (arith, letter)))
same_action (Down m) (Vip s n) fits its same = (let letter = same_letter (Down m) (Vip s n) same in absurd (omega (arith, letter)))
same_action (Down m) (Up n a) fits its same = (let letter = same_letter (Down m) (Up n a) same in absurd (omega (arith, letter)))
same_action (Down m) (Gateway a b c) fits its same = (let letter = same_letter (Down m) (Gateway a b c) same in absurd (omega (arith, letter)))
same_action (Gateway a b c) (Vip s n) fits its same = (let letter = same_letter (Gateway a b c) (Vip s n) same in absurd (omega (arith, letter)))
same_action (Gateway a b c) (Up m x) fits its same = (let letter = same_letter (Gateway a b c) (Up m x) same in absurd (omega (arith, letter)))
same_action (Gateway a b c) (Down m) fits its same = (let letter = same_letter (Gateway a b c) (Down m) same in absurd (omega (arith, letter)))

-- ---- scripts

command_of : ℕ → Action → Command
command_of frame action = record { frame = frame; action = action }

same_command : (c d : Command) → CommandFits c → CommandFits d → script_line c ≡ script_line d → c ≡ d
unfolding script_line command_of
same_command c d fits its same =
    let small = fits.frame in
    let low = its.frame in
    let parts = same_front 32 (decimal c.frame) (action_text c.action) (decimal d.frame) (action_text d.action)
    (decimal_lacks 32 c.frame (omega arith) (omega (arith, small))) (decimal_lacks 32 d.frame (omega arith) (omega (arith, low))) same in
    ap (λ (n : ℕ). command_of n c.action) (decimal_injective c.frame d.frame (omega (arith, small)) (omega (arith, low)) parts.0)
    ∙ ap (λ (a : Action). command_of d.frame a) (same_action c.action d.action fits.action its.action parts.1)

same_commands : (one other : List Command) → AllByRecursion CommandFits one → AllByRecursion CommandFits other
    → script_text one ≡ script_text other → one ≡ other
same_commands [] [] fits its same = refl
same_commands [] (d ∷ ds) fits its same =
    absurd (no_empty_line (script_line d) (script_text ds) (sym (same ∙ one_line (script_line d) (script_text ds))))
same_commands (c ∷ cs) [] fits its same =
    absurd (no_empty_line (script_line c) (script_text cs) (sym (one_line (script_line c) (script_text cs)) ∙ same))
same_commands (c ∷ cs) (d ∷ ds) fits its same =
    let parts = same_front 10 (script_line c) (script_text cs) (script_line d) (script_text ds) (line_lacks_feed c fits.0) (line_lacks_feed d its.0)
    (sym (one_line (script_line c) (script_text cs)) ∙ same ∙ one_line (script_line d) (script_text ds)) in
    rw (same_command c d fits.0 its.0 parts.0, same_commands cs ds fits.1 its.1 parts.1) refl

pub one_script : (text : List ℕ) (one other : List Command) → IsScriptText text one → IsScriptText text other → one ≡ other
one_script text one other is its = same_commands one other is.fit its.fit (sym is.spelled ∙ its.spelled)
