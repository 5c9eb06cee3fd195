-- The commands of a script up to a place, and what follows.
use Rattle.std.proofs.Common.{Err, None, Ok, Option, Result, Some, suc, ◌≡◌, ◌∙◌, ◌++◌, ◌+◌, ◌<◌, ℕ, List, [], ◌∷◌, ap, arith, drop, length, refl, subst, sym}
use Rattle.std.proofs.lemmas.List.{append-nil, append_assoc}
use Rattle.std.proofs.lemmas.List.Elements.{All-contains, All-from_recursion}
use Rattle.conntrack.specs.SteeringMaps.{steering_maps, AreSteeringMaps}
use Rattle.conntrack.proofs.shared.MapLemmas.{are_steering}
use Rattle.std.proofs.Math.Seq.{drop-length}
use Rattle.maglev.specs.RingSize.{IsRingSize, ring_sizes}
use Rattle.control.specs.declared.command.Command.{Command}
use Rattle.control.specs.Controlling.{ControllerState, opened_controller}
use Rattle.traffic.specs.WrittenMaps.{MapsState}
use Rattle.maglev.specs.Population.{share_of}
use Rattle.traffic.specs.declared.tables.Refused.{Refused}
use Rattle.traffic.specs.TableText.{backend_line, lines_below, backend_record, AreShown, AreTables, IsShown, no_maps}

pub some_slots : (size : ℕ) → IsRingSize size → 0 < size
some_slots size served =
    All-contains (λ n. 0 < n) ring_sizes size (All-from_recursion (λ n. 0 < n) ring_sizes (omega arith, (omega arith, (omega arith, (omega arith, tt))))) served

-- whatever is shown from this place on, behind this text it is what is shown of the whole script
abbrev pub IsShownUntil : ℕ → ℕ → List Command → ControllerState → MapsState → List ℕ → List Refused → Type 0
IsShownUntil size place commands state maps text noted =
    (rest : List ℕ) (others : List Refused) → AreShown place state maps (drop place commands) rest others
    → AreTables size commands (text ++ rest) (noted ++ others)

pub none_shown : (size : ℕ) (commands : List Command) (state : ControllerState) (maps : MapsState) (text : List ℕ) (noted : List Refused)
    → state ≡ opened_controller size → maps ≡ no_maps size → text ≡ [] → noted ≡ []
    → IsShownUntil size 0 commands state maps text noted
none_shown size commands state maps text noted first none empty whole = λ rest others shown.
    subst (λ (t : List ℕ). AreTables size commands (t ++ rest) (noted ++ others)) (sym empty)
    (subst (λ (b : List Refused). AreTables size commands rest (b ++ others)) (sym whole)
    (subst (λ (s : ControllerState). AreShown 0 s (no_maps size) commands rest others) first
    (subst (λ (s : MapsState). AreShown 0 state s commands rest others) none shown)))

pub one_more : (size place place' : ℕ) (commands : List Command) (command : Command) (state state' : ControllerState) (maps maps' : MapsState)
    (text text' first : List ℕ) (noted noted' one : List Refused) → drop place commands ≡ command ∷ drop (place + 1) commands
    → IsShownUntil size place commands state maps text noted → place' ≡ place → IsShown place' state maps command state' maps' first one
    → text' ≡ text ++ first → noted' ≡ noted ++ one → IsShownUntil size (place + 1) commands state' maps' text' noted'
one_more size place place' commands command state state' maps maps' text text' first noted noted' one next until same shown longer more_noted = λ rest others more.
    let here = subst (λ (p : ℕ). IsShown p state maps command state' maps' first one) same shown in
    let whole = until (first ++ rest) (one ++ others)
    (subst (λ (c : List Command). AreShown place state maps c (first ++ rest) (one ++ others)) (sym next)
    (state', maps', first, rest, one, others, here, more, refl, refl)) in
    subst (λ (t : List ℕ). AreTables size commands t (noted' ++ others)) (sym (ap (λ (t : List ℕ). t ++ rest) longer ∙ append_assoc text first rest))
    (subst (λ (b : List Refused). AreTables size commands (text ++ (first ++ rest)) b)
    (sym (ap (λ (b : List Refused). b ++ others) more_noted ∙ append_assoc noted one others)) whole)

pub all_shown : (size place : ℕ) (commands : List Command) (state : ControllerState) (maps : MapsState) (text : List ℕ) (noted : List Refused)
    → place ≡ length commands → IsShownUntil size place commands state maps text noted → AreTables size commands text noted
all_shown size place commands state maps text noted at until =
    subst (λ (t : List ℕ). AreTables size commands t noted) (append-nil text)
    (subst (λ (b : List Refused). AreTables size commands (text ++ []) b) (append-nil noted)
    (until [] []
    (subst (λ (c : List Command). AreShown place state maps c [] []) (sym (ap (λ (n : ℕ). drop n commands) at ∙ drop-length commands)) (refl, refl))))

ok_is_no_err : {A E : Type 0} (x : A) (fault : E) → ◌≡◌ {A = Result A E} (Ok x) (Err fault) → ⊥
ok_is_no_err x fault e = absurd cc

-- what was carried out was not refused
pub not_refused : {A E : Type 0} (refusal : Option E) (x : A) → ((fault : E) → refusal ≡ Some fault → ◌≡◌ {A = Result A E} (Ok x) (Err fault)) → refusal ≡ None
not_refused None x first = refl
not_refused (Some fault) x first = absurd (ok_is_no_err x fault (first fault refl))

-- a command that is not refused leaves what was noted
pub none_noted : {now old : List Refused} → now ≡ old → now ≡ old ++ []
none_noted {old = old} same = same ∙ sym (append-nil old)

-- the maps for a table of the controller's size are its own
pub own_serves : (size maps' : ℕ) → maps' ≡ size → AreSteeringMaps size (steering_maps maps')
own_serves size maps' same = are_steering size (steering_maps maps') (ap steering_maps same)

same_line : (size size' number share share' : ℕ) (backend backend' : List ℕ) → size ≡ size' → share ≡ share' → backend ≡ backend'
    → backend_line size number share backend ≡ backend_line size' number share' backend'
same_line size size' number share share' backend backend' a b c =
    ap (λ (n : ℕ). backend_line n number share backend) a
    ∙ (ap (λ (n : ℕ). backend_line size' number n backend) b ∙ ap (λ (r : List ℕ). backend_line size' number share' r) c)

one_below : (maps : MapsState) (number : ℕ) → lines_below maps (suc number) ≡
    lines_below maps number ++ backend_line maps.size number (share_of (number + 1) maps.words) (backend_record maps.backends number)
unfolding lines_below
one_below maps number = refl

-- the lines below a number, and that of the number
pub line_more : (maps : MapsState) (size number share : ℕ) (backend first before after : List ℕ) → before ≡ first ++ lines_below maps number
    → after ≡ before ++ backend_line size number share backend → size ≡ maps.size → share ≡ share_of (number + 1) maps.words
    → backend ≡ backend_record maps.backends number → after ≡ first ++ lines_below maps (number + 1)
line_more maps size number share backend first before after known more size_is share_is backend_is =
    let on : number + 1 ≡ suc number = omega arith in
    more
    ∙ (ap (λ (t : List ℕ). t ++ backend_line size number share backend) known
    ∙ (append_assoc first (lines_below maps number) (backend_line size number share backend)
    ∙ ap (λ (t : List ℕ). first ++ t) (ap (λ (t : List ℕ). lines_below maps number ++ t) (same_line size maps.size number share _ backend _ size_is share_is backend_is)
    ∙ (sym (one_below maps number) ∙ ap (lines_below maps) (sym on)))))
