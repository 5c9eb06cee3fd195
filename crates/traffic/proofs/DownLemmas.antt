-- What is printed of a `down`, at its place in a script: the words of the lookup table are at each command those of the owners by the
-- population of the backends that are up.
use Rattle.std.proofs.Common.{◌≡◌, ◌≢◌, ⊎_elim, ℕ, zero, suc, ◌+◌, ◌^◌, ◌<◌, ◌≤◌, ◌==◌, ◌&&◌, ◌||◌, not, Bool, true, false, List, [], ◌∷◌, ◌++◌, length, take, replicate, refl, sym, ◌∙◌, ap, subst, arith, append_assoc}
use Rattle.std.specs.Prelude.{Option, Some, None, if◌then◌else◌, nat_lt, slice_get}
use Rattle.std.specs.List.{AllByRecursion, filter, find, list_any}
use Rattle.std.proofs.lemmas.Bool.{ne_eqb, eq-eqb}
use Rattle.std.proofs.lemmas.Bool.Decides.{nat_tests}
use Rattle.std.proofs.lemmas.List.{get_or-replicate, length-replicate}
use Rattle.std.proofs.lemmas.List.Elements.{All-contains, All-from_recursion}
use Rattle.std.proofs.lemmas.List.Folds.{list_any-append}
use Rattle.std.proofs.lemmas.Option.{unwrap_or-slice_get}
use Rattle.wire.specs.declared.ethernet.Ipv4Address.{Ipv4Address}
use Rattle.maglev.specs.declared.backend.Backend.{Backend as Server}
use Rattle.maglev.specs.RingSize.{IsRingSize, ring_sizes}
use Rattle.conntrack.specs.Layouts.{owner_word}
use Rattle.control.specs.declared.command.Action.{Action}
use Rattle.control.specs.declared.command.Action.TheVariants as actions
use Rattle.control.specs.declared.command.Command.{Command}
use Rattle.control.specs.declared.fault.ControlFault.{ControlFault}
use Rattle.control.specs.declared.fault.ControlFault.TheVariants.{BadSize, BadLine, UnknownBackend, BackendTwice, Refused, JournalFull, Memory}
use Rattle.control.specs.declared.update.Update.{Update as Change}
use Rattle.control.specs.Controlling.{ControllerState, IsTable, IsCarriedOut, IsLeft, IsUnchanged, action_refusal, refusal_of, down_refusal, up_refusal, first_updates, has_address, has_number, opened_controller, up_after, without_backend}
use Rattle.control.specs.MapUpdates.{map_update}
use Rattle.control.specs.RingChanges.{changes_below, slot_updates}
use Rattle.traffic.specs.declared.tables.Refused.{Refused as Noted}
use Rattle.traffic.specs.Shares.{share_at, least_moves, moved_below}
use Rattle.traffic.specs.WrittenMaps.{MapsState, IsUpdateAnswered, IsNeverRefused}
use Rattle.traffic.specs.TableText.{AreShown, IsShown, carried_out, refused, done_line, lines_below, no_maps}
use Rattle.traffic.specs.Leaving.{DownsAreCounted, IsDownCounted, IsDownShown, is_noted, up_behind}
use Rattle.traffic.proofs.OwnerLemmas.{moved_are, owner_has}
use Rattle.traffic.proofs.OwnerWords.{as_many_words, firsts_aside, owned_then, with_update, words_by, words_then}

-- ---- what is refused leaves the table

record IsLeftAlone (state : ControllerState) (maps : MapsState) (state' : ControllerState) (maps' : MapsState) : Type 0 where
  state_is : state' ≡ state
  size_is : maps'.size ≡ maps.size
  words_are : maps'.words ≡ maps.words

unchanged : (state : ControllerState) (maps : MapsState) (state' : ControllerState) (maps' : MapsState) → IsUnchanged state maps state' maps' →
    IsLeftAlone state maps state' maps'
unchanged state maps state' maps' is = record {
  state_is = is.state_is;
  size_is = ap (λ (m : MapsState). m.size) is.port_is;
  words_are = ap (λ (m : MapsState). m.words) is.port_is;
}

-- the only update of a command is in no slot
only_aside : (words : List ℕ) (up : List Server) (action : Action) (update : Change) → first_updates up action ≡ update ∷ [] →
    with_update words (map_update update) ≡ words
only_aside words up action update only = ap (words_by words) (sym only) ∙ firsts_aside words up action

left_alone : (state : ControllerState) (maps : MapsState) (action : Action) (state' : ControllerState) (maps' : MapsState) (fault : ControlFault) →
    IsLeft IsUpdateAnswered IsNeverRefused state maps action state' maps' fault → IsLeftAlone state maps state' maps'
left_alone state maps action state' maps' UnknownBackend left = unchanged state maps state' maps' left.0
left_alone state maps action state' maps' BackendTwice left = unchanged state maps state' maps' left.0
left_alone state maps action state' maps' (Refused answer) left = record {
  state_is = left.state_is;
  size_is = ap (λ (m : MapsState). m.size) left.answered.state_is;
  words_are = ap (λ (m : MapsState). m.words) left.answered.state_is ∙ only_aside maps.words state.up action left.update left.only;
}
left_alone state maps action state' maps' JournalFull left =
    ⊎_elim (λ same. unchanged state maps state' maps' same.0) (λ stopped. absurd stopped.cut_short.is_refused) left
left_alone state maps action state' maps' Memory left = unchanged state maps state' maps' left.0
left_alone state maps action state' maps' BadSize left = absurd left
left_alone state maps action state' maps' (BadLine line) left = absurd left

-- ---- what a command that is carried out was not refused for

by_action : (full : Bool) (found : Option ControlFault) → (if full then Some JournalFull else found) ≡ None → found ≡ None
by_action true found is = absurd cc
by_action false found is = is

found_down : (found : Option Server) → down_refusal found ≡ None → (server : Server) × (found ≡ Some server)
found_down (Some server) none = (server, refl)
found_down None none = absurd cc

filtered : (P : Server → Type 0) (test : Server → Bool) (up : List Server) → AllByRecursion P up → AllByRecursion P (filter test up)
filtered P test [] all = tt
filtered P test (server ∷ up) all = by (filtered P test up all.1) (test server)
  where
    by : AllByRecursion P (filter test up) → (t : Bool) → AllByRecursion P (if t then server ∷ filter test up else filter test up)
    by rest true = (all.0, rest)
    by rest false = rest

all_joined : (P : Server → Type 0) (one other : List Server) → AllByRecursion P one → AllByRecursion P other → AllByRecursion P (one ++ other)
all_joined P [] other first second = second
all_joined P (server ∷ one) other first second = (first.0, all_joined P one other first.1 second)

small_number : (size : ℕ) (up : List Server) (number : ℕ) (address : Ipv4Address) → up_refusal size up number address ≡ None → number < 256
small_number size up number address none = by (nat_lt number 256) refl none
  where
    by : (test : Bool) → nat_lt number 256 ≡ test →
        (if test && nat_lt number size then (if list_any (has_number number) up || list_any (has_address address) up then Some BackendTwice else None) else Some UnknownBackend) ≡ None →
        number < 256
    by true is same = grind (arith, nat_tests)
    by false is same = absurd cc

-- the numbers of the backends that are up are below 256
abbrev HaveSmallNumbers : List Server → Type 0
HaveSmallNumbers up = AllByRecursion (λ (server : Server). server.number < 256) up

still_small : (size : ℕ) (up : List Server) (action : Action) → HaveSmallNumbers up → action_refusal size up action ≡ None → HaveSmallNumbers (up_after up action)
still_small size up (actions.Vip service is_notrack) all none = all
still_small size up (actions.Up number address) all none =
    let Small : Server → Type 0 = λ server. server.number < 256 in
    all_joined Small (filter (λ (other : Server). nat_lt other.number number) up)
    (record { number = number; address = address } ∷ filter (λ (other : Server). nat_lt number other.number) up)
    (filtered Small (λ (other : Server). nat_lt other.number number) up all)
    (small_number size up number address none, filtered Small (λ (other : Server). nat_lt number other.number) up all)
still_small size up (actions.Down number) all none =
    filtered (λ (server : Server). server.number < 256) (λ (server : Server). not (has_number number server)) up all
still_small size up (actions.Gateway source source_mac destination_mac) all none = all

few_slots : (size : ℕ) → IsRingSize size → size < 65538
few_slots size served =
    All-contains (λ n. n < 65538) ring_sizes size (All-from_recursion (λ n. n < 65538) ring_sizes (omega arith, (omega arith, (omega arith, (omega arith, tt))))) served

-- ---- the table at each command

record IsHeld (size : ℕ) (state : ControllerState) (maps : MapsState) : Type 0 where
  state_size : state.size ≡ size
  maps_size : maps.size ≡ size
  small : HaveSmallNumbers state.up
  table : IsTable size state.up state.owners
  many : length maps.words ≡ size
  owned : (slot : ℕ) → slot < size → share_at maps.words slot ≡ owner_word (slice_get state.owners slot)

held_first : (size : ℕ) → IsHeld size (opened_controller size) (no_maps size)
held_first size = record {
  state_size = refl;
  maps_size = refl;
  small = tt;
  table = refl;
  many = length-replicate size 0;
  owned = λ slot within. unwrap_or-slice_get (replicate size 0) slot 0 ∙ get_or-replicate size slot 0 0 within;
}

small_word : (size : ℕ) (up : List Server) (owners : List ℕ) → HaveSmallNumbers up → IsTable size up owners → (slot : ℕ) → slot < size →
    (owner : Option ℕ) → slice_get owners slot ≡ owner → owner_word owner < 2 ^ 32
small_word size up owners small table slot within None is = omega arith
small_word size up owners small table slot within (Some number) is =
    let few = owner_has (λ n. n < 256) size up owners table small slot within number is in omega (arith, few)

module _ (size : ℕ) (served : IsRingSize size) where
  held_done : (state : ControllerState) (maps : MapsState) (action : Action) (state' : ControllerState) (maps' : MapsState) → refusal_of state action ≡ None →
      IsCarriedOut IsUpdateAnswered state maps (first_updates state.up action) (up_after state.up action) state' maps' → IsHeld size state maps → IsHeld size state' maps'
  held_done state maps action state' maps' none did held =
      let none_here : action_refusal size state.up action ≡ None =
      subst (λ n. action_refusal n state.up action ≡ None) held.state_size (by_action state.is_full (action_refusal state.size state.up action) none) in
      let up : List Server = up_after state.up action in
      let small : HaveSmallNumbers up = still_small size state.up action held.small none_here in
      let table : IsTable size up did.owners = subst (λ n. IsTable n up did.owners) held.state_size did.table in
      let changed = words_then maps maps' state.up action (changes_below state.owners did.owners state.size) did.are_made in
      let words : maps'.words ≡ words_by maps.words (slot_updates (changes_below state.owners did.owners size)) =
      changed.1 ∙ ap (λ n. words_by maps.words (slot_updates (changes_below state.owners did.owners n))) held.state_size in
      let few = λ (slot : ℕ) (within : slot < size). small_word size up did.owners small table slot within (slice_get did.owners slot) refl in
      record {
        state_size = ap (λ (s : ControllerState). s.size) did.state_is ∙ held.state_size;
        maps_size = changed.0 ∙ held.maps_size;
        small = subst (λ (s : ControllerState). HaveSmallNumbers s.up) (sym did.state_is) small;
        table = subst (λ (s : ControllerState). IsTable size s.up s.owners) (sym did.state_is) table;
        many = ap (λ (l : List ℕ). length l) words ∙ as_many_words size maps.words state.owners did.owners (few_slots size served) held.many few held.owned;
        owned = λ slot within.
            ap (λ (l : List ℕ). share_at l slot) words
            ∙ owned_then size maps.words state.owners did.owners (few_slots size served) held.many few held.owned slot within
            ∙ ap (λ (s : ControllerState). owner_word (slice_get s.owners slot)) (sym did.state_is);
      }

  held_left : (state : ControllerState) (maps : MapsState) (state' : ControllerState) (maps' : MapsState) → IsLeftAlone state maps state' maps' →
      IsHeld size state maps → IsHeld size state' maps'
  held_left state maps state' maps' left held = record {
    state_size = ap (λ (s : ControllerState). s.size) left.state_is ∙ held.state_size;
    maps_size = left.size_is ∙ held.maps_size;
    small = subst (λ (s : ControllerState). HaveSmallNumbers s.up) (sym left.state_is) held.small;
    table = subst (λ (s : ControllerState). IsTable size s.up s.owners) (sym left.state_is) held.table;
    many = ap (λ (l : List ℕ). length l) left.words_are ∙ held.many;
    owned = λ slot within.
        ap (λ (l : List ℕ). share_at l slot) left.words_are ∙ held.owned slot within
        ∙ ap (λ (s : ControllerState). owner_word (slice_get s.owners slot)) (sym left.state_is);
  }

  held_then : (place : ℕ) (state : ControllerState) (maps : MapsState) (command : Command) (state' : ControllerState) (maps' : MapsState) (printed : List ℕ)
      (noted : List Noted) → IsShown place state maps command state' maps' printed noted → IsHeld size state maps → IsHeld size state' maps'
  held_then place state maps command state' maps' printed noted (carried_out none did text free) held = held_done state maps command.action state' maps' none did held
  held_then place state maps command state' maps' printed noted (refused fault left text why) held =
      held_left state maps state' maps' (left_alone state maps command.action state' maps' fault left) held

-- ---- which commands are noted

noted_both : (one others : List Noted) (place : ℕ) → is_noted (one ++ others) place ≡ (is_noted one place || is_noted others place)
noted_both one others place = list_any-append (λ (noted : Noted). noted.place == place) one others

or_false : (test : Bool) → (test || false) ≡ test
or_false true = refl
or_false false = refl

-- one command is noted by its own place alone
own_place : (place : ℕ) (state : ControllerState) (maps : MapsState) (command : Command) (state' : ControllerState) (maps' : MapsState) (printed : List ℕ)
    (noted : List Noted) → IsShown place state maps command state' maps' printed noted → (other : ℕ) → other ≢ place → is_noted noted other ≡ false
own_place place state maps command state' maps' printed noted (carried_out none did text free) other apart = ap (λ (l : List Noted). is_noted l other) free
own_place place state maps command state' maps' printed noted (refused fault left text why) other apart =
    ap (λ (l : List Noted). is_noted l other) why
    ∙ ap (λ (t : Bool). t || false) (ne_eqb place other (λ same. apart (sym same)))

later_places : (place : ℕ) (state : ControllerState) (maps : MapsState) (script : List Command) (printed : List ℕ) (noted : List Noted) →
    AreShown place state maps script printed noted → (other : ℕ) → other < place → is_noted noted other ≡ false
later_places place state maps [] printed noted shown other before = ap (λ (l : List Noted). is_noted l other) shown.1
later_places place state maps (command ∷ later) printed noted (state', maps', first, rest, one, others, here, more, text, why) other before =
    ap (λ (l : List Noted). is_noted l other) why
    ∙ noted_both one others other
    ∙ ap (λ (t : Bool). t || is_noted others other) (own_place place state maps command state' maps' first one here other (λ same. omega (arith, before, same)))
    ∙ later_places (place + 1) state' maps' later rest others more other (omega (arith, before))

-- who is up depends on the notes of these commands alone
same_up : (noted other : List Noted) (place : ℕ) (up : List Server) (script : List Command) →
    ((at : ℕ) → place ≤ at → is_noted noted at ≡ is_noted other at) → up_behind noted place up script ≡ up_behind other place up script
same_up noted other place up [] same = refl
same_up noted other place up (command ∷ later) same =
    ap (λ (t : Bool). up_behind noted (place + 1) (if t then up else up_after up command.action) later) (same place (omega arith))
    ∙ same_up noted other (place + 1) (if is_noted other place then up else up_after up command.action) later (λ at past. same at (omega (arith, past)))

-- who is up behind a command
up_then : (place : ℕ) (state : ControllerState) (maps : MapsState) (command : Command) (state' : ControllerState) (maps' : MapsState) (printed : List ℕ)
    (noted : List Noted) → IsShown place state maps command state' maps' printed noted →
    state'.up ≡ (if is_noted noted place then state.up else up_after state.up command.action)
up_then place state maps command state' maps' printed noted (carried_out none did text free) =
    ap (λ (s : ControllerState). s.up) did.state_is
    ∙ ap (λ (l : List Noted). if is_noted l place then state.up else up_after state.up command.action) (sym free)
up_then place state maps command state' maps' printed noted (refused fault left text why) =
    let alone = left_alone state maps command.action state' maps' fault left in
    let own : is_noted noted place ≡ true = ap (λ (l : List Noted). is_noted l place) why ∙ ap (λ (t : Bool). t || false) (eq-eqb place place refl) in
    ap (λ (s : ControllerState). s.up) alone.state_is
    ∙ ap (λ (t : Bool). if t then state.up else up_after state.up command.action) (sym own)

-- ---- a command at its place

record StandsAt (size first place : ℕ) (state : ControllerState) (maps : MapsState) (script : List Command) (printed : List ℕ) (noted : List Noted) (command : Command) : Type 0 where
  front : List ℕ
  noted_before : List Noted
  middle : ControllerState
  middle_maps : MapsState
  before : AreShown first state maps (take place script) front noted_before
  up_is : middle.up ≡ up_behind noted first state.up (take place script)
  held : IsHeld size middle middle_maps
  next : ControllerState
  next_maps : MapsState
  text : List ℕ
  one : List Noted
  here : IsShown (first + place) middle middle_maps command next next_maps text one
  noted_is : is_noted noted (first + place) ≡ is_noted one (first + place)
  behind : List ℕ
  printed_is : printed ≡ front ++ (text ++ behind)

module _ (size : ℕ) (served : IsRingSize size) (command : Command) where
  stands_at : (first place : ℕ) (state : ControllerState) (maps : MapsState) (script : List Command) (printed : List ℕ) (noted : List Noted) →
      IsHeld size state maps → AreShown first state maps script printed noted → slice_get script place ≡ Some command →
      StandsAt size first place state maps script printed noted command
  stands_at first place state maps [] printed noted held shown there = absurd cc
  stands_at first zero state maps (this ∷ later) printed noted held (state', maps', text, rest, one, others, here, more, printed_is, noted_is) there =
      let same : this ≡ command = cc there in
      let at : first + 0 ≡ first = omega arith in
      record {
        front = [];
        noted_before = [];
        middle = state;
        middle_maps = maps;
        before = (refl, refl);
        up_is = refl;
        held = held;
        next = state';
        next_maps = maps';
        text = text;
        one = one;
        here = subst (λ (n : ℕ). IsShown n state maps command state' maps' text one) (sym at)
            (subst (λ (c : Command). IsShown first state maps c state' maps' text one) same here);
        noted_is =
            ap (λ (l : List Noted). is_noted l (first + 0)) noted_is
            ∙ noted_both one others (first + 0)
            ∙ ap (λ (t : Bool). is_noted one (first + 0) || t) (later_places (first + 1) state' maps' later rest others more (first + 0) (omega arith))
            ∙ or_false (is_noted one (first + 0));
        behind = rest;
        printed_is = printed_is;
      }
  stands_at first (suc place) state maps (this ∷ later) printed noted held (state', maps', text, rest, one, others, here, more, printed_is, noted_is) there =
      let its = stands_at (first + 1) place state' maps' later rest others (held_then size served first state maps this state' maps' text one here held) more there in
      let at : first + 1 + place ≡ first + suc place = omega arith in
      let apart = λ (other : ℕ) (past : first < other).
      ap (λ (l : List Noted). is_noted l other) noted_is
      ∙ noted_both one others other
      ∙ ap (λ (t : Bool). t || is_noted others other) (own_place first state maps this state' maps' text one here other (λ same. omega (arith, past, same))) in
      let first_is : is_noted noted first ≡ is_noted one first =
      ap (λ (l : List Noted). is_noted l first) noted_is
      ∙ noted_both one others first
      ∙ ap (λ (t : Bool). is_noted one first || t) (later_places (first + 1) state' maps' later rest others more first (omega arith))
      ∙ or_false (is_noted one first) in
      record {
        front = text ++ its.front;
        noted_before = one ++ its.noted_before;
        middle = its.middle;
        middle_maps = its.middle_maps;
        before = (state', maps', text, its.front, one, its.noted_before, here, its.before, refl, refl);
        up_is =
            its.up_is
            ∙ same_up others noted (first + 1) state'.up (take place later) (λ other past. sym (apart other (omega (arith, past))))
            ∙ ap (λ (up : List Server). up_behind noted (first + 1) up (take place later))
            (up_then first state maps this state' maps' text one here ∙ ap (λ (t : Bool). if t then state.up else up_after state.up this.action) (sym first_is));
        held = its.held;
        next = its.next;
        next_maps = its.next_maps;
        text = its.text;
        one = its.one;
        here = subst (λ (n : ℕ). IsShown n its.middle its.middle_maps command its.next its.next_maps its.text its.one) at its.here;
        noted_is =
            apart (first + suc place) (omega arith)
            ∙ ap (is_noted others) (sym at)
            ∙ its.noted_is
            ∙ ap (is_noted its.one) at;
        behind = its.behind;
        printed_is = printed_is ∙ ap (λ (l : List ℕ). text ++ l) its.printed_is ∙ sym (append_assoc text its.front (its.text ++ its.behind));
      }

-- ---- a `down`

module _ (size number : ℕ) (served : IsRingSize size) (state : ControllerState) (maps : MapsState) (state' : ControllerState) (maps' : MapsState)
    (held : IsHeld size state maps) where
  down_is : refusal_of state (actions.Down number) ≡ None →
      IsCarriedOut IsUpdateAnswered state maps (first_updates state.up (actions.Down number)) (without_backend state.up number) state' maps' →
      IsDownCounted size state.up number (moved_below maps.words maps'.words maps'.size)
  down_is none did =
      let found = found_down (find (has_number number) state.up) (by_action state.is_full (action_refusal state.size state.up (actions.Down number)) none) in
      let its = held_done size served state maps (actions.Down number) state' maps' none did held in
      let later : IsTable size (without_backend state.up number) did.owners =
      subst (λ n. IsTable n (without_backend state.up number) did.owners) held.state_size did.table in
      record {
        server = found.0;
        is_up = found.1;
        owners = state.owners;
        table = held.table;
        later_owners = did.owners;
        later_table = later;
        moved_is =
            ap (moved_below maps.words maps'.words) its.maps_size
            ∙ moved_are size number state.up state.owners did.owners maps.words maps'.words (slots state.up held.table found.1) later held.owned
            (λ slot within. its.owned slot within ∙ ap (λ (s : ControllerState). owner_word (slice_get s.owners slot)) did.state_is);
      }
    where
      slots : (up : List Server) → IsTable size up state.owners → {server : Server} → find (has_number number) up ≡ Some server → length state.owners ≡ size
      slots [] table found = absurd cc
      slots (server ∷ up) table found = table.0.slots

pub downs_are_counted : DownsAreCounted
downs_are_counted size served script printed noted shown place command number there down free =
    let at = stands_at size served command 0 place (opened_controller size) (no_maps size) script printed noted (held_first size) shown there in
    by at at.here
  where
    by : (at : StandsAt size 0 place (opened_controller size) (no_maps size) script printed noted command) →
        IsShown (0 + place) at.middle at.middle_maps command at.next at.next_maps at.text at.one →
        IsDownShown size script printed noted place command.frame number
    by at (carried_out none did text unnoted) =
        let moved : ℕ = moved_below at.middle_maps.words at.next_maps.words at.next_maps.size in
        let least : ℕ = least_moves at.middle_maps.words at.next_maps.words in
        let zero_more : 0 + place ≡ place = omega arith in
        let lines : List ℕ = lines_below at.next_maps 256 in
        record {
          front = at.front;
          noted_before = at.noted_before;
          before = at.before;
          moved = moved;
          least = least;
          behind = lines ++ at.behind;
          printed_is =
              at.printed_is
              ∙ ap (λ (t : List ℕ). at.front ++ (t ++ at.behind)) text
              ∙ ap (λ (n : ℕ). at.front ++ ((done_line n command.frame moved least ++ lines) ++ at.behind)) zero_more
              ∙ ap (λ (t : List ℕ). at.front ++ t) (append_assoc (done_line place command.frame moved least) lines at.behind);
          counted = subst (λ (up : List Server). IsDownCounted size up number moved) at.up_is
              (down_is size number served at.middle at.middle_maps at.next at.next_maps at.held
              (subst (λ (a : Action). refusal_of at.middle a ≡ None) down none)
              (subst (λ (a : Action). IsCarriedOut IsUpdateAnswered at.middle at.middle_maps (first_updates at.middle.up a) (up_after at.middle.up a) at.next at.next_maps) down did));
        }
    by at (refused fault left text why) =
        let own : is_noted at.one (0 + place) ≡ true =
        ap (λ (l : List Noted). is_noted l (0 + place)) why ∙ ap (λ (t : Bool). t || false) (eq-eqb (0 + place) (0 + place) refl) in
        let zero_more : 0 + place ≡ place = omega arith in
        absurd (let both : true ≡ false = sym own ∙ sym at.noted_is ∙ ap (is_noted noted) zero_more ∙ free in cc)
