-- What the updates of a script's commands come to: the lookup table of the backends that are up, and each backend's record.
use Rattle.std.proofs.Common.{◌≡◌, ◌≢◌, ◌⊎◌, inl, inr, ℕ, zero, suc, ◌+◌, ◌^◌, ◌<◌, ◌≤◌, ◌==◌, ◌&&◌, ◌||◌, not, Bool, true, false, List, [], ◌∷◌, ◌++◌, refl, sym, ◌∙◌, ap, subst, arith}
use Rattle.std.specs.Prelude.{ℤ, pos, negsuc, Option, Some, None, if◌then◌else◌, slice_get, nat_lt, map, take}
use Rattle.std.specs.List.{AllByRecursion, filter, find, list_any}
use Rattle.std.proofs.lemmas.Bool.{eqb-true, eqb-false}
use Rattle.std.proofs.lemmas.Bool.Decides.{nat_tests}
use Rattle.semantics.specs.LittleEndian.{number_of_bytes, bytes_of_number}
use Rattle.semantics.specs.Linux.{success}
use Rattle.conntrack.specs.declared.records.BackendRecord.{BackendRecord}
use Rattle.conntrack.specs.Layouts.{ring_bytes, backend_bytes}
use Rattle.maglev.specs.declared.backend.Backend.{Backend as Server}
use Rattle.wire.specs.declared.ethernet.Ipv4Address.{Ipv4Address}
use Rattle.control.specs.declared.command.Action.{Action}
use Rattle.control.specs.declared.command.Action.TheVariants as actions
use Rattle.control.specs.declared.fault.ControlFault.{ControlFault}
use Rattle.control.specs.declared.fault.ControlFault.TheVariants.{BadSize, BadLine, UnknownBackend, BackendTwice, Refused, JournalFull, Memory}
use Rattle.control.specs.declared.ring_changes.Slot.{Slot}
use Rattle.control.specs.declared.update.Update.{Update as Change}
use Rattle.control.specs.declared.update.Update.TheVariants.{Vip, Backend}
use Rattle.control.specs.Controlling.{ControllerState, IsTable, has_number, has_address, up_after, up_refusal, down_refusal, action_refusal, refusal_of, down_update, first_updates}
use Rattle.control.specs.RingChanges.{is_same_owner, slot_change, changes_below, slot_update, slot_updates}
use Rattle.actors.specs.Commands.{AnsweredUpdate, CommandDone, AreDone, IsDoneBy, IsNothing, IsFullyDone, IsTurnedDown, done_update, all_done, made_in}
use Rattle.steered_replays.specs.TablesAtEnd.{up_left, record_after, record_left}
use Rattle.steered_replays.proofs.ArrayShards.{is_success, put_made, put_both, none_put}

-- an update of this map's key of this number, answered 0
abbrev pub is_at : ℕ → ℕ → AnsweredUpdate → Bool
is_at place number made = (made.update.map == place) && (is_success made.answer && (number_of_bytes made.update.key == number))

four_back : (n : ℕ) → n < 2 ^ 32 → number_of_bytes (bytes_of_number 4 n) ≡ n
four_back n small = omega arith

pub all_done_both : (changes more : List Change) → all_done (changes ++ more) ≡ all_done changes ++ all_done more
all_done_both [] more = refl
all_done_both (change ∷ changes) more = ap (λ l. done_update change ∷ l) (all_done_both changes more)

slot_updates_both : (slots more : List Slot) → slot_updates (slots ++ more) ≡ slot_updates slots ++ slot_updates more
slot_updates_both [] more = refl
slot_updates_both (slot ∷ slots) more = ap (λ l. slot_update slot ∷ l) (slot_updates_both slots more)

-- ---- slots that change hands

same_owner : (one other : Option ℕ) → is_same_owner one other ≡ true → one ≡ other
same_owner None None is = refl
same_owner (Some owner) (Some other) is = ap Some (eqb-true owner other is)
same_owner None (Some other) is = absurd cc
same_owner (Some owner) None is = absurd cc

abbrev owned : Option ℕ → List ℕ
owned owner = ring_bytes (record { owner = owner })

module _ (old new : List ℕ) (slot : ℕ) where
  abbrev put_below : ℕ → List ℕ
  put_below n = put_made (is_at 2 slot) (all_done (slot_updates (changes_below old new n))) (owned (slice_get old slot))

  -- a change of this slot, or of another
  change_puts : (place : ℕ) → place < 65538 → (before : List ℕ) (here : Bool) → (place == slot) ≡ here →
      (same : Bool) → is_same_owner (slice_get old place) (slice_get new place) ≡ same → (here ≡ true → before ≡ owned (slice_get old slot)) →
      put_made (is_at 2 slot) (all_done (slot_updates (if same then [] else (record { place = place; owner = slice_get new place } ∷ [])))) before
      ≡ (if here then owned (slice_get new slot) else before)
  change_puts place few before true is true same old_here =
      let at : place ≡ slot = eqb-true place slot is in
      old_here refl ∙ ap owned (subst (λ n. slice_get old n ≡ slice_get new n) at (same_owner (slice_get old place) (slice_get new place) same))
  change_puts place few before false is true same old_here = refl
  change_puts place few before here is false same old_here =
      let back : number_of_bytes (bytes_of_number 4 place) ≡ place = four_back place (omega (arith, few)) in
      ap (λ (n : ℕ). if n == slot then owned (slice_get new place) else before) back
      ∙ ap (λ (test : Bool). if test then owned (slice_get new place) else before) is
      ∙ by here is
    where
      by : (test : Bool) → (place == slot) ≡ test → (if test then owned (slice_get new place) else before) ≡ (if test then owned (slice_get new slot) else before)
      by true one = ap (λ n. owned (slice_get new n)) (eqb-true place slot one)
      by false one = refl

  record IsPutBelow (n : ℕ) : Type 0 where
    done : slot < n → put_below n ≡ owned (slice_get new slot)
    left : n ≤ slot → put_below n ≡ owned (slice_get old slot)

  next_put : (n : ℕ) → n < 65538 → IsPutBelow n → IsPutBelow (suc n)
  next_put n few before =
      let whole : put_below (suc n) ≡ put_made (is_at 2 slot) (all_done (slot_updates (slot_change old new n))) (put_below n) =
      ap (λ l. put_made (is_at 2 slot) (all_done l) (owned (slice_get old slot))) (slot_updates_both (changes_below old new n) (slot_change old new n))
      ∙ ap (λ l. put_made (is_at 2 slot) l (owned (slice_get old slot))) (all_done_both (slot_updates (changes_below old new n)) (slot_updates (slot_change old new n)))
      ∙ put_both (is_at 2 slot) (all_done (slot_updates (changes_below old new n))) (all_done (slot_updates (slot_change old new n))) (owned (slice_get old slot)) in
      let step : put_made (is_at 2 slot) (all_done (slot_updates (slot_change old new n))) (put_below n) ≡ (if n == slot then owned (slice_get new slot) else put_below n) =
      change_puts n few (put_below n) (n == slot) refl (is_same_owner (slice_get old n) (slice_get new n)) refl
      (λ is. let here : n ≡ slot = eqb-true n slot is in before.left (omega (arith, here))) in
      record {
        done = λ below. whole ∙ step ∙ by_done below (n == slot) refl;
        left = λ past. whole ∙ step ∙ by_left past (n == slot) refl;
      }
    where
      by_done : slot < suc n → (here : Bool) → (n == slot) ≡ here → (if here then owned (slice_get new slot) else put_below n) ≡ owned (slice_get new slot)
      by_done below true is = refl
      by_done below false is = before.done (let other = eqb-false n slot is in omega (arith, below, other))

      by_left : suc n ≤ slot → (here : Bool) → (n == slot) ≡ here → (if here then owned (slice_get new slot) else put_below n) ≡ owned (slice_get old slot)
      by_left past true is = absurd (let same : n ≡ slot = eqb-true n slot is in omega (arith, past, same))
      by_left past false is = before.left (omega (arith, past))

  all_put : (n : ℕ) → n ≤ 65538 → IsPutBelow n
  all_put zero few = record { done = λ below. absurd (omega (arith, below)); left = λ past. refl }
  all_put (suc n) few = next_put n (omega (arith, few)) (all_put n (omega (arith, few)))

  pub slots_put : (size : ℕ) → size ≤ 65538 → slot < size → put_below size ≡ owned (slice_get new slot)
  slots_put size few within = (all_put size few).done within

-- ---- what commands leave elsewhere

aside_slots : (number : ℕ) (slots : List Slot) → AllByRecursion (λ (one : AnsweredUpdate). is_at 3 number one ≡ false) (all_done (slot_updates slots))
aside_slots number [] = tt
aside_slots number (slot ∷ slots) = (refl, aside_slots number slots)

aside_down : (slot : ℕ) (found : Option Server) → AllByRecursion (λ (one : AnsweredUpdate). is_at 2 slot one ≡ false) (all_done (down_update found))
aside_down slot None = tt
aside_down slot (Some server) = (refl, tt)

aside_firsts : (slot : ℕ) (up : List Server) (action : Action) → AllByRecursion (λ (one : AnsweredUpdate). is_at 2 slot one ≡ false) (all_done (first_updates up action))
aside_firsts slot up (actions.Vip service is_notrack) = (refl, tt)
aside_firsts slot up (actions.Up number address) = (refl, tt)
aside_firsts slot up (actions.Down number) = aside_down slot (find (has_number number) up)
aside_firsts slot up (actions.Gateway source source_mac destination_mac) = (refl, tt)

-- ---- commands one after the other

abbrev pub IsNoStop : CommandDone → Type 0
IsNoStop one = one.fault ≢ Some JournalFull

abbrev pub and_action : Option ControlFault → Action → List Action → List Action
and_action None action later = action ∷ later
and_action (Some fault) action later = later

-- what the commands did that were carried out
abbrev pub done_actions : List CommandDone → List Action
done_actions [] = []
done_actions (one ∷ later) = and_action one.fault one.action (done_actions later)

-- a command that was refused: nothing was put anywhere
pub record IsKept (state : ControllerState) (one : CommandDone) (fault : Option ControlFault) (state' : ControllerState) : Type 0 where
  pub why : ControlFault
  pub fault_is : fault ≡ Some why
  pub state_is : state' ≡ state
  pub aside : AllByRecursion (λ (made : AnsweredUpdate). is_success made.answer ≡ false) one.made

no_success : (answer : ℤ) → answer ≢ success → is_success answer ≡ false
no_success (pos n) other = by (n == 0) refl
  where
    by : (test : Bool) → (n == 0) ≡ test → test ≡ false
    by true is = absurd (other (ap pos (eqb-true n 0 is)))
    by false is = refl
no_success (negsuc n) other = refl

pub neither : (a b c : Bool) → b ≡ false → (a && (b && c)) ≡ false
neither true true c is = absurd cc
neither true false c is = refl
neither false b c is = refl

refused_aside : (place number : ℕ) (made : List AnsweredUpdate) → AllByRecursion (λ (one : AnsweredUpdate). is_success one.answer ≡ false) made →
    AllByRecursion (λ (one : AnsweredUpdate). is_at place number one ≡ false) made
refused_aside place number [] all = tt
refused_aside place number (one ∷ made) all =
    (neither (one.update.map == place) (is_success one.answer) (number_of_bytes one.update.key == number) all.0, refused_aside place number made all.1)

kept_nothing : (state : ControllerState) (one : CommandDone) (why : ControlFault) (state' : ControllerState) → IsNothing state one state' → IsKept state one (Some why) state'
kept_nothing state one why state' nothing = record {
  why = why;
  fault_is = refl;
  state_is = nothing.state_is;
  aside = subst (λ (l : List AnsweredUpdate). AllByRecursion (λ (made : AnsweredUpdate). is_success made.answer ≡ false) l) (sym nothing.made) tt;
}

kept_down : (state : ControllerState) (one : CommandDone) (answer : ℤ) (why : ControlFault) (state' : ControllerState) → IsTurnedDown state one answer state' → IsKept state one (Some why) state'
kept_down state one answer why state' turned = record {
  why = why;
  fault_is = refl;
  state_is = turned.state_is;
  aside = subst (λ (l : List AnsweredUpdate). AllByRecursion (λ (made : AnsweredUpdate). is_success made.answer ≡ false) l) (sym turned.made)
      (no_success answer turned.not_done, tt);
}

pub step_of : (state : ControllerState) (one : CommandDone) (state' : ControllerState) (fault : Option ControlFault) → IsDoneBy fault state one state' → fault ≢ Some JournalFull →
    ((fault ≡ None) × IsFullyDone state one state') ⊎ IsKept state one fault state'
step_of state one state' None did free = inl (refl, did)
step_of state one state' (Some UnknownBackend) did free = inr (kept_nothing state one UnknownBackend state' did.0)
step_of state one state' (Some BackendTwice) did free = inr (kept_nothing state one BackendTwice state' did.0)
step_of state one state' (Some (Refused answer)) did free = inr (kept_down state one answer (Refused answer) state' did)
step_of state one state' (Some JournalFull) did free = absurd (free refl)
step_of state one state' (Some Memory) did free = inr (kept_nothing state one Memory state' did.0)
step_of state one state' (Some BadSize) did free = absurd did
step_of state one state' (Some (BadLine line)) did free = absurd did

abbrev pub IsStep : ControllerState → CommandDone → ControllerState → Type 0
IsStep state one state' = ((one.fault ≡ None) × IsFullyDone state one state') ⊎ IsKept state one one.fault state'

-- ---- the lookup table

same_size : (state : ControllerState) (one : CommandDone) (state' : ControllerState) → IsStep state one state' → state'.size ≡ state.size
same_size state one state' (inl (none, carried)) = ap (λ (s : ControllerState). s.size) carried.state_is
same_size state one state' (inr kept) = ap (λ (s : ControllerState). s.size) kept.state_is

still_table : (state : ControllerState) (one : CommandDone) (state' : ControllerState) → IsStep state one state' →
    IsTable state.size state.up state.owners → IsTable state'.size state'.up state'.owners
still_table state one state' (inl (none, carried)) table =
    subst (λ (s : ControllerState). IsTable s.size s.up s.owners) (sym carried.state_is) carried.table
still_table state one state' (inr kept) table = subst (λ (s : ControllerState). IsTable s.size s.up s.owners) (sym kept.state_is) table

still_up : (state : ControllerState) (one : CommandDone) (state' : ControllerState) → IsStep state one state' → (later : List Action) →
    up_left state'.up later ≡ up_left state.up (and_action one.fault one.action later)
still_up state one state' (inl (none, carried)) later =
    ap (λ (s : ControllerState). up_left s.up later) carried.state_is ∙ ap (λ (f : Option ControlFault). up_left state.up (and_action f one.action later)) (sym none)
still_up state one state' (inr kept) later =
    ap (λ (s : ControllerState). up_left s.up later) kept.state_is
    ∙ ap (λ (f : Option ControlFault). up_left state.up (and_action f one.action later)) (sym kept.fault_is)

slot_step : (state : ControllerState) (one : CommandDone) (state' : ControllerState) → IsStep state one state' → (slot : ℕ) → state.size ≤ 65538 → slot < state.size →
    put_made (is_at 2 slot) one.made (owned (slice_get state.owners slot)) ≡ owned (slice_get state'.owners slot)
slot_step state one state' (inr kept) slot few within =
    none_put (is_at 2 slot) one.made (owned (slice_get state.owners slot)) (refused_aside 2 slot one.made kept.aside)
    ∙ ap (λ (s : ControllerState). owned (slice_get s.owners slot)) (sym kept.state_is)
slot_step state one state' (inl (none, carried)) slot few within =
    let firsts : List Change = first_updates state.up one.action in
    let slots : List Change = slot_updates (changes_below state.owners carried.owners state.size) in
    ap (λ l. put_made (is_at 2 slot) l (owned (slice_get state.owners slot))) (carried.made ∙ all_done_both firsts slots)
    ∙ put_both (is_at 2 slot) (all_done firsts) (all_done slots) (owned (slice_get state.owners slot))
    ∙ ap (put_made (is_at 2 slot) (all_done slots))
    (none_put (is_at 2 slot) (all_done firsts) (owned (slice_get state.owners slot)) (aside_firsts slot state.up one.action))
    ∙ slots_put state.owners carried.owners slot state.size few within
    ∙ ap (λ (s : ControllerState). owned (slice_get s.owners slot)) (sym carried.state_is)

module _ (slot : ℕ) where
  pub slot_done : (state : ControllerState) (done : List CommandDone) (state' : ControllerState) → AreDone state done state' → AllByRecursion IsNoStop done →
      state.size ≤ 65538 → slot < state.size → put_made (is_at 2 slot) (made_in done) (owned (slice_get state.owners slot)) ≡ owned (slice_get state'.owners slot)
  slot_done state [] state' are all few within = ap (λ (s : ControllerState). owned (slice_get s.owners slot)) are
  slot_done state (one ∷ later) state' are all few within =
      let step = step_of state one are.0 one.fault are.1.did all.0 in
      let size : are.0.size ≡ state.size = same_size state one are.0 step in
      put_both (is_at 2 slot) one.made (made_in later) (owned (slice_get state.owners slot))
      ∙ ap (put_made (is_at 2 slot) (made_in later)) (slot_step state one are.0 step slot few within)
      ∙ slot_done are.0 later state' are.2 all.1 (subst (λ n. n ≤ 65538) (sym size) few) (subst (λ n. slot < n) (sym size) within)

pub table_done : (state : ControllerState) (done : List CommandDone) (state' : ControllerState) → AreDone state done state' → AllByRecursion IsNoStop done →
    IsTable state.size state.up state.owners → IsTable state'.size state'.up state'.owners
table_done state [] state' are all table = subst (λ (s : ControllerState). IsTable s.size s.up s.owners) are table
table_done state (one ∷ later) state' are all table =
    table_done are.0 later state' are.2 all.1 (still_table state one are.0 (step_of state one are.0 one.fault are.1.did all.0) table)

pub up_done : (state : ControllerState) (done : List CommandDone) (state' : ControllerState) → AreDone state done state' → AllByRecursion IsNoStop done →
    state'.up ≡ up_left state.up (done_actions done)
up_done state [] state' are all = ap (λ (s : ControllerState). s.up) (sym are)
up_done state (one ∷ later) state' are all =
    up_done are.0 later state' are.2 all.1
    ∙ still_up state one are.0 (step_of state one are.0 one.fault are.1.did all.0) (done_actions later)

pub size_done : (state : ControllerState) (done : List CommandDone) (state' : ControllerState) → AreDone state done state' → AllByRecursion IsNoStop done →
    state'.size ≡ state.size
size_done state [] state' are all = ap (λ (s : ControllerState). s.size) (sym are)
size_done state (one ∷ later) state' are all =
    size_done are.0 later state' are.2 all.1 ∙ same_size state one are.0 (step_of state one are.0 one.fault are.1.did all.0)

-- ---- the records of backends

abbrev up_record : Server → BackendRecord
up_record server = record { address = server.address; is_up = true }

-- those that are up have such records
abbrev pub HaveRecords : (ℕ → BackendRecord) → List Server → Type 0
HaveRecords known up = AllByRecursion (λ (server : Server). (server.number < 256) × (known server.number ≡ up_record server)) up

filtered : (P Q : Server → Type 0) (test : Server → Bool) → ((server : Server) → test server ≡ true → P server → Q server) → (up : List Server) →
    AllByRecursion P up → AllByRecursion Q (filter test up)
filtered P Q test each [] all = tt
filtered P Q test each (server ∷ up) all = by (filtered P Q test each up all.1) (test server) refl
  where
    by : AllByRecursion Q (filter test up) → (t : Bool) → test server ≡ t → AllByRecursion Q (filter test (server ∷ up))
    by rest true is = rw is (each server is all.0, rest)
    by rest false is = rw is rest

all_joined : (P : Server → Type 0) (one other : List Server) → AllByRecursion P one → AllByRecursion P other → AllByRecursion P (one ++ other)
all_joined P [] other first second = second
all_joined P (server ∷ one) other first second = (first.0, all_joined P one other first.1 second)

pub found_one : (P : Server → Type 0) (test : Server → Bool) (up : List Server) (server : Server) → find test up ≡ Some server → AllByRecursion P up → (test server ≡ true) × P server
found_one P test [] server found all = absurd cc
found_one P test (one ∷ up) server found all = by (λ same. found_one P test up server same all.1) (test one) refl found
  where
    by : (find test up ≡ Some server → (test server ≡ true) × P server) → (t : Bool) → test one ≡ t → (if t then Some one else find test up) ≡ Some server →
        (test server ≡ true) × P server
    by later true is same = let it : one ≡ server = cc same in (ap test (sym it) ∙ is, subst P it all.0)
    by later false is same = later same

other_below : (a b : ℕ) → nat_lt a b ≡ true → (b == a) ≡ false
other_below a b is = grind (arith, nat_tests)

other_above : (a b : ℕ) → nat_lt b a ≡ true → (b == a) ≡ false
other_above a b is = grind (arith, nat_tests)

same_test : (a : ℕ) → (a == a) ≡ true
same_test a = grind (arith, nat_tests)

other_not : (a b : ℕ) → not (a == b) ≡ true → (b == a) ≡ false
other_not a b is = grind (arith, nat_tests)

turned : (a b : ℕ) → (a == b) ≡ (b == a)
turned a b = grind (arith, nat_tests)

not_refused : (found fault : Option ControlFault) → ((why : ControlFault) → found ≡ Some why → fault ≡ Some why) → fault ≡ None → found ≡ None
not_refused None fault first none = refl
not_refused (Some why) fault first none = absurd (let is : fault ≡ Some why = first why refl in cc)

by_action : (full : Bool) (found : Option ControlFault) → (if full then Some JournalFull else found) ≡ None → found ≡ None
by_action true found is = absurd cc
by_action false found is = is

few_up : (size : ℕ) (up : List Server) (number : ℕ) (address : Ipv4Address) → up_refusal size up number address ≡ None → number < 256
few_up size up number address none = by (nat_lt number 256) refl none
  where
    by : (test : Bool) → nat_lt number 256 ≡ test →
        (if test && nat_lt number size then (if list_any (has_number number) up || list_any (has_address address) up then Some BackendTwice else None) else Some UnknownBackend) ≡ None →
        number < 256
    by true is same = grind (arith, nat_tests)
    by false is same = absurd cc

-- what the first updates of a command put into a backend's record, and who is up then
record IsRecorded (known : ℕ → BackendRecord) (up : List Server) (action : Action) : Type 0 where
  puts : (number : ℕ) → put_made (is_at 3 number) (all_done (first_updates up action)) (backend_bytes (known number))
      ≡ backend_bytes (record_after number (known number) action)
  have : HaveRecords (λ number. record_after number (known number) action) (up_after up action)

module _ (known : ℕ → BackendRecord) (size : ℕ) (up : List Server) (have : HaveRecords known up) where
  backend_put : (number other : ℕ) (backend : BackendRecord) → other < 256 →
      put_made (is_at 3 number) (all_done (Backend other backend ∷ [])) (backend_bytes (known number)) ≡ backend_bytes (if other == number then backend else known number)
  backend_put number other backend few =
      ap (λ (n : ℕ). if n == number then backend_bytes backend else backend_bytes (known number)) (four_back other (omega (arith, few))) ∙ by (other == number)
    where
      by : (test : Bool) → (if test then backend_bytes backend else backend_bytes (known number)) ≡ backend_bytes (if test then backend else known number)
      by true = refl
      by false = refl

  went_down : (number : ℕ) (found : Option Server) → find (has_number number) up ≡ found → down_refusal found ≡ None →
      (other : ℕ) → put_made (is_at 3 other) (all_done (down_update found)) (backend_bytes (known other))
      ≡ backend_bytes (if number == other then record { address = (known other).address; is_up = false } else known other)
  went_down number None is none other = absurd cc
  went_down number (Some server) is none other =
      let one = found_one (λ (one : Server). (one.number < 256) × (known one.number ≡ up_record one)) (has_number number) up server is have in
      let at : server.number ≡ number = eqb-true server.number number one.0 in
      backend_put other server.number (record { address = server.address; is_up = false }) one.1.0
      ∙ by at (number == other) refl (ap (λ n. known n) (sym at) ∙ one.1.1)
    where
      by : server.number ≡ number → (test : Bool) → (number == other) ≡ test → known number ≡ up_record server →
          backend_bytes (if server.number == other then record { address = server.address; is_up = false } else known other)
          ≡ backend_bytes (if test then record { address = (known other).address; is_up = false } else known other)
      by at true here had =
          let same : number ≡ other = eqb-true number other here in
          let test : (server.number == other) ≡ true = ap (λ n. n == other) at ∙ here in
          let address : (known other).address ≡ server.address = ap (λ n. (known n).address) (sym same) ∙ ap (λ (r : BackendRecord). r.address) had in
          rw (test, address) refl
      by at false here had = let test : (server.number == other) ≡ false = ap (λ n. n == other) at ∙ here in rw test refl

  recorded : (action : Action) → action_refusal size up action ≡ None → IsRecorded known up action
  recorded (actions.Vip service is_notrack) none = record { puts = λ number. refl; have = have }
  recorded (actions.Gateway source source_mac destination_mac) none = record { puts = λ number. refl; have = have }
  recorded (actions.Up number address) none =
      let few : number < 256 = few_up size up number address none in
      let server : Server = record { number = number; address = address } in
      let P : Server → Type 0 = (λ (one : Server). (one.number < 256) × (known one.number ≡ up_record one)) in
      let Q : Server → Type 0 = (λ (one : Server). (one.number < 256) × ((if number == one.number then up_record server else known one.number) ≡ up_record one)) in
      let rest : (one : Server) → (number == one.number) ≡ false → P one → Q one =
      (λ one other had. (had.0, ap (λ (test : Bool). if test then up_record server else known one.number) other ∙ had.1)) in
      let own : (if number == number then up_record server else known number) ≡ up_record server =
      ap (λ (test : Bool). if test then up_record server else known number) (same_test number) in
      record {
        puts = λ other. backend_put other number (up_record server) few;
        have = all_joined Q (filter (λ (other : Server). nat_lt other.number number) up) (server ∷ filter (λ (other : Server). nat_lt number other.number) up)
            (filtered P Q (λ (other : Server). nat_lt other.number number) (λ one below had. rest one (other_below one.number number below) had) up have)
            ((few, own), filtered P Q (λ (other : Server). nat_lt number other.number) (λ one above had. rest one (other_above one.number number above) had) up have);
      }
  recorded (actions.Down number) none =
      let P : Server → Type 0 = (λ (one : Server). (one.number < 256) × (known one.number ≡ up_record one)) in
      let Q : Server → Type 0 = (λ (one : Server). (one.number < 256)
      × ((if number == one.number then record { address = (known one.number).address; is_up = false } else known one.number) ≡ up_record one)) in
      record {
        puts = λ other. went_down number (find (has_number number) up) refl none other;
        have = filtered P Q (λ (server : Server). not (has_number number server))
            (λ one aside had. (had.0, ap (λ (test : Bool). if test then record { address = (known one.number).address; is_up = false } else known one.number) (other_not one.number number aside) ∙ had.1)) up have;
      }

-- a command leaves these records, by the ones that it found
record AreRecorded (known after : ℕ → BackendRecord) (made : List AnsweredUpdate) (up : List Server) : Type 0 where
  puts : (number : ℕ) → put_made (is_at 3 number) made (backend_bytes (known number)) ≡ backend_bytes (after number)
  have : HaveRecords after up

record_step : (known : ℕ → BackendRecord) (state : ControllerState) (one : CommandDone) (state' : ControllerState) →
    ((why : ControlFault) → refusal_of state one.action ≡ Some why → one.fault ≡ Some why) → IsStep state one state' → HaveRecords known state.up →
    AreRecorded known (λ number. record_left number (known number) (and_action one.fault one.action [])) one.made state'.up
record_step known state one state' first (inl (none, carried)) have =
    let unrefused : action_refusal state.size state.up one.action ≡ None =
    by_action state.is_full (action_refusal state.size state.up one.action) (not_refused (refusal_of state one.action) one.fault first none) in
    let recorded_is = recorded known state.size state.up have one.action unrefused in
    let slots : List Change = slot_updates (changes_below state.owners carried.owners state.size) in
    let whole : AreRecorded known (λ number. record_after number (known number) one.action) one.made state'.up =
    record {
      puts = λ number.
          ap (λ l. put_made (is_at 3 number) l (backend_bytes (known number))) (carried.made ∙ all_done_both (first_updates state.up one.action) slots)
          ∙ put_both (is_at 3 number) (all_done (first_updates state.up one.action)) (all_done slots) (backend_bytes (known number))
          ∙ none_put (is_at 3 number) (all_done slots) (put_made (is_at 3 number) (all_done (first_updates state.up one.action)) (backend_bytes (known number)))
          (aside_slots number (changes_below state.owners carried.owners state.size))
          ∙ recorded_is.puts number;
      have = subst (λ (s : ControllerState). HaveRecords (λ number. record_after number (known number) one.action) s.up) (sym carried.state_is) recorded_is.have;
    } in
    subst (λ (f : Option ControlFault). AreRecorded known (λ number. record_left number (known number) (and_action f one.action [])) one.made state'.up) (sym none) whole
record_step known state one state' first (inr kept) have =
    subst (λ (f : Option ControlFault). AreRecorded known (λ number. record_left number (known number) (and_action f one.action [])) one.made state'.up) (sym kept.fault_is)
    (record {
      puts = λ number. none_put (is_at 3 number) one.made (backend_bytes (known number)) (refused_aside 3 number one.made kept.aside);
      have = subst (λ (s : ControllerState). HaveRecords known s.up) (sym kept.state_is) have;
    })

left_both : (number : ℕ) (before : BackendRecord) (fault : Option ControlFault) (action : Action) (later : List Action) →
    record_left number (record_left number before (and_action fault action [])) later ≡ record_left number before (and_action fault action later)
left_both number before None action later = refl
left_both number before (Some fault) action later = refl

same_records : (known other : ℕ → BackendRecord) → ((number : ℕ) → known number ≡ other number) → (up : List Server) → HaveRecords known up → HaveRecords other up
same_records known other same [] have = tt
same_records known other same (server ∷ up) have = ((have.0.0, sym (same server.number) ∙ have.0.1), same_records known other same up have.1)

pub records_done : (known : ℕ → BackendRecord) (state : ControllerState) (done : List CommandDone) (state' : ControllerState) → AreDone state done state' →
    AllByRecursion IsNoStop done → HaveRecords known state.up →
    ((number : ℕ) → put_made (is_at 3 number) (made_in done) (backend_bytes (known number)) ≡ backend_bytes (record_left number (known number) (done_actions done)))
    × HaveRecords (λ number. record_left number (known number) (done_actions done)) state'.up
records_done known state [] state' are all have = (λ number. refl, subst (λ (s : ControllerState). HaveRecords known s.up) are have)
records_done known state (one ∷ later) state' are all have =
    let step = record_step known state one are.0 are.1.first (step_of state one are.0 one.fault are.1.did all.0) have in
    let middle : ℕ → BackendRecord = (λ number. record_left number (known number) (and_action one.fault one.action [])) in
    let rest = records_done middle are.0 later state' are.2 all.1 step.have in (
      λ number.
          put_both (is_at 3 number) one.made (made_in later) (backend_bytes (known number))
          ∙ ap (put_made (is_at 3 number) (made_in later)) (step.puts number)
          ∙ rest.0 number
          ∙ ap backend_bytes (left_both number (known number) one.fault one.action (done_actions later)),
      same_records (λ number. record_left number (middle number) (done_actions later)) (λ number. record_left number (known number) (done_actions (one ∷ later)))
          (λ number. left_both number (known number) one.fault one.action (done_actions later)) state'.up rest.1,
    )

-- ---- the first commands

pub take_done : (state : ControllerState) (done : List CommandDone) (state' : ControllerState) (count : ℕ) → AreDone state done state' →
    (middle : ControllerState) × AreDone state (take count done) middle
take_done state done state' zero are = (state, refl)
take_done state [] state' (suc count) are = (state', are)
take_done state (one ∷ later) state' (suc count) are =
    let rest = take_done are.0 later state' count are.2 in (rest.0, (are.0, are.1, rest.1))

pub take_unstopped : (done : List CommandDone) (count : ℕ) → AllByRecursion IsNoStop done → AllByRecursion IsNoStop (take count done)
take_unstopped done zero all = tt
take_unstopped [] (suc count) all = tt
take_unstopped (one ∷ later) (suc count) all = (all.0, take_unstopped later count all.1)
