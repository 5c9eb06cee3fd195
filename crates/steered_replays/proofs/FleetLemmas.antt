-- Two machines with the same backends up have the same tables, and send frames without a note to the same backends.
use Rattle.std.proofs.Common.{◌≡◌, ◌≢◌, ℕ, zero, suc, ◌+◌, ◌%◌, ◌^◌, ◌<◌, ◌==◌, ◌||◌, not, Bool, true, false, List, [], ◌∷◌, ◌++◌, length, refl, sym, ◌∙◌, ap, subst, arith}
use Rattle.std.specs.Prelude.{Option, Some, None, option_map, slice_get, slice_set, slice_index, slice_index_or, if◌then◌else◌, take, drop}
use Rattle.std.specs.Option.{unwrap_or}
use Rattle.std.specs.List.{AllByRecursion, find, list_any}
use Rattle.std.proofs.Math.Nat.{mod-lt}
use Rattle.std.proofs.lemmas.Bool.{eqb-true, eqb-false}
use Rattle.std.proofs.lemmas.Bool.Decides.{nat_tests}
use Rattle.std.proofs.lemmas.List.{length-set}
use Rattle.std.proofs.Math.Seq.{take-append_seam, drop-append_seam}
use Rattle.wire.specs.declared.ethernet.Ipv4Address.{Ipv4Address}
use Rattle.wire.specs.FlowForm.{flow_bytes_of}
use Rattle.wire.specs.Fnv.{fnv1a64_of}
use Rattle.semantics.specs.LittleEndian.{number_of_bytes, bytes_of_number}
use Rattle.maglev.specs.declared.backend.Backend.{Backend as Server}
use Rattle.maglev.specs.declared.preference.Preference.{Preference}
use Rattle.maglev.specs.Hashing.{hashed_preferences}
use Rattle.maglev.specs.Population.{IsPopulation, IsOnlyPopulation, backend_of_turn, no_backend}
use Rattle.conntrack.specs.declared.choosing.Assigned.{Assigned}
use Rattle.conntrack.specs.declared.choosing.Choice.{Choice}
use Rattle.conntrack.specs.declared.choosing.Choice.TheVariants.{Drop, Tx}
use Rattle.conntrack.specs.declared.choosing.Records.{Records}
use Rattle.conntrack.specs.declared.records.BackendRecord.{BackendRecord}
use Rattle.conntrack.specs.declared.records.TunnelRecord.{TunnelRecord}
use Rattle.conntrack.specs.declared.records.VipRecord.{VipRecord}
use Rattle.conntrack.specs.declared.steering_maps.SteeringMap.TheVariants.{Ring, Backends}
use Rattle.conntrack.specs.Layouts.{owner_of, ring_bytes, ring_of, backend_bytes, backend_of}
use Rattle.conntrack.specs.SteeringRule.{choice_for_service, choice_of, choice_if_up, fits_tunnel, is_set_up, tracked_choice}
use Rattle.control.specs.declared.command.Action.{Action}
use Rattle.control.specs.declared.command.Action.TheVariants.{Down}
use Rattle.control.specs.Controlling.{IsTable, has_number, without_backend, up_after}
use Rattle.steered_replays.specs.TablesAtEnd.{MapsAt, value_at, up_left, no_record, record_left, AreTablesAtEnd, IsRecordedUp}
use Rattle.steered_replays.specs.Fleets.{SameTables, slot_of_flow, owner_in, assigned_in, owner_of_flow, IsSentByTable, sent_to, server_of, OwnersAreSentTo, SomeAreSentTo, FramesAreSent, StrangersAgree, StrangersMove}
use Rattle.steered_replays.proofs.CommandTables.{found_one}

-- ---- the same tables

one_table : (size : ℕ) (up : List Server) (owners others : List ℕ) → IsTable size up owners → IsTable size up others → others ≡ owners
one_table size [] owners others table its = its ∙ sym table
one_table size (server ∷ up) owners others table its = table.1 others its.0

same_records : (done others : List Action) (one other : MapsAt)
    (mine : (number : ℕ) → number < 256 → value_at one Backends (bytes_of_number 4 number) ≡ Some (backend_bytes (record_left number no_record done)))
    (its : (number : ℕ) → number < 256 → value_at other Backends (bytes_of_number 4 number) ≡ Some (backend_bytes (record_left number no_record others)))
    (up : List Server) → AllByRecursion (IsRecordedUp done) up → AllByRecursion (IsRecordedUp others) up →
    AllByRecursion
    (λ (server : Server). value_at other Backends (bytes_of_number 4 server.number) ≡ value_at one Backends (bytes_of_number 4 server.number)) up
same_records done others one other mine its [] all also = tt
same_records done others one other mine its (server ∷ up) all also = (
  its server.number all.0.few ∙ ap (λ (r : BackendRecord). Some (backend_bytes r)) (also.0.recorded ∙ sym all.0.recorded) ∙ sym (mine server.number all.0.few),
  same_records done others one other mine its up all.1 also.1,
)

pub same_tables : SameTables
same_tables size done others one other tables its same =
    let owners : its.owners ≡ tables.owners =
    one_table size (up_left [] done) tables.owners its.owners tables.table (subst (λ (up : List Server). IsTable size up its.owners) (sym same) its.table) in
    record {
      ring = λ slot within. its.ring slot within ∙ ap (λ (l : List ℕ). Some (ring_bytes (record { owner = slice_get l slot }))) owners ∙ sym (tables.ring slot within);
      backends = same_records done others one other tables.backends its.backends (up_left [] done) tables.up
          (subst (λ (up : List Server). AllByRecursion (IsRecordedUp others) up) (sym same) its.up);
    }

-- ---- each slot has an owner that is up: if no turn took a slot, its owner could be another, and the population would not be the only one

get_set_other : (xs : List ℕ) (i j x : ℕ) → i ≢ j → slice_get (slice_set xs j x) i ≡ slice_get xs i
get_set_other [] i j x other = refl
get_set_other (y ∷ xs) zero zero x other = absurd (other refl)
get_set_other (y ∷ xs) zero (suc j) x other = refl
get_set_other (y ∷ xs) (suc i) zero x other = refl
get_set_other (y ∷ xs) (suc i) (suc j) x other = get_set_other xs i j x (λ same. other (ap suc same))

get_set_same : (xs : List ℕ) (j x : ℕ) → j < length xs → slice_get (slice_set xs j x) j ≡ Some x
get_set_same [] j x within = absurd (omega (arith, within))
get_set_same (y ∷ xs) zero x within = refl
get_set_same (y ∷ xs) (suc j) x within = get_set_same xs j x (omega (arith, within))

get_within : (xs : List ℕ) (j : ℕ) → j < length xs → (x : ℕ) × (slice_get xs j ≡ Some x)
get_within [] j within = absurd (omega (arith, within))
get_within (y ∷ xs) zero within = (y, refl)
get_within (y ∷ xs) (suc j) within = get_within xs j (omega (arith, within))

abbrev has_taken : ℕ → List ℕ → Bool
has_taken slot taken = list_any (λ (one : ℕ). one == slot) taken

not_taken : (taken : List ℕ) (slot : ℕ) → has_taken slot taken ≡ false → (turn : ℕ) → turn < length taken → (slice_index taken turn == slot) ≡ false
not_taken [] slot none turn within = absurd (omega (arith, within))
not_taken (one ∷ taken) slot none zero within = first (one == slot) (has_taken slot taken) none
  where
    first : (a b : Bool) → (a || b) ≡ false → a ≡ false
    first true b is = is
    first false b is = refl
not_taken (one ∷ taken) slot none (suc turn) within = not_taken taken slot (second (one == slot) (has_taken slot taken) none) turn (omega (arith, within))
  where
    second : (a b : Bool) → (a || b) ≡ false → b ≡ false
    second true b is = absurd cc
    second false b is = is

abbrev TurnOf : List ℕ → ℕ → Type 0
TurnOf taken slot = (turn : ℕ) × (turn < length taken) × (slice_index taken turn ≡ slot)

later_turn : (one : ℕ) (taken : List ℕ) (slot : ℕ) → TurnOf taken slot → TurnOf (one ∷ taken) slot
later_turn one taken slot later = (suc later.0, (let below = later.1 in omega (arith, below)), later.2)

turn_of : (taken : List ℕ) (slot : ℕ) → has_taken slot taken ≡ true → TurnOf taken slot
turn_of [] slot has = absurd cc
turn_of (one ∷ taken) slot has = by (λ had. later_turn one taken slot (turn_of taken slot had)) (one == slot) refl has
  where
    by : (has_taken slot taken ≡ true → TurnOf (one ∷ taken) slot) → (test : Bool) → (one == slot) ≡ test → (test || has_taken slot taken) ≡ true → TurnOf (one ∷ taken) slot
    by later true is had = (0, omega arith, eqb-true one slot is)
    by later false is had = later had

module _ (size : ℕ) (backends : List Preference) (owners : List ℕ) (populated : IsPopulation size backends owners) (only : IsOnlyPopulation size backends owners) where
  all_taken : (slot : ℕ) → slot < size → has_taken slot populated.taken ≡ true
  all_taken slot within = by (has_taken slot populated.taken) refl
    where
      by : (test : Bool) → has_taken slot populated.taken ≡ test → test ≡ true
      by true is = refl
      by false is =
          let slots = populated.slots in
          let turns = populated.turns in
          let old = get_within owners slot (omega (arith, slots, within)) in
          let others : List ℕ = slice_set owners slot (old.0 + 1) in
          let also : IsPopulation size backends others = record {
            taken = populated.taken;
            turns = populated.turns;
            slots = length-set owners slot (old.0 + 1) ∙ populated.slots;
            first_free = populated.first_free;
            owned = λ turn below.
                get_set_other owners (slice_index populated.taken turn) slot (old.0 + 1) (eqb-false (slice_index populated.taken turn) slot (not_taken populated.taken slot is turn (omega (arith, turns, below))))
                ∙ populated.owned turn below;
          } in
          let changed : Some (old.0 + 1) ≡ Some old.0 =
          sym (get_set_same owners slot (old.0 + 1) (omega (arith, slots, within))) ∙ ap (λ (l : List ℕ). slice_get l slot) (only others also) ∙ old.1 in
          let next : old.0 + 1 ≡ old.0 = cc changed in
          absurd (omega (arith, next))

  owner_of_turn : (slot : ℕ) → slot < size → (turn : ℕ) × (slice_get owners slot ≡ Some (backend_of_turn backends turn).number)
  owner_of_turn slot within =
      let took = turn_of populated.taken slot (all_taken slot within) in
      let turns = populated.turns in
      let below : took.0 < size = (let inside = took.1 in omega (arith, inside, turns)) in
      (took.0, ap (slice_get owners) (sym took.2) ∙ populated.owned took.0 below)

same_number : (n : ℕ) → (n == n) ≡ true
same_number n = grind (arith, nat_tests)

found_any : (up : List Server) (number : ℕ) → list_any (has_number number) up ≡ true → (server : Server) × (find (has_number number) up ≡ Some server)
found_any [] number has = absurd cc
found_any (one ∷ up) number has = by (λ had. found_any up number had) (has_number number one) has
  where
    by : (list_any (has_number number) up ≡ true → (server : Server) × (find (has_number number) up ≡ Some server)) → (test : Bool) →
        (test || list_any (has_number number) up) ≡ true → (server : Server) × ((if test then Some one else find (has_number number) up) ≡ Some server)
    by later true had = (one, refl)
    by later false had = later had

number_there : (size : ℕ) (up : List Server) (place : ℕ) → place < length (hashed_preferences size up) →
    list_any (has_number (slice_index_or (hashed_preferences size up) place no_backend).number) up ≡ true
number_there size [] place within = absurd (omega (arith, within))
number_there size (server ∷ up) zero within = ap (λ (t : Bool). t || list_any (has_number server.number) up) (same_number server.number)
number_there size (server ∷ up) (suc place) within =
    by (has_number (slice_index_or (hashed_preferences size up) place no_backend).number server) (number_there size up place (omega (arith, within)))
  where
    by : (test : Bool) → list_any (has_number (slice_index_or (hashed_preferences size up) place no_backend).number) up ≡ true →
        (test || list_any (has_number (slice_index_or (hashed_preferences size up) place no_backend).number) up) ≡ true
    by true had = refl
    by false had = had

-- a slot's owner is up
pub record HasUpOwner (up : List Server) (owner : Option ℕ) : Type 0 where
  pub server : Server
  pub number : ℕ
  pub owner_is : owner ≡ Some number
  pub found : find (has_number number) up ≡ Some server

pub owner_up : (size : ℕ) (server : Server) (up : List Server) (owners : List ℕ) → IsTable size (server ∷ up) owners → (slot : ℕ) → slot < size →
    HasUpOwner (server ∷ up) (slice_get owners slot)
owner_up size server up owners table slot within =
    let all : List Preference = hashed_preferences size (server ∷ up) in
    let turn = owner_of_turn size all owners table.0 table.1 slot within in
    let place : ℕ = turn.0 % length all in
    let below : place < length all = mod-lt turn.0 (omega arith) in
    let found = found_any (server ∷ up) (slice_index_or all place no_backend).number (number_there size (server ∷ up) place below) in
    record { server = found.0; number = (slice_index_or all place no_backend).number; owner_is = turn.1; found = found.1 }

-- ---- what a run reads

pub owner_back : (n : ℕ) → n + 1 < 2 ^ 32 → (ring_of (ring_bytes (record { owner = Some n }))).owner ≡ Some n
owner_back n small =
    let word : number_of_bytes (take 4 (drop 0 (ring_bytes (record { owner = Some n })))) ≡ n + 1 = omega (arith, small) in
    ap owner_of word ∙ by
  where
    by : owner_of (n + 1) ≡ Some n
    by = let more : n + 1 ≡ suc n = omega arith in ap owner_of more

four_front : (xs ys : List ℕ) → length xs ≡ 4 → take 4 (xs ++ ys) ≡ xs
four_front xs ys long = ap (λ n. take n (xs ++ ys)) (sym long) ∙ take-append_seam xs ys

abbrev record_from : List ℕ → List ℕ → BackendRecord
record_from front rest = record { address = record { 0 = front }; is_up = number_of_bytes (take 4 rest) == 1 }

record_back : (address : Ipv4Address) → length address.0 ≡ 4 → backend_of (backend_bytes (record { address = address; is_up = true })) ≡ record { address = address; is_up = true }
record_back address four =
    let front : take 4 (address.0 ++ bytes_of_number 4 1) ≡ address.0 = four_front address.0 (bytes_of_number 4 1) four in
    let rest : drop 4 (address.0 ++ bytes_of_number 4 1) ≡ bytes_of_number 4 1 =
    ap (λ n. drop n (address.0 ++ bytes_of_number 4 1)) (sym four) ∙ drop-append_seam address.0 (bytes_of_number 4 1) in
    ap (λ (l : List ℕ). record_from l (drop 4 (address.0 ++ bytes_of_number 4 1))) front ∙ ap (record_from address.0) rest

-- the rule's choice where no note decides
chosen : (size : ℕ) (now : MapsAt) (frame : List ℕ) (vip : VipRecord) (choice : Choice) (sent : IsSentByTable size now frame vip choice) →
    choice ≡ unwrap_or (choice_of (not vip.is_notrack) (owner_of_flow size now frame)) Drop
chosen size now frame vip choice sent =
    sent.steered.with_flow sent.has_flow
    ∙ ap (λ (vips : Option VipRecord). choice_for_service (fits_tunnel frame) sent.records vips) sent.service
    ∙ ap (λ (test : Bool). if not test then Drop else (if not (is_set_up sent.records.tunnel) then Drop
    else unwrap_or (tracked_choice vip sent.records) (unwrap_or (choice_of (not vip.is_notrack) sent.records.slot) Drop))) sent.fits
    ∙ ap (λ (test : Bool). if not test then Drop else unwrap_or (tracked_choice vip sent.records) (unwrap_or (choice_of (not vip.is_notrack) sent.records.slot) Drop)) sent.set_up
    ∙ ap (λ (noted : Option Choice). unwrap_or noted (unwrap_or (choice_of (not vip.is_notrack) sent.records.slot) Drop)) sent.no_note
    ∙ ap (λ (slot : Option Assigned). unwrap_or (choice_of (not vip.is_notrack) slot) Drop) sent.slot_read

module _ (size : ℕ) (done : List Action) (now : MapsAt) (tables : AreTablesAtEnd size done now) (some : 0 < size) where
  slot_owner : (up : List Server) → IsTable size up tables.owners → AllByRecursion (IsRecordedUp done) up → (slot : ℕ) → slot < size → (vip : VipRecord) →
      unwrap_or (choice_of (not vip.is_notrack) (assigned_in now (owner_in (value_at now Ring (bytes_of_number 4 slot))))) Drop
      ≡ sent_to vip (server_of up (slice_get tables.owners slot))
  slot_owner [] table all slot within vip =
      let owner : slice_get tables.owners slot ≡ None = ap (λ (l : List ℕ). slice_get l slot) table in
      ap (λ (value : Option (List ℕ)). unwrap_or (choice_of (not vip.is_notrack) (assigned_in now (owner_in value))) Drop)
      (tables.ring slot within ∙ ap (λ (o : Option ℕ). Some (ring_bytes (record { owner = o }))) owner)
      ∙ ap (λ (o : Option ℕ). sent_to vip (server_of [] o)) (sym owner)
  slot_owner (first ∷ up) table all slot within vip =
      let has = owner_up size first up tables.owners table slot within in
      let one = found_one (IsRecordedUp done) (has_number has.number) (first ∷ up) has.server has.found all in
      let at : has.server.number ≡ has.number = eqb-true has.server.number has.number one.0 in
      let few : has.number < 256 = subst (λ n. n < 256) at one.1.few in
      let recorded : record_left has.number no_record done ≡ record { address = has.server.address; is_up = true } =
      ap (λ n. record_left n no_record done) (sym at) ∙ one.1.recorded in
      let read : value_at now Backends (bytes_of_number 4 has.number) ≡ Some (backend_bytes (record { address = has.server.address; is_up = true })) =
      tables.backends has.number few ∙ ap (λ (r : BackendRecord). Some (backend_bytes r)) recorded in
      ap (λ (value : Option (List ℕ)). unwrap_or (choice_of (not vip.is_notrack) (assigned_in now (owner_in value))) Drop)
      (tables.ring slot within ∙ ap (λ (o : Option ℕ). Some (ring_bytes (record { owner = o }))) has.owner_is)
      ∙ ap (λ (o : Option ℕ). unwrap_or (choice_of (not vip.is_notrack) (assigned_in now o)) Drop) (owner_back has.number (omega (arith, few)))
      ∙ ap (λ (value : Option (List ℕ)). unwrap_or (choice_if_up has.number (not vip.is_notrack) (option_map backend_of value)) Drop) read
      ∙ ap (λ (r : BackendRecord). unwrap_or (choice_if_up has.number (not vip.is_notrack) (Some r)) Drop) (record_back has.server.address one.1.address)
      ∙ ap (λ (n : ℕ). Tx n has.server.address (not vip.is_notrack)) (sym at)
      ∙ ap (sent_to vip) (sym has.found)
      ∙ ap (λ (o : Option ℕ). sent_to vip (server_of (first ∷ up) o)) (sym has.owner_is)

pub flow_slot : (size : ℕ) (frame : List ℕ) → 0 < size → slot_of_flow size frame < size
flow_slot size frame some = mod-lt (fnv1a64_of (flow_bytes_of frame)) some

pub owners_are_sent_to : OwnersAreSentTo
owners_are_sent_to size done now tables frame vip choice some sent =
    chosen size now frame vip choice sent
    ∙ slot_owner size done now tables some (up_left [] done) tables.table tables.up (slot_of_flow size frame) (flow_slot size frame some) vip

some_owner : (size : ℕ) (up : List Server) (owners : List ℕ) → IsTable size up owners → up ≢ [] → (slot : ℕ) → slot < size →
    (server : Server) × (server_of up (slice_get owners slot) ≡ Some server)
some_owner size [] owners table some slot within = absurd (some refl)
some_owner size (first ∷ up) owners table some slot within =
    let has = owner_up size first up owners table slot within in
    (has.server, ap (server_of (first ∷ up)) has.owner_is ∙ has.found)

pub some_are_sent_to : SomeAreSentTo
some_are_sent_to size done now tables some slot within = some_owner size (up_left [] done) tables.owners tables.table some slot within

no_note : (vip : VipRecord) (records : Records) → records.tracked ≡ None → tracked_choice vip records ≡ None
no_note vip records none = by vip.is_notrack
  where
    by : (test : Bool) → (if test then None else choice_of false records.tracked) ≡ None
    by true = refl
    by false = ap (choice_of false) none

abbrev records_of : ℕ → MapsAt → List ℕ → VipRecord → TunnelRecord → Records
records_of size now frame vip tunnel = record { vip = Some vip; tunnel = Some tunnel; tracked = None; slot = owner_of_flow size now frame }

pub frames_are_sent : FramesAreSent
frames_are_sent size now frame vip tunnel has fits ready = (
  choice_for_service (fits_tunnel frame) (records_of size now frame vip tunnel) (Some vip),
  record {
    records = records_of size now frame vip tunnel;
    steered = record { without_flow = λ none. absurd (none has); with_flow = λ flow. refl };
    has_flow = has;
    fits = fits;
    service = refl;
    set_up = ready;
    no_note = no_note vip (records_of size now frame vip tunnel) refl;
    slot_read = refl;
  },
)

pub strangers_agree : StrangersAgree
strangers_agree size done others one other some tables its same frame vip choice choice' sent also =
    let owners : its.owners ≡ tables.owners =
    one_table size (up_left [] done) tables.owners its.owners tables.table (subst (λ (up : List Server). IsTable size up its.owners) (sym same) its.table) in
    owners_are_sent_to size others other its frame vip choice' some also
    ∙ ap (λ (up : List Server). sent_to vip (server_of up (slice_get its.owners (slot_of_flow size frame)))) (sym same)
    ∙ ap (λ (l : List ℕ). sent_to vip (server_of (up_left [] done) (slice_get l (slot_of_flow size frame)))) owners
    ∙ sym (owners_are_sent_to size done one tables frame vip choice some sent)

-- ---- what moves

pub left_both : (up : List Server) (done : List Action) (action : Action) → up_left up (done ++ action ∷ []) ≡ up_after (up_left up done) action
left_both up [] action = refl
left_both up (first ∷ done) action = left_both (up_after up first) done action

-- an owner and who it is among those that are up
pub record IsOwned (up : List Server) (owner : Option ℕ) (found : Option Server) : Type 0 where
  pub empty : owner ≡ None → found ≡ None
  pub known : (number : ℕ) → owner ≡ Some number → (server : Server) × (found ≡ Some server) × (server.number ≡ number)

all_servers : (up : List Server) → AllByRecursion (λ (server : Server). Unit {0}) up
all_servers [] = tt
all_servers (server ∷ up) = (tt, all_servers up)

pub is_owned : (size : ℕ) (up : List Server) (owners : List ℕ) → IsTable size up owners → (slot : ℕ) → slot < size →
    IsOwned up (slice_get owners slot) (server_of up (slice_get owners slot))
is_owned size [] owners table slot within =
    let owner : slice_get owners slot ≡ None = ap (λ (l : List ℕ). slice_get l slot) table in
    record { empty = λ none. ap (server_of []) owner; known = λ number is. absurd (let no : None ≡ Some number = sym owner ∙ is in cc) }
is_owned size (first ∷ up) owners table slot within =
    let has = owner_up size first up owners table slot within in
    let it : server_of (first ∷ up) (slice_get owners slot) ≡ Some has.server = ap (server_of (first ∷ up)) has.owner_is ∙ has.found in
    let at = (found_one (λ (server : Server). Unit {0}) (has_number has.number) (first ∷ up) has.server has.found (all_servers (first ∷ up))).0 in
    record {
      empty = λ none. absurd (let no : None ≡ Some has.number = sym none ∙ has.owner_is in cc);
      known = λ number is. (has.server, it, eqb-true has.server.number has.number at ∙ (let same : Some has.number ≡ Some number = sym has.owner_is ∙ is in cc));
    }

find_left : (up : List Server) (number gone : ℕ) → (number == gone) ≡ false → find (has_number number) (without_backend up gone) ≡ find (has_number number) up
find_left [] number gone other = refl
find_left (one ∷ up) number gone other = by (find_left up number gone other) (one.number == gone) refl (one.number == number) refl
  where
    by : find (has_number number) (without_backend up gone) ≡ find (has_number number) up → (away : Bool) → (one.number == gone) ≡ away →
        (here : Bool) → (one.number == number) ≡ here →
        find (has_number number) (if not away then one ∷ without_backend up gone else without_backend up gone) ≡ (if here then Some one else find (has_number number) up)
    by rest true is true it =
        let a : one.number ≡ gone = eqb-true one.number gone is in
        let b : one.number ≡ number = eqb-true one.number number it in
        absurd (eqb-false number gone other (sym b ∙ a))
    by rest true is false it = rest
    by rest false is true it = ap (λ (t : Bool). if t then Some one else find (has_number number) (without_backend up gone)) it
    by rest false is false it = ap (λ (t : Bool). if t then Some one else find (has_number number) (without_backend up gone)) it ∙ rest

-- one that is found when another is gone is not that one
all_left : (up : List Server) (gone : ℕ) → AllByRecursion (λ (server : Server). has_number gone server ≡ false) (without_backend up gone)
all_left [] gone = tt
all_left (one ∷ up) gone = by (all_left up gone) (has_number gone one) refl
  where
    by : AllByRecursion (λ (server : Server). has_number gone server ≡ false) (without_backend up gone) → (away : Bool) → has_number gone one ≡ away →
        AllByRecursion (λ (server : Server). has_number gone server ≡ false) (if not away then one ∷ without_backend up gone else without_backend up gone)
    by rest true is = rest
    by rest false is = (is, rest)

left_is_other : (up : List Server) (number gone : ℕ) (server : Server) → find (has_number number) (without_backend up gone) ≡ Some server → (number == gone) ≡ false
left_is_other up number gone server found =
    let both = found_one (λ (server : Server). has_number gone server ≡ false) (has_number number) (without_backend up gone) server found (all_left up gone) in
    ap (λ n. n == gone) (sym (eqb-true server.number number both.0)) ∙ both.1

module _ (vip : VipRecord) where
  sent_number : (one other : Server) → sent_to vip (Some one) ≡ sent_to vip (Some other) → one.number ≡ other.number
  sent_number one other same = cc same

  pub same_owner : (up left : List Server) (owner later : Option ℕ) → IsOwned up owner (server_of up owner) → IsOwned left later (server_of left later) →
      sent_to vip (server_of left later) ≡ sent_to vip (server_of up owner) → later ≡ owner
  same_owner up left None None owned its same = refl
  same_owner up left (Some number) None owned its same =
      let one = owned.known number refl in absurd (let it : Drop ≡ sent_to vip (Some one.0) = same ∙ ap (sent_to vip) one.1 in cc)
  same_owner up left None (Some number) owned its same =
      let one = its.known number refl in absurd (let it : sent_to vip (Some one.0) ≡ Drop = sym (ap (sent_to vip) one.1) ∙ same in cc)
  same_owner up left (Some number) (Some other) owned its same =
      let one = owned.known number refl in
      let two = its.known other refl in
      let numbers : two.0.number ≡ one.0.number = sent_number two.0 one.0 (sym (ap (sent_to vip) two.1) ∙ same ∙ ap (sent_to vip) one.1) in
      ap Some (sym two.2 ∙ numbers ∙ one.2)

  pub same_server : (up : List Server) (gone : ℕ) (owner : Option ℕ) → IsOwned up owner (server_of up owner) →
      IsOwned (without_backend up gone) owner (server_of (without_backend up gone) owner) → server_of (without_backend up gone) owner ≡ server_of up owner
  same_server up gone None owned its = refl
  same_server up gone (Some number) owned its =
      let one = its.known number refl in find_left up number gone (left_is_other up number gone one.0 one.1)

module _ (size : ℕ) (done : List Action) (number : ℕ) (before after : MapsAt) (some : 0 < size) (tables : AreTablesAtEnd size done before)
    (its : AreTablesAtEnd size (done ++ Down number ∷ []) after) (frame : List ℕ) (vip : VipRecord) (choice later : Choice)
    (sent : IsSentByTable size before frame vip choice) (also : IsSentByTable size after frame vip later) where
  abbrev slot : ℕ
  slot = slot_of_flow size frame

  within : slot < size
  within = flow_slot size frame some

  abbrev up : List Server
  up = up_left [] done

  abbrev left : List Server
  left = without_backend up number

  left_is : up_left [] (done ++ Down number ∷ []) ≡ left
  left_is = left_both [] done (Down number)

  table : IsTable size left its.owners
  table = subst (λ (servers : List Server). IsTable size servers its.owners) left_is its.table

  first : choice ≡ sent_to vip (server_of up (slice_get tables.owners slot))
  first = owners_are_sent_to size done before tables frame vip choice some sent

  second : later ≡ sent_to vip (server_of left (slice_get its.owners slot))
  second =
      owners_are_sent_to size (done ++ Down number ∷ []) after its frame vip later some also
      ∙ ap (λ (servers : List Server). sent_to vip (server_of servers (slice_get its.owners slot))) left_is

  owned : IsOwned up (slice_get tables.owners slot) (server_of up (slice_get tables.owners slot))
  owned = is_owned size up tables.owners tables.table slot within

  also_owned : IsOwned left (slice_get its.owners slot) (server_of left (slice_get its.owners slot))
  also_owned = is_owned size left its.owners table slot within

  moved_to : later ≡ choice → slice_get its.owners slot ≡ slice_get tables.owners slot
  moved_to same = same_owner vip up left (slice_get tables.owners slot) (slice_get its.owners slot) owned also_owned (sym second ∙ same ∙ first)

  moved_from : slice_get its.owners slot ≡ slice_get tables.owners slot → later ≡ choice
  moved_from same =
      second ∙ ap (λ (o : Option ℕ). sent_to vip (server_of left o)) same
      ∙ ap (sent_to vip) (same_server vip up number (slice_get tables.owners slot) owned
      (subst (λ (o : Option ℕ). IsOwned left o (server_of left o)) same also_owned))
      ∙ sym first

pub strangers_move : StrangersMove
strangers_move size done number before after some tables its frame vip choice later sent also = (
  moved_to size done number before after some tables its frame vip choice later sent also,
  moved_from size done number before after some tables its frame vip choice later sent also,
)
