-- The updates of a script's commands are ones that the shards of steering's maps serve; so the controller may look at a journal for each.
use Rattle.std.proofs.Common.{◌≡◌, ◌⊎◌, ⊎_elim, ℕ, ℤ, zero, suc, ◌+◌, ◌/◌, ◌%◌, ◌^◌, ◌<◌, ◌==◌, Bool, true, false, ◌&&◌, nat_lt, List, [], ◌∷◌, ◌++◌, length, Option, Some, None, refl, sym, ◌∙◌, ap, subst, arith}
use Rattle.std.specs.Prelude.{slice_get, slice_index, IfSome, if◌then◌else◌}
use Rattle.std.specs.List.{AllByRecursion, filter, find}
use Rattle.std.proofs.Math.Nat.{mod-lt}
use Rattle.std.proofs.lemmas.List.{length-append}
use Rattle.std.proofs.lemmas.Bool.Decides.{nat_tests}
use Rattle.wire.specs.FlowBytes.{be_bytes, protocol_number}
use Rattle.wire.specs.declared.flow.Transport.{Transport}
use Rattle.wire.specs.declared.flow.Transport.TheVariants.{Tcp, Udp}
use Rattle.ebpf_decode.specs.declared.map.MapDef.{MapDef}
use Rattle.semantics.specs.declared.call.Caller.TheVariants.{Controller}
use Rattle.semantics.specs.declared.options.Options.{Options}
use Rattle.semantics.specs.declared.plan.ShardPlan.{ShardPlan}
use Rattle.semantics.specs.LittleEndian.{bytes_of_number}
use Rattle.semantics.specs.Program.{shard_of_key}
use Rattle.semantics.specs.ShardPlan.{AreOptions}
use Rattle.semantics.specs.History.{are_bytes, meets}
use Rattle.semantics.proofs.shared.ConditionLemmas.{tested_bytes}
use Rattle.semantics.proofs.shared.HoldingLemmas.{each_find}
use Rattle.shards.specs.SharedMaps.{ArePlans}
use Rattle.shards.proofs.shared.Keys.{at_key, IsAtKey}
use Rattle.maglev.specs.declared.backend.Backend.{Backend as Server}
use Rattle.conntrack.specs.SteeringMaps.{sized_maps, AreSteeringMaps}
use Rattle.conntrack.specs.Layouts.{flag_number, owner_word}
use Rattle.control.specs.declared.command.Action.{Action}
use Rattle.control.specs.declared.command.Action.TheVariants as actions
use Rattle.control.specs.declared.command.Command.{Command}
use Rattle.control.specs.declared.fault.ControlFault.{ControlFault}
use Rattle.control.specs.declared.fault.ControlFault.TheVariants.{BadSize, BadLine, UnknownBackend, BackendTwice, Refused, JournalFull, Memory}
use Rattle.control.specs.declared.ring_changes.Slot.{Slot}
use Rattle.control.specs.declared.update.Update.{Update as Change}
use Rattle.control.specs.declared.update.Update.TheVariants.{Vip, Ring, Backend, Tunnel}
use Rattle.control.specs.MapUpdates.{UpdateBytes, map_update}
use Rattle.control.specs.RingChanges.{changes_below, slot_updates}
use Rattle.control.specs.ScriptText.{AreBytesOfLength as HasBytes, ActionFits, CommandFits}
use Rattle.control.specs.Controlling.{ControllerState, has_number, up_after, down_update, first_updates, updates_of}
use Rattle.actors.specs.declared.outcome.Applied.{Applied}
use Rattle.actors.specs.SharedUpdates.{shard_of}
use Rattle.actors.specs.Commands.{CommandDone, IsDoneBy, AreDone, AreNotedOf, IsFullyDone, IsNothing, IsTurnedDown, IsCutShort}
use Rattle.guarantees.specs.ReplayOf.{call_of_shared_update}
use Rattle.actors.proofs.shared.EveryEntry.{all_both, all_parts}

-- ---- bytes, as a test

and_true : (a b : Bool) → a ≡ true → b ≡ true → (a && b) ≡ true
and_true true b is also = also
and_true false b is also = absurd cc

parts_true : (a b : Bool) → (a && b) ≡ true → (a ≡ true) × (b ≡ true)
parts_true true b is = (refl, is)
parts_true false b is = absurd cc

bytes_both : (one other : List ℕ) → are_bytes one ≡ true → are_bytes other ≡ true → are_bytes (one ++ other) ≡ true
bytes_both [] other is also = also
bytes_both (byte ∷ one) other is also =
    let parts = parts_true (nat_lt byte 256) (are_bytes one) is in
    and_true (nat_lt byte 256) (are_bytes (one ++ other)) parts.0 (bytes_both one other parts.1 also)

below_test : (byte : ℕ) → byte < 256 → nat_lt byte 256 ≡ true
below_test byte below = grind (arith, nat_tests)

number_bytes : (count number : ℕ) → are_bytes (bytes_of_number count number) ≡ true
number_bytes zero number = refl
number_bytes (suc count) number =
    and_true (nat_lt (number % 256) 256) (are_bytes (bytes_of_number count (number / 256))) (below_test (number % 256) (mod-lt number (omega arith)))
    (number_bytes count (number / 256))

port_bytes : (port : ℕ) → port < 2 ^ 16 → are_bytes (be_bytes port) ≡ true
port_bytes port below =
    let high : port / 256 < 256 = omega (arith, below) in
    and_true (nat_lt (port / 256) 256) (are_bytes (port % 256 ∷ [])) (below_test (port / 256) high)
    (and_true (nat_lt (port % 256) 256) true (below_test (port % 256) (mod-lt port (omega arith))) refl)

protocol_bytes : (transport : Transport) → are_bytes (protocol_number transport ∷ 0 ∷ []) ≡ true
protocol_bytes Tcp = refl
protocol_bytes Udp = refl

-- this many bytes
record AreBytes (size : ℕ) (bytes : List ℕ) : Type 0 where
  sized : length bytes ≡ size
  tested : are_bytes bytes ≡ true

each_tested : (bytes : List ℕ) → ((place : ℕ) → place < length bytes → slice_index bytes place < 256) → are_bytes bytes ≡ true
each_tested [] each = refl
each_tested (byte ∷ bytes) each =
    and_true (nat_lt byte 256) (are_bytes bytes) (below_test byte (each zero (omega arith)))
    (each_tested bytes (λ place below. each (suc place) (omega (arith, below))))

of_bytes : (size : ℕ) (bytes : List ℕ) → HasBytes size bytes → AreBytes size bytes
of_bytes size bytes has = record {
  sized = has.long;
  tested = each_tested bytes (λ place below. has.each place (let long = has.long in omega (arith, long, below)));
}

-- ---- what a change puts into a map

abbrev IsSizedChange : Change → Type 0
IsSizedChange (Vip service vip) = AreBytes 4 service.address.0 × (service.port < 2 ^ 16)
IsSizedChange (Ring slot ring) = Unit {0}
IsSizedChange (Backend number backend) = AreBytes 4 backend.address.0
IsSizedChange (Tunnel tunnel) = AreBytes 4 tunnel.source.0 × AreBytes 6 tunnel.source_mac.0 × AreBytes 6 tunnel.destination_mac.0

record Fits (maps : List MapDef) (update : UpdateBytes) : Type 0 where
  definition : MapDef
  known : slice_get maps update.map ≡ Some definition
  key_size : length update.key ≡ definition.key_size
  value_size : length update.value ≡ definition.value_size
  key_bytes : are_bytes update.key ≡ true
  value_bytes : are_bytes update.value ≡ true

key_sized : (address port last : List ℕ) → length address ≡ 4 → length port ≡ 2 → length last ≡ 2 → length (address ++ port ++ last) ≡ 8
key_sized address port last four two also =
    let a = length-append (address ++ port) last in
    let b = length-append address port in
    omega (arith, a, b, four, two, also)

tunnel_sized : (source mac other flag last : List ℕ) → length source ≡ 4 → length mac ≡ 6 → length other ≡ 6 → length flag ≡ 4 → length last ≡ 4 →
    length (source ++ mac ++ other ++ flag ++ last) ≡ 24
tunnel_sized source mac other flag last four six also word zeros =
    let a = length-append (source ++ mac ++ other ++ flag) last in
    let b = length-append (source ++ mac ++ other) flag in
    let c = length-append (source ++ mac) other in
    let d = length-append source mac in
    omega (arith, a, b, c, d, four, six, also, word, zeros)

fits : (notes size : ℕ) (change : Change) → IsSizedChange change → Fits (sized_maps notes size) (map_update change)
fits notes size (Vip service vip) sized =
    let address = sized.0 in
    record {
      definition = _;
      known = refl;
      key_size = key_sized service.address.0 (be_bytes service.port) (protocol_number service.transport ∷ 0 ∷ []) address.sized refl refl;
      value_size = refl;
      key_bytes = bytes_both (service.address.0 ++ be_bytes service.port) (protocol_number service.transport ∷ 0 ∷ [])
          (bytes_both service.address.0 (be_bytes service.port) address.tested (port_bytes service.port sized.1))
          (protocol_bytes service.transport);
      value_bytes = bytes_both (bytes_of_number 4 (flag_number vip.is_notrack)) (0 ∷ 0 ∷ 0 ∷ 0 ∷ []) (number_bytes 4 (flag_number vip.is_notrack)) refl;
    }
fits notes size (Ring slot ring) sized = record {
  definition = _;
  known = refl;
  key_size = refl;
  value_size = refl;
  key_bytes = number_bytes 4 slot;
  value_bytes = bytes_both (bytes_of_number 4 (owner_word ring.owner)) (0 ∷ 0 ∷ 0 ∷ 0 ∷ []) (number_bytes 4 (owner_word ring.owner)) refl;
}
fits notes size (Backend number backend) sized = record {
  definition = _;
  known = refl;
  key_size = refl;
  value_size = length-append backend.address.0 (bytes_of_number 4 (flag_number backend.is_up)) ∙ ap (λ n. n + 4) sized.sized;
  key_bytes = number_bytes 4 number;
  value_bytes = bytes_both backend.address.0 (bytes_of_number 4 (flag_number backend.is_up)) sized.tested (number_bytes 4 (flag_number backend.is_up));
}
fits notes size (Tunnel tunnel) sized =
    let flag : List ℕ = bytes_of_number 4 (flag_number tunnel.is_ready) in
    let zeros : List ℕ = 0 ∷ 0 ∷ 0 ∷ 0 ∷ [] in
    let both : List ℕ = tunnel.source.0 ++ tunnel.source_mac.0 in
    let all : List ℕ = both ++ tunnel.destination_mac.0 in
    record {
      definition = _;
      known = refl;
      key_size = refl;
      value_size = tunnel_sized tunnel.source.0 tunnel.source_mac.0 tunnel.destination_mac.0 flag zeros sized.0.sized sized.1.sized sized.2.sized refl refl;
      key_bytes = number_bytes 4 0;
      value_bytes = bytes_both (all ++ flag) zeros
          (bytes_both all flag
          (bytes_both both tunnel.destination_mac.0
          (bytes_both tunnel.source.0 tunnel.source_mac.0 sized.0.tested sized.1.tested)
          sized.2.tested)
          (number_bytes 4 (flag_number tunnel.is_ready))) refl;
    }

-- ---- so its shard serves it

same_test : (a b : ℕ) → a ≡ b → (a == b) ≡ true
same_test a b same = grind (arith, nat_tests)

-- the controller may make the call, whatever has happened
abbrev pub IsAskable : (ℕ → ShardPlan) → List MapDef → Options → UpdateBytes → Type 0
IsAskable plan maps options update = meets (plan (shard_of maps options update)) [] Controller (call_of_shared_update maps options update) ≡ true

askable : (plan : ℕ → ShardPlan) (maps : List MapDef) (options : Options) (count : ℕ) → ArePlans maps options count plan → AreOptions maps options →
    (update : UpdateBytes) → Fits maps update → IsAskable plan maps options update
askable plan maps options count plans fit update is =
    let of_key : ℕ = shard_of_key update.map is.definition.kind options.shards update.key in
    let same : of_key ≡ shard_of maps options update = rw is.known refl in
    let at : IsAtKey maps options count plan of_key is.definition update.key =
    at_key maps options count plan update.map is.definition update.key plans fit is.known is.key_size (tested_bytes update.key is.key_bytes) in
    let here : IsAtKey maps options count plan (shard_of maps options update) is.definition update.key =
    subst (λ (number : ℕ). IsAtKey maps options count plan number is.definition update.key) same at in
    let sized : length update.value ≡ (plan (shard_of maps options update)).definition.value_size =
    is.value_size ∙ ap (λ (one : MapDef). one.value_size) (sym here.is.defined) in
    and_true _ _ (same_test _ _ (sym here.is.numbered))
    (and_true _ _ here.own_key (and_true _ _ (and_true _ _ (same_test _ _ sized) is.value_bytes) refl))

-- ---- the controller's own state

abbrev AreSized : List Server → Type 0
AreSized up = AllByRecursion (λ (server : Server). AreBytes 4 server.address.0) up

kept : (test : Server → Bool) (up : List Server) → AreSized up → AreSized (filter test up)
kept test [] all = tt
kept test (server ∷ up) all = by_test (test server) (kept test up all.1) all.0
  where
    by_test : (passes : Bool) → AreSized (filter test up) → AreBytes 4 server.address.0 →
        AreSized (if passes then server ∷ filter test up else filter test up)
    by_test true rest first = (first, rest)
    by_test false rest first = rest

up_sized : (up : List Server) (action : Action) → AreSized up → ActionFits action → AreSized (up_after up action)
unfolding ActionFits
up_sized up (actions.Vip service is_notrack) all sized = all
up_sized up (actions.Up number address) all sized =
    all_both (λ (server : Server). AreBytes 4 server.address.0) (filter (λ (other : Server). nat_lt other.number number) up)
    (record { number = number; address = address } ∷ filter (λ (other : Server). nat_lt number other.number) up)
    (kept (λ (other : Server). nat_lt other.number number) up all) (of_bytes 4 address.0 sized.1, kept (λ (other : Server). nat_lt number other.number) up all)
up_sized up (actions.Down number) all sized = kept _ up all
up_sized up (actions.Gateway source source_mac destination_mac) all sized = all

down_sized : (up : List Server) (number : ℕ) (found : Option Server) → find (has_number number) up ≡ found → AreSized up →
    AllByRecursion IsSizedChange (down_update found)
down_sized up number (Some server) is all = (each_find (λ (one : Server). AreBytes 4 one.address.0) (has_number number) up server all is, tt)
down_sized up number None is all = tt

firsts_sized : (up : List Server) (action : Action) → AreSized up → ActionFits action → AllByRecursion IsSizedChange (first_updates up action)
unfolding ActionFits
firsts_sized up (actions.Vip service is_notrack) all sized = ((of_bytes 4 service.address.0 sized.0, sized.1), tt)
firsts_sized up (actions.Up number address) all sized = (of_bytes 4 address.0 sized.1, tt)
firsts_sized up (actions.Down number) all sized = down_sized up number (find (has_number number) up) refl all
firsts_sized up (actions.Gateway source source_mac destination_mac) all sized =
    ((of_bytes 4 source.0 sized.0, of_bytes 6 source_mac.0 sized.1, of_bytes 6 destination_mac.0 sized.2), tt)

slots_sized : (slots : List Slot) → AllByRecursion IsSizedChange (slot_updates slots)
slots_sized [] = tt
slots_sized (slot ∷ slots) = (tt, slots_sized slots)

-- ---- every command

module _ (plan : ℕ → ShardPlan) (options : Options) (count notes size : ℕ) (plans : ArePlans (sized_maps notes size) options count plan)
    (fit : AreOptions (sized_maps notes size) options) where
  abbrev MayLook : CommandDone → Type 0
  MayLook one = IfSome one.stopped (IsAskable plan (sized_maps notes size) options)

  not_stopped : (one : CommandDone) → one.stopped ≡ None → MayLook one
  not_stopped one none = subst (λ (stopped : Option UpdateBytes). IfSome stopped (IsAskable plan (sized_maps notes size) options)) (sym none) tt

  -- what a command leaves
  record Leaves (one : CommandDone) (state' : ControllerState) : Type 0 where
    may : MayLook one
    up : AreSized state'.up

  nothing : (state : ControllerState) (one : CommandDone) (state' : ControllerState) → AreSized state.up → IsNothing state one state' → Leaves one state'
  nothing state one state' all is = record {
    may = not_stopped one is.not_stopped;
    up = subst (λ (here : ControllerState). AreSized here.up) (sym is.state_is) all;
  }

  carried_out : (state : ControllerState) (one : CommandDone) (state' : ControllerState) → AreSized state.up → ActionFits one.action →
      IsFullyDone state one state' → Leaves one state'
  carried_out state one state' all sized is = record {
    may = not_stopped one is.not_stopped;
    up = subst (λ (here : ControllerState). AreSized here.up) (sym is.state_is) (up_sized state.up one.action all sized);
  }

  turned_down : (state : ControllerState) (one : CommandDone) (answer : ℤ) (state' : ControllerState) → AreSized state.up →
      IsTurnedDown state one answer state' → Leaves one state'
  turned_down state one answer state' all is = record {
    may = not_stopped one is.not_stopped;
    up = subst (λ (here : ControllerState). AreSized here.up) (sym is.state_is) all;
  }

  cut_short : (state : ControllerState) (one : CommandDone) (state' : ControllerState) → AreSized state.up → ActionFits one.action →
      IsCutShort state one state' → Leaves one state'
  cut_short state one state' all sized is =
      let updates : AllByRecursion IsSizedChange (updates_of state (first_updates state.up one.action) is.owners) =
      all_both IsSizedChange (first_updates state.up one.action) (slot_updates (changes_below state.owners is.owners state.size))
      (firsts_sized state.up one.action all sized) (slots_sized (changes_below state.owners is.owners state.size)) in
      let parts = all_parts IsSizedChange is.begun (is.next ∷ is.later) (subst (AllByRecursion IsSizedChange) is.in_order updates) in
      record {
        may = subst (λ (stopped : Option UpdateBytes). IfSome stopped (IsAskable plan (sized_maps notes size) options)) (sym is.stopped)
            (askable plan (sized_maps notes size) options count plans fit (map_update is.next) (fits notes size is.next parts.1.0));
        up = subst (λ (here : ControllerState). AreSized here.up) (sym is.state_is) all;
      }

  done_by : (fault : Option ControlFault) (state : ControllerState) (one : CommandDone) (state' : ControllerState) → AreSized state.up →
      ActionFits one.action → IsDoneBy fault state one state' → Leaves one state'
  done_by None state one state' all sized did = carried_out state one state' all sized did
  done_by (Some UnknownBackend) state one state' all sized did = nothing state one state' all did.0
  done_by (Some BackendTwice) state one state' all sized did = nothing state one state' all did.0
  done_by (Some (Refused answer)) state one state' all sized did = turned_down state one answer state' all did
  done_by (Some JournalFull) state one state' all sized did =
      ⊎_elim (λ is. nothing state one state' all is.0) (λ is. cut_short state one state' all sized is) did
  done_by (Some Memory) state one state' all sized did = nothing state one state' all did.0
  done_by (Some BadSize) state one state' all sized did = absurd did
  done_by (Some (BadLine line)) state one state' all sized did = absurd did

  sized_at : (script : List Command) (number : ℕ) (command : Command) → AllByRecursion CommandFits script → slice_get script number ≡ Some command →
      CommandFits command
  sized_at [] number command all known = absurd cc
  sized_at (first ∷ script) zero command all known = let same : first ≡ command = cc known in subst CommandFits same all.0
  sized_at (first ∷ script) (suc number) command all known = sized_at script number command all.1 known

  all_may : (script : List Command) → AllByRecursion CommandFits script → (noted : List Applied) (done : List CommandDone) → AreNotedOf script noted done →
      (state state' : ControllerState) → AreDone state done state' → AreSized state.up → AllByRecursion MayLook done
  all_may script sized [] [] are state state' is all = tt
  all_may script sized (noted ∷ more) (one ∷ later) are state state' is all =
      let action : ActionFits one.action =
      subst ActionFits (sym are.0.action) (sized_at script noted.command are.0.command sized are.0.known).action in
      let left = done_by one.fault state one is.0 all action is.1.did in
      (left.may, all_may script sized more later are.1 is.0 state' is.2 left.up)
  all_may script sized [] (one ∷ later) are state state' is all = absurd are
  all_may script sized (noted ∷ more) [] are state state' is all = absurd are

-- and a script without commands asks nothing
none_may : (plan : ℕ → ShardPlan) (maps : List MapDef) (options : Options) (noted : List Applied) (done : List CommandDone) → AreNotedOf [] noted done →
    AllByRecursion (λ (one : CommandDone). IfSome one.stopped (IsAskable plan maps options)) done
none_may plan maps options [] [] are = tt
none_may plan maps options (noted ∷ more) (one ∷ later) are = absurd (let known = are.0.known in cc)
none_may plan maps options [] (one ∷ later) are = absurd are
none_may plan maps options (noted ∷ more) [] are = absurd are

pub commands_may_look : (plan : ℕ → ShardPlan) (maps : List MapDef) (options : Options) (count size : ℕ) → ArePlans maps options count plan →
    AreOptions maps options → (script : List Command) → AllByRecursion CommandFits script → ((script ≡ []) ⊎ AreSteeringMaps size maps) →
    (noted : List Applied) (done : List CommandDone) → AreNotedOf script noted done → (state state' : ControllerState) → AreDone state done state' →
    state.up ≡ [] → AllByRecursion (λ (one : CommandDone). IfSome one.stopped (IsAskable plan maps options)) done
commands_may_look plan maps options count size plans fit script sized serves noted done are state state' is none = ⊎_elim
    (λ empty. none_may plan maps options noted done (subst (λ (list : List Command). AreNotedOf list noted done) empty are))
    (λ steering.
    subst (λ (list : List MapDef). AllByRecursion (λ (one : CommandDone). IfSome one.stopped (IsAskable plan list options)) done) (sym steering.maps_are)
    (all_may plan options count steering.notes size (subst (λ (list : List MapDef). ArePlans list options count plan) steering.maps_are plans)
    (subst (λ (list : List MapDef). AreOptions list options) steering.maps_are fit) script sized noted done are state state' is
    (subst AreSized (sym none) tt)))
    serves
