-- The updates of a controller in turn, in the words of the port's code: its fields, what contracts see of it, and what the calls before
-- said.
use Rattle.std.proofs.Common.{◌≡◌, ℕ, ◌<◌, List, [], ◌∷◌, length, Some, inl, inr, refl, sym, ap, ◌∙◌, subst}
use Rattle.std.specs.Prelude.{All, IsTrue, slice_get, ℤ, Result, Ok, Err, IfOk, OnErr}
use Rattle.std.specs.Coded.{Coded-set, coded_bool}
use Rattle.std.proofs.Math.Logic.{∥∥₁_elim, ∥∥₁_map}
use Rattle.ebpf_decode.specs.declared.map.MapDef.{MapDef}
use Rattle.semantics.specs.declared.full.JournalFull.{JournalFull}
use Rattle.semantics.specs.declared.options.Options.{Options}
use Rattle.semantics.specs.ServedCalls.{IsKeyOf}
use Rattle.shard_core.specs.JournaledShard.{JournaledShard}
use Rattle.shard_port.specs.PortView.{AreShardsOf}
use Rattle.shard_port.proofs.shared.MayAskLemmas.{at_key}
use Rattle.maglev.specs.declared.backend.Backend.{Backend as Server}
use Rattle.control.specs.declared.command.Action.{Action}
use Rattle.control.specs.declared.fault.ControlFault.{ControlFault}
use Rattle.control.specs.declared.fault.ControlFault.TheVariants.{BadSize, BadLine, UnknownBackend, BackendTwice, Refused, JournalFull as Full, Memory}
use Rattle.control.specs.declared.update.Update.{Update as Change}
use Rattle.control.specs.MapUpdates.{AreMade}
use Rattle.control.specs.Controlling.{ControllerState, IsCarriedOut, IsLeft, updates_of}
use Rattle.actors.specs.SharedUpdates.{shard_of_map_key}
use Rattle.replay.specs.InTurn.{TurnMaps, ServesTurns, may_update_at, IsUpdatedAt, IsFullAt, IsUpdatedInTurn, IsTurnedAwayInTurn}
use Rattle.replay.proofs.TurnLemmas.{ready_for, may_make}

abbrev pub turn_maps : List MapDef → Options → List JournaledShard → TurnMaps
turn_maps maps options shards = record { maps = maps; options = options; shards = shards }

-- what is known before an update of a key at the shard of a number
pub record Stands (maps : List MapDef) (options : Options) (shards : List JournaledShard) (map number : ℕ) (key value : List ℕ) : Type 0 where
  pub serves : ServesTurns maps options shards
  pub definition : MapDef
  pub known : slice_get maps map ≡ Some definition
  pub key_size : length key ≡ definition.key_size
  pub value_size : length value ≡ definition.value_size
  pub bytes : All (λ byte. byte < 256) key
  pub value_bytes : All (λ byte. byte < 256) value
  pub number_is : number ≡ shard_of_map_key maps options map key

pub stands_viewed : (maps : List MapDef) (options : Options) (shards : List JournaledShard) (now : TurnMaps) (map number : ℕ) (key value key' value' : List ℕ)
    (definition : MapDef) → turn_maps maps options shards ≡ now → ServesTurns maps options shards → slice_get now.maps map ≡ Some definition →
    length key ≡ definition.key_size → length value ≡ definition.value_size → key' ≡ key → value' ≡ value → All (λ byte. byte < 256) key' →
    All (λ byte. byte < 256) value' → number ≡ shard_of_map_key now.maps now.options map key → Stands maps options shards map number key value
stands_viewed maps options shards now map number key value key' value' definition view_is serves known key_size value_size key_is value_is bytes value_bytes is =
    record {
      serves = serves;
      definition = definition;
      known = ap (λ (all : TurnMaps). slice_get all.maps map) view_is ∙ known;
      key_size = key_size;
      value_size = value_size;
      bytes = subst (λ list. All (λ byte. byte < 256) list) key_is bytes;
      value_bytes = subst (λ list. All (λ byte. byte < 256) list) value_is value_bytes;
      number_is = is ∙ sym (ap (λ (all : TurnMaps). shard_of_map_key all.maps all.options map key) view_is);
    }

module _ {maps : List MapDef} {options : Options} {shards : List JournaledShard} {map number : ℕ} {key value : List ℕ}
    (stands : Stands maps options shards map number key value)
  where
    pub may_be_made : IsTrue (may_update_at (slice_get shards number) key value)
    may_be_made =
        subst (λ (n : ℕ). IsTrue (may_update_at (slice_get shards n) key value)) (sym stands.number_is)
        (∥∥₁_elim stands.serves.serve (Coded-set coded_bool _ _)
        (λ (are : AreShardsOf maps options shards).
        may_make maps options shards map key value stands.definition (ready_for maps options shards stands.serves.maps_are stands.serves.options_fit are)
        stands.known stands.key_size stands.value_size stands.bytes stands.value_bytes))

    defined : (one : JournaledShard) → slice_get shards (shard_of_map_key maps options map key) ≡ Some one →
        ∥ slice_get maps map ≡ Some one.plan.definition ∥₁
    defined one known =
        ∥∥₁_map stands.serves.serve
        (λ (are : AreShardsOf maps options shards).
        let of_map : IsKeyOf maps map key =
        record { definition = stands.definition; known = stands.known; key_size = stands.key_size; bytes = stands.bytes } in
        let at = at_key maps options 0 shards map key (ready_for maps options shards stands.serves.maps_are stands.serves.options_fit are) of_map in
        let same : at.shard ≡ one = cc (at.known, known) in
        at.definition ∙ ap (λ (s : JournaledShard). Some s.plan.definition) same)

    pub given : (now : TurnMaps) (shards' : List JournaledShard) → turn_maps maps options shards ≡ now → (result : Result ℤ JournalFull) →
        IfOk result (λ answer. IsUpdatedAt shards number key value answer shards') →
        IfOk result (λ answer. IsUpdatedInTurn now (record { map = map; key = key; value = value }) answer (turn_maps maps options shards'))
    given now shards' view_is (Err full) made = tt
    given now shards' view_is (Ok answer) made =
        let at : IsUpdatedAt shards (shard_of_map_key maps options map key) key value answer shards' =
        subst (λ (n : ℕ). IsUpdatedAt shards n key value answer shards') stands.number_is made in
        subst (λ (all : TurnMaps). IsUpdatedInTurn all (record { map = map; key = key; value = value }) answer (turn_maps maps options shards')) view_is (record {
          at = at;
          of_map = defined at.one at.known;
          same_maps = refl;
          same_options = refl;
        })

    pub turned_away : (now : TurnMaps) (shards' : List JournaledShard) → turn_maps maps options shards ≡ now → (result : Result ℤ JournalFull) →
        OnErr result (IsFullAt shards number key value) → OnErr result (shards' ≡ shards) →
        OnErr result (IsTurnedAwayInTurn now (record { map = map; key = key; value = value }) (turn_maps maps options shards'))
    turned_away now shards' view_is (Ok answer) full same = tt
    turned_away now shards' view_is (Err fault) full same =
        let at : IsFullAt shards (shard_of_map_key maps options map key) key value =
        subst (λ (n : ℕ). IsFullAt shards n key value) stands.number_is full in
        subst (λ (all : TurnMaps). IsTurnedAwayInTurn all (record { map = map; key = key; value = value }) (turn_maps maps options shards')) view_is (record {
          at = at;
          of_map = defined at.one at.known;
          nothing = ap (λ (list : List JournaledShard). turn_maps maps options list) same;
        })

-- ---- what a command leaves of the maps and the options

abbrev IsOfOneKind : TurnMaps → TurnMaps → Type 0
IsOfOneKind before after = (after.maps ≡ before.maps) × (after.options ≡ before.options)

one_kind : (before after : TurnMaps) → after ≡ before → IsOfOneKind before after
one_kind before after same = (ap (λ (all : TurnMaps). all.maps) same, ap (λ (all : TurnMaps). all.options) same)

made_kind : (updates : List Change) (before after : TurnMaps) → AreMade IsUpdatedInTurn before updates after → IsOfOneKind before after
made_kind [] before after made = one_kind before after (sym made)
made_kind (update ∷ later) before after made =
    let rest = made_kind later made.0 after made.2 in (rest.0 ∙ made.1.same_maps, rest.1 ∙ made.1.same_options)

pub carried_kind : (state : ControllerState) (before : TurnMaps) (firsts : List Change) (up : List Server) (state' : ControllerState) (after : TurnMaps) →
    IsCarriedOut IsUpdatedInTurn state before firsts up state' after → IsOfOneKind before after
carried_kind state before firsts up state' after whole = made_kind (updates_of state firsts whole.owners) before after whole.are_made

pub left_kind : (state : ControllerState) (before : TurnMaps) (action : Action) (state' : ControllerState) (after : TurnMaps) (fault : ControlFault) →
    IsLeft IsUpdatedInTurn IsTurnedAwayInTurn state before action state' after fault → IsOfOneKind before after
left_kind state before action state' after UnknownBackend (unchanged, is) = one_kind before after unchanged.port_is
left_kind state before action state' after BackendTwice (unchanged, is) = one_kind before after unchanged.port_is
left_kind state before action state' after (Refused answer) told = (told.answered.same_maps, told.answered.same_options)
left_kind state before action state' after Full (inl (unchanged, is)) = one_kind before after unchanged.port_is
left_kind state before action state' after Full (inr cut) =
    let made = made_kind cut.cut_short.made before cut.cut_short.middle cut.cut_short.are_made in
    let stopped = one_kind cut.cut_short.middle after cut.cut_short.is_refused.nothing in
    (stopped.0 ∙ made.0, stopped.1 ∙ made.1)
left_kind state before action state' after Memory (unchanged, is) = one_kind before after unchanged.port_is
left_kind state before action state' after BadSize left = absurd left
left_kind state before action state' after (BadLine line) left = absurd left
