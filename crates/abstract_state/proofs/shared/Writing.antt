-- A register that is written, and a slot that grows.
use Rattle.std.proofs.Common.{◌≡◌, inl, inr, ℕ, ◌+◌, ◌*◌, ◌<◌, ◌≤◌, List, length, refl, sym, ◌∙◌, ap, arith}
use Rattle.std.specs.Prelude.{pos, slice_get, slice_index_or, slice_set, IsTrue}
use Rattle.std.proofs.lemmas.Grind.{get_or-set_at}
use Rattle.std.proofs.lemmas.List.{get_or-set_other, length-set}
use Rattle.std.proofs.lemmas.Bool.{cases_eq}
use Rattle.std.proofs.Math.Logic.{⊎_elim}
use Rattle.isa.specs.declared.operation.Register.{Register}
use Rattle.isa.specs.declared.operation.Register.TheVariants.{R0, R1, R2, R3, R4, R5, R6, R7, R8, R9, R10}
use Rattle.ebpf_decode.specs.declared.map.MapDef.{MapDef}
use Rattle.isa.specs.InstructionCodes.{register_number}
use Rattle.semantics.specs.RegisterValue.{RegisterValue, Uninitialized, PacketPointer}
use Rattle.semantics.specs.MachineState.{MachineState, StackByte, register_value, with_register}
use Rattle.abstract_state.specs.declared.kind.Kind.{Kind}
use Rattle.abstract_state.specs.declared.kind.Offsets.{Offsets}
use Rattle.abstract_state.specs.Places.{at_offset}
use Rattle.abstract_state.specs.declared.kind.Kind.TheVariants.{Unset, Scalar, Ctx, Stack, Packet, PacketEnd, Map, ValueOrNull, Value}
use Rattle.abstract_state.specs.declared.kind.StackWord.{StackWord}
use Rattle.abstract_state.specs.declared.kind.StackWord.TheVariants.{Spilled, Bytes}
use Rattle.abstract_state.specs.declared.state.State.{State}
use Rattle.abstract_state.specs.States.{kind_of, with_kind, word_of}
use Rattle.abstract_state.specs.Soundness.{HoldingMoreIsSound}
use Rattle.abstract_state.specs.Abstraction.{Ids, Held, KindScope, KindCovers, IsNoCellFound, IsLiveCell, IsPacketPlace, WordCovers, places_of, kind_scope_of, Abstracts}

pub number_below : (register : Register) → register_number register < 11
number_below R0 = omega arith
number_below R1 = omega arith
number_below R2 = omega arith
number_below R3 = omega arith
number_below R4 = omega arith
number_below R5 = omega arith
number_below R6 = omega arith
number_below R7 = omega arith
number_below R8 = omega arith
number_below R9 = omega arith
number_below R10 = omega arith

-- what is known in one setting is known in another: of what more slots were passed, more may be held, and ids of the later slots
-- may have come
pub record Extends (s t : KindScope) : Type 0 where
  pub maps : t.maps ≡ s.maps
  pub held : (map shard cell : ℕ) → IsTrue (s.held map shard cell) → IsTrue (t.held map shard cell)
  pub base : (id : ℕ) → id < s.slot → t.ids.base id ≡ s.ids.base id
  pub found : (id : ℕ) → id < s.slot → t.ids.found id ≡ s.ids.found id
  pub slot : s.slot ≤ t.slot
  pub generation : t.generation ≡ s.generation
  pub size : t.size ≡ s.size

live_later : (s t : KindScope) → Extends s t → (map id : ℕ) (off : Offsets) (v : RegisterValue) → IsLiveCell s map id off v → IsLiveCell t map id off v
live_later s t e map id off v c = record {
  cell = c.cell;
  found = e.found id c.earlier ∙ c.found;
  at = c.at;
  least = c.least;
  most = c.most;
  is = c.is;
  held = e.held map c.cell.shard c.cell.id c.held;
  earlier = let p : id < s.slot = c.earlier in let q : s.slot ≤ t.slot = e.slot in omega arith;
}

no_cell_later : (s t : KindScope) → Extends s t → (id : ℕ) (v : RegisterValue) → IsNoCellFound s id v → IsNoCellFound t id v
no_cell_later s t e id v c = record {
  found = e.found id c.earlier ∙ c.found;
  is = c.is;
  earlier = let p : id < s.slot = c.earlier in let q : s.slot ≤ t.slot = e.slot in omega arith;
}

packet_later : (s t : KindScope) → Extends s t → (id off range : ℕ) (v : RegisterValue) → IsPacketPlace s id off range v → IsPacketPlace t id off range v
packet_later s t e id off range v c =
    let same : t.ids.base id ≡ s.ids.base id = e.base id c.earlier
    in record {
      is = c.is ∙ sym (ap (λ g. PacketPointer g (pos (t.ids.base id + off))) e.generation ∙ ap (λ b. PacketPointer s.generation (pos (b + off))) same);
      reached = λ h. rw (same, e.size) (c.reached h);
      near = c.near;
      earlier = let p : id < s.slot = c.earlier in let q : s.slot ≤ t.slot = e.slot in omega arith;
    }

pub covers_later : (s t : KindScope) → Extends s t → (kind : Kind) (v : RegisterValue) → KindCovers s kind v → KindCovers t kind v
covers_later s t e Unset v c = tt
covers_later s t e (Scalar i) v c = c
covers_later s t e Ctx v c = c
covers_later s t e (Stack place) v c = c
covers_later s t e (Packet id off range) v c = packet_later s t e id off range v c
covers_later s t e PacketEnd v c = rw e.generation c
covers_later s t e (Map map) v c = record { is = c.is; definition = c.definition; known = ap (λ maps. slice_get maps map) e.maps ∙ c.known }
covers_later s t e (ValueOrNull map id) v (inl c) = inl (no_cell_later s t e id v c)
covers_later s t e (ValueOrNull map id) v (inr c) = inr (live_later s t e map id (at_offset 0) v c)
covers_later s t e (Value map id off) v c = live_later s t e map id off v c

pub word_later : (s t : KindScope) → Extends s t → (word : StackWord) (places : List StackByte) → WordCovers s word places → WordCovers t word places
word_later s t e (Spilled kind) places c = record { value = c.value; covered = covers_later s t e kind c.value c.covered; stored = c.stored }
word_later s t e (Bytes set) places c = c

-- a register that is written: the others stay as they are known
pub register_written : (s : KindScope) (kinds : List Kind) (values : List RegisterValue) (dst : Register) (kind : Kind) (v : RegisterValue) →
    length kinds ≡ 11 → length values ≡ 11 →
    ((register : Register) → KindCovers s (slice_index_or kinds (register_number register) Unset) (slice_index_or values (register_number register) Uninitialized)) →
    KindCovers s kind v → (register : Register) →
    KindCovers s (slice_index_or (slice_set kinds (register_number dst) kind) (register_number register) Unset)
    (slice_index_or (slice_set values (register_number dst) v) (register_number register) Uninitialized)
register_written s kinds values dst kind v m n before now register =
    let small : register_number dst < 11 = number_below dst
    in ⊎_elim
    (λ same. rw (
      get_or-set_at kinds (register_number dst) (register_number register) kind Unset same (omega arith),
      get_or-set_at values (register_number dst) (register_number register) v Uninitialized same (omega arith),
    ) now)
    (λ other. rw (
      get_or-set_other kinds (register_number dst) (register_number register) kind Unset other,
      get_or-set_other values (register_number dst) (register_number register) v Uninitialized other,
    ) (before register))
    (cases_eq (register_number register) (register_number dst))

-- an instruction that writes a register: the state with the register's new kind is sound where the run goes on
pub written : (maps : List MapDef) (held held' : Held) (state : State) (machine : MachineState) (ids : Ids) (dst : Register) (kind : Kind)
    (v : RegisterValue) (slot steps : ℕ) (a : Abstracts maps held state machine) → machine.slot ≤ slot →
    ((map shard cell : ℕ) → IsTrue (held map shard cell) → IsTrue (held' map shard cell)) →
    ((id : ℕ) → id < machine.slot → ids.base id ≡ a.ids.base id) → ((id : ℕ) → id < machine.slot → ids.found id ≡ a.ids.found id) →
    ((id : ℕ) → ids.base id ≤ 131070 * id) →
    KindCovers (kind_scope_of maps held' ids (record machine { slot = slot })) kind v →
    Abstracts maps held' (with_kind state dst kind) (record (with_register machine dst v) { slot = slot; steps = steps })
written maps held held' state machine ids dst kind v slot steps a later more same_base same_found bases now =
    let extends : Extends (kind_scope_of maps held a.ids machine) (kind_scope_of maps held' ids (record machine { slot = slot })) =
    record { maps = refl; held = more; base = same_base; found = same_found; slot = later; generation = refl; size = refl }
    in record {
      ids = ids;
      registers = register_written (kind_scope_of maps held' ids (record machine { slot = slot })) state.registers machine.registers dst kind v
          a.is_machine.eleven_kinds a.is_machine.eleven
          (λ register. covers_later (kind_scope_of maps held a.ids machine) (kind_scope_of maps held' ids (record machine { slot = slot })) extends
          (kind_of state register) (register_value machine register) (a.registers register)) now;
      stack = λ word h. word_later (kind_scope_of maps held a.ids machine) (kind_scope_of maps held' ids (record machine { slot = slot })) extends
          (word_of state word) (places_of word machine.stack) (a.stack word h);
      start = a.start;
      bases = bases;
      is_machine = record {
        eleven = length-set machine.registers (register_number dst) v ∙ a.is_machine.eleven;
        eleven_kinds = length-set state.registers (register_number dst) kind ∙ a.is_machine.eleven_kinds;
        stack_size = a.is_machine.stack_size;
        word_count = a.is_machine.word_count;
        worker = a.is_machine.worker;
        time = a.is_machine.time;
        frame = a.is_machine.frame;
      };
    }

pub held_more : HoldingMoreIsSound
held_more maps held held' state machine more a =
    let extends : Extends (kind_scope_of maps held a.ids machine) (kind_scope_of maps held' a.ids machine) =
    record { maps = refl; held = more; base = λ id h. refl; found = λ id h. refl; slot = omega arith; generation = refl; size = refl }
    in record {
      ids = a.ids;
      registers = λ register. covers_later (kind_scope_of maps held a.ids machine) (kind_scope_of maps held' a.ids machine) extends
          (kind_of state register) (register_value machine register) (a.registers register);
      stack = λ word h. word_later (kind_scope_of maps held a.ids machine) (kind_scope_of maps held' a.ids machine) extends
          (word_of state word) (places_of word machine.stack) (a.stack word h);
      start = a.start;
      bases = a.bases;
      is_machine = a.is_machine;
    }
