-- Lookups, and what a call of a helper leaves: what R0 is then known to have.
use Rattle.std.proofs.Common.{◌≡◌, inl, inr, ℕ, ◌+◌, ◌*◌, ◌<◌, ◌≤◌, ◌-◌, ◌==◌, true, false, ℤ, pos, List, length, take, drop, refl, sym, ◌∙◌, ap, arith, subst}
use Rattle.std.specs.Prelude.{Ok, IsTrue, Option, Some, None, slice_get, slice_index_or, if◌then◌else◌}
use Rattle.std.proofs.lemmas.Bool.{leb-true}
use Rattle.std.proofs.lemmas.Bool.Decides.{nat_tests}
use Rattle.std.proofs.lemmas.List.{get_or-drop, length-drop}
use Rattle.std.proofs.lemmas.List.Elements.{All-from_recursion}
use Rattle.isa.specs.declared.operation.Register.{Register}
use Rattle.isa.specs.declared.operation.Register.TheVariants.{R0, R1, R2, R3, R4, R5, R6, R7, R8, R9, R10}
use Rattle.ebpf_decode.specs.declared.insn.Insn.{Insn}
use Rattle.ebpf_decode.specs.declared.insn.Insn.TheVariants.{CallHelper}
use Rattle.ebpf_decode.specs.declared.map.MapDef.{MapDef}
use Rattle.ebpf_decode.specs.InstructionEncoding.{slot_count}
use Rattle.semantics.specs.declared.call.CellRef.{CellRef}
use Rattle.semantics.specs.declared.call.Call.TheVariants.{Lookup}
use Rattle.semantics.specs.declared.call.Reply.{Reply}
use Rattle.semantics.specs.declared.call.Reply.TheVariants.{Entered, Left, Cell, Null, Word, Done, Answer, Freed}
use Rattle.semantics.specs.RegisterValue.{RegisterValue, Uninitialized, Number, StackPointer, CellPointer}
use Rattle.semantics.specs.MachineState.{MachineState, register_value}
use Rattle.semantics.specs.Program.{Program, shard_of_key}
use Rattle.semantics.specs.Step.{then_outcome, Step, Continues}
use Rattle.semantics.specs.Memory.{stack_place, written_bytes}
use Rattle.semantics.specs.Helpers.{map_at, bytes_argument, found_value, lookup_step}
use Rattle.semantics.specs.Helpers as meaning
use Rattle.semantics.specs.RunTrace.{IsReplyTo}
use Rattle.abstract_state.specs.declared.kind.Kind.{Kind}
use Rattle.abstract_state.specs.declared.kind.Kind.TheVariants.{Unset, Scalar, Ctx, Stack, Packet, PacketEnd, Map, ValueOrNull, Value}
use Rattle.semantics.specs.declared.linux.Helper.TheVariants.{MapLookupElem}
use Rattle.abstract_state.specs.declared.broken_rule.BrokenRule.TheVariants.{StackBounds, StackUnset}
use Rattle.abstract_state.specs.declared.flow.Flow.{Flow}
use Rattle.abstract_state.specs.declared.flow.Flow.TheVariants.{Falls}
use Rattle.abstract_state.specs.declared.state.State.{State}
use Rattle.abstract_state.specs.States.{◌>>=◌, kind_of, word_of, key_size_of}
use Rattle.abstract_state.specs.Words.{are_bytes_set}
use Rattle.abstract_state.specs.Calls.{checked_map_argument, stack_argument, is_inside_stack, when_all, key_arguments, after_return, checked_call}
use Rattle.abstract_state.specs.Flow.{reads_arguments, falls}
use Rattle.abstract_state.specs.Soundness.{GoesOnAt, FallsOn, Follows, HoldsAfter}
use Rattle.abstract_state.specs.Abstraction.{Ids, Held, KindScope, KindCovers, IsKnownMap, IsStackPlace, places_of, kind_scope_of, Abstracts}
use Rattle.abstract_state.proofs.shared.Writing.{Extends, covers_later, word_later}
use Rattle.abstract_state.proofs.shared.Checking.{ok_same, ok_then, ok_if, falls_made, next_setting}
use Rattle.abstract_state.proofs.shared.ByteNumbers.{Reads}
use Rattle.abstract_state.proofs.shared.StackReading.{set_bytes}
use Rattle.abstract_state.proofs.shared.Accesses.{stack_reached}

-- ---- what a call leaves

last_kept : (s : KindScope) (kinds : List Kind) (values : List RegisterValue) (k : ℕ) →
    KindCovers s (slice_index_or kinds (6 + k) Unset) (slice_index_or values (6 + k) Uninitialized) →
    KindCovers s (slice_index_or (drop 6 kinds) k Unset) (slice_index_or (drop 6 values) k Uninitialized)
last_kept s kinds values k before =
    subst (λ kind. KindCovers s kind (slice_index_or (drop 6 values) k Uninitialized)) (sym (get_or-drop 6 kinds k Unset))
    (subst (λ v. KindCovers s (slice_index_or kinds (6 + k) Unset) v) (sym (get_or-drop 6 values k Uninitialized)) before)

returned_registers : (s : KindScope) (state : State) (machine : MachineState) (kind : Kind) (v : RegisterValue) →
    ((register : Register) → KindCovers s (kind_of state register) (register_value machine register)) → KindCovers s kind v →
    (register : Register) → KindCovers s (kind_of (after_return kind state) register) (register_value (meaning.returned machine v) register)
returned_registers s state machine kind v before now R0 = now
returned_registers s state machine kind v before now R1 = tt
returned_registers s state machine kind v before now R2 = tt
returned_registers s state machine kind v before now R3 = tt
returned_registers s state machine kind v before now R4 = tt
returned_registers s state machine kind v before now R5 = tt
returned_registers s state machine kind v before now R6 = last_kept s state.registers machine.registers 0 (before R6)
returned_registers s state machine kind v before now R7 = last_kept s state.registers machine.registers 1 (before R7)
returned_registers s state machine kind v before now R8 = last_kept s state.registers machine.registers 2 (before R8)
returned_registers s state machine kind v before now R9 = last_kept s state.registers machine.registers 3 (before R9)
returned_registers s state machine kind v before now R10 = last_kept s state.registers machine.registers 4 (before R10)

-- R0 has what the kind covers, in a setting where the slot of the call may represent more
pub returned_sound : (maps : List MapDef) (held held' : Held) (state : State) (machine : MachineState) (ids : Ids) (a : Abstracts maps held state machine) →
    ((map shard cell : ℕ) → IsTrue (held map shard cell) → IsTrue (held' map shard cell)) →
    ((id : ℕ) → id < machine.slot → ids.base id ≡ a.ids.base id) → ((id : ℕ) → id < machine.slot → ids.found id ≡ a.ids.found id) →
    ((id : ℕ) → ids.base id ≤ 131070 * id) → (kind : Kind) (v : RegisterValue) → KindCovers (next_setting maps held' ids machine 1) kind v →
    Abstracts maps held' (after_return kind state) (meaning.returned machine v)
returned_sound maps held held' state machine ids a more same_base same_found bases kind v now =
    let extends : Extends (kind_scope_of maps held a.ids machine) (next_setting maps held' ids machine 1) =
    record { maps = refl; held = more; base = same_base; found = same_found; slot = omega arith; generation = refl; size = refl }
    in let eleven : length machine.registers ≡ 11 = a.is_machine.eleven
    in let eleven_kinds : length state.registers ≡ 11 = a.is_machine.eleven_kinds
    in let five : length (drop 6 machine.registers) ≡ length machine.registers - 6 = length-drop 6 machine.registers
    in let five_kinds : length (drop 6 state.registers) ≡ length state.registers - 6 = length-drop 6 state.registers
    in record {
      ids = ids;
      registers = returned_registers (next_setting maps held' ids machine 1) state machine kind v
          (λ register. covers_later (kind_scope_of maps held a.ids machine) (next_setting maps held' ids machine 1) extends (kind_of state register) (register_value machine register) (a.registers register)) now;
      stack = λ word h. word_later (kind_scope_of maps held a.ids machine) (next_setting maps held' ids machine 1) extends
          (word_of state word) (places_of word machine.stack) (a.stack word h);
      start = a.start;
      bases = bases;
      is_machine = record {
        eleven = omega arith;
        eleven_kinds = omega arith;
        stack_size = a.is_machine.stack_size;
        word_count = a.is_machine.word_count;
        worker = a.is_machine.worker;
        time = a.is_machine.time;
        frame = a.is_machine.frame;
      };
    }

-- ---- the arguments

pub map_kind : (kind : Kind) (map : ℕ) → checked_map_argument kind R1 ≡ Ok map → kind ≡ Map map
map_kind (Map other) map e = ap Map (ok_same (Ok other) other map refl e)
map_kind Unset map e = cc
map_kind (Scalar i) map e = cc
map_kind Ctx map e = cc
map_kind (Stack place) map e = cc
map_kind (Packet id off range) map e = cc
map_kind PacketEnd map e = cc
map_kind (ValueOrNull m id) map e = cc
map_kind (Value m id off) map e = cc

pub stack_kind : (kind : Kind) (register : Register) (place : ℕ) → stack_argument kind register ≡ Ok place → kind ≡ Stack place
stack_kind (Stack other) register place e = ap Stack (ok_same (Ok other) other place refl e)
stack_kind Unset register place e = cc
stack_kind (Scalar i) register place e = cc
stack_kind Ctx register place e = cc
stack_kind (Map map) register place e = cc
stack_kind (Packet id off range) register place e = cc
stack_kind PacketEnd register place e = cc
stack_kind (ValueOrNull m id) register place e = cc
stack_kind (Value m id off) register place e = cc

pub record KnowsKey (maps : List MapDef) (state : State) (map : ℕ) : Type 0 where
  pub key : ℕ
  pub is_map : kind_of state R1 ≡ Map map
  pub is_key : kind_of state R2 ≡ Stack key
  pub inside : key + key_size_of (slice_get maps map) ≤ 512
  pub set : are_bytes_set state key (key_size_of (slice_get maps map)) ≡ true

pub knows_key : (maps : List MapDef) (state : State) (map : ℕ) → key_arguments maps state ≡ Ok map → KnowsKey maps state map
knows_key maps state map e =
    let first = ok_then (checked_map_argument (kind_of state R1) R1) (λ map.
    stack_argument (kind_of state R2) R2 >>= (λ key.
    when_all (is_inside_stack key (key_size_of (slice_get maps map))) StackBounds >>= (λ _.
    when_all (are_bytes_set state key (key_size_of (slice_get maps map))) StackUnset >>= (λ _.
    Ok map)))) map e
    in let second = ok_then (stack_argument (kind_of state R2) R2) (λ key.
    when_all (is_inside_stack key (key_size_of (slice_get maps first.0))) StackBounds >>= (λ _.
    when_all (are_bytes_set state key (key_size_of (slice_get maps first.0))) StackUnset >>= (λ _.
    Ok first.0))) map first.1.1
    in let third = ok_then (when_all (is_inside_stack second.0 (key_size_of (slice_get maps first.0))) StackBounds) (λ _.
    when_all (are_bytes_set state second.0 (key_size_of (slice_get maps first.0))) StackUnset >>= (λ _.
    Ok first.0)) map second.1.1
    in let fourth = ok_then (when_all (are_bytes_set state second.0 (key_size_of (slice_get maps first.0))) StackUnset) (λ _. Ok first.0) map third.1.1
    in let same : first.0 ≡ map = ok_same (Ok first.0) first.0 map refl fourth.1.1
    in let is_inside : is_inside_stack second.0 (key_size_of (slice_get maps first.0)) ≡ true =
    (ok_if (is_inside_stack second.0 (key_size_of (slice_get maps first.0))) tt third.0 StackBounds third.1.0).0
    in let are_set : are_bytes_set state second.0 (key_size_of (slice_get maps first.0)) ≡ true =
    (ok_if (are_bytes_set state second.0 (key_size_of (slice_get maps first.0))) tt fourth.0 StackUnset fourth.1.0).0
    in record {
      key = second.0;
      is_map = map_kind (kind_of state R1) first.0 first.1.0 ∙ ap Map same;
      is_key = stack_kind (kind_of state R2) R2 second.0 second.1.0;
      inside = subst (λ map. second.0 + key_size_of (slice_get maps map) ≤ 512) same (leb-true (second.0 + key_size_of (slice_get maps first.0)) 512 is_inside);
      set = subst (λ map. are_bytes_set state second.0 (key_size_of (slice_get maps map)) ≡ true) same are_set;
    }

-- ---- a lookup

pub map_known : (program : Program) (map : ℕ) (definition : MapDef) → slice_get program.maps map ≡ Some definition → map_at program map ≡ Ok definition
map_known program map definition e = rw e refl

pub key_read : (machine : MachineState) (v : RegisterValue) (at : ℤ) (key count : ℕ) → length machine.stack ≡ 512 → v ≡ StackPointer at → stack_place at ≡ pos key →
    key + count ≤ 512 → (r : Reads (take count (drop key machine.stack)) count) → bytes_argument machine v count ≡ Ok r.bytes
key_read machine v at key count long is counted inside r =
    ap (λ v. bytes_argument machine v count) is
    ∙ ap (λ o. then_outcome o (λ from. written_bytes (take count (drop from machine.stack)))) (stack_reached machine.stack (stack_place at) key count long counted inside)
    ∙ r.are

itself : (n : ℕ) → (n == n) ≡ true
itself n = grind (arith, nat_tests)

earlier : (n m : ℕ) → n < m → (n == m) ≡ false
earlier n m h = grind (arith, nat_tests)

-- the slot represents what the lookup found
abbrev pub with_found : Ids → ℕ → Option CellRef → Ids
with_found ids slot cell = record { base = ids.base; found = λ id. if id == slot then cell else ids.found id }

pub kept_found : (ids : Ids) (slot : ℕ) (cell : Option CellRef) (id : ℕ) → id < slot → (with_found ids slot cell).found id ≡ ids.found id
kept_found ids slot cell id h = rw (earlier id slot h) refl

pub now_found : (ids : Ids) (slot : ℕ) (cell : Option CellRef) → (with_found ids slot cell).found slot ≡ cell
now_found ids slot cell = rw (itself slot) refl

given : (program : Program) (held : Held) (state : State) (machine : MachineState) (a : Abstracts program.maps held state machine)
    (map : ℕ) (definition : MapDef) → slice_get program.maps map ≡ Some definition → (key : List ℕ) (reply : Reply) →
    IsReplyTo program (Lookup (shard_of_key map definition.kind program.shards key) key) reply → (held' : Held) →
    HoldsAfter program held held' (Lookup (shard_of_key map definition.kind program.shards key) key) reply →
    GoesOnAt program.maps held' (after_return (ValueOrNull map machine.slot) state) machine (meaning.returned machine (found_value map reply)) (machine.slot + 1)
given program held state machine a map definition known key (Cell cell) is held' after = record {
  at = refl;
  counted = refl;
  sound = returned_sound program.maps held held' state machine (with_found a.ids machine.slot (Some cell)) a after.kept (λ id h. refl)
      (kept_found a.ids machine.slot (Some cell)) a.bases (ValueOrNull map machine.slot) (CellPointer map cell.shard cell.id (pos 0))
      (inr (record {
        cell = cell;
        found = now_found a.ids machine.slot (Some cell);
        at = 0;
        least = omega arith;
        most = omega arith;
        is = refl;
        held = after.handed_out map definition known refl;
        earlier = omega arith;
      }));
}
given program held state machine a map definition known key Null is held' after = record {
  at = refl;
  counted = refl;
  sound = returned_sound program.maps held held' state machine (with_found a.ids machine.slot None) a after.kept (λ id h. refl)
      (kept_found a.ids machine.slot None) a.bases (ValueOrNull map machine.slot) (Number 0)
      (inl (record { found = now_found a.ids machine.slot None; is = refl; earlier = omega arith }));
}
given program held state machine a map definition known key Entered is held' after = absurd is
given program held state machine a map definition known key Left is held' after = absurd is
given program held state machine a map definition known key (Word n) is held' after = absurd is
given program held state machine a map definition known key Done is held' after = absurd is
given program held state machine a map definition known key (Answer code) is held' after = absurd is
given program held state machine a map definition known key (Freed count) is held' after = absurd is

pub lookup_follows : (program : Program) (held : Held) (state : State) (machine : MachineState) → Abstracts program.maps held state machine →
    (map : ℕ) → KnowsKey program.maps state map → FallsOn program held (after_return (ValueOrNull map machine.slot) state) machine (machine.slot + 1) (lookup_step program machine)
lookup_follows program held state machine a map k =
    let c : IsKnownMap (kind_scope_of program.maps held a.ids machine) map (register_value machine R1) =
    subst (λ kind. KindCovers (kind_scope_of program.maps held a.ids machine) kind (register_value machine R1)) k.is_map (a.registers R1)
    in let p : IsStackPlace k.key (register_value machine R2) =
    subst (λ kind. KindCovers (kind_scope_of program.maps held a.ids machine) kind (register_value machine R2)) k.is_key (a.registers R2)
    in let same : key_size_of (slice_get program.maps map) ≡ c.definition.key_size = ap key_size_of c.known
    in let inside : k.key + c.definition.key_size ≤ 512 = subst (λ n. k.key + n ≤ 512) same k.inside
    in let r : Reads (take c.definition.key_size (drop k.key machine.stack)) c.definition.key_size =
    set_bytes program.maps held state machine a k.key c.definition.key_size inside (subst (λ n. are_bytes_set state k.key n ≡ true) same k.set)
    in let e1 : meaning.map_argument (register_value machine R1) ≡ Ok map = rw c.is refl
    in let e2 : map_at program map ≡ Ok c.definition = map_known program map c.definition c.known
    in let e3 : bytes_argument machine (register_value machine R2) c.definition.key_size ≡ Ok r.bytes =
    key_read machine (register_value machine R2) p.at k.key c.definition.key_size a.is_machine.stack_size p.is p.counted inside r
    in rw (e1, e2, e3) (
      record {
        map = map;
        of_map = record { definition = c.definition; known = c.known; key_size = r.count_is; bytes = All-from_recursion (λ byte. byte < 256) r.bytes r.small };
        own = refl;
      },
      given program held state machine a map c.definition c.known r.bytes,
    )

-- ---- the helpers

pub one_slot : (number : ℤ) → slot_count (CallHelper number) ≡ 1
unfolding slot_count
one_slot number = refl

-- a number in R0, and no call of a map
pub number_follows : (program : Program) (held : Held) (state : State) (machine : MachineState) (a : Abstracts program.maps held state machine)
    (kind : Kind) (v : RegisterValue) → KindCovers (next_setting program.maps held a.ids machine 1) kind v →
    GoesOnAt program.maps held (after_return kind state) machine (meaning.returned machine v) (machine.slot + 1)
number_follows program held state machine a kind v now = record {
  at = refl;
  counted = refl;
  sound = returned_sound program.maps held held state machine a.ids a (λ map shard cell h. h) (λ id h. refl) (λ id h. refl) a.bases kind v now;
}

pub settled : (program : Program) (held : Held) (machine : MachineState) (insn : Insn) (step : Step) (flow : Flow) (s known : State) → flow ≡ Falls s → known ≡ s →
    slot_count insn ≡ 1 → FallsOn program held known machine (machine.slot + 1) step → Follows program held flow machine insn step
settled program held machine insn step flow s known is same one f =
    subst (λ flow. Follows program held flow machine insn step) (sym is)
    (subst (λ s. FallsOn program held s machine (machine.slot + slot_count insn) step) same
    (subst (λ count. FallsOn program held known machine (machine.slot + count) step) (sym one) f))

pub lookup_sound : (program : Program) (held : Held) (state : State) (machine : MachineState) (number : ℤ) (flow : Flow) → Abstracts program.maps held state machine →
    falls (reads_arguments state MapLookupElem >>= (λ _. checked_call program.maps state machine.slot MapLookupElem)) ≡ Ok flow →
    Follows program held flow machine (CallHelper number) (lookup_step program machine)
lookup_sound program held state machine number flow a e =
    let made = falls_made (reads_arguments state MapLookupElem >>= (λ _. checked_call program.maps state machine.slot MapLookupElem)) flow e
    in let first = ok_then (reads_arguments state MapLookupElem) (λ _. checked_call program.maps state machine.slot MapLookupElem) made.0 made.1.0
    in let second = ok_then (key_arguments program.maps state) (λ map. Ok (after_return (ValueOrNull map machine.slot) state)) made.0 first.1.1
    in let same : after_return (ValueOrNull second.0 machine.slot) state ≡ made.0 =
    ok_same (Ok (after_return (ValueOrNull second.0 machine.slot) state)) (after_return (ValueOrNull second.0 machine.slot) state) made.0 refl second.1.1
    in settled program held machine (CallHelper number) (lookup_step program machine) flow made.0 (after_return (ValueOrNull second.0 machine.slot) state) made.1.1 same (one_slot number)
    (lookup_follows program held state machine a second.0 (knows_key program.maps state second.0 second.1.0))

-- a helper that returns a number
pub number_sound : (program : Program) (held : Held) (state : State) (machine : MachineState) (a : Abstracts program.maps held state machine) (number : ℤ) (flow : Flow)
    (kind : Kind) (v : RegisterValue) → falls (Ok (after_return kind state)) ≡ Ok flow → KindCovers (next_setting program.maps held a.ids machine 1) kind v →
    Follows program held flow machine (CallHelper number) (Continues (meaning.returned machine v))
number_sound program held state machine a number flow kind v e now =
    let made = falls_made (Ok (after_return kind state)) flow e
    in let same : after_return kind state ≡ made.0 = ok_same (Ok (after_return kind state)) (after_return kind state) made.0 refl made.1.0
    in settled program held machine (CallHelper number) (Continues (meaning.returned machine v)) flow made.0 (after_return kind state) made.1.1 same (one_slot number)
    (number_follows program held state machine a kind v now)
