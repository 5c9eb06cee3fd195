-- What a load returns from the stack and from the packet.
use Rattle.std.proofs.Common.{◌≡◌, ℕ, ◌+◌, ◌*◌, ◌/◌, ◌%◌, ◌^◌, ◌<◌, ◌≤◌, Bool, true, false, ℤ, pos, List, length, take, drop, refl, sym, ◌∙◌, ap, arith, subst}
use Rattle.std.specs.Prelude.{Ok, ◌+ℤ◌}
use Rattle.std.proofs.lemmas.List.{get_or-replicate}
use Rattle.isa.specs.declared.operation.Size.{Size}
use Rattle.isa.specs.declared.operation.Size.TheVariants.{U8, U16, U32, U64}
use Rattle.ebpf_decode.specs.declared.map.MapDef.{MapDef}
use Rattle.semantics.specs.LittleEndian.{number_of_bytes}
use Rattle.semantics.specs.RegisterValue.{RegisterValue, Number}
use Rattle.semantics.specs.MachineState.{MachineState, StackByte}
use Rattle.semantics.specs.Step.{Outcome, then_outcome}
use Rattle.isa.specs.InstructionCodes.{size_bytes, size_bits}
use Rattle.semantics.specs.Memory.{spilled_or_number, stack_place, stack_value, packet_value}
use Rattle.abstract_scalar.specs.Intervals.{full_of}
use Rattle.abstract_state.specs.declared.kind.Kind.{Kind}
use Rattle.abstract_state.specs.declared.kind.Kind.TheVariants.{Unset, Scalar, Ctx, Stack, Packet, PacketEnd, Map, ValueOrNull, Value}
use Rattle.abstract_state.specs.declared.kind.StackWord.{StackWord}
use Rattle.abstract_state.specs.declared.kind.StackWord.TheVariants.{Spilled, Bytes}
use Rattle.abstract_state.specs.declared.state.State.{State}
use Rattle.abstract_state.specs.States.{word_of}
use Rattle.abstract_state.specs.Words.{are_bytes_set, loaded_number, narrow_loaded, spilled_loaded, word_loaded}
use Rattle.abstract_state.specs.Abstraction.{Held, KindScope, KindCovers, IsNumberIn, IsPacketPlace, IsSpilled, WordCovers, places_of, kind_scope_of, Abstracts}
use Rattle.abstract_state.proofs.shared.Checking.{ok_same, ok_if}
use Rattle.abstract_state.proofs.shared.ByteNumbers.{bytes_below, Reads, range_read, number_read}
use Rattle.abstract_state.proofs.shared.StackReading.{set_byte, set_bytes, GivesBack, spilled_back}
use Rattle.abstract_state.proofs.shared.Accesses.{IsAligned, stack_reached, stack_moved, packet_moved, packet_reached, frame_number}

-- an outcome that the kind covers
pub record Loads (s : KindScope) (kind : Kind) (outcome : Outcome RegisterValue) : Type 0 where
  pub value : RegisterValue
  pub is : outcome ≡ Ok value
  pub covered : KindCovers s kind value

-- a number of the size
pub record LoadsNumber (size : Size) (outcome : Outcome RegisterValue) : Type 0 where
  pub number : ℕ
  pub is : outcome ≡ Ok (Number number)
  pub small : number < 2 ^ size_bits size

pub size_fits : (size : Size) (n : ℕ) → n < 256 ^ size_bytes size → n < 2 ^ size_bits size
size_fits U8 n h = h
size_fits U16 n h = h
size_fits U32 n h = h
size_fits U64 n h = h

pub in_full : (size : Size) (n : ℕ) → n < 2 ^ size_bits size → IsNumberIn (full_of (size_bits size)) (Number n)
in_full U8 n h = record { number = n; is = refl; within = record { above = omega arith; below = omega arith }; word = omega arith }
in_full U16 n h = record { number = n; is = refl; within = record { above = omega arith; below = omega arith }; word = omega arith }
in_full U32 n h = record { number = n; is = refl; within = record { above = omega arith; below = omega arith }; word = omega arith }
in_full U64 n h = record { number = n; is = refl; within = record { above = omega arith; below = omega arith }; word = omega arith }

pub number_loads : (s : KindScope) (size : Size) (outcome : Outcome RegisterValue) (kind : Kind) → LoadsNumber size outcome → kind ≡ loaded_number size → Loads s kind outcome
number_loads s size outcome kind n e = record {
  value = Number n.number;
  is = n.is;
  covered = rw e (in_full size n.number n.small);
}

pub some_bytes : (size : Size) → 0 < size_bytes size
some_bytes U8 = omega arith
some_bytes U16 = omega arith
some_bytes U32 = omega arith
some_bytes U64 = omega arith

-- ---- the stack

bytes_number : (size : Size) (places : List StackByte) → Reads places (size_bytes size) → LoadsNumber size (spilled_or_number places)
bytes_number size places r = record {
  number = number_of_bytes r.bytes;
  is = number_read places r.bytes r.are;
  small = size_fits size (number_of_bytes r.bytes) (subst (λ n. number_of_bytes r.bytes < 256 ^ n) r.count_is (bytes_below r.bytes r.small));
}

-- an aligned access lies in one word
pub same_word : (size : Size) (from k : ℕ) → from % size_bytes size ≡ 0 → k < size_bytes size → (from + k) / 8 ≡ from / 8
same_word U8 from k m h = let e : k ≡ 0 = omega arith in rw e (ap (λ n. n / 8) (let p : from + 0 ≡ from = omega arith in p))
same_word U16 from k m h = omega arith
same_word U32 from k m h = omega arith
same_word U64 from k m h = omega arith

scalar_read : (maps : List MapDef) (held : Held) (state : State) (machine : MachineState) (a : Abstracts maps held state machine) (size : Size) (from : ℕ) (i : _) →
    from + size_bytes size ≤ 512 → from % size_bytes size ≡ 0 → word_of state (from / 8) ≡ Spilled (Scalar i) →
    Reads (take (size_bytes size) (drop from machine.stack)) (size_bytes size)
scalar_read maps held state machine a size from i inside m e =
    let long : length machine.stack ≡ 512 = a.is_machine.stack_size
    in range_read machine.stack (size_bytes size) from (omega arith)
    (λ k h. set_byte maps held state machine a (from + k) (omega arith)
    (let part : (from + k) % 8 < 8 = omega arith in rw (same_word size from k m h, e) (get_or-replicate 8 ((from + k) % 8) true false part)))

pub record LoadsThere (size : Size) (kind : Kind) (outcome : Outcome RegisterValue) : Type 0 where
  pub number : LoadsNumber size outcome
  pub loaded : kind ≡ loaded_number size

narrow_number : (maps : List MapDef) (held : Held) (state : State) (machine : MachineState) (a : Abstracts maps held state machine) (size : Size) (from : ℕ) (kind k : Kind) →
    from + size_bytes size ≤ 512 → from % size_bytes size ≡ 0 → word_of state (from / 8) ≡ Spilled kind → narrow_loaded size kind ≡ Ok k →
    LoadsThere size k (spilled_or_number (take (size_bytes size) (drop from machine.stack)))
narrow_number maps held state machine a size from (Scalar i) k inside m e l = record {
  number = bytes_number size (take (size_bytes size) (drop from machine.stack)) (scalar_read maps held state machine a size from i inside m e);
  loaded = ok_same (narrow_loaded size (Scalar i)) k (loaded_number size) l refl;
}
narrow_number maps held state machine a size from Unset k inside m e l = cc
narrow_number maps held state machine a size from Ctx k inside m e l = cc
narrow_number maps held state machine a size from (Stack place) k inside m e l = cc
narrow_number maps held state machine a size from (Packet id off range) k inside m e l = cc
narrow_number maps held state machine a size from PacketEnd k inside m e l = cc
narrow_number maps held state machine a size from (Map map) k inside m e l = cc
narrow_number maps held state machine a size from (ValueOrNull map id) k inside m e l = cc
narrow_number maps held state machine a size from (Value map id off) k inside m e l = cc

set_number : (maps : List MapDef) (held : Held) (state : State) (machine : MachineState) (a : Abstracts maps held state machine) (size : Size) (from : ℕ) (set : List Bool) (k : Kind) →
    from + size_bytes size ≤ 512 → word_loaded state size from (Bytes set) ≡ Ok k →
    LoadsThere size k (spilled_or_number (take (size_bytes size) (drop from machine.stack)))
set_number maps held state machine a size from set k inside l =
    let test = ok_if (are_bytes_set state from (size_bytes size)) (loaded_number size) k _ l
    in record {
      number = bytes_number size (take (size_bytes size) (drop from machine.stack)) (set_bytes maps held state machine a from (size_bytes size) inside test.0);
      loaded = sym test.1;
    }

-- what a load of fewer than eight bytes returns
pub word_number : (maps : List MapDef) (held : Held) (state : State) (machine : MachineState) (a : Abstracts maps held state machine) (size : Size) →
    ((kind : Kind) → spilled_loaded size kind ≡ narrow_loaded size kind) → (from : ℕ) (word : StackWord) (k : Kind) →
    from + size_bytes size ≤ 512 → from % size_bytes size ≡ 0 → word_of state (from / 8) ≡ word → word_loaded state size from word ≡ Ok k →
    LoadsThere size k (spilled_or_number (take (size_bytes size) (drop from machine.stack)))
word_number maps held state machine a size narrow from (Spilled kind) k inside m e l =
    narrow_number maps held state machine a size from kind k inside m e (sym (narrow kind) ∙ l)
word_number maps held state machine a size narrow from (Bytes set) k inside m e l = set_number maps held state machine a size from set k inside l

whole_word : (maps : List MapDef) (held : Held) (state : State) (machine : MachineState) (a : Abstracts maps held state machine) (from : ℕ) (word : StackWord) (k : Kind) →
    from + 8 ≤ 512 → from % 8 ≡ 0 → word_of state (from / 8) ≡ word → word_loaded state U64 from word ≡ Ok k →
    Loads (kind_scope_of maps held a.ids machine) k (spilled_or_number (take 8 (drop from machine.stack)))
whole_word maps held state machine a from (Spilled kind) k inside m e l =
    let start : 8 * (from / 8) ≡ from = omega arith
    in let low : from / 8 < 64 = omega arith
    in let same : kind ≡ k = ok_same (spilled_loaded U64 kind) kind k refl l
    in let covered : IsSpilled (kind_scope_of maps held a.ids machine) kind (take 8 (drop (8 * (from / 8)) machine.stack)) =
    subst (λ w. WordCovers (kind_scope_of maps held a.ids machine) w (places_of (from / 8) machine.stack)) e (a.stack (from / 8) low)
    in let moved : IsSpilled (kind_scope_of maps held a.ids machine) k (take 8 (drop from machine.stack)) =
    subst (λ kind. IsSpilled (kind_scope_of maps held a.ids machine) kind (take 8 (drop from machine.stack))) same
    (subst (λ at. IsSpilled (kind_scope_of maps held a.ids machine) kind (take 8 (drop at machine.stack))) start covered)
    in let back : GivesBack (kind_scope_of maps held a.ids machine) k (take 8 (drop from machine.stack)) =
    spilled_back (kind_scope_of maps held a.ids machine) k (take 8 (drop from machine.stack)) moved
    in record { value = back.value; is = back.read; covered = back.covered }
whole_word maps held state machine a from (Bytes set) k inside m e l =
    let there = set_number maps held state machine a U64 from set k inside l
    in number_loads (kind_scope_of maps held a.ids machine) U64 (spilled_or_number (take 8 (drop from machine.stack))) k there.number there.loaded

narrow_loads : (maps : List MapDef) (held : Held) (state : State) (machine : MachineState) (a : Abstracts maps held state machine) (size : Size) (outcome : Outcome RegisterValue) (k : Kind) →
    LoadsThere size k outcome → Loads (kind_scope_of maps held a.ids machine) k outcome
narrow_loads maps held state machine a size outcome k there = number_loads (kind_scope_of maps held a.ids machine) size outcome k there.number there.loaded

pub word_loads : (maps : List MapDef) (held : Held) (state : State) (machine : MachineState) (a : Abstracts maps held state machine) (size : Size) (from : ℕ) (k : Kind) →
    from + size_bytes size ≤ 512 → from % size_bytes size ≡ 0 → word_loaded state size from (word_of state (from / 8)) ≡ Ok k →
    Loads (kind_scope_of maps held a.ids machine) k (spilled_or_number (take (size_bytes size) (drop from machine.stack)))
word_loads maps held state machine a U8 from k inside m l =
    narrow_loads maps held state machine a U8 _ k (word_number maps held state machine a U8 (λ kind. refl) from (word_of state (from / 8)) k inside m refl l)
word_loads maps held state machine a U16 from k inside m l =
    narrow_loads maps held state machine a U16 _ k (word_number maps held state machine a U16 (λ kind. refl) from (word_of state (from / 8)) k inside m refl l)
word_loads maps held state machine a U32 from k inside m l =
    narrow_loads maps held state machine a U32 _ k (word_number maps held state machine a U32 (λ kind. refl) from (word_of state (from / 8)) k inside m refl l)
word_loads maps held state machine a U64 from k inside m l = whole_word maps held state machine a from (word_of state (from / 8)) k inside m refl l

pub stack_value_is : (stack : List StackByte) (at offset : ℤ) (place from count : ℕ) → stack_place at ≡ pos place → length stack ≡ 512 →
    IsAligned (pos place +ℤ offset) count 512 from → stack_value stack (at +ℤ offset) count ≡ spilled_or_number (take count (drop from stack))
stack_value_is stack at offset place from count counted long found =
    ap (λ o. then_outcome o (λ from. spilled_or_number (take count (drop from stack))))
    (stack_reached stack (stack_place (at +ℤ offset)) from count long (stack_moved at offset place counted ∙ found.at) found.inside)

-- ---- the packet

pub packet_number : (maps : List MapDef) (held : Held) (state : State) (machine : MachineState) (a : Abstracts maps held state machine) (size : Size)
    (id off range from : ℕ) (offset : ℤ) (v : RegisterValue) (c : IsPacketPlace (kind_scope_of maps held a.ids machine) id off range v) →
    pos off +ℤ offset ≡ pos from → from + size_bytes size ≤ range →
    LoadsNumber size (packet_value machine machine.generation (pos (a.ids.base id + off) +ℤ offset) (size_bytes size))
packet_number maps held state machine a size id off range from offset v c at inside =
    let some : 0 < size_bytes size = some_bytes size
    in let reached : a.ids.base id + range ≤ length machine.frame.bytes = c.reached (omega arith)
    in let fits : (a.ids.base id + from) + size_bytes size ≤ length machine.frame.bytes = omega arith
    in record {
      number = number_of_bytes (take (size_bytes size) (drop (a.ids.base id + from) machine.frame.bytes));
      is = ap (λ o. then_outcome o (λ from. Ok (Number (number_of_bytes (take (size_bytes size) (drop from machine.frame.bytes))))))
          (packet_reached machine (pos (a.ids.base id + off) +ℤ offset) (a.ids.base id + from) (size_bytes size) (packet_moved (a.ids.base id) off from offset at) fits);
      small = size_fits size (number_of_bytes (take (size_bytes size) (drop (a.ids.base id + from) machine.frame.bytes)))
          (frame_number machine.frame.bytes (a.ids.base id + from) (size_bytes size) a.is_machine.frame fits);
    }
