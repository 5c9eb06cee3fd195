-- What lies on the stack, by what is known of its words.
use Rattle.std.proofs.Common.{◌≡◌, inl, inr, ℕ, zero, suc, ◌+◌, ◌*◌, ◌/◌, ◌%◌, ◌^◌, ◌<◌, ◌≤◌, true, false, List, length, take, drop, replicate, refl, ◌∙◌, ap, arith, subst}
use Rattle.std.specs.Prelude.{Ok, slice_index_or}
use Rattle.std.proofs.lemmas.List.{get_or-take, get_or-drop}
use Rattle.std.proofs.lemmas.Bool.{and_parts}
use Rattle.ebpf_decode.specs.declared.map.MapDef.{MapDef}
use Rattle.isa.specs.declared.operation.Size.TheVariants.{U64}
use Rattle.semantics.specs.LittleEndian.{number_of_bytes, bytes_of_number}
use Rattle.semantics.specs.RegisterValue.{RegisterValue, Uninitialized, Number, ContextPointer, StackPointer, PacketPointer, MapPointer, CellPointer}
use Rattle.semantics.specs.RegisterValue as meaning
use Rattle.semantics.specs.MachineState.{MachineState, StackByte, Unwritten}
use Rattle.semantics.specs.Memory.{spilled_or_number, as_written}
use Rattle.semantics.specs.Semantics.{stored_places}
use Rattle.abstract_state.specs.declared.kind.Kind.{Kind}
use Rattle.abstract_state.specs.declared.kind.Kind.TheVariants.{Unset, Scalar, Ctx, Stack, Packet, PacketEnd, Map, ValueOrNull, Value}
use Rattle.abstract_state.specs.declared.kind.StackWord.{StackWord}
use Rattle.abstract_state.specs.declared.kind.StackWord.TheVariants.{Spilled, Bytes}
use Rattle.abstract_state.specs.declared.state.State.{State}
use Rattle.abstract_state.specs.States.{word_of}
use Rattle.abstract_state.specs.Join.{bytes_of_kind, bytes_of_word}
use Rattle.abstract_state.specs.Words.{is_byte_set, are_bytes_set}
use Rattle.abstract_state.specs.Abstraction.{Held, KindScope, KindCovers, IsByte, IsSpilled, WordCovers, places_of, kind_scope_of, Abstracts}
use Rattle.abstract_state.proofs.shared.ByteNumbers.{bytes_length, bytes_small, bytes_back, Reads, range_read, number_read, written_back, written_place}

-- ---- bytes that are set were written

none_set : (n k : ℕ) → slice_index_or (replicate n false) k false ≡ true → ⊥
none_set zero k t = cc
none_set (suc n) zero t = cc
none_set (suc n) (suc k) t = none_set n k t

number_places : (s : KindScope) (i : _) (places : List StackByte) (c : IsSpilled s (Scalar i) places) →
    places ≡ as_written (bytes_of_number 8 c.covered.number)
number_places s i places c =
    let stored : stored_places (Number c.covered.number) U64 ≡ Ok places = subst (λ v. stored_places v U64 ≡ Ok places) c.covered.is c.stored
    in cc

spilled_byte : (s : KindScope) (kind : Kind) (places : List StackByte) (k : ℕ) → k < 8 → IsSpilled s kind places →
    slice_index_or (bytes_of_kind kind) k false ≡ true → IsByte (slice_index_or places k Unwritten)
spilled_byte s (Scalar i) places k h c t =
    let inside : k < length (bytes_of_number 8 c.covered.number) = (let e : length (bytes_of_number 8 c.covered.number) ≡ 8 = bytes_length 8 c.covered.number in omega arith)
    in rw (number_places s i places c) (written_place (bytes_of_number 8 c.covered.number) k (bytes_small 8 c.covered.number) inside)
spilled_byte s Unset places k h c t = absurd (none_set 8 k t)
spilled_byte s Ctx places k h c t = absurd (none_set 8 k t)
spilled_byte s (Stack place) places k h c t = absurd (none_set 8 k t)
spilled_byte s (Packet id off range) places k h c t = absurd (none_set 8 k t)
spilled_byte s PacketEnd places k h c t = absurd (none_set 8 k t)
spilled_byte s (Map map) places k h c t = absurd (none_set 8 k t)
spilled_byte s (ValueOrNull map id) places k h c t = absurd (none_set 8 k t)
spilled_byte s (Value map id off) places k h c t = absurd (none_set 8 k t)

pub word_byte : (s : KindScope) (word : StackWord) (places : List StackByte) (k : ℕ) → k < 8 → WordCovers s word places →
    slice_index_or (bytes_of_word word) k false ≡ true → IsByte (slice_index_or places k Unwritten)
word_byte s (Bytes set) places k h c t = c k t
word_byte s (Spilled kind) places k h c t = spilled_byte s kind places k h c t

-- a place is one of its word's eight
pub place_at : (stack : List StackByte) (word k : ℕ) → k < 8 →
    slice_index_or (places_of word stack) k Unwritten ≡ slice_index_or stack (8 * word + k) Unwritten
place_at stack word k h = get_or-take 8 (drop (8 * word) stack) k Unwritten h ∙ get_or-drop (8 * word) stack k Unwritten

pub set_byte : (maps : List MapDef) (held : Held) (state : State) (machine : MachineState) → Abstracts maps held state machine → (place : ℕ) → place < 512 →
    is_byte_set state place ≡ true → IsByte (slice_index_or machine.stack place Unwritten)
set_byte maps held state machine a place h t =
    let inside : place / 8 < 64 = omega arith
    in let part : place % 8 < 8 = omega arith
    in let whole : 8 * (place / 8) + place % 8 ≡ place = omega arith
    in let byte : IsByte (slice_index_or (places_of (place / 8) machine.stack) (place % 8) Unwritten) =
    word_byte (kind_scope_of maps held a.ids machine) (word_of state (place / 8)) (places_of (place / 8) machine.stack) (place % 8) part (a.stack (place / 8) inside) t
    in let same : slice_index_or (places_of (place / 8) machine.stack) (place % 8) Unwritten ≡ slice_index_or machine.stack place Unwritten =
    place_at machine.stack (place / 8) (place % 8) part ∙ ap (λ at. slice_index_or machine.stack at Unwritten) whole
    in subst IsByte same byte

pub set_each : (state : State) (count place k : ℕ) → are_bytes_set state place count ≡ true → k < count → is_byte_set state (place + k) ≡ true
set_each state zero place k t h = absurd (omega arith)
set_each state (suc count) place zero t h = let e : place + 0 ≡ place = omega arith in rw e (and_parts (is_byte_set state place) (are_bytes_set state (place + 1) count) t).0
set_each state (suc count) place (suc k) t h =
    let e : (place + 1) + k ≡ place + suc k = omega arith
    in subst (λ at. is_byte_set state at ≡ true) e (set_each state count (place + 1) k (and_parts (is_byte_set state place) (are_bytes_set state (place + 1) count) t).1 (omega arith))

pub set_bytes : (maps : List MapDef) (held : Held) (state : State) (machine : MachineState) → Abstracts maps held state machine → (from count : ℕ) → from + count ≤ 512 →
    are_bytes_set state from count ≡ true → Reads (take count (drop from machine.stack)) count
set_bytes maps held state machine a from count inside t =
    let long : length machine.stack ≡ 512 = a.is_machine.stack_size
    in range_read machine.stack count from (omega arith)
    (λ k h. set_byte maps held state machine a (from + k) (omega arith) (set_each state count from k t h))

-- ---- a spilled register is given back

pub record GivesBack (s : KindScope) (kind : Kind) (places : List StackByte) : Type 0 where
  pub value : RegisterValue
  pub read : spilled_or_number places ≡ Ok value
  pub covered : KindCovers s kind value

number_back : (s : KindScope) (kind : Kind) (n : ℕ) → KindCovers s kind (Number n) → KindCovers s kind (Number (number_of_bytes (bytes_of_number 8 n)))
number_back s Unset n c = tt
number_back s (Scalar i) n c =
    let same : n ≡ c.number = (let e : Number n ≡ Number c.number = c.is in cc)
    in let number_small : c.number < 2 ^ 64 = c.word
    in let small : n < 256 ^ 8 = omega arith
    in rw (bytes_back 8 n small) c
number_back s Ctx n c = cc
number_back s (Stack place) n c = absurd (let e : Number n ≡ StackPointer c.at = c.is in cc)
number_back s (Packet id off range) n c = absurd (let e : Number n ≡ PacketPointer s.generation _ = c.is in cc)
number_back s PacketEnd n c = cc
number_back s (Map map) n c = absurd (let e : Number n ≡ MapPointer map = c.is in cc)
number_back s (ValueOrNull map id) n (inl c) =
    let same : n ≡ 0 = (let e : Number n ≡ Number 0 = c.is in cc)
    in let small : n < 256 ^ 8 = omega arith
    in inl (rw (bytes_back 8 n small) c)
number_back s (ValueOrNull map id) n (inr c) = absurd (let e : Number n ≡ CellPointer map c.cell.shard c.cell.id _ = c.is in cc)
number_back s (Value map id off) n c = absurd (let e : Number n ≡ CellPointer map c.cell.shard c.cell.id _ = c.is in cc)

pointer_back : (s : KindScope) (kind : Kind) (value : RegisterValue) (places parts : List StackByte) → KindCovers s kind value →
    stored_places value U64 ≡ Ok places → stored_places value U64 ≡ Ok parts → spilled_or_number parts ≡ Ok value → GivesBack s kind places
pointer_back s kind value places parts c e f back =
    let same : places ≡ parts = cc
    in record { value = value; read = rw same back; covered = c }

value_back : (s : KindScope) (kind : Kind) (value : RegisterValue) (places : List StackByte) → KindCovers s kind value →
    stored_places value U64 ≡ Ok places → GivesBack s kind places
value_back s kind Uninitialized places c e = cc
value_back s kind (Number n) places c e =
    let same : places ≡ as_written (bytes_of_number 8 n) = cc
    in record {
      value = Number (number_of_bytes (bytes_of_number 8 n));
      read = rw same (number_read (as_written (bytes_of_number 8 n)) (bytes_of_number 8 n) (written_back (bytes_of_number 8 n)));
      covered = number_back s kind n c;
    }
value_back s kind ContextPointer places c e = pointer_back s kind ContextPointer places _ c e refl refl
value_back s kind (StackPointer at) places c e = pointer_back s kind (StackPointer at) places _ c e refl refl
value_back s kind (PacketPointer generation at) places c e = pointer_back s kind (PacketPointer generation at) places _ c e refl refl
value_back s kind (meaning.PacketEnd generation) places c e = pointer_back s kind (meaning.PacketEnd generation) places _ c e refl refl
value_back s kind (MapPointer map) places c e = pointer_back s kind (MapPointer map) places _ c e refl refl
value_back s kind (CellPointer map shard cell offset) places c e = pointer_back s kind (CellPointer map shard cell offset) places _ c e refl refl

pub spilled_back : (s : KindScope) (kind : Kind) (places : List StackByte) → IsSpilled s kind places → GivesBack s kind places
spilled_back s kind places c = value_back s kind c.value places c.covered c.stored
