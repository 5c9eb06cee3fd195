-- What a store leaves on the stack and in the packet.
use Rattle.std.proofs.Common.{◌≡◌, inl, inr, ℕ, ◌+◌, ◌/◌, ◌%◌, ◌<◌, ◌≤◌, ℤ, pos, List, length, refl, ◌∙◌, ap, arith}
use Rattle.std.specs.Prelude.{Ok, All, ◌+ℤ◌}
use Rattle.std.proofs.lemmas.List.Elements.{All-from_recursion}
use Rattle.isa.specs.declared.operation.Size.{Size}
use Rattle.isa.specs.declared.operation.Size.TheVariants.{U64}
use Rattle.ebpf_decode.specs.declared.insn.Insn.{Insn}
use Rattle.ebpf_decode.specs.declared.map.MapDef.{MapDef}
use Rattle.ebpf_decode.specs.InstructionEncoding.{slot_count}
use Rattle.wire.specs.FrameView.{overwritten_at, with_bytes_at}
use Rattle.semantics.specs.LittleEndian.{bytes_of_number}
use Rattle.semantics.specs.RegisterValue.{RegisterValue, Number, ContextPointer, StackPointer, PacketPointer, MapPointer, CellPointer}
use Rattle.semantics.specs.RegisterValue as meaning
use Rattle.semantics.specs.MachineState.{MachineState, StackByte, register_value}
use Rattle.semantics.specs.Program.{Program}
use Rattle.isa.specs.InstructionCodes.{size_bytes}
use Rattle.semantics.specs.Memory.{stack_place, stack_range, packet_range, as_written, spilled_parts}
use Rattle.semantics.specs.Semantics.{stored_places, store_step}
use Rattle.abstract_state.specs.declared.kind.Kind.{Kind}
use Rattle.abstract_state.specs.declared.kind.Kind.TheVariants.{Unset, Scalar, Ctx, Stack, Packet, PacketEnd, Map, ValueOrNull, Value}
use Rattle.abstract_state.specs.declared.kind.StackWord.TheVariants.{Spilled, Bytes}
use Rattle.abstract_state.specs.declared.state.State.{State}
use Rattle.abstract_state.specs.States.{kind_of, word_of, with_word}
use Rattle.abstract_state.specs.Join.{bytes_of_word}
use Rattle.abstract_state.specs.Words.{storable_number, with_set}
use Rattle.abstract_state.specs.Access.{stack_stored}
use Rattle.abstract_state.specs.Soundness.{FallsOn}
use Rattle.abstract_state.specs.Abstraction.{Held, KindScope, KindCovers, IsSpilled, WordCovers, places_of, kind_scope_of, Abstracts}
use Rattle.abstract_state.proofs.shared.Writing.{Extends, covers_later, word_later}
use Rattle.abstract_state.proofs.shared.Checking.{next_setting, covers_next}
use Rattle.abstract_state.proofs.shared.ByteNumbers.{bytes_length, bytes_small, as_written_length}
use Rattle.abstract_state.proofs.shared.Accesses.{IsAligned, stack_reached, stack_moved, packet_moved, packet_reached}
use Rattle.abstract_state.proofs.shared.LoadedNumbers.{some_bytes}
use Rattle.abstract_state.proofs.shared.Splicing.{length-spliced, All-spliced}
use Rattle.abstract_state.proofs.StackWriting.{stored_word, stored_part, stack_stored_sound}
use Rattle.abstract_state.proofs.shared.Shapes.{inside_word}

-- each word that is known by its bytes has eight of them
abbrev pub AreEight : State → Type 0
AreEight state = (word : ℕ) → word < 64 → length (bytes_of_word (word_of state word)) ≡ 8

-- ---- what is stored

-- a number that may be stored in part
pub narrow_is_number : (s : KindScope) (kind : Kind) (value : RegisterValue) (done : Unit {0}) → storable_number kind ≡ Ok done → KindCovers s kind value → (n : ℕ) × (value ≡ Number n)
narrow_is_number s (Scalar i) value done e c = (c.number, c.is)
narrow_is_number s Unset value done e c = cc
narrow_is_number s Ctx value done e c = cc
narrow_is_number s (Stack place) value done e c = cc
narrow_is_number s (Packet id off range) value done e c = cc
narrow_is_number s PacketEnd value done e c = cc
narrow_is_number s (Map map) value done e c = cc
narrow_is_number s (ValueOrNull map id) value done e c = cc
narrow_is_number s (Value map id off) value done e c = cc

-- the eight places of a value that is stored whole
pub record StoredWhole (value : RegisterValue) : Type 0 where
  pub places : List StackByte
  pub are : stored_places value U64 ≡ Ok places
  pub eight : length places ≡ 8

number_whole : (value : RegisterValue) (n : ℕ) → value ≡ Number n → StoredWhole value
number_whole value n e = record {
  places = as_written (bytes_of_number 8 n);
  are = rw e refl;
  eight = as_written_length (bytes_of_number 8 n) ∙ bytes_length 8 n;
}

pointer_whole : (value pointer : RegisterValue) → value ≡ pointer → stored_places pointer U64 ≡ Ok (spilled_parts pointer) → StoredWhole value
pointer_whole value pointer e f = record { places = spilled_parts pointer; are = ap (λ v. stored_places v U64) e ∙ f; eight = refl }

whole : (s : KindScope) (kind : Kind) (value : RegisterValue) → (kind ≡ Unset → ⊥) → KindCovers s kind value → StoredWhole value
whole s Unset value set c = absurd (set refl)
whole s (Scalar i) value set c = number_whole value c.number c.is
whole s Ctx value set c = pointer_whole value ContextPointer c refl
whole s (Stack place) value set c = pointer_whole value (StackPointer c.at) c.is refl
whole s (Packet id off range) value set c = pointer_whole value (PacketPointer s.generation _) c.is refl
whole s PacketEnd value set c = pointer_whole value (meaning.PacketEnd s.generation) c refl
whole s (Map map) value set c = pointer_whole value (MapPointer map) c.is refl
whole s (ValueOrNull map id) value set (inl c) = number_whole value 0 c.is
whole s (ValueOrNull map id) value set (inr c) = pointer_whole value (CellPointer map c.cell.shard c.cell.id _) c.is refl
whole s (Value map id off) value set c = pointer_whole value (CellPointer map c.cell.shard c.cell.id _) c.is refl

-- ---- the stack

pub whole_stored : (program : Program) (held : Held) (state : State) (machine : MachineState) (a : Abstracts program.maps held state machine) (insn : Insn)
    (at offset : ℤ) (place from : ℕ) → stack_place at ≡ pos place → IsAligned (pos place +ℤ offset) 8 512 from → (kind : Kind) (value : RegisterValue) →
    (kind ≡ Unset → ⊥) → KindCovers (kind_scope_of program.maps held a.ids machine) kind value →
    FallsOn program held (stack_stored state U64 from kind) machine (machine.slot + slot_count insn) (store_step program insn machine (StackPointer at) offset U64 value)
whole_stored program held state machine a insn at offset place from counted found kind value set c =
    let w : StoredWhole value = whole (kind_scope_of program.maps held a.ids machine) kind value set c
    in let range : stack_range machine.stack (stack_place (at +ℤ offset)) 8 ≡ Ok from =
    stack_reached machine.stack (stack_place (at +ℤ offset)) from 8 a.is_machine.stack_size (stack_moved at offset place counted ∙ found.at) found.inside
    in let inside : from + 8 ≤ 512 = found.inside
    in let eight : length w.places ≡ 8 = w.eight
    in let start : from % 8 ≡ 0 = found.multiple
    in let now : IsSpilled (next_setting program.maps held a.ids machine (slot_count insn)) kind w.places = record {
      value = value;
      covered = covers_next program.maps held held a.ids machine (slot_count insn) (λ map shard cell h. h) kind value c;
      stored = w.are;
    }
    in rw (range, w.are) (record {
      at = refl;
      counted = refl;
      sound = stack_stored_sound program.maps held state machine a from (slot_count insn) w.places (Spilled kind) (omega arith) (omega arith) (omega arith)
          (rw (stored_word machine.stack w.places from a.is_machine.stack_size inside start eight) now);
    })

pub part_stored : (program : Program) (held : Held) (state : State) (machine : MachineState) (a : Abstracts program.maps held state machine) → AreEight state → (insn : Insn)
    (size : Size) (at offset : ℤ) (place from n : ℕ) → stack_place at ≡ pos place → IsAligned (pos place +ℤ offset) (size_bytes size) 512 from →
    FallsOn program held (with_word state (from / 8) (Bytes (with_set (bytes_of_word (word_of state (from / 8))) (from % 8) (size_bytes size)))) machine
    (machine.slot + slot_count insn) (store_step program insn machine (StackPointer at) offset size (Number n))
part_stored program held state machine a eight insn size at offset place from n counted found =
    let range : stack_range machine.stack (stack_place (at +ℤ offset)) (size_bytes size) ≡ Ok from =
    stack_reached machine.stack (stack_place (at +ℤ offset)) from (size_bytes size) a.is_machine.stack_size (stack_moved at offset place counted ∙ found.at) found.inside
    in let inside : from + size_bytes size ≤ 512 = found.inside
    in let some : 0 < size_bytes size = some_bytes size
    in let low : from / 8 < 64 = omega arith
    in let part : from % 8 + size_bytes size ≤ 8 = inside_word size from found.multiple
    in let count : length (bytes_of_number (size_bytes size) n) ≡ size_bytes size = bytes_length (size_bytes size) n
    in let places : length (as_written (bytes_of_number (size_bytes size) n)) ≡ size_bytes size = as_written_length (bytes_of_number (size_bytes size) n) ∙ count
    in let extends : Extends (kind_scope_of program.maps held a.ids machine) (next_setting program.maps held a.ids machine (slot_count insn)) =
    record { maps = refl; held = λ map shard cell h. h; base = λ id h. refl; found = λ id h. refl; slot = omega arith; generation = refl; size = refl }
    in let before : WordCovers (next_setting program.maps held a.ids machine (slot_count insn)) (word_of state (from / 8)) (places_of (from / 8) machine.stack) =
    word_later (kind_scope_of program.maps held a.ids machine) (next_setting program.maps held a.ids machine (slot_count insn)) extends
    (word_of state (from / 8)) (places_of (from / 8) machine.stack) (a.stack (from / 8) low)
    in rw range (record {
      at = refl;
      counted = refl;
      sound = stack_stored_sound program.maps held state machine a from (slot_count insn) (as_written (bytes_of_number (size_bytes size) n))
          (Bytes (with_set (bytes_of_word (word_of state (from / 8))) (from % 8) (size_bytes size))) (omega arith) (omega arith) low
          (stored_part (next_setting program.maps held a.ids machine (slot_count insn)) (word_of state (from / 8)) machine.stack from (size_bytes size)
          (bytes_of_number (size_bytes size) n) a.is_machine.stack_size inside part count (bytes_small (size_bytes size) n) (eight (from / 8) low) before);
    })

-- ---- the packet

pub packet_stored : (program : Program) (held : Held) (state : State) (machine : MachineState) (a : Abstracts program.maps held state machine) (insn : Insn)
    (size : Size) (id off range from n : ℕ) (offset : ℤ) → (0 < range → a.ids.base id + range ≤ length machine.frame.bytes) →
    pos off +ℤ offset ≡ pos from → from + size_bytes size ≤ range →
    FallsOn program held state machine (machine.slot + slot_count insn)
    (store_step program insn machine (PacketPointer machine.generation (pos (a.ids.base id + off))) offset size (Number n))
packet_stored program held state machine a insn size id off range from n offset reached at inside =
    let some : 0 < size_bytes size = some_bytes size
    in let whole : a.ids.base id + range ≤ length machine.frame.bytes = reached (omega arith)
    in let fits : (a.ids.base id + from) + size_bytes size ≤ length machine.frame.bytes = omega arith
    in let found : packet_range machine machine.generation (pos (a.ids.base id + off) +ℤ offset) (size_bytes size) ≡ Ok (a.ids.base id + from) =
    packet_reached machine (pos (a.ids.base id + off) +ℤ offset) (a.ids.base id + from) (size_bytes size) (packet_moved (a.ids.base id) off from offset at) fits
    in let count : length (bytes_of_number (size_bytes size) n) ≡ size_bytes size = bytes_length (size_bytes size) n
    in let same : length (overwritten_at (a.ids.base id + from) (bytes_of_number (size_bytes size) n) machine.frame.bytes) ≡ length machine.frame.bytes =
    length-spliced machine.frame.bytes (bytes_of_number (size_bytes size) n) (a.ids.base id + from) (length (bytes_of_number (size_bytes size) n)) refl (omega arith)
    in rw found (record {
      at = refl;
      counted = refl;
      sound = frame_written program.maps held state machine a (slot_count insn) (a.ids.base id + from) (bytes_of_number (size_bytes size) n) same
          (All-from_recursion (λ byte. byte < 256) (bytes_of_number (size_bytes size) n) (bytes_small (size_bytes size) n));
    })
  where
    frame_written : (maps : List MapDef) (held : Held) (state : State) (machine : MachineState) (a : Abstracts maps held state machine) (slots at : ℕ) (bytes : List ℕ) →
        length (overwritten_at at bytes machine.frame.bytes) ≡ length machine.frame.bytes → All (λ byte. byte < 256) bytes →
        Abstracts maps held state (record machine { frame = with_bytes_at at bytes machine.frame; slot = machine.slot + slots; steps = machine.steps + 1 })
    frame_written maps held state machine a slots at bytes same small =
        let extends : Extends (kind_scope_of maps held a.ids machine) (kind_scope_of maps held a.ids (record machine { frame = with_bytes_at at bytes machine.frame; slot = machine.slot + slots })) =
        record { maps = refl; held = λ map shard cell h. h; base = λ id h. refl; found = λ id h. refl; slot = omega arith; generation = refl; size = same }
        in record {
          ids = a.ids;
          registers = λ register. covers_later (kind_scope_of maps held a.ids machine) (kind_scope_of maps held a.ids (record machine { frame = with_bytes_at at bytes machine.frame; slot = machine.slot + slots })) extends
              (kind_of state register) (register_value machine register) (a.registers register);
          stack = λ word h. word_later (kind_scope_of maps held a.ids machine) (kind_scope_of maps held a.ids (record machine { frame = with_bytes_at at bytes machine.frame; slot = machine.slot + slots })) extends
              (word_of state word) (places_of word machine.stack) (a.stack word h);
          start = λ h. rw same (a.start h);
          bases = a.bases;
          is_machine = record {
            eleven = a.is_machine.eleven;
            eleven_kinds = a.is_machine.eleven_kinds;
            stack_size = a.is_machine.stack_size;
            word_count = a.is_machine.word_count;
            worker = a.is_machine.worker;
            time = a.is_machine.time;
            frame = All-spliced (λ byte. byte < 256) machine.frame.bytes bytes at (length bytes) a.is_machine.frame small;
          };
        }
