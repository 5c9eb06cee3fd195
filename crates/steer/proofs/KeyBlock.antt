-- The block that puts the keys on the stack.
use Rattle.std.proofs.Common.{◌≡◌, ℕ, ◌*◌, ◌++◌, List, [], ◌∷◌, refl, sym, subst, ap, ◌∙◌, pos, ◌<◌, ◌%◌, ◌/◌, arith, drop}
use Rattle.std.specs.Prelude.{slice_index, bit_or}
use Rattle.ebpf_decode.specs.declared.insn.Insn.{Insn}
use Rattle.ebpf_decode.specs.InstructionEncoding.{slot_count}
use Rattle.wire.specs.FrameView.{FrameView}
use Rattle.wire.specs.PlainIpv4.{total_length}
use Rattle.semantics.specs.LittleEndian.{bytes_of_number, number_of_bytes}
use Rattle.semantics.specs.Memory.{as_written}
use Rattle.semantics.specs.RegisterValue.{RegisterValue, Number, StackPointer, ContextPointer}
use Rattle.semantics.specs.MachineState.{MachineState, StackByte}
use Rattle.block_runs.specs.Plan.{Plan}
use Rattle.block_runs.proofs.shared.Blocks.{Meets, Arrives}
use Rattle.conntrack.specs.Steering.{SteeringSizes}
use Rattle.steer.proofs.Conversation.{by_service}
use Rattle.steer.proofs.Promises.{AtKey, program, promise, came_in, is_came_in, from_vip}
use Rattle.steer.specs.PartStarts.{IsLong, packet_start, any_stack, cells, reg, place}
use Rattle.block_runs.proofs.shared.SpelledStates.{spelled, as_spelled}
use Rattle.steer.proofs.NumberLemmas.{small_cells, bytes_back, upper_four, port_word, one_byte_word}
use Rattle.steer.specs.ShippedProgram.{key_block}

abbrev KeyFrom : ℕ → SteeringSizes → List Insn → (ℕ → RegisterValue) → (ℕ → StackByte) → ℕ → ℕ → ℕ → FrameView → Type 0
KeyFrom notes setting code r p worker now steps frame =
    Meets (Arrives (promise setting) 34 (from_vip setting)) (program notes setting code) key_block
    (spelled 23 (r 0 ∷ r 1 ∷ r 2 ∷ r 3 ∷ Number (slice_index frame.bytes 23) ∷ r 5 ∷ ContextPointer ∷ packet_start ∷ r 8 ∷ Number (total_length frame.bytes) ∷ StackPointer (pos 0) ∷ [])
    (any_stack p) frame 0 worker now steps)
    (by_service setting frame)

key_from : (notes : ℕ) (setting : SteeringSizes) (code : List Insn) (r : ℕ → RegisterValue) (p : ℕ → StackByte) (worker now steps : ℕ) (byte : ℕ → ℕ) (rest : List ℕ) →
    ((n : ℕ) → byte n < 256) → IsLong (came_in byte rest) → KeyFrom notes setting code r p worker now steps (came_in byte rest)
unfolding slot_count
key_from notes setting code r p worker now steps byte rest are long =
    let eight : bytes_of_number 8 (number_of_bytes (cells 26 8 byte)) ≡ cells 26 8 byte = bytes_back (cells 26 8 byte) (small_cells 26 8 byte are) in
    let four : bytes_of_number 4 (number_of_bytes (cells 34 4 byte)) ≡ cells 34 4 byte = bytes_back (cells 34 4 byte) (small_cells 34 4 byte are) in
    let protocol : bytes_of_number 4 (byte 23) ≡ byte 23 ∷ 0 ∷ 0 ∷ 0 ∷ [] = one_byte_word (byte 23) (are 23) in
    let upper : bytes_of_number 4 (number_of_bytes (cells 26 8 byte) / 4294967296) ≡ cells 30 4 byte =
    ap (bytes_of_number 4) (upper_four (byte 26) (byte 27) (byte 28) (byte 29) (cells 30 4 byte) (small_cells 26 4 byte are))
    ∙ bytes_back (cells 30 4 byte) (small_cells 30 4 byte are) in
    let zero_small : 0 < 256 = omega arith in
    let port : bytes_of_number 4 (bit_or (number_of_bytes (cells 34 4 byte) / 65536) ((byte 23 * 65536) % 18446744073709551616)) ≡ byte 36 ∷ byte 37 ∷ byte 23 ∷ 0 ∷ [] =
    ap (bytes_of_number 4) (port_word (byte 34) (byte 35) (byte 36) (byte 37) (byte 23) (are 34) (are 35) (are 36) (are 37) (are 23))
    ∙ bytes_back (byte 36 ∷ byte 37 ∷ byte 23 ∷ 0 ∷ []) (are 36, (are 37, (are 23, (zero_small, tt)))) in
    record {
      here = record {
        slot = refl;
        registers = refl;
        stack = (λ i. cells 0 488 p ++ (as_written (upper i) ++ (as_written (port i) ++ (as_written (eight i) ++ (as_written (four i) ++ as_written (protocol i))))));
        generation = refl;
        frame = long;
      };
      plan_is = refl;
    }

pub key_meets : (notes : ℕ) (setting : SteeringSizes) (code : List Insn) (state : MachineState) (plan : Plan) → AtKey setting state plan →
    Meets (Arrives (promise setting) 34 (from_vip setting)) (program notes setting code) key_block state plan
key_meets notes setting code state plan at =
    as_spelled (Meets (Arrives (promise setting) 34 (from_vip setting)) (program notes setting code) key_block) state plan _ 23 _ _ 0
    at.here.slot at.here.registers at.here.stack at.here.generation at.plan_is
    (subst (KeyFrom notes setting code (reg state.registers) (place state.stack) state.worker state.now state.steps) (sym (is_came_in state.frame at.here.frame))
    (key_from notes setting code (reg state.registers) (place state.stack) state.worker state.now state.steps (slice_index state.frame.bytes) (drop 42 state.frame.bytes)
    at.here.frame.are_bytes (subst IsLong (is_came_in state.frame at.here.frame) at.here.frame)))
