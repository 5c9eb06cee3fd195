-- The blocks that write the new headers.
use Rattle.std.proofs.Common.{◌≡◌, ℕ, ◌+◌, ◌*◌, ◌++◌, List, [], ◌∷◌, refl, sym, subst, ap, pos, ◌<◌, ◌≤◌, ◌%◌, ◌/◌, arith, drop}
use Rattle.std.specs.Prelude.{slice_index, bit_xor}
use Rattle.ebpf_decode.specs.declared.insn.Insn.{Insn}
use Rattle.ebpf_decode.specs.InstructionEncoding.{slot_count}
use Rattle.wire.specs.FrameView.{FrameView}
use Rattle.wire.specs.FlowForm.{flow_bytes_of}
use Rattle.wire.specs.FlowBytes.{be_bytes}
use Rattle.wire.specs.PlainIpv4.{total_length, type_of_service}
use Rattle.semantics.specs.declared.verdict.Verdict.TheVariants as V
use Rattle.semantics.specs.LittleEndian.{bytes_of_number, number_of_bytes}
use Rattle.semantics.specs.RegisterValue.{RegisterValue, Number, StackPointer, ContextPointer, PacketPointer}
use Rattle.semantics.specs.MachineState.{MachineState, StackByte}
use Rattle.block_runs.specs.Plan.{Plan}
use Rattle.block_runs.proofs.shared.Blocks.{Meets, Arrives}
use Rattle.steer.proofs.Tunnelling.{tunnelled_with, header_checksum}
use Rattle.conntrack.specs.Steering.{SteeringSizes, counted_end}
use Rattle.steer.proofs.Conversation.{sent}
use Rattle.steer.proofs.Promises.{AtTunnel, AtChecksum, program, promise, came_in, is_came_in, from_checksum, from_pass}
use Rattle.steer.specs.PartStarts.{IsLong, packet_start, with_r6, tunnel_stack, any_stack, long_frame, reg, place}
use Rattle.block_runs.proofs.shared.SpelledStates.{spelled, as_spelled}
use Rattle.steer.proofs.NumberLemmas.{bytes_back, small_number, low_four, low_four_bytes, service_word, service_bytes, total_word}
use Rattle.steer.proofs.NumberLemmas.{total_bytes}
use Rattle.block_runs.proofs.shared.BlockTests.{falls}
use Rattle.steer.proofs.ChecksumLemmas.{checksum_field, added, fold_once}
use Rattle.steer.specs.ShippedProgram.{tunnel_block, checksum_block}

abbrev TunnelFrom : ℕ → SteeringSizes → List Insn → ℕ → ℕ → ℕ → (ℕ → RegisterValue) → (ℕ → StackByte) → ℕ → ℕ → ℕ → FrameView → Type 0
TunnelFrom notes setting code source macs backend r p worker now steps frame =
    Meets (Arrives (promise setting) 185 (from_checksum setting)) (program notes setting code) tunnel_block
    (spelled 153 (with_r6 ContextPointer packet_start (r 8) (Number backend) r)
    (tunnel_stack p source macs (flow_bytes_of frame.bytes)) frame 0 worker now steps)
    (sent setting source macs backend frame)

seventh_to_ninth : (a b c d e f g : RegisterValue) (h h' i i' j j' : ℕ) (k : RegisterValue) → h ≡ h' → i ≡ i' → j ≡ j' →
    a ∷ b ∷ c ∷ d ∷ e ∷ f ∷ g ∷ Number h ∷ Number i ∷ Number j ∷ k ∷ [] ≡ a ∷ b ∷ c ∷ d ∷ e ∷ f ∷ g ∷ Number h' ∷ Number i' ∷ Number j' ∷ k ∷ []
seventh_to_ninth a b c d e f g h h' i i' j j' k at_h at_i at_j = (λ n. a ∷ b ∷ c ∷ d ∷ e ∷ f ∷ g ∷ Number (at_h n) ∷ Number (at_i n) ∷ Number (at_j n) ∷ k ∷ [])

tunnel_from : (notes : ℕ) (setting : SteeringSizes) (code : List Insn) (source macs backend : ℕ) (r : ℕ → RegisterValue) (p : ℕ → StackByte) (worker now steps : ℕ) (byte : ℕ → ℕ) (rest : List ℕ) →
    ((n : ℕ) → byte n < 256) → IsLong (came_in byte rest) → TunnelFrom notes setting code source macs backend r p worker now steps (came_in byte rest)
unfolding slot_count
tunnel_from notes setting code source macs backend r p worker now steps byte rest are long =
    falls _ _ _ _ _ _ (falls _ _ _ _ _ _ (record {
      source = source;
      macs = macs;
      backend = backend;
      old = came_in byte rest;
      slot = refl;
      registers = seventh_to_ninth _ _ _ _ _ _ _ _ _ _ _ _ _ _ (total_word (byte 16) (byte 17) (are 16) (are 17) long.short) (service_word (byte 15) (are 15)) (low_four backend);
      stack = refl;
      generation = refl;
      frame = long;
      first = byte 4;
      second = byte 5;
      frame_is = (λ i. record {
        bytes = bytes_back (bytes_of_number 2 (macs / 256 / 256)) (small_number 2 (macs / 256 / 256)) i
            ++ (bytes_back (bytes_of_number 4 (macs / 256 / 256 / 256 / 256)) (small_number 4 (macs / 256 / 256 / 256 / 256)) i
            ++ (bytes_back (bytes_of_number 4 (source / 256 / 256 / 256 / 256)) (small_number 4 (source / 256 / 256 / 256 / 256)) i
            ++ (bytes_back (bytes_of_number 2 macs) (small_number 2 macs) i ++ (8 ∷ 0 ∷ []
            ++ (service_bytes (byte 15) (are 15) i ++ (total_bytes (byte 16) (byte 17) (are 16) (are 17) long.short i ++ (64 ∷ 0 ∷ 64 ∷ 4 ∷ byte 4 ∷ byte 5 ∷ []
            ++ (bytes_back (bytes_of_number 4 source) (small_number 4 source) i ++ (low_four_bytes backend i ++ drop 14 (long_frame byte rest))))))))));
        headroom = 236;
      });
      plan_is = refl;
    }))

pub tunnel_meets : (notes : ℕ) (setting : SteeringSizes) (code : List Insn) (state : MachineState) (plan : Plan) → AtTunnel setting state plan →
    Meets (Arrives (promise setting) 185 (from_checksum setting)) (program notes setting code) tunnel_block state plan
tunnel_meets notes setting code state plan at =
    as_spelled (Meets (Arrives (promise setting) 185 (from_checksum setting)) (program notes setting code) tunnel_block) state plan _ 153 _ _ 0
    at.here.slot at.here.registers at.here.stack at.here.generation at.plan_is
    (subst (TunnelFrom notes setting code at.source at.macs at.backend (reg state.registers) (place state.stack) state.worker state.now state.steps) (sym (is_came_in state.frame at.here.frame))
    (tunnel_from notes setting code at.source at.macs at.backend (reg state.registers) (place state.stack) state.worker state.now state.steps
    (slice_index state.frame.bytes) (drop 42 state.frame.bytes) at.here.frame.are_bytes
    (subst IsLong (is_came_in state.frame at.here.frame) at.here.frame)))

-- ---- the checksum

digits : ℕ → ℕ → ℕ
digits word n = slice_index (bytes_of_number 4 word) n

ChecksumFrom : ℕ → SteeringSizes → List Insn → ℕ → ℕ → ℕ → FrameView → ℕ → ℕ → (ℕ → RegisterValue) → (ℕ → StackByte) → ℕ → ℕ → ℕ → Type 0
ChecksumFrom notes setting code source macs backend old first second r p worker now steps =
    Meets (Arrives (promise setting) 205 (from_pass setting)) (program notes setting code) checksum_block
    (spelled 185 (r 0 ∷ PacketPointer 1 (pos 0) ∷ r 2 ∷ r 3 ∷ Number (number_of_bytes (bytes_of_number 4 source)) ∷ r 5 ∷ r 6
    ∷ Number (number_of_bytes (be_bytes (total_length old.bytes + 20))) ∷ Number (69 + 256 * type_of_service old.bytes)
    ∷ Number (number_of_bytes (bytes_of_number 4 backend)) ∷ StackPointer (pos 0) ∷ [])
    (any_stack p) (tunnelled_with (first ∷ second ∷ []) old source macs backend) 1 worker now steps)
    (sent setting source macs backend old)

checksum_from : (notes : ℕ) (setting : SteeringSizes) (code : List Insn) (source macs backend : ℕ) (old : FrameView) (first second : ℕ) (r : ℕ → RegisterValue) (p : ℕ → StackByte) (worker now steps : ℕ) →
    IsLong old → ChecksumFrom notes setting code source macs backend old first second r p worker now steps
unfolding slot_count ChecksumFrom
checksum_from notes setting code source macs backend old first second r p worker now steps long =
    record {
      verdict = V.Tx;
      here = record {
        slot = refl;
        registers = refl;
        stack = refl;
      };
      plan_is = ap (λ check. counted_end setting V.Tx (tunnelled_with check old source macs backend)) (sym written);
    }
  where
    low : (n : ℕ) → n % 256 < 256
    low n = omega arith

    written : bytes_of_number 2 (bit_xor (fold_once (fold_once (fold_once
        (added (type_of_service old.bytes) (total_length old.bytes + 20)
        (source % 256) (source / 256 % 256) (source / 256 / 256 % 256) (source / 256 / 256 / 256 % 256)
        (backend % 256) (backend / 256 % 256) (backend / 256 / 256 % 256) (backend / 256 / 256 / 256 % 256)
        (long.are_bytes 15) (let small : total_length old.bytes + 20 ≤ 65535 = (let short : total_length old.bytes ≤ 2034 = long.short in omega arith) in small)
        (low source) (low (source / 256)) (low (source / 256 / 256)) (low (source / 256 / 256 / 256))
        (low backend) (low (backend / 256)) (low (backend / 256 / 256)) (low (backend / 256 / 256 / 256)))))) 65535)
        ≡ be_bytes (header_checksum (type_of_service old.bytes) (total_length old.bytes + 20) (bytes_of_number 4 source) (bytes_of_number 4 backend))
    written = checksum_field (type_of_service old.bytes) (total_length old.bytes + 20)
        (source % 256) (source / 256 % 256) (source / 256 / 256 % 256) (source / 256 / 256 / 256 % 256)
        (backend % 256) (backend / 256 % 256) (backend / 256 / 256 % 256) (backend / 256 / 256 / 256 % 256)
        (long.are_bytes 15) (let small : total_length old.bytes + 20 ≤ 65535 = (let short : total_length old.bytes ≤ 2034 = long.short in omega arith) in small)
        (low source) (low (source / 256)) (low (source / 256 / 256)) (low (source / 256 / 256 / 256))
        (low backend) (low (backend / 256)) (low (backend / 256 / 256)) (low (backend / 256 / 256 / 256))

pub checksum_meets : (notes : ℕ) (setting : SteeringSizes) (code : List Insn) (state : MachineState) (plan : Plan) → AtChecksum setting state plan →
    Meets (Arrives (promise setting) 205 (from_pass setting)) (program notes setting code) checksum_block state plan
unfolding ChecksumFrom
checksum_meets notes setting code state plan at =
    as_spelled (Meets (Arrives (promise setting) 205 (from_pass setting)) (program notes setting code) checksum_block) state plan _ 185 _ _ 1
    at.slot at.registers at.stack at.generation at.plan_is
    (subst (λ (f : FrameView). Meets (Arrives (promise setting) 205 (from_pass setting)) (program notes setting code) checksum_block
    (spelled 185 (reg state.registers 0 ∷ PacketPointer 1 (pos 0) ∷ reg state.registers 2 ∷ reg state.registers 3 ∷ Number (number_of_bytes (bytes_of_number 4 at.source))
    ∷ reg state.registers 5 ∷ reg state.registers 6 ∷ Number (number_of_bytes (be_bytes (total_length at.old.bytes + 20))) ∷ Number (69 + 256 * type_of_service at.old.bytes)
    ∷ Number (number_of_bytes (bytes_of_number 4 at.backend)) ∷ StackPointer (pos 0) ∷ [])
    (any_stack (place state.stack)) f 1 state.worker state.now state.steps) (sent setting at.source at.macs at.backend at.old)) (sym at.frame_is)
    (checksum_from notes setting code at.source at.macs at.backend at.old at.first at.second (reg state.registers) (place state.stack) state.worker state.now state.steps at.frame))
