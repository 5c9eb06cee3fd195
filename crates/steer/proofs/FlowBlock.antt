-- The first block: a frame without a flow passes.
use Rattle.std.proofs.Common.{◌≡◌, ℕ, ◌+◌, ◌*◌, List, [], ◌∷◌, refl, sym, subst, ap, ◌<◌, ◌≤◌, ◌==◌, true, false, Bool, drop, not, length}
use Rattle.std.proofs.Common.{replicate}
use Rattle.std.specs.Prelude.{slice_index, nat_lt, ◌||◌, pos}
use Rattle.ebpf_decode.specs.declared.insn.Insn.{Insn}
use Rattle.ebpf_decode.specs.InstructionEncoding.{slot_count}
use Rattle.wire.specs.FrameView.{FrameView}
use Rattle.semantics.specs.declared.verdict.Verdict.TheVariants as V
use Rattle.semantics.specs.LittleEndian.{reaches}
use Rattle.semantics.specs.RegisterValue.{RegisterValue, Number, Uninitialized, ContextPointer, PacketEnd, PacketPointer, StackPointer}
use Rattle.semantics.specs.MachineState.{MachineState, Unwritten, initial_registers}
use Rattle.block_runs.specs.Plan.{Plan, either}
use Rattle.block_runs.proofs.shared.Blocks.{Meets, Arrives}
use Rattle.conntrack.specs.Steering.{SteeringSizes, counted_end}
use Rattle.steer.proofs.Conversation.{steered, by_service}
use Rattle.steer.proofs.Promises.{AtFlow, program, promise, came_in, from_key}
use Rattle.steer.specs.PartStarts.{IsLong, long_frame, packet_start}
use Rattle.block_runs.proofs.shared.SpelledStates.{spelled, as_spelled}
use Rattle.block_runs.proofs.shared.BlockTests.{falls, tests, jumps_by}
use Rattle.steer.proofs.FlowTests.{passes, serves, FlowFacts}
use Rattle.steer.specs.ShippedProgram.{flow_block}
use Rattle.steer.proofs.FlowTests as flow

-- the same registers, with another number in R9
ninth : (a b c d e f g h i : RegisterValue) (m n : ℕ) (j : RegisterValue) → m ≡ n →
    a ∷ b ∷ c ∷ d ∷ e ∷ f ∷ g ∷ h ∷ i ∷ Number m ∷ j ∷ [] ≡ a ∷ b ∷ c ∷ d ∷ e ∷ f ∷ g ∷ h ∷ i ∷ Number n ∷ j ∷ []
ninth a b c d e f g h i m n j same = ap (λ k. a ∷ b ∷ c ∷ d ∷ e ∷ f ∷ g ∷ h ∷ i ∷ Number k ∷ j ∷ []) same

abbrev FlowFrom : ℕ → SteeringSizes → List Insn → ℕ → ℕ → ℕ → FrameView → Type 0
FlowFrom notes setting code worker now steps frame =
    Meets (Arrives (promise setting) 23 (from_key setting)) (program notes setting code) flow_block
    (spelled 0 initial_registers (replicate 512 Unwritten) frame 0 worker now steps) (steered setting frame)

-- the registers after the first look at the packet
abbrev looked : RegisterValue → RegisterValue → RegisterValue → List RegisterValue
looked two three nine =
    Uninitialized ∷ ContextPointer ∷ two ∷ three ∷ Uninitialized ∷ Uninitialized ∷ ContextPointer ∷ packet_start ∷ PacketEnd 0 ∷ nine ∷ StackPointer (pos 0) ∷ []

-- from a slot of the block on
abbrev FlowRest : ℕ → SteeringSizes → List Insn → ℕ → ℕ → ℕ → (ℕ → ℕ) → List ℕ → ℕ → List RegisterValue → Type 0
FlowRest notes setting code worker now steps byte rest from registers =
    Meets (Arrives (promise setting) 23 (from_key setting)) (program notes setting code) (drop from flow_block)
    (spelled from registers (replicate 512 Unwritten) (came_in byte rest) 0 worker now steps) (steered setting (came_in byte rest))

module _ (notes : ℕ) (setting : SteeringSizes) (code : List Insn) (worker now : ℕ) (byte : ℕ → ℕ) (rest : List ℕ) (are : (n : ℕ) → byte n < 256)
    (are_all : (n : ℕ) → slice_index (long_frame byte rest) n < 256) (most : length (long_frame byte rest) ≤ 2048) where
  long : byte 16 * 256 + byte 17 ≤ 2034 → IsLong (came_in byte rest)
  long short = record { bytes = refl; headroom = refl; are_bytes = are_all; short = short }

  flow_20 : (steps : ℕ) (two three : RegisterValue) → byte 16 * 256 + byte 17 ≤ 2034 → ((byte 23 == 6 || byte 23 == 17) ≡ true → FlowFacts byte rest) →
      FlowRest notes setting code worker now steps byte rest 20 (looked two three (Number (flow.total byte rest are)))
  unfolding slot_count
  flow_20 steps two three short facts =
      tests _ _ _ _ _ _ _
      (λ tcp. record {
        here = record {
          slot = refl;
          registers = ninth _ _ _ _ _ _ _ _ _ _ _ _ (flow.total_is byte rest are);
          stack = refl;
          generation = refl;
          frame = long short;
        };
        plan_is = serves setting byte rest (facts (flow.tcp byte rest are tcp));
      })
      (λ not_tcp. tests _ _ _ _ _ _ _
      (λ other. record { here = record { slot = refl; registers = refl; stack = refl }; plan_is = passes setting byte rest (flow.no_transport byte rest are not_tcp other) })
      (λ udp. record {
        here = record {
          slot = refl;
          registers = ninth _ _ _ _ _ _ _ _ _ _ _ _ (flow.total_is byte rest are);
          stack = refl;
          generation = refl;
          frame = long short;
        };
        plan_is = serves setting byte rest (facts (flow.udp byte rest are not_tcp udp));
      }))

  flow_14 : (steps : ℕ) (two three : RegisterValue) → byte 12 ≡ 8 → byte 13 ≡ 0 → byte 14 ≡ 69 → 28 ≤ byte 16 * 256 + byte 17 →
      nat_lt 2034 (flow.total byte rest are) ≡ false →
      FlowRest notes setting code worker now steps byte rest 14 (looked two three (Number (flow.total byte rest are)))
  unfolding slot_count
  flow_14 steps two three high low version least small =
      tests _ _ _ _ _ _ _ (λ cut. record { here = record { slot = refl; registers = refl; stack = refl }; plan_is = passes setting byte rest (flow.not_whole byte rest are small cut) })
      (λ whole. tests _ _ _ _ _ _ _ (λ part. record { here = record { slot = refl; registers = refl; stack = refl }; plan_is = passes setting byte rest (flow.a_fragment byte rest are part) })
      (λ one. flow_20 _ _ _ (flow.at_most byte rest are small) (λ transport. record {
        type_high = high;
        type_low = low;
        version = version;
        least = least;
        whole = flow.is_whole byte rest are small whole;
        unfragmented = flow.no_fragment byte rest are one;
        transport = transport;
      })))

  flow_10 : (steps : ℕ) (two three nine : RegisterValue) → byte 12 ≡ 8 → byte 13 ≡ 0 → byte 14 ≡ 69 →
      FlowRest notes setting code worker now steps byte rest 10 (looked two three nine)
  unfolding slot_count
  flow_10 steps two three nine high low version =
      tests _ _ _ _ _ _ _ (λ short. record { here = record { slot = refl; registers = refl; stack = refl }; plan_is = passes setting byte rest (flow.too_short byte rest are short) })
      (λ enough. tests _ _ _ _ _ _ _ (λ above. record { here = record { slot = refl; registers = refl; stack = refl }; plan_is = passes setting byte rest (flow.too_long byte rest are most above) })
      (λ small. flow_14 _ two three high low version (flow.long_enough byte rest are enough) small))

  flow_6 : (steps : ℕ) (two three nine : RegisterValue) → FlowRest notes setting code worker now steps byte rest 6 (looked two three nine)
  unfolding slot_count
  flow_6 steps two three nine =
      tests _ _ _ _ _ _ _ (λ other. record { here = record { slot = refl; registers = refl; stack = refl }; plan_is = passes setting byte rest (flow.other_type byte rest are other) })
      (λ ipv4. tests _ _ _ _ _ _ _ (λ other. record { here = record { slot = refl; registers = refl; stack = refl }; plan_is = passes setting byte rest (flow.other_version byte rest are other) })
      (λ version. flow_10 _ two _ nine (flow.ipv4_high byte rest are ipv4) (flow.ipv4_low byte rest are ipv4) (flow.version_4 byte rest are version)))

  pub long_from : (steps : ℕ) → FlowFrom notes setting code worker now steps (came_in byte rest)
  unfolding slot_count
  long_from steps = falls _ _ _ _ _ _ (flow_6 _ (PacketPointer 0 (pos 42)) Uninitialized Uninitialized)

-- a frame of fewer than 42 bytes
short_from : (notes : ℕ) (setting : SteeringSizes) (code : List Insn) (worker now steps : ℕ) (frame : FrameView) → reaches 42 frame.bytes ≡ false →
    FlowFrom notes setting code worker now steps frame
unfolding slot_count
short_from notes setting code worker now steps frame short =
    jumps_by _ _ _ _ _ _ _ (ap not short)
    (record {
      here = record {
        slot = refl;
        registers = refl;
        stack = refl;
      };
      plan_is =
          ap (λ t. either t (by_service setting frame) (counted_end setting V.Pass frame)) (flow.short_has_none frame.bytes short);
    })

-- ---- the block

IsInput : FrameView → Type 0
IsInput frame = (frame.headroom ≡ 256) × (length frame.bytes ≤ 2048) × ((n : ℕ) → slice_index frame.bytes n < 256)

-- a list that reaches so far, spelled out
pub spelled_out : (bytes : List ℕ) → reaches 42 bytes ≡ true → bytes ≡ long_frame (slice_index bytes) (drop 42 bytes)
spelled_out (a0 ∷ a1 ∷ a2 ∷ a3 ∷ a4 ∷ a5 ∷ a6 ∷ a7 ∷ a8 ∷ a9 ∷ a10 ∷ a11 ∷ a12 ∷ a13 ∷ a14 ∷ a15 ∷ a16 ∷ a17 ∷ a18 ∷ a19 ∷ a20 ∷ a21 ∷ a22 ∷ a23 ∷ a24 ∷ a25 ∷ a26 ∷ a27 ∷ a28 ∷ a29 ∷ a30 ∷ a31 ∷ a32 ∷ a33 ∷ a34 ∷ a35 ∷ a36 ∷ a37 ∷ a38 ∷ a39 ∷ a40 ∷ a41 ∷ rest) far = refl
spelled_out _ far = absurd cc

long_frames : (notes : ℕ) (setting : SteeringSizes) (code : List Insn) (worker now steps : ℕ) (frame : FrameView) → IsInput frame → reaches 42 frame.bytes ≡ true →
    FlowFrom notes setting code worker now steps frame
unfolding IsInput
long_frames notes setting code worker now steps frame input far =
    let spelled_bytes : frame.bytes ≡ long_frame (slice_index frame.bytes) (drop 42 frame.bytes) = spelled_out frame.bytes far in
    let same : frame ≡ came_in (slice_index frame.bytes) (drop 42 frame.bytes) = (λ i. record { bytes = spelled_bytes i; headroom = input.0 i }) in
    subst (FlowFrom notes setting code worker now steps) (sym same)
    (long_from notes setting code worker now (slice_index frame.bytes) (drop 42 frame.bytes) input.2
    (subst (λ (bytes : List ℕ). (n : ℕ) → slice_index bytes n < 256) spelled_bytes input.2)
    (subst (λ (bytes : List ℕ). length bytes ≤ 2048) spelled_bytes input.1) steps)

flow_from : (notes : ℕ) (setting : SteeringSizes) (code : List Insn) (worker now steps : ℕ) (frame : FrameView) → IsInput frame → (far : Bool) → reaches 42 frame.bytes ≡ far →
    FlowFrom notes setting code worker now steps frame
flow_from notes setting code worker now steps frame input true far = long_frames notes setting code worker now steps frame input far
flow_from notes setting code worker now steps frame input false short = short_from notes setting code worker now steps frame short

pub flow_meets : (notes : ℕ) (setting : SteeringSizes) (code : List Insn) (state : MachineState) (plan : Plan) → AtFlow setting state plan →
    Meets (Arrives (promise setting) 23 (from_key setting)) (program notes setting code) flow_block state plan
unfolding IsInput
flow_meets notes setting code state plan at =
    as_spelled (Meets (Arrives (promise setting) 23 (from_key setting)) (program notes setting code) flow_block) state plan _ 0 _ _ 0
    at.here.slot at.here.registers at.here.stack at.here.generation at.plan_is
    (flow_from notes setting code state.worker state.now state.steps state.frame (at.here.headroom, at.here.most, at.here.are_bytes) (reaches 42 state.frame.bytes) refl)
