-- The blocks that look records up.
use Rattle.std.proofs.Common.{◌≡◌, ℕ, ◌+◌, ◌-◌, ◌*◌, List, ◌∷◌, refl, sym, subst, ap, ◌∙◌, ◌<◌, ◌^◌, ◌%◌, ◌==◌, true, false, Bool, arith}
use Rattle.std.proofs.Common.{drop, not}
use Rattle.std.specs.Prelude.{slice_index, bit_xor, if◌then◌else◌}
use Rattle.std.specs.Int.Bits.{xor_zero_r}
use Rattle.std.proofs.lemmas.Bool.Decides.{nat_tests}
use Rattle.ebpf_decode.specs.declared.map.MapKind.{MapKind}
use Rattle.ebpf_decode.specs.declared.map.MapKind.TheVariants.{Array}
use Rattle.wire.specs.Fnv.{fnv1a64_of, fnv1a64_next}
use Rattle.semantics.specs.declared.call.Call.TheVariants.{Lookup, Update}
use Rattle.semantics.specs.LittleEndian.{bytes_of_number}
use Rattle.semantics.specs.Program.{shard_of_key}
use Rattle.ebpf_decode.specs.declared.insn.Insn.{Insn}
use Rattle.ebpf_decode.specs.InstructionEncoding.{slot_count}
use Rattle.wire.specs.FrameView.{FrameView}
use Rattle.wire.specs.FlowForm.{flow_bytes_of}
use Rattle.wire.specs.PlainIpv4.{total_length}
use Rattle.semantics.specs.RegisterValue.{RegisterValue, Number, ContextPointer}
use Rattle.semantics.specs.MachineState.{MachineState, StackByte}
use Rattle.block_runs.specs.Plan.{Plan}
use Rattle.block_runs.proofs.shared.Blocks.{Meets, Arrives}
use Rattle.conntrack.specs.Steering.{SteeringSizes, service_bytes_of}
use Rattle.steer.proofs.Conversation.{by_service, by_tunnel, by_note, by_ring, is_up}
use Rattle.steer.proofs.Promises.{AtVip, AtGuards, AtTracking, AtHash, AtRing, program, promise, came_in, is_came_in, from_guards}
use Rattle.steer.proofs.Promises.{from_tracking, from_hash, from_ring, from_tunnel}
use Rattle.steer.specs.PartStarts.{IsLong, with_r6, packet_start, service_stack, flow_stack, tunnel_stack, reg, place}
use Rattle.block_runs.proofs.shared.SpelledStates.{spelled, as_spelled}
use Rattle.block_runs.proofs.shared.BlockTests.{jumps, falls, forks, turns}
use Rattle.steer.specs.ShippedProgram.{vip_block, guards_block, tracking_block, hash_block, ring_block}

-- ---- the service

abbrev VipFrom : ℕ → SteeringSizes → List Insn → (ℕ → RegisterValue) → (ℕ → StackByte) → ℕ → ℕ → ℕ → FrameView → Type 0
VipFrom notes setting code r p worker now steps frame =
    Meets (Arrives (promise setting) 41 (from_guards setting)) (program notes setting code) vip_block
    (spelled 34 (with_r6 ContextPointer packet_start (r 8) (Number (total_length frame.bytes)) r)
    (service_stack p (service_bytes_of frame.bytes) (flow_bytes_of frame.bytes)) frame 0 worker now steps)
    (by_service setting frame)

vip_from : (notes : ℕ) (setting : SteeringSizes) (code : List Insn) (r : ℕ → RegisterValue) (p : ℕ → StackByte) (worker now steps : ℕ) (byte : ℕ → ℕ) (rest : List ℕ) →
    IsLong (came_in byte rest) → VipFrom notes setting code r p worker now steps (came_in byte rest)
unfolding slot_count
vip_from notes setting code r p worker now steps byte rest long = (
  refl,
  (
    λ id. falls _ _ _ _ _ _ (refl, λ word fits. record { flags = word; here = record { slot = refl; registers = refl; stack = refl; generation = refl; frame = long }; plan_is = refl }),
    jumps _ _ _ _ _ _ (record { here = record { slot = refl; registers = refl; stack = refl }; plan_is = refl }),
  ),
)

pub vip_meets : (notes : ℕ) (setting : SteeringSizes) (code : List Insn) (state : MachineState) (plan : Plan) → AtVip setting state plan →
    Meets (Arrives (promise setting) 41 (from_guards setting)) (program notes setting code) vip_block state plan
vip_meets notes setting code state plan at =
    as_spelled (Meets (Arrives (promise setting) 41 (from_guards setting)) (program notes setting code) vip_block) state plan _ 34 _ _ 0
    at.here.slot at.here.registers at.here.stack at.here.generation at.plan_is
    (subst (VipFrom notes setting code (reg state.registers) (place state.stack) state.worker state.now state.steps) (sym (is_came_in state.frame at.here.frame))
    (vip_from notes setting code (reg state.registers) (place state.stack) state.worker state.now state.steps (slice_index state.frame.bytes) (drop 42 state.frame.bytes)
    (subst IsLong (is_came_in state.frame at.here.frame) at.here.frame)))

not_not : (b : Bool) → not (not b) ≡ b
not_not true = refl
not_not false = refl

-- ---- guards

abbrev GuardsFrom : ℕ → SteeringSizes → List Insn → ℕ → (ℕ → RegisterValue) → (ℕ → StackByte) → ℕ → ℕ → ℕ → FrameView → Type 0
GuardsFrom notes setting code flags r p worker now steps frame =
    Meets (Arrives (promise setting) 57 (from_tracking setting)) (program notes setting code) guards_block
    (spelled 41 (with_r6 ContextPointer packet_start (Number flags) (Number (total_length frame.bytes)) r)
    (flow_stack p (flow_bytes_of frame.bytes)) frame 0 worker now steps)
    (by_tunnel setting flags frame)

guards_from : (notes : ℕ) (setting : SteeringSizes) (code : List Insn) (flags : ℕ) (r : ℕ → RegisterValue) (p : ℕ → StackByte) (worker now steps : ℕ) (byte : ℕ → ℕ) (rest : List ℕ) →
    IsLong (came_in byte rest) → GuardsFrom notes setting code flags r p worker now steps (came_in byte rest)
unfolding slot_count
guards_from notes setting code flags r p worker now steps byte rest long =
    forks _ _ _ _ _ _ _ _ _ refl (λ dead. record { here = record { slot = refl; registers = refl; stack = refl }; plan_is = refl })
    (λ alive. forks _ _ _ _ _ _ _ _ _ refl (λ long_packet. record { here = record { slot = refl; registers = refl; stack = refl }; plan_is = refl })
    (λ fits. (
      refl,
      (
        λ id. falls _ _ _ _ _ _ (
          refl,
          λ state state_fits. turns _ _ _ _ _ _ _ _ _ (not_not (state % 2 ^ 32 == 1))
              (λ not_ready. record { here = record { slot = refl; registers = refl; stack = refl }; plan_is = refl })
              (λ ready. (
                refl,
                λ source source_fits. (
                  refl,
                  λ macs macs_fits.
                      record { flags = flags; source = source; macs = macs; here = record { slot = refl; registers = refl; stack = refl; generation = refl; frame = long }; plan_is = refl },
                ),
              )),
        ),
        jumps _ _ _ _ _ _ (record { here = record { slot = refl; registers = refl; stack = refl }; plan_is = refl }),
      ),
    )))

pub guards_meets : (notes : ℕ) (setting : SteeringSizes) (code : List Insn) (state : MachineState) (plan : Plan) → AtGuards setting state plan →
    Meets (Arrives (promise setting) 57 (from_tracking setting)) (program notes setting code) guards_block state plan
guards_meets notes setting code state plan at =
    as_spelled (Meets (Arrives (promise setting) 57 (from_tracking setting)) (program notes setting code) guards_block) state plan _ 41 _ _ 0
    at.here.slot at.here.registers at.here.stack at.here.generation at.plan_is
    (subst (GuardsFrom notes setting code at.flags (reg state.registers) (place state.stack) state.worker state.now state.steps) (sym (is_came_in state.frame at.here.frame))
    (guards_from notes setting code at.flags (reg state.registers) (place state.stack) state.worker state.now state.steps (slice_index state.frame.bytes) (drop 42 state.frame.bytes)
    (subst IsLong (is_came_in state.frame at.here.frame) at.here.frame)))

-- ---- tracking

abbrev TrackingFrom : ℕ → SteeringSizes → List Insn → ℕ → ℕ → ℕ → (ℕ → RegisterValue) → (ℕ → StackByte) → ℕ → ℕ → ℕ → FrameView → Type 0
TrackingFrom notes setting code flags source macs r p worker now steps frame =
    Meets (Arrives (promise setting) 76 (from_hash setting)) (program notes setting code) tracking_block
    (spelled 57 (with_r6 ContextPointer packet_start (Number flags) (r 9) r)
    (tunnel_stack p source macs (flow_bytes_of frame.bytes)) frame 0 worker now steps)
    (by_note setting flags source macs frame)

tracking_from : (notes : ℕ) (setting : SteeringSizes) (code : List Insn) (flags source macs : ℕ) (r : ℕ → RegisterValue) (p : ℕ → StackByte) (worker now steps : ℕ) (byte : ℕ → ℕ) (rest : List ℕ) →
    IsLong (came_in byte rest) → TrackingFrom notes setting code flags source macs r p worker now steps (came_in byte rest)
unfolding slot_count
tracking_from notes setting code flags source macs r p worker now steps byte rest long =
    forks _ _ _ _ _ _ _ _ _ refl
    (λ notrack. record { flags = flags; source = source; macs = macs; here = record { slot = refl; registers = refl; stack = refl; generation = refl; frame = long }; plan_is = refl })
    (λ tracked. (
      refl,
      (
        λ id. falls _ _ _ _ _ _ (
          refl,
          λ note note_fits. (
            refl,
            (
              λ place. falls _ _ _ _ _ _ (
                refl,
                λ backend backend_fits. forks _ _ _ _ _ _ _ _ _ refl
                    (λ up. record { source = source; macs = macs; backend = backend; backend_fits = backend_fits; here = record { slot = refl; registers = refl; stack = refl; generation = refl; frame = long }; plan_is = refl })
                    (λ down. record { flags = flags; source = source; macs = macs; here = record { slot = refl; registers = refl; stack = refl; generation = refl; frame = long }; plan_is = refl }),
              ),
              jumps _ _ _ _ _ _ (record { flags = flags; source = source; macs = macs; here = record { slot = refl; registers = refl; stack = refl; generation = refl; frame = long }; plan_is = refl }),
            ),
          ),
        ),
        jumps _ _ _ _ _ _ (record { flags = flags; source = source; macs = macs; here = record { slot = refl; registers = refl; stack = refl; generation = refl; frame = long }; plan_is = refl }),
      ),
    ))

pub tracking_meets : (notes : ℕ) (setting : SteeringSizes) (code : List Insn) (state : MachineState) (plan : Plan) → AtTracking setting state plan →
    Meets (Arrives (promise setting) 76 (from_hash setting)) (program notes setting code) tracking_block state plan
tracking_meets notes setting code state plan at =
    as_spelled (Meets (Arrives (promise setting) 76 (from_hash setting)) (program notes setting code) tracking_block) state plan _ 57 _ _ 0
    at.here.slot at.here.registers at.here.stack at.here.generation at.plan_is
    (subst (TrackingFrom notes setting code at.flags at.source at.macs (reg state.registers) (place state.stack) state.worker state.now state.steps) (sym (is_came_in state.frame at.here.frame))
    (tracking_from notes setting code at.flags at.source at.macs (reg state.registers) (place state.stack) state.worker state.now state.steps
    (slice_index state.frame.bytes) (drop 42 state.frame.bytes)
    (subst IsLong (is_came_in state.frame at.here.frame) at.here.frame)))

-- ---- the flow's hash

xor_nothing : (a : ℕ) → bit_xor a 0 ≡ a
xor_nothing a = xor_zero_r a

abbrev times_prime : ℕ → ℕ
times_prime hash = (hash * 0x100000001b3) % 2 ^ 64

zero_byte : (hash : ℕ) → times_prime hash ≡ fnv1a64_next hash 0
zero_byte hash = ap times_prime (sym (xor_nothing hash))

three_zero_bytes : (hash : ℕ) → times_prime (times_prime (times_prime hash)) ≡ fnv1a64_next (fnv1a64_next (fnv1a64_next hash 0) 0) 0
three_zero_bytes hash =
    ap (λ h. times_prime (times_prime h)) (zero_byte hash) ∙ ap times_prime (zero_byte (fnv1a64_next hash 0))
    ∙ zero_byte (fnv1a64_next (fnv1a64_next hash 0) 0)

first_number : (a b : ℕ) (rest : List RegisterValue) → a ≡ b → Number a ∷ rest ≡ Number b ∷ rest
first_number a b rest same = ap (λ n. Number n ∷ rest) same

abbrev HashFrom : ℕ → SteeringSizes → List Insn → ℕ → ℕ → ℕ → (ℕ → RegisterValue) → (ℕ → StackByte) → ℕ → ℕ → ℕ → FrameView → Type 0
HashFrom notes setting code flags source macs r p worker now steps frame =
    Meets (Arrives (promise setting) 122 (from_ring setting)) (program notes setting code) hash_block
    (spelled 76 (with_r6 ContextPointer packet_start (Number flags) (r 9) r)
    (tunnel_stack p source macs (flow_bytes_of frame.bytes)) frame 0 worker now steps)
    (by_ring setting flags source macs frame)

hash_from : (notes : ℕ) (setting : SteeringSizes) (code : List Insn) (flags source macs : ℕ) (r : ℕ → RegisterValue) (p : ℕ → StackByte) (worker now steps : ℕ) (byte : ℕ → ℕ) (rest : List ℕ) →
    IsLong (came_in byte rest) → HashFrom notes setting code flags source macs r p worker now steps (came_in byte rest)
unfolding slot_count
hash_from notes setting code flags source macs r p worker now steps byte rest long =
    record {
      flags = flags;
      source = source;
      macs = macs;
      here = record {
        slot = refl;
        registers = first_number _ _ _ (three_zero_bytes _);
        stack = refl;
        generation = refl;
        frame = long;
      };
      plan_is = refl;
    }

pub hash_meets : (notes : ℕ) (setting : SteeringSizes) (code : List Insn) (state : MachineState) (plan : Plan) → AtHash setting state plan →
    Meets (Arrives (promise setting) 122 (from_ring setting)) (program notes setting code) hash_block state plan
hash_meets notes setting code state plan at =
    as_spelled (Meets (Arrives (promise setting) 122 (from_ring setting)) (program notes setting code) hash_block) state plan _ 76 _ _ 0
    at.here.slot at.here.registers at.here.stack at.here.generation at.plan_is
    (subst (HashFrom notes setting code at.flags at.source at.macs (reg state.registers) (place state.stack) state.worker state.now state.steps) (sym (is_came_in state.frame at.here.frame))
    (hash_from notes setting code at.flags at.source at.macs (reg state.registers) (place state.stack) state.worker state.now state.steps
    (slice_index state.frame.bytes) (drop 42 state.frame.bytes)
    (subst IsLong (is_came_in state.frame at.here.frame) at.here.frame)))

-- ---- the owner of the slot

pub same_key : (map : ℕ) (kind : MapKind) (shards m n : ℕ) → m ≡ n →
    Lookup (shard_of_key map kind shards (bytes_of_number 4 m)) (bytes_of_number 4 m) ≡ Lookup (shard_of_key map kind shards (bytes_of_number 4 n)) (bytes_of_number 4 n)
same_key map kind shards m n same = ap (λ k. Lookup (shard_of_key map kind shards (bytes_of_number 4 k)) (bytes_of_number 4 k)) same

same_value : (shard : ℕ) (key : List ℕ) (m n : ℕ) → m ≡ n → Update shard key (bytes_of_number 8 m) 0 ≡ Update shard key (bytes_of_number 8 n) 0
same_value shard key m n same = ap (λ k. Update shard key (bytes_of_number 8 k) 0) same

modulo : (a b : ℕ) → (b == 0) ≡ false → (if b == 0 then a else a % b) ≡ a % b
modulo a b some = ap (λ (t : Bool). if t then a else a % b) some

one_less : (owner : ℕ) → owner < 256 ^ 4 → (owner == 0) ≡ false → (owner + 18446744073709551615) % 18446744073709551616 ≡ owner - 1
one_less owner small some = grind (arith, nat_tests)

abbrev RingFrom : ℕ → SteeringSizes → List Insn → ℕ → ℕ → ℕ → (ℕ → RegisterValue) → (ℕ → StackByte) → ℕ → ℕ → ℕ → FrameView → Type 0
RingFrom notes setting code flags source macs r p worker now steps frame =
    Meets (Arrives (promise setting) 153 (from_tunnel setting)) (program notes setting code) (ring_block setting.size)
    (spelled 122 (Number (fnv1a64_of (flow_bytes_of frame.bytes)) ∷ drop 1 (with_r6 ContextPointer packet_start (Number flags) (r 9) r))
    (tunnel_stack p source macs (flow_bytes_of frame.bytes)) frame 0 worker now steps)
    (by_ring setting flags source macs frame)

ring_from : (notes : ℕ) (setting : SteeringSizes) (code : List Insn) (flags source macs : ℕ) (r : ℕ → RegisterValue) (p : ℕ → StackByte) (worker now steps : ℕ) (byte : ℕ → ℕ) (rest : List ℕ) →
    IsLong (came_in byte rest) → (setting.size == 0) ≡ false → RingFrom notes setting code flags source macs r p worker now steps (came_in byte rest)
unfolding slot_count
ring_from notes setting code flags source macs r p worker now steps byte rest long some_size = (
  same_key 2 Array setting.shards _ _ (modulo _ setting.size some_size),
  (
    λ id. falls _ _ _ _ _ _ (
      refl,
      λ owner owner_fits. forks _ _ _ _ _ _ _ _ _ refl
          (λ none. record { here = record { slot = refl; registers = refl; stack = refl }; plan_is = refl })
          (λ some. (
            same_key 3 Array setting.shards _ _ (one_less owner owner_fits some),
            (
              λ place. falls _ _ _ _ _ _ (
                refl,
                λ backend backend_fits. turns _ _ _ _ _ _ _ _ _ (not_not (is_up backend))
                    (λ down. record { here = record { slot = refl; registers = refl; stack = refl }; plan_is = refl })
                    (λ up. forks _ _ _ _ _ _ _ _ _ refl
                    (λ notrack. record { source = source; macs = macs; backend = backend; backend_fits = backend_fits; here = record { slot = refl; registers = refl; stack = refl; generation = refl; frame = long }; plan_is = refl })
                    (λ tracked. (
                      same_value _ _ _ _ (one_less owner owner_fits some),
                      λ answer answer_fits.
                          record { source = source; macs = macs; backend = backend; backend_fits = backend_fits; here = record { slot = refl; registers = refl; stack = refl; generation = refl; frame = long }; plan_is = refl },
                    ))),
              ),
              jumps _ _ _ _ _ _ (record { here = record { slot = refl; registers = refl; stack = refl }; plan_is = refl }),
            ),
          )),
    ),
    jumps _ _ _ _ _ _ (record { here = record { slot = refl; registers = refl; stack = refl }; plan_is = refl }),
  ),
)

pub ring_meets : (notes : ℕ) (setting : SteeringSizes) (code : List Insn) → (setting.size == 0) ≡ false → (state : MachineState) (plan : Plan) → AtRing setting state plan →
    Meets (Arrives (promise setting) 153 (from_tunnel setting)) (program notes setting code) (ring_block setting.size) state plan
ring_meets notes setting code some state plan at =
    as_spelled (Meets (Arrives (promise setting) 153 (from_tunnel setting)) (program notes setting code) (ring_block setting.size)) state plan _ 122 _ _ 0
    at.here.slot at.here.registers at.here.stack at.here.generation at.plan_is
    (subst (RingFrom notes setting code at.flags at.source at.macs (reg state.registers) (place state.stack) state.worker state.now state.steps) (sym (is_came_in state.frame at.here.frame))
    (ring_from notes setting code at.flags at.source at.macs (reg state.registers) (place state.stack) state.worker state.now state.steps
    (slice_index state.frame.bytes) (drop 42 state.frame.bytes)
    (subst IsLong (is_came_in state.frame at.here.frame) at.here.frame) some))
