-- The blocks together: from each part's start the shipped program does what is left of the rule's plan, and so from the beginning of a
-- run the whole.
use Rattle.std.proofs.Common.{◌≡◌, ◌⊎◌, inl, inr, ◌≤◌, ◌<◌, ◌==◌, ℕ, zero, suc, false, List, [], ◌∷◌, refl, sym, ap, subst, ◌∙◌, arith}
use Rattle.std.proofs.Common.{length}
use Rattle.std.specs.Prelude.{All, slice_index, None}
use Rattle.std.proofs.lemmas.Bool.{cases_lt}
use Rattle.std.proofs.lemmas.List.Elements.{All-get_or}
use Rattle.ebpf_decode.specs.declared.insn.Insn.{Insn}
use Rattle.ebpf_decode.specs.InstructionEncoding.{slot_count}
use Rattle.semantics.specs.declared.verdict.Verdict.TheVariants as V
use Rattle.semantics.specs.LittleEndian.{bytes_of_number}
use Rattle.semantics.specs.MachineState.{MachineState, initial_state}
use Rattle.semantics.specs.System.{input_frame}
use Rattle.semantics.specs.RunTrace.{RunTrace, whole_trace, AreReplies}
use Rattle.maglev.specs.RingSize.{IsRingSize}
use Rattle.ipip.specs.Encapsulation.{encapsulated_frame}
use Rattle.map_port.specs.Exchanges.{replies_in}
use Rattle.block_runs.specs.Plan.{Plan, outcome_of}
use Rattle.block_runs.proofs.shared.Blocks.{Promise, BlocksMeet, Arrives, code_of}
use Rattle.block_runs.proofs.shared.BlockLaw.{blocks_join, does_more}
use Rattle.block_runs.proofs.shared.Agreement.{does_agreeing, agrees_same}
use Rattle.conntrack.specs.Layouts.{backend_of}
use Rattle.conntrack.specs.SteeringRule.{tunnel_to}
use Rattle.conntrack.specs.Steering.{SteeringSizes, steering, read_service, pass_guard, read_note, read_slot, counted_end}
use Rattle.conntrack.proofs.shared.RuleLemmas.{passes_test}
use Rattle.conntrack.proofs.shared.ResultLemmas.{finished_runs}
use Rattle.steer.specs.ShippedProgram.{sized_image}
use Rattle.steer.specs.SteeringLaws.{ShippedSteers, ExitedRunsAreResults, shipped_program, of_size}
use Rattle.steer.specs.PartLaws.{DoesFrom, vip_in, tunnel_in, records_of_words, FlowDoesItsPart, VipDoesItsPart, GuardsDoTheirPart}
use Rattle.steer.specs.PartLaws.{TrackingDoesItsPart}
use Rattle.steer.specs.PartLaws.{RingDoesItsPart, TunnelDoesItsPart, CountDoesItsPart, PassIsCounted, DropIsCounted}
use Rattle.steer.proofs.Conversation.{steered, by_service, by_tunnel, by_note, by_ring, sent}
use Rattle.steer.proofs.Promises.{program, promise, from_flow, AtFlow, AtVip, AtGuards, AtTracking, AtHash, AtTunnel, AtVerdict, AtCount}
use Rattle.steer.proofs.RuleAgreement.{steering_agrees, service_agrees, guard_agrees, note_agrees, ring_agrees, sent_is}
use Rattle.steer.proofs.CountBlock.{end_meets, count_meets, drop_meets, pass_meets}
use Rattle.steer.proofs.LookBlocks.{vip_meets, guards_meets, tracking_meets, hash_meets, ring_meets}
use Rattle.steer.proofs.KeyBlock.{key_meets}
use Rattle.steer.proofs.FlowBlock.{flow_meets}
use Rattle.steer.proofs.TunnelBlock.{tunnel_meets, checksum_meets}

blocks_meet : (notes : ℕ) (setting : SteeringSizes) (code : List Insn) → (setting.size == 0) ≡ false → BlocksMeet (promise setting) (program notes setting code) 0 (from_flow setting)
unfolding slot_count
blocks_meet notes setting code some = (
  λ state plan at. (at.here.slot, flow_meets notes setting code state plan at),
  (
    λ state plan at. (at.here.slot, key_meets notes setting code state plan at),
    (
      λ state plan at. (at.here.slot, vip_meets notes setting code state plan at),
      (
        λ state plan at. (at.here.slot, guards_meets notes setting code state plan at),
        (
          λ state plan at. (at.here.slot, tracking_meets notes setting code state plan at),
          (
            λ state plan at. (at.here.slot, hash_meets notes setting code state plan at),
            (
              λ state plan at. (at.here.slot, ring_meets notes setting code some state plan at),
              (
                λ state plan at. (at.here.slot, tunnel_meets notes setting code state plan at),
                (
                  λ state plan at. (at.slot, checksum_meets notes setting code state plan at),
                  (
                    λ state plan at. (at.here.slot, pass_meets notes setting code state plan at),
                    (
                      λ state plan at. (at.here.slot, drop_meets notes setting code state plan at),
                      (
                        λ state plan at. (at.here.slot, count_meets notes setting code state plan at),
                        (λ state plan at. (at.slot, end_meets (Arrives (promise setting) 219 []) notes setting code state plan at), tt),
                      ),
                    ),
                  ),
                ),
              ),
            ),
          ),
        ),
      ),
    ),
  ),
)

-- by the list of blocks as it is written
same_code : (notes : ℕ) (setting : SteeringSizes) → code_of (from_flow setting) ≡ (sized_image notes setting.size).code
same_code notes setting = refl

pub has_size : (size : ℕ) → IsRingSize size → (size == 0) ≡ false
has_size size (zero, below, is) = subst (λ n. (n == 0) ≡ false) is refl
has_size size (suc zero, below, is) = subst (λ n. (n == 0) ≡ false) is refl
has_size size (suc (suc zero), below, is) = subst (λ n. (n == 0) ≡ false) is refl
has_size size (suc (suc (suc zero)), below, is) = subst (λ n. (n == 0) ≡ false) is refl
has_size size (suc (suc (suc (suc n))), below, is) = absurd (omega arith)

beyond : (bytes : List ℕ) (n : ℕ) → length bytes ≤ n → slice_index bytes n ≡ 0
beyond [] n past = refl
beyond (byte ∷ bytes) zero past = absurd (omega arith)
beyond (byte ∷ bytes) (suc n) past = beyond bytes n (let less : length bytes ≤ n = omega arith in less)

bytes_below : (bytes : List ℕ) → All (λ byte. byte < 256) bytes → (n : ℕ) → slice_index bytes n < 256
bytes_below bytes all n = by (cases_lt n (length bytes))
  where
    by : ((n < length bytes) ⊎ (length bytes ≤ n)) → slice_index bytes n < 256
    by (inl within) = All-get_or (λ (byte : ℕ). byte < 256) bytes n 0 within all
    by (inr past) = subst (λ (b : ℕ). b < 256) (sym (beyond bytes n past)) (let none : 0 < 256 = omega arith in none)

-- ---- from the start of a part

moved : (state : MachineState) (start : ℕ) → state.slot ≡ start → state ≡ record state { slot = start }
moved state start is = (λ i. record state { slot = is i })

-- the rest of the program does what is promised there
from_part : (notes : ℕ) (setting : SteeringSizes) → IsRingSize setting.size → (state : MachineState) (plan : Plan) →
    Arrives (promise setting) 0 (from_flow setting) state plan → DoesFrom notes setting state plan
unfolding slot_count
from_part notes setting is state plan arrives =
    does_more 209 219 (let more : 209 ≤ 219 = omega arith in more) (shipped_program notes setting) state plan
    (blocks_join _ (promise setting) (program notes setting (code_of (from_flow setting))) (from_flow setting) refl
    (blocks_meet notes setting (code_of (from_flow setting)) (has_size setting.size is)) state plan arrives)

-- of a part that starts at this slot
starting : (notes : ℕ) (setting : SteeringSizes) → IsRingSize setting.size → (state : MachineState) (plan : Plan) (start : ℕ) (promised : Promise) → state.slot ≡ start →
    promised state plan → (promised (record state { slot = start }) plan → Arrives (promise setting) 0 (from_flow setting) (record state { slot = start }) plan) →
    DoesFrom notes setting state plan
starting notes setting is state plan start promised slot at arrives =
    from_part notes setting is state plan
    (subst (λ (s : MachineState). Arrives (promise setting) 0 (from_flow setting) s plan) (sym (moved state start slot))
    (arrives (subst (λ (s : MachineState). promised s plan) (moved state start slot) at)))

pub flow_part : FlowDoesItsPart
unfolding slot_count
flow_part notes setting is state here =
    does_agreeing 219 (shipped_program notes setting) state (steered setting state.frame) (steering setting state.frame) (steering_agrees setting state.frame (shipped_program notes setting))
    (starting notes setting is state (steered setting state.frame) 0 (AtFlow setting) here.slot (record { here = here; plan_is = refl }) (λ at. at))

pub vip_part : VipDoesItsPart
unfolding slot_count
vip_part notes setting is state here flow =
    does_agreeing 219 (shipped_program notes setting) state (by_service setting state.frame) (read_service setting state.frame) (service_agrees setting state.frame (shipped_program notes setting) (passes_test state.frame.bytes flow))
    (starting notes setting is state (by_service setting state.frame) 34 (AtVip setting) here.slot (record { here = here; plan_is = refl }) (λ at. at))

pub guards_part : GuardsDoTheirPart
unfolding slot_count
guards_part notes setting is flags state here flow =
    does_agreeing 219 (shipped_program notes setting) state (by_tunnel setting flags state.frame) (pass_guard setting state.frame (vip_in flags)) (guard_agrees setting state.frame (shipped_program notes setting) flags (passes_test state.frame.bytes flow))
    (starting notes setting is state (by_tunnel setting flags state.frame) 41 (AtGuards setting) here.slot (record { flags = flags; here = here; plan_is = refl }) (λ at. at))

pub tracking_part : TrackingDoesItsPart
unfolding slot_count
tracking_part notes setting is flags source macs word state here past =
    does_agreeing 219 (shipped_program notes setting) state (by_note setting flags source macs state.frame) (read_note setting state.frame (vip_in flags) (records_of_words flags source macs word None)) (note_agrees setting state.frame (shipped_program notes setting) flags source macs word (record { flow = passes_test state.frame.bytes past.flow; fits = past.fits; ready = past.ready }))
    (starting notes setting is state (by_note setting flags source macs state.frame) 57 (AtTracking setting) here.slot (record { flags = flags; source = source; macs = macs; here = here; plan_is = refl }) (λ at. at))

pub ring_part : RingDoesItsPart
unfolding slot_count
ring_part notes setting is flags source macs word tracked state here past none =
    does_agreeing 219 (shipped_program notes setting) state (by_ring setting flags source macs state.frame) (read_slot setting state.frame (records_of_words flags source macs word tracked)) (ring_agrees setting state.frame (shipped_program notes setting) flags source macs word tracked (record { flow = passes_test state.frame.bytes past.flow; fits = past.fits; ready = past.ready }) (λ slot. none))
    (starting notes setting is state (by_ring setting flags source macs state.frame) 76 (AtHash setting) here.slot (record { flags = flags; source = source; macs = macs; here = here; plan_is = refl }) (λ at. at))

pub tunnel_part : TunnelDoesItsPart
unfolding slot_count
tunnel_part notes setting is source macs word backend fits state here =
    does_agreeing 219 (shipped_program notes setting) state (sent setting source macs backend state.frame) (counted_end setting V.Tx (encapsulated_frame (tunnel_to (tunnel_in source macs word) (backend_of (bytes_of_number 8 backend)).address) state.frame)) (agrees_same (shipped_program notes setting) _ _ (sent_is setting state.frame (shipped_program notes setting) 0 source macs word backend))
    (starting notes setting is state (sent setting source macs backend state.frame) 153 (AtTunnel setting) here.slot (record { source = source; macs = macs; backend = backend; backend_fits = fits; here = here; plan_is = refl }) (λ at. at))

pub count_part : CountDoesItsPart
unfolding slot_count
count_part notes setting is verdict state here =
    starting notes setting is state (counted_end setting verdict state.frame) 208 (AtCount setting) here.slot (record { verdict = verdict; here = here; plan_is = refl }) (λ at. at)

pub pass_part : PassIsCounted
unfolding slot_count
pass_part notes setting is state here =
    starting notes setting is state (counted_end setting V.Pass state.frame) 205 (AtVerdict 205 V.Pass setting) here.slot (record { here = here; plan_is = refl }) (λ at. at)

pub drop_part : DropIsCounted
unfolding slot_count
drop_part notes setting is state here =
    starting notes setting is state (counted_end setting V.Drop state.frame) 207 (AtVerdict 207 V.Drop setting) here.slot (record { here = here; plan_is = refl }) (λ at. at)

-- ---- from the beginning of a run

pub shipped_steers : ShippedSteers
unfolding slot_count
shipped_steers notes size shards is frame input worker now replies are =
    flow_part notes (of_size shards size) is (initial_state (input_frame frame) worker now)
    (record { slot = refl; registers = refl; stack = refl; generation = refl; headroom = refl; most = input.greatest; are_bytes = bytes_below frame input.bytes })
    219 (let same : 219 ≤ 219 = omega arith in same) replies are

pub exited_runs : ExitedRunsAreResults
exited_runs notes size shards is frame input worker now exchanges verdict last are trace =
    let own : AreReplies (shipped_program notes (of_size shards size))
    (whole_trace (shipped_program notes (of_size shards size)) (initial_state (input_frame frame) worker now) (replies_in exchanges)).calls (replies_in exchanges) =
    subst (λ (t : RunTrace). AreReplies (shipped_program notes (of_size shards size)) t.calls (replies_in exchanges)) (sym trace) are in
    finished_runs (of_size shards size) (input_frame frame) exchanges verdict last.frame
    (sym (shipped_steers notes size shards is frame input worker now (replies_in exchanges) own) ∙ ap outcome_of trace)
