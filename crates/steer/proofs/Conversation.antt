-- The steering rule in the raw words that the program reads: the same plan as conntrack's, but for numbers in place of records.
use Rattle.std.specs.Prelude.{ℕ, ◌-◌, ◌%◌, ◌/◌, ◌^◌, ◌==◌, Bool, not, nat_lt, bit_and}
use Rattle.ebpf_decode.specs.declared.map.MapKind.TheVariants.{LruHash}
use Rattle.wire.specs.FrameView.{FrameView}
use Rattle.wire.specs.Fnv.{fnv1a64_of}
use Rattle.wire.specs.FlowForm.{flow_bytes_of}
use Rattle.wire.specs.PlainIpv4.{total_length, time_to_live}
use Rattle.semantics.specs.declared.call.Call.TheVariants.{Update}
use Rattle.semantics.specs.declared.verdict.Verdict.TheVariants as V
use Rattle.semantics.specs.LittleEndian.{bytes_of_number}
use Rattle.semantics.specs.Program.{shard_of_key}
use Rattle.block_runs.specs.Plan.{Plan, Asks, either}
use Rattle.conntrack.specs.Steering.{SteeringSizes, look, read, record_of, counted_end, has_flow, service_bytes_of}
use Rattle.steer.proofs.Tunnelling.{tunnelled}
use Rattle.conntrack.specs.declared.steering_maps.SteeringMap.TheVariants as M

-- ---- what records say

abbrev pub is_notrack : ℕ → Bool
is_notrack flags = not (bit_and flags 1 == 0)

abbrev pub is_up : ℕ → Bool
is_up backend = backend / 2 ^ 32 == 1

abbrev pub is_ready : ℕ → Bool
is_ready state = state % 2 ^ 32 == 1

-- ---- the rule

-- to the backend with this record
abbrev pub sent : SteeringSizes → ℕ → ℕ → ℕ → FrameView → Plan
sent setting source macs backend frame = counted_end setting V.Tx (tunnelled frame source macs backend)

abbrev pub dropped : SteeringSizes → FrameView → Plan
dropped setting frame = counted_end setting V.Drop frame

-- this backend is noted for the flow
abbrev pub noted : SteeringSizes → ℕ → FrameView → Plan → Plan
noted setting number frame onward =
    Asks (Update (shard_of_key 1 LruHash setting.shards (flow_bytes_of frame.bytes)) (flow_bytes_of frame.bytes) (bytes_of_number 8 number) 0) (λ reply. onward)

-- the owner of the flow's slot, if it is up
abbrev pub by_ring : SteeringSizes → ℕ → ℕ → ℕ → FrameView → Plan
by_ring setting flags source macs frame =
    look setting M.Ring (bytes_of_number 4 (fnv1a64_of (flow_bytes_of frame.bytes) % setting.size)) (λ cell. read cell 0 4 (λ owner.
    either (owner == 0) (dropped setting frame)
    (record_of setting M.Backends (bytes_of_number 4 (owner - 1)) (λ backend.
    either (is_up backend)
    (either (is_notrack flags) (sent setting source macs backend frame) (noted setting (owner - 1) frame (sent setting source macs backend frame)))
    (dropped setting frame))
    (dropped setting frame))))
    (dropped setting frame)

-- the backend that was noted for the flow, if it is up
abbrev pub by_note : SteeringSizes → ℕ → ℕ → ℕ → FrameView → Plan
by_note setting flags source macs frame =
    either (is_notrack flags) (by_ring setting flags source macs frame)
    (record_of setting M.Flows (flow_bytes_of frame.bytes) (λ note.
    record_of setting M.Backends (bytes_of_number 4 note) (λ backend.
    either (is_up backend) (sent setting source macs backend frame) (by_ring setting flags source macs frame))
    (by_ring setting flags source macs frame))
    (by_ring setting flags source macs frame))

-- a packet that fits through the tunnel, where that is set up
abbrev pub by_tunnel : SteeringSizes → ℕ → FrameView → Plan
by_tunnel setting flags frame =
    either (time_to_live frame.bytes == 0) (dropped setting frame)
    (either (nat_lt 1480 (total_length frame.bytes)) (dropped setting frame)
    (look setting M.Ctl (bytes_of_number 4 0) (λ cell. read cell 16 8 (λ state.
    either (is_ready state)
    (read cell 0 8 (λ source. read cell 8 8 (λ macs. by_note setting flags source macs frame)))
    (dropped setting frame)))
    (dropped setting frame)))

-- a flow for a service
abbrev pub by_service : SteeringSizes → FrameView → Plan
by_service setting frame =
    record_of setting M.Vips (service_bytes_of frame.bytes) (λ flags. by_tunnel setting flags frame) (counted_end setting V.Pass frame)

abbrev pub steered : SteeringSizes → FrameView → Plan
steered setting frame = either (has_flow frame.bytes) (by_service setting frame) (counted_end setting V.Pass frame)
