-- The steering rule as a plan: which records a run reads, one after the other, and then what the rule (SteeringRule) makes of those that
-- it read. In the rule's order: a frame without a flow reads nothing (1); the service's record, and without one no more (2); a packet
-- that cannot go through the tunnel reads no more (3); the tunnel's record, and where it is not set up no more (4); the flow's note and
-- the noted backend's record, left out for a service without tracking (5); unless that backend gets the frame, the slot of the flow's
-- hash and its owner's record (6). At each end the rule's choice is carried out: the note where the rule says so, the verdict's count,
-- and the frame in the tunnel (7).
use Rattle.std.specs.Prelude.{ℕ, ◌+◌, ◌%◌, ◌==◌, List, [], ◌∷◌, ◌++◌, Bool, ◌&&◌, ◌||◌, nat_le, Option, Some, None, if◌then◌else◌}
use Rattle.std.specs.Prelude.{replicate, bit_and, slice_index, length}
use Rattle.wire.specs.FrameView.{FrameView}
use Rattle.wire.specs.Fnv.{fnv1a64_of}
use Rattle.wire.specs.FlowForm.{bytes_at, flow_bytes_of, be_word_at}
use Rattle.wire.specs.PlainIpv4.{total_length}
use Rattle.semantics.specs.declared.call.CellRef.{CellRef}
use Rattle.semantics.specs.declared.call.Call.{Call}
use Rattle.semantics.specs.declared.call.Call.TheVariants.{Lookup, Load, Atomic, Update}
use Rattle.semantics.specs.declared.call.Reply.{Reply}
use Rattle.semantics.specs.declared.call.Reply.TheVariants.{Cell}
use Rattle.semantics.specs.declared.linux.UpdateFlags.TheVariants.{Any}
use Rattle.semantics.specs.declared.verdict.Verdict.{Verdict}
use Rattle.semantics.specs.Linux.{flags_number}
use Rattle.semantics.specs.Cells.{word_in}
use Rattle.semantics.specs.LittleEndian.{bytes_of_number}
use Rattle.semantics.specs.Program.{shard_of_key}
use Rattle.semantics.specs.Semantics.{verdict_number}
use Rattle.conntrack.specs.declared.steering_maps.SteeringMap.{SteeringMap}
use Rattle.conntrack.specs.declared.steering_maps.SteeringMap.TheVariants.{Vips, Flows, Ring, Backends, Ctl, Stats}
use Rattle.conntrack.specs.declared.records.VipRecord.{VipRecord}
use Rattle.conntrack.specs.declared.records.TunnelRecord.{TunnelRecord}
use Rattle.conntrack.specs.declared.choosing.Assigned.{Assigned}
use Rattle.conntrack.specs.declared.choosing.Records.{Records}
use Rattle.conntrack.specs.declared.choosing.Choice.{Choice}
use Rattle.conntrack.specs.declared.choosing.Choice.TheVariants.{Pass}
use Rattle.conntrack.specs.Layouts.{vip_of, flow_record_of, backend_of, tunnel_of, owner_of}
use Rattle.conntrack.specs.SteeringMaps.{map_place, map_kind}
use Rattle.conntrack.specs.SteeringRule.{choice_for_service, tracked_choice, fits_tunnel, flow_update, frame_after, verdict_of_choice}
use Rattle.block_runs.specs.Plan.{Plan, Asks, Ends, either}

-- how many shards each map has, and how many slots the lookup table
pub record SteeringSizes : Type 0 where
  pub shards : ℕ
  pub size : ℕ

-- ---- calls on the maps

-- the number of the shard that has a key
abbrev pub steering_shard : SteeringSizes → SteeringMap → List ℕ → ℕ
steering_shard sizes map key = shard_of_key (map_place map) (map_kind map) sizes.shards key

-- a lookup: the plan goes on with the cell that was found, or without one
abbrev pub found_or : (CellRef → Plan) → Plan → Reply → Plan
found_or found absent (Cell cell) = found cell
found_or found absent reply = absent

abbrev pub look : SteeringSizes → SteeringMap → List ℕ → (CellRef → Plan) → Plan → Plan
look sizes map key found absent = Asks (Lookup (steering_shard sizes map key) key) (found_or found absent)

abbrev pub read : CellRef → ℕ → ℕ → (ℕ → Plan) → Plan
read cell offset size on = Asks (Load cell offset size) (λ reply. on (word_in reply))

-- the record of eight bytes that a key has, as one number; or none
abbrev pub record_of : SteeringSizes → SteeringMap → List ℕ → (ℕ → Plan) → Plan → Plan
record_of sizes map key known absent = look sizes map key (λ cell. read cell 0 8 known) absent

-- ---- frames

-- whether the frame has a flow
abbrev pub has_flow : List ℕ → Bool
has_flow frame =
    nat_le 42 (length frame) && (slice_index frame 12 == 0x08 && (slice_index frame 13 == 0x00 && (slice_index frame 14 == 0x45
    && (nat_le 28 (total_length frame) && (nat_le (14 + total_length frame) (length frame)
    && (bit_and (be_word_at 20 frame) 0x3fff == 0 && (slice_index frame 23 == 6 || slice_index frame 23 == 17)))))))

-- the key of the frame's service: destination address, destination port and protocol as they are in the frame, and a zero
abbrev pub service_bytes_of : List ℕ → List ℕ
service_bytes_of frame = bytes_at 30 4 frame ++ bytes_at 36 2 frame ++ slice_index frame 23 ∷ 0 ∷ []

-- ---- what is made of the records that were read

-- one is added to a count of eight bytes, atomically
abbrev pub count_call : CellRef → Call
count_call cell = Atomic cell 0 8 0 1 0

-- the verdict's count is raised by one, and the run ends
abbrev pub counted_end : SteeringSizes → Verdict → FrameView → Plan
counted_end sizes verdict frame =
    look sizes Stats (bytes_of_number 4 (verdict_number verdict))
    (λ cell. Asks (count_call cell) (λ reply. Ends verdict frame)) (Ends verdict frame)

-- the rule's choice for a frame with these records
abbrev pub choice_in : List ℕ → Records → Choice
choice_in frame records = if has_flow frame then choice_for_service (fits_tunnel frame) records records.vip else Pass

-- the chosen backend is noted for the flow, where the rule says so
abbrev pub noting : SteeringSizes → Option (List ℕ × List ℕ) → Plan → Plan
noting sizes None onward = onward
noting sizes (Some note) onward = Asks (Update (steering_shard sizes Flows note.0) note.0 note.1 (flags_number Any)) (λ reply. onward)

-- a choice carried out: the note, the verdict's count, the verdict and the frame
abbrev pub ending : SteeringSizes → FrameView → Option TunnelRecord → Choice → Plan
ending sizes frame tunnel choice =
    noting sizes (flow_update frame.bytes choice) (counted_end sizes (verdict_of_choice choice) (frame_after tunnel choice frame))

abbrev pub finish : SteeringSizes → FrameView → Records → Plan
finish sizes frame records = ending sizes frame records.tunnel (choice_in frame.bytes records)

-- ---- which records are read

abbrev pub no_records : Records
no_records = record { vip = None; tunnel = None; tracked = None; slot = None }

-- a backend's record, by its number
abbrev pub read_backend : SteeringSizes → ℕ → (Assigned → Plan) → Plan
read_backend sizes number on =
    record_of sizes Backends (bytes_of_number 4 number)
    (λ word. on (record { number = number; «record» = Some (backend_of (bytes_of_number 8 word)) }))
    (on (record { number = number; «record» = None }))

-- the owner of the flow's slot
abbrev pub read_owner : SteeringSizes → FrameView → Records → Option ℕ → Plan
read_owner sizes frame records None = finish sizes frame records
read_owner sizes frame records (Some number) =
    read_backend sizes number (λ assigned. finish sizes frame (record records { slot = Some assigned }))

abbrev pub read_slot : SteeringSizes → FrameView → Records → Plan
read_slot sizes frame records =
    look sizes Ring (bytes_of_number 4 (fnv1a64_of (flow_bytes_of frame.bytes) % sizes.size))
    (λ cell. read cell 0 4 (λ word. read_owner sizes frame records (owner_of word)))
    (finish sizes frame records)

-- the slot is read where the noted backend does not get the frame
abbrev pub unless_tracked : SteeringSizes → FrameView → Records → Option Choice → Plan
unless_tracked sizes frame records (Some choice) = finish sizes frame records
unless_tracked sizes frame records None = read_slot sizes frame records

abbrev pub read_note : SteeringSizes → FrameView → VipRecord → Records → Plan
read_note sizes frame vip records =
    either vip.is_notrack (read_slot sizes frame records)
    (record_of sizes Flows (flow_bytes_of frame.bytes)
    (λ word. read_backend sizes (flow_record_of (bytes_of_number 8 word)).backend (λ assigned.
    unless_tracked sizes frame (record records { tracked = Some assigned })
    (tracked_choice vip (record records { tracked = Some assigned }))))
    (read_slot sizes frame records))

-- the tunnel's record: first whether it is ready, and then its addresses
abbrev pub read_tunnel : SteeringSizes → FrameView → VipRecord → Records → Plan
read_tunnel sizes frame vip records =
    look sizes Ctl (bytes_of_number 4 0)
    (λ cell. read cell 16 8 (λ state.
    either (tunnel_of (replicate 16 0 ++ bytes_of_number 8 state)).is_ready
    (read cell 0 8 (λ source. read cell 8 8 (λ macs.
    read_note sizes frame vip
    (record records { tunnel = Some (tunnel_of (bytes_of_number 8 source ++ (bytes_of_number 8 macs ++ bytes_of_number 8 state))) }))))
    (finish sizes frame (record records { tunnel = Some (tunnel_of (replicate 16 0 ++ bytes_of_number 8 state)) }))))
    (finish sizes frame records)

-- a packet that can go through the tunnel gets on
abbrev pub pass_guard : SteeringSizes → FrameView → VipRecord → Plan
pass_guard sizes frame vip =
    either (fits_tunnel frame.bytes) (read_tunnel sizes frame vip (record no_records { vip = Some vip }))
    (finish sizes frame (record no_records { vip = Some vip }))

abbrev pub read_service : SteeringSizes → FrameView → Plan
read_service sizes frame =
    record_of sizes Vips (service_bytes_of frame.bytes) (λ word. pass_guard sizes frame (vip_of (bytes_of_number 8 word)))
    (finish sizes frame no_records)

-- the whole rule: a frame without a flow reads nothing
abbrev pub steering : SteeringSizes → FrameView → Plan
steering sizes frame = either (has_flow frame.bytes) (read_service sizes frame) (finish sizes frame no_records)
