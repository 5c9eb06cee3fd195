-- The bytes of keys and records of the steering maps. Numbers are little-endian; a service's port is as in a frame, high byte first.
use Rattle.std.specs.Prelude.{ℕ, suc, zero, ◌+◌, ◌%◌, ◌==◌, Bool, true, false, List, [], ◌∷◌, ◌++◌, Option, Some, None, take, drop}
use Rattle.std.specs.Prelude.{slice_index}
use Rattle.wire.specs.declared.flow.FlowKey.{FlowKey}
use Rattle.wire.specs.FlowBytes.{protocol_number, be_bytes}
use Rattle.semantics.specs.LittleEndian.{number_of_bytes, bytes_of_number}
use Rattle.conntrack.specs.declared.keys.Service.{Service}
use Rattle.conntrack.specs.declared.records.VipRecord.{VipRecord}
use Rattle.conntrack.specs.declared.records.FlowRecord.{FlowRecord}
use Rattle.conntrack.specs.declared.records.RingRecord.{RingRecord}
use Rattle.conntrack.specs.declared.records.BackendRecord.{BackendRecord}
use Rattle.conntrack.specs.declared.records.TunnelRecord.{TunnelRecord}

-- ---- keys

abbrev pub service_of : FlowKey → Service
service_of flow = record { address = flow.destination; port = flow.destination_port; transport = flow.transport }

abbrev pub service_key : Service → List ℕ
service_key service = service.address.0 ++ be_bytes service.port ++ protocol_number service.transport ∷ 0 ∷ []

-- ---- records as bytes

-- a number, then zeros to eight bytes
abbrev pub padded_word : ℕ → List ℕ
padded_word number = bytes_of_number 4 number ++ 0 ∷ 0 ∷ 0 ∷ 0 ∷ []

abbrev pub flag_number : Bool → ℕ
flag_number true = 1
flag_number false = 0

-- a service's flags: the lowest bit says that its flows are not tracked
abbrev pub vip_bytes : VipRecord → List ℕ
vip_bytes vip = padded_word (flag_number vip.is_notrack)

abbrev pub flow_bytes : FlowRecord → List ℕ
flow_bytes flow = padded_word flow.backend

-- one more than the owner's number, or 0 for none
abbrev pub owner_word : Option ℕ → ℕ
owner_word None = 0
owner_word (Some number) = number + 1

abbrev pub ring_bytes : RingRecord → List ℕ
ring_bytes slot = padded_word (owner_word slot.owner)

abbrev pub backend_bytes : BackendRecord → List ℕ
backend_bytes backend = backend.address.0 ++ bytes_of_number 4 (flag_number backend.is_up)

abbrev pub tunnel_bytes : TunnelRecord → List ℕ
tunnel_bytes tunnel =
    tunnel.source.0 ++ tunnel.source_mac.0 ++ tunnel.destination_mac.0 ++ bytes_of_number 4 (flag_number tunnel.is_ready) ++
    0 ∷ 0 ∷ 0 ∷ 0 ∷ []

-- ---- what bytes say

-- the number in four bytes from a place on
abbrev pub record_word_at : ℕ → List ℕ → ℕ
record_word_at place bytes = number_of_bytes (take 4 (drop place bytes))

abbrev pub part_of : ℕ → ℕ → List ℕ → List ℕ
part_of place count bytes = take count (drop place bytes)

abbrev pub vip_of : List ℕ → VipRecord
vip_of bytes = record { is_notrack = slice_index bytes 0 % 2 == 1 }

abbrev pub flow_record_of : List ℕ → FlowRecord
flow_record_of bytes = record { backend = record_word_at 0 bytes }

abbrev pub owner_of : ℕ → Option ℕ
owner_of zero = None
owner_of (suc number) = Some number

abbrev pub ring_of : List ℕ → RingRecord
ring_of bytes = record { owner = owner_of (record_word_at 0 bytes) }

abbrev pub backend_of : List ℕ → BackendRecord
backend_of bytes = record { address = record { 0 = part_of 0 4 bytes }; is_up = record_word_at 4 bytes == 1 }

abbrev pub tunnel_of : List ℕ → TunnelRecord
tunnel_of bytes = record {
  source = record { 0 = part_of 0 4 bytes };
  source_mac = record { 0 = part_of 4 6 bytes };
  destination_mac = record { 0 = part_of 10 6 bytes };
  is_ready = record_word_at 16 bytes == 1;
}
