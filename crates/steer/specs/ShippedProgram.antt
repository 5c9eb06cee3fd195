-- The shipped program: the steering rule over the six maps of steering, as a list of blocks. A jump leads from its block to the start of
-- a later one.
use Rattle.std.specs.Prelude.{ℕ, ◌+◌, zero, suc, ℤ, pos, negsuc, List, [], ◌∷◌, ◌++◌, map}
use Rattle.std.specs.List.{flat_map}
use Rattle.isa.specs.declared.operation.Register.TheVariants.{R0, R1, R2, R3, R4, R6, R7, R8, R9, R10}
use Rattle.isa.specs.declared.operation.Size.TheVariants.{U8, U16, U32, U64}
use Rattle.isa.specs.declared.operation.SourceOperand.TheVariants.{Imm, Reg}
use Rattle.isa.specs.declared.operation.Width.TheVariants.{Bits32, Bits64}
use Rattle.isa.specs.declared.operation.AluOp.TheVariants.{Add, And, Lsh, Mod, Mov, Mul, Or, Rsh, Sub, Xor}
use Rattle.isa.specs.declared.operation.AtomicOp.TheVariants.{AtomicAdd}
use Rattle.isa.specs.declared.operation.ByteOrder.TheVariants.{ToBig}
use Rattle.isa.specs.declared.operation.SwapWidth.TheVariants.{Swap16}
use Rattle.isa.specs.declared.operation.Test.TheVariants.{Eq, Gt, Lt, Ne, Set}
use Rattle.ebpf_decode.specs.declared.insn.Insn.{Insn}
use Rattle.ebpf_decode.specs.declared.insn.Insn.TheVariants.{Alu, AtomicUpdate, CallHelper, End, Exit, Lddw, Ldmap, Ldx, St, Stx}
use Rattle.ebpf_decode.specs.declared.version.Version.TheVariants.{V1}
use Rattle.ebpf_decode.specs.ImageContents.{Contents}
use Rattle.ebpf_decode.specs.InstructionEncoding.{total_slots}
use Rattle.semantics.specs.declared.linux.Helper.{Helper}
use Rattle.semantics.specs.declared.linux.Helper.TheVariants.{MapLookupElem, MapUpdateElem, XdpAdjustHead}
use Rattle.semantics.specs.declared.verdict.Verdict.{Verdict}
use Rattle.semantics.specs.declared.verdict.Verdict.TheVariants as V
use Rattle.semantics.specs.Linux.{helper_number}
use Rattle.semantics.specs.Semantics.{verdict_number}
use Rattle.conntrack.specs.declared.steering_maps.SteeringMap.{SteeringMap}
use Rattle.conntrack.specs.declared.steering_maps.SteeringMap.TheVariants.{Vips, Flows, Ring, Backends, Ctl, Stats}
use Rattle.conntrack.specs.SteeringMaps.{sized_maps, map_place}
use Rattle.steer.specs.declared.layout.Block.{Block}
use Rattle.steer.specs.declared.layout.Block.TheVariants as B
use Rattle.steer.specs.declared.layout.Line.{Line}
use Rattle.steer.specs.declared.layout.Line.TheVariants.{Do, Jump}
use Rattle.steer.specs.declared.layout.Line.TheVariants.{JumpIf as JumpTo}
use Rattle.steer.specs.Layout.{slots_in, laid_out}
use Rattle.steer.specs.ProgramNames.{destination, destination_mac, destination_mac_rest, ethernet_header_length, ether_type, first_word_place}
use Rattle.steer.specs.ProgramNames.{fixed_words, flow_key, flow_ports, flow_protocol, fragment, fragment_bits, headers}
use Rattle.steer.specs.ProgramNames.{header_checksum_place, index, ipv4, least_packet, low_half_mask, most_packet, most_tunnelled}
use Rattle.steer.specs.ProgramNames.{new_headers, found_nothing, notrack, number, outer_header_length, owner, packet_end, packet_start_place}
use Rattle.steer.specs.ProgramNames.{plain_header, ports, protocol, ready, service_key_place, service_port, source, source_mac}
use Rattle.steer.specs.ProgramNames.{source_mac_rest, tcp, time_to_live_place, total_length_place, tunnel, tunnel_destination_mac}
use Rattle.steer.specs.ProgramNames.{tunnel_destination_mac_rest, tunnel_macs, tunnel_macs_word, tunnel_ready_word}
use Rattle.steer.specs.ProgramNames.{tunnel_source_mac, tunnel_source_word, type_of_service_place, udp, unfragmented_ttl_64_ipip, up}
use Rattle.steer.specs.ProgramNames.{version}

-- so far below
abbrev pub minus : ℕ → ℤ
minus zero = pos 0
minus (suc n) = negsuc n

abbrev pub negated : ℤ → ℤ
negated (pos n) = minus n
negated (negsuc n) = pos (suc n)

-- R1 is the map
abbrev pub of_map : SteeringMap → Insn
of_map which = Ldmap R1 (pos (map_place which))

-- R6 is the number of the verdict
abbrev pub decided : Verdict → Insn
decided verdict = Alu Bits64 Mov R6 (Imm (pos (verdict_number verdict)))

-- the call of a helper, by Linux's number of it
abbrev pub helper_call : Helper → Insn
helper_call helper = CallHelper (pos (helper_number helper))

-- the frame has a flow: an unfragmented IPv4 datagram without options, of TCP or UDP, whole in the frame
abbrev pub flow_lines : List Line
flow_lines =
    Do (Alu Bits64 Mov R6 (Reg R1)) ∷
    Do (Ldx U32 R7 R6 packet_start_place) ∷
    Do (Ldx U32 R8 R6 packet_end) ∷
    Do (Alu Bits64 Mov R2 (Reg R7)) ∷
    Do (Alu Bits64 Add R2 (Imm headers)) ∷
    JumpTo Bits64 Gt R2 (Reg R8) B.Pass ∷
    Do (Ldx U16 R3 R7 ether_type) ∷
    JumpTo Bits64 Ne R3 (Imm ipv4) B.Pass ∷
    Do (Ldx U8 R3 R7 version) ∷
    JumpTo Bits64 Ne R3 (Imm plain_header) B.Pass ∷
    Do (Ldx U16 R9 R7 total_length_place) ∷
    Do (End ToBig Swap16 R9) ∷
    JumpTo Bits64 Lt R9 (Imm least_packet) B.Pass ∷
    JumpTo Bits64 Gt R9 (Imm most_packet) B.Pass ∷
    Do (Alu Bits64 Mov R2 (Reg R7)) ∷
    Do (Alu Bits64 Add R2 (Imm ethernet_header_length)) ∷
    Do (Alu Bits64 Add R2 (Reg R9)) ∷
    JumpTo Bits64 Gt R2 (Reg R8) B.Pass ∷
    Do (Ldx U16 R3 R7 fragment) ∷
    JumpTo Bits64 Set R3 (Imm fragment_bits) B.Pass ∷
    Do (Ldx U8 R4 R7 protocol) ∷
    JumpTo Bits64 Eq R4 (Imm tcp) B.Key ∷
    JumpTo Bits64 Ne R4 (Imm udp) B.Pass ∷ []

-- the flow's key and its service's key go to the stack
abbrev pub key_lines : List Line
key_lines =
    Do (Ldx U64 R2 R7 source) ∷
    Do (Stx U64 R10 R2 flow_key) ∷
    Do (Ldx U32 R3 R7 ports) ∷
    Do (Stx U32 R10 R3 flow_ports) ∷
    Do (Stx U32 R10 R4 flow_protocol) ∷
    Do (Alu Bits64 Rsh R2 (Imm (pos 32))) ∷
    Do (Stx U32 R10 R2 service_key_place) ∷
    Do (Alu Bits64 Rsh R3 (Imm (pos 16))) ∷
    Do (Alu Bits64 Lsh R4 (Imm (pos 16))) ∷
    Do (Alu Bits64 Or R3 (Reg R4)) ∷
    Do (Stx U32 R10 R3 service_port) ∷ []

-- the flow asks a service
abbrev pub vip_lines : List Line
vip_lines =
    Do (of_map Vips) ∷
    Do (Alu Bits64 Mov R2 (Reg R10)) ∷
    Do (Alu Bits64 Add R2 (Imm service_key_place)) ∷
    Do (helper_call MapLookupElem) ∷
    JumpTo Bits64 Eq R0 (Imm found_nothing) B.Pass ∷
    Do (Ldx U64 R8 R0 first_word_place) ∷ []

-- the packet can be tunnelled, and the tunnel is set up
abbrev pub guards_lines : List Line
guards_lines =
    Do (Ldx U8 R3 R7 time_to_live_place) ∷
    JumpTo Bits64 Eq R3 (Imm (pos 0)) B.Drop ∷
    JumpTo Bits64 Gt R9 (Imm most_tunnelled) B.Drop ∷
    Do (St U32 R10 index (pos 0)) ∷
    Do (of_map Ctl) ∷
    Do (Alu Bits64 Mov R2 (Reg R10)) ∷
    Do (Alu Bits64 Add R2 (Imm index)) ∷
    Do (helper_call MapLookupElem) ∷
    JumpTo Bits64 Eq R0 (Imm found_nothing) B.Drop ∷
    Do (Ldx U64 R3 R0 tunnel_ready_word) ∷
    JumpTo Bits32 Ne R3 (Imm ready) B.Drop ∷
    Do (Ldx U64 R3 R0 tunnel_source_word) ∷
    Do (Stx U64 R10 R3 tunnel) ∷
    Do (Ldx U64 R3 R0 tunnel_macs_word) ∷
    Do (Stx U64 R10 R3 tunnel_macs) ∷ []

-- the backend that was noted for the flow, if it is up
abbrev pub tracking_lines : List Line
tracking_lines =
    JumpTo Bits64 Set R8 (Imm notrack) B.Hash ∷
    Do (of_map Flows) ∷
    Do (Alu Bits64 Mov R2 (Reg R10)) ∷
    Do (Alu Bits64 Add R2 (Imm flow_key)) ∷
    Do (helper_call MapLookupElem) ∷
    JumpTo Bits64 Eq R0 (Imm found_nothing) B.Hash ∷
    Do (Ldx U64 R3 R0 first_word_place) ∷
    Do (Stx U32 R10 R3 index) ∷
    Do (of_map Backends) ∷
    Do (Alu Bits64 Mov R2 (Reg R10)) ∷
    Do (Alu Bits64 Add R2 (Imm index)) ∷
    Do (helper_call MapLookupElem) ∷
    JumpTo Bits64 Eq R0 (Imm found_nothing) B.Hash ∷
    Do (Ldx U64 R9 R0 first_word_place) ∷
    Do (Alu Bits64 Mov R3 (Reg R9)) ∷
    Do (Alu Bits64 Rsh R3 (Imm (pos 32))) ∷
    JumpTo Bits64 Eq R3 (Imm up) B.Tunnel ∷ []

-- the byte at an offset on the stack goes into the hash
abbrev pub hash_byte : ℤ → List Insn
hash_byte offset =
    Ldx U8 R3 R10 offset ∷
    Alu Bits64 Xor R0 (Reg R3) ∷
    Alu Bits64 Mul R0 (Reg R4) ∷ []

-- the offsets of the bytes of the flow's key that may be other than zero
abbrev pub key_offsets : List ℤ
key_offsets = map minus (16 ∷ 15 ∷ 14 ∷ 13 ∷ 12 ∷ 11 ∷ 10 ∷ 9 ∷ 8 ∷ 7 ∷ 6 ∷ 5 ∷ 4 ∷ [])

-- the flow's hash: FNV-1a of the sixteen bytes of its key, the last three of them zero
abbrev pub hash_block : List Insn
hash_block =
    Lddw R0 0xcbf29ce484222325 ∷
    Lddw R4 0x00000100000001b3 ∷
    (flat_map hash_byte key_offsets
    ++ Alu Bits64 Mul R0 (Reg R4) ∷
    Alu Bits64 Mul R0 (Reg R4) ∷
    Alu Bits64 Mul R0 (Reg R4) ∷ [])

-- the owner of the flow's slot, if it is up, is noted for the flow
abbrev pub ring_lines : ℕ → List Line
ring_lines size =
    Do (Alu Bits64 Mod R0 (Imm (pos size))) ∷
    Do (Stx U32 R10 R0 index) ∷
    Do (of_map Ring) ∷
    Do (Alu Bits64 Mov R2 (Reg R10)) ∷
    Do (Alu Bits64 Add R2 (Imm index)) ∷
    Do (helper_call MapLookupElem) ∷
    JumpTo Bits64 Eq R0 (Imm found_nothing) B.Drop ∷
    Do (Ldx U32 R3 R0 owner) ∷
    JumpTo Bits64 Eq R3 (Imm found_nothing) B.Drop ∷
    Do (Alu Bits64 Sub R3 (Imm (pos 1))) ∷
    Do (Stx U64 R10 R3 number) ∷
    Do (of_map Backends) ∷
    Do (Alu Bits64 Mov R2 (Reg R10)) ∷
    Do (Alu Bits64 Add R2 (Imm number)) ∷
    Do (helper_call MapLookupElem) ∷
    JumpTo Bits64 Eq R0 (Imm found_nothing) B.Drop ∷
    Do (Ldx U64 R9 R0 first_word_place) ∷
    Do (Alu Bits64 Mov R3 (Reg R9)) ∷
    Do (Alu Bits64 Rsh R3 (Imm (pos 32))) ∷
    JumpTo Bits64 Ne R3 (Imm up) B.Drop ∷
    JumpTo Bits64 Set R8 (Imm notrack) B.Tunnel ∷
    Do (of_map Flows) ∷
    Do (Alu Bits64 Mov R2 (Reg R10)) ∷
    Do (Alu Bits64 Add R2 (Imm flow_key)) ∷
    Do (Alu Bits64 Mov R3 (Reg R10)) ∷
    Do (Alu Bits64 Add R3 (Imm number)) ∷
    Do (Alu Bits64 Mov R4 (Imm (pos 0))) ∷
    Do (helper_call MapUpdateElem) ∷ []

-- the frame is moved, and its new headers are written, all but the checksum
abbrev pub tunnel_lines : List Line
tunnel_lines =
    Do (Ldx U8 R8 R7 type_of_service_place) ∷
    Do (Ldx U16 R7 R7 total_length_place) ∷
    Do (Alu Bits64 Mov R1 (Reg R6)) ∷
    Do (Alu Bits64 Mov R2 (Imm (negated outer_header_length))) ∷
    Do (helper_call XdpAdjustHead) ∷
    JumpTo Bits64 Ne R0 (Imm (pos 0)) B.Drop ∷
    Do (Ldx U32 R1 R6 packet_start_place) ∷
    Do (Ldx U32 R2 R6 packet_end) ∷
    Do (Alu Bits64 Mov R3 (Reg R1)) ∷
    Do (Alu Bits64 Add R3 (Imm new_headers)) ∷
    JumpTo Bits64 Gt R3 (Reg R2) B.Drop ∷
    Do (Ldx U16 R3 R10 tunnel_destination_mac) ∷
    Do (Stx U16 R1 R3 destination_mac) ∷
    Do (Ldx U32 R3 R10 tunnel_destination_mac_rest) ∷
    Do (Stx U32 R1 R3 destination_mac_rest) ∷
    Do (Ldx U32 R3 R10 tunnel_source_mac) ∷
    Do (Stx U32 R1 R3 source_mac) ∷
    Do (Ldx U16 R3 R10 tunnel_macs) ∷
    Do (Stx U16 R1 R3 source_mac_rest) ∷
    Do (St U16 R1 ether_type ipv4) ∷
    Do (Alu Bits64 Lsh R8 (Imm (pos 8))) ∷
    Do (Alu Bits64 Or R8 (Imm plain_header)) ∷
    Do (Stx U16 R1 R8 version) ∷
    Do (End ToBig Swap16 R7) ∷
    Do (Alu Bits64 Add R7 (Imm outer_header_length)) ∷
    Do (End ToBig Swap16 R7) ∷
    Do (Stx U32 R1 R7 total_length_place) ∷
    Do (St U32 R1 fragment unfragmented_ttl_64_ipip) ∷
    Do (Ldx U32 R4 R10 tunnel) ∷
    Do (Stx U32 R1 R4 source) ∷
    Do (Alu Bits32 Mov R9 (Reg R9)) ∷
    Do (Stx U32 R1 R9 destination) ∷ []

-- the outer header's checksum; the frame is sent
abbrev pub checksum_lines : List Line
checksum_lines =
    Do (Alu Bits64 Add R4 (Reg R9)) ∷
    Do (Alu Bits64 Add R4 (Reg R8)) ∷
    Do (Alu Bits64 Add R4 (Reg R7)) ∷
    Do (Alu Bits64 Add R4 (Imm fixed_words)) ∷
    Do (Alu Bits64 Mov R3 (Reg R4)) ∷
    Do (Alu Bits64 Rsh R3 (Imm (pos 16))) ∷
    Do (Alu Bits64 And R4 (Imm low_half_mask)) ∷
    Do (Alu Bits64 Add R4 (Reg R3)) ∷
    Do (Alu Bits64 Mov R3 (Reg R4)) ∷
    Do (Alu Bits64 Rsh R3 (Imm (pos 16))) ∷
    Do (Alu Bits64 And R4 (Imm low_half_mask)) ∷
    Do (Alu Bits64 Add R4 (Reg R3)) ∷
    Do (Alu Bits64 Mov R3 (Reg R4)) ∷
    Do (Alu Bits64 Rsh R3 (Imm (pos 16))) ∷
    Do (Alu Bits64 And R4 (Imm low_half_mask)) ∷
    Do (Alu Bits64 Add R4 (Reg R3)) ∷
    Do (Alu Bits64 Xor R4 (Imm low_half_mask)) ∷
    Do (Stx U16 R1 R4 header_checksum_place) ∷
    Do (decided V.Tx) ∷
    Jump B.Count ∷ []

-- the frame passes
abbrev pub pass_lines : List Line
pass_lines =
    Do (decided V.Pass) ∷
    Jump B.Count ∷ []

-- the frame is dropped
abbrev pub drop_lines : List Line
drop_lines =
    Do (decided V.Drop) ∷ []

-- the verdict's count is raised
abbrev pub count_lines : List Line
count_lines =
    Do (Stx U32 R10 R6 index) ∷
    Do (of_map Stats) ∷
    Do (Alu Bits64 Mov R2 (Reg R10)) ∷
    Do (Alu Bits64 Add R2 (Imm index)) ∷
    Do (helper_call MapLookupElem) ∷
    JumpTo Bits64 Eq R0 (Imm found_nothing) B.End ∷
    Do (Alu Bits64 Mov R1 (Imm (pos 1))) ∷
    Do (AtomicUpdate Bits64 AtomicAdd R0 R1 first_word_place) ∷ []

-- the verdict
abbrev pub end_lines : List Line
end_lines =
    Do (Alu Bits64 Mov R0 (Reg R6)) ∷
    Do Exit ∷ []

-- ---- where the blocks start: each after those before it

abbrev pub flow_start : ℕ
flow_start = 0

abbrev pub key_start : ℕ
key_start = flow_start + slots_in flow_lines

abbrev pub vip_start : ℕ
vip_start = key_start + slots_in key_lines

abbrev pub guards_start : ℕ
guards_start = vip_start + slots_in vip_lines

abbrev pub tracking_start : ℕ
tracking_start = guards_start + slots_in guards_lines

abbrev pub hash_start : ℕ
hash_start = tracking_start + slots_in tracking_lines

abbrev pub ring_start : ℕ
ring_start = hash_start + total_slots hash_block

abbrev pub tunnel_start : ℕ
tunnel_start = ring_start + slots_in (ring_lines 0)

abbrev pub checksum_start : ℕ
checksum_start = tunnel_start + slots_in tunnel_lines

abbrev pub pass_start : ℕ
pass_start = checksum_start + slots_in checksum_lines

abbrev pub drop_start : ℕ
drop_start = pass_start + slots_in pass_lines

abbrev pub count_start : ℕ
count_start = drop_start + slots_in drop_lines

abbrev pub end_start : ℕ
end_start = count_start + slots_in count_lines

abbrev pub block_start : Block → ℕ
block_start B.Flow = flow_start
block_start B.Key = key_start
block_start B.Vip = vip_start
block_start B.Guards = guards_start
block_start B.Tracking = tracking_start
block_start B.Hash = hash_start
block_start B.Ring = ring_start
block_start B.Tunnel = tunnel_start
block_start B.Checksum = checksum_start
block_start B.Pass = pass_start
block_start B.Drop = drop_start
block_start B.Count = count_start
block_start B.End = end_start

-- ---- the blocks, laid out

abbrev pub flow_block : List Insn
flow_block = laid_out block_start flow_start flow_lines

abbrev pub key_block : List Insn
key_block = laid_out block_start key_start key_lines

abbrev pub vip_block : List Insn
vip_block = laid_out block_start vip_start vip_lines

abbrev pub guards_block : List Insn
guards_block = laid_out block_start guards_start guards_lines

abbrev pub tracking_block : List Insn
tracking_block = laid_out block_start tracking_start tracking_lines

abbrev pub ring_block : ℕ → List Insn
ring_block size = laid_out block_start ring_start (ring_lines size)

abbrev pub tunnel_block : List Insn
tunnel_block = laid_out block_start tunnel_start tunnel_lines

abbrev pub checksum_block : List Insn
checksum_block = laid_out block_start checksum_start checksum_lines

abbrev pub pass_block : List Insn
pass_block = laid_out block_start pass_start pass_lines

abbrev pub drop_block : List Insn
drop_block = laid_out block_start drop_start drop_lines

abbrev pub count_block : List Insn
count_block = laid_out block_start count_start count_lines

abbrev pub end_block : List Insn
end_block = laid_out block_start end_start end_lines

-- ---- the program

-- the blocks in order, for a lookup table of this size
abbrev pub shipped_blocks : ℕ → List (List Insn)
shipped_blocks size =
    flow_block ∷ key_block ∷ vip_block ∷ guards_block ∷ tracking_block ∷ hash_block ∷ ring_block size
    ∷ tunnel_block ∷ checksum_block ∷ pass_block ∷ drop_block ∷ count_block ∷ end_block ∷ []

abbrev pub code_of : List (List Insn) → List Insn
code_of [] = []
code_of (block ∷ blocks) = block ++ code_of blocks

-- the image over a flow table of so many notes and a lookup table of this size
abbrev pub sized_image : ℕ → ℕ → Contents
sized_image notes size = record { version = V1; maps = sized_maps notes size; code = code_of (shipped_blocks size) }

-- the one that is meant where nothing is said of the notes
abbrev pub shipped_image : ℕ → Contents
shipped_image size = sized_image 4096 size
