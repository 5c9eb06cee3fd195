-- What an entry of the maps of steering means: words, or the fields of a JSON object. The layouts are those of the maps' records.
use Rattle.std.specs.Prelude.{ℕ, ◌+◌, ◌==◌, ◌++◌, Bool, true, false, not, List, [], ◌∷◌, Option, Some, None, codes, decimal, length}
use Rattle.std.specs.Prelude.{if◌then◌else◌, slice_index}
use Rattle.wire.specs.declared.ethernet.Ipv4Address.{Ipv4Address}
use Rattle.maglev.specs.Population.{share_of}
use Rattle.conntrack.specs.declared.records.BackendRecord.{BackendRecord}
use Rattle.conntrack.specs.declared.records.TunnelRecord.{TunnelRecord}
use Rattle.conntrack.specs.Layouts.{backend_of, flow_record_of, record_word_at, ring_of, tunnel_of, vip_of}
use Rattle.map_meanings.specs.declared.form.ContentsForm.{ContentsForm}
use Rattle.map_meanings.specs.declared.form.ContentsForm.TheVariants.{Words, Json}
use Rattle.map_meanings.specs.declared.tables.Tables.{Tables}
use Rattle.map_meanings.specs.Pieces.{address_at, address_of, address_text, count_of, index_of, mac_text, means_text, port_at}
use Rattle.map_meanings.specs.Pieces.{protocol_text, sized, truth_text}

-- ---- services: map 0

abbrev pub tracked_words : Bool → List ℕ
tracked_words true = codes " notrack"
tracked_words false = []

abbrev pub service_pieces : ContentsForm → List ℕ → ℕ → List ℕ → Bool → List ℕ
service_pieces Words address port protocol is_notrack =
    codes "vip " ++ (address ++ (codes " " ++ (decimal port ++ (codes " " ++ (protocol ++ tracked_words is_notrack)))))
service_pieces Json address port protocol is_notrack =
    codes "\"service\":\"" ++ (address ++ (codes "\",\"port\":" ++ (decimal port ++ (codes ",\"protocol\":\"" ++ (protocol
    ++ (codes "\",\"tracked\":" ++ truth_text (not is_notrack)))))))

abbrev pub service_of_key : ContentsForm → List ℕ → Bool → List ℕ
service_of_key form key is_notrack = service_pieces form (address_at 0 key) (port_at 4 key) (protocol_text (slice_index key 6)) is_notrack

abbrev pub service_meaning : ContentsForm → List ℕ → List ℕ → List ℕ
service_meaning form key value = service_of_key form (sized 8 key) (vip_of (sized 8 value)).is_notrack

-- ---- backends, where flows and slots lead to them

abbrev pub backend_pieces : ContentsForm → ℕ → List ℕ → List ℕ
backend_pieces Words number address = codes "backend " ++ (decimal number ++ (codes " " ++ address))
backend_pieces Json number address = codes "\"backend\":" ++ (decimal number ++ (codes ",\"address\":\"" ++ (address ++ codes "\"")))

abbrev pub backend_text : ContentsForm → List Ipv4Address → ℕ → List ℕ
backend_text form addresses number = backend_pieces form number (address_text (address_of addresses number).0)

-- ---- notes of flows: map 1

-- one end of a flow; the fields are named after the end
abbrev pub end_pieces : ContentsForm → List ℕ → List ℕ → ℕ → List ℕ
end_pieces Words end address port = address ++ (codes " " ++ decimal port)
end_pieces Json end address port =
    codes "\"" ++ (end ++ (codes "\":\"" ++ (address ++ (codes "\",\"" ++ (end ++ (codes "_port\":" ++ decimal port))))))

abbrev pub flow_pieces : ContentsForm → List ℕ → List ℕ → List ℕ → List ℕ
flow_pieces Words source destination protocol =
    codes "flow " ++ (source ++ (codes " " ++ (destination ++ (codes " " ++ (protocol ++ codes " ")))))
flow_pieces Json source destination protocol =
    source ++ (codes "," ++ (destination ++ (codes ",\"protocol\":\"" ++ (protocol ++ codes "\","))))

abbrev pub flow_text : ContentsForm → List ℕ → List ℕ
flow_text form key =
    flow_pieces form (end_pieces form (codes "source") (address_at 0 key) (port_at 8 key))
    (end_pieces form (codes "destination") (address_at 4 key) (port_at 10 key)) (protocol_text (slice_index key 12))

abbrev pub note_meaning : ContentsForm → List Ipv4Address → List ℕ → List ℕ → List ℕ
note_meaning form addresses key value =
    flow_text form (sized 16 key) ++ backend_text form addresses (flow_record_of (sized 8 value)).backend

-- ---- slots of the lookup table: map 2

abbrev pub slot_pieces : ContentsForm → ℕ → List ℕ → List ℕ
slot_pieces Words slot owner = codes "slot " ++ (decimal slot ++ (codes " " ++ owner))
slot_pieces Json slot owner = codes "\"slot\":" ++ (decimal slot ++ (codes "," ++ owner))

abbrev pub nobody : ContentsForm → List ℕ
nobody Words = codes "none"
nobody Json = codes "\"backend\":null,\"address\":null"

abbrev pub owner_text : ContentsForm → List Ipv4Address → Option ℕ → List ℕ
owner_text form addresses None = nobody form
owner_text form addresses (Some number) = backend_text form addresses number

abbrev pub slot_meaning : ContentsForm → List Ipv4Address → List ℕ → List ℕ → List ℕ
slot_meaning form addresses key value = slot_pieces form (index_of key) (owner_text form addresses (ring_of (sized 8 value)).owner)

-- ---- backends: map 3

abbrev pub state_words : Bool → List ℕ
state_words true = codes "up"
state_words false = codes "down"

abbrev pub share_pieces : ContentsForm → ℕ → List ℕ → Bool → ℕ → List ℕ
share_pieces Words number address is_up slots =
    codes "backend " ++ (decimal number ++ (codes " " ++ (address ++ (codes " " ++ (state_words is_up ++ (codes " slots " ++ decimal slots))))))
share_pieces Json number address is_up slots =
    codes "\"backend\":" ++ (decimal number ++ (codes ",\"address\":\"" ++ (address ++ (codes "\",\"up\":" ++ (truth_text is_up
    ++ (codes ",\"slots\":" ++ decimal slots))))))

abbrev pub share_of_record : ContentsForm → List ℕ → ℕ → BackendRecord → List ℕ
share_of_record form words number backend = share_pieces form number (address_text backend.address.0) backend.is_up (share_of (number + 1) words)

-- the address, whether it is up, and how many slots it has
abbrev pub backend_meaning : ContentsForm → List ℕ → List ℕ → List ℕ → List ℕ
backend_meaning form words key value = share_of_record form words (index_of key) (backend_of (sized 8 value))

-- ---- the tunnel: map 4

abbrev pub ready_words : Bool → List ℕ
ready_words true = codes "ready"
ready_words false = codes "not-ready"

abbrev pub ready_text : ContentsForm → Bool → List ℕ
ready_text Words is_ready = ready_words is_ready
ready_text Json is_ready = truth_text is_ready

abbrev pub tunnel_pieces : ContentsForm → List ℕ → List ℕ → List ℕ → List ℕ → List ℕ
tunnel_pieces Words source source_mac destination_mac ready =
    codes "gateway " ++ (source ++ (codes " " ++ (source_mac ++ (codes " " ++ (destination_mac ++ (codes " " ++ ready))))))
tunnel_pieces Json source source_mac destination_mac ready =
    codes "\"source\":\"" ++ (source ++ (codes "\",\"source_mac\":\"" ++ (source_mac ++ (codes "\",\"destination_mac\":\"" ++ (destination_mac
    ++ (codes "\",\"ready\":" ++ ready))))))

abbrev pub tunnel_text : ContentsForm → TunnelRecord → List ℕ
tunnel_text form tunnel =
    tunnel_pieces form (address_text tunnel.source.0) (mac_text tunnel.source_mac.0) (mac_text tunnel.destination_mac.0)
    (ready_text form tunnel.is_ready)

-- only the first of the eight elements is used
abbrev pub tunnel_meaning : ContentsForm → List ℕ → List ℕ → List ℕ
tunnel_meaning form key value = if index_of key == 0 then tunnel_text form (tunnel_of (sized 24 value)) else []

-- ---- counts of verdicts: map 5

abbrev pub verdict_words : ℕ → List ℕ
verdict_words index =
    if index == 0 then codes "ABORTED"
    else (if index == 1 then codes "DROP"
    else (if index == 2 then codes "PASS"
    else (if index == 3 then codes "TX"
    else [])))

abbrev pub frames_pieces : ContentsForm → List ℕ → ℕ → List ℕ
frames_pieces Words verdict frames = codes "verdict " ++ (verdict ++ (codes " frames " ++ decimal frames))
frames_pieces Json verdict frames = codes "\"verdict\":\"" ++ (verdict ++ (codes "\",\"frames\":" ++ decimal frames))

-- there are four verdicts, and eight elements
abbrev pub frames_of : ContentsForm → List ℕ → ℕ → List ℕ
frames_of form [] frames = []
frames_of form (first ∷ more) frames = frames_pieces form (first ∷ more) frames

abbrev pub count_meaning : ContentsForm → List ℕ → List ℕ → List ℕ
count_meaning form key value = frames_of form (verdict_words (index_of key)) (count_of value)

-- ---- entries

-- what an entry of the map at a place means
abbrev pub meaning_of : ContentsForm → Tables → ℕ → List ℕ → List ℕ → List ℕ
meaning_of form tables map key value =
    if map == 0 then service_meaning form key value
    else (if map == 1 then note_meaning form tables.addresses.items key value
    else (if map == 2 then slot_meaning form tables.addresses.items key value
    else (if map == 3 then backend_meaning form tables.words.items key value
    else (if map == 4 then tunnel_meaning form key value
    else (if map == 5 then count_meaning form key value
    else [])))))

-- as it stands behind the entry's bytes
abbrev pub entry_meaning : ContentsForm → Tables → ℕ → List ℕ → List ℕ → List ℕ
entry_meaning form tables map key value = means_text form (meaning_of form tables map key value)

-- ---- what entries refer to

-- the word of a slot: one more than its owner's number, or 0
abbrev pub slot_word : List ℕ → ℕ
slot_word value = record_word_at 0 (sized 8 value)

-- the address of a backend
abbrev pub backend_address : List ℕ → Ipv4Address
backend_address value = (backend_of (sized 8 value)).address
