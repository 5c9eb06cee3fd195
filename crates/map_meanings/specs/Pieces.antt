-- What the meanings of entries are put together from. A record or a key of another length than its map's counts as zeros.
use Rattle.std.specs.Prelude.{ℕ, ◌+◌, ◌*◌, ◌==◌, ◌++◌, Bool, true, false, List, [], ◌∷◌, codes, decimal, length}
use Rattle.std.specs.Prelude.{if◌then◌else◌, replicate, slice_get, slice_index, unwrap_or}
use Rattle.hex.specs.Hex.{encode_lower}
use Rattle.semantics.specs.LittleEndian.{number_of_bytes}
use Rattle.wire.specs.declared.ethernet.Ipv4Address.{Ipv4Address}
use Rattle.map_meanings.specs.declared.form.ContentsForm.{ContentsForm}
use Rattle.map_meanings.specs.declared.form.ContentsForm.TheVariants.{Words, Json}

-- this many bytes
abbrev pub sized : ℕ → List ℕ → List ℕ
sized count bytes = if length bytes == count then bytes else replicate count 0

-- the index that an array's key is, and the count in a record of eight bytes
abbrev pub index_of : List ℕ → ℕ
index_of key = number_of_bytes (sized 4 key)

abbrev pub count_of : List ℕ → ℕ
count_of value = number_of_bytes (sized 8 value)

-- four bytes as decimal numbers with dots between them
abbrev pub dotted : ℕ → ℕ → ℕ → ℕ → List ℕ
dotted a b c d = decimal a ++ (codes "." ++ (decimal b ++ (codes "." ++ (decimal c ++ (codes "." ++ decimal d)))))

-- an address
abbrev pub address_text : List ℕ → List ℕ
address_text bytes = dotted (slice_index bytes 0) (slice_index bytes 1) (slice_index bytes 2) (slice_index bytes 3)

-- the address in a key from a place on
abbrev pub address_at : ℕ → List ℕ → List ℕ
address_at place bytes =
    dotted (slice_index bytes place) (slice_index bytes (place + 1)) (slice_index bytes (place + 2)) (slice_index bytes (place + 3))

-- the port in a key from a place on, the high byte first
abbrev pub port_at : ℕ → List ℕ → ℕ
port_at place bytes = slice_index bytes place * 256 + slice_index bytes (place + 1)

-- a byte as two hexadecimal digits
abbrev pub pair : ℕ → List ℕ
pair byte = encode_lower (byte ∷ [])

-- six bytes with colons between them
abbrev pub colons : List ℕ → List ℕ → List ℕ → List ℕ → List ℕ → List ℕ → List ℕ
colons a b c d e f = a ++ (codes ":" ++ (b ++ (codes ":" ++ (c ++ (codes ":" ++ (d ++ (codes ":" ++ (e ++ (codes ":" ++ f)))))))))

-- an Ethernet address
abbrev pub mac_text : List ℕ → List ℕ
mac_text bytes =
    colons (pair (slice_index bytes 0)) (pair (slice_index bytes 1)) (pair (slice_index bytes 2)) (pair (slice_index bytes 3))
    (pair (slice_index bytes 4)) (pair (slice_index bytes 5))

-- a protocol's word, or its number where it is neither of TCP nor of UDP
abbrev pub protocol_text : ℕ → List ℕ
protocol_text number = if number == 6 then codes "tcp" else (if number == 17 then codes "udp" else decimal number)

abbrev pub truth_text : Bool → List ℕ
truth_text true = codes "true"
truth_text false = codes "false"

-- the address in the record of the backend of this number; zeros where there is none
abbrev pub address_of : List Ipv4Address → ℕ → Ipv4Address
address_of addresses number = unwrap_or (slice_get addresses number) (record { 0 = 0 ∷ 0 ∷ 0 ∷ 0 ∷ [] })

-- how an entry's meaning stands behind its bytes, if there is one
abbrev pub means_text : ContentsForm → List ℕ → List ℕ
means_text form [] = []
means_text Words (first ∷ more) = codes " " ++ (first ∷ more)
means_text Json (first ∷ more) = codes ",\"means\":{" ++ ((first ∷ more) ++ codes "}")
