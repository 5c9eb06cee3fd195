-- The frame in the tunnel, by the words of the records.
use Rattle.std.specs.Prelude.{ℕ, ◌+◌, ◌-◌, List, [], ◌∷◌, ◌++◌, take, drop}
use Rattle.wire.specs.FrameView.{FrameView}
use Rattle.wire.specs.FlowBytes.{be_bytes}
use Rattle.wire.specs.Checksum.{ones_sum_of, ones_complement}
use Rattle.wire.specs.PlainIpv4.{type_of_service, total_length}
use Rattle.semantics.specs.LittleEndian.{bytes_of_number}

-- with these bytes in place of the checksum
abbrev pub header_around : List ℕ → ℕ → ℕ → List ℕ → List ℕ → List ℕ
header_around check service total source target =
    0x45 ∷ service ∷ be_bytes total
    ++ 0 ∷ 0 ∷ 0x40 ∷ 0x00 ∷ []
    ++ 64 ∷ 4 ∷ check
    ++ source
    ++ target

abbrev pub header_with : ℕ → ℕ → ℕ → List ℕ → List ℕ → List ℕ
header_with checksum service total source target = header_around (be_bytes checksum) service total source target

abbrev pub header_checksum : ℕ → ℕ → List ℕ → List ℕ → ℕ
header_checksum service total source target = ones_complement (ones_sum_of (header_with 0 service total source target))

abbrev pub framed : List ℕ → List ℕ → List ℕ → FrameView → FrameView
framed macs header more old = record { bytes = macs ++ 0x08 ∷ 0x00 ∷ [] ++ header ++ more; headroom = old.headroom - 20 }

-- destination first
abbrev pub ethernet_addresses : ℕ → ℕ → List ℕ
ethernet_addresses source macs = drop 2 (bytes_of_number 8 macs) ++ (drop 4 (bytes_of_number 8 source) ++ take 2 (bytes_of_number 8 macs))

-- with any bytes in place of the checksum
abbrev pub tunnelled_with : List ℕ → FrameView → ℕ → ℕ → ℕ → FrameView
tunnelled_with check old source macs backend =
    framed (ethernet_addresses source macs)
    (header_around check (type_of_service old.bytes) (total_length old.bytes + 20) (bytes_of_number 4 source) (bytes_of_number 4 backend))
    (drop 14 old.bytes) old

abbrev pub tunnelled : FrameView → ℕ → ℕ → ℕ → FrameView
tunnelled old source macs backend =
    tunnelled_with (be_bytes (header_checksum (type_of_service old.bytes) (total_length old.bytes + 20) (bytes_of_number 4 source) (bytes_of_number 4 backend)))
    old source macs backend
