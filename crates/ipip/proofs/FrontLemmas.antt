-- What lies where in a frame that begins with an Ethernet and an outer header.
use Rattle.std.proofs.Common.{◌≡◌, ℕ, ◌+◌, ◌-◌, ◌≤◌, List, [], ◌∷◌, ◌++◌, length, get_or, drop, replicate, refl, arith, ap, ◌∙◌, length-drop}
use Rattle.std.specs.Prelude.{slice_range}
use Rattle.wire.specs.FrameView.{FrameView, overwritten_at}
use Rattle.wire.specs.BigEndian.{be_word_at}
use Rattle.ipip.specs.declared.ends.Tunnel.{Tunnel}
use Rattle.wire.specs.PlainIpv4.{IsPlainIpv4, type_of_service, total_length}
use Rattle.ipip.specs.Encapsulation.{outer_header, encapsulated_frame}
use Rattle.ipip.proofs.HeaderLemmas.{outer_header-length, outer_header-version, outer_header-total}

-- two writes over a frame that grew by 20 bytes
pub written_headers : (ethernet outer old : List ℕ) → length ethernet ≡ 14 → length outer ≡ 20 → overwritten_at 14 outer (overwritten_at 0 ethernet (replicate 20 0 ++ old)) ≡ ethernet ++ outer ++ drop 14 old
written_headers (e0 ∷ e1 ∷ e2 ∷ e3 ∷ e4 ∷ e5 ∷ e6 ∷ e7 ∷ e8 ∷ e9 ∷ e10 ∷ e11 ∷ e12 ∷ e13 ∷ []) outer old fourteen twenty = rw twenty refl
written_headers _ outer old fourteen twenty = absurd (omega arith)

-- the parts of such a frame
pub record HasParts (outer rest frame : List ℕ) : Type 0 where
  pub outer_part : slice_range frame 14 34 ≡ outer
  pub rest_part : drop 34 frame ≡ rest
  pub type_high : get_or frame 12 0 ≡ 0x08
  pub type_low : get_or frame 13 0 ≡ 0x00
  pub version : get_or frame 14 0 ≡ get_or outer 0 0
  pub total : be_word_at 16 frame ≡ be_word_at 2 outer
  pub time_to_live : get_or frame 22 0 ≡ get_or outer 8 0
  pub size : length frame ≡ 34 + length rest

pub parts_of : (target source outer rest : List ℕ) → length target ≡ 6 → length source ≡ 6 → length outer ≡ 20 → HasParts outer rest (target ++ source ++ 0x08 ∷ 0x00 ∷ [] ++ outer ++ rest)
parts_of (d0 ∷ d1 ∷ d2 ∷ d3 ∷ d4 ∷ d5 ∷ []) (s0 ∷ s1 ∷ s2 ∷ s3 ∷ s4 ∷ s5 ∷ []) (h0 ∷ h1 ∷ h2 ∷ h3 ∷ h4 ∷ h5 ∷ h6 ∷ h7 ∷ h8 ∷ h9 ∷ h10 ∷ h11 ∷ h12 ∷ h13 ∷ h14 ∷ h15 ∷ h16 ∷ h17 ∷ h18 ∷ h19 ∷ []) rest six six' twenty =
    record {
      outer_part = refl;
      rest_part = refl;
      type_high = refl;
      type_low = refl;
      version = refl;
      total = refl;
      time_to_live = refl;
      size = omega arith;
    }
parts_of _ _ _ rest six six' twenty = absurd (omega arith)

-- the parts of a frame in a tunnel
pub encapsulated-parts : (tunnel : Tunnel) (old new : FrameView) → length tunnel.destination_mac.0 ≡ 6 → length tunnel.source_mac.0 ≡ 6 → length tunnel.source.0 ≡ 4 → length tunnel.target.0 ≡ 4 → new ≡ encapsulated_frame tunnel old → HasParts (outer_header (type_of_service old.bytes) (total_length old.bytes + 20) tunnel) (drop 14 old.bytes) new.bytes
encapsulated-parts tunnel old new six six' four four' is =
    let outer : List ℕ = outer_header (type_of_service old.bytes) (total_length old.bytes + 20) tunnel in
    rw is
    (parts_of tunnel.destination_mac.0 tunnel.source_mac.0 outer (drop 14 old.bytes) six six' (outer_header-length (type_of_service old.bytes) (total_length old.bytes + 20) tunnel four four'))

-- such a frame is plain IPv4, if the packet in the tunnel was
pub parts-plain : (service : ℕ) (tunnel : Tunnel) (old new : List ℕ) → IsPlainIpv4 old → HasParts (outer_header service (total_length old + 20) tunnel) (drop 14 old) new → IsPlainIpv4 new
parts-plain service tunnel old new plain parts =
    let total : be_word_at 16 new ≡ be_word_at 16 old + 20 = parts.total ∙ outer_header-total service (total_length old + 20) tunnel in
    let size : length new ≡ 34 + (length old - 14) = parts.size ∙ ap (λ n. 34 + n) (length-drop 14 old) in
    let long_old : 34 ≤ length old = plain.long in
    let whole_old : 14 + be_word_at 16 old ≤ length old = plain.whole in
    record {
      long = omega arith;
      ether_type_high = parts.type_high;
      ether_type_low = parts.type_low;
      version_and_header_length = parts.version ∙ outer_header-version service (total_length old + 20) tunnel;
      total_at_least = let enough : 20 ≤ be_word_at 16 new = omega arith in enough;
      whole = let all : 14 + be_word_at 16 new ≤ length new = omega arith in all;
    }
