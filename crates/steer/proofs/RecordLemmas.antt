-- What the program's tests and bytes are in the words of the records.
use Rattle.std.proofs.Common.{◌≡◌, ℕ, ◌%◌, ◌/◌, ◌^◌, ◌<◌, ◌==◌, ◌++◌, ◌&&◌, not, List, ◌∷◌, refl, sym, ap, arith, ◌∙◌}
use Rattle.std.specs.Prelude.{nat_lt, nat_le}
use Rattle.std.proofs.lemmas.Nat.{and_mask}
use Rattle.std.proofs.lemmas.Bool.Decides.{nat_tests}
use Rattle.wire.specs.FrameView.{FrameView}
use Rattle.wire.specs.PlainIpv4.{total_length, time_to_live}
use Rattle.semantics.specs.LittleEndian.{bytes_of_number, number_of_bytes}
use Rattle.ipip.specs.Encapsulation.{encapsulated_frame, outer_header}
use Rattle.conntrack.specs.Layouts.{vip_of, flow_record_of, backend_of, tunnel_of, flow_bytes, record_word_at}
use Rattle.conntrack.specs.SteeringRule.{fits_tunnel, tunnel_to}
use Rattle.steer.proofs.Tunnelling.{tunnelled}
use Rattle.steer.proofs.Conversation.{is_notrack, is_up, is_ready}
use Rattle.steer.proofs.NumberLemmas.{bytes_back, small_number, low_four}

pub notrack_is : (word : ℕ) → is_notrack word ≡ (vip_of (bytes_of_number 8 word)).is_notrack
notrack_is word = ap (λ n. not (n == 0)) (and_mask word 1) ∙ odd word
  where
    odd : (n : ℕ) → not (n % 2 ^ 1 == 0) ≡ (n % 256 % 2 == 1)
    odd n = grind (arith, nat_tests)

pub up_is : (word : ℕ) → word < 256 ^ 8 → is_up word ≡ (backend_of (bytes_of_number 8 word)).is_up
up_is word small =
    let upper : word / 4294967296 ≡ record_word_at 4 (bytes_of_number 8 word) = omega arith in
    ap (λ n. n == 1) upper

pub ready_is : (before : List ℕ) (word : ℕ) → record_word_at 16 (before ++ bytes_of_number 8 word) ≡ number_of_bytes (bytes_of_number 4 word) →
    is_ready word ≡ (tunnel_of (before ++ bytes_of_number 8 word)).is_ready
ready_is before word at = ap (λ n. n == 1) (low_four word ∙ sym at)

pub note_key : (word : ℕ) → bytes_of_number 4 word ≡ bytes_of_number 4 (flow_record_of (bytes_of_number 8 word)).backend
note_key word = sym (bytes_back (bytes_of_number 4 word) (small_number 4 word))

pub fits_is : (frame : List ℕ) → fits_tunnel frame ≡ (not (time_to_live frame == 0) && not (nat_lt 1480 (total_length frame)))
fits_is frame = (λ i. alive (time_to_live frame) i && short (total_length frame) i)
  where
    alive : (n : ℕ) → nat_lt 0 n ≡ not (n == 0)
    alive n = grind (arith, nat_tests)

    short : (n : ℕ) → nat_le n 1480 ≡ not (nat_lt 1480 n)
    short n = grind (arith, nat_tests)

-- the frame in the tunnel
pub same_frame : (frame : FrameView) (source macs state backend : ℕ) →
    encapsulated_frame (tunnel_to (tunnel_of (bytes_of_number 8 source ++ (bytes_of_number 8 macs ++ bytes_of_number 8 state)))
    (backend_of (bytes_of_number 8 backend)).address) frame
    ≡ tunnelled frame source macs backend
unfolding outer_header
same_frame frame source macs state backend = refl

-- the note of a backend below 2 ^ 32
pub note_bytes : (number : ℕ) → number < 4294967296 → bytes_of_number 8 number ≡ flow_bytes (record { backend = number })
note_bytes number small =
    let none : number / 256 / 256 / 256 / 256 ≡ 0 = omega arith in
    ap (λ n. number % 256 ∷ number / 256 % 256 ∷ number / 256 / 256 % 256 ∷ number / 256 / 256 / 256 % 256 ∷ bytes_of_number 4 n) none
