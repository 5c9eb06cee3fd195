-- A record at the front of bytes, and what its head says.
use Rattle.std.proofs.Common.{◌≡◌, ◌∙◌, ℕ, ◌+◌, ◌<◌, ◌≤◌, ◌^◌, nat_lt, List, [], ◌∷◌, ◌++◌, length, take, drop, Vec, Global, refl, sym, ap, arith}
use Rattle.std.proofs.lemmas.List.{length-drop, length-take-le}
use Rattle.wire.specs.declared.records.Sent.{Sent}
use Rattle.wire.specs.CaptureFormat.{le32_at, BeginsWithRecord}
use Rattle.folders.specs.declared.record_head.RecordHead.{RecordHead}
use Rattle.folders.specs.PieceReading.{IsAtFront}

-- a buffer with these items in place of its own
abbrev with_list : (buffer : Vec ℕ Global) (list : List ℕ) → length list < 2 ^ 63 → Vec ℕ Global
with_list buffer list few =
    record { ptr = buffer.ptr; len = length list; cap = length list; alloc = buffer.alloc; items = list; ok = (refl, omega arith); small = few }

-- the record is there
pub front_there : (buffer : Vec ℕ Global) (bytes : List ℕ) (head : RecordHead) → head.seconds ≡ le32_at 0 bytes → head.micros ≡ le32_at 4 bytes
    → head.kept ≡ le32_at 8 bytes → head.is_cut ≡ nat_lt (le32_at 8 bytes) (le32_at 12 bytes) → head.seconds < 2 ^ 32 → head.micros < 2 ^ 32
    → head.kept ≤ 2048 → 16 + head.kept ≤ length bytes → IsAtFront bytes head
front_there buffer bytes head seconds micros kept cut few_seconds few_micros small whole =
    let behind = length-drop 16 bytes in
    let frame = take head.kept (drop 16 bytes) in
    let long : length frame ≡ head.kept = length-take-le head.kept (drop 16 bytes) (omega (arith, behind, whole)) in
    record {
      sent = record {
        seconds = head.seconds;
        micros = head.micros;
        bytes = with_list buffer frame (omega (arith, long, small));
        spellable = (few_seconds, few_micros, omega (arith, long, small));
      };
      begins = record {
        seconds = sym seconds;
        micros = sym micros;
        kept = sym kept ∙ sym long;
        small = omega (arith, long, small);
        whole = omega (arith, long, whole);
        frame = ap (λ n. take n (drop 16 bytes)) (sym long);
      };
      seconds_are = seconds;
      micros_are = micros;
      kept_is = kept;
      cut_is = cut;
    }

-- a record of the same moment and the same bytes is at the front, too
pub begins_too : (bytes : List ℕ) (head : RecordHead) (front : IsAtFront bytes head) (sent : Sent) → sent.seconds ≡ head.seconds
    → sent.micros ≡ head.micros → sent.bytes.items ≡ front.sent.bytes.items → BeginsWithRecord bytes sent
begins_too bytes head front sent seconds micros same =
    let long = ap length same in
    let small = front.begins.small in
    let whole = front.begins.whole in
    record {
      seconds = sym front.seconds_are ∙ sym seconds;
      micros = sym front.micros_are ∙ sym micros;
      kept = front.begins.kept ∙ sym long;
      small = omega (arith, long, small);
      whole = omega (arith, long, whole);
      frame = same ∙ front.begins.frame ∙ ap (λ n. take n (drop 16 bytes)) (sym long);
    }

-- one record more
pub one_more : (was now these : List Sent) (sent : Sent) → these ≡ was → now ≡ these ++ sent ∷ [] → now ≡ was ++ sent ∷ []
one_more was now these sent same more = more ∙ ap (λ (them : List Sent). them ++ sent ∷ []) same
