-- Which worker handles a record, and the records of each worker, in the capture's order.
use Rattle.std.specs.Prelude.{ℕ, zero, suc, ◌+◌, ◌%◌, ◌==◌, Bool, not, ◌&&◌, ◌||◌, nat_lt, List, [], ◌∷◌, ◌++◌, length, slice_index}
use Rattle.std.specs.Prelude.{slice_index_or, bit_and, map, if◌then◌else◌}
use Rattle.wire.specs.declared.records.Sent.{Sent}
use Rattle.semantics.specs.Replay.{Captured}
use Rattle.wire.specs.FlowForm.{be_word_at, flow_bytes_of}
use Rattle.wire.specs.Fnv.{fnv1a64_of}

-- a record of a capture, or a frame that is sent, in the model's words
abbrev pub captured_of : Sent → Captured
captured_of sent = record { seconds = sent.seconds; micros = sent.micros; bytes = sent.bytes.items }

abbrev pub all_captured : List Sent → List Captured
all_captured list = map captured_of list

-- the bytes of each record
abbrev pub frames_of : List Sent → List (List ℕ)
frames_of records = map (λ (sent : Sent). sent.bytes.items) records

abbrev pub frame_at : List (List ℕ) → ℕ → List ℕ
frame_at frames number = slice_index_or frames number []

-- the frame has no Ethernet header
abbrev pub is_short : List ℕ → Bool
is_short frame = nat_lt (length frame) 14

-- the frame is spread by its flow key: it has one (as `HasFlow` says)
abbrev pub is_spread_by_flow : List ℕ → Bool
is_spread_by_flow frame =
    not (nat_lt (length frame) 42) && (slice_index frame 12 == 0x08) && (slice_index frame 13 == 0x00) && (slice_index frame 14 == 0x45)
    && not (nat_lt (be_word_at 16 frame) 28) && not (nat_lt (length frame) (14 + be_word_at 16 frame))
    && (bit_and (be_word_at 20 frame) 0x3fff == 0) && ((slice_index frame 23 == 6) || (slice_index frame 23 == 17))

-- the hash of the flow's key modulo the number of workers; a frame without a flow goes to worker 0
abbrev pub worker_of_frame : List ℕ → ℕ → ℕ
worker_of_frame frame workers = if is_spread_by_flow frame then fnv1a64_of (flow_bytes_of frame) % workers else 0

-- the record is long enough, and its flow is this worker's
abbrev pub is_handed : List (List ℕ) → ℕ → ℕ → ℕ → Bool
is_handed frames workers worker number =
    not (is_short (frame_at frames number)) && (worker_of_frame (frame_at frames number) workers == worker)

-- the records of a worker among the first N, in order
abbrev pub share : List (List ℕ) → ℕ → ℕ → ℕ → List ℕ
share frames workers worker zero = []
share frames workers worker (suc count) =
    if is_handed frames workers worker count then share frames workers worker count ++ count ∷ [] else share frames workers worker count
