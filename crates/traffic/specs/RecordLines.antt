-- The line of a record in a report, as CSV or as JSON (RFC 4180, RFC 8259): number, moment, worker, verdict, steps, case, backend, address,
-- the flow of its frame: source, source port, destination, destination port, protocol; and how its backend was chosen. What is not known is
-- empty, or null.
use Rattle.std.specs.Prelude.{ℕ, ◌/◌, ◌%◌, ◌==◌, ◌||◌, ◌++◌, List, [], ◌∷◌, codes, decimal, Option, Some, None, if◌then◌else◌, slice_index}
use Rattle.wire.specs.BigEndian.{be_word_at}
use Rattle.comparison.specs.Rows.{head_line}
use Rattle.traffic.specs.Counting.{address_at}
use Rattle.traffic.specs.Kinds.{is_of_flow_kind, frame_kind_of}
use Rattle.traffic.specs.declared.choice.Choice.{Choice}
use Rattle.traffic.specs.declared.choice.Choice.TheVariants.{Noted, Untracked, NoNote, NoteDown}
use Rattle.traffic.specs.declared.kind.FrameKind.{FrameKind}
use Rattle.traffic.specs.declared.kind.FrameKind.TheVariants as kinds
use Rattle.traffic.specs.declared.record_line.ReportForm.{ReportForm}
use Rattle.traffic.specs.declared.record_line.ReportForm.TheVariants.{Csv, Json}
use Rattle.traffic.specs.declared.record_line.LineVerdict.{LineVerdict}
use Rattle.traffic.specs.declared.record_line.LineVerdict.TheVariants as verdicts
use Rattle.traffic.specs.declared.record_line.RecordLine.{RecordLine}
use Rattle.traffic.specs.SummaryText.{address_number_text}

-- ---- pieces

-- the last six digits of a number
abbrev pub six_digits : ℕ → List ℕ
six_digits number =
    decimal (number / 100000 % 10) ++ (decimal (number / 10000 % 10) ++ (decimal (number / 1000 % 10) ++ (decimal (number / 100 % 10)
    ++ (decimal (number / 10 % 10) ++ decimal (number % 10)))))

-- microseconds as seconds
abbrev pub moment_text : ℕ → List ℕ
moment_text micros = decimal (micros / 1000000) ++ (codes "." ++ six_digits micros)

-- what is not known
abbrev pub missing : ReportForm → List ℕ
missing Csv = []
missing Json = codes "null"

abbrev pub number_text : ReportForm → Option ℕ → List ℕ
number_text form None = missing form
number_text form (Some number) = decimal number

abbrev pub quoted : List ℕ → List ℕ
quoted word = codes "\"" ++ (word ++ codes "\"")

-- a word; none is not known
abbrev pub report_word : ReportForm → List ℕ → List ℕ
report_word form [] = missing form
report_word Csv (first ∷ more) = first ∷ more
report_word Json (first ∷ more) = quoted (first ∷ more)

abbrev pub target_text : ReportForm → Option ℕ → List ℕ
target_text form None = missing form
target_text form (Some address) = report_word form (address_number_text address)

-- ---- words

abbrev pub verdict_word : LineVerdict → List ℕ
verdict_word verdicts.Short = codes "SHORT"
verdict_word verdicts.Stopped = codes "STOPPED"
verdict_word verdicts.Aborted = codes "ABORTED"
verdict_word verdicts.Drop = codes "DROP"
verdict_word verdicts.Pass = codes "PASS"
verdict_word verdicts.Tx = codes "TX"

-- a frame without a flow, by its kind
abbrev pub kind_word : FrameKind → List ℕ
kind_word kinds.Short = codes "short"
kind_word kinds.Ipv6 = codes "ipv6"
kind_word kinds.Arp = codes "arp"
kind_word kinds.Vlan = codes "vlan"
kind_word kinds.OtherType = codes "other-type"
kind_word kinds.Malformed = codes "malformed"
kind_word kinds.Options = codes "options"
kind_word kinds.Fragment = codes "fragment"
kind_word kinds.Icmp = codes "icmp"
kind_word kinds.OtherProtocol = codes "other-protocol"
kind_word kinds.Expired = codes "expired"
kind_word kinds.Large = codes "large"
kind_word kinds.Flow = codes "no-backend"

-- the case of the steering rule by which a frame of this kind has this verdict: a frame without a flow passes, and so does one whose flow
-- is for no service; one that cannot go through the tunnel is dropped; any other is sent to a backend, or dropped where there is none
abbrev pub case_word : FrameKind → LineVerdict → List ℕ
case_word kind verdicts.Drop = kind_word kind
case_word kind verdicts.Tx = codes "sent"
case_word kinds.Expired verdicts.Pass = codes "no-service"
case_word kinds.Large verdicts.Pass = codes "no-service"
case_word kinds.Flow verdicts.Pass = codes "no-service"
case_word kind verdicts.Pass = kind_word kind
case_word kind verdicts.Short = codes "short"
case_word kind verdicts.Stopped = []
case_word kind verdicts.Aborted = []

-- ---- how the backend of a sent frame was chosen

-- The shipped program sends a frame of TCP in so many steps, and one of UDP in one more: the backend that is noted for its flow is up; the
-- service is without tracking; the flow has no note; the record of the noted backend was never set, or says that it is not up. In all cases
-- but the first the lookup table chose.
abbrev pub choice_of_steps : ℕ → Option Choice
choice_of_steps steps =
    if steps == 133 || steps == 134 then Some Noted else (if steps == 182 || steps == 183 then Some Untracked else
    (if steps == 194 || steps == 195 then Some NoNote else
    (if steps == 201 || (steps == 202 || (steps == 205 || steps == 206)) then Some NoteDown else None)))

abbrev pub choice_of_known : Option ℕ → Option Choice
choice_of_known None = None
choice_of_known (Some steps) = choice_of_steps steps

-- how the shipped program chose the backend of a frame with this verdict, by the steps of its run; none for one that was not sent
abbrev pub choice_of : LineVerdict → Option ℕ → Option Choice
choice_of verdicts.Tx steps = choice_of_known steps
choice_of verdicts.Short steps = None
choice_of verdicts.Stopped steps = None
choice_of verdicts.Aborted steps = None
choice_of verdicts.Drop steps = None
choice_of verdicts.Pass steps = None

abbrev pub word_of_choice : Choice → List ℕ
word_of_choice Noted = codes "noted"
word_of_choice Untracked = codes "untracked"
word_of_choice NoNote = codes "no-note"
word_of_choice NoteDown = codes "note-down"

abbrev pub choice_text : Option Choice → List ℕ
choice_text None = []
choice_text (Some choice) = word_of_choice choice

-- and in a word
abbrev pub choice_word : LineVerdict → Option ℕ → List ℕ
choice_word verdict steps = choice_text (choice_of verdict steps)

-- ---- lines

-- which record it is, when it came, who ran it, and what came of it
abbrev pub csv_front : List ℕ → List ℕ → List ℕ → List ℕ → List ℕ
csv_front number moment worker verdict =
    number ++ (codes "," ++ (moment ++ (codes "," ++ (worker ++ (codes "," ++ verdict)))))

abbrev pub json_front : List ℕ → List ℕ → List ℕ → List ℕ → List ℕ
json_front number moment worker verdict =
    codes "{\"number\":" ++ (number ++ (codes ",\"moment\":" ++ (moment ++ (codes ",\"worker\":" ++ (worker ++ (codes ",\"verdict\":"
    ++ verdict))))))

abbrev pub front_of_pieces : ReportForm → List ℕ → List ℕ → List ℕ → List ℕ → List ℕ
front_of_pieces Csv number moment worker verdict = csv_front number moment worker verdict
front_of_pieces Json number moment worker verdict = json_front number moment worker verdict

abbrev pub front_text : ReportForm → ℕ → ℕ → Option ℕ → LineVerdict → List ℕ
front_text form number micros worker verdict =
    front_of_pieces form (decimal number) (report_word form (moment_text micros)) (number_text form worker)
    (report_word form (verdict_word verdict))

-- in how many steps, by which case, and where it was sent
abbrev pub csv_run : List ℕ → List ℕ → List ℕ → List ℕ → List ℕ
csv_run steps case backend address =
    codes "," ++ (steps ++ (codes "," ++ (case ++ (codes "," ++ (backend ++ (codes "," ++ address))))))

abbrev pub json_run : List ℕ → List ℕ → List ℕ → List ℕ → List ℕ
json_run steps case backend address =
    codes ",\"steps\":" ++ (steps ++ (codes ",\"case\":" ++ (case ++ (codes ",\"backend\":" ++ (backend ++ (codes ",\"address\":"
    ++ address))))))

abbrev pub run_of_pieces : ReportForm → List ℕ → List ℕ → List ℕ → List ℕ → List ℕ
run_of_pieces Csv steps case backend address = csv_run steps case backend address
run_of_pieces Json steps case backend address = json_run steps case backend address

abbrev pub run_text : ReportForm → Option ℕ → List ℕ → Option ℕ → Option ℕ → List ℕ
run_text form steps case backend address =
    run_of_pieces form (number_text form steps) (report_word form case) (number_text form backend) (target_text form address)

-- ---- the flow

-- a protocol by its number in the IPv4 header
abbrev pub protocol_word : ℕ → List ℕ
protocol_word protocol = if protocol == 6 then codes "tcp" else codes "udp"

abbrev pub csv_flow : List ℕ → List ℕ → List ℕ → List ℕ → List ℕ → List ℕ
csv_flow source source_port destination destination_port protocol =
    codes "," ++ (source ++ (codes "," ++ (source_port ++ (codes "," ++ (destination ++ (codes "," ++ (destination_port ++ (codes ","
    ++ protocol))))))))

abbrev pub json_flow : List ℕ → List ℕ → List ℕ → List ℕ → List ℕ → List ℕ
json_flow source source_port destination destination_port protocol =
    codes ",\"source\":" ++ (source ++ (codes ",\"source_port\":" ++ (source_port ++ (codes ",\"destination\":" ++ (destination
    ++ (codes ",\"destination_port\":" ++ (destination_port ++ (codes ",\"protocol\":" ++ protocol))))))))

abbrev pub flow_of_pieces : ReportForm → List ℕ → List ℕ → List ℕ → List ℕ → List ℕ → List ℕ
flow_of_pieces Csv source source_port destination destination_port protocol =
    csv_flow source source_port destination destination_port protocol
flow_of_pieces Json source source_port destination destination_port protocol =
    json_flow source source_port destination destination_port protocol

-- the flow of a frame that has one: addresses and ports as they are in the frame, the first byte highest
abbrev pub known_flow : ReportForm → List ℕ → List ℕ
known_flow form frame =
    flow_of_pieces form (target_text form (Some (address_at 26 frame))) (number_text form (Some (be_word_at 34 frame)))
    (target_text form (Some (address_at 30 frame))) (number_text form (Some (be_word_at 36 frame)))
    (report_word form (protocol_word (slice_index frame 23)))

abbrev pub no_flow : ReportForm → List ℕ
no_flow form = flow_of_pieces form (missing form) (missing form) (missing form) (missing form) (missing form)

-- the flow of a frame
abbrev pub flow_text : ReportForm → List ℕ → List ℕ
flow_text form frame = if is_of_flow_kind (frame_kind_of frame) then known_flow form frame else no_flow form

-- ---- the line's end

abbrev pub csv_end : List ℕ → List ℕ
csv_end choice = codes "," ++ (choice ++ codes "\n")

abbrev pub json_end : List ℕ → List ℕ
json_end choice = codes ",\"choice\":" ++ (choice ++ codes "}\n")

abbrev pub end_of_piece : ReportForm → List ℕ → List ℕ
end_of_piece Csv choice = csv_end choice
end_of_piece Json choice = json_end choice

-- how the backend was chosen
abbrev pub end_text : ReportForm → List ℕ → List ℕ
end_text form choice = end_of_piece form (report_word form choice)

-- ---- the whole line

-- the line of a record: its number, its moment in microseconds, its worker, its verdict; its steps, its case, its backend and the address
-- to which it was sent; the flow of its frame; and how its backend was chosen
abbrev pub line_of_pieces : ReportForm → ℕ → ℕ → Option ℕ → LineVerdict → Option ℕ → List ℕ → Option ℕ → Option ℕ → List ℕ → List ℕ → List ℕ
line_of_pieces form number micros worker verdict steps case backend address choice frame =
    ((front_text form number micros worker verdict ++ run_text form steps case backend address) ++ flow_text form frame)
    ++ end_text form choice

-- that of a record with this frame
abbrev pub record_line : ReportForm → RecordLine → List ℕ → List ℕ
record_line form line frame =
    line_of_pieces form line.number line.micros line.worker line.verdict line.steps line.case_of.now line.backend line.address line.choice.now frame

-- what comes before the first line: the head that readers of reports look for
abbrev pub report_head : ReportForm → List ℕ
report_head Csv = head_line
report_head Json = []
