-- Why frames of flows were not sent, and how many frames are for a service; of another program than the shipped one, what became of frames.
use Rattle.std.specs.Prelude.{ℕ, zero, suc, ◌+◌, ◌==◌, ◌&&◌, ◌++◌, not, nat_lt, Bool, true, false, List, [], ◌∷◌, Option, Some, None, codes}
use Rattle.std.specs.Prelude.{decimal}
use Rattle.std.specs.Prelude.{length, filter, slice_get, slice_index}
use Rattle.std.specs.List.{flat_map}
use Rattle.wire.specs.BigEndian.{be_word_at}
use Rattle.wire.specs.FlowBytes.{protocol_number}
use Rattle.wire.specs.declared.records.Sent.{Sent}
use Rattle.conntrack.specs.declared.keys.Service.{Service}
use Rattle.control.specs.declared.command.Action.{Action}
use Rattle.control.specs.declared.command.Action.TheVariants.{Vip}
use Rattle.control.specs.declared.command.Command.{Command}
use Rattle.traffic.specs.declared.kind.FrameKind.{FrameKind}
use Rattle.traffic.specs.declared.kind.FrameKind.TheVariants as kinds
use Rattle.traffic.specs.declared.not_sent.NotSent.{NotSent}
use Rattle.traffic.specs.declared.not_sent.NotSent.TheVariants.{NoService, Expired, Large, NoBackend}
use Rattle.traffic.specs.declared.record_line.LineVerdict.{LineVerdict}
use Rattle.traffic.specs.declared.record_line.LineVerdict.TheVariants as verdicts
use Rattle.traffic.specs.Counting.{one_if}
use Rattle.traffic.specs.Kinds.{is_of_flow_kind, frame_kind_of}
use Rattle.traffic.specs.SummaryText.{dotted, line_about}
use Rattle.control.specs.ScriptText.{transport_text}

-- ---- reasons

-- a frame of this kind, whose run came to this verdict, was not sent for this reason
abbrev pub is_not_sent : NotSent → FrameKind → LineVerdict → Bool
is_not_sent NoService kind verdicts.Pass = is_of_flow_kind kind
is_not_sent Expired kinds.Expired verdicts.Drop = true
is_not_sent Large kinds.Large verdicts.Drop = true
is_not_sent NoBackend kinds.Flow verdicts.Drop = true
is_not_sent reason kind verdict = false

abbrev pub is_record_not_sent : NotSent → Option Sent → Option LineVerdict → Bool
is_record_not_sent reason None verdict = false
is_record_not_sent reason (Some sent) None = false
is_record_not_sent reason (Some sent) (Some verdict) = is_not_sent reason (frame_kind_of sent.bytes.items) verdict

-- how many of the first records were not sent for this reason
abbrev pub not_sent_below : NotSent → List Sent → List LineVerdict → ℕ → ℕ
not_sent_below reason frames list zero = 0
not_sent_below reason frames list (suc place) =
    not_sent_below reason frames list place + one_if (is_record_not_sent reason (slice_get frames place) (slice_get list place))

abbrev pub reason_phrase : NotSent → List ℕ
reason_phrase NoService = codes "passed, for no service"
reason_phrase Expired = codes "dropped, with a time to live of 0"
reason_phrase Large = codes "dropped, in packets of more than 1480 bytes"
reason_phrase NoBackend = codes "dropped, without a tunnel or a backend that is up"

abbrev pub reasons : List NotSent
reasons = NoService ∷ Expired ∷ Large ∷ NoBackend ∷ []

abbrev pub not_sent_line : List Sent → List LineVerdict → NotSent → List ℕ
not_sent_line frames list reason = line_about (not_sent_below reason frames list (length frames)) (reason_phrase reason)

abbrev pub reason_lines : List Sent → List LineVerdict → List NotSent → List ℕ
reason_lines frames list some = flat_map (not_sent_line frames list) some

-- ---- services

-- the address at which a frame's packet is sent to, byte by byte
abbrev pub is_to : List ℕ → List ℕ → Bool
is_to address bytes =
    slice_index bytes 30 == slice_index address 0 && slice_index bytes 31 == slice_index address 1
    && slice_index bytes 32 == slice_index address 2 && slice_index bytes 33 == slice_index address 3

-- the frame has a flow to the service
abbrev pub is_for : Service → List ℕ → Bool
is_for service bytes =
    is_of_flow_kind (frame_kind_of bytes) && not (nat_lt (length bytes) 38) && is_to service.address.0 bytes
    && be_word_at 36 bytes == service.port && slice_index bytes 23 == protocol_number service.transport

-- how many of the frames do
abbrev pub how_many_for : Service → List Sent → ℕ
how_many_for service frames = length (filter (λ (sent : Sent). is_for service sent.bytes.items) frames)

-- for its address and port
abbrev pub words_of_service : List ℕ → ℕ → List ℕ → List ℕ
words_of_service address port transport = codes "for " ++ (address ++ (codes " port " ++ (decimal port ++ (codes " " ++ transport))))

abbrev pub service_phrase : Service → List ℕ
service_phrase service =
    words_of_service
    (dotted (slice_index service.address.0 0) (slice_index service.address.0 1)
    (slice_index service.address.0 2) (slice_index service.address.0 3))
    service.port (transport_text service.transport)

abbrev pub service_line : List Sent → Service → List ℕ
service_line frames service = line_about (how_many_for service frames) (service_phrase service)

-- the service that a command names, if it names one
abbrev pub service_named : Action → Option Service
service_named (Vip service is_notrack) = Some service
service_named action = None

abbrev pub line_of_command : List Sent → Option Service → List ℕ
line_of_command frames None = []
line_of_command frames (Some service) = service_line frames service

abbrev pub service_lines : List Sent → List Command → List ℕ
service_lines frames script = flat_map (λ (command : Command). line_of_command frames (service_named command.action)) script

-- ---- both

-- the text of the frames of services, and of those that were not sent
abbrev pub services_text : List Sent → List Command → List LineVerdict → List ℕ
services_text frames script list = service_lines frames script ++ reason_lines frames list reasons

-- ---- of another program

-- a record ended so
abbrev pub is_end : LineVerdict → LineVerdict → Bool
is_end verdicts.Short verdicts.Short = true
is_end verdicts.Stopped verdicts.Stopped = true
is_end verdicts.Aborted verdicts.Aborted = true
is_end verdicts.Drop verdicts.Drop = true
is_end verdicts.Pass verdicts.Pass = true
is_end verdicts.Tx verdicts.Tx = true
is_end end verdict = false

-- how many of the records did
abbrev pub how_many_ended : LineVerdict → List LineVerdict → ℕ
how_many_ended end list = length (filter (is_end end) list)

abbrev pub end_phrase : LineVerdict → List ℕ
end_phrase verdicts.Pass = codes "passed, by the program"
end_phrase verdicts.Drop = codes "dropped, by the program"
end_phrase verdicts.Aborted = codes "aborted, by the program"
end_phrase verdicts.Tx = codes "sent, by the program"
end_phrase verdicts.Short = codes "too short to be run"
end_phrase verdicts.Stopped = codes "whose runs a full journal stopped"

-- the ends of runs that have lines, in their order
abbrev pub ends : List LineVerdict
ends = verdicts.Pass ∷ verdicts.Drop ∷ verdicts.Aborted ∷ verdicts.Tx ∷ []

abbrev pub end_line : List LineVerdict → LineVerdict → List ℕ
end_line list end = line_about (how_many_ended end list) (end_phrase end)

abbrev pub end_lines_text : List LineVerdict → List LineVerdict → List ℕ
end_lines_text list some = flat_map (end_line list) some

-- the text of the frames of services, and of what a program did with frames: nothing is said of why
abbrev pub by_program_text : List Sent → List Command → List LineVerdict → List ℕ
by_program_text frames script list = service_lines frames script ++ end_lines_text list ends
