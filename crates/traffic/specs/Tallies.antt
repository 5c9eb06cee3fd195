-- Counts of records that come in pieces: what they are once these records came.
use Rattle.std.specs.Prelude.{◌≡◌, ℕ, ◌+◌, ◌++◌, List, [], ◌∷◌, Option, Some, None, length, map, reverse, slice_index}
use Rattle.std.specs.List.{flat_map}
use Rattle.wire.specs.declared.records.Sent.{Sent}
use Rattle.conntrack.specs.declared.keys.Service.{Service}
use Rattle.control.specs.declared.command.Command.{Command}
use Rattle.traffic.specs.declared.kind.FrameKind.{FrameKind}
use Rattle.traffic.specs.declared.not_sent.NotSent.{NotSent}
use Rattle.traffic.specs.declared.not_sent.NotSent.TheVariants.{NoService, Expired, Large, NoBackend}
use Rattle.traffic.specs.declared.record_line.LineVerdict.{LineVerdict}
use Rattle.traffic.specs.declared.record_line.LineVerdict.TheVariants as verdicts
use Rattle.traffic.specs.declared.moves.LastTargets.{LastTargets}
use Rattle.traffic.specs.declared.moves.Moves.{Moves}
use Rattle.traffic.specs.declared.frame_tally.FrameTally.{FrameTally}
use Rattle.traffic.specs.declared.record_tally.RecordTally.{RecordTally}
use Rattle.traffic.specs.Counting.{count_to, how_many_of_kind, how_many_to, place_of}
use Rattle.traffic.specs.Moving.{last_in, last_target, moved_places}
use Rattle.traffic.specs.SummaryText.{kinds, line_about, phrase_of}
use Rattle.traffic.specs.NotSent.{end_phrase, ends, how_many_ended, how_many_for, not_sent_below, reason_phrase, reasons, service_named}
use Rattle.traffic.specs.NotSent.{service_phrase}

-- the sums of counts with others, place by place; where there are no others, the counts themselves
abbrev pub sums : List ℕ → List ℕ → List ℕ
sums [] others = []
sums (count ∷ counts) [] = count ∷ counts
sums (count ∷ counts) (other ∷ others) = (count + other) ∷ sums counts others

-- ---- frames by kind, and where they went

abbrev pub kind_counts : List Sent → List FrameKind → List ℕ
kind_counts frames list = map (λ (kind : FrameKind). how_many_of_kind kind frames) list

-- the line of a kind, and those of several kinds, where these are the counts of the kinds by their places
abbrev pub kind_line : List ℕ → FrameKind → List ℕ
kind_line counts kind = line_about (slice_index counts (place_of kind)) (phrase_of kind)

abbrev pub kind_lines : List ℕ → List FrameKind → List ℕ
kind_lines counts list = flat_map (kind_line counts) list

-- the table has of each flow where the last of these frames went
abbrev pub AreLast : List Sent → LastTargets → Type 0
AreLast sent table = (flow : ℕ) → last_in table flow ≡ last_target flow (reverse sent)

-- so many of these frames went elsewhere than the frame of their flow before
pub record AreMoves (sent : List Sent) (moves : Moves) : Type 0 where
  pub last : AreLast sent moves.table
  pub passed : moves.passed ≡ length sent
  pub count : moves.count ≡ length (moved_places sent)

-- the counts are those of these captured and these sent frames
pub record IsFrameTally (captured sent : List Sent) (tally : FrameTally) : Type 0 where
  pub kinds : tally.kinds.items ≡ kind_counts captured kinds
  pub targets : (address : ℕ) → count_to tally.targets address ≡ how_many_to address sent
  pub moves : AreMoves sent tally.moves

-- ---- records by service, reason and end

abbrev pub count_named : List Sent → Option Service → ℕ
count_named frames None = 0
count_named frames (Some service) = how_many_for service frames

-- of each command, how many frames are for the service that it names
abbrev pub service_counts : List Sent → List Command → List ℕ
service_counts frames script = map (λ (command : Command). count_named frames (service_named command.action)) script

abbrev pub counted_line : ℕ → Option Service → List ℕ
counted_line count None = []
counted_line count (Some service) = line_about count (service_phrase service)

-- the lines of the services that commands name, with these counts
abbrev pub counted_lines : List Command → List ℕ → List ℕ
counted_lines [] counts = []
counted_lines (command ∷ script) [] = []
counted_lines (command ∷ script) (count ∷ counts) = counted_line count (service_named command.action) ++ counted_lines script counts

-- the place of a reason in their order
abbrev pub place_of_reason : NotSent → ℕ
place_of_reason NoService = 0
place_of_reason Expired = 1
place_of_reason Large = 2
place_of_reason NoBackend = 3

abbrev pub reason_counts : List Sent → List LineVerdict → List NotSent → List ℕ
reason_counts frames list some = map (λ (reason : NotSent). not_sent_below reason frames list (length frames)) some

abbrev pub reason_line : List ℕ → NotSent → List ℕ
reason_line counts reason = line_about (slice_index counts (place_of_reason reason)) (reason_phrase reason)

abbrev pub counted_reasons : List ℕ → List NotSent → List ℕ
counted_reasons counts some = flat_map (reason_line counts) some

-- the place of an end in the order of those that have lines; the others come behind
abbrev pub place_of_end : LineVerdict → ℕ
place_of_end verdicts.Pass = 0
place_of_end verdicts.Drop = 1
place_of_end verdicts.Aborted = 2
place_of_end verdicts.Tx = 3
place_of_end verdicts.Short = 4
place_of_end verdicts.Stopped = 5

abbrev pub end_counts : List LineVerdict → List LineVerdict → List ℕ
end_counts list some = map (λ (end : LineVerdict). how_many_ended end list) some

abbrev pub counted_end : List ℕ → LineVerdict → List ℕ
counted_end counts end = line_about (slice_index counts (place_of_end end)) (end_phrase end)

abbrev pub counted_ends : List ℕ → List LineVerdict → List ℕ
counted_ends counts some = flat_map (counted_end counts) some

-- the counts are those of these captured frames and of what became of their records
pub record IsRecordTally (script : List Command) (frames : List Sent) (list : List LineVerdict) (tally : RecordTally) : Type 0 where
  pub services : tally.services.items ≡ service_counts frames script
  pub reasons : tally.reasons.items ≡ reason_counts frames list reasons
  pub ends : tally.ends.items ≡ end_counts list ends
