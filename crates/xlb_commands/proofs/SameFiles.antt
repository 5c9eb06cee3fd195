-- Outcomes that agree are written alike.
use Rattle.std.proofs.Common.{◌≡◌, ◌∙◌, ◌++◌, ◌∷◌, ◌+◌, ◌*◌, ℕ, zero, suc, Bool, List, [], Option, Some, None, ap, refl, sym, length}
use Rattle.std.proofs.lemmas.List.{length-map}
use Rattle.std.specs.Prelude.{if◌then◌else◌, slice_get}
use Rattle.wire.specs.declared.records.Sent.{Sent}
use Rattle.wire.specs.CaptureFormat.{header_bytes}
use Rattle.control.specs.declared.command.Command.{Command}
use Rattle.journals.specs.JournalText.{journals_text}
use Rattle.traffic.specs.Counting.{target_of}
use Rattle.traffic.specs.RecordLines.{line_of_pieces, report_head}
use Rattle.traffic.specs.declared.record_line.ReportForm.{ReportForm}
use Rattle.semantics.specs.Replay.{Captured}
use Rattle.actors.specs.Shares.{captured_of, all_captured}
use Rattle.actors.specs.declared.account.Counts.{Counts}
use Rattle.actors.specs.declared.outcome.Applied.{Applied}
use Rattle.actors.specs.declared.outcome.Outcome.{Outcome}
use Rattle.actors.specs.declared.outcome.ToldEnd.{ToldEnd}
use Rattle.replay.specs.SameReplays.{AreSameFrames, ExactReplaysAgree, ReturnTheSame}
use Rattle.replay.specs.OtherJournals.{JournalsChangeNothing, SendTheSame}
use Rattle.xlb_commands.specs.RecordReports.{sent_address, backend_at, case_in, choice_in, end_of, is_sent, line_of_record, line_text, lines_until, report_text, sent_before}
use Rattle.xlb_commands.specs.RecordReports.{steps_of_end, target_in, verdict_in, worker_in}
use Rattle.xlb_commands.specs.Replays.{counts_text, frame_records, refusals_text}
use Rattle.xlb_commands.specs.SameFiles.{ExactReplaysWriteTheSame, JournalsChangeNoBytes, SendTheSameBytes, WriteTheSame}
use Rattle.xlb_commands.proofs.ReaderFiles.{records_are}

-- both are there, as the same frame at the same moment, or none is
abbrev AreAlike : Option Sent → Option Sent → Type 0
AreAlike None None = Unit {0}
AreAlike None (Some other) = ⊥
AreAlike (Some one) None = ⊥
AreAlike (Some one) (Some other) = captured_of one ≡ captured_of other

first_alike : (x y : Captured) (xs ys : List Captured) → x ∷ xs ≡ y ∷ ys → x ≡ y
first_alike x y xs ys e = cc

others_alike : (x y : Captured) (xs ys : List Captured) → x ∷ xs ≡ y ∷ ys → xs ≡ ys
others_alike x y xs ys e = cc

alike_at : (one other : List Sent) → AreSameFrames one other → (place : ℕ) → AreAlike (slice_get one place) (slice_get other place)
alike_at [] [] same place = tt
alike_at [] (y ∷ ys) same place = absurd cc
alike_at (x ∷ xs) [] same place = absurd cc
alike_at (x ∷ xs) (y ∷ ys) same zero = first_alike (captured_of x) (captured_of y) (all_captured xs) (all_captured ys) same
alike_at (x ∷ xs) (y ∷ ys) same (suc place) =
    alike_at xs ys (others_alike (captured_of x) (captured_of y) (all_captured xs) (all_captured ys) same) place

same_target : (one other : Option Sent) → AreAlike one other → target_in one ≡ target_in other
same_target None None alike = refl
same_target None (Some other) alike = absurd alike
same_target (Some one) None alike = absurd alike
same_target (Some one) (Some other) alike = ap (λ (frame : Captured). target_of frame.bytes) alike

same_address : (end : ToldEnd) (one other : Option Sent) → AreAlike one other → sent_address end one ≡ sent_address end other
same_address end one other alike = ap (λ (target : Option ℕ). if is_sent end then target else None) (same_target one other alike)

-- the line of a record that was captured so, and that was sent to this address, if it was
line_to : ReportForm → Bool → List Command → ℕ → Captured → ToldEnd → Option ℕ → List ℕ
line_to form is_shipped script number captured end address =
    line_of_pieces form (number + 1) (captured.seconds * 1000000 + captured.micros) (worker_in end) (verdict_in end) (steps_of_end end)
    (case_in is_shipped captured.bytes end) (backend_at script number address) address (choice_in is_shipped end) captured.bytes

same_text : (form : ReportForm) (is_shipped : Bool) (script : List Command) (number : ℕ) (captured other : Sent) (end : ToldEnd)
    (sent others : Option Sent) → captured_of captured ≡ captured_of other → AreAlike sent others
    → line_text form is_shipped script number captured end sent ≡ line_text form is_shipped script number other end others
unfolding line_to
same_text form is_shipped script number captured other end sent others same alike =
    ap (λ (frame : Captured). line_to form is_shipped script number frame end (sent_address end sent)) same
    ∙ ap (λ (address : Option ℕ). line_to form is_shipped script number (captured_of other) end address) (same_address end sent others alike)

same_line : (form : ReportForm) (is_shipped : Bool) (script : List Command) (ends : List ToldEnd) (sent others : List Sent) (number : ℕ)
    (captured other : Option Sent) → AreAlike captured other → AreSameFrames sent others
    → line_of_record form is_shipped script 0 ends sent number captured ≡ line_of_record form is_shipped script 0 ends others number other
same_line form is_shipped script ends sent others number None None alike same = refl
same_line form is_shipped script ends sent others number None (Some other) alike same = absurd alike
same_line form is_shipped script ends sent others number (Some captured) None alike same = absurd alike
same_line form is_shipped script ends sent others number (Some captured) (Some other) alike same =
    same_text form is_shipped script (0 + number) captured other (end_of ends number) _ _ alike (alike_at sent others same (sent_before ends number))

same_lines : (form : ReportForm) (is_shipped : Bool) (script : List Command) (records its : List Sent) (ends : List ToldEnd)
    (sent others : List Sent) → AreSameFrames records its → AreSameFrames sent others → (number : ℕ)
    → lines_until form is_shipped script 0 records ends sent number ≡ lines_until form is_shipped script 0 its ends others number
same_lines form is_shipped script records its ends sent others captured same zero = refl
same_lines form is_shipped script records its ends sent others captured same (suc number) =
    ap (λ (text : List ℕ). text ++ line_of_record form is_shipped script 0 ends sent number (slice_get records number))
    (same_lines form is_shipped script records its ends sent others captured same number)
    ∙ ap (λ (text : List ℕ). lines_until form is_shipped script 0 its ends others number ++ text)
    (same_line form is_shipped script ends sent others number _ _ (alike_at records its captured number) same)

same_count : (one other : List Sent) → AreSameFrames one other → length one ≡ length other
same_count one other same = sym (length-map one captured_of) ∙ (ap (λ (frames : List Captured). length frames) same ∙ length-map other captured_of)

same_report : (form : ReportForm) (is_shipped : Bool) (script : List Command) (records its : List Sent) (ends : List ToldEnd)
    (sent others : List Sent) → AreSameFrames records its → AreSameFrames sent others
    → report_text form is_shipped script records ends sent ≡ report_text form is_shipped script its ends others
same_report form is_shipped script records its ends sent others captured same =
    ap (λ (text : List ℕ). report_head form ++ text)
    (same_lines form is_shipped script records its ends sent others captured same (length records)
    ∙ ap (λ (count : ℕ). lines_until form is_shipped script 0 its ends others count) (same_count records its captured))

sent_alike : (script : List Command) (records others : List Sent) (one other : Outcome) → AreSameFrames records others
    → SendTheSame one other → SendTheSameBytes script records others one other
sent_alike script records others one other captured same = record {
  sent = ap (λ (rest : List ℕ). header_bytes ++ rest)
      (records_are one.sent.items ∙ (ap (λ (frames : List Captured). frame_records frames) same.sent ∙ sym (records_are other.sent.items)));
  report = λ form is_shipped.
      same_report form is_shipped script records others one.ends.items one.sent.items other.sent.items captured same.sent
      ∙ ap (λ (ends : List ToldEnd). report_text form is_shipped script others ends other.sent.items) same.ends;
  printed = ap (λ (counts : Counts). counts_text counts ++ refusals_text one.refused.items) same.counts
      ∙ ap (λ (refused : List Applied). counts_text other.counts ++ refusals_text refused) same.refused;
}

written_alike : (script : List Command) (records others : List Sent) (one other : Outcome) → AreSameFrames records others
    → ReturnTheSame one other → WriteTheSame script records others one other
written_alike script records others one other captured same = record {
  besides = sent_alike script records others one other captured
      (record { counts = same.counts; ends = same.ends; sent = same.sent; refused = same.refused });
  journals = ap journals_text same.journals;
}

pub exact_replays_write_the_same : ExactReplaysAgree → ExactReplaysWriteTheSame
exact_replays_write_the_same agree program updates script options records others one other captured made its had has =
    written_alike script records others one other captured
    (agree program script options records others one other captured (made.in_turn refl).turns (its.in_turn refl).turns
    (made.updates_are ∙ sym its.updates_are) had has)

pub journals_change_no_bytes : JournalsChangeNothing → JournalsChangeNoBytes
journals_change_no_bytes change program updates script options others_options records others one other same captured made its had has room its_room =
    sent_alike script records others one other captured
    (change program script options others_options records others one other same captured (made.in_turn refl).turns (its.in_turn refl).turns
    (made.updates_are ∙ sym its.updates_are) had has room its_room)
