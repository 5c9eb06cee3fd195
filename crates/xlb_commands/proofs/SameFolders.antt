-- Files of the same bytes are read as the same program, script and capture, so exact replays of them leave the same.
use Rattle.std.proofs.Common.{◌≡◌, ◌∙◌, ◌++◌, ◌∷◌, ◌+◌, ◌*◌, ◌≤◌, ◌<◌, ◌⊎◌, inl, inr, ℕ, zero, suc, Bool, true, false, List, [], ap, refl, sym, subst, length, take, drop, get_or, arith}
use Rattle.std.proofs.Common.{append_assoc, length-append}
use Rattle.std.specs.Prelude.{◌==◌, Option, Some, None, map, nat_lt, if◌then◌else◌}
use Rattle.std.specs.List.{AllByRecursion, concat}
use Rattle.std.proofs.lemmas.List.{length-map, length-drop, drop-append-le}
use Rattle.byteorder.specs.Endian.{little_number}
use Rattle.byteorder.specs.Numbers.{little_from-append}
use Rattle.ebpf_decode.specs.ImageContents.{Contents}
use Rattle.ebpf_decode.specs.ImageFormat.{IsImageEncoding}
use Rattle.wire.specs.CaptureFormat.{AreRecords, BeginsWithRecord, capture_bytes}
use Rattle.wire.specs.declared.records.Sent.{Sent}
use Rattle.control.specs.declared.command.Command.{Command}
use Rattle.control.specs.Renumbering.{at_frames}
use Rattle.control.specs.ScriptText.{IsScriptText}
use Rattle.fleet.specs.declared.part.Part.{Part}
use Rattle.fleet.specs.declared.part.Loss.{Loss}
use Rattle.fleet.specs.Parts.{filter_at, is_in_part, number_in_part, part_behind, part_of_frame, records_of_part}
use Rattle.journals.specs.JournalText.{journals_text}
use Rattle.map_updates.specs.declared.update.MapUpdate.{MapUpdate}
use Rattle.semantics.specs.ShardPlan.{recorded}
use Rattle.semantics.specs.declared.options.Options.{Options}
use Rattle.capture_readings.specs.declared.readings.Reading.{Reading}
use Rattle.capture_readings.specs.Readings.{AreAltered, AreLeft, HasNoRecord, IsRecord, alters, kept_len, read_records, read_rest}
use Rattle.semantics.specs.Replay.{Captured}
use Rattle.actors.specs.Shares.{captured_of, all_captured}
use Rattle.actors.specs.declared.outcome.Applied.{Applied}
use Rattle.actors.specs.declared.outcome.Outcome.{Outcome}
use Rattle.replay.specs.SameReplays.{AreSameFrames, HadMemory}
use Rattle.command_line.specs.Reading.{text_of}
use Rattle.xlb_commands.specs.Files.{FileBytes, IsImageFile}
use Rattle.xlb_commands.specs.Parts.{command_frames, numbers_of_part, records_in, script_in}
use Rattle.xlb_commands.specs.RecordReports.{IsReportFile, form_of, report_text, runs_shipped}
use Rattle.xlb_commands.specs.Replays.{AreWritten, IsCaptureIn, IsCaptureOf, IsMade, IsProgramOf}
use Rattle.xlb_commands.specs.Replays.{IsScriptOf, capture_reading, counts_text, image_of, program_of_replay, recording_in, refusals_text}
use Rattle.xlb_commands.specs.SameFiles.{ExactReplaysWriteTheSame, WriteTheSame}
use Rattle.xlb_commands.specs.SameFolders.{AreSameFiles, HaveTheSame, SameFilesLeaveTheSame}

-- ---- the program and the script

abbrev OneImage : Type 0
OneImage = (bytes : List ℕ) (a b : Contents) → IsImageEncoding bytes a → IsImageEncoding bytes b → a ≡ b

abbrev OneScript : Type 0
OneScript = (text : List ℕ) (one other : List Command) → IsScriptText text one → IsScriptText text other → one ≡ other

same_image : OneImage → (one other : FileBytes) → AreSameFiles one other → (name : List ℕ) (a b : Contents) → IsImageFile one name a
    → IsImageFile other name b → a ≡ b
same_image unique one other same name a b is its =
    unique is.bytes a b is.encoding
    (subst (λ (bytes : List ℕ). IsImageEncoding bytes b) (sym (same name is.bytes its.bytes is.read its.read)) its.encoding)

same_program : OneImage → (one other : FileBytes) → AreSameFiles one other → (name : Option (List ℕ)) (flows ring : ℕ) (a b : Contents)
    → IsProgramOf one name flows ring a → IsProgramOf other name flows ring b → a ≡ b
same_program unique one other same None flows ring a b is its = is ∙ sym its
same_program unique one other same (Some name) flows ring a b is its = same_image unique one other same name a b is its

same_script : OneScript → (one other : FileBytes) → AreSameFiles one other → (name : Option (List ℕ)) (a b : List Command)
    → IsScriptOf one name a → IsScriptOf other name b → a ≡ b
same_script unique one other same None a b is its = unique [] a b is its
same_script unique one other same (Some name) a b is its =
    unique is.bytes a b is.spelled
    (subst (λ (bytes : List ℕ). IsScriptText bytes b) (sym (same name is.bytes its.bytes is.read its.read)) its.spelled)

-- ---- the capture

frame_of : ℕ → ℕ → List ℕ → Captured
frame_of seconds micros bytes = record { seconds = seconds; micros = micros; bytes = bytes }

same_frame : (bytes : List ℕ) (s t : Sent) → BeginsWithRecord bytes s → BeginsWithRecord bytes t → captured_of s ≡ captured_of t
unfolding frame_of
same_frame bytes s t is its =
    let long : length s.bytes.items ≡ length t.bytes.items = sym is.kept ∙ its.kept in
    ap (λ (n : ℕ). frame_of n s.micros s.bytes.items) (sym is.seconds ∙ its.seconds)
    ∙ ap (λ (n : ℕ). frame_of t.seconds n s.bytes.items) (sym is.micros ∙ its.micros)
    ∙ ap (λ (xs : List ℕ). frame_of t.seconds t.micros xs)
    (is.frame ∙ ap (λ (n : ℕ). take n (drop 16 bytes)) long ∙ sym its.frame)

same_records : (bytes : List ℕ) (one other : List Sent) → AreRecords bytes one [] → AreRecords bytes other [] → AreSameFrames one other
same_records bytes [] [] are its = refl
same_records bytes [] (t ∷ ts) are its =
    (let none : length bytes ≡ 0 = ap (λ (xs : List ℕ). length xs) are in let whole = its.0.whole in absurd (omega (arith, none, whole)))
same_records bytes (s ∷ ss) [] are its =
    (let none : length bytes ≡ 0 = ap (λ (xs : List ℕ). length xs) its in let whole = are.0.whole in absurd (omega (arith, none, whole)))
same_records bytes (s ∷ ss) (t ∷ ts) are its =
    let long : length t.bytes.items ≡ length s.bytes.items = sym its.0.kept ∙ are.0.kept in
    let rest = same_records (drop (16 + length s.bytes.items) bytes) ss ts are.1
    (subst (λ (n : ℕ). AreRecords (drop (16 + n) bytes) ts []) long its.1) in
    ap (λ (x : Captured). x ∷ all_captured ss) (same_frame bytes s t are.0 its.0) ∙ ap (λ (xs : List Captured). captured_of t ∷ xs) rest

-- ---- a capture that is altered: the file's bytes are whole records and a rest in one way

number_at_front : (one rest : List ℕ) → 16 ≤ length one → kept_len (one ++ rest) ≡ kept_len one
number_at_front one rest head =
    ap (λ (xs : List ℕ). little_number 4 xs) (drop-append-le 8 one rest (omega (arith, head)))
    ∙ little_from-append 4 (drop 8 one) rest (omega (arith, head, length-drop 8 one))

no_record_here : (one more rest : List ℕ) → IsRecord one → HasNoRecord rest → rest ≡ one ++ more → ⊥
no_record_here one more rest is (inl short) same =
    let long : length rest ≡ length one + length more = ap (λ (xs : List ℕ). length xs) same ∙ length-append one more in
    let head = is.head in omega (arith, short, long, head)
no_record_here one more rest is (inr short) same =
    let long : length rest ≡ length one + length more = ap (λ (xs : List ℕ). length xs) same ∙ length-append one more in
    let kept : kept_len rest ≡ kept_len one = ap (λ (xs : List ℕ). kept_len xs) same ∙ number_at_front one more is.head in
    let whole = is.whole in omega (arith, short, long, kept, whole)

same_length : (one other more its_more : List ℕ) → IsRecord one → IsRecord other → one ++ more ≡ other ++ its_more → length one ≡ length other
same_length one other more its_more is its same =
    let kept : kept_len one ≡ kept_len other =
    sym (number_at_front one more is.head) ∙ ap (λ (xs : List ℕ). kept_len xs) same ∙ number_at_front other its_more its.head in
    let whole = is.whole in let its_whole = its.whole in omega (arith, kept, whole, its_whole)

front_alike : (one other more its_more : List ℕ) → length one ≡ length other → one ++ more ≡ other ++ its_more → (one ≡ other) × (more ≡ its_more)
front_alike [] [] more its_more long same = (refl, same)
front_alike [] (y ∷ ys) more its_more long same = absurd (omega (arith, long))
front_alike (x ∷ xs) [] more its_more long same = absurd (omega (arith, long))
front_alike (x ∷ xs) (y ∷ ys) more its_more long same =
    let later = front_alike xs ys more its_more (omega (arith, long)) (ap (λ (zs : List ℕ). drop 1 zs) same) in
    (rw (ap (λ (zs : List ℕ). get_or zs 0 0) same, later.0) refl, later.1)

same_parts : (records others : List (List ℕ)) (rest its_rest : List ℕ) → AllByRecursion IsRecord records → AllByRecursion IsRecord others
    → HasNoRecord rest → HasNoRecord its_rest → concat records ++ rest ≡ concat others ++ its_rest → (records ≡ others) × (rest ≡ its_rest)
same_parts [] [] rest its_rest each its ends stops same = (refl, same)
same_parts [] (r ∷ rs) rest its_rest each its ends stops same =
    absurd (no_record_here r (concat rs ++ its_rest) rest its.0 ends (same ∙ append_assoc r (concat rs) its_rest))
same_parts (r ∷ rs) [] rest its_rest each its ends stops same =
    absurd (no_record_here r (concat rs ++ rest) its_rest each.0 stops (sym same ∙ append_assoc r (concat rs) rest))
same_parts (r ∷ rs) (q ∷ qs) rest its_rest each its ends stops same =
    let whole : r ++ (concat rs ++ rest) ≡ q ++ (concat qs ++ its_rest) =
    sym (append_assoc r (concat rs) rest) ∙ same ∙ append_assoc q (concat qs) its_rest in
    let first = front_alike r q (concat rs ++ rest) (concat qs ++ its_rest)
    (same_length r q (concat rs ++ rest) (concat qs ++ its_rest) each.0 its.0 whole) whole in
    let later = same_parts rs qs rest its_rest each.1 its.1 ends stops first.1 in
    (rw (first.0, later.0) refl, later.1)

same_altered : (reading : Reading) (bytes left its_left : List ℕ) → AreAltered reading bytes left → AreAltered reading bytes its_left → left ≡ its_left
same_altered reading bytes left its_left are its =
    let parts = same_parts are.records its.records are.rest its.rest are.each its.each are.ends its.ends
    (front_alike (take 24 bytes) (take 24 bytes) (concat are.records ++ are.rest) (concat its.records ++ its.rest) refl
    (sym are.parts ∙ its.parts)).1 in
    are.left_are
    ∙ ap (λ (records : List (List ℕ)). take 24 bytes ++ (read_records reading records ++ read_rest reading are.rest)) parts.0
    ∙ ap (λ (rest : List ℕ). take 24 bytes ++ (read_records reading its.records ++ read_rest reading rest)) parts.1
    ∙ sym its.left_are

same_left : (altered : Bool) (reading : Reading) (bytes left its_left : List ℕ) → AreLeft altered reading bytes left
    → AreLeft altered reading bytes its_left → left ≡ its_left
same_left false reading bytes left its_left are its = sym are ∙ its
same_left true reading bytes left its_left are its = same_altered reading bytes left its_left are its

same_capture_in : (reading : Reading) (bytes : List ℕ) (records others : List Sent) → IsCaptureIn reading bytes records
    → IsCaptureIn reading bytes others → AreSameFrames records others
same_capture_in reading bytes records others is its =
    same_records (drop 24 is.left) records others is.spelled.records
    (subst (λ (left : List ℕ). AreRecords (drop 24 left) others [])
    (sym (same_left (alters reading) reading bytes is.left its.left is.left_are its.left_are)) its.spelled.records)

same_capture : (one other : FileBytes) → AreSameFiles one other → (reading : Reading) (name : List ℕ) (records others : List Sent)
    → IsCaptureOf one reading name records → IsCaptureOf other reading name others → AreSameFrames records others
same_capture one other same reading name records others is its =
    same_capture_in reading is.bytes records others is.spelled
    (subst (λ (bytes : List ℕ). IsCaptureIn reading bytes others) (sym (same name is.bytes its.bytes is.read its.read)) its.spelled)

-- ---- a part of it

first_frame : (x y : Captured) (xs ys : List Captured) → x ∷ xs ≡ y ∷ ys → x ≡ y
first_frame x y xs ys e = cc

later_frames : (x y : Captured) (xs ys : List Captured) → x ∷ xs ≡ y ∷ ys → xs ≡ ys
later_frames x y xs ys e = cc

-- the test goes by the frame alone
abbrev GoesByFrame : (ℕ → Sent → Bool) → Type 0
GoesByFrame test = (place : ℕ) (s t : Sent) → captured_of s ≡ captured_of t → test place s ≡ test place t

kept_alike : (keeps its : Bool) (s t : Sent) (ss ts : List Sent) → keeps ≡ its → captured_of s ≡ captured_of t → AreSameFrames ss ts
    → AreSameFrames (if keeps then s ∷ ss else ss) (if its then t ∷ ts else ts)
kept_alike true true s t ss ts same alike later =
    ap (λ (x : Captured). x ∷ all_captured ss) alike ∙ ap (λ (xs : List Captured). captured_of t ∷ xs) later
kept_alike false false s t ss ts same alike later = later
kept_alike true false s t ss ts same alike later = absurd cc
kept_alike false true s t ss ts same alike later = absurd cc

filtered_alike : (test : ℕ → Sent → Bool) → GoesByFrame test → (records others : List Sent) → AreSameFrames records others
    → AreSameFrames (filter_at test records) (filter_at test others)
filtered_alike test goes [] [] same = refl
filtered_alike test goes [] (t ∷ ts) same = absurd cc
filtered_alike test goes (s ∷ ss) [] same = absurd cc
filtered_alike test goes (s ∷ ss) (t ∷ ts) same =
    let alike = first_frame (captured_of s) (captured_of t) (all_captured ss) (all_captured ts) same in
    let later = later_frames (captured_of s) (captured_of t) (all_captured ss) (all_captured ts) same in
    kept_alike (test 0 s) (test 0 t) s t (filter_at (λ place. test (suc place)) ss) (filter_at (λ place. test (suc place)) ts) (goes 0 s t alike) alike
    (filtered_alike (λ place. test (suc place)) (λ place a b. goes (suc place) a b) ss ts later)

part_by_frame : (of : ℕ) (lost : Option Loss) (number : ℕ) → GoesByFrame (is_in_part of lost number)
part_by_frame of None number place s t alike = ap (λ (frame : Captured). part_of_frame of frame.bytes == number) alike
part_by_frame of (Some loss) number place s t alike =
    ap (λ (frame : Captured). (if nat_lt place loss.from then part_of_frame of frame.bytes else part_behind of loss.part frame.bytes) == number) alike

taken_alike : (n : ℕ) (records others : List Sent) → AreSameFrames records others → AreSameFrames (take n records) (take n others)
taken_alike zero records others same = refl
taken_alike (suc n) [] [] same = refl
taken_alike (suc n) [] (t ∷ ts) same = absurd cc
taken_alike (suc n) (s ∷ ss) [] same = absurd cc
taken_alike (suc n) (s ∷ ss) (t ∷ ts) same =
    ap (λ (x : Captured). x ∷ all_captured (take n ss)) (first_frame (captured_of s) (captured_of t) (all_captured ss) (all_captured ts) same)
    ∙ ap (λ (xs : List Captured). captured_of t ∷ xs)
    (taken_alike n ss ts (later_frames (captured_of s) (captured_of t) (all_captured ss) (all_captured ts) same))

as_many : (one other : List Sent) → AreSameFrames one other → length one ≡ length other
as_many one other same =
    sym (length-map one captured_of) ∙ (ap (λ (frames : List Captured). length frames) same ∙ length-map other captured_of)

same_number : (part : Part) (records others : List Sent) → AreSameFrames records others → (frame : ℕ)
    → number_in_part part.of part.lost part.number records frame ≡ number_in_part part.of part.lost part.number others frame
same_number part records others same frame =
    as_many (records_of_part part.of part.lost part.number (take frame records)) (records_of_part part.of part.lost part.number (take frame others))
    (filtered_alike (is_in_part part.of part.lost part.number) (part_by_frame part.of part.lost part.number) (take frame records) (take frame others)
    (taken_alike frame records others same))

same_numbers : (part : Part) (records others : List Sent) → AreSameFrames records others → (frames : List ℕ)
    → map (number_in_part part.of part.lost part.number records) frames ≡ map (number_in_part part.of part.lost part.number others) frames
same_numbers part records others same [] = refl
same_numbers part records others same (frame ∷ frames) =
    rw (same_number part records others same frame, same_numbers part records others same frames) refl

part_alike : (part : Option Part) (records others : List Sent) → AreSameFrames records others → AreSameFrames (records_in part records) (records_in part others)
part_alike None records others same = same
part_alike (Some part) records others same =
    filtered_alike (is_in_part part.of part.lost part.number) (part_by_frame part.of part.lost part.number) records others same

script_alike : (part : Option Part) (records others : List Sent) → AreSameFrames records others → (script : List Command)
    → script_in part records script ≡ script_in part others script
script_alike None records others same script = refl
script_alike (Some part) records others same script =
    ap (λ (numbers : List ℕ). at_frames numbers script) (same_numbers part records others same (command_frames script))

-- ---- what is left

journals_left : (one other : FileBytes) (name : Option (List ℕ)) (outcome its : Outcome) → journals_text outcome.journals ≡ journals_text its.journals
    → AreWritten one name outcome.journals → AreWritten other name its.journals → HaveTheSame one other name
journals_left one other None outcome its same are has = tt
journals_left one other (Some name) outcome its same are has =
    record { bytes = journals_text outcome.journals; here = are; there = subst (λ (bytes : List ℕ). other name bytes) (sym same) has }

report_left : (one other : FileBytes) (name : Option (List ℕ)) (is_shipped : Bool) (script : List Command) (records others : List Sent)
    (outcome its : Outcome) → WriteTheSame script records others outcome its → IsReportFile one name is_shipped script records outcome
    → IsReportFile other name is_shipped script others its → HaveTheSame one other name
report_left one other None is_shipped script records others outcome its same is has = tt
report_left one other (Some name) is_shipped script records others outcome its same is has = record {
  bytes = report_text (form_of name) is_shipped script records outcome.ends.items outcome.sent.items;
  here = is;
  there = subst (λ (bytes : List ℕ). other name bytes) (sym (same.besides.report (form_of name) is_shipped)) has;
}

-- ---- both commands

wrote_alike : ExactReplaysWriteTheSame → (exact : Bool) → exact ≡ true → (chosen options : Options) (updates : List MapUpdate) (p q : Contents) → p ≡ q
    → (script its_script : List Command) → script ≡ its_script → (records others : List Sent) → AreSameFrames records others → (one other : Outcome)
    → IsMade exact (program_of_replay p chosen) updates script options records one
    → IsMade exact (program_of_replay q chosen) updates its_script options others other → HadMemory one.refused.items → HadMemory other.refused.items
    → WriteTheSame script records others one other
wrote_alike agree exact is chosen options updates p q same script its_script alike records others frames one other made its had has =
    agree (program_of_replay p chosen) updates script options records others one other frames
    (subst (λ (b : Bool). IsMade b (program_of_replay p chosen) updates script options records one) is made)
    (subst (λ (x : List Command). IsMade true (program_of_replay p chosen) updates x options others other) (sym alike)
    (subst (λ (x : Contents). IsMade true (program_of_replay x chosen) updates its_script options others other) (sym same)
    (subst (λ (b : Bool). IsMade b (program_of_replay q chosen) updates its_script options others other) is its)))
    had has

pub same_files_leave_the_same : {D : Type 0} (holds : D → FileBytes) → OneImage → OneScript → ExactReplaysWriteTheSame → SameFilesLeaveTheSame holds
same_files_leave_the_same holds image script agree before after its_before its_after asked printed others refused its_refused exact same is its had has =
    let program = same_program image (holds before) (holds its_before) same (text_of asked.files.image) asked.flows asked.ring (image_of is.verified)
    (image_of its.verified) is.program_is its.program_is in
    let commands = same_script script (holds before) (holds its_before) same (text_of asked.files.script) is.script its.script is.script_is its.script_is in
    let captured = same_capture (holds before) (holds its_before) same (capture_reading asked.reading) asked.files.capture.now is.captured its.captured
    is.capture its.capture in
    let in_part : script_in asked.part is.captured is.script ≡ script_in asked.part its.captured its.script =
    script_alike asked.part is.captured its.captured captured is.script
    ∙ ap (λ (x : List Command). script_in asked.part its.captured x) commands in
    let one = is.replayed in
    let other = its.replayed in
    let wrote = wrote_alike agree asked.exact exact asked.options (recorded (recording_in asked) asked.options) asked.updates.items
    (image_of is.verified) (image_of its.verified) program
    (script_in asked.part is.captured is.script) (script_in asked.part its.captured its.script) in_part
    (records_in asked.part is.captured) (records_in asked.part its.captured) (part_alike asked.part is.captured its.captured captured)
    one.outcome other.outcome one.made other.made
    (subst HadMemory (sym one.refused_are) had) (subst HadMemory (sym other.refused_are) has) in
    record {
      sent = λ apart differ behind. record {
        bytes = capture_bytes one.outcome.sent.items;
        here = one.sent apart differ behind;
        there = subst (λ (bytes : List ℕ). holds its_after asked.files.sent.now bytes) (sym wrote.besides.sent) (other.sent apart differ behind);
      };
      journals = λ apart behind.
          journals_left (holds after) (holds its_after) (text_of asked.files.journals) one.outcome other.outcome wrote.journals
          (one.journals apart behind) (other.journals apart behind);
      report = λ behind.
          report_left (holds after) (holds its_after) (text_of asked.files.report) (runs_shipped asked.files) (script_in asked.part is.captured is.script)
          (records_in asked.part is.captured) (records_in asked.part its.captured) one.outcome other.outcome wrote (one.report behind)
          (subst (λ (x : List Command). IsReportFile (holds its_after) (text_of asked.files.report) (runs_shipped asked.files) x
          (records_in asked.part its.captured) other.outcome) (sym in_part) (other.report behind));
      lines = one.lines
          ∙ ap (λ (list : List Applied). counts_text one.outcome.counts ++ refusals_text list) (sym one.refused_are)
          ∙ wrote.besides.printed
          ∙ ap (λ (list : List Applied). counts_text other.outcome.counts ++ refusals_text list) other.refused_are
          ∙ sym other.lines;
    }
