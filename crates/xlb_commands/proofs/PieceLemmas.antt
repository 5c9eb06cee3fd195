-- What is read, run and written in pieces, one piece after another.
use Rattle.std.proofs.Common.{arith, ◌∙◌, ◌+◌, ◌++◌, ◌∷◌, ◌↔◌, ℕ, List, [], append-nil, append_assoc, ap, ap₂, length, refl, subst, sym}
use Rattle.std.proofs.lemmas.List.{length-append}
use Rattle.std.specs.List.{AllByRecursion}
use Rattle.folders.specs.PieceReading.{ReaderView, IsReadTo, IsReadWhole}
use Rattle.control.specs.declared.command.Command.{Command}
use Rattle.actors.specs.Captured.{IsCaptured}
use Rattle.replay.specs.Pieces.{IsUnderway}
use Rattle.replay.specs.declared.in_pieces.PieceReplay.{PieceReplay}
use Rattle.actors.specs.declared.outcome.ToldEnd.{ToldEnd}
use Rattle.semantics.specs.Program.{Program}
use Rattle.semantics.specs.declared.options.Options.{Options}
use Rattle.wire.specs.declared.records.Sent.{Sent}
use Rattle.xlb_commands.specs.Files.{FileBytes, AreKept}
use Rattle.command_line.specs.declared.commands.ReplayFiles.{ReplayFiles}
use Rattle.xlb_commands.specs.InPieces.{AreAdded, AreOfRecords, AreRun, AreTold, AreToldBehind, HaveRun}
use Rattle.xlb_commands.specs.RecordReports.{form_of, runs_shipped, sent_before}
use Rattle.xlb_commands.proofs.RecordBytes.{added_both, records_bytes-append}
use Rattle.xlb_commands.proofs.ReportPieces.{lines_of_both, sent_behind}
use Rattle.capture_readings.specs.declared.readings.Reading.{Reading}
use Rattle.folders.proofs.shared.ReadingLemmas.{still_same}
use Rattle.xlb_commands.specs.Replays.{IsCaptureOf}

captured_both : (xs ys : List Sent) → AllByRecursion IsCaptured xs → AllByRecursion IsCaptured ys → AllByRecursion IsCaptured (xs ++ ys)
captured_both [] ys all others = others
captured_both (x ∷ xs) ys all others = (all.0, captured_both xs ys all.1 others)

run_both : (program : Program) (script : List Command) (options : Options) (a b c : PieceReplay) (xs ys sent later_sent : List Sent) (ends later_ends : List ToldEnd)
    → AreRun program script options a b xs sent ends → AreRun program script options b c ys later_sent later_ends
    → AreRun program script options a c (xs ++ ys) (sent ++ later_sent) (ends ++ later_ends)
run_both program script options a b c xs ys sent later_sent ends later_ends first second = λ updates past past_sent past_ends under.
    subst (λ (records : List Sent). IsUnderway program script options updates records (past_sent ++ (sent ++ later_sent)) (past_ends ++ (ends ++ later_ends)) c)
    (append_assoc past xs ys)
    (subst (λ (them : List Sent). IsUnderway program script options updates ((past ++ xs) ++ ys) them (past_ends ++ (ends ++ later_ends)) c)
    (append_assoc past_sent sent later_sent)
    (subst (λ (them : List ToldEnd). IsUnderway program script options updates ((past ++ xs) ++ ys) ((past_sent ++ sent) ++ later_sent) them c)
    (append_assoc past_ends ends later_ends)
    (second updates (past ++ xs) (past_sent ++ sent) (past_ends ++ ends) (first updates past past_sent past_ends under))))

-- what is told of records and of others behind them
module _ (program : Program) (script : List Command) (options : Options) (files : ReplayFiles) where
  of_both : (xs ys sent later_sent : List Sent) (ends later_ends : List ToldEnd) → AreOfRecords xs sent ends → AreOfRecords ys later_sent later_ends
      → AreOfRecords (xs ++ ys) (sent ++ later_sent) (ends ++ later_ends)
  of_both xs ys sent later_sent ends later_ends one other =
      let records = length-append xs ys in
      let all = length-append ends later_ends in
      let frames = length-append sent later_sent in (
        omega (arith, records, all, one.0, other.0),
        frames ∙ (ap₂ (◌+◌) one.1 other.1
            ∙ sym (ap (λ (n : ℕ). sent_before (ends ++ later_ends) n) all ∙ sent_behind ends later_ends (length later_ends))),
      )

  told_both : (a b c : FileBytes) (first : ℕ) (xs ys sent later_sent : List Sent) (ends later_ends : List ToldEnd) → AreOfRecords xs sent ends
      → AreTold a b files script first xs sent ends → AreTold b c files script (first + length xs) ys later_sent later_ends
      → AreTold a c files script first (xs ++ ys) (sent ++ later_sent) (ends ++ later_ends)
  told_both a b c first xs ys sent later_sent ends later_ends fit one other = λ name is.
      subst (λ (lines : List ℕ). AreAdded a c name lines)
      (sym (lines_of_both (form_of name) (runs_shipped files) script first xs ys ends later_ends sent later_sent fit.0 fit.1))
      (added_both a b c name _ _ (one name is) (other name is))

  behind_both : (before between : PieceReplay) (a b c : FileBytes) (xs ys sent later_sent : List Sent) (ends later_ends : List ToldEnd)
      → AreRun program script options before between xs sent ends
      → AreToldBehind program script options files before a b xs sent ends
      → AreToldBehind program script options files between b c ys later_sent later_ends
      → AreToldBehind program script options files before a c (xs ++ ys) (sent ++ later_sent) (ends ++ later_ends)
  behind_both before between a b c xs ys sent later_sent ends later_ends run one other = λ updates past past_sent past_ends under.
      let first = one updates past past_sent past_ends under in
      let second = other updates (past ++ xs) (past_sent ++ sent) (past_ends ++ ends) (run updates past past_sent past_ends under) in (
        of_both xs ys sent later_sent ends later_ends first.0 second.0,
        λ apart. told_both a b c (length past) xs ys sent later_sent ends later_ends first.0 (first.1 apart)
            (subst (λ (n : ℕ). AreTold b c files script n ys later_sent later_ends) (length-append past xs) (second.1 apart)),
      )

  -- one piece after another
  pub run_on : (a b c : PieceReplay) (made made' made'' : FileBytes) (xs ys : List Sent)
      → HaveRun program script options files a b made made' xs → HaveRun program script options files b c made' made'' ys
      → HaveRun program script options files a c made made'' (xs ++ ys)
  run_on a b c made made' made'' xs ys first second = record {
    captured = captured_both xs ys first.captured second.captured;
    sent = first.sent ++ second.sent;
    ends = first.ends ++ second.ends;
    run = run_both program script options a b c xs ys first.sent second.sent first.ends second.ends first.run second.run;
    added = λ apart.
        subst (λ (more : List ℕ). AreAdded made made'' files.sent.now more) (sym (records_bytes-append first.sent second.sent))
        (added_both made made' made'' files.sent.now _ _ (first.added apart) (second.added apart));
    told = behind_both a b made made' made'' xs ys first.sent second.sent first.ends second.ends first.run first.told second.told;
  }

  -- no piece
  none_added : (made made' : FileBytes) (name : List ℕ) → AreKept made made' → AreAdded made made' name []
  none_added made made' name kept = λ bytes begun.
      subst (λ (them : List ℕ). made' name them) (sym (append-nil bytes)) ((kept name bytes).0 begun)

  pub none_run : (a : PieceReplay) (made made' : FileBytes) → AreKept made made' → HaveRun program script options files a a made made' []
  none_run a made made' kept = record {
    captured = tt;
    sent = [];
    ends = [];
    run = λ updates past past_sent past_ends under.
        subst (λ (records : List Sent). IsUnderway program script options updates records (past_sent ++ []) (past_ends ++ []) a) (sym (append-nil past))
        (subst (λ (them : List Sent). IsUnderway program script options updates past them (past_ends ++ []) a) (sym (append-nil past_sent))
        (subst (λ (them : List ToldEnd). IsUnderway program script options updates past past_sent them a) (sym (append-nil past_ends)) under));
    added = λ apart. none_added made made' files.sent.now kept;
    told = λ updates past past_sent past_ends under. ((refl, refl), λ apart name is. none_added made made' name kept);
  }

  -- what was made before the piece is what was made before its reading
  added_after : (made made' made'' : FileBytes) (name more : List ℕ) → AreKept made made' → AreAdded made' made'' name more → AreAdded made made'' name more
  added_after made made' made'' name more kept added = λ bytes begun. added bytes ((kept name bytes).0 begun)

  pub run_after : (a b : PieceReplay) (made made' made'' : FileBytes) (records : List Sent) → AreKept made made'
      → HaveRun program script options files a b made' made'' records → HaveRun program script options files a b made made'' records
  run_after a b made made' made'' records kept run = record {
    captured = run.captured;
    sent = run.sent;
    ends = run.ends;
    run = run.run;
    added = λ apart. added_after made made' made'' files.sent.now _ kept (run.added apart);
    told = λ updates past past_sent past_ends under.
        let it = run.told updates past past_sent past_ends under in
        (it.0, λ apart name is. added_after made made' made'' name _ kept (it.1 apart name is));
  }

-- what is left of the file is the same
pub read_still : (reading : Reading) (has left left' : List ℕ → Type 0) (records : List Sent) (reader : ReaderView)
    → ((bytes : List ℕ) → (left bytes ↔ left' bytes)) → IsReadTo reading has left records reader → IsReadTo reading has left' records reader
read_still reading has left left' records reader same is = record {
  reading_is = is.reading_is;
  counted = is.counted;
  rest = is.rest;
  left = still_same reader.source left left' (λ bytes. (same bytes).0) is.rest is.left;
  file = λ behind there. is.file behind (still_same reader.source left' left (λ bytes. (same bytes).1) behind there);
}

-- the whole file is a capture
pub capture_is : (files : FileBytes) (reading : Reading) (name : List ℕ) (records : List Sent) (cut : ℕ) → IsReadWhole reading (files name) records cut
    → IsCaptureOf files reading name records
capture_is files reading name records cut whole = record {
  bytes = whole.held.all;
  read = whole.held.held;
  spelled = record { left = whole.all; left_are = whole.held.bytes_are; spelled = whole.capture };
}
