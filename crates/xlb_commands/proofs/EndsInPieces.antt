-- An exact replay on its way: each record has an end, and each that was sent a frame.
use Rattle.std.proofs.Common.{arith, ◌≡◌, ◌∙◌, ◌+◌, ◌++◌, ℕ, zero, suc, Bool, true, false, List, [], ◌∷◌, Option, Some, None}
use Rattle.std.proofs.Common.{ap, ap₂, append-nil, refl, sym, subst, length}
use Rattle.std.specs.Prelude.{◌%◌, ◌==◌, ◌-◌, if◌then◌else◌, map}
use Rattle.std.proofs.lemmas.List.{length-append, length-map}
use Rattle.control.specs.declared.command.Command.{Command}
use Rattle.map_updates.specs.declared.update.MapUpdate.{MapUpdate}
use Rattle.semantics.specs.Program.{Program}
use Rattle.semantics.specs.declared.options.Options.{Options}
use Rattle.wire.specs.declared.records.Sent.{Sent}
use Rattle.traffic.specs.Counting.{one_if}
use Rattle.semantics.specs.Replay.{Captured}
use Rattle.actors.specs.Accounts.{record_end, sent_by}
use Rattle.actors.specs.Actors.{numbers_from}
use Rattle.actors.specs.Shares.{worker_of_frame, captured_of, all_captured}
use Rattle.actors.specs.declared.outcome.ToldEnd.{ToldEnd}
use Rattle.actors.specs.declared.runner.FrameFate.TheVariants.{Aborted, Dropped, Passed, Sent as IsSent}
use Rattle.actors.specs.declared.runner.RunEnd.{RunEnd}
use Rattle.actors.specs.declared.runner.RunEnd.TheVariants.{Stopped, Exited}
use Rattle.replay.specs.ExactReplays.{starts_in}
use Rattle.replay.specs.InTurn.{TurnState, AreTurns, IsRecordTurn}
use Rattle.replay.specs.Pieces.{IsUnderway, ReplayGoesOn}
use Rattle.replay.specs.Turns.{Turn, TheCommand, TheRecord, TheRound, commands_between, due_before, rounds_at, turns_to}
use Rattle.actors.specs.Actors.{due_to}
use Rattle.replay.specs.declared.in_pieces.PieceReplay.{PieceReplay}
use Rattle.xlb_commands.specs.InPieces.{AreOfRecords}
use Rattle.xlb_commands.specs.RecordReports.{is_sent, sent_before}
use Rattle.xlb_commands.proofs.ReportPieces.{from_none, sent_behind, suc_left}

-- so many ends, and a frame for each that was sent
abbrev AreAligned : ℕ → List Sent → List ToldEnd → Type 0
AreAligned count sent ends = (length ends ≡ count) × (length sent ≡ sent_before ends (length ends))

one_sent : (worker : ℕ) (fate : Option RunEnd) → length (sent_by fate) ≡ one_if (is_sent (record_end worker fate))
one_sent worker None = refl
one_sent worker (Some Stopped) = refl
one_sent worker (Some (Exited steps Aborted)) = refl
one_sent worker (Some (Exited steps Dropped)) = refl
one_sent worker (Some (Exited steps Passed)) = refl
one_sent worker (Some (Exited steps (IsSent sent))) = refl

one_end : (ends : List ToldEnd) (end : ToldEnd)
    → sent_before (ends ++ end ∷ []) (length (ends ++ end ∷ [])) ≡ sent_before ends (length ends) + one_if (is_sent end)
one_end ends end =
    ap (λ (n : ℕ). sent_before (ends ++ end ∷ []) n) (length-append ends (end ∷ []))
    ∙ (sent_behind ends (end ∷ []) 1
    ∙ ap (λ (n : ℕ). sent_before ends (length ends) + n) (from_none (one_if (is_sent end))))

one_more : (program : Program) (records : List Sent) (workers number : ℕ) (before after : TurnState) (count : ℕ)
    → IsRecordTurn program records workers number before after → AreAligned count before.sent before.ends
    → AreAligned (suc count) after.sent after.ends
one_more program records workers number before after count turn aligned =
    let end = record_end (worker_of_frame turn.captured.bytes.items workers) turn.end in
    let many : length after.ends ≡ length before.ends + 1 = ap (λ (ends : List ToldEnd). length ends) turn.ends ∙ length-append before.ends (end ∷ []) in
    let frames : length after.sent ≡ length before.sent + length (sent_by turn.end) =
    sym (length-map after.sent captured_of) ∙ (ap (λ (frames : List Captured). length frames) turn.sent
    ∙ (length-append (all_captured before.sent) (sent_by turn.end) ∙ ap (λ (n : ℕ). n + length (sent_by turn.end)) (length-map before.sent captured_of))) in (
      omega (arith, many, aligned.0),
      frames ∙ (ap₂ (◌+◌) aligned.1 (one_sent (worker_of_frame turn.captured.bytes.items workers) turn.end)
          ∙ sym (ap (λ (ends : List ToldEnd). sent_before ends (length ends)) turn.ends ∙ one_end before.ends end)),
    )

abbrev records_among : List Turn → ℕ
records_among [] = 0
records_among (TheRecord number ∷ later) = suc (records_among later)
records_among (TheCommand number ∷ later) = records_among later
records_among (TheRound ∷ later) = records_among later

same_state : (count other : ℕ) (before after : TurnState) → other ≡ count → after.sent ≡ before.sent → after.ends ≡ before.ends
    → AreAligned count before.sent before.ends → AreAligned other after.sent after.ends
same_state count other before after same sent ends aligned = (
  ap (λ (them : List ToldEnd). length them) ends ∙ (aligned.0 ∙ sym same),
  ap (λ (them : List Sent). length them) sent ∙ (aligned.1 ∙ ap (λ (them : List ToldEnd). sent_before them (length them)) (sym ends)),
)

aligned_on : (program : Program) (script : List Command) (records : List Sent) (workers : ℕ) (turns : List Turn) (before after : TurnState) (count : ℕ)
    → AreTurns program script records workers turns before after → AreAligned count before.sent before.ends
    → AreAligned (count + records_among turns) after.sent after.ends
aligned_on program script records workers [] before after count same aligned =
    same_state count _ before after (omega arith) (ap (λ (state : TurnState). state.sent) same) (ap (λ (state : TurnState). state.ends) same) aligned
aligned_on program script records workers (TheRecord number ∷ later) before after count turns aligned =
    subst (λ (n : ℕ). AreAligned n after.sent after.ends) one_later
    (aligned_on program script records workers later turns.0 after (suc count) turns.2
    (one_more program records workers number before turns.0 count turns.1 aligned))
  where
    one_later : suc count + records_among later ≡ count + suc (records_among later)
    one_later = omega arith
aligned_on program script records workers (TheCommand number ∷ later) before after count turns aligned =
    aligned_on program script records workers later turns.0 after count turns.2
    (same_state count count before turns.0 refl turns.1.sent turns.1.ends aligned)
aligned_on program script records workers (TheRound ∷ later) before after count turns aligned =
    aligned_on program script records workers later turns.0 after count turns.2
    (same_state count count before turns.0 refl turns.1.sent turns.1.ends aligned)

-- the turns of N records have N records
among_both : (turns later : List Turn) → records_among (turns ++ later) ≡ records_among turns + records_among later
among_both [] later = sym (from_none (records_among later))
among_both (TheRecord number ∷ turns) later = ap suc (among_both turns later) ∙ sym (suc_left (records_among turns) (records_among later))
among_both (TheCommand number ∷ turns) later = among_both turns later
among_both (TheRound ∷ turns) later = among_both turns later

none_of_commands : (numbers : List ℕ) → records_among (map (λ (number : ℕ). TheCommand number) numbers) ≡ 0
none_of_commands [] = refl
none_of_commands (number ∷ numbers) = none_of_commands numbers

none_of_rounds : (number : ℕ) → records_among (rounds_at number) ≡ 0
none_of_rounds number = by_test (number % 64 == 0)
  where
    by_test : (is_time : Bool) → records_among (if is_time then TheRound ∷ [] else []) ≡ 0
    by_test true = refl
    by_test false = refl

all_of_records : (starts : List ℕ) (count : ℕ) → records_among (turns_to starts count) ≡ count
all_of_records starts zero = refl
all_of_records starts (suc number) =
    let commands = commands_between (due_before starts number) (due_to starts number) in
    let before = all_of_records starts number in
    let of_both = among_both (turns_to starts number) (commands ++ TheRecord number ∷ rounds_at (suc number)) in
    let of_last = among_both commands (TheRecord number ∷ rounds_at (suc number)) in
    let no_commands = none_of_commands (numbers_from (due_before starts number) (due_to starts number - due_before starts number)) in
    let no_rounds = none_of_rounds (suc number) in
    of_both ∙ (ap₂ (◌+◌) before (of_last ∙ ap₂ (◌+◌) no_commands (ap suc no_rounds)) ∙ add_one number)
  where
    add_one : (n : ℕ) → n + (0 + 1) ≡ suc n
    add_one n = omega arith

-- of the records so far
aligned_so_far : (program : Program) (script : List Command) (options : Options) (updates : List MapUpdate) (records sent : List Sent)
    (ends : List ToldEnd) (replay : PieceReplay) → IsUnderway program script options updates records sent ends replay
    → ReplayGoesOn script replay → AreAligned (length records) sent ends
aligned_so_far program script options updates records sent ends replay under goes_on =
    let all = aligned_on program script records options.workers (turns_to (starts_in script) (length records)) _ _ 0 under.in_order (refl, refl) in
    let no_sent : sent ++ replay.turns.sent.items ≡ sent = ap (λ (them : List Sent). sent ++ them) goes_on.none_sent ∙ append-nil sent in
    let no_ends : ends ++ replay.turns.ends.items ≡ ends = ap (λ (them : List ToldEnd). ends ++ them) goes_on.no_ends ∙ append-nil ends in
    let counted = from_none (records_among (turns_to (starts_in script) (length records))) ∙ all_of_records (starts_in script) (length records) in
    subst (λ (them : List Sent). AreAligned (length records) them ends) no_sent
    (subst (λ (them : List ToldEnd). AreAligned (length records) (sent ++ replay.turns.sent.items) them) no_ends
    (subst (λ (count : ℕ). AreAligned count (sent ++ replay.turns.sent.items) (ends ++ replay.turns.ends.items)) counted all))

-- and of the records of the next piece
pub aligned_next : (program : Program) (script : List Command) (options : Options) (updates : List MapUpdate) (past past_sent : List Sent)
    (past_ends : List ToldEnd) (before : PieceReplay) (records sent : List Sent) (ends : List ToldEnd) (after : PieceReplay)
    → IsUnderway program script options updates past past_sent past_ends before → ReplayGoesOn script before
    → IsUnderway program script options updates (past ++ records) (past_sent ++ sent) (past_ends ++ ends) after → ReplayGoesOn script after
    → AreOfRecords records sent ends
aligned_next program script options updates past past_sent past_ends before records sent ends after under goes_on under' goes_on' =
    let so_far = aligned_so_far program script options updates past past_sent past_ends before under goes_on in
    let now = aligned_so_far program script options updates (past ++ records) (past_sent ++ sent) (past_ends ++ ends) after under' goes_on' in
    let ends_are = length-append past_ends ends in
    let sent_are = length-append past_sent sent in
    let records_are = length-append past records in
    let counted = ap (λ (n : ℕ). sent_before (past_ends ++ ends) n) (length-append past_ends ends) ∙ sent_behind past_ends ends (length ends) in (
      omega (arith, so_far.0, now.0, ends_are, records_are),
      omega (arith, so_far.1, now.1, sent_are, counted),
    )
