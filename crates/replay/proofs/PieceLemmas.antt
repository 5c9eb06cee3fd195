-- Turns of a capture that comes in pieces: what was handed out before, and what comes later, makes no difference to them.
use Rattle.std.proofs.Common.{◌≡◌, ℕ, zero, suc, ◌+◌, ◌<◌, ◌≤◌, ◌^◌, List, [], ◌∷◌, ◌++◌, length, Some, refl, sym, ap, ap₂, ◌∙◌, subst, arith, append_assoc, zero-add, length-append}
use Rattle.std.specs.Prelude.{slice_get, Option, None, Vec}
use Rattle.std.proofs.lemmas.List.{append-nil, length-map, map-append}
use Rattle.wire.specs.declared.records.Sent.{Sent}
use Rattle.map_updates.specs.declared.update.MapUpdate.{MapUpdate}
use Rattle.semantics.specs.declared.options.Options.{Options}
use Rattle.semantics.specs.History.{IsLegalJournal}
use Rattle.semantics.specs.Program.{Program}
use Rattle.journals.specs.JournalsView.{JournalsView, entries_at}
use Rattle.shards.specs.NewShards.{shard_at}
use Rattle.control.specs.declared.command.Command.{Command}
use Rattle.semantics.specs.Replay.{Captured}
use Rattle.actors.specs.declared.account.Counts.{Counts}
use Rattle.actors.specs.declared.outcome.Outcome.{Outcome}
use Rattle.actors.specs.declared.outcome.ToldEnd.{ToldEnd}
use Rattle.actors.specs.declared.runner.RunEnd.{RunEnd}
use Rattle.actors.specs.declared.runner.RunEnd.TheVariants.{Stopped, Exited}
use Rattle.actors.specs.declared.runner.FrameFate.TheVariants.{Aborted, Dropped, Passed, Sent as IsSent}
use Rattle.actors.specs.Accounts.{counted, frames_in, record_end, sent_by}
use Rattle.replay.specs.InTurn.{TurnState, IsTurn, AreTurns}
use Rattle.replay.specs.ExactReplays.{HasBegun, IsInTurn, starts_in}
use Rattle.replay.specs.Pieces.{HasPiece, IsWholeOutcome}
use Rattle.actors.specs.Shares.{worker_of_frame, captured_of, all_captured}
use Rattle.replay.specs.TurnStates.{with_earlier, with_none_kept}
use Rattle.replay.specs.Turns.{Turn, TheCommand, TheRecord, TheRound, turns_to}

-- ---- lists

still_there : {A : Type 0} (xs ys : List A) (place : ℕ) (x : A) → slice_get xs place ≡ Some x → slice_get (xs ++ ys) place ≡ Some x
still_there [] ys place x known = cc
still_there (first ∷ xs) ys zero x known = known
still_there (first ∷ xs) ys (suc place) x known = still_there xs ys place x known

there_behind : {A : Type 0} (xs ys : List A) (place : ℕ) → slice_get (xs ++ ys) (length xs + place) ≡ slice_get ys place
there_behind [] ys place = ap (slice_get ys) (zero-add place)
there_behind (x ∷ xs) ys place =
    let at : suc (length xs) + place ≡ suc (length xs + place) = omega arith in
    ap (slice_get (x ∷ (xs ++ ys))) at ∙ there_behind xs ys place

-- behind the records so far comes the piece
pub piece_behind : (records piece : List Sent) (first : ℕ) → first ≡ length records → HasPiece (records ++ piece) first piece
piece_behind records piece first is place below =
    ap (λ (n : ℕ). slice_get (records ++ piece) (n + place)) is ∙ there_behind records piece place

-- ---- what was handed out before

sent_behind : (sent before after : List Sent) (more : List Captured) → all_captured after ≡ all_captured before ++ more →
    all_captured (sent ++ after) ≡ all_captured (sent ++ before) ++ more
sent_behind sent before after more is =
    map-append captured_of sent after
    ∙ ap (λ (list : List Captured). all_captured sent ++ list) is
    ∙ sym (append_assoc (all_captured sent) (all_captured before) more)
    ∙ ap (λ (list : List Captured). list ++ more) (sym (map-append captured_of sent before))

module _ (program : Program) (script : List Command) (workers : ℕ) where
  pub turn_with : (records sent : List Sent) (ends : List ToldEnd) (turn : Turn) (before after : TurnState) →
      IsTurn program script records workers turn before after →
      IsTurn program script records workers turn (with_earlier sent ends before) (with_earlier sent ends after)
  turn_with records sent ends (TheRecord number) before after is = record {
    captured = is.captured;
    known = is.known;
    end = is.end;
    handled = is.handled;
    maps = is.maps;
    options = is.options;
    controller = is.controller;
    noted = is.noted;
    counts = is.counts;
    sent = sent_behind sent before.sent after.sent (sent_by is.end) is.sent;
    ends = ap (λ (list : List ToldEnd). ends ++ list) is.ends
        ∙ sym (append_assoc ends before.ends (record_end (worker_of_frame is.captured.bytes.items workers) is.end ∷ []));
  }
  turn_with records sent ends (TheCommand number) before after is = record {
    command = is.command;
    known = is.known;
    fault = is.fault;
    did = is.did;
    first = is.first;
    noted = is.noted;
    counts = is.counts;
    sent = ap (λ (list : List Sent). sent ++ list) is.sent;
    ends = ap (λ (list : List ToldEnd). ends ++ list) is.ends;
  }
  turn_with records sent ends TheRound before after is = record {
    round = is.round;
    maps = is.maps;
    options = is.options;
    controller = is.controller;
    noted = is.noted;
    counts = is.counts;
    sent = ap (λ (list : List Sent). sent ++ list) is.sent;
    ends = ap (λ (list : List ToldEnd). ends ++ list) is.ends;
  }

  pub turns_with : (records sent : List Sent) (ends : List ToldEnd) (turns : List Turn) (before after : TurnState) →
      AreTurns program script records workers turns before after →
      AreTurns program script records workers turns (with_earlier sent ends before) (with_earlier sent ends after)
  turns_with records sent ends [] before after are = ap (with_earlier sent ends) are
  turns_with records sent ends (turn ∷ later) before after are =
      (with_earlier sent ends are.0, turn_with records sent ends turn before are.0 are.1, turns_with records sent ends later are.0 after are.2)

  -- ---- what comes later

  turn_among : (records more : List Sent) (turn : Turn) (before after : TurnState) → IsTurn program script records workers turn before after →
      IsTurn program script (records ++ more) workers turn before after
  turn_among records more (TheRecord number) before after is = record {
    captured = is.captured;
    known = still_there records more number is.captured is.known;
    end = is.end;
    handled = is.handled;
    maps = is.maps;
    options = is.options;
    controller = is.controller;
    noted = is.noted;
    counts = is.counts;
    sent = is.sent;
    ends = is.ends;
  }
  turn_among records more (TheCommand number) before after is = is
  turn_among records more TheRound before after is = is

  pub turns_among : (records more : List Sent) (turns : List Turn) (before after : TurnState) → AreTurns program script records workers turns before after →
      AreTurns program script (records ++ more) workers turns before after
  turns_among records more [] before after are = are
  turns_among records more (turn ∷ later) before after are =
      (are.0, turn_among records more turn before are.0 are.1, turns_among records more later are.0 after are.2)

-- ---- handing out

pub handed_out : (sent : List Sent) (ends : List ToldEnd) (state after : TurnState) → after ≡ with_none_kept state →
    with_earlier sent ends state ≡ with_earlier (sent ++ state.sent) (ends ++ state.ends) after
handed_out sent ends state after is =
    sym (ap (with_earlier (sent ++ state.sent) (ends ++ state.ends)) is
    ∙ ap₂ (λ (s : List Sent) (e : List ToldEnd). record state { sent = s; ends = e }) (append-nil (sent ++ state.sent)) (append-nil (ends ++ state.ends)))

-- ---- a piece

-- with its turns, those of all records up to its end are taken
pub piece_taken : (program : Program) (script : List Command) (workers : ℕ) (starts : List ℕ) (taken : ℕ) (records piece sent more : List Sent)
    (ends more_ends : List ToldEnd) (first before middle after : TurnState) → starts ≡ starts_in script → taken ≡ length records →
    after ≡ with_none_kept middle → more ≡ middle.sent → more_ends ≡ middle.ends →
    AreTurns program script records workers (turns_to (starts_in script) (length records)) first (with_earlier sent ends before) →
    ((all earlier : List Sent) (earlier_ends : List ToldEnd) (begin : TurnState) → HasPiece all taken piece →
    AreTurns program script all workers (turns_to starts taken) begin (with_earlier earlier earlier_ends before) →
    AreTurns program script all workers (turns_to starts (taken + length piece)) begin (with_earlier earlier earlier_ends middle)) →
    AreTurns program script (records ++ piece) workers (turns_to (starts_in script) (length (records ++ piece))) first
    (with_earlier (sent ++ more) (ends ++ more_ends) after)
piece_taken program script workers starts taken records piece sent more ends more_ends first before middle after starts_are taken_is none_kept more_is
    more_ends_are were turns =
    let all = records ++ piece in
    let grown : AreTurns program script all workers (turns_to (starts_in script) (length records)) first (with_earlier sent ends before) =
    turns_among program script workers records piece (turns_to (starts_in script) (length records)) first (with_earlier sent ends before) were in
    let was : AreTurns program script all workers (turns_to starts taken) first (with_earlier sent ends before) =
    subst (λ (s : List ℕ). AreTurns program script all workers (turns_to s taken) first (with_earlier sent ends before)) (sym starts_are)
    (subst (λ (n : ℕ). AreTurns program script all workers (turns_to (starts_in script) n) first (with_earlier sent ends before)) (sym taken_is) grown) in
    let count : taken + length piece ≡ length all = ap (λ (n : ℕ). n + length piece) taken_is ∙ sym (length-append records piece) in
    let now : AreTurns program script all workers (turns_to starts (taken + length piece)) first (with_earlier sent ends middle) =
    turns all sent ends first (piece_behind records piece taken taken_is) was in
    let same : with_earlier sent ends middle ≡ with_earlier (sent ++ more) (ends ++ more_ends) after =
    handed_out sent ends middle after none_kept
    ∙ ap₂ (λ (s : List Sent) (e : List ToldEnd). with_earlier (sent ++ s) (ends ++ e) after) (sym more_is) (sym more_ends_are) in
    subst (λ (state : TurnState). AreTurns program script all workers (turns_to (starts_in script) (length all)) first state) same
    (subst (λ (s : List ℕ). AreTurns program script all workers (turns_to s (length all)) first (with_earlier sent ends middle)) starts_are
    (subst (λ (n : ℕ). AreTurns program script all workers (turns_to starts n) first (with_earlier sent ends middle)) count now))

-- ---- one end for each record, and at most one frame

pub record IsCounted (state : TurnState) : Type 0 where
  pub each : length state.ends ≡ frames_in state.counts
  pub at_most : length state.sent ≤ frames_in state.counts

one_more : (counts : Counts) (end : Option RunEnd) → frames_in (counted counts end) ≡ frames_in counts + 1
one_more counts None = omega arith
one_more counts (Some Stopped) = omega arith
one_more counts (Some (Exited steps Aborted)) = omega arith
one_more counts (Some (Exited steps Dropped)) = omega arith
one_more counts (Some (Exited steps Passed)) = omega arith
one_more counts (Some (Exited steps (IsSent sent))) = omega arith

one_at_most : (end : Option RunEnd) → length (sent_by end) ≤ 1
one_at_most None = omega arith
one_at_most (Some Stopped) = omega arith
one_at_most (Some (Exited steps Aborted)) = omega arith
one_at_most (Some (Exited steps Dropped)) = omega arith
one_at_most (Some (Exited steps Passed)) = omega arith
one_at_most (Some (Exited steps (IsSent sent))) = omega arith

more_ends : (before after : List ToldEnd) (end : ToldEnd) → after ≡ before ++ end ∷ [] → length after ≡ length before + 1
more_ends before after end is = ap (λ (list : List ToldEnd). length list) is ∙ length-append before (end ∷ [])

more_sent : (before after : List Sent) (end : Option RunEnd) → all_captured after ≡ all_captured before ++ sent_by end → length after ≤ length before + 1
more_sent before after end is =
    let few = one_at_most end in
    let count : length after ≡ length before + length (sent_by end) =
    sym (length-map after captured_of) ∙ ap (λ (list : List Captured). length list) is ∙ length-append (all_captured before) (sent_by end)
    ∙ ap (λ (n : ℕ). n + length (sent_by end)) (length-map before captured_of) in
    omega (arith, few, count)

same_counted : (before after : TurnState) → after.counts ≡ before.counts → after.sent ≡ before.sent → after.ends ≡ before.ends → IsCounted before →
    IsCounted after
same_counted before after counts sent ends were =
    let n : frames_in after.counts ≡ frames_in before.counts = ap (λ (c : Counts). frames_in c) counts in
    let s : length after.sent ≡ length before.sent = ap (λ (list : List Sent). length list) sent in
    let e : length after.ends ≡ length before.ends = ap (λ (list : List ToldEnd). length list) ends in
    let each = were.each in
    let at_most = were.at_most in
    record { each = omega (arith, n, e, each); at_most = omega (arith, n, s, at_most) }

module _ (program : Program) (script : List Command) (records : List Sent) (workers : ℕ) where
  turn_counted : (turn : Turn) (before after : TurnState) → IsTurn program script records workers turn before after → IsCounted before → IsCounted after
  turn_counted (TheRecord number) before after is were =
      let n : frames_in after.counts ≡ frames_in before.counts + 1 = ap (λ (c : Counts). frames_in c) is.counts ∙ one_more before.counts is.end in
      let e : length after.ends ≡ length before.ends + 1 =
      more_ends before.ends after.ends (record_end (worker_of_frame is.captured.bytes.items workers) is.end) is.ends in
      let s : length after.sent ≤ length before.sent + 1 = more_sent before.sent after.sent is.end is.sent in
      let each = were.each in
      let at_most = were.at_most in
      record { each = omega (arith, n, e, each); at_most = omega (arith, n, s, at_most) }
  turn_counted (TheCommand number) before after is were = same_counted before after is.counts is.sent is.ends were
  turn_counted TheRound before after is were = same_counted before after is.counts is.sent is.ends were

  pub turns_counted : (turns : List Turn) (before after : TurnState) → AreTurns program script records workers turns before after → IsCounted before →
      IsCounted after
  turns_counted [] before after are were = subst IsCounted (sym are) were
  turns_counted (turn ∷ later) before after are were = turns_counted later are.0 after are.2 (turn_counted turn before are.0 are.1 were)

-- ---- the outcome of the whole

module _ {X Z : Type 0} where
  abbrev with_list : (vec : Vec X Z) (list : List X) → length list < 2 ^ 63 → Vec X Z
  with_list vec list few = record { ptr = vec.ptr; len = length list; cap = length list; alloc = vec.alloc; items = list; ok = (refl, omega arith); small = few }

abbrev pub whole_of : (rest : Outcome) (sent : List Sent) (ends : List ToldEnd) → length sent < 2 ^ 63 → length ends < 2 ^ 63 → Outcome
whole_of rest sent ends few_sent few_ends =
    record rest { sent = with_list rest.sent sent few_sent; ends = with_list rest.ends ends few_ends }

pub whole_is : (rest : Outcome) (sent : List Sent) (ends : List ToldEnd) (few_sent : length sent < 2 ^ 63) (few_ends : length ends < 2 ^ 63) →
    IsWholeOutcome rest sent ends (whole_of rest sent ends few_sent few_ends)
whole_is rest sent ends few_sent few_ends = record { counts = refl; updates = refl; refused = refl; journals = refl; sent_are = refl; ends_are = refl }

-- what is said of one outcome of the whole is said of each
pub in_turn_too : (program : Program) (script : List Command) (options : Options) (records sent : List Sent) (ends : List ToldEnd)
    (rest one two : Outcome) → IsWholeOutcome rest sent ends one → IsWholeOutcome rest sent ends two → IsInTurn program script options records one →
    IsInTurn program script options records two
in_turn_too program script options records sent ends rest one two first second is =
    let counts : two.counts ≡ one.counts = second.counts ∙ sym first.counts in
    let journals : two.journals ≡ one.journals = second.journals ∙ sym first.journals in
    let updates : two.updates.items ≡ one.updates.items = second.updates ∙ sym first.updates in
    record {
      maps = ap (λ (j : JournalsView). j.maps) journals ∙ is.maps;
      options_are = ap (λ (j : JournalsView). j.options) journals ∙ is.options_are;
      size = is.size;
      size_is_served = is.size_is_served;
      serves = is.serves;
      begun = is.begun;
      first = subst (λ (list : List MapUpdate). HasBegun program.maps options list is.begun) (sym updates) is.first;
      last = is.last;
      in_order = is.in_order;
      counts = counts ∙ is.counts;
      each_once = ap (λ (c : Counts). frames_in c) counts ∙ is.each_once;
      sent = second.sent_are ∙ sym first.sent_are ∙ is.sent;
      ends = second.ends_are ∙ sym first.ends_are ∙ is.ends;
      refused = second.refused ∙ sym first.refused ∙ is.refused;
      count_is = ap (λ (j : JournalsView). length j.shards) journals ∙ is.count_is;
      journals = λ number below. ap (λ (j : JournalsView). entries_at j number) journals ∙ is.journals number below;
      legal = λ number below.
          subst (λ (j : JournalsView). IsLegalJournal (shard_at is.last.all.shards number).plan (entries_at j number)) (sym journals) (is.legal number below);
    }
