use Rattle.std.proofs.Common.{◌≡◌, ◌+◌, List, length, ap, ◌∙◌, subst, arith, length-append}
use Rattle.wire.specs.declared.records.Sent.{Sent}
use Rattle.semantics.specs.declared.options.Options.{Options}
use Rattle.machine.specs.Running.{program_of}
use Rattle.control.specs.declared.command.Command.{Command}
use Rattle.actors.specs.declared.outcome.ToldEnd.{ToldEnd}
use Rattle.replay.specs.ExactReplays.{starts_in, first_state}
use Rattle.replay.specs.InTurn.{TurnState, AreTurns}
use Rattle.replay.specs.Pieces.{HasPiece}
use Rattle.replay.specs.TurnStates.{state_in, with_earlier}
use Rattle.replay.specs.Turns.{turns_to}
use Rattle.replay.proofs.PieceLemmas.{piece_taken}
use Rattle.replay.proofs.in_pieces.PieceReplay.go_on.Goals as goal

pub returns-clause-underway : goal.returns-clause-underway
returns-clause-underway g c = λ options updates records sent ends under.
    let verified = c.args.verified.now in
    let script = c.args.script.now in
    let piece = c.args.piece.now.records.items in
    let starts = c.deref-starts.result.now in
    let taken = c.args.self.now.taken in
    let before = state_in c.args.self.now.turns in
    let middle = state_in c.piece_turns.new.self in
    let after = state_in c.hand_out.new.self in
    let told = c.in_ok-next.ensures in
    let same_script : c.commands-commands.result.now ≡ script = c.commands-commands.ensures in
    let starts_are : starts ≡ starts_in script = c.deref-starts.ensures.value ∙ c.requires.goes_on.starts in
    let turns : (all earlier : List Sent) (earlier_ends : List ToldEnd) (begin : TurnState) → HasPiece all taken piece →
    AreTurns (program_of verified options.shards) script all options.workers (turns_to starts taken) begin (with_earlier earlier earlier_ends before) →
    AreTurns (program_of verified options.shards) script all options.workers (turns_to starts (taken + length piece)) begin
    (with_earlier earlier earlier_ends middle) =
    subst (λ (o : Options). (all earlier : List Sent) (earlier_ends : List ToldEnd) (begin : TurnState) → HasPiece all taken piece →
    AreTurns (program_of verified o.shards) script all o.workers (turns_to starts taken) begin (with_earlier earlier earlier_ends before) →
    AreTurns (program_of verified o.shards) script all o.workers (turns_to starts (taken + length piece)) begin
    (with_earlier earlier earlier_ends middle)) under.options_are
    (subst (λ (s : List Command). (all earlier : List Sent) (earlier_ends : List ToldEnd) (begin : TurnState) → HasPiece all taken piece →
    AreTurns (program_of verified before.all.options.shards) s all before.all.options.workers (turns_to starts taken) begin
    (with_earlier earlier earlier_ends before) →
    AreTurns (program_of verified before.all.options.shards) s all before.all.options.workers (turns_to starts (taken + length piece)) begin
    (with_earlier earlier earlier_ends middle)) same_script told.turns) in
    let is = c.len.ensures in
    let ok = c.args.piece.now.records.ok.0 in
    let was = under.taken in
    let count = length-append records piece in
    record {
      size = under.size;
      size_is_served = under.size_is_served;
      serves = under.serves;
      options_fit = under.options_fit;
      begun = under.begun;
      first = under.first;
      in_order = piece_taken (program_of verified options.shards) script options.workers starts taken records piece sent c.hand_out.result.sent.items ends
          c.hand_out.result.ends.items (first_state under.begun under.size) before middle after starts_are under.taken c.hand_out.ensures.none_kept
          c.hand_out.ensures.sent c.hand_out.ensures.ends under.in_order turns;
      taken = omega (arith, is, ok, was, count);
      maps = ap (λ (state : TurnState). state.all.maps) c.hand_out.ensures.none_kept ∙ told.same.maps ∙ under.maps;
      options_are = ap (λ (state : TurnState). state.all.options) c.hand_out.ensures.none_kept ∙ told.same.options ∙ under.options_are;
    }
