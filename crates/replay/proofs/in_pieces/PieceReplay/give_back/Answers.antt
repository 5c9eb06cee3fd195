use Rattle.std.proofs.Common.{length, sym, ap, ◌∙◌, subst}
use Rattle.actors.specs.Accounts.{frames_in}
use Rattle.actors.specs.Commands.{ServesScript}
use Rattle.replay.specs.ExactReplays.{starts_in, first_state}
use Rattle.replay.specs.InTurn.{TurnState, AreTurns}
use Rattle.replay.specs.TurnStates.{with_earlier}
use Rattle.replay.specs.Turns.{turns_to}
use Rattle.replay.proofs.in_pieces.PieceReplay.give_back.Goals as goal

pub returns-clause-underway : goal.returns-clause-underway
returns-clause-underway c = λ program script options updates records sent ends under.
    let same = c.give_back.ensures in
    record {
      size = under.size;
      size_is_served = under.size_is_served;
      serves = under.serves;
      options_fit = under.options_fit;
      begun = under.begun;
      first = under.first;
      in_order = subst (λ (state : TurnState). AreTurns program script records options.workers (turns_to (starts_in script) (length records))
          (first_state under.begun under.size) (with_earlier sent ends state)) (sym same) under.in_order;
      taken = under.taken;
      maps = ap (λ (state : TurnState). state.all.maps) same ∙ under.maps;
      options_are = ap (λ (state : TurnState). state.all.options) same ∙ under.options_are;
    }

pub returns-clause-goes_on : goal.returns-clause-goes_on
returns-clause-goes_on c = λ script goes.
    let same = c.give_back.ensures in
    record {
      serves = subst (λ (state : TurnState). ServesScript state.all.maps state.controller.size script) (sym same) goes.serves;
      starts = goes.starts;
      next = goes.next;
      within = goes.within;
      counted = ap (λ (state : TurnState). frames_in state.counts) same ∙ goes.counted;
      few = goes.few;
      none_sent = ap (λ (state : TurnState). state.sent) same ∙ goes.none_sent;
      no_ends = ap (λ (state : TurnState). state.ends) same ∙ goes.no_ends;
    }

pub returns-clause-maps : goal.returns-clause-maps
returns-clause-maps c = ap (λ (state : TurnState). state.all.maps) c.give_back.ensures
