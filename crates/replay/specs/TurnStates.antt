-- How far a replay on one thread is, by what it keeps and what it handed out.
use Rattle.std.specs.Prelude.{◌≡◌, List, [], ◌++◌}
use Rattle.wire.specs.declared.records.Sent.{Sent}
use Rattle.actors.specs.declared.outcome.ToldEnd.{ToldEnd}
use Rattle.replay.specs.declared.single_thread.Turns.{Turns}
use Rattle.replay.specs.InTurn.{TurnState}

abbrev pub state_in : Turns → TurnState
state_in turns = record {
  all = turns.all;
  controller = turns.controller;
  noted = turns.noted.items;
  counts = turns.counts;
  sent = turns.sent.items;
  ends = turns.ends.items;
}

-- these frames and ends were handed out before
abbrev pub with_earlier : List Sent → List ToldEnd → TurnState → TurnState
with_earlier sent ends state = record state { sent = sent ++ state.sent; ends = ends ++ state.ends }

-- nothing is kept of what was sent and what became of the records
abbrev pub with_none_kept : TurnState → TurnState
with_none_kept state = record state { sent = []; ends = [] }

-- no record was run in between
pub record HasSameEnds (before after : TurnState) : Type 0 where
  pub sent : after.sent ≡ before.sent
  pub ends : after.ends ≡ before.ends
