use Rattle.std.proofs.Common.{◌≡◌, map}
use Rattle.flows.specs.FlowRecords.{IsIndexed, moved_of, stories_in}
use Rattle.flows.specs.Telling.{moves_until, stories_until}
use Rattle.flows.specs.Walking.{IsWalked}
use Rattle.flows.proofs.telling.told.Given as goal

abbrev pub invariant-rows : goal.invariant-rows
invariant-rows l = record {
  walked : IsWalked l.settings l.place;
  commands : l.settings.commands.now ≡ l.commands;
  indexed : IsIndexed l.list;
  stories : stories_in l.list ≡ stories_until (map (λ row. row.now) l.rows) l.commands l.place;
  moves : map moved_of l.moves.items ≡ moves_until (map (λ row. row.now) l.rows) l.commands l.place;
}
