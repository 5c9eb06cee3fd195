use Rattle.std.proofs.Common.{◌∙◌, List, ap, arith, map, subst, sym}
use Rattle.std.specs.List.{AllByRecursion}
use Rattle.flows.specs.FlowRecords.{HasRoomForFrame, stories_in}
use Rattle.flows.specs.Settings.{before}
use Rattle.flows.specs.Stories.{Story}
use Rattle.flows.specs.Telling.{stories_until}
use Rattle.flows.specs.Walking.{applied}
use Rattle.flows.proofs.SettingLemmas.{walked_later}
use Rattle.flows.proofs.StoryLemmas.{moves_next, room_in, stories_next, stories_small}
use Rattle.flows.proofs.telling.told.Goals as goal

pub tell-requires-clause-small : goal.tell-requires-clause-small
tell-requires-clause-small c =
    subst (λ (it : List Story). AllByRecursion HasRoomForFrame it) (sym c.rows.invariant.stories)
    (room_in c.rows.place (stories_until (map (λ row. row.now) c.args.rows.now) c.args.commands.now c.rows.place)
    (omega (arith, c.rows-test.true)) (stories_small (map (λ row. row.now) c.args.rows.now) c.args.commands.now c.rows.place))

pub rows-preserved : goal.rows-preserved
rows-preserved c =
    let applied_is = c.in_ok-advance.ensures.before ∙ ap (before c.rows.place) c.rows.invariant.commands in
    record {
      walked = walked_later c.advance.new.self c.rows.place c.in_ok-advance.ensures.walked;
      commands = c.in_ok-advance.ensures.same ∙ c.rows.invariant.commands;
      indexed = c.in_ok-moved.ensures.indexed;
      stories = c.in_ok-moved.ensures.told
          ∙ stories_next (map (λ row. row.now) c.args.rows.now) c.args.commands.now (applied c.advance.new.self) c.rows.place c.row_at-row.result.now
          (stories_in c.rows.list) c.row_at-row.ensures applied_is c.rows.invariant.stories;
      moves = c.in_ok-put_move.ensures
          ∙ moves_next (map (λ row. row.now) c.args.rows.now) c.args.commands.now (applied c.advance.new.self) c.rows.place c.row_at-row.result.now
          (stories_in c.rows.list) c.row_at-row.ensures applied_is c.rows.invariant.stories _ _ _ _ c.address_of-from.ensures
          c.backend_of-backend.ensures c.in_ok-moved.ensures.moved c.rows.invariant.moves;
    }
