use Rattle.std.proofs.Common.{◌∙◌, List, ap, subst, sym}
use Rattle.std.proofs.lemmas.List.{map-set}
use Rattle.std.specs.List.{position}
use Rattle.flows.specs.FlowRecords.{HasRoomForFrame, stories_in, story_of}
use Rattle.flows.specs.Stories.{Story, flow_of_row}
use Rattle.flows.specs.Telling.{is_story_of}
use Rattle.flows.specs.Walking.{applied}
use Rattle.flows.proofs.StoryLemmas.{goes_on, moves_on, position_within, read_story, room_at, stays_found}
use Rattle.flows.proofs.flow_list.FlowList.go_on.Goals as goal

pub note-requires-clause-room : goal.note-requires-clause-room
note-requires-clause-room c =
    let read = read_story c.args.self.now.flows.items c.args.place c.index_mut.result.now c.index_mut.ensures.value in
    let within = position_within (is_story_of (flow_of_row c.args.row.now)) (stories_in c.args.self.now) c.args.place c.requires.place in
    subst HasRoomForFrame (sym read) (room_at (stories_in c.args.self.now) c.args.place (story_of c.index_mut.result.now) within c.requires.small)

pub returns-clause-noted : goal.returns-clause-noted
returns-clause-noted c =
    map-set story_of c.args.self.now.flows.items c.args.place c.note.new.self
    ∙ goes_on c.args.row.now (applied c.args.settings.now) (stories_in c.args.self.now) c.args.place (story_of c.index_mut.result.now)
    c.requires.place (read_story c.args.self.now.flows.items c.args.place c.index_mut.result.now c.index_mut.ensures.value)
    (story_of c.note.new.self) c.in_ok-moved.ensures.after

pub returns-clause-indexed : goal.returns-clause-indexed
returns-clause-indexed c = λ flow.
    c.requires.indexed flow
    ∙ sym (ap (λ (it : List Story). position (is_story_of flow) it) (map-set story_of c.args.self.now.flows.items c.args.place c.note.new.self)
    ∙ stays_found c.args.row.now (applied c.args.settings.now) (stories_in c.args.self.now) c.args.place (story_of c.index_mut.result.now)
    c.requires.place (read_story c.args.self.now.flows.items c.args.place c.index_mut.result.now c.index_mut.ensures.value)
    flow (story_of c.note.new.self) c.in_ok-moved.ensures.after)

pub returns-clause-moved : goal.returns-clause-moved
returns-clause-moved c =
    c.in_ok-moved.ensures.moved
    ∙ moves_on c.args.row.now (applied c.args.settings.now) (stories_in c.args.self.now) c.args.place (story_of c.index_mut.result.now)
    c.requires.place (read_story c.args.self.now.flows.items c.args.place c.index_mut.result.now c.index_mut.ensures.value)
