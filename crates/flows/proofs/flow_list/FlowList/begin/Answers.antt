use Rattle.std.proofs.Common.{◌≡◌, ◌∙◌, ◌++◌, ◌∷◌, [], List, ap, arith, length, map, sym}
use Rattle.std.proofs.lemmas.List.{length-map, map-append}
use Rattle.std.proofs.lemmas.Map.Text.{btree_map_updates_str}
use Rattle.std.specs.List.{position}
use Rattle.flows.specs.declared.flow.Flow.{Flow}
use Rattle.flows.specs.FlowRecords.{place_in, stories_in, story_of}
use Rattle.flows.specs.Stories.{Story, after, story_begun, flow_of_row}
use Rattle.flows.specs.Telling.{is_story_of}
use Rattle.flows.specs.Walking.{applied}
use Rattle.flows.proofs.StoryLemmas.{index_more, move_new, noted_new, position_none, same_flow}
use Rattle.flows.proofs.flow_list.FlowList.begin.Goals as goal

pub returns-clause-noted : goal.returns-clause-noted
returns-clause-noted c =
    ap (λ (it : List Flow). map story_of it) c.in_ok-push.ensures.items
    ∙ (map-append story_of c.args.self.now.flows.items (c.note.new.self ∷ [])
    ∙ (ap (λ (it : Story). stories_in c.args.self.now ++ it ∷ [])
    (c.in_ok-note.ensures.after ∙ ap (λ (it : Story). after it c.args.row.now (applied c.args.settings.now)) c.begun-flow.ensures)
    ∙ sym (noted_new c.args.row.now (applied c.args.settings.now) (stories_in c.args.self.now)
    (position_none (is_story_of (flow_of_row c.args.row.now)) (stories_in c.args.self.now) c.requires.absent))))

pub returns-clause-unmoved : goal.returns-clause-unmoved
returns-clause-unmoved c =
    move_new c.args.row.now (applied c.args.settings.now) (stories_in c.args.self.now)
    (position_none (is_story_of (flow_of_row c.args.row.now)) (stories_in c.args.self.now) c.requires.absent)

pub returns-clause-indexed : goal.returns-clause-indexed
returns-clause-indexed c = λ flow.
    let at_end : c.len-place.result ≡ length (stories_in c.args.self.now) =
    omega (arith, c.len-place.ensures, c.args.self.now.flows.ok.0, length-map c.args.self.now.flows.items story_of) in
    let made : stories_in (record { flows = c.push.new.self; places = c.insert.new.self }) ≡
    stories_in c.args.self.now ++ after (story_begun c.args.row.now) c.args.row.now (applied c.args.settings.now) ∷ [] =
    ap (λ (it : List Flow). map story_of it) c.in_ok-push.ensures.items
    ∙ (map-append story_of c.args.self.now.flows.items (c.note.new.self ∷ [])
    ∙ ap (λ (it : Story). stories_in c.args.self.now ++ it ∷ [])
    (c.in_ok-note.ensures.after ∙ ap (λ (it : Story). after it c.args.row.now (applied c.args.settings.now)) c.begun-flow.ensures)) in
    btree_map_updates_str c.flow_of.result.now c.args.self.now.places c.insert.new.self _ c.in_ok-insert.ensures.updates flow
    ∙ (index_more flow (flow_of_row c.args.row.now) c.flow_of.result.now (stories_in c.args.self.now)
    (after (story_begun c.args.row.now) c.args.row.now (applied c.args.settings.now)) (place_in c.args.self.now flow) c.len-place.result
    c.flow_of.ensures (same_flow c.args.row.now (applied c.args.settings.now) (story_begun c.args.row.now)) at_end c.requires.absent
    (c.requires.indexed flow) ∙ sym (ap (λ (it : List Story). position (is_story_of flow) it) made))
