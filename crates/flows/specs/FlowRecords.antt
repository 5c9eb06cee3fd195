-- What the code keeps of each flow, and how it finds it.
use Rattle.std.specs.Prelude.{◌≡◌, ℕ, ◌+◌, ◌<◌, ◌^◌, List, Option, string_bytes, map}
use Rattle.std.specs.BTreeMap.{get_by}
use Rattle.std.specs.Cmp.Lexicographic.{slice_cmp}
use Rattle.std.specs.List.{position}
use Rattle.std.specs.Ordering.{nat_cmp}
use Rattle.flows.specs.declared.flow.Flow.{Flow}
use Rattle.flows.specs.declared.flow_list.FlowList.{FlowList}
use Rattle.flows.specs.Stories.{Story}
use Rattle.flows.specs.declared.moves.Move.{Move}
use Rattle.flows.specs.Telling.{Moved, is_story_of}

-- what is told of a flow
abbrev pub story_of : Flow → Story
story_of flow = record {
  flow = flow.flow.now;
  first = flow.first.now;
  last = flow.last.now;
  frames = flow.frames;
  sent = flow.sent;
  dropped = flow.dropped;
  no_backend = flow.no_backend;
  lost = flow.lost;
  changes = flow.changes;
  backend = flow.backend.now;
  address = flow.address.now;
  untracked = flow.untracked;
  path = string_bytes flow.path;
}

-- a move
abbrev pub moved_of : Move → Moved
moved_of move = record { place = move.place; from = move.from.now; backend = move.backend.now; reason = move.reason }

-- one frame more can be counted
pub record HasRoomForFrame (story : Story) : Type 0 where
  pub frames : story.frames + 1 < 2 ^ 64
  pub sent : story.sent + 1 < 2 ^ 64
  pub dropped : story.dropped + 1 < 2 ^ 64
  pub no_backend : story.no_backend + 1 < 2 ^ 64
  pub changes : story.changes + 1 < 2 ^ 64

-- the stories of a list of flows
abbrev pub stories_in : FlowList → List Story
stories_in list = map story_of list.flows.items

-- where the list has this flow
abbrev pub place_in : FlowList → List ℕ → Option ℕ
place_in list flow = get_by (λ (name : _). slice_cmp nat_cmp flow name.now) list.places

-- each flow is found where its story is
abbrev pub IsIndexed : FlowList → Type 0
IsIndexed list = (flow : List ℕ) → place_in list flow ≡ position (is_story_of flow) (stories_in list)
