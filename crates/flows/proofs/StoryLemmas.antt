-- Where a flow's story is, and how far its numbers go.
use Rattle.std.proofs.Common.{◌≡◌, ◌∙◌, ℕ, zero, suc, ◌+◌, ◌≤◌, ◌<◌, ◌^◌, ◌++◌, Bool, true, false, not, cond, List, [], ◌∷◌, Option, Some, None, refl, ap, sym, subst, arith, get_or, set, length, map, add-one, length-append, length-set, option_map}
use Rattle.std.proofs.lemmas.Bool.Decides.{nat_tests}
use Rattle.std.proofs.Math.Dec.{eqb}
use Rattle.std.proofs.lemmas.List.Folds.{position_or_len-set, position_or_len_push}
use Rattle.std.proofs.lemmas.List.Sums.{prefix_len-le-length}
use Rattle.std.proofs.lemmas.Option.{slice_get-map}
use Rattle.std.specs.Prelude.{nat_lt, slice_get}
use Rattle.std.specs.List.{AllByRecursion, position, position_or_len}
use Rattle.std.specs.Map.{update}
use Rattle.std.specs.Str.{bytes_eq}
use Rattle.std.specs.Cmp.Lexicographic.{bytes_decides}
use Rattle.comparison.specs.Rows.{row_at}
use Rattle.control.specs.declared.command.Command.{Command}
use Rattle.flows.specs.declared.reason.Reason.{Reason}
use Rattle.flows.specs.declared.flow.Flow.{Flow}
use Rattle.flows.specs.FlowRecords.{HasRoomForFrame, story_of}
use Rattle.flows.specs.Settings.{before}
use Rattle.flows.specs.Stories.{Story, after, after_sent, after_unsent, story_begun, flow_of_row, row_has_flow, is_sent_row, move_by, one_if_some}
use Rattle.flows.specs.Stories.{has_no_backend, is_dropped_row, one_if}
use Rattle.flows.specs.Telling.{Moved, address_in, backend_in, address_of_story, is_story_of, move_in, move_of, moved_at, moves_at_row, moves_until}
use Rattle.flows.specs.Telling.{stories_with, stories_until, stories_after}

-- ---- places

-- a place that is found is the first one that passes
pub position_is : {X : Type 0} (p : X → Bool) (xs : List X) (i : ℕ) → position p xs ≡ Some i → position_or_len p xs ≡ i
position_is p xs i is = by_test (nat_lt (position_or_len p xs) (length xs)) refl where
  by_test : (test : Bool) → nat_lt (position_or_len p xs) (length xs) ≡ test → position_or_len p xs ≡ i
  by_test true inside = let found : Some (position_or_len p xs) ≡ Some i = rw inside at is in cc
  by_test false inside = let none : None ≡ Some i = rw inside at is in cc

pub position_within : {X : Type 0} (p : X → Bool) (xs : List X) (i : ℕ) → position p xs ≡ Some i → i < length xs
position_within p xs i is = by_test (nat_lt (position_or_len p xs) (length xs)) refl where
  by_test : (test : Bool) → nat_lt (position_or_len p xs) (length xs) ≡ test → i < length xs
  by_test true inside = let at = position_is p xs i is in grind (arith, nat_tests)
  by_test false inside = let none : None ≡ Some i = rw inside at is in cc

pub position_none : {X : Type 0} (p : X → Bool) (xs : List X) → position p xs ≡ None → position_or_len p xs ≡ length xs
position_none p xs is = by_test (nat_lt (position_or_len p xs) (length xs)) refl where
  by_test : (test : Bool) → nat_lt (position_or_len p xs) (length xs) ≡ test → position_or_len p xs ≡ length xs
  by_test true inside = let found : Some (position_or_len p xs) ≡ None = rw inside at is in cc
  by_test false inside = let most = prefix_len-le-length (λ x. not (p x)) xs in grind (arith, nat_tests)

pub position_found : {X : Type 0} (p : X → Bool) (xs : List X) (i : ℕ) → position_or_len p xs ≡ i → i < length xs → position p xs ≡ Some i
position_found p xs i is inside = by_test (nat_lt (position_or_len p xs) (length xs)) refl where
  by_test : (test : Bool) → nat_lt (position_or_len p xs) (length xs) ≡ test → position p xs ≡ Some i
  by_test true within = rw within (ap Some is)
  by_test false past = absurd (grind (arith, nat_tests))

end_passes : (at end : ℕ) (passes : Bool) → at ≡ end → passes ≡ true → cond (eqb at end) (end + cond passes 0 1) at ≡ end
end_passes at end passes same is = rw is (by_test (eqb at end)) where
  by_test : (test : Bool) → cond test (end + 0) at ≡ end
  by_test true = omega arith
  by_test false = same

bool_same : (p q : Bool) → (p ≡ true → q ≡ true) → (q ≡ true → p ≡ true) → p ≡ q
bool_same true q to back = sym (to refl)
bool_same false true to back = back refl
bool_same false false to back = refl

lt_up : (a b : ℕ) → nat_lt (1 + a) (suc b) ≡ nat_lt a b
lt_up a b = bool_same (nat_lt (1 + a) (suc b)) (nat_lt a b) (λ above. grind (arith, nat_tests)) (λ below. grind (arith, nat_tests))

positive : (n : ℕ) → nat_lt 0 (suc n) ≡ true
positive n = by_test (nat_lt 0 (suc n)) refl where
  by_test : (test : Bool) → nat_lt 0 (suc n) ≡ test → nat_lt 0 (suc n) ≡ true
  by_test true is = is
  by_test false is = absurd (grind (arith, nat_tests))

one_plus : (n : ℕ) → suc n ≡ 1 + n
one_plus n = omega arith

-- an element more that fails is not found, and hides none
pub position_further : {X : Type 0} (p : X → Bool) (xs : List X) (y : X) → p y ≡ false → position p (xs ++ y ∷ []) ≡ position p xs
position_further p [] y fails = rw fails refl
position_further p (x ∷ xs) y fails = by_test (p x) refl (position_further p xs y fails) where
  moved : (test : Bool) (n : ℕ) → cond test (Some (1 + n)) None ≡ option_map (λ (m : ℕ). 1 + m) (cond test (Some n) None)
  moved true n = refl
  moved false n = refl

  later : (a b c d : ℕ) → cond (nat_lt a b) (Some a) None ≡ cond (nat_lt c d) (Some c) None
      → cond (nat_lt (1 + a) (suc b)) (Some (1 + a)) None ≡ cond (nat_lt (1 + c) (suc d)) (Some (1 + c)) None
  later a b c d same =
      ap (λ (test : Bool). cond test (Some (1 + a)) None) (lt_up a b)
      ∙ (moved (nat_lt a b) a ∙ (ap (option_map (λ (n : ℕ). 1 + n)) same
      ∙ (sym (moved (nat_lt c d) c) ∙ sym (ap (λ (test : Bool). cond test (Some (1 + c)) None) (lt_up c d)))))

  by_test : (test : Bool) → p x ≡ test → position p (xs ++ y ∷ []) ≡ position p xs → position p ((x ∷ xs) ++ y ∷ []) ≡ position p (x ∷ xs)
  by_test true is further =
      rw is (ap (λ (test : Bool). cond test (Some 0) None) (positive (length (xs ++ y ∷ [])) ∙ sym (positive (length xs))))
  by_test false is further = rw is (later (position_or_len p (xs ++ y ∷ [])) (length (xs ++ y ∷ [])) (position_or_len p xs) (length xs) further)

module _ (row : List ℕ) (commands : List Command) where
  -- the story that goes on is the first of the flow
  pub noted_at : (stories : List Story) (d : Story) → position_or_len (is_story_of (flow_of_row row)) stories < length stories
      → stories_with row commands stories ≡ set stories (position_or_len (is_story_of (flow_of_row row)) stories)
      (after (get_or stories (position_or_len (is_story_of (flow_of_row row)) stories) d) row commands)
  noted_at [] d inside = absurd (omega (arith, inside))
  noted_at (story ∷ others) d inside = by_test (is_story_of (flow_of_row row) story) refl (noted_at others d) where
    by_test : (test : Bool) → is_story_of (flow_of_row row) story ≡ test
        → (position_or_len (is_story_of (flow_of_row row)) others < length others
        → stories_with row commands others ≡ set others (position_or_len (is_story_of (flow_of_row row)) others)
        (after (get_or others (position_or_len (is_story_of (flow_of_row row)) others) d) row commands))
        → stories_with row commands (story ∷ others) ≡ set (story ∷ others) (position_or_len (is_story_of (flow_of_row row)) (story ∷ others))
        (after (get_or (story ∷ others) (position_or_len (is_story_of (flow_of_row row)) (story ∷ others)) d) row commands)
    by_test true is later = rw is refl
    by_test false is later =
        let further : 1 + position_or_len (is_story_of (flow_of_row row)) others < suc (length others) = rw is at inside in
        let next = later (omega (arith, further)) in
        rw is (subst (λ (n : ℕ). story ∷ stories_with row commands others
        ≡ set (story ∷ others) n (after (get_or (story ∷ others) n d) row commands)) (one_plus (position_or_len (is_story_of (flow_of_row row)) others))
        (ap (λ (it : List Story). story ∷ it) next))

  pub move_at : (stories : List Story) (d : Story) → position_or_len (is_story_of (flow_of_row row)) stories < length stories
      → move_in row commands stories ≡ move_by (get_or stories (position_or_len (is_story_of (flow_of_row row)) stories) d) row commands
  move_at [] d inside = absurd (omega (arith, inside))
  move_at (story ∷ others) d inside = by_test (is_story_of (flow_of_row row) story) refl (move_at others d) where
    by_test : (test : Bool) → is_story_of (flow_of_row row) story ≡ test
        → (position_or_len (is_story_of (flow_of_row row)) others < length others
        → move_in row commands others ≡ move_by (get_or others (position_or_len (is_story_of (flow_of_row row)) others) d) row commands)
        → move_in row commands (story ∷ others)
        ≡ move_by (get_or (story ∷ others) (position_or_len (is_story_of (flow_of_row row)) (story ∷ others)) d) row commands
    by_test true is later = rw is refl
    by_test false is later =
        let further : 1 + position_or_len (is_story_of (flow_of_row row)) others < suc (length others) = rw is at inside in
        rw is (subst (λ (n : ℕ). move_in row commands others ≡ move_by (get_or (story ∷ others) n d) row commands)
        (one_plus (position_or_len (is_story_of (flow_of_row row)) others)) (later (omega (arith, further))))

  -- a flow without a story begins one
  pub noted_new : (stories : List Story) → position_or_len (is_story_of (flow_of_row row)) stories ≡ length stories
      → stories_with row commands stories ≡ stories ++ after (story_begun row) row commands ∷ []
  noted_new [] at_end = refl
  noted_new (story ∷ others) at_end = by_test (is_story_of (flow_of_row row) story) refl (noted_new others) where
    by_test : (test : Bool) → is_story_of (flow_of_row row) story ≡ test
        → (position_or_len (is_story_of (flow_of_row row)) others ≡ length others
        → stories_with row commands others ≡ others ++ after (story_begun row) row commands ∷ [])
        → stories_with row commands (story ∷ others) ≡ (story ∷ others) ++ after (story_begun row) row commands ∷ []
    by_test true is later = let none : 0 ≡ suc (length others) = rw is at at_end in absurd (omega (arith, none))
    by_test false is later =
        let further : 1 + position_or_len (is_story_of (flow_of_row row)) others ≡ suc (length others) = rw is at at_end in
        rw is (ap (λ (it : List Story). story ∷ it) (later (omega (arith, further))))

  pub move_new : (stories : List Story) → position_or_len (is_story_of (flow_of_row row)) stories ≡ length stories
      → move_in row commands stories ≡ None
  move_new [] at_end = refl
  move_new (story ∷ others) at_end = by_test (is_story_of (flow_of_row row) story) refl (move_new others) where
    by_test : (test : Bool) → is_story_of (flow_of_row row) story ≡ test
        → (position_or_len (is_story_of (flow_of_row row)) others ≡ length others → move_in row commands others ≡ None)
        → move_in row commands (story ∷ others) ≡ None
    by_test true is later = let none : 0 ≡ suc (length others) = rw is at at_end in absurd (omega (arith, none))
    by_test false is later =
        let further : 1 + position_or_len (is_story_of (flow_of_row row)) others ≡ suc (length others) = rw is at at_end in
        rw is (later (omega (arith, further)))

  -- a frame leaves the flow's text
  pub same_flow : (story : Story) → (after story row commands).flow ≡ story.flow
  same_flow story = by_test (is_sent_row row) refl where
    by_test : (test : Bool) → is_sent_row row ≡ test → (after story row commands).flow ≡ story.flow
    by_test true is = rw is refl
    by_test false is = rw is refl

-- each flow is where it was after one of the stories has gone on
pub places_kept : (flow : List ℕ) (stories : List Story) (i : ℕ) (next d : Story) → next.flow ≡ (get_or stories i d).flow
    → position (is_story_of flow) (set stories i next) ≡ position (is_story_of flow) stories
places_kept flow stories i next d same =
    let first = position_or_len-set (is_story_of flow) stories i next d (ap (λ (it : List ℕ). bytes_eq it flow) same) in
    rw (first, length-set stories i next) refl

-- a story more is found at the end, and each other flow where it was
pub place_more : (flow : List ℕ) (stories : List Story) (last : Story) (name : List ℕ) → last.flow ≡ name
    → position (is_story_of name) stories ≡ None
    → position (is_story_of flow) (stories ++ last ∷ []) ≡ update bytes_eq (λ other. position (is_story_of other) stories) name (Some (length stories)) flow
place_more flow stories last name named absent = by_test (bytes_eq name flow) refl where
  grown : length (stories ++ last ∷ []) ≡ length stories + 1
  grown = length-append stories (last ∷ [])

  by_test : (test : Bool) → bytes_eq name flow ≡ test
      → position (is_story_of flow) (stories ++ last ∷ []) ≡ update bytes_eq (λ other. position (is_story_of other) stories) name (Some (length stories)) flow
  by_test true same =
      let name_is : name ≡ flow = (bytes_decides name flow).0 same in
      let at_end : position_or_len (is_story_of flow) stories ≡ length stories =
      position_none (is_story_of flow) stories (subst (λ (it : List ℕ). position (is_story_of it) stories ≡ None) name_is absent) in
      let passes : is_story_of flow last ≡ true = ap (λ (it : List ℕ). bytes_eq it flow) named ∙ same in
      let place : position_or_len (is_story_of flow) (stories ++ last ∷ []) ≡ length stories =
      position_or_len_push (is_story_of flow) stories last
      ∙ end_passes (position_or_len (is_story_of flow) stories) (length stories) (is_story_of flow last) at_end passes in
      rw same (position_found (is_story_of flow) (stories ++ last ∷ []) (length stories) place (omega (arith, grown)))
  by_test false other =
      let fails : is_story_of flow last ≡ false = ap (λ (it : List ℕ). bytes_eq it flow) named ∙ other in
      rw other (position_further (is_story_of flow) stories last fails)

-- ---- numbers

one_at_most : (move : Option Reason) → one_if_some move ≤ 1
one_at_most None = omega arith
one_at_most (Some reason) = omega arith

at_most_one : (is : Bool) → one_if is ≤ 1
at_most_one true = omega arith
at_most_one false = omega arith

-- no number is above this one
pub record IsSmall (most : ℕ) (story : Story) : Type 0 where
  pub frames : story.frames ≤ most
  pub sent : story.sent ≤ most
  pub dropped : story.dropped ≤ most
  pub no_backend : story.no_backend ≤ most
  pub changes : story.changes ≤ most

small_sent : (most : ℕ) (story : Story) (row : List ℕ) (move : Option Reason) → IsSmall most story
    → IsSmall (most + 1) (after_sent story row move)
small_sent most story row move small =
    let one = one_at_most move in
    record {
      frames = omega (arith, small.frames);
      sent = omega (arith, small.sent);
      dropped = omega (arith, small.dropped);
      no_backend = omega (arith, small.no_backend);
      changes = omega (arith, small.changes, one);
    }

small_unsent : (most : ℕ) (story : Story) (row : List ℕ) → IsSmall most story → IsSmall (most + 1) (after_unsent story row)
small_unsent most story row small =
    let dropped = at_most_one (is_dropped_row row) in
    let no_backend = at_most_one (has_no_backend row) in
    record {
      frames = omega (arith, small.frames);
      sent = omega (arith, small.sent);
      dropped = omega (arith, small.dropped, dropped);
      no_backend = omega (arith, small.no_backend, no_backend);
      changes = omega (arith, small.changes);
    }

small_if : (most : ℕ) (test : Bool) (one other : Story) → IsSmall most one → IsSmall most other → IsSmall most (cond test one other)
small_if most true one other first second = first
small_if most false one other first second = second

small_after : (most : ℕ) (story : Story) (row : List ℕ) (commands : List Command) → IsSmall most story
    → IsSmall (most + 1) (after story row commands)
small_after most story row commands small =
    small_if (most + 1) (is_sent_row row) (after_sent story row (move_by story row commands))
    (after_unsent story row) (small_sent most story row (move_by story row commands) small)
    (small_unsent most story row small)

small_later : (most : ℕ) (stories : List Story) → AllByRecursion (IsSmall most) stories → AllByRecursion (IsSmall (most + 1)) stories
small_later most [] all = tt
small_later most (story ∷ others) all = (
  record {
    frames = omega (arith, all.0.frames);
    sent = omega (arith, all.0.sent);
    dropped = omega (arith, all.0.dropped);
    no_backend = omega (arith, all.0.no_backend);
    changes = omega (arith, all.0.changes);
  },
  small_later most others all.1,
)

small_noted : (most : ℕ) (row : List ℕ) (commands : List Command) (stories : List Story) → AllByRecursion (IsSmall most) stories
    → AllByRecursion (IsSmall (most + 1)) (stories_with row commands stories)
small_noted most row commands [] all =
    (small_after most (story_begun row) row commands (record { frames = omega arith; sent = omega arith; dropped = omega arith; no_backend = omega arith; changes = omega arith }), tt)
small_noted most row commands (story ∷ others) all =
    by_test (is_story_of (flow_of_row row) story) refl (small_noted most row commands others all.1)
  where
    by_test : (test : Bool) → is_story_of (flow_of_row row) story ≡ test → AllByRecursion (IsSmall (most + 1)) (stories_with row commands others)
        → AllByRecursion (IsSmall (most + 1)) (stories_with row commands (story ∷ others))
    by_test true is later = rw is (small_after most story row commands all.0, small_later most others all.1)
    by_test false is later = rw is ((small_later most (story ∷ []) (all.0, tt)).0, later)

small_told : (most : ℕ) (row : List ℕ) (commands : List Command) (stories : List Story) → AllByRecursion (IsSmall most) stories
    → AllByRecursion (IsSmall (most + 1)) (stories_after row commands stories)
small_told most row commands stories all = by_test (row_has_flow row) refl where
  by_test : (test : Bool) → row_has_flow row ≡ test → AllByRecursion (IsSmall (most + 1)) (stories_after row commands stories)
  by_test true is = rw is (small_noted most row commands stories all)
  by_test false is = rw is (small_later most stories all)

-- no number of a story is above that of the rows
pub stories_small : (rows : List (List ℕ)) (commands : List Command) (place : ℕ)
    → AllByRecursion (IsSmall place) (stories_until rows commands place)
stories_small rows commands zero = tt
stories_small rows commands (suc place) =
    subst (λ (n : ℕ). AllByRecursion (IsSmall n)
    (stories_after (row_at rows place) (before place commands) (stories_until rows commands place))) (add-one place)
    (small_told place (row_at rows place) (before place commands) (stories_until rows commands place) (stories_small rows commands place))

-- small numbers leave room for one frame more
pub room_in : (most : ℕ) (stories : List Story) → most + 1 < 2 ^ 64 → AllByRecursion (IsSmall most) stories → AllByRecursion HasRoomForFrame stories
room_in most [] below all = tt
room_in most (story ∷ others) below all = (
  record {
    frames = omega (arith, below, all.0.frames);
    sent = omega (arith, below, all.0.sent);
    dropped = omega (arith, below, all.0.dropped);
    no_backend = omega (arith, below, all.0.no_backend);
    changes = omega (arith, below, all.0.changes);
  },
  room_in most others below all.1,
)

-- what holds of each story holds at a place
pub room_at : (stories : List Story) (i : ℕ) (d : Story) → i < length stories → AllByRecursion HasRoomForFrame stories → HasRoomForFrame (get_or stories i d)
room_at [] i d inside all = absurd (omega (arith, inside))
room_at (story ∷ others) zero d inside all = all.0
room_at (story ∷ others) (suc i) d inside all = room_at others i d (omega (arith, inside)) all.1

-- the index with a flow more
pub index_more : (flow name key : List ℕ) (stories : List Story) (last : Story) (old : Option ℕ) (place : ℕ) → key ≡ name
    → last.flow ≡ name → place ≡ length stories → position (is_story_of name) stories ≡ None → old ≡ position (is_story_of flow) stories
    → cond (bytes_eq key flow) (Some place) old ≡ position (is_story_of flow) (stories ++ last ∷ [])
index_more flow name key stories last old place key_is named at_end absent was =
    ap (λ (it : List ℕ). cond (bytes_eq it flow) (Some place) old) key_is
    ∙ (ap (λ (it : ℕ). cond (bytes_eq name flow) (Some it) old) at_end
    ∙ (ap (λ (it : Option ℕ). cond (bytes_eq name flow) (Some (length stories)) it) was
    ∙ sym (place_more flow stories last name named absent)))

get_or_map : {X Y : Type 0} (f : X → Y) (xs : List X) (i : ℕ) (d : X) → get_or (map f xs) i (f d) ≡ f (get_or xs i d)
get_or_map f [] i d = refl
get_or_map f (x ∷ xs) zero d = refl
get_or_map f (x ∷ xs) (suc i) d = get_or_map f xs i d

-- the story of the flow at a place
pub read_story : (flows : List Flow) (i : ℕ) (flow : Flow) → flow ≡ get_or flows i flow
    → story_of flow ≡ get_or (map story_of flows) i (story_of flow)
read_story flows i flow read = ap story_of read ∙ sym (get_or_map story_of flows i flow)

module _ (row : List ℕ) (commands : List Command) (stories : List Story) (place : ℕ) (old : Story)
    (found : position (is_story_of (flow_of_row row)) stories ≡ Some place) (read : old ≡ get_or stories place old) where
  here : position_or_len (is_story_of (flow_of_row row)) stories ≡ place
  here = position_is (is_story_of (flow_of_row row)) stories place found

  inside : position_or_len (is_story_of (flow_of_row row)) stories < length stories
  inside = let within = position_within (is_story_of (flow_of_row row)) stories place found in omega (arith, within, here)

  -- the flow's story goes on
  pub goes_on : (next : Story) → next ≡ after old row commands → set stories place next ≡ stories_with row commands stories
  goes_on next is =
      sym (noted_at row commands stories old inside
      ∙ (ap (λ (n : ℕ). set stories n (after (get_or stories n old) row commands)) here
      ∙ (ap (λ (it : Story). set stories place (after it row commands)) (sym read) ∙ ap (λ (it : Story). set stories place it) (sym is))))

  pub moves_on : move_by old row commands ≡ move_in row commands stories
  moves_on =
      sym (move_at row commands stories old inside
      ∙ (ap (λ (n : ℕ). move_by (get_or stories n old) row commands) here
      ∙ ap (λ (it : Story). move_by it row commands) (sym read)))

  pub stays_found : (flow : List ℕ) (next : Story) → next ≡ after old row commands
      → position (is_story_of flow) (set stories place next) ≡ position (is_story_of flow) stories
  stays_found flow next is =
      places_kept flow stories place next old
      (ap (λ (it : Story). it.flow) is ∙ (same_flow row commands old ∙ ap (λ (it : Story). it.flow) read))

-- ---- the address before

-- the address of the flow at a place is that of its story
pub address_found : (flows : List Flow) (place : ℕ) (flow : Flow) → slice_get flows place ≡ Some flow
    → flow.address.now ≡ address_of_story (slice_get (map story_of flows) place)
address_found flows place flow found =
    sym (ap address_of_story (slice_get-map story_of flows place ∙ ap (option_map story_of) found))

pub address_missing : (flows : List Flow) (place : ℕ) → slice_get flows place ≡ None
    → [] ≡ address_of_story (slice_get (map story_of flows) place)
address_missing flows place missing =
    sym (ap address_of_story (slice_get-map story_of flows place ∙ ap (option_map story_of) missing))

-- ---- a row more

module _ (rows : List (List ℕ)) (commands applied : List Command) (place : ℕ) (row : List ℕ) (stories : List Story)
    (row_is : row ≡ row_at rows place) (applied_is : applied ≡ before place commands) (stories_are : stories ≡ stories_until rows commands place)
  where
    pub stories_next : stories_after row applied stories ≡ stories_until rows commands (place + 1)
    stories_next =
        ap (λ (it : List ℕ). stories_after it applied stories) row_is
        ∙ (ap (λ (it : List Command). stories_after (row_at rows place) it stories) applied_is
        ∙ (ap (λ (it : List Story). stories_after (row_at rows place) (before place commands) it) stories_are
        ∙ sym (ap (λ (n : ℕ). stories_until rows commands n) (add-one place))))

    pub moves_next : (from backend : List ℕ) (move : Option Reason) (old : List Moved) → from ≡ address_in (flow_of_row row) stories
        → backend ≡ backend_in (flow_of_row row) stories → move ≡ move_of row applied stories → old ≡ moves_until rows commands place
        → old ++ moved_at place from backend move ≡ moves_until rows commands (place + 1)
    moves_next from backend move old from_is backend_is move_is moves_are =
        ap (λ (it : List Moved). it ++ moved_at place from backend move) moves_are
        ∙ (ap (λ (it : List ℕ). moves_until rows commands place ++ moved_at place it backend move) from_is
        ∙ (ap (λ (it : List ℕ). moves_until rows commands place ++ moved_at place (address_in (flow_of_row row) stories) it move) backend_is
        ∙ (ap (λ (it : Option Reason). moves_until rows commands place
        ++ moved_at place (address_in (flow_of_row row) stories) (backend_in (flow_of_row row) stories) it) move_is
        ∙ (ap (λ (it : List ℕ). moves_until rows commands place ++ moves_at_row place it applied stories) row_is
        ∙ (ap (λ (it : List Command). moves_until rows commands place ++ moves_at_row place (row_at rows place) it stories) applied_is
        ∙ (ap (λ (it : List Story). moves_until rows commands place ++ moves_at_row place (row_at rows place) (before place commands) it) stories_are
        ∙ sym (ap (λ (n : ℕ). moves_until rows commands n) (add-one place))))))))
