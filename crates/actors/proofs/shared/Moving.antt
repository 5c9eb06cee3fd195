-- What updates make of the controller's view of the shards.
use Rattle.std.proofs.Common.{◌≡◌, ◌≢◌, ℕ, Bool, true, false, List, [], ◌∷◌, ◌++◌, refl, sym, ap, ◌∙◌, subst, append_assoc, arith}
use Rattle.std.specs.Prelude.{◌==◌, ℤ, pos, if◌then◌else◌, Option, Some, is_some, reverse}
use Rattle.std.proofs.lemmas.Bool.Decides.{nat_tests}
use Rattle.std.proofs.lemmas.List.{append-nil, reverse-append}
use Rattle.ebpf_decode.specs.declared.map.MapDef.{MapDef}
use Rattle.semantics.specs.declared.call.Caller.{Caller}
use Rattle.semantics.specs.declared.call.Caller.TheVariants.{Controller}
use Rattle.semantics.specs.declared.call.Entry.{Entry}
use Rattle.semantics.specs.declared.call.Reply.TheVariants.{Answer}
use Rattle.semantics.specs.declared.options.Options.{Options}
use Rattle.semantics.specs.declared.plan.ShardPlan.{ShardPlan}
use Rattle.shards.specs.CallerView.{CallerView, BeginsWith}
use Rattle.shards.specs.declared.deeds.Deed.{Deed}
use Rattle.shards.specs.declared.deeds.Deed.TheVariants.{MetFull}
use Rattle.shards.specs.Passes.{PassView, view_at, own_at, seen_at}
use Rattle.control.specs.declared.update.Update.{Update as Change}
use Rattle.control.specs.MapUpdates.{UpdateBytes, map_update, AreMade, AreCutShort}
use Rattle.actors.specs.SharedUpdates.{UpdatesView, shard_of, shard_for, controller_update, IsUpdated, IsTurnedAway}
use Rattle.actors.specs.Commands.{AnsweredUpdate, done_update, all_done, controller_entry, with_update, with_updates, made_deeds, stop_deeds, IsMoved}
use Rattle.actors.specs.Commands.{IsShardFullForUpdate}

same_number : (a b : ℕ) → (a == b) ≡ true → a ≡ b
same_number a b test = grind (arith, nat_tests)

other_number : (a b : ℕ) → (a == b) ≡ false → b ≢ a
other_number a b test same = grind (arith, nat_tests)

-- ---- lists of updates

pub with_updates_more : (maps : List MapDef) (options : Options) (number : ℕ) (made later : List AnsweredUpdate) (history : List Entry) →
    with_updates maps options number (made ++ later) history ≡ with_updates maps options number later (with_updates maps options number made history)
with_updates_more maps options number [] later history = refl
with_updates_more maps options number (one ∷ made) later history =
    with_updates_more maps options number made later (with_update maps options number one history)

-- ---- beginnings

pub begins_itself : (history : List Entry) → BeginsWith history history
begins_itself history = ([], refl)

pub begins_over : (last middle first : List Entry) → BeginsWith last middle → BeginsWith middle first → BeginsWith last first
begins_over last middle first (later, is) (earlier, was) =
    (later ++ earlier, is ∙ ap (λ rest. later ++ rest) was ∙ sym (append_assoc later earlier first))

-- ---- deeds

-- newest first: what was done first, and then what was done on top of it
pub did_more : (before middle after first second : List Deed) → middle ≡ reverse first ++ before → after ≡ reverse second ++ middle →
    after ≡ reverse (first ++ second) ++ before
did_more before middle after first second one two =
    two ∙ ap (λ deeds. reverse second ++ deeds) one ∙ sym (append_assoc (reverse second) (reverse first) before)
    ∙ ap (λ deeds. deeds ++ before) (sym (reverse-append first second))

-- ---- moves

pub moved_nowhere : (before : UpdatesView) → before.pass.who ≡ Controller → IsMoved before before []
moved_nowhere before who = record {
  maps = refl;
  options = refl;
  who = who;
  own = λ number. refl;
  grows = λ number. begins_itself (seen_at before.pass number);
}

pub moved_on : (before middle after : UpdatesView) (made later : List AnsweredUpdate) → IsMoved before middle made → IsMoved middle after later →
    IsMoved before after (made ++ later)
moved_on before middle after made later first second = record {
  maps = second.maps ∙ first.maps;
  options = second.options ∙ first.options;
  who = second.who;
  own = λ number.
      second.own number ∙ ap (λ maps. with_updates maps middle.options number later (own_at middle.pass number)) first.maps
      ∙ ap (λ options. with_updates before.maps options number later (own_at middle.pass number)) first.options
      ∙ ap (λ history. with_updates before.maps before.options number later history) (first.own number)
      ∙ sym (with_updates_more before.maps before.options number made later (own_at before.pass number));
  grows = λ number. begins_over _ _ _ (second.grows number) (first.grows number);
}

-- one update
own_after : (plan : ℕ → ShardPlan) (before after : UpdatesView) (update : UpdateBytes) (answer : ℤ) → before.pass.who ≡ Controller →
    IsUpdated plan before update answer after → (number : ℕ) →
    own_at after.pass number ≡ with_update before.maps before.options number (record { update = update; answer = answer }) (own_at before.pass number)
own_after plan before after update answer who updated number = by_test (shard_for before update == number) refl
  where
    made : AnsweredUpdate
    made = record { update = update; answer = answer }

    entry_of : Caller → Entry
    entry_of who = record { who = who; call = controller_update (shard_for before update) update; reply = Answer answer }

    at_shard : own_at after.pass (shard_for before update) ≡ controller_entry (shard_for before update) made ∷ own_at before.pass (shard_for before update)
    at_shard = updated.answered.own ∙ ap (λ who. entry_of who ∷ own_at before.pass (shard_for before update)) who

    by_test : (test : Bool) → (shard_for before update == number) ≡ test →
        own_at after.pass number ≡ (if test then controller_entry number made ∷ own_at before.pass number else own_at before.pass number)
    by_test true is =
        subst (λ n. own_at after.pass n ≡ controller_entry n made ∷ own_at before.pass n) (same_number (shard_for before update) number is) at_shard
    by_test false is =
        ap (λ (view : CallerView). view.own) (updated.elsewhere.others number (other_number (shard_for before update) number is))

-- at one shard what was seen grows, at the others it stays
grown : (before after : PassView) (shard : ℕ) → BeginsWith (seen_at after shard) (seen_at before shard) →
    ((other : ℕ) → other ≢ shard → view_at after other ≡ view_at before other) → (number : ℕ) → BeginsWith (seen_at after number) (seen_at before number)
grown before after shard here others number = by_test (shard == number) refl
  where
    by_test : (test : Bool) → (shard == number) ≡ test → BeginsWith (seen_at after number) (seen_at before number)
    by_test true is = subst (λ n. BeginsWith (seen_at after n) (seen_at before n)) (same_number shard number is) here
    by_test false is = ([], ap (λ (view : CallerView). view.seen) (others number (other_number shard number is)))

grown_by_one : (after earlier before : List Entry) (entry : Entry) → after ≡ entry ∷ earlier → BeginsWith earlier before → BeginsWith after before
grown_by_one after earlier before entry is (later, was) = (entry ∷ later, is ∙ ap (λ rest. entry ∷ rest) was)

pub moved_by_one : (plan : ℕ → ShardPlan) (before after : UpdatesView) (update : UpdateBytes) (answer : ℤ) → before.pass.who ≡ Controller →
    IsUpdated plan before update answer after → IsMoved before after (record { update = update; answer = answer } ∷ [])
moved_by_one plan before after update answer who updated = record {
  maps = updated.maps;
  options = updated.options;
  who = updated.elsewhere.who ∙ who;
  own = own_after plan before after update answer who updated;
  grows = grown before.pass after.pass (shard_for before update)
      (grown_by_one _ _ _ _ updated.answered.seen updated.answered.begins) updated.elsewhere.others;
}

-- a refused update
refused_own : (plan : ℕ → ShardPlan) (before after : UpdatesView) (update : UpdateBytes) → IsTurnedAway plan before update after → (number : ℕ) →
    own_at after.pass number ≡ own_at before.pass number
refused_own plan before after update refused number = by_test (shard_for before update == number) refl
  where
    by_test : (test : Bool) → (shard_for before update == number) ≡ test → own_at after.pass number ≡ own_at before.pass number
    by_test true is = subst (λ n. own_at after.pass n ≡ own_at before.pass n) (same_number (shard_for before update) number is) refused.refused.own
    by_test false is =
        ap (λ (view : CallerView). view.own) (refused.elsewhere.others number (other_number (shard_for before update) number is))

pub moved_by_none : (plan : ℕ → ShardPlan) (before after : UpdatesView) (update : UpdateBytes) → before.pass.who ≡ Controller →
    IsTurnedAway plan before update after → IsMoved before after []
moved_by_none plan before after update who refused = record {
  maps = refused.maps;
  options = refused.options;
  who = refused.elsewhere.who ∙ who;
  own = refused_own plan before after update refused;
  grows = grown before.pass after.pass (shard_for before update) refused.refused.begins refused.elsewhere.others;
}

-- ---- the updates of a command, through any port that has this one within

pub record HasWithin {P : Type 0} (plan : ℕ → ShardPlan) (within : P → UpdatesView) (gives : P → UpdateBytes → ℤ → P → Type 0)
    (refuses : P → UpdateBytes → P → Type 0) : Type 0 where
  pub given : (before after : P) (update : UpdateBytes) (answer : ℤ) → gives before update answer after →
      IsUpdated plan (within before) update answer (within after)
  pub refused : (before after : P) (update : UpdateBytes) → refuses before update after → IsTurnedAway plan (within before) update (within after)

pub moved_by_all : {P : Type 0} (plan : ℕ → ShardPlan) (within : P → UpdatesView) (gives : P → UpdateBytes → ℤ → P → Type 0)
    (refuses : P → UpdateBytes → P → Type 0) → HasWithin plan within gives refuses → (changes : List Change) (before after : P) →
    (within before).pass.who ≡ Controller → AreMade gives before changes after → IsMoved (within before) (within after) (all_done changes)
moved_by_all plan within gives refuses has [] before after who made =
    subst (λ port. IsMoved (within before) (within port) []) made (moved_nowhere (within before) who)
moved_by_all plan within gives refuses has (change ∷ changes) before after who (middle, given, later) =
    let first : IsMoved (within before) (within middle) (done_update change ∷ []) =
    moved_by_one plan (within before) (within middle) (map_update change) (pos 0) who (has.given before middle (map_update change) (pos 0) given) in
    moved_on (within before) (within middle) (within after) (done_update change ∷ []) (all_done changes) first
    (moved_by_all plan within gives refuses has changes middle after first.who later)

-- what they did, over all shards
pub did_all : {P : Type 0} (plan : ℕ → ShardPlan) (within : P → UpdatesView) (gives : P → UpdateBytes → ℤ → P → Type 0)
    (refuses : P → UpdateBytes → P → Type 0) → HasWithin plan within gives refuses → (changes : List Change) (before after : P) →
    AreMade gives before changes after →
    (within after).pass.deeds ≡ reverse (made_deeds (within before).maps (within before).options (all_done changes)) ++ (within before).pass.deeds
did_all plan within gives refuses has [] before after made = ap (λ port. (within port).pass.deeds) (sym made)
did_all plan within gives refuses has (change ∷ changes) before after (middle, given, later) =
    let one = has.given before middle (map_update change) (pos 0) given in
    let rest = did_all plan within gives refuses has changes middle after later
    ∙ ap (λ maps. reverse (made_deeds maps (within middle).options (all_done changes)) ++ (within middle).pass.deeds) one.maps
    ∙ ap (λ options. reverse (made_deeds (within before).maps options (all_done changes)) ++ (within middle).pass.deeds) one.options in
    did_more (within before).pass.deeds (within middle).pass.deeds (within after).pass.deeds
    (made_deeds (within before).maps (within before).options (done_update change ∷ []))
    (made_deeds (within before).maps (within before).options (all_done changes)) one.did rest

-- the look at a full journal, in the words of an earlier port
did_meet : (plan : ℕ → ShardPlan) (maps : List MapDef) (options : Options) (before after : UpdatesView) (update : UpdateBytes) → before.maps ≡ maps →
    before.options ≡ options → IsTurnedAway plan before update after →
    after.pass.deeds ≡ reverse (stop_deeds maps options (Some update)) ++ before.pass.deeds
did_meet plan maps options before after update same_maps same_options refused =
    refused.did
    ∙ ap (λ m. MetFull Controller (controller_update (shard_of m before.options update) update) ∷ before.pass.deeds) same_maps
    ∙ ap (λ o. MetFull Controller (controller_update (shard_of maps o update) update) ∷ before.pass.deeds) same_options

pub record IsMovedAndFull (plan : ℕ → ShardPlan) (before after : UpdatesView) (begun : List Change) (next : Change) : Type 0 where
  pub moved : IsMoved before after (all_done begun)
  pub full : IsShardFullForUpdate plan before.maps before.options after.pass (map_update next)
  pub did :
      after.pass.deeds ≡ reverse (made_deeds before.maps before.options (all_done begun)
      ++ stop_deeds before.maps before.options (Some (map_update next))) ++ before.pass.deeds

full_for : (plan : ℕ → ShardPlan) (before after : UpdatesView) (update : UpdateBytes) → IsTurnedAway plan before update after →
    IsShardFullForUpdate plan before.maps before.options after.pass update
full_for plan before after update refused = record {
  of_map = ap (λ (found : Option MapDef). is_some found) refused.of_map;
  full = refused.refused.full;
}

pub moved_until_full : {P : Type 0} (plan : ℕ → ShardPlan) (within : P → UpdatesView) (gives : P → UpdateBytes → ℤ → P → Type 0)
    (refuses : P → UpdateBytes → P → Type 0) → HasWithin plan within gives refuses → (changes : List Change) (before after : P) →
    (within before).pass.who ≡ Controller → (cut : AreCutShort gives refuses before changes after) →
    IsMovedAndFull plan (within before) (within after) cut.made cut.next
moved_until_full plan within gives refuses has changes before after who cut =
    let first : IsMoved (within before) (within cut.middle) (all_done cut.made) =
    moved_by_all plan within gives refuses has cut.made before cut.middle who cut.are_made in
    let refused = has.refused cut.middle after (map_update cut.next) cut.is_refused in
    let second : IsMoved (within cut.middle) (within after) [] =
    moved_by_none plan (within cut.middle) (within after) (map_update cut.next) first.who refused in
    record {
      moved = subst (λ made. IsMoved (within before) (within after) made) (append-nil (all_done cut.made))
          (moved_on (within before) (within cut.middle) (within after) (all_done cut.made) [] first second);
      full = subst (λ maps. IsShardFullForUpdate plan maps (within before).options (within after).pass (map_update cut.next)) first.maps
          (subst (λ options. IsShardFullForUpdate plan (within cut.middle).maps options (within after).pass (map_update cut.next)) first.options
          (full_for plan (within cut.middle) (within after) (map_update cut.next) refused));
      did = did_more (within before).pass.deeds (within cut.middle).pass.deeds (within after).pass.deeds
          (made_deeds (within before).maps (within before).options (all_done cut.made))
          (stop_deeds (within before).maps (within before).options (Some (map_update cut.next)))
          (did_all plan within gives refuses has cut.made before cut.middle cut.are_made)
          (did_meet plan (within before).maps (within before).options (within cut.middle) (within after) (map_update cut.next) first.maps first.options refused);
    }
