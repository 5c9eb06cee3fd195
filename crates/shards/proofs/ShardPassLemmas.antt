-- What a caller's part of a shard is after each of its steps.
use Rattle.std.proofs.Common.{◌≡◌, ◌≤◌, ℕ, Bool, true, false, true≢false, List, [], ◌∷◌, refl, sym, ap, ◌∙◌, subst, arith}
use Rattle.std.specs.Prelude.{Result, Ok, Err, IfOk, OnErr, reverse}
use Rattle.atomic_table.specs.Table.{Me}
use Rattle.atomic_table.specs.declared.shared.Seat.{Seat}
use Rattle.semantics.specs.declared.call.Caller.{Caller}
use Rattle.semantics.specs.declared.call.Caller.TheVariants.{Worker, Controller, Reclaimer}
use Rattle.semantics.specs.declared.call.Call.{Call}
use Rattle.shard_core.specs.FewHeld.{FewAreHeld}
use Rattle.semantics.specs.declared.call.Reply.{Reply}
use Rattle.semantics.specs.declared.call.Entry.{Entry}
use Rattle.semantics.specs.declared.full.JournalFull.{JournalFull}
use Rattle.semantics.specs.declared.plan.ShardPlan.{ShardPlan}
use Rattle.semantics.specs.CallerLaws.{own_entries}
use Rattle.semantics.specs.History.{IsLegalHistory, IsJournalFull, entry_of}
use Rattle.shards.specs.GuardedView.{KeyedPlan, GuardedView}
use Rattle.shards.specs.declared.rule.Known.{Known}
use Rattle.shards.specs.CallerView.{CallerView, BeginsWith, ViewIsServed, ViewIsRefused, ViewHasLooked}
use Rattle.semantics.specs.Sections.{section_change}
use Rattle.semantics.specs.Reclamation.{held_change}
use Rattle.shards.specs.Passes.{flag_after}
use Rattle.shards.specs.HeldCells.{HeldIds, AreHeldOf, HasRoomFor, most_held, room_of, held_when}
use Rattle.shards.specs.LockRule.{HasTaken, IsKnownIn, pass_of, given}
use Rattle.shards.specs.Seats.{IsHolding, has_shard, view_of}
use Rattle.shards.specs.ShardPasses.{IsFlagOf, IsShardPass}
use Rattle.shards.proofs.Callers.{own_of_maker}
use Rattle.shards.proofs.Flags.{flag_moves}
use Rattle.shards.proofs.HeldLemmas.{held_by_none, held_moves, room_when}
use Rattle.shards.proofs.Holding.{with_shard, given_idle, given_seated, given_key, given_who, given_acts}

pub alone_view : (me : Me GuardedView Known) → has_shard me ≡ false → view_of me ≡ (record { seen = me.0.seen; own = me.0.own })
alone_view (v, []) alone = refl
alone_view (v, (x ∷ xs)) alone = absurd (true≢false alone)

pub knows_all : (me : Me GuardedView Known) → has_shard me ≡ true → (view_of me).own ≡ own_entries me.0.who (view_of me).seen
knows_all (v, []) taken = absurd (true≢false (sym taken))
knows_all (v, (x ∷ xs)) taken = refl

-- ---- a new part

flag_of_none : (who : Caller) → IsFlagOf who [] false
flag_of_none (Worker number) = refl
flag_of_none Controller = tt
flag_of_none Reclaimer = tt

pub new_part : (seat : Seat GuardedView Known) (held : HeldIds) → seat.me ≡ (pass_of seat.me.0.key seat.me.0.who [] [], []) → held.ids ≡ [] → room_of seat.me.0.who (most_held seat.me.0.key.plan) ≤ held.room →
    IsShardPass seat false held
new_part seat held is none enough = record {
  seated = ap (λ (m : Me GuardedView Known). m.0.seated) is;
  acts = ap (λ (m : Me GuardedView Known). m.0.acts) is;
  holding = subst (λ (m : Me GuardedView Known). IsHolding m.0 m.1) (sym is) refl;
  flagged = subst (λ (m : Me GuardedView Known). IsFlagOf seat.me.0.who (view_of m).own false) (sym is) (flag_of_none seat.me.0.who);
  held_are = subst (λ (m : Me GuardedView Known). AreHeldOf seat.me.0.who seat.me.0.key.plan (view_of m).own held) (sym is)
      (held_by_none seat.me.0.who seat.me.0.key.plan (most_held seat.me.0.key.plan) held none enough (omega arith));
  knows = subst (λ (m : Me GuardedView Known). (view_of m).own ≡ own_entries seat.me.0.who (view_of m).seen) (sym is) refl;
  legal = subst (λ (m : Me GuardedView Known). IsLegalHistory seat.me.0.key.plan (view_of m).seen) (sym is) tt;
}

-- ---- a part whose seat has moved, and whose own entries are the same

module _ (before after : Seat GuardedView Known) (inside : Bool) (held : HeldIds) (is : IsShardPass before inside held) (same_plan : after.me.0.key.plan ≡ before.me.0.key.plan) (same_who : after.me.0.who ≡ before.me.0.who)
    (same_own : (view_of after.me).own ≡ (view_of before.me).own) where
  pub part_moved : after.me.0.seated ≡ true → after.me.0.acts ≡ true → IsHolding after.me.0 after.me.1 → (view_of after.me).own ≡ own_entries after.me.0.who (view_of after.me).seen → IsLegalHistory after.me.0.key.plan (view_of after.me).seen →
      IsShardPass after inside held
  part_moved seated acts holding knows legal = record {
    seated = seated;
    acts = acts;
    holding = holding;
    flagged = subst (λ (x : Caller × List Entry). IsFlagOf x.0 x.1 inside) (λ i. (sym same_who i, sym same_own i)) is.flagged;
    held_are = subst (λ (x : Caller × ShardPlan × List Entry). AreHeldOf x.0 x.1 x.2 held) (λ i. (sym same_who i, sym same_plan i, sym same_own i)) is.held_are;
    knows = knows;
    legal = legal;
  }

-- ---- it has taken the shard

module _ (before after : Seat GuardedView Known) (inside : Bool) (held : HeldIds) (is : IsShardPass before inside held) (alone : has_shard before.me ≡ false) (taken : HasTaken before.me after.me)
    (legal : IsLegalHistory after.me.0.key.plan (view_of after.me).seen) where
  pub taken_key : after.me.0.key ≡ before.me.0.key
  taken_key = ap (λ (m : Me GuardedView Known). m.0.key) taken.has

  pub taken_plan : after.me.0.key.plan ≡ before.me.0.key.plan
  taken_plan = ap (λ (m : Me GuardedView Known). m.0.key.plan) taken.has

  pub taken_who : after.me.0.who ≡ before.me.0.who
  taken_who = ap (λ (m : Me GuardedView Known). m.0.who) taken.has

  taken_own : (view_of after.me).own ≡ (view_of before.me).own
  taken_own = ap (λ (m : Me GuardedView Known). (view_of m).own) taken.has ∙ sym (taken.known is.acts).own ∙ sym (ap (λ (v : CallerView). v.own) (alone_view before.me alone))

  pub part_taken : IsShardPass after inside held
  part_taken = part_moved before after inside held is taken_plan taken_who taken_own
      (ap (λ (m : Me GuardedView Known). m.0.seated) taken.has ∙ is.seated) (ap (λ (m : Me GuardedView Known). m.0.acts) taken.has ∙ is.acts)
      (with_shard before.me after.me taken) (subst (λ (m : Me GuardedView Known). (view_of m).own ≡ own_entries m.0.who (view_of m).seen) (sym taken.has) refl) legal

  pub looked_taken : ViewHasLooked before.me.0.key.plan (view_of before.me) (view_of after.me)
  looked_taken = record {
    begins = subst (λ (m : Me GuardedView Known). BeginsWith (view_of m).seen (view_of before.me).seen) (sym taken.has)
        (subst (λ (v : CallerView). BeginsWith (reverse taken.shard.journal) v.seen) (sym (alone_view before.me alone)) (taken.known is.acts).begins);
    legal = subst (λ (p : ShardPlan). IsLegalHistory p (view_of after.me).seen) taken_plan legal;
    own = taken_own;
  }

-- ---- it has given it back

pub part_given : (before after : Seat GuardedView Known) (inside : Bool) (held : HeldIds) → IsShardPass before inside held → has_shard before.me ≡ true → after.me ≡ (given before.me.0 before.me.1, []) → view_of after.me ≡ view_of before.me →
    IsLegalHistory after.me.0.key.plan (view_of after.me).seen → IsShardPass after inside held
part_given before after inside held is taken given_is same legal =
    let same_who : after.me.0.who ≡ before.me.0.who = ap (λ (m : Me GuardedView Known). m.0.who) given_is ∙ given_who before.me in
    part_moved before after inside held is (ap (λ (m : Me GuardedView Known). m.0.key.plan) given_is ∙ ap (λ (k : KeyedPlan). k.plan) (given_key before.me)) same_who (ap (λ (v : CallerView). v.own) same)
    (ap (λ (m : Me GuardedView Known). m.0.seated) given_is ∙ given_seated before.me ∙ is.seated) (ap (λ (m : Me GuardedView Known). m.0.acts) given_is ∙ given_acts before.me ∙ is.acts)
    (subst (λ (m : Me GuardedView Known). IsHolding m.0 m.1) (sym given_is) (given_idle before.me taken))
    (ap (λ (v : CallerView). v.own) same ∙ is.knows ∙ (λ i. own_entries (sym same_who i) (sym same i).seen)) legal

-- ---- it has made a call

module _ {A : Type 0} (plan : ShardPlan) (who : Caller) (call : Call) (replies : A → Reply) (me me' : Me GuardedView Known) (taken : has_shard me' ≡ true) (same : me'.0 ≡ me.0) (by : me.0.who ≡ who)
    (knows : (view_of me).own ≡ own_entries me.0.who (view_of me).seen) (legal : IsLegalHistory plan (view_of me').seen) where
  served_one : (a : A) → (view_of me').seen ≡ entry_of who call (replies a) ∷ (view_of me).seen → ViewIsServed plan (view_of me) (view_of me') (entry_of who call (replies a))
  served_one a next = record {
    earlier = (view_of me).seen;
    seen = next;
    begins = ([], refl);
    legal = legal;
    own = knows_all me' taken ∙ ap (λ (v : Known). own_entries v.who (view_of me').seen) same ∙ ap (λ (w : Caller). own_entries w (view_of me').seen) by ∙ ap (own_entries who) next
        ∙ own_of_maker (entry_of who call (replies a)) (view_of me).seen ∙ ap (λ (w : Caller). entry_of who call (replies a) ∷ own_entries w (view_of me).seen) (sym by)
        ∙ ap (λ (l : List Entry). entry_of who call (replies a) ∷ l) (sym knows);
  }

  pub served_by : (answer : Result A JournalFull) → IfOk answer (λ a. (view_of me').seen ≡ entry_of who call (replies a) ∷ (view_of me).seen) → IfOk answer (λ a. ViewIsServed plan (view_of me) (view_of me') (entry_of who call (replies a)))
  served_by (Ok a) next = served_one a next
  served_by (Err full) next = next

  pub refused_by : (answer : Result A JournalFull) → OnErr answer (IsJournalFull plan (view_of me).seen call) → OnErr answer (view_of me' ≡ view_of me) → OnErr answer (ViewIsRefused plan (view_of me) (view_of me') call)
  refused_by (Ok a) full still = full
  refused_by (Err e) full still = record {
    begins = ([], ap (λ (v : CallerView). v.seen) still);
    legal = legal;
    full = subst (λ (v : CallerView). IsJournalFull plan v.seen call) (sym still) full;
    own = ap (λ (v : CallerView). v.own) still;
  }

pub view_still : {A : Type 0} (before after : Seat GuardedView Known) (answer : Result A JournalFull) → OnErr answer (after ≡ before) → OnErr answer (view_of after.me ≡ view_of before.me)
view_still before after (Ok a) still = still
view_still before after (Err full) still = ap (λ (s : Seat GuardedView Known). view_of s.me) still

module _ {A : Type 0} (call : Call) (replies : A → Reply) (before after : Seat GuardedView Known) (inside : Bool) (held : HeldIds) (is : IsShardPass before inside held) (taken : has_shard after.me ≡ true) (same : after.me.0 ≡ before.me.0)
    (holding : IsHolding after.me.0 after.me.1) (legal : IsLegalHistory before.me.0.key.plan (view_of after.me).seen) (answer : Result A JournalFull)
    (served : IfOk answer (λ a. ViewIsServed before.me.0.key.plan (view_of before.me) (view_of after.me) (entry_of before.me.0.who call (replies a)))) (refused : OnErr answer (ViewIsRefused before.me.0.key.plan (view_of before.me) (view_of after.me) call)) where
  pub part_asked : IsShardPass after (flag_after answer (section_change call) inside) (held_when answer (λ a. held_change call (replies a)) held)
  part_asked = record {
    seated = ap (λ (v : Known). v.seated) same ∙ is.seated;
    acts = ap (λ (v : Known). v.acts) same ∙ is.acts;
    holding = holding;
    flagged = subst (λ (v : Known). IsFlagOf v.who (view_of after.me).own (flag_after answer (section_change call) inside)) (sym same)
        (flag_moves answer before.me.0.key.plan before.me.0.who call replies (view_of before.me) (view_of after.me) inside served refused is.flagged);
    held_are = subst (λ (v : Known). AreHeldOf v.who v.key.plan (view_of after.me).own (held_when answer (λ a. held_change call (replies a)) held)) (sym same)
        (held_moves answer before.me.0.key.plan before.me.0.who call replies (view_of before.me) (view_of after.me) held served refused is.held_are);
    knows = knows_all after.me taken;
    legal = subst (λ (v : Known). IsLegalHistory v.key.plan (view_of after.me).seen) (sym same) legal;
  }

-- all of this, by what the call made of the seat
module _ {A : Type 0} (who : Caller) (asks : ℕ → Call) (replies : ℕ → A → Reply) (before after : Seat GuardedView Known) (inside : Bool) (held : HeldIds) (is : IsShardPass before inside held) (by : before.me.0.who ≡ who)
    (taken : has_shard after.me ≡ true) (same : after.me.0 ≡ before.me.0) (legal : IsLegalHistory before.me.0.key.plan (view_of after.me).seen) (answer : Result A JournalFull)
    (next : IfOk answer (λ a. (view_of after.me).seen ≡ entry_of who (asks before.me.0.key.plan.number) (replies before.me.0.key.plan.number a) ∷ (view_of before.me).seen))
    (full : OnErr answer (IsJournalFull before.me.0.key.plan (view_of before.me).seen (asks before.me.0.key.plan.number))) (unchanged : OnErr answer (after ≡ before)) where
  pub asked_served : IfOk answer (λ a. ViewIsServed before.me.0.key.plan (view_of before.me) (view_of after.me) (entry_of who (asks before.me.0.key.plan.number) (replies before.me.0.key.plan.number a)))
  asked_served = served_by before.me.0.key.plan who (asks before.me.0.key.plan.number) (replies before.me.0.key.plan.number) before.me after.me taken same by is.knows legal answer next

  pub asked_refused : OnErr answer (ViewIsRefused before.me.0.key.plan (view_of before.me) (view_of after.me) (asks before.me.0.key.plan.number))
  asked_refused = refused_by before.me.0.key.plan who (asks before.me.0.key.plan.number) (replies before.me.0.key.plan.number) before.me after.me taken same by is.knows legal answer full (view_still before after answer unchanged)

  own_served : IfOk answer (λ a. ViewIsServed before.me.0.key.plan (view_of before.me) (view_of after.me) (entry_of before.me.0.who (asks before.me.0.key.plan.number) (replies before.me.0.key.plan.number a)))
  own_served = subst (λ (w : Caller). IfOk answer (λ a. ViewIsServed before.me.0.key.plan (view_of before.me) (view_of after.me) (entry_of w (asks before.me.0.key.plan.number) (replies before.me.0.key.plan.number a)))) (sym by) asked_served

  pub asked_room : FewAreHeld before.me.0.key.plan (view_of after.me).seen → IfOk answer (λ a. HasRoomFor (held_change (asks before.me.0.key.plan.number) (replies before.me.0.key.plan.number a)) held)
  asked_room few = room_when answer before.me.0.key.plan before.me.0.who (asks before.me.0.key.plan.number) (replies before.me.0.key.plan.number) (view_of before.me) (view_of after.me) held own_served
      (subst (λ (v : Known). (view_of after.me).own ≡ own_entries v.who (view_of after.me).seen) same (knows_all after.me taken)) few is.held_are

  pub asked_part : IsHolding after.me.0 after.me.1 → IsShardPass after (flag_after answer (section_change (asks before.me.0.key.plan.number)) inside) (held_when answer (λ a. held_change (asks before.me.0.key.plan.number) (replies before.me.0.key.plan.number a)) held)
  asked_part holding = part_asked (asks before.me.0.key.plan.number) (replies before.me.0.key.plan.number) before after inside held is taken same holding legal answer own_served asked_refused

-- ---- it was shown the whole history

module _ (before after : Seat GuardedView Known) (inside : Bool) (held : HeldIds) (key : KeyedPlan) (all : List Entry) (is : IsShardPass before inside held) (alone : has_shard before.me ≡ false)
    (planned : key ≡ before.me.0.key) (shown : after.me ≡ (pass_of key before.me.0.who before.me.0.own all, [])) (known : IsKnownIn all before.me.0) (legal : IsLegalHistory before.me.0.key.plan all) where
  pub shown_key : after.me.0.key ≡ before.me.0.key
  shown_key = ap (λ (m : Me GuardedView Known). m.0.key) shown ∙ planned

  shown_plan : after.me.0.key.plan ≡ before.me.0.key.plan
  shown_plan = ap (λ (k : KeyedPlan). k.plan) shown_key

  pub shown_who : after.me.0.who ≡ before.me.0.who
  shown_who = ap (λ (m : Me GuardedView Known). m.0.who) shown

  pub own_before : (view_of before.me).own ≡ own_entries before.me.0.who all
  own_before = ap (λ (v : CallerView). v.own) (alone_view before.me alone) ∙ known.own

  pub begins_before : BeginsWith all (view_of before.me).seen
  begins_before = subst (λ (v : CallerView). BeginsWith all v.seen) (sym (alone_view before.me alone)) known.begins

  own_after : (view_of after.me).own ≡ (view_of before.me).own
  own_after = ap (λ (m : Me GuardedView Known). (view_of m).own) shown ∙ sym (ap (λ (v : CallerView). v.own) (alone_view before.me alone))

  pub seen_after : (view_of after.me).seen ≡ all
  seen_after = ap (λ (m : Me GuardedView Known). (view_of m).seen) shown

  pub part_shown : IsShardPass after inside held
  part_shown = part_moved before after inside held is shown_plan shown_who own_after
      (ap (λ (m : Me GuardedView Known). m.0.seated) shown) (ap (λ (m : Me GuardedView Known). m.0.acts) shown) (subst (λ (m : Me GuardedView Known). IsHolding m.0 m.1) (sym shown) refl)
      (own_after ∙ own_before ∙ (λ i. own_entries (sym shown_who i) (sym seen_after i)))
      (subst (λ (x : ShardPlan × List Entry). IsLegalHistory x.0 x.1) (λ i. (sym shown_plan i, sym seen_after i)) legal)

  pub looked_shown : ViewHasLooked before.me.0.key.plan (view_of before.me) (view_of after.me)
  looked_shown = record {
    begins = subst (λ (l : List Entry). BeginsWith l (view_of before.me).seen) (sym seen_after) begins_before;
    legal = subst (IsLegalHistory before.me.0.key.plan) (sym seen_after) legal;
    own = own_after;
  }
