-- The list of the cells that a worker holds, when it makes a call.
use Rattle.std.proofs.Common.{◌≡◌, ◌<◌, ◌≤◌, ℕ, zero, suc, Bool, true, false, true≢false, ◌||◌, List, [], ◌∷◌, ◌++◌, length, eq-eqb, ne_eqb, refl, sym, ap, ◌∙◌, subst, inl, inr, length-append, arith}
use Rattle.std.specs.Prelude.{◌==◌, Result, Ok, Err, IfOk, OnErr, IsTrue, slice_index_or, if◌then◌else◌}
use Rattle.std.proofs.lemmas.Bool.Decides.{eqb_tells}
use Rattle.semantics.specs.declared.call.Caller.{Caller}
use Rattle.semantics.specs.declared.call.Caller.TheVariants.{Worker, Controller, Reclaimer}
use Rattle.semantics.specs.declared.call.Call.{Call}
use Rattle.semantics.specs.declared.call.Call.TheVariants.{Enter, Leave, Lookup, Load, Store, Atomic, Update, Delete, Reclaim}
use Rattle.semantics.specs.declared.call.Reply.{Reply}
use Rattle.semantics.specs.declared.call.Entry.{Entry}
use Rattle.semantics.specs.declared.full.JournalFull.{JournalFull}
use Rattle.semantics.specs.declared.plan.ShardPlan.{ShardPlan}
use Rattle.semantics.specs.Reclamation.{held_by, held_where, held_change, holds}
use Rattle.semantics.specs.CallerLaws.{own_entries}
use Rattle.semantics.specs.History.{IsLegalHistory, is_own_key, meets_part, shard_of_call}
use Rattle.semantics.proofs.shared.ConditionLemmas.{first_true, second_true}
use Rattle.semantics.proofs.shared.CallerLemmas.{own_holds}
use Rattle.shard_core.specs.FewHeld.{is_among, AreOnce, FewAreHeld}
use Rattle.shards.specs.CallerView.{CallerView, ViewIsServed, ViewIsRefused}
use Rattle.semantics.specs.declared.call.HeldChange.{HeldChange}
use Rattle.semantics.specs.declared.call.HeldChange.TheVariants.{LetsGo, Finds, Stays}
use Rattle.semantics.proofs.shared.CallNumbers.{part_below}
use Rattle.shards.specs.HeldCells.{HeldIds, ids_after, held_after, held_when, most_held, HasRoomFor, AreHeldBy, AreHeldOf, room_of}

-- ---- what the list says

or_moves : (a b c : Bool) → (a || (b || c)) ≡ (b || (a || c))
or_moves true true c = refl
or_moves true false c = refl
or_moves false b c = refl

or_false : (a : Bool) → (a || false) ≡ a
or_false true = refl
or_false false = refl

among_more : (cell id : ℕ) (ids : List ℕ) → is_among cell (ids ++ id ∷ []) ≡ ((id == cell) || is_among cell ids)
among_more cell id [] = refl
among_more cell id (other ∷ ids) = ap (λ (rest : Bool). (other == cell) || rest) (among_more cell id ids) ∙ or_moves (other == cell) (id == cell) (is_among cell ids)

either_true : (a : Bool) → (a || true) ≡ true
either_true true = refl
either_true false = refl

present : (cell id : ℕ) (ids : List ℕ) → is_among id ids ≡ true → is_among cell ids ≡ ((id == cell) || is_among cell ids)
present cell id ids there = elim (eqb_tells id cell) [
  | inl same ↦ rw same.0 (ap (λ (n : ℕ). is_among n ids) (sym same.1) ∙ there)
  | inr apart ↦ rw apart.0 refl
]

-- what is at a place is among them
pub among_at : (id place : ℕ) (ids : List ℕ) → place < length ids → slice_index_or ids place 0 ≡ id → is_among id ids ≡ true
among_at id place [] below is = absurd (omega (arith, below))
among_at id zero (x ∷ ids) below is = ap (λ (here : Bool). here || is_among id ids) (eq-eqb x id is)
among_at id (suc place) (x ∷ ids) below is =
    ap (λ (later : Bool). (x == id) || later) (among_at id place ids (omega (arith, below)) is) ∙ either_true (x == id)

among_new : (cell id : ℕ) (ids : List ℕ) → is_among cell (ids_after (Finds id) ids) ≡ ((id == cell) || is_among cell ids)
among_new cell id ids = by_test (is_among id ids) refl
  where
    by_test : (there : Bool) → is_among id ids ≡ there → is_among cell (if there then ids else (ids ++ id ∷ [])) ≡ ((id == cell) || is_among cell ids)
    by_test true there = present cell id ids there
    by_test false apart = among_more cell id ids

among_after : (change : HeldChange) (cell : ℕ) (ids : List ℕ) →
    is_among cell (ids_after change ids) ≡ held_where change cell (is_among cell ids)
among_after LetsGo cell ids = refl
among_after (Finds id) cell ids = among_new cell id ids
among_after Stays cell ids = refl

-- ---- each cell is there once

once_more : (id : ℕ) (ids : List ℕ) → AreOnce ids → is_among id ids ≡ false → AreOnce (ids ++ id ∷ [])
once_more id [] once apart = (refl, tt)
once_more id (x ∷ ids) once apart = elim (eqb_tells x id) [
  | inl same ↦ (let no = rw same.0 at apart in absurd (true≢false no))
  | inr differs ↦ (let later = rw differs.0 at apart in
      let other : (id == x) ≡ false = ne_eqb id x (λ same. differs.1 (sym same)) in
      (among_more x id ids ∙ rw other once.0, once_more id ids once.1 later))
]

once_new : (id : ℕ) (ids : List ℕ) → AreOnce ids → AreOnce (ids_after (Finds id) ids)
once_new id ids once = by_test (is_among id ids) refl
  where
    by_test : (there : Bool) → is_among id ids ≡ there → AreOnce (if there then ids else (ids ++ id ∷ []))
    by_test true there = once
    by_test false apart = once_more id ids once apart

once_after : (change : HeldChange) (ids : List ℕ) → AreOnce ids → AreOnce (ids_after change ids)
once_after LetsGo ids once = tt
once_after (Finds id) ids once = once_new id ids once
once_after Stays ids once = once

holds_after : (number cell : ℕ) (call : Call) (reply : Reply) (own : List Entry) →
    holds number cell ((record { who = Worker number; call = call; reply = reply }) ∷ own) ≡ held_by call reply cell (holds number cell own)
holds_after number cell call reply own =
    ap (λ (mine : Bool). if mine then held_by call reply cell (holds number cell own) else holds number cell own) (eq-eqb number number refl)

are_held : (number : ℕ) (plan : ShardPlan) (call : Call) (reply : Reply) (own : List Entry) (held : HeldIds) → AreHeldBy number plan own held →
    AreHeldBy number plan ((record { who = Worker number; call = call; reply = reply }) ∷ own) (held_after (held_change call reply) held)
are_held number plan call reply own held are = record {
  some_room = are.some_room;
  once = once_after (held_change call reply) held.ids are.once;
  each = λ cell. among_after (held_change call reply) cell held.ids ∙ ap (held_by call reply cell) (are.each cell) ∙ sym (holds_after number cell call reply own);
}

held_one : (who : Caller) (plan : ShardPlan) (call : Call) (reply : Reply) (own own' : List Entry) (held : HeldIds) →
    own' ≡ (record { who = who; call = call; reply = reply }) ∷ own → AreHeldOf who plan own held → AreHeldOf who plan own' (held_after (held_change call reply) held)
held_one (Worker number) plan call reply own own' held grown are =
    subst (λ (entries : List Entry). AreHeldBy number plan entries (held_after (held_change call reply) held)) (sym grown) (are_held number plan call reply own held are)
held_one Controller plan call reply own own' held grown are = tt
held_one Reclaimer plan call reply own own' held grown are = tt

pub held_moves : {A : Type 0} (answer : Result A JournalFull) (plan : ShardPlan) (who : Caller) (call : Call) (replies : A → Reply) (before after : CallerView) (held : HeldIds) →
    IfOk answer (λ a. ViewIsServed plan before after (record { who = who; call = call; reply = replies a })) → OnErr answer (ViewIsRefused plan before after call) →
    AreHeldOf who plan before.own held → AreHeldOf who plan after.own (held_when answer (λ a. held_change call (replies a)) held)
held_moves (Ok a) plan who call replies before after held served refused are = held_one who plan call (replies a) before.own after.own held served.own are
held_moves (Err full) plan who call replies before after held served refused are = subst (λ (own : List Entry). AreHeldOf who plan own held) (sym refused.own) are

-- ---- there is room for what a Lookup found

room_from : (change : HeldChange) (held : HeldIds) → length (ids_after change held.ids) ≤ held.room → HasRoomFor change held
room_from LetsGo held enough = tt
room_from (Finds id) held enough = λ new. (let long = length-append held.ids (id ∷ []) in let within = rw new at enough in omega (arith, long, within))
room_from Stays held enough = tt

-- who is no worker finds nothing
room_of_others : (plan : ShardPlan) (earlier : List Entry) (who : Caller) → ((shard : ℕ) (key : List ℕ) → IsTrue (meets_part plan earlier who (Lookup shard key)) → ⊥) →
    (call : Call) (reply : Reply) (held : HeldIds) → IsTrue (meets_part plan earlier who call) → HasRoomFor (held_change call reply) held
room_of_others plan earlier who never (Enter shard) reply held met = tt
room_of_others plan earlier who never (Leave shard) reply held met = tt
room_of_others plan earlier who never (Lookup shard key) reply held met = absurd (never shard key met)
room_of_others plan earlier who never (Load at offset size) reply held met = tt
room_of_others plan earlier who never (Store at offset size value) reply held met = tt
room_of_others plan earlier who never (Atomic at offset size op value expected) reply held met = tt
room_of_others plan earlier who never (Update shard key value flags) reply held met = tt
room_of_others plan earlier who never (Delete shard key) reply held met = tt
room_of_others plan earlier who never (Reclaim shard) reply held met = tt

room_after : (plan : ShardPlan) (who : Caller) (call : Call) (reply : Reply) (before after : CallerView) (held : HeldIds) →
    ViewIsServed plan before after (record { who = who; call = call; reply = reply }) → after.own ≡ own_entries who after.seen → FewAreHeld plan after.seen →
    AreHeldOf who plan before.own held → HasRoomFor (held_change call reply) held
room_after plan Controller call reply before after held served mine few are =
    let legal = subst (IsLegalHistory plan) served.seen served.legal in
    room_of_others plan served.earlier Controller (λ shard key met. true≢false (sym (first_true false (is_own_key plan key) met))) call reply held
    (second_true (shard_of_call call == plan.number) (meets_part plan served.earlier Controller call) legal.0.step.met)
room_after plan Reclaimer call reply before after held served mine few are =
    let legal = subst (IsLegalHistory plan) served.seen served.legal in
    room_of_others plan served.earlier Reclaimer (λ shard key met. true≢false (sym (first_true false (is_own_key plan key) met))) call reply held
    (second_true (shard_of_call call == plan.number) (meets_part plan served.earlier Reclaimer call) legal.0.step.met)
room_after plan (Worker number) call reply before after held served mine few are =
    let legal = subst (IsLegalHistory plan) served.seen served.legal in
    let known = part_below plan served.earlier number call (second_true (shard_of_call call == plan.number) (meets_part plan served.earlier (Worker number) call) legal.0.step.met) in
    let grown : AreHeldBy number plan after.own (held_after (held_change call reply) held) = held_one (Worker number) plan call reply before.own after.own held served.own are in
    let all = few.most number (ids_after (held_change call reply) held.ids) known grown.once
    (λ cell among. sym (own_holds number cell after.seen) ∙ ap (holds number cell) (sym mine) ∙ sym (grown.each cell) ∙ among) in
    let enough = are.some_room in
    room_from (held_change call reply) held (omega (arith, all, enough))

pub room_when : {A : Type 0} (answer : Result A JournalFull) (plan : ShardPlan) (who : Caller) (call : Call) (replies : A → Reply) (before after : CallerView) (held : HeldIds) →
    IfOk answer (λ a. ViewIsServed plan before after (record { who = who; call = call; reply = replies a })) → after.own ≡ own_entries who after.seen → FewAreHeld plan after.seen →
    AreHeldOf who plan before.own held → IfOk answer (λ a. HasRoomFor (held_change call (replies a)) held)
room_when (Ok a) plan who call replies before after held served mine few are = room_after plan who call (replies a) before after held served mine few are
room_when (Err full) plan who call replies before after held served mine few are = served

-- ---- at the beginning

pub held_by_none : (who : Caller) (plan : ShardPlan) (room : ℕ) (held : HeldIds) → held.ids ≡ [] → room_of who room ≤ held.room → most_held plan ≤ room →
    AreHeldOf who plan [] held
held_by_none (Worker number) plan room held none enough reserve = record {
  some_room = omega (arith, enough, reserve);
  once = subst AreOnce (sym none) tt;
  each = λ cell. ap (is_among cell) none;
}
held_by_none Controller plan room held none enough reserve = tt
held_by_none Reclaimer plan room held none enough reserve = tt
