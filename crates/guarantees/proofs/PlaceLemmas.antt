-- Who is inside and what it holds, as the folds over the history say it, is what places say.
use Rattle.std.proofs.Common.{◌≡◌, ℕ, ◌==◌, ◌&&◌, ◌||◌, Bool, true, false, List, [], ◌∷◌, ◌++◌, length, Option, refl, sym, ◌∙◌, ap, subst, arith}
use Rattle.std.specs.Prelude.{IsTrue, IsFalse, is_some, nat_lt, if◌then◌else◌}
use Rattle.std.proofs.lemmas.Bool.{eqb-true}
use Rattle.std.proofs.lemmas.Bool.Decides.{nat_tests}
use Rattle.semantics.specs.declared.call.Caller.{Caller}
use Rattle.semantics.specs.declared.call.Caller.TheVariants.{Worker, Controller, Reclaimer}
use Rattle.semantics.specs.declared.call.Call.{Call}
use Rattle.semantics.specs.declared.call.Call.TheVariants.{Enter, Leave, Lookup, Load, Store, Atomic, Update, Delete, Reclaim}
use Rattle.semantics.specs.declared.call.CellRef.{CellRef}
use Rattle.semantics.specs.declared.call.Reply.{Reply}
use Rattle.semantics.specs.declared.call.Reply.TheVariants.{Entered, Left, Cell, Null, Word, Done, Answer, Freed}
use Rattle.semantics.specs.declared.call.Entry.{Entry}
use Rattle.semantics.specs.declared.plan.ShardPlan.{ShardPlan}
use Rattle.semantics.specs.Reclamation.{is_worker, entered_by, entered_at, is_inside, held_by, holds}
use Rattle.semantics.specs.History.{meets, is_inside_worker, is_outside_worker, is_own_key, IsLegalHistory}
use Rattle.guarantees.specs.Places.{is_enter, is_leave, NoLeaveOf, IsInsideByPlace, HasFound, HoldsByPlace, InsideIsByPlace, HeldIsByPlace}

-- ---- inside

-- one more entry, which is no Leave of the worker's
abbrev newer_place : (worker : ℕ) (entry : Entry) (history : List Entry) → IsFalse (is_worker worker entry.who && is_leave entry.call) →
    IsInsideByPlace worker history → IsInsideByPlace worker (entry ∷ history)
newer_place worker entry history no_leave inside = record {
  newer = entry ∷ inside.newer;
  enter = inside.enter;
  older = inside.older;
  place = ap (λ (list : List Entry). entry ∷ list) inside.place;
  own = inside.own;
  enters = inside.enters;
  no_leave = (no_leave, inside.no_leave);
}

of_other : (test leave : Bool) → test ≡ false → (test && leave) ≡ false
of_other test leave is = ap (λ (test : Bool). test && leave) is

of_none : (test : Bool) → (test && false) ≡ false
of_none true = refl
of_none false = refl

own_inside : (worker place : ℕ) (entry : Entry) (history : List Entry) (call : Call) → entry.call ≡ call → is_worker worker entry.who ≡ true →
    (is_inside worker history ≡ true → IsInsideByPlace worker history) →
    is_some (entered_by call place (entered_at worker history)) ≡ true → IsInsideByPlace worker (entry ∷ history)
own_inside worker place entry history (Enter shard) is own rest inside = record {
  newer = [];
  enter = entry;
  older = history;
  place = refl;
  own = own;
  enters = ap is_enter is;
  no_leave = tt;
}
own_inside worker place entry history (Leave shard) is own rest inside = absurd cc
own_inside worker place entry history (Lookup shard key) is own rest inside =
    newer_place worker entry history (ap (λ call. is_worker worker entry.who && is_leave call) is ∙ of_none (is_worker worker entry.who)) (rest inside)
own_inside worker place entry history (Load cell offset size) is own rest inside =
    newer_place worker entry history (ap (λ call. is_worker worker entry.who && is_leave call) is ∙ of_none (is_worker worker entry.who)) (rest inside)
own_inside worker place entry history (Store cell offset size value) is own rest inside =
    newer_place worker entry history (ap (λ call. is_worker worker entry.who && is_leave call) is ∙ of_none (is_worker worker entry.who)) (rest inside)
own_inside worker place entry history (Atomic cell offset size op value expected) is own rest inside =
    newer_place worker entry history (ap (λ call. is_worker worker entry.who && is_leave call) is ∙ of_none (is_worker worker entry.who)) (rest inside)
own_inside worker place entry history (Update shard key value flags) is own rest inside =
    newer_place worker entry history (ap (λ call. is_worker worker entry.who && is_leave call) is ∙ of_none (is_worker worker entry.who)) (rest inside)
own_inside worker place entry history (Delete shard key) is own rest inside =
    newer_place worker entry history (ap (λ call. is_worker worker entry.who && is_leave call) is ∙ of_none (is_worker worker entry.who)) (rest inside)
own_inside worker place entry history (Reclaim shard) is own rest inside =
    newer_place worker entry history (ap (λ call. is_worker worker entry.who && is_leave call) is ∙ of_none (is_worker worker entry.who)) (rest inside)

by_caller : (worker : ℕ) (entry : Entry) (history : List Entry) (own : Bool) → is_worker worker entry.who ≡ own →
    (is_inside worker history ≡ true → IsInsideByPlace worker history) →
    is_some (if own then entered_by entry.call (length history) (entered_at worker history) else entered_at worker history) ≡ true →
    IsInsideByPlace worker (entry ∷ history)
by_caller worker entry history true is rest inside = own_inside worker (length history) entry history entry.call refl is rest inside
by_caller worker entry history false is rest inside =
    newer_place worker entry history (of_other (is_worker worker entry.who) (is_leave entry.call) is) (rest inside)

pub to_place : (worker : ℕ) (history : List Entry) → is_inside worker history ≡ true → IsInsideByPlace worker history
to_place worker [] inside = absurd cc
to_place worker (entry ∷ history) inside =
    by_caller worker entry history (is_worker worker entry.who) refl (to_place worker history) inside

-- ---- and back

own_call : (worker place : ℕ) (call : Call) (before : Option ℕ) (own : Bool) → own ≡ true → (own && is_leave call) ≡ false → is_some before ≡ true →
    is_some (entered_by call place before) ≡ true
own_call worker place (Enter shard) before own is no_leave inside = refl
own_call worker place (Leave shard) before true is no_leave inside = absurd cc
own_call worker place (Leave shard) before false is no_leave inside = absurd cc
own_call worker place (Lookup shard key) before own is no_leave inside = inside
own_call worker place (Load cell offset size) before own is no_leave inside = inside
own_call worker place (Store cell offset size value) before own is no_leave inside = inside
own_call worker place (Atomic cell offset size op value expected) before own is no_leave inside = inside
own_call worker place (Update shard key value flags) before own is no_leave inside = inside
own_call worker place (Delete shard key) before own is no_leave inside = inside
own_call worker place (Reclaim shard) before own is no_leave inside = inside

still_inside : (worker : ℕ) (entry : Entry) (history : List Entry) (own : Bool) → is_worker worker entry.who ≡ own →
    (is_worker worker entry.who && is_leave entry.call) ≡ false → is_inside worker history ≡ true →
    is_some (if own then entered_by entry.call (length history) (entered_at worker history) else entered_at worker history) ≡ true
still_inside worker entry history true is no_leave inside =
    own_call worker (length history) entry.call (entered_at worker history) (is_worker worker entry.who) is no_leave inside
still_inside worker entry history false is no_leave inside = inside

enters_there : (worker place : ℕ) (call : Call) (before : Option ℕ) → is_enter call ≡ true → is_some (entered_by call place before) ≡ true
enters_there worker place (Enter shard) before is = refl
enters_there worker place (Leave shard) before is = absurd cc
enters_there worker place (Lookup shard key) before is = absurd cc
enters_there worker place (Load cell offset size) before is = absurd cc
enters_there worker place (Store cell offset size value) before is = absurd cc
enters_there worker place (Atomic cell offset size op value expected) before is = absurd cc
enters_there worker place (Update shard key value flags) before is = absurd cc
enters_there worker place (Delete shard key) before is = absurd cc
enters_there worker place (Reclaim shard) before is = absurd cc

inside_since : (worker : ℕ) (newer : List Entry) (enter : Entry) (older : List Entry) → is_worker worker enter.who ≡ true →
    is_enter enter.call ≡ true → NoLeaveOf worker newer → is_inside worker (newer ++ enter ∷ older) ≡ true
inside_since worker [] enter older own enters no_leave =
    ap (λ (test : Bool). is_some (if test then entered_by enter.call (length older) (entered_at worker older) else entered_at worker older)) own
    ∙ enters_there worker (length older) enter.call (entered_at worker older) enters
inside_since worker (entry ∷ newer) enter older own enters no_leave =
    still_inside worker entry (newer ++ enter ∷ older) (is_worker worker entry.who) refl no_leave.0
    (inside_since worker newer enter older own enters no_leave.1)

pub from_place : (worker : ℕ) (history : List Entry) → IsInsideByPlace worker history → is_inside worker history ≡ true
from_place worker history inside =
    ap (is_inside worker) inside.place ∙ inside_since worker inside.newer inside.enter inside.older inside.own inside.enters inside.no_leave

pub inside_is_by_place : InsideIsByPlace
inside_is_by_place worker history = (to_place worker history, from_place worker history)

-- ---- held

newer_hold : (worker cell : ℕ) (entry : Entry) (history : List Entry) → IsFalse (is_worker worker entry.who && is_leave entry.call) →
    HoldsByPlace worker cell history → HoldsByPlace worker cell (entry ∷ history)
newer_hold worker cell entry history no_leave hold = record {
  inside = newer_place worker entry history no_leave hold.inside;
  newer = entry ∷ hold.newer;
  lookup = hold.lookup;
  older = hold.older;
  place = ap (λ (list : List Entry). entry ∷ list) hold.place;
  found = hold.found;
}

-- a Lookup is made inside
and_first : (one other : Bool) → (one && other) ≡ true → one ≡ true
and_first true other is = refl
and_first false other is = absurd cc

and_second : (one other : Bool) → (one && other) ≡ true → other ≡ true
and_second true other is = is
and_second false other is = absurd cc

caller_is : (worker : ℕ) (who : Caller) → is_worker worker who ≡ true → who ≡ Worker worker
caller_is worker (Worker number) is = ap Worker (eqb-true number worker is)
caller_is worker Controller is = absurd cc
caller_is worker Reclaimer is = absurd cc

looked_inside : (plan : ShardPlan) (worker : ℕ) (who : Caller) (history : List Entry) (call : Call) (shard : ℕ) (key : List ℕ) → call ≡ Lookup shard key →
    is_worker worker who ≡ true → IsTrue (meets plan history who call) → is_inside worker history ≡ true
looked_inside plan worker who history call shard key is own met =
    let asks : IsTrue (meets plan history (Worker worker) (Lookup shard key)) =
    subst (λ (one : Caller). IsTrue (meets plan history one (Lookup shard key))) (caller_is worker who own)
    (subst (λ (one : Call). IsTrue (meets plan history who one)) is met) in
    let part : (is_inside_worker plan history (Worker worker) && is_own_key plan key) ≡ true =
    and_second (shard == plan.number) (is_inside_worker plan history (Worker worker) && is_own_key plan key) asks in
    let inside : is_inside_worker plan history (Worker worker) ≡ true = and_first _ (is_own_key plan key) part in
    and_second (nat_lt worker plan.workers) (is_inside worker history) inside

entered_outside : (plan : ShardPlan) (worker : ℕ) (who : Caller) (history : List Entry) (call : Call) (shard : ℕ) → call ≡ Enter shard →
    is_worker worker who ≡ true → IsTrue (meets plan history who call) → is_inside worker history ≡ true → ⊥
entered_outside plan worker who history call shard is own met inside =
    let asks : IsTrue (meets plan history (Worker worker) (Enter shard)) =
    subst (λ (one : Caller). IsTrue (meets plan history one (Enter shard))) (caller_is worker who own)
    (subst (λ (one : Call). IsTrue (meets plan history who one)) is met) in
    let outside : is_outside_worker plan history (Worker worker) ≡ true =
    and_second (shard == plan.number) (is_outside_worker plan history (Worker worker)) asks in
    let not_in : (if is_inside worker history then false else true) ≡ true =
    and_second (nat_lt worker plan.workers) (if is_inside worker history then false else true) outside in
    let off : (if true then false else true) ≡ true = ap (λ (test : Bool). if test then false else true) (sym inside) ∙ not_in in cc

-- what an own entry makes of a held cell
abbrev IsHeldNow : ℕ → ℕ → List Entry → Entry → Call → Reply → Type 0
IsHeldNow worker cell history entry call reply =
    held_by call reply cell (holds worker cell history) ≡ true → HoldsByPlace worker cell (entry ∷ history)

looked : (worker cell : ℕ) (entry : Entry) (history : List Entry) (shard : ℕ) (key : List ℕ) (found : CellRef) → entry.call ≡ Lookup shard key →
    entry.reply ≡ Cell found → is_worker worker entry.who ≡ true → IsInsideByPlace worker history →
    IsFalse (is_worker worker entry.who && is_leave entry.call) → (holds worker cell history ≡ true → HoldsByPlace worker cell history) →
    (same : Bool) → (found.id == cell) ≡ same → (same || holds worker cell history) ≡ true → HoldsByPlace worker cell (entry ∷ history)
looked worker cell entry history shard key found asked answered own inside no_leave rest true is held = record {
  inside = newer_place worker entry history no_leave inside;
  newer = [];
  lookup = entry;
  older = inside.newer;
  place = refl;
  found = record { own = own; shard = shard; key = key; asked = asked; found = found; answered = answered; id_is = eqb-true found.id cell is };
}
looked worker cell entry history shard key found asked answered own inside no_leave rest false is held = newer_hold worker cell entry history no_leave (rest held)

by_reply : (worker cell : ℕ) (entry : Entry) (history : List Entry) (shard : ℕ) (key : List ℕ) (reply : Reply) → entry.call ≡ Lookup shard key →
    entry.reply ≡ reply → is_worker worker entry.who ≡ true → IsInsideByPlace worker history →
    IsFalse (is_worker worker entry.who && is_leave entry.call) → (holds worker cell history ≡ true → HoldsByPlace worker cell history) →
    IsHeldNow worker cell history entry (Lookup shard key) reply
by_reply worker cell entry history shard key (Cell found) asked answered own inside no_leave rest held =
    looked worker cell entry history shard key found asked answered own inside no_leave rest (found.id == cell) refl held
by_reply worker cell entry history shard key Null asked answered own inside no_leave rest held = newer_hold worker cell entry history no_leave (rest held)
by_reply worker cell entry history shard key (Word value) asked answered own inside no_leave rest held = newer_hold worker cell entry history no_leave (rest held)
by_reply worker cell entry history shard key Done asked answered own inside no_leave rest held = newer_hold worker cell entry history no_leave (rest held)
by_reply worker cell entry history shard key (Answer code) asked answered own inside no_leave rest held =
    newer_hold worker cell entry history no_leave (rest held)
by_reply worker cell entry history shard key Entered asked answered own inside no_leave rest held = newer_hold worker cell entry history no_leave (rest held)
by_reply worker cell entry history shard key Left asked answered own inside no_leave rest held = newer_hold worker cell entry history no_leave (rest held)
by_reply worker cell entry history shard key (Freed count) asked answered own inside no_leave rest held =
    newer_hold worker cell entry history no_leave (rest held)

stays : (worker : ℕ) (entry : Entry) (call : Call) → entry.call ≡ call → is_leave call ≡ false → IsFalse (is_worker worker entry.who && is_leave entry.call)
stays worker entry call is none =
    ap (λ (call : Call). is_worker worker entry.who && is_leave call) is ∙ ap (λ (test : Bool). is_worker worker entry.who && test) none
    ∙ of_none (is_worker worker entry.who)

own_hold : (plan : ShardPlan) (worker cell : ℕ) (entry : Entry) (history : List Entry) (call : Call) → entry.call ≡ call →
    is_worker worker entry.who ≡ true → IsTrue (meets plan history entry.who entry.call) →
    (holds worker cell history ≡ true → HoldsByPlace worker cell history) → IsHeldNow worker cell history entry call entry.reply
own_hold plan worker cell entry history (Enter shard) is own met rest held = absurd cc
own_hold plan worker cell entry history (Leave shard) is own met rest held = absurd cc
own_hold plan worker cell entry history (Lookup shard key) is own met rest held =
    by_reply worker cell entry history shard key entry.reply is refl own
    (to_place worker history (looked_inside plan worker entry.who history entry.call shard key is own met))
    (stays worker entry (Lookup shard key) is refl) rest held
own_hold plan worker cell entry history (Load one offset size) is own met rest held =
    newer_hold worker cell entry history (stays worker entry (Load one offset size) is refl) (rest held)
own_hold plan worker cell entry history (Store one offset size value) is own met rest held =
    newer_hold worker cell entry history (stays worker entry (Store one offset size value) is refl) (rest held)
own_hold plan worker cell entry history (Atomic one offset size op value expected) is own met rest held =
    newer_hold worker cell entry history (stays worker entry (Atomic one offset size op value expected) is refl) (rest held)
own_hold plan worker cell entry history (Update shard key value flags) is own met rest held =
    newer_hold worker cell entry history (stays worker entry (Update shard key value flags) is refl) (rest held)
own_hold plan worker cell entry history (Delete shard key) is own met rest held =
    newer_hold worker cell entry history (stays worker entry (Delete shard key) is refl) (rest held)
own_hold plan worker cell entry history (Reclaim shard) is own met rest held =
    newer_hold worker cell entry history (stays worker entry (Reclaim shard) is refl) (rest held)

hold_by : (plan : ShardPlan) (worker cell : ℕ) (entry : Entry) (history : List Entry) (own : Bool) → is_worker worker entry.who ≡ own →
    IsTrue (meets plan history entry.who entry.call) → (holds worker cell history ≡ true → HoldsByPlace worker cell history) →
    (if own then held_by entry.call entry.reply cell (holds worker cell history) else holds worker cell history) ≡ true →
    HoldsByPlace worker cell (entry ∷ history)
hold_by plan worker cell entry history true is met rest held = own_hold plan worker cell entry history entry.call refl is met rest held
hold_by plan worker cell entry history false is met rest held =
    newer_hold worker cell entry history (of_other (is_worker worker entry.who) (is_leave entry.call) is) (rest held)

to_hold : (plan : ShardPlan) (worker cell : ℕ) (history : List Entry) → IsLegalHistory plan history → holds worker cell history ≡ true →
    HoldsByPlace worker cell history
to_hold plan worker cell [] legal held = absurd cc
to_hold plan worker cell (entry ∷ history) legal held =
    hold_by plan worker cell entry history (is_worker worker entry.who) refl legal.0.step.met (to_hold plan worker cell history legal.1) held

-- ---- and back

or_true : (test : Bool) → (test || true) ≡ true
or_true true = refl
or_true false = refl

found_stays : (cell : ℕ) (shard : ℕ) (key : List ℕ) (reply : Reply) → held_by (Lookup shard key) reply cell true ≡ true
found_stays cell shard key (Cell found) = or_true (found.id == cell)
found_stays cell shard key Null = refl
found_stays cell shard key (Word value) = refl
found_stays cell shard key Done = refl
found_stays cell shard key (Answer code) = refl
found_stays cell shard key Entered = refl
found_stays cell shard key Left = refl
found_stays cell shard key (Freed count) = refl

held_still : (plan : ShardPlan) (worker cell : ℕ) (who : Caller) (history : List Entry) (call one : Call) (reply : Reply) → call ≡ one →
    is_worker worker who ≡ true → IsTrue (meets plan history who call) → (is_worker worker who && is_leave call) ≡ false →
    is_inside worker history ≡ true → held_by one reply cell true ≡ true
held_still plan worker cell who history call (Enter shard) reply is own met no_leave inside =
    absurd (entered_outside plan worker who history call shard is own met inside)
held_still plan worker cell who history call (Leave shard) reply is own met no_leave inside =
    absurd (let test : (true && true) ≡ false = ap (λ (test : Bool). test && true) (sym own)
    ∙ ap (λ (call : Call). is_worker worker who && is_leave call) (sym is) ∙ no_leave in cc)
held_still plan worker cell who history call (Lookup shard key) reply is own met no_leave inside = found_stays cell shard key reply
held_still plan worker cell who history call (Load one offset size) reply is own met no_leave inside = refl
held_still plan worker cell who history call (Store one offset size value) reply is own met no_leave inside = refl
held_still plan worker cell who history call (Atomic one offset size op value expected) reply is own met no_leave inside = refl
held_still plan worker cell who history call (Update shard key value flags) reply is own met no_leave inside = refl
held_still plan worker cell who history call (Delete shard key) reply is own met no_leave inside = refl
held_still plan worker cell who history call (Reclaim shard) reply is own met no_leave inside = refl

keeps_hold : (plan : ShardPlan) (worker cell : ℕ) (entry : Entry) (history : List Entry) (own : Bool) → is_worker worker entry.who ≡ own →
    IsTrue (meets plan history entry.who entry.call) → (is_worker worker entry.who && is_leave entry.call) ≡ false →
    is_inside worker history ≡ true → holds worker cell history ≡ true →
    (if own then held_by entry.call entry.reply cell (holds worker cell history) else holds worker cell history) ≡ true
keeps_hold plan worker cell entry history true is met no_leave inside held =
    ap (held_by entry.call entry.reply cell) held
    ∙ held_still plan worker cell entry.who history entry.call entry.call entry.reply refl is met no_leave inside
keeps_hold plan worker cell entry history false is met no_leave inside held = held

holds_since : (plan : ShardPlan) (worker cell : ℕ) (newer : List Entry) (lookup : Entry) (older rest : List Entry) →
    IsLegalHistory plan ((newer ++ lookup ∷ older) ++ rest) → HasFound worker cell lookup → NoLeaveOf worker (newer ++ lookup ∷ older) →
    ((after : List Entry) → NoLeaveOf worker after → is_inside worker (after ++ rest) ≡ true) →
    holds worker cell ((newer ++ lookup ∷ older) ++ rest) ≡ true
holds_since plan worker cell [] lookup older rest legal found no_leave inside =
    let same : (found.found.id == cell) ≡ true = ap (λ (n : ℕ). n == cell) found.id_is ∙ grind (arith, nat_tests) in
    ap (λ (test : Bool). if test then held_by lookup.call lookup.reply cell (holds worker cell (older ++ rest)) else holds worker cell (older ++ rest)) found.own
    ∙ ap (λ (call : Call). held_by call lookup.reply cell (holds worker cell (older ++ rest))) found.asked
    ∙ ap (λ (reply : Reply). held_by (Lookup found.shard found.key) reply cell (holds worker cell (older ++ rest))) found.answered
    ∙ ap (λ (test : Bool). test || holds worker cell (older ++ rest)) same
holds_since plan worker cell (entry ∷ newer) lookup older rest legal found no_leave inside =
    keeps_hold plan worker cell entry ((newer ++ lookup ∷ older) ++ rest) (is_worker worker entry.who) refl legal.0.step.met no_leave.0
    (inside (newer ++ lookup ∷ older) no_leave.1)
    (holds_since plan worker cell newer lookup older rest legal.1 found no_leave.1 inside)

from_hold : (plan : ShardPlan) (worker cell : ℕ) (history : List Entry) → IsLegalHistory plan history → HoldsByPlace worker cell history →
    holds worker cell history ≡ true
from_hold plan worker cell history legal hold =
    let rest : List Entry = hold.inside.enter ∷ hold.inside.older in
    let parts : history ≡ (hold.newer ++ hold.lookup ∷ hold.older) ++ rest =
    hold.inside.place ∙ ap (λ (list : List Entry). list ++ rest) hold.place in
    ap (holds worker cell) parts
    ∙ holds_since plan worker cell hold.newer hold.lookup hold.older rest (subst (IsLegalHistory plan) parts legal) hold.found
    (subst (NoLeaveOf worker) hold.place hold.inside.no_leave)
    (λ after no_leave. inside_since worker after hold.inside.enter hold.inside.older hold.inside.own hold.inside.enters no_leave)

pub held_is_by_place : HeldIsByPlace
held_is_by_place plan worker cell history legal = (to_hold plan worker cell history legal, from_hold plan worker cell history legal)
