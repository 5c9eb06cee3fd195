-- Events of one worker, and of no worker, from a state of the system on.
use Rattle.std.proofs.Common.{◌≡◌, ◌≢◌, ℕ, ◌<◌, ◌==◌, Bool, true, false, cond, List, [], ◌∷◌, ◌++◌, length, reverse, refl, sym, ◌∙◌, ap, subst, append_assoc, append-nil}
use Rattle.std.specs.Prelude.{filter}
use Rattle.std.specs.List.{AllByRecursion}
use Rattle.std.proofs.lemmas.Bool.{ne_eqb, eqb-true}
use Rattle.std.proofs.lemmas.List.{reverse-append, length-set}
use Rattle.semantics.specs.declared.call.Caller.TheVariants.{Worker}
use Rattle.semantics.specs.System.{Setting, SystemState, SystemEvent, BeginsRun, DoesInstruction, CallsShard, LeavesShard, Controls, Reclaims, WorkerState, Idle, worker_state, with_worker, CanHappen, after_event, after_all, CanAllFollow}
use Rattle.semantics.proofs.shared.SystemSteps.{state_there, state_elsewhere}
use Rattle.shards.specs.declared.deeds.Deed.{Deed}
use Rattle.shards.specs.declared.deeds.Deed.TheVariants.{Wrote, MetFull}
use Rattle.shards.specs.Deeds.{entries_made}
use Rattle.semantics.specs.declared.call.Entry.{Entry}
use Rattle.guarantees.specs.Steps.{AskedOfShard, Nothing, Writes, TurnedAway, Move, AreSteps, entries_asked, deeds_asked, deeds_in}
use Rattle.guarantees.specs.Moves.{IsMove, IsAskedSo, after_asked, is_event_of}
use Rattle.guarantees.specs.Merging.{events_of, IsWrittenNext, AreWrittenInOrder}
use Rattle.semantics.specs.Events.{Ending, ending_in, ended_by}
use Rattle.guarantees.proofs.MoveLemmas.{steps_are_moves}
use Rattle.guarantees.proofs.EndLemmas.{ends_of_asked, ends_in, Walk, end_is}

-- ---- lists of events, the oldest first

abbrev pub HappenFrom : Setting → SystemState → List SystemEvent → SystemState → Type 0
HappenFrom setting before [] after = before ≡ after
HappenFrom setting before (event ∷ later) after =
    CanHappen setting before event × HappenFrom setting (after_event setting before event) later after

pub then_happen : (setting : Setting) (one two three : SystemState) (first second : List SystemEvent) → HappenFrom setting one first two →
    HappenFrom setting two second three → HappenFrom setting one (first ++ second) three
then_happen setting one two three [] second happen more = subst (λ here. HappenFrom setting here second three) (sym happen) more
then_happen setting one two three (event ∷ first) second happen more =
    (happen.0, then_happen setting (after_event setting one event) two three first second happen.1 more)

-- they can all happen, and lead there
abbrev pub LeadTo : Setting → SystemState → List SystemEvent → SystemState → Type 0
LeadTo setting before events last = CanAllFollow setting before events × (after_all setting before events ≡ last)

pub lead : (setting : Setting) (before : SystemState) (events : List SystemEvent) (last : SystemState) → HappenFrom setting before events last →
    LeadTo setting before events last
lead setting before [] last happen = (tt, happen)
lead setting before (event ∷ later) last happen =
    let onward : LeadTo setting (after_event setting before event) later last = lead setting (after_event setting before event) later last happen.1
    in ((happen.0, onward.0), onward.1)

-- ---- what events write

-- two lists of events, one after the other
pub then_written : (setting : Setting) (before after : SystemState) (done later : List SystemEvent) (entries more : List Entry) →
    HappenFrom setting before done after → AreWrittenInOrder setting before done entries → AreWrittenInOrder setting after later more →
    AreWrittenInOrder setting before (done ++ later) (entries ++ more)
then_written setting before after [] later entries more happen written onward =
    subst (λ (list : List Entry). AreWrittenInOrder setting before later (list ++ more)) (sym written)
    (subst (λ (here : SystemState). AreWrittenInOrder setting here later more) (sym happen) onward)
then_written setting before after (event ∷ done) later entries more happen written onward = (
  written.0,
  written.1 ++ more,
  ap (λ (list : List Entry). list ++ more) written.2 ∙ append_assoc written.0 written.1 more,
  written.3,
  then_written setting (after_event setting before event) after done later written.1 more happen.1 written.4 onward,
)

-- what is asked of a shard is what is written
pub asked_written : (before after : SystemState) (asked : AskedOfShard) → after.histories ≡ (after_asked before asked).histories →
    IsWrittenNext before (entries_asked asked) after
asked_written before after Nothing same = same
asked_written before after (Writes entry) same = same
asked_written before after (TurnedAway call) same = same

pub entries_are : (worker : ℕ) (asked : AskedOfShard) (later : List Deed) (entries : List Entry) → entries_made later ≡ entries →
    entries_made (deeds_asked worker asked ++ later) ≡ entries_asked asked ++ entries
entries_are worker Nothing later entries rest = rest
entries_are worker (Writes entry) later entries rest = ap (λ (list : List Entry). entry ∷ list) rest
entries_are worker (TurnedAway call) later entries rest = rest

-- ---- events of one worker

abbrev pub AreOwn : ℕ → List SystemEvent → Type 0
AreOwn worker events = AllByRecursion (λ (event : SystemEvent). is_event_of worker event ≡ true) events

pub own_stay : (worker : ℕ) (events : List SystemEvent) → AreOwn worker events → filter (is_event_of worker) events ≡ events
own_stay worker [] own = refl
own_stay worker (event ∷ events) own =
    ap (λ (test : Bool). cond test (event ∷ filter (is_event_of worker) events) (filter (is_event_of worker) events)) own.0
    ∙ ap (λ (list : List SystemEvent). event ∷ list) (own_stay worker events own.1)

another : (worker other one : ℕ) → other ≢ worker → (one == worker) ≡ true → (one == other) ≡ false
another worker other one apart is =
    ne_eqb one other (λ same. apart (sym same ∙ eqb-true one worker is))

pub not_anothers : (worker other : ℕ) (event : SystemEvent) → other ≢ worker → is_event_of worker event ≡ true → is_event_of other event ≡ false
not_anothers worker other (BeginsRun one frame now told) apart is = another worker other one apart is
not_anothers worker other (DoesInstruction one) apart is = another worker other one apart is
not_anothers worker other (CallsShard one) apart is = another worker other one apart is
not_anothers worker other (LeavesShard one shard) apart is = another worker other one apart is
not_anothers worker other (Controls call) apart is = refl
not_anothers worker other (Reclaims shard) apart is = refl

pub own_go : (worker other : ℕ) (events : List SystemEvent) → other ≢ worker → AreOwn worker events → filter (is_event_of other) events ≡ []
own_go worker other [] apart own = refl
own_go worker other (event ∷ events) apart own =
    ap (λ (test : Bool). cond test (event ∷ filter (is_event_of other) events) (filter (is_event_of other) events))
    (not_anothers worker other event apart own.0)
    ∙ own_go worker other events apart own.1

-- ---- what is asked of a shard changes no worker

pub asked_workers : (system : SystemState) (asked : AskedOfShard) → (after_asked system asked).workers ≡ system.workers
asked_workers system Nothing = refl
asked_workers system (Writes entry) = refl
asked_workers system (TurnedAway call) = refl

asked_histories : (system : SystemState) (worker : ℕ) (now : WorkerState) (asked : AskedOfShard) →
    (after_asked (with_worker system worker now) asked).histories ≡ (after_asked system asked).histories
asked_histories system worker now Nothing = refl
asked_histories system worker now (Writes entry) = refl
asked_histories system worker now (TurnedAway call) = refl

asked_with : (setting : Setting) (system : SystemState) (worker : ℕ) (now : WorkerState) (asked : AskedOfShard) →
    IsAskedSo setting system asked → IsAskedSo setting (with_worker system worker now) asked
asked_with setting system worker now Nothing is = tt
asked_with setting system worker now (Writes entry) is = record { plan = is.plan; known = is.known; room = is.room; replied = is.replied }
asked_with setting system worker now (TurnedAway call) is = record { plan = is.plan; known = is.known; full = is.full }

same_asked : (worker : ℕ) (one other : AskedOfShard) (deed : Deed) → deeds_asked worker one ≡ deed ∷ [] →
    deeds_asked worker other ≡ deed ∷ [] → one ≡ other
same_asked worker Nothing other deed is also = absurd cc
same_asked worker (Writes entry) Nothing deed is also = absurd cc
same_asked worker (Writes entry) (Writes another) deed is also =
    let first : Wrote entry ≡ deed = cc in let second : Wrote another ≡ deed = cc in let same : entry ≡ another = cc in ap Writes same
same_asked worker (Writes entry) (TurnedAway call) deed is also =
    let first : Wrote entry ≡ deed = cc in let second : MetFull (Worker worker) call ≡ deed = cc in absurd cc
same_asked worker (TurnedAway call) Nothing deed is also = absurd cc
same_asked worker (TurnedAway call) (Writes entry) deed is also =
    let first : MetFull (Worker worker) call ≡ deed = cc in let second : Wrote entry ≡ deed = cc in absurd cc
same_asked worker (TurnedAway call) (TurnedAway another) deed is also =
    let first : MetFull (Worker worker) call ≡ deed = cc in let second : MetFull (Worker worker) another ≡ deed = cc in let same : call ≡ another = cc in
    ap TurnedAway same

-- ---- up to a worker's next deed

pub record Advance (setting : Setting) (count worker : ℕ) (before : SystemState) (moves : List Move) (asked : AskedOfShard)
    (later : List Deed) (ends : List Ending) : Type 0
  where
    pub done : List Move
    pub rest : List Move
    pub parts : events_of moves ≡ events_of done ++ events_of rest
    pub own : AreOwn worker (events_of done)
    pub after : SystemState
    pub happen : HappenFrom setting before (events_of done) after
    pub written : AreWrittenInOrder setting before (events_of done) (entries_asked asked)
    pub histories : after.histories ≡ (after_asked before asked).histories
    pub eight : length after.workers ≡ length before.workers
    pub others : (other : ℕ) → other ≢ worker → worker_state after other ≡ worker_state before other
    pub rest_ends : List Ending
    pub ended : ended_by setting worker before (events_of done) ++ rest_ends ≡ ends
    pub walk : Walk setting count worker (worker_state after worker) rest rest_ends
    pub deeds : deeds_in worker rest ≡ later

-- an event that asks nothing, and then the rest
over_one : (setting : Setting) (count worker : ℕ) (before : SystemState) (move : Move) (moves : List Move) (asked : AskedOfShard)
    (later : List Deed) (next : WorkerState) (here ends : List Ending) → move.asked ≡ Nothing → worker < length before.workers →
    IsMove setting worker (worker_state before worker) move next → ending_in setting worker before move.event ≡ here →
    Advance setting count worker (with_worker before worker next) moves asked later ends →
    Advance setting count worker before (move ∷ moves) asked later (here ++ ends)
over_one setting count worker before move moves asked later next here ends none few means end rest =
    let quiet : IsAskedSo setting before move.asked = subst (λ (one : AskedOfShard). IsAskedSo setting before one) (sym none) tt in
    let leads : after_event setting before move.event ≡ with_worker before worker next =
    means.leads before refl quiet ∙ ap (λ (one : AskedOfShard). with_worker (after_asked before one) worker next) none in
    record {
      done = move ∷ rest.done;
      rest = rest.rest;
      parts = ap (λ (list : List SystemEvent). move.event ∷ list) rest.parts;
      own = (means.own, rest.own);
      after = rest.after;
      happen = (
        means.can before refl quiet,
        subst (λ here. HappenFrom setting here (events_of rest.done) rest.after) (sym leads) rest.happen,
      );
      written = (
        [],
        entries_asked asked,
        refl,
        ap (λ (system : SystemState). system.histories) leads,
        subst (λ here. AreWrittenInOrder setting here (events_of rest.done) (entries_asked asked)) (sym leads) rest.written,
      );
      histories = rest.histories ∙ asked_histories before worker next asked;
      eight = rest.eight ∙ length-set before.workers worker next;
      others = λ other apart. rest.others other apart ∙ state_elsewhere before worker other next apart;
      rest_ends = rest.rest_ends;
      ended = ap (λ (first : List Ending). (first ++ ended_by setting worker (after_event setting before move.event) (events_of rest.done)) ++ rest.rest_ends) end
          ∙ ap (λ (one : SystemState). (here ++ ended_by setting worker one (events_of rest.done)) ++ rest.rest_ends) leads
          ∙ append_assoc here (ended_by setting worker (with_worker before worker next) (events_of rest.done)) rest.rest_ends
          ∙ ap (λ (list : List Ending). here ++ list) rest.ended;
      walk = rest.walk;
      deeds = rest.deeds;
    }

-- the event that does the deed
the_deed : (setting : Setting) (count worker : ℕ) (before : SystemState) (move : Move) (moves : List Move) (asked : AskedOfShard)
    (later : List Deed) (next : WorkerState) (here ends : List Ending) → move.asked ≡ asked → worker < length before.workers →
    IsMove setting worker (worker_state before worker) move next → ending_in setting worker before move.event ≡ here →
    IsAskedSo setting before asked → Walk setting count worker next moves ends → deeds_in worker moves ≡ later →
    Advance setting count worker before (move ∷ moves) asked later (here ++ ends)
the_deed setting count worker before move moves asked later next here ends same few means end asks walk deeds =
    let so : IsAskedSo setting before move.asked = subst (λ (one : AskedOfShard). IsAskedSo setting before one) (sym same) asks in
    let workers : (after_asked before asked).workers ≡ before.workers = asked_workers before asked in
    let leads : after_event setting before move.event ≡ with_worker (after_asked before asked) worker next =
    means.leads before refl so ∙ ap (λ (one : AskedOfShard). with_worker (after_asked before one) worker next) same in
    let room : worker < length (after_asked before asked).workers = subst (λ list. worker < length list) (sym workers) few in
    record {
      done = move ∷ [];
      rest = moves;
      parts = refl;
      own = (means.own, tt);
      after = with_worker (after_asked before asked) worker next;
      happen = (means.can before refl so, leads);
      written = (
        entries_asked asked,
        [],
        sym (append-nil (entries_asked asked)),
        asked_written before (after_event setting before move.event) asked (ap (λ (system : SystemState). system.histories) leads),
        refl,
      );
      histories = refl;
      eight = length-set (after_asked before asked).workers worker next ∙ ap length workers;
      others = λ other apart. state_elsewhere (after_asked before asked) worker other next apart
          ∙ ap (λ list. worker_state (record { workers = list; histories = before.histories }) other) workers;
      rest_ends = ends;
      ended = ap (λ (first : List Ending). (first ++ []) ++ ends) end ∙ ap (λ (list : List Ending). list ++ ends) (append-nil here);
      walk = subst (λ one. Walk setting count worker one moves ends) (sym (state_there (after_asked before asked) worker next room)) walk;
      deeds = deeds;
    }

by_deed : (setting : Setting) (count worker : ℕ) (asked : AskedOfShard) (later : List Deed) (move : Move) (moves : List Move)
    (before : SystemState) → worker < length before.workers → IsAskedSo setting before asked →
    (steps : AreSteps setting count worker (worker_state before worker) (move ∷ moves) Idle) → move.asked ≡ asked → deeds_in worker moves ≡ later →
    Advance setting count worker before (move ∷ moves) asked later (ends_in setting count worker (worker_state before worker) (move ∷ moves) Idle steps)
by_deed setting count worker asked later move moves before few asks steps same rest =
    let so : IsAskedSo setting before move.asked = subst (λ (one : AskedOfShard). IsAskedSo setting before one) (sym same) asks in
    the_deed setting count worker before move moves asked later steps.0 (ends_of_asked setting (worker_state before worker) move.event move.asked)
    (ends_in setting count worker steps.0 moves Idle steps.2) same few
    (steps_are_moves setting count worker (worker_state before worker) move steps.0 steps.1)
    (end_is setting count worker (worker_state before worker) move steps.0 steps.1 before refl so) asks
    (record { steps = steps.2; ends_are = refl }) rest

abbrev AdvancesFrom : Setting → ℕ → ℕ → AskedOfShard → Deed → List Deed → List Move → List Ending → SystemState → Type 0
AdvancesFrom setting count worker asked deed later moves ends before =
    worker < length before.workers → deeds_asked worker asked ≡ deed ∷ [] → IsAskedSo setting before asked →
    deeds_in worker moves ≡ deed ∷ later → Walk setting count worker (worker_state before worker) moves ends →
    Advance setting count worker before moves asked later ends

advance_by : (setting : Setting) (count worker : ℕ) (asked : AskedOfShard) (deed : Deed) (later : List Deed) (move : Move)
    (moves : List Move) (before : SystemState) →
    ((onward : SystemState) (ends : List Ending) → AdvancesFrom setting count worker asked deed later moves ends onward) →
    worker < length before.workers → deeds_asked worker asked ≡ deed ∷ [] → IsAskedSo setting before asked →
    deeds_in worker (move ∷ moves) ≡ deed ∷ later → (steps : AreSteps setting count worker (worker_state before worker) (move ∷ moves) Idle) →
    (own : AskedOfShard) → move.asked ≡ own →
    Advance setting count worker before (move ∷ moves) asked later (ends_in setting count worker (worker_state before worker) (move ∷ moves) Idle steps)
advance_by setting count worker asked deed later move moves before onward few one asks made steps Nothing is =
    let quiet : IsAskedSo setting before move.asked = subst (λ (one : AskedOfShard). IsAskedSo setting before one) (sym is) tt in
    let rest : List Ending = ends_in setting count worker steps.0 moves Idle steps.2 in
    over_one setting count worker before move moves asked later steps.0 (ends_of_asked setting (worker_state before worker) move.event move.asked) rest is few
    (steps_are_moves setting count worker (worker_state before worker) move steps.0 steps.1)
    (end_is setting count worker (worker_state before worker) move steps.0 steps.1 before refl quiet)
    (onward (with_worker before worker steps.0) rest
    (subst (λ (n : ℕ). worker < n) (sym (length-set before.workers worker steps.0)) few) one
    (asked_with setting before worker steps.0 asked asks)
    (ap (λ (own : AskedOfShard). deeds_asked worker own ++ deeds_in worker moves) (sym is) ∙ made)
    (subst (λ here. Walk setting count worker here moves rest) (sym (state_there before worker steps.0 few))
    (record { steps = steps.2; ends_are = refl })))
advance_by setting count worker asked deed later move moves before onward few one asks made steps (Writes entry) is =
    let all : Wrote entry ∷ deeds_in worker moves ≡ deed ∷ later =
    ap (λ (own : AskedOfShard). deeds_asked worker own ++ deeds_in worker moves) (sym is) ∙ made in
    let same : Wrote entry ≡ deed = cc in
    let rest : deeds_in worker moves ≡ later = cc in
    by_deed setting count worker asked later move moves before few asks steps
    (is ∙ same_asked worker (Writes entry) asked deed (ap (λ (one : Deed). one ∷ []) same) one) rest
advance_by setting count worker asked deed later move moves before onward few one asks made steps (TurnedAway call) is =
    let all : MetFull (Worker worker) call ∷ deeds_in worker moves ≡ deed ∷ later =
    ap (λ (own : AskedOfShard). deeds_asked worker own ++ deeds_in worker moves) (sym is) ∙ made in
    let same : MetFull (Worker worker) call ≡ deed = cc in
    let rest : deeds_in worker moves ≡ later = cc in
    by_deed setting count worker asked later move moves before few asks steps
    (is ∙ same_asked worker (TurnedAway call) asked deed (ap (λ (one : Deed). one ∷ []) same) one) rest

pub advance : (setting : Setting) (count worker : ℕ) (asked : AskedOfShard) (deed : Deed) (later : List Deed) (moves : List Move)
    (before : SystemState) (ends : List Ending) → AdvancesFrom setting count worker asked deed later moves ends before
advance setting count worker asked deed later [] before ends few one asks made walk = absurd cc
advance setting count worker asked deed later (move ∷ moves) before ends few one asks made walk =
    subst (λ (list : List Ending). Advance setting count worker before (move ∷ moves) asked later list) walk.ends_are
    (advance_by setting count worker asked deed later move moves before
    (λ onward. advance setting count worker asked deed later moves onward) few one asks made walk.steps move.asked refl)

-- ---- a worker without further deeds

pub record RunsOut (setting : Setting) (worker : ℕ) (before : SystemState) (moves : List Move) (ends : List Ending) : Type 0 where
  pub own : AreOwn worker (events_of moves)
  pub after : SystemState
  pub happen : HappenFrom setting before (events_of moves) after
  pub written : AreWrittenInOrder setting before (events_of moves) []
  pub histories : after.histories ≡ before.histories
  pub eight : length after.workers ≡ length before.workers
  pub others : (other : ℕ) → other ≢ worker → worker_state after other ≡ worker_state before other
  pub ended : ended_by setting worker before (events_of moves) ≡ ends
  pub idle : worker_state after worker ≡ Idle

abbrev RunsOutFrom : Setting → ℕ → ℕ → List Move → List Ending → SystemState → Type 0
RunsOutFrom setting count worker moves ends before =
    worker < length before.workers → deeds_in worker moves ≡ [] → Walk setting count worker (worker_state before worker) moves ends →
    RunsOut setting worker before moves ends

out_by : (setting : Setting) (count worker : ℕ) (move : Move) (moves : List Move) (before : SystemState) →
    ((onward : SystemState) (ends : List Ending) → RunsOutFrom setting count worker moves ends onward) → worker < length before.workers →
    deeds_in worker (move ∷ moves) ≡ [] → (steps : AreSteps setting count worker (worker_state before worker) (move ∷ moves) Idle) →
    (own : AskedOfShard) → move.asked ≡ own →
    RunsOut setting worker before (move ∷ moves) (ends_in setting count worker (worker_state before worker) (move ∷ moves) Idle steps)
out_by setting count worker move moves before onward few none steps Nothing is =
    let means : IsMove setting worker (worker_state before worker) move steps.0 =
    steps_are_moves setting count worker (worker_state before worker) move steps.0 steps.1 in
    let quiet : IsAskedSo setting before move.asked = subst (λ (one : AskedOfShard). IsAskedSo setting before one) (sym is) tt in
    let leads : after_event setting before move.event ≡ with_worker before worker steps.0 =
    means.leads before refl quiet ∙ ap (λ (one : AskedOfShard). with_worker (after_asked before one) worker steps.0) is in
    let ends : List Ending = ends_in setting count worker steps.0 moves Idle steps.2 in
    let rest : RunsOut setting worker (with_worker before worker steps.0) moves ends =
    onward (with_worker before worker steps.0) ends
    (subst (λ (n : ℕ). worker < n) (sym (length-set before.workers worker steps.0)) few)
    (ap (λ (own : AskedOfShard). deeds_asked worker own ++ deeds_in worker moves) (sym is) ∙ none)
    (subst (λ here. Walk setting count worker here moves ends) (sym (state_there before worker steps.0 few))
    (record { steps = steps.2; ends_are = refl })) in
    record {
      own = (means.own, rest.own);
      after = rest.after;
      happen = (means.can before refl quiet, subst (λ here. HappenFrom setting here (events_of moves) rest.after) (sym leads) rest.happen);
      written = (
        [],
        [],
        refl,
        ap (λ (system : SystemState). system.histories) leads,
        subst (λ here. AreWrittenInOrder setting here (events_of moves) []) (sym leads) rest.written,
      );
      histories = rest.histories;
      eight = rest.eight ∙ length-set before.workers worker steps.0;
      others = λ other apart. rest.others other apart ∙ state_elsewhere before worker other steps.0 apart;
      ended = ap (λ (first : List Ending). first ++ ended_by setting worker (after_event setting before move.event) (events_of moves))
          (end_is setting count worker (worker_state before worker) move steps.0 steps.1 before refl quiet)
          ∙ ap (λ (one : SystemState). ends_of_asked setting (worker_state before worker) move.event move.asked ++ ended_by setting worker one (events_of moves)) leads
          ∙ ap (λ (list : List Ending). ends_of_asked setting (worker_state before worker) move.event move.asked ++ list) rest.ended;
      idle = rest.idle;
    }
out_by setting count worker move moves before onward few none steps (Writes entry) is =
    let some : Wrote entry ∷ deeds_in worker moves ≡ [] =
    ap (λ (own : AskedOfShard). deeds_asked worker own ++ deeds_in worker moves) (sym is) ∙ none in
    absurd cc
out_by setting count worker move moves before onward few none steps (TurnedAway call) is =
    let some : MetFull (Worker worker) call ∷ deeds_in worker moves ≡ [] =
    ap (λ (own : AskedOfShard). deeds_asked worker own ++ deeds_in worker moves) (sym is) ∙ none in
    absurd cc

pub runs_out : (setting : Setting) (count worker : ℕ) (moves : List Move) (before : SystemState) (ends : List Ending) →
    RunsOutFrom setting count worker moves ends before
runs_out setting count worker [] before ends few none walk = record {
  own = tt;
  after = before;
  happen = refl;
  written = refl;
  histories = refl;
  eight = refl;
  others = λ other apart. refl;
  ended = walk.ends_are;
  idle = walk.steps;
}
runs_out setting count worker (move ∷ moves) before ends few none walk =
    subst (λ (list : List Ending). RunsOut setting worker before (move ∷ moves) list) walk.ends_are
    (out_by setting count worker move moves before (λ onward. runs_out setting count worker moves onward) few none walk.steps move.asked refl)
