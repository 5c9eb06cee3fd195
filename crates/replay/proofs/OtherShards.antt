-- Shards with journals of different room that had the same calls, but for those of the reclaimer behind a journal that was full for it.
use Rattle.std.proofs.Common.{◌≡◌, ◌⊎◌, inl, inr, ℕ, zero, suc, ◌+◌, ◌<◌, ◌≤◌, ◌==◌, ℤ, Bool, true, false, cond, List, [], ◌∷◌, ◌++◌, Some, length, reverse, map, refl, sym, ap, ◌∙◌, subst, arith, append-nil}
use Rattle.std.specs.Prelude.{slice_get, slice_set, nat_lt, IsFalse, is_some, if◌then◌else◌, count_by}
use Rattle.std.proofs.lemmas.Bool.{ne_eqb, cases_eq}
use Rattle.std.proofs.lemmas.Bool.Decides.{nat_tests}
use Rattle.std.proofs.lemmas.List.Sums.{sum_by-cons}
use Rattle.std.proofs.lemmas.List.{reverse-append, length-append, length-reverse}
use Rattle.semantics.specs.declared.call.Caller.TheVariants.{Worker, Controller, Reclaimer}
use Rattle.semantics.specs.declared.call.Call.{Call}
use Rattle.semantics.specs.declared.call.Call.TheVariants.{Enter, Leave, Lookup, Load, Store, Atomic, Update, Delete, Reclaim}
use Rattle.semantics.specs.declared.call.Reply.{Reply}
use Rattle.semantics.specs.declared.call.Reply.TheVariants.{Answer, Freed}
use Rattle.semantics.specs.declared.call.Entry.{Entry}
use Rattle.semantics.specs.declared.call.SectionChange.{SectionChange}
use Rattle.semantics.specs.declared.call.SectionChange.TheVariants.{Stays}
use Rattle.semantics.specs.declared.linux.UpdateFlags.TheVariants.{Any}
use Rattle.semantics.specs.declared.plan.ShardPlan.{ShardPlan}
use Rattle.semantics.specs.Linux.{flags_number}
use Rattle.semantics.specs.Sections.{section_change}
use Rattle.semantics.specs.History.{IsLegalJournal, journal_is_full, lacks_room, room_for_leave, entry_of}
use Rattle.semantics.specs.Reclamation.{is_worker, is_inside, entered_by, entered_at, inside_count, worker_numbers}
use Rattle.semantics.specs.SequentialShard.{update_answer}
use Rattle.shard_core.specs.JournaledShard.{JournaledShard, state_of, sequential_reply}
use Rattle.shard_core.specs.Calls.{IsFullFor, shard_with_call, shard_update_call, reclaim_call}
use Rattle.shards.specs.NewShards.{shard_at}
use Rattle.shard_port.specs.Asking.{is_in, enter_by, leave_by, entering, entered, left, asked_entry, EntersAndCalls}
use Rattle.shard_port.specs.PortView.{IsRunCall}
use Rattle.replay.specs.InTurn.{IsAskedInTurn}
use Rattle.replay.proofs.OneCommand.{newest_step}
use Rattle.replay.proofs.OtherPlans.{IsSamePlan, replies_alike}

-- ---- a shard whose journal has room for no call more

abbrev pub IsOver : JournaledShard → Type 0
IsOver shard = shard.plan.reserve ≤ length shard.journal

no_room : (reserve entries inside : ℕ) → reserve ≤ entries → nat_lt reserve (entries + inside + 0 + 1) ≡ false → ⊥
no_room reserve entries inside over fits =
    let room : entries + inside + 0 + 1 ≤ reserve = grind (arith, nat_tests) in
    omega (arith, over, room)

-- no call but an Enter or a Leave is served there, and no Enter either
over_refuses : (shard : JournaledShard) (call : Call) → IsOver shard → section_change call ≡ Stays →
    IsFalse (journal_is_full shard.plan (reverse shard.journal) call) → ⊥
over_refuses shard call over stays fits =
    let history : List Entry = reverse shard.journal in
    let test : nat_lt shard.plan.reserve (length history + inside_count history + 0 + 1) ≡ false =
    subst (λ (change : SectionChange). lacks_room change shard.plan (length history + inside_count history + room_for_leave change + 1) ≡ false) stays fits in
    let many : length history ≡ length shard.journal = length-reverse shard.journal in
    no_room shard.plan.reserve (length history) (inside_count history) (subst (λ (n : ℕ). shard.plan.reserve ≤ n) (sym many) over) test

-- a call of a run
run_stays : (call : Call) → IsRunCall call → section_change call ≡ Stays
run_stays (Enter number) may = absurd may
run_stays (Leave number) may = absurd may
run_stays (Reclaim number) may = absurd may
run_stays (Lookup number key) may = refl
run_stays (Load cell offset size) may = refl
run_stays (Store cell offset size value) may = refl
run_stays (Atomic cell offset size op value expected) may = refl
run_stays (Update number key value flags) may = refl
run_stays (Delete number key) may = refl

longer : (reserve : ℕ) (journal more : List Entry) → reserve ≤ length journal → reserve ≤ length (journal ++ more)
longer reserve journal more over = let both = length-append journal more in omega (arith, both, over)

-- ---- who is inside

-- an entry of another caller
others_entry : (worker : ℕ) (journal : List Entry) (entry : Entry) → is_worker worker entry.who ≡ false →
    is_inside worker (reverse (journal ++ entry ∷ [])) ≡ is_inside worker (reverse journal)
others_entry worker journal entry other =
    ap (is_inside worker) (reverse-append journal (entry ∷ []))
    ∙ ap (λ (own : Bool). is_some (if own then entered_by entry.call (length (reverse journal)) (entered_at worker (reverse journal))
    else entered_at worker (reverse journal))) other

not_worker : (worker other : ℕ) → (worker ≡ other → ⊥) → is_worker worker (Worker other) ≡ false
not_worker worker other apart = ne_eqb other worker (λ same. apart (sym same))

-- nobody is inside
abbrev pub IsOutside : JournaledShard → Type 0
IsOutside shard = (worker : ℕ) → is_in worker shard ≡ false

-- nobody but this worker
abbrev pub IsOutsideBut : ℕ → JournaledShard → Type 0
IsOutsideBut busy shard = (worker : ℕ) → (worker ≡ busy → ⊥) → is_in worker shard ≡ false

abbrev as_number : Bool → ℕ
as_number is = cond is 1 0

none_count : (test : ℕ → Bool) (numbers : List ℕ) → ((number : ℕ) → test number ≡ false) → count_by test numbers ≡ 0
none_count test [] none = refl
none_count test (number ∷ later) none =
    let rest : count_by test later ≡ 0 = none_count test later none in
    let first : as_number (test number) ≡ 0 = ap as_number (none number) in
    let both : count_by test (number ∷ later) ≡ as_number (test number) + count_by test later =
    sum_by-cons (λ (n : ℕ). as_number (test n)) number later in
    omega (arith, first, rest, both)

-- a shard without anybody inside that is full for a Reclaim is over
full_is_over : (shard : JournaledShard) → IsOutside shard → IsFullFor shard (reclaim_call shard) → IsOver shard
full_is_over shard outside full =
    let history : List Entry = reverse shard.journal in
    let none : inside_count history ≡ 0 = none_count (λ (worker : ℕ). is_inside worker history) worker_numbers outside in
    let test : nat_lt shard.plan.reserve (length history + inside_count history + 0 + 1) ≡ true = full in
    let many : length history ≡ length shard.journal = length-reverse shard.journal in
    let more : shard.plan.reserve < length history + inside_count history + 0 + 1 = grind (arith, nat_tests) in
    omega (arith, none, many, more)

-- ---- two shards

-- they have one plan but for the room, and one journal, unless one of them is over
pub record AreAlike (P : JournaledShard → Type 0) (one other : JournaledShard) : Type 0 where
  pub plan : IsSamePlan one.plan other.plan
  pub journals : (one.journal ≡ other.journal) ⊎ (IsOver one ⊎ IsOver other)
  pub first : P one
  pub second : P other

pub same_number : (one other : ShardPlan) → IsSamePlan one other → one.number ≡ other.number
same_number one other same = sym (ap (λ (plan : ShardPlan). plan.number) same)

-- of two calls that were both served neither shard was over
if_served : {R : Type 0} (one other : JournaledShard) → (one.journal ≡ other.journal) ⊎ (IsOver one ⊎ IsOver other) → (IsOver one → ⊥) → (IsOver other → ⊥) →
    (one.journal ≡ other.journal → R) → R
if_served one other (inl same) open_one open_other so = so same
if_served one other (inr (inl over)) open_one open_other so = absurd (open_one over)
if_served one other (inr (inr over)) open_one open_other so = absurd (open_other over)

-- ---- a call of a worker

-- the journal once the worker has entered
abbrev entered_journal : ℕ → ℕ → List Entry → List Entry
entered_journal worker number journal = journal ++ (if is_inside worker (reverse journal) then [] else enter_by worker number ∷ [])

enters_over : (worker : ℕ) (shard : JournaledShard) (call : Call) (reply : Reply) (new : JournaledShard) → IsRunCall call →
    EntersAndCalls worker shard call reply new → IsOver shard → ⊥
enters_over worker shard call reply new may answered over =
    over_refuses (entered worker shard) call (longer shard.plan.reserve shard.journal (entering worker shard) over) (run_stays call may) answered.room

entered_outside : (busy : ℕ) (shard : JournaledShard) → IsOutsideBut busy shard → IsOutsideBut busy (entered busy shard)
entered_outside busy shard outside worker apart = by_test (is_in busy shard)
  where
    by_test : (inside : Bool) → is_inside worker (reverse (shard.journal ++ (if inside then [] else enter_by busy shard.plan.number ∷ []))) ≡ false
    by_test true = ap (λ (list : List Entry). is_inside worker (reverse list)) (append-nil shard.journal) ∙ outside worker apart
    by_test false = others_entry worker shard.journal (enter_by busy shard.plan.number) (not_worker worker busy apart) ∙ outside worker apart

called_outside : (busy : ℕ) (shard new : JournaledShard) (call : Call) (reply : Reply) → EntersAndCalls busy shard call reply new → IsOutsideBut busy shard →
    IsOutsideBut busy new
called_outside busy shard new call reply answered outside worker apart =
    ap (is_in worker) answered.written
    ∙ others_entry worker (entered busy shard).journal (asked_entry busy call reply) (not_worker worker busy apart)
    ∙ entered_outside busy shard outside worker apart

pub record IsSameReply (P : JournaledShard → Type 0) (reply reply' : Reply) (new new' : JournaledShard) : Type 0 where
  pub replies : reply ≡ reply'
  pub alike : AreAlike P new new'

pub call_alike : (worker : ℕ) (one other new new' : JournaledShard) (call : Call) (reply reply' : Reply) → IsRunCall call →
    AreAlike (IsOutsideBut worker) one other → EntersAndCalls worker one call reply new → EntersAndCalls worker other call reply' new' →
    IsSameReply (IsOutsideBut worker) reply reply' new new'
call_alike worker one other new new' call reply reply' may alike answered answered' =
    if_served one other alike.journals (enters_over worker one call reply new may answered) (enters_over worker other call reply' new' may answered')
    (λ (same : one.journal ≡ other.journal).
    let number : one.plan.number ≡ other.plan.number = same_number one.plan other.plan alike.plan in
    let journals : (entered worker one).journal ≡ (entered worker other).journal =
    ap (entered_journal worker one.plan.number) same ∙ ap (λ (n : ℕ). entered_journal worker n other.journal) number in
    let replied : reply ≡ reply' =
    answered.replied
    ∙ replies_alike one.plan other.plan (reverse (entered worker one).journal) call alike.plan
    ∙ ap (λ (list : List Entry). sequential_reply (record { plan = other.plan; journal = list }) call) journals
    ∙ sym answered'.replied in
    record {
      replies = replied;
      alike = record {
        plan = subst (λ (shard : JournaledShard). IsSamePlan shard.plan new'.plan) (sym answered.written)
            (subst (λ (shard : JournaledShard). IsSamePlan one.plan shard.plan) (sym answered'.written) alike.plan);
        journals = inl
            (ap (λ (shard : JournaledShard). shard.journal) answered.written
            ∙ ap (λ (list : List Entry). list ++ asked_entry worker call reply ∷ []) journals
            ∙ ap (λ (said : Reply). (entered worker other).journal ++ asked_entry worker call said ∷ []) replied
            ∙ ap (λ (shard : JournaledShard). shard.journal) (sym answered'.written));
        first = called_outside worker one new call reply answered alike.first;
        second = called_outside worker other new' call reply' answered' alike.second;
      };
    })

-- ---- leaving

abbrev left_journal : ℕ → ℕ → List Entry → List Entry
left_journal worker number journal = journal ++ (if is_inside worker (reverse journal) then leave_by worker number ∷ [] else [])

left_outside : (busy : ℕ) (shard : JournaledShard) → IsOutsideBut busy shard → IsOutside (left busy shard)
left_outside busy shard outside worker = by_test (is_in busy shard) refl
  where
    same_worker : (busy == busy) ≡ true
    same_worker = grind (arith, nat_tests)

    -- its own Leave is the newest entry
    own : is_inside busy (reverse (shard.journal ++ leave_by busy shard.plan.number ∷ [])) ≡ false
    own =
        ap (is_inside busy) (reverse-append shard.journal (leave_by busy shard.plan.number ∷ []))
        ∙ ap (λ (mine : Bool). is_some (if mine then entered_by (Leave shard.plan.number) (length (reverse shard.journal)) (entered_at busy (reverse shard.journal))
        else entered_at busy (reverse shard.journal))) same_worker

    by_name : (inside : Bool) → is_in busy shard ≡ inside → (worker ≡ busy) ⊎ (worker ≡ busy → ⊥) →
        is_inside worker (reverse (shard.journal ++ (if inside then leave_by busy shard.plan.number ∷ [] else []))) ≡ false
    by_name true is (inl same) =
        ap (λ (n : ℕ). is_inside n (reverse (shard.journal ++ leave_by busy shard.plan.number ∷ []))) same ∙ own
    by_name true is (inr apart) =
        others_entry worker shard.journal (leave_by busy shard.plan.number) (not_worker worker busy apart) ∙ outside worker apart
    by_name false is (inl same) =
        ap (λ (list : List Entry). is_inside worker (reverse list)) (append-nil shard.journal)
        ∙ ap (λ (n : ℕ). is_inside n (reverse shard.journal)) same ∙ is
    by_name false is (inr apart) = ap (λ (list : List Entry). is_inside worker (reverse list)) (append-nil shard.journal) ∙ outside worker apart

    by_test : (inside : Bool) → is_in busy shard ≡ inside →
        is_inside worker (reverse (shard.journal ++ (if inside then leave_by busy shard.plan.number ∷ [] else []))) ≡ false
    by_test inside is = by_name inside is (cases_eq worker busy)

pub left_alike : (worker : ℕ) (one other : JournaledShard) → AreAlike (IsOutsideBut worker) one other →
    AreAlike IsOutside (left worker one) (left worker other)
left_alike worker one other alike = record {
  plan = alike.plan;
  journals = by_case alike.journals;
  first = left_outside worker one alike.first;
  second = left_outside worker other alike.second;
}
  where
    by_case : (one.journal ≡ other.journal) ⊎ (IsOver one ⊎ IsOver other) →
        ((left worker one).journal ≡ (left worker other).journal) ⊎ (IsOver (left worker one) ⊎ IsOver (left worker other))
    by_case (inl same) = inl
        (ap (left_journal worker one.plan.number) same
        ∙ ap (λ (n : ℕ). left_journal worker n other.journal) (same_number one.plan other.plan alike.plan))
    by_case (inr (inl over)) = inr (inl (longer one.plan.reserve one.journal _ over))
    by_case (inr (inr over)) = inr (inr (longer other.plan.reserve other.journal _ over))

pub but_one : (worker : ℕ) (one other : JournaledShard) → AreAlike IsOutside one other → AreAlike (IsOutsideBut worker) one other
but_one worker one other alike = record {
  plan = alike.plan;
  journals = alike.journals;
  first = λ number apart. alike.first number;
  second = λ number apart. alike.second number;
}

-- ---- an update, and a Reclaim

-- the shard behind an update of the controller's
abbrev pub after_update : JournaledShard → List ℕ → List ℕ → ℤ → JournaledShard
after_update shard key value answer = shard_with_call shard Controller (shard_update_call shard key value (flags_number Any)) (Answer answer)

update_step : (shard : JournaledShard) (key value : List ℕ) (answer : ℤ) →
    IsLegalJournal shard.plan (shard_with_call shard Controller (shard_update_call shard key value (flags_number Any)) (Answer answer)).journal → IsOver shard → ⊥
update_step shard key value answer legal over =
    over_refuses shard (shard_update_call shard key value (flags_number Any)) over refl
    (newest_step shard.plan shard.journal (entry_of Controller (shard_update_call shard key value (flags_number Any)) (Answer answer)) legal).room

pub record IsSameAnswer (answer answer' : ℤ) (new new' : JournaledShard) : Type 0 where
  pub answers : answer ≡ answer'
  pub alike : AreAlike IsOutside new new'

pub update_alike : (one other : JournaledShard) (key value : List ℕ) (answer answer' : ℤ) → AreAlike IsOutside one other →
    answer ≡ update_answer one.plan (state_of one) key (flags_number Any) →
    answer' ≡ update_answer other.plan (state_of other) key (flags_number Any) →
    IsLegalJournal one.plan (shard_with_call one Controller (shard_update_call one key value (flags_number Any)) (Answer answer)).journal →
    IsLegalJournal other.plan (shard_with_call other Controller (shard_update_call other key value (flags_number Any)) (Answer answer')).journal →
    IsSameAnswer answer answer' (shard_with_call one Controller (shard_update_call one key value (flags_number Any)) (Answer answer))
    (shard_with_call other Controller (shard_update_call other key value (flags_number Any)) (Answer answer'))
update_alike one other key value answer answer' alike answered answered' legal legal' =
    if_served one other alike.journals (update_step one key value answer legal) (update_step other key value answer' legal')
    (λ (same : one.journal ≡ other.journal).
    let number : one.plan.number ≡ other.plan.number = same_number one.plan other.plan alike.plan in
    let call : Call = Update one.plan.number key value (flags_number Any) in
    let replied : Answer (update_answer one.plan (state_of one) key (flags_number Any)) ≡ Answer (update_answer other.plan (state_of other) key (flags_number Any)) =
    replies_alike one.plan other.plan (reverse one.journal) call alike.plan
    ∙ ap (λ (list : List Entry). sequential_reply (record { plan = other.plan; journal = list }) call) same in
    let by_map : update_answer one.plan (state_of one) key (flags_number Any) ≡ update_answer other.plan (state_of other) key (flags_number Any) = cc in
    let answers_are : answer ≡ answer' = answered ∙ by_map ∙ sym answered' in
    record {
      answers = answers_are;
      alike = record {
        plan = alike.plan;
        journals = inl
            (ap (λ (list : List Entry). list ++ entry_of Controller call (Answer answer) ∷ []) same
            ∙ ap (λ (n : ℕ). other.journal ++ entry_of Controller (Update n key value (flags_number Any)) (Answer answer) ∷ []) number
            ∙ ap (λ (z : ℤ). other.journal ++ entry_of Controller (Update other.plan.number key value (flags_number Any)) (Answer z) ∷ []) answers_are);
        first = λ worker. others_entry worker one.journal (entry_of Controller call (Answer answer)) refl ∙ alike.first worker;
        second = λ worker. others_entry worker other.journal
            (entry_of Controller (Update other.plan.number key value (flags_number Any)) (Answer answer')) refl ∙ alike.second worker;
      };
    })

reclaim_over : (one new : JournaledShard) (freed : ℕ) → new ≡ shard_with_call one Reclaimer (reclaim_call one) (Freed freed) → IsLegalJournal one.plan new.journal →
    IsOver one → ⊥
reclaim_over one new freed is legal over =
    over_refuses one (reclaim_call one) over refl
    (newest_step one.plan one.journal (entry_of Reclaimer (reclaim_call one) (Freed freed))
    (subst (λ (shard : JournaledShard). IsLegalJournal one.plan shard.journal) is legal)).room

reclaim_reply : (one new : JournaledShard) (freed : ℕ) → new ≡ shard_with_call one Reclaimer (reclaim_call one) (Freed freed) → IsLegalJournal one.plan new.journal →
    Freed freed ≡ sequential_reply one (reclaim_call one)
reclaim_reply one new freed is legal =
    (newest_step one.plan one.journal (entry_of Reclaimer (reclaim_call one) (Freed freed))
    (subst (λ (shard : JournaledShard). IsLegalJournal one.plan shard.journal) is legal)).step.replied

reclaimed_outside : (one new : JournaledShard) (freed : ℕ) → new ≡ shard_with_call one Reclaimer (reclaim_call one) (Freed freed) → IsOutside one → IsOutside new
reclaimed_outside one new freed is outside worker =
    ap (is_in worker) is ∙ others_entry worker one.journal (entry_of Reclaimer (reclaim_call one) (Freed freed)) refl ∙ outside worker

pub asked_alike : (one other new new' : JournaledShard) → AreAlike IsOutside one other → IsAskedInTurn one new → IsAskedInTurn other new' →
    AreAlike IsOutside new new'
asked_alike one other new new' alike (inl (freed, is, legal)) (inl (freed', is', legal')) =
    if_served one other alike.journals (reclaim_over one new freed is legal) (reclaim_over other new' freed' is' legal')
    (λ (same : one.journal ≡ other.journal).
    let number : one.plan.number ≡ other.plan.number = same_number one.plan other.plan alike.plan in
    let replied : Freed freed ≡ Freed freed' =
    reclaim_reply one new freed is legal
    ∙ replies_alike one.plan other.plan (reverse one.journal) (reclaim_call one) alike.plan
    ∙ ap (λ (list : List Entry). sequential_reply (record { plan = other.plan; journal = list }) (reclaim_call one)) same
    ∙ ap (λ (n : ℕ). sequential_reply other (Reclaim n)) number
    ∙ sym (reclaim_reply other new' freed' is' legal') in
    record {
      plan = subst (λ (shard : JournaledShard). IsSamePlan shard.plan new'.plan) (sym is)
          (subst (λ (shard : JournaledShard). IsSamePlan one.plan shard.plan) (sym is') alike.plan);
      journals = inl
          (ap (λ (shard : JournaledShard). shard.journal) is
          ∙ ap (λ (list : List Entry). list ++ entry_of Reclaimer (reclaim_call one) (Freed freed) ∷ []) same
          ∙ ap (λ (n : ℕ). other.journal ++ entry_of Reclaimer (Reclaim n) (Freed freed) ∷ []) number
          ∙ ap (λ (said : Reply). other.journal ++ entry_of Reclaimer (reclaim_call other) said ∷ []) replied
          ∙ ap (λ (shard : JournaledShard). shard.journal) (sym is'));
      first = reclaimed_outside one new freed is alike.first;
      second = reclaimed_outside other new' freed' is' alike.second;
    })
asked_alike one other new new' alike (inl (freed, is, legal)) (inr (full, same)) = record {
  plan = subst (λ (shard : JournaledShard). IsSamePlan shard.plan new'.plan) (sym is)
      (subst (λ (shard : JournaledShard). IsSamePlan one.plan shard.plan) (sym same) alike.plan);
  journals = inr (inr (subst IsOver (sym same) (full_is_over other alike.second full)));
  first = reclaimed_outside one new freed is alike.first;
  second = subst IsOutside (sym same) alike.second;
}
asked_alike one other new new' alike (inr (full, same)) (inl (freed', is', legal')) = record {
  plan = subst (λ (shard : JournaledShard). IsSamePlan shard.plan new'.plan) (sym same)
      (subst (λ (shard : JournaledShard). IsSamePlan one.plan shard.plan) (sym is') alike.plan);
  journals = inr (inl (subst IsOver (sym same) (full_is_over one alike.first full)));
  first = subst IsOutside (sym same) alike.first;
  second = reclaimed_outside other new' freed' is' alike.second;
}
asked_alike one other new new' alike (inr (full, same)) (inr (full', same')) =
    subst (λ (shard : JournaledShard). AreAlike IsOutside shard new') (sym same)
    (subst (λ (shard : JournaledShard). AreAlike IsOutside one shard) (sym same') alike)

-- ---- all shards

abbrev pub AreAllAlike : (JournaledShard → Type 0) → List JournaledShard → List JournaledShard → Type 0
AreAllAlike P [] [] = Unit {0}
AreAllAlike P [] (other ∷ others) = ⊥
AreAllAlike P (one ∷ more) [] = ⊥
AreAllAlike P (one ∷ more) (other ∷ others) = AreAlike P one other × AreAllAlike P more others

pub alike_at : (P : JournaledShard → Type 0) (more others : List JournaledShard) (number : ℕ) (one other : JournaledShard) → AreAllAlike P more others →
    slice_get more number ≡ Some one → slice_get others number ≡ Some other → AreAlike P one other
alike_at P [] [] number one other all known known' = absurd cc
alike_at P [] (second ∷ others) number one other all known known' = absurd all
alike_at P (first ∷ more) [] number one other all known known' = absurd all
alike_at P (first ∷ more) (second ∷ others) zero one other all known known' =
    let here : first ≡ one = cc in
    let there : second ≡ other = cc in
    subst (λ (shard : JournaledShard). AreAlike P shard other) here (subst (λ (shard : JournaledShard). AreAlike P first shard) there all.0)
alike_at P (first ∷ more) (second ∷ others) (suc number) one other all known known' = alike_at P more others number one other all.1 known known'

pub alike_set : (P : JournaledShard → Type 0) (more others : List JournaledShard) (number : ℕ) (one other : JournaledShard) → AreAllAlike P more others →
    AreAlike P one other → AreAllAlike P (slice_set more number one) (slice_set others number other)
alike_set P [] [] number one other all alike = tt
alike_set P [] (second ∷ others) number one other all alike = absurd all
alike_set P (first ∷ more) [] number one other all alike = absurd all
alike_set P (first ∷ more) (second ∷ others) zero one other all alike = (alike, all.1)
alike_set P (first ∷ more) (second ∷ others) (suc number) one other all alike = (all.0, alike_set P more others number one other all.1 alike)

pub alike_map : (P Q : JournaledShard → Type 0) (f : JournaledShard → JournaledShard) (more others : List JournaledShard) →
    ((one other : JournaledShard) → AreAlike P one other → AreAlike Q (f one) (f other)) → AreAllAlike P more others →
    AreAllAlike Q (map f more) (map f others)
alike_map P Q f [] [] each all = tt
alike_map P Q f [] (second ∷ others) each all = absurd all
alike_map P Q f (first ∷ more) [] each all = absurd all
alike_map P Q f (first ∷ more) (second ∷ others) each all = (each first second all.0, alike_map P Q f more others each all.1)

pub alike_also : (P Q : JournaledShard → Type 0) (more others : List JournaledShard) →
    ((one other : JournaledShard) → AreAlike P one other → AreAlike Q one other) → AreAllAlike P more others → AreAllAlike Q more others
alike_also P Q [] [] each all = tt
alike_also P Q [] (second ∷ others) each all = absurd all
alike_also P Q (first ∷ more) [] each all = absurd all
alike_also P Q (first ∷ more) (second ∷ others) each all = (each first second all.0, alike_also P Q more others each all.1)

pub alike_count : (P : JournaledShard → Type 0) (more others : List JournaledShard) → AreAllAlike P more others → length more ≡ length others
alike_count P [] [] all = refl
alike_count P [] (second ∷ others) all = absurd all
alike_count P (first ∷ more) [] all = absurd all
alike_count P (first ∷ more) (second ∷ others) all = let rest = alike_count P more others all.1 in omega (arith, rest)

pub kind_there : (P : JournaledShard → Type 0) (more others : List JournaledShard) (number : ℕ) → AreAllAlike P more others →
    (shard_at more number).plan.definition ≡ (shard_at others number).plan.definition
kind_there P [] [] number all = refl
kind_there P [] (second ∷ others) number all = absurd all
kind_there P (first ∷ more) [] number all = absurd all
kind_there P (first ∷ more) (second ∷ others) zero all = sym (ap (λ (plan : ShardPlan). plan.definition) all.0.plan)
kind_there P (first ∷ more) (second ∷ others) (suc number) all = kind_there P more others number all.1
