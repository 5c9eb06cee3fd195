-- Each run inside has room for its Leave.
use Rattle.std.proofs.Common.{◌≡◌, ℕ, ◌+◌, ◌<◌, ◌≤◌, Bool, true, false, cond, nat_lt, List, [], ◌∷◌, length, reverse, get_or, set, arith, refl, ◌∙◌, ap, subst}
use Rattle.std.specs.Prelude.{◌==◌, count_by, IsTrue, IsFalse}
use Rattle.std.proofs.lemmas.List.{set_past, length-reverse}
use Rattle.std.proofs.lemmas.List.Sums.{sum_by-set}
use Rattle.std.proofs.lemmas.Bool.Decides.{nat_tests}
use Rattle.semantics.specs.declared.call.Caller.{Caller}
use Rattle.semantics.specs.declared.call.Caller.TheVariants.{Worker, Controller, Reclaimer}
use Rattle.semantics.specs.declared.call.Call.{Call}
use Rattle.semantics.specs.declared.call.Call.TheVariants.{Enter, Leave, Lookup, Load, Store, Atomic, Update, Delete, Reclaim}
use Rattle.semantics.specs.declared.call.Reply.{Reply}
use Rattle.semantics.specs.declared.call.Entry.{Entry}
use Rattle.semantics.specs.declared.plan.ShardPlan.{ShardPlan}
use Rattle.semantics.specs.Reclamation.{is_inside, inside_count}
use Rattle.semantics.specs.History.{shard_of_call, is_inside_worker, meets_part, meets, journal_is_full, IsLegalHistory}
use Rattle.semantics.proofs.shared.ConditionLemmas.{first_true, second_true}
use Rattle.shard_core.proofs.FlagLemmas.{inside_flags, with_flag, KeepsSections, inside_flags_kept, inside_flags_entered, inside_flags_left, inside_flags-at}

-- one flag set is one more at most
one_more : (who : Caller) (flags : List Bool) → count_by (λ flag. flag) (with_flag who true flags) ≤ count_by (λ flag. flag) flags + 1
one_more Controller flags = omega arith
one_more Reclaimer flags = omega arith
one_more (Worker number) flags = by_place (nat_lt number (length flags)) refl
  where
    by_place : (test : Bool) → nat_lt number (length flags) ≡ test →
        count_by (λ flag. flag) (set flags number true) ≤ count_by (λ flag. flag) flags + 1
    by_place true is =
        let within : number < length flags = grind (arith, nat_tests) in
        let changed : count_by (λ flag. flag) (set flags number true) + cond (get_or flags number false) 1 0 ≡ count_by (λ flag. flag) flags
        + 1 = sum_by-set (λ flag. cond flag 1 0) flags number true false within in
        omega (arith, changed)
    by_place false is =
        let past : length flags ≤ number = grind (arith, nat_tests) in
        let same : set flags number true ≡ flags = set_past flags number true past in
        let counted : count_by (λ flag. flag) (set flags number true) ≡ count_by (λ flag. flag) flags =
        ap (λ fs. count_by (λ flag. flag) fs) same in
        omega (arith, counted)

-- a flag that is set and then cleared is one less
one_less : (number : ℕ) (flags : List Bool) → number < length flags → get_or flags number false ≡ true →
    count_by (λ flag. flag) (set flags number false) + 1 ≡ count_by (λ flag. flag) flags
one_less number flags within was_set =
    let at_flag : Bool → Type 0 = λ flag. count_by (λ one. one) (set flags number false) + cond flag 1 0 ≡ count_by (λ one. one) flags +
    0 in
    let changed : count_by (λ one. one) (set flags number false) + 1 ≡ count_by (λ one. one) flags + 0 =
    subst at_flag was_set (sum_by-set (λ flag. cond flag 1 0) flags number false false within) in
    omega (arith, changed)

left_worker : (plan : ShardPlan) (who : Caller) (shard : ℕ) (reply : Reply) (older : List Entry) → plan.workers ≤ 8 →
    IsTrue (is_inside_worker plan older who) → inside_count (record { who = who; call = Leave shard; reply = reply } ∷ older) +
    1 ≡ inside_count older
left_worker plan Controller shard reply older few met = cc
left_worker plan Reclaimer shard reply older few met = cc
left_worker plan (Worker number) shard reply older few met =
    let known : IsTrue (nat_lt number plan.workers) = first_true (nat_lt number plan.workers) (is_inside number older) met in
    let below : number < 8 = grind (arith, nat_tests) in
    let inside : is_inside number older ≡ true = second_true (nat_lt number plan.workers) (is_inside number older) met in
    ap (λ fs. count_by (λ flag. flag) fs + 1) (inside_flags_left (Worker number) shard reply older)
    ∙ one_less number (inside_flags older) below (inside_flags-at number older below ∙ inside)

not_over : (reserve needed : ℕ) → IsFalse (nat_lt reserve needed) → needed ≤ reserve
not_over reserve needed room = grind (arith, nat_tests)

-- a call that is no Enter and no Leave
room_at_other : (plan : ShardPlan) (who : Caller) (call : Call) (reply : Reply) (older : List Entry) → KeepsSections call →
    IsFalse (nat_lt plan.reserve (length older + inside_count older + 0 + 1)) →
    length older + 1 + inside_count (record { who = who; call = call; reply = reply } ∷ older) ≤ plan.reserve
room_at_other plan who call reply older keeps room =
    let at_most : length older + inside_count older + 0 + 1 ≤ plan.reserve = not_over _ _ room in
    let counted : inside_count (record { who = who; call = call; reply = reply } ∷ older) ≡ inside_count older =
    ap (λ flags. count_by (λ flag. flag) flags) (inside_flags_kept who call reply older keeps) in
    omega (arith, at_most, counted)

-- what one legal step leaves of the room
room_kept : (plan : ShardPlan) (who : Caller) (call : Call) (reply : Reply) (older : List Entry) → plan.workers ≤ 8 →
    IsTrue (meets_part plan older who call) → IsFalse (journal_is_full plan older call) → length older + inside_count older ≤ plan.reserve →
    length older + 1 + inside_count (record { who = who; call = call; reply = reply } ∷ older) ≤ plan.reserve
room_kept plan who (Enter shard) reply older few met room before =
    let at_most : length older + inside_count older + 1 + 1 ≤ plan.reserve = not_over _ _ room in
    let entered : inside_count (record { who = who; call = Enter shard; reply = reply } ∷ older) ≡ count_by (λ flag. flag)
    (with_flag who true (inside_flags older)) = ap (λ flags. count_by (λ flag. flag) flags)
    (inside_flags_entered who shard reply older) in
    let more : count_by (λ flag. flag) (with_flag who true (inside_flags older)) ≤ inside_count older + 1 =
    one_more who (inside_flags older) in
    omega (arith, at_most, entered, more)
room_kept plan who (Leave shard) reply older few met room before =
    let less : inside_count (record { who = who; call = Leave shard; reply = reply } ∷ older) + 1 ≡ inside_count older =
    left_worker plan who shard reply older few met in
    omega (arith, less, before)
room_kept plan who (Lookup shard key) reply older few met room before =
    room_at_other plan who (Lookup shard key) reply older (λ place entered. refl) room
room_kept plan who (Load cell offset size) reply older few met room before =
    room_at_other plan who (Load cell offset size) reply older (λ place entered. refl) room
room_kept plan who (Store cell offset size value) reply older few met room before =
    room_at_other plan who (Store cell offset size value) reply older (λ place entered. refl) room
room_kept plan who (Atomic cell offset size op value expected) reply older few met room before =
    room_at_other plan who (Atomic cell offset size op value expected) reply older (λ place entered. refl) room
room_kept plan who (Update shard key value flags) reply older few met room before =
    room_at_other plan who (Update shard key value flags) reply older (λ place entered. refl) room
room_kept plan who (Delete shard key) reply older few met room before =
    room_at_other plan who (Delete shard key) reply older (λ place entered. refl) room
room_kept plan who (Reclaim shard) reply older few met room before =
    room_at_other plan who (Reclaim shard) reply older (λ place entered. refl) room

-- a legal history has room for each run inside
pub legal_has_room : (plan : ShardPlan) (history : List Entry) → plan.workers ≤ 8 → IsLegalHistory plan history →
    length history + inside_count history ≤ plan.reserve
legal_has_room plan [] few legal = omega arith
legal_has_room plan (entry ∷ older) few legal =
    let kept : length older + 1 + inside_count (entry ∷ older) ≤ plan.reserve =
    room_kept plan entry.who entry.call entry.reply older few
    (second_true (shard_of_call entry.call == plan.number) (meets_part plan older entry.who entry.call) legal.0.step.met) legal.0.room
    (legal_has_room plan older few legal.1) in
    omega (arith, kept)

-- with a worker inside some flag is set
some_inside : (worker : ℕ) (history : List Entry) → worker < 8 → IsTrue (is_inside worker history) → 1 ≤ inside_count history
some_inside worker history below inside =
    let less : count_by (λ flag. flag) (set (inside_flags history) worker false) + 1 ≡ inside_count history =
    one_less worker (inside_flags history) below (inside_flags-at worker history below ∙ inside) in
    omega (arith, less)

pub leave_has_room : (plan : ShardPlan) (journal : List Entry) (worker : ℕ) → plan.workers ≤ 8 → worker < 8 →
    IsLegalHistory plan (reverse journal) → IsTrue (is_inside worker (reverse journal)) → length journal < plan.reserve
leave_has_room plan journal worker few below legal inside =
    let room : length (reverse journal) + inside_count (reverse journal) ≤ plan.reserve = legal_has_room plan (reverse journal) few legal in
    let some : 1 ≤ inside_count (reverse journal) = some_inside worker (reverse journal) below inside in
    let counted : length (reverse journal) ≡ length journal = length-reverse journal in
    omega (arith, room, some, counted)

-- a call that is served finds room for its entry
pub served_has_room : (plan : ShardPlan) (journal : List Entry) (who : Caller) (call : Call) → plan.workers ≤ 8 →
    IsLegalHistory plan (reverse journal) → IsTrue (meets plan (reverse journal) who call) →
    IsFalse (journal_is_full plan (reverse journal) call) → length journal < plan.reserve
served_has_room plan journal who call few legal met room =
    let counted : length (reverse journal) ≡ length journal = length-reverse journal in
    by_call call (second_true (shard_of_call call == plan.number) (meets_part plan (reverse journal) who call) met) room
  where
    by_leave : (who : Caller) → IsTrue (is_inside_worker plan (reverse journal) who) → length journal < plan.reserve
    by_leave Controller met = cc
    by_leave Reclaimer met = cc
    by_leave (Worker number) met =
        let known : IsTrue (nat_lt number plan.workers) =
        first_true (nat_lt number plan.workers) (is_inside number (reverse journal)) met in
        let below : number < 8 = grind (arith, nat_tests) in
        leave_has_room plan journal number few below legal
        (second_true (nat_lt number plan.workers) (is_inside number (reverse journal)) met)

    by_room : (more : ℕ) → IsFalse (nat_lt plan.reserve (length (reverse journal) + inside_count (reverse journal) + more + 1)) →
        length journal < plan.reserve
    by_room more room =
        let at_most : length (reverse journal) + inside_count (reverse journal) + more + 1 ≤ plan.reserve = not_over _ _ room in
        let counted : length (reverse journal) ≡ length journal = length-reverse journal in
        omega (arith, at_most, counted)

    by_call : (call : Call) → IsTrue (meets_part plan (reverse journal) who call) → IsFalse (journal_is_full plan (reverse journal) call) →
        length journal < plan.reserve
    by_call (Enter shard) met room = by_room 1 room
    by_call (Leave shard) met room = by_leave who met
    by_call (Lookup shard key) met room = by_room 0 room
    by_call (Load cell offset size) met room = by_room 0 room
    by_call (Store cell offset size value) met room = by_room 0 room
    by_call (Atomic cell offset size op value expected) met room = by_room 0 room
    by_call (Update shard key value flags) met room = by_room 0 room
    by_call (Delete shard key) met room = by_room 0 room
    by_call (Reclaim shard) met room = by_room 0 room
