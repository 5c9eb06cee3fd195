-- How the epochs of places, and of those who are inside, follow the journal, and what they say of retired cells.
use Rattle.std.proofs.Common.{◌≡◌, ℕ, zero, suc, ◌+◌, ◌<◌, ◌≤◌, Bool, true, false, not, ◌&&◌, nat_lt, List, [], ◌∷◌, length, map, get_or, set, Option, Some, None, arith, refl, sym, ◌∙◌, ap}
use Rattle.std.specs.Prelude.{count_by, is_some, option_map, if◌then◌else◌}
use Rattle.std.specs.List.{list_all, AllByRecursion}
use Rattle.std.proofs.lemmas.Bool.{lt-ltb, ltb-true, le-ltb, ltb-false}
use Rattle.std.proofs.lemmas.List.Folds.{list_all-map}
use Rattle.semantics.specs.declared.call.Caller.{Caller}
use Rattle.semantics.specs.declared.call.Caller.TheVariants.{Worker}
use Rattle.semantics.specs.declared.call.Call.{Call}
use Rattle.semantics.specs.declared.call.Call.TheVariants.{Enter, Leave, Lookup, Load, Store, Atomic, Update, Delete, Reclaim}
use Rattle.semantics.specs.declared.call.Reply.{Reply}
use Rattle.semantics.specs.declared.call.Entry.{Entry}
use Rattle.semantics.specs.declared.call.SectionChange.{SectionChange}
use Rattle.semantics.specs.declared.call.SectionChange.TheVariants as section
use Rattle.semantics.specs.declared.plan.ShardPlan.{ShardPlan}
use Rattle.semantics.specs.declared.plan.PresentKey.{PresentKey}
use Rattle.semantics.specs.declared.plan.RetiredCell.{RetiredCell}
use Rattle.semantics.specs.Sections.{section_change}
use Rattle.semantics.specs.Reclamation.{is_worker, entered_where, entered_by, entered_at, is_inside, worker_numbers, inside_count, began_after, is_reclaimable}
use Rattle.semantics.specs.SequentialShard.{SequentialShard, cell_of_key, without_found, with_new_key, with_value, update_answer, delete_answer, present_key, shard_after_call, shard_after}
use Rattle.semantics.proofs.shared.LawLemmas.{updated_where-keeps, after_eviction-keeps}
use Rattle.semantics.proofs.shared.HoldingLemmas.{each_weaker}
use Rattle.semantics.proofs.shared.UseLemmas.{first_parts}
use Rattle.shard_core.specs.Sections.{ReaderEpochs, epoch_of, with_next_epoch, retires, one_where, epoch_at, entered_epochs, readers_of}
use Rattle.shard_core.proofs.FlagLemmas.{KeepsSections}
use Rattle.shard_core.proofs.StateLemmas.{apart_after}

-- ---- the epoch of a place

at_most_one : (test : Bool) → one_where test ≤ 1
at_most_one true = omega arith
at_most_one false = omega arith

both_true : (first second : Bool) → first ≡ true → second ≡ true → one_where (first && second) ≡ 1
both_true true true a b = refl
both_true true false a b = cc
both_true false second a b = cc

-- an entry leaves the epochs of the places up to its own
pub epoch_before : (plan : ShardPlan) (entry : Entry) (older : List Entry) (place : ℕ) → place ≤ length older → epoch_at plan (entry ∷ older) place ≡ epoch_at plan older place
epoch_before plan entry older place before = rw (le-ltb (length older) place before) (omega arith)

pub epoch_grows : (plan : ShardPlan) (history : List Entry) (early late : ℕ) → early ≤ late → epoch_at plan history early ≤ epoch_at plan history late
epoch_grows plan [] early late ordered = omega arith
epoch_grows plan (entry ∷ older) early late ordered =
    by_tests (nat_lt (length older) early) (nat_lt (length older) late) (retires plan older entry.call) refl refl (epoch_grows plan older early late ordered)
  where
    by_tests : (first second goes : Bool) → nat_lt (length older) early ≡ first → nat_lt (length older) late ≡ second → epoch_at plan older early ≤ epoch_at plan older late
        → epoch_at plan older early + one_where (first && goes) ≤ epoch_at plan older late + one_where (second && goes)
    by_tests false second goes a b rest = omega (arith, rest)
    by_tests true true goes a b rest = omega (arith, rest)
    by_tests true false goes a b rest =
        let above : length older < early = ltb-true (length older) early a in
        let below : late ≤ length older = ltb-false (length older) late b in
        absurd (omega (arith, above, below, ordered))

-- past the last entry all places are of the present epoch
epoch_past : (plan : ShardPlan) (history : List Entry) (place : ℕ) → length history ≤ place → epoch_at plan history place ≡ epoch_at plan history (length history)
epoch_past plan [] place past = refl
epoch_past plan (entry ∷ older) place past =
    let later : nat_lt (length older) place ≡ true = lt-ltb (length older) place (omega (arith, past)) in
    let last : nat_lt (length older) (suc (length older)) ≡ true = lt-ltb (length older) (suc (length older)) (omega arith) in
    rw (later, last) (ap (λ n. n + one_where (retires plan older entry.call)) (epoch_past plan older place (omega (arith, past)) ∙ sym (epoch_past plan older (suc (length older)) (omega arith))))

-- a retirement ends the present epoch, and nothing else does
pub present_after : (plan : ShardPlan) (entry : Entry) (older : List Entry) → epoch_at plan (entry ∷ older) (length (entry ∷ older)) ≡ epoch_at plan older (length older) + one_where (retires plan older entry.call)
present_after plan entry older =
    let last : nat_lt (length older) (suc (length older)) ≡ true = lt-ltb (length older) (suc (length older)) (omega arith) in
    rw last (ap (λ n. n + one_where (retires plan older entry.call)) (epoch_past plan older (suc (length older)) (omega arith)))

pub epochs_are_few : (plan : ShardPlan) (history : List Entry) (place : ℕ) → epoch_at plan history place ≤ length history
epochs_are_few plan [] place = omega arith
epochs_are_few plan (entry ∷ older) place =
    let rest = epochs_are_few plan older place in
    let one = at_most_one (nat_lt (length older) place && retires plan older entry.call) in
    omega (arith, rest, one)

-- ---- a retired cell's place ends an epoch

-- every later place is of a later epoch
abbrev pub EndsEpoch : ShardPlan → List Entry → RetiredCell → Type 0
EndsEpoch plan history gone = (place : ℕ) → gone.since < place → epoch_at plan history gone.since < epoch_at plan history place

-- a fact of each retired cell holds after a change too, if it holds of a cell that the change retires
abbrev KeepsRetired : (RetiredCell → Type 0) → ℕ → SequentialShard → SequentialShard → Type 0
KeepsRetired P place before after =
    (nat_lt (length before.retired) (length after.retired) ≡ true → (cell : ℕ) → P (record { cell = cell; since = place })) → AllByRecursion P after.retired

kept_without_found : (P : RetiredCell → Type 0) (place : ℕ) (shard : SequentialShard) (gone : Option PresentKey) → AllByRecursion P shard.retired → KeepsRetired P place shard (without_found shard place gone)
kept_without_found P place shard None each = λ new. each
kept_without_found P place shard (Some gone) each = λ new. (new (lt-ltb (length shard.retired) (suc (length shard.retired)) (omega arith)) gone.cell, each)

kept_with_value : (P : RetiredCell → Type 0) (plan : ShardPlan) (history : List Entry) (shard : SequentialShard) (key value : List ℕ) (cell : Option ℕ) → AllByRecursion P shard.retired
    → KeepsRetired P (length history) shard (with_value plan history shard key value cell)
kept_with_value P plan history shard key value (Some cell) each = λ new. each
kept_with_value P plan history shard key value None each =
    after_eviction-keeps (λ after. KeepsRetired P (length history) shard (with_new_key after key value)) plan history shard (λ gone is. kept_without_found P (length history) shard gone each) (λ new. each)

kept_after_call : (P : RetiredCell → Type 0) (plan : ShardPlan) (history : List Entry) (shard : SequentialShard) (call : Call) → AllByRecursion P shard.retired
    → KeepsRetired P (length history) shard (shard_after_call plan history shard call)
kept_after_call P plan history shard (Enter number) each = λ new. each
kept_after_call P plan history shard (Leave number) each = λ new. each
kept_after_call P plan history shard (Lookup number key) each = λ new. each
kept_after_call P plan history shard (Load cell offset size) each = λ new. each
kept_after_call P plan history shard (Store cell offset size value) each = λ new. each
kept_after_call P plan history shard (Atomic cell offset size op value expected) each = λ new. each
kept_after_call P plan history shard (Update number key value flags) each =
    updated_where-keeps (KeepsRetired P (length history) shard) (update_answer plan shard key flags) (with_value plan history shard key value (cell_of_key plan shard key)) shard
    (kept_with_value P plan history shard key value (cell_of_key plan shard key) each) (λ new. each)
kept_after_call P plan history shard (Delete number key) each =
    updated_where-keeps (KeepsRetired P (length history) shard) (delete_answer plan shard key) (without_found shard (length history) (present_key shard key)) shard
    (kept_without_found P (length history) shard (present_key shard key) each) (λ new. each)
kept_after_call P plan history shard (Reclaim number) each = λ new. first_parts P (λ (gone : RetiredCell). not (is_reclaimable history gone)) shard.retired each

pub each_of_both : {A : Type 0} (P Q : A → Type 0) (xs : List A) → AllByRecursion P xs → AllByRecursion Q xs → AllByRecursion (λ x. P x × Q x) xs
each_of_both P Q [] first second = tt
each_of_both P Q (x ∷ xs) first second = ((first.0, second.0), each_of_both P Q xs first.1 second.1)

still_ends : (plan : ShardPlan) (entry : Entry) (older : List Entry) (gone : RetiredCell) → (gone.since < length older) × EndsEpoch plan older gone → EndsEpoch plan (entry ∷ older) gone
still_ends plan entry older gone was = λ place later.
    let before : gone.since < length older = was.0 in
    let same = epoch_before plan entry older gone.since (omega (arith, before)) in
    let ended = was.1 place later in
    omega (arith, same, ended)

now_ends : (plan : ShardPlan) (entry : Entry) (older : List Entry) (cell : ℕ) → retires plan older entry.call ≡ true → EndsEpoch plan (entry ∷ older) (record { cell = cell; since = length older })
now_ends plan entry older cell goes = λ place later.
    let same = epoch_before plan entry older (length older) (omega arith) in
    let grows = epoch_grows plan older (length older) place (omega (arith, later)) in
    let one = both_true (nat_lt (length older) place) (retires plan older entry.call) (lt-ltb (length older) place later) goes in
    omega (arith, same, grows, one)

pub epochs_end : (plan : ShardPlan) (history : List Entry) → AllByRecursion (EndsEpoch plan history) (shard_after plan history).retired
epochs_end plan [] = tt
epochs_end plan (entry ∷ older) =
    kept_after_call (EndsEpoch plan (entry ∷ older)) plan older (shard_after plan older) entry.call
    (each_weaker (λ (gone : RetiredCell). (gone.since < length older) × EndsEpoch plan older gone) (EndsEpoch plan (entry ∷ older)) (still_ends plan entry older) (shard_after plan older).retired
    (each_of_both (λ (gone : RetiredCell). gone.since < length older) (EndsEpoch plan older) (shard_after plan older).retired (apart_after plan older).since (epochs_end plan older)))
    (λ goes cell. now_ends plan entry older cell goes)

-- stamps are at most the present epoch
pub stamps_given : (plan : ShardPlan) (history : List Entry) → AllByRecursion (λ (gone : RetiredCell). epoch_at plan history gone.since ≤ epoch_at plan history (length history)) (shard_after plan history).retired
stamps_given plan history =
    each_weaker (λ (gone : RetiredCell). gone.since < length history) (λ (gone : RetiredCell). epoch_at plan history gone.since ≤ epoch_at plan history (length history))
    (λ gone before. epoch_grows plan history gone.since (length history) (omega (arith, before))) (shard_after plan history).retired (apart_after plan history).since

-- ---- the epochs of those who are inside

abbrev IsBefore : ℕ → Option ℕ → Type 0
IsBefore count (Some place) = place < count
IsBefore count None = Unit {0}

before_later : (count : ℕ) (place : Option ℕ) → IsBefore count place → IsBefore (suc count) place
before_later count None before = tt
before_later count (Some place) before = omega (arith, before)

entered_before : (worker : ℕ) (history : List Entry) → IsBefore (length history) (entered_at worker history)
entered_before worker [] = tt
entered_before worker (entry ∷ older) = by_own (is_worker worker entry.who) (section_change entry.call) (entered_before worker older)
  where
    by_own : (own : Bool) (change : SectionChange) → IsBefore (length older) (entered_at worker older)
        → IsBefore (suc (length older)) (if own then entered_where change (length older) (entered_at worker older) else entered_at worker older)
    by_own true section.Begins before = omega arith
    by_own true section.Ends before = tt
    by_own true section.Stays before = before_later (length older) (entered_at worker older) before
    by_own false change before = before_later (length older) (entered_at worker older) before

each_same : (f g : ℕ → Option ℕ) → ((n : ℕ) → f n ≡ g n) → (ns : List ℕ) → map f ns ≡ map g ns
each_same f g same [] = refl
each_same f g same (n ∷ ns) = rw (same n) (rw (each_same f g same ns) refl)

-- an entry leaves the epochs of those who entered before it
entered_epochs_before : (plan : ShardPlan) (entry : Entry) (older : List Entry) → entered_epochs (epoch_at plan (entry ∷ older)) older ≡ entered_epochs (epoch_at plan older) older
entered_epochs_before plan entry older =
    each_same (λ worker. option_map (epoch_at plan (entry ∷ older)) (entered_at worker older)) (λ worker. option_map (epoch_at plan older) (entered_at worker older))
    (λ worker. by_place (entered_at worker older) (entered_before worker older)) worker_numbers
  where
    by_place : (place : Option ℕ) → IsBefore (length older) place → option_map (epoch_at plan (entry ∷ older)) place ≡ option_map (epoch_at plan older) place
    by_place None before = refl
    by_place (Some place) before = ap Some (epoch_before plan entry older place (omega (arith, before)))

entered_at_kept : (worker : ℕ) (who : Caller) (call : Call) (reply : Reply) (older : List Entry) → KeepsSections call →
    entered_at worker (record { who = who; call = call; reply = reply } ∷ older) ≡ entered_at worker older
entered_at_kept worker who call reply older keeps = by_own (is_worker worker who)
  where
    by_own : (own : Bool) → (if own then entered_by call (length older) (entered_at worker older) else entered_at worker older) ≡ entered_at worker older
    by_own true = keeps (length older) (entered_at worker older)
    by_own false = refl

-- the readers after a call that neither begins nor ends a section
abbrev pub with_retirement : Bool → ReaderEpochs → ReaderEpochs
with_retirement true readers = with_next_epoch readers
with_retirement false readers = readers

pub readers_kept : (plan : ShardPlan) (who : Caller) (call : Call) (reply : Reply) (older : List Entry) → KeepsSections call →
    readers_of plan (record { who = who; call = call; reply = reply } ∷ older) ≡ with_retirement (retires plan older call) (readers_of plan older)
readers_kept plan who call reply older keeps =
    let entry : Entry = record { who = who; call = call; reply = reply } in
    let same : entered_epochs (epoch_at plan (entry ∷ older)) (entry ∷ older) ≡ entered_epochs (epoch_at plan older) older =
    each_same (λ worker. option_map (epoch_at plan (entry ∷ older)) (entered_at worker (entry ∷ older))) (λ worker. option_map (epoch_at plan (entry ∷ older)) (entered_at worker older))
    (λ worker. ap (option_map (epoch_at plan (entry ∷ older))) (entered_at_kept worker who call reply older keeps)) worker_numbers
    ∙ entered_epochs_before plan entry older in
    rw (present_after plan entry older, same) (by_goes (retires plan older call))
  where
    by_goes : (goes : Bool) → record { present = epoch_at plan older (length older) + one_where goes; epochs = entered_epochs (epoch_at plan older) older } ≡ with_retirement goes (readers_of plan older)
    by_goes true = refl
    by_goes false = (let none : epoch_at plan older (length older) + 0 ≡ epoch_at plan older (length older) = omega arith in
        ap (λ n. record { present = n; epochs = entered_epochs (epoch_at plan older) older }) none)

-- an Enter sets its worker's epoch, a Leave clears it
entered_begun : (epochs : ℕ → ℕ) (number shard : ℕ) (reply : Reply) (older : List Entry) → number < 8 →
    entered_epochs epochs (record { who = Worker number; call = Enter shard; reply = reply } ∷ older) ≡ set (entered_epochs epochs older) number (Some (epochs (length older)))
entered_begun epochs zero shard reply older below = refl
entered_begun epochs (suc zero) shard reply older below = refl
entered_begun epochs (suc (suc zero)) shard reply older below = refl
entered_begun epochs (suc (suc (suc zero))) shard reply older below = refl
entered_begun epochs (suc (suc (suc (suc zero)))) shard reply older below = refl
entered_begun epochs (suc (suc (suc (suc (suc zero))))) shard reply older below = refl
entered_begun epochs (suc (suc (suc (suc (suc (suc zero)))))) shard reply older below = refl
entered_begun epochs (suc (suc (suc (suc (suc (suc (suc zero))))))) shard reply older below = refl
entered_begun epochs (suc (suc (suc (suc (suc (suc (suc (suc more)))))))) shard reply older below = absurd (omega (arith, below))

entered_ended : (epochs : ℕ → ℕ) (number shard : ℕ) (reply : Reply) (older : List Entry) → number < 8 →
    entered_epochs epochs (record { who = Worker number; call = Leave shard; reply = reply } ∷ older) ≡ set (entered_epochs epochs older) number None
entered_ended epochs zero shard reply older below = refl
entered_ended epochs (suc zero) shard reply older below = refl
entered_ended epochs (suc (suc zero)) shard reply older below = refl
entered_ended epochs (suc (suc (suc zero))) shard reply older below = refl
entered_ended epochs (suc (suc (suc (suc zero)))) shard reply older below = refl
entered_ended epochs (suc (suc (suc (suc (suc zero))))) shard reply older below = refl
entered_ended epochs (suc (suc (suc (suc (suc (suc zero)))))) shard reply older below = refl
entered_ended epochs (suc (suc (suc (suc (suc (suc (suc zero))))))) shard reply older below = refl
entered_ended epochs (suc (suc (suc (suc (suc (suc (suc (suc more)))))))) shard reply older below = absurd (omega (arith, below))

-- neither retires a cell
retires_none : (plan : ShardPlan) (older : List Entry) (after : SequentialShard) → after ≡ shard_after plan older → nat_lt (length (shard_after plan older).retired) (length after.retired) ≡ false
retires_none plan older after same = rw same (le-ltb (length (shard_after plan older).retired) (length (shard_after plan older).retired) (omega arith))

pub readers_begun : (plan : ShardPlan) (number shard : ℕ) (reply : Reply) (older : List Entry) → number < 8 →
    readers_of plan (record { who = Worker number; call = Enter shard; reply = reply } ∷ older)
    ≡ record (readers_of plan older) { epochs = set (readers_of plan older).epochs number (Some (readers_of plan older).present) }
readers_begun plan number shard reply older below =
    let entry : Entry = record { who = Worker number; call = Enter shard; reply = reply } in
    let stays : retires plan older (Enter shard) ≡ false = retires_none plan older (shard_after plan older) refl in
    let present : epoch_at plan (entry ∷ older) (length (entry ∷ older)) ≡ epoch_at plan older (length older) = present_after plan entry older ∙ rw stays (omega arith) in
    let epochs : entered_epochs (epoch_at plan (entry ∷ older)) (entry ∷ older) ≡ set (entered_epochs (epoch_at plan older) older) number (Some (epoch_at plan older (length older))) =
    entered_begun (epoch_at plan (entry ∷ older)) number shard reply older below
    ∙ ap (λ all. set all number (Some (epoch_at plan (entry ∷ older) (length older)))) (entered_epochs_before plan entry older)
    ∙ ap (λ epoch. set (entered_epochs (epoch_at plan older) older) number (Some epoch)) (epoch_before plan entry older (length older) (omega arith)) in
    rw (present, epochs) refl

pub readers_ended : (plan : ShardPlan) (number shard : ℕ) (reply : Reply) (older : List Entry) → number < 8 →
    readers_of plan (record { who = Worker number; call = Leave shard; reply = reply } ∷ older)
    ≡ record (readers_of plan older) { epochs = set (readers_of plan older).epochs number None }
readers_ended plan number shard reply older below =
    let entry : Entry = record { who = Worker number; call = Leave shard; reply = reply } in
    let stays : retires plan older (Leave shard) ≡ false = retires_none plan older (shard_after plan older) refl in
    let present : epoch_at plan (entry ∷ older) (length (entry ∷ older)) ≡ epoch_at plan older (length older) = present_after plan entry older ∙ rw stays (omega arith) in
    let epochs : entered_epochs (epoch_at plan (entry ∷ older)) (entry ∷ older) ≡ set (entered_epochs (epoch_at plan older) older) number None =
    entered_ended (epoch_at plan (entry ∷ older)) number shard reply older below
    ∙ ap (λ all. set all number None) (entered_epochs_before plan entry older) in
    rw (present, epochs) refl

-- ---- who is inside

-- a worker's epoch
pub epoch_is : (epochs : ℕ → ℕ) (worker : ℕ) (history : List Entry) → worker < 8 → get_or (entered_epochs epochs history) worker None ≡ option_map epochs (entered_at worker history)
epoch_is epochs zero history below = refl
epoch_is epochs (suc zero) history below = refl
epoch_is epochs (suc (suc zero)) history below = refl
epoch_is epochs (suc (suc (suc zero))) history below = refl
epoch_is epochs (suc (suc (suc (suc zero)))) history below = refl
epoch_is epochs (suc (suc (suc (suc (suc zero))))) history below = refl
epoch_is epochs (suc (suc (suc (suc (suc (suc zero)))))) history below = refl
epoch_is epochs (suc (suc (suc (suc (suc (suc (suc zero))))))) history below = refl
epoch_is epochs (suc (suc (suc (suc (suc (suc (suc (suc more)))))))) history below = absurd (omega (arith, below))

some_same : (epochs : ℕ → ℕ) (place : Option ℕ) → is_some (option_map epochs place) ≡ is_some place
some_same epochs None = refl
some_same epochs (Some place) = refl

pub inside_by_epoch : (plan : ShardPlan) (worker : ℕ) (history : List Entry) → worker < 8 → is_some (epoch_of (readers_of plan history) worker) ≡ is_inside worker history
inside_by_epoch plan worker history below = ap is_some (epoch_is (epoch_at plan history) worker history below) ∙ some_same (epoch_at plan history) (entered_at worker history)

none_where : (place : Option ℕ) → is_some place ≡ false → place ≡ None
none_where None is = refl
none_where (Some place) is = cc

pub outside_by_epoch : (plan : ShardPlan) (worker : ℕ) (history : List Entry) → worker < 8 → is_inside worker history ≡ false → epoch_of (readers_of plan history) worker ≡ None
outside_by_epoch plan worker history below outside = none_where (epoch_of (readers_of plan history) worker) (inside_by_epoch plan worker history below ∙ outside)

-- how many are inside
pub inside_count_by_epoch : (plan : ShardPlan) (history : List Entry) → count_by is_some (readers_of plan history).epochs ≡ inside_count history
inside_count_by_epoch plan history =
    let same : (worker : ℕ) → is_some (option_map (epoch_at plan history) (entered_at worker history)) ≡ is_inside worker history = λ worker. some_same (epoch_at plan history) (entered_at worker history) in
    rw (same 0, same 1, same 2, same 3, same 4, same 5, same 6, same 7) refl

-- ---- what was retired before the floor

-- every worker inside entered after the stamp's epoch
abbrev pub IsFloorOf : ReaderEpochs → ℕ → Type 0
IsFloorOf readers floor = (stamp : ℕ) → stamp < readers.present → nat_lt stamp floor ≡ list_all (began_after stamp) readers.epochs

began_same : (plan : ShardPlan) (history : List Entry) (gone : RetiredCell) → EndsEpoch plan history gone → (place : Option ℕ) →
    began_after (epoch_at plan history gone.since) (option_map (epoch_at plan history) place) ≡ began_after gone.since place
began_same plan history gone ends None = refl
began_same plan history gone ends (Some place) = by_test (nat_lt gone.since place) refl
  where
    by_test : (test : Bool) → nat_lt gone.since place ≡ test → nat_lt (epoch_at plan history gone.since) (epoch_at plan history place) ≡ test
    by_test true is = lt-ltb (epoch_at plan history gone.since) (epoch_at plan history place) (ends place (ltb-true gone.since place is))
    by_test false is = le-ltb (epoch_at plan history gone.since) (epoch_at plan history place) (epoch_grows plan history place gone.since (ltb-false gone.since place is))

all_same : (p q : ℕ → Bool) → ((n : ℕ) → p n ≡ q n) → (ns : List ℕ) → list_all p ns ≡ list_all q ns
all_same p q same [] = refl
all_same p q same (n ∷ ns) = rw (same n) (rw (all_same p q same ns) refl)

-- a stamp is below the floor exactly where every worker inside has its Enter after the retirement's place
pub floor_tells : (plan : ShardPlan) (history : List Entry) (floor : ℕ) (gone : RetiredCell) → IsFloorOf (readers_of plan history) floor → gone.since < length history → EndsEpoch plan history gone →
    nat_lt (epoch_at plan history gone.since) floor ≡ is_reclaimable history gone
floor_tells plan history floor gone is before ends =
    is (epoch_at plan history gone.since) (ends (length history) before)
    ∙ list_all-map (began_after (epoch_at plan history gone.since)) (λ worker. option_map (epoch_at plan history) (entered_at worker history)) worker_numbers
    ∙ all_same (λ worker. began_after (epoch_at plan history gone.since) (option_map (epoch_at plan history) (entered_at worker history))) (λ worker. began_after gone.since (entered_at worker history))
    (λ worker. began_same plan history gone ends (entered_at worker history)) worker_numbers
