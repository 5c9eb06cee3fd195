-- Each step keeps the rule.
use Rattle.std.proofs.Common.{◌≡◌, ◌≢◌, ℕ, zero, suc, ◌+◌, ◌*◌, ◌<◌, ◌==◌, cond, Bool, eqb, eqb-true, eq-eqb, ne_eqb, List, [], ◌∷◌, ◌++◌, length, set, true, false, true≢false, refl, sym, ap, ◌∙◌, subst, ⊎_elim, arith, append-nil}
use Rattle.std.specs.Prelude.{slice_index, reverse}
use Rattle.std.proofs.lemmas.List.{length-reverse}
use mathlib.Core.Option.{some, none, some-ne-none, some-injective}
use prog.Atomic.{either}
use lib.ListN.{get_elem?}
use Rattle.atomic_table.specs.Table.{Allows, Splits, Joins, Enters, Me, Act, keeps, takes, gives, step, State, stepped, Valid, carried_after, opening, Final, Seen}
use Rattle.atomic_table.proofs.Lists.{at_set, set_here}
use Rattle.semantics.specs.declared.call.Caller.{Caller}
use Rattle.semantics.specs.declared.call.Entry.{Entry}
use Rattle.semantics.specs.CallerLaws.{own_entries}
use Rattle.semantics.proofs.shared.EachLemmas.{at_snoc}
use Rattle.shards.specs.GuardedView.{KeyedPlan, GuardedView}
use Rattle.shards.specs.declared.rule.Known.{Known}
use Rattle.shards.specs.LockRule.{caller_at, caller_place, dealer_of, visitor_of, nobody, lock_place, IsKnownIn, SeatFits, IsLockRuleKept, one_more, newcomer, MakesVisitor, taking, TakesShard, MarksSleepers, given, GivesShardBack, shard_closed, ClosesShard, visitor_with_caller, visitor_part, pass_part, all_seen, SeesHistory}
use Rattle.shards.specs.Seats.{AreBy}
use Rattle.shards.proofs.Callers.{place_at, own_of_other}

off : false ≡ true → ⊥
off e = true≢false (sym e)

abbrev All : (ℕ → Known → Type 0) → List Known → Type 0
All F views = (id : ℕ) (v : Known) → get_elem? views id ≡ some v → F id v

all_set : (F : ℕ → Known → Type 0) (views : List Known) (id : ℕ) (w : Known) → F id w → ((j : ℕ) (u : Known) → j ≢ id → get_elem? views j ≡ some u → F j u) → All F (set views id w)
all_set F views id w mine others j u e = ⊎_elim (λ (x : (j ≡ id) × (w ≡ u)). subst (λ (y : ℕ × Known). F y.0 y.1) (λ i. (sym x.0 i, x.1 i)) mine)
    (λ (x : (j ≢ id) × (get_elem? views j ≡ some u)). others j u x.0 x.1) (at_set views id j w u e)

all_push : (F : ℕ → Known → Type 0) (views : List Known) (w : Known) → All F views → F (length views) w → All F (views ++ w ∷ [])
all_push F views w were mine j u e = ⊎_elim (λ x. were j u x) (λ (x : (j ≡ length views) × (w ≡ u)). subst (λ (y : ℕ × Known). F y.0 y.1) (λ i. (sym x.0 i, x.1 i)) mine) (at_snoc views w u j e)

-- the seats after one caller's seat has moved
abbrev pub moved : (ℕ → ℕ) → ℕ → ℕ → ℕ → ℕ
moved seat by id b = cond (eqb b by) id (seat b)

pub moved_here : (seat : ℕ → ℕ) (by id : ℕ) → moved seat by id by ≡ id
moved_here seat by id = ap (λ c. cond c id (seat by)) (eq-eqb by by refl)

pub moved_else : (seat : ℕ → ℕ) (by id b : ℕ) → b ≢ by → moved seat by id b ≡ seat b
moved_else seat by id b ne = ap (λ c. cond c id (seat b)) (ne_eqb b by ne)

word_set : (ws : List ℕ) (place n : ℕ) → place < length ws → slice_index (set ws place n) place ≡ n
word_set [] place n h = absurd (omega arith)
word_set (x ∷ xs) zero n h = refl
word_set (x ∷ xs) (suc place) n h = word_set xs place n (omega arith)

words_long : (ws : List ℕ) (place n : ℕ) → length (set ws place n) ≡ length ws
words_long [] place n = refl
words_long (x ∷ xs) zero n = refl
words_long (x ∷ xs) (suc place) n = ap suc (words_long xs place n)

still_long : (ws : List ℕ) (place n : ℕ) → place < length ws → place < length (set ws place n)
still_long ws place n h = (let e = words_long ws place n in omega (arith, e, h))

append_back : (a b c : List Entry) → a ++ (b ++ c) ≡ (a ++ b) ++ c
append_back [] b c = refl
append_back (x ∷ xs) b c = ap (λ y. x ∷ y) (append_back xs b c)

-- ---- seats come

-- nothing has happened, and no seat was dealt
pub begins : (key : KeyedPlan) (words : List ℕ) (shard : GuardedView) → lock_place < length words → slice_index words lock_place ≡ 0 → shard.key ≡ key → shard.journal ≡ [] →
    IsLockRuleKept key (opening words (shard ∷ []) (dealer_of key 0))
begins key words shard some_word zero_word planned unused = record {
  dealer = 0;
  dealt = 0;
  seat = λ _. 0;
  holder = 0;
  phase = 0;
  log = [];
  some_word = some_word;
  counted = zero_word;
  few = omega arith;
  free = λ _. record { shard = shard; there = refl; planned = planned; written = ap reverse unused };
  closed = λ z. absurd (omega (arith, z));
  none_yet = λ who h. refl;
  fits = one;
} where
  one : (id : ℕ) (v : Known) → get_elem? (dealer_of key 0 ∷ []) id ≡ some v → SeatFits key 0 0 (λ _. 0) 0 0 [] id v
  one zero v e = subst (SeatFits key 0 0 (λ _. 0) 0 0 [] 0) (some-injective _ _ e) (record {
    planned = λ _. refl;
    dealing = λ _. record { one = refl; count = refl };
    acting = λ c. absurd (off c);
    holding = λ c. absurd (off c);
    ending = λ c. absurd (off c);
  })
  one (suc id) v e = absurd (some-ne-none v (sym e))

-- a seat for a caller that has none
pub deals : (key : KeyedPlan) (id : ℕ) (v : Known) → v.seated ≡ true → v.deals ≡ true → v.acts ≡ false → v.holds ≡ false → Splits (IsLockRuleKept key) id v (one_more v) (newcomer v)
deals key id v seated knows idle empty s h at =
    let mine = (h.fits id v at).dealing knows in
    let planned = (h.fits id v at).planned seated in
    let new : ℕ = length (set s.views id (one_more v)) in
    let place : caller_place (caller_at v.dealt) ≡ h.dealt = place_at v.dealt ∙ mine.count in
    let seat' = moved h.seat h.dealt new in
    let F : ℕ → Known → Type 0 = SeatFits key h.dealer (suc h.dealt) seat' h.holder h.phase h.log in
    let old : (j : ℕ) (u : Known) → j ≢ id → get_elem? s.views j ≡ some u → F j u = λ j u other e. record {
      planned = (h.fits j u e).planned;
      dealing = λ k. absurd (other (((h.fits j u e).dealing k).one ∙ sym mine.one));
      acting = λ a. let was = (h.fits j u e).acting a in record {
        one = moved_else h.seat h.dealt new (caller_place u.who) (let lt = was.given in omega arith) ∙ was.one;
        given = (let lt = was.given in omega arith);
        known = was.known;
      };
      holding = (h.fits j u e).holding;
      ending = (h.fits j u e).ending;
    } in record {
      dealer = h.dealer;
      dealt = suc h.dealt;
      seat = seat';
      holder = h.holder;
      phase = h.phase;
      log = h.log;
      some_word = h.some_word;
      counted = h.counted;
      few = h.few;
      free = h.free;
      closed = h.closed;
      none_yet = λ who lt. h.none_yet who (omega arith);
      fits = all_push F (set s.views id (one_more v)) (newcomer v)
          (all_set F s.views id (one_more v)
          (record {
            planned = λ _. planned;
            dealing = λ _. record { one = mine.one; count = ap suc mine.count };
            acting = λ a. absurd (off a);
            holding = λ a. absurd (off a);
            ending = λ a. absurd (off a);
          }) old)
          (record {
            planned = λ _. planned;
            dealing = λ k. absurd (off k);
            acting = λ _. record {
              one = ap seat' place ∙ moved_here h.seat h.dealt new;
              given = (let p = place in omega arith);
              known = record { own = sym (h.none_yet (caller_at v.dealt) (let p = place in omega arith)); begins = (h.log, sym (append-nil h.log)) };
            };
            holding = λ k. absurd (off k);
            ending = λ k. absurd (off k);
          });
    }

-- a seat for a visitor
pub comes : (key : KeyedPlan) (slots : ℕ) → Enters (IsLockRuleKept key) slots lock_place (λ n w. MakesVisitor (step slots lock_place 0 0 none) (dealer_of key 0, []) n (w, []))
comes key slots s h l fits = (
  visitor_of key,
  record {
    dealer = h.dealer;
    dealt = h.dealt;
    seat = h.seat;
    holder = h.holder;
    phase = h.phase;
    log = h.log;
    some_word = h.some_word;
    counted = h.counted;
    few = h.few;
    free = h.free;
    closed = h.closed;
    none_yet = h.none_yet;
    fits = all_push (SeatFits key h.dealer h.dealt h.seat h.holder h.phase h.log) s.views (visitor_of key) h.fits
        (record { planned = λ _. refl; dealing = λ k. absurd (off k); acting = λ k. absurd (off k); holding = λ k. absurd (off k); ending = λ k. absurd (off k) });
  },
  refl,
)

-- ---- the lock

-- the word says another phase of the same history, and this seat's view is as it was
same_length : (key : KeyedPlan) (s : State GuardedView Known) (id : ℕ) (v : Known) (n phase : ℕ) (h : IsLockRuleKept key s) → get_elem? s.views id ≡ some v → n ≡ 4 * length h.log + phase → phase < 4
    → (phase ≡ 0 → h.phase ≡ 0) → (phase ≡ 3 → h.phase ≡ 3) → (h.phase ≡ 3 → phase ≡ 3) → (0 < h.phase → h.phase < 3 → (0 < phase) × (phase < 3))
    → IsLockRuleKept key (stepped s lock_place n id [] v keeps)
same_length key s id v n phase h at is few free closed ended now =
    let F : ℕ → Known → Type 0 = SeatFits key h.dealer h.dealt h.seat h.holder phase h.log in
    let one : (j : ℕ) (u : Known) → get_elem? s.views j ≡ some u → F j u = λ j u e. let f = h.fits j u e in record {
      planned = f.planned;
      dealing = f.dealing;
      acting = f.acting;
      holding = λ k. let x = f.holding k in let y = now x.taken x.unclosed in record { one = x.one; taken = y.0; unclosed = y.1; all = x.all };
      ending = λ k. let x = f.ending k in record { closed = ended x.closed; all = x.all };
    } in record {
      dealer = h.dealer;
      dealt = h.dealt;
      seat = h.seat;
      holder = h.holder;
      phase = phase;
      log = h.log;
      some_word = still_long s.words lock_place _ h.some_word;
      counted = word_set s.words lock_place n h.some_word ∙ is;
      few = few;
      free = λ z. h.free (free z);
      closed = λ z. h.closed (closed z);
      none_yet = h.none_yet;
      fits = all_set F s.views id v (one id v at) (λ j u _ e. one j u e);
    }

unchanged : (key : KeyedPlan) (s : State GuardedView Known) (id : ℕ) (v : Known) (h : IsLockRuleKept key s) → get_elem? s.views id ≡ some v →
    IsLockRuleKept key (stepped s lock_place (slice_index s.words lock_place) id [] v keeps)
unchanged key s id v h at = same_length key s id v (slice_index s.words lock_place) h.phase h at h.counted h.few (λ z. z) (λ z. z) (λ z. z) (λ a b. (a, b))

takes_at : (key : KeyedPlan) (slots id : ℕ) (v : Known) (old new phase quarter : ℕ) → v.seated ≡ true → v.holds ≡ false → old ≡ 4 * quarter → new ≡ old + phase → 0 < phase → phase < 3
    → (s : State GuardedView Known) → (h : IsLockRuleKept key s) → get_elem? s.views id ≡ some v → (b : Bool) → (slice_index s.words lock_place == old) ≡ b
    → (w : Known) × (a : Act GuardedView) × Valid s.homes [] a × IsLockRuleKept key (stepped s lock_place (either (slice_index s.words lock_place == old) new (slice_index s.words lock_place)) id [] w a)
    × TakesShard (step slots lock_place old new none) (v, []) (slice_index s.words lock_place) (w, carried_after [] a)
takes_at key slots id v old new phase quarter seated idle quartered taken positive unclosed s h at false is =
    (v, keeps, tt, rw is (unchanged key s id v h at), rw is refl)
takes_at key slots id v old new phase quarter seated idle quartered taken positive unclosed s h at true is =
    let found : slice_index s.words lock_place ≡ old = eqb-true (slice_index s.words lock_place) old is in
    let was_free : h.phase ≡ 0 = (let c = h.counted in let f = h.few in omega (arith, c, f, found, quartered)) in
    let home = h.free was_free in
    let shard = home.shard in
    let f = h.fits id v at in
    let w = taking v (reverse shard.journal) in
    let F : ℕ → Known → Type 0 = SeatFits key h.dealer h.dealt h.seat id phase h.log in (
      w,
      takes 0 shard,
      home.there,
      rw is (record {
        dealer = h.dealer;
        dealt = h.dealt;
        seat = h.seat;
        holder = id;
        phase = phase;
        log = h.log;
        some_word = still_long s.words lock_place _ h.some_word;
        counted = word_set s.words lock_place new h.some_word ∙ (let c = h.counted in omega (arith, c, was_free, found, taken));
        few = omega (arith, unclosed);
        free = λ z. absurd (omega (arith, z, positive));
        closed = λ z. absurd (omega (arith, z, unclosed));
        none_yet = h.none_yet;
        fits = all_set F s.views id w
            (record {
              planned = f.planned;
              dealing = λ k. let d = f.dealing k in record { one = d.one; count = d.count };
              acting = λ k. let a = f.acting k in record { one = a.one; given = a.given; known = record { own = a.known.own; begins = a.known.begins } };
              holding = λ _. record { one = refl; taken = positive; unclosed = unclosed; all = home.written };
              ending = λ k. absurd (let x = (f.ending k).closed in omega (arith, x, was_free));
            })
            (λ j u other e. let g = h.fits j u e in record {
              planned = g.planned;
              dealing = g.dealing;
              acting = g.acting;
              holding = λ k. absurd (let x = (g.holding k).taken in omega (arith, x, was_free));
              ending = λ k. absurd (let x = (g.ending k).closed in omega (arith, x, was_free));
            });
      }),
      rw is (record {
        shard = shard;
        planned = home.planned ∙ sym (f.planned seated);
        has = refl;
        known = λ k. let a = f.acting k in subst (λ (l : List Entry). IsKnownIn l v) (sym home.written) a.known;
      }),
    )

pub takes_lock : (key : KeyedPlan) (slots id : ℕ) (me : Me GuardedView Known) (old new phase quarter : ℕ) → me.1 ≡ [] → me.0.seated ≡ true → me.0.holds ≡ false → old ≡ 4 * quarter → new ≡ old + phase → 0 < phase → phase < 3
    → Allows (IsLockRuleKept key) slots id me lock_place (λ n. either (n == old) new n) (TakesShard (step slots lock_place old new none) me)
takes_lock key slots id me old new phase quarter empty seated idle quartered taken positive unclosed =
    subst (λ c. Allows (IsLockRuleKept key) slots id (me.0, c) lock_place (λ n. either (n == old) new n) (TakesShard (step slots lock_place old new none) (me.0, c))) (sym empty)
    (λ s h l at fits. takes_at key slots id me.0 old new phase quarter seated idle quartered taken positive unclosed s h at (slice_index s.words lock_place == old) refl)

-- others may sleep now
marks_at : (key : KeyedPlan) (slots id : ℕ) (v : Known) (old quarter : ℕ) → old ≡ 4 * quarter + 1
    → (s : State GuardedView Known) → (h : IsLockRuleKept key s) → get_elem? s.views id ≡ some v → (b : Bool) → (slice_index s.words lock_place == old) ≡ b
    → (w : Known) × (a : Act GuardedView) × Valid s.homes [] a × IsLockRuleKept key (stepped s lock_place (either (slice_index s.words lock_place == old) (old + 1) (slice_index s.words lock_place)) id [] w a)
    × MarksSleepers (step slots lock_place old (old + 1) none) (v, []) (slice_index s.words lock_place) (w, carried_after [] a)
marks_at key slots id v old quarter quartered s h at false is = (v, keeps, tt, rw is (unchanged key s id v h at), refl)
marks_at key slots id v old quarter quartered s h at true is =
    let found : slice_index s.words lock_place ≡ old = eqb-true (slice_index s.words lock_place) old is in
    let was : h.phase ≡ 1 = (let c = h.counted in let f = h.few in omega (arith, c, f, found, quartered)) in (
      v,
      keeps,
      tt,
      rw is (same_length key s id v (old + 1) 2 h at (let c = h.counted in omega (arith, c, was, found)) (omega arith)
          (λ z. absurd (omega (arith, z))) (λ z. absurd (omega (arith, z))) (λ z. absurd (omega (arith, z, was))) (λ a b. (omega arith, omega arith))),
      refl,
    )

pub marks : (key : KeyedPlan) (slots id : ℕ) (me : Me GuardedView Known) (old quarter : ℕ) → me.1 ≡ [] → old ≡ 4 * quarter + 1
    → Allows (IsLockRuleKept key) slots id me lock_place (λ n. either (n == old) (old + 1) n) (MarksSleepers (step slots lock_place old (old + 1) none) me)
marks key slots id me old quarter empty quartered =
    subst (λ c. Allows (IsLockRuleKept key) slots id (me.0, c) lock_place (λ n. either (n == old) (old + 1) n) (MarksSleepers (step slots lock_place old (old + 1) none) (me.0, c))) (sym empty)
    (λ s h l at fits. marks_at key slots id me.0 old quarter quartered s h at (slice_index s.words lock_place == old) refl)

-- the entries of others, when this seat's caller made all later ones
own_of_others : (v : Known) (who : Caller) (later log : List Entry) → (v.acts ≡ true → caller_place v.who ≢ caller_place who) → AreBy v later → own_entries who (later ++ log) ≡ own_entries who log
own_of_others v who [] log apart are = refl
own_of_others v who (entry ∷ older) log apart are =
    own_of_other who entry (older ++ log) (λ same. apart are.0 (ap caller_place (sym are.1) ∙ same)) ∙ own_of_others v who older log apart are.2

-- the shard is given back, with any number of entries more, all of this caller
gives_at : (key : KeyedPlan) (slots id : ℕ) (v : Known) (shard : GuardedView) (later : List Entry) → slots ≡ 1 → v.seated ≡ true → v.holds ≡ true → shard.key ≡ v.key → reverse shard.journal ≡ later ++ v.all → AreBy v later
    → Allows (IsLockRuleKept key) slots id (v, (0, shard) ∷ []) lock_place (λ _. 4 * length shard.journal) (GivesShardBack (step slots lock_place (4 * length shard.journal) 0 none) (v, (0, shard) ∷ []))
gives_at key slots id v shard later one_slot seated holds planned grown are s h l at fits =
    let f = h.fits id v at in
    let have = f.holding holds in
    let log' : List Entry = reverse shard.journal in
    let longer : log' ≡ later ++ h.log = grown ∙ ap (λ x. later ++ x) have.all in
    let w = given v ((0, shard) ∷ []) in
    let others : (who : Caller) → (v.acts ≡ true → caller_place v.who ≢ caller_place who) → own_entries who log' ≡ own_entries who h.log =
    λ who apart. ap (own_entries who) longer ∙ own_of_others v who later h.log apart are in
    let F : ℕ → Known → Type 0 = SeatFits key h.dealer h.dealt h.seat h.holder 0 log' in (
      w,
      gives,
      tt,
      record {
        dealer = h.dealer;
        dealt = h.dealt;
        seat = h.seat;
        holder = h.holder;
        phase = 0;
        log = log';
        some_word = still_long s.words lock_place _ h.some_word;
        counted = word_set s.words lock_place _ h.some_word ∙ (let x = length-reverse shard.journal in omega (arith, x));
        few = omega arith;
        free = λ _. record { shard = shard; there = set_here s.homes 0 (some shard) (let x = l in omega (arith, x, one_slot)); planned = planned ∙ f.planned seated; written = refl };
        closed = λ z. absurd (omega (arith, z));
        none_yet = λ who lt. others who (λ a same. let x = (f.acting a).given in omega (arith, same, x, lt)) ∙ h.none_yet who lt;
        fits = all_set F s.views id w
            (record {
              planned = f.planned;
              dealing = λ k. let d = f.dealing k in record { one = d.one; count = d.count };
              acting = λ a. let mine = f.acting a in record { one = mine.one; given = mine.given; known = record { own = refl; begins = ([], refl) } };
              holding = λ k. absurd (off k);
              ending = λ k. absurd (let x = (f.ending k).closed in let y = have.unclosed in omega (arith, x, y));
            })
            (λ j u other e. let g = h.fits j u e in record {
              planned = g.planned;
              dealing = g.dealing;
              acting = λ a. let t = g.acting a in record {
                one = t.one;
                given = t.given;
                known = record {
                  own = t.known.own ∙ sym (others u.who (λ k same. other (sym t.one ∙ ap h.seat (sym same) ∙ (f.acting k).one)));
                  begins = (later ++ t.known.begins.0, longer ∙ ap (λ x. later ++ x) t.known.begins.1 ∙ append_back later t.known.begins.0 u.seen);
                };
              };
              holding = λ k. absurd (other ((g.holding k).one ∙ sym have.one));
              ending = λ k. absurd (let x = (g.ending k).closed in let y = have.unclosed in omega (arith, x, y));
            });
      },
      refl,
    )

pub gives_back : (key : KeyedPlan) (slots id : ℕ) (me : Me GuardedView Known) (shard : GuardedView) (later : List Entry) → slots ≡ 1 → me.1 ≡ (0, shard) ∷ [] → me.0.seated ≡ true → me.0.holds ≡ true → shard.key ≡ me.0.key
    → reverse shard.journal ≡ later ++ me.0.all → AreBy me.0 later
    → Allows (IsLockRuleKept key) slots id me lock_place (λ _. 4 * length shard.journal) (GivesShardBack (step slots lock_place (4 * length shard.journal) 0 none) me)
gives_back key slots id me shard later one_slot has seated holds planned grown are =
    subst (λ c. Allows (IsLockRuleKept key) slots id (me.0, c) lock_place (λ _. 4 * length shard.journal) (GivesShardBack (step slots lock_place (4 * length shard.journal) 0 none) (me.0, c))) (sym has)
    (gives_at key slots id me.0 shard later one_slot seated holds planned grown are)

-- the shard is put back for good, as it was found
ends_at : (key : KeyedPlan) (slots id : ℕ) (v : Known) (shard : GuardedView) → slots ≡ 1 → v.seated ≡ true → v.holds ≡ true → shard.key ≡ v.key → reverse shard.journal ≡ v.all
    → Allows (IsLockRuleKept key) slots id (v, (0, shard) ∷ []) lock_place (λ _. 4 * length shard.journal + 3) (ClosesShard (step slots lock_place (4 * length shard.journal + 3) 0 none) (v, (0, shard) ∷ []))
ends_at key slots id v shard one_slot seated holds planned same s h l at fits =
    let f = h.fits id v at in
    let have = f.holding holds in
    let written : reverse shard.journal ≡ h.log = same ∙ have.all in
    let w = shard_closed v in
    let F : ℕ → Known → Type 0 = SeatFits key h.dealer h.dealt h.seat h.holder 3 h.log in (
      w,
      gives,
      tt,
      record {
        dealer = h.dealer;
        dealt = h.dealt;
        seat = h.seat;
        holder = h.holder;
        phase = 3;
        log = h.log;
        some_word = still_long s.words lock_place _ h.some_word;
        counted = word_set s.words lock_place _ h.some_word ∙ (let x = length-reverse shard.journal in let y = ap (λ (e : List Entry). length e) written in omega (arith, x, y));
        few = omega arith;
        free = λ z. absurd (omega (arith, z));
        closed = λ _. record { shard = shard; there = set_here s.homes 0 (some shard) (let x = l in omega (arith, x, one_slot)); planned = planned ∙ f.planned seated; written = written };
        none_yet = h.none_yet;
        fits = all_set F s.views id w
            (record {
              planned = f.planned;
              dealing = λ k. let d = f.dealing k in record { one = d.one; count = d.count };
              acting = λ a. let mine = f.acting a in record { one = mine.one; given = mine.given; known = record { own = mine.known.own; begins = mine.known.begins } };
              holding = λ k. absurd (off k);
              ending = λ _. record { closed = refl; all = have.all };
            })
            (λ j u other e. let g = h.fits j u e in record {
              planned = g.planned;
              dealing = g.dealing;
              acting = g.acting;
              holding = λ k. absurd (other ((g.holding k).one ∙ sym have.one));
              ending = λ k. let x = g.ending k in record { closed = refl; all = x.all };
            });
      },
      refl,
    )

pub ends_all : (key : KeyedPlan) (slots id : ℕ) (me : Me GuardedView Known) (shard : GuardedView) → slots ≡ 1 → me.1 ≡ (0, shard) ∷ [] → me.0.seated ≡ true → me.0.holds ≡ true → shard.key ≡ me.0.key → reverse shard.journal ≡ me.0.all
    → Allows (IsLockRuleKept key) slots id me lock_place (λ _. 4 * length shard.journal + 3) (ClosesShard (step slots lock_place (4 * length shard.journal + 3) 0 none) me)
ends_all key slots id me shard one_slot has seated holds planned same =
    subst (λ c. Allows (IsLockRuleKept key) slots id (me.0, c) lock_place (λ _. 4 * length shard.journal + 3) (ClosesShard (step slots lock_place (4 * length shard.journal + 3) 0 none) (me.0, c))) (sym has)
    (ends_at key slots id me.0 shard one_slot seated holds planned same)

-- whoever closed a shard finds it in its slot
pub record IsLeft (v : Known) (shards : List GuardedView) : Type 0 where
  pub shard : GuardedView
  pub there : get_elem? shards 0 ≡ some shard
  pub planned : shard.key ≡ v.key
  pub written : reverse shard.journal ≡ v.all

pub left : (key : KeyedPlan) (id : ℕ) (v : Known) (words : List ℕ) (shards : List GuardedView) → v.seated ≡ true → v.ended ≡ true → Final (Seen (IsLockRuleKept key) id v) words shards → IsLeft v shards
left key id v words shards seated ended final =
    let h = final.1.0 in
    let f = h.fits id v final.1.1 in
    let e = f.ending ended in
    let home = h.closed e.closed in
    record { shard = home.shard; there = final.4 0 home.shard home.there; planned = home.planned ∙ sym (f.planned seated); written = home.written ∙ sym e.all }

pub taken_out : (v : Known) (shards : List GuardedView) (shard : GuardedView) → IsLeft v shards → get_elem? shards 0 ≡ some shard → (shard.key ≡ v.key) × (reverse shard.journal ≡ v.all)
taken_out v shards shard is there =
    let same : shard ≡ is.shard = some-injective shard is.shard (sym there ∙ is.there) in
    (ap (λ (s : GuardedView). s.key) same ∙ is.planned, ap (λ (s : GuardedView). reverse s.journal) same ∙ is.written)

-- ---- a visitor's seat and a caller's

-- a visitor that has the shard takes in a caller's seat
pub joins : (key : KeyedPlan) (id : ℕ) (v : Known) (other : ℕ) (w : Known) → w.acts ≡ true → Joins (IsLockRuleKept key) id v other w (visitor_with_caller v w) nobody
joins key id v other w acts s h at apart there =
    let both = visitor_with_caller v w in
    let f = h.fits id v at in
    let was : get_elem? s.views other ≡ some w = ⊎_elim (λ x. absurd (apart x.0)) (λ x. x.1) (at_set s.views id other both w there) in
    let theirs = (h.fits other w was).acting acts in
    let seat' = moved h.seat (caller_place w.who) id in
    let F : ℕ → Known → Type 0 = SeatFits key h.dealer h.dealt seat' h.holder h.phase h.log in
    let Now : ℕ → Known → Type 0 = λ j y. j ≢ other → F j y in
    let now : All Now (set s.views id both) = all_set Now s.views id both
    (λ _. record {
      planned = f.planned;
      dealing = λ k. let d = f.dealing k in record { one = d.one; count = d.count };
      acting = λ _. record { one = moved_here h.seat (caller_place w.who) id; given = theirs.given; known = record { own = theirs.known.own; begins = theirs.known.begins } };
      holding = λ k. let x = f.holding k in record { one = x.one; taken = x.taken; unclosed = x.unclosed; all = x.all };
      ending = λ k. let x = f.ending k in record { closed = x.closed; all = x.all };
    })
    (λ j y not_id e not_other. let g = h.fits j y e in record {
      planned = g.planned;
      dealing = g.dealing;
      acting = λ a. let t = g.acting a in record {
        one = moved_else h.seat (caller_place w.who) id (caller_place y.who) (λ same. not_other (sym t.one ∙ ap h.seat same ∙ theirs.one)) ∙ t.one;
        given = t.given;
        known = t.known;
      };
      holding = g.holding;
      ending = g.ending;
    }) in record {
      dealer = h.dealer;
      dealt = h.dealt;
      seat = seat';
      holder = h.holder;
      phase = h.phase;
      log = h.log;
      some_word = h.some_word;
      counted = h.counted;
      few = h.few;
      free = h.free;
      closed = h.closed;
      none_yet = h.none_yet;
      fits = all_set F (set s.views id both) other nobody
          (record { planned = λ k. absurd (off k); dealing = λ k. absurd (off k); acting = λ k. absurd (off k); holding = λ k. absurd (off k); ending = λ k. absurd (off k) })
          (λ j y not_other e. now j y e not_other);
    }

-- they look
sees_at : (key : KeyedPlan) (slots id : ℕ) (v : Known) (c : List (ℕ × GuardedView)) → v.holds ≡ true → v.acts ≡ true → Allows (IsLockRuleKept key) slots id (v, c) lock_place (λ n. n) (SeesHistory (step slots lock_place 0 0 none) (v, c))
sees_at key slots id v c holds acts s h l at fits =
    let f = h.fits id v at in
    let have = f.holding holds in
    let mine = f.acting acts in
    let w = all_seen v in
    let F : ℕ → Known → Type 0 = SeatFits key h.dealer h.dealt h.seat h.holder h.phase h.log in (
      w,
      keeps,
      tt,
      record {
        dealer = h.dealer;
        dealt = h.dealt;
        seat = h.seat;
        holder = h.holder;
        phase = h.phase;
        log = h.log;
        some_word = still_long s.words lock_place _ h.some_word;
        counted = word_set s.words lock_place (slice_index s.words lock_place) h.some_word ∙ h.counted;
        few = h.few;
        free = h.free;
        closed = h.closed;
        none_yet = h.none_yet;
        fits = all_set F s.views id w (record {
          planned = f.planned;
          dealing = λ k. let d = f.dealing k in record { one = d.one; count = d.count };
          acting = λ _. record { one = mine.one; given = mine.given; known = record { own = mine.known.own; begins = ([], sym have.all) } };
          holding = λ _. record { one = have.one; taken = have.taken; unclosed = have.unclosed; all = have.all };
          ending = λ k. let x = f.ending k in record { closed = x.closed; all = x.all };
        }) (λ j u _ e. h.fits j u e);
      },
      (refl, subst (λ (log : List Entry). IsKnownIn log v) (sym have.all) mine.known),
    )

pub sees : (key : KeyedPlan) (slots id : ℕ) (me : Me GuardedView Known) → me.0.holds ≡ true → me.0.acts ≡ true → Allows (IsLockRuleKept key) slots id me lock_place (λ n. n) (SeesHistory (step slots lock_place 0 0 none) me)
sees key slots id me holds acts = sees_at key slots id me.0 me.1 holds acts

-- and the caller's seat is given back
pub parts : (key : KeyedPlan) (id : ℕ) (v : Known) → v.seated ≡ true → v.holds ≡ true → v.acts ≡ true → Splits (IsLockRuleKept key) id v (visitor_part v) (pass_part v)
parts key id v seated holds acts s h at =
    let f = h.fits id v at in
    let have = f.holding holds in
    let theirs = f.acting acts in
    let new : ℕ = length (set s.views id (visitor_part v)) in
    let seat' = moved h.seat (caller_place v.who) new in
    let F : ℕ → Known → Type 0 = SeatFits key h.dealer h.dealt seat' h.holder h.phase h.log in
    let old : (j : ℕ) (u : Known) → j ≢ id → get_elem? s.views j ≡ some u → F j u = λ j u other e. let g = h.fits j u e in record {
      planned = g.planned;
      dealing = g.dealing;
      acting = λ a. let was = g.acting a in record {
        one = moved_else h.seat (caller_place v.who) new (caller_place u.who) (λ same. other (sym was.one ∙ ap h.seat same ∙ theirs.one)) ∙ was.one;
        given = was.given;
        known = was.known;
      };
      holding = g.holding;
      ending = g.ending;
    } in record {
      dealer = h.dealer;
      dealt = h.dealt;
      seat = seat';
      holder = h.holder;
      phase = h.phase;
      log = h.log;
      some_word = h.some_word;
      counted = h.counted;
      few = h.few;
      free = h.free;
      closed = h.closed;
      none_yet = h.none_yet;
      fits = all_push F (set s.views id (visitor_part v)) (pass_part v)
          (all_set F s.views id (visitor_part v) (record {
            planned = λ _. f.planned seated;
            dealing = λ a. absurd (off a);
            acting = λ a. absurd (off a);
            holding = λ _. record { one = have.one; taken = have.taken; unclosed = have.unclosed; all = have.all };
            ending = λ a. absurd (off a);
          }) old)
          (record {
            planned = λ _. f.planned seated;
            dealing = λ k. absurd (off k);
            acting = λ _. record { one = moved_here h.seat (caller_place v.who) new; given = theirs.given; known = record { own = theirs.known.own; begins = theirs.known.begins } };
            holding = λ k. absurd (off k);
            ending = λ k. absurd (off k);
          });
    }
