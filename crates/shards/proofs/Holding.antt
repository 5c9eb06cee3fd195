-- A seat alone, and one with the shard.
use Rattle.std.proofs.Common.{◌≡◌, ℕ, Bool, ◌++◌, List, [], ◌∷◌, true, false, true≢false, reverse, length, subst, refl, sym, ap, ◌∙◌}
use Rattle.std.specs.Prelude.{Result, Ok, Err, IfOk, OnErr, MatchBool}
use Rattle.std.proofs.lemmas.List.{length-reverse}
use Rattle.atomic_table.specs.Seated.{TableId}
use Rattle.atomic_table.specs.Table.{Me, rest}
use Rattle.atomic_table.specs.declared.shared.Seat.{Seat}
use Rattle.semantics.specs.declared.call.Caller.{Caller}
use Rattle.semantics.specs.declared.call.Call.{Call}
use Rattle.semantics.specs.declared.call.Reply.{Reply}
use Rattle.semantics.specs.declared.call.Entry.{Entry}
use Rattle.semantics.specs.declared.full.JournalFull.{JournalFull}
use Rattle.semantics.specs.CallerLaws.{own_entries}
use Rattle.shards.specs.GuardedView.{KeyedPlan, GuardedView}
use Rattle.shards.specs.declared.rule.Known.{Known}
use Rattle.semantics.specs.History.{entry_of}
use Rattle.shards.specs.LockRule.{HasTaken, given, taking, visiting, visitor_of}
use Rattle.shards.specs.Seats.{IsSeatOf, IsVisitor, IsHolding, AreBy, has_shard, view_of}

pub empty_of : (me : Me GuardedView Known) → has_shard me ≡ false → me.1 ≡ []
empty_of (v, []) alone = refl
empty_of (v, (x ∷ xs)) alone = absurd (true≢false alone)

pub idle_of : (me : Me GuardedView Known) → has_shard me ≡ false → IsHolding me.0 me.1 → me.0.holds ≡ false
idle_of (v, []) alone is = is
idle_of (v, (x ∷ xs)) alone is = absurd (true≢false alone)

-- ---- a seat that has the shard

pub record Held (me : Me GuardedView Known) : Type 0 where
  pub shard : GuardedView
  pub has : me.1 ≡ (0, shard) ∷ []
  pub holds : me.0.holds ≡ true
  pub planned : shard.key ≡ me.0.key
  pub later : List Entry
  pub grown : reverse shard.journal ≡ later ++ me.0.all
  pub made : AreBy me.0 later
  pub seen : (view_of me).seen ≡ reverse shard.journal

pub held_of : (me : Me GuardedView Known) → has_shard me ≡ true → IsHolding me.0 me.1 → Held me
held_of (v, []) taken is = absurd (true≢false (sym taken))
held_of (v, (x ∷ xs)) taken is = record {
  shard = x.1;
  has = λ i. (is.slot i, x.1) ∷ is.only i;
  holds = is.holds;
  planned = is.planned;
  later = is.later;
  grown = is.grown;
  made = is.made;
  seen = refl;
}

pub slot_of : (me : Me GuardedView Known) (shard : GuardedView) → me.1 ≡ (0, shard) ∷ [] → me.1 ≡ (0, shard) ∷ rest me.1
slot_of me shard is = is ∙ ap (λ (l : List (ℕ × GuardedView)). (0, shard) ∷ rest l) (sym is)

pub entries_of : (me : Me GuardedView Known) (held : Held me) (n : ℕ) → n ≡ length (view_of me).seen → n ≡ length held.shard.journal
entries_of me held n is = is ∙ ap (λ (l : List Entry). length l) held.seen ∙ length-reverse held.shard.journal

-- ---- the shard that it lends

abbrev first : List (ℕ × GuardedView) → GuardedView → ℕ × GuardedView
first [] shard = (0, shard)
first (x ∷ xs) shard = x

abbrev Full : List (ℕ × GuardedView) → Type 0
Full [] = ⊥
Full (y ∷ ys) = Unit {0}

pub record Lent (v : Known) (c : List (ℕ × GuardedView)) (shard : GuardedView) : Type 0 where
  pub planned : shard.key ≡ v.key
  pub seen : (view_of (v, c)).seen ≡ reverse shard.journal
  pub own : (view_of (v, c)).own ≡ own_entries v.who (reverse shard.journal)

pub lent : (v : Known) (c : List (ℕ × GuardedView)) (shard : GuardedView) → c ≡ (0, shard) ∷ rest c → IsHolding v c → Lent v c shard
lent v [] shard has is = absurd (subst Full (sym has) tt)
lent v (x ∷ xs) shard has is =
    let same : shard ≡ x.1 = sym (ap (λ (l : List (ℕ × GuardedView)). (first l shard).1) has) in record {
      planned = ap (λ (s : GuardedView). s.key) same ∙ is.planned;
      seen = ap (λ (s : GuardedView). reverse s.journal) (sym same);
      own = ap (λ (s : GuardedView). own_entries v.who (reverse s.journal)) (sym same);
    }

-- it has the shard as the call left it
pub grows : {A : Type 0} (v : Known) (c : List (ℕ × GuardedView)) (shard after : GuardedView) (who : Caller) (call : Call) (replies : A → Reply) → v.acts ≡ true → v.who ≡ who → c ≡ (0, shard) ∷ rest c → IsHolding v c
    → after.key ≡ shard.key → (answer : Result A JournalFull) → IfOk answer (λ a. reverse after.journal ≡ entry_of who call (replies a) ∷ reverse shard.journal) → OnErr answer (after ≡ shard)
    → IsHolding v ((0, after) ∷ rest c)
grows v [] shard after who call replies acts by has is planned answer next unchanged = absurd (subst Full (sym has) tt)
grows v (x ∷ xs) shard after who call replies acts by has is planned (Err full) next unchanged =
    let same : shard ≡ x.1 = sym (ap (λ (l : List (ℕ × GuardedView)). (first l shard).1) has) in record {
      holds = is.holds;
      slot = refl;
      only = is.only;
      planned = planned ∙ ap (λ (s : GuardedView). s.key) same ∙ is.planned;
      later = is.later;
      grown = ap (λ (s : GuardedView). reverse s.journal) (unchanged ∙ same) ∙ is.grown;
      made = is.made;
    }
grows v (x ∷ xs) shard after who call replies acts by has is planned (Ok a) next unchanged =
    let same : shard ≡ x.1 = sym (ap (λ (l : List (ℕ × GuardedView)). (first l shard).1) has) in record {
      holds = is.holds;
      slot = refl;
      only = is.only;
      planned = planned ∙ ap (λ (s : GuardedView). s.key) same ∙ is.planned;
      later = entry_of who call (replies a) ∷ is.later;
      grown = next ∙ ap (λ (s : GuardedView). entry_of who call (replies a) ∷ reverse s.journal) same ∙ ap (λ l. entry_of who call (replies a) ∷ l) is.grown;
      made = (acts, sym by, is.made);
    }

-- ---- before and after

pub with_shard : (before after : Me GuardedView Known) → HasTaken before after → IsHolding after.0 after.1
with_shard before after taken = subst (λ (m : Me GuardedView Known). IsHolding m.0 m.1) (sym taken.has)
    (record { holds = refl; slot = refl; only = refl; planned = taken.planned; later = []; grown = refl; made = tt })

pub seat_taken : (table : TableId) (before after : Seat GuardedView Known) → IsSeatOf table before → after.table_id ≡ before.table_id → HasTaken before.me after.me → IsSeatOf table after
seat_taken table before after is same taken = record {
  table_is = same ∙ is.table_is;
  seated = ap (λ (m : Me GuardedView Known). m.0.seated) taken.has ∙ is.seated;
  holding = with_shard before.me after.me taken;
}

pub seat_same : (table : TableId) (before after : Seat GuardedView Known) → IsSeatOf table before → after.table_id ≡ before.table_id → after.me ≡ before.me → IsSeatOf table after
seat_same table before after is same still = record {
  table_is = same ∙ is.table_is;
  seated = ap (λ (m : Me GuardedView Known). m.0.seated) still ∙ is.seated;
  holding = subst (λ (m : Me GuardedView Known). IsHolding m.0 m.1) (sym still) is.holding;
}

pub seat_tried : (table : TableId) (before after : Seat GuardedView Known) (b : Bool) → IsSeatOf table before → after.table_id ≡ before.table_id → MatchBool b (HasTaken before.me after.me) (after.me ≡ before.me) → IsSeatOf table after
seat_tried table before after true is same taken = seat_taken table before after is same taken
seat_tried table before after false is same still = seat_same table before after is same still

pub taken_has : (before after : Me GuardedView Known) → HasTaken before after → has_shard after ≡ true
taken_has before after taken = ap has_shard taken.has

given_view : (me : Me GuardedView Known) → has_shard me ≡ true → view_of (given me.0 me.1, []) ≡ view_of me
given_view (v, []) taken = absurd (true≢false (sym taken))
given_view (v, (x ∷ xs)) taken = refl

pub given_idle : (me : Me GuardedView Known) → has_shard me ≡ true → (given me.0 me.1).holds ≡ false
given_idle (v, []) taken = absurd (true≢false (sym taken))
given_idle (v, (x ∷ xs)) taken = refl

pub given_seated : (me : Me GuardedView Known) → (given me.0 me.1).seated ≡ me.0.seated
given_seated (v, []) = refl
given_seated (v, (x ∷ xs)) = refl

pub given_key : (me : Me GuardedView Known) → (given me.0 me.1).key ≡ me.0.key
given_key (v, []) = refl
given_key (v, (x ∷ xs)) = refl

pub given_who : (me : Me GuardedView Known) → (given me.0 me.1).who ≡ me.0.who
given_who (v, []) = refl
given_who (v, (x ∷ xs)) = refl

pub given_acts : (me : Me GuardedView Known) → (given me.0 me.1).acts ≡ me.0.acts
given_acts (v, []) = refl
given_acts (v, (x ∷ xs)) = refl

pub view_given : (before after : Me GuardedView Known) → has_shard before ≡ true → after ≡ (given before.0 before.1, []) → view_of after ≡ view_of before
view_given before after taken is = ap view_of is ∙ given_view before taken

pub seat_given : (table : TableId) (before after : Seat GuardedView Known) → IsSeatOf table before → has_shard before.me ≡ true → after.table_id ≡ before.table_id → after.me ≡ (given before.me.0 before.me.1, []) → IsSeatOf table after
seat_given table before after is taken same given_is = record {
  table_is = same ∙ is.table_is;
  seated = ap (λ (m : Me GuardedView Known). m.0.seated) given_is ∙ given_seated before.me ∙ is.seated;
  holding = subst (λ (m : Me GuardedView Known). IsHolding m.0 m.1) (sym given_is) (given_idle before.me taken);
}

-- ---- a visitor

pub seat_of_visitor : (table : TableId) (key : KeyedPlan) (history : List Entry) (seat : Seat GuardedView Known) → IsVisitor table key history seat → IsSeatOf table seat
seat_of_visitor table key history seat is = record {
  table_is = is.table_is;
  seated = ap (λ (m : Me GuardedView Known). m.0.seated) is.has;
  holding = subst (λ (m : Me GuardedView Known). IsHolding m.0 m.1) (sym is.has)
      (record { holds = refl; slot = refl; only = refl; planned = is.planned; later = []; grown = is.written; made = tt });
}

pub visitor_has : (table : TableId) (key : KeyedPlan) (history : List Entry) (seat : Seat GuardedView Known) → IsVisitor table key history seat → has_shard seat.me ≡ true
visitor_has table key history seat is = ap has_shard is.has

pub visitor_same : (table : TableId) (key : KeyedPlan) (before after : Seat GuardedView Known) → after.table_id ≡ before.table_id → after.me ≡ before.me → IsVisitor table key (view_of before.me).seen before → IsVisitor table key (view_of after.me).seen after
visitor_same table key before after same still is =
    let seen : (view_of before.me).seen ≡ (view_of after.me).seen = ap (λ (m : Me GuardedView Known). (view_of m).seen) (sym still) in record {
      table_is = same ∙ is.table_is;
      shard = is.shard;
      planned = is.planned;
      written = is.written ∙ seen;
      has = still ∙ is.has ∙ ap (λ (h : List Entry). (visiting key h, (0, is.shard) ∷ [])) seen;
    }

-- a new visitor has taken the shard
pub visitor_taken : (table : TableId) (key : KeyedPlan) (before after : Seat GuardedView Known) → after.table_id ≡ table → before.me ≡ (visitor_of key, []) → HasTaken before.me after.me → IsVisitor table key (view_of after.me).seen after
visitor_taken table key before after table_is new taken =
    let written : reverse taken.shard.journal ≡ (view_of after.me).seen = ap (λ (m : Me GuardedView Known). (view_of m).seen) (sym taken.has) in record {
      table_is = table_is;
      shard = taken.shard;
      planned = taken.planned ∙ ap (λ (m : Me GuardedView Known). m.0.key) new;
      written = written;
      has = taken.has ∙ ap (λ (m : Me GuardedView Known). (taking m.0 (reverse taken.shard.journal), (0, taken.shard) ∷ [])) new ∙ ap (λ (h : List Entry). (visiting key h, (0, taken.shard) ∷ [])) written;
    }

pub when_refused : {A : Type 0} {P Q : Type 0} (answer : Result A JournalFull) → (P → Q) → OnErr answer P → OnErr answer Q
when_refused (Ok a) f p = tt
when_refused (Err full) f p = f p
