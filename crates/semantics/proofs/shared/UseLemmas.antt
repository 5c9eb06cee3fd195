-- Each present key was used, by an entry of its own.
use Rattle.std.proofs.Common.{◌≡◌, ℕ, suc, ◌<◌, ◌≤◌, Bool, true, false, cond, ◌&&◌, not, ℤ, pos, negsuc, List, [], ◌∷◌, length, Option, Some, None, arith, refl, sym, ◌∙◌, ap, subst}
use Rattle.std.specs.Prelude.{◌==◌, filter, find, option_map, bytes_eq, if◌then◌else◌}
use Rattle.std.specs.List.{AllByRecursion}
use Rattle.std.proofs.lemmas.Slice.Eq.{bytes_eq-Decides}
use Rattle.ebpf_decode.specs.declared.map.MapKind.{MapKind}
use Rattle.ebpf_decode.specs.declared.map.MapKind.TheVariants.{Array, Hash, LruHash}
use Rattle.semantics.specs.declared.call.Call.{Call}
use Rattle.semantics.specs.declared.call.Call.TheVariants.{Enter, Leave, Lookup, Load, Store, Atomic, Update, Delete, Reclaim}
use Rattle.semantics.specs.declared.call.Reply.{Reply}
use Rattle.semantics.specs.declared.call.Reply.TheVariants.{Answer}
use Rattle.semantics.specs.declared.call.Entry.{Entry}
use Rattle.semantics.specs.declared.plan.PresentKey.{PresentKey}
use Rattle.semantics.specs.declared.linux.UpdateFlags.{UpdateFlags}
use Rattle.semantics.specs.Linux.{update_flags_of}
use Rattle.semantics.specs.ShardPlan.{ShardPlan}
use Rattle.semantics.specs.LeastRecentlyUsed.{is_zero, call_uses, uses, last_use}
use Rattle.semantics.specs.SequentialShard.{SequentialShard, cell_of_present, cell_of_kind, cell_of_key, without_found, after_eviction, with_new_key, with_value, updated_where, update_answer, update_answer_by, delete_answer, present_key, shard_after_call, shard_after, reply_of}
use Rattle.semantics.specs.History.{IsLegalHistory}
use Rattle.semantics.specs.UseLaws.{ArePairwise}
use Rattle.semantics.proofs.shared.LawLemmas.{updated_where-keeps, after_eviction-keeps}
use Rattle.semantics.proofs.shared.HoldingLemmas.{each_weaker, each_filter}

-- ---- lists

pub pairs_weaker : {A : Type 0} (R S : A → A → Type 0) → ((x y : A) → R x y → S x y) → (xs : List A) → ArePairwise R xs → ArePairwise S xs
pairs_weaker R S weaker [] pairs = tt
pairs_weaker R S weaker (x ∷ xs) pairs = (each_weaker (R x) (S x) (weaker x) xs pairs.0, pairs_weaker R S weaker xs pairs.1)

pub first_parts : {A : Type 0} (P : A → Type 0) (test : A → Bool) (xs : List A) → AllByRecursion P xs → AllByRecursion P (filter test xs)
first_parts P test xs each = each_weaker (λ x. P x × (test x ≡ true)) P (λ x held. held.0) (filter test xs) (each_filter P test xs each)

pub pairs_filter : {A : Type 0} (R : A → A → Type 0) (test : A → Bool) (xs : List A) → ArePairwise R xs → ArePairwise R (filter test xs)
pairs_filter R test [] pairs = tt
pairs_filter R test (x ∷ xs) pairs = by_test (test x) (pairs_filter R test xs pairs.1)
  where
    by_test : (t : Bool) → ArePairwise R (filter test xs) → ArePairwise R (cond t (x ∷ filter test xs) (filter test xs))
    by_test true rest = (first_parts (R x) test xs pairs.0, rest)
    by_test false rest = rest

-- ---- a use is of one key

pub same_bytes : (a b : List ℕ) → bytes_eq a b ≡ true → a ≡ b
same_bytes a b same = (bytes_eq-Decides a b).0 same

bytes_same : (a : List ℕ) → bytes_eq a a ≡ true
bytes_same a = (bytes_eq-Decides a a).1 refl

first_holds : (a b : Bool) → (a && b) ≡ true → a ≡ true
first_holds true b held = refl
first_holds false b held = held

one_key : (entry : Entry) (call : Call) (reply : Reply) (a b : List ℕ) → call_uses a call reply ≡ true → call_uses b call reply ≡ true → a ≡ b
one_key entry (Lookup shard asked) reply a b first second = sym (same_bytes asked a (first_holds _ _ first)) ∙ same_bytes asked b (first_holds _ _ second)
one_key entry (Update shard asked value flags) reply a b first second = sym (same_bytes asked a (first_holds _ _ first)) ∙ same_bytes asked b (first_holds _ _ second)
one_key entry (Enter shard) reply a b first second = cc
one_key entry (Leave shard) reply a b first second = cc
one_key entry (Load cell offset size) reply a b first second = cc
one_key entry (Store cell offset size value) reply a b first second = cc
one_key entry (Atomic cell offset size op value expected) reply a b first second = cc
one_key entry (Delete shard key) reply a b first second = cc
one_key entry (Reclaim shard) reply a b first second = cc

pub used_within : (key : List ℕ) (history : List Entry) → last_use key history ≤ length history
used_within key [] = omega arith
used_within key (entry ∷ older) = by_use (uses key entry) (used_within key older)
  where
    by_use : (used : Bool) → last_use key older ≤ length older → (if used then suc (length older) else last_use key older) ≤ suc (length older)
    by_use true before = omega arith
    by_use false before = omega (arith, before)

-- two keys that were last used by one entry are one key
pub same_use : (a b : List ℕ) (history : List Entry) → 0 < last_use a history → last_use a history ≡ last_use b history → a ≡ b
same_use a b [] some same = absurd (omega arith)
same_use a b (entry ∷ older) some same =
    by_uses (uses a entry) (uses b entry) refl refl some same (same_use a b older)
  where
    by_uses : (first second : Bool) → uses a entry ≡ first → uses b entry ≡ second → 0 < (if first then suc (length older) else last_use a older) →
        (if first then suc (length older) else last_use a older) ≡ (if second then suc (length older) else last_use b older) →
        (0 < last_use a older → last_use a older ≡ last_use b older → a ≡ b) → a ≡ b
    by_uses true true f s some same before = one_key entry entry.call entry.reply a b f s
    by_uses true false f s some same before = absurd (let few : last_use b older ≤ length older = used_within b older in omega (arith, same, few))
    by_uses false true f s some same before = absurd (let few : last_use a older ≤ length older = used_within a older in omega (arith, same, few))
    by_uses false false f s some same before = before some same

-- what was used stays used
pub used_on : (key : List ℕ) (entry : Entry) (older : List Entry) → 0 < last_use key older → 0 < last_use key (entry ∷ older)
used_on key entry older some = by_use (uses key entry)
  where
    by_use : (used : Bool) → 0 < (if used then suc (length older) else last_use key older)
    by_use true = omega arith
    by_use false = some

-- ---- the invariant

pub record AreUsed (history : List Entry) (shard : SequentialShard) : Type 0 where
  pub used : AllByRecursion (λ (one : PresentKey). 0 < last_use one.key history) shard.present
  pub apart : ArePairwise (λ (one other : PresentKey). one.key ≡ other.key → ⊥) shard.present

used_longer : (entry : Entry) (older : List Entry) (shard : SequentialShard) → AreUsed older shard → AreUsed (entry ∷ older) shard
used_longer entry older shard kept = record {
  used = each_weaker (λ (one : PresentKey). 0 < last_use one.key older) (λ (one : PresentKey). 0 < last_use one.key (entry ∷ older)) (λ one some. used_on one.key entry older some) shard.present kept.used;
  apart = kept.apart;
}

used_without : (history : List Entry) (shard : SequentialShard) (place : ℕ) (gone : Option PresentKey) → AreUsed history shard → AreUsed history (without_found shard place gone)
used_without history shard place None kept = kept
used_without history shard place (Some gone) kept = record {
  used = first_parts (λ (one : PresentKey). 0 < last_use one.key history) (λ (one : PresentKey). not (one.cell == gone.cell)) shard.present kept.used;
  apart = pairs_filter (λ (one other : PresentKey). one.key ≡ other.key → ⊥) (λ (one : PresentKey). not (one.cell == gone.cell)) shard.present kept.apart;
}

-- a key that is not found differs from each that is there
not_found : (key : List ℕ) (present : List PresentKey) → cell_of_present present key ≡ None → AllByRecursion (λ (one : PresentKey). key ≡ one.key → ⊥) present
not_found key [] absent = tt
not_found key (one ∷ rest) absent = by_key (bytes_eq one.key key) refl absent (not_found key rest)
  where
    by_key : (this : Bool) → bytes_eq one.key key ≡ this → option_map (λ (found : PresentKey). found.cell) (cond this (Some one) (find (λ (other : PresentKey). bytes_eq other.key key) rest)) ≡ None →
        (cell_of_present rest key ≡ None → AllByRecursion (λ (other : PresentKey). key ≡ other.key → ⊥) rest) → AllByRecursion (λ (other : PresentKey). key ≡ other.key → ⊥) (one ∷ rest)
    by_key true is absent more = absurd cc
    by_key false is absent more = (λ same. (let this : bytes_eq one.key key ≡ true = rw same (bytes_same one.key) in absurd cc), more absent)

-- an eviction only takes keys away
apart_evicted : (plan : ShardPlan) (history : List Entry) (shard : SequentialShard) (key : List ℕ) → AllByRecursion (λ (one : PresentKey). key ≡ one.key → ⊥) shard.present →
    AllByRecursion (λ (one : PresentKey). key ≡ one.key → ⊥) (after_eviction plan history shard).present
apart_evicted plan history shard key apart =
    after_eviction-keeps (λ after. AllByRecursion (λ (one : PresentKey). key ≡ one.key → ⊥) after.present) plan history shard (λ gone is. taken gone) apart
  where
    taken : (gone : Option PresentKey) → AllByRecursion (λ (one : PresentKey). key ≡ one.key → ⊥) (without_found shard (length history) gone).present
    taken None = apart
    taken (Some gone) = first_parts (λ (one : PresentKey). key ≡ one.key → ⊥) (λ (one : PresentKey). not (one.cell == gone.cell)) shard.present apart

-- an Update that puts a new key in is a use of it
used_new : (plan : ShardPlan) (entry : Entry) (older : List Entry) (shard : SequentialShard) (key value : List ℕ) → uses key entry ≡ true → cell_of_present shard.present key ≡ None → AreUsed older shard →
    AreUsed (entry ∷ older) (with_new_key (after_eviction plan older shard) key value)
used_new plan entry older shard key value used_by absent kept =
    let evicted : AreUsed older (after_eviction plan older shard) =
    after_eviction-keeps (λ after. AreUsed older after) plan older shard (λ gone is. used_without older shard (length older) gone kept) kept
    in let longer : AreUsed (entry ∷ older) (after_eviction plan older shard) = used_longer entry older (after_eviction plan older shard) evicted
    in record {
      used = (rw used_by (omega arith), longer.used);
      apart = (apart_evicted plan older shard key (not_found key shard.present absent), longer.apart);
    }

-- ---- an Update

done_or_not : (answer : ℤ) (P : SequentialShard → Type 0) (updated shard : SequentialShard) → (is_zero answer ≡ true → P updated) → P shard → P (updated_where answer updated shard)
done_or_not (pos n) P updated shard done same = by_test (n == 0) refl
  where
    by_test : (t : Bool) → (n == 0) ≡ t → P (if t then updated else shard)
    by_test true is = done is
    by_test false is = same
done_or_not (negsuc n) P updated shard done same = same

array_is_never_new : (plan : ShardPlan) (shard : SequentialShard) (flags : Option UpdateFlags) (P : Type 0) → is_zero (update_answer_by Array plan shard flags None) ≡ true → P
array_is_never_new plan shard None P done = absurd cc
array_is_never_new plan shard (Some flags) P done = absurd cc

value_used : (kind : MapKind) (plan : ShardPlan) (entry : Entry) (older : List Entry) (shard : SequentialShard) (key value : List ℕ) (flags : Option UpdateFlags) (found : Option ℕ) →
    cell_of_kind kind plan shard key ≡ found → is_zero (update_answer_by kind plan shard flags found) ≡ true → uses key entry ≡ true → AreUsed older shard →
    AreUsed (entry ∷ older) (with_value plan older shard key value found)
value_used kind plan entry older shard key value flags (Some cell) is done used_by kept =
    let longer : AreUsed (entry ∷ older) shard = used_longer entry older shard kept in record { used = longer.used; apart = longer.apart }
value_used Array plan entry older shard key value flags None is done used_by kept = array_is_never_new plan shard flags _ done
value_used Hash plan entry older shard key value flags None is done used_by kept = used_new plan entry older shard key value used_by is kept
value_used LruHash plan entry older shard key value flags None is done used_by kept = used_new plan entry older shard key value used_by is kept

update_used : (plan : ShardPlan) (entry : Entry) (older : List Entry) (shard : SequentialShard) (number : ℕ) (key value : List ℕ) (flags : ℕ) → entry.call ≡ Update number key value flags →
    entry.reply ≡ Answer (update_answer plan shard key flags) → AreUsed older shard → AreUsed (entry ∷ older) (shard_after_call plan older shard (Update number key value flags))
update_used plan entry older shard number key value flags call replied kept =
    done_or_not (update_answer plan shard key flags) (AreUsed (entry ∷ older)) (with_value plan older shard key value (cell_of_key plan shard key)) shard
    (λ done.
    let used_by : uses key entry ≡ true = ap (λ one. call_uses key one entry.reply) call ∙ ap (λ reply. call_uses key (Update number key value flags) reply) replied ∙ rw (bytes_same key) done
    in value_used plan.definition.kind plan entry older shard key value (update_flags_of flags) (cell_of_key plan shard key) refl done used_by kept)
    (used_longer entry older shard kept)

-- ---- every call

same_present : (history : List Entry) (shard other : SequentialShard) → other.present ≡ shard.present → AreUsed history shard → AreUsed history other
same_present history shard other same kept = record {
  used = subst (λ present. AllByRecursion (λ (one : PresentKey). 0 < last_use one.key history) present) (sym same) kept.used;
  apart = subst (λ present. ArePairwise (λ (one other : PresentKey). one.key ≡ other.key → ⊥) present) (sym same) kept.apart;
}

call_used : (plan : ShardPlan) (entry : Entry) (older : List Entry) (shard : SequentialShard) (call : Call) → entry.call ≡ call → entry.reply ≡ reply_of plan older shard call → AreUsed older shard →
    AreUsed (entry ∷ older) (shard_after_call plan older shard call)
call_used plan entry older shard (Enter number) call replied kept = used_longer entry older shard kept
call_used plan entry older shard (Leave number) call replied kept = used_longer entry older shard kept
call_used plan entry older shard (Lookup number key) call replied kept = used_longer entry older shard kept
call_used plan entry older shard (Load cell offset size) call replied kept = used_longer entry older shard kept
call_used plan entry older shard (Store cell offset size value) call replied kept = same_present (entry ∷ older) shard _ refl (used_longer entry older shard kept)
call_used plan entry older shard (Atomic cell offset size op value expected) call replied kept = same_present (entry ∷ older) shard _ refl (used_longer entry older shard kept)
call_used plan entry older shard (Update number key value flags) call replied kept = update_used plan entry older shard number key value flags call replied kept
call_used plan entry older shard (Delete number key) call replied kept =
    updated_where-keeps (AreUsed (entry ∷ older)) (delete_answer plan shard key) (without_found shard (length older) (present_key shard key)) shard
    (used_without (entry ∷ older) shard (length older) (present_key shard key) (used_longer entry older shard kept)) (used_longer entry older shard kept)
call_used plan entry older shard (Reclaim number) call replied kept = same_present (entry ∷ older) shard _ refl (used_longer entry older shard kept)

pub are_used : (plan : ShardPlan) (history : List Entry) → IsLegalHistory plan history → AreUsed history (shard_after plan history)
are_used plan [] legal = record { used = tt; apart = tt }
are_used plan (entry ∷ older) legal = call_used plan entry older (shard_after plan older) entry.call refl legal.0.step.replied (are_used plan older legal.1)

pub were_used : (plan : ShardPlan) (history : List Entry) → IsLegalHistory plan history → AllByRecursion (λ (one : PresentKey). 0 < last_use one.key history) (shard_after plan history).present
were_used plan history legal = (are_used plan history legal).used

pub keys_differ : (plan : ShardPlan) (history : List Entry) → IsLegalHistory plan history → ArePairwise (λ (one other : PresentKey). one.key ≡ other.key → ⊥) (shard_after plan history).present
keys_differ plan history legal = (are_used plan history legal).apart

uses_differ_in : (history : List Entry) (present : List PresentKey) → AllByRecursion (λ (one : PresentKey). 0 < last_use one.key history) present → ArePairwise (λ (one other : PresentKey). one.key ≡ other.key → ⊥) present →
    ArePairwise (λ (one other : PresentKey). last_use one.key history ≡ last_use other.key history → ⊥) present
uses_differ_in history [] used apart = tt
uses_differ_in history (one ∷ rest) used apart = (
  each_weaker (λ (other : PresentKey). one.key ≡ other.key → ⊥) (λ (other : PresentKey). last_use one.key history ≡ last_use other.key history → ⊥) (λ other differ same. differ (same_use one.key other.key history used.0 same)) rest apart.0,
  uses_differ_in history rest used.1 apart.1,
)

pub uses_differ : (plan : ShardPlan) (history : List Entry) → IsLegalHistory plan history →
    ArePairwise (λ (one other : PresentKey). last_use one.key history ≡ last_use other.key history → ⊥) (shard_after plan history).present
uses_differ plan history legal = uses_differ_in history (shard_after plan history).present (were_used plan history legal) (keys_differ plan history legal)
