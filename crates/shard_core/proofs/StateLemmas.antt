-- What holds of every state that a history leads to: cells are apart, and were retired before now.
use Rattle.std.proofs.Common.{◌≡◌, ℕ, suc, ◌+◌, ◌<◌, Bool, true, false, cond, not, List, [], ◌∷◌, length, Option, Some, None, arith, refl, sym, ◌∙◌, ap, subst}
use Rattle.std.specs.Prelude.{◌==◌, filter, find, option_map, bytes_eq}
use Rattle.std.specs.List.{AllByRecursion}
use Rattle.std.proofs.lemmas.Slice.Eq.{bytes_eq-Decides}
use Rattle.std.proofs.lemmas.Bool.Decides.{nat_tests}
use Rattle.semantics.specs.declared.call.Call.{Call}
use Rattle.semantics.specs.declared.call.Call.TheVariants.{Enter, Leave, Lookup, Load, Store, Atomic, Update, Delete, Reclaim}
use Rattle.semantics.specs.declared.call.Entry.{Entry}
use Rattle.semantics.specs.declared.plan.PresentKey.{PresentKey}
use Rattle.semantics.specs.declared.plan.RetiredCell.{RetiredCell}
use Rattle.semantics.specs.declared.plan.ShardPlan.{ShardPlan}
use Rattle.semantics.specs.Reclamation.{is_reclaimable}
use Rattle.semantics.specs.LeastRecentlyUsed.{is_least_recently_used}
use Rattle.semantics.specs.SequentialShard.{SequentialShard, cell_of_present, cell_of_key, without_key, without_found, after_eviction, with_new_key, with_value, update_answer, delete_answer, present_key, shard_after_call, shard_after}
use Rattle.semantics.specs.UseLaws.{ArePairwise}
use Rattle.semantics.proofs.shared.LawLemmas.{updated_where-keeps, after_eviction-keeps}
use Rattle.semantics.proofs.shared.UseLemmas.{first_parts, pairs_filter}
use Rattle.semantics.proofs.shared.HoldingLemmas.{each_weaker, each_find, IsSound, sound_after}

-- ---- states

pub record IsApart (place : ℕ) (shard : SequentialShard) : Type 0 where
  pub since : AllByRecursion (λ (gone : RetiredCell). gone.since < place) shard.retired
  pub retired : ArePairwise (λ (one other : RetiredCell). one.cell ≡ other.cell → ⊥) shard.retired
  pub present : ArePairwise (λ (one other : PresentKey). one.cell ≡ other.cell → ⊥) shard.present

apart_later : (place : ℕ) (shard : SequentialShard) → IsApart place shard → IsApart (suc place) shard
apart_later place shard apart = record {
  since = each_weaker (λ (gone : RetiredCell). gone.since < place) (λ (gone : RetiredCell). gone.since < suc place) (λ gone before. omega (arith, before)) shard.retired apart.since;
  retired = apart.retired;
  present = apart.present;
}

apart_without_key : (shard : SequentialShard) (place : ℕ) (gone : PresentKey) → AllByRecursion (λ (old : RetiredCell). gone.cell ≡ old.cell → ⊥) shard.retired → IsApart place shard → IsApart (suc place) (without_key shard place gone)
apart_without_key shard place gone other apart = record {
  since = (omega arith, each_weaker (λ (one : RetiredCell). one.since < place) (λ (one : RetiredCell). one.since < suc place) (λ one before. omega (arith, before)) shard.retired apart.since);
  retired = (other, apart.retired);
  present = pairs_filter (λ (one other : PresentKey). one.cell ≡ other.cell → ⊥) (λ (one : PresentKey). not (one.cell == gone.cell)) shard.present apart.present;
}

apart_without_found : (shard : SequentialShard) (place : ℕ) (test : PresentKey → Bool) (gone : Option PresentKey) → gone ≡ find test shard.present → IsSound shard → IsApart place shard → IsApart (suc place) (without_found shard place gone)
apart_without_found shard place test None is sound apart = apart_later place shard apart
apart_without_found shard place test (Some gone) is sound apart =
    apart_without_key shard place gone (each_find (λ (one : PresentKey). AllByRecursion (λ (old : RetiredCell). one.cell ≡ old.cell → ⊥) shard.retired) test shard.present gone sound.apart (sym is)) apart

apart_with_new_key : (shard : SequentialShard) (place : ℕ) (key value : List ℕ) → AllByRecursion (λ (one : PresentKey). one.cell < length shard.cells) shard.present → IsApart place shard → IsApart place (with_new_key shard key value)
apart_with_new_key shard place key value below apart = record {
  since = apart.since;
  retired = apart.retired;
  present = (each_weaker (λ (one : PresentKey). one.cell < length shard.cells) (λ (one : PresentKey). length shard.cells ≡ one.cell → ⊥) (λ one under same. omega (arith, under, same)) shard.present below, apart.present);
}

present_below_without : (shard : SequentialShard) (place : ℕ) (gone : Option PresentKey) → AllByRecursion (λ (one : PresentKey). one.cell < length shard.cells) shard.present → AllByRecursion (λ (one : PresentKey). one.cell < length (without_found shard place gone).cells) (without_found shard place gone).present
present_below_without shard place None below = below
present_below_without shard place (Some gone) below = first_parts (λ (one : PresentKey). one.cell < length shard.cells) (λ (one : PresentKey). not (one.cell == gone.cell)) shard.present below

apart_with_value : (plan : ShardPlan) (history : List Entry) (shard : SequentialShard) (key value : List ℕ) (cell : Option ℕ) → IsSound shard → IsApart (length history) shard → IsApart (suc (length history)) (with_value plan history shard key value cell)
apart_with_value plan history shard key value (Some cell) sound apart = let later = apart_later (length history) shard apart in record { since = later.since; retired = later.retired; present = later.present }
apart_with_value plan history shard key value None sound apart =
    apart_with_new_key (after_eviction plan history shard) (suc (length history)) key value
    (after_eviction-keeps (λ after. AllByRecursion (λ (one : PresentKey). one.cell < length after.cells) after.present) plan history shard (λ gone is. present_below_without shard (length history) gone sound.present) sound.present)
    (after_eviction-keeps (IsApart (suc (length history))) plan history shard
    (λ gone is. apart_without_found shard (length history) (is_least_recently_used history shard.present) gone is sound apart) (apart_later (length history) shard apart))

apart_after_call : (plan : ShardPlan) (history : List Entry) (shard : SequentialShard) (call : Call) → IsSound shard → IsApart (length history) shard → IsApart (suc (length history)) (shard_after_call plan history shard call)
apart_after_call plan history shard (Enter number) sound apart = apart_later (length history) shard apart
apart_after_call plan history shard (Leave number) sound apart = apart_later (length history) shard apart
apart_after_call plan history shard (Lookup number key) sound apart = apart_later (length history) shard apart
apart_after_call plan history shard (Load cell offset size) sound apart = apart_later (length history) shard apart
apart_after_call plan history shard (Store cell offset size value) sound apart =
    let later = apart_later (length history) shard apart in record { since = later.since; retired = later.retired; present = later.present }
apart_after_call plan history shard (Atomic cell offset size op value expected) sound apart =
    let later = apart_later (length history) shard apart in record { since = later.since; retired = later.retired; present = later.present }
apart_after_call plan history shard (Update number key value flags) sound apart =
    updated_where-keeps (IsApart (suc (length history))) (update_answer plan shard key flags) (with_value plan history shard key value (cell_of_key plan shard key)) shard
    (apart_with_value plan history shard key value (cell_of_key plan shard key) sound apart) (apart_later (length history) shard apart)
apart_after_call plan history shard (Delete number key) sound apart =
    updated_where-keeps (IsApart (suc (length history))) (delete_answer plan shard key) (without_found shard (length history) (present_key shard key)) shard
    (apart_without_found shard (length history) (λ (one : PresentKey). bytes_eq one.key key) (present_key shard key) refl sound apart) (apart_later (length history) shard apart)
apart_after_call plan history shard (Reclaim number) sound apart =
    let later = apart_later (length history) shard apart in
    record {
      since = first_parts (λ (gone : RetiredCell). gone.since < suc (length history)) (λ (gone : RetiredCell). not (is_reclaimable history gone)) shard.retired later.since;
      retired = pairs_filter (λ (one other : RetiredCell). one.cell ≡ other.cell → ⊥) (λ (gone : RetiredCell). not (is_reclaimable history gone)) shard.retired apart.retired;
      present = apart.present;
    }

pub apart_after : (plan : ShardPlan) (history : List Entry) → IsApart (length history) (shard_after plan history)
apart_after plan [] = record { since = tt; retired = tt; present = tt }
apart_after plan (entry ∷ older) = apart_after_call plan older (shard_after plan older) entry.call (sound_after plan older) (apart_after plan older)

-- ---- the present keys once one is gone

same_bytes : (a b : List ℕ) → bytes_eq a b ≡ true → a ≡ b
same_bytes a b same = (bytes_eq-Decides a b).0 same

bytes_same : (a : List ℕ) → bytes_eq a a ≡ true
bytes_same a = (bytes_eq-Decides a a).1 refl

apart_test : (a b : ℕ) → (a ≡ b → ⊥) → not (b == a) ≡ true
apart_test a b apart = by_test (b == a) refl
  where
    by_test : (test : Bool) → (b == a) ≡ test → not test ≡ true
    by_test true is = absurd (let same : a ≡ b = grind (arith, nat_tests) in apart same)
    by_test false is = refl

all_stay : (cell : ℕ) (present : List PresentKey) → AllByRecursion (λ (one : PresentKey). cell ≡ one.cell → ⊥) present → filter (λ (one : PresentKey). not (one.cell == cell)) present ≡ present
all_stay cell [] each = refl
all_stay cell (one ∷ rest) each = rw (apart_test cell one.cell each.0) (ap (λ others. one ∷ others) (all_stay cell rest each.1))

-- a key that no present key is has no cell
none_of_another : (key q : List ℕ) (present : List PresentKey) → key ≡ q → AllByRecursion (λ (one : PresentKey). key ≡ one.key → ⊥) present → cell_of_present present q ≡ None
none_of_another key q [] same each = refl
none_of_another key q (one ∷ rest) same each = by_test (bytes_eq one.key q) refl (none_of_another key q rest same each.1)
  where
    by_test : (test : Bool) → bytes_eq one.key q ≡ test → cell_of_present rest q ≡ None → option_map (λ (found : PresentKey). found.cell) (cond test (Some one) (find (λ (other : PresentKey). bytes_eq other.key q) rest)) ≡ None
    by_test true is later = absurd (each.0 (same ∙ sym (same_bytes one.key q is)))
    by_test false is later = later

-- what one key's removal leaves
pub record IsGone (key : List ℕ) (gone : PresentKey) (present : List PresentKey) : Type 0 where
  pub finds : (q : List ℕ) → cell_of_present (filter (λ (one : PresentKey). not (one.cell == gone.cell)) present) q ≡ cond (bytes_eq key q) None (cell_of_present present q)
  pub count : length (filter (λ (one : PresentKey). not (one.cell == gone.cell)) present) + 1 ≡ length present

gone_first : (key : List ℕ) (gone : PresentKey) (rest : List PresentKey) → bytes_eq gone.key key ≡ true → AllByRecursion (λ (one : PresentKey). gone.key ≡ one.key → ⊥) rest → AllByRecursion (λ (one : PresentKey). gone.cell ≡ one.cell → ⊥) rest → IsGone key gone (gone ∷ rest)
gone_first key gone rest is keys cells =
    let itself : not (gone.cell == gone.cell) ≡ false = grind (arith, nat_tests) in
    let others : filter (λ (one : PresentKey). not (one.cell == gone.cell)) rest ≡ rest = all_stay gone.cell rest cells in
    record {
      finds = (λ q. rw itself (rw others (by_key q (bytes_eq key q) refl)));
      count = rw itself (rw others (omega arith));
    }
  where
    by_key : (q : List ℕ) (test : Bool) → bytes_eq key q ≡ test → cell_of_present rest q ≡ cond test None (option_map (λ (found : PresentKey). found.cell) (cond (bytes_eq gone.key q) (Some gone) (find (λ (other : PresentKey). bytes_eq other.key q) rest)))
    by_key q true same = none_of_another gone.key q rest (same_bytes gone.key key is ∙ same_bytes key q same) keys
    by_key q false other = by_own (bytes_eq gone.key q) refl
      where
        by_own : (own : Bool) → bytes_eq gone.key q ≡ own → cell_of_present rest q ≡ option_map (λ (found : PresentKey). found.cell) (cond own (Some gone) (find (λ (other : PresentKey). bytes_eq other.key q) rest))
        by_own true this = absurd (let same : key ≡ q = sym (same_bytes gone.key key is) ∙ same_bytes gone.key q this in let yes : bytes_eq key q ≡ true = (bytes_eq-Decides key q).1 same in cc)
        by_own false this = refl

gone_later : (key : List ℕ) (gone one : PresentKey) (rest : List PresentKey) → bytes_eq one.key key ≡ false → (one.cell ≡ gone.cell → ⊥) → IsGone key gone rest → IsGone key gone (one ∷ rest)
gone_later key gone one rest is apart after =
    let stays : not (one.cell == gone.cell) ≡ true = apart_test gone.cell one.cell (λ same. apart (sym same)) in
    record {
      finds = (λ q. rw stays (by_own q (bytes_eq one.key q) refl));
      count = rw stays (omega (arith, after.count));
    }
  where
    by_own : (q : List ℕ) (own : Bool) → bytes_eq one.key q ≡ own → option_map (λ (found : PresentKey). found.cell) (cond own (Some one) (find (λ (other : PresentKey). bytes_eq other.key q) (filter (λ (other : PresentKey). not (other.cell == gone.cell)) rest)))
        ≡ cond (bytes_eq key q) None (option_map (λ (found : PresentKey). found.cell) (cond own (Some one) (find (λ (other : PresentKey). bytes_eq other.key q) rest)))
    by_own q true this = by_key (bytes_eq key q) refl
      where
        by_key : (test : Bool) → bytes_eq key q ≡ test → Some one.cell ≡ cond test None (Some one.cell)
        by_key true same = absurd (let alike : one.key ≡ key = same_bytes one.key q this ∙ sym (same_bytes key q same) in let yes : bytes_eq one.key key ≡ true = (bytes_eq-Decides one.key key).1 alike in cc)
        by_key false other = refl
    by_own q false this = after.finds q

pub key_gone : (key : List ℕ) (gone : PresentKey) (present : List PresentKey) → find (λ (one : PresentKey). bytes_eq one.key key) present ≡ Some gone
    → ArePairwise (λ (one other : PresentKey). one.key ≡ other.key → ⊥) present → ArePairwise (λ (one other : PresentKey). one.cell ≡ other.cell → ⊥) present → IsGone key gone present
key_gone key gone [] found keys cells = cc
key_gone key gone (one ∷ rest) found keys cells = by_test (bytes_eq one.key key) refl found (λ later. key_gone key gone rest later keys.1 cells.1)
  where
    by_test : (test : Bool) → bytes_eq one.key key ≡ test → cond test (Some one) (find (λ (other : PresentKey). bytes_eq other.key key) rest) ≡ Some gone
        → (find (λ (other : PresentKey). bytes_eq other.key key) rest ≡ Some gone → IsGone key gone rest) → IsGone key gone (one ∷ rest)
    by_test true is this further =
        let same : one ≡ gone = cc in
        subst (λ first. IsGone key first (one ∷ rest)) same (gone_first key one rest is keys.0 cells.0)
    by_test false is later further =
        gone_later key gone one rest is (each_find (λ (other : PresentKey). one.cell ≡ other.cell → ⊥) (λ (other : PresentKey). bytes_eq other.key key) rest gone cells.0 later) (further later)
