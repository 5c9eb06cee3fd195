-- The words that the Updates of an array's journals leave: each is the front of the last value that was put in its cell.
use Rattle.std.proofs.Common.{◌≡◌, ◌≢◌, ℕ, zero, suc, ◌+◌, ◌*◌, ◌/◌, ◌%◌, ◌<◌, ◌==◌, ◌&&◌, Bool, true, false, List, [], ◌∷◌, ◌++◌, length, refl, sym, ◌∙◌, ap, subst, arith, add-one}
use Rattle.std.specs.Prelude.{pos, negsuc, Some, nat_lt, set, reverse, slice_get, take, if◌then◌else◌, IsTrue}
use Rattle.std.proofs.lemmas.Bool.{eqb-true, eqb-false, lt-ltb}
use Rattle.std.proofs.lemmas.List.{length-set, reverse-append}
use Rattle.std.proofs.lemmas.Nat.{div-add-mod'}
use Rattle.ebpf_decode.specs.declared.map.MapKind.{MapKind}
use Rattle.ebpf_decode.specs.declared.map.MapKind.TheVariants.{Array}
use Rattle.semantics.specs.declared.call.Call.{Call}
use Rattle.semantics.specs.declared.call.Call.TheVariants.{Enter, Leave, Lookup, Load, Store, Atomic, Update, Delete, Reclaim}
use Rattle.semantics.specs.declared.call.Caller.{Caller}
use Rattle.semantics.specs.declared.call.Entry.{Entry}
use Rattle.semantics.specs.declared.call.Reply.{Reply}
use Rattle.semantics.specs.declared.call.Reply.TheVariants.{Answer, Entered, Left, Cell, Null, Word, Done, Freed}
use Rattle.semantics.specs.declared.plan.ShardPlan.{ShardPlan}
use Rattle.semantics.specs.History.{IsLegalHistory, meets, may_change_keys, is_own_key, is_value, are_flags, are_bytes}
use Rattle.semantics.specs.LeastRecentlyUsed.{is_done}
use Rattle.semantics.specs.LittleEndian.{number_of_bytes}
use Rattle.semantics.specs.Program.{part_of_key}
use Rattle.journals.specs.JournalsView.{JournalsView, entries_at}
use Rattle.semantics.proofs.shared.CallNumbers.{same_number}
use Rattle.semantics.proofs.shared.ConditionLemmas.{first_true, second_true}
use Rattle.steered_replays.specs.LastWords.{front_number, with_word, word_put, words_after, words_over}
use Rattle.steered_replays.proofs.ArrayShards.{succeeded, put_by, last_put}

-- ---- a word in its place

get_set_other : (xs : List ℕ) (i j x : ℕ) → i ≢ j → slice_get (set xs j x) i ≡ slice_get xs i
get_set_other [] i j x other = refl
get_set_other (y ∷ xs) zero zero x other = absurd (other refl)
get_set_other (y ∷ xs) zero (suc j) x other = refl
get_set_other (y ∷ xs) (suc i) zero x other = refl
get_set_other (y ∷ xs) (suc i) (suc j) x other = get_set_other xs i j x (λ same. other (ap suc same))

get_set_same : (xs : List ℕ) (j x : ℕ) → j < length xs → slice_get (set xs j x) j ≡ Some x
get_set_same [] j x within = absurd (omega (arith, within))
get_set_same (y ∷ xs) zero x within = refl
get_set_same (y ∷ xs) (suc j) x within = get_set_same xs j x (omega (arith, within))

put_here : (words : List ℕ) (place word : ℕ) → place < length words → slice_get (with_word words place word) place ≡ Some word
put_here words place word within =
    ap (λ (test : Bool). slice_get (if test then set words place word else words) place) (lt-ltb place (length words) within)
    ∙ get_set_same words place word within

put_elsewhere : (words : List ℕ) (place word index : ℕ) → index ≢ place → slice_get (with_word words place word) index ≡ slice_get words index
put_elsewhere words place word index other = by (nat_lt place (length words))
  where
    by : (test : Bool) → slice_get (if test then set words place word else words) index ≡ slice_get words index
    by true = get_set_other words index place word other
    by false = refl

as_many_put : (words : List ℕ) (place word : ℕ) → length (with_word words place word) ≡ length words
as_many_put words place word = by (nat_lt place (length words))
  where
    by : (test : Bool) → length (if test then set words place word else words) ≡ length words
    by true = length-set words place word
    by false = refl

-- ---- keys

front_of_four : (key : List ℕ) → length key ≡ 4 → front_number key ≡ number_of_bytes key
front_of_four (a ∷ b ∷ c ∷ d ∷ []) four = refl
front_of_four [] four = absurd cc
front_of_four (a ∷ []) four = absurd cc
front_of_four (a ∷ b ∷ []) four = absurd cc
front_of_four (a ∷ b ∷ c ∷ []) four = absurd cc
front_of_four (a ∷ b ∷ c ∷ d ∷ e ∷ rest) four = absurd cc

same_done : (reply : Reply) → succeeded reply ≡ is_done reply
same_done (Answer (pos n)) = refl
same_done (Answer (negsuc n)) = refl
same_done Entered = refl
same_done Left = refl
same_done (Cell cell) = refl
same_done Null = refl
same_done (Word value) = refl
same_done Done = refl
same_done (Freed count) = refl

-- a key of the shard: four bytes, for an index of its part
record IsIndexOf (plan : ShardPlan) (key : List ℕ) : Type 0 where
  four : length key ≡ 4
  part : number_of_bytes key % plan.parts ≡ plan.part

module _ (plan : ShardPlan) (array : plan.definition.kind ≡ Array) (sized : plan.definition.key_size ≡ 4) where
  key_is : (older : List Entry) (who : Caller) (number : ℕ) (key value : List ℕ) (flags : ℕ) →
      IsTrue (meets plan older who (Update number key value flags)) → IsIndexOf plan key
  key_is older who number key value flags met =
      let part : IsTrue ((may_change_keys plan older who && is_own_key plan key) && (is_value plan value && are_flags flags)) =
      second_true (number == plan.number) _ met in
      let own : IsTrue (is_own_key plan key) =
      second_true (may_change_keys plan older who) (is_own_key plan key) (first_true (may_change_keys plan older who && is_own_key plan key) _ part) in
      let in_part : IsTrue (part_of_key plan.definition.kind plan.parts key == plan.part && are_bytes key) =
      second_true (length key == plan.definition.key_size) _ own in
      record {
        four = same_number _ _ (first_true (length key == plan.definition.key_size) _ own) ∙ sized;
        part = ap (λ (kind : MapKind). part_of_key kind plan.parts key) (sym array)
            ∙ same_number _ _ (first_true (part_of_key plan.definition.kind plan.parts key == plan.part) (are_bytes key) in_part);
      }

  -- ---- one entry

  module _ (index : ℕ) where
    abbrev cell : ℕ
    cell = index / plan.parts

    abbrev Has : List ℕ → List ℕ → Type 0
    Has words value = slice_get words index ≡ Some (front_number value)

    same_index : (key : List ℕ) → IsIndexOf plan key → index % plan.parts ≡ plan.part → number_of_bytes key / plan.parts ≡ cell → number_of_bytes key ≡ index
    same_index key is own same =
        sym (div-add-mod' (number_of_bytes key) plan.parts)
        ∙ ap (λ (n : ℕ). n * plan.parts + number_of_bytes key % plan.parts) same
        ∙ ap (λ (n : ℕ). cell * plan.parts + n) (is.part ∙ sym own)
        ∙ div-add-mod' index plan.parts

    update_puts : (key value words before : List ℕ) → IsIndexOf plan key → index % plan.parts ≡ plan.part → index < length words → Has words before →
        (done : Bool) → Has (if done then with_word words (front_number key) (front_number value) else words)
        (if done && (number_of_bytes key / plan.parts == cell) then value else before)
    update_puts key value words before is own within has false = has
    update_puts key value words before is own within has true = by (number_of_bytes key / plan.parts == cell) refl
      where
        at : front_number key ≡ number_of_bytes key
        at = front_of_four key is.four

        by : (here : Bool) → (number_of_bytes key / plan.parts == cell) ≡ here →
            Has (with_word words (front_number key) (front_number value)) (if here then value else before)
        by true test =
            let place : front_number key ≡ index = at ∙ same_index key is own (eqb-true (number_of_bytes key / plan.parts) cell test) in
            ap (λ (n : ℕ). slice_get (with_word words n (front_number value)) index) place ∙ put_here words index (front_number value) within
        by false test =
            put_elsewhere words (front_number key) (front_number value) index
            (λ same. eqb-false (number_of_bytes key / plan.parts) cell test (ap (λ (n : ℕ). n / plan.parts) (sym at ∙ sym same)))
            ∙ has

    entry_puts : (older : List Entry) (who : Caller) (reply : Reply) (words before : List ℕ) → index % plan.parts ≡ plan.part → index < length words →
        Has words before → (call : Call) → IsTrue (meets plan older who call) → Has (word_put words call reply) (put_by plan.parts cell call reply before)
    entry_puts older who reply words before own within has (Update number key value flags) met =
        subst
        (λ (done : Bool). Has (word_put words (Update number key value flags) reply) (if done && (number_of_bytes key / plan.parts == cell) then value else before))
        (sym (same_done reply))
        (update_puts key value words before (key_is older who number key value flags met) own within has (is_done reply))
    entry_puts older who reply words before own within has (Enter number) met = has
    entry_puts older who reply words before own within has (Leave number) met = has
    entry_puts older who reply words before own within has (Lookup number key) met = has
    entry_puts older who reply words before own within has (Load ref offset size) met = has
    entry_puts older who reply words before own within has (Store ref offset size value) met = has
    entry_puts older who reply words before own within has (Atomic ref offset size op value expected) met = has
    entry_puts older who reply words before own within has (Delete number key) met = has
    entry_puts older who reply words before own within has (Reclaim number) met = has

    entry_keeps : (older : List Entry) (who : Caller) (reply : Reply) (words : List ℕ) → index % plan.parts ≢ plan.part → (call : Call) →
        IsTrue (meets plan older who call) → slice_get (word_put words call reply) index ≡ slice_get words index
    entry_keeps older who reply words other (Update number key value flags) met = by (is_done reply)
      where
        is : IsIndexOf plan key
        is = key_is older who number key value flags met

        elsewhere : index ≢ front_number key
        elsewhere same = other (ap (λ (n : ℕ). n % plan.parts) (same ∙ front_of_four key is.four) ∙ is.part)

        by : (done : Bool) → slice_get (if done then with_word words (front_number key) (front_number value) else words) index ≡ slice_get words index
        by true = put_elsewhere words (front_number key) (front_number value) index elsewhere
        by false = refl
    entry_keeps older who reply words other (Enter number) met = refl
    entry_keeps older who reply words other (Leave number) met = refl
    entry_keeps older who reply words other (Lookup number key) met = refl
    entry_keeps older who reply words other (Load ref offset size) met = refl
    entry_keeps older who reply words other (Store ref offset size value) met = refl
    entry_keeps older who reply words other (Atomic ref offset size op value expected) met = refl
    entry_keeps older who reply words other (Delete number key) met = refl
    entry_keeps older who reply words other (Reclaim number) met = refl

-- ---- a journal

as_many_of : (words : List ℕ) (call : Call) (reply : Reply) → length (word_put words call reply) ≡ length words
as_many_of words (Update number key value flags) reply = by (is_done reply)
  where
    by : (done : Bool) → length (if done then with_word words (front_number key) (front_number value) else words) ≡ length words
    by true = as_many_put words (front_number key) (front_number value)
    by false = refl
as_many_of words (Enter number) reply = refl
as_many_of words (Leave number) reply = refl
as_many_of words (Lookup number key) reply = refl
as_many_of words (Load ref offset size) reply = refl
as_many_of words (Store ref offset size value) reply = refl
as_many_of words (Atomic ref offset size op value expected) reply = refl
as_many_of words (Delete number key) reply = refl
as_many_of words (Reclaim number) reply = refl

-- by the newest entry first
abbrev words_by : List ℕ → List Entry → List ℕ
words_by words [] = words
words_by words (entry ∷ older) = word_put (words_by words older) entry.call entry.reply

as_many_by : (words : List ℕ) (history : List Entry) → length (words_by words history) ≡ length words
as_many_by words [] = refl
as_many_by words (entry ∷ older) = as_many_of (words_by words older) entry.call entry.reply ∙ as_many_by words older

by_both : (words : List ℕ) (newer older : List Entry) → words_by words (newer ++ older) ≡ words_by (words_by words older) newer
by_both words [] older = refl
by_both words (entry ∷ newer) older = ap (λ (w : List ℕ). word_put w entry.call entry.reply) (by_both words newer older)

either_way : (words : List ℕ) (entries : List Entry) → words_after words entries ≡ words_by words (reverse entries)
either_way words [] = refl
either_way words (entry ∷ later) =
    either_way (word_put words entry.call entry.reply) later
    ∙ sym (by_both words (reverse later) (entry ∷ []))
    ∙ ap (words_by words) (sym (reverse-append (entry ∷ []) later))

-- one entry more behind these
pub after_one : (words : List ℕ) (entries : List Entry) (entry : Entry) →
    words_after words (entries ++ entry ∷ []) ≡ word_put (words_after words entries) entry.call entry.reply
after_one words [] entry = refl
after_one words (first ∷ entries) entry = after_one (word_put words first.call first.reply) entries entry

take_one : (entries : List Entry) (place : ℕ) (entry : Entry) → slice_get entries place ≡ Some entry → take (place + 1) entries ≡ take place entries ++ entry ∷ []
take_one entries place entry known = ap (λ (n : ℕ). take n entries) (add-one place) ∙ by entries place known
  where
    by : (list : List Entry) (n : ℕ) → slice_get list n ≡ Some entry → take (suc n) list ≡ take n list ++ entry ∷ []
    by [] n there = absurd cc
    by (first ∷ later) zero there = let same : first ≡ entry = cc there in ap (λ (e : Entry). e ∷ []) same
    by (first ∷ later) (suc n) there = ap (λ (l : List Entry). first ∷ l) (by later n there)

pub entry_more : (first before after : List ℕ) (entries : List Entry) (place : ℕ) (entry : Entry) → before ≡ words_after first (take place entries) →
    slice_get entries place ≡ Some entry → after ≡ word_put before entry.call entry.reply → after ≡ words_after first (take (place + 1) entries)
entry_more first before after entries place entry known there more =
    more
    ∙ ap (λ (w : List ℕ). word_put w entry.call entry.reply) known
    ∙ sym (after_one first (take place entries) entry)
    ∙ ap (words_after first) (sym (take_one entries place entry there))

pub shard_more : (journals : JournalsView) (first count number : ℕ) (words before after : List ℕ) → number ≡ first + count →
    before ≡ words_over journals first count words → after ≡ words_after before (entries_at journals number) → after ≡ words_over journals first (count + 1) words
shard_more journals first count number words before after at known more =
    more
    ∙ ap (λ (n : ℕ). words_after before (entries_at journals n)) at
    ∙ ap (λ (w : List ℕ). words_after w (entries_at journals (first + count))) known
    ∙ ap (λ (n : ℕ). words_over journals first n words) (sym (add-one count))

pub as_many_after : (words : List ℕ) (entries : List Entry) → length (words_after words entries) ≡ length words
as_many_after words entries = ap (λ (w : List ℕ). length w) (either_way words entries) ∙ as_many_by words (reverse entries)

module _ (plan : ShardPlan) (array : plan.definition.kind ≡ Array) (sized : plan.definition.key_size ≡ 4) (index : ℕ) where
  by_puts : (words first : List ℕ) → index % plan.parts ≡ plan.part → index < length words → slice_get words index ≡ Some (front_number first) →
      (history : List Entry) → IsLegalHistory plan history →
      slice_get (words_by words history) index ≡ Some (front_number (last_put plan.parts (index / plan.parts) first history))
  by_puts words first own within has [] legal = has
  by_puts words first own within has (entry ∷ older) legal =
      entry_puts plan array sized index older entry.who entry.reply (words_by words older) (last_put plan.parts (index / plan.parts) first older) own
      (let as_many = as_many_by words older in omega (arith, as_many, within))
      (by_puts words first own within has older legal.1) entry.call legal.0.step.met

  by_keeps : (words : List ℕ) → index % plan.parts ≢ plan.part → (history : List Entry) → IsLegalHistory plan history →
      slice_get (words_by words history) index ≡ slice_get words index
  by_keeps words other [] legal = refl
  by_keeps words other (entry ∷ older) legal =
      entry_keeps plan array sized index older entry.who entry.reply (words_by words older) other entry.call legal.0.step.met
      ∙ by_keeps words other older legal.1

  -- the entries of this shard put the last value of a place of theirs
  pub after_puts : (words first : List ℕ) → index % plan.parts ≡ plan.part → index < length words → slice_get words index ≡ Some (front_number first) →
      (entries : List Entry) → IsLegalHistory plan (reverse entries) →
      slice_get (words_after words entries) index ≡ Some (front_number (last_put plan.parts (index / plan.parts) first (reverse entries)))
  after_puts words first own within has entries legal =
      ap (λ (w : List ℕ). slice_get w index) (either_way words entries) ∙ by_puts words first own within has (reverse entries) legal

  -- and no other
  pub after_keeps : (words : List ℕ) → index % plan.parts ≢ plan.part → (entries : List Entry) → IsLegalHistory plan (reverse entries) →
      slice_get (words_after words entries) index ≡ slice_get words index
  after_keeps words other entries legal =
      ap (λ (w : List ℕ). slice_get w index) (either_way words entries) ∙ by_keeps words other (reverse entries) legal
