-- What an Update noted for a flow is what a later Lookup finds, as long as no entry in between changed it.
use Rattle.std.proofs.Common.{◌≡◌, ◌≢◌, ℕ, ◌+◌, ◌<◌, ◌≤◌, ◌^◌, ◌==◌, Bool, true, false, cond, not, List, [], ◌∷◌, ◌++◌, length, Option, Some, None, refl, sym, ap, subst, arith, ◌∙◌, bytes_eq}
use Rattle.std.specs.Prelude.{ℤ, pos, negsuc, filter, find, option_map, take, drop, slice_set, if◌then◌else◌}
use Rattle.std.proofs.Math.Seq.{get_or-append_seam}
use Rattle.std.proofs.lemmas.Bool.{eqb-true, eqb-false, false≢true}
use Rattle.std.proofs.lemmas.List.{get_or-set_same, get_or-set_other, get_or_append_left, length-set, length-append}
use Rattle.std.proofs.lemmas.Slice.Eq.{bytes_eq-Decides}
use Rattle.ebpf_decode.specs.declared.map.MapKind.{MapKind}
use Rattle.ebpf_decode.specs.declared.map.MapKind.TheVariants.{LruHash}
use Rattle.semantics.specs.declared.call.Caller.{Caller}
use Rattle.semantics.specs.declared.call.Call.{Call}
use Rattle.semantics.specs.declared.call.Call.TheVariants.{Enter, Leave, Lookup, Load, Store, Atomic, Update, Delete, Reclaim}
use Rattle.semantics.specs.declared.call.Entry.{Entry}
use Rattle.semantics.specs.declared.plan.PresentKey.{PresentKey}
use Rattle.semantics.specs.declared.plan.ShardPlan.{ShardPlan}
use Rattle.semantics.specs.History.{IsLegalHistory}
use Rattle.semantics.specs.LeastRecentlyUsed.{least_recently_used}
use Rattle.semantics.specs.Linux.{success}
use Rattle.semantics.specs.LittleEndian.{number_of_bytes}
use Rattle.semantics.specs.SequentialShard.{SequentialShard, cell_of_present, cell_of_kind, cell_of_key, cell_bytes, is_full_of_keys, update_answer, delete_answer}
use Rattle.semantics.specs.SequentialShard.{without_key, without_found, after_eviction, with_new_key, with_value, updated_where, present_key, shard_after_call, shard_after, lookup_reply}
use Rattle.semantics.proofs.shared.LawLemmas.{updated_where-keeps, after_eviction-keeps}
use Rattle.conntrack.specs.Layouts.{flow_bytes}
use Rattle.steered_replays.specs.StickyFlows.{Evicts, LeavesNote, AllLeaveNote, noting_entry, NotesAreFound}

-- ---- keys that are present: their cells fall, so no two have one cell

abbrev pub Falls : ℕ → List PresentKey → Type 0
Falls bound [] = Unit {0}
Falls bound (one ∷ rest) = (one.cell < bound) × Falls one.cell rest

falls_below : (n m : ℕ) (present : List PresentKey) → n ≤ m → Falls n present → Falls m present
falls_below n m [] more falls = tt
falls_below n m (one ∷ rest) more falls = (let below = falls.0 in omega (arith, below, more), falls.1)

falls_filter : (test : PresentKey → Bool) (n : ℕ) (present : List PresentKey) → Falls n present → Falls n (filter test present)
falls_filter test n [] falls = tt
falls_filter test n (one ∷ rest) falls = by (falls_filter test one.cell rest falls.1) (test one)
  where
    by : Falls one.cell (filter test rest) → (t : Bool) → Falls n (cond t (one ∷ filter test rest) (filter test rest))
    by later true = (falls.0, later)
    by later false = falls_below one.cell n (filter test rest) (let below = falls.0 in omega (arith, below)) later

abbrev found_cell : List ℕ → Bool → PresentKey → List PresentKey → Option ℕ
found_cell key this one rest = option_map (λ (found : PresentKey). found.cell) (cond this (Some one) (find (λ (other : PresentKey). bytes_eq other.key key) rest))

pub cell_below : (n : ℕ) (present : List PresentKey) (key : List ℕ) (cell : ℕ) → Falls n present → cell_of_present present key ≡ Some cell → cell < n
cell_below n [] key cell falls found = absurd cc
cell_below n (one ∷ rest) key cell falls found = by (cell_below one.cell rest key cell falls.1) (bytes_eq one.key key) found
  where
    by : (cell_of_present rest key ≡ Some cell → cell < one.cell) → (this : Bool) → found_cell key this one rest ≡ Some cell → cell < n
    by later true is = let same : one.cell ≡ cell = cc is in let below = falls.0 in omega (arith, same, below)
    by later false is = let below : cell < one.cell = later is in let at = falls.0 in omega (arith, below, at)

find_below : (test : PresentKey → Bool) (n : ℕ) (present : List PresentKey) (gone : PresentKey) → Falls n present → find test present ≡ Some gone → gone.cell < n
find_below test n [] gone falls found = absurd cc
find_below test n (one ∷ rest) gone falls found = by (find_below test one.cell rest gone falls.1) (test one) found
  where
    by : (find test rest ≡ Some gone → gone.cell < one.cell) → (t : Bool) → cond t (Some one) (find test rest) ≡ Some gone → gone.cell < n
    by later true is = let same : one ≡ gone = cc is in subst (λ (g : PresentKey). g.cell < n) same falls.0
    by later false is = let below : gone.cell < one.cell = later is in let at = falls.0 in omega (arith, below, at)

pub find_holds : (test : PresentKey → Bool) (present : List PresentKey) (gone : PresentKey) → find test present ≡ Some gone → test gone ≡ true
find_holds test [] gone found = absurd cc
find_holds test (one ∷ rest) gone found = by (find_holds test rest gone) (test one) refl found
  where
    by : (find test rest ≡ Some gone → test gone ≡ true) → (t : Bool) → test one ≡ t → cond t (Some one) (find test rest) ≡ Some gone → test gone ≡ true
    by later true holds is = let same : one ≡ gone = cc is in subst (λ (g : PresentKey). test g ≡ true) same holds
    by later false holds is = later is

-- another key has another cell
pub apart : (test : PresentKey → Bool) (n : ℕ) (present : List PresentKey) (key : List ℕ) (cell : ℕ) (gone : PresentKey) → Falls n present →
    cell_of_present present key ≡ Some cell → find test present ≡ Some gone → bytes_eq gone.key key ≡ false → gone.cell ≢ cell
apart test n [] key cell gone falls found other not_key = absurd cc
apart test n (one ∷ rest) key cell gone falls found other not_key =
    by (λ at at_gone. apart test one.cell rest key cell gone falls.1 at at_gone not_key) (bytes_eq one.key key) refl found (test one) other
  where
    by : (cell_of_present rest key ≡ Some cell → find test rest ≡ Some gone → gone.cell ≢ cell) → (mine : Bool) → bytes_eq one.key key ≡ mine → found_cell key mine one rest ≡ Some cell → (its : Bool) → cond its (Some one) (find test rest) ≡ Some gone → gone.cell ≢ cell
    by later true is at true at_gone same =
        let one_is : one ≡ gone = cc at_gone in
        false≢true (sym not_key ∙ ap (λ (g : PresentKey). bytes_eq g.key key) (sym one_is) ∙ is)
    by later true is at false at_gone same =
        let here : one.cell ≡ cell = cc at in
        let below : gone.cell < one.cell = find_below test one.cell rest gone falls.1 at_gone in omega (arith, here, below, same)
    by later false is at true at_gone same =
        let here : one.cell ≡ gone.cell = ap (λ (g : PresentKey). g.cell) (let one_is : one ≡ gone = cc at_gone in one_is) in
        let below : cell < one.cell = cell_below one.cell rest key cell falls.1 at in omega (arith, here, below, same)
    by later false is at false at_gone same = later at at_gone same

still_found : (gone : ℕ) (present : List PresentKey) (key : List ℕ) (cell : ℕ) → cell_of_present present key ≡ Some cell → gone ≢ cell →
    cell_of_present (filter (λ (one : PresentKey). not (one.cell == gone)) present) key ≡ Some cell
still_found gone [] key cell found other = absurd cc
still_found gone (one ∷ rest) key cell found other =
    by (λ at. still_found gone rest key cell at other) (bytes_eq one.key key) refl found (one.cell == gone) refl
  where
    by : (cell_of_present rest key ≡ Some cell → cell_of_present (filter (λ (one : PresentKey). not (one.cell == gone)) rest) key ≡ Some cell) →
        (mine : Bool) → bytes_eq one.key key ≡ mine → found_cell key mine one rest ≡ Some cell → (this : Bool) → (one.cell == gone) ≡ this →
        cell_of_present (cond (not this) (one ∷ filter (λ (one : PresentKey). not (one.cell == gone)) rest) (filter (λ (one : PresentKey). not (one.cell == gone)) rest)) key ≡ Some cell
    by later true is at true same = let here : one.cell ≡ cell = cc at in absurd (other (sym (eqb-true one.cell gone same) ∙ here))
    by later true is at false same = rw is at
    by later false is at true same = later at
    by later false is at false same = rw is (later at)

-- ---- in every history of a shard they fall from the number of its cells on

abbrev pub Fall : SequentialShard → Type 0
Fall shard = Falls (length shard.cells) shard.present

fall_set : (shard : SequentialShard) (cell : ℕ) (bytes : List ℕ) → Fall shard → Falls (length (slice_set shard.cells cell bytes)) shard.present
fall_set shard cell bytes falls = subst (λ n. Falls n shard.present) (sym (length-set shard.cells cell bytes)) falls

fall_without : (shard : SequentialShard) (place : ℕ) (gone : Option PresentKey) → Fall shard → Fall (without_found shard place gone)
fall_without shard place None falls = falls
fall_without shard place (Some gone) falls = falls_filter (λ (one : PresentKey). not (one.cell == gone.cell)) (length shard.cells) shard.present falls

fall_new : (shard : SequentialShard) (key value : List ℕ) → Fall shard → Fall (with_new_key shard key value)
fall_new shard key value falls =
    (let more : length (shard.cells ++ value ∷ []) ≡ length shard.cells + length (value ∷ []) = length-append shard.cells (value ∷ []) in omega (arith, more), falls)

fall_value : (plan : ShardPlan) (history : List Entry) (shard : SequentialShard) (key value : List ℕ) (found : Option ℕ) → Fall shard →
    Fall (with_value plan history shard key value found)
fall_value plan history shard key value (Some cell) falls = fall_set shard cell value falls
fall_value plan history shard key value None falls =
    fall_new (after_eviction plan history shard) key value
    (after_eviction-keeps Fall plan history shard (λ gone is. fall_without shard (length history) gone falls) falls)

fall_after : (plan : ShardPlan) (history : List Entry) (shard : SequentialShard) (call : Call) → Fall shard → Fall (shard_after_call plan history shard call)
fall_after plan history shard (Enter number) falls = falls
fall_after plan history shard (Leave number) falls = falls
fall_after plan history shard (Lookup number key) falls = falls
fall_after plan history shard (Load cell offset size) falls = falls
fall_after plan history shard (Store cell offset size value) falls = fall_set shard cell.id _ falls
fall_after plan history shard (Atomic cell offset size op value expected) falls = fall_set shard cell.id _ falls
fall_after plan history shard (Update number key value flags) falls =
    updated_where-keeps Fall (update_answer plan shard key flags) (with_value plan history shard key value (cell_of_key plan shard key)) shard
    (fall_value plan history shard key value (cell_of_key plan shard key) falls) falls
fall_after plan history shard (Delete number key) falls =
    updated_where-keeps Fall (delete_answer plan shard key) (without_found shard (length history) (present_key shard key)) shard
    (fall_without shard (length history) (present_key shard key) falls) falls
fall_after plan history shard (Reclaim number) falls = falls

pub all_fall : (plan : ShardPlan) (history : List Entry) → Fall (shard_after plan history)
all_fall plan [] = tt
all_fall plan (entry ∷ older) = fall_after plan older (shard_after plan older) entry.call (all_fall plan older)

-- ---- a key in its cell

record Has (key value : List ℕ) (cell : ℕ) (shard : SequentialShard) : Type 0 where
  found : cell_of_present shard.present key ≡ Some cell
  bytes : cell_bytes shard cell ≡ value

keyed : (plan : ShardPlan) (shard : SequentialShard) (key : List ℕ) → plan.definition.kind ≡ LruHash → cell_of_key plan shard key ≡ cell_of_present shard.present key
keyed plan shard key is = ap (λ (kind : MapKind). cell_of_kind kind plan shard key) is

has_set : (shard : SequentialShard) (key value bytes : List ℕ) (cell other : ℕ) → other ≢ cell → Has key value cell shard → Has key value cell (record shard { cells = slice_set shard.cells other bytes })
has_set shard key value bytes cell other not_cell has = record {
  found = has.found;
  bytes = get_or-set_other shard.cells other cell bytes [] (λ same. not_cell (sym same)) ∙ has.bytes;
}

has_without : (shard : SequentialShard) (place : ℕ) (key value : List ℕ) (cell : ℕ) (gone : PresentKey) → gone.cell ≢ cell → Has key value cell shard →
    Has key value cell (without_key shard place gone)
has_without shard place key value cell gone other has = record {
  found = still_found gone.cell shard.present key cell has.found other;
  bytes = has.bytes;
}

has_new : (shard : SequentialShard) (key value asked its : List ℕ) (cell : ℕ) → Fall shard → bytes_eq asked key ≡ false → Has key value cell shard →
    Has key value cell (with_new_key shard asked its)
has_new shard key value asked its cell falls other has = record {
  found = rw other has.found;
  bytes = get_or_append_left shard.cells (its ∷ []) [] cell (cell_below (length shard.cells) shard.present key cell falls has.found) ∙ has.bytes;
}

-- a found cell is one of a key
pub key_of_cell : (found : Option PresentKey) (cell : ℕ) → option_map (λ (one : PresentKey). one.cell) found ≡ Some cell →
    (one : PresentKey) × (found ≡ Some one) × (one.cell ≡ cell)
key_of_cell None cell is = absurd cc
key_of_cell (Some one) cell is = (one, refl, let same : one.cell ≡ cell = cc is in same)

-- what is found under another key has another key
pub other_key : (one : PresentKey) (asked key : List ℕ) → bytes_eq one.key asked ≡ true → bytes_eq asked key ≡ false → bytes_eq one.key key ≡ false
other_key one asked key is other = ap (λ (k : List ℕ). bytes_eq k key) ((bytes_eq-Decides one.key asked).0 is) ∙ other

no_key : (one key : List ℕ) (test : Bool) → bytes_eq one key ≡ test → (one ≡ key → ⊥) → bytes_eq one key ≡ false
no_key one key true is not_same = absurd (not_same ((bytes_eq-Decides one key).0 is))
no_key one key false is not_same = is

module _ (plan : ShardPlan) (lru : plan.definition.kind ≡ LruHash) (history : List Entry) (key value : List ℕ) (cell : ℕ)
    (has : Has key value cell (shard_after plan history)) where
  falls : Fall (shard_after plan history)
  falls = all_fall plan history

  has_found : (asked its : List ℕ) (other : ℕ) → bytes_eq asked key ≡ false → cell_of_key plan (shard_after plan history) asked ≡ Some other →
      Has key value cell (record (shard_after plan history) { cells = slice_set (shard_after plan history).cells other its })
  has_found asked its other not_key at =
      let one = key_of_cell (find (λ (one : PresentKey). bytes_eq one.key asked) (shard_after plan history).present) other (sym (keyed plan (shard_after plan history) asked lru) ∙ at) in
      let is_asked : bytes_eq one.0.key asked ≡ true = find_holds (λ (one : PresentKey). bytes_eq one.key asked) (shard_after plan history).present one.0 one.1 in
      let not_cell : one.0.cell ≢ cell =
      apart (λ (one : PresentKey). bytes_eq one.key asked) (length (shard_after plan history).cells) (shard_after plan history).present key cell one.0 falls has.found one.1
      (other_key one.0 asked key is_asked not_key) in
      has_set (shard_after plan history) key value its cell other (λ same. not_cell (one.2 ∙ same)) has

  has_evicted : (number flags : ℕ) (asked its : List ℕ) → cell_of_key plan (shard_after plan history) asked ≡ None →
      update_answer plan (shard_after plan history) asked flags ≡ success → ¬ Evicts plan history key (Update number asked its flags) →
      Has key value cell (after_eviction plan history (shard_after plan history))
  has_evicted number flags asked its absent added kept = by_full (is_full_of_keys plan (shard_after plan history)) refl
    where
      by_gone : is_full_of_keys plan (shard_after plan history) ≡ true → (gone : Option PresentKey) →
          least_recently_used history (shard_after plan history).present ≡ gone →
          Has key value cell (without_found (shard_after plan history) (length history) gone)
      by_gone full None is = has
      by_gone full (Some gone) is =
          has_without (shard_after plan history) (length history) key value cell gone
          (apart _ (length (shard_after plan history).cells) (shard_after plan history).present key cell gone falls has.found is
          (no_key gone.key key (bytes_eq gone.key key) refl
          (λ same. kept (record { shard = number; asked = asked; value = its; flags = flags; call_is = refl; absent = absent; added = added; full = full; gone = gone; longest_ago = is; is_key = same }))))
          has

      by_full : (full : Bool) → is_full_of_keys plan (shard_after plan history) ≡ full →
          Has key value cell (if full then without_found (shard_after plan history) (length history) (least_recently_used history (shard_after plan history).present) else shard_after plan history)
      by_full true is = by_gone is (least_recently_used history (shard_after plan history).present) refl
      by_full false is = has

  has_updated : (number flags : ℕ) (asked its : List ℕ) → bytes_eq asked key ≡ false → ¬ Evicts plan history key (Update number asked its flags) →
      Has key value cell (shard_after_call plan history (shard_after plan history) (Update number asked its flags))
  has_updated number flags asked its not_key kept = by_answer (update_answer plan (shard_after plan history) asked flags) refl
    where
      by_found : update_answer plan (shard_after plan history) asked flags ≡ success → (found : Option ℕ) → cell_of_key plan (shard_after plan history) asked ≡ found →
          Has key value cell (with_value plan history (shard_after plan history) asked its found)
      by_found added (Some other) at = has_found asked its other not_key at
      by_found added None at =
          has_new (after_eviction plan history (shard_after plan history)) key value asked its cell
          (after_eviction-keeps Fall plan history (shard_after plan history) (λ gone is. fall_without (shard_after plan history) (length history) gone falls) falls)
          not_key (has_evicted number flags asked its at added kept)

      by_zero : (n : ℕ) → update_answer plan (shard_after plan history) asked flags ≡ pos n → (zero : Bool) → (n == 0) ≡ zero →
          Has key value cell (if zero then with_value plan history (shard_after plan history) asked its (cell_of_key plan (shard_after plan history) asked) else shard_after plan history)
      by_zero n is true test =
          by_found (is ∙ ap pos (eqb-true n 0 test)) (cell_of_key plan (shard_after plan history) asked) refl
      by_zero n is false test = has

      by_answer : (answer : ℤ) → update_answer plan (shard_after plan history) asked flags ≡ answer →
          Has key value cell (updated_where answer (with_value plan history (shard_after plan history) asked its (cell_of_key plan (shard_after plan history) asked)) (shard_after plan history))
      by_answer (pos n) is = by_zero n is (n == 0) refl
      by_answer (negsuc n) is = has

  has_deleted : (number : ℕ) (asked : List ℕ) → bytes_eq asked key ≡ false →
      Has key value cell (shard_after_call plan history (shard_after plan history) (Delete number asked))
  has_deleted number asked not_key =
      updated_where-keeps (Has key value cell) (delete_answer plan (shard_after plan history) asked)
      (without_found (shard_after plan history) (length history) (present_key (shard_after plan history) asked)) (shard_after plan history)
      (by_gone (present_key (shard_after plan history) asked) refl) has
    where
      by_gone : (gone : Option PresentKey) → present_key (shard_after plan history) asked ≡ gone →
          Has key value cell (without_found (shard_after plan history) (length history) gone)
      by_gone None is = has
      by_gone (Some gone) is =
          has_without (shard_after plan history) (length history) key value cell gone
          (apart (λ (one : PresentKey). bytes_eq one.key asked) (length (shard_after plan history).cells) (shard_after plan history).present key cell gone falls has.found is
          (other_key gone asked key (find_holds (λ (one : PresentKey). bytes_eq one.key asked) (shard_after plan history).present gone is) not_key))
          has

  has_after : (call : Call) → LeavesNote plan key cell history call → Has key value cell (shard_after_call plan history (shard_after plan history) call)
  has_after (Enter number) leaves = has
  has_after (Leave number) leaves = has
  has_after (Lookup number asked) leaves = has
  has_after (Load ref offset size) leaves = has
  has_after (Store ref offset size its) leaves =
      has_set (shard_after plan history) key value _ cell ref.id (λ same. eqb-false ref.id cell leaves.other_cell same) has
  has_after (Atomic ref offset size op its expected) leaves =
      has_set (shard_after plan history) key value _ cell ref.id (λ same. eqb-false ref.id cell leaves.other_cell same) has
  has_after (Update number asked its flags) leaves = has_updated number flags asked its leaves.other_key leaves.no_eviction
  has_after (Delete number asked) leaves = has_deleted number asked leaves.other_key
  has_after (Reclaim number) leaves = record { found = has.found; bytes = has.bytes }

has_since : (plan : ShardPlan) → plan.definition.kind ≡ LruHash → (since history : List Entry) (key value : List ℕ) (cell : ℕ) →
    Has key value cell (shard_after plan history) → AllLeaveNote plan key cell since history → Has key value cell (shard_after plan (since ++ history))
has_since plan lru [] history key value cell has all = has
has_since plan lru (entry ∷ older) history key value cell has all =
    has_after plan lru (older ++ history) key value cell (has_since plan lru older history key value cell has all.1) entry.call all.0

-- ---- the Update that notes it

pub legal_before : (plan : ShardPlan) (newer older : List Entry) → IsLegalHistory plan (newer ++ older) → IsLegalHistory plan older
legal_before plan [] older legal = legal
legal_before plan (entry ∷ newer) older legal = legal_before plan newer older legal.1

one_cell : (a b : ℕ) → Some a ≡ Some b → a ≡ b
one_cell a b same = cc

has_put : (plan : ShardPlan) → plan.definition.kind ≡ LruHash → (history : List Entry) (key value : List ℕ) (cell : ℕ) (found : Option ℕ) →
    cell_of_key plan (shard_after plan history) key ≡ found →
    cell_of_key plan (with_value plan history (shard_after plan history) key value found) key ≡ Some cell →
    Has key value cell (with_value plan history (shard_after plan history) key value found)
has_put plan lru history key value cell (Some at) is put_in =
    let there : cell_of_present (shard_after plan history).present key ≡ Some at = sym (keyed plan (shard_after plan history) key lru) ∙ is in
    let put : cell_of_present (shard_after plan history).present key ≡ Some cell =
    sym (keyed plan (with_value plan history (shard_after plan history) key value (Some at)) key lru) ∙ put_in in
    let same : at ≡ cell = one_cell at cell (sym there ∙ put) in
    record {
      found = put;
      bytes = subst (λ c. cell_bytes (with_value plan history (shard_after plan history) key value (Some at)) c ≡ value) same
          (get_or-set_same (shard_after plan history).cells at value []
          (cell_below (length (shard_after plan history).cells) (shard_after plan history).present key at (all_fall plan history) there));
    }
has_put plan lru history key value cell None is put_in =
    let shard : SequentialShard = after_eviction plan history (shard_after plan history) in
    let put : cell_of_present (with_new_key shard key value).present key ≡ Some cell = sym (keyed plan (with_new_key shard key value) key lru) ∙ put_in in
    let own : cell_of_present (with_new_key shard key value).present key ≡ Some (length shard.cells) = rw ((bytes_eq-Decides key key).1 refl) refl in
    let same : length shard.cells ≡ cell = one_cell (length shard.cells) cell (sym own ∙ put) in
    record {
      found = put;
      bytes = subst (λ c. cell_bytes (with_new_key shard key value) c ≡ value) same (get_or-append_seam shard.cells value [] []);
    }

has_noted : (plan : ShardPlan) → plan.definition.kind ≡ LruHash → (who : Caller) (number flags cell backend : ℕ) (key : List ℕ) (before : List Entry) →
    IsLegalHistory plan (noting_entry who number key backend flags ∷ before) →
    cell_of_key plan (shard_after plan (noting_entry who number key backend flags ∷ before)) key ≡ Some cell →
    Has key (flow_bytes (record { backend = backend })) cell (shard_after plan (noting_entry who number key backend flags ∷ before))
has_noted plan lru who number flags cell backend key before legal put_in =
    let answered : update_answer plan (shard_after plan before) key flags ≡ success = (let replied = legal.0.step.replied in cc replied) in
    let value : List ℕ = flow_bytes (record { backend = backend }) in
    let after : shard_after plan (noting_entry who number key backend flags ∷ before) ≡ with_value plan before (shard_after plan before) key value (cell_of_key plan (shard_after plan before) key) =
    ap (λ (answer : ℤ). updated_where answer (with_value plan before (shard_after plan before) key value (cell_of_key plan (shard_after plan before) key)) (shard_after plan before)) answered in
    subst (Has key value cell) (sym after)
    (has_put plan lru before key value cell (cell_of_key plan (shard_after plan before) key) refl
    (ap (λ (shard : SequentialShard). cell_of_key plan shard key) (sym after) ∙ put_in))

note_back : (n : ℕ) → n < 2 ^ 32 → number_of_bytes (take 8 (drop 0 (flow_bytes (record { backend = n })))) ≡ n
note_back n small = omega arith

pub notes_are_found : NotesAreFound
notes_are_found plan history key number cell lru legal noted =
    let put = noting_entry noted.who noted.shard key number noted.flags in
    let own : IsLegalHistory plan (noted.since ++ put ∷ noted.before) = subst (IsLegalHistory plan) noted.history_is legal in
    let first : Has key (flow_bytes (record { backend = number })) cell (shard_after plan (put ∷ noted.before)) =
    has_noted plan lru noted.who noted.shard noted.flags cell number key noted.before (legal_before plan noted.since (put ∷ noted.before) own) noted.put_in in
    let has : Has key (flow_bytes (record { backend = number })) cell (shard_after plan history) =
    subst (λ (h : List Entry). Has key (flow_bytes (record { backend = number })) cell (shard_after plan h)) (sym noted.history_is)
    (has_since plan lru noted.since (put ∷ noted.before) key (flow_bytes (record { backend = number })) cell first noted.untouched) in (
      λ shard. ap (lookup_reply plan) (keyed plan (shard_after plan history) key lru ∙ has.found),
      ap (λ bytes. number_of_bytes (take 8 (drop 0 bytes))) has.bytes ∙ note_back number noted.fits,
    )
