-- A hash map's shard that Updates and Reclaims alone changed: a key has the value of its last Update that was answered 0, and no other key
-- has one.
use Rattle.std.proofs.Common.{◌≡◌, ◌≢◌, ◌⊎◌, inl, inr, ℕ, zero, ◌+◌, ◌==◌, ◌&&◌, Bool, true, false, List, [], ◌∷◌, ◌++◌, length, refl, sym, ◌∙◌, ap, subst, bytes_eq}
use Rattle.std.specs.Prelude.{ℤ, pos, negsuc, Option, Some, None, option_map, if◌then◌else◌, find}
use Rattle.std.specs.List.{AllByRecursion}
use Rattle.std.proofs.Math.Seq.{get_or-append_seam}
use Rattle.std.proofs.lemmas.Bool.{eqb-true}
use Rattle.std.proofs.lemmas.List.{get_or-set_same, get_or-set_other, get_or_append_left}
use Rattle.std.proofs.lemmas.Slice.Eq.{bytes_eq-Decides}
use Rattle.ebpf_decode.specs.declared.map.MapDef.{MapDef}
use Rattle.ebpf_decode.specs.declared.map.MapKind.{MapKind}
use Rattle.ebpf_decode.specs.declared.map.MapKind.TheVariants.{Hash}
use Rattle.semantics.specs.declared.call.Call.{Call}
use Rattle.semantics.specs.declared.call.Call.TheVariants.{Enter, Leave, Lookup, Load, Store, Atomic, Update, Delete, Reclaim}
use Rattle.semantics.specs.declared.call.Caller.TheVariants.{Controller}
use Rattle.semantics.specs.declared.call.Entry.{Entry}
use Rattle.semantics.specs.declared.call.Reply.{Reply}
use Rattle.semantics.specs.declared.linux.UpdateFlags.{UpdateFlags}
use Rattle.semantics.specs.declared.linux.UpdateFlags.TheVariants.{Any, NoExist, Exist}
use Rattle.semantics.specs.declared.options.Options.{Options}
use Rattle.semantics.specs.declared.plan.PresentKey.{PresentKey}
use Rattle.semantics.specs.declared.plan.ShardPlan.{ShardPlan}
use Rattle.semantics.specs.CallerLaws.{is_caller, is_controller, own_entries}
use Rattle.semantics.specs.History.{IsLegalHistory}
use Rattle.semantics.specs.Linux.{update_flags_of}
use Rattle.semantics.specs.SequentialShard.{SequentialShard, shard_after, shard_after_call, cell_bytes, cell_of_present, cell_of_kind, cell_of_key, update_answer, update_answer_by, updated_where, with_value, with_new_key, after_eviction, is_full_of_keys, is_hash, has_free_cell, without_found, reply_of}
use Rattle.semantics.specs.LeastRecentlyUsed.{least_recently_used}
use Rattle.semantics.specs.Linux.{errno_code, success}
use Rattle.semantics.specs.declared.linux.Errno.TheVariants.{TooBig, NoMemory}
use Rattle.actors.specs.Commands.{AnsweredUpdate, with_updates, with_update, controller_entry}
use Rattle.actors.specs.SharedUpdates.{shard_of}
use Rattle.steered_replays.specs.Counting.{IsQuiet}
use Rattle.steered_replays.proofs.ArrayShards.{is_success, succeeded}
use Rattle.steered_replays.proofs.NoteLemmas.{all_fall, cell_below, apart, find_holds, key_of_cell, other_key}

-- ---- the last value that was put

abbrev kept_by : List ℕ → Call → Reply → Option (List ℕ) → Option (List ℕ)
kept_by key (Update number asked value flags) reply before = if succeeded reply && bytes_eq asked key then Some value else before
kept_by key call reply before = before

abbrev pub last_kept : List ℕ → List Entry → Option (List ℕ)
last_kept key [] = None
last_kept key (entry ∷ older) = kept_by key entry.call entry.reply (last_kept key older)

abbrev pub IsKeeping : Call → Type 0
IsKeeping (Update number key value flags) = Unit {0}
IsKeeping (Reclaim number) = Unit {0}
IsKeeping call = IsQuiet call

abbrev value_in : SequentialShard → List ℕ → Option (List ℕ)
value_in shard key = option_map (cell_bytes shard) (cell_of_present shard.present key)

-- ---- an update that was answered 0

not_full : (full test : Bool) → (if full then errno_code TooBig else (if test then success else errno_code NoMemory)) ≡ pos 0 → full ≡ false
not_full true test is = absurd cc
not_full false test is = refl

room_for : (plan : ShardPlan) → plan.definition.kind ≡ Hash → (shard : SequentialShard) (flags : Option UpdateFlags) →
    update_answer_by Hash plan shard flags None ≡ pos 0 → is_full_of_keys plan shard ≡ false
room_for plan hash shard None is = absurd cc
room_for plan hash shard (Some Exist) is = absurd cc
room_for plan hash shard (Some Any) is =
    not_full (is_full_of_keys plan shard) (has_free_cell plan shard)
    (sym (ap (λ (kind : MapKind). if is_hash kind && is_full_of_keys plan shard then errno_code TooBig else (if has_free_cell plan shard then success else errno_code NoMemory)) hash) ∙ is)
room_for plan hash shard (Some NoExist) is =
    not_full (is_full_of_keys plan shard) (has_free_cell plan shard)
    (sym (ap (λ (kind : MapKind). if is_hash kind && is_full_of_keys plan shard then errno_code TooBig else (if has_free_cell plan shard then success else errno_code NoMemory)) hash) ∙ is)

module _ (plan : ShardPlan) (hash : plan.definition.kind ≡ Hash) (older : List Entry) (key : List ℕ) where
  abbrev shard : SequentialShard
  shard = shard_after plan older

  keyed : (asked : List ℕ) → cell_of_key plan shard asked ≡ cell_of_present shard.present asked
  keyed asked = ap (λ (kind : MapKind). cell_of_kind kind plan shard asked) hash

  -- into the cell of a key that is there
  set_there : (asked value : List ℕ) (cell : ℕ) → cell_of_present shard.present asked ≡ Some cell → (same : Bool) → bytes_eq asked key ≡ same →
      value_in (with_value plan older shard asked value (Some cell)) key ≡ (if same then Some value else value_in shard key)
  set_there asked value cell at true test =
      let is : asked ≡ key = (bytes_eq-Decides asked key).0 test in
      let found : cell_of_present shard.present key ≡ Some cell = subst (λ (k : List ℕ). cell_of_present shard.present k ≡ Some cell) is at in
      ap (option_map (cell_bytes (with_value plan older shard asked value (Some cell)))) found
      ∙ ap Some (get_or-set_same shard.cells cell value [] (cell_below (length shard.cells) shard.present key cell (all_fall plan older) found))
  set_there asked value cell at false test = by (cell_of_present shard.present key) refl
    where
      by : (found : Option ℕ) → cell_of_present shard.present key ≡ found →
          option_map (cell_bytes (with_value plan older shard asked value (Some cell))) (cell_of_present shard.present key)
          ≡ option_map (cell_bytes shard) (cell_of_present shard.present key)
      by None is =
          ap (option_map (cell_bytes (with_value plan older shard asked value (Some cell)))) is ∙ sym (ap (option_map (cell_bytes shard)) is)
      by (Some other) is =
          let one = key_of_cell (find (λ (one : PresentKey). bytes_eq one.key asked) shard.present) cell at in
          let its : bytes_eq one.0.key asked ≡ true = find_holds (λ (one : PresentKey). bytes_eq one.key asked) shard.present one.0 one.1 in
          let not_cell : one.0.cell ≢ other =
          apart (λ (one : PresentKey). bytes_eq one.key asked) (length shard.cells) shard.present key other one.0 (all_fall plan older) is one.1 (other_key one.0 asked key its test) in
          ap (option_map (cell_bytes (with_value plan older shard asked value (Some cell)))) is
          ∙ ap Some (get_or-set_other shard.cells cell other value [] (λ same. not_cell (one.2 ∙ sym same)))
          ∙ sym (ap (option_map (cell_bytes shard)) is)

  -- under a new key
  set_new : (asked value : List ℕ) → is_full_of_keys plan shard ≡ false → (same : Bool) → bytes_eq asked key ≡ same →
      value_in (with_value plan older shard asked value None) key ≡ (if same then Some value else value_in shard key)
  set_new asked value room same test =
      ap (λ (s : SequentialShard). value_in (with_new_key s asked value) key) evicted ∙ by same test
    where
      evicted : after_eviction plan older shard ≡ shard
      evicted = ap (λ (full : Bool). if full then without_found shard (length older) (least_recently_used older shard.present) else shard) room

      by : (same : Bool) → bytes_eq asked key ≡ same → value_in (with_new_key shard asked value) key ≡ (if same then Some value else value_in shard key)
      by true is =
          let here : cell_of_present (with_new_key shard asked value).present key ≡ Some (length shard.cells) = rw is refl in
          ap (option_map (cell_bytes (with_new_key shard asked value))) here ∙ ap Some (get_or-append_seam shard.cells value [] [])
      by false is =
          let before : cell_of_present (with_new_key shard asked value).present key ≡ cell_of_present shard.present key = rw is refl in
          ap (option_map (cell_bytes (with_new_key shard asked value))) before ∙ by_found (cell_of_present shard.present key) refl
        where
          by_found : (found : Option ℕ) → cell_of_present shard.present key ≡ found →
              option_map (cell_bytes (with_new_key shard asked value)) (cell_of_present shard.present key)
              ≡ option_map (cell_bytes shard) (cell_of_present shard.present key)
          by_found None none = ap (option_map (cell_bytes (with_new_key shard asked value))) none ∙ sym (ap (option_map (cell_bytes shard)) none)
          by_found (Some cell) found =
              ap (option_map (cell_bytes (with_new_key shard asked value))) found
              ∙ ap Some (get_or_append_left shard.cells (value ∷ []) [] cell (cell_below (length shard.cells) shard.present key cell (all_fall plan older) found))
              ∙ sym (ap (option_map (cell_bytes shard)) found)

  set_by : (asked value : List ℕ) (flags : ℕ) →
      value_in (updated_where (update_answer plan shard asked flags) (with_value plan older shard asked value (cell_of_key plan shard asked)) shard) key
      ≡ (if is_success (update_answer plan shard asked flags) && bytes_eq asked key then Some value else value_in shard key)
  set_by asked value flags = by_answer (update_answer plan shard asked flags) refl
    where
      by_found : update_answer plan shard asked flags ≡ pos 0 → (found : Option ℕ) → cell_of_key plan shard asked ≡ found →
          value_in (with_value plan older shard asked value found) key ≡ (if bytes_eq asked key then Some value else value_in shard key)
      by_found is (Some cell) at = set_there asked value cell (sym (keyed asked) ∙ at) (bytes_eq asked key) refl
      by_found is None at =
          set_new asked value
          (room_for plan hash shard (update_flags_of flags)
          (sym (ap (λ (kind : MapKind). update_answer_by kind plan shard (update_flags_of flags) (cell_of_key plan shard asked)) hash
          ∙ ap (update_answer_by Hash plan shard (update_flags_of flags)) at) ∙ is)) (bytes_eq asked key) refl

      by_zero : (n : ℕ) → update_answer plan shard asked flags ≡ pos n → (zero : Bool) → (n == 0) ≡ zero →
          value_in (if zero then with_value plan older shard asked value (cell_of_key plan shard asked) else shard) key
          ≡ (if zero && bytes_eq asked key then Some value else value_in shard key)
      by_zero n is true test = by_found (is ∙ ap pos (eqb-true n 0 test)) (cell_of_key plan shard asked) refl
      by_zero n is false test = refl

      by_answer : (answer : ℤ) → update_answer plan shard asked flags ≡ answer →
          value_in (updated_where answer (with_value plan older shard asked value (cell_of_key plan shard asked)) shard) key
          ≡ (if is_success answer && bytes_eq asked key then Some value else value_in shard key)
      by_answer (pos n) is = by_zero n is (n == 0) refl
      by_answer (negsuc n) is = refl

  call_keeps : (call : Call) (reply : Reply) → IsKeeping call → reply ≡ reply_of plan older shard call →
      value_in (shard_after_call plan older shard call) key ≡ kept_by key call reply (value_in shard key)
  call_keeps (Update number asked value flags) reply keeps replied =
      set_by asked value flags ∙ ap (λ (r : Reply). kept_by key (Update number asked value flags) r (value_in shard key)) (sym replied)
  call_keeps (Reclaim number) reply keeps replied = refl
  call_keeps (Enter number) reply keeps replied = refl
  call_keeps (Leave number) reply keeps replied = refl
  call_keeps (Lookup number asked) reply keeps replied = refl
  call_keeps (Load ref offset size) reply keeps replied = refl
  call_keeps (Store ref offset size value) reply keeps replied = absurd keeps
  call_keeps (Atomic ref offset size op value expected) reply keeps replied = absurd keeps
  call_keeps (Delete number asked) reply keeps replied = absurd keeps

value_after : (plan : ShardPlan) → plan.definition.kind ≡ Hash → (key : List ℕ) (history : List Entry) → IsLegalHistory plan history →
    AllByRecursion (λ (entry : Entry). IsKeeping entry.call) history → value_in (shard_after plan history) key ≡ last_kept key history
value_after plan hash key [] legal all = refl
value_after plan hash key (entry ∷ older) legal all =
    call_keeps plan hash older key entry.call entry.reply all.0 legal.0.step.replied
    ∙ ap (kept_by key entry.call entry.reply) (value_after plan hash key older legal.1 all.1)

pub kept_after : (plan : ShardPlan) → plan.definition.kind ≡ Hash → (key : List ℕ) (history : List Entry) → IsLegalHistory plan history →
    AllByRecursion (λ (entry : Entry). IsKeeping entry.call) history →
    option_map (cell_bytes (shard_after plan history)) (cell_of_key plan (shard_after plan history) key) ≡ last_kept key history
kept_after plan hash key history legal all =
    ap (λ (kind : MapKind). option_map (cell_bytes (shard_after plan history)) (cell_of_kind kind plan (shard_after plan history) key)) hash
    ∙ value_after plan hash key history legal all

-- ---- by the controller's own entries

-- an entry of the controller, or one that puts nothing
abbrev pub IsAsideOrOwn : Entry → Type 0
IsAsideOrOwn entry = (IsQuiet entry.call ⊎ ((number : ℕ) × (entry.call ≡ Reclaim number))) ⊎ (entry.who ≡ Controller)

quiet_keeps : (key : List ℕ) (call : Call) (reply : Reply) (before : Option (List ℕ)) → IsQuiet call → kept_by key call reply before ≡ before
quiet_keeps key (Enter number) reply before quiet = refl
quiet_keeps key (Leave number) reply before quiet = refl
quiet_keeps key (Lookup number asked) reply before quiet = refl
quiet_keeps key (Load ref offset size) reply before quiet = refl
quiet_keeps key _ reply before quiet = absurd quiet

pub own_keeps : (key : List ℕ) (history : List Entry) → AllByRecursion IsAsideOrOwn history → last_kept key history ≡ last_kept key (own_entries Controller history)
own_keeps key [] all = refl
own_keeps key (entry ∷ older) all = by (own_keeps key older all.1) all.0 (is_caller Controller entry.who) refl
  where
    by : last_kept key older ≡ last_kept key (own_entries Controller older) → IsAsideOrOwn entry → (test : Bool) → is_caller Controller entry.who ≡ test →
        kept_by key entry.call entry.reply (last_kept key older) ≡ last_kept key (if test then entry ∷ own_entries Controller older else own_entries Controller older)
    by rest one true is = ap (kept_by key entry.call entry.reply) rest
    by rest (inl (inl quiet)) false is = quiet_keeps key entry.call entry.reply (last_kept key older) quiet ∙ rest
    by rest (inl (inr (number, call))) false is = ap (λ (c : Call). kept_by key c entry.reply (last_kept key older)) call ∙ rest
    by rest (inr own) false is = absurd (let made : is_controller entry.who ≡ true = ap is_controller own in cc)

-- ---- by the updates that were made

abbrev pub kept_made : (AnsweredUpdate → Bool) → List AnsweredUpdate → Option (List ℕ) → Option (List ℕ)
kept_made at [] before = before
kept_made at (made ∷ later) before = kept_made at later (if at made then Some made.update.value else before)

abbrev pub is_key_in : List MapDef → Options → ℕ → List ℕ → AnsweredUpdate → Bool
is_key_in maps options number key made = (shard_of maps options made.update == number) && (is_success made.answer && bytes_eq made.update.key key)

pub updates_keep : (maps : List MapDef) (options : Options) (number : ℕ) (key : List ℕ) (made : List AnsweredUpdate) (history : List Entry) →
    last_kept key (with_updates maps options number made history) ≡ kept_made (is_key_in maps options number key) made (last_kept key history)
updates_keep maps options number key [] history = refl
updates_keep maps options number key (made ∷ later) history =
    updates_keep maps options number key later (with_update maps options number made history)
    ∙ ap (kept_made (is_key_in maps options number key) later) (by (shard_of maps options made.update == number))
  where
    by : (test : Bool) → last_kept key (if test then controller_entry number made ∷ history else history)
        ≡ (if test && (is_success made.answer && bytes_eq made.update.key key) then Some made.update.value else last_kept key history)
    by true = refl
    by false = refl

pub same_kept : (at other : AnsweredUpdate → Bool) (made : List AnsweredUpdate) (before : Option (List ℕ)) → AllByRecursion (λ (one : AnsweredUpdate). at one ≡ other one) made →
    kept_made at made before ≡ kept_made other made before
same_kept at other [] before all = refl
same_kept at other (made ∷ later) before all =
    same_kept at other later (if at made then Some made.update.value else before) all.1
    ∙ ap (λ (test : Bool). kept_made other later (if test then Some made.update.value else before)) all.0

pub kept_both : (at : AnsweredUpdate → Bool) (made more : List AnsweredUpdate) (before : Option (List ℕ)) →
    kept_made at (made ++ more) before ≡ kept_made at more (kept_made at made before)
kept_both at [] more before = refl
kept_both at (one ∷ made) more before = kept_both at made more (if at one then Some one.update.value else before)

pub none_kept : (at : AnsweredUpdate → Bool) (made : List AnsweredUpdate) (before : Option (List ℕ)) → AllByRecursion (λ (one : AnsweredUpdate). at one ≡ false) made →
    kept_made at made before ≡ before
none_kept at [] before all = refl
none_kept at (made ∷ later) before all =
    ap (λ (test : Bool). kept_made at later (if test then Some made.update.value else before)) all.0 ∙ none_kept at later before all.1
