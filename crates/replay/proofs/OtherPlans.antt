-- What the one-thread shard replies and leaves doesn't depend on the room of its journal.
use Rattle.std.proofs.Common.{◌≡◌, ℤ, List, [], ◌∷◌, Option, Some, None, refl, sym, ap, ◌∙◌}
use Rattle.ebpf_decode.specs.declared.map.MapKind.{MapKind}
use Rattle.ebpf_decode.specs.declared.map.MapKind.TheVariants.{Array, Hash, LruHash}
use Rattle.std.specs.Prelude.{ℕ}
use Rattle.semantics.specs.declared.call.Call.{Call}
use Rattle.semantics.specs.declared.call.Call.TheVariants.{Enter, Leave, Lookup, Load, Store, Atomic, Update, Delete, Reclaim}
use Rattle.semantics.specs.declared.call.Reply.TheVariants.{Answer}
use Rattle.semantics.specs.declared.call.Entry.{Entry}
use Rattle.semantics.specs.declared.linux.UpdateFlags.{UpdateFlags}
use Rattle.semantics.specs.declared.linux.UpdateFlags.TheVariants.{Any, NoExist, Exist}
use Rattle.semantics.specs.declared.plan.ShardPlan.{ShardPlan}
use Rattle.semantics.specs.Linux.{update_flags_of}
use Rattle.semantics.specs.SequentialShard.{SequentialShard, opening_cells, cell_of_kind, cell_of_key, absent_key_answer, keyed_update_answer, update_answer_of_kind, update_answer_by, update_answer, with_value, updated_where, without_found, present_key, delete_answer_of_kind, delete_answer, lookup_reply, reply_of, shard_after_call, shard_after}
use Rattle.std.specs.Prelude.{length}

-- the same plan with another room
abbrev pub with_room : ShardPlan → ℕ → ShardPlan
with_room plan room = record {
  number = plan.number;
  part = plan.part;
  parts = plan.parts;
  definition = plan.definition;
  workers = plan.workers;
  reserve = room;
}

module _ (plan : ShardPlan) (room : ℕ) where
  abbrev roomy : ShardPlan
  roomy = with_room plan room

  cells_alike : (kind : MapKind) → opening_cells kind roomy ≡ opening_cells kind plan
  cells_alike Array = refl
  cells_alike Hash = refl
  cells_alike LruHash = refl

  cell_by_kind : (kind : MapKind) (shard : SequentialShard) (key : List ℕ) → cell_of_kind kind roomy shard key ≡ cell_of_kind kind plan shard key
  cell_by_kind Array shard key = refl
  cell_by_kind Hash shard key = refl
  cell_by_kind LruHash shard key = refl

  cell_alike : (shard : SequentialShard) (key : List ℕ) → cell_of_key roomy shard key ≡ cell_of_key plan shard key
  cell_alike shard key = cell_by_kind plan.definition.kind shard key

  absent_alike : (shard : SequentialShard) (flags : UpdateFlags) → absent_key_answer roomy shard flags ≡ absent_key_answer plan shard flags
  absent_alike shard Any = refl
  absent_alike shard NoExist = refl
  absent_alike shard Exist = refl

  keyed_alike : (shard : SequentialShard) (flags : UpdateFlags) (cell : Option ℕ) →
      keyed_update_answer roomy shard flags cell ≡ keyed_update_answer plan shard flags cell
  keyed_alike shard flags (Some cell) = refl
  keyed_alike shard flags None = absent_alike shard flags

  answer_by_kind : (kind : MapKind) (shard : SequentialShard) (flags : UpdateFlags) (cell : Option ℕ) →
      update_answer_of_kind kind roomy shard flags cell ≡ update_answer_of_kind kind plan shard flags cell
  answer_by_kind Array shard flags cell = refl
  answer_by_kind Hash shard flags cell = keyed_alike shard flags cell
  answer_by_kind LruHash shard flags cell = keyed_alike shard flags cell

  answer_by : (shard : SequentialShard) (flags : Option UpdateFlags) (cell : Option ℕ) →
      update_answer_by plan.definition.kind roomy shard flags cell ≡ update_answer_by plan.definition.kind plan shard flags cell
  answer_by shard None cell = refl
  answer_by shard (Some flags) cell = answer_by_kind plan.definition.kind shard flags cell

  answer_alike : (shard : SequentialShard) (key : List ℕ) (flags : ℕ) → update_answer roomy shard key flags ≡ update_answer plan shard key flags
  answer_alike shard key flags =
      answer_by shard (update_flags_of flags) (cell_of_key roomy shard key)
      ∙ ap (λ (cell : Option ℕ). update_answer_by plan.definition.kind plan shard (update_flags_of flags) cell) (cell_alike shard key)

  deleted_alike : (shard : SequentialShard) (key : List ℕ) → delete_answer roomy shard key ≡ delete_answer plan shard key
  deleted_alike shard key = ap (delete_answer_of_kind plan.definition.kind) (cell_alike shard key)

  found_alike : (cell : Option ℕ) → lookup_reply roomy cell ≡ lookup_reply plan cell
  found_alike (Some cell) = refl
  found_alike None = refl

  reply_alike : (history : List Entry) (shard : SequentialShard) (call : Call) → reply_of roomy history shard call ≡ reply_of plan history shard call
  reply_alike history shard (Enter number) = refl
  reply_alike history shard (Leave number) = refl
  reply_alike history shard (Lookup number key) =
      ap (lookup_reply roomy) (cell_alike shard key) ∙ found_alike (cell_of_key plan shard key)
  reply_alike history shard (Load cell offset size) = refl
  reply_alike history shard (Store cell offset size value) = refl
  reply_alike history shard (Atomic cell offset size op value expected) = refl
  reply_alike history shard (Update number key value flags) = ap (λ (answer : ℤ). Answer answer) (answer_alike shard key flags)
  reply_alike history shard (Delete number key) = ap (λ (answer : ℤ). Answer answer) (deleted_alike shard key)
  reply_alike history shard (Reclaim number) = refl

  value_alike : (history : List Entry) (shard : SequentialShard) (key value : List ℕ) (cell : Option ℕ) →
      with_value roomy history shard key value cell ≡ with_value plan history shard key value cell
  value_alike history shard key value (Some cell) = refl
  value_alike history shard key value None = refl

  step_alike : (history : List Entry) (shard : SequentialShard) (call : Call) →
      shard_after_call roomy history shard call ≡ shard_after_call plan history shard call
  step_alike history shard (Enter number) = refl
  step_alike history shard (Leave number) = refl
  step_alike history shard (Lookup number key) = refl
  step_alike history shard (Load cell offset size) = refl
  step_alike history shard (Store cell offset size value) = refl
  step_alike history shard (Atomic cell offset size op value expected) = refl
  step_alike history shard (Update number key value flags) =
      ap (λ (answer : ℤ). updated_where answer (with_value roomy history shard key value (cell_of_key roomy shard key)) shard) (answer_alike shard key flags)
      ∙ ap (λ (cell : Option ℕ). updated_where (update_answer plan shard key flags) (with_value roomy history shard key value cell) shard)
      (cell_alike shard key)
      ∙ ap (λ (updated : SequentialShard). updated_where (update_answer plan shard key flags) updated shard)
      (value_alike history shard key value (cell_of_key plan shard key))
  step_alike history shard (Delete number key) =
      ap (λ (answer : ℤ). updated_where answer (without_found shard (length history) (present_key shard key)) shard) (deleted_alike shard key)
  step_alike history shard (Reclaim number) = refl

  after_alike : (history : List Entry) → shard_after roomy history ≡ shard_after plan history
  after_alike [] = ap (λ (cells : List (List ℕ)). record { present = []; cells = cells; retired = [] }) (cells_alike plan.definition.kind)
  after_alike (entry ∷ older) =
      ap (λ (shard : SequentialShard). shard_after_call roomy older shard entry.call) (after_alike older)
      ∙ step_alike older (shard_after plan older) entry.call

-- two plans differ in their room alone
abbrev pub IsSamePlan : ShardPlan → ShardPlan → Type 0
IsSamePlan one other = other ≡ with_room one other.reserve

pub replies_alike : (one other : ShardPlan) (history : List Entry) (call : Call) → IsSamePlan one other →
    reply_of one history (shard_after one history) call ≡ reply_of other history (shard_after other history) call
replies_alike one other history call same =
    sym
    (ap (λ (plan : ShardPlan). reply_of plan history (shard_after plan history) call) same
    ∙ reply_alike one other.reserve history (shard_after (with_room one other.reserve) history) call
    ∙ ap (λ (shard : SequentialShard). reply_of one history shard call) (after_alike one other.reserve history))
